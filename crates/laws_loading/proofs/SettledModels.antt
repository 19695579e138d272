-- A settled model stays as its files gave it.
use Rattle.std.proofs.Common.{◌≡◌, ◌∙◌, ℕ, List, [], Option, Result, Ok, sym, ap, inl, inr}
use Rattle.std.specs.Prelude.{codes}
use Rattle.std.specs.Option.{option_and_then, option_map_or}
use Rattle.file_paths.specs.Paths.{Variables}
use Rattle.file_paths.specs.Resolving.{Entries}
use Rattle.include_extends.specs.Includes.{Models, first_or, include_items, items_in, items_included, model, own_model, with_includes, without_include}
use Rattle.include_extends.specs.Merged.{merged_model}
use Rattle.include_extends.specs.Services.{mapping_of, services_loaded, services_under, tree_loaded, with_services}
use Rattle.include_extends.specs.declared.model.Model.{Model}
use Rattle.loaded_files.specs.Reads.{◌>>=◌, Load, after, give, loaded_from}
use Rattle.loaded_files.specs.Refusing.{of_merge}
use Rattle.loaded_files.proofs.Names.{none_out, put_same}
use Rattle.loaded_files.proofs.Runs.{loaded_on}
use Rattle.merge_tables.specs.Answers.{within}
use Rattle.merge_tables.specs.declared.refusal.MergeRefusal.{MergeRefusal}
use Rattle.service_bases.proofs.Standing as bases
use Rattle.service_environments.specs.Environments.{with_environments}
use Rattle.laws_loading.proofs.Settings as environments
use Rattle.laws_loading.specs.Settled.{AreSettled, AreSettledServices, IsSettled, SettledModelsAreTheirFiles}
use Rattle.tree_base.specs.Entries.{value_at, with_entry}
use Rattle.tree_base.specs.declared.Tree.{Tree, Map, out-Tree}
use Rattle.tree_base.specs.declared.Tree.TheOpen.{Tree-F}
use Rattle.tree_base.specs.declared.tree.Tree.TheVariants.{outs-Map, outs-Null}

module _ (env : Variables) (file : List ℕ) where
  -- settled services stay
  services_stay : (services : Entries) (left : ℕ) → AreSettledServices services → services_loaded env file services left ≡ give (services, left)
  services_stay services left are =
      ap (λ (l : Load (Entries × ℕ)). l >>= λ got. with_environments env got.0 got.1)
      (bases.services_stand env file services left (λ name service at. let is = are name service at in (is.0, is.1, is.2)))
      ∙ environments.services_stand env left services (λ name service at. let is = are name service at in (is.0, is.1, is.3, is.4))

  -- and the elements that have them
  module _ (top : Entries) (left : ℕ) where
    abbrev under : Option Tree → Load (Entries × ℕ)
    under found = services_under env file top left (option_and_then (λ tree. mapping_of (out-Tree tree)) found)

    elements_stay : AreSettled (value_at top (codes "services")) → under (value_at top (codes "services")) ≡ give (top, left)
    elements_stay (inl none) = ap under none
    elements_stay (inr (inl null)) = ap under null ∙ ap (λ (t : Tree-F Tree). services_under env file top left (mapping_of t)) outs-Null
    elements_stay (inr (inr h)) =
        ap under h.1 ∙ ap (λ (t : Tree-F Tree). services_under env file top left (mapping_of t)) (outs-Map h.0)
        ∙ ap (λ (l : Load (Entries × ℕ)). l >>= λ got. give (with_entry top (codes "services") (Map got.0), got.1)) (services_stay h.0 left h.2)
        ∙ ap (λ (all : Entries). give (all, left)) (put_same top (codes "services") (Map h.0) h.1)

  -- and their tree, where it is within the limits
  tree_stays : (tree : Tree) (left : ℕ) → IsSettled tree → within tree ≡ Ok tree → tree_loaded env file tree left (out-Tree tree) ≡ give (tree, left)
  tree_stays tree left (inl null) w = ap (λ (t : Tree). tree_loaded env file tree left (out-Tree t)) null ∙ ap (tree_loaded env file tree left) outs-Null
  tree_stays tree left (inr h) w =
      ap (λ (t : Tree). tree_loaded env file tree left (out-Tree t)) h.1 ∙ ap (tree_loaded env file tree left) (outs-Map h.0)
      ∙ ap (λ (l : Load (Entries × ℕ)). l >>= λ got. after (of_merge file (within (Map got.0))) (λ tree. give (tree, got.1))) (elements_stay h.0 left h.3)
      ∙ ap (λ (t : Tree). after (of_merge file (within t)) (λ tree. give (tree, left))) (sym h.1)
      ∙ ap (λ (r : Result Tree MergeRefusal). after (of_merge file r) (λ tree. give (tree, left))) w

-- what such a tree includes, and what is left of it without that
nothing_included : (tree : Tree) → IsSettled tree → include_items (out-Tree tree) ≡ []
nothing_included tree (inl null) = ap (λ (t : Tree). include_items (out-Tree t)) null ∙ ap include_items outs-Null
nothing_included tree (inr h) =
    ap (λ (t : Tree). include_items (out-Tree t)) h.1 ∙ ap include_items (outs-Map h.0)
    ∙ ap (λ (o : Option Tree). option_map_or (λ tree. items_in (out-Tree tree)) o []) h.2

all_left : (tree : Tree) → IsSettled tree → without_include tree (out-Tree tree) ≡ tree
all_left tree (inl null) = ap (λ (t : Tree). without_include tree (out-Tree t)) null ∙ ap (without_include tree) outs-Null
all_left tree (inr h) =
    ap (λ (t : Tree). without_include tree (out-Tree t)) h.1 ∙ ap (without_include tree) (outs-Map h.0)
    ∙ ap Map (none_out h.0 (codes "include") h.2) ∙ sym h.1

module _ (own : Model) (is : IsSettled own.tree) where
  model_stays : (file : List ℕ) → within own.tree ≡ Ok own.tree → with_services file own ≡ give own
  model_stays file w = ap (λ (l : Load (Tree × ℕ)). l >>= λ got. give (record { tree = got.0; env = own.env; left = got.1 })) (tree_stays own.env file own.tree own.left is w)

  includes_nothing : (models : Models) (directory : List ℕ) (begun : List (List ℕ)) → with_includes models directory begun own ≡ give own
  includes_nothing models directory begun =
      λ i. items_included models directory own.env begun (nothing_included own.tree is i) (all_left own.tree is i) own.left >>= λ got. give (record { tree = got.0; env = own.env; left = got.1 })

pub settled_models : SettledModelsAreTheirFiles
settled_models files levels places caller begun found left own h is w =
    let file = first_or places.directory places.files in
    let merged = merged_model places.files places.directory places.env_files caller found left in
    let owned : loaded_from files (own_model places caller found left) ≡ Ok own =
    loaded_on files merged (with_services file) own h ∙ ap (loaded_from files) (model_stays own is file w) in
    loaded_on files (own_model places caller found left) (with_includes (model levels) places.directory begun) own owned
    ∙ ap (loaded_from files) (includes_nothing own is (model levels) places.directory begun)
