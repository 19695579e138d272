-- What the steps of a model's services give, by what their reads gave.
use Rattle.std.proofs.Common.{◌≡◌, ◌∙◌, ℕ, List, None, Option, Some, Result, Ok, Err, refl, sym, ap, subst}
use Rattle.std.specs.Prelude.{codes}
use Rattle.file_paths.specs.Paths.{Variables}
use Rattle.file_paths.specs.Resolving.{Entries}
use Rattle.include_extends.specs.Services.{bounded, elements_loaded, services_loaded, services_of, services_under, tree_loaded, with_services}
use Rattle.include_extends.specs.declared.model.Model.{Model}
use Rattle.loaded_files.specs.Reads.{◌>>=◌, Gives, IsGiven, Load, after, give}
use Rattle.loaded_files.specs.declared.refusal.LoadRefusal.{LoadRefusal}
use Rattle.loaded_files.proofs.Runs.{given_on, given_out, gives_on, gives_out}
use Rattle.outside_files.specs.Files.{Contents}
use Rattle.service_bases.specs.Extending.{services_extended}
use Rattle.service_environments.specs.Environments.{with_environments}
use Rattle.tree_base.specs.Entries.{with_entry}
use Rattle.tree_base.specs.declared.Tree.{Tree, Map, out-Tree}
use Rattle.tree_base.specs.declared.Tree.TheOpen.{Tree-F}
use Rattle.tree_base.specs.declared.tree.Tree.TheVariants.{outs-Map}

module _ (told : Option Contents) where
  -- services over all that they extend, and then with their environments
  module _ (env : Variables) (file : List ℕ) (services : Entries) (left : ℕ) where
    abbrev then_environments : Entries × ℕ → Load (Entries × ℕ)
    then_environments got = with_environments env got.0 got.1

    pub not_extended : (e : LoadRefusal) → Gives {X = Entries × ℕ} told (Err e) (services_extended env file services left) → Gives {X = Entries × ℕ} told (Err e) (services_loaded env file services left)
    not_extended e h = gives_out told (services_extended env file services left) then_environments e h

    pub are_extended : (all : Entries) (rest : ℕ) (r : Result (Entries × ℕ) LoadRefusal) → Gives told (Ok (all, rest)) (services_extended env file services left) → Gives told r (with_environments env all rest)
        → Gives told r (services_loaded env file services left)
    are_extended all rest r h k = gives_on told (services_extended env file services left) then_environments (all, rest) r h k

  -- elements with their services loaded
  module _ (env : Variables) (file : List ℕ) (top : Entries) (left : ℕ) where
    abbrev pub at_services : Option Entries
    at_services = services_of top

    abbrev put : Entries × ℕ → Load (Entries × ℕ)
    put got = give (with_entry top (codes "services") (Map got.0), got.1)

    by_services : (services : Entries) (r : Result (Entries × ℕ) LoadRefusal) → at_services ≡ Some services → Gives told r (services_loaded env file services left >>= put) → Gives told r (services_under env file top left at_services)
    by_services services r e h = subst (λ (o : Option Entries). Gives told r (services_under env file top left o)) (sym e) h

    pub services_refused : (services : Entries) (e : LoadRefusal) → at_services ≡ Some services → Gives {X = Entries × ℕ} told (Err e) (services_loaded env file services left)
        → Gives {X = Entries × ℕ} told (Err e) (services_under env file top left at_services)
    services_refused services e s h = by_services services (Err e) s (gives_out told (services_loaded env file services left) put e h)

    pub services_there : (services all whole : Entries) (rest : ℕ) → at_services ≡ Some services → Gives told (Ok (all, rest)) (services_loaded env file services left) → whole ≡ with_entry top (codes "services") (Map all)
        → Gives told (Ok (whole, rest)) (services_under env file top left at_services)
    services_there services all whole rest s h e =
        by_services services (Ok (whole, rest)) s (gives_on told (services_loaded env file services left) put (all, rest) (Ok (whole, rest)) h (λ n. ap (λ (w : Entries). Ok (w, rest)) e))

    -- elements that have no services stay
    pub no_services : at_services ≡ None → Gives told (Ok (top, left)) (services_under env file top left at_services)
    no_services e = subst (λ (o : Option Entries). Gives told (Ok (top, left)) (services_under env file top left o)) (sym e) (λ n. refl)

    -- and within the limits
    abbrev as_tree : ℕ → Tree → Load (Tree × ℕ)
    as_tree rest tree = give (tree, rest)

    abbrev then_bounded : Entries × ℕ → Load (Tree × ℕ)
    then_bounded got = after (bounded file (Map got.0)) (as_tree got.1)

    pub elements_refused : (e : LoadRefusal) → Gives {X = Entries × ℕ} told (Err e) (services_under env file top left at_services) → Gives {X = Tree × ℕ} told (Err e) (elements_loaded env file top left)
    elements_refused e h = gives_out told (services_under env file top left at_services) then_bounded e h

    module _ (all : Entries) (rest : ℕ) (h : Gives told (Ok (all, rest)) (services_under env file top left at_services)) where
      pub past_limits : (e : LoadRefusal) → IsGiven {X = Tree} (Err e) (bounded file (Map all)) → Gives {X = Tree × ℕ} told (Err e) (elements_loaded env file top left)
      past_limits e k = gives_on told (services_under env file top left at_services) then_bounded (all, rest) (Err e) h (given_out told (bounded file (Map all)) (as_tree rest) e k)

      pub within_limits : (tree : Tree) → IsGiven (Ok tree) (bounded file (Map all)) → Gives told (Ok (tree, rest)) (elements_loaded env file top left)
      within_limits tree k =
          gives_on told (services_under env file top left at_services) then_bounded (all, rest) (Ok (tree, rest)) h
          (given_on told (bounded file (Map all)) (as_tree rest) tree (Ok (tree, rest)) k (λ n. refl))

  -- a mapping has its services loaded
  pub map_loaded : (env : Variables) (file : List ℕ) (tree : Tree) (left : ℕ) (top : Entries) (r : Result (Tree × ℕ) LoadRefusal) → tree ≡ Map top → Gives told r (elements_loaded env file top left)
      → Gives told r (tree_loaded env file tree left (out-Tree tree))
  map_loaded env file tree left top r is h = subst (λ (t : Tree-F Tree). Gives told r (tree_loaded env file tree left t)) (sym (ap out-Tree is ∙ outs-Map top)) h

  -- a model with its services loaded
  module _ (file : List ℕ) (own : Model) where
    abbrev pub own_tree : Load (Tree × ℕ)
    own_tree = tree_loaded own.env file own.tree own.left (out-Tree own.tree)

    abbrev as_model : Tree × ℕ → Load Model
    as_model got = give (record { tree = got.0; env = own.env; left = got.1 })

    pub tree_refused : (e : LoadRefusal) → Gives {X = Tree × ℕ} told (Err e) own_tree → Gives {X = Model} told (Err e) (with_services file own)
    tree_refused e h = gives_out told own_tree as_model e h

    pub tree_there : (tree : Tree) (rest : ℕ) → Gives told (Ok (tree, rest)) own_tree → Gives told (Ok (record { tree = tree; env = own.env; left = rest })) (with_services file own)
    tree_there tree rest h = gives_on told own_tree as_model (tree, rest) (Ok (record { tree = tree; env = own.env; left = rest })) h (λ n. refl)
