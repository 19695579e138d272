-- Services that say nothing of their environments stay as they are.
use Rattle.std.proofs.Common.{◌≡◌, ◌∙◌, ℕ, Bool, false, cond, List, [], ◌∷◌, None, Option, Some, refl, ap}
use Rattle.std.specs.Prelude.{◌||◌, codes, is_some}
use Rattle.std.specs.List.{AllByRecursion}
use Rattle.std.specs.Option.{option_map_or}
use Rattle.file_paths.specs.Paths.{Variables}
use Rattle.file_paths.specs.Resolving.{Entries}
use Rattle.file_paths.specs.Shapes.{entries_at, entries_in}
use Rattle.loaded_files.specs.Fields.{names_of}
use Rattle.loaded_files.specs.Reads.{◌>>=◌, Load, give}
use Rattle.loaded_files.proofs.Names.{Stands, names_stand, put_same}
use Rattle.service_environments.specs.EnvItems.{env_items}
use Rattle.service_environments.specs.Environments.{all_with_environments, files_read, has_settings, settings, settings_over, with_environment, with_environments, with_values}
use Rattle.tree_base.specs.Entries.{value_at, with_entry, without_entry}
use Rattle.tree_base.specs.declared.Tree.{Tree, Map, out-Tree}
use Rattle.tree_base.specs.declared.Tree.TheOpen.{Tree-F}
use Rattle.tree_base.specs.declared.tree.Tree.TheVariants.{outs-Map}

-- a service that says nothing of its environment
abbrev pub Unsaid : Tree → Type 0
Unsaid service =
    (entries : Entries) × (service ≡ Map entries) × (value_at entries (codes "env_file") ≡ None) × (value_at entries (codes "environment") ≡ None)

module _ (env : Variables) (left : ℕ) where
  module _ (entries : Entries) (none : value_at entries (codes "env_file") ≡ None) (no : value_at entries (codes "environment") ≡ None) where
    abbrev over : Variables → Entries
    over values = with_values entries (settings_over env (entries_at (codes "environment") entries) values)

    unset : has_settings entries ≡ false
    unset = λ i. is_some (none i) || is_some (no i)

    stays : (values : Variables) → with_values entries values ≡ entries
    stays values = ap (λ (b : Bool). cond b (with_entry (without_entry entries (codes "env_file")) (codes "environment") (settings values)) entries) unset

    unsaid : with_environment env entries left ≡ give (entries, left)
    unsaid =
        ap (λ (o : Option Tree). files_read env (option_map_or (λ tree. env_items (out-Tree tree)) o []) [] left >>= λ got. give (over got.0, got.1)) none
        ∙ ap (λ (whole : Entries). give (whole, left)) (stays (settings_over env (entries_at (codes "environment") entries) []))

  module _ (services : Entries) (are : (name : List ℕ) (service : Tree) → value_at services name ≡ Some service → Unsaid service) where
    all_unsaid : (names : List (List ℕ)) → AllByRecursion (Stands services) names → all_with_environments env names services left ≡ give (services, left)
    all_unsaid [] a = refl
    all_unsaid (name ∷ names) a =
        let is = are name a.0.0 a.0.1 in
        let at : value_at services name ≡ Some (Map is.0) = a.0.1 ∙ ap Some is.1 in
        let found : entries_at name services ≡ is.0 = ap (λ (o : Option Tree). option_map_or (λ tree. entries_in (out-Tree tree)) o []) at ∙ ap (λ (t : Tree-F Tree). entries_in t) (outs-Map is.0) in
        ap (λ (es : Entries). with_environment env es left >>= λ got. all_with_environments env names (with_entry services name (Map got.0)) got.1) found
        ∙ ap (λ (l : Load (Entries × ℕ)). l >>= λ got. all_with_environments env names (with_entry services name (Map got.0)) got.1) (unsaid is.0 is.2 is.3)
        ∙ ap (λ (all : Entries). all_with_environments env names all left) (put_same services name (Map is.0) at)
        ∙ all_unsaid names a.1

    pub services_stand : with_environments env services left ≡ give (services, left)
    services_stand = all_unsaid (names_of services) (names_stand services)
