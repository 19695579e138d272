-- Services whose environments are set stay as they are.
use Rattle.std.proofs.Common.{◌≡◌, ◌∙◌, ℕ, Bool, true, false, cond, not, List, [], ◌∷◌, ◌++◌, None, Option, Some, map, fold, refl, sym, ap, inl, inr}
use Rattle.std.proofs.lemmas.Bool.{and_parts}
use Rattle.std.proofs.lemmas.List.{append_assoc, append-nil}
use Rattle.std.specs.Prelude.{◌||◌, codes, is_some}
use Rattle.std.specs.List.{AllByRecursion, list_any}
use Rattle.std.specs.Map.{keys_of}
use Rattle.std.specs.Option.{option_map_or}
use Rattle.std.specs.Str.{bytes_eq}
use Rattle.attribute_paths.proofs.Trees.{OfAll}
use Rattle.file_paths.specs.Paths.{Variables}
use Rattle.file_paths.specs.Resolving.{Entries}
use Rattle.file_paths.specs.Shapes.{entries_at, entries_in}
use Rattle.loaded_files.specs.Fields.{names_of}
use Rattle.loaded_files.specs.Reads.{◌>>=◌, Load, give}
use Rattle.loaded_files.proofs.Names.{Stands, names_stand, none_out, put_same}
use Rattle.merge_rules.specs.Laws.{are_apart}
use Rattle.laws_loading.specs.Settled.{IsSet}
use Rattle.service_environments.specs.EnvItems.{env_items}
use Rattle.service_environments.specs.Environments.{all_with_environments, files_read, has_settings, settings, settings_over, with_environment, with_environments, with_setting, with_values}
use Rattle.tree_base.specs.Entries.{value_at, with_entry, without_entry}
use Rattle.tree_base.specs.declared.Tree.{Tree, Map, Scalar, out-Tree}
use Rattle.tree_base.specs.declared.Tree.TheOpen.{Tree-F}
use Rattle.tree_base.specs.declared.tree.Tree.TheVariants.{outs-Map, outs-Scalar}

-- a variable that isn't there goes last
put_last : (values : Variables) (name text : List ℕ) → value_at values name ≡ None → with_entry values name text ≡ values ++ (name, text) ∷ []
put_last [] name text none = refl
put_last (v ∷ values) name text none = at (bytes_eq name v.0) (put_last values name text) none
  where
    at : (b : Bool) → (value_at values name ≡ None → with_entry values name text ≡ values ++ (name, text) ∷ []) → cond b (Some v.1) (value_at values name) ≡ None
        → cond b ((v.0, text) ∷ values) (v ∷ with_entry values name text) ≡ v ∷ (values ++ (name, text) ∷ [])
    at true more f = absurd (cc f)
    at false more f = ap (λ (l : Variables). v ∷ l) (more f)

-- nor is another one there then
still_none : (values : Variables) (v : List ℕ × List ℕ) (name : List ℕ) → value_at values name ≡ None → bytes_eq name v.0 ≡ false → value_at (values ++ v ∷ []) name ≡ None
still_none [] v name none other = ap (λ (b : Bool). cond b (Some v.1) None) other
still_none (w ∷ values) v name none other = at (bytes_eq name w.0) (still_none values v name) none
  where
    at : (b : Bool) → (value_at values name ≡ None → bytes_eq name v.0 ≡ false → value_at (values ++ v ∷ []) name ≡ None) → cond b (Some w.1) (value_at values name) ≡ None
        → cond b (Some w.1) (value_at (values ++ v ∷ []) name) ≡ None
    at true more f = absurd (cc f)
    at false more f = more f other

abbrev New : Variables → List ℕ × List ℕ → Type 0
New values v = value_at values v.0 ≡ None

news_on : (done : Variables) (v : List ℕ × List ℕ) (values : Variables) → not (list_any (λ other. bytes_eq other v.0) (keys_of values)) ≡ true → OfAll (New done) values → OfAll (New (done ++ v ∷ [])) values
news_on done v [] apart new = tt
news_on done v (w ∷ values) apart new = at (bytes_eq w.0 v.0) refl apart (news_on done v values)
  where
    at : (b : Bool) → bytes_eq w.0 v.0 ≡ b → not (b || list_any (λ other. bytes_eq other v.0) (keys_of values)) ≡ true
        → (not (list_any (λ other. bytes_eq other v.0) (keys_of values)) ≡ true → OfAll (New done) values → OfAll (New (done ++ v ∷ [])) values) → OfAll (New (done ++ v ∷ [])) (w ∷ values)
    at true is f more = absurd (cc f)
    at false is f more = (still_none done v w.0 new.0 is, more f new.1)

all_new : (values : Variables) → OfAll (New []) values
all_new [] = tt
all_new (v ∷ values) = (refl, all_new values)

-- values as entries of a file
abbrev shown : Variables → Entries
shown values = map (λ (entry : List ℕ × List ℕ). (entry.0, Scalar entry.1)) values

-- values over others, which are set again
module _ (env : Variables) where
  abbrev over : Variables → List ℕ × Tree → Variables
  over values entry = with_setting env values entry.0 (out-Tree entry.1)

  set_again : (values done : Variables) → are_apart (keys_of values) ≡ true → OfAll (New done) values → fold over done (shown values) ≡ done ++ values
  set_again [] done apart new = sym (append-nil done)
  set_again (v ∷ values) done apart new =
      let both = and_parts (not (list_any (λ other. bytes_eq other v.0) (keys_of values))) (are_apart (keys_of values)) apart in
      ap (λ (t : Tree-F Tree). fold over (with_setting env done v.0 t) (shown values)) (outs-Scalar v.1)
      ∙ ap (λ (l : Variables). fold over l (shown values)) (put_last done v.0 v.1 new.0)
      ∙ set_again values (done ++ v ∷ []) both.1 (news_on done v values both.0 new.1)
      ∙ append_assoc done (v ∷ []) values

module _ (env : Variables) (left : ℕ) where
  module _ (entries : Entries) (none : value_at entries (codes "env_file") ≡ None) where
    abbrev ends : Variables → Load (Entries × ℕ)
    ends values = give (with_values entries (settings_over env (entries_at (codes "environment") entries) values), left)

    no_files : with_environment env entries left ≡ ends []
    no_files =
        ap (λ (o : Option Tree). files_read env (option_map_or (λ tree. env_items (out-Tree tree)) o []) [] left >>= λ got. give (with_values entries (settings_over env (entries_at (codes "environment") entries) got.0), got.1)) none

    one_set : IsSet (value_at entries (codes "environment")) → with_environment env entries left ≡ give (entries, left)
    one_set (inl absent) =
        let unset : has_settings entries ≡ false = (λ i. is_some (none i) || is_some (absent i)) in
        let values = settings_over env (entries_at (codes "environment") entries) [] in
        no_files
        ∙ ap (λ (b : Bool). give (cond b (with_entry (without_entry entries (codes "env_file")) (codes "environment") (settings values)) entries, left)) unset
    one_set (inr h) =
        let said : has_settings entries ≡ true = (λ i. is_some (none i) || is_some (h.1 i)) in
        let found : entries_at (codes "environment") entries ≡ shown h.0 =
        ap (λ (o : Option Tree). option_map_or (λ tree. entries_in (out-Tree tree)) o []) h.1 ∙ ap (λ (t : Tree-F Tree). entries_in t) (outs-Map (shown h.0)) in
        let values : settings_over env (entries_at (codes "environment") entries) [] ≡ h.0 =
        ap (λ (es : Entries). fold (over env) [] es) found ∙ set_again env h.0 [] h.2 (all_new h.0) in
        no_files
        ∙ ap (λ (l : Variables). give (with_values entries l, left)) values
        ∙ ap (λ (b : Bool). give (cond b (with_entry (without_entry entries (codes "env_file")) (codes "environment") (settings h.0)) entries, left)) said
        ∙ ap (λ (l : Entries). give (with_entry l (codes "environment") (settings h.0), left)) (none_out entries (codes "env_file") none)
        ∙ ap (λ (l : Entries). give (l, left)) (put_same entries (codes "environment") (settings h.0) h.1)

  -- a service that is so
  abbrev pub Set : Tree → Type 0
  Set service = (entries : Entries) × (service ≡ Map entries) × (value_at entries (codes "env_file") ≡ None) × IsSet (value_at entries (codes "environment"))

  module _ (services : Entries) (are : (name : List ℕ) (service : Tree) → value_at services name ≡ Some service → Set service) where
    all_set : (names : List (List ℕ)) → AllByRecursion (Stands services) names → all_with_environments env names services left ≡ give (services, left)
    all_set [] a = refl
    all_set (name ∷ names) a =
        let is = are name a.0.0 a.0.1 in
        let at : value_at services name ≡ Some (Map is.0) = a.0.1 ∙ ap Some is.1 in
        let found : entries_at name services ≡ is.0 = ap (λ (o : Option Tree). option_map_or (λ tree. entries_in (out-Tree tree)) o []) at ∙ ap (λ (t : Tree-F Tree). entries_in t) (outs-Map is.0) in
        ap (λ (es : Entries). with_environment env es left >>= λ got. all_with_environments env names (with_entry services name (Map got.0)) got.1) found
        ∙ ap (λ (l : Load (Entries × ℕ)). l >>= λ got. all_with_environments env names (with_entry services name (Map got.0)) got.1) (one_set is.0 is.2 is.3)
        ∙ ap (λ (all : Entries). all_with_environments env names all left) (put_same services name (Map is.0) at)
        ∙ all_set names a.1

    pub services_stand : with_environments env services left ≡ give (services, left)
    services_stand = all_set (names_of services) (names_stand services)
