-- Which services are among the active ones.
use Rattle.std.proofs.Common.{◌≡◌, ◌∙◌, ℕ, Bool, true, false, cond, List, [], ◌∷◌, None, Some, filter, map, refl, ap, sym, subst}
use Rattle.std.specs.Prelude.{is_some}
use Rattle.std.specs.List.{AllByRecursion}
use Rattle.std.specs.Map.{keys_of}
use Rattle.std.specs.Option.{option_map_or}
use Rattle.std.specs.Str.{bytes_eq}
use Rattle.std.proofs.lemmas.Map.Keys.{IsDistinct-head, IsDistinct-tail}
use Rattle.std.proofs.lemmas.Slice.Eq.{bytes_eq-Decides}
use Rattle.active_services.specs.Laws.{EnabledServicesAreKept}
use Rattle.active_services.specs.Profiles.{Entries, is_enabled, service_kept}
use Rattle.active_services.proofs.Keeping.{absent, kept}
use Rattle.active_services.proofs.Models.{active_cases}
use Rattle.tree_base.specs.Entries.{HasDistinctKeys, value_at}
use Rattle.tree_base.specs.declared.tree.Tree.{Tree, out-Tree}

-- a key that stands apart from all isn't among them
none_at : (entries : Entries) (key : List ℕ) → AllByRecursion (λ k. bytes_eq key k ≡ false) (keys_of entries) → value_at entries key ≡ None
none_at [] key h = refl
none_at (e ∷ entries) key h = ap (λ b. cond b (Some e.1) (value_at entries key)) h.0 ∙ none_at entries key h.1

module _ (enabled : Tree → Bool) (of : List ℕ × Tree → Tree) where
  abbrev those : Entries → Entries
  those services = kept (λ (s : List ℕ × Tree). enabled s.1) of services

  abbrev Kept : Entries → List ℕ → Type 0
  Kept services name = is_some (value_at (those services) name) ≡ option_map_or enabled (value_at services name) false

  kept_value : (services : Entries) → HasDistinctKeys services → (name : List ℕ) → Kept services name
  kept_value [] distinct name = refl
  kept_value (e ∷ services) distinct name = by (bytes_eq name e.0) (enabled e.1) refl refl (kept_value services (IsDistinct-tail bytes_eq e.0 (keys_of services) distinct) name)
    where
      gone : bytes_eq name e.0 ≡ true → value_at (those services) name ≡ None
      gone same =
          let is : name ≡ e.0 = (bytes_eq-Decides name e.0).0 same in
          absent (λ (s : List ℕ × Tree). enabled s.1) of services name (subst (λ (k : List ℕ). value_at services k ≡ None) (sym is) (none_at services e.0 (IsDistinct-head bytes_eq e.0 (keys_of services) distinct)))

      by : (same it : Bool) → bytes_eq name e.0 ≡ same → enabled e.1 ≡ it → Kept services name
          → is_some (value_at (map (λ (s : List ℕ × Tree). (s.0, of s)) (cond it (e ∷ filter (λ (s : List ℕ × Tree). enabled s.1) services) (filter (λ (s : List ℕ × Tree). enabled s.1) services))) name)
          ≡ option_map_or enabled (cond same (Some e.1) (value_at services name)) false
      by true true same it rest = rw (same, it) refl
      by true false same it rest = ap is_some (gone same) ∙ sym it
      by false true same it rest = rw same rest
      by false false same it rest = rest

pub which_kept : EnabledServicesAreKept
which_kept profiles tree found distinct is name =
    let enabled = is_enabled profiles in
    active_cases enabled tree found (λ own kept. is_some (value_at kept name) ≡ option_map_or enabled (value_at own name) false) refl
    (λ services those_are. kept_value enabled (λ s. service_kept enabled services s.1 (out-Tree s.1)) services (subst HasDistinctKeys those_are distinct) name) is
