-- Labels that name a slot have its text.
use Rattle.std.proofs.Common.{◌≡◌, ℕ, ◌+◌, true, List, [], ◌∷◌, map, Option, Some, None, unwrap_or, refl, sym, ap, ◌∙◌}
use Rattle.std.specs.Prelude.{decimal}
use Rattle.std.specs.Str.{bytes_eq}
use Rattle.std.proofs.lemmas.Slice.Eq.{bytes_eq-Decides}
use Rattle.engine_types.specs.Labels.{label, number_label}
use Rattle.engine_types.specs.declared.Declared.{Declared}
use Rattle.engine_types.specs.declared.Listed.{Listed}
use Rattle.engine_types.specs.declared.Seen.{Seen}
use Rattle.engine_types.specs.declared.Slot.{Slot}
use Rattle.tree_base.specs.declared.place.Var.{Var}
use Rattle.run_model.specs.EngineRules.{has_label}
use Rattle.run_model.specs.Labels.{agrees, names_service, names_slot}
use Rattle.run_model.specs.Plans.{agrees_seen, seen_image}
use Rattle.run_model.proofs.PlanLaws.{both, some_from}
use Rattle.plan_core.specs.Finding.{joined, number_named, service_named, slot_text}
use Rattle.plan_core.specs.Index.{places_under}
use Rattle.plan_core.proofs.OrderlyPlans.{service_is}

-- labels that name a number name this one
pub number_is : (number : List ℕ) (labels : List Var) → has_label labels number_label number ≡ true → number_named labels ≡ number
number_is number labels e =
    let r = some_from (bytes_eq number) (label labels number_label) e in
    ap (λ (o : Option (List ℕ)). unwrap_or o []) r.1 ∙ sym ((bytes_eq-Decides number r.0).0 r.2)

-- labels that name a slot have its text
pub named_text : (slot : Slot) (labels : List Var) → names_slot slot labels ≡ true → joined (service_named labels) (number_named labels) ≡ slot_text slot
named_text slot labels e =
    let parts = both (names_service slot.service labels) _ e in
    ap (λ (service : List ℕ). joined service (number_named labels)) (service_is slot.service labels parts.0)
    ∙ ap (joined slot.service) (number_is (decimal slot.number) labels parts.1)

-- a container that agrees with a slot names it
pub agrees_slot : (declared : Declared) (seen : Seen) (slot : Slot) (row : Listed) → agrees_seen declared seen slot row ≡ true → names_slot slot row.labels ≡ true
agrees_slot declared seen slot row e = at (seen_image seen slot) e
  where
    at : (o : Option (List ℕ)) → agrees declared.project slot o row.labels row.image_id row.state ≡ true → names_slot slot row.labels ≡ true
    at None h = absurd (cc h)
    at (Some image) h = (both _ _ (both _ _ (both _ _ (both _ _ h).0).0).0).1

-- places under texts that were made of the elements
pub under_mapped : {X : Type 0} (f : X → List ℕ) (i : ℕ) (xs : List X)
    → places_under (λ (text : List ℕ). text ∷ []) i (map f xs) ≡ places_under (λ (x : X). f x ∷ []) i xs
under_mapped f i [] = refl
under_mapped f i (x ∷ xs) = ap (λ (entries : List (List ℕ × ℕ)). (f x, i) ∷ entries) (under_mapped f (i + 1) xs)
