-- The places are listed as they were found.
use Rattle.std.proofs.Common.{◌≡◌, ℕ, List, Option, IfOk, subst}
use Rattle.run_model.specs.Plans.{AreKeptPlaces, Basis}
use Rattle.plan_core.proofs.SlotRows.{places_kept}
use Rattle.plan_core.proofs.planner.Planner.kept_places.Goals as goal

pub returns : goal.returns
returns c =
    let fields = c.self.inside in
    subst (λ (b : Basis). IfOk c.copied.result (λ kept. AreKeptPlaces b.declared b.seen kept)) c.self.view_is
    (places_kept fields.declared.now fields.seen.now c.copied.result fields.found.kept.items c.self.invariant.0
    (subst (λ (places : List (Option ℕ)). IfOk c.copied.result (λ list. list ≡ places)) c.as_slice.ensures.value c.copied.ensures))
