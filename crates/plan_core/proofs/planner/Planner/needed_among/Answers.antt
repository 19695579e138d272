-- A place more is looked at.
use Rattle.std.proofs.Common.{◌∙◌, ◌++◌, ◌∷◌, ℕ, List, [], cond, get_or, sym, ap}
use Rattle.plan_core.specs.Finding.{is_needed_at}
use Rattle.plan_core.proofs.Loops.{get_or_same, passed_more}
use Rattle.plan_core.proofs.planner.Planner.needed_among.Goals as goal

pub loop-place-preserved : goal.loop-place-preserved
loop-place-preserved c =
    let places = c.args.places.now in
    let i = c.loop-place.place-index in
    let place = get_or places i 0 in
    let needed = c.in_ok-is_needed.is_needed in
    let passed = passed_more places i place c.loop-place-test.true (get_or_same places i 0 place c.loop-place-test.true)
    (is_needed_at c.args.self.now c.args.kinds.now c.args.kind) needed (sym c.in_ok-is_needed.ensures) in
    c.in_ok-push_if.ensures ∙ ap (λ (needs : List ℕ). needs ++ cond needed (place ∷ []) []) c.loop-place.invariant ∙ sym passed
