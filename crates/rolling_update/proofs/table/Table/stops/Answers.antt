-- What is found under the slot's text.
use Rattle.std.proofs.Common.{◌≡◌, ◌∙◌, Bool, List, false, ap, slice_get, subst, sym, unwrap_or}
use Rattle.std.specs.Prelude.{IfOk, filter}
use Rattle.engine_types.specs.declared.ActionKind.TheVariants.{StartSlot}
use Rattle.plan_core.proofs.Loops.{flag_of}
use Rattle.run_model.specs.Rolling.{is_rolled}
use Rattle.rolling_update.specs.Needs.{AreAdded, Given, rolling, stops_at}
use Rattle.rolling_update.proofs.Added.{by_stops}
use Rattle.rolling_update.proofs.Found.{stops_found}
use Rattle.rolling_update.proofs.table.Table.stops.Goals as goal

pub returns : goal.returns
returns c =
    let given : Given = c.self.inside.finder in
    subst (λ (g : Given). IfOk c.stops_among.result (λ stops. AreAdded g (StartSlot c.args.number) stops.items)) c.self.view_is
    (by_stops given c.args.number c.in-Some.slot.now c.stops_among.result c.steps_under.result.now (sym c.in-Some.ensures)
    (sym (c.flag_at.ensures ∙ ap (λ (flags : List Bool). unwrap_or (slice_get flags c.args.number) false) (c.as_slice.ensures.value ∙ c.self.invariant.0)
    ∙ flag_of (is_rolled (rolling given.scene)) given.scene.declared.slots c.args.number) ∙ c.if-not-flag_at.false)
    (ap (filter (stops_at given c.in-Some.slot.now)) c.steps_under.ensures ∙ stops_found given c.args.number c.in-Some.slot.now (sym c.in-Some.ensures))
    (subst (λ (g : Given). IfOk c.stops_among.result (λ stops. stops.items ≡ filter (stops_at g c.in-Some.slot.now) c.steps_under.result.now)) (sym c.self.view_is) c.stops_among.ensures))
