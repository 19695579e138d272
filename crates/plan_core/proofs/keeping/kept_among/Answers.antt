-- A place more is looked at.
use Rattle.std.proofs.Common.{◌∙◌, refl, sym, arith}
use Rattle.plan_core.specs.Keeping.{agrees_at}
use Rattle.plan_core.specs.Rows.{id_at}
use Rattle.plan_core.proofs.SlotRows.{better}
use Rattle.plan_core.proofs.keeping.kept_among.Goals as goal

pub loop-at-preserved-in-Some : goal.loop-at-preserved-in-Some
loop-at-preserved-in-Some c =
    let within = c.loop-at.invariant.1 in
    let some = c.loop-at-test.true in (
      better (id_at c.args.seen.now.containers) (agrees_at c.args.declared.now c.args.seen.now c.args.slot.now) c.args.places.now c.loop-at.at _ c.in-Some.other c.lesser.result
          c.loop-at.best within some refl (sym c.in_ok-agrees_at.ensures ∙ c.if-branch.true) c.loop-at.invariant.0 c.in-Some.is c.lesser.ensures,
      omega (arith, within),
    )
