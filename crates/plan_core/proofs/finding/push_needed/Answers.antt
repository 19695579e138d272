-- A need more.
use Rattle.std.proofs.Common.{false, get_or}
use Rattle.engine_types.specs.declared.Condition.{Condition}
use Rattle.engine_types.specs.declared.Need.{Need}
use Rattle.plan_core.specs.Finding.{slot_name_at}
use Rattle.plan_core.proofs.Index.{texts_turn}
use Rattle.plan_core.proofs.Loops.{get_or_same}
use Rattle.plan_core.proofs.finding.push_needed.Goals as goal

-- what stands for a need that isn't there
abbrev no_need : Need
no_need = record { slot = 0; condition = Condition.Started; required = false; restart = false }

pub loop-need-preserved : goal.loop-need-preserved
loop-need-preserved c =
    let needs = c.args.needs.now in
    let i = c.loop-need.need-index in
    let need = get_or needs i no_need in
    let name = slot_name_at c.args.declared.now in
    texts_turn (λ (n : Need). name n.slot) needs i need c.loop-need-test.true (get_or_same needs i no_need need c.loop-need-test.true)
    c.args.texts.now.items c.loop-need.texts.items _ c.slot_name_at.result c.loop-need.invariant c.in_ok-push.ensures.items c.slot_name_at.ensures
