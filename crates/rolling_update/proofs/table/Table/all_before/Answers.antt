-- A slot more.
use Rattle.std.proofs.Common.{[], get_or}
use Rattle.plan_core.proofs.Loops.{get_or_same}
use Rattle.rolling_update.specs.Needs.{starts_before}
use Rattle.rolling_update.proofs.Turns.{joined_turn}
use Rattle.rolling_update.proofs.table.Table.all_before.Goals as goal

pub loop-number-preserved : goal.loop-number-preserved
loop-number-preserved c =
    let numbers = c.args.numbers.now in
    let i = c.loop-number.number-index in
    let number = get_or numbers i 0 in
    joined_turn numbers i number c.loop-number-test.true (get_or_same numbers i 0 number c.loop-number-test.true) (starts_before c.args.self.now)
    [] c.loop-number.added.items _ c.loop-number.invariant c.in_ok-push_before.ensures
