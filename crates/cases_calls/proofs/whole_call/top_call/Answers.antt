use Rattle.std.proofs.Common.{◌≡◌, ◌∙◌, sym, Some, arith}
use Rattle.cases_calls.proofs.whole_call.top_call.Goals as goal

pub serial_main-requires-clause-told : goal.serial_main-requires-clause-told
serial_main-requires-clause-told c = λ n e.
    let same : Some c.args.dialled ≡ Some n = sym c.requires.told ∙ e in
    let value : c.args.dialled ≡ n = cc in
    omega (arith, c.requires.below)
