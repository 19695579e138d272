use Rattle.std.proofs.Common.{sym, lit≤, arith}
use Rattle.short_forms.proofs.DigitLemmas.{padded_small, within_limit}
use Rattle.short_forms.proofs.decimals.from_runs.Goals as goal

pub overflow_add-sum : goal.overflow_add-sum
overflow_add-sum c =
    let whole = within_limit 9000000000 c.args.whole.now c.in_ok-whole.whole c.requires.whole (sym c.in_ok-whole.ensures) in
    let part = padded_small c.args.fraction.now 9 c.requires.fraction (omega arith) (lit≤ tt) in
    rw (c.from.ensures, c.from-2.ensures, c.padded.ensures) (omega (arith, whole.0, whole.1, part))
