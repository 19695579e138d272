use Rattle.std.proofs.Common.{◌≡◌, ◌+◌, ◌*◌, ◌^◌, ◌<◌, ◌≤◌, length}
use Rattle.std.specs.Option.{option_and_then}
use Rattle.short_forms.specs.Durations.{amounts, sum_of, whole_micros}
use Rattle.short_forms.proofs.FixedLemmas.{left}
use Rattle.short_forms.proofs.durations.sum.Given as goal

-- the total is in range, and it and what is left of the text make the duration
abbrev pub invariant-loop-rest : goal.invariant-loop-rest
invariant-loop-rest l = record {
  whole : l.total.0 ≤ 9 * 10 ^ 15;
  upper : l.total.1.0 < 10 ^ 20;
  lower : l.total.1.1.0 < 10 ^ 19;
  sum : left (l.total.0 * 10 ^ 39 + l.total.1.0 * 10 ^ 19 + l.total.1.1.0) l.rest ≡ option_and_then whole_micros (sum_of (amounts l.text));
}

abbrev pub decreases-loop-rest : goal.decreases-loop-rest
decreases-loop-rest l = length l.rest
