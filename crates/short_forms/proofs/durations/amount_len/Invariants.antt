use Rattle.std.proofs.Common.{◌≡◌, take, drop}
use Rattle.short_forms.specs.Cuts.{in_front}
use Rattle.short_forms.specs.Durations.{amounts}
use Rattle.short_forms.proofs.durations.amount_len.Given as goal

-- the bytes so far stand in front of the first amount of the rest
abbrev pub invariant-loop-last : goal.invariant-loop-last
invariant-loop-last l = amounts l.text ≡ in_front (take l.last l.text) (amounts (drop l.last l.text))
