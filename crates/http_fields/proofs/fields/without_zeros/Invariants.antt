use Rattle.std.proofs.Common.{◌≡◌, length}
use Rattle.http_fields.specs.Digits.{stripped}
use Rattle.http_fields.proofs.fields.without_zeros.Given as goal

abbrev pub invariant-loop-rest : goal.invariant-loop-rest
invariant-loop-rest l = stripped l.rest ≡ stripped l.fn.digits

abbrev pub decreases-loop-rest : goal.decreases-loop-rest
decreases-loop-rest l = length l.rest
