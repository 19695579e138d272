use Rattle.std.proofs.Common.{◌≡◌, ◌<◌, ◌≤◌, ◌+◌, ◌*◌, ◌^◌, length}
use Rattle.std.specs.Str.{IsUtf8}
use Rattle.interpolate.specs.Heads.{IsClosed, own}
use Rattle.interpolate.specs.Parts.{parts, well_formed}
use Rattle.interpolate.proofs.check.+check.Given as goal

abbrev pub decreases-check : goal.decreases-check
decreases-check l = 2 * l.levels + 1

abbrev pub decreases-check_part : goal.decreases-check_part
decreases-check_part l = 2 * l.levels

abbrev pub decreases-check-loop-rest : goal.decreases-check-loop-rest
decreases-check-loop-rest l = length l.rest

abbrev pub invariant-check-loop-rest : goal.invariant-check-loop-rest
invariant-check-loop-rest l = record {
  utf8 : IsUtf8 l.rest;
  closed : IsClosed l.inside l.rest;
  few : l.len ≤ l.at;
  places : l.at + length l.rest < 2 ^ 64;
  size : l.len + length (own l.inside l.rest) ≡ length (own l.inside l.initial.rest);
  same : well_formed (parts l.levels l.at (own l.inside l.rest)) ≡ well_formed (parts l.levels l.fn.at (own l.inside l.initial.rest));
}
