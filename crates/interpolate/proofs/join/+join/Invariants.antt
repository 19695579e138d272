use Rattle.std.proofs.Common.{◌≡◌, ◌<◌, ◌≤◌, ◌+◌, ◌*◌, ◌^◌, length, IsOk}
use Rattle.std.specs.Str.{IsUtf8}
use Rattle.tree_base.specs.Entries.{value_at}
use Rattle.interpolate.specs.Heads.{IsClosed, own}
use Rattle.interpolate.specs.Parts.{parts}
use Rattle.interpolate.specs.Substitution.{text_value, appended}
use Rattle.interpolate.proofs.join.+join.Given as goal

abbrev pub decreases-join : goal.decreases-join
decreases-join l = 3 * l.levels + 2

abbrev pub decreases-join_part : goal.decreases-join_part
decreases-join_part l = 3 * l.levels + 1

abbrev pub decreases-join_form : goal.decreases-join_form
decreases-join_form l = 3 * l.levels + 3

abbrev pub decreases-join-loop-rest : goal.decreases-join-loop-rest
decreases-join-loop-rest l = length l.rest

abbrev pub invariant-join-loop-rest : goal.invariant-join-loop-rest
invariant-join-loop-rest l = record {
  utf8 : IsUtf8 l.rest;
  closed : IsClosed l.inside l.rest;
  few : l.len ≤ l.at;
  places : l.at + length l.rest < 2 ^ 64;
  fine : IsOk (parts l.levels l.at (own l.inside l.rest));
  size : l.len + length (own l.inside l.rest) ≡ length (own l.inside l.initial.rest);
  same : appended l.out (text_value (parts l.levels) (value_at l.env) l.at (own l.inside l.rest)) ≡ appended l.initial.out (text_value (parts l.levels) (value_at l.env) l.fn.at (own l.inside l.initial.rest));
}
