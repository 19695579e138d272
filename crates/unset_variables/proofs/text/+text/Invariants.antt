use Rattle.std.proofs.Common.{◌≡◌, ◌≤◌, ◌+◌, ◌-◌, ◌*◌, ℕ, length}
use Rattle.std.specs.Str.{IsUtf8}
use Rattle.interpolate.specs.Parts.{parts}
use Rattle.tree_base.specs.Entries.{value_at}
use Rattle.unset_variables.specs.Unset.{with_unset}
use Rattle.unset_variables.proofs.text.+text.Given as goal

abbrev pub decreases-put_text : goal.decreases-put_text
decreases-put_text l = 3 * l.levels + 2

abbrev pub decreases-put_part : goal.decreases-put_part
decreases-put_part l = 3 * l.levels + 1

abbrev pub decreases-put_form : goal.decreases-put_form
decreases-put_form l = 3 * l.levels + 3

abbrev pub decreases-put_text-loop-rest : goal.decreases-put_text-loop-rest
decreases-put_text-loop-rest l = length l.rest

-- what is left of the text gives the same from its own place on
abbrev pub invariant-put_text-loop-rest : goal.invariant-put_text-loop-rest
invariant-put_text-loop-rest l = record {
  utf8 : IsUtf8 l.rest;
  few : length l.rest ≤ length l.initial.rest;
  same : (at : ℕ) → with_unset (value_at l.env) l.names (parts l.levels (at + (length l.initial.rest - length l.rest)) l.rest) ≡ with_unset (value_at l.env) l.initial.names (parts l.levels at l.initial.rest);
}
