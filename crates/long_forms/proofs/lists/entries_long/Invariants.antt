use Rattle.std.proofs.Common.{◌≡◌, [], drop}
use Rattle.long_forms.specs.LongForms.{entries_from, made_by}
use Rattle.long_forms.proofs.lists.entries_long.Given as goal

-- the items that are left make of what is done what all make
abbrev pub invariant-loop-at : goal.invariant-loop-at
invariant-loop-at l = entries_from (made_by l.form) l.at l.done (drop l.at l.items) ≡ entries_from (made_by l.form) 0 [] l.items
