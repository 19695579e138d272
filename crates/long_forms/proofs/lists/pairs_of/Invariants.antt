use Rattle.std.proofs.Common.{◌≡◌, [], drop}
use Rattle.long_forms.specs.LongForms.{cut_by, pairs_from}
use Rattle.long_forms.proofs.lists.pairs_of.Given as goal

-- the items that are left make of the entries what all make of none
abbrev pub invariant-loop-item : goal.invariant-loop-item
invariant-loop-item l = pairs_from (cut_by l.form) (drop l.item-index l.items) l.entries ≡ pairs_from (cut_by l.form) l.items []
