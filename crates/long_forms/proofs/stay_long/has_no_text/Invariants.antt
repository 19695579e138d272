use Rattle.std.proofs.Common.{◌≡◌, [], drop, take}
use Rattle.long_forms.specs.LongForms.{Made, entries_from}
use Rattle.long_forms.proofs.stay_long.has_no_text.Given as goal

-- the items that are left, behind those that are no texts, make what all make
abbrev pub invariant-loop-item : goal.invariant-loop-item
invariant-loop-item l =
    (form : Made) → entries_from form l.item-index (take l.item-index l.items) (drop l.item-index l.items) ≡ entries_from form 0 [] l.items
