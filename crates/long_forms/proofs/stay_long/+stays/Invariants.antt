use Rattle.std.proofs.Common.{◌≡◌, [], map, drop, take}
use Rattle.std.specs.List.{zip}
use Rattle.long_forms.specs.LongForms.{lengthened, values_long}
use Rattle.merge_tables.specs.Spots.{forms_of}
use Rattle.long_forms.proofs.stay_long.+stays.Given as goal

-- the values that are left, behind those that stay, make what all make
abbrev pub invariant-are_long-loop-at : goal.invariant-are_long-loop-at
invariant-are_long-loop-at l =
    values_long (forms_of l.spot) (take l.at l.values) (drop l.at (zip l.keys (map lengthened l.values))) ≡ values_long (forms_of l.spot) [] (zip l.keys (map lengthened l.values))
