use Rattle.std.proofs.Common.{◌≡◌, ◌++◌, flat_map}
use Rattle.std.specs.Str.Iter.{chars_rest}
use Rattle.project_print.specs.Scalars.{escaped}
use Rattle.project_print.proofs.scalar.put_content.Given as goal

abbrev pub invariant-loop-c : goal.invariant-loop-c
invariant-loop-c l = l.out ++ flat_map escaped (chars_rest l.c-iterator) ≡ l.initial.out ++ flat_map escaped l.text
