use Rattle.std.proofs.Common.{◌≡◌, ◌++◌, flat_map}
use Rattle.std.specs.Str.Iter.{chars_rest}
use Rattle.project_print.specs.Scalars.{doubled_byte}
use Rattle.project_print.proofs.scalar.doubled.Given as goal

abbrev pub invariant-loop-c : goal.invariant-loop-c
invariant-loop-c l = l.twice ++ flat_map doubled_byte (chars_rest l.c-iterator) ≡ flat_map doubled_byte l.text
