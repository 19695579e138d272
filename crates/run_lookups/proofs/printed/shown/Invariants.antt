use Rattle.std.proofs.Common.{◌≡◌, ◌++◌, flat_map}
use Rattle.std.specs.Str.{IsUtf8, chars}
use Rattle.std.specs.Str.Iter.{chars_rest}
use Rattle.run_model.specs.Shown.{shown, shown_char}
use Rattle.run_lookups.proofs.printed.shown.Given as goal

-- what is left is a text, and makes the whole with what was printed
abbrev pub invariant-loop-c : goal.invariant-loop-c
invariant-loop-c l =
    IsUtf8 (chars_rest l.c-iterator) × (l.out ++ flat_map shown_char (chars (chars_rest l.c-iterator)) ≡ shown l.text)
