use Rattle.std.proofs.Common.{◌≡◌}
use Rattle.std.specs.Str.Iter.{chars_rest}
use Rattle.short_forms.specs.Reading.{words_left}
use Rattle.short_forms.specs.Words.{words_of}
use Rattle.short_forms.proofs.words.shell_words.Given as goal

-- what was read and what is left give the words of the text
abbrev pub invariant-loop-c : goal.invariant-loop-c
invariant-loop-c l = words_left l.reading (chars_rest l.c-iterator) ≡ words_of l.text
