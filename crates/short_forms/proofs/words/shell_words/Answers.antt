use Rattle.std.proofs.Common.{◌∙◌, ap, sym}
use Rattle.std.specs.Str.Iter.{chars_rest}
use Rattle.short_forms.specs.Reading.{words_left}
use Rattle.short_forms.proofs.words.shell_words.Goals as goal

pub loop-c-preserved : goal.loop-c-preserved
loop-c-preserved c =
    let read = rw c.in-Some.is at c.next.ensures.steps in
    c.in_ok-step.ensures (chars_rest c.next.new.self) ∙ ap (words_left c.loop-c.reading) (sym read.0) ∙ c.loop-c.invariant
