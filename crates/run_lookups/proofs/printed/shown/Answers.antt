use Rattle.std.proofs.Common.{◌≡◌, ◌∙◌, List, ℕ, ap}
use Rattle.std.proofs.lemmas.Str.{IsUtf8-past_char, chars_past_char}
use Rattle.std.specs.List.{list_any}
use Rattle.std.specs.Str.{chars}
use Rattle.std.specs.Str.Iter.{chars_rest}
use Rattle.run_model.specs.Shown.{is_control, shown}
use Rattle.run_lookups.proofs.ShownChars.{all_printed, harmless, one_more, same}
use Rattle.run_lookups.proofs.printed.shown.Goals as goal

pub loop-c-preserved : goal.loop-c-preserved
loop-c-preserved c =
    let read = rw c.in-Some.is at c.next.ensures.steps in
    let later = chars_rest c.next.new.self in (
      IsUtf8-past_char _ later c.in-Some.c c.loop-c.invariant.0 read.0,
      one_more c.in-Some.c c.loop-c.out _ _ (chars later) (chars_past_char _ later c.in-Some.c c.loop-c.invariant.0 read.0) c.in_ok-put_shown.ensures ∙ c.loop-c.invariant.1,
    )

pub returns-clause-text : goal.returns-clause-text
returns-clause-text c =
    let read = rw c.in-None.is at c.next.ensures.steps in
    all_printed c.loop-c.out _ _ read.0.0 c.loop-c.invariant.1

pub returns-clause-harmless : goal.returns-clause-harmless
returns-clause-harmless c =
    let read = rw c.in-None.is at c.next.ensures.steps in
    let all : c.loop-c.out ≡ shown c.args.text.now = all_printed c.loop-c.out _ _ read.0.0 c.loop-c.invariant.1 in
    ap (λ (t : List ℕ). list_any is_control (chars t)) all ∙ harmless c.args.text.now c.utf8.text

pub returns-clause-same : goal.returns-clause-same
returns-clause-same c none =
    let read = rw c.in-None.is at c.next.ensures.steps in
    all_printed c.loop-c.out _ _ read.0.0 c.loop-c.invariant.1 ∙ same c.args.text.now c.utf8.text none
