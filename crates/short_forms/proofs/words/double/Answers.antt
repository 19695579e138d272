use Rattle.std.proofs.Common.{◌∙◌, ◌++◌, [], sym, lit<, refl}
use Rattle.std.proofs.lemmas.Result.{on_ok_weaker}
use Rattle.std.specs.Char.{encode_utf8}
use Rattle.short_forms.specs.Words.{bare, double, escaped_double}
use Rattle.short_forms.specs.declared.words.Within.TheVariants.{Bare, Double, DoubleEscape}
use Rattle.short_forms.proofs.WordLemmas.{closes, left_at, left_put, plain_double_from, takes_double}
use Rattle.short_forms.proofs.words.double.Goals as goal

pub returns-then-c-eq34 : goal.returns-then-c-eq34
returns-then-c-eq34 c =
    let old = c.args.reading.now in
    λ left. left_put old c.begin.new.reading [] Bare left c.begin.ensures ∙ closes old.words old.word c.args.c left double bare 34 c.if-c-eq34.true (lit< tt) refl ∙ sym (left_at old Double (encode_utf8 c.args.c ++ left) c.requires)

pub returns-then-c-eq92 : goal.returns-then-c-eq92
returns-then-c-eq92 c =
    let old = c.args.reading.now in
    λ left. left_put old c.begin-then-c-eq92.new.reading [] DoubleEscape left c.begin-then-c-eq92.ensures ∙ closes old.words old.word c.args.c left double escaped_double 92 c.if-c-eq92.true (lit< tt) refl ∙ sym (left_at old Double (encode_utf8 c.args.c ++ left) c.requires)

pub returns-else-c-eq92 : goal.returns-else-c-eq92
returns-else-c-eq92 c =
    let old = c.args.reading.now in
    on_ok_weaker c.put.result (λ p left. left_put old c.put.new.reading (encode_utf8 c.args.c) Double left p
    ∙ takes_double old.words old.word c.args.c left (plain_double_from c.args.c c.if-c-eq34.false c.if-c-eq92.false) ∙ sym (left_at old Double (encode_utf8 c.args.c ++ left) c.requires)) c.put.ensures
