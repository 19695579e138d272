use Rattle.std.proofs.Common.{◌∙◌, ◌++◌, [], sym, ap, not, lit<, refl}
use Rattle.std.proofs.lemmas.Bool.{ne_eqb}
use Rattle.std.proofs.lemmas.Result.{on_ok_weaker}
use Rattle.std.specs.Char.{encode_utf8}
use Rattle.short_forms.specs.Words.{bare, single}
use Rattle.short_forms.specs.declared.words.Within.TheVariants.{Bare, Single}
use Rattle.short_forms.proofs.WordLemmas.{closes, left_at, left_put, takes_single}
use Rattle.short_forms.proofs.words.single.Goals as goal

pub returns-then-c-eq39 : goal.returns-then-c-eq39
returns-then-c-eq39 c =
    let old = c.args.reading.now in
    λ left. left_put old c.begin.new.reading [] Bare left c.begin.ensures ∙ closes old.words old.word c.args.c left single bare 39 c.if-c-eq39.true (lit< tt) refl ∙ sym (left_at old Single (encode_utf8 c.args.c ++ left) c.requires)

pub returns-else-c-eq39 : goal.returns-else-c-eq39
returns-else-c-eq39 c =
    let old = c.args.reading.now in
    on_ok_weaker c.put.result (λ p left. left_put old c.put.new.reading (encode_utf8 c.args.c) Single left p
    ∙ takes_single old.words old.word c.args.c left (ap not (ne_eqb c.args.c 39 c.if-c-eq39.false)) ∙ sym (left_at old Single (encode_utf8 c.args.c ++ left) c.requires)) c.put.ensures
