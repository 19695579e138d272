use Rattle.std.proofs.Common.{◌∙◌, ◌++◌, [], sym, ap, lit<}
use Rattle.std.proofs.lemmas.Result.{on_ok_weaker}
use Rattle.std.specs.Char.{encode_utf8}
use Rattle.short_forms.specs.Words.{double}
use Rattle.short_forms.specs.declared.words.Within.TheVariants.{Double, DoubleEscape}
use Rattle.short_forms.proofs.WordLemmas.{escapable_from, left_at, left_put, left_put_twice, stays, plain_double_not, takes_escaped_double}
use Rattle.std.proofs.Common.{Some}
use Rattle.std.proofs.lemmas.Str.{encode_ascii}
use Rattle.std.specs.Option.{unwrap_or}
use Rattle.short_forms.specs.Reading.{joined}
use Rattle.short_forms.specs.Words.{words_from}
use Rattle.short_forms.proofs.words.escaped_double.Goals as goal

pub returns-then-is_escapable : goal.returns-then-is_escapable
returns-then-is_escapable c =
    let old = c.args.reading.now in
    on_ok_weaker c.put.result (λ p left. left_put old c.put.new.reading (encode_utf8 c.args.c) Double left p
    ∙ takes_escaped_double old.words old.word c.args.c left (escapable_from c.args.c (sym c.is_escapable.ensures ∙ c.if-is_escapable.true)) ∙ sym (left_at old DoubleEscape (encode_utf8 c.args.c ++ left) c.requires)) c.put.ensures

pub returns-in_ok-put : goal.returns-in_ok-put
returns-in_ok-put c =
    let old = c.args.reading.now in
    let plain = plain_double_not c.args.c (sym c.is_escapable.ensures ∙ c.if-is_escapable.false) in
    on_ok_weaker c.put-else-is_escapable-2.result (λ p left. left_put_twice old c.put-else-is_escapable.new.reading c.put-else-is_escapable-2.new.reading (encode_utf8 92) (encode_utf8 c.args.c) Double left c.in_ok-put.ensures p
    ∙ ap (λ bs. joined old.words (Some ((unwrap_or old.word [] ++ bs) ++ encode_utf8 c.args.c)) (words_from double left)) (encode_ascii 92 (lit< tt))
    ∙ stays old.words old.word c.args.c left plain ∙ sym (left_at old DoubleEscape (encode_utf8 c.args.c ++ left) c.requires)) c.put-else-is_escapable-2.ensures
