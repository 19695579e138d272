use Rattle.std.proofs.Common.{◌∙◌, ◌++◌, [], sym, ap, lit<}
use Rattle.std.proofs.lemmas.Result.{on_ok_weaker}
use Rattle.std.specs.Char.{encode_utf8}
use Rattle.short_forms.specs.Words.{bare}
use Rattle.short_forms.specs.declared.words.Within.TheVariants.{Bare, Return}
use Rattle.short_forms.proofs.WordLemmas.{ends_line, left_at, left_end, left_put, takes_return}
use Rattle.std.proofs.lemmas.Str.{encode_ascii}
use Rattle.std.proofs.Common.{Some}
use Rattle.std.specs.Option.{unwrap_or}
use Rattle.short_forms.specs.Reading.{joined}
use Rattle.short_forms.specs.Words.{words_from}
use Rattle.short_forms.proofs.words.behind_return.Goals as goal

pub bare-requires : goal.bare-requires
bare-requires c = c.in_ok-put.ensures.stands

pub returns-then-c-eq10 : goal.returns-then-c-eq10
returns-then-c-eq10 c =
    let old = c.args.reading.now in
    on_ok_weaker c.end.result (λ p left. left_end old c.end.new.reading left p ∙ ends_line old.words old.word c.args.c left c.if-c-eq10.true ∙ sym (left_at old Return (encode_utf8 c.args.c ++ left) c.requires)) c.end.ensures

pub returns-in_ok-put : goal.returns-in_ok-put
returns-in_ok-put c =
    let old = c.args.reading.now in
    on_ok_weaker c.bare.result (λ takes left. takes left
    ∙ left_put old c.put.new.reading (encode_utf8 13) Bare (encode_utf8 c.args.c ++ left) c.in_ok-put.ensures
    ∙ ap (λ bs. joined old.words (Some (unwrap_or old.word [] ++ bs)) (words_from bare (encode_utf8 c.args.c ++ left))) (encode_ascii 13 (lit< tt))
    ∙ takes_return old.words old.word c.args.c left c.if-c-eq10.false ∙ sym (left_at old Return (encode_utf8 c.args.c ++ left) c.requires)) c.bare.ensures
