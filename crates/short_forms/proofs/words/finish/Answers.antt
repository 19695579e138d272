use Rattle.std.proofs.Common.{◌∙◌, ◌++◌, ◌∷◌, [], ap, sym, Ok, lit<}
use Rattle.std.proofs.lemmas.Str.{encode_ascii}
use Rattle.std.specs.Option.{option_to_list, unwrap_or}
use Rattle.short_forms.specs.Answers.{answer_of}
use Rattle.short_forms.specs.declared.form.Form.TheVariants.{Words}
use Rattle.short_forms.specs.declared.words.Within.TheVariants.{Bare, Return}
use Rattle.short_forms.proofs.WordLemmas.{ends_return, ends_text, left_at}
use Rattle.short_forms.proofs.words.finish.Goals as goal

pub returns-in_ok-ended-in-Bare : goal.returns-in_ok-ended-in-Bare
returns-in_ok-ended-in-Bare c =
    let reading = c.args.reading in
    ap (answer_of Words) (left_at reading Bare [] c.in-Bare.is ∙ ends_text reading.words reading.word) ∙ ap Ok (sym c.in_ok-ended-in-Bare.ensures)

pub returns-in_ok-ended-in-Return : goal.returns-in_ok-ended-in-Return
returns-in_ok-ended-in-Return c =
    let reading = c.args.reading in
    let put = c.in_ok-put-in-Return.ensures in
    ap (answer_of Words) (left_at reading Return [] c.in-Return.is ∙ ends_return reading.words reading.word)
    ∙ ap Ok (sym (c.in_ok-ended-in-Return.ensures ∙ (λ i. put.words i ++ option_to_list (put.word i))
    ∙ ap (λ bs. reading.words ++ (unwrap_or reading.word [] ++ bs) ∷ []) (encode_ascii 13 (lit< tt))))
