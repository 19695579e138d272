use Rattle.std.proofs.Common.{◌∙◌, ◌++◌, sym}
use Rattle.std.proofs.lemmas.Result.{on_ok_weaker}
use Rattle.std.specs.Char.{encode_utf8}
use Rattle.short_forms.specs.declared.words.Within.TheVariants.{Bare, Escape}
use Rattle.short_forms.proofs.WordLemmas.{left_at, left_put, takes_escaped}
use Rattle.short_forms.proofs.words.escaped.Goals as goal

pub returns : goal.returns
returns c =
    let old = c.args.reading.now in
    on_ok_weaker c.put.result (λ p left. left_put old c.put.new.reading (encode_utf8 c.args.c) Bare left p ∙ takes_escaped old.words old.word c.args.c left ∙ sym (left_at old Escape (encode_utf8 c.args.c ++ left) c.requires)) c.put.ensures
