use Rattle.std.proofs.Common.{◌∙◌, ◌++◌, ap, sym, refl}
use Rattle.std.proofs.lemmas.List.{append-nil}
use Rattle.std.proofs.lemmas.Result.{on_ok_weaker}
use Rattle.std.specs.Option.{option_to_list}
use Rattle.short_forms.proofs.words.end.Goals as goal

pub returns-in-None : goal.returns-in-None
returns-in-None c = record {
  words = sym (append-nil c.args.reading.now.words) ∙ ap (λ w. c.args.reading.now.words ++ option_to_list w) c.in-None.ensures.value;
  word = c.in-None.ensures.after;
  stands = refl;
}

pub returns-in-Some : goal.returns-in-Some
returns-in-Some c = on_ok_weaker c.push.result (λ e. record {
  words = e ∙ ap (λ w. c.args.reading.now.words ++ option_to_list w) c.in-Some.ensures.value;
  word = c.in-Some.ensures.after;
  stands = refl;
}) c.push.ensures.ok
