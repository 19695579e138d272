use Rattle.std.proofs.Common.{◌∙◌, ap, refl, sym, Some}
use Rattle.std.proofs.lemmas.List.{append-nil}
use Rattle.std.specs.Option.{unwrap_or}
use Rattle.short_forms.proofs.words.begin.Goals as goal

pub returns : goal.returns
returns c = record {
  words = refl;
  word = ap Some (c.unwrap_or-word.ensures ∙ (λ i. unwrap_or (c.take.ensures.value i) (c.new.ensures i)) ∙ sym (append-nil _));
  stands = refl;
}
