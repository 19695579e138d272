use Rattle.std.proofs.Common.{◌∙◌, ◌++◌, ap, refl, Some}
use Rattle.std.specs.Char.{encode_utf8}
use Rattle.std.specs.Option.{unwrap_or}
use Rattle.short_forms.proofs.words.put.Goals as goal

pub returns : goal.returns
returns c = record {
  words = refl;
  word = ap Some (c.in_ok-push.ensures.ok ∙ ap (λ w. w ++ encode_utf8 c.args.c) (c.unwrap_or-word.ensures ∙ (λ i. unwrap_or (c.take.ensures.value i) (c.new.ensures i))));
  stands = refl;
}
