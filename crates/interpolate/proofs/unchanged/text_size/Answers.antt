use Rattle.std.proofs.Common.{◌∙◌, ap, sym, subst, refl}
use Rattle.interpolate.specs.Laws.{HasNoDollar}
use Rattle.interpolate.specs.Walking.{with_bytes}
use Rattle.interpolate.proofs.KeptTrees.{if_some, text_kept}
use Rattle.interpolate.proofs.unchanged.text_size.Goals as goal

pub returns-else-has_dollar : goal.returns-else-has_dollar
returns-else-has_dollar c =
    let text = c.args.text.now in
    let size = c.args.size in
    let plain = subst HasNoDollar c.as_str.ensures.value (c.if-has_dollar.ensures refl) in
    if_some c.counted.result (λ more fits env. text_kept env text size more plain (ap (with_bytes size) (sym c.len.ensures) ∙ fits)) c.counted.ensures
