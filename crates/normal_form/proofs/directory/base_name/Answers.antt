use Rattle.std.proofs.Common.{◌≡◌, ◌∙◌, ap, map, arith, ◌==◌}
use Rattle.std.proofs.lemmas.Iterator.Consumers.{map_from_collect}
use Rattle.std.proofs.lemmas.Iterator.Splits.{YieldsList-from_str_split}
use Rattle.std.specs.List.{slice_split}
use Rattle.normal_form.specs.ProjectNames.{last_part}
use Rattle.normal_form.proofs.directory.base_name.Goals as goal

pub returns : goal.returns
returns c =
    let split : map (λ part. part.now) c.in_ok-parts.parts.items ≡ slice_split (λ b. b == 47) c.args.directory.now =
    rw c.in_ok-parts.was at (map_from_collect _ c.collect.ensures.ran (YieldsList-from_str_split 47 c.args.directory.now (omega arith) (c.split.ensures.text ∙ c.as_str.ensures.value) c.split.ensures.has_more c.split.ensures.pattern)) in
    c.last_part.ensures ∙ ap last_part (ap (map (λ part. part.now)) c.as_slice.ensures.value ∙ split)
