use Rattle.std.proofs.Common.{◌≡◌, ◌∙◌, ◌==◌, ap, arith, map}
use Rattle.std.proofs.lemmas.Iterator.Consumers.{map_from_collect}
use Rattle.std.proofs.lemmas.Iterator.Splits.{YieldsList-from_str_split}
use Rattle.std.specs.List.{slice_split}
use Rattle.active_services.proofs.given.push_names.Goals as goal

pub returns : goal.returns
returns c =
    let split : map (λ name. name.now) c.in_ok-names.names.items ≡ slice_split (λ b. b == 44) c.args.value.now =
    rw c.in_ok-names.was at (map_from_collect _ c.collect.ensures.ran (YieldsList-from_str_split 44 c.args.value.now (omega arith) (c.split.ensures.text ∙ c.as_str.ensures.value) c.split.ensures.has_more c.split.ensures.pattern)) in
    rw (ap (map (λ name. name.now)) c.as_slice.ensures.value ∙ split) at c.push_each.ensures
