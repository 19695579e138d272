use Rattle.std.proofs.Common.{◌≡◌, ◌∙◌, ◌==◌, ap, map, rules, tests}
use Rattle.std.proofs.lemmas.Iterator.Consumers.{map_from_collect}
use Rattle.std.proofs.lemmas.Iterator.Splits.{YieldsList-from_slice_split}
use Rattle.std.specs.List.{slice_split}
use Rattle.engine_json.proofs.Bodies.{pieces}
use Rattle.engine_json.proofs.Streams.{lines_told}
use Rattle.engine_json.proofs.pulls.pull_in.Goals as goal

pub returns : goal.returns
returns c =
    let split : map (λ line. line.now) c.in_ok-lines.lines.items ≡ slice_split (λ b. b == 10) c.args.body.now =
    rw c.in_ok-lines.was at (map_from_collect _ c.collect.ensures.ran (YieldsList-from_slice_split _ (λ b. b == 10) c.args.body.now c.split.ensures.rest c.split.ensures.done c.split.ensures.closure (λ x r q k. search (rules, tests)))) in
    lines_told c.args.body.now (map (λ line. line.now) c.as_slice.result.now) c.told_by.result (ap (map (λ line. line.now)) c.as_slice.ensures.value ∙ split ∙ pieces c.args.body.now) c.told_by.ensures
