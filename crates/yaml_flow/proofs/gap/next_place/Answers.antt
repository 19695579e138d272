use Rattle.std.proofs.Common.{◌∙◌, ◌+◌, sym}
use Rattle.std.proofs.lemmas.List.{take_rest}
use Rattle.yaml_flow.proofs.GapSteps.{past_one}
use Rattle.yaml_flow.proofs.gap.next_place.Goals as goal

pub loop-n-preserved : goal.loop-n-preserved
loop-n-preserved c =
    let cs = c.text_at-chars.result.now in
    let kept = sym (rw (take_rest cs (c.loop-n.n + 1)) at c.begins_left_out.ensures) ∙ c.if-begins_left_out.false in
    let inside = sym c.is_in_gap.ensures ∙ c.if-not-is_in_gap.false in
    let step = past_one c.args.progress.now c.args.row.now c.args.at c.loop-n.n c.loop-n.comment c.loop-n.behind_white cs c.index-chars-n.result c.loop-n-test.true c.index-chars-n.is kept inside in
    rw c.is_in_comment-comment.ensures (sym step ∙ c.loop-n.invariant)
