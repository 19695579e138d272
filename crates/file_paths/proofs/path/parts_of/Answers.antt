use Rattle.std.proofs.Common.{◌≡◌, ◌∙◌, ap, sym, map, fold, [], take, arith, ◌==◌}
use Rattle.std.proofs.lemmas.List.{take_all, length-map}
use Rattle.std.proofs.lemmas.Iterator.Consumers.{map_from_collect}
use Rattle.std.proofs.lemmas.Iterator.Splits.{YieldsList-from_str_split}
use Rattle.std.specs.List.{slice_split}
use Rattle.file_paths.specs.Paths.{after_part}
use Rattle.file_paths.proofs.Joins.{fold_more_of}
use Rattle.file_paths.proofs.path.parts_of.Goals as goal

pub loop-step-preserved : goal.loop-step-preserved
loop-step-preserved c =
    (rw c.loop-step.invariant at c.in_ok-take_step.ensures)
    ∙ sym (fold_more_of after_part [] (λ part. part.now) c.as_slice-step-items.result.now c.loop-step.step-index _ (omega arith))

pub returns : goal.returns
returns c =
    let steps = c.as_slice-step-items.result.now in
    let whole : take c.loop-step.step-index (map (λ part. part.now) steps) ≡ map (λ part. part.now) steps =
    take_all c.loop-step.step-index (map (λ part. part.now) steps) (rw (length-map steps (λ part. part.now)) c.loop-step-test.false) in
    let split : map (λ part. part.now) c.in_ok-steps.steps.items ≡ slice_split (λ b. b == 47) c.args.text.now =
    rw c.in_ok-steps.was at (map_from_collect _ c.collect.ensures.ran (YieldsList-from_str_split 47 c.args.text.now (omega arith) c.split.ensures.text c.split.ensures.has_more c.split.ensures.pattern)) in
    c.loop-step.invariant ∙ ap (fold after_part []) (whole ∙ ap (map (λ part. part.now)) c.as_slice-step-items.ensures.value ∙ split)
