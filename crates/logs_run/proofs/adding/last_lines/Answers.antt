use Rattle.std.proofs.Common.{◌∙◌, ◌++◌, List, ap}
use Rattle.log_frames.specs.Cutting.{after, rest_lines}
use Rattle.log_frames.specs.Sides.{Sides}
use Rattle.log_frames.specs.declared.line.LogLine.{LogLine}
use Rattle.logs_run.proofs.adding.last_lines.Goals as goal

pub returns : goal.returns
returns c =
    c.in_ok-put_behind.ensures
    ∙ ap (λ (l : List LogLine). c.in_ok-lines.lines ++ l) (c.into_vec.ensures ∙ c.in_ok-rest.ensures ∙ ap (λ (s : Sides). rest_lines s c.args.slot) c.in_ok-lines.ensures.holds)
    ∙ ap (λ (l : List LogLine). l ++ rest_lines (after c.args.cutter c.args.bytes.now c.args.part.now) c.args.slot) c.in_ok-lines.ensures.lines
