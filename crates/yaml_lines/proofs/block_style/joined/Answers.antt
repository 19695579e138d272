use Rattle.std.proofs.Common.{◌≡◌, ◌∙◌, ◌+◌, ap, map, true, false, eqb, drop, length, Some, arith}
use Rattle.yaml_lines.specs.Block.{lines_of_rows}
use Rattle.yaml_lines.proofs.BlockSteps.{next_line, empty_step, line_step, trailing_step}
use Rattle.yaml_lines.proofs.block_style.joined.Goals as goal
use Rattle.yaml_lines.proofs.block_style.joined.Goals.{then-line-eq0, else-line-eq0+in_ok-push_gap+in_ok-push_chars}

pub loop-row-preserved : goal.loop-row-preserved
loop-row-preserved c =
    let rows = c.args.rows.now in
    let i = c.loop-row.row-index in
    let line = c.text_at-line.result.now in
    let later = map (drop c.args.indent) (lines_of_rows (drop (i + 1) rows)) in
    let next = next_line c.args.indent rows i c.row-item.result line (omega arith) c.row-item.is c.text_at-line.ensures.is in
    elim c.if-line-eq0.branch [
      | then-line-eq0 w ↦
          let h : eqb (length line) 0 ≡ true = grind arith in
          record {
            text = empty_step c.args.folded c.loop-row.before _ c.loop-row.empties _ line _ later c.loop-row.text _ _ h w.text-is w.before-is w.empties-is next c.loop-row.invariant.text;
            empties = trailing_step c.loop-row.empties _ line _ later _ (rw h w.empties-is) next c.loop-row.invariant.empties;
            few = omega arith;
          }
      | else-line-eq0+in_ok-push_gap+in_ok-push_chars w ↦
          let h : eqb (length line) 0 ≡ false = grind arith in
          record {
            text = line_step c.args.folded c.loop-row.before _ c.loop-row.empties _ line _ later c.loop-row.text _ _ _ h w.in_ok-push_gap.ensures (w.text-is ∙ w.in_ok-push_chars.ensures) (w.before-is ∙ ap Some w.begins_white.ensures) w.empties-is next c.loop-row.invariant.text;
            empties = trailing_step c.loop-row.empties _ line _ later _ (rw h w.empties-is) next c.loop-row.invariant.empties;
            few = omega arith;
          }
    ]
