use Rattle.std.proofs.Common.{◌∙◌, ◌+◌, ap, List, ℕ, map, drop}
use Rattle.yaml_lines.specs.Block.{with_text, block_of, lines_of_rows, deeper}
use Rattle.yaml_lines.specs.Rows.{row_of}
use Rattle.yaml_lines.proofs.BlockSteps.{block_deeper}
use Rattle.yaml_lines.proofs.block_style.block.Goals as goal

pub returns : goal.returns
returns c =
    let reads = block_of c.args.folded c.args.chomp c.args.parent in
    let rows = c.as_slice.ensures ∙ c.in_ok-rows.ensures.is ∙ ap (λ ls. deeper c.args.parent (map row_of ls)) c.lines_from.ensures.is in
    ap (λ (p : List ℕ × ℕ). (p.0, c.args.first + p.1))
    (c.in_ok-text.ensures.is ∙ ap (λ rs. with_text (reads (lines_of_rows rs))) rows ∙ ap with_text (block_deeper c.args.folded c.args.chomp c.args.parent (map row_of (drop c.args.first c.args.lines.now.lines))))
