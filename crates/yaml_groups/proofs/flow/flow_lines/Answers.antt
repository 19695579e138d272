use Rattle.std.proofs.Common.{◌∙◌, ◌++◌, ap, sym, length, false, arith}
use Rattle.yaml_groups.specs.Parts.{led}
use Rattle.yaml_groups.proofs.ScanSteps.{behind, closed_lines, last_row, led_more, open_lines, row_step, rows_behind}
use Rattle.yaml_groups.proofs.flow.flow_lines.Goals as goal

pub loop-row-init : goal.loop-row-init
loop-row-init c =
    let first = c.args.first.now in
    let rows = c.args.rows.now in
    record { few = omega arith; nested = omega arith; is = ap (λ scan. behind scan (led rows)) c.scanned-scan.ensures.is ∙ sym (rows_behind 0 0 false first rows) }

pub returns-then-scan : goal.returns-then-scan
returns-then-scan c = closed_lines (c.args.first.now ++ led c.args.rows.now) (length c.args.rows.now) c.loop-row.scan _ c.if-scan.true c.loop-row.invariant.is

pub loop-row-preserved : goal.loop-row-preserved
loop-row-preserved c =
    let rows = c.args.rows.now in
    let row = c.row-item.result in
    let more = led_more rows c.loop-row.row-index row (omega arith) c.row-item.is in
    let len = ap length c.as_slice.ensures in
    let scan = rw c.as_slice.ensures at c.scanned-scan-in-loop-row.ensures.is in
    record {
      few = omega arith;
      nested = omega arith;
      is = row_step c.loop-row.scan _ rows c.loop-row.row-index row _ (omega arith) c.row-item.is c.if-scan.false scan c.loop-row.invariant.is;
    }

pub returns-then-scan-2 : goal.returns-then-scan-2
returns-then-scan-2 c = closed_lines (c.args.first.now ++ led c.args.rows.now) (length c.args.rows.now) c.loop-row.scan _ c.if-scan-2.true c.loop-row.invariant.is

pub returns-else-scan-2 : goal.returns-else-scan-2
returns-else-scan-2 c =
    let rows = c.args.rows.now in
    open_lines (c.args.first.now ++ led rows) (length rows) c.loop-row.scan c.if-scan-2.false (last_row c.loop-row.scan rows c.loop-row.row-index _ (omega arith) c.loop-row.invariant.is)
