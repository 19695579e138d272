use Rattle.std.proofs.Common.{◌≤◌, ◌++◌, drop}
use Rattle.std.specs.Prelude.{flat_map}
use Rattle.log_lines.specs.Lines.{line_text}
use Rattle.log_lines.specs.Writing.{TookBut}
use Rattle.log_lines.proofs.printing.put_lines.Given as goal

abbrev pub invariant-loop-line : goal.invariant-loop-line
invariant-loop-line g l = record {
  counted : g.O.Sink.faults l.fn.out ≤ g.O.Sink.faults l.out;
  took : TookBut (l.held.items ++ flat_map (line_text l.slot.name) (drop l.line-index l.lines))
      (l.fn.held.items ++ flat_map (line_text l.slot.name) l.lines)
      (g.O.Sink.written l.fn.out) (g.O.Sink.written l.out);
}
