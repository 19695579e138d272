use Rattle.std.proofs.Common.{◌≤◌, ◌++◌, drop}
use Rattle.log_lines.specs.Lines.{log_text}
use Rattle.log_lines.specs.Writing.{TookBut}
use Rattle.log_lines.proofs.printing.write_entries.Given as goal

abbrev pub invariant-loop-entry : goal.invariant-loop-entry
invariant-loop-entry g l = record {
  counted : g.O.Sink.faults l.fn.out ≤ g.O.Sink.faults l.out;
  took : TookBut (l.held.items ++ log_text l.declared (drop l.entry-index l.entries))
      (log_text l.declared l.entries) (g.O.Sink.written l.fn.out) (g.O.Sink.written l.out);
}
