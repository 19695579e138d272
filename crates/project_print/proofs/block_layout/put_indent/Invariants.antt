use Rattle.std.proofs.Common.{◌≡◌, ◌++◌}
use Rattle.project_print.specs.Written.{indent}
use Rattle.project_print.proofs.block_layout.put_indent.Given as goal

abbrev pub invariant-loop : goal.invariant-loop
invariant-loop l = l.out ≡ l.initial.out ++ indent l.counter
