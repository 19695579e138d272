use Rattle.std.proofs.Common.{◌≡◌, ◌+◌, ◌≤◌, length}
use Rattle.std.specs.Str.Lines.{lines}
use Rattle.dotenv.specs.Variables.{Sees}
use Rattle.dotenv.specs.Files.{with_lines}
use Rattle.dotenv.proofs.file.put_lines.Given as goal

abbrev pub decreases-loop-rest : goal.decreases-loop-rest
decreases-loop-rest l = length l.rest

abbrev pub invariant-loop-rest : goal.invariant-loop-rest
invariant-loop-rest l = record {
  sees : Sees l.outer l.given.env l.seen;
  few : l.number + length l.rest ≤ length l.initial.rest + 1;
  same : with_lines l.outer l.number l.given (lines l.rest) ≡ with_lines l.outer 1 l.initial.given (lines l.initial.rest);
}
