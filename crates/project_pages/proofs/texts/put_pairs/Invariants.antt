use Rattle.std.proofs.Common.{◌≡◌, ◌++◌, drop, map}
use Rattle.project_print.specs.Written.{parts_text}
use Rattle.project_pages.proofs.PageLines.{pair_lines}
use Rattle.project_pages.proofs.texts.put_pairs.Given as goal

abbrev pub invariant-loop-at : goal.invariant-loop-at
invariant-loop-at l =
    l.out ++ parts_text l.depth l.at (drop l.at (map pair_lines l.pairs)) ≡ l.initial.out ++ parts_text l.depth 0 (map pair_lines l.pairs)
