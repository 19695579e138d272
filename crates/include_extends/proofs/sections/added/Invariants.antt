use Rattle.std.proofs.Common.{◌≡◌, drop}
use Rattle.include_extends.specs.Sections.{added}
use Rattle.include_extends.proofs.sections.added.Given as goal

abbrev pub invariant-loop-at : goal.invariant-loop-at
invariant-loop-at l = added l.kind l.file (drop l.at l.theirs) l.all ≡ added l.kind l.file l.theirs l.initial.all
