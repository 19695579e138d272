use Rattle.std.proofs.Common.{take}
use Rattle.merge_rules.specs.Marks.{AreNoted}
use Rattle.merge_rules.proofs.places.firsts_among.Given as goal

-- the first items are noted
abbrev pub invariant-loop-at : goal.invariant-loop-at
invariant-loop-at l = AreNoted l.kind l.firsts (take l.at l.items)
