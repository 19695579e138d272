use Rattle.std.proofs.Common.{◌≡◌, drop, find, map}
use Rattle.hints.specs.Near.{is_within}
use Rattle.hints.proofs.near.within.Given as goal

abbrev pub invariant-loop-whole : goal.invariant-loop-whole
invariant-loop-whole l =
    find (is_within l.edits l.word) (map (λ whole. whole.now) (drop l.whole-index l.known))
    ≡ find (is_within l.edits l.word) (map (λ whole. whole.now) l.known)
