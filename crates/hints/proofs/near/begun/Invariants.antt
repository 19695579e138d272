use Rattle.std.proofs.Common.{◌≡◌, drop, find, map}
use Rattle.hints.specs.Near.{is_begun}
use Rattle.hints.proofs.near.begun.Given as goal

abbrev pub invariant-loop-whole : goal.invariant-loop-whole
invariant-loop-whole l =
    find (is_begun l.word) (map (λ whole. whole.now) (drop l.whole-index l.known))
    ≡ find (is_begun l.word) (map (λ whole. whole.now) l.known)
