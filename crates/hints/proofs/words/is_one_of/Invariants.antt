use Rattle.std.proofs.Common.{◌≡◌, drop, map}
use Rattle.hints.specs.Words.{is_one_of}
use Rattle.hints.proofs.words.is_one_of.Given as goal

abbrev pub invariant-loop-other : goal.invariant-loop-other
invariant-loop-other l =
    is_one_of l.word (map (λ other. other.now) (drop l.other-index l.known))
    ≡ is_one_of l.word (map (λ other. other.now) l.known)
