-- Words that differ from those that are known.
use Rattle.std.proofs.Common.{◌≡◌, ℕ, List, false}
use Rattle.std.specs.Str.{bytes_eq}
use Rattle.std.proofs.lemmas.Bool.{false_from_ne_true}
use Rattle.std.proofs.lemmas.Slice.Eq.{bytes_eq-Decides}

-- a word that differs from a known one isn't taken for it
pub differs : (word known : List ℕ) → (word ≡ known → ⊥) → bytes_eq word known ≡ false
differs word known other = false_from_ne_true (bytes_eq word known) (λ same. other ((bytes_eq-Decides word known).0 same))
