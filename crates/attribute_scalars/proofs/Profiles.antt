-- A profile behind a word that a text begins with.
use Rattle.std.proofs.Common.{◌≡◌, ◌∙◌, ℕ, Bool, true, false, not, List, ◌++◌, None, length, drop, refl, ap}
use Rattle.std.proofs.lemmas.Str.Pattern.{starts_text}
use Rattle.std.specs.Prelude.{◌||◌}
use Rattle.std.specs.Str.Pattern.{FindsTextPrefix, StripsPrefix}
use Rattle.attribute_scalars.specs.Scalars.{has_profile, is_profile}

module _ (text word : List ℕ) where
  -- what the test comes to, by whether the text begins with the word
  abbrev tested : Bool → Bool
  tested begins = not begins || is_profile (drop (length word) text)

  -- what is left of a text without its word has to be a profile
  pub behind_word : (rest : List ℕ) → StripsPrefix (FindsTextPrefix word) text rest → is_profile rest ≡ has_profile text word
  behind_word rest h =
      let r = h.1 in
      let same = r.1 ∙ ap (λ (k : ℕ). word ++ drop k text) r.0 in
      ap is_profile (h.2 ∙ ap (λ (k : ℕ). drop k text) r.0) ∙ ap tested (starts_text true word text (length word, (refl, same, r.2), r.2))

  -- a text that doesn't begin with the word names no profile by it
  pub without_word : FindsTextPrefix word text None → true ≡ has_profile text word
  without_word h = ap tested (starts_text false word text h)
