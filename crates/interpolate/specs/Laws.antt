-- Laws of substitution, above its definition.
use Rattle.std.specs.Prelude.{◌≡◌, ℕ, ◌<◌, ◌≤◌, ◌≢◌, List, [], ◌∷◌, length, slice_index, Ok, ◌==◌, if◌then◌else◌}
use Rattle.tree_base.specs.Limits.{most_text}
use Rattle.interpolate.specs.Substitution.{Variables, substituted}

-- no byte of a text is a `$`
abbrev pub HasNoDollar : List ℕ → Type 0
HasNoDollar text = (at : ℕ) → at < length text → slice_index text at ≢ 36

-- a text with each `$` doubled
abbrev pub doubled : List ℕ → List ℕ
doubled [] = []
doubled (c ∷ cs) = if c == 36 then 36 ∷ 36 ∷ doubled cs else c ∷ doubled cs

-- a text without `$` within the limit is its own substitution
abbrev pub PlainStays : Type 0
PlainStays = (env : Variables) (text : List ℕ) → HasNoDollar text → length text ≤ most_text → substituted env text ≡ Ok text

-- a text within the limit comes back from the text with each `$` doubled
abbrev pub DoubledComesBack : Type 0
DoubledComesBack = (env : Variables) (text : List ℕ) → length text ≤ most_text → substituted env (doubled text) ≡ Ok text
