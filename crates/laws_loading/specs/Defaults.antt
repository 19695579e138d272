-- Laws of defaults: what `${NAME:-tail}` and `${NAME-tail}` give (Compose Specification, "Interpolation").
use Rattle.std.specs.Prelude.{◌≡◌, ◌≢◌, ℕ, List, [], ◌∷◌, ◌++◌, Bool, true, false, codes, length, None, Some, IsOk}
use Rattle.interpolate.specs.Lengths.{name_len}
use Rattle.interpolate.specs.Parts.{parts}
use Rattle.interpolate.specs.Substitution.{Variables, substituted}

-- a text that is a variable's name as a whole: a letter or `_`, and then letters, digits and `_`
pub record IsName (text : List ℕ) : Type 0 where
  pub some : text ≢ []
  pub whole : name_len text ≡ length text

-- a text that doesn't go on with `$` or `{`, so that a `$` before it stands for itself or begins a name
abbrev pub EndsDollar : List ℕ → Type 0
EndsDollar [] = Unit {0}
EndsDollar (c ∷ cs) = (c ≢ 36) × (c ≢ 123)

-- a text in which each `${` is closed by a `}`, and each `}` closes a `${`, where the second `$` of a `$$` opens none
pub data NestsBraces : List ℕ → Type 0 where
  nothing : NestsBraces []
  byte : (c : ℕ) (rest : List ℕ) → c ≢ 36 → c ≢ 125 → NestsBraces rest → NestsBraces (c ∷ rest)
  two_dollars : (rest : List ℕ) → NestsBraces rest → NestsBraces (36 ∷ 36 ∷ rest)
  one_dollar : (rest : List ℕ) → EndsDollar rest → NestsBraces rest → NestsBraces (36 ∷ rest)
  braces : (inner rest : List ℕ) → NestsBraces inner → NestsBraces rest → NestsBraces (36 ∷ 123 ∷ (inner ++ 125 ∷ rest))

-- a text that can be the tail of a form: its braces nest, and it is well formed, with at most 31 forms in one another
pub record IsTail (text : List ℕ) : Type 0 where
  pub nests : NestsBraces text
  pub well_formed : IsOk (parts 31 0 text)

-- the operator of a default, with its colon or without
abbrev pub operator : Bool → List ℕ
operator true = codes ":-"
operator false = codes "-"

-- `${NAME:-tail}`, or `${NAME-tail}` without the colon
abbrev pub with_default : Bool → List ℕ → List ℕ → List ℕ
with_default colon name tail = codes "${" ++ (name ++ (operator colon ++ (tail ++ codes "}")))

-- where a variable is unset, its form gives what the tail gives as a text of its own: its value, or its refusal
abbrev pub UnsetGivesTail : Type 0
UnsetGivesTail = (env : Variables) (colon : Bool) (name tail : List ℕ) → IsName name → IsTail tail → env name ≡ None
    → substituted env (with_default colon name tail) ≡ substituted env tail

-- where it is empty, the form with a colon gives that
abbrev pub EmptyGivesTail : Type 0
EmptyGivesTail = (env : Variables) (name tail : List ℕ) → IsName name → IsTail tail → env name ≡ Some []
    → substituted env (with_default true name tail) ≡ substituted env tail
