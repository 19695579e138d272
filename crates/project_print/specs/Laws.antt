-- Laws about the words of a page.
use Rattle.std.specs.Prelude.{◌≡◌, ℕ, List, [], ◌∷◌, ◌++◌, Bool, true, false, Option, Some, None, codes, length, ◌==◌, ◌&&◌, if◌then◌else◌}
use Rattle.std.specs.List.{list_any}
use Rattle.std.specs.Str.{bytes_eq}
use Rattle.yaml_lines.specs.declared.plain.Context.TheVariants.{Block}
use Rattle.yaml_lines.specs.Plain.{ends_plain, plain_of}
use Rattle.yaml_lines.specs.Quoted.{quoted_of}
use Rattle.project_print.specs.Scalars.{doubled, scalar}

-- what is read where a scalar begins, and how many characters spell it: in quotes, or plain
abbrev pub scalar_read : List ℕ → Option (List ℕ × ℕ)
scalar_read [] = None
scalar_read (c ∷ cs) = if c == 34 then quoted_of (c ∷ cs) else plain_of Block (c ∷ cs)

-- the plain words for null
abbrev pub is_null : List ℕ → Bool
is_null word = list_any (bytes_eq word) (codes "null" ∷ codes "Null" ∷ codes "NULL" ∷ codes "~" ∷ [])

-- a word of a page, before the line's end or the colon of a key, is read as the text that it stands for, and isn't null
abbrev pub ScalarsReadBack : Type 0
ScalarsReadBack =
    (text rest : List ℕ) → ends_plain Block false rest ≡ true
    → (scalar_read (scalar text ++ rest) ≡ Some (text, length (scalar text))) × (is_null (scalar text) ≡ false)

-- a text in which each two dollars are read as one
abbrev pub halved : List ℕ → List ℕ
halved [] = []
halved (c ∷ []) = c ∷ []
halved (c ∷ d ∷ cs) = if (c == 36) && (d == 36) then 36 ∷ halved cs else (c ∷ halved (d ∷ cs))

-- dollars printed twice are read as they were
abbrev pub DollarsReadBack : Type 0
DollarsReadBack = (text : List ℕ) → halved (doubled text) ≡ text
