-- Strings and members of JSON, one after another: what they are of.
use Rattle.std.proofs.Common.{◌≡◌, ◌∙◌, ℕ, zero, suc, List, [], ◌∷◌, ◌++◌, Some, ap, append_assoc, arith, codes, get_or, map, refl, sym}
use Rattle.std.proofs.lemmas.List.{append_cancel_left}
use Rattle.json.specs.Print.{escape, quoted}
use Rattle.json.specs.Text.{content, plain}
use Rattle.json.proofs.Printed.Strings.{content-escape}
use Rattle.project_print.specs.Json.{member}
use Rattle.project_print.specs.Written.{comma, listed_from}

-- a string in front of something tells its text, and what follows
pub string_tells : (s t r u : List ℕ) → quoted s ++ r ≡ quoted t ++ u → (s ≡ t) × (r ≡ u)
string_tells s t r u e = (same, append_cancel_left (escape t ++ 34 ∷ []) r u (sym (ap (λ (z : List ℕ). (escape z ++ 34 ∷ []) ++ r) same) ∙ inside))
  where
    inside : (escape s ++ 34 ∷ []) ++ r ≡ (escape t ++ 34 ∷ []) ++ u
    inside = append_cancel_left (34 ∷ []) _ _ e

    read : Some s ≡ Some t
    read = sym (content-escape s r) ∙ ap (content plain) (sym (append_assoc (escape s) (34 ∷ []) r) ∙ inside ∙ append_assoc (escape t) (34 ∷ []) u) ∙ content-escape t u

    same : s ≡ t
    same = cc read

-- a member of which the value is a string
abbrev pub row_text : List ℕ × List ℕ → List ℕ
row_text row = member (row.0, quoted row.1)

parts : (a k h v l e : List ℕ) → (a ++ ((k ++ (h ++ v)) ++ l)) ++ e ≡ a ++ (k ++ (h ++ (v ++ (l ++ e))))
parts a k h v l e = simp append_assoc

first_of : (x y : ℕ) (xs ys : List ℕ) → x ∷ xs ≡ y ∷ ys → x ≡ y
first_of x y xs ys e = ap (λ (l : List ℕ). get_or l 0 0) e

-- nothing ends where a member begins
no_more : (at : ℕ) (row : List ℕ × List ℕ) (rows : List (List ℕ × List ℕ)) (r u : List ℕ) → 125 ∷ r ≡ listed_from at (map row_text (row ∷ rows)) ++ 125 ∷ u → ⊥
no_more zero row rows r u e = let bad : 125 ≡ 34 = first_of _ _ _ _ e in absurd (omega (arith, bad))
no_more (suc at) row rows r u e = let bad : 125 ≡ 44 = first_of _ _ _ _ e in absurd (omega (arith, bad))

-- members up to the end of their object tell what they are of, and what follows
pub rows_tell : (at : ℕ) (es fs : List (List ℕ × List ℕ)) (r u : List ℕ)
    → listed_from at (map row_text es) ++ 125 ∷ r ≡ listed_from at (map row_text fs) ++ 125 ∷ u → (es ≡ fs) × (r ≡ u)
rows_tell at [] [] r u e = (refl, append_cancel_left (125 ∷ []) r u e)
rows_tell at [] (f ∷ fs) r u e = absurd (no_more at f fs r u e)
rows_tell at (x ∷ es) [] r u e = absurd (no_more at x es u r (sym e))
rows_tell at (x ∷ es) (f ∷ fs) r u e =
    let lined = sym (parts (comma at) (quoted x.0) (codes ":") (quoted x.1) (listed_from (suc at) (map row_text es)) (125 ∷ r)) ∙ e
    ∙ parts (comma at) (quoted f.0) (codes ":") (quoted f.1) (listed_from (suc at) (map row_text fs)) (125 ∷ u) in
    let keys = string_tells x.0 f.0 _ _ (append_cancel_left (comma at) _ _ lined) in
    let values = string_tells x.1 f.1 _ _ (append_cancel_left (codes ":") _ _ keys.1) in
    let rest = rows_tell (suc at) es fs r u values.1 in
    ((λ i. (keys.0 i, values.0 i) ∷ rest.0 i), rest.1)

-- an object of such members
abbrev pub braces : List (List ℕ × List ℕ) → List ℕ
braces rows = codes "{" ++ (listed_from 0 (map row_text rows) ++ codes "}")

pub braces_tell : (es fs : List (List ℕ × List ℕ)) (r u : List ℕ) → braces es ++ r ≡ braces fs ++ u → (es ≡ fs) × (r ≡ u)
braces_tell es fs r u e =
    rows_tell 0 es fs r u
    (sym (append_assoc (listed_from 0 (map row_text es)) (125 ∷ []) r) ∙ append_cancel_left (codes "{") _ _ e ∙ append_assoc (listed_from 0 (map row_text fs)) (125 ∷ []) u)
