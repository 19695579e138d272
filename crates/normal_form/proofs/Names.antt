-- The name of a project, one character further.
use Rattle.std.proofs.Common.{◌≡◌, ℕ, Bool, true, false, not, cond, ◌&&◌, ◌==◌, List, [], ◌∷◌, ◌++◌, ◌+◌, ◌<◌, length, take, map, filter, get_or, refl, ap, rules, tests}
use Rattle.std.proofs.lemmas.List.{take_more, map-append, append-nil}
use Rattle.std.proofs.lemmas.List.Elements.{filter-append}
use Rattle.normal_form.specs.ProjectNames.{name_from, without_marks, is_name_character, is_mark, lower, goes_on}

abbrev pub further : List ℕ → ℕ → List ℕ
further name c = cond (goes_on name c) (name ++ c ∷ []) name

without_marks-append : (ys : List ℕ) (c : ℕ) → without_marks (ys ++ c ∷ []) ≡ cond (not ((length (without_marks ys) == 0) && is_mark c)) (without_marks ys ++ c ∷ []) (without_marks ys)
without_marks-append [] c = by (is_mark c)
  where
    by : (b : Bool) → cond b [] (c ∷ []) ≡ cond (not b) (c ∷ []) []
    by true = refl
    by false = refl
without_marks-append (y ∷ ys) c = by (is_mark y) (without_marks-append ys c)
  where
    by : (b : Bool) → without_marks (ys ++ c ∷ []) ≡ cond (not ((length (without_marks ys) == 0) && is_mark c)) (without_marks ys ++ c ∷ []) (without_marks ys)
        → cond b (without_marks (ys ++ c ∷ [])) (y ∷ ys ++ c ∷ []) ≡ cond (not ((length (cond b (without_marks ys) (y ∷ ys)) == 0) && is_mark c)) (cond b (without_marks ys) (y ∷ ys) ++ c ∷ []) (cond b (without_marks ys) (y ∷ ys))
    by true rest = rest
    by false rest = search (rules, tests)

kept_more : (ys : List ℕ) (c : ℕ) (b : Bool)
    → without_marks (ys ++ cond b (c ∷ []) []) ≡ cond (b && not ((length (without_marks ys) == 0) && is_mark c)) (without_marks ys ++ c ∷ []) (without_marks ys)
kept_more ys c true = without_marks-append ys c
kept_more ys c false = ap without_marks (append-nil ys)

-- the name from one byte more
pub name_from-more : (xs : List ℕ) (i d : ℕ) → i < length xs → name_from (take (i + 1) xs) ≡ further (name_from (take i xs)) (lower (get_or xs i d))
name_from-more xs i d within =
    let c = lower (get_or xs i d) in
    rw (take_more xs i d within, map-append lower (take i xs) (get_or xs i d ∷ []), filter-append is_name_character (map lower (take i xs)) (c ∷ []))
    (kept_more (filter is_name_character (map lower (take i xs))) c (is_name_character c))

pub further_yes : (name : List ℕ) (c : ℕ) → goes_on name c ≡ true → further name c ≡ name ++ c ∷ []
further_yes name c e = ap (λ b. cond b (name ++ c ∷ []) name) e

pub further_no : (name : List ℕ) (c : ℕ) → goes_on name c ≡ false → further name c ≡ name
further_no name c e = ap (λ b. cond b (name ++ c ∷ []) name) e
