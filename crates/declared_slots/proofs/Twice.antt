-- Names in order, one after the other.
use Rattle.std.proofs.Common.{◌≡◌, ◌∙◌, ◌<◌, ◌+◌, ℕ, suc, Bool, true, false, List, [], ◌∷◌, Option, Some, None, cond, drop, get_or, length, refl, ap, sym, arith}
use Rattle.std.specs.Str.{bytes_eq}
use Rattle.std.proofs.Math.Numerals.{add-one}
use Rattle.std.proofs.Math.Seq.{drop-cons}
use Rattle.declared_slots.specs.Refusing.{twice_behind}

-- the next name, and those behind it
next_name : (names : List (List ℕ)) (i : ℕ) (name : List ℕ) → i < length names → name ≡ get_or names i name → drop i names ≡ name ∷ drop (i + 1) names
next_name names i name within is = rw (add-one) (drop-cons names i name within ∙ ap (λ (n : List ℕ). n ∷ drop (suc i) names) (sym is))

-- it is the name before it
pub twice_here : (before : List ℕ) (names : List (List ℕ)) (i : ℕ) (name : List ℕ) → i < length names → name ≡ get_or names i name
    → bytes_eq before name ≡ true → twice_behind before (drop i names) ≡ Some before
twice_here before names i name within is same =
    ap (twice_behind before) (next_name names i name within is) ∙ ap (λ (b : Bool). cond b (Some before) (twice_behind name (drop (i + 1) names))) same

-- or another one
pub twice_later : (before : List ℕ) (names : List (List ℕ)) (i : ℕ) (name : List ℕ) → i < length names → name ≡ get_or names i name
    → bytes_eq before name ≡ false → twice_behind before (drop i names) ≡ twice_behind name (drop (i + 1) names)
twice_later before names i name within is other =
    ap (twice_behind before) (next_name names i name within is) ∙ ap (λ (b : Bool). cond b (Some before) (twice_behind name (drop (i + 1) names))) other
