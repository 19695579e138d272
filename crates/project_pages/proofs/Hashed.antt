-- The entries of the attributes that are hashed, one attribute further.
use Rattle.std.proofs.Common.{◌≡◌, ◌∙◌, ◌+◌, ◌<◌, ℕ, zero, suc, Bool, true, false, cond, List, [], ◌∷◌, length, get_or, map, take, refl, sym, ap, add-one, arith}
use Rattle.std.specs.Prelude.{filter}
use Rattle.std.specs.Cmp.Lexicographic.{nat_list_eq_equiv}
use Rattle.std.specs.List.{AllByRecursion, IsDistinct}
use Rattle.std.specs.Str.{bytes_eq}
use Rattle.std.proofs.lemmas.Map.Keys.{IsDistinct-head, IsDistinct-tail}
use Rattle.tree_base.specs.Entries.{with_entry}

-- a test of items, their keys, and what is shown of them
module _ {X V : Type 0} (test : X → Bool) (key : X → List ℕ) (show : X → V) where
  abbrev pub entries_of : List X → List (List ℕ × V)
  entries_of xs = map (λ (x : X). (key x, show x)) (filter test xs)

  -- an entry more, where an item passes
  abbrev pub put_if : List (List ℕ × V) → X → Bool → List (List ℕ × V)
  put_if entries x true = with_entry entries (key x) (show x)
  put_if entries x false = entries

  -- what is put to the entries of the first items is behind them
  behind : (x y : X) (xs : List X) (b : Bool) → bytes_eq (key y) (key x) ≡ false
      → put_if ((key x, show x) ∷ entries_of xs) y b ≡ (key x, show x) ∷ put_if (entries_of xs) y b
  behind x y xs true apart = ap (λ c. cond c ((key x, show y) ∷ entries_of xs) ((key x, show x) ∷ with_entry (entries_of xs) (key y) (show y))) apart
  behind x y xs false apart = refl

  apart : (name : List ℕ) (xs : List X) (i : ℕ) (y : X) → AllByRecursion (λ t. bytes_eq name t ≡ false) (map key xs) → i < length xs → y ≡ get_or xs i y → bytes_eq name (key y) ≡ false
  apart name [] i y h within is = absurd (omega arith)
  apart name (x ∷ xs) zero y h within is = ap (λ (z : X). bytes_eq name (key z)) is ∙ h.0
  apart name (x ∷ xs) (suc i) y h within is = apart name xs i y h.1 (omega arith) is

  first_on : (x : X) (b : Bool) → put_if [] x b ≡ map (λ (z : X). (key z, show z)) (cond b (x ∷ []) [])
  first_on x true = refl
  first_on x false = refl

  one_on : (xs : List X) (i : ℕ) (y : X) → IsDistinct bytes_eq (map key xs) → i < length xs → y ≡ get_or xs i y
      → put_if (entries_of (take i xs)) y (test y) ≡ entries_of (take (suc i) xs)
  one_on [] i y d within is = absurd (omega arith)
  one_on (x ∷ xs) zero y d within is = ap (λ (z : X). put_if [] z (test z)) is ∙ first_on x (test x)
  one_on (x ∷ xs) (suc i) y d within is =
      let other : bytes_eq (key y) (key x) ≡ false =
      nat_list_eq_equiv.symm (key y) (key x) ∙ apart (key x) xs i y (IsDistinct-head bytes_eq (key x) (map key xs) d) (omega arith) is in
      by (test x) (one_on xs i y (IsDistinct-tail bytes_eq (key x) (map key xs) d) (omega arith) is) other
    where
      by : (b : Bool) → put_if (entries_of (take i xs)) y (test y) ≡ entries_of (take (suc i) xs) → bytes_eq (key y) (key x) ≡ false
          → put_if (map (λ (z : X). (key z, show z)) (cond b (x ∷ filter test (take i xs)) (filter test (take i xs)))) y (test y)
          ≡ map (λ (z : X). (key z, show z)) (cond b (x ∷ filter test (take (suc i) xs)) (filter test (take (suc i) xs)))
      by true rest other = behind x y (take i xs) (test y) other ∙ ap (λ (l : List (List ℕ × V)). (key x, show x) ∷ l) rest
      by false rest other = rest

  pub one_hashed : (xs : List X) (i : ℕ) (y : X) (done new : List (List ℕ × V)) → IsDistinct bytes_eq (map key xs) → i < length xs → y ≡ get_or xs i y
      → done ≡ entries_of (take i xs) → new ≡ put_if done y (test y) → new ≡ entries_of (take (i + 1) xs)
  one_hashed xs i y done new d within is so e =
      e ∙ ap (λ (l : List (List ℕ × V)). put_if l y (test y)) so ∙ one_on xs i y d within is ∙ ap (λ n. entries_of (take n xs)) (sym (add-one i))
