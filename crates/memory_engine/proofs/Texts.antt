-- Texts that are equal or not, and tests that split.
use Rattle.std.proofs.Common.{◌≡◌, ℕ, Bool, true, false, List, ⊎_elim, sym, ◌∙◌}
use Rattle.std.specs.Str.{bytes_eq}
use Rattle.std.specs.Cmp.Lexicographic.{nat_list_eq_equiv}
use Rattle.std.proofs.lemmas.Bool.{cases_Bool}
use Rattle.std.proofs.lemmas.Slice.Eq.{bytes_eq-Decides}

-- a proof by the two values of a test
pub by_cases : {P : Type 0} (b : Bool) → (b ≡ true → P) → (b ≡ false → P) → P
by_cases b on_true on_false = ⊎_elim on_true on_false (cases_Bool b)

pub same_text : (xs ys : List ℕ) → bytes_eq xs ys ≡ true → xs ≡ ys
same_text xs ys = (bytes_eq-Decides xs ys).0

pub bytes_eq_itself : (xs : List ℕ) → bytes_eq xs xs ≡ true
bytes_eq_itself = nat_list_eq_equiv.refl

pub bytes_eq_flips : (xs ys : List ℕ) → bytes_eq xs ys ≡ bytes_eq ys xs
bytes_eq_flips = nat_list_eq_equiv.symm

-- equal texts answer alike
pub bytes_eq_alike : (xs ys zs : List ℕ) → bytes_eq xs ys ≡ true → bytes_eq xs zs ≡ bytes_eq ys zs
bytes_eq_alike = nat_list_eq_equiv.congr

-- what equals one of two texts that differ isn't the other
pub bytes_eq_apart : (xs ys zs : List ℕ) → bytes_eq xs ys ≡ false → bytes_eq xs zs ≡ true → bytes_eq ys zs ≡ false
bytes_eq_apart xs ys zs apart same =
    bytes_eq_flips ys zs ∙ sym (bytes_eq_alike xs zs ys same) ∙ apart
