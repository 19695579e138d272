-- A search through numbers goes on past one that fails the test.
use Rattle.std.proofs.Common.{◌≡◌, ◌∙◌, ℕ, suc, ◌+◌, ◌-◌, ◌<◌, Bool, false, Option, Some, None, refl, ap, arith}
use Rattle.std.specs.Option.{option_or}
use Rattle.std.specs.Prelude.{find}
use Rattle.run_model.specs.Numbers.{numbers_from}
use Rattle.run_report.specs.Conditions.{first_some}

pub passed : (p : ℕ → Bool) (i n : ℕ) → i < n → p i ≡ false → find p (numbers_from i (n - i)) ≡ find p (numbers_from (i + 1) (n - (i + 1)))
passed p i n within e =
    let more : n - i ≡ suc (n - (i + 1)) = omega arith in
    ap (λ (k : ℕ). find p (numbers_from i k)) more ∙ rw e refl

-- what isn't some is none
pub none_from : {X : Type 0} (o : Option X) → ((x : X) → o ≡ Some x → ⊥) → o ≡ None
none_from None h = refl
none_from (Some x) h = absurd (h x refl)

-- the first value of a function goes past a number that gives none, and stops at one that gives some
module _ {X : Type 0} (f : ℕ → Option X) (i n : ℕ) (within : i < n) where
  one : (o : Option X) → f i ≡ o → first_some f (numbers_from i (n - i)) ≡ option_or o (first_some f (numbers_from (i + 1) (n - (i + 1))))
  one o e =
      let more : n - i ≡ suc (n - (i + 1)) = omega arith in
      ap (λ (k : ℕ). first_some f (numbers_from i k)) more ∙ ap (λ (x : Option X). option_or x (first_some f (numbers_from (i + 1) (n - (i + 1))))) e

  pub passed_some : f i ≡ None → first_some f (numbers_from i (n - i)) ≡ first_some f (numbers_from (i + 1) (n - (i + 1)))
  passed_some e = one None e

  pub stopped_some : (x : X) → f i ≡ Some x → first_some f (numbers_from i (n - i)) ≡ Some x
  stopped_some x e = one (Some x) e
