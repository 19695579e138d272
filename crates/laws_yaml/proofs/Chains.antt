-- What holds of each value that a reading gives, where it doesn't refuse.
use Rattle.std.proofs.Common.{◌≡◌, Bool, true, false, Result, Ok, Err, if◌then◌else◌, refl, subst}
use Rattle.yaml_lines.specs.declared.refusal.YamlRefusal.{YamlRefusal}
use Rattle.yaml_nodes.specs.Progress.{◌>>=◌}

-- a reading gives values with a property alone
pub record Yields {A : Type 0} (P : A → Type 0) (r : Result A YamlRefusal) : Type 0 where
  pub fact : (x : A) → r ≡ Ok x → P x

module _ {A : Type 0} {P : A → Type 0} where
  -- a value that is given
  pub given : (x : A) → P x → Yields P (Ok x)
  given x h = record { fact = λ y e. let same : x ≡ y = cc in subst P same h }

  -- a refusal gives none
  pub refused : (e : YamlRefusal) → Yields P (Err e)
  refused e = record { fact = λ y same. absurd (cc) }

  -- one of two readings
  pub either : (b : Bool) (r s : Result A YamlRefusal) → Yields P r → Yields P s → Yields P (if b then r else s)
  either true r s h k = h
  either false r s h k = k

  -- one of two readings, by a test
  pub either_by : (b : Bool) (r s : Result A YamlRefusal) → (b ≡ true → Yields P r) → (b ≡ false → Yields P s) → Yields P (if b then r else s)
  either_by true r s h k = h refl
  either_by false r s h k = k refl

-- one reading after another
pub chained : {A B : Type 0} {P : A → Type 0} {Q : B → Type 0} (r : Result A YamlRefusal) (f : A → Result B YamlRefusal) → Yields P r → ((x : A) → P x → Yields Q (f x)) → Yields Q (r >>= f)
chained (Ok x) f h rest = rest x (h.fact x refl)
chained (Err e) f h rest = refused e

-- any reading before another
pub followed : {A B : Type 0} {Q : B → Type 0} (r : Result A YamlRefusal) (f : A → Result B YamlRefusal) → ((x : A) → Yields Q (f x)) → Yields Q (r >>= f)
followed (Ok x) f rest = rest x
followed (Err e) f rest = refused e

-- a reading that changes nothing, before another
pub unchanged : {A B : Type 0} {Q : B → Type 0} (x : A) (r : Result A YamlRefusal) (f : A → Result B YamlRefusal) → Yields (λ y. x ≡ y) r → Yields Q (f x) → Yields Q (r >>= f)
unchanged {Q = Q} x (Ok y) f h rest = let same : x ≡ y = h.fact y refl in subst (λ z. Yields Q (f z)) same rest
unchanged x (Err e) f h rest = refused e

-- what holds of each value holds of the weaker property
pub weaker : {A : Type 0} {P Q : A → Type 0} {r : Result A YamlRefusal} → ((x : A) → P x → Q x) → Yields P r → Yields Q r
weaker le h = record { fact = λ x e. le x (h.fact x e) }
