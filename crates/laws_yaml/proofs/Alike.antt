-- Readings that are alike: but for the lines of places they give the same.
use Rattle.std.proofs.Common.{◌≡◌, Bool, true, false, Result, Ok, Err, ap, subst, if◌then◌else◌}
use Rattle.yaml_lines.specs.declared.refusal.YamlRefusal.{YamlRefusal}
use Rattle.yaml_nodes.specs.Progress.{◌>>=◌}
use Rattle.laws_yaml.specs.BlankLines.{kept, unlined_refusal}

-- two readings give values of which the same is kept, or are refused but for a line alike
pub record Alike {A B : Type 0} (keep : A → B) (r s : Result A YamlRefusal) : Type 0 where
  pub same : kept keep r ≡ kept keep s

-- two readings give the same value, or are refused alike
abbrev pub Same : {A : Type 0} → Result A YamlRefusal → Result A YamlRefusal → Type 0
Same {A = A} r s = Alike (λ (x : A). x) r s

-- what is kept of a value beside another
abbrev pub beside : {A B C : Type 0} → (A → B) → A × C → B × C
beside keep x = (keep x.0, x.1)

module _ {A B : Type 0} {keep : A → B} where
  pub gives : {x y : A} → keep x ≡ keep y → Alike keep (Ok x) (Ok y)
  gives h = record { same = λ i. Ok (h i) }

  pub refuses : {e f : YamlRefusal} → unlined_refusal e ≡ unlined_refusal f → Alike keep (Err e) (Err f)
  refuses h = record { same = λ i. Err (h i) }

  -- one of two readings, by one test
  pub either : (b : Bool) {r s r' s' : Result A YamlRefusal} → Alike keep r r' → Alike keep s s' → Alike keep (if b then r else s) (if b then r' else s')
  either true h k = h
  either false h k = k

  -- one of two readings, by tests that agree
  pub either_by : (b c : Bool) {r s r' s' : Result A YamlRefusal} → b ≡ c → Alike keep r r' → Alike keep s s' → Alike keep (if b then r else s) (if c then r' else s')
  either_by true true e h k = h
  either_by false false e h k = k
  either_by true false e h k = absurd (cc)
  either_by false true e h k = absurd (cc)

module _ {A B C D : Type 0} {keep : A → B} {keep' : C → D} where
  linked : (r s : Result A YamlRefusal) (f g : A → Result C YamlRefusal) → kept keep r ≡ kept keep s → ((x y : A) → keep x ≡ keep y → Alike keep' (f x) (g y)) → Alike keep' (r >>= f) (s >>= g)
  linked (Ok x) (Ok y) f g h next = let same : keep x ≡ keep y = cc in next x y same
  linked (Err e) (Err d) f g h next = let same : unlined_refusal e ≡ unlined_refusal d = cc in record { same = λ i. Err (same i) }
  linked (Ok x) (Err d) f g h next = absurd (cc)
  linked (Err e) (Ok y) f g h next = absurd (cc)

  -- one reading after another
  pub chained : {r s : Result A YamlRefusal} {f g : A → Result C YamlRefusal} → Alike keep r s → ((x y : A) → keep x ≡ keep y → Alike keep' (f x) (g y)) → Alike keep' (r >>= f) (s >>= g)
  chained h next = linked _ _ _ _ h.same next

-- one reading after another that gives the same
pub followed : {A C D : Type 0} {keep' : C → D} {r s : Result A YamlRefusal} {f g : A → Result C YamlRefusal} → Same r s → ((x : A) → Alike keep' (f x) (g x)) → Alike keep' (r >>= f) (s >>= g)
followed {A = A} {keep' = keep'} {f = f} {g = g} h next = chained h (λ x y same. subst (λ (z : A). Alike keep' (f x) (g z)) same (next x))

-- one reading after another that gives something beside what is the same
pub followed_beside : {A B C X D : Type 0} (keep : A → B) {keep' : X → D} (f g : A × C → Result X YamlRefusal) {r s : Result (A × C) YamlRefusal}
    → Alike (beside keep) r s → ((a b : A) (c : C) → keep a ≡ keep b → Alike keep' (f (a, c)) (g (b, c))) → Alike keep' (r >>= f) (s >>= g)
followed_beside {A = A} {B = B} {C = C} keep {keep' = keep'} f g h next =
    chained h (λ x y same. subst (λ (z : C). Alike keep' (f x) (g (y.0, z))) (ap (λ (z : B × C). z.1) same) (next x.0 y.0 x.1 (ap (λ (z : B × C). z.0) same)))
