-- One part of a reading after another, as a chain of `?` meets them.
use Rattle.std.proofs.Common.{◌≡◌, ◌∙◌, Result, Ok, Err, sym, ap, subst}
use Rattle.yaml_lines.specs.declared.refusal.YamlRefusal.{YamlRefusal}
use Rattle.yaml_lines.specs.declared.refusal.YamlRefusal.TheVariants.{Bad, TooDeep, TooManyNodes, TooMuchText, Memory}
use Rattle.yaml_lines.specs.Answers.{Fails, Gives}
use Rattle.yaml_nodes.specs.Progress.{◌>>=◌, result_beside}

-- what was read goes on
pub goes_on : {A B : Type 0} (r : Result A YamlRefusal) (x : A) (f : A → Result B YamlRefusal) → r ≡ Ok x → (r >>= f) ≡ f x
goes_on r x f h = ap (λ y. y >>= f) h

-- a refusal of the first part is the whole's
pub fails_on : {A B : Type 0} (e : YamlRefusal) (r : Result A YamlRefusal) (f : A → Result B YamlRefusal) → Fails e r → Fails e (r >>= f)
fails_on Memory r f h = tt
fails_on (Bad which place) r f h = ap (λ x. x >>= f) h
fails_on (TooDeep place) r f h = ap (λ x. x >>= f) h
fails_on (TooManyNodes place) r f h = ap (λ x. x >>= f) h
fails_on (TooMuchText place) r f h = ap (λ x. x >>= f) h

-- a refusal of an answer is one of an equal answer
pub fails_as : {A : Type 0} (e : YamlRefusal) (r s : Result A YamlRefusal) → r ≡ s → Fails e r → Fails e s
fails_as Memory r s same h = tt
fails_as (Bad which place) r s same h = sym same ∙ h
fails_as (TooDeep place) r s same h = sym same ∙ h
fails_as (TooManyNodes place) r s same h = sym same ∙ h
fails_as (TooMuchText place) r s same h = sym same ∙ h

-- a refusal of the part behind what was read is the whole's
pub fails_behind : {A B : Type 0} (e : YamlRefusal) (r : Result A YamlRefusal) (x : A) (f : A → Result B YamlRefusal) → r ≡ Ok x → Fails e (f x) → Fails e (r >>= f)
fails_behind e r x f h later = fails_as e (f x) (r >>= f) (sym (goes_on r x f h)) later

-- what gives an answer gives an equal one
pub gives_as : {A : Type 0} (r : Result A YamlRefusal) {x y : Result A YamlRefusal} → x ≡ y → Gives r y → Gives r x
gives_as r e h = let P : Result _ YamlRefusal → Type 0 = λ z. Gives r z in subst P (sym e) h

-- what gives the answer of the part behind what was read gives the whole's
pub gives_behind : {A B : Type 0} (s : Result B YamlRefusal) (r : Result A YamlRefusal) (x : A) (f : A → Result B YamlRefusal) → r ≡ Ok x → Gives s (f x) → Gives s (r >>= f)
gives_behind s r x f h later = gives_as s (goes_on r x f h) later

-- what gives a pair gives its first, where the second is let go
pub gives_first : {A X : Type 0} (r : Result A YamlRefusal) (x : X) (answer : Result (A × X) YamlRefusal) → Gives (result_beside r x) answer → Gives r (answer >>= λ got. Ok got.0)
gives_first (Ok a) x answer h = ap (λ y. y >>= λ got. Ok got.0) h
gives_first (Err e) x answer h = fails_on e answer (λ got. Ok got.0) h
