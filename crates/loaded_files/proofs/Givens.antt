-- Answers that read nothing, one after another.
use Rattle.std.proofs.Common.{◌≡◌, Result, Ok, Err, ap, subst}
use Rattle.loaded_files.specs.Reads.{IsGiven}
use Rattle.loaded_files.specs.declared.refusal.LoadRefusal.{LoadRefusal}
use Rattle.loaded_files.specs.declared.refusal.LoadRefusal.TheVariants.{Memory}
use Rattle.tree_base.specs.Answers.{◌>>=◌}

-- what follows a value
pub then_given : {A B : Type 0} (first : Result A LoadRefusal) (f : A → Result B LoadRefusal) (x : A) (r : Result B LoadRefusal) → IsGiven {X = A} (Ok x) first → IsGiven r (f x) → IsGiven r (first >>= f)
then_given {A} {B} first f x r h k = subst (λ (g : Result A LoadRefusal). IsGiven r (g >>= f)) (h (λ e. cc)) k

-- a refusal is that of the whole
pub then_refused : {A B : Type 0} (first : Result A LoadRefusal) (f : A → Result B LoadRefusal) (e : LoadRefusal) → IsGiven {X = A} (Err e) first → IsGiven {X = B} (Err e) (first >>= f)
then_refused {A} {B} first f e h = λ n. ap (λ (g : Result A LoadRefusal). g >>= f) (h (λ q. n (again q)))
  where
    again : ◌≡◌ {A = Result A LoadRefusal} (Err e) (Err Memory) → ◌≡◌ {A = Result B LoadRefusal} (Err e) (Err Memory)
    again q = let same : e ≡ Memory = cc in cc

-- an answer that is given is given as an equal one
pub same_given : {A : Type 0} (r first other : Result A LoadRefusal) → first ≡ other → IsGiven r first → IsGiven r other
same_given {A} r first other s h = subst (λ (g : Result A LoadRefusal). IsGiven r g) s h
