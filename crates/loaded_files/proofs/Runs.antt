-- Runs of reads, one after another.
use Rattle.std.proofs.Common.{◌≡◌, ℕ, List, Option, Result, Ok, Err, refl, ap, subst, inl, inr, Some, ◌⊎◌}
use Rattle.loaded_files.specs.declared.refusal.LoadRefusal.{LoadRefusal}
use Rattle.loaded_files.specs.declared.refusal.LoadRefusal.TheVariants.{Memory, ReadFault}
use Rattle.loaded_files.specs.Reads.{◌>>=◌, IsGiven, Load, done, reading, after, Ran, Gives, loaded_from, seen_of}
use Rattle.outside_files.specs.Files.{Contents}
use Rattle.loaded_files.specs.declared.reads.Seen.{Seen}
use Rattle.tree_base.specs.Entries.{value_at}

-- what follows a value
pub ran_on : {A B : Type 0} (told : Option Contents) (load : Load A) (f : A → Load B) (x : A) (r : Result B LoadRefusal) → Ran told load (Ok x) → Ran told (f x) r → Ran told (load >>= f) r
ran_on {A} {B} told (done given) f x r h k = subst (λ (g : Result A LoadRefusal). Ran told (after g f) r) h k
ran_on told (reading path next) f x r (inl h) k = inl (h.0, h.1, ran_on told (next h.0) f x r h.2 k)
ran_on told (reading path next) f x r (inr h) k = absurd cc

-- a refusal is that of the whole
pub ran_out : {A B : Type 0} (told : Option Contents) (load : Load A) (f : A → Load B) (e : LoadRefusal) → Ran told load (Err e) → Ran told (load >>= f) (Err e)
ran_out {A} {B} told (done given) f e h = subst (λ (g : Result A LoadRefusal). Ran told (after g f) (Err e)) h refl
ran_out told (reading path next) f e (inl h) = inl (h.0, h.1, ran_out told (next h.0) f e h.2)
ran_out told (reading path next) f e (inr h) = inr (let same : e ≡ ReadFault path = cc in cc)

pub gives_on : {A B : Type 0} (told : Option Contents) (load : Load A) (f : A → Load B) (x : A) (r : Result B LoadRefusal) → Gives told (Ok x) load → Gives told r (f x) → Gives told r (load >>= f)
gives_on {A} {B} told load f x r h k = λ n. ran_on told load f x r (h (λ e. cc)) (k n)

pub gives_out : {A B : Type 0} (told : Option Contents) (load : Load A) (f : A → Load B) (e : LoadRefusal) → Gives {X = A} told (Err e) load → Gives {X = B} told (Err e) (load >>= f)
gives_out {A} {B} told load f e h = λ n. ran_out told load f e (h (λ q. n (again q)))
  where
    again : ◌≡◌ {A = Result A LoadRefusal} (Err e) (Err Memory) → ◌≡◌ {A = Result B LoadRefusal} (Err e) (Err Memory)
    again q = let same : e ≡ Memory = cc in cc

-- where files tell what they hold, what is loaded is what that gives, unless a read failed
pub ran_told : {X : Type 0} (files : Contents) (load : Load X) (r : Result X LoadRefusal) → Ran (Some files) load r → (r ≡ loaded_from files load) ⊎ ((path : List ℕ) × (r ≡ Err (ReadFault path)))
ran_told files (done given) r h = inl h
ran_told {X} files (reading path next) r (inl h) =
    ran_told files (next (seen_of (value_at files path))) r (subst (λ (seen : Seen). Ran (Some files) (next seen) r) h.1 h.2)
ran_told files (reading path next) r (inr h) = inr (path, h)

-- what follows a value that reads nothing
pub given_on : {A B : Type 0} (told : Option Contents) (first : Result A LoadRefusal) (f : A → Load B) (x : A) (r : Result B LoadRefusal) → IsGiven {X = A} (Ok x) first → Gives told r (f x) → Gives told r (after first f)
given_on {A} {B} told first f x r h k = subst (λ (g : Result A LoadRefusal). Gives told r (after g f)) (h (λ e. cc)) k

-- a refusal that reads nothing is that of the whole
pub given_out : {A B : Type 0} (told : Option Contents) (first : Result A LoadRefusal) (f : A → Load B) (e : LoadRefusal) → IsGiven {X = A} (Err e) first → Gives {X = B} told (Err e) (after first f)
given_out {A} {B} told first f e h = λ n. at (h (λ q. n (again q)))
  where
    again : ◌≡◌ {A = Result A LoadRefusal} (Err e) (Err Memory) → ◌≡◌ {A = Result B LoadRefusal} (Err e) (Err Memory)
    again q = let same : e ≡ Memory = cc in cc

    at : ◌≡◌ {A = Result A LoadRefusal} (Err e) first → Ran told (after first f) (Err e)
    at s = subst (λ (g : Result A LoadRefusal). Ran told (after g f) (Err e)) s refl

-- what follows a value that is loaded
pub loaded_on : {A B : Type 0} (files : Contents) (load : Load A) (f : A → Load B) (x : A) → loaded_from files load ≡ Ok x → loaded_from files (load >>= f) ≡ loaded_from files (f x)
loaded_on {A} {B} files (done result) f x h = ap (λ (r : Result A LoadRefusal). loaded_from files (after r f)) h
loaded_on files (reading path next) f x h = loaded_on files (next (seen_of (value_at files path))) f x h
