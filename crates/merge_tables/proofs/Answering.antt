-- What follows a step that fails or gives its value.
use Rattle.std.proofs.Common.{◌≡◌, ◌∙◌, List, ◌∷◌, [], ◌++◌, reverse, Result, Ok, Err, ap, sym}
use Rattle.std.proofs.lemmas.List.{reverse-append}
use Rattle.tree_base.specs.Answers.{◌>>=◌}
use Rattle.tree_base.specs.declared.Step.{Step}
use Rattle.merge_tables.specs.declared.refusal.MergeRefusal.{MergeRefusal}
use Rattle.merge_tables.specs.declared.refusal.MergeRefusal.TheVariants.{KindMismatch, BadUniqueEntry, MarkUnderExtends, TooManyNodes, TooMuchText, Memory}
use Rattle.merge_tables.specs.Answers.{Fails, Gives, outer, turned, under}

-- what fails at first fails as a whole
pub fails_on : {A B : Type 0} (e : MergeRefusal) (read : Result A MergeRefusal) (f : A → Result B MergeRefusal) → Fails e read → Fails e (read >>= f)
fails_on {A} {B} (KindMismatch path) read f h = ap (λ (r : Result A MergeRefusal). r >>= f) h
fails_on {A} {B} (BadUniqueEntry path) read f h = ap (λ (r : Result A MergeRefusal). r >>= f) h
fails_on {A} {B} (MarkUnderExtends path) read f h = ap (λ (r : Result A MergeRefusal). r >>= f) h
fails_on {A} {B} TooManyNodes read f h = ap (λ (r : Result A MergeRefusal). r >>= f) h
fails_on {A} {B} TooMuchText read f h = ap (λ (r : Result A MergeRefusal). r >>= f) h
fails_on Memory read f h = tt

-- what gives its value goes on with it
pub goes_on : {A B : Type 0} (read : Result A MergeRefusal) (f : A → Result B MergeRefusal) (a : A) → read ≡ Ok a → (read >>= f) ≡ f a
goes_on {A} {B} read f a h = ap (λ (r : Result A MergeRefusal). r >>= f) h

pub same_fails : {A : Type 0} (e : MergeRefusal) (read other : Result A MergeRefusal) → read ≡ other → Fails e read → Fails e other
same_fails (KindMismatch path) read other s h = sym s ∙ h
same_fails (BadUniqueEntry path) read other s h = sym s ∙ h
same_fails (MarkUnderExtends path) read other s h = sym s ∙ h
same_fails TooManyNodes read other s h = sym s ∙ h
same_fails TooMuchText read other s h = sym s ∙ h
same_fails Memory read other s h = tt

reverse_step : (path : List Step) (step : Step) → reverse (path ++ step ∷ []) ≡ step ∷ reverse path
reverse_step path step = reverse-append path (step ∷ [])

abbrev failed : (A : Type 0) → MergeRefusal → Result A MergeRefusal
failed A e = Err e

-- what fails fails a step below, with that step
pub under_fails : {A : Type 0} (step : Step) (e : MergeRefusal) (read : Result A MergeRefusal) → Fails (turned e) read → Fails (turned (outer step e)) (under step read)
under_fails {A} step (KindMismatch path) read h =
    ap (under step) h ∙ ap (λ (p : List Step). failed A (KindMismatch p)) (sym (reverse_step path step))
under_fails {A} step (BadUniqueEntry path) read h =
    ap (under step) h ∙ ap (λ (p : List Step). failed A (BadUniqueEntry p)) (sym (reverse_step path step))
under_fails {A} step (MarkUnderExtends path) read h =
    ap (under step) h ∙ ap (λ (p : List Step). failed A (MarkUnderExtends p)) (sym (reverse_step path step))
under_fails step TooManyNodes read h = ap (under step) h
under_fails step TooMuchText read h = ap (under step) h
under_fails step Memory read h = tt

-- an answer gives itself
pub gives_same : {A : Type 0} (given answer : Result A MergeRefusal) → answer ≡ given → Gives given answer
gives_same (Ok x) answer h = h
gives_same (Err (KindMismatch path)) answer h = h
gives_same (Err (BadUniqueEntry path)) answer h = h
gives_same (Err (MarkUnderExtends path)) answer h = h
gives_same (Err TooManyNodes) answer h = h
gives_same (Err TooMuchText) answer h = h
gives_same (Err Memory) answer h = tt
