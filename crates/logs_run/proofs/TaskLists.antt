-- What is asked of slots, one after the other.
use Rattle.std.proofs.Common.{◌≡◌, ◌∙◌, ℕ, zero, suc, ◌+◌, ◌%◌, ◌<◌, ◌≤◌, Bool, true, false, cond, List, [], ◌∷◌, ◌++◌, Option, Some, None, drop, length, map, take, slice_get, refl, sym, ap, append_assoc, arith, add-one}
use Rattle.std.proofs.lemmas.List.{append-nil, drop_all}
use Rattle.std.proofs.lemmas.List.Elements.{filter-append}
use Rattle.std.specs.Prelude.{◌==◌, filter}
use mathlib.Core.List.{IsPrefix}
use Rattle.engine_types.specs.declared.Declared.{Declared}
use Rattle.engine_types.specs.declared.Listed.{Listed}
use Rattle.engine_types.specs.declared.Slot.{Slot}
use Rattle.turn_ledger.specs.Own.{Each}
use Rattle.logs_run.specs.declared.tasks.Task.{Task}
use Rattle.logs_run.specs.Slots.{AreAscending, container_of, has_terminal, own_tasks, tasks, tasks_from, tasks_of}

-- a slot with a terminal is passed over
pub terminal_none : (n : ℕ) (row : Option Listed) → tasks_of n true row ≡ []
terminal_none n None = refl
terminal_none n (Some row) = refl

pub passed_terminal : (all : List Task) (n : ℕ) (terminal : Bool) (row : Option Listed) → terminal ≡ true → all ≡ all ++ tasks_of n terminal row
passed_terminal all n terminal row e = rw e (sym (ap (λ (l : List Task). all ++ l) (terminal_none n row) ∙ append-nil all))

-- and so is one without a container
none_there : (n : ℕ) (terminal : Bool) → tasks_of n terminal None ≡ []
none_there n true = refl
none_there n false = refl

pub passed_none : (all : List Task) (n : ℕ) (terminal : Bool) (row : Option Listed) → row ≡ None → all ≡ all ++ tasks_of n terminal row
passed_none all n terminal row e = rw e (sym (ap (λ (l : List Task). all ++ l) (none_there n terminal) ∙ append-nil all))

-- another one with a container is asked
pub asked_some : (all new : List Task) (n : ℕ) (terminal : Bool) (row : Option Listed) (listed : Listed) (id : List ℕ) → terminal ≡ false → row ≡ Some listed → id ≡ listed.id
    → new ≡ all ++ record { slot = n; id = id } ∷ [] → new ≡ all ++ tasks_of n terminal row
asked_some all new n terminal row listed id e is same put = rw (e, is) (put ∙ ap (λ (x : List ℕ). all ++ record { slot = n; id = x } ∷ []) same)

next_left : {X : Type 0} (xs : List X) (i : ℕ) (x : X) → slice_get xs i ≡ Some x → drop i xs ≡ x ∷ drop (suc i) xs
next_left [] i x e = absurd cc
next_left {X} (y ∷ xs) zero x e = let same : y ≡ x = cc in ap (λ (z : X). z ∷ xs) same
next_left (y ∷ xs) (suc i) x e = next_left xs i x e

pub left_from : {X : Type 0} (xs : List X) (i : ℕ) (x : X) → slice_get xs i ≡ Some x → drop i xs ≡ x ∷ drop (i + 1) xs
left_from xs i x e = rw add-one (next_left xs i x e)

next_taken : {X : Type 0} (xs : List X) (i : ℕ) (x : X) → slice_get xs i ≡ Some x → take (suc i) xs ≡ take i xs ++ x ∷ []
next_taken [] i x e = absurd cc
next_taken {X} (y ∷ xs) zero x e = let same : y ≡ x = cc in ap (λ (z : X). z ∷ []) same
next_taken {X} (y ∷ xs) (suc i) x e = ap (λ (l : List X). y ∷ l) (next_taken xs i x e)

pub taken_next : {X : Type 0} (xs : List X) (i : ℕ) (x : X) → slice_get xs i ≡ Some x → take (i + 1) xs ≡ take i xs ++ x ∷ []
taken_next xs i x e = rw add-one (next_taken xs i x e)

-- what is asked of one slot more
pub tasks_more : (declared : Declared) (rows : List Listed) (n : ℕ) (slot : Slot) (done new : List Task) → slice_get declared.slots n ≡ Some slot
    → new ≡ done ++ tasks_of n (has_terminal slot) (container_of declared rows slot)
    → done ++ tasks_from declared rows n (drop n declared.slots) ≡ tasks declared rows
    → new ++ tasks_from declared rows (n + 1) (drop (n + 1) declared.slots) ≡ tasks declared rows
tasks_more declared rows n slot done new at put all =
    ap (λ (l : List Task). l ++ rest) put
    ∙ append_assoc done (tasks_of n (has_terminal slot) (container_of declared rows slot)) rest
    ∙ ap (λ (l : List Slot). done ++ tasks_from declared rows n l) (sym (left_from declared.slots n slot at))
    ∙ all
  where
    rest : List Task
    rest = tasks_from declared rows (n + 1) (drop (n + 1) declared.slots)

pub tasks_whole : (declared : Declared) (rows : List Listed) (n : ℕ) (done : List Task) → length declared.slots ≤ n
    → done ++ tasks_from declared rows n (drop n declared.slots) ≡ tasks declared rows → done ≡ tasks declared rows
tasks_whole declared rows n done past all =
    sym (append-nil done) ∙ ap (λ (l : List Slot). done ++ tasks_from declared rows n l) (sym (drop_all n declared.slots past)) ∙ all

-- facts of each
pub each_append : {X : Type 0} (P : X → Type 0) (xs ys : List X) → Each P xs → Each P ys → Each P (xs ++ ys)
each_append P [] ys h k = k
each_append P (x ∷ xs) ys (one, more) k = (one, each_append P xs ys more k)

pub each_one : {X : Type 0} (P : X → Type 0) (xs ys : List X) → Each P (xs ++ ys) → Each P xs
each_one P [] ys h = tt
each_one P (x ∷ xs) ys (one, more) = (one, each_one P xs ys more)

pub each_other : {X : Type 0} (P : X → Type 0) (xs ys : List X) → Each P (xs ++ ys) → Each P ys
each_other P [] ys h = h
each_other P (x ∷ xs) ys (one, more) = each_other P xs ys more

pub each_so : {X : Type 0} (P Q : X → Type 0) (xs : List X) → ((x : X) → P x → Q x) → Each P xs → Each Q xs
each_so P Q [] so h = tt
each_so P Q (x ∷ xs) so (one, more) = (so x one, each_so P Q xs so more)

each_cond : {X : Type 0} (P : X → Type 0) (t : Bool) (x : X) (xs : List X) → P x → Each P xs → Each P (cond t (x ∷ xs) xs)
each_cond P true x xs one more = (one, more)
each_cond P false x xs one more = more

pub each_filter : {X : Type 0} (P : X → Type 0) (p : X → Bool) (xs : List X) → Each P xs → Each P (filter p xs)
each_filter P p [] h = tt
each_filter P p (x ∷ xs) (one, more) = each_cond P (p x) x (filter p xs) one (each_filter P p xs more)

pub each_map : {X Y : Type 0} (P : Y → Type 0) (f : X → Y) (xs : List X) → Each P (map f xs) → Each (λ (x : X). P (f x)) xs
each_map P f [] h = tt
each_map P f (x ∷ xs) (one, more) = (one, each_map P f xs more)

-- the slots of what is asked from a place on
within_of : (n : ℕ) (terminal : Bool) (row : Option Listed) → Each (λ (task : Task). task.slot ≡ n) (tasks_of n terminal row)
within_of n true None = tt
within_of n false None = tt
within_of n true (Some row) = tt
within_of n false (Some row) = (refl, tt)

abbrev Within : ℕ → ℕ → Task → Type 0
Within from to task = (from ≤ task.slot) × (task.slot < to)

pub within_from : (declared : Declared) (rows : List Listed) (n : ℕ) (slots : List Slot) → Each (Within n (n + length slots)) (tasks_from declared rows n slots)
within_from declared rows n [] = tt
within_from declared rows n (slot ∷ slots) =
    each_append (Within n (n + length (slot ∷ slots))) (tasks_of n (has_terminal slot) (container_of declared rows slot)) (tasks_from declared rows (n + 1) slots)
    (each_so (λ (task : Task). task.slot ≡ n) (Within n (n + length (slot ∷ slots))) (tasks_of n (has_terminal slot) (container_of declared rows slot))
    (λ task is. (omega (arith, is), omega (arith, is))) (within_of n (has_terminal slot) (container_of declared rows slot)))
    (each_so (Within (n + 1) (n + 1 + length slots)) (Within n (n + length (slot ∷ slots))) (tasks_from declared rows (n + 1) slots)
    (λ task is. let low = is.0 in let high = is.1 in (omega (arith, low), omega (arith, high))) (within_from declared rows (n + 1) slots))

pub below_slots : (declared : Declared) (rows : List Listed) → Each (λ (task : Task). task.slot < length declared.slots) (tasks declared rows)
below_slots declared rows =
    each_so (Within 0 (0 + length declared.slots)) (λ (task : Task). task.slot < length declared.slots) (tasks declared rows)
    (λ task is. let high = is.1 in omega (arith, high)) (within_from declared rows 0 declared.slots)

-- they ascend
ascend_of : (n : ℕ) (terminal : Bool) (row : Option Listed) (rest : List Task) → Each (λ (task : Task). n < task.slot) rest → AreAscending rest → AreAscending (tasks_of n terminal row ++ rest)
ascend_of n true None rest above h = h
ascend_of n false None rest above h = h
ascend_of n true (Some row) rest above h = h
ascend_of n false (Some row) rest above h = (above, h)

ascend_from : (declared : Declared) (rows : List Listed) (n : ℕ) (slots : List Slot) → AreAscending (tasks_from declared rows n slots)
ascend_from declared rows n [] = tt
ascend_from declared rows n (slot ∷ slots) =
    ascend_of n (has_terminal slot) (container_of declared rows slot) (tasks_from declared rows (n + 1) slots)
    (each_so (Within (n + 1) (n + 1 + length slots)) (λ (task : Task). n < task.slot) (tasks_from declared rows (n + 1) slots)
    (λ task is. let low = is.0 in omega (arith, low)) (within_from declared rows (n + 1) slots))
    (ascend_from declared rows (n + 1) slots)

pub tasks_ascend : (declared : Declared) (rows : List Listed) → AreAscending (tasks declared rows)
tasks_ascend declared rows = ascend_from declared rows 0 declared.slots

-- those before a task have lesser slots
pub less_before : (before behind : List Task) (task : Task) → AreAscending (before ++ task ∷ behind) → Each (λ (other : Task). other.slot < task.slot) before
less_before [] behind task h = tt
less_before (x ∷ before) behind task (one, more) =
    ((each_other (λ (other : Task). x.slot < other.slot) before (task ∷ behind) one).0, less_before before behind task more)

-- some of ascending tasks ascend
ascend_cond : (t : Bool) (task : Task) (all some : List Task) → Each (λ (other : Task). task.slot < other.slot) some → AreAscending some → AreAscending (cond t (task ∷ some) some)
ascend_cond true task all some above h = (above, h)
ascend_cond false task all some above h = h

pub ascend_some : (p : Task → Bool) (all : List Task) → AreAscending all → AreAscending (filter p all)
ascend_some p [] h = tt
ascend_some p (task ∷ all) (one, more) =
    ascend_cond (p task) task all (filter p all) (each_filter (λ (other : Task). task.slot < other.slot) p all one) (ascend_some p all more)

-- a worker's tasks, with one task more that is its own, or another's
pub own_more : (workers w : ℕ) (done : List Task) (task : Task) → (task.slot % workers == w) ≡ true → own_tasks workers w (done ++ task ∷ []) ≡ own_tasks workers w done ++ task ∷ []
own_more workers w done task is = filter-append (λ (t : Task). t.slot % workers == w) done (task ∷ []) ∙ ap (λ (l : List Task). own_tasks workers w done ++ l) (rw is refl)

pub own_less : (workers w : ℕ) (done : List Task) (task : Task) → (task.slot % workers == w) ≡ false → own_tasks workers w (done ++ task ∷ []) ≡ own_tasks workers w done
own_less workers w done task is = filter-append (λ (t : Task). t.slot % workers == w) done (task ∷ []) ∙ ap (λ (l : List Task). own_tasks workers w done ++ l) (rw is refl) ∙ append-nil (own_tasks workers w done)

-- what a worker's first tasks are to all of them
pub own_first : (workers w : ℕ) (done rest : List Task) → IsPrefix (own_tasks workers w done) (own_tasks workers w (done ++ rest))
own_first workers w done rest = (own_tasks workers w rest, sym (filter-append (λ (t : Task). t.slot % workers == w) done rest))
