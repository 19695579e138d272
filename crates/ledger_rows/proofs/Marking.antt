-- What a loop over the actions that a loss stops leaves.
use Rattle.std.proofs.Common.{◌≡◌, ◌⊎◌, ℕ, zero, suc, ◌+◌, ◌<◌, ◌≤◌, Bool, true, false, cond, ◌&&◌, ◌||◌, ◌==◌, List, [], ◌∷◌, length, take, get_or, set, Option, Some, None, if◌then◌else◌, refl, sym, ap, ◌∙◌, subst, inl, inr, arith}
use Rattle.std.proofs.lemmas.Bool.{cases_eq, eqb-true, eq-eqb, true≢false}
use Rattle.std.proofs.lemmas.Grind.{common_steps}
use Rattle.std.specs.List.{list_any}
use Rattle.std.specs.Prelude.{is_some}
use Rattle.ledger_rows.specs.ActionRows.{state_at}
use Rattle.ledger_rows.specs.ActionRows.Values.{Actions}
use Rattle.ledger_rows.specs.Counts.{counted, is_listed}
use Rattle.ledger_rows.specs.Rows.{Blocks, is_free_state, is_pending_in, work}
use Rattle.ledger_rows.specs.declared.action_rows.State.{State}

any_more : (p : ℕ → Bool) (xs : List ℕ) (i : ℕ) → i < length xs → list_any p (take (i + 1) xs) ≡ (list_any p (take i xs) || p (get_or xs i 0))
any_more p [] i l = absurd (omega arith)
any_more p (x ∷ xs) zero l = or_false (p x)
  where
    or_false : (t : Bool) → (t || false) ≡ t
    or_false true = refl
    or_false false = refl
any_more p (x ∷ xs) (suc i) l = let h : i < length xs = omega arith in
    subst (λ (k : ℕ). list_any p (take k (x ∷ xs)) ≡ (list_any p (take (suc i) (x ∷ xs)) || p (get_or xs i 0))) (let e : suc (i + 1) ≡ suc i + 1 = omega arith in e)
    (ap (λ (t : Bool). p x || t) (any_more p xs i h) ∙ assoc (p x) (list_any p (take i xs)) (p (get_or xs i 0)))
  where
    assoc : (t u v : Bool) → (t || (u || v)) ≡ ((t || u) || v)
    assoc true u v = refl
    assoc false u v = refl

counted_set : {X : Type 0} (p : X → Bool) (xs : List X) (i : ℕ) (y d : X) → i < length xs → counted p (set xs i y) + cond {A = ℕ} (p (get_or xs i d)) 1 0 ≡ counted p xs + cond {A = ℕ} (p y) 1 0
counted_set p [] i y d l = absurd (omega arith)
counted_set p (x ∷ xs) zero y d l = on (p y) (p x)
  where
    on : (t u : Bool) → cond t (counted p xs + 1) (counted p xs) + cond {A = ℕ} u 1 0 ≡ cond u (counted p xs + 1) (counted p xs) + cond {A = ℕ} t 1 0
    on true true = refl
    on true false = omega arith
    on false true = omega arith
    on false false = refl
counted_set p (x ∷ xs) (suc i) y d l = let h : i < length xs = omega arith in on (p x) (counted_set p xs i y d h)
  where
    on : (t : Bool) → counted p (set xs i y) + cond {A = ℕ} (p (get_or xs i d)) 1 0 ≡ counted p xs + cond {A = ℕ} (p y) 1 0
        → cond t (counted p (set xs i y) + 1) (counted p (set xs i y)) + cond {A = ℕ} (p (get_or xs i d)) 1 0 ≡ cond t (counted p xs + 1) (counted p xs) + cond {A = ℕ} (p y) 1 0
    on true e = omega (arith, e)
    on false e = e

is_free_is : (s : State) → is_free_state s ≡ true → s ≡ State.Free
is_free_is State.Free h = refl
is_free_is State.Blocked h = absurd (true≢false (sym h))
is_free_is State.Out h = absurd (true≢false (sym h))
is_free_is (State.Well at) h = absurd (true≢false (sym h))
is_free_is State.Badly h = absurd (true≢false (sym h))

module _ (xs : List ℕ) (i : ℕ) (rows now : Actions) (pending later : List (Option ℕ)) (inside : i < length xs) (so_far : Blocks (take i xs) rows now pending later) where
  listed : (a : ℕ) → is_listed (take (i + 1) xs) a ≡ (is_listed (take i xs) a || (get_or xs i 0 == a))
  listed a = any_more (λ b. b == a) xs i inside

  -- the action wasn't free any more
  pub blocks_not : (state_at now (get_or xs i 0) ≡ State.Free → ⊥) → Blocks (take (i + 1) xs) rows now pending later
  blocks_not taken = record {
    size = so_far.size;
    lacks_are = so_far.lacks_are;
    pending_size = so_far.pending_size;
    states = λ a. so_far.states a ∙ ap (λ (t : Bool). if t then State.Blocked else state_at rows a) (same a);
    waits = λ a. so_far.waits a ∙ ap (λ (t : Bool). is_pending_in pending a || t) (same a);
    less = so_far.less;
  }
    where
      settle : (f l e : Bool) → (f ≡ true → e ≡ true → l ≡ true) → (f && l) ≡ (f && (l || e))
      settle false l e h = refl
      settle true true e h = refl
      settle true false true h = h refl refl
      settle true false false h = refl

      was_listed : (a : ℕ) → is_free_state (state_at rows a) ≡ true → (get_or xs i 0 == a) ≡ true → (t : Bool) → is_listed (take i xs) a ≡ t → t ≡ true
      was_listed a f e true h = refl
      was_listed a f e false h =
          let here : get_or xs i 0 ≡ a = eqb-true (get_or xs i 0) a e in
          let now_is : state_at now a ≡ state_at rows a = so_far.states a ∙ ap (λ (t : Bool). if t then State.Blocked else state_at rows a) (ap (λ (t : Bool). is_free_state (state_at rows a) && t) h ∙ and_false (is_free_state (state_at rows a))) in
          absurd (taken (ap (λ (k : ℕ). state_at now k) here ∙ now_is ∙ is_free_is (state_at rows a) f))
        where
          and_false : (t : Bool) → (t && false) ≡ false
          and_false true = refl
          and_false false = refl

      same : (a : ℕ) → (is_free_state (state_at rows a) && is_listed (take i xs) a) ≡ (is_free_state (state_at rows a) && is_listed (take (i + 1) xs) a)
      same a = settle (is_free_state (state_at rows a)) (is_listed (take i xs) a) (get_or xs i 0 == a) (λ f e. was_listed a f e (is_listed (take i xs) a) refl)
          ∙ ap (λ (t : Bool). is_free_state (state_at rows a) && t) (sym (listed a))

  -- the action was free
  pub blocks_more : (next : Actions) (after : List (Option ℕ)) → get_or xs i 0 < length now.states → length later ≡ length now.states → state_at now (get_or xs i 0) ≡ State.Free
      → next.states ≡ set now.states (get_or xs i 0) State.Blocked → next.lacks ≡ now.lacks → after ≡ set later (get_or xs i 0) (Some 0) → Blocks (take (i + 1) xs) rows next pending after
  blocks_more next after l long free states lacks waits = record {
    size = let e : length next.states ≡ length (set now.states (get_or xs i 0) State.Blocked) = ap length states in let k : length (set now.states (get_or xs i 0) State.Blocked) ≡ length now.states = grind (arith, common_steps) in e ∙ k ∙ so_far.size;
    lacks_are = lacks ∙ so_far.lacks_are;
    pending_size = let e : length after ≡ length (set later (get_or xs i 0) (Some 0)) = ap length waits in let k : length (set later (get_or xs i 0) (Some 0)) ≡ length later = grind (arith, common_steps) in e ∙ k ∙ so_far.pending_size;
    states = λ a. states_by a (cases_eq (get_or xs i 0) a);
    waits = λ a. waits_by a (cases_eq (get_or xs i 0) a);
    less = fewer;
  }
    where
      tested : (a : ℕ) → (get_or xs i 0 ≡ a → ⊥) → (t : Bool) → (get_or xs i 0 == a) ≡ t → t ≡ false
      tested a n true h = absurd (n (eqb-true (get_or xs i 0) a h))
      tested a n false h = refl

      or_false : (t : Bool) → (t || false) ≡ t
      or_false true = refl
      or_false false = refl

      still : (a : ℕ) → (get_or xs i 0 ≡ a → ⊥) → is_listed (take (i + 1) xs) a ≡ is_listed (take i xs) a
      still a n = listed a ∙ ap (λ (t : Bool). is_listed (take i xs) a || t) (tested a n (get_or xs i 0 == a) refl) ∙ or_false (is_listed (take i xs) a)

      -- the action was free from the first
      was_free : state_at rows (get_or xs i 0) ≡ State.Free
      was_free = by (is_free_state (state_at rows (get_or xs i 0)) && is_listed (take i xs) (get_or xs i 0)) (sym (so_far.states (get_or xs i 0)) ∙ free)
        where
          by : (t : Bool) → (if t then State.Blocked else state_at rows (get_or xs i 0)) ≡ State.Free → state_at rows (get_or xs i 0) ≡ State.Free
          by true h = absurd (cc h)
          by false h = h

      now_listed : is_listed (take (i + 1) xs) (get_or xs i 0) ≡ true
      now_listed = listed (get_or xs i 0) ∙ ap (λ (t : Bool). is_listed (take i xs) (get_or xs i 0) || t) (eq-eqb (get_or xs i 0) (get_or xs i 0) refl) ∙ or_true (is_listed (take i xs) (get_or xs i 0))
        where
          or_true : (t : Bool) → (t || true) ≡ true
          or_true true = refl
          or_true false = refl

      states_by : (a : ℕ) → (get_or xs i 0 ≡ a) ⊎ (get_or xs i 0 ≡ a → ⊥) → state_at next a ≡ (if (is_free_state (state_at rows a) && is_listed (take (i + 1) xs) a) then State.Blocked else state_at rows a)
      states_by a (inl e) = subst (λ (k : ℕ). state_at next k ≡ (if (is_free_state (state_at rows k) && is_listed (take (i + 1) xs) k) then State.Blocked else state_at rows k)) e here
        where
          written : get_or (set now.states (get_or xs i 0) State.Blocked) (get_or xs i 0) State.Free ≡ State.Blocked
          written = grind (arith, common_steps)

          here : state_at next (get_or xs i 0) ≡ (if (is_free_state (state_at rows (get_or xs i 0)) && is_listed (take (i + 1) xs) (get_or xs i 0)) then State.Blocked else state_at rows (get_or xs i 0))
          here = ap (λ (ss : List State). get_or ss (get_or xs i 0) State.Free) states ∙ written
              ∙ sym (ap (λ (t : Bool). if t then State.Blocked else state_at rows (get_or xs i 0)) (ap (λ (s : State). is_free_state s && is_listed (take (i + 1) xs) (get_or xs i 0)) was_free ∙ now_listed))
      states_by a (inr n) =
          let other : get_or (set now.states (get_or xs i 0) State.Blocked) a State.Free ≡ get_or now.states a State.Free = grind (arith, common_steps) in
          ap (λ (ss : List State). get_or ss a State.Free) states ∙ other ∙ so_far.states a
          ∙ sym (ap (λ (t : Bool). if (is_free_state (state_at rows a) && t) then State.Blocked else state_at rows a) (still a n))

      waits_by : (a : ℕ) → (get_or xs i 0 ≡ a) ⊎ (get_or xs i 0 ≡ a → ⊥) → is_pending_in after a ≡ (is_pending_in pending a || (is_free_state (state_at rows a) && is_listed (take (i + 1) xs) a))
      waits_by a (inl e) = subst (λ (k : ℕ). is_pending_in after k ≡ (is_pending_in pending k || (is_free_state (state_at rows k) && is_listed (take (i + 1) xs) k))) e here
        where
          written : get_or (set later (get_or xs i 0) (Some 0)) (get_or xs i 0) None ≡ Some 0
          written = grind (arith, common_steps)

          or_true : (t : Bool) → true ≡ (t || true)
          or_true true = refl
          or_true false = refl

          here : is_pending_in after (get_or xs i 0) ≡ (is_pending_in pending (get_or xs i 0) || (is_free_state (state_at rows (get_or xs i 0)) && is_listed (take (i + 1) xs) (get_or xs i 0)))
          here = ap (λ (os : List (Option ℕ)). is_some (get_or os (get_or xs i 0) None)) waits ∙ ap (λ (o : Option ℕ). is_some o) written
              ∙ or_true (is_pending_in pending (get_or xs i 0))
              ∙ sym (ap (λ (t : Bool). is_pending_in pending (get_or xs i 0) || t) (ap (λ (s : State). is_free_state s && is_listed (take (i + 1) xs) (get_or xs i 0)) was_free ∙ now_listed))
      waits_by a (inr n) =
          let other : get_or (set later (get_or xs i 0) (Some 0)) a None ≡ get_or later a None = grind (arith, common_steps) in
          ap (λ (os : List (Option ℕ)). is_some (get_or os a None)) waits ∙ ap (λ (o : Option ℕ). is_some o) other ∙ so_far.waits a
          ∙ sym (ap (λ (t : Bool). is_pending_in pending a || (is_free_state (state_at rows a) && t)) (still a n))

      fewer : work next after ≤ work rows pending
      fewer =
          let one = counted_set is_free_state now.states (get_or xs i 0) State.Blocked State.Free l in
          let two = counted_set is_some later (get_or xs i 0) (Some 0) None (omega (arith, l, long)) in
          let was : cond {A = ℕ} (is_free_state (state_at now (get_or xs i 0))) 1 0 ≡ 1 = ap (λ (s : State). cond {A = ℕ} (is_free_state s) 1 0) free in
          let three : counted is_free_state next.states ≡ counted is_free_state (set now.states (get_or xs i 0) State.Blocked) = ap (counted is_free_state) states in
          let four : counted is_some after ≡ counted is_some (set later (get_or xs i 0) (Some 0)) = ap (counted is_some) waits in
          let five = so_far.less in
          omega (arith, one, two, was, three, four, five)

-- a loss that is carried on waits no more
pub work_less : (rows : Actions) (pending : List (Option ℕ)) (a : ℕ) → a < length pending → is_pending_in pending a ≡ true → counted is_some (set pending a None) + 1 ≡ counted is_some pending
work_less rows pending a l h =
    let one = counted_set is_some pending a None None l in
    let two : cond {A = ℕ} (is_pending_in pending a) 1 0 ≡ 1 = ap (λ (t : Bool). cond {A = ℕ} t 1 0) h in
    omega (arith, one, two)
