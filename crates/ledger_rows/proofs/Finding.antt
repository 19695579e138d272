-- The first in a row of keys.
use Rattle.std.proofs.Common.{◌≡◌, ◌⊎◌, ℕ, zero, suc, ◌+◌, ◌<◌, ◌≤◌, Bool, true, false, cond, ◌&&◌, List, [], ◌∷◌, length, get_or, set, Option, Some, None, refl, sym, ap, ◌∙◌, subst, inl, inr, arith}
use Rattle.std.proofs.lemmas.Bool.{and_from, cases_eq, le-leb, lt-ltb}
use Rattle.std.proofs.lemmas.Grind.{common_steps}
use Rattle.std.specs.List.{list_all}
use Rattle.std.specs.Prelude.{find, is_some}
use Rattle.rank_rows.specs.Ranks.{has_least_key, is_not_above, key_at, least}
use Rattle.rank_rows.specs.Ranks as ranks
use Rattle.run_model.specs.Numbers.{numbers_from, places}
use Rattle.ledger_rows.specs.ActionRows.{IsKeyed, key_of}
use Rattle.ledger_rows.specs.declared.action_rows.State.{State}

pub numbers_same : (i n : ℕ) → ranks.numbers_from i n ≡ numbers_from i n
numbers_same i zero = refl
numbers_same i (suc n) = ap (λ (xs : List ℕ). i ∷ xs) (numbers_same (i + 1) n)

pub find_same : (p q : ℕ → Bool) (i n : ℕ) → ((k : ℕ) → i ≤ k → k < i + n → p k ≡ q k) → find p (numbers_from i n) ≡ find q (numbers_from i n)
find_same p q i zero each = refl
find_same p q i (suc n) each = ap (λ (t : Bool). cond t (Some i) (find p (numbers_from (i + 1) n))) (each i (omega arith) (omega arith))
    ∙ ap (λ (o : Option ℕ). cond (q i) (Some i) o) (find_same p q (i + 1) n (λ k l m. each k (omega (arith, l)) (omega (arith, m))))

all_in : (f : ℕ → Bool) (i n : ℕ) → ((k : ℕ) → i ≤ k → k < i + n → f k ≡ true) → list_all f (ranks.numbers_from i n) ≡ true
all_in f i zero each = refl
all_in f i (suc n) each = and_from (f i) (list_all f (ranks.numbers_from (i + 1) n)) (each i (omega arith) (omega arith)) (all_in f (i + 1) n (λ k l m. each k (omega (arith, l)) (omega (arith, m))))

-- a key of an action is 0 where it is there
pub only_zero : (state : State) (lack : ℕ) → (key_of state lack ≡ None) ⊎ (key_of state lack ≡ Some 0)
only_zero State.Free zero = inr refl
only_zero State.Free (suc n) = inl (rw (lt-ltb 0 (suc n) (omega arith)) refl)
only_zero State.Blocked lack = inl refl
only_zero State.Out lack = inl refl
only_zero (State.Well at) lack = inl refl
only_zero State.Badly lack = inl refl

-- the first action that has a key
pub first_ready : (states : List State) (lacks : List ℕ) (keys : List (Option ℕ)) → IsKeyed states lacks keys
    → least keys ≡ find (λ a. is_some (key_of (get_or states a State.Free) (get_or lacks a 0))) (places states)
first_ready states lacks keys keyed =
    ap (find (λ i. is_some (key_at keys i) && has_least_key keys i)) (numbers_same 0 (length keys))
    ∙ find_same (λ i. is_some (key_at keys i) && has_least_key keys i) (λ a. is_some (key_of (get_or states a State.Free) (get_or lacks a 0))) 0 (length keys) (λ k l m. on k (omega (arith, m, keyed.keys_same)))
    ∙ ap (λ (n : ℕ). find (λ a. is_some (key_of (get_or states a State.Free) (get_or lacks a 0))) (numbers_from 0 n)) keyed.keys_same
  where
    zero_or_none : (k : ℕ) → k < length states → (key_at keys k ≡ None) ⊎ (key_at keys k ≡ Some 0)
    zero_or_none k l = subst (λ (o : Option ℕ). (o ≡ None) ⊎ (o ≡ Some 0)) (sym (keyed.each k l)) (only_zero (get_or states k State.Free) (get_or lacks k 0))

    not_above : (o : Option ℕ) → is_not_above (Some 0) o ≡ true
    not_above None = refl
    not_above (Some n) = le-leb 0 n (omega arith)

    by : (k : ℕ) → (key_at keys k ≡ None) ⊎ (key_at keys k ≡ Some 0) → (is_some (key_at keys k) && has_least_key keys k) ≡ is_some (key_at keys k)
    by k (inl e) = rw e refl
    by k (inr e) = and_true (is_some (key_at keys k)) (has_least_key keys k)
        (all_in (λ j. is_not_above (key_at keys k) (key_at keys j)) 0 (length keys) (λ j l m. subst (λ (o : Option ℕ). is_not_above o (key_at keys j) ≡ true) (sym e) (not_above (key_at keys j))))
      where
        and_true : (t u : Bool) → u ≡ true → (t && u) ≡ t
        and_true true u e = e
        and_true false u e = refl

    on : (k : ℕ) → k < length states → (is_some (key_at keys k) && has_least_key keys k) ≡ is_some (key_of (get_or states k State.Free) (get_or lacks k 0))
    on k l = by k (zero_or_none k l) ∙ ap (λ (o : Option ℕ). is_some o) (keyed.each k l)

-- one row is written with its key
pub keyed_set : (states : List State) (lacks : List ℕ) (keys : List (Option ℕ)) (a : ℕ) (state : State) (lack : ℕ) → a < length states → IsKeyed states lacks keys
    → IsKeyed (set states a state) (set lacks a lack) (set keys a (key_of state lack))
keyed_set states lacks keys a state lack l keyed = record {
  lacks_same = grind (arith, common_steps, keyed.lacks_same);
  keys_same = grind (arith, common_steps, keyed.keys_same);
  each = λ k m. on k (grind (arith, common_steps, m)) (cases_eq k a);
}
  where
    on : (k : ℕ) → k < length states → (k ≡ a) ⊎ (k ≡ a → ⊥) → key_at (set keys a (key_of state lack)) k ≡ key_of (get_or (set states a state) k State.Free) (get_or (set lacks a lack) k 0)
    on k m (inl e) =
        let one : get_or (set keys a (key_of state lack)) k None ≡ key_of state lack = grind (arith, common_steps, keyed.keys_same) in
        let two : get_or (set states a state) k State.Free ≡ state = grind (arith, common_steps) in
        let three : get_or (set lacks a lack) k 0 ≡ lack = grind (arith, common_steps, keyed.lacks_same) in
        one ∙ sym (ap (λ (s : State). key_of s (get_or (set lacks a lack) k 0)) two ∙ ap (λ (n : ℕ). key_of state n) three)
    on k m (inr e) =
        let one : get_or (set keys a (key_of state lack)) k None ≡ get_or keys k None = grind (arith, common_steps) in
        let two : get_or (set states a state) k State.Free ≡ get_or states k State.Free = grind (arith, common_steps) in
        let three : get_or (set lacks a lack) k 0 ≡ get_or lacks k 0 = grind (arith, common_steps) in
        one ∙ keyed.each k m ∙ sym (ap (λ (s : State). key_of s (get_or (set lacks a lack) k 0)) two ∙ ap (λ (n : ℕ). key_of (get_or states k State.Free) n) three)

set_here : {X : Type 0} (xs : List X) (a : ℕ) (d : X) → a < length xs → set xs a (get_or xs a d) ≡ xs
set_here [] a d l = absurd (omega arith)
set_here (x ∷ xs) zero d l = refl
set_here (x ∷ xs) (suc a) d l = ap (λ ys. x ∷ ys) (set_here xs a d (omega arith))

pub keyed_state : (states : List State) (lacks : List ℕ) (keys : List (Option ℕ)) (a : ℕ) (state : State) → a < length states → IsKeyed states lacks keys
    → IsKeyed (set states a state) lacks (set keys a (key_of state (get_or lacks a 0)))
keyed_state states lacks keys a state l keyed =
    subst (λ (ns : List ℕ). IsKeyed (set states a state) ns (set keys a (key_of state (get_or lacks a 0)))) (set_here lacks a 0 (omega (arith, l, keyed.lacks_same)))
    (keyed_set states lacks keys a state (get_or lacks a 0) l keyed)

pub keyed_lack : (states : List State) (lacks : List ℕ) (keys : List (Option ℕ)) (a lack : ℕ) → a < length states → IsKeyed states lacks keys
    → IsKeyed states (set lacks a lack) (set keys a (key_of (get_or states a State.Free) lack))
keyed_lack states lacks keys a lack l keyed =
    subst (λ (ss : List State). IsKeyed ss (set lacks a lack) (set keys a (key_of (get_or states a State.Free) lack))) (set_here states a State.Free l)
    (keyed_set states lacks keys a (get_or states a State.Free) lack l keyed)
