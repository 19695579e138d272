-- How many needs keep the first actions.
use Rattle.std.proofs.Common.{◌≡◌, ◌⊎◌, ℕ, ◌+◌, ◌<◌, ◌≤◌, Bool, true, false, cond, List, [], ◌∷◌, ◌++◌, length, take, get_or, slice_get, Option, Some, sym, ap, ◌∙◌, inl, inr, arith}
use Rattle.std.proofs.lemmas.Bool.{cases_eq, cases_lt}
use Rattle.std.proofs.lemmas.Grind.{common_steps}
use Rattle.std.specs.Option.{option_map_or}
use Rattle.std.specs.Prelude.{option_map}
use Rattle.engine_types.specs.declared.Action.{Action}
use Rattle.engine_types.specs.declared.Declared.{Declared}
use Rattle.engine_types.specs.declared.Need.{Need}
use Rattle.run_model.specs.Plans.{kind_of, needs_of, slot_needs}
use Rattle.ledger_rows.specs.Counts.{counted}
use Rattle.plan_needs.proofs.Counting.{counted_more, kind_read}
use Rattle.start_rows.specs.Firsts.{first_lack, keeps_first}

-- the counts of the first actions
pub record Lacking (declared : Declared) (actions : List Action) (starts : List (Option ℕ)) (lacks : List ℕ) (i : ℕ) : Type 0 where
  pub size : length lacks ≡ i
  pub each : (a : ℕ) → a < i → get_or lacks a 0 ≡ first_lack declared actions starts a
  pub few : (a : ℕ) → a < i → length (needs_of actions a) + length (slot_needs declared (kind_of actions a)) < 4294967296

-- one action more
pub lacking_more : (declared : Declared) (actions : List Action) (starts : List (Option ℕ)) (lacks next : List ℕ) (at lack : ℕ) (action : Action) → at < length actions → action ≡ get_or actions at action
    → Lacking declared actions starts lacks at → next ≡ lacks ++ lack ∷ []
    → lack ≡ length action.needs + counted (keeps_first starts) (slot_needs declared (Some action.kind))
    → length action.needs + length (slot_needs declared (Some action.kind)) < 4294967296
    → Lacking declared actions starts next (at + 1)
lacking_more declared actions starts lacks next at lack action l read so_far e is few = record {
  size = let k : length (lacks ++ lack ∷ []) ≡ at + 1 = grind (arith, common_steps, so_far.size) in ap length e ∙ k;
  each = λ a m. ap (λ (ns : List ℕ). get_or ns a 0) e ∙ on a m (cases_eq at a);
  few = λ a m. small a m (cases_eq at a);
}
  where
    here : slice_get actions at ≡ Some action
    here = kind_read actions at action l read

    lack_here : lack ≡ first_lack declared actions starts at
    lack_here = is ∙ sym (ap (λ (o : Option Action). length (option_map_or (λ x. x.needs) o []) + counted (keeps_first starts) (slot_needs declared (option_map (λ (x : Action). x.kind) o))) here)

    below : (a : ℕ) → a < at + 1 → (at ≡ a → ⊥) → a < at
    below a m n = by (cases_lt a at)
      where
        by : (a < at) ⊎ (at ≤ a) → a < at
        by (inl k) = k
        by (inr k) = absurd (n (let e : at ≡ a = omega (arith, k, m) in e))

    on : (a : ℕ) → a < at + 1 → (at ≡ a) ⊎ (at ≡ a → ⊥) → get_or (lacks ++ lack ∷ []) a 0 ≡ first_lack declared actions starts a
    on a m (inl k) = (let v : get_or (lacks ++ lack ∷ []) a 0 ≡ lack = grind (arith, common_steps, so_far.size) in v) ∙ lack_here ∙ ap (first_lack declared actions starts) k
    on a m (inr n) = let b = below a m n in (let v : get_or (lacks ++ lack ∷ []) a 0 ≡ get_or lacks a 0 = grind (arith, common_steps, so_far.size) in v) ∙ so_far.each a b

    small : (a : ℕ) → a < at + 1 → (at ≡ a) ⊎ (at ≡ a → ⊥) → length (needs_of actions a) + length (slot_needs declared (kind_of actions a)) < 4294967296
    small a m (inl k) =
        let same : length (needs_of actions a) + length (slot_needs declared (kind_of actions a)) ≡ length action.needs + length (slot_needs declared (Some action.kind)) =
        ap (λ (i : ℕ). length (needs_of actions i) + length (slot_needs declared (kind_of actions i))) (sym k)
        ∙ ap (λ (o : Option Action). length (option_map_or (λ x. x.needs) o []) + length (slot_needs declared (option_map (λ (x : Action). x.kind) o))) here in
        omega (arith, same, few)
    small a m (inr n) = so_far.few a (below a m n)

-- one need more keeps its start
pub kept_more : (starts : List (Option ℕ)) (needs : List Need) (i : ℕ) (d : Need) (n : ℕ) → i < length needs → keeps_first starts (get_or needs i d) ≡ true → n ≡ counted (keeps_first starts) (take i needs)
    → n + 1 ≡ counted (keeps_first starts) (take (i + 1) needs)
kept_more starts needs i d n l e so_far =
    let c = counted_more (keeps_first starts) needs i d l in
    let one : cond {A = ℕ} (keeps_first starts (get_or needs i d)) 1 0 ≡ 1 = ap (λ (t : Bool). cond {A = ℕ} t 1 0) e in
    omega (arith, c, one, so_far)

-- or doesn't
pub let_more : (starts : List (Option ℕ)) (needs : List Need) (i : ℕ) (d : Need) (n : ℕ) → i < length needs → keeps_first starts (get_or needs i d) ≡ false → n ≡ counted (keeps_first starts) (take i needs)
    → n ≡ counted (keeps_first starts) (take (i + 1) needs)
let_more starts needs i d n l e so_far =
    let c = counted_more (keeps_first starts) needs i d l in
    let none : cond {A = ℕ} (keeps_first starts (get_or needs i d)) 1 0 ≡ 0 = ap (λ (t : Bool). cond {A = ℕ} t 1 0) e in
    omega (arith, c, none, so_far)
