-- The first rows of slots, one after the other.
use Rattle.std.proofs.Common.{◌≡◌, ◌⊎◌, ℕ, zero, suc, ◌+◌, ◌<◌, ◌≤◌, Bool, List, [], ◌∷◌, ◌++◌, length, get_or, slice_get, Option, Some, None, sym, ap, ◌∙◌, inl, inr, arith}
use Rattle.std.proofs.lemmas.Bool.{cases_eq, cases_lt}
use Rattle.std.proofs.lemmas.Grind.{common_steps}
use Rattle.std.specs.Option.{option_map_or}
use Rattle.engine_types.specs.declared.Condition.{Condition}
use Rattle.engine_types.specs.declared.Declared.{Declared}
use Rattle.engine_types.specs.declared.Slot.{Slot}
use Rattle.slot_rows.specs.Keys.{no_slot}
use Rattle.slot_rows.specs.declared.slot_row.SlotRow.{SlotRow}
use Rattle.start_rows.specs.Firsts.{first_slot, row_of}

-- the rows of the first slots
pub record Placed (declared : Declared) (wait : Bool) (starts : List (Option ℕ)) (healthy completed : List (List ℕ)) (rows : List SlotRow) (i : ℕ) : Type 0 where
  pub size : length rows ≡ i
  pub each : (s : ℕ) → s < i → get_or rows s no_slot ≡ first_slot declared wait starts healthy completed s

slot_read : (slots : List Slot) (s : ℕ) (slot : Slot) → s < length slots → slot ≡ get_or slots s slot → slice_get slots s ≡ Some slot
slot_read [] s slot l e = absurd (omega arith)
slot_read (x ∷ xs) zero slot l e = ap (λ (y : Slot). Some y) (sym e)
slot_read (x ∷ xs) (suc s) slot l e = slot_read xs s slot (omega arith) e

pub row_read : (rows : List (List ℕ)) (s : ℕ) (row : List ℕ) → s < length rows → row ≡ get_or rows s row → row ≡ get_or rows s []
row_read [] s row l e = absurd (omega arith)
row_read (x ∷ xs) zero row l e = e
row_read (x ∷ xs) (suc s) row l e = row_read xs s row (omega arith) e

-- one slot more
pub placed_more : (declared : Declared) (wait : Bool) (starts : List (Option ℕ)) (healthy completed : List (List ℕ)) (rows next : List SlotRow) (at : ℕ) (slot : Slot) (row : SlotRow) (start : Option ℕ) (h c : ℕ)
    → at < length declared.slots → slot ≡ get_or declared.slots at slot → Placed declared wait starts healthy completed rows at → next ≡ rows ++ row ∷ []
    → row ≡ row_of slot.goal start h c wait → start ≡ get_or starts at None → h ≡ length (get_or healthy at []) → c ≡ length (get_or completed at [])
    → Placed declared wait starts healthy completed next (at + 1)
placed_more declared wait starts healthy completed rows next at slot row start h c l read so_far e is start_is h_is c_is = record {
  size = let k : length (rows ++ row ∷ []) ≡ at + 1 = grind (arith, common_steps, so_far.size) in ap length e ∙ k;
  each = λ s m. ap (λ (rs : List SlotRow). get_or rs s no_slot) e ∙ on s m (cases_eq at s);
}
  where
    row_here : row ≡ first_slot declared wait starts healthy completed at
    row_here = is
        ∙ ap (λ (o : Option Slot). row_of (option_map_or (λ x. x.goal) o Condition.Running) start h c wait) (sym (slot_read declared.slots at slot l read))
        ∙ ap (λ (o : Option ℕ). row_of (option_map_or (λ x. x.goal) (slice_get declared.slots at) Condition.Running) o h c wait) start_is
        ∙ ap (λ (n : ℕ). row_of (option_map_or (λ x. x.goal) (slice_get declared.slots at) Condition.Running) (get_or starts at None) n c wait) h_is
        ∙ ap (λ (n : ℕ). row_of (option_map_or (λ x. x.goal) (slice_get declared.slots at) Condition.Running) (get_or starts at None) (length (get_or healthy at [])) n wait) c_is

    below : (s : ℕ) → s < at + 1 → (at ≡ s → ⊥) → s < at
    below s m n = by (cases_lt s at)
      where
        by : (s < at) ⊎ (at ≤ s) → s < at
        by (inl k) = k
        by (inr k) = absurd (n (let e : at ≡ s = omega (arith, k, m) in e))

    on : (s : ℕ) → s < at + 1 → (at ≡ s) ⊎ (at ≡ s → ⊥) → get_or (rows ++ row ∷ []) s no_slot ≡ first_slot declared wait starts healthy completed s
    on s m (inl k) = (let v : get_or (rows ++ row ∷ []) s no_slot ≡ row = grind (arith, common_steps, so_far.size) in v) ∙ row_here ∙ ap (first_slot declared wait starts healthy completed) k
    on s m (inr n) = let b = below s m n in (let v : get_or (rows ++ row ∷ []) s no_slot ≡ get_or rows s no_slot = grind (arith, common_steps, so_far.size) in v) ∙ so_far.each s b
