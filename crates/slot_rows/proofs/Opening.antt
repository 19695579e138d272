-- The keys of rows of slots, one after the other.
use Rattle.std.proofs.Common.{◌≡◌, ◌⊎◌, ℕ, zero, suc, ◌+◌, ◌<◌, ◌≤◌, List, [], ◌∷◌, length, get_or, set, map, Option, Some, None, refl, sym, ap, ◌∙◌, inl, inr, arith}
use Rattle.std.proofs.lemmas.Bool.{cases_eq}
use Rattle.std.proofs.lemmas.Grind.{common_steps}
use Rattle.rank_rows.specs.Ranks.{key_at}
use Rattle.slot_rows.specs.Keys.{no_slot, slot_key}
use Rattle.slot_rows.specs.declared.slot_row.SlotRow.{SlotRow}

-- the slots so far have their keys
pub record Opened (rows : List SlotRow) (keys : List (Option ℕ)) (at : ℕ) : Type 0 where
  pub size : length keys ≡ length rows
  pub each : (s : ℕ) → s < at → key_at keys s ≡ slot_key (get_or rows s no_slot)

row_read : (rows : List SlotRow) (s : ℕ) (row : SlotRow) → s < length rows → row ≡ get_or rows s row → row ≡ get_or rows s no_slot
row_read [] s row l e = absurd (omega arith)
row_read (x ∷ xs) zero row l e = e
row_read (x ∷ xs) (suc s) row l e = row_read xs s row (omega arith) e

-- one more
pub opened_more : (rows : List SlotRow) (keys next : List (Option ℕ)) (at : ℕ) (row : SlotRow) → at < length rows → row ≡ get_or rows at row → Opened rows keys at → next ≡ set keys at (slot_key row) → Opened rows next (at + 1)
opened_more rows keys next at row l read so_far e = record {
  size = let k : length (set keys at (slot_key row)) ≡ length keys = grind (arith, common_steps) in ap length e ∙ k ∙ so_far.size;
  each = λ s m. on s m (cases_eq s at);
}
  where
    on : (s : ℕ) → s < at + 1 → (s ≡ at) ⊎ (s ≡ at → ⊥) → key_at next s ≡ slot_key (get_or rows s no_slot)
    on s m (inl k) =
        let here : get_or (set keys at (slot_key row)) s None ≡ slot_key row = grind (arith, common_steps, so_far.size) in
        ap (λ (ks : List (Option ℕ)). get_or ks s None) e ∙ here ∙ ap slot_key (row_read rows at row l read) ∙ ap (λ (i : ℕ). slot_key (get_or rows i no_slot)) (sym k)
    on s m (inr n) =
        let there : get_or (set keys at (slot_key row)) s None ≡ get_or keys s None = grind (arith, common_steps) in
        ap (λ (ks : List (Option ℕ)). get_or ks s None) e ∙ there ∙ so_far.each s (below s m n)
      where
        below : (s : ℕ) → s < at + 1 → (s ≡ at → ⊥) → s < at
        below s m n = by (Rattle.std.proofs.lemmas.Bool.cases_lt s at)
          where
            by : (s < at) ⊎ (at ≤ s) → s < at
            by (inl k) = k
            by (inr k) = absurd (n (let f : s ≡ at = omega (arith, k, m) in f))

-- all of them
pub opened_all : (rows : List SlotRow) (keys : List (Option ℕ)) → length keys ≡ length rows → ((s : ℕ) → s < length rows → key_at keys s ≡ slot_key (get_or rows s no_slot)) → keys ≡ map slot_key rows
opened_all [] [] e each = refl
opened_all [] (k ∷ ks) e each = absurd (omega (arith, e))
opened_all (x ∷ xs) [] e each = absurd (omega (arith, e))
opened_all (x ∷ xs) (k ∷ ks) e each =
    ap (λ (o : Option ℕ). o ∷ ks) (each 0 (omega arith)) ∙ ap (λ (os : List (Option ℕ)). slot_key x ∷ os) (opened_all xs ks (omega (arith, e)) (λ s l. each (suc s) (omega (arith, l))))
