-- The first slot to poll, and who else holds a permit, by their rows.
use Rattle.std.proofs.Common.{◌≡◌, ◌⊎◌, ℕ, zero, suc, ◌+◌, ◌<◌, ◌≤◌, Bool, true, false, not, ◌&&◌, ◌||◌, ◌==◌, List, length, get_or, Option, Some, None, if◌then◌else◌, refl, sym, ap, ◌∙◌, inl, inr, arith}
use Rattle.std.specs.List.{list_all, list_any}
use Rattle.std.specs.Prelude.{find, is_some, nat_le}
use Rattle.engine_types.specs.declared.Entry.{Entry}
use Rattle.run_model.specs.Journals.{Setup, holding, is_open, polls}
use Rattle.run_model.specs.Legal.{has_fewest_polls, is_other_out, may_poll, next_poll}
use Rattle.run_model.specs.Numbers.{numbers_from, places}
use Rattle.rank_rows.specs.Ranks.{has_least_key, is_not_above, key_at, least}
use Rattle.ledger_rows.specs.Workers.{IsWorkerRow, no_worker, watch_key}
use Rattle.ledger_rows.specs.declared.worker_row.WorkerRow.{WorkerRow}
use Rattle.ledger_rows.proofs.Finding.{find_same, numbers_same}

all_same : (p q : ℕ → Bool) (i n : ℕ) → ((k : ℕ) → i ≤ k → k < i + n → p k ≡ q k) → list_all p (numbers_from i n) ≡ list_all q (numbers_from i n)
all_same p q i zero each = refl
all_same p q i (suc n) each = ap (λ (t : Bool). t && list_all p (numbers_from (i + 1) n)) (each i (omega arith) (omega arith))
    ∙ ap (λ (t : Bool). q i && t) (all_same p q (i + 1) n (λ k l m. each k (omega (arith, l)) (omega (arith, m))))

any_same : (p q : ℕ → Bool) (i n : ℕ) → ((k : ℕ) → i ≤ k → k < i + n → p k ≡ q k) → list_any p (numbers_from i n) ≡ list_any q (numbers_from i n)
any_same p q i zero each = refl
any_same p q i (suc n) each = ap (λ (t : Bool). t || list_any p (numbers_from (i + 1) n)) (each i (omega arith) (omega arith))
    ∙ ap (λ (t : Bool). q i || t) (any_same p q (i + 1) n (λ k l m. each k (omega (arith, l)) (omega (arith, m))))

pub first_watched : (setup : Setup) (past : List Entry) (watch : List (Option ℕ)) → length watch ≡ length setup.declared.slots
    → ((s : ℕ) → s < length setup.declared.slots → key_at watch s ≡ watch_key setup past s) → least watch ≡ next_poll setup past
first_watched setup past watch size each =
    ap (find (λ i. is_some (key_at watch i) && has_least_key watch i)) (numbers_same 0 (length watch))
    ∙ ap (λ (n : ℕ). find (λ i. is_some (key_at watch i) && has_least_key watch i) (numbers_from 0 n)) size
    ∙ find_same (λ i. is_some (key_at watch i) && has_least_key watch i) (λ s. may_poll setup past s && has_fewest_polls setup past s) 0 (length setup.declared.slots) (λ k l m. on k (omega (arith, m)))
  where
    there : (k : ℕ) → k < length setup.declared.slots → is_some (key_at watch k) ≡ may_poll setup past k
    there k l = ap (λ (o : Option ℕ). is_some o) (each k l) ∙ by (may_poll setup past k)
      where
        by : (t : Bool) → is_some (if t then Some (polls past k) else None) ≡ t
        by true = refl
        by false = refl

    fewest : (k : ℕ) → k < length setup.declared.slots → may_poll setup past k ≡ true → has_least_key watch k ≡ has_fewest_polls setup past k
    fewest k l h =
        ap (list_all (λ j. is_not_above (key_at watch k) (key_at watch j))) (numbers_same 0 (length watch))
        ∙ ap (λ (n : ℕ). list_all (λ j. is_not_above (key_at watch k) (key_at watch j)) (numbers_from 0 n)) size
        ∙ all_same (λ j. is_not_above (key_at watch k) (key_at watch j)) (λ t. not (may_poll setup past t) || nat_le (polls past k) (polls past t)) 0 (length setup.declared.slots)
        (λ j x y. ap (λ (o : Option ℕ). is_not_above o (key_at watch j)) (each k l ∙ ap (λ (t : Bool). if t then Some (polls past k) else None) h)
        ∙ ap (λ (o : Option ℕ). is_not_above (Some (polls past k)) o) (each j (omega (arith, y))) ∙ by (may_poll setup past j) j)
      where
        by : (t : Bool) (j : ℕ) → is_not_above (Some (polls past k)) (if t then Some (polls past j) else None) ≡ (not t || nat_le (polls past k) (polls past j))
        by true j = refl
        by false j = refl

    on : (k : ℕ) → k < length setup.declared.slots → (is_some (key_at watch k) && has_least_key watch k) ≡ (may_poll setup past k && has_fewest_polls setup past k)
    on k l = ap (λ (t : Bool). t && has_least_key watch k) (there k l) ∙ by (may_poll setup past k) refl
      where
        by : (t : Bool) → may_poll setup past k ≡ t → (t && has_least_key watch k) ≡ (t && has_fewest_polls setup past k)
        by true h = fewest k l h
        by false h = refl

pub other_out : (setup : Setup) (past : List Entry) (w : ℕ) (workers : List WorkerRow) → length workers ≡ setup.limits.workers
    → ((v : ℕ) → v < setup.limits.workers → IsWorkerRow past v (get_or workers v no_worker))
    → list_any (λ v. not (v == w) && (get_or workers v no_worker).out) (places workers) ≡ is_other_out setup past w
other_out setup past w workers size each =
    ap (λ (n : ℕ). list_any (λ v. not (v == w) && (get_or workers v no_worker).out) (numbers_from 0 n)) size
    ∙ any_same (λ v. not (v == w) && (get_or workers v no_worker).out) (λ v. not (v == w) && is_open (holding past v)) 0 setup.limits.workers
    (λ k l m. ap (λ (t : Bool). not (k == w) && t) (each k (omega (arith, m))).out_is)

-- no number passes, or one does
pub none_of : (p : ℕ → Bool) (i n : ℕ) → ((k : ℕ) → i ≤ k → k < i + n → p k ≡ false) → list_any p (numbers_from i n) ≡ false
none_of p i zero each = refl
none_of p i (suc n) each = ap (λ (t : Bool). t || list_any p (numbers_from (i + 1) n)) (each i (omega arith) (omega arith)) ∙ none_of p (i + 1) n (λ k l m. each k (omega (arith, l)) (omega (arith, m)))

pub one_of : (p : ℕ → Bool) (i n k : ℕ) → i ≤ k → k < i + n → p k ≡ true → list_any p (numbers_from i n) ≡ true
one_of p i zero k l m e = absurd (omega arith)
one_of p i (suc n) k l m e = on (Rattle.std.proofs.lemmas.Bool.cases_eq k i) (λ s. one_of p (i + 1) n k (omega (arith, l, s)) (omega (arith, m)) e)
  where
    or_true : (t : Bool) → (t || true) ≡ true
    or_true true = refl
    or_true false = refl

    on : (k ≡ i) ⊎ (k ≡ i → ⊥) → ((k ≡ i → ⊥) → list_any p (numbers_from (i + 1) n) ≡ true) → list_any p (numbers_from i (suc n)) ≡ true
    on (inl s) rec = ap (λ (t : Bool). t || list_any p (numbers_from (i + 1) n)) (ap p (sym s) ∙ e)
    on (inr s) rec = ap (λ (t : Bool). p i || t) (rec s) ∙ or_true (p i)

pub differs : (x y : ℕ) → (x ≡ y → ⊥) → (x == y) ≡ false
differs x y n = by (x == y) refl
  where
    by : (t : Bool) → (x == y) ≡ t → t ≡ false
    by true h = absurd (n (Rattle.std.proofs.lemmas.Bool.eqb-true x y h))
    by false h = refl
