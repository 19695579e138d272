-- The slot that a container's labels name first is found among those under their text.
use Rattle.std.proofs.Common.{◌≡◌, ℕ, suc, ◌+◌, Bool, true, false, cond, List, [], ◌∷◌, filter, map, Option, Some, Result, Ok, Err, IfOk, slice_get, bytes_eq, refl, sym, ap, ◌∙◌, arith}
use Rattle.std.specs.Option.{option_map_or}
use Rattle.std.specs.Prelude.{find}
use Rattle.std.proofs.lemmas.Slice.Eq.{bytes_eq-Decides}
use Rattle.engine_types.specs.declared.Declared.{Declared}
use Rattle.engine_types.specs.declared.Listed.{Listed}
use Rattle.engine_types.specs.declared.Slot.{Slot}
use Rattle.run_model.specs.Labels.{names_slot}
use Rattle.run_model.specs.Plans.{slot_at}
use Rattle.plan_core.specs.Finding.{container_text, slot_text}
use Rattle.plan_core.specs.Index.{numbers_under, places_under}
use Rattle.plan_core.proofs.SlotTexts.{named_text, under_mapped}
use Rattle.plan_core.proofs.Splits.{by_cases}
use Rattle.ledger_start.specs.Seconds.{is_named, seconds_among, seconds_at, slots_under}

module _ (declared : Declared) (row : Listed) where
  abbrev text : List ℕ
  text = container_text row

  abbrev names : Slot → Bool
  names slot = names_slot slot row.labels

  abbrev said : Option Slot → ℕ
  said o = option_map_or (λ (slot : Slot). slot.stop_seconds) o 10

  abbrev told : List ℕ → ℕ
  told numbers = option_map_or (seconds_at declared) (find (is_named declared row) numbers) 10

  abbrev under : ℕ → List Slot → List (List ℕ × ℕ)
  under i xs = filter (λ (entry : List ℕ × ℕ). bytes_eq text entry.0) (places_under (λ (slot : Slot). slot_text slot ∷ []) i xs)

  abbrev numbers : ℕ → List Slot → List ℕ
  numbers i xs = map (λ (entry : List ℕ × ℕ). entry.1) (under i xs)

  abbrev Holds : ℕ → List Slot → Type 0
  Holds i xs = (k : ℕ) → slot_at declared (i + k) ≡ slice_get xs k

  first : (i : ℕ) (x : Slot) (xs : List Slot) → Holds i (x ∷ xs) → slot_at declared i ≡ Some x
  first i x xs holds = let here : i ≡ i + 0 = omega arith in ap (slot_at declared) here ∙ holds 0

  next : (i : ℕ) (x : Slot) (xs : List Slot) → Holds i (x ∷ xs) → Holds (i + 1) xs
  next i x xs holds k = let same : i + 1 + k ≡ i + suc k = omega arith in ap (slot_at declared) same ∙ holds (suc k)

  -- one slot more, whether it stands under the text or not: one that is named does
  module _ (i : ℕ) (x : Slot) (xs : List Slot) (here : slot_at declared i ≡ Some x) (rest : told (numbers (i + 1) xs) ≡ said (find names xs)) where
    pick : (b : Bool) → option_map_or (seconds_at declared) (cond b (Some i) (find (is_named declared row) (numbers (i + 1) xs))) 10 ≡ said (cond b (Some x) (find names xs))
    pick true = ap said here
    pick false = rest

    turn : (t : Bool) → (names x ≡ true → t ≡ true)
        → told (map (λ (entry : List ℕ × ℕ). entry.1) (cond t ((slot_text x, i) ∷ under (i + 1) xs) (under (i + 1) xs))) ≡ said (cond (names x) (Some x) (find names xs))
    turn true stands =
        ap (λ (o : Option Slot). option_map_or (seconds_at declared) (cond (option_map_or names o false) (Some i) (find (is_named declared row) (numbers (i + 1) xs))) 10) here
        ∙ pick (names x)
    turn false stands = by_cases (names x)
        (λ e. let bad : false ≡ true = stands e in absurd (cc bad))
        (λ e. rest ∙ sym (ap (λ (b : Bool). said (cond b (Some x) (find names xs))) e))

  found : (i : ℕ) (xs : List Slot) → Holds i xs → told (numbers i xs) ≡ said (find names xs)
  found i [] holds = refl
  found i (x ∷ xs) holds =
      turn i x xs (first i x xs holds) (found (i + 1) xs (next i x xs holds)) (bytes_eq text (slot_text x))
      (λ e. (bytes_eq-Decides text (slot_text x)).1 (named_text x row.labels e))

  all : seconds_among declared row (numbers_under (slots_under declared) text) ≡ said (find names declared.slots)
  all =
      ap (λ (entries : List (List ℕ × ℕ)). told (numbers_under entries text)) (under_mapped slot_text 0 declared.slots)
      ∙ found 0 declared.slots (λ k. let there : 0 + k ≡ k = omega arith in ap (slot_at declared) there)

  -- and so the look-up tells it
  pub seconds_found : {E : Type 0} (result : Result ℕ E) (places : List ℕ) → places ≡ numbers_under (slots_under declared) text
      → IfOk result (λ seconds. seconds ≡ seconds_among declared row places) → IfOk result (λ seconds. seconds ≡ said (find names declared.slots))
  seconds_found (Ok seconds) places is e = e ∙ ap (seconds_among declared row) is ∙ all
  seconds_found (Err x) places is e = tt
