-- Entries with a key that isn't there yet: they go last.
use Rattle.std.proofs.Common.{◌≡◌, ◌∙◌, ℕ, List, [], ◌∷◌, ◌++◌, Bool, true, false, Some, None, refl, sym, ap}
use Rattle.std.proofs.lemmas.Bool.{false_from_ne_true, false≢true}
use Rattle.std.proofs.lemmas.Slice.Eq.{bytes_eq-Decides}
use Rattle.std.specs.Str.{bytes_eq}
use Rattle.tree_base.specs.Entries.{value_at, with_entry}

-- two keys that aren't equal aren't the other way round
flipped : (key other : List ℕ) → bytes_eq key other ≡ false → bytes_eq other key ≡ false
flipped key other apart =
    false_from_ne_true (bytes_eq other key) (λ e. false≢true (sym apart ∙ (bytes_eq-Decides key other).1 (sym ((bytes_eq-Decides other key).0 e))))

module _ {V : Type 0} where
  put_by : (own : List (List ℕ × V)) (key : List ℕ) (value : V) (e : List ℕ × V) (b : Bool) → bytes_eq key e.0 ≡ b → value_at (e ∷ own) key ≡ None
      → (value_at own key ≡ None → with_entry own key value ≡ own ++ (key, value) ∷ []) → with_entry (e ∷ own) key value ≡ e ∷ own ++ (key, value) ∷ []
  put_by own key value e true same new later = let k = rw same at new in absurd cc
  put_by own key value e false apart new later = rw apart (ap (λ l. e ∷ l) (later (rw apart at new)))

  pub put_last : (own : List (List ℕ × V)) (key : List ℕ) (value : V) → value_at own key ≡ None → with_entry own key value ≡ own ++ (key, value) ∷ []
  put_last [] key value new = refl
  put_last (e ∷ own) key value new = put_by own key value e (bytes_eq key e.0) refl new (put_last own key value)

  new_by : (own : List (List ℕ × V)) (key : List ℕ) (value : V) (other : List ℕ) (e : List ℕ × V) (b : Bool) → bytes_eq other e.0 ≡ b → value_at (e ∷ own) other ≡ None
      → (value_at own other ≡ None → value_at (own ++ (key, value) ∷ []) other ≡ None) → value_at (e ∷ own ++ (key, value) ∷ []) other ≡ None
  new_by own key value other e true same new later = let k = rw same at new in absurd cc
  new_by own key value other e false apart new later = rw apart (later (rw apart at new))

  -- another key than the one that is put stays new
  pub still_new : (own : List (List ℕ × V)) (key : List ℕ) (value : V) (other : List ℕ) → bytes_eq key other ≡ false → value_at own other ≡ None → value_at (own ++ (key, value) ∷ []) other ≡ None
  still_new [] key value other apart new = rw (flipped key other apart)
  still_new (e ∷ own) key value other apart new = new_by own key value other e (bytes_eq other e.0) refl new (still_new own key value other apart)
