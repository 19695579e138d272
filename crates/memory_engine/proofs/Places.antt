-- A change at the first place that passes a test.
use Rattle.std.proofs.Common.{◌≡◌, ℕ, suc, ◌+◌, ◌<◌, ◌≤◌, Bool, List, [], ◌∷◌, ◌++◌, Some, None, length, position, slice_get, slice_set, nat_lt, refl, sym, ap, ◌∙◌, ⊎_elim, arith}
use Rattle.std.specs.Prelude.{find}
use Rattle.std.specs.List.{position_or_len}
use Rattle.std.specs.Str.{bytes_eq}
use Rattle.std.proofs.lemmas.Bool.{ltb-true, ltb-false}
use Rattle.std.proofs.lemmas.List.{set-get_or}
use Rattle.std.proofs.lemmas.Option.{get_or_from_slice_get, slice_get_cases, slice_get_past}
use Rattle.engine_types.specs.declared.ImageRow.{ImageRow}
use Rattle.memory_engine.specs.Serving.{with_first, with_image}
use Rattle.memory_engine.proofs.Texts.{by_cases}

pub one_more : (n : ℕ) → 1 + n ≡ suc n
one_more n = omega arith

-- what is there already is put there
pub slice_set-same : {X : Type 0} (xs : List X) (n : ℕ) (x : X) → slice_get xs n ≡ Some x → slice_set xs n x ≡ xs
slice_set-same xs n x found = ap (λ y. slice_set xs n y) (sym (get_or_from_slice_get xs n x x found)) ∙ set-get_or xs n x

module _ {X : Type 0} (p : X → Bool) where
  -- what stands at the first place that passes is what a look-up finds
  pub slice_get-first : (xs : List X) → slice_get xs (position_or_len p xs) ≡ find p xs
  slice_get-first [] = refl
  slice_get-first (x ∷ xs) = by_cases (p x) (λ e. rw e refl) (λ e. rw (e, one_more) (slice_get-first xs))

  with_first_at : (f : X → X) (x : X) (xs : List X) → slice_get xs (position_or_len p xs) ≡ Some x
      → with_first p f xs ≡ slice_set xs (position_or_len p xs) (f x)
  with_first_at f x [] found = refl
  with_first_at f x (y ∷ ys) found = by_cases (p y)
      (λ e. let first : Some y ≡ Some x = rw e at found in let same : y ≡ x = cc in rw (e, same) refl)
      (λ e. let later : slice_get ys (position_or_len p ys) ≡ Some x = rw (e, one_more) at found in
      rw (e, one_more) (ap (λ zs. y ∷ zs) (with_first_at f x ys later)))

  with_first_past : (f : X → X) (xs : List X) → length xs ≤ position_or_len p xs → with_first p f xs ≡ xs
  with_first_past f [] past = refl
  with_first_past f (y ∷ ys) past = by_cases (p y)
      (λ e. let bound : suc (length ys) ≤ 0 = rw e at past in absurd (omega arith))
      (λ e. let bound : suc (length ys) ≤ 1 + position_or_len p ys = rw e at past in
      rw e (ap (λ zs. y ∷ zs) (with_first_past f ys (omega arith))))

  -- the first place that passes, where there is one
  pub first_place : (xs : List X) (n : ℕ) → position p xs ≡ Some n → (n ≡ position_or_len p xs) × (n < length xs)
  first_place xs n is = by_cases (nat_lt (position_or_len p xs) (length xs))
      (λ e. let same : Some (position_or_len p xs) ≡ Some n = rw e at is in
      let here : position_or_len p xs ≡ n = cc in (sym here, rw (← here) (ltb-true _ _ e)))
      (λ e. let clash : None ≡ Some n = rw e at is in cc)

  pub no_place : (xs : List X) → position p xs ≡ None → length xs ≤ position_or_len p xs
  no_place xs is = by_cases (nat_lt (position_or_len p xs) (length xs))
      (λ e. let clash : Some (position_or_len p xs) ≡ None = rw e at is in cc)
      (λ e. ltb-false _ _ e)

  -- what stands at that place is what a look-up finds
  pub find-at : (xs : List X) (n : ℕ) → position p xs ≡ Some n → slice_get xs n ≡ find p xs
  find-at xs n is = let here = (first_place xs n is).0 in rw here (slice_get-first xs)

  -- and where there is none, a look-up finds nothing
  pub find-nowhere : (xs : List X) → position p xs ≡ None → find p xs ≡ None
  find-nowhere xs is = sym (slice_get-first xs) ∙ slice_get_past xs (position_or_len p xs) (no_place xs is)

  -- the change where a place passes
  pub with_first-at : (f : X → X) (x : X) (xs : List X) (n : ℕ) → position p xs ≡ Some n → slice_get xs n ≡ Some x
      → with_first p f xs ≡ slice_set xs n (f x)
  with_first-at f x xs n is found =
      let here = (first_place xs n is).0 in rw here (with_first_at f x xs (rw here at found))

  -- and where none does
  pub with_first-none : (f : X → X) (xs : List X) → position p xs ≡ None → with_first p f xs ≡ xs
  with_first-none f xs is = with_first_past f xs (no_place xs is)

  -- a list that is set so at the first place that passes
  pub with_first-set : (f : X → X) (xs ys : List X) (n : ℕ) → position p xs ≡ Some n
      → ((x : X) → slice_get xs n ≡ Some x → ys ≡ slice_set xs n (f x)) → ys ≡ with_first p f xs
  with_first-set f xs ys n is told = ⊎_elim
      (λ w. told w.0 w.2 ∙ sym (with_first-at f w.0 xs n is w.2))
      (λ w. absurd (omega (arith, (first_place xs n is).1, w.0)))
      (slice_get_cases xs n).1

  -- a change that keeps what a look-up finds
  pub with_first-same : (f : X → X) (x : X) (xs : List X) → find p xs ≡ Some x → f x ≡ x → with_first p f xs ≡ xs
  with_first-same f x [] found same = refl
  with_first-same f x (y ∷ ys) found same = by_cases (p y)
      (λ e. let first : Some y ≡ Some x = rw e at found in let is : y ≡ x = cc in rw (e, is, same) refl)
      (λ e. rw e (ap (λ zs. y ∷ zs) (with_first-same f x ys (rw e at found) same)))

  -- and where a look-up finds nothing
  pub with_first-missed : (f : X → X) (xs : List X) → find p xs ≡ None → with_first p f xs ≡ xs
  with_first-missed f [] missed = refl
  with_first-missed f (y ∷ ys) missed = by_cases (p y)
      (λ e. let clash : Some y ≡ None = rw e at missed in cc)
      (λ e. rw e (ap (λ zs. y ∷ zs) (with_first-missed f ys (rw e at missed))))

  -- changes that agree on what a look-up finds
  pub with_first-agree : (f g : X → X) (x : X) (xs : List X) → find p xs ≡ Some x → f x ≡ g x → with_first p f xs ≡ with_first p g xs
  with_first-agree f g x [] found same = refl
  with_first-agree f g x (y ∷ ys) found same = by_cases (p y)
      (λ e. let first : Some y ≡ Some x = rw e at found in let is : y ≡ x = cc in rw (e, is, same) refl)
      (λ e. rw e (ap (λ zs. y ∷ zs) (with_first-agree f g x ys (rw e at found) same)))

-- an image's name has the id of its row, in its place or last
image_at_place : (name id : List ℕ) (rows : List ImageRow) → position_or_len (λ row. bytes_eq row.name name) rows < length rows
    → with_image rows name id ≡ slice_set rows (position_or_len (λ row. bytes_eq row.name name) rows) (record { name = name; id = id })
image_at_place name id [] within = absurd (omega arith)
image_at_place name id (row ∷ rows) within = by_cases (bytes_eq row.name name)
    (λ e. rw e refl)
    (λ e. let later : 1 + position_or_len (λ row. bytes_eq row.name name) rows < suc (length rows) = rw e at within in
    rw (e, one_more) (ap (λ zs. row ∷ zs) (image_at_place name id rows (omega arith))))

image_last : (name id : List ℕ) (rows : List ImageRow) → length rows ≤ position_or_len (λ row. bytes_eq row.name name) rows
    → with_image rows name id ≡ rows ++ record { name = name; id = id } ∷ []
image_last name id [] past = refl
image_last name id (row ∷ rows) past = by_cases (bytes_eq row.name name)
    (λ e. let bound : suc (length rows) ≤ 0 = rw e at past in absurd (omega arith))
    (λ e. let bound : suc (length rows) ≤ 1 + position_or_len (λ row. bytes_eq row.name name) rows = rw e at past in
    rw e (ap (λ zs. row ∷ zs) (image_last name id rows (omega arith))))

pub with_image-at : (name id : List ℕ) (rows : List ImageRow) (n : ℕ) → position (λ row. bytes_eq row.name name) rows ≡ Some n
    → with_image rows name id ≡ slice_set rows n (record { name = name; id = id })
with_image-at name id rows n is =
    let place = first_place (λ row. bytes_eq row.name name) rows n is in
    let here = place.0 in
    rw here (image_at_place name id rows (rw here at place.1))

pub with_image-last : (name id : List ℕ) (rows : List ImageRow) → position (λ row. bytes_eq row.name name) rows ≡ None
    → with_image rows name id ≡ rows ++ record { name = name; id = id } ∷ []
with_image-last name id rows is = image_last name id rows (no_place (λ row. bytes_eq row.name name) rows is)
