-- Look-ups in rows by a key, after a row is changed, taken out or added.
use Rattle.std.proofs.Common.{◌≡◌, ℕ, zero, suc, length, position, slice_get, subst, sym, ◌∙◌, ◌<◌, ◌≤◌, ◌+◌, ap, inl, inr, arith, true, false, not, if◌then◌else◌, List, [], ◌∷◌, ◌++◌, Option, Some, None, map, refl}
use Rattle.std.specs.Prelude.{filter, find}
use Rattle.std.specs.List.{position_or_len, remove, AllByRecursion, IsDistinct}
use Rattle.std.specs.Option.{option_map, option_map_or}
use Rattle.std.specs.Str.{bytes_eq}
use Rattle.std.proofs.lemmas.Bool.{lt-ltb}
use Rattle.std.proofs.lemmas.Map.Keys.{IsDistinct-head, IsDistinct-tail}
use Rattle.std.proofs.lemmas.Option.{slice_get_within}
use Rattle.run_model.specs.EngineRules.{Among}
use Rattle.memory_engine.specs.Serving.{with_first}
use Rattle.memory_engine.proofs.Distinct.{AllByRecursion-among}
use Rattle.memory_engine.proofs.Places.{first_place, no_place, one_more}
use Rattle.memory_engine.proofs.Texts.{by_cases, same_text, bytes_eq_alike, bytes_eq_apart, bytes_eq_flips}

module _ {X : Type 0} (key : X → List ℕ) where
  -- the row with a key is changed, and keeps its key
  pub find-with_first : (change : X → X) (keeps : (x : X) → key (change x) ≡ key x) (id i : List ℕ) (xs : List X)
      → find (λ x. bytes_eq (key x) i) (with_first (λ x. bytes_eq (key x) id) change xs)
      ≡ (if bytes_eq id i then option_map change (find (λ x. bytes_eq (key x) id) xs) else find (λ x. bytes_eq (key x) i) xs)
  find-with_first change keeps id i [] = by_cases (bytes_eq id i) (λ e. rw e refl) (λ e. rw e refl)
  find-with_first change keeps id i (x ∷ xs) =
      let rest = find-with_first change keeps id i xs in
      by_cases (bytes_eq (key x) id)
      (λ here. let alike = bytes_eq_alike (key x) id i here in
      rw (here, keeps x, alike) (by_cases (bytes_eq id i) (λ e. rw e refl) (λ e. rw e refl)))
      (λ apart. by_cases (bytes_eq (key x) i)
      (λ there. let other = bytes_eq_apart (key x) id i apart there in rw (apart, there, other) refl)
      (λ away. rw (apart, away, rest) refl))

  -- the row with a key is taken out
  pub find-filter : (id i : List ℕ) (xs : List X)
      → find (λ x. bytes_eq (key x) i) (filter (λ x. not (bytes_eq (key x) id)) xs)
      ≡ (if bytes_eq id i then None else find (λ x. bytes_eq (key x) i) xs)
  find-filter id i [] = by_cases (bytes_eq id i) (λ e. rw e refl) (λ e. rw e refl)
  find-filter id i (x ∷ xs) =
      let rest = find-filter id i xs in
      by_cases (bytes_eq (key x) id)
      (λ here. let alike = bytes_eq_alike (key x) id i here in
      rw (here, rest, alike) (by_cases (bytes_eq id i) (λ e. rw e refl) (λ e. rw e refl)))
      (λ apart. by_cases (bytes_eq (key x) i)
      (λ there. let other = bytes_eq_apart (key x) id i apart there in rw (apart, there, other) refl)
      (λ away. rw (apart, away, rest) refl))

  -- a row is added under a key that none has
  pub find-push : (y : X) (id i : List ℕ) → key y ≡ id → (xs : List X) → find (λ x. bytes_eq (key x) id) xs ≡ None
      → find (λ x. bytes_eq (key x) i) (xs ++ y ∷ [])
      ≡ (if bytes_eq id i then Some y else find (λ x. bytes_eq (key x) i) xs)
  find-push y id i keyed [] free = rw keyed refl
  find-push y id i keyed (x ∷ xs) free =
      by_cases (bytes_eq (key x) id)
      (λ here. let taken : Some x ≡ None = rw here at free in cc)
      (λ apart. let free_later = rw apart at free in
      let rest = find-push y id i keyed xs free_later in
      by_cases (bytes_eq (key x) i)
      (λ there. let other = bytes_eq_apart (key x) id i apart there in rw (there, other) refl)
      (λ away. rw (away, rest) refl))

  -- the row that a look-up finds has that key
  pub find-key : (id : List ℕ) (xs : List X) (x : X) → find (λ x. bytes_eq (key x) id) xs ≡ Some x → key x ≡ id
  find-key id [] x found = let clash : None ≡ Some x = found in cc
  find-key id (y ∷ xs) x found =
      by_cases (bytes_eq (key y) id)
      (λ here. let first : Some y ≡ Some x = rw here at found in let same : y ≡ x = cc in rw (← same) (same_text _ _ here))
      (λ apart. find-key id xs x (rw apart at found))

  among-at : (xs : List X) (n : ℕ) (x : X) → slice_get xs n ≡ Some x → Among xs x
  among-at [] n x at = let clash : None ≡ Some x = at in cc
  among-at (y ∷ ys) zero x at = let same : x ≡ y = cc in inl same
  among-at (y ∷ ys) (suc n) x at = inr (among-at ys n x at)

  place_with_key : (id : List ℕ) (xs : List X) (n : ℕ) (x : X) → IsDistinct bytes_eq (map key xs) → slice_get xs n ≡ Some x → bytes_eq (key x) id ≡ true
      → position_or_len (λ y. bytes_eq (key y) id) xs ≡ n
  place_with_key id [] n x distinct at here = let clash : None ≡ Some x = at in cc
  place_with_key id (y ∷ ys) zero x distinct at here =
      let same : y ≡ x = cc in let first : bytes_eq (key y) id ≡ true = rw same here in rw first refl
  place_with_key id (y ∷ ys) (suc n) x distinct at here =
      let later = place_with_key id ys n x (IsDistinct-tail bytes_eq (key y) (map key ys) distinct) at here in
      let other = AllByRecursion-among key (λ k. bytes_eq (key y) k ≡ false) ys x (IsDistinct-head bytes_eq (key y) (map key ys) distinct) (among-at ys n x at) in
      let apart : bytes_eq (key y) id ≡ false = subst (λ k. bytes_eq (key y) k ≡ false) (same_text (key x) id here) other in
      rw (apart, later) (omega arith)

  position_with_key : (id : List ℕ) (xs : List X) (n : ℕ) (found : Option X) → IsDistinct bytes_eq (map key xs) → slice_get xs n ≡ found
      → option_map_or (λ x. bytes_eq (key x) id) found false ≡ true → position (λ y. bytes_eq (key y) id) xs ≡ Some n
  position_with_key id xs n None distinct at here = let clash : false ≡ true = here in cc
  position_with_key id xs n (Some x) distinct at here =
      let place = place_with_key id xs n x distinct at here in
      let within = lt-ltb n (length xs) (slice_get_within xs n x at) in
      rw (place, within) refl

  -- where keys differ, a row with a key stands at the first place that has it
  pub position-with_key : (id : List ℕ) (xs : List X) (n : ℕ) → IsDistinct bytes_eq (map key xs) → option_map_or (λ x. bytes_eq (key x) id) (slice_get xs n) false ≡ true
      → position (λ y. bytes_eq (key y) id) xs ≡ Some n
  position-with_key id xs n distinct here = position_with_key id xs n (slice_get xs n) distinct refl here

  -- rows of which none has a key are those without it
  lacking : (id : List ℕ) (xs : List X) → AllByRecursion (λ k. bytes_eq id k ≡ false) (map key xs) → filter (λ x. not (bytes_eq (key x) id)) xs ≡ xs
  lacking id [] all = refl
  lacking id (x ∷ xs) all = let apart : bytes_eq (key x) id ≡ false = bytes_eq_flips (key x) id ∙ all.0 in rw (apart, lacking id xs all.1) refl

  removed_first : (id : List ℕ) (xs : List X) → IsDistinct bytes_eq (map key xs) → position_or_len (λ x. bytes_eq (key x) id) xs < length xs
      → filter (λ x. not (bytes_eq (key x) id)) xs ≡ remove xs (position_or_len (λ x. bytes_eq (key x) id) xs)
  removed_first id [] distinct within = absurd (omega arith)
  removed_first id (x ∷ xs) distinct within = by_cases (bytes_eq (key x) id)
      (λ here. let others = subst (λ (i : List ℕ). AllByRecursion (λ k. bytes_eq i k ≡ false) (map key xs)) (same_text (key x) id here) (IsDistinct-head bytes_eq (key x) (map key xs) distinct) in
      rw here (lacking id xs others))
      (λ apart. let bound : 1 + position_or_len (λ y. bytes_eq (key y) id) xs < suc (length xs) = rw apart at within in
      rw (apart, one_more) (ap (λ ys. x ∷ ys) (removed_first id xs (IsDistinct-tail bytes_eq (key x) (map key xs) distinct) (omega arith))))

  -- where keys differ, the rows without a key are all but the first that has it
  pub filter-removed : (id : List ℕ) (xs : List X) (n : ℕ) → IsDistinct bytes_eq (map key xs) → position (λ x. bytes_eq (key x) id) xs ≡ Some n
      → filter (λ x. not (bytes_eq (key x) id)) xs ≡ remove xs n
  filter-removed id xs n distinct is =
      let place = first_place (λ (x : X). bytes_eq (key x) id) xs n is in
      let within : position_or_len (λ x. bytes_eq (key x) id) xs < length xs = subst (λ (m : ℕ). m < length xs) place.0 place.1 in
      removed_first id xs distinct within ∙ ap (λ (m : ℕ). remove xs m) (sym place.0)

  -- and where none has it, they are all
  pub filter-missed : (id : List ℕ) (xs : List X) → position (λ x. bytes_eq (key x) id) xs ≡ None → filter (λ x. not (bytes_eq (key x) id)) xs ≡ xs
  filter-missed id xs is = past xs (no_place (λ (x : X). bytes_eq (key x) id) xs is)
    where
      past : (ys : List X) → length ys ≤ position_or_len (λ x. bytes_eq (key x) id) ys → filter (λ x. not (bytes_eq (key x) id)) ys ≡ ys
      past [] bound = refl
      past (y ∷ ys) bound = by_cases (bytes_eq (key y) id)
          (λ here. let none : suc (length ys) ≤ 0 = rw here at bound in absurd (omega arith))
          (λ apart. let more : suc (length ys) ≤ 1 + position_or_len (λ x. bytes_eq (key x) id) ys = rw apart at bound in
          rw apart (ap (λ zs. y ∷ zs) (past ys (omega arith))))
