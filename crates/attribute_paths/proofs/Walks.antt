-- Steps of a walk over the items of a sequence, and over the entries of a mapping by its keys and values.
use Rattle.std.proofs.Common.{◌≡◌, ◌∙◌, ℕ, zero, suc, ◌+◌, ◌≤◌, Bool, true, false, List, [], ◌∷◌, map, drop, add-one, length, slice_get, slice_set, Some, refl, ap, arith, cond}
use Rattle.std.specs.Cmp.Lexicographic.{nat_list_eq_equiv}
use Rattle.std.specs.List.{zip}
use Rattle.std.specs.Map.{keys_of, values_of, remove_entry}
use Rattle.std.specs.Str.{bytes_eq}
use Rattle.tree_base.specs.Entries.{with_entry}
use Rattle.tree_base.proofs.Pairs.{values_mapped}

module _ {X Y : Type 0} (f : X → Y) where
  next_item : (items : List X) (i : ℕ) (item : X) → slice_get items i ≡ Some item → drop i (map f items) ≡ f item ∷ drop (suc i) (map f items)
  next_item [] i item e = absurd cc
  next_item (x ∷ items) zero item e = let same : x ≡ item = cc in ap (λ (t : X). f t ∷ map f items) same
  next_item (x ∷ items) (suc i) item e = next_item items i item e

  -- the items from a place on begin with the one there
  pub item_next : (items : List X) (i : ℕ) (item : X) → slice_get items i ≡ Some item → drop i (map f items) ≡ f item ∷ drop (i + 1) (map f items)
  item_next items i item e = rw add-one (next_item items i item e)

  next_entry : (keys : List (List ℕ)) (values : List X) (i : ℕ) (key : List ℕ) (value : X) → slice_get keys i ≡ Some key → slice_get values i ≡ Some value
      → drop i (zip keys (map f values)) ≡ (key, f value) ∷ drop (suc i) (zip keys (map f values))
  next_entry [] values i key value p q = absurd cc
  next_entry (k ∷ keys) [] i key value p q = absurd cc
  next_entry (k ∷ keys) (x ∷ values) zero key value p q =
      let one : k ≡ key = cc in
      let two : x ≡ value = cc in
      (λ i. (one i, f (two i)) ∷ zip keys (map f values))
  next_entry (k ∷ keys) (x ∷ values) (suc i) key value p q = next_entry keys values i key value p q

  -- the entries from a place on begin with the one there
  pub entry_next : (keys : List (List ℕ)) (values : List X) (i : ℕ) (key : List ℕ) (value : X) → slice_get keys i ≡ Some key → slice_get values i ≡ Some value
      → drop i (zip keys (map f values)) ≡ (key, f value) ∷ drop (i + 1) (zip keys (map f values))
  entry_next keys values i key value p q = rw add-one (next_entry keys values i key value p q)

  -- no entry stands past the values
  pub no_entry : (keys : List (List ℕ)) (values : List X) (i : ℕ) → length values ≤ i → drop i (zip keys (map f values)) ≡ []
  no_entry [] values zero h = refl
  no_entry [] values (suc i) h = refl
  no_entry (k ∷ keys) [] zero h = refl
  no_entry (k ∷ keys) [] (suc i) h = refl
  no_entry (k ∷ keys) (x ∷ values) zero h = absurd (omega arith)
  no_entry (k ∷ keys) (x ∷ values) (suc i) h = no_entry keys values i (omega arith)

  -- the entries of a mapping, by its keys and its values
  pub entries_are : (es : List (List ℕ × X)) (keys : List (List ℕ)) (values : List X) → keys ≡ keys_of es → values ≡ values_of es
      → zip keys (map f values) ≡ map (λ (e : List ℕ × X). (e.0, f e.1)) es
  entries_are es keys values p q = (λ i. zip (p i) (map f (q i))) ∙ values_mapped f es

-- a key put and taken out again is as good as taken out
pub put_removed : {V : Type 0} (es : List (List ℕ × V)) (k : List ℕ) (v : V) → remove_entry (bytes_eq k) (with_entry es k v) ≡ remove_entry (bytes_eq k) es
put_removed {V} [] k v = ap (λ (b : Bool). cond b [] ((k, v) ∷ [])) (nat_list_eq_equiv.refl k)
put_removed {V} (e ∷ es) k v = by (put_removed es k v) (bytes_eq k e.0) refl
  where
    by : remove_entry (bytes_eq k) (with_entry es k v) ≡ remove_entry (bytes_eq k) es → (b : Bool) → bytes_eq k e.0 ≡ b → remove_entry (bytes_eq k) (with_entry (e ∷ es) k v) ≡ remove_entry (bytes_eq k) (e ∷ es)
    by rest true p = rw p (rw p refl)
    by rest false p = rw p (rw p (ap (λ l. e ∷ l) rest))

-- the second of two values at one place is the one that stays
pub set_twice : {X : Type 0} (xs : List X) (i : ℕ) (a b : X) → slice_set (slice_set xs i a) i b ≡ slice_set xs i b
set_twice [] i a b = refl
set_twice (x ∷ xs) zero a b = refl
set_twice {X} (x ∷ xs) (suc i) a b = ap (λ (l : List X). x ∷ l) (set_twice xs i a b)

-- what is left of a list from a place on begins with what stands there
pub drop_next : {X : Type 0} (xs : List X) (i : ℕ) (x : X) → slice_get xs i ≡ Some x → drop i xs ≡ x ∷ drop (i + 1) xs
drop_next {X} xs i x e = rw add-one (next xs i x e)
  where
    next : (xs : List X) (i : ℕ) (x : X) → slice_get xs i ≡ Some x → drop i xs ≡ x ∷ drop (suc i) xs
    next [] i x e = absurd cc
    next (y ∷ xs) zero x e = let same : y ≡ x = cc in ap (λ (t : X). t ∷ xs) same
    next (y ∷ xs) (suc i) x e = next xs i x e
