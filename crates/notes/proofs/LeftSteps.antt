-- What a map of ids knows, and the names of those that it doesn't know.
use Rattle.std.proofs.Common.{◌≡◌, ◌∙◌, ◌+◌, ◌≤◌, ℕ, zero, suc, Bool, true, false, ◌||◌, cond, List, [], ◌∷◌, ◌++◌, Some, add-one, append-nil, codes, flat_map, is_some, length, map, slice_get, take, refl, sym, ap, arith}
use Rattle.std.proofs.lemmas.Grind.{flat_map-append}
use Rattle.std.proofs.lemmas.List.{map-append}
use Rattle.std.proofs.lemmas.List.Folds.{list_any-append}
use Rattle.std.proofs.lemmas.Slice.Eq.{bytes_eq-Decides}
use Rattle.std.specs.List.{list_any}
use Rattle.std.specs.Option.{option_to_list}
use Rattle.std.specs.Str.{bytes_eq}
use Rattle.engine_types.specs.declared.Exchange.{Exchange}
use Rattle.engine_types.specs.declared.Listed.{Listed}
use Rattle.notes.specs.Containers.{Knows, Learns, left_name, name_unknown, names_left, names_unknown, removed_ids, removed_in, rows_told}
use Rattle.run_model.specs.Shown.{shown}
use Rattle.tree_base.specs.Entries.{value_at, with_entry}

own_key : (k : List ℕ) → bytes_eq k k ≡ true
own_key k = (bytes_eq-Decides k k).1 refl

-- a key that is put is there
own_known : (es : List (List ℕ × Bool)) (p : List ℕ) (v : Bool) → is_some (value_at (with_entry es p v) p) ≡ true
own_known [] p v = rw (own_key p) refl
own_known (e ∷ es) p v = by (bytes_eq p e.0) refl (own_known es p v)
  where
    by : (b : Bool) → bytes_eq p e.0 ≡ b → is_some (value_at (with_entry es p v) p) ≡ true → is_some (value_at (cond b ((e.0, v) ∷ es) (e ∷ with_entry es p v)) p) ≡ true
    by true is more = rw is refl
    by false is more = rw is more

-- and others are there as before
other_known : (es : List (List ℕ × Bool)) (p q : List ℕ) (v : Bool) → bytes_eq q p ≡ false → is_some (value_at (with_entry es p v) q) ≡ is_some (value_at es q)
other_known [] p q v apart = rw apart refl
other_known (e ∷ es) p q v apart = by (bytes_eq p e.0) refl (other_known es p q v apart)
  where
    by : (b : Bool) → bytes_eq p e.0 ≡ b → is_some (value_at (with_entry es p v) q) ≡ is_some (value_at es q)
        → is_some (value_at (cond b ((e.0, v) ∷ es) (e ∷ with_entry es p v)) q) ≡ is_some (cond (bytes_eq q e.0) (Some e.1) (value_at es q))
    by true is more =
        let differs : bytes_eq q e.0 ≡ false = ap (bytes_eq q) (sym ((bytes_eq-Decides p e.0).0 is)) ∙ apart in
        rw differs refl
    by false is more = step (bytes_eq q e.0) more
      where
        step : (b : Bool) → is_some (value_at (with_entry es p v) q) ≡ is_some (value_at es q) → is_some (cond b (Some e.1) (value_at (with_entry es p v) q)) ≡ is_some (cond b (Some e.1) (value_at es q))
        step true same = refl
        step false same = same

last_of : (b : Bool) → (b || false) ≡ b
last_of true = refl
last_of false = refl

always : (b : Bool) → (b || true) ≡ true
always true = refl
always false = refl

never : (b : Bool) → (b || false) ≡ b
never = last_of

-- an id that is put is known beside the others
pub learns_one : (old : List (List ℕ × Bool)) (id : List ℕ) → Learns old (with_entry old id true) (id ∷ [])
learns_one old id ids knows key = by (bytes_eq key id) refl
  where
    any : list_any (bytes_eq key) (ids ++ id ∷ []) ≡ (list_any (bytes_eq key) ids || bytes_eq key id)
    any = list_any-append (bytes_eq key) ids (id ∷ []) ∙ ap (λ (b : Bool). list_any (bytes_eq key) ids || b) (last_of (bytes_eq key id))

    by : (b : Bool) → bytes_eq key id ≡ b → is_some (value_at (with_entry old id true) key) ≡ list_any (bytes_eq key) (ids ++ id ∷ [])
    by true e =
        ap (λ (k : List ℕ). is_some (value_at (with_entry old id true) k)) ((bytes_eq-Decides key id).0 e) ∙ own_known old id true
        ∙ sym (any ∙ ap (λ (b : Bool). list_any (bytes_eq key) ids || b) e ∙ always (list_any (bytes_eq key) ids))
    by false e =
        other_known old id key true e ∙ knows key
        ∙ sym (any ∙ ap (λ (b : Bool). list_any (bytes_eq key) ids || b) e ∙ never (list_any (bytes_eq key) ids))

-- where nothing is put, nothing else is known
pub learns_none : (old : List (List ℕ × Bool)) → Learns old old []
learns_none old ids knows key = knows key ∙ ap (list_any (bytes_eq key)) (sym (append-nil ids))

module _ {X : Type 0} where
  -- one more of the first
  pub take_next : (xs : List X) (i : ℕ) (x : X) → slice_get xs i ≡ Some x → take (i + 1) xs ≡ take i xs ++ x ∷ []
  take_next xs i x e = rw add-one (next xs i x e)
    where
      next : (xs : List X) (i : ℕ) (x : X) → slice_get xs i ≡ Some x → take (suc i) xs ≡ take i xs ++ x ∷ []
      next [] i x e = absurd cc
      next (y ∷ xs) zero x e = let same : y ≡ x = cc in ap (λ (t : X). t ∷ []) same
      next (y ∷ xs) (suc i) x e = ap (λ (l : List X). y ∷ l) (next xs i x e)

  -- the first are all, where there are no more
  pub take_all : (xs : List X) (i : ℕ) → length xs ≤ i → take i xs ≡ xs
  take_all [] zero h = refl
  take_all [] (suc i) h = refl
  take_all (x ∷ xs) zero h = absurd (omega arith)
  take_all (x ∷ xs) (suc i) h = ap (λ (l : List X). x ∷ l) (take_all xs i (omega arith))

  -- the ids that one more exchange removed
  pub ids_next : (now : X → Exchange) (xs : List X) (i : ℕ) (x : X) → slice_get xs i ≡ Some x
      → removed_ids (map now (take (i + 1) xs)) ≡ removed_ids (map now (take i xs)) ++ option_to_list (removed_in (now x).request (now x).outcome)
  ids_next now xs i x at =
      let ids = λ (e : Exchange). option_to_list (removed_in e.request e.outcome) in
      ap (λ (l : List X). removed_ids (map now l)) (take_next xs i x at)
      ∙ ap removed_ids (map-append now (take i xs) (x ∷ []))
      ∙ flat_map-append ids (map now (take i xs)) (now x ∷ [])
      ∙ ap (λ (l : List (List ℕ)). removed_ids (map now (take i xs)) ++ l) (append-nil (ids (now x)))

  pieces_same : (f g : X → List ℕ) → ((x : X) → f x ≡ g x) → (xs : List X) → flat_map f xs ≡ flat_map g xs
  pieces_same f g same [] = refl
  pieces_same f g same (x ∷ xs) = (λ i. same x i ++ pieces_same f g same xs i)

-- a container is named by the map as by the ids
name_same : (known : List (List ℕ × Bool)) (ids : List (List ℕ)) → Knows known ids → (row : Listed) → name_unknown known row ≡ left_name ids row
name_same known ids knows row = ap (λ (b : Bool). cond b [] (codes " " ++ shown row.name)) (knows row.id)

-- and so are all that are listed
pub names_same : (known : List (List ℕ × Bool)) (ids : List (List ℕ)) → Knows known ids → (exchanges : List Exchange)
    → names_unknown known exchanges ≡ names_left ids exchanges
names_same known ids knows exchanges =
    pieces_same (λ exchange. flat_map (name_unknown known) (rows_told exchange.outcome)) (λ exchange. flat_map (left_name ids) (rows_told exchange.outcome))
    (λ exchange. pieces_same (name_unknown known) (left_name ids) (name_same known ids knows) (rows_told exchange.outcome)) exchanges
