-- The first rows of each id, one row further, beside a map that knows their ids.
use Rattle.std.proofs.Common.{◌≡◌, ℕ, ◌+◌, ◌<◌, Bool, true, false, cond, not, ◌||◌, List, [], ◌∷◌, ◌++◌, length, get_or, take, map, Option, Some, None, is_some, is_none, refl, ap, sym, ◌∙◌}
use Rattle.std.proofs.lemmas.List.{map-append, append-nil, take_more}
use Rattle.std.specs.List.{list_any}
use Rattle.std.specs.Map.{keys_of, lookup}
use Rattle.std.specs.Str.{bytes_eq}
use Rattle.tree_base.specs.Entries.{insert_entry}
use Rattle.tree_base.specs.ByteOrder.{first_of_each}
use Rattle.run_model.proofs.Firsts.{any-map, firsts-more, with_new}

module _ {X : Type 0} (key : X → List ℕ) where
  -- one row more, whose key is new or known
  pub firsts_turn : (firsts xs : List X) (x : X) (keys after : List (List ℕ)) (new : Bool) → firsts ≡ first_of_each key xs → keys ≡ map key firsts
      → new ≡ not (list_any (bytes_eq (key x)) keys) → after ≡ cond new (keys ++ key x ∷ []) keys
      → (firsts ++ cond new (x ∷ []) [] ≡ first_of_each key (xs ++ x ∷ [])) × (after ≡ map key (firsts ++ cond new (x ∷ []) []))
  firsts_turn firsts xs x keys after new are knows tells put =
      at (list_any (bytes_eq (key x)) keys) new tells put
      (ap (λ b. cond b firsts (firsts ++ x ∷ [])) (ap (list_any (bytes_eq (key x))) knows ∙ any-map key (key x) firsts)
      ∙ ap (λ l. with_new key l x) are ∙ sym (firsts-more key xs x))
    where
      at : (b new : Bool) → new ≡ not b → after ≡ cond new (keys ++ key x ∷ []) keys → cond b firsts (firsts ++ x ∷ []) ≡ first_of_each key (xs ++ x ∷ [])
          → (firsts ++ cond new (x ∷ []) [] ≡ first_of_each key (xs ++ x ∷ [])) × (after ≡ map key (firsts ++ cond new (x ∷ []) []))
      at true false e f g = (append-nil firsts ∙ g, f ∙ knows ∙ ap (map key) (sym (append-nil firsts)))
      at false true e f g = (g, f ∙ ap (λ l. l ++ key x ∷ []) knows ∙ sym (map-append key firsts (x ∷ [])))
      at true true e f g = absurd (cc e)
      at false false e f g = absurd (cc e)

module _ {V : Type 0} (k : List ℕ) where
  known_is : (entries : List (List ℕ × V)) → is_none (lookup (bytes_eq k) entries) ≡ not (list_any (bytes_eq k) (keys_of entries))
  known_is [] = refl
  known_is (entry ∷ entries) = at (bytes_eq k entry.0) (known_is entries)
    where
      at : (t : Bool) → is_none (lookup (bytes_eq k) entries) ≡ not (list_any (bytes_eq k) (keys_of entries))
          → is_none (cond t (Some entry.1) (lookup (bytes_eq k) entries)) ≡ not (t || list_any (bytes_eq k) (keys_of entries))
      at true e = refl
      at false e = e

  keys-put : (entries : List (List ℕ × V)) (v : V)
      → keys_of (insert_entry bytes_eq entries k v) ≡ cond (not (list_any (bytes_eq k) (keys_of entries))) (keys_of entries ++ k ∷ []) (keys_of entries)
  keys-put [] v = refl
  keys-put (entry ∷ entries) v = at (bytes_eq k entry.0) (list_any (bytes_eq k) (keys_of entries)) (keys-put entries v)
    where
      at : (t u : Bool) → keys_of (insert_entry bytes_eq entries k v) ≡ cond (not u) (keys_of entries ++ k ∷ []) (keys_of entries)
          → keys_of (cond t ((entry.0, v) ∷ entries) (entry ∷ insert_entry bytes_eq entries k v))
          ≡ cond (not (t || u)) (entry.0 ∷ keys_of entries ++ k ∷ []) (entry.0 ∷ keys_of entries)
      at true u e = refl
      at false true e = ap (λ l. entry.0 ∷ l) e
      at false false e = ap (λ l. entry.0 ∷ l) e

none_from : {V : Type 0} (o : Option V) (b : Bool) → is_some o ≡ not b → b ≡ is_none o
none_from None true e = refl
none_from None false e = absurd (cc e)
none_from (Some x) true e = absurd (cc e)
none_from (Some x) false e = refl

-- a key that was put into a map of entries
module _ {V : Type 0} (entries after : List (List ℕ × V)) (k id : List ℕ) (before : Option V) (new : Bool) (is : k ≡ id) (old : before ≡ lookup (bytes_eq k) entries)
    (tells : is_some before ≡ not new) where
  pub new_is : new ≡ not (list_any (bytes_eq id) (keys_of entries))
  new_is = none_from before new tells ∙ ap is_none (old ∙ ap (λ t. lookup (bytes_eq t) entries) is) ∙ known_is id entries

  pub keys_after : (v : V) → after ≡ insert_entry bytes_eq entries k v → keys_of after ≡ cond new (keys_of entries ++ id ∷ []) (keys_of entries)
  keys_after v put =
      ap keys_of (put ∙ ap (λ t. insert_entry bytes_eq entries t v) is) ∙ keys-put id entries v ∙ ap (λ b. cond b (keys_of entries ++ id ∷ []) (keys_of entries)) (sym new_is)

-- one row more of a loop that keeps references to the first rows
module _ {X B : Type 0} (now : B → X) (key : X → List ℕ) (rows : List X) (i : ℕ) (x : X) (found : List B) (keys after : List (List ℕ)) (new : Bool) (within : i < length rows)
    (is : x ≡ get_or rows i x) (are : map now found ≡ first_of_each key (take i rows)) (knows : keys ≡ map key (map now found))
    (tells : new ≡ not (list_any (bytes_eq (key x)) keys)) (put : after ≡ cond new (keys ++ key x ∷ []) keys) where
  next : take (i + 1) rows ≡ take i rows ++ x ∷ []
  next = take_more rows i x within ∙ ap (λ (y : X). take i rows ++ y ∷ []) (sym is)

  kept : (grown : List B) → map now grown ≡ map now found ++ cond new (x ∷ []) [] → (map now grown ≡ first_of_each key (take (i + 1) rows)) × (after ≡ map key (map now grown))
  kept grown all =
      let turn = firsts_turn key (map now found) (take i rows) x keys after new are knows tells put in
      (all ∙ turn.0 ∙ ap (first_of_each key) (sym next), turn.1 ∙ ap (map key) (sym all))

  pub new_row : {V : Type 0} (grown pushed : V) (items : V → List B) (b : B) → grown ≡ pushed → items pushed ≡ found ++ b ∷ [] → now b ≡ x → new ≡ true
      → (map now (items grown) ≡ first_of_each key (take (i + 1) rows)) × (after ≡ map key (map now (items grown)))
  new_row grown pushed items b same more one is_new =
      kept (items grown) (ap (λ v. map now (items v)) same ∙ ap (map now) more ∙ map-append now found (b ∷ []) ∙ ap (λ (y : X). map now found ++ y ∷ []) one
      ∙ ap (λ t. map now found ++ cond t (x ∷ []) []) (sym is_new))

  pub known_row : {V : Type 0} (grown old : V) (items : V → List B) → grown ≡ old → items old ≡ found → new ≡ false
      → (map now (items grown) ≡ first_of_each key (take (i + 1) rows)) × (after ≡ map key (map now (items grown)))
  known_row grown old items same stays is_known =
      kept (items grown) (ap (λ v. map now (items v)) same ∙ ap (map now) stays ∙ sym (append-nil (map now found))
      ∙ ap (λ t. map now found ++ cond t (x ∷ []) []) (sym is_known))
