-- The first elements of each key, one element further, beside a map that knows their keys.
use Rattle.std.proofs.Common.{◌≡◌, ℕ, Bool, true, false, cond, ◌||◌, List, [], ◌∷◌, ◌++◌, map, Option, Some, None, is_some, refl, ap, sym, ◌∙◌}
use Rattle.std.proofs.lemmas.List.{map-append}
use Rattle.std.specs.List.{list_any}
use Rattle.std.specs.Map.{keys_of, lookup}
use Rattle.std.specs.Str.{bytes_eq}
use Rattle.tree_base.specs.Entries.{insert_entry}
use Rattle.tree_base.specs.ByteOrder.{first_of_each}
use Rattle.run_model.proofs.Firsts.{any-map, firsts-more, has, with_new}

module _ {V : Type 0} (k : List ℕ) where
  missing : (entries : List (List ℕ × V)) → lookup (bytes_eq k) entries ≡ None → list_any (bytes_eq k) (keys_of entries) ≡ false
  missing [] e = refl
  missing (entry ∷ entries) e = at (bytes_eq k entry.0) (missing entries) e
    where
      at : (t : Bool) → (lookup (bytes_eq k) entries ≡ None → list_any (bytes_eq k) (keys_of entries) ≡ false)
          → cond t (Some entry.1) (lookup (bytes_eq k) entries) ≡ None → (t || list_any (bytes_eq k) (keys_of entries)) ≡ false
      at true rest f = absurd (cc f)
      at false rest f = rest f

  known : (entries : List (List ℕ × V)) (w : V) → lookup (bytes_eq k) entries ≡ Some w → list_any (bytes_eq k) (keys_of entries) ≡ true
  known [] w e = absurd (cc e)
  known (entry ∷ entries) w e = at (bytes_eq k entry.0) (known entries w) e
    where
      at : (t : Bool) → (lookup (bytes_eq k) entries ≡ Some w → list_any (bytes_eq k) (keys_of entries) ≡ true)
          → cond t (Some entry.1) (lookup (bytes_eq k) entries) ≡ Some w → (t || list_any (bytes_eq k) (keys_of entries)) ≡ true
      at true rest f = refl
      at false rest f = rest f

  keys-put : (entries : List (List ℕ × V)) (v : V) → keys_of (insert_entry bytes_eq entries k v) ≡ cond (list_any (bytes_eq k) (keys_of entries)) (keys_of entries) (keys_of entries ++ k ∷ [])
  keys-put [] v = refl
  keys-put (entry ∷ entries) v = at (bytes_eq k entry.0) (list_any (bytes_eq k) (keys_of entries)) (keys-put entries v)
    where
      at : (t u : Bool) → keys_of (insert_entry bytes_eq entries k v) ≡ cond u (keys_of entries) (keys_of entries ++ k ∷ [])
          → keys_of (cond t ((entry.0, v) ∷ entries) (entry ∷ insert_entry bytes_eq entries k v))
          ≡ cond (t || u) (entry.0 ∷ keys_of entries) (entry.0 ∷ keys_of entries ++ k ∷ [])
      at true u e = refl
      at false true e = ap (λ l. entry.0 ∷ l) e
      at false false e = ap (λ l. entry.0 ∷ l) e

module _ {X : Type 0} (key : X → List ℕ) where
  module _ {V : Type 0} (entries : List (List ℕ × V)) (firsts xs : List X) (x : X) (are : firsts ≡ first_of_each key xs) (knows : keys_of entries ≡ map key firsts) where
    any-known : (b : Bool) → list_any (bytes_eq (key x)) (keys_of entries) ≡ b → has key (key x) firsts ≡ b
    any-known b e = sym (any-map key (key x) firsts) ∙ ap (list_any (bytes_eq (key x))) (sym knows) ∙ e

    -- the element's key is new
    pub first-new : lookup (bytes_eq (key x)) entries ≡ None → firsts ++ x ∷ [] ≡ first_of_each key (xs ++ x ∷ [])
    first-new e = sym (firsts-more key xs x ∙ ap (λ l. with_new key l x) (sym are) ∙ ap (λ b. cond b firsts (firsts ++ x ∷ [])) (any-known false (missing (key x) entries e)))

    pub knows-new : (v : V) → lookup (bytes_eq (key x)) entries ≡ None → keys_of (insert_entry bytes_eq entries (key x) v) ≡ map key (firsts ++ x ∷ [])
    knows-new v e = keys-put (key x) entries v ∙ ap (λ b. cond b (keys_of entries) (keys_of entries ++ key x ∷ [])) (missing (key x) entries e)
        ∙ ap (λ l. l ++ key x ∷ []) knows ∙ sym (map-append key firsts (x ∷ []))

    -- the element's key is known
    pub first-known : (w : V) → lookup (bytes_eq (key x)) entries ≡ Some w → firsts ≡ first_of_each key (xs ++ x ∷ [])
    first-known w e = sym (firsts-more key xs x ∙ ap (λ l. with_new key l x) (sym are) ∙ ap (λ b. cond b firsts (firsts ++ x ∷ [])) (any-known true (known (key x) entries w e)))

    pub knows-known : (v w : V) → lookup (bytes_eq (key x)) entries ≡ Some w → keys_of (insert_entry bytes_eq entries (key x) v) ≡ map key firsts
    knows-known v w e = keys-put (key x) entries v ∙ ap (λ b. cond b (keys_of entries) (keys_of entries ++ key x ∷ [])) (known (key x) entries w e) ∙ knows

-- one element more, whose key was put into the map
module _ {X V : Type 0} (key : X → List ℕ) (entries : List (List ℕ × V)) (firsts all : List X) (x : X) (k : List ℕ) (before : Option V) where
  pub known-all : (v : V) (after : List (List ℕ × V)) → firsts ≡ first_of_each key all → keys_of entries ≡ map key firsts → k ≡ key x → before ≡ lookup (bytes_eq k) entries
      → after ≡ insert_entry bytes_eq entries k v → is_some before ≡ true
      → (firsts ≡ first_of_each key (all ++ x ∷ [])) × (keys_of after ≡ map key firsts)
  known-all v after are knows is old put there = at before refl there
    where
      at : (o : Option V) → before ≡ o → is_some o ≡ true → (firsts ≡ first_of_each key (all ++ x ∷ [])) × (keys_of after ≡ map key firsts)
      at None e h = absurd (cc h)
      at (Some w) e h =
          let found : lookup (bytes_eq (key x)) entries ≡ Some w = ap (λ t. lookup (bytes_eq t) entries) (sym is) ∙ sym old ∙ e in (
            first-known key entries firsts all x are knows w found,
            ap keys_of (put ∙ ap (λ t. insert_entry bytes_eq entries t v) is) ∙ knows-known key entries firsts all x are knows v w found,
          )

  pub new-all : (v : V) (after : List (List ℕ × V)) (grown : List X) (copy : X) → firsts ≡ first_of_each key all → keys_of entries ≡ map key firsts → k ≡ key x
      → before ≡ lookup (bytes_eq k) entries → after ≡ insert_entry bytes_eq entries k v → is_some before ≡ false → copy ≡ x → grown ≡ firsts ++ copy ∷ []
      → (grown ≡ first_of_each key (all ++ x ∷ [])) × (keys_of after ≡ map key grown)
  new-all v after grown copy are knows is old put there same pushed = at before refl there
    where
      at : (o : Option V) → before ≡ o → is_some o ≡ false → (grown ≡ first_of_each key (all ++ x ∷ [])) × (keys_of after ≡ map key grown)
      at (Some w) e h = absurd (cc h)
      at None e h =
          let found : lookup (bytes_eq (key x)) entries ≡ None = ap (λ t. lookup (bytes_eq t) entries) (sym is) ∙ sym old ∙ e in
          let all_of : grown ≡ firsts ++ x ∷ [] = pushed ∙ ap (λ y. firsts ++ y ∷ []) same in (
            all_of ∙ first-new key entries firsts all x are knows found,
            ap keys_of (put ∙ ap (λ t. insert_entry bytes_eq entries t v) is) ∙ knows-new key entries firsts all x are knows v found ∙ ap (map key) (sym all_of),
          )
