-- What holds of entries that are read, one by one.
use Rattle.std.proofs.Common.{◌≡◌, ◌∙◌, ℕ, Bool, true, false, cond, not, List, [], ◌∷◌, ◌++◌, Ok, Err, is_some, refl, sym}
use Rattle.std.specs.List.{list_all}
use Rattle.std.proofs.lemmas.Bool.{and_from, and_parts}
use Rattle.tree_base.specs.Answers.{◌>>=◌}
use Rattle.tree_base.specs.ByteOrder.{by_key, is_before, placed}
use Rattle.tree_base.specs.Entries.{value_at}
use Rattle.tree_base.specs.declared.Step.TheVariants.{Key}
use Rattle.tree_base.specs.declared.Tree.{Tree, Null}
use Rattle.attribute_paths.proofs.Trees.{OfAll}
use Rattle.attribute_types.specs.Answers.{under}
use Rattle.attribute_scalars.specs.Walks.{Entries, Read, each_entry, in_byte_order, is_extension, own_entries, with_wanting}

pub weaker : {X : Type 0} (P Q : X → Type 0) → ((x : X) → P x → Q x) → (xs : List X) → OfAll P xs → OfAll Q xs
weaker P Q so [] h = tt
weaker P Q so (x ∷ xs) h = (so x h.0, weaker P Q so xs h.1)

pub to_all : {X : Type 0} (test : X → Bool) (xs : List X) → OfAll (λ x. test x ≡ true) xs → list_all test xs ≡ true
to_all test [] h = refl
to_all test (x ∷ xs) h = and_from (test x) (list_all test xs) h.0 (to_all test xs h.1)

pub of_all : {X : Type 0} (test : X → Bool) (xs : List X) → list_all test xs ≡ true → OfAll (λ x. test x ≡ true) xs
of_all test [] e = tt
of_all test (x ∷ xs) e = let p = and_parts (test x) (list_all test xs) e in (p.0, of_all test xs p.1)

module _ {X : Type 0} (key : X → List ℕ) (P : X → Type 0) where
  unplaced : (x : X) (xs : List X) → OfAll P (placed key x xs) → P x × OfAll P xs
  unplaced x [] h = (h.0, tt)
  unplaced x (y ∷ ys) h = at (is_before (key y) (key x)) (unplaced x ys) h
    where
      at : (b : Bool) → (OfAll P (placed key x ys) → P x × OfAll P ys) → OfAll P (cond b (y ∷ placed key x ys) (x ∷ y ∷ ys)) → P x × OfAll P (y ∷ ys)
      at true more h = let m = more h.1 in (m.0, (h.0, m.1))
      at false more h = (h.0, h.1)

  -- what holds of all in order holds of all
  pub unsorted : (xs : List X) → OfAll P (by_key key xs) → OfAll P xs
  unsorted [] h = tt
  unsorted (x ∷ xs) h = let u = unplaced x (by_key key xs) h in (u.0, unsorted xs u.1)

module _ (P : List ℕ × Tree → Type 0) where
  unpushed : (es : Entries) (e : List ℕ × Tree) → OfAll P (es ++ e ∷ []) → OfAll P es
  unpushed [] e h = tt
  unpushed (f ∷ es) e h = (h.0, unpushed es e h.1)

  pub unwanted : (names : List (List ℕ)) (es : Entries) → OfAll P (with_wanting names es) → OfAll P es
  unwanted [] es h = h
  unwanted (name ∷ names) es h = at (is_some (value_at es name)) (unwanted names) h
    where
      at : (b : Bool) → ((l : Entries) → OfAll P (with_wanting names l) → OfAll P l) → OfAll P (with_wanting names (cond b es (es ++ (name, Null) ∷ []))) → OfAll P es
      at true more h = more es h
      at false more h = unpushed es (name, Null) (more (es ++ (name, Null) ∷ []) h)

  -- what holds of the entries that extend nothing
  pub of_own : (es : Entries) → OfAll P (own_entries es) → OfAll (λ e. is_extension e.0 ≡ false → P e) es
  of_own [] h = tt
  of_own (e ∷ es) h = at (is_extension e.0) refl (of_own es) h
    where
      at : (b : Bool) → is_extension e.0 ≡ b → (OfAll P (own_entries es) → OfAll (λ e. is_extension e.0 ≡ false → P e) es) → OfAll P (cond (not b) (e ∷ own_entries es) (own_entries es))
          → OfAll (λ e. is_extension e.0 ≡ false → P e) (e ∷ es)
      at true is more h = (λ f. (let bad : true ≡ false = sym is ∙ f in absurd (cc bad)), more h)
      at false is more h = (λ f. h.0, more h.1)

-- what is read of an entry
abbrev pub IsRead : {X : Type 0} → (List ℕ → Tree → Read (List X)) → List ℕ × Tree → Type 0
IsRead {X} read entry = (found : List X) × (read entry.0 entry.1 ≡ Ok found)

pub each_read : {X : Type 0} (read : List ℕ → Tree → Read (List X)) (es : Entries) (all : List X) → each_entry read es ≡ Ok all → OfAll (IsRead read) es
each_read read [] all e = tt
each_read {X} read (entry ∷ es) all e = by (read entry.0 entry.1) refl (each_entry read es) refl (each_read read es) e
  where
    by : (r : Read (List X)) → read entry.0 entry.1 ≡ r → (s : Read (List X)) → each_entry read es ≡ s → ((rest : List X) → each_entry read es ≡ Ok rest → OfAll (IsRead read) es)
        → (under (Key entry.0) r >>= λ found. s >>= λ more. Ok (found ++ more)) ≡ Ok all → OfAll (IsRead read) (entry ∷ es)
    by (Err refusal) p s q more e = absurd (cc e)
    by (Ok found) p (Err refusal) q more e = absurd (cc e)
    by (Ok found) p (Ok rest) q more e = ((found, p), more rest q)

-- entries of a mapping that are read in byte order
pub sorted_read : {X : Type 0} (read : List ℕ → Tree → Read (List X)) (es : Entries) (all : List X) → each_entry read (in_byte_order es) ≡ Ok all → OfAll (IsRead read) es
sorted_read read es all e = unsorted (λ (entry : List ℕ × Tree). entry.0) (IsRead read) es (each_read read (in_byte_order es) all e)
