-- Texts, each where it stands first, one text further, beside a map that has them as its keys.
use Rattle.std.proofs.Common.{◌≡◌, ℕ, Bool, true, false, cond, not, ◌||◌, List, [], ◌∷◌, ◌++◌, filter, refl, ap, sym, ◌∙◌}
use Rattle.std.proofs.lemmas.List.{append-nil}
use Rattle.std.proofs.lemmas.List.Elements.{filter-append}
use Rattle.std.proofs.lemmas.Map.Views.{any-filter_same}
use Rattle.std.proofs.lemmas.Slice.Eq.{bytes_eq-Decides}
use Rattle.std.specs.List.{list_any}
use Rattle.std.specs.Map.{keys_of}
use Rattle.std.specs.Str.{bytes_eq}
use Rattle.tree_base.specs.ByteOrder.{first_of_each}
use Rattle.tree_base.specs.Entries.{insert_entry, with_entry}

-- texts are compared from either side
flipped : (s t : List ℕ) (b : Bool) → bytes_eq s t ≡ b → bytes_eq t s ≡ b
flipped s t true e = (bytes_eq-Decides t s).1 (sym ((bytes_eq-Decides s t).0 e))
flipped s t false e = at (bytes_eq t s) refl
  where
    at : (b : Bool) → bytes_eq t s ≡ b → bytes_eq t s ≡ false
    at true f = let bad : true ≡ false = sym ((bytes_eq-Decides s t).1 (sym ((bytes_eq-Decides t s).0 f))) ∙ e in absurd (cc bad)
    at false f = f

-- the texts, each where it stands first
abbrev pub firsts : List (List ℕ) → List (List ℕ)
firsts = first_of_each (λ text. text)

-- texts with one more, unless it is there
abbrev with_new : List (List ℕ) → List ℕ → List (List ℕ)
with_new texts t = cond (list_any (bytes_eq t) texts) texts (texts ++ t ∷ [])

-- the texts that are other ones
abbrev others : List ℕ → List ℕ → Bool
others s t = not (bytes_eq s t)

left_out : (s t : List ℕ) (l : List (List ℕ)) → bytes_eq t s ≡ true → filter (others s) (l ++ t ∷ []) ≡ filter (others s) l
left_out s t l e =
    filter-append (others s) l (t ∷ []) ∙ ap (λ b. filter (others s) l ++ cond b (t ∷ []) []) (ap not (flipped t s true e)) ∙ append-nil (filter (others s) l)

kept_in : (s t : List ℕ) (l : List (List ℕ)) → bytes_eq t s ≡ false → filter (others s) (l ++ t ∷ []) ≡ filter (others s) l ++ t ∷ []
kept_in s t l e = filter-append (others s) l (t ∷ []) ∙ ap (λ b. filter (others s) l ++ cond b (t ∷ []) []) (ap not (flipped t s false e))

still_there : (s t : List ℕ) (l : List (List ℕ)) → bytes_eq t s ≡ false → list_any (bytes_eq t) (filter (others s) l) ≡ list_any (bytes_eq t) l
still_there s t l e =
    any-filter_same (bytes_eq t) (others s) true
    (λ z m. let one : t ≡ z = (bytes_eq-Decides t z).0 m in ap not (ap (bytes_eq s) (sym one) ∙ flipped t s false e)) l

behind : (s t : List ℕ) (l : List (List ℕ)) (a b : Bool) → bytes_eq t s ≡ a → list_any (bytes_eq t) l ≡ b
    → (s ∷ filter (others s) (cond b l (l ++ t ∷ []))) ≡ cond (a || list_any (bytes_eq t) (filter (others s) l)) (s ∷ filter (others s) l) (s ∷ filter (others s) l ++ t ∷ [])
behind s t l true true e f = refl
behind s t l true false e f = ap (λ m. s ∷ m) (left_out s t l e)
behind s t l false true e f = sym (ap (λ b. cond b (s ∷ filter (others s) l) (s ∷ filter (others s) l ++ t ∷ [])) (still_there s t l e ∙ f))
behind s t l false false e f =
    ap (λ m. s ∷ m) (kept_in s t l e) ∙ sym (ap (λ b. cond b (s ∷ filter (others s) l) (s ∷ filter (others s) l ++ t ∷ [])) (still_there s t l e ∙ f))

firsts_more : (texts : List (List ℕ)) (t : List ℕ) → firsts (texts ++ t ∷ []) ≡ with_new (firsts texts) t
firsts_more [] t = refl
firsts_more (s ∷ texts) t =
    ap (λ l. s ∷ filter (others s) l) (firsts_more texts t) ∙ behind s t (firsts texts) (bytes_eq t s) (list_any (bytes_eq t) (firsts texts)) refl refl

module _ {V : Type 0} where
  keys_put : (entries : List (List ℕ × V)) (t : List ℕ) (v : V) → keys_of (insert_entry bytes_eq entries t v) ≡ with_new (keys_of entries) t
  keys_put [] t v = refl
  keys_put (entry ∷ entries) t v = at (bytes_eq t entry.0) (list_any (bytes_eq t) (keys_of entries)) (keys_put entries t v)
    where
      at : (a b : Bool) → keys_of (insert_entry bytes_eq entries t v) ≡ cond b (keys_of entries) (keys_of entries ++ t ∷ [])
          → keys_of (cond a ((entry.0, v) ∷ entries) (entry ∷ insert_entry bytes_eq entries t v))
          ≡ cond (a || b) (entry.0 ∷ keys_of entries) (entry.0 ∷ keys_of entries ++ t ∷ [])
      at true b e = refl
      at false true e = ap (λ l. entry.0 ∷ l) e
      at false false e = ap (λ l. entry.0 ∷ l) e

  -- one text further
  pub one_known : (entries after : List (List ℕ × V)) (texts : List (List ℕ)) (t : List ℕ) (v : V) → keys_of entries ≡ firsts texts → after ≡ with_entry entries t v
      → keys_of after ≡ firsts (texts ++ t ∷ [])
  one_known entries after texts t v e put = ap keys_of put ∙ keys_put entries t v ∙ ap (λ l. with_new l t) e ∙ sym (firsts_more texts t)
