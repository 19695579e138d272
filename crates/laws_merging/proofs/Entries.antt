-- Entries with new values.
use Rattle.std.proofs.Common.{◌≡◌, ◌∙◌, ℕ, Bool, true, false, cond, List, [], ◌∷◌, ◌++◌, Option, None, Some, ap, refl, sym, true≢false}
use Rattle.std.proofs.lemmas.Slice.Eq.{bytes_eq-Decides}
use Rattle.std.specs.Str.{bytes_eq}
use Rattle.tree_base.specs.Entries.{value_at, with_entry}
use Rattle.tree_base.specs.declared.tree.Tree.{Tree}

abbrev pub Entries : Type 0
Entries = List (List ℕ × Tree)

pub own_key : (k : List ℕ) → bytes_eq k k ≡ true
own_key k = (bytes_eq-Decides k k).1 refl

pub same_key : (k q : List ℕ) → bytes_eq k q ≡ true → k ≡ q
same_key k q is = (bytes_eq-Decides k q).0 is

-- keys that differ, asked the other way round
pub turned_key : (k q : List ℕ) → bytes_eq k q ≡ false → bytes_eq q k ≡ false
turned_key k q apart = by (bytes_eq q k) refl
  where
    by : (b : Bool) → bytes_eq q k ≡ b → b ≡ false
    by true is = absurd (true≢false (sym (own_key k) ∙ ap (bytes_eq k) (sym (same_key q k is)) ∙ apart))
    by false is = refl

-- another key keeps its value
pub other_value : (es : Entries) (p q : List ℕ) (v : Tree) → bytes_eq q p ≡ false → value_at (with_entry es p v) q ≡ value_at es q
other_value [] p q v apart = rw apart refl
other_value (e ∷ es) p q v apart = by (bytes_eq p e.0) refl (other_value es p q v apart)
  where
    by : (b : Bool) → bytes_eq p e.0 ≡ b → value_at (with_entry es p v) q ≡ value_at es q → value_at (cond b ((e.0, v) ∷ es) (e ∷ with_entry es p v)) q ≡ cond (bytes_eq q e.0) (Some e.1) (value_at es q)
    by true is more =
        let differs : bytes_eq q e.0 ≡ false = ap (bytes_eq q) (sym (same_key p e.0 is)) ∙ apart in
        rw differs refl
    by false is more = ap (λ (o : Option Tree). cond (bytes_eq q e.0) (Some e.1) o) more

-- a key has the value that it was given
pub own_value : (es : Entries) (p : List ℕ) (v : Tree) → value_at (with_entry es p v) p ≡ Some v
own_value [] p v = rw (own_key p) refl
own_value (e ∷ es) p v = by (bytes_eq p e.0) refl (own_value es p v)
  where
    by : (b : Bool) → bytes_eq p e.0 ≡ b → value_at (with_entry es p v) p ≡ Some v → value_at (cond b ((e.0, v) ∷ es) (e ∷ with_entry es p v)) p ≡ Some v
    by true is more = rw is refl
    by false is more = rw is more

-- of two values the later one counts
pub twice : (es : Entries) (p : List ℕ) (v w : Tree) → with_entry (with_entry es p v) p w ≡ with_entry es p w
twice [] p v w = rw (own_key p) refl
twice (e ∷ es) p v w = by (bytes_eq p e.0) refl (twice es p v w)
  where
    by : (b : Bool) → bytes_eq p e.0 ≡ b → with_entry (with_entry es p v) p w ≡ with_entry es p w → with_entry (cond b ((e.0, v) ∷ es) (e ∷ with_entry es p v)) p w ≡ cond b ((e.0, w) ∷ es) (e ∷ with_entry es p w)
    by true is more = rw is refl
    by false is more = rw is (ap (λ (l : Entries). e ∷ l) more)

-- two keys are given values in either order, where one of them is there
pub swapped : (es : Entries) (p q : List ℕ) (v w old : Tree) → value_at es p ≡ Some old → bytes_eq p q ≡ false → with_entry (with_entry es q w) p v ≡ with_entry (with_entry es p v) q w
swapped [] p q v w old there apart = absurd (let wrong : ⊥ = cc in wrong)
swapped (e ∷ es) p q v w old there apart = by (bytes_eq p e.0) (bytes_eq q e.0) refl refl there (λ there. swapped es p q v w old there apart)
  where
    by : (b d : Bool) → bytes_eq p e.0 ≡ b → bytes_eq q e.0 ≡ d → cond b (Some e.1) (value_at es p) ≡ Some old → (value_at es p ≡ Some old → with_entry (with_entry es q w) p v ≡ with_entry (with_entry es p v) q w)
        → with_entry (cond d ((e.0, w) ∷ es) (e ∷ with_entry es q w)) p v ≡ with_entry (cond b ((e.0, v) ∷ es) (e ∷ with_entry es p v)) q w
    by true true is other there more = absurd (true≢false (sym is ∙ ap (bytes_eq p) (sym (same_key q e.0 other)) ∙ apart))
    by true false is other there more = rw (is, other) refl
    by false true is other there more = rw (is, other) refl
    by false false is other there more = rw (is, other) (ap (λ (l : Entries). e ∷ l) (more there))

-- an entry behind others, under a key that none has
pub put_new : (es : Entries) (k : List ℕ) (v : Tree) → value_at es k ≡ None → with_entry es k v ≡ es ++ (k, v) ∷ []
put_new [] k v new = refl
put_new (e ∷ es) k v new = by (bytes_eq k e.0) new (put_new es k v)
  where
    by : (b : Bool) → cond b (Some e.1) (value_at es k) ≡ None → (value_at es k ≡ None → with_entry es k v ≡ es ++ (k, v) ∷ []) → cond b ((e.0, v) ∷ es) (e ∷ with_entry es k v) ≡ e ∷ (es ++ (k, v) ∷ [])
    by true new more = absurd (let wrong : ⊥ = cc in wrong)
    by false new more = ap (λ (l : Entries). e ∷ l) (more new)
