-- Where entries stand, by their marks.
use Rattle.std.proofs.Common.{◌≡◌, ◌∙◌, ◌⊎◌, ◌+◌, ◌<◌, ◌≤◌, ℕ, zero, suc, Bool, true, false, cond, List, [], ◌∷◌, ◌++◌, Option, Some, None, length, get_or, take, slice_get, slice_set, nat_lt, refl, sym, ap, subst, inl, inr, ⊎_elim, arith, le-ltb, lt-ltb}
use Rattle.std.specs.List.{position, position_or_len}
use Rattle.std.specs.Prelude.{unwrap_or}
use Rattle.std.specs.Str.{bytes_eq}
use Rattle.std.proofs.lemmas.Bool.{false_from_ne_true}
use Rattle.std.proofs.lemmas.List.{length-take-le}
use Rattle.std.proofs.lemmas.List.Sums.{position_or_len_is}
use Rattle.std.proofs.lemmas.Option.{slice_get-get_or}
use Rattle.std.proofs.lemmas.Slice.Eq.{bytes_eq-Decides}
use Rattle.tree_base.specs.Entries.{value_at, with_entry}
use Rattle.tree_base.specs.declared.tree.Tree.{Tree}
use Rattle.merge_tables.specs.declared.rules.EntryKind.{EntryKind}
use Rattle.merge_tables.proofs.Taking.{take_next}
use Rattle.merge_rules.specs.Marks.{AreNoted, IsNoted, ItemIsNoted, NoneBefore, StaysNoted, mark_of}
use Rattle.merge_rules.specs.Uniqueness.{are_one, place_of}
use Rattle.merge_rules.proofs.EntryMarks.{one_mark, unmarked}

-- ---- lists

module _ {X : Type 0} where
  pub there : (xs : List X) (n : ℕ) (x : X) → slice_get xs n ≡ Some x → n < length xs
  there [] n x e = absurd cc
  there (y ∷ xs) zero x e = omega arith
  there (y ∷ xs) (suc n) x e = let h = there xs n x e in omega (arith, h)

  -- an item of a list of which one was set
  got_set : (xs : List X) (at i : ℕ) (x y : X) → slice_get (slice_set xs at x) i ≡ Some y → ((i ≡ at) × (y ≡ x)) ⊎ (slice_get xs i ≡ Some y)
  got_set [] at i x y e = inr e
  got_set (z ∷ xs) zero zero x y e = let same : x ≡ y = cc in inl (refl, sym same)
  got_set (z ∷ xs) zero (suc i) x y e = inr e
  got_set (z ∷ xs) (suc at) zero x y e = inr e
  got_set (z ∷ xs) (suc at) (suc i) x y e = ⊎_elim (λ h. inl (ap suc h.0, h.1)) (λ h. inr h) (got_set xs at i x y e)

  -- an item of a list with one more behind it
  got_last : (xs : List X) (i : ℕ) (x y : X) → slice_get (xs ++ x ∷ []) i ≡ Some y → ((i ≡ length xs) × (y ≡ x)) ⊎ (slice_get xs i ≡ Some y)
  got_last [] zero x y e = let same : x ≡ y = cc in inl (refl, sym same)
  got_last [] (suc i) x y e = absurd cc
  got_last (z ∷ xs) zero x y e = inr e
  got_last (z ∷ xs) (suc i) x y e = ⊎_elim (λ h. let p = h.0 in inl (omega (arith, p), h.1)) (λ h. inr h) (got_last xs i x y e)

  -- the place of the first item that passes a test
  pub position_at : (p : X → Bool) (xs : List X) (n : ℕ) (x : X) → ((k : ℕ) (y : X) → k < n → slice_get xs k ≡ Some y → p y ≡ false) → slice_get xs n ≡ Some x → p x ≡ true
      → position p xs ≡ Some n
  position_at p xs n x before at passes =
      let within = there xs n x at in
      let own : get_or xs n x ≡ x = (let read = slice_get-get_or xs n x within in cc) in
      let first : position_or_len p xs ≡ n =
      position_or_len_is p xs n x (omega (arith, within)) (λ k lt. before k (get_or xs k x) lt (slice_get-get_or xs k x (omega (arith, lt, within))))
      (λ h. ap p own ∙ passes) in
      (λ i. cond (nat_lt (first i) (length xs)) (Some (first i)) None) ∙ ap (λ (b : Bool). cond b (Some n) None) (lt-ltb n (length xs) within)

  -- there is none
  pub position_none : (p : X → Bool) (xs : List X) → ((k : ℕ) (y : X) → slice_get xs k ≡ Some y → p y ≡ false) → position p xs ≡ None
  position_none p [] none = refl
  position_none p (z ∷ zs) none =
      let all = length (z ∷ zs) in
      let first : position_or_len p (z ∷ zs) ≡ all =
      position_or_len_is p (z ∷ zs) all z (omega arith) (λ k lt. none k (get_or (z ∷ zs) k z) (slice_get-get_or (z ∷ zs) k z lt)) (λ h. absurd (omega (arith, h))) in
      (λ i. cond (nat_lt (first i) all) (Some (first i)) None) ∙ ap (λ (b : Bool). cond b (Some all) None) (le-ltb all all (omega arith))

-- ---- values of keys

own_key : (k : List ℕ) → bytes_eq k k ≡ true
own_key k = (bytes_eq-Decides k k).1 refl

module _ {V : Type 0} where
  -- a key has the value that it was given
  pub own_value : (es : List (List ℕ × V)) (p : List ℕ) (v : V) → value_at (with_entry es p v) p ≡ Some v
  own_value [] p v = rw (own_key p) refl
  own_value (e ∷ es) p v = by (bytes_eq p e.0) refl (own_value es p v)
    where
      by : (b : Bool) → bytes_eq p e.0 ≡ b → value_at (with_entry es p v) p ≡ Some v → value_at (cond b ((e.0, v) ∷ es) (e ∷ with_entry es p v)) p ≡ Some v
      by true is more = rw is refl
      by false is more = rw is more

  -- and another keeps its own
  pub other_value : (es : List (List ℕ × V)) (p q : List ℕ) (v : V) → bytes_eq q p ≡ false → value_at (with_entry es p v) q ≡ value_at es q
  other_value [] p q v apart = rw apart refl
  other_value (e ∷ es) p q v apart = by (bytes_eq p e.0) refl (other_value es p q v apart)
    where
      by : (b : Bool) → bytes_eq p e.0 ≡ b → value_at (with_entry es p v) q ≡ value_at es q → value_at (cond b ((e.0, v) ∷ es) (e ∷ with_entry es p v)) q ≡ cond (bytes_eq q e.0) (Some e.1) (value_at es q)
      by true is more =
          let differs : bytes_eq q e.0 ≡ false = ap (bytes_eq q) (sym ((bytes_eq-Decides p e.0).0 is)) ∙ apart in
          rw differs refl
      by false is more = ap (λ (o : Option V). cond (bytes_eq q e.0) (Some e.1) o) more

-- ---- what is noted

-- a mark that is put is noted
pub put_noted : (firsts : List (List ℕ × ℕ)) (mark : List ℕ) (at : ℕ) → IsNoted (with_entry firsts mark at) mark at
put_noted firsts mark at = subst (λ (first : Option ℕ). unwrap_or first (at + 1) ≤ at) (sym (own_value firsts mark at)) (omega arith)

-- a place that is put before the one that is noted moves none behind
put_before : (old : Option ℕ) (at place : ℕ) → (unwrap_or old (at + 1) ≤ at → ⊥) → unwrap_or old (place + 1) ≤ place → at ≤ place
put_before None at place later noted = absurd (omega (arith, noted))
put_before (Some first) at place later noted = ⊎_elim (λ h. absurd (later (omega (arith, h)))) (λ h. omega (arith, h, noted)) (either first at)
  where
    either : (m n : ℕ) → (m ≤ n) ⊎ (n < m)
    either zero n = inl (omega arith)
    either (suc m) zero = inr (omega arith)
    either (suc m) (suc n) = ⊎_elim (λ h. inl (omega (arith, h))) (λ h. inr (omega (arith, h))) (either m n)

pub put_stays : (firsts : List (List ℕ × ℕ)) (mark : List ℕ) (at : ℕ) → (IsNoted firsts mark at → ⊥) → StaysNoted firsts (with_entry firsts mark at)
put_stays firsts mark at later other place noted = by (bytes_eq other mark) refl
  where
    by : (b : Bool) → bytes_eq other mark ≡ b → IsNoted (with_entry firsts mark at) other place
    by true e =
        let same : other ≡ mark = (bytes_eq-Decides other mark).0 e in
        let before : at ≤ place = put_before (value_at firsts mark) at place later (subst (λ (k : List ℕ). IsNoted firsts k place) same noted) in
        subst (λ (k : List ℕ). IsNoted (with_entry firsts mark at) k place) (sym same)
        (subst (λ (first : Option ℕ). unwrap_or first (place + 1) ≤ place) (sym (own_value firsts mark at)) before)
    by false e = subst (λ (first : Option ℕ). unwrap_or first (place + 1) ≤ place) (sym (other_value firsts mark other at e)) noted

pub same_stays : (old new : List (List ℕ × ℕ)) → new ≡ old → StaysNoted old new
same_stays old new same mark at noted = subst (λ (firsts : List (List ℕ × ℕ)). IsNoted firsts mark at) (sym same) noted

module _ (kind : EntryKind) (old new : List (List ℕ × ℕ)) (stays : StaysNoted old new) where
  of_item : (item other : Tree) (at place : ℕ) (mark : List ℕ) → place ≡ at → other ≡ item → ItemIsNoted kind new item at → mark_of kind other ≡ Some mark → IsNoted new mark place
  of_item item other at place mark here same noted marked =
      subst (IsNoted new mark) (sym here) (noted mark (subst (λ (t : Tree). mark_of kind t ≡ Some mark) same marked))

  -- the items stay noted where nothing came
  pub items_noted : (items : List Tree) → AreNoted kind old items → AreNoted kind new items
  items_noted items are at item mark got marked = stays mark at (are at item mark got marked)

  -- with one more behind them
  pub last_noted : (items : List Tree) (item : Tree) → AreNoted kind old items → ItemIsNoted kind new item (length items) → AreNoted kind new (items ++ item ∷ [])
  last_noted items item are noted at other mark got marked =
      ⊎_elim (λ h. of_item item other (length items) at mark h.0 h.1 noted marked) (λ h. stays mark at (are at other mark h marked)) (got_last items at item other got)

  -- and with another in one place
  pub set_noted : (items : List Tree) (place : ℕ) (item : Tree) → AreNoted kind old items → ItemIsNoted kind new item place → AreNoted kind new (slice_set items place item)
  set_noted items place item are noted at other mark got marked =
      ⊎_elim (λ h. of_item item other place at mark h.0 h.1 noted marked) (λ h. stays mark at (are at other mark h marked)) (got_set items place at item other got)

  -- and the first of some items, with the next
  pub next_noted : (items : List Tree) (i : ℕ) (item : Tree) → slice_get items i ≡ Some item → AreNoted kind old (take i items) → ItemIsNoted kind new item i
      → AreNoted kind new (take (i + 1) items)
  next_noted items i item at are noted =
      let within = there items i item at in
      let many : length (take i items) ≡ i = length-take-le i items (omega (arith, within)) in
      subst (AreNoted kind new) (sym (take_next items i item at))
      (last_noted (take i items) item are (subst (ItemIsNoted kind new item) (sym many) noted))

-- ---- where an item stands

module _ (kind : EntryKind) (item : Tree) (items : List Tree) where
  -- an item without a mark stands nowhere
  pub stands_nowhere : mark_of kind item ≡ None → None ≡ place_of kind item items
  stands_nowhere none = sym (position_none (are_one kind item) items (λ at other got. unmarked kind item other none))

  module _ (firsts : List (List ℕ × ℕ)) (mark : List ℕ) (noted : AreNoted kind firsts items) (marked : mark_of kind item ≡ Some mark) where
    noted_at : (at : ℕ) (other : Tree) → slice_get items at ≡ Some other → are_one kind item other ≡ true → IsNoted firsts mark at
    noted_at at other got one = noted at other mark got (one_mark kind item other mark one marked)

    -- nor does one whose mark isn't noted
    pub is_new : value_at firsts mark ≡ None → None ≡ place_of kind item items
    is_new none =
        sym (position_none (are_one kind item) items (λ at other got. false_from_ne_true (are_one kind item other)
        (λ one. let h = subst (λ (first : Option ℕ). unwrap_or first (at + 1) ≤ at) none (noted_at at other got one) in absurd (omega (arith, h)))))

    -- and another before no place that is noted
    pub none_before : (first : ℕ) → value_at firsts mark ≡ Some first → NoneBefore kind item items first
    none_before first is at other before got =
        false_from_ne_true (are_one kind item other)
        (λ one. let h = subst (λ (n : Option ℕ). unwrap_or n (at + 1) ≤ at) is (noted_at at other got one) in absurd (omega (arith, h, before)))

  -- where it is one with the item at such a place, that is its place
  pub stands_at : (first : ℕ) (other : Tree) → NoneBefore kind item items first → slice_get items first ≡ Some other → are_one kind item other ≡ true → Some first ≡ place_of kind item items
  stands_at first other none got one = sym (position_at (are_one kind item) items first other none got one)
