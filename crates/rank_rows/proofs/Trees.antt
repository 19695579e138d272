-- Trees over rows of keys.
use Rattle.std.proofs.Common.{◌≡◌, ◌⊎◌, ℕ, zero, suc, ◌+◌, ◌*◌, ◌/◌, ◌-◌, ◌<◌, ◌≤◌, Bool, true, false, ◌&&◌, ◌||◌, List, [], ◌∷◌, length, get_or, set, Option, Some, None, refl, sym, ap, ◌∙◌, subst, inl, inr, arith}
use Rattle.std.proofs.lemmas.Bool.{and_parts, and_from, cases_eq, cases_lt, lt-ltb, le-leb, leb-true, le-ltb}
use Rattle.std.proofs.lemmas.Grind.{common_steps}
use Rattle.std.specs.List.{list_all}
use Rattle.std.specs.Prelude.{find, is_some, nat_lt, nat_le, ◌==◌, if◌then◌else◌}
use Rattle.rank_rows.specs.declared.rank_row.Rank.{Rank}
use Rattle.rank_rows.specs.Ranks.{IsFound, IsRankRow, IsTreeBut, child, has_least_key, is_not_above, key_at, leaf_of, least, numbers_from, rank_of, sooner}

-- the first isn't after the second
abbrev pub NotAfter : Option Rank → Option Rank → Type 0
NotAfter a None = Unit {0}
NotAfter None (Some y) = ⊥
NotAfter (Some x) (Some y) = (x.key < y.key) ⊎ ((x.key ≡ y.key) × (x.at ≤ y.at))

same_not_after : (a : Option Rank) → NotAfter a a
same_not_after None = tt
same_not_after (Some x) = inr (refl, omega arith)

along : (a b c : Option Rank) → NotAfter a b → NotAfter b c → NotAfter a c
along a b None h k = tt
along a None (Some z) h k = absurd k
along None (Some y) (Some z) h k = absurd h
along (Some x) (Some y) (Some z) (inl h) (inl k) = inl (omega arith)
along (Some x) (Some y) (Some z) (inl h) (inr k) = inl (omega (arith, k.0))
along (Some x) (Some y) (Some z) (inr h) (inl k) = inl (omega (arith, h.0))
along (Some x) (Some y) (Some z) (inr h) (inr k) = inr (h.0 ∙ k.0, omega (arith, h.1, k.1))

-- a test says which of two is sooner
is_sooner : (x y : Rank) → Bool
is_sooner x y = nat_lt y.key x.key || ((y.key == x.key) && nat_lt y.at x.at)

sooner_parts : (x y : Rank) → (((sooner (Some x) (Some y)) ≡ Some y) × NotAfter (Some y) (Some x)) ⊎ (((sooner (Some x) (Some y)) ≡ Some x) × NotAfter (Some x) (Some y))
sooner_parts x y = on (cases_lt y.key x.key)
  where
    third : y.key ≡ x.key → (y.at < x.at) ⊎ (x.at ≤ y.at)
        → (((sooner (Some x) (Some y)) ≡ Some y) × NotAfter (Some y) (Some x)) ⊎ (((sooner (Some x) (Some y)) ≡ Some x) × NotAfter (Some x) (Some y))
    third e (inl l) = inl (grind (arith, common_steps), inr (e, omega (arith, l)))
    third e (inr l) = inr (grind (arith, common_steps), inr (sym e, l))

    second : x.key ≤ y.key → (y.key ≡ x.key) ⊎ (y.key ≡ x.key → ⊥)
        → (((sooner (Some x) (Some y)) ≡ Some y) × NotAfter (Some y) (Some x)) ⊎ (((sooner (Some x) (Some y)) ≡ Some x) × NotAfter (Some x) (Some y))
    second l (inl e) = third e (cases_lt y.at x.at)
    second l (inr n) = inr (grind (arith, common_steps), inl (omega (arith, l, n)))

    on : (y.key < x.key) ⊎ (x.key ≤ y.key)
        → (((sooner (Some x) (Some y)) ≡ Some y) × NotAfter (Some y) (Some x)) ⊎ (((sooner (Some x) (Some y)) ≡ Some x) × NotAfter (Some x) (Some y))
    on (inl l) = inl (grind (arith, common_steps), inl l)
    on (inr l) = second l (cases_eq y.key x.key)

-- the sooner one of two is one of them, and after neither
pub record IsSooner (a b c : Option Rank) : Type 0 where
  pub one : (c ≡ a) ⊎ (c ≡ b)
  pub left : NotAfter c a
  pub right : NotAfter c b

pub sooner_is : (a b : Option Rank) → IsSooner a b (sooner a b)
sooner_is None b = record { one = inr refl; left = tt; right = same_not_after b }
sooner_is (Some x) None = record { one = inl refl; left = same_not_after (Some x); right = tt }
sooner_is (Some x) (Some y) = at (sooner_parts x y)
  where
    at : (((sooner (Some x) (Some y)) ≡ Some y) × NotAfter (Some y) (Some x)) ⊎ (((sooner (Some x) (Some y)) ≡ Some x) × NotAfter (Some x) (Some y))
        → IsSooner (Some x) (Some y) (sooner (Some x) (Some y))
    at (inl h) = record { one = inr h.0; left = subst (λ (c : Option Rank). NotAfter c (Some x)) (sym h.0) h.1; right = subst (λ (c : Option Rank). NotAfter c (Some y)) (sym h.0) (same_not_after (Some y)) }
    at (inr h) = record { one = inl h.0; left = subst (λ (c : Option Rank). NotAfter c (Some x)) (sym h.0) (same_not_after (Some x)); right = subst (λ (c : Option Rank). NotAfter c (Some y)) (sym h.0) h.1 }

-- a write changes no other node
child_set : (nodes : List (Option Rank)) (keys : List (Option ℕ)) (at : ℕ) (x : Option Rank) (j : ℕ) → (j ≡ at → ⊥) → child (set nodes at x) keys j ≡ child nodes keys j
child_set nodes keys at x j n = on (nat_lt j (length keys))
  where
    other : get_or (set nodes at x) j None ≡ get_or nodes j None
    other = grind (arith, common_steps)

    on : (t : Bool) → (if t then get_or (set nodes at x) j None else leaf_of keys (j - length keys)) ≡ (if t then get_or nodes j None else leaf_of keys (j - length keys))
    on true = other
    on false = refl

pub mended : (nodes : List (Option Rank)) (keys : List (Option ℕ)) (at : ℕ) (x : Option Rank) → length nodes ≡ length keys → at < length keys → 1 ≤ at
    → IsTreeBut nodes keys at → x ≡ sooner (child nodes keys (2 * at)) (child nodes keys (2 * at + 1)) → IsTreeBut (set nodes at x) keys (at / 2)
mended nodes keys at x same below above tree e = record { each = λ j l b n. on j l b n (cases_eq j at) }
  where
    on : (j : ℕ) → 1 ≤ j → j < length keys → (j ≡ at / 2 → ⊥) → (j ≡ at) ⊎ (j ≡ at → ⊥)
        → get_or (set nodes at x) j None ≡ sooner (child (set nodes at x) keys (2 * j)) (child (set nodes at x) keys (2 * j + 1))
    on j l b n (inl s) =
        let here : get_or (set nodes at x) j None ≡ x = grind (arith, common_steps) in
        let there : x ≡ sooner (child nodes keys (2 * j)) (child nodes keys (2 * j + 1)) = subst (λ (k : ℕ). x ≡ sooner (child nodes keys (2 * k)) (child nodes keys (2 * k + 1))) (sym s) e in
        let one = child_set nodes keys at x (2 * j) (λ h. omega arith) in
        let two = child_set nodes keys at x (2 * j + 1) (λ h. omega arith) in
        here ∙ there ∙ ap (λ (c : Option Rank). sooner c (child nodes keys (2 * j + 1))) (sym one) ∙ ap (λ (c : Option Rank). sooner (child (set nodes at x) keys (2 * j)) c) (sym two)
    on j l b n (inr s) =
        let here : get_or (set nodes at x) j None ≡ get_or nodes j None = grind (arith, common_steps) in
        let there = tree.each j l b s in
        let one = child_set nodes keys at x (2 * j) (λ h. n (omega arith)) in
        let two = child_set nodes keys at x (2 * j + 1) (λ h. n (omega arith)) in
        here ∙ there ∙ ap (λ (c : Option Rank). sooner c (child nodes keys (2 * j + 1))) (sym one) ∙ ap (λ (c : Option Rank). sooner (child (set nodes at x) keys (2 * j)) c) (sym two)

-- searches over numbers
all_numbers : (f : ℕ → Bool) (i n : ℕ) → ((k : ℕ) → i ≤ k → k < i + n → f k ≡ true) → list_all f (numbers_from i n) ≡ true
all_numbers f i zero each = refl
all_numbers f i (suc n) each = and_from (f i) (list_all f (numbers_from (i + 1) n)) (each i (omega arith) (omega arith)) (all_numbers f (i + 1) n (λ k l m. each k (omega (arith, l)) (omega (arith, m))))

of_all_numbers : (f : ℕ → Bool) (i n k : ℕ) → list_all f (numbers_from i n) ≡ true → i ≤ k → k < i + n → f k ≡ true
of_all_numbers f i zero k e l m = absurd (omega arith)
of_all_numbers f i (suc n) k e l m = on (and_parts (f i) (list_all f (numbers_from (i + 1) n)) e).0 (cases_eq k i)
    (λ s. of_all_numbers f (i + 1) n k (and_parts (f i) (list_all f (numbers_from (i + 1) n)) e).1 (omega (arith, s, l)) (omega (arith, m)))
  where
    on : f i ≡ true → (k ≡ i) ⊎ (k ≡ i → ⊥) → ((k ≡ i → ⊥) → f k ≡ true) → f k ≡ true
    on h (inl s) rec = rw s h
    on h (inr s) rec = rec s

find_no_number : (p : ℕ → Bool) (i n : ℕ) → ((k : ℕ) → i ≤ k → k < i + n → p k ≡ false) → find p (numbers_from i n) ≡ None
find_no_number p i zero each = refl
find_no_number p i (suc n) each = rw (each i (omega arith) (omega arith)) (find_no_number p (i + 1) n (λ k l m. each k (omega (arith, l)) (omega (arith, m))))

find_number : (p : ℕ → Bool) (i n k : ℕ) → i ≤ k → k < i + n → p k ≡ true → ((b : ℕ) → i ≤ b → b < k → p b ≡ false) → find p (numbers_from i n) ≡ Some k
find_number p i zero k l m t each = absurd (omega arith)
find_number p i (suc n) k l m t each = on (cases_eq k i) (λ s. find_number p (i + 1) n k (omega (arith, l, s)) (omega (arith, m)) t (λ b x y. each b (omega (arith, x)) y))
  where
    on : (k ≡ i) ⊎ (k ≡ i → ⊥) → ((k ≡ i → ⊥) → find p (numbers_from (i + 1) n) ≡ Some k) → find p (numbers_from i (suc n)) ≡ Some k
    on (inl s) rec = let h : p i ≡ true = rw (← s) t in rw (h, s) refl
    on (inr s) rec = rw (each i (omega arith) (omega (arith, l, s))) (rec s)

module _ (nodes : List (Option Rank)) (keys : List (Option ℕ)) (row : IsRankRow nodes keys) where
  abbrev kid : ℕ → Option Rank
  kid j = child nodes keys j

  inside : (j : ℕ) → j < length keys → kid j ≡ get_or nodes j None
  inside j l = rw (lt-ltb j (length keys) l) refl

  after : (i : ℕ) → length keys + i - length keys ≡ i
  after i = omega arith

  outside : (i : ℕ) → kid (length keys + i) ≡ leaf_of keys i
  outside i = rw (le-ltb (length keys + i) (length keys) (omega arith)) (ap (λ (k : ℕ). leaf_of keys k) (after i))

  node : (p : ℕ) → 1 ≤ p → p < length keys → IsSooner (kid (2 * p)) (kid (2 * p + 1)) (kid p)
  node p l b = subst (λ (c : Option Rank). IsSooner (kid (2 * p)) (kid (2 * p + 1)) c) (sym (inside p b ∙ row.tree.each p l b (λ h. omega arith))) (sooner_is (kid (2 * p)) (kid (2 * p + 1)))

  -- no node comes before the root
  root_first : (n j : ℕ) → j ≤ n → 1 ≤ j → j < 2 * length keys → NotAfter (kid 1) (kid j)
  root_first zero j h l b = absurd (omega arith)
  root_first (suc n) j h l b = on (cases_eq j 1) (λ m. root_first n (j / 2) (omega (arith, h, m)) (omega (arith, m)) (omega (arith, b)))
    where
      side : 2 ≤ j → (j ≡ 2 * (j / 2)) ⊎ (j ≡ 2 * (j / 2) + 1) → NotAfter (kid (j / 2)) (kid j)
      side m (inl e) = subst (λ (k : ℕ). NotAfter (kid (j / 2)) (kid k)) (sym e) (node (j / 2) (omega arith) (omega (arith, b))).left
      side m (inr e) = subst (λ (k : ℕ). NotAfter (kid (j / 2)) (kid k)) (sym e) (node (j / 2) (omega arith) (omega (arith, b))).right

      which : (j ≡ 2 * (j / 2)) ⊎ (j ≡ 2 * (j / 2) → ⊥) → (j ≡ 2 * (j / 2)) ⊎ (j ≡ 2 * (j / 2) + 1)
      which (inl e) = inl e
      which (inr e) = inr (omega (arith, e))

      on : (j ≡ 1) ⊎ (j ≡ 1 → ⊥) → (2 ≤ j → NotAfter (kid 1) (kid (j / 2))) → NotAfter (kid 1) (kid j)
      on (inl s) up = subst (λ (k : ℕ). NotAfter (kid 1) (kid k)) (sym s) (same_not_after (kid 1))
      on (inr s) up = along (kid 1) (kid (j / 2)) (kid j) (up (omega (arith, s, l))) (side (omega (arith, s, l)) (which (cases_eq j (2 * (j / 2)))))

  -- each node is one of the places
  pub record IsPlace (c : Option Rank) : Type 0 where
    pub place : ℕ
    pub within : place < length keys
    pub is : c ≡ leaf_of keys place

  some_place : (n j : ℕ) → 2 * length keys ≤ j + n → 1 ≤ j → j < 2 * length keys → IsPlace (kid j)
  some_place zero j h l b = absurd (omega arith)
  some_place (suc n) j h l b = on (cases_lt j (length keys)) (λ m. some_place n (2 * j) (omega (arith, h, l)) (omega (arith, l)) (omega (arith, m)))
      (λ m. some_place n (2 * j + 1) (omega (arith, h, l)) (omega (arith, l)) (omega (arith, m)))
    where
      pick : (kid j ≡ kid (2 * j)) ⊎ (kid j ≡ kid (2 * j + 1)) → IsPlace (kid (2 * j)) → IsPlace (kid (2 * j + 1)) → IsPlace (kid j)
      pick (inl e) x y = subst IsPlace (sym e) x
      pick (inr e) x y = subst IsPlace (sym e) y

      on : (j < length keys) ⊎ (length keys ≤ j) → (j < length keys → IsPlace (kid (2 * j))) → (j < length keys → IsPlace (kid (2 * j + 1))) → IsPlace (kid j)
      on (inl m) x y = pick (node j l m).one (x m) (y m)
      on (inr m) x y = record {
        place = j - length keys;
        within = omega (arith, m, b);
        is = let s : j ≡ length keys + (j - length keys) = omega (arith, m) in ap (λ (k : ℕ). kid k) s ∙ outside (j - length keys);
      }

  first_of_all : (i : ℕ) → i < length keys → NotAfter (kid 1) (leaf_of keys i)
  first_of_all i l = subst (λ (c : Option Rank). NotAfter (kid 1) c) (outside i) (root_first (length keys + i) (length keys + i) (omega arith) (omega (arith, l)) (omega (arith, l)))

  abbrev passes : ℕ → Bool
  passes i = is_some (key_at keys i) && has_least_key keys i

  -- where the root is empty, no place has a key
  pub root_none : kid 1 ≡ None → None ≡ least keys
  root_none e = sym (find_no_number passes 0 (length keys) (λ k l m. on k (key_at keys k) refl (subst (λ (c : Option Rank). NotAfter c (leaf_of keys k)) e (first_of_all k (omega (arith, m))))))
    where
      on : (k : ℕ) (o : Option ℕ) → key_at keys k ≡ o → NotAfter None (leaf_of keys k) → passes k ≡ false
      on k None h n = rw h refl
      on k (Some v) h n = absurd (subst (λ (o : Option ℕ). NotAfter None (rank_of k o)) h n)

  pub root_some : (x : Rank) → 0 < length keys → kid 1 ≡ Some x → Some x.at ≡ least keys
  root_some x some e = sym (found (some_place (2 * length keys) 1 (omega arith) (omega arith) (omega (arith, some))))
    where
      place_of : (i : ℕ) (o : Option ℕ) → rank_of i o ≡ Some x → (x.at ≡ i) × (o ≡ Some x.key)
      place_of i None h = absurd (cc h)
      place_of i (Some k) h = let r : record { key = k; at = i } ≡ x = cc h in (sym (ap (λ (y : Rank). y.at) r), ap (λ (y : Rank). Some y.key) r)

      before : (i : ℕ) → i < length keys → NotAfter (Some x) (leaf_of keys i)
      before i l = subst (λ (c : Option Rank). NotAfter c (leaf_of keys i)) e (first_of_all i l)

      not_above : (i : ℕ) (o : Option ℕ) → NotAfter (Some x) (rank_of i o) → is_not_above (Some x.key) o ≡ true
      not_above i None n = refl
      not_above i (Some k) (inl n) = le-leb x.key k (omega (arith, n))
      not_above i (Some k) (inr n) = le-leb x.key k (omega (arith, n.0))

      least_here : (i : ℕ) → key_at keys i ≡ Some x.key → has_least_key keys i ≡ true
      least_here i h = all_numbers (λ j. is_not_above (key_at keys i) (key_at keys j)) 0 (length keys)
          (λ j l m. subst (λ (o : Option ℕ). is_not_above o (key_at keys j) ≡ true) (sym h) (not_above j (key_at keys j) (before j (omega (arith, m)))))

      fails_least : (b i v : ℕ) → i < length keys → key_at keys i ≡ Some x.key → key_at keys b ≡ Some v → x.key < v → (t : Bool) → has_least_key keys b ≡ t → t ≡ false
      fails_least b i v l hi hb n false g = refl
      fails_least b i v l hi hb n true g =
          let each : is_not_above (key_at keys b) (key_at keys i) ≡ true = of_all_numbers (λ j. is_not_above (key_at keys b) (key_at keys j)) 0 (length keys) i g (omega arith) (omega (arith, l)) in
          let bad : nat_le v x.key ≡ true = subst (λ (o : Option ℕ). is_not_above o (Some x.key) ≡ true) hb (subst (λ (o : Option ℕ). is_not_above (key_at keys b) o ≡ true) hi each) in
          absurd (omega (arith, leb-true v x.key bad))

      and_no : (t u : Bool) → u ≡ false → (t && u) ≡ false
      and_no true u e = e
      and_no false u e = refl

      earlier : (i : ℕ) → i < length keys → x.at ≡ i → key_at keys i ≡ Some x.key → (b : ℕ) → b < i → (o : Option ℕ) → key_at keys b ≡ o → NotAfter (Some x) (rank_of b o) → passes b ≡ false
      earlier i l s h b m None g n = rw g refl
      earlier i l s h b m (Some v) g (inr n) = absurd (omega (arith, n.1, s, m))
      earlier i l s h b m (Some v) g (inl n) = let f = fails_least b i v l h g n (has_least_key keys b) refl in and_no (is_some (key_at keys b)) (has_least_key keys b) f

      found : IsPlace (kid 1) → least keys ≡ Some x.at
      found p =
          let w = place_of p.place (key_at keys p.place) (sym p.is ∙ e) in
          let passed : passes p.place ≡ true = and_from (is_some (key_at keys p.place)) (has_least_key keys p.place) (rw w.1 refl) (least_here p.place w.1) in
          find_number passes 0 (length keys) p.place (omega arith) (omega (arith, p.within)) passed
          (λ b l m. earlier p.place p.within w.0 w.1 b m (key_at keys b) refl (subst (λ (c : Option Rank). NotAfter c (leaf_of keys b)) e (first_of_all b (omega (arith, m, p.within))))) ∙ ap Some (sym w.0)

  pub found_none : kid 1 ≡ None → IsFound keys None
  found_none e i = on (cases_lt i (length keys))
    where
      by : (o : Option ℕ) → key_at keys i ≡ o → NotAfter None (rank_of i o) → key_at keys i ≡ None
      by None h n = h
      by (Some v) h n = absurd n

      on : (i < length keys) ⊎ (length keys ≤ i) → key_at keys i ≡ None
      on (inl l) = by (key_at keys i) refl (subst (λ (c : Option Rank). NotAfter c (leaf_of keys i)) e (first_of_all i l))
      on (inr l) = grind (arith, common_steps)

  pub found_some : (x : Rank) → 0 < length keys → kid 1 ≡ Some x → IsFound keys (Some x.at)
  found_some x some e = on (some_place (2 * length keys) 1 (omega arith) (omega arith) (omega (arith, some)))
    where
      place_of : (i : ℕ) (o : Option ℕ) → rank_of i o ≡ Some x → (x.at ≡ i) × (is_some o ≡ true)
      place_of i None h = absurd (cc h)
      place_of i (Some k) h = let r : record { key = k; at = i } ≡ x = cc h in (sym (ap (λ (y : Rank). y.at) r), refl)

      on : IsPlace (kid 1) → IsFound keys (Some x.at)
      on p =
          let w = place_of p.place (key_at keys p.place) (sym p.is ∙ e) in
          subst (λ (k : ℕ). IsFound keys (Some k)) (sym w.0) (p.within, w.1)

pub found_empty : (keys : List (Option ℕ)) → length keys < 1 → IsFound keys None
found_empty [] l i = refl
found_empty (x ∷ xs) l i = absurd (omega arith)
