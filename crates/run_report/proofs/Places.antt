-- The places of claims, from the newest entry on, and what they say of the first entries.
use Rattle.std.proofs.Common.{◌≡◌, ◌⊎◌, ℕ, zero, suc, ◌+◌, ◌<◌, ◌≤◌, Bool, true, false, cond, not, ◌||◌, ◌==◌, List, [], ◌∷◌, length, get_or, set, take, drop, reverse, refl, sym, ap, ◌∙◌, inl, inr, arith}
use Rattle.std.proofs.lemmas.Bool.{cases_eq, eq-eqb, le-ltb, lt-ltb, ltb-false, ltb-true, ne_eqb}
use Rattle.std.proofs.lemmas.List.{drop_more, get_or-set_other, get_or-set_same, length-set, reverse-append}
use Rattle.std.proofs.lemmas.List.Folds.{list_any-append}
use Rattle.std.specs.List.{list_any, position_or_len}
use Rattle.std.specs.Prelude.{nat_lt}
use Rattle.engine_types.specs.declared.Entry.{Entry}
use Rattle.run_report.specs.Claims.{claim_place, is_claim_of, was_claimed}
use Rattle.run_report.specs.Rows.{with_claim}

or_back : (s t : Bool) → (s || (t || false)) ≡ (t || s)
or_back true true = refl
or_back true false = refl
or_back false true = refl
or_back false false = refl

module _ {X : Type 0} (p : X → Bool) where
  any_reversed : (xs : List X) → list_any p (reverse xs) ≡ list_any p xs
  any_reversed [] = refl
  any_reversed (x ∷ xs) =
      ap (list_any p) (reverse-append (x ∷ []) xs) ∙ list_any-append p (reverse xs) (x ∷ [])
      ∙ or_back (list_any p (reverse xs)) (p x) ∙ ap (λ (t : Bool). p x || t) (any_reversed xs)

  one_further : (m n : ℕ) → nat_lt (1 + m) (suc n) ≡ nat_lt m n
  one_further m n = by (nat_lt m n) refl
    where
      by : (t : Bool) → nat_lt m n ≡ t → nat_lt (1 + m) (suc n) ≡ t
      by true e = let l = ltb-true m n e in lt-ltb (1 + m) (suc n) (omega (arith, l))
      by false e = let l = ltb-false m n e in le-ltb (1 + m) (suc n) (omega (arith, l))

  -- an element of the first ones passes exactly if the first that passes stands among them
  passes_before : (xs : List X) (n : ℕ) → n ≤ length xs → nat_lt (position_or_len p xs) n ≡ list_any p (take n xs)
  passes_before xs zero l = le-ltb (position_or_len p xs) 0 (omega arith)
  passes_before [] (suc n) l = absurd (omega (arith, l))
  passes_before (x ∷ xs) (suc n) l = by (p x) (passes_before xs n (omega (arith, l)))
    where
      by : (t : Bool) → nat_lt (position_or_len p xs) n ≡ list_any p (take n xs) → nat_lt (cond (not t) (1 + position_or_len p xs) 0) (suc n) ≡ (t || list_any p (take n xs))
      by true rest = lt-ltb 0 (suc n) (omega arith)
      by false rest = one_further (position_or_len p xs) n ∙ rest

-- an action was claimed by one of the first entries exactly if the place of its claim is one of theirs
pub claimed_before : (journal : List Entry) (a n : ℕ) → n ≤ length journal → nat_lt (claim_place journal a) n ≡ was_claimed (reverse (take n journal)) a
claimed_before journal a n l = passes_before (is_claim_of a) journal n l ∙ sym (any_reversed (is_claim_of a) (take n journal))

-- the places of claims from an entry on
pub record Entered (journal : List Entry) (count : ℕ) (claims : List ℕ) (at : ℕ) : Type 0 where
  pub size : length claims ≡ count
  pub within : at ≤ length journal
  pub each : (a : ℕ) → a < count → get_or claims a 0 ≡ at + claim_place (drop at journal) a

with_sized : (claims : List ℕ) (entry : Entry) (place : ℕ) → length (with_claim claims entry place) ≡ length claims
with_sized claims (Entry.Claim v b) place = length-set claims b place
with_sized claims entry place = refl

-- one entry more, before the others
with_placed : (claims : List ℕ) (entry : Entry) (place more a : ℕ) → a < length claims → get_or claims a 0 ≡ place + (1 + more)
    → get_or (with_claim claims entry place) a 0 ≡ place + cond (not (is_claim_of a entry)) (1 + more) 0
with_placed claims (Entry.Claim v b) place more a l e = on (cases_eq b a)
  where
    on : (b ≡ a) ⊎ (b ≡ a → ⊥) → get_or (set claims b place) a 0 ≡ place + cond (not (b == a)) (1 + more) 0
    on (inl k) =
        let back : place ≡ place + 0 = omega arith in
        ap (λ (n : ℕ). get_or (set claims n place) a 0) k ∙ get_or-set_same claims a place 0 l
        ∙ back ∙ ap (λ (t : Bool). place + cond (not t) (1 + more) 0) (sym (eq-eqb b a k))
    on (inr k) = get_or-set_other claims b a place 0 (λ f. k (sym f)) ∙ e ∙ sym (ap (λ (t : Bool). place + cond (not t) (1 + more) 0) (ne_eqb b a k))
with_placed claims entry place more a l e = e

pub entered_more : (journal : List Entry) (count : ℕ) (claims next : List ℕ) (n i : ℕ) (entry : Entry) → n ≡ i + 1 → i < length journal → entry ≡ get_or journal i entry
    → next ≡ with_claim claims entry i → Entered journal count claims n → Entered journal count next i
entered_more journal count claims next n i entry step l is e so_far = record {
  size = ap length e ∙ with_sized claims entry i ∙ so_far.size;
  within = omega (arith, l);
  each = λ a below.
      let within : a < length claims = let z = so_far.size in omega (arith, below, z) in
      let before : get_or claims a 0 ≡ i + (1 + claim_place (drop (i + 1) journal) a) =
      let z = so_far.each a below in let y = ap (λ (k : ℕ). claim_place (drop k journal) a) step in omega (arith, z, y, step) in
      let here : drop i journal ≡ entry ∷ drop (i + 1) journal = drop_more journal i entry l ∙ ap (λ (x : Entry). x ∷ drop (i + 1) journal) (sym is) in
      ap (λ (cs : List ℕ). get_or cs a 0) e ∙ with_placed claims entry i (claim_place (drop (i + 1) journal) a) a within before
      ∙ ap (λ (es : List Entry). i + claim_place es a) (sym here);
}
