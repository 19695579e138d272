-- How many entries there are, and whose they are.
use Rattle.std.proofs.Common.{◌≡◌, ◌∙◌, ℕ, zero, suc, ◌+◌, ◌*◌, ◌%◌, ◌<◌, ◌≤◌, ◌⊎◌, Bool, true, false, cond, List, [], ◌∷◌, ◌++◌, length, length-append, refl, sym, ap, subst, inl, inr, arith}
use Rattle.std.proofs.lemmas.Bool.{cases_eq, cases_lt, eq-eqb, eqb-true, le-ltb, lt-ltb, ne_eqb}
use Rattle.std.proofs.lemmas.List.Elements.{filter-append}
use Rattle.std.specs.Prelude.{◌==◌, filter, nat_lt}
use Rattle.turn_ledger.specs.Own.{Each, own}
use Rattle.log_book.specs.declared.entries.LogEntry.{LogEntry}
use Rattle.log_book.specs.Books.{Book, IsBook, IsEntry, most_parts, of_container}
use Rattle.log_book.specs.Laws.{ContainersHaveOneWorker}

-- the entries of the containers below a number
abbrev below : ℕ → List LogEntry → List LogEntry
below n entries = filter (λ e. nat_lt e.container n) entries

-- an entry more that is below the next number, below this one, or of this one
counted : (a b c p q r : Bool) (e : LogEntry) (xs ys zs : List LogEntry) → a ≡ p → b ≡ q → c ≡ r
    → length (cond p (e ∷ xs) xs) ≡ length (cond q (e ∷ ys) ys) + length (cond r (e ∷ zs) zs)
    → length (cond a (e ∷ xs) xs) ≡ length (cond b (e ∷ ys) ys) + length (cond c (e ∷ zs) zs)
counted a b c p q r e xs ys zs ea eb ec h = rw (ea, eb, ec) h

abbrev Counts : ℕ → List LogEntry → Type 0
Counts n es = length (below (suc n) es) ≡ length (below n es) + length (of_container n es)

below_next : (n : ℕ) (es : List LogEntry) → Counts n es
below_next n [] = refl
below_next n (e ∷ es) = on (cases_lt e.container n) (below_next n es)
  where
    by : (p q r : Bool) → nat_lt e.container (suc n) ≡ p → nat_lt e.container n ≡ q → (e.container == n) ≡ r
        → length (cond p (e ∷ below (suc n) es) (below (suc n) es)) ≡ length (cond q (e ∷ below n es) (below n es)) + length (cond r (e ∷ of_container n es) (of_container n es))
        → Counts n (e ∷ es)
    by p q r ea eb ec h = counted (nat_lt e.container (suc n)) (nat_lt e.container n) (e.container == n) p q r e (below (suc n) es) (below n es) (of_container n es) ea eb ec h

    above : n ≤ e.container → (e.container ≡ n) ⊎ (e.container ≡ n → ⊥) → Counts n es → Counts n (e ∷ es)
    above g (inl same) rec = by true false true (lt-ltb e.container (suc n) (omega (arith, same))) (le-ltb e.container n g) (eq-eqb e.container n same) (omega (arith, rec))
    above g (inr other) rec = by false false false (le-ltb e.container (suc n) (omega (arith, g, other))) (le-ltb e.container n g) (ne_eqb e.container n other) rec

    on : (e.container < n) ⊎ (n ≤ e.container) → Counts n es → Counts n (e ∷ es)
    on (inl l) rec = by true true false (lt-ltb e.container (suc n) (omega (arith, l))) (lt-ltb e.container n l) (ne_eqb e.container n (λ same. omega (arith, l, same))) (omega (arith, rec))
    on (inr g) rec = above g (cases_eq e.container n) rec

left_out : (a : Bool) (e : LogEntry) (xs : List LogEntry) → a ≡ false → length xs ≡ 0 → length (cond a (e ∷ xs) xs) ≡ 0
left_out a e xs h g = rw h g

none_below : (es : List LogEntry) → length (below zero es) ≡ 0
none_below [] = refl
none_below (e ∷ es) = left_out (nat_lt e.container zero) e (below zero es) (le-ltb e.container zero (omega arith)) (none_below es)

few_below : (n : ℕ) (es : List LogEntry) → ((c : ℕ) → length (of_container c es) ≤ most_parts) → length (below n es) ≤ most_parts * n
few_below zero es h = let none = none_below es in omega (arith, none)
few_below (suc n) es h = let rec = few_below n es h in let one = h n in let both = below_next n es in omega (arith, rec, one, both)

kept_in : (a : Bool) (e : LogEntry) (xs ys : List LogEntry) → a ≡ true → length xs ≡ length ys → length (cond a (e ∷ xs) xs) ≡ length (e ∷ ys)
kept_in a e xs ys h g = rw h (ap (λ (n : ℕ). suc n) g)

all_below : (slots workers : ℕ) (es : List LogEntry) → Each (IsEntry slots workers) es → length (below slots es) ≡ length es
all_below slots workers [] h = refl
all_below slots workers (e ∷ es) (one, more) = kept_in (nat_lt e.container slots) e (below slots es) es (lt-ltb e.container slots one.below) (all_below slots workers es more)

-- a book has no more entries than parts of all slots
pub few_entries : (book : Book) → IsBook book → length book.entries ≤ most_parts * book.slots
few_entries book b =
    let all = all_below book.slots book.workers book.entries b.each in
    let few = few_below book.slots book.entries b.parts in omega (arith, all, few)

-- an entry of a container is one of its worker's
one_own : (isw isc : Bool) (e : LogEntry) (c : ℕ) (xs ys : List LogEntry) → (e.container == c) ≡ isc → (isc ≡ true → isw ≡ true) → of_container c xs ≡ ys
    → of_container c (cond isw (e ∷ xs) xs) ≡ cond isc (e ∷ ys) ys
one_own true true e c xs ys same h rec = rw same (ap (λ l. e ∷ l) rec)
one_own true false e c xs ys same h rec = rw same rec
one_own false true e c xs ys same h rec = absurd (cc (h refl))
one_own false false e c xs ys same h rec = rec

pub own_are_all : (slots workers c w : ℕ) (es : List LogEntry) → Each (IsEntry slots workers) es → w ≡ c % workers → of_container c (own (λ e. e.worker) w es) ≡ of_container c es
own_are_all slots workers c w [] h same = refl
own_are_all slots workers c w (e ∷ es) (one, more) same =
    one_own (e.worker == w) (e.container == c) e c (own (λ x. x.worker) w es) (of_container c es) refl own_too (own_are_all slots workers c w es more same)
  where
    own_too : (e.container == c) ≡ true → (e.worker == w) ≡ true
    own_too h = eq-eqb e.worker w (one.own ∙ ap (λ (n : ℕ). n % workers) (eqb-true e.container c h) ∙ sym same)

pub one_worker : ContainersHaveOneWorker
one_worker book c b = own_are_all book.slots book.workers c (c % book.workers) book.entries b.each refl

at_most_one : (t : Bool) (e : LogEntry) → length (cond t (e ∷ []) []) ≤ 1
at_most_one true e = omega arith
at_most_one false e = omega arith

not_one : (t : Bool) (e : LogEntry) → t ≡ false → length (cond t (e ∷ []) []) ≡ 0
not_one t e h = rw h refl

-- an entry more of a container that has an entry left
pub parts_with : (c : ℕ) (es : List LogEntry) (e : LogEntry) → length (of_container c es) ≤ most_parts → length (of_container e.container es) < most_parts
    → length (of_container c (es ++ e ∷ [])) ≤ most_parts
parts_with c es e few fewer = on (cases_eq e.container c)
  where
    long : length (of_container c (es ++ e ∷ [])) ≡ length (of_container c es) + length (of_container c (e ∷ []))
    long = ap (λ (l : List LogEntry). length l) (filter-append (λ x. x.container == c) es (e ∷ [])) ∙ length-append (of_container c es) (of_container c (e ∷ []))

    on : (e.container ≡ c) ⊎ (e.container ≡ c → ⊥) → length (of_container c (es ++ e ∷ [])) ≤ most_parts
    on (inl same) =
        let one : length (of_container c (e ∷ [])) ≤ 1 = at_most_one (e.container == c) e in
        let less : length (of_container c es) < most_parts = subst (λ (k : ℕ). length (of_container k es) < most_parts) same fewer in omega (arith, long, one, less)
    on (inr other) = let none : length (of_container c (e ∷ [])) ≡ 0 = not_one (e.container == c) e (ne_eqb e.container c other) in omega (arith, long, none, few)
