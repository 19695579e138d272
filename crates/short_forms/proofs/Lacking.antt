-- Texts that lack a byte, and where they are cut.
use Rattle.std.proofs.Common.{◌≡◌, ◌∙◌, ℕ, suc, ◌+◌, ◌<◌, Bool, true, false, not, ◌&&◌, cond, eqb, List, [], ◌∷◌, ◌++◌, length, length-append, take, drop, All, Some, None, refl, sym, ap, arith, tests}
use Rattle.std.proofs.lemmas.Bool.{and_from, and_parts, cond-false, cond-true, le-ltb, lt-ltb}
use Rattle.std.proofs.lemmas.Bool.Decides.{nat_tests}
use Rattle.std.proofs.lemmas.List.{take_at}
use Rattle.std.proofs.lemmas.List.Elements.{All-cons, All-nil}
use Rattle.std.proofs.lemmas.List.Splits.{join_with_byte-slice_split, slice_split_at, slice_split_none}
use Rattle.std.specs.List.{join_with_byte, list_all, onto_first, position_or_len}
use Rattle.std.specs.Option.{option_map}
use Rattle.short_forms.specs.Cuts.{cut_once, parts_at}
use Rattle.short_forms.proofs.CutLemmas.{some_parts, split_cut}
use Rattle.short_forms.proofs.PrintedLemmas.{all_prefix, front_len}

-- no byte of a text is `at`
abbrev pub lacks : ℕ → List ℕ → Bool
lacks at text = list_all (λ b. not (eqb b at)) text

is_itself : (at : ℕ) → eqb at at ≡ true
is_itself at = grind (arith, nat_tests, tests)

no_more : (b at : ℕ) → not (eqb b at) ≡ true → eqb b at ≡ false
no_more b at e = grind (arith, nat_tests, tests)

lacks_all : (at : ℕ) (text : List ℕ) → lacks at text ≡ true → All (λ b. eqb b at ≡ false) text
lacks_all at [] e = All-nil (λ b. eqb b at ≡ false)
lacks_all at (b ∷ bs) e = let both = and_parts (not (eqb b at)) (lacks at bs) e in All-cons (λ b. eqb b at ≡ false) b bs (no_more b at both.0) (lacks_all at bs both.1)

-- a text is one part where it lacks the byte
pub parts_alone : (at : ℕ) (text : List ℕ) → lacks at text ≡ true → parts_at at text ≡ text ∷ []
parts_alone at text e = slice_split_none (λ b. eqb b at) text (lacks_all at text e)

-- the first part goes up to the first such byte
pub parts_behind : (at : ℕ) (text rest : List ℕ) → lacks at text ≡ true → parts_at at (text ++ at ∷ rest) ≡ text ∷ parts_at at rest
parts_behind at text rest e = slice_split_at (λ b. eqb b at) text at rest (lacks_all at text e) (is_itself at)

-- a text that lacks the byte isn't cut
pub cut_none : (at : ℕ) (text : List ℕ) → lacks at text ≡ true → cut_once at text ≡ None
cut_none at text e =
    let none : position_or_len (λ b. eqb b at) text ≡ length text = all_prefix (λ b. not (eqb b at)) text e in
    ap (option_map (λ n. (take n text, drop (n + 1) text))) (cond-false _ _ _ (le-ltb (position_or_len (λ b. eqb b at) text) (length text) (omega arith)))

drop_behind : (at : ℕ) (text rest : List ℕ) → drop (length text + 1) (text ++ at ∷ rest) ≡ rest
drop_behind at [] rest = refl
drop_behind at (b ∷ bs) rest = ap (λ n. drop n (b ∷ (bs ++ at ∷ rest))) (let same : suc (length bs) + 1 ≡ suc (length bs + 1) = omega arith in same) ∙ drop_behind at bs rest

-- a text is cut at the first such byte
pub cut_behind : (at : ℕ) (front rest : List ℕ) → lacks at front ≡ true → cut_once at (front ++ at ∷ rest) ≡ Some (front, rest)
cut_behind at front rest e =
    let text = front ++ at ∷ rest in
    let ends : not (eqb at at) ≡ false = ap not (is_itself at) in
    let len : position_or_len (λ b. eqb b at) text ≡ length front = front_len (λ b. not (eqb b at)) front at rest e ends in
    let within : position_or_len (λ b. eqb b at) text < length text = omega (arith, length-append front (at ∷ rest)) in
    let before : take (position_or_len (λ b. eqb b at) text) text ≡ front = take_at front (at ∷ rest) _ (sym len) in
    let behind : drop (position_or_len (λ b. eqb b at) text + 1) text ≡ rest = ap (λ n. drop (n + 1) text) len ∙ drop_behind at front rest in
    ap (option_map (λ n. (take n text, drop (n + 1) text))) (cond-true _ _ _ (lt-ltb _ (length text) within)) ∙ (λ i. Some (before i, behind i))

joined : (at : ℕ) (first : List ℕ) (parts : List (List ℕ)) → 0 < length parts → join_with_byte at (first ∷ parts) ≡ first ++ at ∷ join_with_byte at parts
joined at first [] some = absurd (omega arith)
joined at first (part ∷ parts) some = refl

-- a text that is cut is made of what it is cut into
pub cut_joins : (at : ℕ) (text first rest : List ℕ) → cut_once at text ≡ Some (first, rest) → text ≡ first ++ at ∷ rest
cut_joins at text first rest e =
    sym (join_with_byte-slice_split at text)
    ∙ ap (join_with_byte at) (split_cut at text first rest e)
    ∙ joined at first (parts_at at rest) (some_parts at rest)
    ∙ ap (λ (l : List ℕ). first ++ at ∷ l) (join_with_byte-slice_split at rest)

part_by : (at x : ℕ) (rest : List (List ℕ)) → (b : Bool) → eqb x at ≡ b → list_all (lacks at) rest ≡ true → list_all (lacks at) (cond (eqb x at) ([] ∷ rest) (onto_first x rest)) ≡ true
part_by at x rest true e h = rw e h
part_by at x [] false e h = rw e (rw e refl)
part_by at x (part ∷ parts) false e h = rw e (rw e h)

-- the parts between bytes lack the byte
pub parts_lack : (at : ℕ) (text : List ℕ) → list_all (lacks at) (parts_at at text) ≡ true
parts_lack at [] = refl
parts_lack at (x ∷ xs) = part_by at x (parts_at at xs) _ refl (parts_lack at xs)

module _ (at : ℕ) (p q : ℕ → Bool) (each : (b : ℕ) → p b ≡ true → q b ≡ true) (itself : q at ≡ true) where
  byte_by : (x : ℕ) (xs : List ℕ) (rest : List (List ℕ)) → (b : Bool) → eqb x at ≡ b → list_all (list_all p) (cond (eqb x at) ([] ∷ rest) (onto_first x rest)) ≡ true
      → (list_all (list_all p) rest ≡ true → list_all q xs ≡ true) → (q x && list_all q xs) ≡ true
  byte_by x xs rest true e h go =
      let is : x ≡ at = grind (arith, nat_tests, tests) in
      and_from (q x) (list_all q xs) (ap q is ∙ itself) (go (rw e at h))
  byte_by x xs [] false e h go =
      let k : list_all (list_all p) ((x ∷ []) ∷ []) ≡ true = rw e at h in
      and_from (q x) (list_all q xs) (each x (and_parts (p x) true (and_parts (p x && true) true k).0).0) (go refl)
  byte_by x xs (part ∷ parts) false e h go =
      let k : list_all (list_all p) ((x ∷ part) ∷ parts) ≡ true = rw e at h in
      let all = and_parts (p x && list_all p part) (list_all (list_all p) parts) k in
      let first = and_parts (p x) (list_all p part) all.0 in
      and_from (q x) (list_all q xs) (each x first.0) (go (and_from (list_all p part) (list_all (list_all p) parts) first.1 all.1))

  -- a text passes where its parts do, and the byte between them
  pub bytes_pass : (text : List ℕ) → list_all (list_all p) (parts_at at text) ≡ true → list_all q text ≡ true
  bytes_pass [] h = refl
  bytes_pass (x ∷ xs) h = byte_by x xs (parts_at at xs) _ refl h (bytes_pass xs)
