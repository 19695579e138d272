-- The line ends before the bracket that closes a flow collection, counted character by character.
use Rattle.std.proofs.Common.{◌≡◌, ◌∙◌, ℕ, zero, suc, ◌+◌, ◌-◌, ◌==◌, List, [], ◌∷◌, ◌++◌, Bool, true, false, Some, take, drop, length, refl, sym, ap, arith, append_assoc, if◌then◌else◌}
use Rattle.std.proofs.lemmas.List.{length-append}
use Rattle.yaml_groups.specs.Cuts.{cuts, is_cut, is_space, open_behind, token_len}
use Rattle.yaml_groups.specs.Grouped.{closing, ends_before, flow_lines, line_ends_in}
use Rattle.yaml_groups.specs.Parts.{ends_with}
use Rattle.yaml_nodes.specs.Marks.{starts}

-- how many line ends stand before the bracket that closes a collection, behind so many before, else all
abbrev pub ends_to_close : ℕ → ℕ → ℕ → ℕ → Bool → List ℕ → ℕ
ends_to_close all count n skip white [] = all
ends_to_close all count n (suc skip) white (c ∷ cs) = ends_to_close all (ends_with count c) n skip (is_space c) cs
ends_to_close all count n zero white (c ∷ cs) =
    if is_cut n c then (if c == 44 then ends_to_close all (ends_with count c) 0 0 false cs else count)
    else ends_to_close all (ends_with count c) (open_behind n c) (token_len white (c ∷ cs) - 1) (is_space c) cs

-- a text of which a part stands before a place, and so many line ends in it
record IsAt (text : List ℕ) (at count : ℕ) (cs : List ℕ) : Type 0 where
  before : List ℕ
  whole : before ++ cs ≡ text
  len : length before ≡ at
  ends : line_ends_in before ≡ count

ends_push : (cs : List ℕ) (c : ℕ) → line_ends_in (cs ++ c ∷ []) ≡ ends_with (line_ends_in cs) c
ends_push [] c = refl
ends_push (d ∷ cs) c = ap (λ n. if d == 10 then n + 1 else n) (ends_push cs c) ∙ both (d == 10) (c == 10) (line_ends_in cs)
  where
    both : (a b : Bool) (n : ℕ) → (if a then (if b then n + 1 else n) + 1 else (if b then n + 1 else n)) ≡ (if b then (if a then n + 1 else n) + 1 else (if a then n + 1 else n))
    both true true n = refl
    both true false n = refl
    both false true n = refl
    both false false n = refl

one_on : (text : List ℕ) (at count c : ℕ) (cs : List ℕ) → IsAt text at count (c ∷ cs) → IsAt text (at + 1) (ends_with count c) cs
one_on text at count c cs h =
    let l = length-append h.before (c ∷ []) in
    record { before = h.before ++ c ∷ []; whole = append_assoc h.before (c ∷ []) cs ∙ h.whole; len = omega (arith, h.len); ends = ends_push h.before c ∙ ap (λ n. ends_with n c) h.ends }

drop_there : (xs ys : List ℕ) → drop (length xs) (xs ++ ys) ≡ ys
drop_there [] ys = refl
drop_there (x ∷ xs) ys = drop_there xs ys

take_there : (xs ys : List ℕ) → take (length xs) (xs ++ ys) ≡ xs
take_there [] ys = refl
take_there (x ∷ xs) ys = ap (λ l. x ∷ l) (take_there xs ys)

here : (text : List ℕ) (at count c : ℕ) (cs : List ℕ) → IsAt text at count (c ∷ cs) → starts 44 (drop at text) ≡ (c == 44)
here text at count c cs h = ap (λ n. starts 44 (drop n text)) (sym h.len) ∙ ap (λ t. starts 44 (drop (length h.before) t)) (sym h.whole) ∙ ap (starts 44) (drop_there h.before (c ∷ cs))

ends_here : (text : List ℕ) (at count c : ℕ) (cs : List ℕ) → IsAt text at count (c ∷ cs) → line_ends_in (take at text) ≡ count
ends_here text at count c cs h =
    ap (λ n. line_ends_in (take n text)) (sym h.len) ∙ ap (λ t. line_ends_in (take (length h.before) t)) (sym h.whole) ∙ ap line_ends_in (take_there h.before (c ∷ cs)) ∙ h.ends

-- a cut that is a comma or closes
cut_there : (text : List ℕ) (all at count c : ℕ) (cs more : List ℕ) (total : ℕ) → IsAt text at count (c ∷ cs) → ends_before text all (closing text more) ≡ total
    → ends_before text all (closing text (at ∷ (if c == 44 then more else []))) ≡ (if c == 44 then total else count)
cut_there text all at count c cs more total h rest =
    ap (λ b. ends_before text all (if b then closing text (if c == 44 then more else []) else Some at)) (here text at count c cs h) ∙ by (c == 44)
  where
    by : (comma : Bool) → ends_before text all (if comma then closing text (if comma then more else []) else Some at) ≡ (if comma then total else count)
    by true = rest
    by false = ends_here text at count c cs h

ends_are : (text : List ℕ) (all at count n skip : ℕ) (white : Bool) (cs : List ℕ) → IsAt text at count cs → ends_before text all (closing text (cuts at n skip white cs)) ≡ ends_to_close all count n skip white cs
ends_are text all at count n skip white [] h = refl
ends_are text all at count n (suc skip) white (c ∷ cs) h = ends_are text all (at + 1) (ends_with count c) n skip (is_space c) cs (one_on text at count c cs h)
ends_are text all at count n zero white (c ∷ cs) h =
    let on = one_on text at count c cs h in
    by (is_cut n c) (at ∷ (if c == 44 then cuts (at + 1) 0 0 false cs else [])) (cuts (at + 1) (open_behind n c) (token_len white (c ∷ cs) - 1) (is_space c) cs)
    (cut_there text all at count c cs (cuts (at + 1) 0 0 false cs) _ h (ends_are text all (at + 1) (ends_with count c) 0 0 false cs on))
    (ends_are text all (at + 1) (ends_with count c) (open_behind n c) (token_len white (c ∷ cs) - 1) (is_space c) cs on)
  where
    by : (cut : Bool) (xs ys : List ℕ) {a b : ℕ} → ends_before text all (closing text xs) ≡ a → ends_before text all (closing text ys) ≡ b → ends_before text all (closing text (if cut then xs else ys)) ≡ (if cut then a else b)
    by true xs ys p q = p
    by false xs ys p q = q

pub flow_lines_are : (text : List ℕ) (all : ℕ) → flow_lines text all ≡ ends_to_close all 0 0 0 false text
flow_lines_are text all = ends_are text all 0 0 0 0 false text (record { before = []; whole = refl; len = refl; ends = refl })
