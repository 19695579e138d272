-- The first line of bytes, and those that follow it.
use Rattle.std.proofs.Common.{◌≡◌, ◌≢◌, ◌∙◌, ℕ, suc, ◌+◌, ◌-◌, ◌≤◌, Bool, true, false, eqb, List, [], ◌∷◌, ◌++◌, length, take, drop, refl, sym, ap, subst, arith, tests}
use Rattle.std.proofs.lemmas.Bool.Decides.{nat_tests}
use Rattle.std.proofs.lemmas.List.{append-nil, take-append-drop, take_rest}
use Rattle.std.specs.List.{slice_split}
use Rattle.std.specs.Str.Lines.{lines, lines_of_parts, strip_carriage_return}
use Rattle.dotenv.specs.Files.{feed_len}

abbrev feed : ℕ → Bool
feed b = eqb b 10

-- the parts before and behind the first line feed
abbrev with_front : List ℕ → List (List ℕ) → List (List ℕ)
with_front front parts = front ∷ parts

-- the parts of what follows the first line feed, where there is one
abbrev behind : List ℕ → List (List ℕ)
behind [] = []
behind (c ∷ cs) = slice_split feed cs

split_by : (c : ℕ) (cs : List ℕ) (b : Bool) → feed c ≡ b
    → slice_split feed cs ≡ take (feed_len cs) cs ∷ behind (drop (feed_len cs) cs)
    → slice_split feed (c ∷ cs) ≡ take (feed_len (c ∷ cs)) (c ∷ cs) ∷ behind (drop (feed_len (c ∷ cs)) (c ∷ cs))
split_by c cs true e more = rw e refl
split_by c cs false e more = let one : feed_len cs + 1 ≡ suc (feed_len cs) = omega arith in rw (e, one, more) refl

split_is : (cs : List ℕ) → slice_split feed cs ≡ take (feed_len cs) cs ∷ behind (drop (feed_len cs) cs)
split_is [] = refl
split_is (c ∷ cs) = split_by c cs (feed c) refl (split_is cs)

parts_more : (front cs : List ℕ) → lines_of_parts (front ∷ slice_split feed cs) ≡ strip_carriage_return front ∷ lines_of_parts (slice_split feed cs)
parts_more front cs = subst (λ (parts : List (List ℕ)). lines_of_parts (front ∷ parts) ≡ strip_carriage_return front ∷ lines_of_parts parts) (sym (split_is cs)) refl

-- a line that ends
line_ends : (bytes front more : List ℕ) (c : ℕ) → front ≡ take (feed_len bytes) bytes → c ∷ more ≡ drop (feed_len bytes) bytes → lines bytes ≡ strip_carriage_return front ∷ lines more
line_ends bytes front more c p q =
    ap lines_of_parts (split_is bytes ∙ (λ i. sym p i ∷ behind (sym q i))) ∙ parts_more front more

one_line : (c : ℕ) (cs : List ℕ) → lines_of_parts ((c ∷ cs) ∷ []) ≡ (c ∷ cs) ∷ []
one_line c cs = let some : eqb (suc (length cs)) 0 ≡ false = grind (arith, nat_tests, tests) in rw some refl

-- the last line, which has no end
line_lasts : (bytes front : List ℕ) → bytes ≢ [] → front ≡ take (feed_len bytes) bytes → [] ≡ drop (feed_len bytes) bytes → lines bytes ≡ front ∷ []
line_lasts [] front ne p q = absurd (ne refl)
line_lasts (c ∷ cs) front ne p q =
    let n = feed_len (c ∷ cs) in
    let whole : c ∷ cs ≡ front = sym (take-append-drop n (c ∷ cs)) ∙ (λ i. sym p i ++ sym q i) ∙ append-nil front in
    ap lines_of_parts (split_is (c ∷ cs) ∙ (λ i. sym p i ∷ behind (sym q i)) ∙ ap (λ (l : List ℕ). l ∷ []) (sym whole)) ∙ one_line c cs ∙ ap (λ (l : List ℕ). l ∷ []) whole

-- bytes without a line feed are one line
pub last_line : (bytes front rest : List ℕ) (n : ℕ) → bytes ≢ [] → n ≡ feed_len bytes → front ≡ take n bytes → rest ≡ drop n bytes → length rest ≡ 0 → lines bytes ≡ front ∷ lines rest
last_line bytes front [] n ne e p q none = line_lasts bytes front ne (p ∙ ap (λ k. take k bytes) e) (q ∙ ap (λ k. drop k bytes) e)
last_line bytes front (c ∷ more) n ne e p q none = absurd (omega arith)

-- bytes with a line feed are a line and those of what follows
pub more_lines : (bytes front rest line : List ℕ) (n : ℕ) → n ≡ feed_len bytes → front ≡ take n bytes → rest ≡ drop n bytes → 1 ≤ length rest → line ≡ strip_carriage_return front
    → lines bytes ≡ line ∷ lines (take (length rest - 1) (drop 1 rest))
more_lines bytes front [] line n e p q some s = absurd (omega arith)
more_lines bytes front (c ∷ more) line n e p q some s =
    line_ends bytes front more c (p ∙ ap (λ k. take k bytes) e) (q ∙ ap (λ k. drop k bytes) e) ∙ (λ i. sym s i ∷ lines (sym (take_rest (c ∷ more) 1) i))
