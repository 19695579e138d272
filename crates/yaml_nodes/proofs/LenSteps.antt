-- Steps of the loops that measure scalars in quotes.
use Rattle.std.proofs.Common.{◌≡◌, ◌∙◌, ℕ, ◌+◌, ◌-◌, ◌<◌, ◌≤◌, List, [], ◌∷◌, true, false, eqb, Option, Some, None, get_or, drop, length, refl, sym, ap, arith}
use Rattle.std.proofs.lemmas.List.{at_drop_more, drop-drop, length-drop}
use Rattle.std.specs.Option.{option_map}
use Rattle.yaml_lines.proofs.QuoteSteps.{double_escape, opened}
use Rattle.yaml_lines.specs.Quoted.{single_of, double_of, escape_of, behind_quote, quoted_of}
use Rattle.yaml_lines.specs.Spelling.{after}
use Rattle.yaml_nodes.specs.Marks.{starts, read_len, counted}

-- how many characters were read up to here and behind
abbrev pub farther : ℕ → Option (List ℕ × ℕ) → Option ℕ
farther n read = option_map (λ p. n + p.1) read

farther_after : (us : List ℕ) (n m : ℕ) (r : Option (List ℕ × ℕ)) → farther n (after us m r) ≡ farther (n + m) r
farther_after us n m None = refl
farther_after us n m (Some p) = let e : n + (m + p.1) ≡ n + m + p.1 = omega arith in (λ i. Some (e i))

-- one step of a reader, which passes over so many characters
pub moves : (f : List ℕ → Option (List ℕ × ℕ)) (cs us : List ℕ) (i m : ℕ) (total : Option ℕ) → f (drop i cs) ≡ after us m (f (drop (i + m) cs)) → farther i (f (drop i cs)) ≡ total → farther (i + m) (f (drop (i + m) cs)) ≡ total
moves f cs us i m total e so_far = sym (farther_after us i m (f (drop (i + m) cs))) ∙ ap (farther i) (sym e) ∙ so_far

-- what a reader gives at a character
here : (f : List ℕ → Option (List ℕ × ℕ)) (cs : List ℕ) (i c : ℕ) → i < length cs → c ≡ get_or cs i c → f (drop i cs) ≡ f (c ∷ drop (i + 1) cs)
here f cs i c h e = at_drop_more f cs i c h ∙ ap (λ x. f (x ∷ drop (i + 1) cs)) (sym e)

two : (c : ℕ) (rest : List ℕ) → eqb c 39 ≡ true → starts 39 rest ≡ true → single_of (c ∷ rest) ≡ after (39 ∷ []) 2 (single_of (drop 1 rest))
two c [] p h = cc
two c (d ∷ rest) p h = rw (p, h) refl

one : (c : ℕ) (rest : List ℕ) → eqb c 39 ≡ true → starts 39 rest ≡ false → single_of (c ∷ rest) ≡ Some ([], 1)
one c [] p h = rw p refl
one c (d ∷ rest) p h = rw (p, h) refl

-- a quote that follows stands within the characters
pub two_left : (cs : List ℕ) (i : ℕ) → starts 39 (drop (i + 1) cs) ≡ true → i + 2 ≤ length cs
two_left cs i q = starts_one (drop (i + 1) cs) q (length-drop (i + 1) cs)
  where
    starts_one : (rest : List ℕ) → starts 39 rest ≡ true → length rest ≡ length cs - (i + 1) → i + 2 ≤ length cs
    starts_one [] h e = cc
    starts_one (c ∷ rest) h e = omega arith

-- two quotes are one character
pub single_two : (cs : List ℕ) (i c : ℕ) → i < length cs → c ≡ get_or cs i c → eqb c 39 ≡ true → starts 39 (drop (i + 1) cs) ≡ true → single_of (drop i cs) ≡ after (39 ∷ []) 2 (single_of (drop (i + 2) cs))
single_two cs i c h e p q =
    let k : i + 1 + 1 ≡ i + 2 = omega arith in
    here single_of cs i c h e ∙ two c (drop (i + 1) cs) p q
    ∙ ap (λ x. after (39 ∷ []) 2 (single_of x)) (drop-drop 1 (i + 1) cs ∙ ap (λ n. drop n cs) k)

-- one quote closes
pub single_end : (cs : List ℕ) (i c : ℕ) → i < length cs → c ≡ get_or cs i c → eqb c 39 ≡ true → starts 39 (drop (i + 1) cs) ≡ false → single_of (drop i cs) ≡ Some ([], 1)
single_end cs i c h e p q = here single_of cs i c h e ∙ one c (drop (i + 1) cs) p q

-- an escape that is known is passed over
pub double_measured : (cs : List ℕ) (i c d n : ℕ) (total : Option ℕ) → i < length cs → c ≡ get_or cs i c → c ≡ 92 → Some (d, n) ≡ escape_of (drop (i + 1) cs) → n ≤ length (drop (i + 1) cs)
    → farther i (double_of 0 (drop i cs)) ≡ total → farther (i + (n + 1)) (double_of 0 (drop (i + (n + 1)) cs)) ≡ total
double_measured cs i c d n total h e s m w so_far =
    moves (double_of 0) cs (d ∷ []) i (n + 1) total (double_escape cs i 92 d n h (rw s at e) refl refl refl (sym m) w) so_far

-- an escape that isn't known leaves all unread
pub double_unknown : (cs : List ℕ) (i c : ℕ) → i < length cs → c ≡ get_or cs i c → c ≡ 92 → None ≡ escape_of (drop (i + 1) cs) → double_of 0 (drop i cs) ≡ None
double_unknown cs i c h e s m = here (double_of 0) cs i c h e ∙ rw (s, sym m) refl

-- the opening quote is one character more
abbrev pub with_quote : Option ℕ → ℕ
with_quote None = 0
with_quote (Some len) = len + 1

with_quote_read : (read : Option (List ℕ × ℕ)) → with_quote (counted read) ≡ read_len (after [] 1 read)
with_quote_read None = refl
with_quote_read (Some p) = omega arith

-- a scalar in quotes is what its opening quote begins, and that quote
pub quoted : (cs : List ℕ) (q : ℕ) → 1 ≤ length cs → q ≡ get_or cs 0 q → with_quote (counted (behind_quote q (drop 1 cs))) ≡ read_len (quoted_of cs)
quoted cs q h e = with_quote_read (behind_quote q (drop 1 cs)) ∙ ap read_len (sym (opened cs q h e))
