-- Steps of the loops over scalars in quotes.
use Rattle.std.proofs.Common.{◌≡◌, ◌≢◌, ◌∙◌, ℕ, zero, suc, ◌+◌, ◌-◌, ◌*◌, ◌<◌, ◌≤◌, List, [], ◌∷◌, ◌++◌, Bool, true, false, cond, eqb, ltb, Option, Some, None, get_or, drop, length, refl, sym, ap, append_assoc, arith}
use Rattle.std.proofs.lemmas.List.{at_drop_more, at_drop_all, append-nil, drop-drop}
use Rattle.std.proofs.lemmas.Str.{encodes-append}
use Rattle.std.specs.Char.{encode_utf8, digit_value}
use Rattle.std.specs.Option.{option_map}
use Rattle.std.specs.Str.{encode_utf8_all}
use Rattle.yaml_lines.specs.Quoted.{single_of, escape_of, double_of, behind_quote, quoted_of, hex_of}
use Rattle.yaml_lines.specs.Spelling.{after, spelled}

-- a text and how many characters spell it, with what was read behind it
abbrev pub more : List ℕ → ℕ → Option (List ℕ × ℕ) → Option (List ℕ × ℕ)
more text n read = option_map (λ p. (text ++ encode_utf8_all p.0, n + p.1)) read

pub more_none : (read : Option (List ℕ × ℕ)) → more [] 0 read ≡ spelled read
more_none None = refl
more_none (Some p) = let e : 0 + p.1 ≡ p.1 = omega arith in (λ i. Some (encode_utf8_all p.0, e i))

pub more_after : (t us : List ℕ) (n m : ℕ) (r : Option (List ℕ × ℕ)) → more t n (after us m r) ≡ more (t ++ encode_utf8_all us) (n + m) r
more_after t us n m None = refl
more_after t us n m (Some p) =
    let e : n + (m + p.1) ≡ n + m + p.1 = omega arith in
    let k : t ++ encode_utf8_all (us ++ p.0) ≡ (t ++ encode_utf8_all us) ++ encode_utf8_all p.0 = ap (λ x. t ++ x) (encodes-append us p.0) ∙ sym (append_assoc t (encode_utf8_all us) (encode_utf8_all p.0)) in
    (λ i. Some (k i, e i))

pub after_after : (t u : List ℕ) (n m : ℕ) (r : Option (List ℕ × ℕ)) → after t n (after u m r) ≡ after (t ++ u) (n + m) r
after_after t u n m None = refl
after_after t u n m (Some p) = let e : n + (m + p.1) ≡ n + m + p.1 = omega arith in (λ i. Some (sym (append_assoc t u p.0) i, e i))

-- one step of a reader: a character more, spelled by so many
pub moves : (f g : List ℕ → Option (List ℕ × ℕ)) (cs t new : List ℕ) (d i m : ℕ) (total : Option (List ℕ × ℕ)) → f (drop i cs) ≡ after (d ∷ []) m (g (drop (i + m) cs)) → new ≡ t ++ encode_utf8 d
    → more t i (f (drop i cs)) ≡ total → more new (i + m) (g (drop (i + m) cs)) ≡ total
moves f g cs t new d i m total e k so_far =
    let one : t ++ encode_utf8_all (d ∷ []) ≡ new = ap (λ x. t ++ x) (append-nil (encode_utf8 d)) ∙ sym k in
    sym (ap (λ x. more x (i + m) (g (drop (i + m) cs))) one) ∙ sym (more_after t (d ∷ []) i m (g (drop (i + m) cs))) ∙ ap (more t i) (sym e) ∙ so_far

single_plain : (c : ℕ) (rest : List ℕ) → eqb c 39 ≡ false → eqb c 10 ≡ false → single_of (c ∷ rest) ≡ after (c ∷ []) 1 (single_of rest)
single_plain c [] h k = rw h refl
single_plain c (d ∷ rest) h k = rw (h, k) refl

pub single_char : (cs : List ℕ) (i c : ℕ) → i < length cs → c ≡ get_or cs i c → eqb c 39 ≡ false → eqb c 10 ≡ false → single_of (drop i cs) ≡ after (c ∷ []) 1 (single_of (drop (i + 1) cs))
single_char cs i c h e p q = at_drop_more single_of cs i c h ∙ ap (λ x. single_of (x ∷ drop (i + 1) cs)) (sym e) ∙ single_plain c (drop (i + 1) cs) p q

pub single_pair : (cs : List ℕ) (i c d : ℕ) → i + 1 < length cs → c ≡ get_or cs i c → d ≡ get_or cs (i + 1) d → eqb c 39 ≡ true → eqb d 39 ≡ true → single_of (drop i cs) ≡ after (39 ∷ []) 2 (single_of (drop (i + 2) cs))
single_pair cs i c d h e f p q =
    let k : i + 1 + 1 ≡ i + 2 = omega arith in
    let pair : single_of (c ∷ d ∷ drop (i + 1 + 1) cs) ≡ after (39 ∷ []) 2 (single_of (drop (i + 1 + 1) cs)) = rw (p, q) refl in
    at_drop_more single_of cs i c (omega arith) ∙ ap (λ x. single_of (x ∷ drop (i + 1) cs)) (sym e)
    ∙ at_drop_more (λ x. single_of (c ∷ x)) cs (i + 1) d h ∙ ap (λ x. single_of (c ∷ x ∷ drop (i + 1 + 1) cs)) (sym f)
    ∙ pair ∙ ap (λ n. after (39 ∷ []) 2 (single_of (drop n cs))) k

-- a line end closes nothing
pub single_line_end : (cs : List ℕ) (i c : ℕ) → i < length cs → c ≡ get_or cs i c → c ≡ 10 → single_of (drop i cs) ≡ None
single_line_end cs i c h e ten = at_drop_more single_of cs i c h ∙ ap (λ x. single_of (x ∷ drop (i + 1) cs)) (sym e ∙ ten) ∙ ends (drop (i + 1) cs)
  where
    ends : (rest : List ℕ) → single_of (10 ∷ rest) ≡ None
    ends [] = refl
    ends (d ∷ rest) = refl

-- the rest of an escape is passed over
pub passes : (n : ℕ) (cs : List ℕ) → n ≤ length cs → double_of n cs ≡ after [] n (double_of zero (drop n cs))
passes zero cs h = same (double_of zero cs)
  where
    same : (r : Option (List ℕ × ℕ)) → r ≡ after [] 0 r
    same None = refl
    same (Some p) = let e : p.1 ≡ 0 + p.1 = omega arith in (λ i. Some (p.0, e i))
passes (suc n) [] h = absurd (omega arith)
passes (suc n) (c ∷ cs) h =
    let e : 1 + n ≡ suc n = omega arith in
    ap (after [] 1) (passes n cs (omega arith)) ∙ after_after [] [] 1 n (double_of zero (drop n cs)) ∙ ap (λ k. after [] k (double_of zero (drop n cs))) e

pub double_char : (cs : List ℕ) (i c : ℕ) → i < length cs → c ≡ get_or cs i c → eqb c 34 ≡ false → eqb c 10 ≡ false → eqb c 92 ≡ false → double_of 0 (drop i cs) ≡ after (c ∷ []) 1 (double_of 0 (drop (i + 1) cs))
double_char cs i c h e p r q =
    let one : double_of 0 (c ∷ drop (i + 1) cs) ≡ after (c ∷ []) 1 (double_of 0 (drop (i + 1) cs)) = rw (p, r, q) refl in
    at_drop_more (double_of 0) cs i c h ∙ ap (λ x. double_of 0 (x ∷ drop (i + 1) cs)) (sym e) ∙ one

pub double_escape : (cs : List ℕ) (i c d n : ℕ) → i < length cs → c ≡ get_or cs i c → eqb c 34 ≡ false → eqb c 10 ≡ false → eqb c 92 ≡ true → escape_of (drop (i + 1) cs) ≡ Some (d, n) → n ≤ length (drop (i + 1) cs)
    → double_of 0 (drop i cs) ≡ after (d ∷ []) (n + 1) (double_of 0 (drop (i + (n + 1)) cs))
double_escape cs i c d n h e p r q s w =
    let one : double_of 0 (c ∷ drop (i + 1) cs) ≡ after (d ∷ []) 1 (double_of n (drop (i + 1) cs)) = rw (p, r, q, s) refl in
    let k : 1 + n ≡ n + 1 = omega arith in
    let l : i + 1 + n ≡ i + (n + 1) = omega arith in
    let m : drop n (drop (i + 1) cs) ≡ drop (i + (n + 1)) cs = drop-drop n (i + 1) cs ∙ ap (λ x. drop x cs) l in
    at_drop_more (double_of 0) cs i c h ∙ ap (λ x. double_of 0 (x ∷ drop (i + 1) cs)) (sym e) ∙ one
    ∙ ap (after (d ∷ []) 1) (passes n (drop (i + 1) cs) w) ∙ after_after (d ∷ []) [] 1 n _ ∙ (λ j. after (d ∷ []) (k j) (double_of 0 (m j)))

-- one digit more
pub hex_more : (cs : List ℕ) (digits i n c : ℕ) → i < digits → i < length cs → c ≡ get_or cs i c → digit_value c < 16 → hex_of (digits - i) n (drop i cs) ≡ hex_of (digits - (i + 1)) (n * 16 + digit_value c) (drop (i + 1) cs)
hex_more cs digits i n c l h e x =
    let k : digits - i ≡ suc (digits - (i + 1)) = omega arith in
    let t : ltb (digit_value c) 16 ≡ true = grind arith in
    let one : hex_of (suc (digits - (i + 1))) n (c ∷ drop (i + 1) cs) ≡ hex_of (digits - (i + 1)) (n * 16 + digit_value c) (drop (i + 1) cs) = rw t refl in
    rw k (at_drop_more (hex_of (suc (digits - (i + 1))) n) cs i c h ∙ ap (λ y. hex_of (suc (digits - (i + 1))) n (y ∷ drop (i + 1) cs)) (sym e) ∙ one)

pub hex_short : (cs : List ℕ) (digits i n : ℕ) → i < digits → length cs ≤ i → hex_of (digits - i) n (drop i cs) ≡ None
hex_short cs digits i n l h =
    let k : digits - i ≡ suc (digits - (i + 1)) = omega arith in
    rw k (at_drop_all (hex_of (suc (digits - (i + 1))) n) cs i h)

pub hex_bad : (cs : List ℕ) (digits i n c : ℕ) → i < digits → i < length cs → c ≡ get_or cs i c → 16 ≤ digit_value c → hex_of (digits - i) n (drop i cs) ≡ None
hex_bad cs digits i n c l h e x =
    let k : digits - i ≡ suc (digits - (i + 1)) = omega arith in
    let t : ltb (digit_value c) 16 ≡ false = grind arith in
    let one : hex_of (suc (digits - (i + 1))) n (c ∷ drop (i + 1) cs) ≡ None = rw t refl in
    rw k (at_drop_more (hex_of (suc (digits - (i + 1))) n) cs i c h ∙ ap (λ y. hex_of (suc (digits - (i + 1))) n (y ∷ drop (i + 1) cs)) (sym e) ∙ one)

either : (b : Bool) (x : Option ℕ) → x ≡ None → cond b x None ≡ None
either true x h = h
either false x h = refl

-- digits never lead back below the greatest character
pub hex_large : (k n : ℕ) (cs : List ℕ) → 0x11_0000 ≤ n → hex_of k n cs ≡ None
hex_large zero n cs h =
    let a : ltb n 0xD800 ≡ false = grind arith in
    let b : ltb n 0x11_0000 ≡ false = grind arith in
    grind (arith, a, b)
hex_large (suc k) n [] h = refl
hex_large (suc k) n (c ∷ cs) h = either (ltb (digit_value c) 16) (hex_of k (n * 16 + digit_value c) cs) (hex_large k (n * 16 + digit_value c) cs (omega arith))

-- one character more in front, of what was read as a text
abbrev pub longer : Option (List ℕ × ℕ) → Option (List ℕ × ℕ)
longer read = option_map (λ p. (p.0, p.1 + 1)) read

pub longer_spelled : (r : Option (List ℕ × ℕ)) → longer (spelled r) ≡ spelled (after [] 1 r)
longer_spelled None = refl
longer_spelled (Some p) = let e : p.1 + 1 ≡ 1 + p.1 = omega arith in (λ i. Some (encode_utf8_all p.0, e i))

pub differs : (a b : ℕ) → a ≢ b → eqb a b ≡ false
differs a b h = grind arith

-- a scalar in quotes begins with its quote
pub opened : (cs : List ℕ) (q : ℕ) → 1 ≤ length cs → q ≡ get_or cs 0 q → quoted_of cs ≡ after [] 1 (behind_quote q (drop 1 cs))
opened [] q h e = absurd (omega arith)
opened (c ∷ cs) q h e = ap (λ x. after [] 1 (behind_quote x cs)) (sym e)

-- the longest escape is its digits where they are a character's number
pub long_escape : (cs : List ℕ) (c : ℕ) → 1 ≤ length cs → c ≡ get_or cs 0 c → c ≡ 85 → option_map (λ d. (d, 9)) (hex_of 8 0 (drop 1 cs)) ≡ escape_of cs
long_escape [] c h e s = absurd (omega arith)
long_escape (d ∷ cs) c h e s = ap (λ x. escape_of (x ∷ cs)) (sym s ∙ e)
