-- Steps of the reading of a value in quotes.
use Rattle.std.proofs.Common.{◌≡◌, ◌≢◌, ◌∙◌, ℕ, ◌+◌, ◌<◌, true, false, eqb, List, [], ◌∷◌, ◌++◌, Option, Some, None, get_or, drop, length, refl, sym, ap, append_assoc, arith}
use Rattle.std.proofs.lemmas.List.{at_drop_more, append-nil, drop-drop}
use Rattle.std.proofs.lemmas.Str.{encodes-append}
use Rattle.std.specs.Char.{encode_utf8}
use Rattle.std.specs.Option.{option_map}
use Rattle.std.specs.Str.{encode_utf8_all}
use Rattle.dotenv.specs.declared.quote.Quote.{Quote}
use Rattle.dotenv.specs.Quotes.{mark, escape_in_front, after, quoted_of, spelled}

-- a text and how many characters spell it, with what was read behind it
abbrev pub more : List ℕ → ℕ → Option (List ℕ × ℕ) → Option (List ℕ × ℕ)
more text n read = option_map (λ p. (text ++ encode_utf8_all p.0, n + p.1)) read

pub more_none : (read : Option (List ℕ × ℕ)) → more [] 0 read ≡ spelled read
more_none None = refl
more_none (Some p) = let e : 0 + p.1 ≡ p.1 = omega arith in (λ i. Some (encode_utf8_all p.0, e i))

more_after : (text cs : List ℕ) (n m : ℕ) (read : Option (List ℕ × ℕ)) → more text n (after cs m read) ≡ more (text ++ encode_utf8_all cs) (n + m) read
more_after text cs n m None = refl
more_after text cs n m (Some p) =
    let e : n + (m + p.1) ≡ n + m + p.1 = omega arith in
    let k : text ++ encode_utf8_all (cs ++ p.0) ≡ (text ++ encode_utf8_all cs) ++ encode_utf8_all p.0 = ap (λ x. text ++ x) (encodes-append cs p.0) ∙ sym (append_assoc text (encode_utf8_all cs) (encode_utf8_all p.0)) in
    (λ i. Some (k i, e i))

char_step : (quote : Quote) (c : ℕ) (rest : List ℕ) → eqb c (mark quote) ≡ false → escape_in_front quote (c ∷ rest) ≡ None → quoted_of quote (c ∷ rest) ≡ after (c ∷ []) 1 (quoted_of quote rest)
char_step quote c [] p q = rw p refl
char_step quote c (d ∷ rest) p q = rw (p, q) refl

escape_step : (quote : Quote) (c e : ℕ) (rest : List ℕ) → eqb c (mark quote) ≡ false → escape_in_front quote (c ∷ rest) ≡ Some e → quoted_of quote (c ∷ rest) ≡ after (e ∷ []) 2 (quoted_of quote (drop 1 rest))
escape_step quote c e [] p q = absurd cc
escape_step quote c e (d ∷ rest) p q = rw (p, q) refl

close_step : (quote : Quote) (c : ℕ) (rest : List ℕ) → eqb c (mark quote) ≡ true → quoted_of quote (c ∷ rest) ≡ Some ([], 1)
close_step quote c [] p = rw p refl
close_step quote c (d ∷ rest) p = rw p refl

pub other_mark : (c d m : ℕ) → c ≢ d → d ≡ m → eqb c m ≡ false
other_mark c d m h e = let k : c ≢ m = λ p. h (p ∙ sym e) in grind arith

module _ (quote : Quote) (cs : List ℕ) (i c : ℕ) (within : i < length cs) (is : c ≡ get_or cs i c) where
  front : drop i cs ≡ c ∷ drop (i + 1) cs
  front = at_drop_more (λ x. x) cs i c within ∙ ap (λ x. x ∷ drop (i + 1) cs) (sym is)

  quoted_char : eqb c (mark quote) ≡ false → escape_in_front quote (drop i cs) ≡ None → quoted_of quote (drop i cs) ≡ after (c ∷ []) 1 (quoted_of quote (drop (i + 1) cs))
  quoted_char p q = ap (quoted_of quote) front ∙ char_step quote c (drop (i + 1) cs) p (sym (ap (escape_in_front quote) front) ∙ q)

  quoted_escape : (e : ℕ) → eqb c (mark quote) ≡ false → escape_in_front quote (drop i cs) ≡ Some e → quoted_of quote (drop i cs) ≡ after (e ∷ []) 2 (quoted_of quote (drop (i + 2) cs))
  quoted_escape e p q =
      let k : 1 + (i + 1) ≡ i + 2 = omega arith in
      let l : i + 1 + 1 ≡ i + 2 = omega arith in
      ap (quoted_of quote) front ∙ escape_step quote c e (drop (i + 1) cs) p (sym (ap (escape_in_front quote) front) ∙ q)
      ∙ ap (λ x. after (e ∷ []) 2 (quoted_of quote x)) (drop-drop 1 (i + 1) cs ∙ ap (λ n. drop n cs) l)

  -- the value is closed here
  pub quoted_closes : (text : List ℕ) (read : Option (List ℕ × ℕ)) → eqb c (mark quote) ≡ true → more text i (quoted_of quote (drop i cs)) ≡ read → Some (text, i + 1) ≡ read
  quoted_closes text read p so_far =
      (λ j. Some (sym (append-nil text) j, i + 1)) ∙ sym (ap (more text i) (ap (quoted_of quote) front ∙ close_step quote c (drop (i + 1) cs) p)) ∙ so_far

  moves : (d m : ℕ) (text new : List ℕ) (read : Option (List ℕ × ℕ)) → quoted_of quote (drop i cs) ≡ after (d ∷ []) m (quoted_of quote (drop (i + m) cs)) → new ≡ text ++ encode_utf8 d
      → more text i (quoted_of quote (drop i cs)) ≡ read → more new (i + m) (quoted_of quote (drop (i + m) cs)) ≡ read
  moves d m text new read e k so_far =
      let one : text ++ encode_utf8_all (d ∷ []) ≡ new = ap (λ x. text ++ x) (append-nil (encode_utf8 d)) ∙ sym k in
      sym (ap (λ x. more x (i + m) (quoted_of quote (drop (i + m) cs))) one) ∙ sym (more_after text (d ∷ []) i m (quoted_of quote (drop (i + m) cs))) ∙ ap (more text i) (sym e) ∙ so_far

  -- a character that stands for itself is one more
  pub quoted_moves : (text new : List ℕ) (read : Option (List ℕ × ℕ)) → eqb c (mark quote) ≡ false → escape_in_front quote (drop i cs) ≡ None → new ≡ text ++ encode_utf8 c
      → more text i (quoted_of quote (drop i cs)) ≡ read → more new (i + 1) (quoted_of quote (drop (i + 1) cs)) ≡ read
  quoted_moves text new read p q k so_far = moves c 1 text new read (quoted_char p q) k so_far

  -- an escaped character is one more, by two
  pub escape_moves : (e : ℕ) (text new : List ℕ) (read : Option (List ℕ × ℕ)) → eqb c (mark quote) ≡ false → escape_in_front quote (drop i cs) ≡ Some e → new ≡ text ++ encode_utf8 e
      → more text i (quoted_of quote (drop i cs)) ≡ read → more new (i + 2) (quoted_of quote (drop (i + 2) cs)) ≡ read
  escape_moves e text new read p q k so_far = moves e 2 text new read (quoted_escape e p q) k so_far
