-- What a plain word is read as.
use Rattle.std.proofs.Common.{◌≡◌, ◌∙◌, ℕ, suc, ◌-◌, List, [], ◌∷◌, ◌++◌, ◌&&◌, ◌||◌, not, Bool, true, false, eqb, Some, drop, length, take, refl, sym, ap, add-one, arith, true≢false}
use Rattle.std.proofs.Math.Seq.{take-append_seam}
use Rattle.std.proofs.lemmas.Bool.{and_parts, eqb-true, false_from_ne_true, not_from_true, or_parts}
use Rattle.std.specs.List.{ends_with, list_all}
use Rattle.std.specs.Str.{bytes_eq}
use Rattle.yaml_lines.specs.Blanks.{is_white}
use Rattle.yaml_lines.specs.Plain as plain
use Rattle.yaml_lines.specs.declared.plain.Context.TheVariants.{Block}
use Rattle.project_print.specs.Scalars.{begins_plain, is_plain, is_plain_byte, is_plain_start, is_reserved, is_word, means_more}

-- what a test tells apart isn't equal
pub apart : (test : ℕ → Bool) (c n : ℕ) → test c ≡ true → test n ≡ false → eqb c n ≡ false
apart test c n at_c at_n = false_from_ne_true (eqb c n) (λ same. true≢false (sym at_c ∙ ap test (eqb-true c n same) ∙ at_n))

-- a colon ends a longer text where it ends the rest
pub ends_later : (c d : ℕ) (cs : List ℕ) → ends_with eqb (c ∷ d ∷ cs) (58 ∷ []) ≡ ends_with eqb (d ∷ cs) (58 ∷ [])
ends_later c d cs =
    let e : length (c ∷ d ∷ cs) - 1 ≡ suc (length (d ∷ cs) - 1) = omega arith in
    ap (λ n. bytes_eq (58 ∷ []) (drop n (c ∷ d ∷ cs))) e

pub last_no : (c : ℕ) → ends_with eqb (c ∷ []) (58 ∷ []) ≡ false → eqb c 58 ≡ false
last_no c h = false_from_ne_true (eqb c 58) (λ same. true≢false (sym (ap (λ x. ends_with eqb (x ∷ []) (58 ∷ [])) (eqb-true c 58 same)) ∙ h))

-- no byte of a plain word ends it
run_goes_on : (c : ℕ) (cs rest : List ℕ) → is_plain_byte c ≡ true → list_all is_plain_byte cs ≡ true → ends_with eqb (c ∷ cs) (58 ∷ []) ≡ false → plain.ends_plain Block false (c ∷ (cs ++ rest)) ≡ false
run_goes_on c [] rest p q r =
    let a : eqb c 10 ≡ false = apart is_plain_byte c 10 p refl in
    let b : eqb c 58 ≡ false = last_no c r in
    rw (a, b) (by (eqb c 35))
  where
    by : (x : Bool) → (x && false) || false ≡ false
    by true = refl
    by false = refl
run_goes_on c (d ∷ cs) rest p q r =
    let a : eqb c 10 ≡ false = apart is_plain_byte c 10 p refl in
    let b : eqb d 32 ≡ false = apart is_plain_byte d 32 ((and_parts (is_plain_byte d) (list_all is_plain_byte cs) q).0) refl in
    let e : eqb d 10 ≡ false = apart is_plain_byte d 10 ((and_parts (is_plain_byte d) (list_all is_plain_byte cs) q).0) refl in
    rw (a, b, e) (by (eqb c 58) (eqb c 35))
  where
    by : (x y : Bool) → (x && false) || ((y && false) || false) ≡ false
    by true true = refl
    by true false = refl
    by false true = refl
    by false false = refl

nothing_runs : (rest : List ℕ) → plain.ends_plain Block false rest ≡ true → plain.plain_run Block false rest ≡ 0
nothing_runs [] h = refl
nothing_runs (c ∷ cs) h = rw h refl

white_no : (c : ℕ) → is_plain_byte c ≡ true → is_white c ≡ false
white_no c p =
    let a : eqb c 32 ≡ false = apart is_plain_byte c 32 p refl in
    let b : eqb c 9 ≡ false = apart is_plain_byte c 9 p refl in
    rw (a, b) refl

-- a plain word runs to its end
run : (cs rest : List ℕ) → list_all is_plain_byte cs ≡ true → ends_with eqb cs (58 ∷ []) ≡ false → plain.ends_plain Block false rest ≡ true → plain.plain_run Block false (cs ++ rest) ≡ length cs
run [] rest q r h = nothing_runs rest h
run (c ∷ []) rest q r h =
    let p = (and_parts (is_plain_byte c) true q).0 in
    rw (run_goes_on c [] rest p refl r, white_no c p, nothing_runs rest h) refl
run (c ∷ d ∷ cs) rest q r h =
    let p = (and_parts (is_plain_byte c) (list_all is_plain_byte (d ∷ cs)) q).0 in
    let s = (and_parts (is_plain_byte c) (list_all is_plain_byte (d ∷ cs)) q).1 in
    rw (run_goes_on c (d ∷ cs) rest p s r, white_no c p, run (d ∷ cs) rest s (sym (ends_later c d cs) ∙ r) h, add-one) refl

-- a plain word has no white space at its end
trimmed : (cs : List ℕ) → list_all is_plain_byte cs ≡ true → plain.trimmed_len cs ≡ length cs
trimmed [] q = refl
trimmed (c ∷ cs) q =
    let p = (and_parts (is_plain_byte c) (list_all is_plain_byte cs) q).0 in
    rw (white_no c p, trimmed cs (and_parts (is_plain_byte c) (list_all is_plain_byte cs) q).1, add-one) refl

-- a letter or a slash begins a plain scalar
begins : (c : ℕ) (cs : List ℕ) → is_plain_start c ≡ true → plain.begins_plain (c ∷ cs) ≡ true
begins c cs p =
    let no = λ (n : ℕ) (h : is_plain_start n ≡ false). apart is_plain_start c n p h in
    rw (no 45 refl, no 63 refl, no 58 refl, no 32 refl, no 9 refl, no 10 refl, no 44 refl, no 91 refl, no 93 refl, no 123 refl, no 125 refl, no 35 refl, no 38 refl, no 42 refl, no 33 refl, no 124 refl, no 62 refl, no 39 refl, no 34 refl, no 37 refl, no 64 refl, no 96 refl) refl

module _ (text : List ℕ) (e : is_plain text ≡ true) where
  word : is_word text ≡ true
  word = (and_parts (is_word text) (not (means_more text)) e).0

  pub is_begun : begins_plain text ≡ true
  is_begun = (and_parts (begins_plain text) (list_all is_plain_byte text) word).0

  pub are_bytes : list_all is_plain_byte text ≡ true
  are_bytes = (and_parts (begins_plain text) (list_all is_plain_byte text) word).1

  more : means_more text ≡ false
  more = false_from_ne_true (means_more text) (λ h. let k : not (means_more text) ≡ false = not_from_true (means_more text) h in true≢false (sym (and_parts (is_word text) (not (means_more text)) e).1 ∙ k))

  pub no_colon : ends_with eqb text (58 ∷ []) ≡ false
  no_colon = (or_parts (ends_with eqb text (58 ∷ [])) (is_reserved text) more).0

plain_len_is : (text rest : List ℕ) → is_plain text ≡ true → plain.ends_plain Block false rest ≡ true → plain.plain_len Block (text ++ rest) ≡ length text
plain_len_is text rest e h =
    ap (λ n. plain.trimmed_len (take n (text ++ rest))) (run text rest (are_bytes text e) (no_colon text e) h)
    ∙ ap plain.trimmed_len (take-append_seam text rest)
    ∙ trimmed text (are_bytes text e)

begins_word : (text rest : List ℕ) → begins_plain text ≡ true → plain.begins_plain (text ++ rest) ≡ true
begins_word [] rest h = cc
begins_word (c ∷ cs) rest h = begins c (cs ++ rest) h

-- a plain word is read as itself, before what ends a plain scalar
pub plain_reads : (text rest : List ℕ) → is_plain text ≡ true → plain.ends_plain Block false rest ≡ true → plain.plain_of Block (text ++ rest) ≡ Some (text, length text)
plain_reads text rest e h =
    let n = plain_len_is text rest e h in
    let one : plain.plain_of Block (text ++ rest) ≡ Some (take (plain.plain_len Block (text ++ rest)) (text ++ rest), plain.plain_len Block (text ++ rest)) = rw (begins_word text rest (is_begun text e)) refl in
    let two : take (length text) (text ++ rest) ≡ text = take-append_seam text rest in
    one ∙ ap (λ k. Some (take k (text ++ rest), k)) n ∙ ap (λ t. Some (t, length text)) two
