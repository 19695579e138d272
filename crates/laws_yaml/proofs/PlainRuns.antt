-- Words without quotes are read as they stand, in blocks and in flow collections.
use Rattle.std.proofs.Common.{◌≡◌, ◌∙◌, ℕ, ◌<◌, List, [], ◌∷◌, ◌++◌, ◌&&◌, ◌||◌, Bool, true, false, eqb, Some, codes, length, take, refl, sym, ap, add-one, arith}
use Rattle.std.proofs.Math.Seq.{take-append_seam}
use Rattle.std.proofs.lemmas.Bool.{agree_below, and_parts}
use Rattle.std.proofs.lemmas.Bool.Decides.{nat_tests}
use Rattle.std.specs.Char.{is_ascii_alphanumeric}
use Rattle.std.specs.List.{ends_with, list_all}
use Rattle.project_print.specs.Scalars.{is_plain_byte}
use Rattle.project_print.proofs.PlainWords.{ends_later, last_no}
use Rattle.yaml_lines.specs.Blanks.{is_white}
use Rattle.yaml_lines.specs.declared.plain.Context.{Context}
use Rattle.yaml_lines.specs.declared.plain.Context.TheVariants.{Block, Flow}
use Rattle.yaml_lines.specs.Plain.{begins_plain, ends_item, ends_plain, is_flow_mark, is_indicator, is_mark_before_space, plain_len, plain_of, plain_run, trimmed_len}
use Rattle.laws_yaml.proofs.Firsts.{excluded}

-- a letter, a digit or a slash, with which a word without quotes begins
abbrev pub is_word_start : ℕ → Bool
is_word_start c = is_ascii_alphanumeric c || eqb c 47

pub byte_below : (c : ℕ) → is_plain_byte c ≡ true → c < 128
byte_below c byte = grind (arith, nat_tests)

pub start_below : (c : ℕ) → is_word_start c ≡ true → c < 128
start_below c start = grind (arith, nat_tests)

module _ (c : ℕ) (byte : is_plain_byte c ≡ true) where
  never : (test : ℕ → Bool) → agree_below (λ d. is_plain_byte d && test d) (λ d. false) 128 ≡ true → test c ≡ false
  never test none = excluded is_plain_byte test none c (byte_below c byte) byte

  black : is_white c ≡ false
  black = never is_white refl

  ends_none : (context : Context) → ends_item context c ≡ false
  ends_none Block = refl
  ends_none Flow = never is_flow_mark refl

-- no character of a word ends it
goes_on : (context : Context) (c : ℕ) (cs rest : List ℕ) → list_all is_plain_byte (c ∷ cs) ≡ true → ends_with eqb (c ∷ cs) (58 ∷ []) ≡ false → ends_plain context false (c ∷ (cs ++ rest)) ≡ false
goes_on context c [] rest bytes closed =
    let byte = (and_parts (is_plain_byte c) true bytes).0 in
    rw (last_no c closed, never c byte (λ d. eqb d 10) refl, ends_none c byte context) (by (eqb c 35))
  where
    by : (x : Bool) → (x && false) || false ≡ false
    by true = refl
    by false = refl
goes_on context c (d ∷ cs) rest bytes closed =
    let parts = and_parts (is_plain_byte c) (list_all is_plain_byte (d ∷ cs)) bytes in
    let next = (and_parts (is_plain_byte d) (list_all is_plain_byte cs) parts.1).0 in
    rw (never c parts.0 (λ e. eqb e 10) refl, never d next (λ e. eqb e 32) refl, never d next (λ e. eqb e 10) refl, ends_none c parts.0 context) (by (eqb c 58) (eqb c 35))
  where
    by : (x y : Bool) → (x && false) || ((y && false) || false) ≡ false
    by true true = refl
    by true false = refl
    by false true = refl
    by false false = refl

nothing_runs : (context : Context) (rest : List ℕ) → ends_plain context false rest ≡ true → plain_run context false rest ≡ 0
nothing_runs context [] ends = refl
nothing_runs context (c ∷ cs) ends = rw ends refl

-- a word runs to its end
run : (context : Context) (cs rest : List ℕ) → list_all is_plain_byte cs ≡ true → ends_with eqb cs (58 ∷ []) ≡ false → ends_plain context false rest ≡ true → plain_run context false (cs ++ rest) ≡ length cs
run context [] rest bytes closed ends = nothing_runs context rest ends
run context (c ∷ []) rest bytes closed ends =
    let byte = (and_parts (is_plain_byte c) true bytes).0 in
    rw (goes_on context c [] rest bytes closed, black c byte, nothing_runs context rest ends) refl
run context (c ∷ d ∷ cs) rest bytes closed ends =
    let parts = and_parts (is_plain_byte c) (list_all is_plain_byte (d ∷ cs)) bytes in
    rw (goes_on context c (d ∷ cs) rest bytes closed, black c parts.0, run context (d ∷ cs) rest parts.1 (sym (ends_later c d cs) ∙ closed) ends, add-one) refl

-- a word has no white space at its end
trimmed : (cs : List ℕ) → list_all is_plain_byte cs ≡ true → trimmed_len cs ≡ length cs
trimmed [] bytes = refl
trimmed (c ∷ cs) bytes =
    let parts = and_parts (is_plain_byte c) (list_all is_plain_byte cs) bytes in
    rw (black c parts.0, trimmed cs parts.1, add-one) refl

-- a letter, a digit or a slash begins a plain scalar
begins : (c : ℕ) (cs : List ℕ) → is_word_start c ≡ true → begins_plain (c ∷ cs) ≡ true
begins c cs start =
    let low = start_below c start in
    rw (excluded is_word_start is_mark_before_space refl c low start, excluded is_word_start (λ d. is_white d || (eqb d 10 || (is_flow_mark d || is_indicator d))) refl c low start)

plain_len_is : (context : Context) (text rest : List ℕ) → list_all is_plain_byte text ≡ true → ends_with eqb text (58 ∷ []) ≡ false → ends_plain context false rest ≡ true
    → plain_len context (text ++ rest) ≡ length text
plain_len_is context text rest bytes closed ends =
    ap (λ n. trimmed_len (take n (text ++ rest))) (run context text rest bytes closed ends)
    ∙ ap trimmed_len (take-append_seam text rest)
    ∙ trimmed text bytes

-- a word without quotes, whose last character is no colon, is read as itself before what ends a plain scalar
pub plain_read : (context : Context) (c : ℕ) (cs rest : List ℕ) → is_word_start c ≡ true → list_all is_plain_byte (c ∷ cs) ≡ true → ends_with eqb (c ∷ cs) (codes ":") ≡ false → ends_plain context false rest ≡ true
    → plain_of context (c ∷ cs ++ rest) ≡ Some (c ∷ cs, length (c ∷ cs))
plain_read context c cs rest start bytes closed ends =
    let text : List ℕ = c ∷ cs in
    let n = plain_len_is context text rest bytes closed ends in
    let one : plain_of context (text ++ rest) ≡ Some (take (plain_len context (text ++ rest)) (text ++ rest), plain_len context (text ++ rest)) = rw (begins c (cs ++ rest) start) refl in
    let two : take (length text) (text ++ rest) ≡ text = take-append_seam text rest in
    one ∙ ap (λ k. Some (take k (text ++ rest), k)) n ∙ ap (λ t. Some (t, length text)) two
