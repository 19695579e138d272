-- What a scalar of a page spells where it stands before the end of its line, before the colon of a key, or before a mark of a flow collection.
use Rattle.std.proofs.Common.{◌≡◌, ◌∙◌, ℕ, ◌<◌, ◌||◌, not, Bool, true, false, cond, eqb, List, [], ◌∷◌, ◌++◌, Option, Some, codes, flat_map, length, refl, sym, ap, arith, true≢false}
use Rattle.std.proofs.lemmas.Bool.{and_parts, cond-false, not-false, not-true, or_parts}
use Rattle.std.proofs.lemmas.Bool.Decides.{nat_tests}
use Rattle.std.proofs.lemmas.Str.{encode_ascii}
use Rattle.std.specs.List.{ends_with, list_all}
use Rattle.std.specs.Str.{bytes_eq, encode_utf8_all}
use Rattle.project_print.specs.Laws.{is_null}
use Rattle.project_print.specs.Scalars.{escaped, in_quotes, is_plain, is_plain_byte, is_plain_start, scalar}
use Rattle.project_print.proofs.PlainWords.{are_bytes, is_begun, no_colon}
use Rattle.project_print.proofs.Quotes.{quotes_read}
use Rattle.project_print.proofs.ReadBack.{scalars}
use Rattle.yaml_lines.specs.declared.plain.Context.{Context}
use Rattle.yaml_lines.specs.Plain.{ends_plain, plain_of}
use Rattle.yaml_lines.specs.Quoted.{quoted_of}
use Rattle.yaml_nodes.specs.Scalars.{is_null_word}
use Rattle.laws_yaml.specs.Readable.{begins_word, is_unsigned_word}
use Rattle.laws_yaml.proofs.Firsts.{excluded, is_first}
use Rattle.laws_yaml.proofs.PlainRuns.{byte_below, is_word_start, plain_read, start_below}
use Rattle.laws_yaml.proofs.PlainWords.{or_false}

-- what is read where a scalar begins with a character: in double quotes, or plain
abbrev pub read_in : Context → ℕ → List ℕ → Option (List ℕ × ℕ)
read_in context c cs = cond (eqb c 34) (quoted_of (c ∷ cs)) (plain_of context (c ∷ cs))

-- a scalar of so many characters stands here: it spells a text, and is no word for null
pub record IsSpelled (context : Context) (cs text : List ℕ) (len : ℕ) : Type 0 where
  pub front : ℕ
  pub more : List ℕ
  pub is : cs ≡ front ∷ more
  pub first : is_first front ≡ true
  pub some : 0 < len
  pub read : read_in context front more ≡ Some (text, len)
  pub spells : eqb front 34 ≡ false → is_null_word (encode_utf8_all text) ≡ false

or_true : (b : Bool) → (b || true) ≡ true
or_true true = refl
or_true false = refl

-- a letter, a digit or a slash is no quote
no_quote : (c : ℕ) → is_word_start c ≡ true → eqb c 34 ≡ false
no_quote c start = excluded is_word_start (λ d. eqb d 34) refl c (start_below c start) start

pub first_of_word : (c : ℕ) → is_word_start c ≡ true → is_first c ≡ true
first_of_word c start = rw start (or_true (eqb c 34))

plain_below : (c : ℕ) → is_plain_start c ≡ true → c < 128
plain_below c start = grind (arith, nat_tests)

-- a letter or a slash begins a word
start_of_plain : (c : ℕ) → is_plain_start c ≡ true → is_word_start c ≡ true
start_of_plain c start = not-false (is_word_start c) (excluded is_plain_start (λ d. not (is_word_start d)) refl c (plain_below c start) start)

-- plain characters are their own UTF-8
pub encoded : (cs : List ℕ) → list_all is_plain_byte cs ≡ true → encode_utf8_all cs ≡ cs
encoded [] bytes = refl
encoded (c ∷ cs) bytes =
    let parts = and_parts (is_plain_byte c) (list_all is_plain_byte cs) bytes in
    rw (encode_ascii c (byte_below c parts.0)) (ap (λ l. c ∷ l) (encoded cs parts.1))

null_words : (a b c d : Bool) → (a || (b || (c || (d || false)))) ≡ (a || (b || (c || d)))
null_words a b c d = ap (λ x. a || (b || (c || x))) (or_false d)

-- no plain text is a word for null
no_null : (text : List ℕ) → is_plain text ≡ true → is_null_word text ≡ false
no_null text plain =
    let same : scalar text ≡ text = ap (λ b. cond b text (in_quotes text)) plain in
    let null : is_null text ≡ false = ap is_null (sym same) ∙ (scalars text [] refl).1 in
    sym (null_words (bytes_eq text (codes "null")) (bytes_eq text (codes "Null")) (bytes_eq text (codes "NULL")) (bytes_eq text (codes "~"))) ∙ null

starting_spelled : (context : Context) (c : ℕ) (cs rest : List ℕ) → is_word_start c ≡ true → list_all is_plain_byte (c ∷ cs) ≡ true → ends_with eqb (c ∷ cs) (codes ":") ≡ false → is_null_word (c ∷ cs) ≡ false
    → ends_plain context false rest ≡ true → IsSpelled context (c ∷ cs ++ rest) (c ∷ cs) (length (c ∷ cs))
starting_spelled context c cs rest start bytes closed spells ends =
    record {
      front = c;
      more = cs ++ rest;
      is = refl;
      first = first_of_word c start;
      some = omega arith;
      read = cond-false (eqb c 34) (quoted_of (c ∷ (cs ++ rest))) (plain_of context (c ∷ (cs ++ rest))) (no_quote c start) ∙ plain_read context c cs rest start bytes closed ends;
      spells = λ bare. ap is_null_word (encoded (c ∷ cs) bytes) ∙ spells;
    }

plain_spelled : (context : Context) (text rest : List ℕ) → is_plain text ≡ true → ends_plain context false rest ≡ true → IsSpelled context (text ++ rest) text (length text)
plain_spelled context [] rest plain ends = absurd (cc)
plain_spelled context (c ∷ cs) rest plain ends =
    starting_spelled context c cs rest (start_of_plain c (is_begun (c ∷ cs) plain)) (are_bytes (c ∷ cs) plain) (no_colon (c ∷ cs) plain) (no_null (c ∷ cs) plain) ends

-- a word without a minus spells itself
pub word_spelled : (context : Context) (text rest : List ℕ) → is_unsigned_word text ≡ true → ends_plain context false rest ≡ true → IsSpelled context (text ++ rest) text (length text)
word_spelled context [] rest reads ends = absurd (cc)
word_spelled context (c ∷ cs) rest reads ends =
    let parts = and_parts (begins_word (c ∷ cs)) _ reads in
    let more = and_parts (list_all is_plain_byte (c ∷ cs)) _ parts.1 in
    let none = or_parts (ends_with eqb (c ∷ cs) (codes ":")) (is_null_word (c ∷ cs)) (not-true _ more.1) in
    starting_spelled context c cs rest parts.0 more.0 none.0 none.1 ends

-- every text as a page has it, in quotes or not, spells the text
pub scalar_spelled : (context : Context) (text rest : List ℕ) → ends_plain context false rest ≡ true → IsSpelled context (scalar text ++ rest) text (length (scalar text))
scalar_spelled context text rest ends = by (is_plain text) refl
  where
    by : (b : Bool) → is_plain text ≡ b → IsSpelled context (cond b text (in_quotes text) ++ rest) text (length (cond b text (in_quotes text)))
    by true plain = plain_spelled context text rest plain ends
    by false quoted = record { front = 34; more = (flat_map escaped text ++ 34 ∷ []) ++ rest; is = refl; first = refl; some = omega arith; read = quotes_read text rest; spells = λ bare. absurd (true≢false bare) }
