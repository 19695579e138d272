-- Words of a page on bytes: what is made of a text's UTF-8 is the UTF-8 of what is made of the text.
use Rattle.std.proofs.Common.{◌≡◌, ◌∙◌, ℕ, ◌+◌, ◌/◌, ◌%◌, ◌<◌, ◌≤◌, ◌&&◌, Bool, true, false, cond, not, eqb, ltb, List, [], ◌∷◌, ◌++◌, flat_map, refl, sym, ap, inl, inr, ◌⊎◌, arith, true≢false}
use Rattle.std.proofs.lemmas.Bool.{agree_below_at, and_left, and_parts, and_right, cases_lt, cond-false, false_from_ne_true, le-leb, le-ltb, leb-true, ltb-true, ne_eqb}
use Rattle.std.proofs.lemmas.Grind.{flat_map-append}
use Rattle.std.proofs.lemmas.List.{append-nil}
use Rattle.std.proofs.lemmas.Str.{encode_ascii, encodes-append}
use Rattle.std.specs.List.{list_all}
use Rattle.std.specs.Prelude.{nat_le}
use Rattle.std.specs.Str.{encode_utf8_all}
use Rattle.project_print.specs.Scalars.{begins_plain, doubled, doubled_byte, escaped, in_quotes, is_plain, is_plain_byte, is_word, means_more, scalar}
use Rattle.laws_yaml.proofs.PlainRuns.{byte_below}
use Rattle.laws_yaml.proofs.Spelled.{encoded}
use lib.Utf8.{encode}

-- a number below 128
abbrev pub is_low : ℕ → Bool
is_low c = ltb c 128

-- a number that isn't
abbrev is_high : ℕ → Bool
is_high c = nat_le 128 c

-- numbers below 128 are their own UTF-8
pub low_same : (cs : List ℕ) → list_all is_low cs ≡ true → encode_utf8_all cs ≡ cs
low_same [] low = refl
low_same (c ∷ cs) low =
    let parts = and_parts (is_low c) (list_all is_low cs) low in
    rw (encode_ascii c (ltb-true c 128 parts.0)) (ap (λ l. c ∷ l) (low_same cs parts.1))

-- bytes of which none is below 128, one or more
record AreHigh (bytes : List ℕ) : Type 0 where
  front : ℕ
  more : List ℕ
  is : bytes ≡ front ∷ more
  high : is_high front ≡ true
  others : list_all is_high more ≡ true

high_is : (n k : ℕ) → 128 ≤ n → is_high (n + k) ≡ true
high_is n k high = le-leb 128 (n + k) (omega arith)

-- other numbers have such bytes
high_bytes : (c : ℕ) → 128 ≤ c → AreHigh (encode c)
unfolding encode
high_bytes c high = of (by (ltb c 2048) (ltb c 65536))
  where
    two : List ℕ
    two = (192 + c / 64) ∷ (128 + c % 64) ∷ []

    three : List ℕ
    three = (224 + c / 4096) ∷ (128 + (c / 64) % 64) ∷ (128 + c % 64) ∷ []

    four : List ℕ
    four = (240 + c / 262144) ∷ (128 + (c / 4096) % 64) ∷ (128 + (c / 64) % 64) ∷ (128 + c % 64) ∷ []

    last : list_all is_high ((128 + c % 64) ∷ []) ≡ true
    last = rw (high_is 128 (c % 64) (omega arith))

    last_two : list_all is_high ((128 + (c / 64) % 64) ∷ (128 + c % 64) ∷ []) ≡ true
    last_two = rw (high_is 128 ((c / 64) % 64) (omega arith)) last

    by : (x y : Bool) → AreHigh (cond x two (cond y three four))
    by true y = record { front = 192 + c / 64; more = (128 + c % 64) ∷ []; is = refl; high = high_is 192 (c / 64) (omega arith); others = last }
    by false true = record { front = 224 + c / 4096; more = (128 + (c / 64) % 64) ∷ (128 + c % 64) ∷ []; is = refl; high = high_is 224 (c / 4096) (omega arith); others = last_two }
    by false false = record {
      front = 240 + c / 262144;
      more = (128 + (c / 4096) % 64) ∷ (128 + (c / 64) % 64) ∷ (128 + c % 64) ∷ [];
      is = refl;
      high = high_is 240 (c / 262144) (omega arith);
      others = rw (high_is 128 ((c / 4096) % 64) (omega arith)) last_two;
    }

    of : AreHigh (cond (ltb c 2048) two (cond (ltb c 65536) three four)) → AreHigh (encode c)
    of h = record { front = h.front; more = h.more; is = cond-false (ltb c 128) (c ∷ []) (cond (ltb c 2048) two (cond (ltb c 65536) three four)) (le-ltb c 128 high) ∙ h.is; high = h.high; others = h.others }

-- a function of numbers that spells those below 128 with such, and leaves the others
module _ (spell : ℕ → List ℕ) (low : (c : ℕ) → c < 128 → list_all is_low (spell c) ≡ true) (same : (c : ℕ) → 128 ≤ c → spell c ≡ c ∷ []) where
  high_same : (bytes : List ℕ) → list_all is_high bytes ≡ true → flat_map spell bytes ≡ bytes
  high_same [] high = refl
  high_same (byte ∷ bytes) high =
      let parts = and_parts (is_high byte) (list_all is_high bytes) high in
      let here = same byte (leb-true 128 byte parts.0) in
      ap (λ l. l ++ flat_map spell bytes) here ∙ ap (λ l. byte ∷ l) (high_same bytes parts.1)

  one : (c : ℕ) → encode_utf8_all (spell c) ≡ flat_map spell (encode c)
  one c = elim (cases_lt c 128) [
    | inl small ↦ low_same (spell c) (low c small) ∙ sym (ap (flat_map spell) (encode_ascii c small) ∙ append-nil (spell c))
    | inr large ↦
        let bytes = high_bytes c large in
        let all : list_all is_high (bytes.front ∷ bytes.more) ≡ true = rw bytes.high bytes.others in
        ap encode_utf8_all (same c large) ∙ append-nil (encode c) ∙ bytes.is ∙ sym (high_same (bytes.front ∷ bytes.more) all) ∙ ap (flat_map spell) (sym bytes.is)
  ]

  -- it may spell characters or their bytes
  commutes : (text : List ℕ) → encode_utf8_all (flat_map spell text) ≡ flat_map spell (encode_utf8_all text)
  commutes [] = refl
  commutes (c ∷ cs) =
      encodes-append (spell c) (flat_map spell cs)
      ∙ (λ i. one c i ++ commutes cs i)
      ∙ sym (flat_map-append spell (encode c) (encode_utf8_all cs))

apart : (c k : ℕ) → 128 ≤ c → k < 128 → eqb c k ≡ false
apart c k high small = ne_eqb c k (λ same. absurd (omega arith))

doubled_low : (c : ℕ) → c < 128 → list_all is_low (doubled_byte c) ≡ true
doubled_low c small = agree_below_at (λ d. list_all is_low (doubled_byte d)) (λ d. true) 128 c refl small

doubled_high : (c : ℕ) → 128 ≤ c → doubled_byte c ≡ c ∷ []
doubled_high c high = rw (apart c 36 high (omega arith))

-- dollars are the same twice
pub doubled_bytes : (text : List ℕ) → encode_utf8_all (doubled text) ≡ doubled (encode_utf8_all text)
doubled_bytes text = commutes doubled_byte doubled_low doubled_high text

escaped_low : (c : ℕ) → c < 128 → list_all is_low (escaped c) ≡ true
escaped_low c small = agree_below_at (λ d. list_all is_low (escaped d)) (λ d. true) 128 c refl small

pub escaped_high : (c : ℕ) → 128 ≤ c → escaped c ≡ c ∷ []
escaped_high c high =
    rw (apart c 34 high (omega arith), apart c 92 high (omega arith), apart c 10 high (omega arith), apart c 13 high (omega arith), apart c 9 high (omega arith), le-ltb c 32 (omega arith), apart c 127 high (omega arith))

-- a text in double quotes
quotes_bytes : (text : List ℕ) → encode_utf8_all (in_quotes text) ≡ in_quotes (encode_utf8_all text)
quotes_bytes text =
    let quote : encode 34 ≡ 34 ∷ [] = encode_ascii 34 (omega arith) in
    ap (λ l. l ++ encode_utf8_all (flat_map escaped text ++ 34 ∷ [])) quote
    ∙ ap (λ l. 34 ∷ l) (encodes-append (flat_map escaped text) (34 ∷ []))
    ∙ (λ i. 34 ∷ (commutes escaped escaped_low escaped_high text i ++ (quote i ++ [])))

high_no_plain : (c : ℕ) → 128 ≤ c → is_plain_byte c ≡ false
high_no_plain c high = false_from_ne_true (is_plain_byte c) (λ yes. absurd (omega (arith, byte_below c yes)))

both_no : (x y z : Bool) → (x && y) ≡ false → (y ≡ false → z ≡ false) → (x && z) ≡ false
both_no true y z bare later = later bare
both_no false y z bare later = refl

first_no : (c : ℕ) (cs : List ℕ) → (c < 128) ⊎ (128 ≤ c) → list_all is_plain_byte (c ∷ cs) ≡ false → (list_all is_plain_byte cs ≡ false → list_all is_plain_byte (encode_utf8_all cs) ≡ false)
    → list_all is_plain_byte (encode_utf8_all (c ∷ cs)) ≡ false
first_no c cs (inl small) bare later =
    ap (λ l. list_all is_plain_byte (l ++ encode_utf8_all cs)) (encode_ascii c small)
    ∙ both_no (is_plain_byte c) (list_all is_plain_byte cs) (list_all is_plain_byte (encode_utf8_all cs)) bare later
first_no c cs (inr large) bare later =
    let bytes = high_bytes c large in
    ap (λ l. list_all is_plain_byte (l ++ encode_utf8_all cs)) bytes.is
    ∙ and_left (is_plain_byte bytes.front) (list_all is_plain_byte (bytes.more ++ encode_utf8_all cs)) (high_no_plain bytes.front (leb-true 128 bytes.front bytes.high))

-- what has another character than those of a plain text has another byte
no_plain : (cs : List ℕ) → list_all is_plain_byte cs ≡ false → list_all is_plain_byte (encode_utf8_all cs) ≡ false
no_plain [] bare = absurd (true≢false bare)
no_plain (c ∷ cs) bare = first_no c cs (cases_lt c 128) bare (λ later. no_plain cs later)

not_plain : (text : List ℕ) → list_all is_plain_byte text ≡ false → is_plain text ≡ false
not_plain text bare = and_left (is_word text) (not (means_more text)) (and_right (begins_plain text) (list_all is_plain_byte text) bare)

plain_bytes : (text : List ℕ) → is_plain (encode_utf8_all text) ≡ is_plain text
plain_bytes text = by (list_all is_plain_byte text) refl
  where
    by : (b : Bool) → list_all is_plain_byte text ≡ b → is_plain (encode_utf8_all text) ≡ is_plain text
    by true plain = ap is_plain (encoded text plain)
    by false bare = not_plain (encode_utf8_all text) (no_plain text bare) ∙ sym (not_plain text bare)

-- a text as a page has it
pub scalar_bytes : (text : List ℕ) → encode_utf8_all (scalar text) ≡ scalar (encode_utf8_all text)
scalar_bytes text = by (is_plain text) ∙ ap (λ b. cond b (encode_utf8_all text) (in_quotes (encode_utf8_all text))) (sym (plain_bytes text))
  where
    by : (b : Bool) → encode_utf8_all (cond b text (in_quotes text)) ≡ cond b (encode_utf8_all text) (in_quotes (encode_utf8_all text))
    by true = refl
    by false = quotes_bytes text
