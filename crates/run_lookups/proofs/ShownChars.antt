-- Characters that are printed one after another.
use Rattle.std.proofs.Common.{◌≡◌, ◌∙◌, ◌<◌, ◌/◌, ◌%◌, ℕ, Bool, true, false, List, [], ◌∷◌, ◌++◌, IsUtf8, chars, flat_map, length, encode_utf8, encode_utf8_all, refl, sym, ap, inl, inr, append_assoc, append-nil, arith, tests, lit<}
use lib.Utf8.{low_scalar, scalar}
use Rattle.std.specs.Prelude.{if◌then◌else◌, ◌||◌, ◌&&◌}
use Rattle.std.specs.Char.{digit_char}
use Rattle.std.specs.List.{list_any}
use Rattle.std.specs.Str.{all_scalars}
use Rattle.std.proofs.lemmas.Bool.{and_from, and_parts, cases_lt, or_from, or_parts}
use Rattle.std.proofs.lemmas.Bool.Decides.{nat_tests}
use Rattle.std.proofs.lemmas.List.Folds.{list_any-append}
use Rattle.std.proofs.lemmas.Str.{chars-encodes, chars-nil, encode_ascii, encodes-append, encodes-chars, scalars-chars}
use Rattle.run_model.specs.Shown.{escaped_control, is_control, shown, shown_char}

-- a character that is no control character stands as it is
pub stays : (c : ℕ) → is_control c ≡ false → shown_char c ≡ encode_utf8 c
stays c p = rw p refl

-- what was printed, with one character more, and what is left
pub one_more : (c : ℕ) (out new left later : List ℕ) → left ≡ c ∷ later → new ≡ out ++ shown_char c → new ++ flat_map shown_char later ≡ out ++ flat_map shown_char left
one_more c out new left later e made =
    ap (λ t. t ++ flat_map shown_char later) made
    ∙ append_assoc out (shown_char c) (flat_map shown_char later)
    ∙ ap (λ cs. out ++ flat_map shown_char cs) (sym e)

-- what was printed, where nothing is left
pub all_printed : (out left whole : List ℕ) → length left ≡ 0 → out ++ flat_map shown_char (chars left) ≡ whole → out ≡ whole
all_printed out [] whole none e =
    sym (append-nil out) ∙ ap (λ cs. out ++ flat_map shown_char cs) (sym chars-nil) ∙ e
all_printed out (b ∷ left) whole none e = absurd (omega arith)

-- the characters that are printed for one
abbrev printed : ℕ → List ℕ
printed c = if is_control c then escaped_control c else c ∷ []

-- a hexadecimal digit
record IsDigit (d : ℕ) : Type 0 where
  low : digit_char d < 128
  plain : is_control (digit_char d) ≡ false

digit : (d : ℕ) → d < 16 → IsDigit d
digit d h =
    elim (cases_lt d 10) [
      | inl few ↦ record { low = grind arith; plain = grind arith }
      | inr more ↦ record { low = grind arith; plain = grind arith }
    ]

control_low : (c : ℕ) → is_control c ≡ true → c < 160
control_low c h = grind (arith, nat_tests, tests)

first : (c : ℕ) → is_control c ≡ true → IsDigit (c / 16)
first c h = let low = control_low c h in digit (c / 16) (omega arith)

second : (c : ℕ) → IsDigit (c % 16)
second c = digit (c % 16) (omega arith)

-- a character's bytes are those of what is printed for it
bytes_one : (c : ℕ) → shown_char c ≡ encode_utf8_all (printed c)
bytes_one c = by (is_control c) refl
  where
    by : (b : Bool) → is_control c ≡ b → shown_char c ≡ encode_utf8_all (printed c)
    by true p =
        let d = digit_char (c / 16) in
        let e = digit_char (c % 16) in
        rw p (sym (λ i. encode_ascii 92 (lit< tt) i ++ (encode_ascii 117 (lit< tt) i ++ (encode_ascii 48 (lit< tt) i ++ (encode_ascii 48 (lit< tt) i
        ++ (encode_ascii d (first c p).low i ++ (encode_ascii e (second c).low i ++ [])))))))
    by false p = rw p (sym (append-nil (encode_utf8 c)))

bytes_all : (cs : List ℕ) → flat_map shown_char cs ≡ encode_utf8_all (flat_map printed cs)
bytes_all [] = refl
bytes_all (c ∷ cs) = (λ i. bytes_one c i ++ bytes_all cs i) ∙ sym (encodes-append (printed c) (flat_map printed cs))

-- it is made of characters
scalars_append : (xs ys : List ℕ) → all_scalars xs ≡ true → all_scalars ys ≡ true → all_scalars (xs ++ ys) ≡ true
scalars_append [] ys p q = q
scalars_append (x ∷ xs) ys p q =
    let parts = and_parts (scalar x) (all_scalars xs) p in
    and_from (scalar x) (all_scalars (xs ++ ys)) parts.0 (scalars_append xs ys parts.1 q)

scalars_one : (c : ℕ) → scalar c ≡ true → all_scalars (printed c) ≡ true
scalars_one c is = by (is_control c) refl
  where
    by : (b : Bool) → is_control c ≡ b → all_scalars (printed c) ≡ true
    by true p =
        let one : digit_char (c / 16) < 55296 = let low = (first c p).low in omega arith in
        let two : digit_char (c % 16) < 55296 = let low = (second c).low in omega arith in
        rw p (and_from (scalar (digit_char (c / 16))) (scalar (digit_char (c % 16)) && true) (low_scalar (digit_char (c / 16)) one) (and_from (scalar (digit_char (c % 16))) true (low_scalar (digit_char (c % 16)) two) refl))
    by false p = rw p (and_from (scalar c) true is refl)

scalars_all : (cs : List ℕ) → all_scalars cs ≡ true → all_scalars (flat_map printed cs) ≡ true
scalars_all [] h = refl
scalars_all (c ∷ cs) h =
    let parts = and_parts (scalar c) (all_scalars cs) h in
    scalars_append (printed c) (flat_map printed cs) (scalars_one c parts.0) (scalars_all cs parts.1)

-- none of which is a control character
plain_one : (c : ℕ) → list_any is_control (printed c) ≡ false
plain_one c = by (is_control c) refl
  where
    by : (b : Bool) → is_control c ≡ b → list_any is_control (printed c) ≡ false
    by true p =
        rw p (or_from (is_control (digit_char (c / 16))) (is_control (digit_char (c % 16)) || false) (first c p).plain (or_from (is_control (digit_char (c % 16))) false (second c).plain refl))
    by false p = rw p (or_from (is_control c) false p refl)

plain_all : (cs : List ℕ) → list_any is_control (flat_map printed cs) ≡ false
plain_all [] = refl
plain_all (c ∷ cs) =
    list_any-append is_control (printed c) (flat_map printed cs)
    ∙ or_from (list_any is_control (printed c)) (list_any is_control (flat_map printed cs)) (plain_one c) (plain_all cs)

-- what is printed has no control character
pub harmless : (text : List ℕ) → IsUtf8 text → list_any is_control (chars (shown text)) ≡ false
harmless text u =
    ap (λ t. list_any is_control (chars t)) (bytes_all (chars text))
    ∙ ap (list_any is_control) (chars-encodes (flat_map printed (chars text)) (scalars_all (chars text) (scalars-chars text u)))
    ∙ plain_all (chars text)

kept : (cs : List ℕ) → list_any is_control cs ≡ false → flat_map shown_char cs ≡ encode_utf8_all cs
kept [] none = refl
kept (c ∷ cs) none =
    let parts = or_parts (is_control c) (list_any is_control cs) none in
    λ i. stays c parts.0 i ++ kept cs parts.1 i

-- and a text that has none stands as it is
pub same : (text : List ℕ) → IsUtf8 text → list_any is_control (chars text) ≡ false → shown text ≡ text
same text u none = kept (chars text) none ∙ encodes-chars text u
