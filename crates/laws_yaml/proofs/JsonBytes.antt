-- Strings of JSON on bytes: that of a text's UTF-8 is the UTF-8 of that of the text, and a clean line.
use Rattle.std.proofs.Common.{◌≡◌, ◌∙◌, ℕ, ◌<◌, ◌≤◌, true, false, eqb, List, [], ◌∷◌, ◌++◌, flat_map, refl, sym, ap, inl, inr, arith}
use Rattle.std.proofs.lemmas.Bool.{agree_below_at, and_from, and_parts, cases_lt, le-leb, le-ltb, ne_eqb}
use Rattle.std.proofs.lemmas.Grind.{flat_map-append}
use Rattle.std.proofs.lemmas.List.{append-nil}
use Rattle.std.proofs.lemmas.Str.{encodes-append}
use Rattle.std.specs.List.{list_all}
use Rattle.std.specs.Str.{IsUtf8, encode_utf8_all}
use Rattle.json.specs.Print.{escape_byte, quoted}
use Rattle.project_print.proofs.Letters.{high_kept, low_mapped}
use Rattle.laws_yaml.proofs.Bytes.{is_low, low_same}
use Rattle.laws_yaml.proofs.Scanned.{IsCleanLine, is_clean}
use Rattle.laws_yaml.proofs.ShownBytes.{low_before}
use lib.Utf8.{encode, scalar as is_scalar, scalars}

apart : (c k : ℕ) → 128 ≤ c → k < 128 → eqb c k ≡ false
apart c k high small = ne_eqb c k (λ same. absurd (omega arith))

-- a number that isn't below 128 stands as it is
escaped_high : (c : ℕ) → 128 ≤ c → escape_byte c ≡ c ∷ []
unfolding escape_byte
escaped_high c high =
    rw (apart c 34 high (omega arith), apart c 92 high (omega arith), apart c 8 high (omega arith), apart c 12 high (omega arith), apart c 10 high (omega arith), apart c 13 high (omega arith), apart c 9 high (omega arith), le-ltb c 32 (omega arith))

-- what stands for the others is below 128 too, and no control character
escaped_low : (c : ℕ) → c < 128 → list_all is_low (escape_byte c) ≡ true
unfolding escape_byte
escaped_low c small = agree_below_at (λ d. list_all is_low (escape_byte d)) (λ d. true) 128 c refl small

low_clean : (c : ℕ) → c < 128 → list_all is_clean (escape_byte c) ≡ true
unfolding escape_byte
low_clean c small = agree_below_at (λ d. list_all is_clean (escape_byte d)) (λ d. true) 128 c refl small

low_scalars : (c : ℕ) → c < 128 → scalars (escape_byte c) ≡ true
unfolding escape_byte
low_scalars c small = agree_below_at (λ d. scalars (escape_byte d)) (λ d. true) 128 c refl small

one : (c : ℕ) → encode_utf8_all (escape_byte c) ≡ flat_map escape_byte (encode c)
one c =
    elim (cases_lt c 128) [
      | inl small ↦ low_same (escape_byte c) (escaped_low c small) ∙ sym (low_mapped escape_byte c small)
      | inr large ↦ ap encode_utf8_all (escaped_high c large) ∙ append-nil (encode c) ∙ sym (high_kept escape_byte escaped_high c large)
    ]

escaped_bytes : (text : List ℕ)
    → encode_utf8_all (flat_map escape_byte text) ≡ flat_map escape_byte (encode_utf8_all text)
escaped_bytes [] = refl
escaped_bytes (c ∷ cs) =
    encodes-append (escape_byte c) (flat_map escape_byte cs)
    ∙ (λ i. one c i ++ escaped_bytes cs i)
    ∙ sym (flat_map-append escape_byte (encode c) (encode_utf8_all cs))

-- a string
pub string_bytes : (text : List ℕ) → encode_utf8_all (quoted text) ≡ quoted (encode_utf8_all text)
string_bytes text =
    low_before (34 ∷ []) (flat_map escape_byte text ++ 34 ∷ []) refl
    ∙ ap (λ l. 34 ∷ l) (encodes-append (flat_map escape_byte text) (34 ∷ []))
    ∙ (λ i. 34 ∷ (escaped_bytes text i ++ low_same (34 ∷ []) refl i))

clean_one : (c : ℕ) → list_all is_clean (escape_byte c) ≡ true
clean_one c =
    elim (cases_lt c 128) [
      | inl small ↦ low_clean c small
      | inr large ↦ ap (list_all is_clean) (escaped_high c large) ∙ and_from (is_clean c) true (le-leb 32 c (omega arith)) refl
    ]

scalars_one : (c : ℕ) → is_scalar c ≡ true → scalars (escape_byte c) ≡ true
scalars_one c is =
    elim (cases_lt c 128) [
      | inl small ↦ low_scalars c small
      | inr large ↦ ap scalars (escaped_high c large) ∙ and_from (is_scalar c) true is refl
    ]

clean_append : (xs ys : List ℕ) → list_all is_clean xs ≡ true → list_all is_clean ys ≡ true
    → list_all is_clean (xs ++ ys) ≡ true
clean_append [] ys first second = second
clean_append (x ∷ xs) ys first second =
    let parts = and_parts (is_clean x) (list_all is_clean xs) first in
    and_from (is_clean x) (list_all is_clean (xs ++ ys)) parts.0 (clean_append xs ys parts.1 second)

scalars_append : (xs ys : List ℕ) → scalars xs ≡ true → scalars ys ≡ true → scalars (xs ++ ys) ≡ true
scalars_append [] ys first second = second
scalars_append (x ∷ xs) ys first second =
    let parts = and_parts (is_scalar x) (scalars xs) first in
    and_from (is_scalar x) (scalars (xs ++ ys)) parts.0 (scalars_append xs ys parts.1 second)

string_clean : (text : List ℕ) → list_all is_clean (flat_map escape_byte text ++ 34 ∷ []) ≡ true
string_clean text = clean_append (flat_map escape_byte text) (34 ∷ []) (all_clean text) refl
  where
    all_clean : (text : List ℕ) → list_all is_clean (flat_map escape_byte text) ≡ true
    all_clean [] = refl
    all_clean (c ∷ cs) = clean_append (escape_byte c) (flat_map escape_byte cs) (clean_one c) (all_clean cs)

escapes_scalars : (text : List ℕ) → scalars text ≡ true → scalars (flat_map escape_byte text) ≡ true
escapes_scalars [] are = refl
escapes_scalars (c ∷ cs) are =
    let parts = and_parts (is_scalar c) (scalars cs) are in
    scalars_append (escape_byte c) (flat_map escape_byte cs) (scalars_one c parts.0) (escapes_scalars cs parts.1)

-- a string of UTF-8 is a line of UTF-8 without control characters
pub string_line : (text : List ℕ) → IsUtf8 text → IsCleanLine (quoted text)
string_line text is = record {
  clean = string_clean text;
  utf8 = (quoted is.0, (scalars_append (flat_map escape_byte is.0) (34 ∷ []) (escapes_scalars is.0 is.1.0) refl, string_bytes is.0 ∙ ap quoted is.1.1));
}
