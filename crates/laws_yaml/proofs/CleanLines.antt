-- The lines of a page have no control characters, and are UTF-8 where its texts are.
use Rattle.std.proofs.Common.{◌≡◌, ◌∙◌, ℕ, ◌<◌, ◌≤◌, ◌⊎◌, Bool, true, false, cond, eqb, All, List, [], ◌∷◌, ◌++◌, codes, flat_map, map, refl, ap, inl, inr, arith}
use Rattle.std.proofs.lemmas.Bool.{agree_below_at, and_from, and_parts, cases_lt, le-leb}
use Rattle.std.proofs.lemmas.Bool.Decides.{nat_tests}
use Rattle.std.proofs.lemmas.List.Elements.{All-append, All-cons, All-head, All-map, All-nil, All-tail, All-weaker}
use Rattle.std.proofs.lemmas.Str.{IsUtf8-append}
use Rattle.std.specs.List.{list_all}
use Rattle.std.specs.Str.{IsUtf8}
use Rattle.project_print.specs.Pages.{Shown, block, deeper, entry, item, lines_of, word}
use Rattle.project_print.specs.Scalars.{doubled, doubled_byte, escaped, in_quotes, is_plain, is_plain_byte, scalar}
use Rattle.project_print.proofs.PlainWords.{are_bytes}
use Rattle.laws_yaml.proofs.PlainRuns.{byte_below}
use Rattle.laws_yaml.proofs.Spelled.{encoded}
use Rattle.laws_yaml.proofs.Bytes.{doubled_bytes, escaped_high, is_low, low_same, scalar_bytes}
use Rattle.laws_yaml.proofs.Scanned.{IsCleanLine, is_clean}
use lib.Utf8.{low_scalar, scalar as is_scalar, scalars}

all_append : (test : ℕ → Bool) (xs ys : List ℕ) → list_all test xs ≡ true → list_all test ys ≡ true → list_all test (xs ++ ys) ≡ true
all_append test [] ys first second = second
all_append test (x ∷ xs) ys first second =
    let parts = and_parts (test x) (list_all test xs) first in
    and_from (test x) (list_all test (xs ++ ys)) parts.0 (all_append test xs ys parts.1 second)

scalars_append : (xs ys : List ℕ) → scalars xs ≡ true → scalars ys ≡ true → scalars (xs ++ ys) ≡ true
scalars_append [] ys first second = second
scalars_append (x ∷ xs) ys first second =
    let parts = and_parts (is_scalar x) (scalars xs) first in
    and_from (is_scalar x) (scalars (xs ++ ys)) parts.0 (scalars_append xs ys parts.1 second)

byte_clean : (c : ℕ) → is_plain_byte c ≡ true → 32 ≤ c
byte_clean c byte = grind (arith, nat_tests)

plain_clean : (cs : List ℕ) → list_all is_plain_byte cs ≡ true → list_all is_clean cs ≡ true
plain_clean [] plain = refl
plain_clean (c ∷ cs) plain =
    let parts = and_parts (is_plain_byte c) (list_all is_plain_byte cs) plain in
    and_from (is_clean c) (list_all is_clean cs) (le-leb 32 c (byte_clean c parts.0)) (plain_clean cs parts.1)

escaped_clean : (c : ℕ) → (c < 128) ⊎ (128 ≤ c) → list_all is_clean (escaped c) ≡ true
escaped_clean c (inl small) = agree_below_at (λ d. list_all is_clean (escaped d)) (λ d. true) 128 c refl small
escaped_clean c (inr large) = ap (list_all is_clean) (escaped_high c large) ∙ and_from (is_clean c) true (le-leb 32 c (omega arith)) refl

escapes_clean : (text : List ℕ) → list_all is_clean (flat_map escaped text) ≡ true
escapes_clean [] = refl
escapes_clean (c ∷ cs) = all_append is_clean (escaped c) (flat_map escaped cs) (escaped_clean c (cases_lt c 128)) (escapes_clean cs)

scalar_clean : (text : List ℕ) → list_all is_clean (scalar text) ≡ true
scalar_clean text = by (is_plain text) refl
  where
    by : (b : Bool) → is_plain text ≡ b → list_all is_clean (cond b text (in_quotes text)) ≡ true
    by true plain = plain_clean text (are_bytes text plain)
    by false quoted = all_append is_clean (flat_map escaped text) (34 ∷ []) (escapes_clean text) refl

escaped_scalars : (c : ℕ) → is_scalar c ≡ true → (c < 128) ⊎ (128 ≤ c) → scalars (escaped c) ≡ true
escaped_scalars c is (inl small) = agree_below_at (λ d. scalars (escaped d)) (λ d. true) 128 c refl small
escaped_scalars c is (inr large) = ap scalars (escaped_high c large) ∙ and_from (is_scalar c) true is refl

escapes_scalars : (text : List ℕ) → scalars text ≡ true → scalars (flat_map escaped text) ≡ true
escapes_scalars [] are = refl
escapes_scalars (c ∷ cs) are =
    let parts = and_parts (is_scalar c) (scalars cs) are in
    scalars_append (escaped c) (flat_map escaped cs) (escaped_scalars c parts.0 (cases_lt c 128)) (escapes_scalars cs parts.1)

scalar_scalars : (text : List ℕ) → scalars text ≡ true → scalars (scalar text) ≡ true
scalar_scalars text are = by (is_plain text)
  where
    by : (b : Bool) → scalars (cond b text (in_quotes text)) ≡ true
    by true = are
    by false = scalars_append (flat_map escaped text) (34 ∷ []) (escapes_scalars text are) refl

-- a text as a page has it
pub scalar_line : (text : List ℕ) → IsUtf8 text → IsCleanLine (scalar text)
scalar_line text is = record {
  clean = scalar_clean text;
  utf8 = (scalar is.0, (scalar_scalars is.0 is.1.0, scalar_bytes is.0 ∙ ap scalar is.1.1));
}

plain_scalars : (cs : List ℕ) → list_all is_plain_byte cs ≡ true → scalars cs ≡ true
plain_scalars [] plain = refl
plain_scalars (c ∷ cs) plain =
    let parts = and_parts (is_plain_byte c) (list_all is_plain_byte cs) plain in
    let low = byte_below c parts.0 in
    and_from (is_scalar c) (scalars cs) (low_scalar c (omega arith)) (plain_scalars cs parts.1)

-- a word of the characters of plain ones
pub plain_line : (text : List ℕ) → list_all is_plain_byte text ≡ true → IsCleanLine text
plain_line text plain = record { clean = plain_clean text plain; utf8 = (text, (plain_scalars text plain, encoded text plain)) }

dollar_scalars : (c : ℕ) (b : Bool) → is_scalar c ≡ true → scalars (cond b (36 ∷ 36 ∷ []) (c ∷ [])) ≡ true
dollar_scalars c true is = refl
dollar_scalars c false is = and_from (is_scalar c) true is refl

doubled_scalars : (text : List ℕ) → scalars text ≡ true → scalars (doubled text) ≡ true
doubled_scalars [] are = refl
doubled_scalars (c ∷ cs) are =
    let parts = and_parts (is_scalar c) (scalars cs) are in
    scalars_append (doubled_byte c) (doubled cs) (dollar_scalars c (eqb c 36) parts.0) (doubled_scalars cs parts.1)

-- a text with its dollars twice
pub doubled_utf8 : (text : List ℕ) → IsUtf8 text → IsUtf8 (doubled text)
doubled_utf8 text is = (doubled is.0, (doubled_scalars is.0 is.1.0, doubled_bytes is.0 ∙ ap doubled is.1.1))

-- characters below 128 that are no control characters
pub low_line : (line : List ℕ) → list_all is_clean line ≡ true → scalars line ≡ true → list_all is_low line ≡ true → IsCleanLine line
low_line line clean are low = record { clean = clean; utf8 = (line, (are, low_same line low)) }

pub joined_line : (a b : List ℕ) → IsCleanLine a → IsCleanLine b → IsCleanLine (a ++ b)
joined_line a b first second = record { clean = all_append is_clean a b first.clean second.clean; utf8 = IsUtf8-append a b first.utf8 second.utf8 }

-- no line of what is shown has control characters
abbrev pub AreCleanLines : Shown → Type 0
AreCleanLines shown = All IsCleanLine (lines_of shown)

deeper_clean : (lines : List (List ℕ)) → All IsCleanLine lines → All IsCleanLine (map deeper lines)
deeper_clean lines all = All-map IsCleanLine deeper lines (All-weaker IsCleanLine (λ cs. IsCleanLine (deeper cs)) (λ cs is. joined_line (32 ∷ 32 ∷ []) cs (low_line (32 ∷ 32 ∷ []) refl refl refl) is) lines all)

-- the line of a word
pub word_clean : (text : List ℕ) → IsCleanLine text → AreCleanLines (word text)
word_clean text is = All-cons IsCleanLine text [] is (All-nil IsCleanLine)

-- the lines of an item
pub item_clean : (value : Shown) → AreCleanLines value → AreCleanLines (item value)
item_clean value all =
    All-cons IsCleanLine (45 ∷ 32 ∷ value.first) (map deeper value.more)
    (joined_line (45 ∷ 32 ∷ []) value.first (low_line (45 ∷ 32 ∷ []) refl refl refl) (All-head IsCleanLine value.first value.more all))
    (deeper_clean value.more (All-tail IsCleanLine value.first value.more all))

-- the lines of an entry
pub entry_clean : (key : List ℕ) (value : Shown) → IsUtf8 key → AreCleanLines value → AreCleanLines (entry (key, value))
entry_clean key value is all = by value.is_block
  where
    above : Shown
    above = record { is_block = true; first = scalar key ++ codes ":"; more = map deeper (lines_of value) }

    before : Shown
    before = record { is_block = true; first = scalar key ++ (codes ": " ++ value.first); more = map deeper value.more }

    by : (b : Bool) → AreCleanLines (cond b above before)
    by true =
        All-cons IsCleanLine (scalar key ++ 58 ∷ []) (map deeper (lines_of value))
        (joined_line (scalar key) (58 ∷ []) (scalar_line key is) (low_line (58 ∷ []) refl refl refl)) (deeper_clean (lines_of value) all)
    by false =
        All-cons IsCleanLine (scalar key ++ 58 ∷ 32 ∷ value.first) (map deeper value.more)
        (joined_line (scalar key) (58 ∷ 32 ∷ value.first) (scalar_line key is)
        (joined_line (58 ∷ 32 ∷ []) value.first (low_line (58 ∷ 32 ∷ []) refl refl refl) (All-head IsCleanLine value.first value.more all)))
        (deeper_clean value.more (All-tail IsCleanLine value.first value.more all))

all_clean : (parts : List Shown) → All AreCleanLines parts → All IsCleanLine (flat_map lines_of parts)
all_clean [] all = All-nil IsCleanLine
all_clean (part ∷ parts) all = All-append IsCleanLine (lines_of part) (flat_map lines_of parts) (All-head AreCleanLines part parts all) (all_clean parts (All-tail AreCleanLines part parts all))

-- the lines of parts below one another
pub block_clean : (empty : List ℕ) (parts : List Shown) → IsCleanLine empty → All AreCleanLines parts → AreCleanLines (block empty parts)
block_clean empty [] is all = word_clean empty is
block_clean empty (part ∷ parts) is all = all_clean (part ∷ parts) all
