-- What is shown of texts in UTF-8 is the UTF-8 of what is shown of the texts.
use Rattle.std.proofs.Common.{◌≡◌, ◌∙◌, ℕ, Bool, true, false, cond, codes, List, [], ◌∷◌, ◌++◌, flat_map, map, refl, sym, ap}
use Rattle.std.proofs.lemmas.List.{map-append}
use Rattle.std.proofs.lemmas.Str.{encodes-append}
use Rattle.std.specs.List.{list_all}
use Rattle.std.specs.Str.{encode_utf8_all}
use Rattle.project_print.specs.Pages.{Shown, block, deeper, entry, item, lines_of}
use Rattle.project_print.specs.Scalars.{scalar}
use Rattle.laws_yaml.proofs.Bytes.{is_low, low_same, scalar_bytes}

-- what is shown, in UTF-8
abbrev pub shown_bytes : Shown → Shown
shown_bytes shown = record { is_block = shown.is_block; first = encode_utf8_all shown.first; more = map encode_utf8_all shown.more }

pub low_before : (xs ys : List ℕ) → list_all is_low xs ≡ true → encode_utf8_all (xs ++ ys) ≡ xs ++ encode_utf8_all ys
low_before xs ys low = encodes-append xs ys ∙ ap (λ l. l ++ encode_utf8_all ys) (low_same xs low)

deeper_bytes : (lines : List (List ℕ)) → map encode_utf8_all (map deeper lines) ≡ map deeper (map encode_utf8_all lines)
deeper_bytes [] = refl
deeper_bytes (line ∷ lines) = λ i. low_before (32 ∷ 32 ∷ []) line refl i ∷ deeper_bytes lines i

pub key_bytes : (key mark rest : List ℕ) → list_all is_low mark ≡ true → encode_utf8_all (scalar key ++ (mark ++ rest)) ≡ scalar (encode_utf8_all key) ++ (mark ++ encode_utf8_all rest)
key_bytes key mark rest low = encodes-append (scalar key) (mark ++ rest) ∙ (λ i. scalar_bytes key i ++ low_before mark rest low i)

-- an entry
pub entry_bytes : (key : List ℕ) (value : Shown) → entry (encode_utf8_all key, shown_bytes value) ≡ shown_bytes (entry (key, value))
entry_bytes key value = by value.is_block
  where
    above : List ℕ → Shown → Shown
    above key value = record { is_block = true; first = scalar key ++ codes ":"; more = map deeper (lines_of value) }

    before : List ℕ → Shown → Shown
    before key value = record { is_block = true; first = scalar key ++ (codes ": " ++ value.first); more = map deeper value.more }

    by : (b : Bool) → cond b (above (encode_utf8_all key) (shown_bytes value)) (before (encode_utf8_all key) (shown_bytes value)) ≡ shown_bytes (cond b (above key value) (before key value))
    by true = λ i. record { is_block = true; first = sym (key_bytes key (58 ∷ []) [] refl) i; more = sym (deeper_bytes (lines_of value)) i }
    by false = λ i. record { is_block = true; first = sym (key_bytes key (58 ∷ 32 ∷ []) value.first refl) i; more = sym (deeper_bytes value.more) i }

-- an item
pub item_bytes : (value : Shown) → item (shown_bytes value) ≡ shown_bytes (item value)
item_bytes value = λ i. record { is_block = true; first = sym (low_before (45 ∷ 32 ∷ []) value.first refl) i; more = sym (deeper_bytes value.more) i }

parts_bytes : (parts : List Shown) → flat_map lines_of (map shown_bytes parts) ≡ map encode_utf8_all (flat_map lines_of parts)
parts_bytes [] = refl
parts_bytes (part ∷ parts) =
    ap (λ l. lines_of (shown_bytes part) ++ l) (parts_bytes parts)
    ∙ sym (map-append encode_utf8_all (lines_of part) (flat_map lines_of parts))

-- parts below one another
pub block_bytes : (empty : List ℕ) (parts : List Shown) → block (encode_utf8_all empty) (map shown_bytes parts) ≡ shown_bytes (block empty parts)
block_bytes empty [] = refl
block_bytes empty (part ∷ parts) =
    let more = ap (λ l. map encode_utf8_all part.more ++ l) (parts_bytes parts) ∙ sym (map-append encode_utf8_all part.more (flat_map lines_of parts)) in
    λ i. record { is_block = true; first = encode_utf8_all part.first; more = more i }
