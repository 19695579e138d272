-- How a page and its JSON grow at the end of a text.
use Rattle.std.specs.Prelude.{ℕ, zero, suc, ◌/◌, ◌%◌, List, [], ◌∷◌, ◌++◌, Bool, not, ◌==◌, ◌&&◌, ◌||◌, codes, flat_map, map, nat_le, if◌then◌else◌}
use Rattle.std.specs.Char.{digit_char}
use Rattle.json.specs.Print.{escape}
use Rattle.project_print.specs.declared.compact_json.Dollars.{Dollars}
use Rattle.project_print.specs.declared.compact_json.Dollars.TheVariants.{Once, Twice}
use Rattle.project_print.specs.Pages.{Shown, deeper, ended, entry, item}
use Rattle.project_print.specs.Json.{member, spelled}
use Rattle.project_print.specs.Scalars.{scalar}

-- the spaces before a line of a depth
abbrev pub indent : ℕ → List ℕ
indent zero = []
indent (suc depth) = deeper (indent depth)

-- a line of a depth, with its end
abbrev pub indented : ℕ → List ℕ → List ℕ
indented depth line = indent depth ++ ended line

-- lines of which the first goes on where the text ends
abbrev pub hanging : ℕ → Shown → List ℕ
hanging depth shown = ended shown.first ++ flat_map (indented depth) shown.more

-- what stands before a part: nothing before the first
abbrev pub gap : ℕ → ℕ → List ℕ
gap depth zero = []
gap depth (suc at) = indent depth

-- parts below one another, from a place on
abbrev pub parts_text : ℕ → ℕ → List Shown → List ℕ
parts_text depth at [] = []
parts_text depth at (part ∷ parts) = gap depth at ++ (hanging depth part ++ parts_text depth (suc at) parts)

-- the entries of a mapping below one another
abbrev pub entries_text : ℕ → List (List ℕ × Shown) → List ℕ
entries_text depth entries = parts_text depth 0 (map entry entries)

-- the items of a sequence below one another
abbrev pub items_text : ℕ → List Shown → List ℕ
items_text depth items = parts_text depth 0 (map item items)

-- a key and what stands before its value, whose lines are at a depth
abbrev pub key_text : ℕ → List ℕ → Bool → List ℕ
key_text depth key is_block = scalar key ++ (if is_block then codes ":\n" ++ indent depth else codes ": ")

-- what stands before a part of an object or an array: nothing before the first
abbrev pub comma : ℕ → List ℕ
comma zero = []
comma (suc at) = codes ","

-- parts with a comma before each but the first, from a place on
abbrev pub listed_from : ℕ → List (List ℕ) → List ℕ
listed_from at [] = []
listed_from at (part ∷ parts) = comma at ++ (part ++ listed_from (suc at) parts)

-- the members of an object, with commas between them
abbrev pub members_text : List (List ℕ × List ℕ) → List ℕ
members_text entries = listed_from 0 (map member entries)

-- what stands between the quotes of a text's string
abbrev pub content : Dollars → List ℕ → List ℕ
content dollars text = escape (spelled dollars text)

-- a byte that stands in a string without an escape: no control character, no quote and no backslash
abbrev pub is_string_byte : ℕ → Bool
is_string_byte byte = nat_le 32 byte && (not (byte == 34) && not (byte == 92))

-- a byte that stands in a string as it is, where dollars may have to stand twice
abbrev pub stands : Dollars → ℕ → Bool
stands Twice byte = is_string_byte byte && not (byte == 36)
stands Once byte = is_string_byte byte

-- what stands in a string for a byte that doesn't stand as it is: the escapes of RFC 8259, chapter 7, by a letter where there is one, and a dollar twice
abbrev pub escape_of : ℕ → List ℕ
escape_of byte =
    if byte == 36 then codes "$$"
    else (if (byte == 34) || (byte == 92) then 92 ∷ byte ∷ []
    else (if byte == 8 then codes "\\b"
    else (if byte == 12 then codes "\\f"
    else (if byte == 10 then codes "\\n"
    else (if byte == 13 then codes "\\r"
    else (if byte == 9 then codes "\\t"
    else 92 ∷ 117 ∷ 48 ∷ 48 ∷ digit_char (byte / 16) ∷ digit_char (byte % 16) ∷ []))))))
