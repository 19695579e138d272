-- Scalars in quotes on one line, as lists of characters (YAML 1.2, chapters 5.7, 7.3.1 and 7.3.2).
use Rattle.std.specs.Prelude.{ℕ, zero, suc, ◌+◌, ◌*◌, List, [], ◌∷◌, Option, Some, None, Result, Ok, Err, nat_lt, ◌==◌, ◌&&◌, ◌||◌, if◌then◌else◌}
use Rattle.std.specs.Char.{digit_value}
use Rattle.std.specs.Map.{lookup}
use Rattle.std.specs.Option.{option_map, option_and_then}
use Rattle.yaml_lines.specs.declared.refusal.YamlFault.TheVariants.{BadScalar}
use Rattle.yaml_lines.specs.declared.refusal.YamlRefusal.{YamlRefusal}
use Rattle.yaml_lines.specs.declared.refusal.YamlRefusal.TheVariants.{Bad}
use Rattle.yaml_lines.specs.declared.row.Row.{Row}
use Rattle.yaml_lines.specs.Rows.{place_in, text_at}
use Rattle.yaml_lines.specs.Spelling.{after, spelled}

-- in single quotes, from behind the opening one: two quotes are one quote, and the text has to close on its line
abbrev pub single_of : List ℕ → Option (List ℕ × ℕ)
single_of [] = None
single_of (c ∷ []) = if c == 39 then Some ([], 1) else None
single_of (c ∷ d ∷ cs) =
    if c == 39 then (if d == 39 then after (39 ∷ []) 2 (single_of cs) else Some ([], 1))
    else (if c == 10 then None else after (c ∷ []) 1 (single_of (d ∷ cs)))

-- the escapes of one character: `0 a b t n v f r e`, space, `" / \`, `N _ L P`, and what they stand for
abbrev pub short_escapes : List (ℕ × ℕ)
short_escapes =
    (48, 0x00) ∷ (97, 0x07) ∷ (98, 0x08) ∷ (116, 0x09) ∷ (110, 0x0A) ∷ (118, 0x0B) ∷ (102, 0x0C)
    ∷ (114, 0x0D) ∷ (101, 0x1B)
    ∷ (32, 0x20) ∷ (34, 0x22) ∷ (47, 0x2F) ∷ (92, 0x5C) ∷ (78, 0x85) ∷ (95, 0xA0) ∷ (76, 0x2028)
    ∷ (80, 0x2029) ∷ []

-- what such an escape stands for
abbrev pub short_escape : ℕ → Option ℕ
short_escape c = lookup (λ key. c == key) short_escapes

-- a number as a character, where it is one: surrogates and numbers past U+10FFFF aren't
abbrev pub scalar_value : ℕ → Option ℕ
scalar_value n = if nat_lt n 0xD800 || (nat_lt 0xDFFF n && nat_lt n 0x11_0000) then Some n else None

-- the character of so many more hexadecimal digits, after digits of a value
abbrev pub hex_of : ℕ → ℕ → List ℕ → Option ℕ
hex_of zero n cs = scalar_value n
hex_of (suc digits) n [] = None
hex_of (suc digits) n (c ∷ cs) =
    if nat_lt (digit_value c) 16 then hex_of digits (n * 16 + digit_value c) cs else None

-- the character of an escape, and how many characters stand for it behind the backslash
abbrev pub escape_of : List ℕ → Option (ℕ × ℕ)
escape_of [] = None
escape_of (c ∷ cs) =
    if c == 120 then option_map (λ d. (d, 3)) (hex_of 2 0 cs)
    else (if c == 117 then option_map (λ d. (d, 5)) (hex_of 4 0 cs)
    else (if c == 85 then option_map (λ d. (d, 9)) (hex_of 8 0 cs)
    else option_map (λ d. (d, 1)) (short_escape c)))

-- in double quotes, from behind the opening one, where so many characters belong to an escape before them
abbrev pub double_of : ℕ → List ℕ → Option (List ℕ × ℕ)
double_of skip [] = None
double_of (suc skip) (c ∷ cs) = after [] 1 (double_of skip cs)
double_of zero (c ∷ cs) =
    if c == 34 then Some ([], 1)
    else (if c == 10 then None
    else (if c == 92
    then option_and_then (λ e. after (e.0 ∷ []) 1 (double_of e.1 cs)) (escape_of cs)
    else after (c ∷ []) 1 (double_of zero cs)))

-- what the characters behind an opening quote spell, by the quote
abbrev pub behind_quote : ℕ → List ℕ → Option (List ℕ × ℕ)
behind_quote c cs = if c == 39 then single_of cs else (if c == 34 then double_of 0 cs else None)

-- the characters that the scalar in quotes spells which begins here, and how many characters it takes with its quotes
abbrev pub quoted_of : List ℕ → Option (List ℕ × ℕ)
quoted_of [] = None
quoted_of (c ∷ cs) = after [] 1 (behind_quote c cs)

-- what reading a text at a character of a row answers: the text and the place behind it, or a bad scalar there
abbrev pub quoted_answer : ℕ → Row → ℕ → Option (List ℕ × ℕ) → Result (List ℕ × ℕ) YamlRefusal
quoted_answer file row at None = Err (Bad BadScalar (place_in file row at))
quoted_answer file row at (Some p) = Ok (p.0, at + p.1)

-- the scalar in quotes at a character of a row
abbrev pub quoted_at : ℕ → Row → ℕ → Result (List ℕ × ℕ) YamlRefusal
quoted_at file row at = quoted_answer file row at (spelled (quoted_of (text_at row at)))
