-- Bytes cut into lines, or the first place that is no text (YAML 1.2, chapters 5.1, 5.2 and 5.4).
use Rattle.std.specs.Prelude.{ℕ, ◌+◌, List, [], ◌∷◌, Bool, false, not, length, take, min, Result, Ok, Err, nat_lt, ◌==◌, ◌&&◌, ◌||◌, if◌then◌else◌}
use Rattle.std.specs.Str.Lines.{lines}
use Rattle.std.specs.Str.Lossy.{utf8_valid_len}
use Rattle.tree_base.specs.Limits.{greatest_place}
use Rattle.tree_base.specs.declared.place.Place.{Place}
use Rattle.yaml_lines.specs.declared.lines.Line.{Line}
use Rattle.yaml_lines.specs.declared.lines.Lines.{Lines}
use Rattle.yaml_lines.specs.declared.refusal.YamlFault.TheVariants.{BadUtf8, BadScalar}
use Rattle.yaml_lines.specs.declared.refusal.YamlRefusal.{YamlRefusal}
use Rattle.yaml_lines.specs.declared.refusal.YamlRefusal.TheVariants.{Bad}
use Rattle.yaml_lines.specs.Blanks.{spaces}
use Rattle.yaml_lines.specs.Rows.{one_more}

-- bytes that start with a byte
abbrev pub starts_with_byte : ℕ → List ℕ → Bool
starts_with_byte b [] = false
starts_with_byte b (c ∷ cs) = c == b

-- a character below U+0020 that is no tab, no line feed and no carriage return before one
abbrev pub is_control : ℕ → List ℕ → Bool
is_control c after =
    nat_lt c 32 && not ((c == 9) || ((c == 10) || ((c == 13) && starts_with_byte 10 after)))

-- how many bytes stand before the first such character
abbrev pub clean_len : List ℕ → ℕ
clean_len [] = 0
clean_len (c ∷ cs) = if is_control c cs then 0 else clean_len cs + 1

-- a byte of UTF-8 that begins no character
abbrev pub is_continuation : ℕ → Bool
is_continuation c = nat_lt 127 c && nat_lt c 192

-- the place after bytes that begin at a place: columns count characters
abbrev pub place_after_bytes : ℕ → ℕ → ℕ → List ℕ → Place
place_after_bytes file line column [] = record { file = file; line = line; column = column }
place_after_bytes file line column (c ∷ cs) =
    if c == 10 then place_after_bytes file (one_more line) 1 cs
    else (if is_continuation c then place_after_bytes file line column cs
    else place_after_bytes file line (one_more column) cs)

-- the place of a byte of a file
abbrev pub place_of_byte : ℕ → List ℕ → ℕ → Place
place_of_byte file bytes at = place_after_bytes file 1 1 (take at bytes)

-- a leading byte order mark is skipped
abbrev pub without_mark : List ℕ → List ℕ
without_mark (a ∷ b ∷ c ∷ bytes) =
    if (a == 0xEF) && ((b == 0xBB) && (c == 0xBF)) then bytes else (a ∷ b ∷ c ∷ bytes)
without_mark bytes = bytes

-- a line with its number and its indentation
abbrev pub line_of : ℕ → List ℕ → Line
line_of number text = record { number = number; indent = min (spaces text) greatest_place; text = text }

-- lines with their numbers
abbrev pub numbered : ℕ → List (List ℕ) → List Line
numbered number [] = []
numbered number (text ∷ texts) = line_of number text ∷ numbered (one_more number) texts

-- the lines of bytes of which the first so many are UTF-8: a control character among these is refused, else the first byte after them
abbrev pub scanned : ℕ → ℕ → List ℕ → Result Lines YamlRefusal
scanned file valid bytes =
    let clean = clean_len (take valid bytes) in
    if nat_lt clean valid then Err (Bad BadScalar (place_of_byte file bytes clean))
    else (if nat_lt valid (length bytes) then Err (Bad BadUtf8 (place_of_byte file bytes valid))
    else Ok (record { file = file; lines = numbered 1 (lines bytes) }))

-- the lines of a file: they end with a line feed, or with a carriage return and one, and the last may have no end
abbrev pub scan_of : ℕ → List ℕ → Result Lines YamlRefusal
scan_of file bytes = let body = without_mark bytes in scanned file (utf8_valid_len body) body
