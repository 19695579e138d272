-- Where a head, a chunk line and the lines after the last chunk end in the bytes that were read,
-- and when they pass their limits (RFC 9112, sections 2.1, 2.2 and 7.1).
use Rattle.std.specs.Prelude.{ℕ, ◌+◌, ◌-◌, Bool, not, List, [], ◌∷◌, ◌++◌, length, take, drop, flat_map, if◌then◌else◌, nat_lt, nat_le, ◌==◌, ◌&&◌, ◌||◌}
use Rattle.std.specs.List.{prefix_len}
use Rattle.std.specs.Str.{bytes_eq}
use Rattle.tree_base.specs.Limits.{most_head_bytes, most_header_lines}
use Rattle.httparse.specs.Ascii.{line_feed, carriage_return}

-- lines with a byte before the first
abbrev pub with_byte : ℕ → List (List ℕ) → List (List ℕ)
with_byte b [] = (b ∷ []) ∷ []
with_byte b (line ∷ lines) = (b ∷ line) ∷ lines

-- the texts between line feeds; the last of them has no line feed behind it
abbrev pub lines : List ℕ → List (List ℕ)
lines [] = [] ∷ []
lines (b ∷ bytes) = if b == line_feed then [] ∷ lines bytes else with_byte b (lines bytes)

-- those with a line feed behind them, which were read whole
abbrev pub whole_lines : List ℕ → List (List ℕ)
whole_lines bytes = take (length (lines bytes) - 1) (lines bytes)

-- an empty line: LF or CRLF (RFC 9112, section 2.2)
abbrev pub is_empty_line : List ℕ → Bool
is_empty_line line = bytes_eq line [] || bytes_eq line (carriage_return ∷ [])

-- how many empty lines stand in front: those before a start line belong to its head (RFC 9112,
-- section 2.2)
abbrev pub blank_lines : List (List ℕ) → ℕ
blank_lines ls = prefix_len is_empty_line ls

-- how many lines that aren't empty stand in front
abbrev pub filled_lines : List (List ℕ) → ℕ
filled_lines ls = prefix_len (λ line. not (is_empty_line line)) ls

-- the bytes of the first so many lines, each with its line feed
abbrev pub first_lines : ℕ → List (List ℕ) → List ℕ
first_lines n ls = flat_map (λ line. line ++ line_feed ∷ []) (take n ls)

-- a part of the bytes: it ends within its limits after so many bytes, it passed a limit, or its end
-- wasn't read yet
pub data Part : Type 0 where
  ends : ℕ → Part
  passed : Part
  unfinished : Part

-- the part that so many blank lines and so many filled ones begin, and that the next line, an empty
-- one, ends
abbrev pub part_of : ℕ → ℕ → ℕ → ℕ → List ℕ → Part
part_of room most blank filled bytes =
    if nat_lt most filled then passed
    else if nat_lt (blank + filled) (length (whole_lines bytes))
    && nat_le (length (first_lines (blank + filled + 1) (whole_lines bytes))) room
    then ends (length (first_lines (blank + filled + 1) (whole_lines bytes)))
    else if nat_lt room (length bytes) then passed else unfinished

-- a head, behind so many bytes of skipped heads: up to its first empty line that stands after a
-- line that isn't empty. Its start line and at most 100 header lines stand before that line (RFC
-- 9112, section 2.1)
abbrev pub head_part : ℕ → List ℕ → Part
head_part before bytes =
    part_of (most_head_bytes - before) (most_header_lines + 1) (blank_lines (whole_lines bytes))
    (filled_lines (drop (blank_lines (whole_lines bytes)) (whole_lines bytes))) bytes

-- the lines after the last chunk: up to the first empty line (RFC 9112, section 7.1.2)
abbrev pub trailer_part : List ℕ → Part
trailer_part bytes = part_of most_head_bytes most_header_lines 0 (filled_lines (whole_lines bytes)) bytes

-- how many bytes stand before the first line feed
abbrev pub before_line_feed : List ℕ → ℕ
before_line_feed bytes = prefix_len (λ b. not (b == line_feed)) bytes

-- a chunk line: up to its first line feed (RFC 9112, section 7.1)
abbrev pub chunk_line_part : List ℕ → Part
chunk_line_part bytes =
    if nat_lt (before_line_feed bytes) (length bytes) && nat_lt (before_line_feed bytes) most_head_bytes
    then ends (before_line_feed bytes + 1)
    else if nat_lt most_head_bytes (length bytes) then passed else unfinished
