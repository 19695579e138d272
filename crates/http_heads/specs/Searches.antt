-- How far a search for the empty line that ends a head, or the lines after a last chunk, got (RFC
-- 9112, sections 2.2 and 7.1.2).
use Rattle.std.specs.Prelude.{◌≡◌, ℕ, ◌+◌, ◌<◌, ◌≤◌, Bool, true, false, not, ◌&&◌, ◌||◌, ◌==◌, nat_lt, if◌then◌else◌, List, [], ◌∷◌, ◌++◌, length, take, drop, flat_map}
use Rattle.std.specs.List.{list_all}
use Rattle.httparse.specs.Ascii.{line_feed, carriage_return}
use Rattle.response_rules.specs.Lines.{Part, ends, passed, unfinished, blank_lines, filled_lines, is_empty_line, part_of, whole_lines}
use Rattle.http_heads.specs.declared.line_search.LineSearch.{LineSearch}
use Rattle.http_heads.specs.declared.line_search.LineStart.{LineStart}
use Rattle.http_heads.specs.declared.line_search.SearchAnswer.{SearchAnswer}

-- the part that bytes begin with: a head, before which empty lines may stand, or the lines after a
-- last chunk; at most so many bytes and so many lines that aren't empty
abbrev pub searched_part : Bool → ℕ → ℕ → List ℕ → Part
searched_part true room most bytes =
    part_of room most (blank_lines (whole_lines bytes))
    (filled_lines (drop (blank_lines (whole_lines bytes)) (whole_lines bytes))) bytes
searched_part false room most bytes =
    part_of room most 0 (filled_lines (whole_lines bytes)) bytes

-- the part that an answer tells
abbrev pub part_told : SearchAnswer → Part
part_told (SearchAnswer.Ends n) = ends n
part_told SearchAnswer.Passed = passed
part_told SearchAnswer.Unfinished = unfinished

-- what a line that goes on is so far: nothing, a carriage return alone, or a text
abbrev pub start_of : List ℕ → LineStart
start_of [] = LineStart.Nothing
start_of (b ∷ []) = if b == carriage_return then LineStart.Return else LineStart.Text
start_of (b ∷ c ∷ line) = LineStart.Text

-- lines as they are sent, a line feed behind each
abbrev pub sent : List (List ℕ) → List ℕ
sent ls = flat_map (λ line. line ++ line_feed ∷ []) ls

-- no byte is a line feed
abbrev pub IsLine : List ℕ → Type 0
IsLine line = list_all (λ b. not (b == line_feed)) line ≡ true

-- no line holds a line feed
abbrev pub AreLines : List (List ℕ) → Type 0
AreLines [] = Unit {0}
AreLines (line ∷ ls) = IsLine line × AreLines ls

-- the bytes are empty lines in front, so many lines that aren't empty, and a line that begins so and
-- goes on
pub record IsFollowed (leading : Bool) (seen : List ℕ) (filled : ℕ) (start : LineStart) : Type 0 where
  pub blank : List (List ℕ)
  pub lines : List (List ℕ)
  pub line : List ℕ
  pub blank_lines : AreLines blank
  pub are_lines : AreLines lines
  pub is_line : IsLine line
  pub all_blank : list_all is_empty_line blank ≡ true
  pub all_filled : list_all (λ l. not (is_empty_line l)) lines ≡ true
  pub front : leading ≡ false → blank ≡ []
  pub reads : seen ≡ sent blank ++ (sent lines ++ line)
  pub count : filled ≡ length lines
  pub begins : start ≡ start_of line

-- the bytes are such lines, and end with the empty line that was looked for
pub record IsEnded (leading : Bool) (seen : List ℕ) (filled : ℕ) : Type 0 where
  pub blank : List (List ℕ)
  pub lines : List (List ℕ)
  pub line : List ℕ
  pub blank_lines : AreLines blank
  pub are_lines : AreLines lines
  pub is_line : IsLine line
  pub all_blank : list_all is_empty_line blank ≡ true
  pub all_filled : list_all (λ l. not (is_empty_line l)) lines ≡ true
  pub is_empty : is_empty_line line ≡ true
  pub front : leading ≡ false → blank ≡ []
  pub some : leading ≡ true → 0 < length lines
  pub reads : seen ≡ sent blank ++ (sent lines ++ (line ++ line_feed ∷ []))
  pub count : filled ≡ length lines

-- the bytes end with that line, or go on
abbrev pub IsAt : Bool → Bool → List ℕ → ℕ → LineStart → Type 0
IsAt true leading seen filled start = IsEnded leading seen filled
IsAt false leading seen filled start = IsFollowed leading seen filled start

-- whether a line that began so isn't empty
abbrev pub is_filled : LineStart → Bool
is_filled LineStart.Text = true
is_filled _ = false

-- what the line is with one byte more
abbrev pub with_more : LineStart → ℕ → LineStart
with_more LineStart.Nothing b =
    if b == carriage_return then LineStart.Return else LineStart.Text
with_more _ b = LineStart.Text

-- the line behind a byte; the flag tells whether the byte is a line feed
abbrev pub line_after : Bool → LineStart → ℕ → LineStart
line_after true start b = LineStart.Nothing
line_after false start b = with_more start b

-- how many lines aren't empty behind a byte
abbrev pub filled_after : Bool → LineStart → ℕ → ℕ
filled_after feed start filled = if feed && is_filled start then filled + 1 else filled

-- whether a byte ends the empty line that is looked for
abbrev pub ends_after : Bool → Bool → LineStart → ℕ → Bool
ends_after feed leading start filled =
    feed && (not (is_filled start) && (nat_lt 0 filled || not leading))

-- a search has looked at the bytes that these begin with, and hasn't found the empty line there
pub record HasFollowed (search : LineSearch) (bytes : List ℕ) : Type 0 where
  pub within : search.at ≤ length bytes
  pub few : search.filled ≤ search.at
  pub followed : IsFollowed search.leading (take search.at bytes) search.filled search.line
