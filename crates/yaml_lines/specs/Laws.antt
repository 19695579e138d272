-- Laws about lines and quotes.
use Rattle.std.specs.Prelude.{◌≡◌, ◌≢◌, ℕ, ◌-◌, List, [], ◌∷◌, ◌++◌, ◌⊎◌, All, Some, Ok, length, map, slice_index, ◌==◌, ◌||◌, if◌then◌else◌}
use Rattle.std.specs.Str.{encode_utf8_all}
use Rattle.yaml_lines.specs.declared.lines.Lines.{Lines}
use Rattle.yaml_lines.specs.Quoted.{quoted_of}
use Rattle.yaml_lines.specs.Rows.{place_after}
use Rattle.yaml_lines.specs.Scan.{place_after_bytes, scan_of, without_mark}

-- a line's end, and what follows it: a line feed, a carriage return and a line feed, or nothing behind a last line that isn't empty; a carriage return before a line feed is never the line's
abbrev pub IsLineEnd : List ℕ → List ℕ → List ℕ → Type 0
IsLineEnd line end rest =
    ((end ≡ 10 ∷ []) × (slice_index line (length line - 1) ≢ 13))
    ⊎ ((end ≡ 13 ∷ 10 ∷ []) ⊎ ((end ≡ []) × (rest ≡ []) × (line ≢ [])))

-- the lines, each behind the end of the one before, are the text, and none has a line feed
abbrev pub AreLinesOf : List (List ℕ) → List ℕ → Type 0
AreLinesOf [] text = text ≡ []
AreLinesOf (line ∷ more) text =
    (end : List ℕ) × (rest : List ℕ) × (text ≡ line ++ (end ++ rest)) × IsLineEnd line end rest
    × All (λ b. b ≢ 10) line × AreLinesOf more rest

-- the texts of lines
abbrev pub texts_of : Lines → List (List ℕ)
texts_of found = map (λ line. line.text) found.lines

-- the lines that a scan gives, joined by their ends, are the file without its byte order mark
abbrev pub LinesAreTheText : Type 0
LinesAreTheText =
    (file : ℕ) (bytes : List ℕ) (found : Lines) → scan_of file bytes ≡ Ok found →
    AreLinesOf (texts_of found) (without_mark bytes)

-- a character in double quotes: a quote, a backslash and a line feed are escaped
abbrev pub escaped : ℕ → List ℕ
escaped c =
    if (c == 34) || (c == 92) then 92 ∷ c ∷ [] else (if c == 10 then 92 ∷ 110 ∷ [] else c ∷ [])

-- characters and a closing quote
abbrev pub closed : List ℕ → List ℕ
closed [] = 34 ∷ []
closed (c ∷ cs) = escaped c ++ closed cs

-- characters in double quotes
abbrev pub in_double_quotes : List ℕ → List ℕ
in_double_quotes cs = 34 ∷ closed cs

-- characters put into double quotes read back as themselves, whatever follows them
abbrev pub DoubleQuotesReadBack : Type 0
DoubleQuotesReadBack =
    (cs rest : List ℕ) →
    quoted_of (in_double_quotes cs ++ rest) ≡ Some (cs, length (in_double_quotes cs))

-- the place behind a text's bytes is the place behind its characters: columns count characters
abbrev pub PlacesCountCharacters : Type 0
PlacesCountCharacters =
    (file line column : ℕ) (cs : List ℕ) →
    place_after_bytes file line column (encode_utf8_all cs) ≡ place_after file line column cs
