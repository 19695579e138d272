-- Where a flow collection is cut: at its own commas, and at the bracket that closes it (YAML 1.2, chapter 7.4).
use Rattle.std.specs.Prelude.{ℕ, zero, suc, ◌+◌, ◌-◌, List, [], ◌∷◌, Bool, false, drop, ◌==◌, ◌&&◌, ◌||◌, if◌then◌else◌}
use Rattle.yaml_lines.specs.Blanks.{blanks, is_white}
use Rattle.yaml_lines.specs.declared.plain.Context.TheVariants.{Flow}
use Rattle.yaml_lines.specs.Plain.{begins_plain, plain_len}
use Rattle.yaml_lines.specs.Quoted.{quoted_of}
use Rattle.yaml_nodes.specs.Marks.{is_property, is_quote, name_len, read_len, starts}

-- how many characters stand before the line's end
abbrev pub line_len : List ℕ → ℕ
line_len [] = 0
line_len (c ∷ cs) = if c == 10 then 0 else line_len cs + 1

-- how many characters a scalar in quotes of so many takes, with the colon behind it where it is a key
abbrev pub with_colon : ℕ → List ℕ → ℕ
with_colon len rest = if starts 58 (drop (blanks rest) rest) then len + blanks rest + 1 else len

-- how many characters a scalar in quotes takes that stands here, with the colon behind it where it is a key
abbrev pub quoted_token : List ℕ → ℕ
quoted_token cs = with_colon (read_len (quoted_of cs)) (drop (read_len (quoted_of cs)) cs)

-- how many characters of a flow collection belong together here, so that no comma or bracket in them counts: a comment, a scalar in quotes, an anchor, an alias or a tag, a plain scalar. `white` says whether white space precedes
abbrev pub token_len : Bool → List ℕ → ℕ
token_len white cs =
    if starts 35 cs && white then line_len cs
    else (if is_quote cs then quoted_token cs
    else (if is_property cs || starts 42 cs then 1 + name_len (drop 1 cs)
    else (if begins_plain cs then plain_len Flow cs else 1)))

-- an opening bracket
abbrev pub is_opening : ℕ → Bool
is_opening c = (c == 91) || (c == 123)

-- a closing bracket
abbrev pub is_closing : ℕ → Bool
is_closing c = (c == 93) || (c == 125)

-- how many brackets are open behind a character
abbrev pub open_behind : ℕ → ℕ → ℕ
open_behind n c = if is_opening c then n + 1 else (if is_closing c then n - 1 else n)

-- a comma, or a bracket that closes, where no bracket is open within: there a collection is cut
abbrev pub is_cut : ℕ → ℕ → Bool
is_cut n c = (n == 0) && (is_closing c || (c == 44))

-- white space or a line's end
abbrev pub is_space : ℕ → Bool
is_space c = is_white c || (c == 10)

-- how many characters stand before the next cut, else to the end: so many brackets are open, so many characters belong to a token that began before, and `white` says whether white space precedes
abbrev pub cut_len : ℕ → ℕ → Bool → List ℕ → ℕ
cut_len n skip white [] = 0
cut_len n (suc skip) white (c ∷ cs) = cut_len n skip (is_space c) cs + 1
cut_len n zero white (c ∷ cs) =
    if is_cut n c then 0
    else cut_len (open_behind n c) (token_len white (c ∷ cs) - 1) (is_space c) cs + 1

-- where a flow collection is cut, from behind its opening bracket on, which stands before a place: at its own commas, and at the bracket that closes it
abbrev pub cuts : ℕ → ℕ → ℕ → Bool → List ℕ → List ℕ
cuts at n skip white [] = []
cuts at n (suc skip) white (c ∷ cs) = cuts (at + 1) n skip (is_space c) cs
cuts at n zero white (c ∷ cs) =
    if is_cut n c then (at ∷ (if c == 44 then cuts (at + 1) 0 0 false cs else []))
    else cuts (at + 1) (open_behind n c) (token_len white (c ∷ cs) - 1) (is_space c) cs
