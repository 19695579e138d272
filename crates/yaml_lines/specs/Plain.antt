-- Plain scalars of one line, as lists of characters (YAML 1.2, chapter 7.3.3).
use Rattle.std.specs.Prelude.{ℕ, ◌+◌, List, [], ◌∷◌, Bool, true, false, not, take, Option, Some, None, ◌==◌, ◌&&◌, ◌||◌, if◌then◌else◌}
use Rattle.yaml_lines.specs.declared.plain.Context.{Context}
use Rattle.yaml_lines.specs.declared.plain.Context.TheVariants.{Block, Flow}
use Rattle.yaml_lines.specs.Blanks.{is_white}

-- a space or the line's end stands here
abbrev pub is_space_or_end : List ℕ → Bool
is_space_or_end [] = true
is_space_or_end (c ∷ cs) = (c == 32) || (c == 10)

-- a colon before a space or the line's end: it ends a key
abbrev pub is_colon : List ℕ → Bool
is_colon [] = false
is_colon (c ∷ cs) = (c == 58) && is_space_or_end cs

-- one of `, [ ] { }`
abbrev pub is_flow_mark : ℕ → Bool
is_flow_mark c = (c == 44) || ((c == 91) || ((c == 93) || ((c == 123) || (c == 125))))

-- one of `# & * ! | > ' " % @` or a backquote
abbrev pub is_indicator : ℕ → Bool
is_indicator c =
    (c == 35) || ((c == 38) || ((c == 42) || ((c == 33) || ((c == 124) || ((c == 62)
    || ((c == 39) || ((c == 34) || ((c == 37) || ((c == 64) || (c == 96))))))))))

-- one of `- ? :`
abbrev pub is_mark_before_space : ℕ → Bool
is_mark_before_space c = (c == 45) || ((c == 63) || (c == 58))

-- a plain scalar may begin here: `-`, `?` and `:` begin one only before a character that is no space
abbrev pub begins_plain : List ℕ → Bool
begins_plain [] = false
begins_plain (c ∷ cs) =
    if is_mark_before_space c then not (is_space_or_end cs)
    else not (is_white c || ((c == 10) || (is_flow_mark c || is_indicator c)))

-- in a flow collection a plain scalar ends before its marks
abbrev pub ends_item : Context → ℕ → Bool
ends_item Block c = false
ends_item Flow c = is_flow_mark c

-- a plain scalar ends before these characters; `white` says whether white space stands before them, after which `#` begins a comment
abbrev pub ends_plain : Context → Bool → List ℕ → Bool
ends_plain context white [] = true
ends_plain context white (c ∷ cs) =
    is_colon (c ∷ cs) || (((c == 35) && white) || ((c == 10) || ends_item context c))

-- how many characters stand before the end of a plain scalar, with the white space before it
abbrev pub plain_run : Context → Bool → List ℕ → ℕ
plain_run context white [] = 0
plain_run context white (c ∷ cs) =
    if ends_plain context white (c ∷ cs) then 0 else plain_run context (is_white c) cs + 1

-- how long characters are without the white space at their end
abbrev pub trimmed_len : List ℕ → ℕ
trimmed_len [] = 0
trimmed_len (c ∷ cs) = if is_white c && (trimmed_len cs == 0) then 0 else trimmed_len cs + 1

-- how long the plain scalar is that begins here
abbrev pub plain_len : Context → List ℕ → ℕ
plain_len context cs = trimmed_len (take (plain_run context false cs) cs)

-- the characters of the plain scalar that begins here, and how many they are; none where none may begin
abbrev pub plain_of : Context → List ℕ → Option (List ℕ × ℕ)
plain_of context cs =
    if begins_plain cs then Some (take (plain_len context cs) cs, plain_len context cs) else None
