-- White space, blank lines, comments and indentation (YAML 1.2, chapters 5.5, 6.1 and 6.6).
use Rattle.std.specs.Prelude.{ℕ, ◌+◌, List, [], ◌∷◌, Bool, true, false, Option, Some, None, ◌==◌, ◌&&◌, ◌||◌, if◌then◌else◌}

-- a space or a tab
abbrev pub is_white : ℕ → Bool
is_white c = (c == 32) || (c == 9)

-- how many spaces stand at the front: a line's indentation
abbrev pub spaces : List ℕ → ℕ
spaces [] = 0
spaces (c ∷ cs) = if c == 32 then spaces cs + 1 else 0

-- how many spaces and tabs stand at the front
abbrev pub blanks : List ℕ → ℕ
blanks [] = 0
blanks (c ∷ cs) = if is_white c then blanks cs + 1 else 0

-- only white space and a comment stand before the line's end; a comment begins after white space or the line's start, which stands here where `white`
abbrev pub is_rest_blank : Bool → List ℕ → Bool
is_rest_blank white [] = true
is_rest_blank white (c ∷ cs) =
    if is_white c then is_rest_blank true cs else ((c == 10) || ((c == 35) && white))

-- a line of white space and a comment alone
abbrev pub is_blank : List ℕ → Bool
is_blank cs = is_rest_blank true cs

-- a tab is the first character that is no space
abbrev pub is_tab_first : List ℕ → Bool
is_tab_first [] = false
is_tab_first (c ∷ cs) = if c == 32 then is_tab_first cs else c == 9

-- the tab in the indentation of a line that isn't blank, where there is one
abbrev pub tab_indent : List ℕ → Option ℕ
tab_indent cs = if is_blank cs then None else (if is_tab_first cs then Some (spaces cs) else None)
