-- Which known word is near one that isn't known.
use Rattle.std.specs.Prelude.{ℕ, Bool, nat_le, nat_eq, if◌then◌else◌, List, length, find, ◌++◌, Option, None, codes}
use Rattle.std.specs.List.{starts_with}
use Rattle.std.specs.Option.{option_or}
use Rattle.std.specs.Str.{chars}
use Rattle.run_model.specs.Shown.{shown}
use Rattle.strsim.specs.Edits.{osa_table}

-- how many edits lead from one text to another: characters that are put in, left out, replaced, or swapped with their neighbour
-- (optimal string alignment)
abbrev pub edits : List ℕ → List ℕ → ℕ
edits word known = (osa_table (chars word) (chars known)).last_row (length (chars known))

-- a known word is so many edits away at most
abbrev pub is_within : ℕ → List ℕ → List ℕ → Bool
is_within n word known = nat_le (edits word known) n

-- a known word begins with another
abbrev pub is_begun : List ℕ → List ℕ → Bool
is_begun word known = starts_with nat_eq known word

-- the known word that is near: the first that is one edit away, else of a word of six bytes or more the first that is two away, else
-- of a word of three or more the first that begins with it
abbrev pub near : List ℕ → List (List ℕ) → Option (List ℕ)
near word known =
    option_or (find (is_within 1 word) known)
    (option_or (if nat_le 6 (length word) then find (is_within 2 word) known else None)
    (if nat_le 3 (length word) then find (is_begun word) known else None))

-- the question whether a known word is meant
abbrev pub meant_words : List ℕ → List ℕ → List ℕ
meant_words word known = shown word ++ codes ": is " ++ known ++ codes " meant?"
