-- The name of a project, by the Compose Specification's rules for it.
use Rattle.std.specs.Prelude.{ℕ, ◌+◌, ◌-◌, ◌==◌, Bool, false, ◌||◌, ◌&&◌, not, if◌then◌else◌, List, [], ◌∷◌, nat_le, length, filter, map, slice_get, unwrap_or}
use Rattle.std.specs.List.{list_all, slice_split}

-- an ASCII capital
abbrev pub is_upper : ℕ → Bool
is_upper c = nat_le 65 c && nat_le c 90

-- the lower-case form of an ASCII letter; another byte stays
abbrev pub lower : ℕ → ℕ
lower c = if is_upper c then c + 32 else c

-- a hyphen or a low line, with which no name begins
abbrev pub is_mark : ℕ → Bool
is_mark c = (c == 45) || (c == 95)

-- a small ASCII letter or a digit
abbrev pub is_lower_or_digit : ℕ → Bool
is_lower_or_digit c = (nat_le 97 c && nat_le c 122) || (nat_le 48 c && nat_le c 57)

-- a character that may stand in a project's name
abbrev pub is_name_character : ℕ → Bool
is_name_character c = is_lower_or_digit c || is_mark c

-- a text that begins, and with no mark
abbrev pub begins_well : List ℕ → Bool
begins_well [] = false
begins_well (c ∷ cs) = not (is_mark c)

-- a project's name: characters of names, the first of which is no mark (the top-level element `name`)
abbrev pub is_name : List ℕ → Bool
is_name name = begins_well name && list_all is_name_character name

-- what follows the marks at the beginning
abbrev pub without_marks : List ℕ → List ℕ
without_marks [] = []
without_marks (c ∷ cs) = if is_mark c then without_marks cs else c ∷ cs

-- the name that a directory's base name gives: letters in lower case, other characters dropped, and then the marks
-- at the beginning; it is empty where nothing is left
abbrev pub name_from : List ℕ → List ℕ
name_from base = without_marks (filter is_name_character (map lower base))

-- a character goes on with a name: one that may stand there, but no mark at the beginning
abbrev pub goes_on : List ℕ → ℕ → Bool
goes_on name c = is_name_character c && not ((length name == 0) && is_mark c)

-- the last of the parts of a path
abbrev pub last_part : List (List ℕ) → List ℕ
last_part parts = unwrap_or (slice_get parts (length parts - 1)) []

-- the base name of a directory, what stands behind the last slash of its path; empty at the root
abbrev pub base_name : List ℕ → List ℕ
base_name directory = last_part (slice_split (λ b. b == 47) directory)
