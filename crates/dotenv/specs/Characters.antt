-- The characters of a line of an env file, and how long the things in it are.
use Rattle.std.specs.Prelude.{ℕ, ◌+◌, List, [], ◌∷◌, Bool, take, drop, ◌==◌, ◌&&◌, ◌||◌, if◌then◌else◌}
use Rattle.std.specs.Char.{is_ascii_alphabetic, is_ascii_alphanumeric}

-- a space or a tab
abbrev pub is_blank : ℕ → Bool
is_blank c = (c == 32) || (c == 9)

-- how many of them stand in front
abbrev pub blanks_len : List ℕ → ℕ
blanks_len [] = 0
blanks_len (c ∷ cs) = if is_blank c then blanks_len cs + 1 else 0

-- a key begins with an ASCII letter or `_`
abbrev pub starts_key : ℕ → Bool
starts_key c = is_ascii_alphabetic c || (c == 95)

-- and goes on with letters, digits, `_`, `.` and `-`
abbrev pub goes_on_key : ℕ → Bool
goes_on_key c = is_ascii_alphanumeric c || ((c == 95) || ((c == 46) || (c == 45)))

-- how many characters in front go on with a key
abbrev pub run_len : List ℕ → ℕ
run_len [] = 0
run_len (c ∷ cs) = if goes_on_key c then run_len cs + 1 else 0

-- how long the key is that stands in front, 0 where none does
abbrev pub key_len : List ℕ → ℕ
key_len [] = 0
key_len (c ∷ cs) = if starts_key c then run_len cs + 1 else 0

-- how many characters stand before a comment: a `#` behind a space or tab
abbrev pub plain_len : Bool → List ℕ → ℕ
plain_len blank [] = 0
plain_len blank (c ∷ cs) = if blank && (c == 35) then 0 else plain_len (is_blank c) cs + 1

-- how long the characters are without the spaces and tabs at their end
abbrev pub trimmed_len : List ℕ → ℕ
trimmed_len [] = 0
trimmed_len (c ∷ cs) = if is_blank c && (trimmed_len cs == 0) then 0 else trimmed_len cs + 1

-- the characters without the spaces and tabs around them
abbrev pub trimmed : List ℕ → List ℕ
trimmed cs = let inner = drop (blanks_len cs) cs in take (trimmed_len inner) inner
