-- What a program is given by whoever starts it, as bytes, and what it takes of that (POSIX, "Environment Variables").
use Rattle.std.specs.Prelude.{◌≡◌, ◌<◌, ◌+◌, ◌==◌, ◌||◌, if◌then◌else◌, ℕ, List, [], ◌∷◌, Bool, true, false, Option, Some, None, take, drop, length, fold, get_or, codes}
use Rattle.std.specs.List.{list_all, position}
use Rattle.std.specs.Str.{is_utf8, bytes_eq}
use Rattle.tree_base.specs.Entries.{with_entry}

-- the words, the program's name first; the variables, as NAME=VALUE; the path of the working directory, where it can
-- be read; and which paths lead to that directory
pub record Given : Type 0 where
  pub words : List (List ℕ)
  pub variables : List (List ℕ)
  pub directory : Option (List ℕ)
  pub leads : List ℕ → Bool

-- the words of the command line: those behind the program's name
abbrev pub words_given : Given → List (List ℕ)
words_given given = drop 1 given.words

-- the word at this place isn't UTF-8, and those before it are
pub record IsFirstUnread (words : List (List ℕ)) (at : ℕ) : Type 0 where
  pub within : at < length words
  pub before : list_all is_utf8 (take at words) ≡ true
  pub there : is_utf8 (get_or words at []) ≡ false

-- variables by their names
abbrev pub Variables : Type 0
Variables = List (List ℕ × List ℕ)

-- the replacement character, U+FFFD: no address of an Engine, no name of a project and no path from the root
abbrev pub unread : List ℕ
unread = 239 ∷ 191 ∷ 189 ∷ []

-- a variable that says which Engine, which project or which directory a call is about
abbrev pub is_subject : List ℕ → Bool
is_subject name = bytes_eq name (codes "DOCKER_HOST") || (bytes_eq name (codes "COMPOSE_PROJECT_NAME") || bytes_eq name (codes "PWD"))

-- the text that bytes are, if they are UTF-8
abbrev pub text_in : List ℕ → Option (List ℕ)
text_in bytes = if is_utf8 bytes then Some bytes else None

-- the value that counts: one that isn't UTF-8 is none, but of those variables it is the replacement character
abbrev pub value_told : List ℕ → Option (List ℕ) → Option (List ℕ)
value_told name (Some value) = Some value
value_told name None = if is_subject name then Some unread else None

-- the value of a variable of this name, as its bytes tell it
abbrev pub value_given : List ℕ → List ℕ → Option (List ℕ)
value_given name value = value_told name (text_in value)

-- one variable more, if there are name and value; of several values of one name the last counts
abbrev pub with_value : Variables → Option (List ℕ) → Option (List ℕ) → Variables
with_value variables None value = variables
with_value variables (Some name) None = variables
with_value variables (Some name) (Some value) = with_entry variables name value

-- an entry is cut at its first `=`; one without it says nothing
abbrev pub with_cut : Variables → List ℕ → Option ℕ → Variables
with_cut variables entry None = variables
with_cut variables entry (Some at) =
    with_value variables (text_in (take at entry)) (value_given (take at entry) (drop (at + 1) entry))

-- an entry of the environment says one variable: its name stands before the first `=`
abbrev pub with_setting : Variables → List ℕ → Variables
with_setting variables entry = with_cut variables entry (position (λ b. b == 61) entry)

-- the variables that entries say, also those with an empty value
abbrev pub variables_in : List (List ℕ) → Variables
variables_in entries = fold with_setting [] entries
