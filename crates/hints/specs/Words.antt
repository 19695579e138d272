-- What is said of a word of the command line that is refused as unknown.
use Rattle.std.specs.Prelude.{ℕ, Bool, ◌||◌, ◌==◌, nat_lt, if◌then◌else◌, List, [], ◌∷◌, ◌++◌, length, map, filter_map, Option, Some, None, codes}
use Rattle.std.specs.List.{before_first, list_any}
use Rattle.std.specs.Option.{option_or}
use Rattle.std.specs.Str.{bytes_eq}
use Rattle.compose_words.specs.Table.{CommandNames, OptionNames, command_table, option_table}
use Rattle.hints.specs.Near.{meant_words, near}
use Rattle.run_model.specs.Shown.{shown}

-- the words of the commands
abbrev pub command_words : List (List ℕ)
command_words = map (λ (names : CommandNames). names.word) command_table

-- the long names of the options
abbrev pub long_words : List (List ℕ)
long_words = map (λ (names : OptionNames). names.long) option_table

-- the short names of those that have one
abbrev pub short_words : List (List ℕ)
short_words = filter_map (λ (names : OptionNames). names.short) option_table

-- the words that ask about the program
abbrev pub question_words : List (List ℕ)
question_words = codes "--help" ∷ codes "-h" ∷ codes "--version" ∷ []

-- a word is one of these
abbrev pub is_one_of : List ℕ → List (List ℕ) → Bool
is_one_of word known = list_any (λ other. bytes_eq other word) known

-- a word is a name of an option
abbrev pub is_option : List ℕ → Bool
is_option word = is_one_of word long_words || is_one_of word short_words

-- what stands before the first `=` of a word, or all of it
abbrev pub name_in : List ℕ → List ℕ
name_in word = before_first (λ (byte : ℕ). byte == 61) word

-- the command, else the long name of an option, that is near a word
abbrev pub known_near : List ℕ → Option (List ℕ)
known_near word = option_or (near word command_words) (near word long_words)

-- what is said of a word that is neither a command nor an option, by the known word near it, if any
abbrev pub unknown_words : List ℕ → Option (List ℕ) → List ℕ
unknown_words word (Some known) = meant_words word known
unknown_words word None = shown word ++ codes " is neither a command nor an option"

-- what is said of a word: that it is empty, a second command, an option of another one or a question beside other words, else which
-- known word is near it, else that it is none
abbrev pub word_words : List ℕ → List ℕ
word_words word =
    if length word == 0 then codes "the word is empty"
    else (if is_one_of word command_words then shown word ++ codes " is a second command"
    else (if is_option word then shown word ++ codes " isn't an option of this command"
    else (if is_one_of word question_words then shown word ++ codes " has to stand alone"
    else unknown_words word (known_near (name_in word)))))

-- the hint on a word, which isn't longer than 64 bytes
abbrev pub word_hint : List ℕ → Option (List ℕ)
word_hint word = if nat_lt 64 (length word) then None else Some (word_words word)
