-- The words of a command line, by the quoting rules of the POSIX shell (Shell Command Language, "Quoting").
use Rattle.std.specs.Prelude.{ℕ, Bool, ◌==◌, ◌||◌, ◌&&◌, if◌then◌else◌, List, [], ◌∷◌, slice_index, Option, None, Some}
use Rattle.std.specs.List.{onto_first}
use Rattle.std.specs.Option.{option_map}

-- where a byte stands: between words, in a word outside quotes, in quotes, or behind a backslash outside or in double quotes
pub data Standing : Type 0 where
  between : Standing
  bare : Standing
  single : Standing
  double : Standing
  escaped : Standing
  escaped_double : Standing

-- a space, a tab, a line feed, or a carriage return before a line feed
abbrev pub is_blank : ℕ → List ℕ → Bool
is_blank b more = (b == 32) || (b == 9) || (b == 10) || ((b == 13) && (slice_index more 0 == 10))

-- the same words, the first with one more byte in front
abbrev pub with_byte : ℕ → Option (List (List ℕ)) → Option (List (List ℕ))
with_byte b words = option_map (onto_first b) words

-- what a byte outside quotes leads to: a single quote, a double quote, a backslash, or a byte of the word
abbrev pub outside : ℕ → Option (List (List ℕ)) → Option (List (List ℕ)) → Option (List (List ℕ)) → Option (List (List ℕ)) → Option (List (List ℕ))
outside b in_single in_double behind_escape in_word =
    if b == 39 then in_single else (if b == 34 then in_double else (if b == 92 then behind_escape else with_byte b in_word))

-- the words in a text that begins at such a place; inside a word the first is what is left of that word
abbrev pub words_from : Standing → List ℕ → Option (List (List ℕ))
words_from between [] = Some []
words_from bare [] = Some ([] ∷ [])
words_from single [] = None
words_from double [] = None
words_from escaped [] = None
words_from escaped_double [] = None
words_from between (b ∷ bs) =
    if is_blank b bs then words_from between bs else outside b (words_from single bs) (words_from double bs) (words_from escaped bs) (words_from bare bs)
words_from bare (b ∷ bs) =
    if is_blank b bs then option_map (λ more. [] ∷ more) (words_from between bs) else outside b (words_from single bs) (words_from double bs) (words_from escaped bs) (words_from bare bs)
words_from single (b ∷ bs) = if b == 39 then words_from bare bs else with_byte b (words_from single bs)
words_from double (b ∷ bs) = if b == 34 then words_from bare bs else (if b == 92 then words_from escaped_double bs else with_byte b (words_from double bs))
words_from escaped (b ∷ bs) = with_byte b (words_from bare bs)
words_from escaped_double (b ∷ bs) = if (b == 34) || (b == 92) then with_byte b (words_from double bs) else with_byte 92 (with_byte b (words_from double bs))

-- the words of a text
abbrev pub words_of : List ℕ → Option (List (List ℕ))
words_of text = words_from between text
