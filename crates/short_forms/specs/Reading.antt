-- The words of a text of which a part was read.
use Rattle.std.specs.Prelude.{◌≡◌, ℕ, List, [], ◌∷◌, ◌++◌, Option, None, Some, unwrap_or}
use Rattle.std.specs.Char.{encode_utf8}
use Rattle.std.specs.Option.{option_map, option_to_list}
use Rattle.short_forms.specs.Cuts.{in_front}
use Rattle.short_forms.specs.Words.{Standing, between, bare, single, double, escaped, escaped_double, words_from}
use Rattle.short_forms.specs.declared.words.Reading.{Reading}
use Rattle.short_forms.specs.declared.words.Within.{Within}
use Rattle.short_forms.specs.declared.words.Within.TheVariants.{Bare, Return, Single, Double, Escape, DoubleEscape}

-- where the next byte stands outside quotes, by the word that is being read
abbrev pub unquoted : Option (List ℕ) → Standing
unquoted None = between
unquoted (Some word) = bare

-- where the next byte stands
abbrev pub standing : Option (List ℕ) → Within → Standing
standing word Bare = unquoted word
standing word Return = unquoted word
standing word Single = single
standing word Double = double
standing word Escape = escaped
standing word DoubleEscape = escaped_double

-- a carriage return that was read outside quotes is read again with what follows it
abbrev pub with_return : Within → List ℕ → List ℕ
with_return Bare left = left
with_return Return left = 13 ∷ left
with_return Single left = left
with_return Double left = left
with_return Escape left = left
with_return DoubleEscape left = left

-- the words that have ended, and those of what is left, the first behind what was read of it
abbrev pub joined : List (List ℕ) → Option (List ℕ) → Option (List (List ℕ)) → Option (List (List ℕ))
joined ended word left = option_map (λ words. ended ++ in_front (unwrap_or word []) words) left

-- the words of a text, where this was read and that is left
abbrev pub words_left : Reading → List ℕ → Option (List (List ℕ))
words_left reading left = joined reading.words reading.word (words_from (standing reading.word reading.within) (with_return reading.within left))

-- a character was read: whatever follows, the words are the same
abbrev pub Takes : Reading → ℕ → Reading → Type 0
Takes old c new = (left : List ℕ) → words_left new left ≡ words_left old (encode_utf8 c ++ left)

-- bytes were put to the word that is being read, or to a new one
pub record Puts (old : Reading) (bytes : List ℕ) (within : Within) (new : Reading) : Type 0 where
  pub words : new.words ≡ old.words
  pub word : new.word ≡ Some (unwrap_or old.word [] ++ bytes)
  pub stands : new.within ≡ within

-- the word that is being read has ended, where there is one
pub record Ends (old new : Reading) : Type 0 where
  pub words : new.words ≡ old.words ++ option_to_list old.word
  pub word : new.word ≡ None
  pub stands : new.within ≡ Bare
