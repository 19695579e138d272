-- What a command line means.
use Rattle.std.specs.Prelude.{◌≡◌, ℕ, List, [], Option, Some, None, Result, Ok, Err}
use Rattle.std.specs.Option.{option_map_or, option_or}
use Rattle.compose_words.specs.Items.{items_of}
use Rattle.compose_words.specs.Lookups.{first_verb, name_of, options_with}
use Rattle.compose_words.specs.Refusals.{first_refusal, foreign_refusal, unserved_refusal}
use Rattle.compose_words.specs.declared.item.Item.{Item}
use Rattle.compose_words.specs.declared.options.Options.{Options}
use Rattle.compose_words.specs.declared.options.Verb.{Verb}
use Rattle.compose_words.specs.declared.refusal.WordsRefusal.{WordsRefusal}

module _ {A : Type 0} where
  -- the refusal, if there is one, and else the value
  abbrev pub refused_or : Option WordsRefusal → A → Result A WordsRefusal
  refused_or (Some refusal) value = Err refusal
  refused_or None value = Ok value

  -- the answer of a call is this one, unless the call wanted memory
  abbrev pub IsUnlessMemory : Result A WordsRefusal → Result A WordsRefusal → Type 0
  IsUnlessMemory (Err WordsRefusal.Memory) answer = Unit {0}
  IsUnlessMemory (Err refusal) answer = answer ≡ Err refusal
  IsUnlessMemory (Ok value) answer = answer ≡ Ok value

-- the items of a command line, or the first refusal from the left
abbrev pub items_or_refusal : List (List ℕ) → Result (List Item) WordsRefusal
items_or_refusal words = refused_or (first_refusal [] (items_of words)) (items_of words)

-- the options of a command, unless one of another command was given, or the command lacks some
abbrev pub options_of_verb : List Item → Verb → Result Options WordsRefusal
options_of_verb items verb = refused_or (option_or (foreign_refusal (name_of verb) items) (unserved_refusal verb items)) (options_with verb items)

-- the options that items give: there has to be a command
abbrev pub options_of_items : List Item → Result Options WordsRefusal
options_of_items items = option_map_or (options_of_verb items) (first_verb items) (Err WordsRefusal.NoCommand)

-- a second step over what the first one gave, or the refusal of the first
abbrev pub and_then : {A B : Type 0} → (A → Result B WordsRefusal) → Result A WordsRefusal → Result B WordsRefusal
and_then f (Ok value) = f value
and_then f (Err refusal) = Err refusal

-- what a command line means: the first refusal from the left, then a missing command, then the first
-- option that isn't the command's, then one that the command lacks, and else the options
abbrev pub options_of : List (List ℕ) → Result Options WordsRefusal
options_of words = and_then options_of_items (items_or_refusal words)
