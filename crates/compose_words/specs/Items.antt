-- The words of a command line as items: an option with its value, a command with its value, or a stray word.
use Rattle.std.specs.Prelude.{ℕ, ◌+◌, ◌==◌, Bool, ◌&&◌, List, [], ◌∷◌, Option, Some, None, is_none, if◌then◌else◌}
use Rattle.std.specs.Option.{option_map, option_map_or, option_or}
use Rattle.compose_words.specs.Contents.{content_of, split_at_equals}
use Rattle.compose_words.specs.Table.{takes_value, option_named, option_assigned, command_named}
use Rattle.compose_words.specs.declared.table.ValueKind.{ValueKind}
use Rattle.compose_words.specs.declared.table.OptionRule.{OptionRule}
use Rattle.compose_words.specs.declared.table.CommandRule.{CommandRule}
use Rattle.compose_words.specs.declared.item.Item.{Item}
use Rattle.compose_words.specs.declared.item.Role.{Role}
use Rattle.compose_words.specs.declared.item.Value.{Value}

-- the role of a word that names this option, if it names one
abbrev pub option_role : Option OptionRule → Role
option_role (Some rule) = Role.Option rule
option_role None = Role.Stray

-- the role of a word that names this command, if it names one
abbrev pub command_role : Option CommandRule → Role
command_role (Some rule) = Role.Command rule
command_role None = Role.Stray

-- the role of a word that names an option or else a command
abbrev pub plain_role : Option OptionRule → Option CommandRule → Role
plain_role (Some rule) command = Role.Option rule
plain_role None command = command_role command

-- what a word is that isn't another one's value: with an `=` an option that takes a value, and without
-- one an option or a command
abbrev pub role_of : List ℕ → Role
role_of word = option_map_or (λ parts. option_role (option_assigned parts.0)) (split_at_equals word) (plain_role (option_named word) (command_named word))

-- the text behind the first `=` of a word
abbrev pub own_text : List ℕ → Option (List ℕ)
own_text word = option_map (λ parts. parts.1) (split_at_equals word)

-- the kind of value that belongs to a word of this role
abbrev pub kind_of : Role → ValueKind
kind_of (Role.Option rule) = rule.value
kind_of (Role.Command rule) = rule.value
kind_of Role.Stray = ValueKind.Flag

-- a word has the next one for its value: where a value belongs to it, and it has none behind an `=`
abbrev pub takes_next : List ℕ → Bool
takes_next word = takes_value (kind_of (role_of word)) && is_none (own_text word)

-- a value of this kind, from the text at this place
abbrev pub value_at : ValueKind → ℕ → List ℕ → Value
value_at kind at text = record { at = at; content = content_of kind text }

-- the value of the word at a place: the text behind its `=`, or else the next word, if there is one
abbrev pub value_of : ValueKind → ℕ → Option (List ℕ) → Option (List ℕ) → Option Value
value_of kind at own next =
    if takes_value kind
    then option_or (option_map (value_at kind at) own) (option_map (value_at kind (at + 1)) next)
    else None

-- the item that begins with the word at a place, before the next word, if there is one
abbrev pub item_of : ℕ → List ℕ → Option (List ℕ) → Item
item_of at word next = record { at = at; role = role_of word; value = value_of (kind_of (role_of word)) at (own_text word) next }

-- how many words an item takes
abbrev pub width_of : Item → ℕ
width_of item = option_map_or (λ (value : Value). if value.at == item.at then 1 else 2) item.value 1

-- the items of words, the first of which stands at a place
abbrev pub items_from : ℕ → List (List ℕ) → List Item
items_from at [] = []
items_from at (word ∷ []) = item_of at word None ∷ []
items_from at (word ∷ next ∷ words) =
    item_of at word (Some next) ∷ (if takes_next word then items_from (at + 2) words else items_from (at + 1) (next ∷ words))

-- the items of a command line, whose places count from 0
abbrev pub items_of : List (List ℕ) → List Item
items_of words = items_from 0 words
