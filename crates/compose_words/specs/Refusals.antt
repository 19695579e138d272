-- What is refused of a command line, and in which order.
use Rattle.std.specs.Prelude.{ℕ, Bool, true, false, ◌&&◌, not, List, [], ◌∷◌, ◌++◌, Option, Some, None, find, if◌then◌else◌}
use Rattle.std.specs.List.{list_any}
use Rattle.std.specs.Option.{option_map, option_map_or, option_or}
use Rattle.std.specs.Str.{bytes_eq}
use Rattle.compose_words.specs.Table.{same_option, serves, takes_value}
use Rattle.compose_words.specs.declared.content.Content.{Content}
use Rattle.compose_words.specs.declared.item.Item.{Item}
use Rattle.compose_words.specs.declared.item.Role.{Role}
use Rattle.compose_words.specs.declared.item.Value.{Value}
use Rattle.compose_words.specs.declared.options.Verb.{Verb}
use Rattle.compose_words.specs.declared.refusal.WordsRefusal.{WordsRefusal}
use Rattle.compose_words.specs.declared.table.CommandName.{CommandName}
use Rattle.compose_words.specs.declared.table.OptionName.{OptionName}
use Rattle.compose_words.specs.declared.table.OptionName.TheVariants.{Connections, Socket}
use Rattle.compose_words.specs.declared.table.OptionRule.{OptionRule}
use Rattle.compose_words.specs.declared.table.CommandRule.{CommandRule}
use Rattle.compose_words.specs.declared.table.ValueKind.{ValueKind}

-- a word of this role gives this option
abbrev pub role_gives : OptionName → Role → Bool
role_gives name (Role.Option rule) = same_option rule.name name
role_gives name (Role.Command rule) = false
role_gives name Role.Stray = false

-- an item gives this option
abbrev pub gives : OptionName → Item → Bool
gives name item = role_gives name item.role

-- a word of this role is a command
abbrev pub role_commands : Role → Bool
role_commands (Role.Option rule) = false
role_commands (Role.Command rule) = true
role_commands Role.Stray = false

-- an item is a command
abbrev pub is_command : Item → Bool
is_command item = role_commands item.role

-- the refusal of a value that doesn't say what its kind wants
abbrev pub wrong_value : ValueKind → ℕ → WordsRefusal
wrong_value ValueKind.Format at = WordsRefusal.BadChoice at
wrong_value _ at = WordsRefusal.BadNumber at

-- the refusal of what a value at a place says
abbrev pub content_refusal : ValueKind → ℕ → Content → Option WordsRefusal
content_refusal kind at Content.Wrong = Some (wrong_value kind at)
content_refusal kind at _ = None

-- a value that is missing is refused at the word that wants it, and a wrong one at its own place
abbrev pub value_refusal : ℕ → ValueKind → Option Value → Option WordsRefusal
value_refusal at kind (Some value) = content_refusal kind value.at value.content
value_refusal at kind None = if takes_value kind then Some (WordsRefusal.MissingValue at) else None

-- a value gives a number of containers to this service
abbrev pub content_scales : List ℕ → Content → Bool
content_scales service (Content.Scale scale) = bytes_eq scale.service service
content_scales service _ = false

-- an item does so
abbrev pub scales : List ℕ → Item → Bool
scales service item = option_map_or (λ (value : Value). content_scales service value.content) item.value false

-- what a value at a place says is refused where it gives a number to a service that was given one before
abbrev pub scale_refusal : List Item → ℕ → Content → Option WordsRefusal
scale_refusal before at (Content.Scale scale) = if list_any (scales scale.service) before then Some (WordsRefusal.Twice at) else None
scale_refusal before at _ = None

-- the same of a value, if any
abbrev pub again_refusal : List Item → Option Value → Option WordsRefusal
again_refusal before (Some value) = scale_refusal before value.at value.content
again_refusal before None = None

-- an option that may be given once and was given, or else its value, or else a service that was given
abbrev pub option_refusal : List Item → Item → OptionRule → Option WordsRefusal
option_refusal before item rule =
    if not rule.repeats && list_any (gives rule.name) before
    then Some (WordsRefusal.Twice item.at) else option_or (value_refusal item.at rule.value item.value) (again_refusal before item.value)

-- a second command, or else its value
abbrev pub command_refusal : List Item → Item → CommandRule → Option WordsRefusal
command_refusal before item rule =
    if list_any is_command before
    then Some (WordsRefusal.UnknownWord item.at) else value_refusal item.at rule.value item.value

-- the refusal of an item of this role behind the items before it; a stray word is always refused
abbrev pub role_refusal : List Item → Item → Role → Option WordsRefusal
role_refusal before item (Role.Option rule) = option_refusal before item rule
role_refusal before item (Role.Command rule) = command_refusal before item rule
role_refusal before item Role.Stray = Some (WordsRefusal.UnknownWord item.at)

-- the refusal of an item behind the items before it
abbrev pub item_refusal : List Item → Item → Option WordsRefusal
item_refusal before item = role_refusal before item item.role

-- the first refusal from the left, of items behind others
abbrev pub first_refusal : List Item → List Item → Option WordsRefusal
first_refusal before [] = None
first_refusal before (item ∷ items) = option_or (item_refusal before item) (first_refusal (before ++ item ∷ []) items)

-- a word of this role gives an option that isn't for this command
abbrev pub role_is_foreign : CommandName → Role → Bool
role_is_foreign command (Role.Option rule) = not (serves rule.users command)
role_is_foreign command _ = false

-- an item gives an option that isn't for this command
abbrev pub is_foreign : CommandName → Item → Bool
is_foreign command item = role_is_foreign command item.role

-- the refusal of the first option that isn't for this command
abbrev pub foreign_refusal : CommandName → List Item → Option WordsRefusal
foreign_refusal command items = option_map (λ (item : Item). WordsRefusal.UnknownWord item.at) (find (is_foreign command) items)

-- a server has its socket and the number of its connections
abbrev pub has_server_options : List Item → Bool
has_server_options items = list_any (gives Socket) items && list_any (gives Connections) items

-- a value is missing at the command's word
abbrev pub missing_at_command : List Item → Option WordsRefusal
missing_at_command items = option_map (λ (item : Item). WordsRefusal.MissingValue item.at) (find is_command items)

-- a server without one of the two lacks a value
abbrev pub server_refusal : List Item → Option WordsRefusal
server_refusal items = if has_server_options items then None else missing_at_command items

-- the refusal of a command that lacks options: `enginesim` alone has to have some
abbrev pub unserved_refusal : Verb → List Item → Option WordsRefusal
unserved_refusal Verb.EngineSim items = server_refusal items
unserved_refusal _ items = None
