-- What the items of a command line say of each option, and of the command.
use Rattle.std.specs.Prelude.{ℕ, Bool, false, List, Option, Some, None, slice_get, unwrap_or, if◌then◌else◌}
use Rattle.std.specs.List.{list_any, filter_map}
use Rattle.std.specs.Option.{option_map, option_and_then}
use Rattle.compose_words.specs.Refusals.{gives}
use Rattle.compose_words.specs.declared.content.Content.{Content}
use Rattle.compose_words.specs.declared.item.Item.{Item}
use Rattle.compose_words.specs.declared.item.Role.{Role}
use Rattle.compose_words.specs.declared.item.Value.{Value}
use Rattle.compose_words.specs.declared.options.Command.{Command}
use Rattle.compose_words.specs.declared.options.Options.{Options}
use Rattle.compose_words.specs.declared.options.Scale.{Scale}
use Rattle.compose_words.specs.declared.options.Verb.{Verb}
use Rattle.compose_words.specs.declared.table.CommandName.{CommandName}
use Rattle.compose_words.specs.declared.table.OptionName.{OptionName}
use Rattle.compose_words.specs.declared.table.OptionName.TheVariants.{File, ProjectName, ProjectDirectory, Profile, EnvFile, Parallel, Socket, Memory, StopFile, Format, Quiet, RemoveOrphans, Wait, WaitTimeout, Volumes, Timeout, Connections}

-- the text that a value says
abbrev pub text_in : Content → Option (List ℕ)
text_in (Content.Text text) = Some text
text_in _ = None

-- the number that a value says
abbrev pub number_in : Content → Option ℕ
number_in (Content.Number n) = Some n
number_in _ = None

-- whether a value says JSON, where it says a form of the page
abbrev pub format_in : Content → Option Bool
format_in (Content.Format json) = Some json
format_in _ = None

-- how many containers of which service a value says
abbrev pub scale_in : Content → Option Scale
scale_in (Content.Scale scale) = Some scale
scale_in _ = None

module _ {A : Type 0} (part : Content → Option A) (name : OptionName) where
  -- what an item gives to the option
  abbrev pub value_given : Item → Option A
  value_given item = if gives name item then option_and_then (λ (value : Value). part value.content) item.value else None

  -- what was given to the option, from left to right
  abbrev pub values_given : List Item → List A
  values_given items = filter_map value_given items

  -- what was given to the option first
  abbrev pub first_given : List Item → Option A
  first_given items = slice_get (values_given items) 0

-- an option was given
abbrev pub is_given : OptionName → List Item → Bool
is_given name items = list_any (gives name) items

-- the command of this name with what its value says: a simulation has to have a number
abbrev pub verb_named : CommandName → Option Content → Option Verb
verb_named CommandName.Config content = Some Verb.Config
verb_named CommandName.Up content = Some Verb.Up
verb_named CommandName.Down content = Some Verb.Down
verb_named CommandName.Simulate content = option_map Verb.Simulate (option_and_then number_in content)
verb_named CommandName.Wait content = Some Verb.Wait
verb_named CommandName.Logs content = Some Verb.Logs
verb_named CommandName.EngineSim content = Some Verb.EngineSim

-- the command of a word of this role
abbrev pub verb_with : Option Value → Role → Option Verb
verb_with value (Role.Command rule) = verb_named rule.name (option_map (λ (v : Value). v.content) value)
verb_with value _ = None

-- the command that an item is, with its number
abbrev pub verb_of : Item → Option Verb
verb_of item = verb_with item.value item.role

-- the first command
abbrev pub first_verb : List Item → Option Verb
first_verb items = slice_get (filter_map verb_of items) 0

-- a command without its number
abbrev pub name_of : Verb → CommandName
name_of Verb.Config = CommandName.Config
name_of Verb.Up = CommandName.Up
name_of Verb.Down = CommandName.Down
name_of (Verb.Simulate number) = CommandName.Simulate
name_of Verb.Wait = CommandName.Wait
name_of Verb.Logs = CommandName.Logs
name_of Verb.EngineSim = CommandName.EngineSim

-- the command with its own options
abbrev pub command_with : Verb → List Item → Command
command_with Verb.Config items = Command.Config (unwrap_or (first_given format_in Format items) false) (is_given Quiet items)
command_with Verb.Up items = Command.Up (is_given RemoveOrphans items) (is_given Wait items) (first_given number_in WaitTimeout items) (values_given scale_in OptionName.Scale items)
command_with Verb.Down items = Command.Down (is_given RemoveOrphans items) (is_given Volumes items) (first_given number_in Timeout items)
command_with (Verb.Simulate number) items = Command.Simulate number
command_with Verb.Wait items = Command.Wait
command_with Verb.Logs items = Command.Logs
command_with Verb.EngineSim items = Command.EngineSim (unwrap_or (first_given number_in Connections items) 1)

-- a command and its options as a whole: a run has 4 workers where nothing else is said
abbrev pub options_with : Verb → List Item → Options
options_with verb items = record {
  command = command_with verb items;
  files = values_given text_in File items;
  project = first_given text_in ProjectName items;
  directory = first_given text_in ProjectDirectory items;
  profiles = values_given text_in Profile items;
  env_files = values_given text_in EnvFile items;
  parallel = unwrap_or (first_given number_in Parallel items) 4;
  socket = first_given text_in Socket items;
  in_memory = is_given Memory items;
  stop_file = first_given text_in StopFile items;
}
