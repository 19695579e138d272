-- The numbers of a command line are within their bounds, and the places of refusals within the words.
use Rattle.std.specs.Prelude.{◌≤◌, ◌<◌, ℕ, IfSome}
use Rattle.std.specs.List.{AllByRecursion}
use Rattle.tree_base.specs.Limits.{most_connections, most_containers, most_seconds, most_simulated, most_workers}
use Rattle.compose_words.specs.declared.options.Command.{Command}
use Rattle.compose_words.specs.declared.options.Options.{Options}
use Rattle.compose_words.specs.declared.options.Scale.{Scale}
use Rattle.compose_words.specs.declared.refusal.WordsRefusal.{WordsRefusal}

-- a time is at most a million seconds, a service has at most 100 containers, a simulated project has 1 to 1,000 services, and 1 to a
-- million connections are served
abbrev pub CommandIsBounded : Command → Type 0
CommandIsBounded (Command.Config json quiet) = Unit {0}
CommandIsBounded (Command.Up orphans wait seconds scale) = IfSome seconds (λ s. s ≤ most_seconds) × AllByRecursion (λ (s : Scale). s.number ≤ most_containers) scale
CommandIsBounded (Command.Down orphans volumes seconds) = IfSome seconds (λ s. s ≤ most_seconds)
CommandIsBounded (Command.Simulate number) = (1 ≤ number) × (number ≤ most_simulated)
CommandIsBounded Command.Wait = Unit {0}
CommandIsBounded Command.Logs = Unit {0}
CommandIsBounded (Command.EngineSim connections) = (1 ≤ connections) × (connections ≤ most_connections)

-- the options of a run that can be made: with 1 to 16 workers
pub record IsBounded (options : Options) : Type 0 where
  pub workers : (1 ≤ options.parallel) × (options.parallel ≤ most_workers)
  pub command : CommandIsBounded options.command

-- the place of a refusal is that of one of so many words, where it has a place
abbrev pub IsWithin : ℕ → WordsRefusal → Type 0
IsWithin count (WordsRefusal.UnknownWord at) = at < count
IsWithin count (WordsRefusal.MissingValue at) = at < count
IsWithin count (WordsRefusal.BadNumber at) = at < count
IsWithin count (WordsRefusal.BadChoice at) = at < count
IsWithin count (WordsRefusal.Twice at) = at < count
IsWithin count WordsRefusal.NoCommand = Unit {0}
IsWithin count WordsRefusal.BadHost = Unit {0}
IsWithin count WordsRefusal.Memory = Unit {0}
