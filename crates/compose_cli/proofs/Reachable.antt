-- A run asks for an Engine.
use Rattle.std.proofs.Common.{◌≡◌, ℕ, Bool, true, false, not, List, Ok, Err, Some, None, refl, subst}
use Rattle.std.specs.Prelude.{Option, Result, if◌then◌else◌}
use Rattle.engine_types.specs.declared.Aim.{Aim}
use Rattle.asked_project.specs.Asking.{Variables, are_built, asked_or_not, options_asked, read_or_refused, unless_refused}
use Rattle.asked_target.proofs.Hosts.{good_hosts}
use Rattle.asked_target.specs.Targets.{has_bad_host, makes_hands}
use Rattle.compose_cli.specs.Reaching.{IsReachable}
use Rattle.compose_cli.specs.Runs.{aim_for}
use Rattle.compose_words.specs.Reading.{options_of}
use Rattle.compose_words.specs.declared.Command.{Command}
use Rattle.compose_words.specs.declared.Options.{Options}
use Rattle.compose_words.specs.declared.WordsRefusal.{WordsRefusal}
use Rattle.refusals.specs.declared.Refusal.{Refusal}
use Rattle.refusals.specs.declared.Unbuilt.{Unbuilt}
use Rattle.tree_base.specs.Answers.{◌>>=◌}

-- a command that runs something speaks with an Engine
makes_some : (command : Command) (aim : Aim) → aim_for command ≡ Some aim → makes_hands command ≡ true
makes_some (Command.Config json quiet) aim e = absurd (cc e)
makes_some (Command.Up orphans wait seconds scale) aim e = refl
makes_some (Command.Down orphans volumes seconds) aim e = refl
makes_some (Command.Simulate number) aim e = absurd (cc e)
makes_some Command.Wait aim e = refl
makes_some Command.Logs aim e = refl
makes_some (Command.EngineSim connections) aim e = absurd (cc e)

module _ (env : Variables) where
  -- options that are asked for use no variable that names no Engine
  good_host : (options asked : Options) (built bad : Bool) → has_bad_host options env ≡ bad
      → unless_refused options (if not built then Some (Refusal.NotBuilt Unbuilt.Words) else if bad then Some (Refusal.Words WordsRefusal.BadHost) else None) ≡ Ok asked → has_bad_host asked env ≡ false
  good_host options asked false bad e h = absurd (cc h)
  good_host options asked true true e h = absurd (cc h)
  good_host options asked true false e h = let same : options ≡ asked = cc h in subst (λ (o : Options). has_bad_host o env ≡ false) same e

  good_hosts_of : (read : Result Options WordsRefusal) (asked : Options) → (read_or_refused read >>= asked_or_not env) ≡ Ok asked → has_bad_host asked env ≡ false
  good_hosts_of (Ok options) asked h = good_host options asked (are_built options) (has_bad_host options env) refl h
  good_hosts_of (Err refusal) asked h = absurd (cc h)

  pub reachable : (words : List (List ℕ)) (options : Options) (directory : List ℕ) (aim : Aim) → options_asked words env ≡ Ok options → aim_for options.command ≡ Some aim → IsReachable options env directory
  reachable words options directory aim asked runs = good_hosts options env directory (makes_some options.command aim runs) (good_hosts_of (options_of words) options asked)
