-- How many workers words ask for.
use Rattle.std.proofs.Common.{◌≡◌, ℕ, List, Ok, Err, Some, None, ap, subst}
use Rattle.std.specs.Prelude.{Option, Result, IfOk}
use Rattle.asked_project.specs.Asking.{Variables, asked_or_not, options_asked, options_refusal, read_or_refused, unless_refused}
use Rattle.compose_words.proofs.BoundLemmas.{options_of-bounded}
use Rattle.compose_words.specs.Bounds.{IsBounded}
use Rattle.compose_words.specs.Reading.{options_of}
use Rattle.compose_words.specs.declared.Options.{Options}
use Rattle.compose_words.specs.declared.WordsRefusal.{WordsRefusal}
use Rattle.repeated_runs.specs.Workers.{workers_asked, workers_in}
use Rattle.refusals.specs.declared.Refusal.{Refusal}
use Rattle.tree_base.specs.Answers.{◌>>=◌}

-- options that aren't refused are those that were read
unrefused : (options asked : Options) (refusal : Option Refusal) → unless_refused options refusal ≡ Ok asked → options ≡ asked
unrefused options asked None h = cc h
unrefused options asked (Some refusal) h = absurd (cc h)

module _ (env : Variables) where
  bounded_so : (read : Result Options WordsRefusal) (asked : Options) → IfOk read IsBounded → (read_or_refused read >>= asked_or_not env) ≡ Ok asked → IsBounded asked
  bounded_so (Ok options) asked bounded h = subst IsBounded (unrefused options asked (options_refusal env options) h) bounded
  bounded_so (Err refusal) asked bounded h = absurd (cc h)

  -- words ask for 1 to 16 workers
  pub bounded : (words : List (List ℕ)) (options : Options) → options_asked words env ≡ Ok options → IsBounded options
  bounded words options asked = bounded_so (options_of words) options (options_of-bounded words) asked

-- the workers that words ask for are those of their options
pub workers_are : (words : List (List ℕ)) (env : Variables) (options : Options) → options_asked words env ≡ Ok options → workers_asked words env ≡ options.parallel
workers_are words env options asked = ap workers_in asked
