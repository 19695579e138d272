-- What new hands leave together, by what is said of each pair of a hand before and after.
use Rattle.std.proofs.Common.{◌≡◌, ℕ, zero, suc, ◌+◌, ◌<◌, List, [], ◌∷◌, Some, get_or, length, refl, sym, ap, ◌∙◌, subst, inl, inr, arith}
use Rattle.std.specs.Prelude.{All, slice_get}
use Rattle.compose_cli.specs.Runs as cli
use Rattle.compose_cli.specs.Runs.{IsCausedAnew}
use Rattle.engine_types.specs.declared.Entry.{Entry}
use Rattle.engine_types.specs.declared.Exchange.{Exchange}
use Rattle.ledger_run.specs.Tellings.{Telling, account_in}
use Rattle.outside_api.specs.Accounts.{account}
use Rattle.outside_api.specs.Clock.{Clock, new_clock}
use Rattle.parallel_run.specs.Together as together
use Rattle.parallel_run.specs.Together.{HasRun, LeavesTogether}
use Rattle.project_run.specs.Timing.{IsTimed, ReadsFirst}
use Rattle.project_run.specs.Whole.{IfBegun, IsCaused}
use Rattle.repeated_runs.specs.Hands.{AreNew, IsNew}
use Rattle.repeated_runs.specs.Running.{RunsNew}
use Rattle.run_model.specs.EngineRules.{Among}
use Rattle.run_model.specs.Logs.{GrowsBy}
use Rattle.run_model.specs.Runs.{Task, run_exchanges}
use Rattle.worker_pool.specs.Crew.{EachPair}

-- the first reading of hand 0's clock, as the run's own contract has it
pub same_reading : {H : Type 0} (clock : H → Clock) (hands : List H) → together.first_reading clock hands ≡ cli.first_reading clock hands
same_reading clock [] = refl
same_reading clock (hand ∷ others) = refl

-- what is said of each place of two lists is said of an item of the second, and of one of the first
at_place : {X : Type 0} (Fact : ℕ → X → X → Type 0) (n : ℕ) (xs ys : List X) → EachPair Fact n xs ys → (k : ℕ) (y : X) → slice_get ys k ≡ Some y → (x : X) × Among xs x × Fact (n + k) x y
at_place Fact n [] [] each k y m = absurd (cc m)
at_place Fact n [] (z ∷ ys) each k y m = absurd each
at_place Fact n (x ∷ xs) [] each k y m = absurd each
at_place Fact n (x ∷ xs) (z ∷ ys) each zero y m =
    let same : z ≡ y = cc m in let place : n ≡ n + 0 = omega arith in
    (x, inl refl, subst (λ (w : ℕ). Fact w x y) place (subst (Fact n x) same each.0))
at_place Fact n (x ∷ xs) (z ∷ ys) each (suc k) y m =
    let found = at_place Fact (n + 1) xs ys each.1 k y m in let place : (n + 1) + k ≡ n + suc k = omega arith in
    (found.0, inr found.1, subst (λ (w : ℕ). Fact w found.0 y) place found.2)

among_get : {X : Type 0} (xs : List X) (k : ℕ) (d : X) → k < length xs → Among xs (get_or xs k d)
among_get [] k d l = absurd (omega (arith, l))
among_get (x ∷ xs) zero d l = inl refl
among_get (x ∷ xs) (suc k) d l = inr (among_get xs k d (omega (arith, l)))

-- the clocks of new hands were never used
pub clocks_unread : {H : Type 0} (tell : H → Telling) (hands : List H) → AreNew tell hands → All (λ h. (tell h).clock ≡ new_clock) hands
clocks_unread tell hands fresh k d l = (fresh (get_or hands k d) (among_get hands k d l)).unread

-- two such lists are as long
pub as_many : {X : Type 0} (Fact : ℕ → X → X → Type 0) (n : ℕ) (xs ys : List X) → EachPair Fact n xs ys → length ys ≡ length xs
as_many Fact n [] [] each = refl
as_many Fact n [] (y ∷ ys) each = absurd each
as_many Fact n (x ∷ xs) [] each = absurd each
as_many Fact n (x ∷ xs) (y ∷ ys) each = let rest : length ys ≡ length xs = as_many Fact (n + 1) xs ys each.1 in omega (arith, rest)

-- as many hands come back, whether the run began or not
pub long_by : {H : Type 0} (tell : H → Telling) (task : Task) (journal : List Entry) (before after : List H) → (journal ≡ [] → after ≡ before) → IfBegun journal (LeavesTogether tell task journal before after) → length after ≡ length before
long_by {H} tell task [] before after same leaves = ap (length {A = H}) (same refl)
long_by {H} tell task (entry ∷ rest) before after same leaves = as_many (λ (n : ℕ) (x y : H). HasRun task (entry ∷ rest) n (tell x) (tell y)) 0 before after leaves.hands

module _ {H : Type 0} (tell : H → Telling) (task : Task) (journal : List Entry) (before after : List H) (fresh : AreNew tell before) (many : task.limits.workers ≡ length before) (leaves : LeavesTogether tell task journal before after) where
  -- what is said of each hand of a run is said of the hand of each worker, by what this one told when it was new
  at_worker : (w : ℕ) (hand : H) → slice_get after w ≡ Some hand → (was : Telling) × IsNew was × HasRun task journal w was (tell hand)
  at_worker w hand m =
      let found = at_place (λ (n : ℕ) (x y : H). HasRun task journal n (tell x) (tell y)) 0 before after leaves.hands w hand m in let place : 0 + w ≡ w = omega arith in
      (tell found.0, fresh found.0 found.1, subst (λ (n : ℕ). HasRun task journal n (tell found.0) (tell hand)) place found.2)

  log : (w : ℕ) (hand : H) → slice_get after w ≡ Some hand → GrowsBy (run_exchanges task journal w) [] (tell hand).log
  log w hand m = let f = at_worker w hand m in subst (λ (l : List Exchange). GrowsBy (run_exchanges task journal w) l (tell hand).log) f.1.unused f.2.log

  cause : (w : ℕ) (hand : H) → slice_get after w ≡ Some hand → IsCausedAnew task journal w (account_in (tell hand))
  cause w hand m =
      let f = at_worker w hand m in (
        f.0.heard,
        f.1.unheard,
        subst (λ (n : ℕ). IsCaused task journal w (account [] f.0.heard n) (account_in (tell hand))) f.1.faultless
            (subst (λ (l : List Exchange). IsCaused task journal w (account l f.0.heard f.0.faults) (account_in (tell hand))) f.1.unused f.2.caused),
      )

  timed : (w : ℕ) (hand : H) → slice_get after w ≡ Some hand → IsTimed task journal w new_clock (tell hand).clock
  timed w hand m = let f = at_worker w hand m in subst (λ (c : Clock). IsTimed task journal w c (tell hand).clock) f.1.unread f.2.timed

  read_first : (hand : H) → slice_get after 0 ≡ Some hand → ReadsFirst task.limits.deadline 0 (tell hand).clock
  read_first hand m = let f = at_worker 0 hand m in subst (λ (l : List Exchange). ReadsFirst task.limits.deadline (length l) (tell hand).clock) f.1.unused (f.2.read_first refl)

  as_long : length after ≡ length before
  as_long = as_many (λ (n : ℕ) (x y : H). HasRun task journal n (tell x) (tell y)) 0 before after leaves.hands

  -- what new hands left together
  pub runs_together : RunsNew tell task journal after
  runs_together = record {
    legal = leaves.run;
    left = leaves.left;
    as_many = as_long ∙ sym many;
    log = log;
    cause = cause;
    timed = timed;
    read_first = read_first;
  }
