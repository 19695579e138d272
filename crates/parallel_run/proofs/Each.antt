-- What is said of each hand of a run.
use Rattle.std.proofs.Common.{◌≡◌, ℕ, ◌+◌, ◌<◌, List, [], ◌∷◌, length, ap, arith}
use Rattle.std.specs.Prelude.{All}
use Rattle.engine_types.specs.declared.Entry.{Entry}
use Rattle.ledger_run.specs.Tellings.{Telling, account_in}
use Rattle.outside_api.specs.Clock.{Clock, new_clock}
use Rattle.parallel_run.specs.Together.{HasRun, first_reading}
use Rattle.project_run.specs.Timing.{IsTimed, ReadsFirst}
use Rattle.project_run.specs.Whole.{IsCaused}
use Rattle.run_model.specs.Logs.{GrowsBy}
use Rattle.run_model.specs.Runs.{Task, run_exchanges}
use Rattle.worker_pool.specs.Crew.{EachPair}

-- what follows at a place follows at each
each_of : {X Y : Type 0} (P Q : ℕ → X → Y → Type 0) → ((n : ℕ) (x : X) (y : Y) → P n x y → Q n x y) → (n : ℕ) (xs : List X) (ys : List Y) → EachPair P n xs ys → EachPair Q n xs ys
each_of P Q to n [] [] each = tt
each_of P Q to n [] (y ∷ ys) each = absurd each
each_of P Q to n (x ∷ xs) [] each = absurd each
each_of P Q to n (x ∷ xs) (y ∷ ys) each = (to n x y each.0, each_of P Q to (n + 1) xs ys each.1)

-- what holds of each hand that stays as it was
pub each_same : {X : Type 0} (P : ℕ → X → X → Type 0) → ((n : ℕ) (x : X) → P n x x) → (n : ℕ) (xs : List X) → EachPair P n xs xs
each_same P all n [] = tt
each_same P all n (x ∷ xs) = (all n x, each_same P all (n + 1) xs)

module _ {H : Type 0} (tell : H → Telling) (task : Task) (journal : List Entry) (xs ys : List H) (each : EachPair (λ w x y. HasRun task journal w (tell x) (tell y)) 0 xs ys) where
  pub logs : EachPair (λ w x y. GrowsBy (run_exchanges task journal w) (tell x).log (tell y).log) 0 xs ys
  logs = each_of (λ (w : ℕ) (x y : H). HasRun task journal w (tell x) (tell y)) (λ (w : ℕ) (x y : H). GrowsBy (run_exchanges task journal w) (tell x).log (tell y).log)
      (λ w x y ran. ran.log) 0 xs ys each

  pub causes : EachPair (λ w x y. IsCaused task journal w (account_in (tell x)) (account_in (tell y))) 0 xs ys
  causes = each_of (λ (w : ℕ) (x y : H). HasRun task journal w (tell x) (tell y)) (λ (w : ℕ) (x y : H). IsCaused task journal w (account_in (tell x)) (account_in (tell y)))
      (λ w x y ran. ran.caused) 0 xs ys each

  pub times : EachPair (λ w x y. IsTimed task journal w (tell x).clock (tell y).clock) 0 xs ys
  times = each_of (λ (w : ℕ) (x y : H). HasRun task journal w (tell x) (tell y)) (λ (w : ℕ) (x y : H). IsTimed task journal w (tell x).clock (tell y).clock)
      (λ w x y ran. ran.timed) 0 xs ys each

  pub firsts : EachPair (λ w x y. w ≡ 0 → ReadsFirst task.limits.deadline (length (tell x).log) (tell y).clock) 0 xs ys
  firsts = each_of (λ (w : ℕ) (x y : H). HasRun task journal w (tell x) (tell y)) (λ (w : ℕ) (x y : H). w ≡ 0 → ReadsFirst task.limits.deadline (length (tell x).log) (tell y).clock)
      (λ w x y ran. ran.read_first) 0 xs ys each

-- hand 0's clock was never read where no hand's was
pub never_read : {H : Type 0} (clock : H → Clock) (hands : List H) → 0 < length hands → All (λ h. clock h ≡ new_clock) hands → first_reading clock hands ≡ 0
never_read clock [] some unused = absurd (omega (arith, some))
never_read clock (hand ∷ others) some unused = ap (λ (c : Clock). c.first) (unused 0 hand (omega arith))
