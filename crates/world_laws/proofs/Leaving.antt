-- The only worker of a run that came to its end has left.
use Rattle.std.proofs.Common.{◌≡◌, ◌⊎◌, ℕ, ◌<◌, Bool, true, false, ◌||◌, List, [], ◌∷◌, reverse, refl, sym, ◌∙◌, inl, inr, arith}
use Rattle.std.specs.List.{list_any}
use Rattle.engine_types.specs.declared.Entry.{Entry}
use Rattle.run_model.specs.Ending.{EveryWorkerLeft, IsFinal}
use Rattle.run_model.specs.Journals.{has_left}
use Rattle.run_model.specs.Numbers.{numbers_from}
use Rattle.run_model.specs.Runs.{run_setup}
use Rattle.world_laws.specs.Laws.{OneWorkerLeaves}

sure : (b : Bool) → (b || false) ≡ true → b ≡ true
sure true e = refl
sure false e = absurd (cc e)

one_left : (past : List Entry) (n w : ℕ) → n ≡ 1 → list_any (has_left past) (numbers_from 0 n) ≡ true → w < n → has_left past w ≡ true
one_left past n w one left below =
    let here : list_any (has_left past) (0 ∷ []) ≡ true = rw one at left in
    let first : w ≡ 0 = omega (arith, below, one) in
    rw first (sure (has_left past 0) here)

pub one_worker_leaves : OneWorkerLeaves
one_worker_leaves task journal one run good = at run.over
  where
    at : IsFinal (run_setup task journal) (reverse journal) → EveryWorkerLeft (run_setup task journal) (reverse journal)
    at (inl bad) = let wrong : true ≡ false = sym bad ∙ good in absurd (cc wrong)
    at (inr over) = λ w below. one_left (reverse journal) task.limits.workers w one over.left below
