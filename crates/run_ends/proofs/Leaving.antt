-- A run that its workers left is over.
use Rattle.std.proofs.Common.{◌≡◌, ◌⊎◌, ℕ, ◌<◌, ◌≤◌, Bool, true, false, ◌||◌, List, [], ◌∷◌, length, refl, sym, ap, ◌∙◌, subst, inl, inr, arith}
use Rattle.std.proofs.lemmas.Bool.{eq-eqb, true≢false}
use Rattle.std.specs.List.{list_all, list_any}
use Rattle.engine_types.specs.declared.Aim.{Aim}
use Rattle.engine_types.specs.declared.Entry.{Entry}
use Rattle.engine_types.specs.declared.LateWhy.{LateWhy}
use Rattle.run_model.specs.Conditions.{is_blocked}
use Rattle.run_model.specs.Ending.{EveryWorkerLeft, IsRunOver, is_goal_over, is_over}
use Rattle.run_model.specs.Journals.{Setup, has_left, is_badly, is_ending, is_open, is_well, standing}
use Rattle.run_model.specs.Legal.{IsLegal, workers}
use Rattle.run_model.specs.Numbers.{places}
use Rattle.run_model.specs.Plans.{IsOrderly, IsWhole}
use Rattle.run_model.proofs.DistinctLists.{among_numbers, from_numbers}
use Rattle.run_model.proofs.KeptLaws.{any_of_list}
use Rattle.ledger_rows.specs.Facts.{facts_of}
use Rattle.ledger_rows.proofs.Fixed.{are_blocked, unique}
use Rattle.run_ends.proofs.Holders.{left_idle, open_below}
use Rattle.run_ends.proofs.Lists.{all_pass}
use Rattle.run_ends.proofs.Over.{goal_over, over}
use Rattle.run_ends.proofs.Quiet.{IsQuiet, quiet}
use Rattle.run_ends.specs.Laws.{FirstLeaveEndsRun, IsAllOver, LastLeavesEndRuns, LeftRunsAreOver, RunsComeToTheirEnd}

-- the worker that leaves last is one that has left
left_here : (setup : Setup) (past : List Entry) (w : ℕ) → w < setup.limits.workers → has_left past w ≡ true → list_any (has_left past) (workers setup) ≡ true
left_here setup past w l e = any_of_list (has_left past) (workers setup) w (among_numbers 0 setup.limits.workers w (omega arith) (omega (arith, l))) e

module _ (aim : Aim) (setup : Setup) (whole : IsWhole setup.declared) (orderly : IsOrderly setup.declared setup.actions) where
  -- what a worker finds that leaves a run which isn't ending
  all_over : (past : List Entry) (w : ℕ) → IsLegal aim setup (Entry.Leave w ∷ past) → is_ending past ≡ false → IsAllOver setup (Entry.Leave w ∷ past)
  all_over past w legal going = record {
    actions = all_pass (is_over setup (Entry.Leave w ∷ past)) (places setup.actions) (λ a m. let r = from_numbers 0 (length setup.actions) a m in action a (omega (arith, r.1)));
    goals = all_pass (is_goal_over setup (Entry.Leave w ∷ past)) (places setup.declared.slots)
        (λ s m. let r = from_numbers 0 (length setup.declared.slots) s m in goal_over aim setup past whole orderly legal.0 still s (omega (arith, r.1)));
  }
    where
      still : IsQuiet setup past
      still = quiet setup past w legal.1.0 legal.1.1 going

      -- who leaves blocks nothing
      same : (a : ℕ) → is_blocked setup (Entry.Leave w ∷ past) a ≡ is_blocked setup past a
      same = unique setup orderly (facts_of setup past) (is_blocked setup (Entry.Leave w ∷ past)) (is_blocked setup past) (are_blocked setup orderly (Entry.Leave w ∷ past)) (are_blocked setup orderly past)

      action : (a : ℕ) → a < length setup.actions → is_over setup (Entry.Leave w ∷ past) a ≡ true
      action a l = ap (λ (t : Bool). is_well (standing setup past a) || is_badly (standing setup past a) || t) (same a) ∙ over aim setup past whole orderly legal.0 still a l

  first_leave : (past : List Entry) (w : ℕ) → IsLegal aim setup (Entry.Leave w ∷ past) → is_ending past ≡ false → IsRunOver setup (Entry.Leave w ∷ past)
  first_leave past w legal going =
      let all = all_over past w legal going in
      record {
        none_out = (quiet setup past w legal.1.0 legal.1.1 going).none_out;
        left = left_here setup (Entry.Leave w ∷ past) w legal.1.0.below (rw (eq-eqb w w refl) refl);
        over = inr (all.actions, all.goals);
      }

  -- a run that was stopped is over once every worker has left
  stopped : (past : List Entry) → IsLegal aim setup past → 1 ≤ setup.limits.workers → EveryWorkerLeft setup past → is_ending past ≡ true → IsRunOver setup past
  stopped past legal some left ending = record {
    none_out = λ w l. left_idle aim setup past w legal (left w l);
    left = left_here setup past 0 (omega (arith, some)) (left 0 (omega (arith, some)));
    over = inl ending;
  }

  last_leave : (past : List Entry) (w : ℕ) → IsLegal aim setup (Entry.Leave w ∷ past) → EveryWorkerLeft setup (Entry.Leave w ∷ past) → IsRunOver setup (Entry.Leave w ∷ past)
  last_leave past w legal left = at (is_ending past) refl
    where
      at : (t : Bool) → is_ending past ≡ t → IsRunOver setup (Entry.Leave w ∷ past)
      at true h = stopped (Entry.Leave w ∷ past) legal (let below = legal.1.0.below in omega (arith, below)) left h
      at false h = first_leave past w legal h

  -- whoever may call hasn't left
  still_here : (past : List Entry) (w : ℕ) → EveryWorkerLeft setup past → w < setup.limits.workers → has_left past w ≡ false → ⊥
  still_here past w left l here = true≢false (sym (left w l) ∙ here)

  left_over : (past : List Entry) → 1 ≤ setup.limits.workers → IsLegal aim setup past → EveryWorkerLeft setup past → IsRunOver setup past
  left_over [] some legal left = absurd (true≢false (sym (left 0 (omega (arith, some)))))
  left_over (Entry.Leave w ∷ past) some legal left = last_leave past w legal left
  left_over (Entry.Short w ∷ past) some legal left = stopped (Entry.Short w ∷ past) legal some left refl
  left_over (Entry.Late w LateWhy.Entries ∷ past) some legal left = stopped (Entry.Late w LateWhy.Entries ∷ past) legal some left refl
  left_over (Entry.Late w (LateWhy.Deadline reading) ∷ past) some legal left = stopped (Entry.Late w (LateWhy.Deadline reading) ∷ past) legal some left refl
  left_over (Entry.Stop w ∷ past) some legal left = stopped (Entry.Stop w ∷ past) legal some left refl
  left_over (Entry.Claim w a ∷ past) some legal left = absurd (still_here past w left legal.1.0.below legal.1.0.here)
  left_over (Entry.Poll w s ∷ past) some legal left = absurd (still_here past w left legal.1.0.below legal.1.0.here)
  left_over (Entry.Idle w ∷ past) some legal left = absurd (still_here past w left legal.1.0.below legal.1.0.here)
  left_over (Entry.Seen observation ∷ past) some legal left =
      let bad : false ≡ true = subst (λ (xs : List Entry). has_left xs 0 ≡ true) legal.1.0 (left 0 (omega (arith, some))) in absurd (cc bad)
  left_over (Entry.Ended w outcome ∷ past) some legal left =
      let idle = left_idle aim setup past w legal.0 (left w (open_below aim setup past w legal.0 legal.1)) in
      let bad : false ≡ true = sym (ap is_open idle) ∙ legal.1 in absurd (cc bad)

  -- where nobody was stopped, the last entry is that of the worker that left last
  unstopped : (past : List Entry) → 1 ≤ setup.limits.workers → IsLegal aim setup past → EveryWorkerLeft setup past → is_ending past ≡ false → IsAllOver setup past
  unstopped past some legal left going = at (left_over past some legal left).over
    where
      at : (is_ending past ≡ true) ⊎ ((list_all (is_over setup past) (places setup.actions) ≡ true) × (list_all (is_goal_over setup past) (places setup.declared.slots) ≡ true)) → IsAllOver setup past
      at (inl e) = absurd (true≢false (sym e ∙ going))
      at (inr all) = record { actions = all.0; goals = all.1 }

pub runs_end : RunsComeToTheirEnd
runs_end aim setup past some whole orderly legal left going = unstopped aim setup whole orderly past some legal left going

pub first_ends : FirstLeaveEndsRun
first_ends aim setup past w whole orderly legal going = first_leave aim setup whole orderly past w legal going

pub last_ends : LastLeavesEndRuns
last_ends aim setup past w whole orderly legal left = last_leave aim setup whole orderly past w legal left

pub left_ends : LeftRunsAreOver
left_ends aim setup past some whole orderly legal left = left_over aim setup whole orderly past some legal left
