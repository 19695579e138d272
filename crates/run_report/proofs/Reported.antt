-- Where no entry failed before it, a report's fault is the first condition that it fails of what nobody claimed, and then the goal.
use Rattle.std.proofs.Common.{◌≡◌, ◌≢◌, ◌⊎◌, ℕ, zero, suc, ◌+◌, ◌<◌, ◌≤◌, Bool, true, false, cond, not, ◌&&◌, ◌||◌, ◌==◌, List, [], ◌∷◌, length, map, slice_get, Option, Some, None, refl, sym, ap, ◌∙◌, inl, inr, arith}
use Rattle.std.proofs.lemmas.Bool.{cases_eq, eq-eqb, eqb-true, ne_eqb}
use Rattle.std.proofs.lemmas.List.Folds.{find-append}
use Rattle.std.proofs.lemmas.Option.{slice_get_within}
use Rattle.std.specs.Option.{option_map_or, option_or}
use Rattle.std.specs.Prelude.{find, flat_map, if◌then◌else◌, option_and_then, option_map}
use Rattle.engine_types.specs.declared.Condition.{Condition}
use Rattle.engine_types.specs.declared.Entry.{Entry}
use Rattle.engine_types.specs.declared.Need.{Need}
use Rattle.engine_types.specs.declared.Outcome.{Outcome}
use Rattle.engine_types.specs.declared.Report.{Report}
use Rattle.engine_types.specs.declared.RunFault.{RunFault}
use Rattle.engine_types.specs.declared.Slot.{Slot}
use Rattle.run_model.specs.Conditions.{fails, goal_of, has_failed, is_blocked, is_failed_verdict, is_pending, is_started, judge, poll_counts, report_of}
use Rattle.run_model.specs.Ending.{Failing, ended_fault, exchange_fault, fails_now, fault_of, first_fault, report_fault, slot_name, wanted_conditions}
use Rattle.run_model.specs.EngineRules.{Among}
use Rattle.run_model.specs.Journals.{Holding, Nothing, Setup, Watch, Work, holding, is_free, is_watch_of, standing}
use Rattle.run_model.specs.Numbers.{numbers_from, places}
use Rattle.run_model.specs.Plans.{kind_of, slot_at, slot_needs}
use Rattle.run_model.specs.Requests.{request_out}
use Rattle.run_model.proofs.DistinctLists.{among_map, among_numbers, among_right}
use Rattle.world_laws.proofs.Ended.{none_badly, none_found, none_lost, not_blocked, without_fault}
use Rattle.run_report.specs.Claims.{was_claimed}
use Rattle.run_report.specs.Conditions.{failed_by_start, failed_by_starts, failed_condition, failed_goal, failed_of, failed_wanted, fails_need, first_some, goal_against, is_against}
use Rattle.run_report.proofs.Claimed.{free_is}

or_false : (t : Bool) → (t || false) ≡ t
or_false true = refl
or_false false = refl

and_false : (t : Bool) → (t && false) ≡ false
and_false true = refl
and_false false = refl

-- where no report of the slot came, a condition fails as before
failed_as : (setup : Setup) (past : List Entry) (v : ℕ) (outcome : Outcome) (t : ℕ) (c : Condition) → is_watch_of t (holding past v) ≡ false
    → has_failed setup (Entry.Ended v outcome ∷ past) t c ≡ has_failed setup past t c
failed_as setup past v outcome t c h = by (not (is_started c)) (is_watch_of t (holding past v)) (fails c outcome (poll_counts setup past v)) (has_failed setup past t c) h
  where
    by : (u x y z : Bool) → x ≡ false → ((u && x && y) || z) ≡ z
    by true false y z e = refl
    by true true y z e = absurd (cc e)
    by false x y z e = refl

-- the goal of a slot
abbrev goal_at : Setup → ℕ → Failing
goal_at setup t = record { slot = t; condition = goal_of setup t }

goal_wanted : (setup : Setup) (past : List Entry) (t : ℕ) → setup.limits.wait ≡ true → Among (places setup.declared.slots) t → Among (wanted_conditions setup past) (goal_at setup t)
goal_wanted setup past t waits m =
    let here : Among (if setup.limits.wait then map (goal_at setup) (places setup.declared.slots) else []) (goal_at setup t) = rw waits (among_map (goal_at setup) (places setup.declared.slots) t m) in
    among_right _ (if setup.limits.wait then map (goal_at setup) (places setup.declared.slots) else []) (goal_at setup t) here

-- a goal doesn't fail by an entry without a fault
goal_stays : (setup : Setup) (past : List Entry) (entry : Entry) (t : ℕ) → setup.limits.wait ≡ true → Among (places setup.declared.slots) t → fault_of setup past entry ≡ None
    → has_failed setup past t (goal_of setup t) ≡ false → has_failed setup (entry ∷ past) t (goal_of setup t) ≡ false
goal_stays setup past (Entry.Ended v outcome) t waits m h e = at (holding past v) refl
  where
    not_new : (old new : Bool) → old ≡ false → (not old && new) ≡ false → new ≡ false
    not_new false new k f = f
    not_new true new k f = absurd (cc k)

    unfound : (o : Option Failing) (f : Failing → RunFault) → option_map f o ≡ None → o ≡ None
    unfound None f k = refl
    unfound (Some x) f k = absurd (cc k)

    reported : (s : ℕ) (o : Option Report) → holding past v ≡ Watch s → report_of outcome ≡ o → has_failed setup (Entry.Ended v outcome ∷ past) t (goal_of setup t) ≡ false
    reported s (Some report) k r =
        let g : report_fault setup past (Entry.Ended v outcome) report ≡ None = rw (k, r) at h in
        not_new (has_failed setup past t (goal_of setup t)) (has_failed setup (Entry.Ended v outcome ∷ past) t (goal_of setup t)) e
        (none_found (fails_now setup past (Entry.Ended v outcome)) (wanted_conditions setup past) (goal_at setup t) (unfound _ _ g) (goal_wanted setup past t waits m))
    reported s None k r = let g : Some (exchange_fault (request_out setup past v) outcome) ≡ None = rw (k, r) at h in absurd (cc g)

    at : (x : Holding) → holding past v ≡ x → has_failed setup (Entry.Ended v outcome ∷ past) t (goal_of setup t) ≡ false
    at Nothing k = failed_as setup past v outcome t (goal_of setup t) (ap (is_watch_of t) k) ∙ e
    at (Work b) k = failed_as setup past v outcome t (goal_of setup t) (ap (is_watch_of t) k) ∙ e
    at (Watch s) k = reported s (report_of outcome) k refl
goal_stays setup past entry t waits m h e = e

goals_stand : (setup : Setup) (past : List Entry) (t : ℕ) → setup.limits.wait ≡ true → Among (places setup.declared.slots) t → first_fault setup past ≡ None → has_failed setup past t (goal_of setup t) ≡ false
goals_stand setup [] t waits m h = refl
goals_stand setup (entry ∷ past) t waits m h =
    let k = without_fault setup entry past h in goal_stays setup past entry t waits m k.here (goals_stand setup past t waits m k.before)

module _ {X : Type 0} where
  found_none : (p : X → Bool) (xs : List X) → ((x : X) → p x ≡ false) → find p xs ≡ None
  found_none p [] h = refl
  found_none p (x ∷ xs) h = ap (λ (t : Bool). cond t (Some x) (find p xs)) (h x) ∙ found_none p xs h

-- the one of some numbers that is looked for, where it passes
module _ {Y : Type 0} (p : Y → Bool) (f : ℕ → Y) (g : ℕ → Bool) (s : ℕ) where
  found_beyond : (i n : ℕ) → ((t : ℕ) → i ≤ t → t < i + n → s ≡ t → ⊥) → ((t : ℕ) → i ≤ t → t < i + n → p (f t) ≡ ((s == t) && g t)) → find p (map f (numbers_from i n)) ≡ None
  found_beyond i zero apart is = refl
  found_beyond i (suc n) apart is =
      ap (λ (t : Bool). cond t (Some (f i)) (find p (map f (numbers_from (i + 1) n))))
      (is i (omega arith) (omega arith) ∙ ap (λ (t : Bool). t && g i) (ne_eqb s i (apart i (omega arith) (omega arith))))
      ∙ found_beyond (i + 1) n (λ t a b. apart t (omega (arith, a)) (omega (arith, b))) (λ t a b. is t (omega (arith, a)) (omega (arith, b)))

  found_number : (i n : ℕ) → i ≤ s → s < i + n → ((t : ℕ) → i ≤ t → t < i + n → p (f t) ≡ ((s == t) && g t))
      → find p (map f (numbers_from i n)) ≡ (if g s then Some (f s) else None)
  found_number i zero lo hi is = absurd (omega (arith, lo, hi))
  found_number i (suc n) lo hi is = on (cases_eq s i) (λ further. found_number (i + 1) n further (omega (arith, hi)) (λ t a b. is t (omega (arith, a)) (omega (arith, b))))
    where
      step : (t : Bool) → ((s == i) && g i) ≡ t → p (f i) ≡ t
      step t e = is i (omega arith) (omega arith) ∙ e

      here : s ≡ i → (t : Bool) → g s ≡ t → cond (p (f i)) (Some (f i)) (find p (map f (numbers_from (i + 1) n))) ≡ (if t then Some (f s) else None)
      here k true e =
          ap (λ (t : Bool). cond t (Some (f i)) (find p (map f (numbers_from (i + 1) n)))) (step true (ap (λ (t : Bool). t && g i) (eq-eqb s i k) ∙ ap g (sym k) ∙ e))
          ∙ ap (λ (m : ℕ). Some (f m)) (sym k)
      here k false e =
          ap (λ (t : Bool). cond t (Some (f i)) (find p (map f (numbers_from (i + 1) n)))) (step false (ap (λ (t : Bool). t && g i) (eq-eqb s i k) ∙ ap g (sym k) ∙ e))
          ∙ found_beyond (i + 1) n (λ t a b same. let x : s ≡ t = same in omega (arith, k, a, x)) (λ t a b. is t (omega (arith, a)) (omega (arith, b)))

      on : (s ≡ i) ⊎ (s ≡ i → ⊥) → (i + 1 ≤ s → find p (map f (numbers_from (i + 1) n)) ≡ (if g s then Some (f s) else None))
          → cond (p (f i)) (Some (f i)) (find p (map f (numbers_from (i + 1) n))) ≡ (if g s then Some (f s) else None)
      on (inl k) rest = here k (g s) refl
      on (inr k) rest =
          ap (λ (t : Bool). cond t (Some (f i)) (find p (map f (numbers_from (i + 1) n)))) (step false (ap (λ (t : Bool). t && g i) (ne_eqb s i k)))
          ∙ rest (let h : s ≢ i = k in omega (arith, lo, h))

beyond : (slots : List Slot) (s : ℕ) → slice_get slots s ≡ None → length slots ≤ s
beyond [] s e = omega arith
beyond (slot ∷ slots) zero e = absurd (cc e)
beyond (slot ∷ slots) (suc s) e = let r = beyond slots s e in omega (arith, r)

-- a report on a slot that a worker looks at, after entries of which none failed
module _ (setup : Setup) (past : List Entry) (v s : ℕ) (outcome : Outcome) (report : Report) (none : first_fault setup past ≡ None)
    (held : holding past v ≡ Watch s) (told : report_of outcome ≡ Some report) where
  abbrev now : Failing → Bool
  now = fails_now setup past (Entry.Ended v outcome)

  -- a condition on a slot, and on this one
  abbrev failing_at : ℕ → Condition → Failing
  failing_at t c = record { slot = t; condition = c }

  abbrev failing : Condition → Failing
  failing c = failing_at s c

  fails_as : (c : Condition) → fails c outcome (poll_counts setup past v) ≡ (poll_counts setup past v && is_against report c)
  fails_as c = ap (λ (o : Option Report). option_map_or (λ (r : Report). poll_counts setup past v && is_failed_verdict (judge c r)) o true) told

  -- where the report doesn't count, nothing fails by it
  nothing_fails : poll_counts setup past v ≡ false → (x : Failing) → now x ≡ false
  nothing_fails uncounted x =
      ap (λ (t : Bool). not (has_failed setup past x.slot x.condition) && ((not (is_started x.condition) && is_watch_of x.slot (holding past v) && t) || has_failed setup past x.slot x.condition))
      (fails_as x.condition ∙ ap (λ (t : Bool). t && is_against report x.condition) uncounted)
      ∙ as_before (not (is_started x.condition)) (is_watch_of x.slot (holding past v)) (has_failed setup past x.slot x.condition)
    where
      as_before : (t u w : Bool) → (not w && ((t && u && false) || w)) ≡ false
      as_before t u true = refl
      as_before true true false = refl
      as_before true false false = refl
      as_before false u false = refl

  module _ (counted : poll_counts setup past v ≡ true) where
    clean : (c : Condition) (t : Bool) → ((not (is_started c) && t && is_against report c) || false) ≡ (t && is_against report c)
    clean Condition.Started t = sym (and_false t)
    clean Condition.Healthy t = or_false (t && is_against report Condition.Healthy)
    clean Condition.Completed t = or_false (t && is_against report Condition.Completed)
    clean Condition.Running t = or_false (t && is_against report Condition.Running)

    now_is : (t : ℕ) (c : Condition) → has_failed setup past t c ≡ false → now (failing_at t c) ≡ ((s == t) && is_against report c)
    now_is t c e =
        ap (λ (u : Bool). not u && ((not (is_started c) && is_watch_of t (holding past v) && fails c outcome (poll_counts setup past v)) || u)) e
        ∙ ap (λ (u : Bool). (not (is_started c) && is_watch_of t (holding past v) && u) || false) (fails_as c ∙ ap (λ (u : Bool). u && is_against report c) counted)
        ∙ ap (λ (h : Holding). (not (is_started c) && is_watch_of t h && is_against report c) || false) held
        ∙ clean c (s == t)

    abbrev failing_of : Need → Failing
    failing_of need = failing_at need.slot need.condition

    abbrev of_need : Need → List Failing
    of_need need = if need.required then failing_of need ∷ [] else []

    abbrev of_start : ℕ → List Failing
    of_start a = if is_pending setup past a then flat_map of_need (slot_needs setup.declared (kind_of setup.actions a)) else []

    one_need : (a : ℕ) (need : Need) → is_free (standing setup past a) ≡ true → Among (slot_needs setup.declared (kind_of setup.actions a)) need
        → find now (of_need need) ≡ (if fails_need s report need then Some (failing need.condition) else None)
    one_need a need free m = by need.required refl
      where
        chosen : (t : Bool) → (s == need.slot) ≡ t → cond (t && is_against report need.condition) (Some (failing_of need)) None ≡ (if (t && is_against report need.condition) then Some (failing need.condition) else None)
        chosen true e = ap (λ (n : ℕ). cond (is_against report need.condition) (Some (failing_at n need.condition)) None) (sym (eqb-true s need.slot e))
        chosen false e = refl

        by : (t : Bool) → need.required ≡ t → find now (if t then failing_of need ∷ [] else []) ≡ (if (t && (s == need.slot) && is_against report need.condition) then Some (failing need.condition) else None)
        by true r = ap (λ (t : Bool). cond t (Some (failing_of need)) None) (now_is need.slot need.condition (none_lost setup past none a free need m r)) ∙ chosen (s == need.slot) refl
        by false r = refl

    -- the first of some needs, where each is as it is looked for
    first_need : (needs : List Need) → ((need : Need) → Among needs need → find now (of_need need) ≡ (if fails_need s report need then Some (failing need.condition) else None))
        → find now (flat_map of_need needs) ≡ option_map failing (failed_of s report needs)
    first_need [] each = refl
    first_need (need ∷ needs) each =
        find-append now (of_need need) (flat_map of_need needs)
        ∙ ap (λ (o : Option Failing). option_or o (find now (flat_map of_need needs))) (each need (inl refl))
        ∙ ap (option_or (if fails_need s report need then Some (failing need.condition) else None)) (first_need needs (λ other m. each other (inr m)))
        ∙ at (fails_need s report need)
      where
        at : (t : Bool) → option_or (if t then Some (failing need.condition) else None) (option_map failing (failed_of s report needs))
            ≡ option_map failing (option_map (λ (n : Need). n.condition) (cond t (Some need) (find (fails_need s report) needs)))
        at true = refl
        at false = refl

    one_start : (a : ℕ) → find now (of_start a) ≡ option_map failing (failed_by_start setup past s report a)
    one_start a = by (was_claimed past a) refl
      where
        needs : List Need
        needs = slot_needs setup.declared (kind_of setup.actions a)

        open_ : is_blocked setup past a ≡ false
        open_ = not_blocked setup past (none_badly setup past none) (none_lost setup past none) (length setup.actions) a

        pending : is_pending setup past a ≡ not (was_claimed past a)
        pending = ap (λ (u : Bool). is_free (standing setup past a) && not u) open_ ∙ all (is_free (standing setup past a)) ∙ free_is setup past a
          where
            all : (u : Bool) → (u && true) ≡ u
            all true = refl
            all false = refl

        by : (t : Bool) → was_claimed past a ≡ t → find now (of_start a) ≡ option_map failing (if t then None else failed_of s report needs)
        by true e = ap (λ (u : Bool). find now (if u then flat_map of_need needs else [])) (pending ∙ ap not e)
        by false e =
            ap (λ (u : Bool). find now (if u then flat_map of_need needs else [])) (pending ∙ ap not e)
            ∙ first_need needs (λ need m. one_need a need (free_is setup past a ∙ ap not e) m)

    first_start : (actions : List ℕ) → find now (flat_map of_start actions) ≡ option_map failing (first_some (failed_by_start setup past s report) actions)
    first_start [] = refl
    first_start (a ∷ more) =
        find-append now (of_start a) (flat_map of_start more)
        ∙ ap (λ (o : Option Failing). option_or o (find now (flat_map of_start more))) (one_start a)
        ∙ ap (option_or (option_map failing (failed_by_start setup past s report a))) (first_start more)
        ∙ at (failed_by_start setup past s report a)
      where
        at : (o : Option Condition) → option_or (option_map failing o) (option_map failing (first_some (failed_by_start setup past s report) more)) ≡ option_map failing (option_or o (first_some (failed_by_start setup past s report) more))
        at (Some c) = refl
        at None = refl

    goals : find now (if setup.limits.wait then map (goal_at setup) (places setup.declared.slots) else []) ≡ option_map failing (failed_goal setup s report)
    goals = by setup.limits.wait refl
      where
        against : ℕ → Bool
        against t = is_against report (goal_of setup t)

        each : setup.limits.wait ≡ true → (t : ℕ) → 0 ≤ t → t < 0 + length setup.declared.slots → now (goal_at setup t) ≡ ((s == t) && against t)
        each waits t lo hi = now_is t (goal_of setup t) (goals_stand setup past t waits (among_numbers 0 (length setup.declared.slots) t lo hi) none)

        told_goal : (slot : Slot) (t : Bool) → option_map failing (if t then Some slot.goal else None) ≡ (if t then Some (failing slot.goal) else None)
        told_goal slot true = refl
        told_goal slot false = refl

        at : setup.limits.wait ≡ true → (o : Option Slot) → slot_at setup.declared s ≡ o → find now (map (goal_at setup) (places setup.declared.slots)) ≡ option_map failing (option_and_then (goal_against report) o)
        at waits (Some slot) e =
            found_number now (goal_at setup) against s 0 (length setup.declared.slots) (omega arith) (let l = slice_get_within setup.declared.slots s slot e in omega (arith, l)) (each waits)
            ∙ ap (λ (o : Option Slot). if is_against report (option_map_or (λ (x : Slot). x.goal) o Condition.Running) then Some (failing (option_map_or (λ (x : Slot). x.goal) o Condition.Running)) else None) e
            ∙ sym (told_goal slot (is_against report slot.goal))
        at waits None e = found_beyond now (goal_at setup) against s 0 (length setup.declared.slots) (λ t lo hi same. let l = beyond setup.declared.slots s e in let x : s ≡ t = same in omega (arith, l, hi, x)) (each waits)

        by : (t : Bool) → setup.limits.wait ≡ t → find now (if t then map (goal_at setup) (places setup.declared.slots) else []) ≡ option_map failing (if t then option_and_then (goal_against report) (slot_at setup.declared s) else None)
        by true waits = at waits (slot_at setup.declared s) refl
        by false waits = refl

    all_wanted : find now (wanted_conditions setup past) ≡ option_map failing (failed_wanted setup past s report)
    all_wanted =
        find-append now (flat_map of_start (places setup.actions)) (if setup.limits.wait then map (goal_at setup) (places setup.declared.slots) else [])
        ∙ ap (λ (o : Option Failing). option_or o (find now (if setup.limits.wait then map (goal_at setup) (places setup.declared.slots) else []))) (first_start (places setup.actions))
        ∙ ap (option_or (option_map failing (failed_by_starts setup past s report))) goals
        ∙ at (failed_by_starts setup past s report)
      where
        at : (o : Option Condition) → option_or (option_map failing o) (option_map failing (failed_goal setup s report)) ≡ option_map failing (option_or o (failed_goal setup s report))
        at (Some c) = refl
        at None = refl

  -- the fault of a condition on the slot
  abbrev pub condition_fault : Condition → RunFault
  condition_fault c = RunFault.Condition (slot_name setup s) c report

  report_law : option_map condition_fault (failed_condition setup past v s report) ≡ report_fault setup past (Entry.Ended v outcome) report
  report_law = sym (by (poll_counts setup past v) refl)
    where
      said : Option Failing → Option RunFault
      said o = option_map (λ (x : Failing). RunFault.Condition (slot_name setup x.slot) x.condition report) o

      of_slot : (o : Option Condition) → said (option_map failing o) ≡ option_map condition_fault o
      of_slot (Some c) = refl
      of_slot None = refl

      by : (t : Bool) → poll_counts setup past v ≡ t → said (find now (wanted_conditions setup past)) ≡ option_map condition_fault (if t then failed_wanted setup past s report else None)
      by true e = ap said (all_wanted e) ∙ of_slot (failed_wanted setup past s report)
      by false e = ap said (found_none now (wanted_conditions setup past) (nothing_fails e))

  -- the end of the poll has the fault of its report
  pub watch_law : option_map condition_fault (failed_condition setup past v s report) ≡ ended_fault setup past v outcome (Watch s)
  watch_law = rw told report_law

-- the end of a poll without a report
pub unreported : (setup : Setup) (past : List Entry) (v s : ℕ) (outcome : Outcome) → report_of outcome ≡ None
    → Some (exchange_fault (request_out setup past v) outcome) ≡ ended_fault setup past v outcome (Watch s)
unreported setup past v s outcome e = rw e refl
