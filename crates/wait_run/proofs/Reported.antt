-- The goals of all slots behind one report more.
use Rattle.std.proofs.Common.{◌≡◌, ◌∙◌, ◌++◌, ◌+◌, ◌<◌, ◌≤◌, ◌^◌, ◌&&◌, ◌||◌, sym, Bool, true, false, cond, ℕ, zero, suc, List, [], ◌∷◌, Option, Some, None, length, set, slice_get, take, eq-eqb, refl, ap, subst, arith}
use Rattle.std.specs.Prelude.{◌==◌, filter, filter_map, find, not}
use Rattle.std.specs.List.{cons_option}
use Rattle.std.specs.Option.{is_some, option_map, option_or}
use Rattle.std.proofs.lemmas.Bool.{eqb-true}
use Rattle.std.proofs.lemmas.List.{length-append, take-append-le, take_all}
use Rattle.std.proofs.lemmas.List.Elements.{filter-append, filter_map-append}
use Rattle.std.proofs.lemmas.List.Folds.{find-append}
use Rattle.std.proofs.Math.Seq.{take-append_seam}
use Rattle.engine_types.specs.declared.Condition.{Condition}
use Rattle.engine_types.specs.declared.Declared.{Declared}
use Rattle.engine_types.specs.declared.Listed.{Listed}
use Rattle.engine_types.specs.declared.Report.{Report}
use Rattle.event_watch.specs.Verdicts.{both}
use Rattle.response_rules.specs.Json.{given}
use Rattle.run_model.specs.Conditions.{is_failed_verdict, is_met_verdict, judge}
use Rattle.run_model.specs.Numbers.{numbers_from, places}
use Rattle.run_model.specs.declared.Verdict.{Verdict}
use Rattle.wait_run.specs.Ends.{fails_goal}
use Rattle.wait_run.specs.Goals.{AreGoals, failed_now, failing_report, goal_row, is_settled_now, is_unmet, left_behind, met_now, reported_on, unmet}
use Rattle.wait_run.specs.Reports.{all_met, goal_at, is_first_met, met_in, some_failed, verdict_on}
use Rattle.wait_run.specs.declared.goals.Failing.{Failing}
use Rattle.wait_run.specs.declared.goals.Goal.{Goal}
use Rattle.wait_run.specs.declared.goals.Goals.{Goals}
use Rattle.wait_run.proofs.Places.{all_left, any_none, any_turned, filter_all, filter_short, filter_turned, got_before, got_last, length_numbers, numbers_more, one_if, picked_same, written_elsewhere, written_there}
use Rattle.wait_run.proofs.Turning.{verdict_stays, verdict_turns}

-- ---- verdicts that turn

left_is : (before judged : Verdict) (a b : ℕ) → a + one_if (not (is_met_verdict before)) ≡ b + one_if (not (is_met_verdict (both before judged)))
    → left_behind b before (both before judged) ≡ a
left_is Verdict.Failed judged a b e = omega (arith, e)
left_is Verdict.Met Verdict.Failed a b e = omega (arith, e)
left_is Verdict.Met Verdict.Met a b e = omega (arith, e)
left_is Verdict.Met Verdict.NotYet a b e = omega (arith, e)
left_is Verdict.NotYet Verdict.Failed a b e = omega (arith, e)
left_is Verdict.NotYet Verdict.Met a b e = omega (arith, e)
left_is Verdict.NotYet Verdict.NotYet a b e = omega (arith, e)

met_is : (s : ℕ) (before judged : Verdict) → cond (is_met_verdict (both before judged) && not (is_met_verdict before)) (s ∷ []) [] ≡ met_now s before (both before judged)
met_is s Verdict.Failed judged = refl
met_is s Verdict.Met Verdict.Failed = refl
met_is s Verdict.Met Verdict.Met = refl
met_is s Verdict.Met Verdict.NotYet = refl
met_is s Verdict.NotYet Verdict.Failed = refl
met_is s Verdict.NotYet Verdict.Met = refl
met_is s Verdict.NotYet Verdict.NotYet = refl

failed_is : (before judged : Verdict) → is_failed_verdict (both before judged) ≡ (is_failed_verdict before || is_failed_verdict judged)
failed_is Verdict.Failed judged = refl
failed_is Verdict.Met Verdict.Failed = refl
failed_is Verdict.Met Verdict.Met = refl
failed_is Verdict.Met Verdict.NotYet = refl
failed_is Verdict.NotYet judged = refl

abbrev failing_of : ℕ → Report → Failing
failing_of s report = record { slot = s; report = report }

some_now : (s : ℕ) (report : Report) (condition : Condition) (f : Option Failing)
    → is_some (failed_now s report condition f) ≡ (is_some f || is_failed_verdict (judge condition report))
some_now s report condition None = by (is_failed_verdict (judge condition report))
  where
    by : (t : Bool) → is_some (cond t (Some (failing_of s report)) None) ≡ t
    by true = refl
    by false = refl
some_now s report condition (Some failing) = refl

-- ---- one report more

module _ (declared : Declared) (said : List (ℕ × Report)) (s : ℕ) (report : Report) where
  abbrev after : List (ℕ × Report)
  after = said ++ (s, report) ∷ []

  abbrev before : Verdict
  before = verdict_on declared said s

  abbrev judged : Verdict
  judged = judge (goal_at declared s) report

  turned : verdict_on declared after s ≡ both before judged
  turned = verdict_turns declared said s report s (same s)
    where
      same : (n : ℕ) → (n == n) ≡ true
      same n = eq-eqb n n refl

  unmet_more : s < length declared.slots → unmet declared after ≡ left_behind (unmet declared said) before (both before judged)
  unmet_more less =
      let e = filter_turned (is_unmet declared after) (is_unmet declared said) s
      (λ k other. ap (λ v. not (is_met_verdict v)) (verdict_stays declared said s report k other)) 0 (length declared.slots) (omega arith) (omega (arith, less)) in
      sym (left_is before judged (unmet declared after) (unmet declared said)
      (e ∙ ap (λ v. unmet declared said + one_if (not (is_met_verdict v))) turned))

  some_more : s < length declared.slots → some_failed declared after ≡ (some_failed declared said || is_failed_verdict judged)
  some_more less =
      any_turned (λ k. is_failed_verdict (verdict_on declared after k)) (λ k. is_failed_verdict (verdict_on declared said k)) s (is_failed_verdict judged)
      (λ k other. ap is_failed_verdict (verdict_stays declared said s report k other))
      (ap is_failed_verdict turned ∙ failed_is before judged) 0 (length declared.slots) (omega arith) (omega (arith, less))

  failed_more : (f : Option Failing) → option_map failing_report f ≡ find (fails_goal declared) said
      → option_map failing_report (failed_now s report (goal_at declared s) f) ≡ find (fails_goal declared) after
  failed_more f e = by f e ∙ sym (find-append (fails_goal declared) said ((s, report) ∷ []))
    where
      at : (t : Bool) → option_map failing_report (cond t (Some (failing_of s report)) None) ≡ cond t (Some (s, report)) None
      at true = refl
      at false = refl

      by : (f : Option Failing) → option_map failing_report f ≡ find (fails_goal declared) said
          → option_map failing_report (failed_now s report (goal_at declared s) f) ≡ option_or (find (fails_goal declared) said) (find (fails_goal declared) ((s, report) ∷ []))
      by None e = at (is_failed_verdict judged) ∙ ap (λ o. option_or o (find (fails_goal declared) ((s, report) ∷ []))) e
      by (Some failing) e = ap (λ o. option_or o (find (fails_goal declared) ((s, report) ∷ []))) e

  -- ---- what is met

  abbrev pick : List (ℕ × Report) → ℕ → Option ℕ
  pick l k = option_map (λ (here : ℕ × Report). here.0) (slice_get l k)

  abbrev first_by : ℕ → Option (ℕ × Report) → List (ℕ × Report) → List (ℕ × Report) → Bool
  first_by k here now then_before =
      is_some (given {A = ℕ × Report} {B = ℕ} here
      (λ here. cond (is_met_verdict (verdict_on declared now here.0) && not (is_met_verdict (verdict_on declared then_before here.0))) (Some k) None))

  earlier : (k : ℕ) → k < length said → is_first_met declared after k ≡ is_first_met declared said k
  earlier k less =
      ap (λ here. first_by k here (take (k + 1) after) (take k after)) (got_before said ((s, report) ∷ []) k less)
      ∙ ap (λ l. first_by k (slice_get said k) l (take k after)) (take-append-le (k + 1) said ((s, report) ∷ []) (omega (arith, less)))
      ∙ ap (λ l. first_by k (slice_get said k) (take (k + 1) said) l) (take-append-le k said ((s, report) ∷ []) (omega (arith, less)))

  last_first : is_first_met declared after (length said) ≡ (is_met_verdict (verdict_on declared after s) && not (is_met_verdict before))
  last_first =
      ap (λ here. first_by (length said) here (take (length said + 1) after) (take (length said) after)) (got_last said (s, report))
      ∙ ap (λ l. first_by (length said) (Some (s, report)) l (take (length said) after))
      (take_all (length said + 1) after (let e = length-append said ((s, report) ∷ []) in omega (arith, e)))
      ∙ ap (λ l. first_by (length said) (Some (s, report)) after l) (take-append_seam said ((s, report) ∷ []))
      ∙ by (is_met_verdict (verdict_on declared after s) && not (is_met_verdict before))
    where
      by : (t : Bool) → is_some (cond t (Some (length said)) None) ≡ t
      by true = refl
      by false = refl

  pub met_more : met_in declared after ≡ met_in declared said ++ met_now s before (both before judged)
  met_more =
      ap (λ n. filter_map (pick after) (filter (is_first_met declared after) (numbers_from 0 n))) (length-append said ((s, report) ∷ []))
      ∙ ap (λ l. filter_map (pick after) (filter (is_first_met declared after) l)) (numbers_more 0 (length said))
      ∙ ap (filter_map (pick after)) (filter-append (is_first_met declared after) (numbers_from 0 (length said)) ((0 + length said) ∷ []))
      ∙ filter_map-append (pick after) (filter (is_first_met declared after) (numbers_from 0 (length said))) (filter (is_first_met declared after) ((0 + length said) ∷ []))
      ∙ ap (λ l. l ++ filter_map (pick after) (filter (is_first_met declared after) ((0 + length said) ∷ [])))
      (picked_same (pick after) (pick said) (is_first_met declared after) (is_first_met declared said) 0 (length said)
      (λ k less. earlier k (omega (arith, less))) (λ k less. ap (option_map (λ (here : ℕ × Report). here.0)) (got_before said ((s, report) ∷ []) k (omega (arith, less)))))
      ∙ ap (λ l. met_in declared said ++ l) (at (0 + length said) (omega arith))
    where
      pairs : (t : Bool) → filter_map (pick after) (cond t (length said ∷ []) []) ≡ cond t (s ∷ []) []
      pairs true = ap (λ o. cons_option (option_map (λ (here : ℕ × Report). here.0) o) []) (got_last said (s, report))
      pairs false = refl

      at : (n : ℕ) → n ≡ length said → filter_map (pick after) (filter (is_first_met declared after) (n ∷ [])) ≡ met_now s before (both before judged)
      at n e =
          ap (λ m. filter_map (pick after) (filter (is_first_met declared after) (m ∷ []))) e
          ∙ ap (λ t. filter_map (pick after) (cond t (length said ∷ []) [])) last_first
          ∙ pairs (is_met_verdict (verdict_on declared after s) && not (is_met_verdict before))
          ∙ ap (λ v. cond (is_met_verdict v && not (is_met_verdict before)) (s ∷ []) []) turned
          ∙ met_is s before judged

abbrev goal_now : (declared : Declared) (said : List (ℕ × Report)) (s : ℕ) (report : Report) → Goal
goal_now declared said s report = record { condition = goal_at declared s; verdict = both (verdict_on declared said s) (judge (goal_at declared s) report) }

-- the goals behind a report on a slot
pub goals_more : (declared : Declared) (rows : List Listed) (said : List (ℕ × Report)) (goals : Goals) (s : ℕ) (report : Report) → s < length declared.slots
    → AreGoals declared rows said goals → AreGoals declared rows (said ++ (s, report) ∷ []) (reported_on s report (goal_row declared said s) goals)
goals_more declared rows said goals s report less are = record {
  many = length_set goals.rows s (goal_now declared said s report) ∙ are.many;
  few = are.few;
  owners = are.owners;
  each = λ k within. at k within (s == k) refl;
  left = ap (λ n. left_behind n (verdict_on declared said s) (both (verdict_on declared said s) (judge (goal_at declared s) report))) are.left ∙ sym (unmet_more declared said s report less);
  met = ap (λ l. l ++ met_now s (verdict_on declared said s) (both (verdict_on declared said s) (judge (goal_at declared s) report))) are.met ∙ sym (met_more declared said s report);
  failed = failed_more declared said s report goals.failed are.failed;
  some =
      some_more declared said s report less
      ∙ ap (λ t. t || is_failed_verdict (judge (goal_at declared s) report)) are.some
      ∙ sym (some_now s report (goal_at declared s) goals.failed);
  found = are.found;
}
  where
    length_set : (l : List Goal) (i : ℕ) (a : Goal) → length (set l i a) ≡ length l
    length_set [] i a = refl
    length_set (x ∷ l) zero a = refl
    length_set (x ∷ l) (suc i) a = ap suc (length_set l i a)

    at : (k : ℕ) → k < length declared.slots → (t : Bool) → (s == k) ≡ t → slice_get (set goals.rows s (goal_now declared said s report)) k ≡ Some (goal_row declared (said ++ (s, report) ∷ []) k)
    at k within true e =
        let is : s ≡ k = eqb-true s k e in
        subst (λ j. slice_get (set goals.rows s (goal_now declared said s report)) j ≡ Some (goal_row declared (said ++ (s, report) ∷ []) j)) is
        (written_there goals.rows s (goal_now declared said s report) (omega (arith, are.many, less))
        ∙ ap (λ v. Some (record { condition = goal_at declared s; verdict = v })) (sym (turned declared said s report)))
    at k within false e =
        written_elsewhere goals.rows s k (goal_now declared said s report) e ∙ are.each k within
        ∙ ap (λ v. Some (record { condition = goal_at declared k; verdict = v })) (sym (verdict_stays declared said s report k e))

-- ---- goals that are settled

pub settled_is : (declared : Declared) (rows : List Listed) (said : List (ℕ × Report)) (goals : Goals) → AreGoals declared rows said goals
    → is_settled_now goals ≡ (some_failed declared said || all_met declared said)
settled_is declared rows said goals are =
    ap (λ t. t || (goals.left == 0)) (sym are.some)
    ∙ ap (λ n. some_failed declared said || (n == 0)) are.left
    ∙ ap (λ t. some_failed declared said || t) (sym (all_left (λ k. is_met_verdict (verdict_on declared said k)) (places declared.slots)))

-- no more goals are left than there are slots
pub left_few : (declared : Declared) (rows : List Listed) (said : List (ℕ × Report)) (goals : Goals) → AreGoals declared rows said goals → goals.left ≤ 2 ^ 32
left_few declared rows said goals are =
    let a = are.left in
    let b = filter_short (is_unmet declared said) (places declared.slots) in
    let c = length_numbers 0 (length declared.slots) in
    let d = are.few in
    omega (arith, a, b, c, d)

-- ---- goals of which nothing is reported

pub unmet_all : (declared : Declared) → unmet declared [] ≡ length declared.slots
unmet_all declared = ap length (filter_all (is_unmet declared []) (places declared.slots) (λ k. refl)) ∙ length_numbers 0 (length declared.slots)

pub none_failed : (declared : Declared) → some_failed declared [] ≡ false
none_failed declared = any_none (λ k. is_failed_verdict (verdict_on declared [] k)) (places declared.slots) (λ k. refl)
