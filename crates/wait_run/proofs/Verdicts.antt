-- What one more report says of a goal.
use Rattle.std.proofs.Common.{◌≡◌, ◌∙◌, ◌++◌, ◌||◌, Bool, true, false, cond, List, [], ◌∷◌, refl, ap}
use Rattle.std.specs.List.{list_any}
use Rattle.engine_types.specs.declared.Condition.{Condition}
use Rattle.engine_types.specs.declared.Report.{Report}
use Rattle.event_watch.specs.Verdicts.{both, judged, next_verdict}
use Rattle.run_model.specs.Conditions.{is_failed_verdict, is_met_verdict, judge}
use Rattle.run_model.specs.declared.Verdict.{Verdict}

or_assoc : (a b c : Bool) → (a || (b || c)) ≡ ((a || b) || c)
or_assoc true b c = refl
or_assoc false b c = refl

or_none : (a : Bool) → (a || false) ≡ a
or_none true = refl
or_none false = refl

any_more : (f : Report → Bool) (reports : List Report) (report : Report) → list_any f (reports ++ report ∷ []) ≡ (list_any f reports || f report)
any_more f [] report = or_none (f report)
any_more f (r ∷ reports) report = ap (λ b. f r || b) (any_more f reports report) ∙ or_assoc (f r) (list_any f reports) (f report)

-- the verdict behind one more report is that of all of them
pub judged_more : (condition : Condition) (reports : List Report) (report : Report) → judged condition (reports ++ report ∷ []) ≡ next_verdict condition (judged condition reports) report
judged_more condition reports report =
    ap (λ f. cond f Verdict.Failed (cond (list_any (λ r. is_met_verdict (judge condition r)) (reports ++ report ∷ [])) Verdict.Met Verdict.NotYet)) (any_more (λ r. is_failed_verdict (judge condition r)) reports report)
    ∙ ap (λ m. cond (list_any (λ r. is_failed_verdict (judge condition r)) reports || is_failed_verdict (judge condition report)) Verdict.Failed (cond m Verdict.Met Verdict.NotYet)) (any_more (λ r. is_met_verdict (judge condition r)) reports report)
    ∙ by (list_any (λ r. is_failed_verdict (judge condition r)) reports) (list_any (λ r. is_met_verdict (judge condition r)) reports) (judge condition report)
  where
    by : (failed met : Bool) (said : Verdict)
        → cond (failed || is_failed_verdict said) Verdict.Failed (cond (met || is_met_verdict said) Verdict.Met Verdict.NotYet) ≡ both (cond failed Verdict.Failed (cond met Verdict.Met Verdict.NotYet)) said
    by true met said = refl
    by false true Verdict.Failed = refl
    by false true Verdict.Met = refl
    by false true Verdict.NotYet = refl
    by false false Verdict.Failed = refl
    by false false Verdict.Met = refl
    by false false Verdict.NotYet = refl
