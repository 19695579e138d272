-- What one report more changes: the verdict on its own slot, and on no other.
use Rattle.std.proofs.Common.{◌≡◌, ◌∙◌, ◌++◌, Bool, true, false, cond, ℕ, List, [], ◌∷◌, map, ap}
use Rattle.std.specs.Prelude.{◌==◌, filter}
use Rattle.std.proofs.lemmas.List.{append-nil, map-append}
use Rattle.std.proofs.lemmas.List.Elements.{filter-append}
use Rattle.engine_types.specs.declared.Declared.{Declared}
use Rattle.engine_types.specs.declared.Report.{Report}
use Rattle.event_watch.specs.Verdicts.{judged, next_verdict}
use Rattle.wait_run.proofs.Verdicts.{judged_more}
use Rattle.wait_run.specs.Reports.{goal_at, verdict_on}

-- ---- the verdicts

module _ (declared : Declared) (said : List (ℕ × Report)) (s : ℕ) (report : Report) where
  reports_with : (t : ℕ) (b : Bool) → (s == t) ≡ b
      → map {B = Report} (λ look. look.1) (filter (λ look. look.0 == t) (said ++ (s, report) ∷ []))
      ≡ map {B = Report} (λ look. look.1) (filter (λ look. look.0 == t) said) ++ cond b (report ∷ []) []
  reports_with t true e =
      ap (λ l. map {B = Report} (λ look. look.1) l) (filter-append (λ look. look.0 == t) said ((s, report) ∷ [])
      ∙ ap (λ c. filter (λ look. look.0 == t) said ++ cond c ((s, report) ∷ []) []) e)
      ∙ map-append (λ (look : ℕ × Report). look.1) (filter (λ look. look.0 == t) said) ((s, report) ∷ [])
  reports_with t false e =
      ap (λ l. map {B = Report} (λ look. look.1) l) (filter-append (λ look. look.0 == t) said ((s, report) ∷ [])
      ∙ ap (λ c. filter (λ look. look.0 == t) said ++ cond c ((s, report) ∷ []) []) e)
      ∙ map-append (λ (look : ℕ × Report). look.1) (filter (λ look. look.0 == t) said) []

  -- another slot's verdict stays
  pub verdict_stays : (t : ℕ) → (s == t) ≡ false → verdict_on declared (said ++ (s, report) ∷ []) t ≡ verdict_on declared said t
  verdict_stays t e =
      ap (judged (goal_at declared t))
      (reports_with t false e ∙ append-nil (map {B = Report} (λ look. look.1) (filter (λ look. look.0 == t) said)))

  -- its own slot's is the next one
  pub verdict_turns : (t : ℕ) → (s == t) ≡ true
      → verdict_on declared (said ++ (s, report) ∷ []) t ≡ next_verdict (goal_at declared t) (verdict_on declared said t) report
  verdict_turns t e =
      ap (judged (goal_at declared t)) (reports_with t true e)
      ∙ judged_more (goal_at declared t) (map {B = Report} (λ look. look.1) (filter (λ look. look.0 == t) said)) report
