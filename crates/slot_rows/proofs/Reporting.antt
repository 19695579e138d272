-- What the end of a poll says in a legal journal.
use Rattle.std.proofs.Common.{◌≡◌, ◌⊎◌, ℕ, zero, suc, ◌+◌, ◌<◌, ◌≤◌, Bool, true, false, not, ◌&&◌, ◌||◌, ◌==◌, List, [], ◌∷◌, Option, Some, None, if◌then◌else◌, refl, sym, ap, ◌∙◌, subst, inl, inr, arith}
use Rattle.std.proofs.lemmas.Bool.{cases_eq, eq-eqb, eqb-true, true≢false}
use Rattle.std.specs.List.{list_any}
use Rattle.std.specs.Option.{option_map_or}
use Rattle.std.specs.Prelude.{option_map}
use Rattle.engine_types.specs.declared.Aim.{Aim}
use Rattle.engine_types.specs.declared.Condition.{Condition}
use Rattle.engine_types.specs.declared.Entry.{Entry}
use Rattle.engine_types.specs.declared.Outcome.{Outcome}
use Rattle.engine_types.specs.declared.Report.{Report}
use Rattle.run_model.specs.Conditions.{fails, has_failed, is_failed_verdict, is_met_verdict, is_started, judge, meets, poll_counts, report_of, was_met}
use Rattle.run_model.specs.Journals.{Holding, Nothing, Setup, Watch, Work, ended_as, holding, is_watch_of, is_work_on, standing}
use Rattle.run_model.specs.Legal.{IsLegal, is_looked_at, workers}
use Rattle.run_model.specs.Plans.{kind_of}
use Rattle.run_model.specs.declared.verdict.Verdict.{Verdict}
use Rattle.journal_laws.proofs.Holders.{is_watcher}
use Rattle.journal_laws.proofs.Reports.{polled}
use Rattle.ledger_rows.proofs.Watching.{differs, none_of}
use Rattle.slot_rows.specs.Reports.{verdict_after, verdict_with}
use Rattle.slot_rows.specs.Slots.{verdict_by, verdict_in}

-- one more verdict
with_one : (v : Verdict) (f m : Bool) → verdict_by ((true && is_failed_verdict v) || f) ((true && is_met_verdict v) || m) ≡ verdict_with (Some v) (verdict_by f m)
with_one Verdict.Met true m = refl
with_one Verdict.Met false true = refl
with_one Verdict.Met false false = refl
with_one Verdict.Failed true m = refl
with_one Verdict.Failed false true = refl
with_one Verdict.Failed false false = refl
with_one Verdict.NotYet true m = refl
with_one Verdict.NotYet false true = refl
with_one Verdict.NotYet false false = refl

with_none : (f m : Bool) → verdict_by (true || f) (false || m) ≡ verdict_with None (verdict_by f m)
with_none true m = refl
with_none false true = refl
with_none false false = refl

by_report : (c : Condition) (o : Option Report) (f m : Bool)
    → verdict_by (option_map_or (λ report. true && is_failed_verdict (judge c report)) o true || f) (option_map_or (λ report. true && is_met_verdict (judge c report)) o false || m)
    ≡ verdict_with (option_map (judge c) o) (verdict_by f m)
by_report c None f m = with_none f m
by_report c (Some report) f m = with_one (judge c report) f m

module _ (aim : Aim) (setup : Setup) (past : List Entry) (w s : ℕ) (outcome : Outcome) (legal : IsLegal aim setup past) (held : holding past w ≡ Watch s) where
  watched : is_watch_of s (holding past w) ≡ true
  watched = ap (is_watch_of s) held ∙ eq-eqb s s refl

  counted : poll_counts setup past w ≡ true
  counted = (polled aim setup past w s legal held).0

  pub there : (c : Condition) → is_started c ≡ false → verdict_in setup (Entry.Ended w outcome ∷ past) s c ≡ verdict_after c outcome (verdict_in setup past s c)
  there c later =
      ap (λ (t : Bool). verdict_by ((not t && is_watch_of s (holding past w) && fails c outcome (poll_counts setup past w)) || has_failed setup past s c)
      ((is_watch_of s (holding past w) && meets c outcome (poll_counts setup past w)) || was_met setup past s c)) later
      ∙ ap (λ (t : Bool). verdict_by ((true && t && fails c outcome (poll_counts setup past w)) || has_failed setup past s c) ((t && meets c outcome (poll_counts setup past w)) || was_met setup past s c)) watched
      ∙ ap (λ (t : Bool). verdict_by (fails c outcome t || has_failed setup past s c) (meets c outcome t || was_met setup past s c)) counted
      ∙ by_report c (report_of outcome) (has_failed setup past s c) (was_met setup past s c)

  pub elsewhere : (t : ℕ) (c : Condition) → (t ≡ s → ⊥) → verdict_in setup (Entry.Ended w outcome ∷ past) t c ≡ verdict_in setup past t c
  elsewhere t c n =
      ap (λ (u : Bool). verdict_by ((not (is_started c) && u && fails c outcome (poll_counts setup past w)) || has_failed setup past t c)
      ((u && meets c outcome (poll_counts setup past w)) || was_met setup past t c)) (ap (is_watch_of t) held ∙ differs s t (λ e. n (sym e)))
      ∙ ap (λ (u : Bool). verdict_by (u || has_failed setup past t c) (was_met setup past t c)) (none (not (is_started c)) (fails c outcome (poll_counts setup past w)))
    where
      none : (x y : Bool) → (x && false && y) ≡ false
      none true y = refl
      none false y = refl

  pub looked_at : is_looked_at setup (Entry.Ended w outcome ∷ past) s ≡ false
  looked_at = none_of (λ v. is_watch_of s (holding (Entry.Ended w outcome ∷ past) v)) 0 setup.limits.workers (λ v l m. on v (w == v) refl)
    where
      not_watching : (v : ℕ) (h : Holding) → holding past v ≡ h → (h ≡ Watch s → ⊥) → is_watch_of s h ≡ false
      not_watching v Nothing e n = refl
      not_watching v (Work a) e n = refl
      not_watching v (Watch t) e n = differs t s (λ k. n (ap (λ (x : ℕ). Watch x) k))

      on : (v : ℕ) (t : Bool) → (w == v) ≡ t → is_watch_of s (if t then Nothing else holding past v) ≡ false
      on v true e = refl
      on v false e = not_watching v (holding past v) refl (λ k. apart v e ((is_watcher aim setup past w s legal held).alone v k))
        where
          apart : (v : ℕ) → (w == v) ≡ false → v ≡ w → ⊥
          apart v e k = true≢false (sym (eq-eqb w v (sym k)) ∙ e)

pub actions_stay : (setup : Setup) (past : List Entry) (w s a : ℕ) (outcome : Outcome) → holding past w ≡ Watch s → standing setup (Entry.Ended w outcome ∷ past) a ≡ standing setup past a
actions_stay setup past w s a outcome held = ap (λ (h : Holding). if is_work_on a h then ended_as (kind_of setup.actions a) outcome else standing setup past a) held
