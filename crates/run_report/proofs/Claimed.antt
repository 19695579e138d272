-- An action is free as long as nobody claimed it.
use Rattle.std.proofs.Common.{◌≡◌, ℕ, Bool, true, false, not, ◌||◌, List, [], ◌∷◌, refl, sym, ap, ◌∙◌}
use Rattle.std.specs.Prelude.{if◌then◌else◌, ◌==◌}
use Rattle.engine_types.specs.declared.Entry.{Entry}
use Rattle.run_model.specs.Journals.{Nothing, Out, Setup, Watch, Work, ended_as, holding, is_free, is_work_on, standing}
use Rattle.run_model.specs.Plans.{kind_of}
use Rattle.run_model.proofs.LegalLaws.{ended_not_free}
use Rattle.run_report.specs.Claims.{was_claimed}

or_true : (t : Bool) → (t || true) ≡ true
or_true true = refl
or_true false = refl

-- what a worker holds was claimed
held_claimed : (past : List Entry) (v a : ℕ) → is_work_on a (holding past v) ≡ true → was_claimed past a ≡ true
held_claimed [] v a h = absurd (cc h)
held_claimed (Entry.Claim u b ∷ past) v a h = by (u == v) (held_claimed past v a) h
  where
    by : (t : Bool) → (is_work_on a (holding past v) ≡ true → was_claimed past a ≡ true) → is_work_on a (if t then Work b else holding past v) ≡ true → ((b == a) || was_claimed past a) ≡ true
    by true rest k = ap (λ (t : Bool). t || was_claimed past a) k
    by false rest k = ap (λ (t : Bool). (b == a) || t) (rest k) ∙ or_true (b == a)
held_claimed (Entry.Poll u s ∷ past) v a h = by (u == v) (held_claimed past v a) h
  where
    by : (t : Bool) → (is_work_on a (holding past v) ≡ true → was_claimed past a ≡ true) → is_work_on a (if t then Watch s else holding past v) ≡ true → was_claimed past a ≡ true
    by true rest k = absurd (cc k)
    by false rest k = rest k
held_claimed (Entry.Ended u outcome ∷ past) v a h = by (u == v) (held_claimed past v a) h
  where
    by : (t : Bool) → (is_work_on a (holding past v) ≡ true → was_claimed past a ≡ true) → is_work_on a (if t then Nothing else holding past v) ≡ true → was_claimed past a ≡ true
    by true rest k = absurd (cc k)
    by false rest k = rest k
held_claimed (entry ∷ past) v a h = held_claimed past v a h

pub free_is : (setup : Setup) (past : List Entry) (a : ℕ) → is_free (standing setup past a) ≡ not (was_claimed past a)
free_is setup [] a = refl
free_is setup (Entry.Claim v b ∷ past) a = by (b == a) (free_is setup past a)
  where
    by : (t : Bool) → is_free (standing setup past a) ≡ not (was_claimed past a) → is_free (if t then Out else standing setup past a) ≡ not (t || was_claimed past a)
    by true h = refl
    by false h = h
free_is setup (Entry.Ended v outcome ∷ past) a = by (is_work_on a (holding past v)) refl (free_is setup past a)
  where
    by : (t : Bool) → is_work_on a (holding past v) ≡ t → is_free (standing setup past a) ≡ not (was_claimed past a)
        → is_free (if t then ended_as (kind_of setup.actions a) outcome else standing setup past a) ≡ not (was_claimed past a)
    by true e h = ended_not_free (kind_of setup.actions a) outcome ∙ sym (ap not (held_claimed past v a e))
    by false e h = h
free_is setup (entry ∷ past) a = free_is setup past a
