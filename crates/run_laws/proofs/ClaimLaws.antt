-- No action is claimed twice.
use Rattle.std.proofs.Common.{◌≡◌, ℕ, ◌+◌, ◌≤◌, Bool, true, false, List, [], ◌∷◌, refl, arith}
use Rattle.std.proofs.lemmas.Bool.{both_ways, eqb-true}
use Rattle.std.specs.Prelude.{if◌then◌else◌, ◌==◌}
use Rattle.engine_types.specs.declared.Aim.{Aim}
use Rattle.engine_types.specs.declared.Entry.{Entry}
use Rattle.run_model.specs.Journals.{Out, Setup, claims, ended_as, holding, is_free, is_work_on, standing}
use Rattle.run_model.specs.Legal.{IsLegal}
use Rattle.run_model.specs.Plans.{kind_of}
use Rattle.run_model.proofs.LegalLaws.{claim_allowed, ended_not_free}
use Rattle.run_model.proofs.PlanLaws.{both}

-- a free action wasn't claimed
free_unclaimed : (setup : Setup) (past : List Entry) (a : ℕ) → is_free (standing setup past a) ≡ true → claims past a ≡ 0
free_unclaimed setup [] a e = refl
free_unclaimed setup (Entry.Claim v b ∷ past) a e = at (b == a) (free_unclaimed setup past a) e
  where
    at : (t : Bool) → (is_free (standing setup past a) ≡ true → claims past a ≡ 0) → is_free (if t then Out else standing setup past a) ≡ true
        → (if t then claims past a + 1 else claims past a) ≡ 0
    at true rest h = absurd (cc h)
    at false rest h = rest h
free_unclaimed setup (Entry.Ended v outcome ∷ past) a e = at (is_work_on a (holding past v)) (free_unclaimed setup past a) e
  where
    at : (t : Bool) → (is_free (standing setup past a) ≡ true → claims past a ≡ 0)
        → is_free (if t then ended_as (kind_of setup.actions a) outcome else standing setup past a) ≡ true → claims past a ≡ 0
    at true rest h = absurd (both_ways _ (ended_not_free (kind_of setup.actions a) outcome) h)
    at false rest h = rest h
free_unclaimed setup (Entry.Seen observation ∷ past) a e = free_unclaimed setup past a e
free_unclaimed setup (Entry.Poll v s ∷ past) a e = free_unclaimed setup past a e
free_unclaimed setup (Entry.Idle v ∷ past) a e = free_unclaimed setup past a e
free_unclaimed setup (Entry.Leave v ∷ past) a e = free_unclaimed setup past a e
free_unclaimed setup (Entry.Stop v ∷ past) a e = free_unclaimed setup past a e
free_unclaimed setup (Entry.Late v why ∷ past) a e = free_unclaimed setup past a e
free_unclaimed setup (Entry.Short v ∷ past) a e = free_unclaimed setup past a e

pub claimed_once : (aim : Aim) (setup : Setup) (past : List Entry) (a : ℕ) → IsLegal aim setup past → claims past a ≤ 1
claimed_once aim setup [] a legal = omega arith
claimed_once aim setup (Entry.Claim w b ∷ past) a legal = at (b == a) refl (claimed_once aim setup past a legal.0)
  where
    at : (t : Bool) → (b == a) ≡ t → claims past a ≤ 1 → (if t then claims past a + 1 else claims past a) ≤ 1
    at true h rest =
        let free : is_free (standing setup past b) ≡ true = (both _ _ (both _ _ (claim_allowed aim setup past w b legal)).0).0 in
        let here : is_free (standing setup past a) ≡ true = rw (← eqb-true b a h) free in
        let none = free_unclaimed setup past a here in omega (arith, none)
    at false h rest = rest
claimed_once aim setup (Entry.Ended v outcome ∷ past) a legal = claimed_once aim setup past a legal.0
claimed_once aim setup (Entry.Seen observation ∷ past) a legal = claimed_once aim setup past a legal.0
claimed_once aim setup (Entry.Poll v s ∷ past) a legal = claimed_once aim setup past a legal.0
claimed_once aim setup (Entry.Idle v ∷ past) a legal = claimed_once aim setup past a legal.0
claimed_once aim setup (Entry.Leave v ∷ past) a legal = claimed_once aim setup past a legal.0
claimed_once aim setup (Entry.Stop v ∷ past) a legal = claimed_once aim setup past a legal.0
claimed_once aim setup (Entry.Late v why ∷ past) a legal = claimed_once aim setup past a legal.0
claimed_once aim setup (Entry.Short v ∷ past) a legal = claimed_once aim setup past a legal.0
