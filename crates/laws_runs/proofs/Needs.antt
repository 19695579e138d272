-- All that a claimed action needs ended well, however many workers there are.
use Rattle.std.proofs.Common.{◌≡◌, ℕ, Bool, true, false, List, [], ◌∷◌, if◌then◌else◌, refl, sym, ap, subst}
use Rattle.std.proofs.lemmas.Bool.{eqb-true}
use Rattle.std.specs.Prelude.{◌==◌}
use Rattle.engine_types.specs.declared.Aim.{Aim}
use Rattle.engine_types.specs.declared.Entry.{Entry}
use Rattle.engine_types.specs.declared.Reply.{Reply}
use Rattle.run_model.specs.EngineRules.{Among}
use Rattle.run_model.specs.Journals.{Badly, Free, Holding, Nothing, Out, Setup, Standing, Watch, Well, Work, ended_as, holding, is_free, is_well, is_work_on, standing}
use Rattle.run_model.specs.Legal.{IsLegal}
use Rattle.run_model.specs.Plans.{kind_of, needs_of}
use Rattle.journal_laws.proofs.Holders.{is_held, stays_well}
use Rattle.world_laws.proofs.OneWorker.{claim_needs}

well_reply : (st : Standing) → is_well st ≡ true → (reply : Reply) × (st ≡ Well reply)
well_reply (Well reply) h = (reply, refl)
well_reply Free h = absurd (cc h)
well_reply Out h = absurd (cc h)
well_reply Badly h = absurd (cc h)

-- what ended well has after the next entry
still_well : (aim : Aim) (setup : Setup) (entry : Entry) (past : List Entry) (b : ℕ) → IsLegal aim setup (entry ∷ past) → is_well (standing setup past b) ≡ true → is_well (standing setup (entry ∷ past) b) ≡ true
still_well aim setup entry past b legal e = let r = well_reply (standing setup past b) e in ap is_well (stays_well aim setup entry past b r.0 legal r.1)

-- a permit for an action is for that one
work_is : (a : ℕ) (held : Holding) → is_work_on a held ≡ true → held ≡ Work a
work_is a (Work b) e = ap (λ (c : ℕ). Work c) (eqb-true b a e)
work_is a Nothing e = absurd (cc e)
work_is a (Watch s) e = absurd (cc e)

module _ (aim : Aim) (setup : Setup) where
  -- what an action needs that isn't free any more ended well
  pub claimed_needs : (past : List Entry) (a b : ℕ) → IsLegal aim setup past → is_free (standing setup past a) ≡ false → Among (needs_of setup.actions a) b → is_well (standing setup past b) ≡ true
  claimed_needs [] a b legal e m = absurd (cc e)
  claimed_needs (Entry.Claim v c ∷ past) a b legal e m = still_well aim setup (Entry.Claim v c) past b legal (at (c == a) refl e (claimed_needs past a b legal.0))
    where
      at : (t : Bool) → (c == a) ≡ t → is_free (if t then Out else standing setup past a) ≡ false
          → (is_free (standing setup past a) ≡ false → Among (needs_of setup.actions a) b → is_well (standing setup past b) ≡ true) → is_well (standing setup past b) ≡ true
      at true h f rest = claim_needs aim setup past v c b legal (subst (λ (x : ℕ). Among (needs_of setup.actions x) b) (sym (eqb-true c a h)) m)
      at false h f rest = rest f m
  claimed_needs (Entry.Ended v outcome ∷ past) a b legal e m = still_well aim setup (Entry.Ended v outcome) past b legal (at (is_work_on a (holding past v)) refl e (claimed_needs past a b legal.0))
    where
      at : (t : Bool) → is_work_on a (holding past v) ≡ t → is_free (if t then ended_as (kind_of setup.actions a) outcome else standing setup past a) ≡ false
          → (is_free (standing setup past a) ≡ false → Among (needs_of setup.actions a) b → is_well (standing setup past b) ≡ true) → is_well (standing setup past b) ≡ true
      at true h f rest = rest (ap is_free (is_held aim setup past v a legal.0 (work_is a (holding past v) h)).out) m
      at false h f rest = rest f m
  claimed_needs (Entry.Seen observation ∷ past) a b legal e m = claimed_needs past a b legal.0 e m
  claimed_needs (Entry.Poll v s ∷ past) a b legal e m = claimed_needs past a b legal.0 e m
  claimed_needs (Entry.Idle v ∷ past) a b legal e m = claimed_needs past a b legal.0 e m
  claimed_needs (Entry.Leave v ∷ past) a b legal e m = claimed_needs past a b legal.0 e m
  claimed_needs (Entry.Stop v ∷ past) a b legal e m = claimed_needs past a b legal.0 e m
  claimed_needs (Entry.Late v why ∷ past) a b legal e m = claimed_needs past a b legal.0 e m
  claimed_needs (Entry.Short v ∷ past) a b legal e m = claimed_needs past a b legal.0 e m

  -- and so what an action needs that ended well
  pub well_needs : (past : List Entry) (a b : ℕ) → IsLegal aim setup past → is_well (standing setup past a) ≡ true → Among (needs_of setup.actions a) b → is_well (standing setup past b) ≡ true
  well_needs past a b legal e m = claimed_needs past a b legal (not_free (standing setup past a) e) m
    where
      not_free : (st : Standing) → is_well st ≡ true → is_free st ≡ false
      not_free (Well reply) h = refl
      not_free Free h = absurd (cc h)
      not_free Out h = absurd (cc h)
      not_free Badly h = absurd (cc h)
