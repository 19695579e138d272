-- What the entries of actions change.
use Rattle.std.proofs.Common.{◌≡◌, ℕ, Bool, true, false, not, ◌&&◌, ◌||◌, List, ◌∷◌, if◌then◌else◌, refl, sym, ap, ◌∙◌}
use Rattle.std.proofs.lemmas.Bool.{eq-eqb, true≢false}
use Rattle.engine_types.specs.declared.Condition.{Condition}
use Rattle.engine_types.specs.declared.Entry.{Entry}
use Rattle.engine_types.specs.declared.Outcome.{Outcome}
use Rattle.run_model.specs.Conditions.{has_failed, is_watched, was_met}
use Rattle.run_model.specs.Journals.{Holding, Out, Setup, Work, ended_as, holding, is_watch_of, is_work_on, standing}
use Rattle.run_model.specs.Plans.{kind_of}
use Rattle.ledger_rows.specs.Facts.{ChangesOne, facts_of}
use Rattle.ledger_rows.proofs.Watching.{differs}

-- a claim
pub claim_changes : (setup : Setup) (past : List Entry) (w a : ℕ) → ChangesOne (facts_of setup past) (facts_of setup (Entry.Claim w a ∷ past)) a
claim_changes setup past w a = record {
  others = λ x n. ap (λ (t : Bool). if t then Out else standing setup past x) (differs a x (λ e. n (sym e)));
  failed = refl;
  met = refl;
}

pub claimed_out : (setup : Setup) (past : List Entry) (w a : ℕ) → standing setup (Entry.Claim w a ∷ past) a ≡ Out
claimed_out setup past w a = ap (λ (t : Bool). if t then Out else standing setup past a) (eq-eqb a a refl)

two_same : (p q : ℕ → Condition → Bool) → ((s : ℕ) (c : Condition) → p s c ≡ q s c) → p ≡ q
two_same p q each = λ i s c. each s c i

-- the end of an action
module _ (setup : Setup) (past : List Entry) (w b : ℕ) (outcome : Outcome) (held : holding past w ≡ Work b) where
  pub ended_changes : ChangesOne (facts_of setup past) (facts_of setup (Entry.Ended w outcome ∷ past)) b
  ended_changes = record {
    others = λ x n. ap (λ (h : Holding). if is_work_on x h then ended_as (kind_of setup.actions x) outcome else standing setup past x) held
        ∙ ap (λ (t : Bool). if t then ended_as (kind_of setup.actions x) outcome else standing setup past x) (differs b x (λ e. n (sym e)));
    failed = two_same (has_failed setup (Entry.Ended w outcome ∷ past)) (has_failed setup past) (λ s c. still (not (Rattle.run_model.specs.Conditions.is_started c)) (is_watch_of s (holding past w)) _ (has_failed setup past s c) (no_watch s));
    met = two_same (was_met setup (Entry.Ended w outcome ∷ past)) (was_met setup past) (λ s c. still true (is_watch_of s (holding past w)) _ (was_met setup past s c) (no_watch s));
  }
    where
      no_watch : (s : ℕ) → is_watch_of s (holding past w) ≡ false
      no_watch s = ap (is_watch_of s) held

      still : (t u v x : Bool) → u ≡ false → ((t && u && v) || x) ≡ x
      still true false v x e = refl
      still false u v x e = refl
      still true true v x e = absurd (true≢false e)

  pub ended_stands : standing setup (Entry.Ended w outcome ∷ past) b ≡ ended_as (kind_of setup.actions b) outcome
  ended_stands = ap (λ (h : Holding). if is_work_on b h then ended_as (kind_of setup.actions b) outcome else standing setup past b) held
      ∙ ap (λ (t : Bool). if t then ended_as (kind_of setup.actions b) outcome else standing setup past b) (eq-eqb b b refl)
