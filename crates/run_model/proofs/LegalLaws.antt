-- What the decision on an ask says, and how an action stands that ended.
use Rattle.std.proofs.Common.{◌≡◌, ℕ, Bool, true, false, cond, List, [], ◌∷◌, Option, Some, None, length, refl}
use Rattle.std.specs.Prelude.{find, if◌then◌else◌, nat_le}
use Rattle.engine_types.specs.declared.Aim.{Aim}
use Rattle.tree_base.specs.Limits.{most_entries}
use Rattle.engine_types.specs.declared.ActionKind.{ActionKind}
use Rattle.engine_types.specs.declared.Entry.{Entry}
use Rattle.engine_types.specs.declared.LateWhy.{LateWhy}
use Rattle.engine_types.specs.declared.Outcome.{Outcome}
use Rattle.run_model.specs.Conditions.{is_allowed}
use Rattle.run_model.specs.Journals.{Badly, Setup, Well, ended_as, is_ending, is_free, is_good}
use Rattle.run_model.specs.Legal.{Decision, Full, Go, IsLegal, IsReady, Look, Pause, Take, answer_to, decision, is_other_out, next_action, next_poll}
use Rattle.run_model.specs.Logs.{asker}
use Rattle.run_model.specs.Numbers.{places}

-- what is found passes the test
pub found_passes : {X : Type 0} (test : X → Bool) (xs : List X) (x : X) → find test xs ≡ Some x → test x ≡ true
found_passes test [] x e = absurd (cc e)
found_passes {X} test (y ∷ ys) x e = at (test y) refl (found_passes test ys x) e
  where
    at : (t : Bool) → test y ≡ t → (find test ys ≡ Some x → test x ≡ true) → cond t (Some y) (find test ys) ≡ Some x → test x ≡ true
    at true h rest f = let same : y ≡ x = cc f in rw (← same) h
    at false h rest f = rest f

-- an ask that is answered with an action
answers_take : (full ending : Bool) (action slot : Option ℕ) (out : Bool) (a : ℕ) → answer_to full ending action slot out ≡ Take a → action ≡ Some a
answers_take true ending action slot out a e = absurd (cc e)
answers_take false true action slot out a e = absurd (cc e)
answers_take false false (Some b) slot out a e = cc e
answers_take false false None (Some s) out a e = absurd (cc e)
answers_take false false None None true a e = absurd (cc e)
answers_take false false None None false a e = absurd (cc e)

-- a worker that is given an action is given the next one
pub decision_take : (setup : Setup) (past : List Entry) (w a : ℕ) → decision setup past w ≡ Take a → next_action setup past ≡ Some a
decision_take setup past w a e = answers_take (nat_le most_entries (length past)) (is_ending past) (next_action setup past) (next_poll setup past) (is_other_out setup past w) a e

-- an action that is claimed was allowed
pub claim_allowed : (aim : Aim) (setup : Setup) (past : List Entry) (w a : ℕ) → IsLegal aim setup (Entry.Claim w a ∷ past) → is_allowed setup past a ≡ true
claim_allowed aim setup past w a legal = found_passes (is_allowed setup past) (places setup.actions) a (decision_take setup past w a legal.1.1)

-- each answer is an entry
pub ask_answered : (aim : Aim) (setup : Setup) (past : List Entry) (w : ℕ) → IsLegal aim setup past → IsReady setup past w
    → (entry : Entry) × (asker entry ≡ Some w) × IsLegal aim setup (entry ∷ past)
ask_answered aim setup past w legal ready = at (decision setup past w) refl
  where
    at : (d : Decision) → decision setup past w ≡ d → (entry : Entry) × (asker entry ≡ Some w) × IsLegal aim setup (entry ∷ past)
    at Full e = (Entry.Late w LateWhy.Entries, refl, (legal, (ready, e)))
    at Go e = (Entry.Leave w, refl, (legal, (ready, e)))
    at (Take a) e = (Entry.Claim w a, refl, (legal, (ready, e)))
    at (Look s) e = (Entry.Poll w s, refl, (legal, (ready, e)))
    at Pause e = (Entry.Idle w, refl, (legal, (ready, e)))

-- an action that ended isn't free
pub ended_not_free : (kind : Option ActionKind) (outcome : Outcome) → is_free (ended_as kind outcome) ≡ false
ended_not_free (Some kind) (Outcome.Answered reply) = at (is_good kind reply)
  where
    at : (t : Bool) → is_free (if t then Well reply else Badly) ≡ false
    at true = refl
    at false = refl
ended_not_free (Some kind) outcome = refl
ended_not_free None outcome = refl
