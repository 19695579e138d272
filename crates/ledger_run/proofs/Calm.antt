-- Journals of runs that aren't ending.
use Rattle.std.proofs.Common.{◌≡◌, ℕ, ◌<◌, Bool, true, false, List, [], ◌∷◌, length, Option, None, refl, sym}
use Rattle.std.proofs.lemmas.Bool.{leb-false, true≢false}
use Rattle.std.specs.Prelude.{nat_le}
use Rattle.tree_base.specs.Limits.{most_entries}
use Rattle.engine_types.specs.declared.Entry.{Entry}
use Rattle.run_model.specs.Journals.{Setup, has_stopped, is_ending}
use Rattle.run_model.specs.Legal.{Decision, Full, Go, answer_to, decision, is_other_out, next_action, next_poll}
use Rattle.run_model.specs.Logs.{late_reading, was_stopped}

-- nobody stopped or was late
pub record IsCalm (past : List Entry) (w : ℕ) : Type 0 where
  pub first_time : has_stopped past w ≡ false
  pub unstopped : was_stopped past w ≡ false
  pub in_time : late_reading past w ≡ None

pub calm : (past : List Entry) (w : ℕ) → is_ending past ≡ false → IsCalm past w
calm [] w e = record { first_time = refl; unstopped = refl; in_time = refl }
calm (Entry.Stop v ∷ past) w e = absurd (true≢false e)
calm (Entry.Late v why ∷ past) w e = absurd (true≢false e)
calm (Entry.Short v ∷ past) w e = absurd (true≢false e)
calm (entry ∷ past) w e = let r = calm past w e in record { first_time = r.first_time; unstopped = r.unstopped; in_time = r.in_time }

-- whether a worker goes on after a decision
abbrev pub is_going : Decision → Bool
is_going Full = false
is_going Go = false
is_going decision = true

-- a run in which a worker goes on isn't ending, and its journal isn't full
pub record IsGoing (past : List Entry) : Type 0 where
  pub on : is_ending past ≡ false
  pub short : length past < most_entries

pub going : (setup : Setup) (past : List Entry) (w : ℕ) → is_going (decision setup past w) ≡ true → IsGoing past
going setup past w g = by (nat_le most_entries (length past)) (is_ending past) (next_action setup past) (next_poll setup past) (is_other_out setup past w) refl refl g
  where
    by : (t e : Bool) (a p : Option ℕ) (o : Bool) → nat_le most_entries (length past) ≡ t → is_ending past ≡ e → is_going (answer_to t e a p o) ≡ true → IsGoing past
    by true e a p o ht he h = absurd (true≢false (sym h))
    by false true a p o ht he h = absurd (true≢false (sym h))
    by false false a p o ht he h = record { on = he; short = leb-false most_entries (length past) ht }
