-- Exchanges of which each ended as the Engine says, and who holds a permit in a legal journal.
use Rattle.std.proofs.Common.{◌≡◌, ℕ, ◌<◌, Bool, true, false, List, [], ◌∷◌, ◌++◌, refl, subst}
use Rattle.std.proofs.lemmas.Bool.{eqb-true}
use Rattle.std.specs.Prelude.{if◌then◌else◌, ◌==◌, ◌||◌, is_some}
use Rattle.std.specs.List.{list_any}
use Rattle.engine_types.specs.declared.Aim.{Aim}
use Rattle.engine_types.specs.declared.Entry.{Entry}
use Rattle.engine_types.specs.declared.Exchange.{Exchange}
use Rattle.run_model.specs.Journals.{Nothing, Setup, Watch, Work, holding, is_open, seen_in}
use Rattle.run_model.specs.Legal.{IsLegal, IsReady}
use Rattle.run_model.specs.Logs.{exchanges_of}
use Rattle.run_model.specs.Requests.{request_out}
use Rattle.deterministic_runs.specs.Allowed.{AreHeeded, AreServed, Rules, Stand, after_all, stand_after, wants_memory}

served_front : (rules : Rules) (stand : Stand) (xs ys : List Exchange) → AreServed rules stand (xs ++ ys) → AreServed rules stand xs
served_front rules stand [] ys h = tt
served_front rules stand (x ∷ xs) ys h = (h.0, served_front rules (stand_after rules stand x.request) xs ys h.1)

pub served_last : (rules : Rules) (stand : Stand) (xs : List Exchange) (x : Exchange) → AreServed rules stand (xs ++ x ∷ [])
    → x.outcome ≡ (rules.next (after_all rules stand xs) x.request).0
served_last rules stand [] x h = h.0
served_last rules stand (y ∷ xs) x h = served_last rules (stand_after rules stand y.request) xs x h.1

-- what the exchanges of a journal are holds of those before its latest entry
served_before : (rules : Rules) (start : Stand) (setup : Setup) (entry : Entry) (past : List Entry) → AreServed rules start (exchanges_of setup (entry ∷ past) 0)
    → AreServed rules start (exchanges_of setup past 0)
served_before rules start setup (Entry.Seen observation) past h = served_front rules start (exchanges_of setup past 0) observation.exchanges h
served_before rules start setup (Entry.Ended v outcome) past h = at (v == 0) h
  where
    at : (t : Bool) → AreServed rules start (if t then exchanges_of setup past 0 ++ record { request = request_out setup past v; outcome = outcome } ∷ [] else exchanges_of setup past 0)
        → AreServed rules start (exchanges_of setup past 0)
    at true g = served_front rules start (exchanges_of setup past 0) (record { request = request_out setup past v; outcome = outcome } ∷ []) g
    at false g = g
served_before rules start setup (Entry.Claim v a) past h = h
served_before rules start setup (Entry.Poll v s) past h = h
served_before rules start setup (Entry.Idle v) past h = h
served_before rules start setup (Entry.Leave v) past h = h
served_before rules start setup (Entry.Stop v) past h = h
served_before rules start setup (Entry.Late v why) past h = h
served_before rules start setup (Entry.Short v) past h = h

neither : (a b : Bool) → (a || b) ≡ false → (a ≡ false) × (b ≡ false)
neither true b e = absurd (cc e)
neither false b e = (refl, e)

-- a journal that the Engine allows, as far as it was written
pub record IsFine (rules : Rules) (start : Stand) (aim : Aim) (setup : Setup) (past : List Entry) : Type 0 where
  pub legal : IsLegal aim setup past
  pub served : AreServed rules start (exchanges_of setup past 0)
  pub heeded : AreHeeded rules start setup past
  pub ample : list_any wants_memory past ≡ false

-- and so it was before its latest entry
pub fine_before : (rules : Rules) (start : Stand) (aim : Aim) (setup : Setup) (entry : Entry) (past : List Entry) → IsFine rules start aim setup (entry ∷ past)
    → IsFine rules start aim setup past
fine_before rules start aim setup entry past fine = record {
  legal = fine.legal.0;
  served = served_before rules start setup entry past fine.served;
  heeded = fine.heeded.0;
  ample = (neither (wants_memory entry) (list_any wants_memory past) fine.ample).1;
}

pub ample_entry : (entry : Entry) (past : List Entry) → list_any wants_memory (entry ∷ past) ≡ false → wants_memory entry ≡ false
ample_entry entry past e = (neither (wants_memory entry) (list_any wants_memory past) e).0

-- who holds a permit is one of the workers, and the observation ended well
pub record IsReadyHolder (setup : Setup) (past : List Entry) (w : ℕ) : Type 0 where
  pub begun : is_some (seen_in past) ≡ true
  pub below : w < setup.limits.workers

holder_of : (setup : Setup) (past : List Entry) (v w : ℕ) → v ≡ w → IsReady setup past v → IsReadyHolder setup past w
holder_of setup past v w same ready = record { begun = ready.begun; below = subst (λ (u : ℕ). u < setup.limits.workers) same ready.below }

pub open_ready : (aim : Aim) (setup : Setup) (past : List Entry) (w : ℕ) → IsLegal aim setup past → is_open (holding past w) ≡ true → IsReadyHolder setup past w
open_ready aim setup [] w legal e = absurd (cc e)
open_ready aim setup (Entry.Seen observation ∷ past) w legal e =
    let none : is_open (holding [] w) ≡ true = subst (λ (l : List Entry). is_open (holding l w) ≡ true) legal.1.0 e in absurd (cc none)
open_ready aim setup (Entry.Claim v a ∷ past) w legal e = at (v == w) refl (open_ready aim setup past w legal.0) e
  where
    at : (t : Bool) → (v == w) ≡ t → (is_open (holding past w) ≡ true → IsReadyHolder setup past w)
        → is_open (if t then Work a else holding past w) ≡ true → IsReadyHolder setup (Entry.Claim v a ∷ past) w
    at true same before f = let rest = holder_of setup past v w (eqb-true v w same) legal.1.0 in record { begun = rest.begun; below = rest.below }
    at false other before f = let rest = before f in record { begun = rest.begun; below = rest.below }
open_ready aim setup (Entry.Poll v s ∷ past) w legal e = at (v == w) refl (open_ready aim setup past w legal.0) e
  where
    at : (t : Bool) → (v == w) ≡ t → (is_open (holding past w) ≡ true → IsReadyHolder setup past w)
        → is_open (if t then Watch s else holding past w) ≡ true → IsReadyHolder setup (Entry.Poll v s ∷ past) w
    at true same before f = let rest = holder_of setup past v w (eqb-true v w same) legal.1.0 in record { begun = rest.begun; below = rest.below }
    at false other before f = let rest = before f in record { begun = rest.begun; below = rest.below }
open_ready aim setup (Entry.Ended v outcome ∷ past) w legal e = at (v == w) (open_ready aim setup past w legal.0) e
  where
    at : (t : Bool) → (is_open (holding past w) ≡ true → IsReadyHolder setup past w) → is_open (if t then Nothing else holding past w) ≡ true
        → IsReadyHolder setup (Entry.Ended v outcome ∷ past) w
    at true before f = absurd (cc f)
    at false before f = let rest = before f in record { begun = rest.begun; below = rest.below }
open_ready aim setup (Entry.Idle v ∷ past) w legal e = let rest = open_ready aim setup past w legal.0 e in record { begun = rest.begun; below = rest.below }
open_ready aim setup (Entry.Leave v ∷ past) w legal e = let rest = open_ready aim setup past w legal.0 e in record { begun = rest.begun; below = rest.below }
open_ready aim setup (Entry.Stop v ∷ past) w legal e = let rest = open_ready aim setup past w legal.0 e in record { begun = rest.begun; below = rest.below }
open_ready aim setup (Entry.Late v why ∷ past) w legal e = let rest = open_ready aim setup past w legal.0 e in record { begun = rest.begun; below = rest.below }
open_ready aim setup (Entry.Short v ∷ past) w legal e = let rest = open_ready aim setup past w legal.0 e in record { begun = rest.begun; below = rest.below }
