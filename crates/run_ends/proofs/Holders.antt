-- Who holds what in a legal journal: whoever holds something is a worker of the run, an action that is out is held by one of them, and
-- whoever has left holds nothing.
use Rattle.std.proofs.Common.{◌≡◌, ℕ, ◌<◌, Bool, true, false, ◌==◌, List, [], ◌∷◌, Option, Some, None, if◌then◌else◌, refl, sym, ap, ◌∙◌, subst}
use Rattle.std.proofs.lemmas.Bool.{eq-eqb, eqb-true, true≢false}
use Rattle.engine_types.specs.declared.ActionKind.{ActionKind}
use Rattle.engine_types.specs.declared.Aim.{Aim}
use Rattle.engine_types.specs.declared.Entry.{Entry}
use Rattle.engine_types.specs.declared.LateWhy.{LateWhy}
use Rattle.engine_types.specs.declared.Outcome.{Outcome}
use Rattle.run_model.specs.Journals.{Badly, Nothing, Out, Setup, Watch, Well, Work, ended_as, has_left, holding, is_good, is_open, is_work_on, standing}
use Rattle.run_model.specs.Legal.{IsLegal}
use Rattle.run_model.specs.Plans.{kind_of}

-- whoever holds a permit is a worker of the run
pub open_below : (aim : Aim) (setup : Setup) (past : List Entry) (w : ℕ) → IsLegal aim setup past → is_open (holding past w) ≡ true → w < setup.limits.workers
open_below aim setup [] w legal e = absurd (cc e)
open_below aim setup (Entry.Claim v a ∷ past) w legal e = at (v == w) refl (open_below aim setup past w legal.0) e
  where
    at : (t : Bool) → (v == w) ≡ t → (is_open (holding past w) ≡ true → w < setup.limits.workers) → is_open (if t then Work a else holding past w) ≡ true → w < setup.limits.workers
    at true h rest f = subst (λ (x : ℕ). x < setup.limits.workers) (eqb-true v w h) legal.1.0.below
    at false h rest f = rest f
open_below aim setup (Entry.Poll v s ∷ past) w legal e = at (v == w) refl (open_below aim setup past w legal.0) e
  where
    at : (t : Bool) → (v == w) ≡ t → (is_open (holding past w) ≡ true → w < setup.limits.workers) → is_open (if t then Watch s else holding past w) ≡ true → w < setup.limits.workers
    at true h rest f = subst (λ (x : ℕ). x < setup.limits.workers) (eqb-true v w h) legal.1.0.below
    at false h rest f = rest f
open_below aim setup (Entry.Ended v outcome ∷ past) w legal e = at (v == w) (open_below aim setup past w legal.0) e
  where
    at : (t : Bool) → (is_open (holding past w) ≡ true → w < setup.limits.workers) → is_open (if t then Nothing else holding past w) ≡ true → w < setup.limits.workers
    at true rest f = absurd (cc f)
    at false rest f = rest f
open_below aim setup (Entry.Seen observation ∷ past) w legal e = open_below aim setup past w legal.0 e
open_below aim setup (Entry.Idle v ∷ past) w legal e = open_below aim setup past w legal.0 e
open_below aim setup (Entry.Leave v ∷ past) w legal e = open_below aim setup past w legal.0 e
open_below aim setup (Entry.Stop v ∷ past) w legal e = open_below aim setup past w legal.0 e
open_below aim setup (Entry.Late v why ∷ past) w legal e = open_below aim setup past w legal.0 e
open_below aim setup (Entry.Short v ∷ past) w legal e = open_below aim setup past w legal.0 e

-- what ended isn't out
ended_not_out : (kind : Option ActionKind) (outcome : Outcome) → ended_as kind outcome ≡ Out → ⊥
ended_not_out (Some kind) (Outcome.Answered reply) e = at (is_good kind reply) e
  where
    at : (t : Bool) → (if t then Well reply else Badly) ≡ Out → ⊥
    at true f = cc f
    at false f = cc f
ended_not_out (Some kind) outcome e = cc e
ended_not_out None outcome e = cc e

-- a worker of the run that holds an action
pub record IsHolder (setup : Setup) (past : List Entry) (a : ℕ) : Type 0 where
  pub worker : ℕ
  pub below : worker < setup.limits.workers
  pub holds : holding past worker ≡ Work a

-- an action that is out is held
pub out_held : (aim : Aim) (setup : Setup) (past : List Entry) (a : ℕ) → IsLegal aim setup past → standing setup past a ≡ Out → IsHolder setup past a
out_held aim setup [] a legal e = absurd (cc e)
out_held aim setup (Entry.Claim v b ∷ past) a legal e = at (b == a) refl (out_held aim setup past a legal.0) e
  where
    -- the worker that claims held nothing
    apart : (r : IsHolder setup past a) (t : Bool) → (v == r.worker) ≡ t → (if t then Work b else holding past r.worker) ≡ Work a
    apart r true h =
        let idle : holding past r.worker ≡ Nothing = subst (λ (x : ℕ). holding past x ≡ Nothing) (eqb-true v r.worker h) legal.1.0.idle in
        let bad : Nothing ≡ Work a = sym idle ∙ r.holds in absurd (cc bad)
    apart r false h = r.holds

    at : (t : Bool) → (b == a) ≡ t → (standing setup past a ≡ Out → IsHolder setup past a) → (if t then Out else standing setup past a) ≡ Out → IsHolder setup (Entry.Claim v b ∷ past) a
    at true h rest f = record { worker = v; below = legal.1.0.below; holds = rw (eq-eqb v v refl) (ap (λ (x : ℕ). Work x) (eqb-true b a h)) }
    at false h rest f = let r = rest f in record { worker = r.worker; below = r.below; holds = apart r (v == r.worker) refl }
out_held aim setup (Entry.Ended v outcome ∷ past) a legal e = at (is_work_on a (holding past v)) refl (out_held aim setup past a legal.0) e
  where
    apart : is_work_on a (holding past v) ≡ false → (r : IsHolder setup past a) (t : Bool) → (v == r.worker) ≡ t → (if t then Nothing else holding past r.worker) ≡ Work a
    apart k r true h =
        let held : holding past v ≡ Work a = subst (λ (x : ℕ). holding past x ≡ Work a) (sym (eqb-true v r.worker h)) r.holds in
        let bad : true ≡ false = sym (ap (is_work_on a) held ∙ eq-eqb a a refl) ∙ k in absurd (cc bad)
    apart k r false h = r.holds

    at : (t : Bool) → is_work_on a (holding past v) ≡ t → (standing setup past a ≡ Out → IsHolder setup past a)
        → (if t then ended_as (kind_of setup.actions a) outcome else standing setup past a) ≡ Out → IsHolder setup (Entry.Ended v outcome ∷ past) a
    at true h rest f = absurd (ended_not_out (kind_of setup.actions a) outcome f)
    at false h rest f = let r = rest f in record { worker = r.worker; below = r.below; holds = apart h r (v == r.worker) refl }
out_held aim setup (Entry.Poll v s ∷ past) a legal e = let r = out_held aim setup past a legal.0 e in record { worker = r.worker; below = r.below; holds = apart r (v == r.worker) refl }
  where
    apart : (r : IsHolder setup past a) (t : Bool) → (v == r.worker) ≡ t → (if t then Watch s else holding past r.worker) ≡ Work a
    apart r true h =
        let idle : holding past r.worker ≡ Nothing = subst (λ (x : ℕ). holding past x ≡ Nothing) (eqb-true v r.worker h) legal.1.0.idle in
        let bad : Nothing ≡ Work a = sym idle ∙ r.holds in absurd (cc bad)
    apart r false h = r.holds
out_held aim setup (Entry.Seen observation ∷ past) a legal e = let r = out_held aim setup past a legal.0 e in record { worker = r.worker; below = r.below; holds = r.holds }
out_held aim setup (Entry.Idle v ∷ past) a legal e = let r = out_held aim setup past a legal.0 e in record { worker = r.worker; below = r.below; holds = r.holds }
out_held aim setup (Entry.Leave v ∷ past) a legal e = let r = out_held aim setup past a legal.0 e in record { worker = r.worker; below = r.below; holds = r.holds }
out_held aim setup (Entry.Stop v ∷ past) a legal e = let r = out_held aim setup past a legal.0 e in record { worker = r.worker; below = r.below; holds = r.holds }
out_held aim setup (Entry.Late v why ∷ past) a legal e = let r = out_held aim setup past a legal.0 e in record { worker = r.worker; below = r.below; holds = r.holds }
out_held aim setup (Entry.Short v ∷ past) a legal e = let r = out_held aim setup past a legal.0 e in record { worker = r.worker; below = r.below; holds = r.holds }

-- whoever has left holds nothing
pub left_idle : (aim : Aim) (setup : Setup) (past : List Entry) (w : ℕ) → IsLegal aim setup past → has_left past w ≡ true → holding past w ≡ Nothing
left_idle aim setup [] w legal e = absurd (cc e)
left_idle aim setup (Entry.Claim v a ∷ past) w legal e = at (v == w) refl (left_idle aim setup past w legal.0 e)
  where
    at : (t : Bool) → (v == w) ≡ t → holding past w ≡ Nothing → (if t then Work a else holding past w) ≡ Nothing
    at true h rest = absurd (true≢false (sym e ∙ subst (λ (x : ℕ). has_left past x ≡ false) (eqb-true v w h) legal.1.0.here))
    at false h rest = rest
left_idle aim setup (Entry.Poll v s ∷ past) w legal e = at (v == w) refl (left_idle aim setup past w legal.0 e)
  where
    at : (t : Bool) → (v == w) ≡ t → holding past w ≡ Nothing → (if t then Watch s else holding past w) ≡ Nothing
    at true h rest = absurd (true≢false (sym e ∙ subst (λ (x : ℕ). has_left past x ≡ false) (eqb-true v w h) legal.1.0.here))
    at false h rest = rest
left_idle aim setup (Entry.Ended v outcome ∷ past) w legal e = at (v == w) (left_idle aim setup past w legal.0 e)
  where
    at : (t : Bool) → holding past w ≡ Nothing → (if t then Nothing else holding past w) ≡ Nothing
    at true rest = refl
    at false rest = rest
left_idle aim setup (Entry.Leave v ∷ past) w legal e = at (v == w) refl (left_idle aim setup past w legal.0) e
  where
    at : (t : Bool) → (v == w) ≡ t → (has_left past w ≡ true → holding past w ≡ Nothing) → (if t then true else has_left past w) ≡ true → holding past w ≡ Nothing
    at true h rest f = subst (λ (x : ℕ). holding past x ≡ Nothing) (eqb-true v w h) legal.1.0.idle
    at false h rest f = rest f
left_idle aim setup (Entry.Short v ∷ past) w legal e = at (v == w) refl (left_idle aim setup past w legal.0) e
  where
    at : (t : Bool) → (v == w) ≡ t → (has_left past w ≡ true → holding past w ≡ Nothing) → (if t then true else has_left past w) ≡ true → holding past w ≡ Nothing
    at true h rest f = subst (λ (x : ℕ). holding past x ≡ Nothing) (eqb-true v w h) legal.1.0.idle
    at false h rest f = rest f
left_idle aim setup (Entry.Late v LateWhy.Entries ∷ past) w legal e = at (v == w) refl (left_idle aim setup past w legal.0) e
  where
    at : (t : Bool) → (v == w) ≡ t → (has_left past w ≡ true → holding past w ≡ Nothing) → (if t then true else has_left past w) ≡ true → holding past w ≡ Nothing
    at true h rest f = subst (λ (x : ℕ). holding past x ≡ Nothing) (eqb-true v w h) legal.1.0.idle
    at false h rest f = rest f
left_idle aim setup (Entry.Late v (LateWhy.Deadline reading) ∷ past) w legal e = left_idle aim setup past w legal.0 e
left_idle aim setup (Entry.Seen observation ∷ past) w legal e = left_idle aim setup past w legal.0 e
left_idle aim setup (Entry.Idle v ∷ past) w legal e = left_idle aim setup past w legal.0 e
left_idle aim setup (Entry.Stop v ∷ past) w legal e = left_idle aim setup past w legal.0 e
