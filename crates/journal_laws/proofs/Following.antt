-- Which entries may follow a legal journal.
use Rattle.std.proofs.Common.{◌≡◌, ◌⊎◌, ℕ, ◌<◌, ◌≤◌, true, List, [], ◌∷◌, ◌++◌, reverse, length, Some, refl, sym, ap, ◌∙◌, subst, inl, inr}
use Rattle.std.proofs.lemmas.Bool.{true≢false}
use Rattle.std.proofs.lemmas.List.{reverse-append}
use Rattle.std.specs.Prelude.{is_some, IsSomeAnd}
use Rattle.engine_types.specs.declared.Aim.{Aim}
use Rattle.tree_base.specs.Limits.{most_entries}
use Rattle.engine_types.specs.declared.Entry.{Entry}
use Rattle.engine_types.specs.declared.LateWhy.{LateWhy}
use Rattle.engine_types.specs.declared.Outcome.{Outcome}
use Rattle.engine_types.specs.declared.Seen.{Seen}
use Rattle.run_model.specs.Journals.{Setup, holding, is_open, seen_in}
use Rattle.run_model.specs.Legal.{Decision, Full, Go, IsLegal, IsReady, Look, MayStand, Pause, Take, decision}
use Rattle.run_model.specs.Logs.{asker}
use Rattle.journal_laws.specs.Courses.{Course, MayAsk, MayStop, entries, first_seen, grown, setup_of}
use Rattle.journal_laws.specs.Laws.{IsLegalRun, decided, decided_entry}

-- more entries leave what was seen first
seen_kept : (items : List Entry) (entry : Entry) → (items ≡ [] → ⊥) → first_seen (items ++ entry ∷ []) ≡ first_seen items
seen_kept [] entry some = absurd (some refl)
seen_kept (Entry.Seen observation ∷ rest) entry some = refl
seen_kept (x ∷ rest) entry some = refl

-- the newest entry of a run that has grown
newest : (run : Course) (entry : Entry) → entries (grown run entry) ≡ entry ∷ entries run
newest run entry = reverse-append run.journal (entry ∷ [])

-- a run that saw something over what it saw
seeing : Course → Seen → Setup
seeing run seen = record { declared = run.declared; seen = seen; actions = run.plan.actions; limits = run.limits }

begun_some : (items : List Entry) → is_some (seen_in (reverse items)) ≡ true → items ≡ [] → ⊥
begun_some items begun e = true≢false (sym begun ∙ ap (λ (xs : List Entry). is_some (seen_in (reverse xs))) e)

open_some : (items : List Entry) (w : ℕ) → is_open (holding (reverse items) w) ≡ true → items ≡ [] → ⊥
open_some items w h e = true≢false (sym h ∙ ap (λ (xs : List Entry). is_open (holding (reverse xs) w)) e)

-- what may stand after a run's entries makes a legal run
pub legal_grown : (aim : Aim) (run : Course) (entry : Entry) → (run.journal ≡ [] → ⊥) → IsLegalRun aim run → MayStand aim (setup_of run) (entries run) entry → IsLegalRun aim (grown run entry)
unfolding seeing
legal_grown aim run entry some legal stands =
    subst (λ (seen : Seen). IsLegal aim (seeing run seen) (entries (grown run entry))) (sym (seen_kept run.journal entry some))
    (subst (λ (past : List Entry). IsLegal aim (setup_of run) past) (sym (newest run entry)) (legal, stands))

-- and the other way round
pub grown_stands : (aim : Aim) (run : Course) (entry : Entry) → (run.journal ≡ [] → ⊥) → IsLegalRun aim (grown run entry) → MayStand aim (setup_of run) (entries run) entry
unfolding seeing
grown_stands aim run entry some legal =
    (subst (λ (past : List Entry). IsLegal aim (setup_of run) past) (newest run entry)
    (subst (λ (seen : Seen). IsLegal aim (seeing run seen) (entries (grown run entry))) (seen_kept run.journal entry some) legal)).1

some_of : (run : Course) (w : ℕ) → MayAsk run w → run.journal ≡ [] → ⊥
some_of run w ready = begun_some run.journal ready.begun

decided_stands : (aim : Aim) (setup : Setup) (past : List Entry) (w : ℕ) (d : Decision) → IsReady setup past w → decision setup past w ≡ d → MayStand aim setup past (decided_entry w d)
decided_stands aim setup past w Full ready e = (ready, e)
decided_stands aim setup past w Go ready e = (ready, e)
decided_stands aim setup past w (Take a) ready e = (ready, e)
decided_stands aim setup past w (Look s) ready e = (ready, e)
decided_stands aim setup past w Pause ready e = (ready, e)

pub answers : (aim : Aim) (run : Course) (w : ℕ) → IsLegalRun aim run → MayAsk run w → IsLegalRun aim (grown run (decided_entry w (decided run w)))
answers aim run w legal ready = legal_grown aim run (decided_entry w (decided run w)) (some_of run w ready) legal (decided_stands aim (setup_of run) (entries run) w (decided run w) ready refl)

pub shorts : (aim : Aim) (run : Course) (w : ℕ) → IsLegalRun aim run → MayAsk run w → length (entries run) < most_entries → IsLegalRun aim (grown run (Entry.Short w))
shorts aim run w legal ready below = legal_grown aim run (Entry.Short w) (some_of run w ready) legal (ready, below)

pub ends : (aim : Aim) (run : Course) (w : ℕ) (outcome : Outcome) → IsLegalRun aim run → is_open (holding (entries run) w) ≡ true → IsLegalRun aim (grown run (Entry.Ended w outcome))
ends aim run w outcome legal out = legal_grown aim run (Entry.Ended w outcome) (open_some run.journal w out) legal out

pub stops : (aim : Aim) (run : Course) (w : ℕ) → IsLegalRun aim run → MayStop run w → IsLegalRun aim (grown run (Entry.Stop w))
stops aim run w legal may = legal_grown aim run (Entry.Stop w) (some_of run w may.ready) legal (may.ready, may.first_time)

pub lates : (aim : Aim) (run : Course) (w reading : ℕ) → IsLegalRun aim run → MayStop run w → IsSomeAnd run.limits.deadline (λ deadline. deadline ≤ reading)
    → IsLegalRun aim (grown run (Entry.Late w (LateWhy.Deadline reading)))
lates aim run w reading legal may late = legal_grown aim run (Entry.Late w (LateWhy.Deadline reading)) (some_of run w may.ready) legal (may.ready, may.first_time, late)

-- the worker of an entry that answers an ask was ready, whatever the run saw
ready_seeing : (aim : Aim) (run : Course) (seen : Seen) (past : List Entry) (w : ℕ) (entry : Entry) → asker entry ≡ Some w → MayStand aim (seeing run seen) past entry → is_some (seen_in past) ≡ true
ready_seeing aim run seen past w (Entry.Claim v a) e stands = stands.0.begun
ready_seeing aim run seen past w (Entry.Poll v s) e stands = stands.0.begun
ready_seeing aim run seen past w (Entry.Idle v) e stands = stands.0.begun
ready_seeing aim run seen past w (Entry.Leave v) e stands = stands.0.begun
ready_seeing aim run seen past w (Entry.Short v) e stands = stands.0.begun
ready_seeing aim run seen past w (Entry.Late v LateWhy.Entries) e stands = stands.0.begun
ready_seeing aim run seen past w (Entry.Late v (LateWhy.Deadline reading)) e stands = stands.0.begun
ready_seeing aim run seen past w entry e stands = absurd (cc e)

is_decided : (aim : Aim) (setup : Setup) (past : List Entry) (w : ℕ) (entry : Entry) → asker entry ≡ Some w → MayStand aim setup past entry
    → (entry ≡ Entry.Short w) ⊎ (entry ≡ decided_entry w (decision setup past w))
is_decided aim setup past w (Entry.Claim v a) e stands = let same : v ≡ w = cc e in
    inr (subst (λ (x : ℕ). Entry.Claim x a ≡ decided_entry w (decision setup past w)) (sym same) (sym (ap (decided_entry w) (subst (λ (x : ℕ). decision setup past x ≡ Take a) same stands.1))))
is_decided aim setup past w (Entry.Poll v s) e stands = let same : v ≡ w = cc e in
    inr (subst (λ (x : ℕ). Entry.Poll x s ≡ decided_entry w (decision setup past w)) (sym same) (sym (ap (decided_entry w) (subst (λ (x : ℕ). decision setup past x ≡ Look s) same stands.1))))
is_decided aim setup past w (Entry.Idle v) e stands = let same : v ≡ w = cc e in
    inr (subst (λ (x : ℕ). Entry.Idle x ≡ decided_entry w (decision setup past w)) (sym same) (sym (ap (decided_entry w) (subst (λ (x : ℕ). decision setup past x ≡ Pause) same stands.1))))
is_decided aim setup past w (Entry.Leave v) e stands = let same : v ≡ w = cc e in
    inr (subst (λ (x : ℕ). Entry.Leave x ≡ decided_entry w (decision setup past w)) (sym same) (sym (ap (decided_entry w) (subst (λ (x : ℕ). decision setup past x ≡ Go) same stands.1))))
is_decided aim setup past w (Entry.Late v LateWhy.Entries) e stands = let same : v ≡ w = cc e in
    inr (subst (λ (x : ℕ). Entry.Late x LateWhy.Entries ≡ decided_entry w (decision setup past w)) (sym same) (sym (ap (decided_entry w) (subst (λ (x : ℕ). decision setup past x ≡ Full) same stands.1))))
is_decided aim setup past w (Entry.Short v) e stands = let same : v ≡ w = cc e in inl (ap (λ (x : ℕ). Entry.Short x) same)
is_decided aim setup past w entry e stands = absurd (cc e)

pub only : (aim : Aim) (run : Course) (w : ℕ) (entry : Entry) → asker entry ≡ Some w → IsLegalRun aim (grown run entry) → (entry ≡ Entry.Short w) ⊎ (entry ≡ decided_entry w (decided run w))
unfolding seeing
only aim run w entry e legal =
    let stands = (subst (λ (past : List Entry). IsLegal aim (setup_of (grown run entry)) past) (newest run entry) legal).1 in
    let begun : is_some (seen_in (entries run)) ≡ true = ready_seeing aim run (first_seen (run.journal ++ entry ∷ [])) (entries run) w entry e stands in
    is_decided aim (setup_of run) (entries run) w entry e (grown_stands aim run entry (begun_some run.journal begun) legal)
