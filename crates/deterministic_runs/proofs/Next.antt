-- The entry that may come next is one.
use Rattle.std.proofs.Common.{◌≡◌, ◌∙◌, ℕ, ◌<◌, ◌≤◌, Bool, true, false, List, [], ◌∷◌, ◌++◌, Option, None, ap, arith, refl, subst, sym}
use Rattle.std.specs.Option.{IsSomeAnd}
use Rattle.engine_types.specs.declared.Aim.{Aim}
use Rattle.engine_types.specs.declared.Entry.{Entry}
use Rattle.engine_types.specs.declared.LateWhy.{LateWhy}
use Rattle.engine_types.specs.declared.Outcome.{Outcome}
use Rattle.run_model.specs.Journals.{Setup, has_stopped, holding, is_open}
use Rattle.run_model.specs.Legal.{Decision, Full, Go, IsReady, Look, Pause, Take, decision}
use Rattle.run_model.specs.Logs.{exchanges_of}
use Rattle.run_model.specs.Requests.{request_out}
use Rattle.deterministic_runs.specs.Allowed.{AreServed, GoesOn, Rules, Stand, after_all, is_asked_in}
use Rattle.deterministic_runs.proofs.Served.{IsFine, ample_entry, open_ready, served_last}

-- the answer to an ask of a worker
abbrev pub answer : Decision → ℕ → Entry
answer Full w = Entry.Late w LateWhy.Entries
answer Go w = Entry.Leave w
answer (Take a) w = Entry.Claim w a
answer (Look s) w = Entry.Poll w s
answer Pause w = Entry.Idle w

-- what comes next of the only worker: the end of what it holds; a Stop, where it is asked to and hasn't; else the answer to its ask
abbrev pub next : Bool → Bool → Bool → Outcome → Decision → Entry
next true stopped asked outcome decided = Entry.Ended 0 outcome
next false true asked outcome decided = answer decided 0
next false false true outcome decided = Entry.Stop 0
next false false false outcome decided = answer decided 0

answers : (stopped asked : Bool) (outcome : Outcome) (decided : Decision) → GoesOn asked stopped → next false stopped asked outcome decided ≡ answer decided 0
answers true asked outcome decided goes = refl
answers false true outcome decided goes = let wrong : true ≡ false = goes refl in absurd (cc wrong)
answers false false outcome decided goes = refl

stops : (stopped asked : Bool) (outcome : Outcome) (decided : Decision) → stopped ≡ false → asked ≡ true → next false stopped asked outcome decided ≡ Entry.Stop 0
stops true asked outcome decided e f = absurd (cc e)
stops false true outcome decided e f = refl
stops false false outcome decided e f = absurd (cc f)

module _ (rules : Rules) (start : Stand) (aim : Aim) (setup : Setup) (one : setup.limits.workers ≡ 1) (undated : setup.limits.deadline ≡ None) where
  -- what the exchange that the worker holds comes to
  abbrev pub outcome_in : List Entry → Outcome
  outcome_in past = (rules.next (after_all rules start (exchanges_of setup past 0)) (request_out setup past 0)).0

  -- what comes next in a journal
  abbrev pub next_in : List Entry → Entry
  next_in past = next (is_open (holding past 0)) (has_stopped past 0) (is_asked_in rules start setup past) (outcome_in past) (decision setup past 0)

  only : (w : ℕ) → w < setup.limits.workers → w ≡ 0
  only w below = omega (arith, below, one)

  closed : (past : List Entry) (w : ℕ) → w ≡ 0 → IsReady setup past w → is_open (holding past 0) ≡ false
  closed past w first ready = subst (λ (v : ℕ). is_open (holding past v) ≡ false) first (ap is_open ready.idle)

  asks_next : (past : List Entry) (w : ℕ) (decided : Decision) → IsReady setup past w → decision setup past w ≡ decided
      → GoesOn (is_asked_in rules start setup past) (has_stopped past 0) → answer decided w ≡ next_in past
  asks_next past w decided ready is goes =
      let first : w ≡ 0 = only w ready.below in
      let here : decision setup past 0 ≡ decided = subst (λ (v : ℕ). decision setup past v ≡ decided) first is in
      ap (λ (v : ℕ). answer decided v) first
      ∙ sym (ap (λ (d : Decision). answer d 0) here)
      ∙ sym (answers (has_stopped past 0) (is_asked_in rules start setup past) (outcome_in past) (decision setup past 0) goes)
      ∙ sym (ap (λ (b : Bool). next b (has_stopped past 0) (is_asked_in rules start setup past) (outcome_in past) (decision setup past 0)) (closed past w first ready))

  stops_next : (past : List Entry) (w : ℕ) → IsReady setup past w → has_stopped past w ≡ false → is_asked_in rules start setup past ≡ true → Entry.Stop w ≡ next_in past
  stops_next past w ready fresh asked =
      let first : w ≡ 0 = only w ready.below in
      let here : has_stopped past 0 ≡ false = subst (λ (v : ℕ). has_stopped past v ≡ false) first fresh in
      ap (λ (v : ℕ). Entry.Stop v) first
      ∙ sym (stops (has_stopped past 0) (is_asked_in rules start setup past) (outcome_in past) (decision setup past 0) here asked)
      ∙ sym (ap (λ (b : Bool). next b (has_stopped past 0) (is_asked_in rules start setup past) (outcome_in past) (decision setup past 0)) (closed past w first ready))

  ends_next : (past : List Entry) (w : ℕ) (outcome : Outcome) → w ≡ 0 → is_open (holding past w) ≡ true
      → AreServed rules start (exchanges_of setup (Entry.Ended w outcome ∷ past) 0) → Entry.Ended w outcome ≡ next_in past
  ends_next past w outcome first out served =
      let here : is_open (holding past 0) ≡ true = subst (λ (v : ℕ). is_open (holding past v) ≡ true) first out in
      let all : AreServed rules start (exchanges_of setup past 0 ++ record { request = request_out setup past 0; outcome = outcome } ∷ []) =
      subst (λ (v : ℕ). AreServed rules start (exchanges_of setup (Entry.Ended v outcome ∷ past) 0)) first served in
      let is : outcome ≡ outcome_in past =
      served_last rules start (exchanges_of setup past 0) (record { request = request_out setup past 0; outcome = outcome }) all in
      ap (λ (v : ℕ). Entry.Ended v outcome) first
      ∙ ap (λ (o : Outcome). Entry.Ended 0 o) is
      ∙ sym (ap (λ (b : Bool). next b (has_stopped past 0) (is_asked_in rules start setup past) (outcome_in past) (decision setup past 0)) here)

  pub entry_is_next : (entry : Entry) (past : List Entry) → (past ≡ [] → ⊥) → IsFine rules start aim setup (entry ∷ past) → entry ≡ next_in past
  entry_is_next (Entry.Seen observation) past some fine = absurd (some fine.legal.1.0)
  entry_is_next (Entry.Claim w a) past some fine = asks_next past w (Take a) fine.legal.1.0 fine.legal.1.1 fine.heeded.1
  entry_is_next (Entry.Poll w s) past some fine = asks_next past w (Look s) fine.legal.1.0 fine.legal.1.1 fine.heeded.1
  entry_is_next (Entry.Ended w outcome) past some fine =
      let holder = open_ready aim setup past w fine.legal.0 fine.legal.1 in ends_next past w outcome (only w holder.below) fine.legal.1 fine.served
  entry_is_next (Entry.Idle w) past some fine = asks_next past w Pause fine.legal.1.0 fine.legal.1.1 fine.heeded.1
  entry_is_next (Entry.Leave w) past some fine = asks_next past w Go fine.legal.1.0 fine.legal.1.1 fine.heeded.1
  entry_is_next (Entry.Stop w) past some fine = stops_next past w fine.legal.1.0 fine.legal.1.1 fine.heeded.1
  entry_is_next (Entry.Late w LateWhy.Entries) past some fine = asks_next past w Full fine.legal.1.0 fine.legal.1.1 fine.heeded.1
  entry_is_next (Entry.Late w (LateWhy.Deadline reading)) past some fine =
      absurd (subst (λ (o : Option ℕ). IsSomeAnd o (λ deadline. deadline ≤ reading)) undated fine.legal.1.2)
  entry_is_next (Entry.Short w) past some fine = let wrong : true ≡ false = ample_entry (Entry.Short w) past fine.ample in absurd (cc wrong)
