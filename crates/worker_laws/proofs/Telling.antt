-- A function of a journal that other workers' entries leave as it is depends on one worker's own entries alone.
use Rattle.std.proofs.Common.{◌≡◌, ℕ, ◌+◌, Bool, true, false, cond, List, [], ◌∷◌, Option, Some, if◌then◌else◌, refl, sym, ap, ◌∙◌}
use Rattle.std.specs.Prelude.{◌==◌}
use Rattle.engine_types.specs.declared.Entry.{Entry}
use Rattle.engine_types.specs.declared.LateWhy.{LateWhy}
use Rattle.run_model.specs.Journals.{Holding, Nothing, Watch, Work, has_left, has_stopped, holding}
use Rattle.run_model.specs.Logs.{asks, asks_unstopped, is_ask_of, late_reading, pauses, was_stopped}
use Rattle.worker_laws.specs.Own.{own_of, worker_of}

-- what an entry makes of what was said before
pub record Stepwise {X : Type 0} (w : ℕ) (f : List Entry → X) : Type 0 where
  pub step : Entry → X → X
  pub steps : (e : Entry) (past : List Entry) → f (e ∷ past) ≡ step e (f past)
  pub strange : (e : Entry) (x : X) → (worker_of e == w) ≡ false → step e x ≡ x

pub own_tells : {X : Type 0} (w : ℕ) (f : List Entry → X) → Stepwise w f → (past : List Entry) → f (own_of w past) ≡ f past
own_tells w f s [] = refl
own_tells w f s (e ∷ past) = on (worker_of e == w) refl (own_tells w f s past)
  where
    on : (t : Bool) → (worker_of e == w) ≡ t → f (own_of w past) ≡ f past → f (cond t (e ∷ own_of w past) (own_of w past)) ≡ f (e ∷ past)
    on true h r = s.steps e (own_of w past) ∙ ap (s.step e) r ∙ sym (s.steps e past)
    on false h r = r ∙ sym (s.strange e (f past) h) ∙ sym (s.steps e past)

abbrev holding_step : ℕ → Entry → Holding → Holding
holding_step w (Entry.Claim v a) x = if v == w then Work a else x
holding_step w (Entry.Poll v s) x = if v == w then Watch s else x
holding_step w (Entry.Ended v outcome) x = if v == w then Nothing else x
holding_step w _ x = x

pub holding_steps : (w : ℕ) → Stepwise w (λ past. holding past w)
holding_steps w = record { step = holding_step w; steps = steps; strange = strange }
  where
    steps : (e : Entry) (past : List Entry) → holding (e ∷ past) w ≡ holding_step w e (holding past w)
    steps (Entry.Claim v a) past = refl
    steps (Entry.Poll v s) past = refl
    steps (Entry.Ended v outcome) past = refl
    steps (Entry.Seen observation) past = refl
    steps (Entry.Idle v) past = refl
    steps (Entry.Leave v) past = refl
    steps (Entry.Stop v) past = refl
    steps (Entry.Late v why) past = refl
    steps (Entry.Short v) past = refl

    strange : (e : Entry) (x : Holding) → (worker_of e == w) ≡ false → holding_step w e x ≡ x
    strange (Entry.Claim v a) x h = rw h refl
    strange (Entry.Poll v s) x h = rw h refl
    strange (Entry.Ended v outcome) x h = rw h refl
    strange (Entry.Seen observation) x h = refl
    strange (Entry.Idle v) x h = refl
    strange (Entry.Leave v) x h = refl
    strange (Entry.Stop v) x h = refl
    strange (Entry.Late v why) x h = refl
    strange (Entry.Short v) x h = refl

abbrev left_step : ℕ → Entry → Bool → Bool
left_step w (Entry.Leave v) x = if v == w then true else x
left_step w (Entry.Short v) x = if v == w then true else x
left_step w (Entry.Late v LateWhy.Entries) x = if v == w then true else x
left_step w _ x = x

pub left_steps : (w : ℕ) → Stepwise w (λ past. has_left past w)
left_steps w = record { step = left_step w; steps = steps; strange = strange }
  where
    steps : (e : Entry) (past : List Entry) → has_left (e ∷ past) w ≡ left_step w e (has_left past w)
    steps (Entry.Claim v a) past = refl
    steps (Entry.Poll v s) past = refl
    steps (Entry.Ended v outcome) past = refl
    steps (Entry.Seen observation) past = refl
    steps (Entry.Idle v) past = refl
    steps (Entry.Leave v) past = refl
    steps (Entry.Stop v) past = refl
    steps (Entry.Late v (LateWhy.Deadline reading)) past = refl
    steps (Entry.Late v LateWhy.Entries) past = refl
    steps (Entry.Short v) past = refl

    strange : (e : Entry) (x : Bool) → (worker_of e == w) ≡ false → left_step w e x ≡ x
    strange (Entry.Claim v a) x h = refl
    strange (Entry.Poll v s) x h = refl
    strange (Entry.Ended v outcome) x h = refl
    strange (Entry.Seen observation) x h = refl
    strange (Entry.Idle v) x h = refl
    strange (Entry.Leave v) x h = rw h refl
    strange (Entry.Stop v) x h = refl
    strange (Entry.Late v (LateWhy.Deadline reading)) x h = refl
    strange (Entry.Late v LateWhy.Entries) x h = rw h refl
    strange (Entry.Short v) x h = rw h refl

abbrev stopped_step : ℕ → Entry → Bool → Bool
stopped_step w (Entry.Stop v) x = if v == w then true else x
stopped_step w (Entry.Late v (LateWhy.Deadline reading)) x = if v == w then true else x
stopped_step w _ x = x

pub stopped_steps : (w : ℕ) → Stepwise w (λ past. has_stopped past w)
stopped_steps w = record { step = stopped_step w; steps = steps; strange = strange }
  where
    steps : (e : Entry) (past : List Entry) → has_stopped (e ∷ past) w ≡ stopped_step w e (has_stopped past w)
    steps (Entry.Claim v a) past = refl
    steps (Entry.Poll v s) past = refl
    steps (Entry.Ended v outcome) past = refl
    steps (Entry.Seen observation) past = refl
    steps (Entry.Idle v) past = refl
    steps (Entry.Leave v) past = refl
    steps (Entry.Stop v) past = refl
    steps (Entry.Late v (LateWhy.Deadline reading)) past = refl
    steps (Entry.Late v LateWhy.Entries) past = refl
    steps (Entry.Short v) past = refl

    strange : (e : Entry) (x : Bool) → (worker_of e == w) ≡ false → stopped_step w e x ≡ x
    strange (Entry.Claim v a) x h = refl
    strange (Entry.Poll v s) x h = refl
    strange (Entry.Ended v outcome) x h = refl
    strange (Entry.Seen observation) x h = refl
    strange (Entry.Idle v) x h = refl
    strange (Entry.Leave v) x h = refl
    strange (Entry.Stop v) x h = rw h refl
    strange (Entry.Late v (LateWhy.Deadline reading)) x h = rw h refl
    strange (Entry.Late v LateWhy.Entries) x h = refl
    strange (Entry.Short v) x h = refl

-- an entry of another worker answers no ask of this one
pub no_ask : (w : ℕ) (e : Entry) → (worker_of e == w) ≡ false → is_ask_of w e ≡ false
no_ask w (Entry.Claim v a) h = h
no_ask w (Entry.Poll v s) h = h
no_ask w (Entry.Ended v outcome) h = refl
no_ask w (Entry.Seen observation) h = refl
no_ask w (Entry.Idle v) h = h
no_ask w (Entry.Leave v) h = h
no_ask w (Entry.Stop v) h = refl
no_ask w (Entry.Late v (LateWhy.Deadline reading)) h = refl
no_ask w (Entry.Late v LateWhy.Entries) h = h
no_ask w (Entry.Short v) h = h

pub asks_steps : (w : ℕ) → Stepwise w (λ past. asks past w)
asks_steps w = record {
  step = λ e x. if is_ask_of w e then x + 1 else x;
  steps = λ e past. refl;
  strange = λ e x h. ap (λ (t : Bool). if t then x + 1 else x) (no_ask w e h);
}

abbrev pauses_step : ℕ → Entry → ℕ → ℕ
pauses_step w (Entry.Idle v) x = if v == w then x + 250 else x
pauses_step w (Entry.Poll v s) x = if v == w then x + 500 else x
pauses_step w _ x = x

pub pauses_steps : (w : ℕ) → Stepwise w (λ past. pauses past w)
pauses_steps w = record { step = pauses_step w; steps = steps; strange = strange }
  where
    steps : (e : Entry) (past : List Entry) → pauses (e ∷ past) w ≡ pauses_step w e (pauses past w)
    steps (Entry.Claim v a) past = refl
    steps (Entry.Poll v s) past = refl
    steps (Entry.Ended v outcome) past = refl
    steps (Entry.Seen observation) past = refl
    steps (Entry.Idle v) past = refl
    steps (Entry.Leave v) past = refl
    steps (Entry.Stop v) past = refl
    steps (Entry.Late v why) past = refl
    steps (Entry.Short v) past = refl

    strange : (e : Entry) (x : ℕ) → (worker_of e == w) ≡ false → pauses_step w e x ≡ x
    strange (Entry.Claim v a) x h = refl
    strange (Entry.Poll v s) x h = rw h refl
    strange (Entry.Ended v outcome) x h = refl
    strange (Entry.Seen observation) x h = refl
    strange (Entry.Idle v) x h = rw h refl
    strange (Entry.Leave v) x h = refl
    strange (Entry.Stop v) x h = refl
    strange (Entry.Late v why) x h = refl
    strange (Entry.Short v) x h = refl

abbrev stop_step : ℕ → Entry → Bool → Bool
stop_step w (Entry.Stop v) x = if v == w then true else x
stop_step w _ x = x

stop_is : (w : ℕ) (e : Entry) (past : List Entry) → was_stopped (e ∷ past) w ≡ stop_step w e (was_stopped past w)
stop_is w (Entry.Claim v a) past = refl
stop_is w (Entry.Poll v s) past = refl
stop_is w (Entry.Ended v outcome) past = refl
stop_is w (Entry.Seen observation) past = refl
stop_is w (Entry.Idle v) past = refl
stop_is w (Entry.Leave v) past = refl
stop_is w (Entry.Stop v) past = refl
stop_is w (Entry.Late v why) past = refl
stop_is w (Entry.Short v) past = refl

stop_strange : (w : ℕ) (e : Entry) (x : Bool) → (worker_of e == w) ≡ false → stop_step w e x ≡ x
stop_strange w (Entry.Claim v a) x h = refl
stop_strange w (Entry.Poll v s) x h = refl
stop_strange w (Entry.Ended v outcome) x h = refl
stop_strange w (Entry.Seen observation) x h = refl
stop_strange w (Entry.Idle v) x h = refl
stop_strange w (Entry.Leave v) x h = refl
stop_strange w (Entry.Stop v) x h = rw h refl
stop_strange w (Entry.Late v why) x h = refl
stop_strange w (Entry.Short v) x h = refl

pub stop_steps : (w : ℕ) → Stepwise w (λ past. was_stopped past w)
stop_steps w = record { step = stop_step w; steps = stop_is w; strange = stop_strange w }

-- how often a worker asked before its stop, and whether it was stopped
abbrev unstopped_step : ℕ → Entry → ℕ × Bool → ℕ × Bool
unstopped_step w e x = (if x.1 then x.0 else if is_ask_of w e then x.0 + 1 else x.0, stop_step w e x.1)

abbrev pub unstopped_pair : ℕ → List Entry → ℕ × Bool
unstopped_pair w past = (asks_unstopped past w, was_stopped past w)

pub unstopped_steps : (w : ℕ) → Stepwise w (unstopped_pair w)
unstopped_steps w = record {
  step = unstopped_step w;
  steps = λ e past. ap (λ (t : Bool). (asks_unstopped (e ∷ past) w, t)) (stop_is w e past);
  strange = λ e x h. ap (λ (t : Bool). (if x.1 then x.0 else if t then x.0 + 1 else x.0, stop_step w e x.1)) (no_ask w e h) ∙ ap (λ (t : Bool). (if x.1 then x.0 else x.0, t)) (stop_strange w e x.1 h) ∙ ap (λ (n : ℕ). (n, x.1)) (same x.0 x.1);
}
  where
    same : (n : ℕ) (t : Bool) → (if t then n else n) ≡ n
    same n true = refl
    same n false = refl

abbrev late_step : ℕ → Entry → Option ℕ → Option ℕ
late_step w (Entry.Late v (LateWhy.Deadline reading)) x = if v == w then Some reading else x
late_step w _ x = x

pub late_steps : (w : ℕ) → Stepwise w (λ past. late_reading past w)
late_steps w = record { step = late_step w; steps = steps; strange = strange }
  where
    steps : (e : Entry) (past : List Entry) → late_reading (e ∷ past) w ≡ late_step w e (late_reading past w)
    steps (Entry.Claim v a) past = refl
    steps (Entry.Poll v s) past = refl
    steps (Entry.Ended v outcome) past = refl
    steps (Entry.Seen observation) past = refl
    steps (Entry.Idle v) past = refl
    steps (Entry.Leave v) past = refl
    steps (Entry.Stop v) past = refl
    steps (Entry.Late v (LateWhy.Deadline reading)) past = refl
    steps (Entry.Late v LateWhy.Entries) past = refl
    steps (Entry.Short v) past = refl

    strange : (e : Entry) (x : Option ℕ) → (worker_of e == w) ≡ false → late_step w e x ≡ x
    strange (Entry.Claim v a) x h = refl
    strange (Entry.Poll v s) x h = refl
    strange (Entry.Ended v outcome) x h = refl
    strange (Entry.Seen observation) x h = refl
    strange (Entry.Idle v) x h = refl
    strange (Entry.Leave v) x h = refl
    strange (Entry.Stop v) x h = refl
    strange (Entry.Late v (LateWhy.Deadline reading)) x h = rw h refl
    strange (Entry.Late v LateWhy.Entries) x h = refl
    strange (Entry.Short v) x h = refl
