-- What a claim and the end of an action leave of the rows.
use Rattle.std.proofs.Common.{◌≡◌, ◌⊎◌, ℕ, ◌+◌, ◌<◌, ◌≤◌, Bool, true, false, ◌==◌, List, [], ◌∷◌, ◌++◌, length, reverse, get_or, set, slice_get, Option, Some, None, refl, sym, ap, ◌∙◌, subst, inl, inr, arith}
use Rattle.std.proofs.lemmas.Bool.{cases_eq, cases_lt, eq-eqb, true≢false}
use Rattle.std.proofs.lemmas.Grind.{common_steps}
use Rattle.std.proofs.lemmas.List.{reverse-append}
use Rattle.std.proofs.lemmas.Option.{slice_get_past}
use Rattle.std.specs.Prelude.{is_some, option_map}
use Rattle.engine_types.specs.declared.Action.{Action}
use Rattle.engine_types.specs.declared.Aim.{Aim}
use Rattle.engine_types.specs.declared.Entry.{Entry}
use Rattle.engine_types.specs.declared.Outcome.{Outcome}
use Rattle.engine_types.specs.declared.Reply.{Reply}
use Rattle.run_model.specs.Journals.{Badly, Free, Out, Setup, Standing, Well, Work, ended_as, holding, standing}
use Rattle.run_model.specs.Legal.{IsLegal}
use Rattle.run_model.specs.Plans.{kind_of, slot_needs}
use Rattle.journal_laws.proofs.Holders.{is_held}
use Rattle.journal_laws.proofs.Reports.{failed_counts, met_counts, never_fails_started}
use Rattle.ledger_rows.specs.ActionRows.{is_ready, key_of, lack_at, state_at}
use Rattle.ledger_rows.specs.ActionRows.Values.{Actions}
use Rattle.ledger_rows.specs.Counts.{counted}
use Rattle.ledger_rows.specs.Entries.{IsDueTo, RowsSay}
use Rattle.ledger_rows.specs.Facts.{AreSound, facts_of, open_needs, released_by, waits_for_start}
use Rattle.ledger_rows.specs.Rows.{AreLosing, AreRows, StandsAs, blocked_in, is_blocked_state, is_pending_in}
use Rattle.ledger_rows.specs.declared.action_rows.State.{State}
use Rattle.ledger_rows.proofs.Changes.{lacks_fall, rows_claim, rows_kept, rows_well, stands_more}
use Rattle.ledger_rows.proofs.Entering.{claim_changes, claimed_out, ended_changes, ended_stands}
use Rattle.ledger_rows.proofs.Losing.{rows_badly}

-- what the reports of a legal journal say is sound
pub sound_of : (aim : Aim) (setup : Setup) (past : List Entry) → IsLegal aim setup past → AreSound setup (facts_of setup past)
sound_of aim setup past legal = record {
  started = λ s. never_fails_started setup past s;
  failed = λ s c h. failed_counts aim setup past s c legal h;
  met = λ s c h. met_counts aim setup past s c legal h;
}

-- the newest entry
newest : (journal : List Entry) (entry : Entry) → reverse (journal ++ entry ∷ []) ≡ entry ∷ reverse journal
newest journal entry = reverse-append journal (entry ∷ [])

-- rows that say what the entries say with one more say it of the longer journal
pub said_after : (setup : Setup) (journal : List Entry) (entry : Entry) (rows : Actions) → AreRows setup (facts_of setup (entry ∷ reverse journal)) (journal ++ entry ∷ []) rows → RowsSay setup (journal ++ entry ∷ []) rows
said_after setup journal entry rows are = subst (λ (past : List Entry). AreRows setup (facts_of setup past) (journal ++ entry ∷ []) rows) (sym (newest journal entry)) are

-- an entry that is neither a claim nor an end
pub quiet_kept : (setup : Setup) (journal : List Entry) (entry : Entry) (rows : Actions) → Rattle.ledger_rows.specs.Laws.is_quiet entry ≡ true → RowsSay setup journal rows → RowsSay setup (journal ++ entry ∷ []) rows
quiet_kept setup journal (Entry.Seen observation) rows h said = said_after setup journal (Entry.Seen observation) rows (rows_kept setup (facts_of setup (reverse journal)) journal (Entry.Seen observation) rows said)
quiet_kept setup journal (Entry.Poll w s) rows h said = said_after setup journal (Entry.Poll w s) rows (rows_kept setup (facts_of setup (reverse journal)) journal (Entry.Poll w s) rows said)
quiet_kept setup journal (Entry.Idle w) rows h said = said_after setup journal (Entry.Idle w) rows (rows_kept setup (facts_of setup (reverse journal)) journal (Entry.Idle w) rows said)
quiet_kept setup journal (Entry.Leave w) rows h said = said_after setup journal (Entry.Leave w) rows (rows_kept setup (facts_of setup (reverse journal)) journal (Entry.Leave w) rows said)
quiet_kept setup journal (Entry.Stop w) rows h said = said_after setup journal (Entry.Stop w) rows (rows_kept setup (facts_of setup (reverse journal)) journal (Entry.Stop w) rows said)
quiet_kept setup journal (Entry.Late w why) rows h said = said_after setup journal (Entry.Late w why) rows (rows_kept setup (facts_of setup (reverse journal)) journal (Entry.Late w why) rows said)
quiet_kept setup journal (Entry.Short w) rows h said = said_after setup journal (Entry.Short w) rows (rows_kept setup (facts_of setup (reverse journal)) journal (Entry.Short w) rows said)
quiet_kept setup journal (Entry.Claim w a) rows h said = absurd (true≢false (sym h))
quiet_kept setup journal (Entry.Ended w outcome) rows h said = absurd (true≢false (sym h))

-- the row of what is ready
pub ready_state : (s : State) (lack : ℕ) → is_some (key_of s lack) ≡ true → s ≡ State.Free
ready_state State.Free lack h = refl
ready_state State.Blocked lack h = absurd (true≢false (sym h))
ready_state State.Out lack h = absurd (true≢false (sym h))
ready_state (State.Well at) lack h = absurd (true≢false (sym h))
ready_state State.Badly lack h = absurd (true≢false (sym h))

-- the row of what is out
out_state : (journal : List Entry) (st : Standing) (s : State) → StandsAs journal st s → st ≡ Out → s ≡ State.Out
out_state journal st State.Free h e = let bad : Free ≡ Out = sym h ∙ e in absurd (cc bad)
out_state journal st State.Blocked h e = let bad : Free ≡ Out = sym h ∙ e in absurd (cc bad)
out_state journal st State.Out h e = refl
out_state journal st (State.Well at) h e = let bad : Well h.0 ≡ Out = sym h.1 ∙ e in absurd (cc bad)
out_state journal st State.Badly h e = let bad : Badly ≡ Out = sym h ∙ e in absurd (cc bad)

-- a claim
pub claimed : (setup : Setup) (journal : List Entry) (rows new : Actions) (a w : ℕ) → RowsSay setup journal rows → a < length rows.states → is_ready rows a ≡ true
    → new.states ≡ set rows.states a State.Out → new.lacks ≡ rows.lacks → RowsSay setup (journal ++ Entry.Claim w a ∷ []) new
claimed setup journal rows new a w said there ready states lacks =
    said_after setup journal (Entry.Claim w a) new
    (rows_kept setup (facts_of setup (Entry.Claim w a ∷ reverse journal)) journal (Entry.Claim w a) new
    (subst (λ (ns : List ℕ). AreRows setup (facts_of setup (Entry.Claim w a ∷ reverse journal)) journal (record { states = new.states; lacks = ns })) (sym lacks)
    (subst (λ (ss : List State). AreRows setup (facts_of setup (Entry.Claim w a ∷ reverse journal)) journal (record { states = ss; lacks = rows.lacks })) (sym states)
    (rows_claim setup (facts_of setup (reverse journal)) (facts_of setup (Entry.Claim w a ∷ reverse journal)) journal rows a (omega (arith, there, said.size)) (claim_changes setup (reverse journal) w a) was
    (claimed_out setup (reverse journal) w a) (ap is_blocked_state free) said))))
  where
    free : state_at rows a ≡ State.Free
    free = ready_state (state_at rows a) (lack_at rows a) ready

    was : standing setup (reverse journal) a ≡ Free
    was = subst (λ (s : State). StandsAs journal (standing setup (reverse journal) a) s) free (said.each a)

-- an action that a worker holds
module _ (setup : Setup) (journal : List Entry) (rows : Actions) (a w : ℕ) (said : RowsSay setup journal rows) (there : a < length rows.states) (due : IsDueTo setup journal w a) where
  pub inside : a < length setup.actions
  inside = omega (arith, there, said.size)

  pub was_out : standing setup (reverse journal) a ≡ Out
  was_out = (is_held due.aim setup (reverse journal) w a due.legal due.held).out

  pub is_not_blocked : blocked_in rows a ≡ false
  is_not_blocked = ap is_blocked_state (out_state journal (standing setup (reverse journal) a) (state_at rows a) (said.each a) was_out)

  pub sound : AreSound setup (facts_of setup (reverse journal))
  sound = sound_of due.aim setup (reverse journal) due.legal

-- nothing is let go that isn't there
none_past : (setup : Setup) (a b : ℕ) → length setup.actions ≤ b → released_by setup a b ≡ 0
none_past setup a b l = by (slice_get setup.actions b) (slice_get_past setup.actions b l)
  where
    by : (o : Option Action) → o ≡ None
        → counted (λ c. c == a) (Rattle.std.specs.Option.option_map_or (λ action. action.needs) o []) + counted (waits_for_start setup a) (slot_needs setup.declared (option_map (λ action. action.kind) o)) ≡ 0
    by None e = refl
    by (Some x) e = absurd (cc e)

-- a good end
module _ (setup : Setup) (journal : List Entry) (rows : Actions) (a w : ℕ) (reply : Reply) (said : RowsSay setup journal rows) (there : a < length rows.states) (due : IsDueTo setup journal w a)
    (good : ended_as (kind_of setup.actions a) (Outcome.Answered reply) ≡ Well reply) where
  abbrev entry : Entry
  entry = Entry.Ended w (Outcome.Answered reply)

  now_well : standing setup (entry ∷ reverse journal) a ≡ Well reply
  now_well = ended_stands setup (reverse journal) w a (Outcome.Answered reply) due.held ∙ good

  falls : (b : ℕ) → open_needs setup (facts_of setup (entry ∷ reverse journal)) (blocked_in rows) b + released_by setup a b ≡ open_needs setup (facts_of setup (reverse journal)) (blocked_in rows) b
  falls b = lacks_fall setup (facts_of setup (reverse journal)) (facts_of setup (entry ∷ reverse journal)) (blocked_in rows) a reply (ended_changes setup (reverse journal) w a (Outcome.Answered reply) due.held)
      (was_out setup journal rows a w said there due) now_well (is_not_blocked setup journal rows a w said there due) (sound setup journal rows a w said there due) b

  -- as many needs are let go as there are at most
  pub kept : (b : ℕ) → released_by setup a b ≤ lack_at rows b
  kept b = on (cases_lt b (length setup.actions))
    where
      on : (b < length setup.actions) ⊎ (length setup.actions ≤ b) → released_by setup a b ≤ lack_at rows b
      on (inl l) = let e = falls b in let h = said.lacks b l in omega (arith, e, h)
      on (inr l) = let e = none_past setup a b l in omega (arith, e)

  last_is : (xs : List Entry) (x : Entry) → slice_get (xs ++ x ∷ []) (length xs) ≡ Some x
  last_is [] x = refl
  last_is (y ∷ ys) x = last_is ys x

  pub ended_well : (at : ℕ) → at ≡ length journal → (new : Actions) → new.states ≡ set rows.states a (State.Well at) → length new.lacks ≡ length rows.lacks
      → ((b : ℕ) → lack_at new b + released_by setup a b ≡ lack_at rows b) → RowsSay setup (journal ++ entry ∷ []) new
  ended_well at place new states size fall =
      said_after setup journal entry new
      (subst (λ (ss : List State). AreRows setup (facts_of setup (entry ∷ reverse journal)) (journal ++ entry ∷ []) (record { states = ss; lacks = new.lacks })) (sym states)
      (rows_well setup (facts_of setup (reverse journal)) (facts_of setup (entry ∷ reverse journal)) journal (journal ++ entry ∷ []) rows new.lacks a at reply (inside setup journal rows a w said there due)
      (ended_changes setup (reverse journal) w a (Outcome.Answered reply) due.held) (was_out setup journal rows a w said there due) now_well
      (w, subst (λ (k : ℕ). slice_get (journal ++ entry ∷ []) k ≡ Some entry) (sym place) (last_is journal entry)) (stands_more journal entry)
      (is_not_blocked setup journal rows a w said there due) (sound setup journal rows a w said there due) size (λ b l. fall b) said))

-- an end that isn't good
module _ (setup : Setup) (journal : List Entry) (rows : Actions) (a w : ℕ) (outcome : Outcome) (said : RowsSay setup journal rows) (there : a < length rows.states) (due : IsDueTo setup journal w a)
    (bad : ended_as (kind_of setup.actions a) outcome ≡ Badly) where
  abbrev ending : Entry
  ending = Entry.Ended w outcome

  -- what comes of it is sound too
  pub sound_after : AreSound setup (facts_of setup (ending ∷ reverse journal))
  sound_after = sound_of due.aim setup (ending ∷ reverse journal) (due.legal, ap Rattle.run_model.specs.Journals.is_open due.held)

  none_first : (pending : List (Option ℕ)) → ((b : ℕ) → is_pending_in pending b ≡ false) → a < length pending → (b : ℕ) → is_pending_in (set pending a (Some 0)) b ≡ (b == a)
  none_first pending none l b = by (cases_eq b a)
    where
      unequal : (b ≡ a → ⊥) → (t : Bool) → (b == a) ≡ t → t ≡ false
      unequal n true h = absurd (n (Rattle.std.proofs.lemmas.Bool.eqb-true b a h))
      unequal n false h = refl

      by : (b ≡ a) ⊎ (b ≡ a → ⊥) → is_pending_in (set pending a (Some 0)) b ≡ (b == a)
      by (inl e) = let h : get_or (set pending a (Some 0)) b None ≡ Some 0 = grind (arith, common_steps) in ap (λ (o : Option ℕ). is_some o) h ∙ sym (eq-eqb b a e)
      by (inr n) = let h : get_or (set pending a (Some 0)) b None ≡ get_or pending b None = grind (arith, common_steps) in ap (λ (o : Option ℕ). is_some o) h ∙ none b ∙ sym (unequal n (b == a) refl)

  -- its loss is to be carried on
  pub begins_to_lose : (new : Actions) (pending later : List (Option ℕ)) → new.states ≡ set rows.states a State.Badly → new.lacks ≡ rows.lacks → later ≡ set pending a (Some 0)
      → ((b : ℕ) → is_pending_in pending b ≡ false) → length pending ≡ length rows.states → AreLosing setup (facts_of setup (ending ∷ reverse journal)) (journal ++ ending ∷ []) new later
  begins_to_lose new pending later states lacks waits none size =
      rows_badly setup (facts_of setup (reverse journal)) (facts_of setup (ending ∷ reverse journal)) journal (journal ++ ending ∷ []) rows new later a
      changed.others changed.failed changed.met (was_out setup journal rows a w said there due) (ended_stands setup (reverse journal) w a outcome due.held ∙ bad) (stands_more journal ending)
      (let e : length (set rows.states a State.Badly) ≡ length rows.states = grind (arith, common_steps) in ap length states ∙ e)
      (let e : get_or (set rows.states a State.Badly) a State.Free ≡ State.Badly = grind (arith, common_steps) in ap (λ (ss : List State). get_or ss a State.Free) states ∙ e)
      (λ b n. let e : get_or (set rows.states a State.Badly) b State.Free ≡ get_or rows.states b State.Free = grind (arith, common_steps) in ap (λ (ss : List State). get_or ss b State.Free) states ∙ e)
      lacks (is_not_blocked setup journal rows a w said there due)
      (let e : length (set pending a (Some 0)) ≡ length pending = grind (arith, common_steps) in ap length waits ∙ e ∙ size)
      (λ b. ap (λ (os : List (Option ℕ)). is_pending_in os b) waits ∙ none_first pending none (omega (arith, there, size)) b) said
    where
      changed : Rattle.ledger_rows.specs.Facts.ChangesOne (facts_of setup (reverse journal)) (facts_of setup (ending ∷ reverse journal)) a
      changed = ended_changes setup (reverse journal) w a outcome due.held
