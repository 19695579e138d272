-- What a journal says that has only its observation.
use Rattle.std.proofs.Common.{◌≡◌, ℕ, zero, suc, ◌+◌, ◌<◌, Bool, true, false, cond, not, ◌&&◌, ◌||◌, ◌==◌, List, [], ◌∷◌, length, get_or, replicate, Option, Some, None, if◌then◌else◌, refl, sym, ap, ◌∙◌, subst, arith}
use Rattle.std.proofs.lemmas.Grind.{common_steps}
use Rattle.std.specs.List.{list_any}
use Rattle.std.specs.Option.{option_map_or}
use Rattle.std.specs.Prelude.{is_some}
use Rattle.engine_types.specs.declared.Condition.{Condition}
use Rattle.engine_types.specs.declared.Entry.{Entry}
use Rattle.engine_types.specs.declared.Need.{Need}
use Rattle.engine_types.specs.declared.Observed.{Observed}
use Rattle.run_model.specs.Conditions.{counts, is_blocked, is_pending}
use Rattle.run_model.specs.Journals.{Free, Setup, holding, is_watch_of, is_well, standing}
use Rattle.run_model.specs.Legal.{workers}
use Rattle.run_model.specs.Plans.{IsOrderly, kind_of, needs_of, slot_needs, start_of}
use Rattle.ledger_rows.specs.Counts.{counted}
use Rattle.ledger_rows.specs.Entries.{RowsSay}
use Rattle.ledger_rows.specs.Facts.{AreBlocked, Facts, askers, asks_of, facts_of, has_cause, lets_by, lost_by, need_lost_by}
use Rattle.ledger_rows.specs.Rows.{StandsAs, blocked_in, is_blocked_state}
use Rattle.ledger_rows.specs.declared.action_rows.State.{State}
use Rattle.ledger_rows.proofs.Fixed.{are_blocked, unique}
use Rattle.ledger_rows.proofs.Watching.{none_of}
use Rattle.slot_rows.specs.Keys.{no_slot}
use Rattle.slot_rows.specs.Slots.{AreSlots, IsSlotRow}
use Rattle.slot_rows.specs.declared.slot_row.SlotRow.{SlotRow}
use Rattle.plan_needs.specs.Laws.{AreStarts}
use Rattle.start_rows.specs.Asks.{AreAskingRows}
use Rattle.start_rows.specs.Firsts.{first_lack, first_slot, keeps_first}
use Rattle.start_rows.specs.Laws.{free_rows}
use Rattle.start_rows.specs.declared.ask.Ask.{Ask}
use Rattle.start_rows.proofs.Askers.{asking_there}
use Rattle.start_rows.proofs.Counts.{counted_each, counted_same, length_summed, summed_same}

-- no test is passed
none_passes : {X : Type 0} (p : X → Bool) (xs : List X) → ((x : X) → p x ≡ false) → list_any p xs ≡ false
none_passes p [] each = refl
none_passes p (x ∷ xs) each = ap (λ (t : Bool). t || list_any p xs) (each x) ∙ none_passes p xs each

all_free : (n a : ℕ) → get_or (replicate n State.Free) a State.Free ≡ State.Free
all_free zero a = refl
all_free (suc n) zero = refl
all_free (suc n) (suc a) = all_free n a

module _ (setup : Setup) (observed : Observed) where
  -- the entries so far
  abbrev past : List Entry
  past = Entry.Seen observed ∷ []

  abbrev facts : Facts
  facts = facts_of setup past

  -- where nothing is blocked, nothing is lost
  nothing_lost : (blocked : ℕ → Bool) → ((a : ℕ) → blocked a ≡ false) → (s : ℕ) → option_map_or (lost_by facts blocked) (start_of setup.actions s) false ≡ false
  nothing_lost blocked none s = by (start_of setup.actions s)
    where
      by : (o : Option ℕ) → option_map_or (lost_by facts blocked) o false ≡ false
      by None = refl
      by (Some a) = none a

  no_need_lost : (blocked : ℕ → Bool) → ((a : ℕ) → blocked a ≡ false) → (need : Need) → need_lost_by setup facts blocked need ≡ false
  no_need_lost blocked none need = ap (λ (t : Bool). need.required && t) (nothing_lost blocked none need.slot) ∙ neither need.required
    where
      neither : (t : Bool) → (t && false) ≡ false
      neither true = refl
      neither false = refl

  -- nothing is blocked
  pub none_blocked : (blocked : ℕ → Bool) → ((a : ℕ) → blocked a ≡ false) → AreBlocked setup facts blocked
  none_blocked blocked none = record { each = λ a. none a ∙ sym (uncaused a) }
    where
      uncaused : (a : ℕ) → has_cause setup facts blocked a ≡ false
      uncaused a =
          ap (λ (t : Bool). t || list_any (need_lost_by setup facts blocked) (slot_needs setup.declared (kind_of setup.actions a))) (none_passes (lost_by facts blocked) (needs_of setup.actions a) none)
          ∙ none_passes (need_lost_by setup facts blocked) (slot_needs setup.declared (kind_of setup.actions a)) (no_need_lost blocked none)

  -- a need lets its start go at once where it asks for Started of a slot that no action starts
  lets_first : (starts : List (Option ℕ)) → AreStarts setup starts → (blocked : ℕ → Bool) → ((a : ℕ) → blocked a ≡ false) → (need : Need) → not (lets_by setup facts blocked need) ≡ keeps_first starts need
  lets_first starts are blocked none need = on need.condition refl
    where
      lost : (need.required ≡ need.required) → (not need.required && option_map_or (lost_by facts blocked) (start_of setup.actions need.slot) false) ≡ false
      lost e = ap (λ (t : Bool). not need.required && t) (nothing_lost blocked none need.slot) ∙ neither (not need.required)
        where
          neither : (t : Bool) → (t && false) ≡ false
          neither true = refl
          neither false = refl

      started : (o : Option ℕ) → not (option_map_or (λ a. is_well (standing setup past a)) o true) ≡ is_some o
      started None = refl
      started (Some a) = refl

      or_none : (t u : Bool) → u ≡ false → not (t || u) ≡ not t
      or_none true u e = refl
      or_none false u e = ap not e

      on : (c : Condition) → need.condition ≡ c → not (lets_by setup facts blocked need) ≡ keeps_first starts need
      on Condition.Started e = rw e (or_none (counts setup past need.slot) _ (lost refl) ∙ started (start_of setup.actions need.slot) ∙ ap is_some (sym (are need.slot)))
      on Condition.Healthy e = rw e (ap not (lost refl))
      on Condition.Completed e = rw e (ap not (lost refl))
      on Condition.Running e = rw e (ap not (lost refl))

  pub actions_say : (starts : List (Option ℕ)) (lacks : List ℕ) → AreStarts setup starts → length lacks ≡ length setup.actions
      → ((a : ℕ) → a < length setup.actions → get_or lacks a 0 ≡ first_lack setup.declared setup.actions starts a)
      → RowsSay setup (Entry.Seen observed ∷ []) (free_rows lacks)
  actions_say starts lacks are size each = record {
    size = let e : length (replicate (length lacks) State.Free) ≡ length lacks = grind (arith, common_steps) in e ∙ size;
    lacks_size = size;
    each = λ a. subst (λ (state : State). StandsAs (Entry.Seen observed ∷ []) Free state) (sym (all_free (length lacks) a)) refl;
    blocked = none_blocked (blocked_in (free_rows lacks)) free;
    lacks = λ a l. each a l
        ∙ ap (λ (n : ℕ). n + counted (keeps_first starts) (slot_needs setup.declared (kind_of setup.actions a))) (sym (counted_each (λ b. not (is_well (facts.stands b))) (needs_of setup.actions a) (λ b. refl)))
        ∙ ap (λ (n : ℕ). counted (λ b. not (is_well (facts.stands b))) (needs_of setup.actions a) + n)
        (sym (counted_same (λ need. not (lets_by setup facts (blocked_in (free_rows lacks)) need)) (keeps_first starts) (slot_needs setup.declared (kind_of setup.actions a)) (lets_first starts are (blocked_in (free_rows lacks)) free)));
  }
    where
      free : (a : ℕ) → blocked_in (free_rows lacks) a ≡ false
      free a = ap is_blocked_state (all_free (length lacks) a)

  module _ (orderly : IsOrderly setup.declared setup.actions) where
    -- every action is still to come
    all_pending : (a : ℕ) → is_pending setup past a ≡ true
    all_pending a = ap not (unique setup orderly facts (is_blocked setup past) (λ b. false) (are_blocked setup orderly past) (none_blocked (λ b. false) (λ b. refl)) a)

    -- those that ask for a condition of a slot are as many as stand in its row
    asked_first : (c : Condition) (rows : List (List ℕ)) (s : ℕ) → s < length setup.declared.slots → AreAskingRows Ask.Any c setup rows → length (get_or rows s []) ≡ askers setup (is_pending setup past) s c
    asked_first c rows s l are =
        sym (length_summed (get_or rows s []) (length setup.actions) (asking_there setup Ask.Any s c (get_or rows s []) (λ a. are s a l)))
        ∙ summed_same (λ a. counted (λ b. b == a) (get_or rows s [])) (λ a. if is_pending setup past a then counted (asks_of s c) (slot_needs setup.declared (kind_of setup.actions a)) else 0) 0 (length setup.actions)
        (λ a. are s a l ∙ sym (ap (λ (t : Bool). cond t (counted (asks_of s c) (slot_needs setup.declared (kind_of setup.actions a))) 0) (all_pending a)))

    pub slots_say : (starts : List (Option ℕ)) (healthy completed : List (List ℕ)) (rows : List SlotRow) → AreStarts setup starts
        → AreAskingRows Ask.Any Condition.Healthy setup healthy → AreAskingRows Ask.Any Condition.Completed setup completed
        → length rows ≡ length setup.declared.slots
        → ((s : ℕ) → s < length setup.declared.slots → get_or rows s no_slot ≡ first_slot setup.declared setup.limits.wait starts healthy completed s)
        → AreSlots setup (Entry.Seen observed ∷ []) rows
    slots_say starts healthy completed rows are h c size each = record { size = size; each = λ s l. subst (λ (row : SlotRow). IsSlotRow setup past s row) (sym (each s l)) (said s l) }
      where
        said : (s : ℕ) → s < length setup.declared.slots → IsSlotRow setup past s (first_slot setup.declared setup.limits.wait starts healthy completed s)
        said s l = record {
          counts_is = ap (λ (o : Option ℕ). not (is_some o)) (are s) ∙ unstarted (start_of setup.actions s);
          out_is = sym (none_of (λ w. is_watch_of s (holding past w)) 0 setup.limits.workers (λ w m n. refl));
          polls_is = refl;
          healthy_is = refl;
          completed_is = refl;
          running_is = refl;
          healthy_askers_is = asked_first Condition.Healthy healthy s l h;
          completed_askers_is = asked_first Condition.Completed completed s l c;
          goal_is = refl;
        }
          where
            unstarted : (o : Option ℕ) → not (is_some o) ≡ option_map_or (λ a. is_well (standing setup past a)) o true
            unstarted None = refl
            unstarted (Some a) = refl
