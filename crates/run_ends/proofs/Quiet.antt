-- Where a worker is told to leave though nobody was stopped, nothing can be granted any more.
use Rattle.std.proofs.Common.{◌≡◌, ◌⊎◌, ℕ, ◌+◌, ◌<◌, Bool, true, false, not, ◌&&◌, ◌==◌, List, length, Option, Some, None, refl, sym, ap, ◌∙◌, subst, inl, inr, arith}
use Rattle.std.proofs.lemmas.Bool.{cases_eq, ne_eqb, true≢false}
use Rattle.std.specs.Prelude.{nat_le}
use Rattle.tree_base.specs.Limits.{most_entries}
use Rattle.engine_types.specs.declared.Entry.{Entry}
use Rattle.run_model.specs.Conditions.{is_allowed, is_watched}
use Rattle.run_model.specs.EngineRules.{Among}
use Rattle.run_model.specs.Journals.{Holding, Nothing, Setup, Watch, Work, holding, is_ending, is_open, is_watch_of, polls}
use Rattle.run_model.specs.Legal.{Go, IsReady, answer_to, decision, has_fewest_polls, is_looked_at, is_other_out, may_poll, next_action, next_poll, workers}
use Rattle.run_model.specs.Numbers.{places}
use Rattle.run_model.proofs.DistinctLists.{among_numbers, from_numbers}
use Rattle.run_model.proofs.KeptLaws.{any_from_list}
use Rattle.run_ends.proofs.Lists.{each_fails, fewest, none_found}

-- no action is allowed, no slot is watched, and nobody holds a permit
pub record IsQuiet (setup : Setup) (past : List Entry) : Type 0 where
  pub none_allowed : (a : ℕ) → a < length setup.actions → is_allowed setup past a ≡ false
  pub none_watched : (s : ℕ) → s < length setup.declared.slots → is_watched setup past s ≡ false
  pub none_out : (w : ℕ) → w < setup.limits.workers → holding past w ≡ Nothing

-- what a worker is told that is to go, in a run that isn't ending
record IsToGo (action slot : Option ℕ) (out : Bool) : Type 0 where
  pub no_action : action ≡ None
  pub no_slot : slot ≡ None
  pub none_out : out ≡ false

answers_go : (full ending : Bool) (action slot : Option ℕ) (out : Bool) → answer_to full ending action slot out ≡ Go → ending ≡ false → IsToGo action slot out
answers_go true ending action slot out e n = absurd (cc e)
answers_go false true action slot out e n = absurd (cc n)
answers_go false false (Some a) slot out e n = absurd (cc e)
answers_go false false None (Some s) out e n = absurd (cc e)
answers_go false false None None true e n = absurd (cc e)
answers_go false false None None false e n = record { no_action = refl; no_slot = refl; none_out = refl }

closed_is : (held : Holding) → is_open held ≡ false → held ≡ Nothing
closed_is Nothing e = refl
closed_is (Work a) e = absurd (cc e)
closed_is (Watch s) e = absurd (cc e)

-- a place below a length is among the places
place_of : {X : Type 0} (xs : List X) (i : ℕ) → i < length xs → Among (places xs) i
place_of xs i l = among_numbers 0 (length xs) i (omega arith) (omega (arith, l))

module _ (setup : Setup) (past : List Entry) (w : ℕ) (ready : IsReady setup past w) (go : decision setup past w ≡ Go) (going : is_ending past ≡ false) where
  told : IsToGo (next_action setup past) (next_poll setup past) (is_other_out setup past w)
  told = answers_go (nat_le most_entries (length past)) (is_ending past) (next_action setup past) (next_poll setup past) (is_other_out setup past w) go going

  none_out : (v : ℕ) → v < setup.limits.workers → holding past v ≡ Nothing
  none_out v l = at (cases_eq v w)
    where
      second : (t u : Bool) → t ≡ false → (not t && u) ≡ false → u ≡ false
      second true u h f = absurd (cc h)
      second false u h f = f

      at : (v ≡ w) ⊎ (v ≡ w → ⊥) → holding past v ≡ Nothing
      at (inl e) = subst (λ (x : ℕ). holding past x ≡ Nothing) (sym e) ready.idle
      at (inr n) = closed_is (holding past v) (second (v == w) (is_open (holding past v)) (ne_eqb v w n)
          (each_fails (λ (x : ℕ). not (x == w) && is_open (holding past x)) (workers setup) v told.none_out (among_numbers 0 setup.limits.workers v (omega arith) (omega (arith, l)))))

  -- nobody looks at a slot
  unseen : (s : ℕ) → is_looked_at setup past s ≡ false
  unseen s = at (is_looked_at setup past s) refl
    where
      at : (t : Bool) → is_looked_at setup past s ≡ t → t ≡ false
      at true h =
          let r = any_from_list (λ (x : ℕ). is_watch_of s (holding past x)) (workers setup) h in
          let l = (from_numbers 0 setup.limits.workers r.0 r.1).1 in
          let idle : false ≡ true = sym (ap (is_watch_of s) (none_out r.0 (omega (arith, l)))) ∙ r.2 in absurd (cc idle)
      at false h = refl

  -- a slot that could be polled would be polled, or another one that was polled less often
  none_polled : (s : ℕ) → s < length setup.declared.slots → may_poll setup past s ≡ false
  none_polled s l = at (may_poll setup past s) refl
    where
      at : (t : Bool) → may_poll setup past s ≡ t → t ≡ false
      at true h =
          let r = fewest (may_poll setup past) (polls past) (places setup.declared.slots) (polls past s + 1) s (omega arith) (place_of setup.declared.slots s l) h in
          let fails = none_found (λ (t : ℕ). may_poll setup past t && has_fewest_polls setup past t) (places setup.declared.slots) r.0 told.no_slot r.1 in
          absurd (true≢false (sym r.2 ∙ fails))
      at false h = refl

  unwatched : (t u : Bool) → u ≡ false → (t && not u) ≡ false → t ≡ false
  unwatched true false h f = f
  unwatched true true h f = absurd (cc h)
  unwatched false u h f = refl

  pub quiet : IsQuiet setup past
  quiet = record {
    none_allowed = λ a l. none_found (is_allowed setup past) (places setup.actions) a told.no_action (place_of setup.actions a l);
    none_watched = λ s l. unwatched (is_watched setup past s) (is_looked_at setup past s) (unseen s) (none_polled s l);
    none_out = none_out;
  }
