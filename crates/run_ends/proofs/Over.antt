-- Where nothing can be granted any more, every action and every goal is over.
use Rattle.std.proofs.Common.{◌≡◌, ◌⊎◌, ℕ, zero, suc, ◌+◌, ◌<◌, Bool, true, false, not, ◌&&◌, ◌||◌, ◌==◌, List, [], length, Option, Some, None, refl, sym, ap, ◌∙◌, inl, inr, arith}
use Rattle.std.proofs.lemmas.Bool.{eq-eqb, true≢false}
use Rattle.std.specs.List.{list_all, list_any}
use Rattle.std.specs.Option.{option_map_or}
use Rattle.engine_types.specs.declared.ActionKind.{ActionKind}
use Rattle.engine_types.specs.declared.ActionKind.TheVariants.{StartSlot}
use Rattle.engine_types.specs.declared.Aim.{Aim}
use Rattle.engine_types.specs.declared.Condition.{Condition}
use Rattle.engine_types.specs.declared.Declared.{Declared}
use Rattle.engine_types.specs.declared.Entry.{Entry}
use Rattle.engine_types.specs.declared.Need.{Need}
use Rattle.engine_types.specs.declared.Slot.{Slot}
use Rattle.run_model.specs.Conditions.{asks_for, counts, has_failed, is_allowed, is_blocked, is_goal_open, is_lost, is_met, is_need_lost, is_needed, is_pending, is_reported, is_start_lost, lets}
use Rattle.run_model.specs.Ending.{is_goal_over, is_over}
use Rattle.run_model.specs.EngineRules.{Among}
use Rattle.run_model.specs.Journals.{Badly, Free, Nothing, Out, Setup, Standing, Well, Work, is_badly, is_free, is_well, standing}
use Rattle.run_model.specs.Legal.{IsLegal}
use Rattle.run_model.specs.Numbers.{places}
use Rattle.run_model.specs.Plans.{IsOrderly, IsWhole, is_running, is_start_of, kind_of, needs_of, slot_at, slot_needs, start_of}
use Rattle.run_model.proofs.DistinctLists.{among_numbers, from_numbers, from_place}
use Rattle.run_model.proofs.KeptLaws.{any_of_list}
use Rattle.ledger_rows.proofs.Fixed.{are_blocked}
use Rattle.run_ends.proofs.Holders.{out_held}
use Rattle.run_ends.proofs.Lists.{all_pass, both_true, each_fails, found_among, none_of_two}
use Rattle.run_ends.proofs.Quiet.{IsQuiet}

-- the slot whose need an action has
record IsNeedOf (declared : Declared) (need : Need) : Type 0 where
  pub slot : Slot
  pub there : Among declared.slots slot
  pub its : Among slot.needs need

need_of : (declared : Declared) (kind : Option ActionKind) (need : Need) → Among (slot_needs declared kind) need → IsNeedOf declared need
need_of declared (Some (StartSlot s)) need m = at (slot_at declared s) refl m
  where
    at : (o : Option Slot) → slot_at declared s ≡ o → Among (option_map_or (λ (slot : Slot). slot.needs) o []) need → IsNeedOf declared need
    at None e k = absurd k
    at (Some slot) e k = record { slot = slot; there = from_place declared.slots s slot e; its = k }
need_of declared _ need m = absurd m

module _ (aim : Aim) (setup : Setup) (past : List Entry) (whole : IsWhole setup.declared) (orderly : IsOrderly setup.declared setup.actions) (legal : IsLegal aim setup past) (quiet : IsQuiet setup past) where
  abbrev Needs : ℕ → List Need
  Needs a = slot_needs setup.declared (kind_of setup.actions a)

  -- what an action that is neither claimed nor blocked needs: nothing of it is lost
  record IsPending (a : ℕ) : Type 0 where
    pub free : is_free (standing setup past a) ≡ true
    pub open_ : is_blocked setup past a ≡ false
    pub actions : (b : ℕ) → Among (needs_of setup.actions a) b → is_lost setup past (is_blocked setup past) b ≡ false
    pub slots : (need : Need) → Among (Needs a) need → is_need_lost setup past (is_blocked setup past) need ≡ false

  pending : (a : ℕ) → is_free (standing setup past a) ≡ true → is_blocked setup past a ≡ false → IsPending a
  pending a free blocked = record {
    free = free;
    open_ = blocked;
    actions = λ b m. each_fails (is_lost setup past (is_blocked setup past)) (needs_of setup.actions a) b causes.0 m;
    slots = λ need m. each_fails (is_need_lost setup past (is_blocked setup past)) (Needs a) need causes.1 m;
  }
    where
      second : (t u : Bool) → t ≡ true → (t && u) ≡ false → u ≡ false
      second true u h f = f
      second false u h f = absurd (cc h)

      causes : (list_any (is_lost setup past (is_blocked setup past)) (needs_of setup.actions a) ≡ false) × (list_any (is_need_lost setup past (is_blocked setup past)) (Needs a) ≡ false)
      causes = none_of_two _ _ (second (is_free (standing setup past a)) _ free (sym ((are_blocked setup orderly past).each a) ∙ blocked))

  -- the actions before it are over
  abbrev AreOverBefore : ℕ → Type 0
  AreOverBefore a = (b : ℕ) → orderly.rank b < orderly.rank a → b < length setup.actions → is_over setup past b ≡ true

  well_if : (x y z : Bool) → (x || y || z) ≡ true → (y || z) ≡ false → x ≡ true
  well_if true y z e f = refl
  well_if false true z e f = absurd (cc f)
  well_if false false true e f = absurd (cc f)
  well_if false false false e f = e

  -- a slot whose start is over counts, or its start is lost
  counted_or_lost : (s : ℕ) → ((b : ℕ) → start_of setup.actions s ≡ Some b → is_over setup past b ≡ true)
      → (counts setup past s ≡ true) ⊎ (is_start_lost setup past (is_blocked setup past) s ≡ true)
  counted_or_lost s each = at (start_of setup.actions s) refl
    where
      on : (x y z : Bool) → (x || y || z) ≡ true → (x ≡ true) ⊎ ((y || z) ≡ true)
      on true y z e = inl refl
      on false true z e = inr refl
      on false false true e = inr refl
      on false false false e = absurd (cc e)

      at : (o : Option ℕ) → start_of setup.actions s ≡ o → (option_map_or (λ a. is_well (standing setup past a)) o true ≡ true) ⊎ (option_map_or (is_lost setup past (is_blocked setup past)) o false ≡ true)
      at None e = inl refl
      at (Some b) e = on (is_well (standing setup past b)) (is_badly (standing setup past b)) (is_blocked setup past b) (each b e)

  -- a need that isn't lost and whose slot counts lets its start go: else the slot would be watched
  let_go : (a : ℕ) (need : Need) → a < length setup.actions → IsPending a → Among (Needs a) need → counts setup past need.slot ≡ true → lets setup past need ≡ true
  let_go a need l is m counted = by need.condition refl
    where
      its : IsNeedOf setup.declared need
      its = need_of setup.declared (kind_of setup.actions a) need m

      met : (t u : Bool) → t ≡ true → (t || u) ≡ true
      met true u e = refl
      met false u e = absurd (cc e)

      is_waiting : is_pending setup past a ≡ true
      is_waiting = both_true (is_free (standing setup past a)) (not (is_blocked setup past a)) is.free (ap not is.open_)

      asking : (c : Condition) → need.condition ≡ c → is_reported c ≡ true → has_failed setup past need.slot c ≡ false → asks_for setup past need.slot need ≡ true
      asking c e r f = both_true ((need.slot == need.slot) && is_reported need.condition) (not (has_failed setup past need.slot need.condition))
          (both_true (need.slot == need.slot) (is_reported need.condition) (eq-eqb need.slot need.slot refl) (ap is_reported e ∙ r))
          (ap not (ap (has_failed setup past need.slot) e ∙ f))

      -- a report that is still to come would be asked for
      watched : (c : Condition) → need.condition ≡ c → is_reported c ≡ true → has_failed setup past need.slot c ≡ false → ⊥
      watched c e r f =
          let asks : list_any (asks_for setup past need.slot) (Needs a) ≡ true = any_of_list (asks_for setup past need.slot) (Needs a) need m (asking c e r f) in
          let needed : is_needed setup past need.slot ≡ true =
          any_of_list (λ (x : ℕ). is_pending setup past x && list_any (asks_for setup past need.slot) (Needs x)) (places setup.actions) a
          (among_numbers 0 (length setup.actions) a (omega arith) (omega (arith, l)))
          (both_true (is_pending setup past a) (list_any (asks_for setup past need.slot) (Needs a)) is_waiting asks) in
          true≢false (sym (both_true (counts setup past need.slot) (is_needed setup past need.slot || is_goal_open setup past need.slot) counted
          (met (is_needed setup past need.slot) (is_goal_open setup past need.slot) needed)) ∙ quiet.none_watched need.slot (whole.needs its.slot need its.there its.its))

      -- what failed isn't required
      unrequired : (r f l : Bool) → (r && (f || l)) ≡ false → f ≡ true → (not r && (f || l)) ≡ true
      unrequired true true l e g = absurd (cc e)
      unrequired true false l e g = absurd (cc g)
      unrequired false true l e g = refl
      unrequired false false l e g = absurd (cc g)

      either : (t u : Bool) → u ≡ true → (t || u) ≡ true
      either true u e = refl
      either false u e = e

      failed : has_failed setup past need.slot need.condition ≡ true → lets setup past need ≡ true
      failed h = either (is_met setup past need.slot need.condition) _ (unrequired need.required (has_failed setup past need.slot need.condition)
          (is_start_lost setup past (is_blocked setup past) need.slot) (is.slots need m) h)

      reported : (c : Condition) → need.condition ≡ c → is_reported c ≡ true → (t : Bool) → has_failed setup past need.slot c ≡ t → lets setup past need ≡ true
      reported c e r true h = failed (ap (has_failed setup past need.slot) e ∙ h)
      reported c e r false h = absurd (watched c e r h)

      by : (c : Condition) → need.condition ≡ c → lets setup past need ≡ true
      by Condition.Started e = met (is_met setup past need.slot need.condition) _ (ap (is_met setup past need.slot) e ∙ counted)
      by Condition.Healthy e = reported Condition.Healthy e refl (has_failed setup past need.slot Condition.Healthy) refl
      by Condition.Completed e = reported Condition.Completed e refl (has_failed setup past need.slot Condition.Completed) refl
      by Condition.Running e = let bad : false ≡ true = sym (whole.conditions its.slot need its.there its.its) ∙ ap is_running e in absurd (cc bad)

  -- a need whose slot's start is lost isn't required, and lets its start go
  let_lost : (a : ℕ) (need : Need) → IsPending a → Among (Needs a) need → is_start_lost setup past (is_blocked setup past) need.slot ≡ true → lets setup past need ≡ true
  let_lost a need is m lost = on (is_met setup past need.slot need.condition) need.required (has_failed setup past need.slot need.condition) (is_start_lost setup past (is_blocked setup past) need.slot) (is.slots need m) lost
    where
      on : (t r f l : Bool) → (r && (f || l)) ≡ false → l ≡ true → (t || (not r && (f || l))) ≡ true
      on true r f l e h = refl
      on false true true l e h = absurd (cc e)
      on false true false l e h = absurd (true≢false (sym h ∙ e))
      on false false true l e h = refl
      on false false false l e h = h

  -- an action that is neither claimed nor blocked would be allowed
  not_pending : (a : ℕ) → a < length setup.actions → AreOverBefore a → IsPending a → ⊥
  not_pending a l before is = true≢false (sym allowed ∙ quiet.none_allowed a l)
    where
      well : (b : ℕ) → Among (needs_of setup.actions a) b → is_well (standing setup past b) ≡ true
      well b m = well_if (is_well (standing setup past b)) (is_badly (standing setup past b)) (is_blocked setup past b) (before b (orderly.needs a b m) (orderly.there a b m)) (is.actions b m)

      started : (need : Need) → Among (Needs a) need → (b : ℕ) → start_of setup.actions need.slot ≡ Some b → is_over setup past b ≡ true
      started need m b e =
          let k = (from_numbers 0 (length setup.actions) b (found_among (λ (x : ℕ). is_start_of need.slot (kind_of setup.actions x)) (places setup.actions) b e)).1 in
          before b (orderly.starts a b need m e) (omega (arith, k))

      goes : (need : Need) → Among (Needs a) need → lets setup past need ≡ true
      goes need m = at (counted_or_lost need.slot (started need m))
        where
          at : (counts setup past need.slot ≡ true) ⊎ (is_start_lost setup past (is_blocked setup past) need.slot ≡ true) → lets setup past need ≡ true
          at (inl c) = let_go a need l is m c
          at (inr h) = let_lost a need is m h

      allowed : is_allowed setup past a ≡ true
      allowed = both_true (is_free (standing setup past a) && list_all (λ b. is_well (standing setup past b)) (needs_of setup.actions a)) (list_all (lets setup past) (Needs a))
          (both_true (is_free (standing setup past a)) (list_all (λ b. is_well (standing setup past b)) (needs_of setup.actions a)) is.free
          (all_pass (λ b. is_well (standing setup past b)) (needs_of setup.actions a) well))
          (all_pass (lets setup past) (Needs a) goes)

  -- an action that is claimed ended, since nobody holds it
  over_by : (a : ℕ) → a < length setup.actions → AreOverBefore a → (st : Standing) → standing setup past a ≡ st → (t : Bool) → is_blocked setup past a ≡ t → (is_well st || is_badly st || t) ≡ true
  over_by a l before (Well reply) e t h = refl
  over_by a l before Badly e t h = refl
  over_by a l before Out e t h =
      let r = out_held aim setup past a legal e in
      let bad : Nothing ≡ Work a = sym (quiet.none_out r.worker r.below) ∙ r.holds in absurd (cc bad)
  over_by a l before Free e true h = refl
  over_by a l before Free e false h = absurd (not_pending a l before (pending a (ap is_free e) h))

  over_below : (n a : ℕ) → orderly.rank a < n → a < length setup.actions → is_over setup past a ≡ true
  over_below zero a r l = absurd (omega arith)
  over_below (suc n) a r l = over_by a l (λ b k m. over_below n b (omega (arith, r, k)) m) (standing setup past a) refl (is_blocked setup past a) refl

  pub over : (a : ℕ) → a < length setup.actions → is_over setup past a ≡ true
  over a l = over_below (orderly.rank a + 1) a (omega arith) l

  pub goal_over : (s : ℕ) → s < length setup.declared.slots → is_goal_over setup past s ≡ true
  goal_over s l = on (counts setup past s) (is_needed setup past s) (is_goal_open setup past s) (quiet.none_watched s l)
    where
      on : (c n g : Bool) → (c && (n || g)) ≡ false → (not c || not g) ≡ true
      on false n g e = refl
      on true true g e = absurd (cc e)
      on true false g e = ap not e
