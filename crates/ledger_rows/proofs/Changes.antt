-- What changes where one action stands otherwise.
use Rattle.std.proofs.Common.{◌≡◌, ◌⊎◌, ℕ, zero, suc, ◌+◌, ◌<◌, Bool, true, false, cond, not, ◌&&◌, ◌||◌, ◌==◌, List, [], ◌∷◌, ◌++◌, length, get_or, set, slice_get, Option, Some, None, refl, sym, ap, ◌∙◌, subst, inl, inr, arith}
use Rattle.std.proofs.lemmas.Bool.{and_parts, cases_eq, eqb-true, eqb-false, true≢false}
use Rattle.std.proofs.lemmas.Grind.{common_steps}
use Rattle.std.specs.List.{list_any}
use Rattle.std.specs.Option.{option_map_or}
use Rattle.engine_types.specs.declared.Condition.{Condition}
use Rattle.engine_types.specs.declared.Entry.{Entry}
use Rattle.engine_types.specs.declared.Need.{Need}
use Rattle.engine_types.specs.declared.Outcome.{Outcome}
use Rattle.engine_types.specs.declared.Reply.{Reply}
use Rattle.run_model.specs.Conditions.{is_started}
use Rattle.run_model.specs.Journals.{Badly, Free, Out, Setup, Standing, Well, is_badly, is_free, is_well}
use Rattle.run_model.specs.Plans.{kind_of, needs_of, slot_needs, start_of}
use Rattle.ledger_rows.specs.ActionRows.{lack_at, state_at}
use Rattle.ledger_rows.specs.ActionRows.Values.{Actions}
use Rattle.ledger_rows.specs.Facts.{AreBlocked, AreSound, ChangesOne, Facts, counts_by, has_cause, lets_by, lost_by, met_by, need_lost_by, open_needs, released_by, start_lost_by, waits_for_start}
use Rattle.ledger_rows.specs.Counts.{counted}
use Rattle.ledger_rows.specs.Rows.{AreRows, StandsAs, TellsWell, blocked_in, is_blocked_state}
use Rattle.ledger_rows.specs.declared.action_rows.State.{State}
use Rattle.ledger_rows.proofs.Steps.{any_lacks, functions_same}

-- the count falls by those that begin to pass
pub counted_fall : {X : Type 0} (p q r : X → Bool) (xs : List X) → ((x : X) → r x ≡ true → (p x ≡ true) × (q x ≡ false)) → ((x : X) → r x ≡ false → q x ≡ p x)
    → counted q xs + counted r xs ≡ counted p xs
counted_fall p q r [] when other = refl
counted_fall {X} p q r (x ∷ xs) when other = on (r x) refl (counted_fall p q r xs when other)
  where
    by : (t u v : Bool) → (v ≡ true → (t ≡ true) × (u ≡ false)) → (v ≡ false → u ≡ t) → (a b c : ℕ) → a + b ≡ c → (cond u (a + 1) a) + (cond v (b + 1) b) ≡ (cond t (c + 1) c)
    by true false true y n a b c e = omega (arith, e)
    by true true true y n a b c e = absurd (true≢false (y refl).1)
    by false u true y n a b c e = absurd (true≢false (sym (y refl).0))
    by true true false y n a b c e = omega (arith, e)
    by false false false y n a b c e = omega (arith, e)
    by true false false y n a b c e = absurd (true≢false (sym (n refl)))
    by false true false y n a b c e = absurd (true≢false (n refl))

    on : (t : Bool) → r x ≡ t → counted q xs + counted r xs ≡ counted p xs → counted q (x ∷ xs) + counted r (x ∷ xs) ≡ counted p (x ∷ xs)
    on t h e = by (p x) (q x) (r x) (when x) (other x) (counted q xs) (counted r xs) (counted p xs) e

-- a cause speaks of what ended badly alone, and of what failed
cause_of : Setup → (ℕ → Bool) → (ℕ → Condition → Bool) → (ℕ → Bool) → ℕ → Bool
cause_of setup badly failed blocked a =
    list_any (λ b. badly b || blocked b) (needs_of setup.actions a)
    || list_any (λ need. need.required && (failed need.slot need.condition || option_map_or (λ b. badly b || blocked b) (start_of setup.actions need.slot) false)) (slot_needs setup.declared (kind_of setup.actions a))

pub cause_kept : (setup : Setup) (f g : Facts) (blocked : ℕ → Bool) (a : ℕ) → ((b : ℕ) → is_badly (g.stands b) ≡ is_badly (f.stands b)) → g.failed ≡ f.failed
    → has_cause setup g blocked a ≡ has_cause setup f blocked a
unfolding cause_of
cause_kept setup f g blocked a badly failed =
    ap (λ (p : ℕ → Bool). cause_of setup p g.failed blocked a) (functions_same (λ b. is_badly (g.stands b)) (λ b. is_badly (f.stands b)) badly)
    ∙ ap (λ (p : ℕ → Condition → Bool). cause_of setup (λ b. is_badly (f.stands b)) p blocked a) failed

-- the other actions stand as they did: what is blocked is the same where the one is free in neither, or isn't blocked
pub blocked_kept : (setup : Setup) (f g : Facts) (blocked : ℕ → Bool) (b : ℕ) → ChangesOne f g b → is_badly (g.stands b) ≡ is_badly (f.stands b) → is_free (g.stands b) ≡ false
    → blocked b ≡ false → AreBlocked setup f blocked → AreBlocked setup g blocked
blocked_kept setup f g blocked b one badly free not_blocked are = record { each = λ a. on a (cases_eq a b) }
  where
    badly_same : (a : ℕ) → (a ≡ b) ⊎ (a ≡ b → ⊥) → is_badly (g.stands a) ≡ is_badly (f.stands a)
    badly_same a (inl e) = subst (λ (k : ℕ). is_badly (g.stands k) ≡ is_badly (f.stands k)) (sym e) badly
    badly_same a (inr n) = ap is_badly (one.others a n)

    on : (a : ℕ) → (a ≡ b) ⊎ (a ≡ b → ⊥) → blocked a ≡ (is_free (g.stands a) && has_cause setup g blocked a)
    on a (inl e) = subst (λ (k : ℕ). blocked k ≡ (is_free (g.stands k) && has_cause setup g blocked k)) (sym e) (not_blocked ∙ sym (ap (λ (t : Bool). t && has_cause setup g blocked b) free))
    on a (inr n) = are.each a
        ∙ sym (ap (λ (t : Bool). t && has_cause setup g blocked a) (ap is_free (one.others a n))
        ∙ ap (λ (t : Bool). is_free (f.stands a) && t) (cause_kept setup f g blocked a (λ c. badly_same c (cases_eq c b)) one.failed))

-- what is blocked lacks something
pub blocked_lacks : (setup : Setup) (facts : Facts) (blocked : ℕ → Bool) → AreBlocked setup facts blocked → AreSound setup facts → (a : ℕ) → blocked a ≡ true → (open_needs setup facts blocked a == 0) ≡ false
blocked_lacks setup facts blocked are sound a h = on (list_any (lost_by facts blocked) (needs_of setup.actions a)) refl (and_parts (is_free (facts.stands a)) (has_cause setup facts blocked a) (sym (are.each a) ∙ h)).1
  where
    well_not : (st : Standing) → (is_badly st ≡ true) ⊎ (is_free st ≡ true) → is_well st ≡ false
    well_not Free h = refl
    well_not Out h = refl
    well_not Badly h = refl
    well_not (Well reply) (inl h) = absurd (true≢false (sym h))
    well_not (Well reply) (inr h) = absurd (true≢false (sym h))

    lost_not_well : (b : ℕ) → lost_by facts blocked b ≡ true → is_well (facts.stands b) ≡ false
    lost_not_well b e = well_not (facts.stands b) (by (is_badly (facts.stands b)) refl e)
      where
        by : (t : Bool) → is_badly (facts.stands b) ≡ t → (t || blocked b) ≡ true → (is_badly (facts.stands b) ≡ true) ⊎ (is_free (facts.stands b) ≡ true)
        by true k e = inl k
        by false k e = inr (and_parts (is_free (facts.stands b)) (has_cause setup facts blocked b) (sym (are.each b) ∙ e)).0

    no_count : (s : ℕ) (o : Option ℕ) → option_map_or (lost_by facts blocked) o false ≡ true → option_map_or (λ b. is_well (facts.stands b)) o true ≡ false
    no_count s None e = absurd (true≢false (sym e))
    no_count s (Some b) e = lost_not_well b e

    unmet_by : (s : ℕ) (c : Condition) → start_lost_by setup facts blocked s ≡ true → met_by setup facts s c ≡ false
    unmet_by s Condition.Started e = no_count s (start_of setup.actions s) e
    unmet_by s c e = by (facts.met s c) refl (not (facts.failed s c))
      where
        by : (t : Bool) → facts.met s c ≡ t → (u : Bool) → (u && t) ≡ false
        by true k u = absurd (true≢false (sym (sound.met s c k) ∙ no_count s (start_of setup.actions s) e))
        by false k true = refl
        by false k false = refl

    failed_unmet : (s : ℕ) (c : Condition) → facts.failed s c ≡ true → met_by setup facts s c ≡ false
    failed_unmet s Condition.Started e = absurd (true≢false (sym e ∙ sound.started s))
    failed_unmet s Condition.Healthy e = rw e refl
    failed_unmet s Condition.Completed e = rw e refl
    failed_unmet s Condition.Running e = rw e refl

    need_unlet : (need : Need) → need_lost_by setup facts blocked need ≡ true → lets_by setup facts blocked need ≡ false
    need_unlet need e = by (and_parts need.required _ e).0 (facts.failed need.slot need.condition) refl (and_parts need.required _ e).1
      where
        close : need.required ≡ true → met_by setup facts need.slot need.condition ≡ false → lets_by setup facts blocked need ≡ false
        close r m = rw (m, r) refl

        by : need.required ≡ true → (t : Bool) → facts.failed need.slot need.condition ≡ t → (t || start_lost_by setup facts blocked need.slot) ≡ true → lets_by setup facts blocked need ≡ false
        by r true k e = close r (failed_unmet need.slot need.condition k)
        by r false k e = close r (unmet_by need.slot need.condition e)

    zero_left : (m n : ℕ) → (m == 0) ≡ false → (m + n == 0) ≡ false
    zero_left m n e = grind (arith, common_steps)

    zero_right : (m n : ℕ) → (n == 0) ≡ false → (m + n == 0) ≡ false
    zero_right m n e = grind (arith, common_steps)

    on : (t : Bool) → list_any (lost_by facts blocked) (needs_of setup.actions a) ≡ t
        → (t || list_any (need_lost_by setup facts blocked) (slot_needs setup.declared (kind_of setup.actions a))) ≡ true → (open_needs setup facts blocked a == 0) ≡ false
    on true k e = zero_left _ _ (any_lacks (λ b. is_well (facts.stands b)) (lost_by facts blocked) (needs_of setup.actions a) lost_not_well k)
    on false k e = zero_right _ _ (any_lacks (lets_by setup facts blocked) (need_lost_by setup facts blocked) (slot_needs setup.declared (kind_of setup.actions a)) need_unlet e)

-- nothing lacks more or less where as much ended well and badly
pub lacks_kept : (setup : Setup) (f g : Facts) (blocked : ℕ → Bool) → ((b : ℕ) → is_well (g.stands b) ≡ is_well (f.stands b)) → ((b : ℕ) → is_badly (g.stands b) ≡ is_badly (f.stands b))
    → g.failed ≡ f.failed → g.met ≡ f.met → (a : ℕ) → open_needs setup g blocked a ≡ open_needs setup f blocked a
lacks_kept setup f g blocked well badly failed met a =
    ap (λ (n : ℕ). n + counted (λ need. not (lets_by setup g blocked need)) (slot_needs setup.declared (kind_of setup.actions a)))
    (ap (λ (p : ℕ → Bool). counted (λ b. not (p b)) (needs_of setup.actions a)) (functions_same (λ b. is_well (g.stands b)) (λ b. is_well (f.stands b)) well))
    ∙ ap (λ (n : ℕ). counted (λ b. not (is_well (f.stands b))) (needs_of setup.actions a) + n)
    (counted_same (λ need. not (lets_by setup g blocked need)) (λ need. not (lets_by setup f blocked need)) (slot_needs setup.declared (kind_of setup.actions a)) (λ need. ap not (lets_same need)))
  where
    counted_same : {X : Type 0} (p q : X → Bool) (xs : List X) → ((x : X) → p x ≡ q x) → counted p xs ≡ counted q xs
    counted_same p q [] each = refl
    counted_same p q (x ∷ xs) each = ap (λ (t : Bool). cond t (counted p xs + 1) (counted p xs)) (each x) ∙ ap (λ (n : ℕ). cond (q x) (n + 1) n) (counted_same p q xs each)

    counts_same : (s : ℕ) → counts_by setup g s ≡ counts_by setup f s
    counts_same s = by (start_of setup.actions s)
      where
        by : (o : Option ℕ) → option_map_or (λ a. is_well (g.stands a)) o true ≡ option_map_or (λ a. is_well (f.stands a)) o true
        by None = refl
        by (Some b) = well b

    lost_same : (s : ℕ) → start_lost_by setup g blocked s ≡ start_lost_by setup f blocked s
    lost_same s = by (start_of setup.actions s)
      where
        by : (o : Option ℕ) → option_map_or (lost_by g blocked) o false ≡ option_map_or (lost_by f blocked) o false
        by None = refl
        by (Some b) = ap (λ (t : Bool). t || blocked b) (badly b)

    reported : (s : ℕ) (c : Condition) → (not (g.failed s c) && g.met s c) ≡ (not (f.failed s c) && f.met s c)
    reported s c = ap (λ (p : ℕ → Condition → Bool). not (p s c) && g.met s c) failed ∙ ap (λ (p : ℕ → Condition → Bool). not (f.failed s c) && p s c) met

    met_same : (s : ℕ) (c : Condition) → met_by setup g s c ≡ met_by setup f s c
    met_same s Condition.Started = counts_same s
    met_same s Condition.Healthy = reported s Condition.Healthy
    met_same s Condition.Completed = reported s Condition.Completed
    met_same s Condition.Running = reported s Condition.Running

    lets_same : (need : Need) → lets_by setup g blocked need ≡ lets_by setup f blocked need
    lets_same need =
        ap (λ (t : Bool). t || (not need.required && (g.failed need.slot need.condition || start_lost_by setup g blocked need.slot))) (met_same need.slot need.condition)
        ∙ ap (λ (t : Bool). met_by setup f need.slot need.condition || (not need.required && (t || start_lost_by setup g blocked need.slot)))
        (ap (λ (p : ℕ → Condition → Bool). p need.slot need.condition) failed)
        ∙ ap (λ (t : Bool). met_by setup f need.slot need.condition || (not need.required && (f.failed need.slot need.condition || t))) (lost_same need.slot)

-- the row of one action is written
state_there : (rows : Actions) (b : ℕ) (state : State) → b < length rows.states → get_or (set rows.states b state) b State.Free ≡ state
state_there rows b state l = grind (arith, common_steps)

state_elsewhere : (rows : Actions) (a b : ℕ) (state : State) → (a ≡ b → ⊥) → get_or (set rows.states b state) a State.Free ≡ get_or rows.states a State.Free
state_elsewhere rows a b state n = grind (arith, common_steps)

abbrev with_state : Actions → ℕ → State → Actions
with_state rows b state = record { states = set rows.states b state; lacks = rows.lacks }

blocked_elsewhere : (rows : Actions) (b : ℕ) (state : State) → b < length rows.states → is_blocked_state state ≡ false → blocked_in rows b ≡ false → blocked_in (with_state rows b state) ≡ blocked_in rows
blocked_elsewhere rows b state l h k = functions_same (blocked_in (with_state rows b state)) (blocked_in rows) (λ a. on a (cases_eq a b))
  where
    on : (a : ℕ) → (a ≡ b) ⊎ (a ≡ b → ⊥) → blocked_in (with_state rows b state) a ≡ blocked_in rows a
    on a (inl e) = subst (λ (x : ℕ). blocked_in (with_state rows b state) x ≡ blocked_in rows x) (sym e) (ap is_blocked_state (state_there rows b state l) ∙ h ∙ sym k)
    on a (inr n) = ap is_blocked_state (state_elsewhere rows a b state n)

-- one action is claimed
pub rows_claim : (setup : Setup) (f g : Facts) (journal : List Entry) (rows : Actions) (b : ℕ) → b < length setup.actions → ChangesOne f g b → f.stands b ≡ Free → g.stands b ≡ Out
    → blocked_in rows b ≡ false → AreRows setup f journal rows → AreRows setup g journal (record { states = set rows.states b State.Out; lacks = rows.lacks })
rows_claim setup f g journal rows b l one was now not_blocked are = record {
  size = grind (arith, common_steps, are.size);
  lacks_size = are.lacks_size;
  each = λ a. on a (cases_eq a b);
  blocked = subst (λ (p : ℕ → Bool). AreBlocked setup g p) (sym same) (blocked_kept setup f g (blocked_in rows) b one (ap is_badly now ∙ sym (ap is_badly was)) (ap is_free now) not_blocked are.blocked);
  lacks = λ a m. are.lacks a m ∙ sym (lacks_kept setup f g (blocked_in rows) (λ c. well c (cases_eq c b)) (λ c. badly c (cases_eq c b)) one.failed one.met a) ∙ ap (λ (p : ℕ → Bool). open_needs setup g p a) (sym same);
}
  where
    inside : b < length rows.states
    inside = omega (arith, l, are.size)

    same : blocked_in (with_state rows b State.Out) ≡ blocked_in rows
    same = blocked_elsewhere rows b State.Out inside refl not_blocked

    well : (c : ℕ) → (c ≡ b) ⊎ (c ≡ b → ⊥) → is_well (g.stands c) ≡ is_well (f.stands c)
    well c (inl e) = subst (λ (x : ℕ). is_well (g.stands x) ≡ is_well (f.stands x)) (sym e) (ap is_well now ∙ sym (ap is_well was))
    well c (inr n) = ap is_well (one.others c n)

    badly : (c : ℕ) → (c ≡ b) ⊎ (c ≡ b → ⊥) → is_badly (g.stands c) ≡ is_badly (f.stands c)
    badly c (inl e) = subst (λ (x : ℕ). is_badly (g.stands x) ≡ is_badly (f.stands x)) (sym e) (ap is_badly now ∙ sym (ap is_badly was))
    badly c (inr n) = ap is_badly (one.others c n)

    on : (a : ℕ) → (a ≡ b) ⊎ (a ≡ b → ⊥) → StandsAs journal (g.stands a) (state_at (with_state rows b State.Out) a)
    on a (inl e) = subst (λ (x : ℕ). StandsAs journal (g.stands x) (state_at (with_state rows b State.Out) x)) (sym e) (subst (λ (s : State). StandsAs journal (g.stands b) s) (sym (state_there rows b State.Out inside)) now)
    on a (inr n) = subst (λ (s : State). StandsAs journal (g.stands a) s) (sym (state_elsewhere rows a b State.Out n)) (subst (λ (st : Standing). StandsAs journal st (state_at rows a)) (sym (one.others a n)) (are.each a))

-- more entries leave what stands at a place
pub tells_more : (journal : List Entry) (entry : Entry) (at : ℕ) (reply : Reply) → TellsWell journal at reply → TellsWell (journal ++ entry ∷ []) at reply
tells_more journal entry at reply t = (t.0, slice_get_more journal at (Entry.Ended t.0 (Outcome.Answered reply)) t.1)
  where
    slice_get_more : (xs : List Entry) (i : ℕ) (x : Entry) → slice_get xs i ≡ Some x → slice_get (xs ++ entry ∷ []) i ≡ Some x
    slice_get_more [] i x e = absurd (cc e)
    slice_get_more (y ∷ ys) zero x e = e
    slice_get_more (y ∷ ys) (suc i) x e = slice_get_more ys i x e

pub stands_more : (journal : List Entry) (entry : Entry) (st : Standing) (s : State) → StandsAs journal st s → StandsAs (journal ++ entry ∷ []) st s
stands_more journal entry st State.Free h = h
stands_more journal entry st State.Blocked h = h
stands_more journal entry st State.Out h = h
stands_more journal entry st (State.Well at) h = (h.0, h.1, tells_more journal entry at h.0 h.2)
stands_more journal entry st State.Badly h = h

-- an entry that changes nothing of the rows
pub rows_kept : (setup : Setup) (facts : Facts) (journal : List Entry) (entry : Entry) (rows : Actions) → AreRows setup facts journal rows → AreRows setup facts (journal ++ entry ∷ []) rows
rows_kept setup facts journal entry rows are = record {
  size = are.size;
  lacks_size = are.lacks_size;
  each = λ a. stands_more journal entry (facts.stands a) (state_at rows a) (are.each a);
  blocked = are.blocked;
  lacks = are.lacks;
}

-- the good end of an action lets others go
module _ (setup : Setup) (f g : Facts) (blocked : ℕ → Bool) (b : ℕ) (reply : Reply) (one : ChangesOne f g b) (was : f.stands b ≡ Out) (now : g.stands b ≡ Well reply)
    (not_blocked : blocked b ≡ false) (sound : AreSound setup f) where
  badly_as : (c : ℕ) → is_badly (g.stands c) ≡ is_badly (f.stands c)
  badly_as c = on (cases_eq c b)
    where
      on : (c ≡ b) ⊎ (c ≡ b → ⊥) → is_badly (g.stands c) ≡ is_badly (f.stands c)
      on (inl e) = subst (λ (x : ℕ). is_badly (g.stands x) ≡ is_badly (f.stands x)) (sym e) (ap is_badly now ∙ sym (ap is_badly was))
      on (inr n) = ap is_badly (one.others c n)

  needs_fall : (a : ℕ) → counted (λ c. not (is_well (g.stands c))) (needs_of setup.actions a) + counted (λ c. c == b) (needs_of setup.actions a) ≡ counted (λ c. not (is_well (f.stands c))) (needs_of setup.actions a)
  needs_fall a = counted_fall (λ c. not (is_well (f.stands c))) (λ c. not (is_well (g.stands c))) (λ c. c == b) (needs_of setup.actions a)
      (λ c h. let e : c ≡ b = eqb-true c b h in (ap (λ (st : Standing). not (is_well st)) (ap f.stands e ∙ was), ap (λ (st : Standing). not (is_well st)) (ap g.stands e ∙ now)))
      (λ c h. ap (λ (st : Standing). not (is_well st)) (one.others c (eqb-false c b h)))

  lost_as : (s : ℕ) → start_lost_by setup g blocked s ≡ start_lost_by setup f blocked s
  lost_as s = by (start_of setup.actions s)
    where
      by : (o : Option ℕ) → option_map_or (lost_by g blocked) o false ≡ option_map_or (lost_by f blocked) o false
      by None = refl
      by (Some c) = ap (λ (t : Bool). t || blocked c) (badly_as c)

  by_failed : (s : ℕ) (c : Condition) → g.failed s c ≡ f.failed s c
  by_failed s c = ap (λ (p : ℕ → Condition → Bool). p s c) one.failed

  reported_as : (s : ℕ) (c : Condition) → (not (g.failed s c) && g.met s c) ≡ (not (f.failed s c) && f.met s c)
  reported_as s c = ap (λ (t : Bool). not t && g.met s c) (by_failed s c) ∙ ap (λ (p : ℕ → Condition → Bool). not (f.failed s c) && p s c) one.met

  -- a need as it would be with this condition
  abbrev lets_with : Facts → Need → Condition → Bool
  lets_with facts need c = met_by setup facts need.slot c || (not need.required && (facts.failed need.slot c || start_lost_by setup facts blocked need.slot))

  joined : (need : Need) (c : Condition) → met_by setup g need.slot c ≡ met_by setup f need.slot c → lets_with g need c ≡ lets_with f need c
  joined need c e =
      ap (λ (t : Bool). t || (not need.required && (g.failed need.slot c || start_lost_by setup g blocked need.slot))) e
      ∙ ap (λ (t : Bool). met_by setup f need.slot c || (not need.required && (t || start_lost_by setup g blocked need.slot))) (by_failed need.slot c)
      ∙ ap (λ (t : Bool). met_by setup f need.slot c || (not need.required && (f.failed need.slot c || t))) (lost_as need.slot)

  abbrev waits_with : Need → Condition → Bool
  waits_with need c = is_started c && option_map_or (λ a. a == b) (start_of setup.actions need.slot) false

  released : (need : Need) (c : Condition) → waits_with need c ≡ true → (not (lets_with f need c) ≡ true) × (not (lets_with g need c) ≡ false)
  released need Condition.Started h = by (start_of setup.actions need.slot) refl h
    where
      by : (o : Option ℕ) → start_of setup.actions need.slot ≡ o → option_map_or (λ a. a == b) o false ≡ true → (not (lets_with f need Condition.Started) ≡ true) × (not (lets_with g need Condition.Started) ≡ false)
      by None e k = absurd (true≢false (sym k))
      by (Some c) e k =
          let same : c ≡ b = eqb-true c b k in
          (rw (e, same, was, not_blocked, sound.started need.slot) (and_false (not need.required)), rw (e, same, now) refl)
        where
          and_false : (t : Bool) → not (t && false) ≡ true
          and_false true = refl
          and_false false = refl
  released need Condition.Healthy h = absurd (true≢false (sym h))
  released need Condition.Completed h = absurd (true≢false (sym h))
  released need Condition.Running h = absurd (true≢false (sym h))

  not_released : (need : Need) (c : Condition) → waits_with need c ≡ false → not (lets_with g need c) ≡ not (lets_with f need c)
  not_released need Condition.Started h = ap not (joined need Condition.Started (by (start_of setup.actions need.slot) h))
    where
      by : (o : Option ℕ) → option_map_or (λ a. a == b) o false ≡ false → option_map_or (λ a. is_well (g.stands a)) o true ≡ option_map_or (λ a. is_well (f.stands a)) o true
      by None k = refl
      by (Some c) k = ap is_well (one.others c (eqb-false c b k))
  not_released need Condition.Healthy h = ap not (joined need Condition.Healthy (reported_as need.slot Condition.Healthy))
  not_released need Condition.Completed h = ap not (joined need Condition.Completed (reported_as need.slot Condition.Completed))
  not_released need Condition.Running h = ap not (joined need Condition.Running (reported_as need.slot Condition.Running))

  slots_fall : (a : ℕ) → counted (λ need. not (lets_by setup g blocked need)) (slot_needs setup.declared (kind_of setup.actions a)) + counted (waits_for_start setup b) (slot_needs setup.declared (kind_of setup.actions a))
      ≡ counted (λ need. not (lets_by setup f blocked need)) (slot_needs setup.declared (kind_of setup.actions a))
  slots_fall a = counted_fall (λ need. not (lets_by setup f blocked need)) (λ need. not (lets_by setup g blocked need)) (waits_for_start setup b) (slot_needs setup.declared (kind_of setup.actions a))
      (λ need h. released need need.condition h) (λ need h. not_released need need.condition h)

  pub lacks_fall : (a : ℕ) → open_needs setup g blocked a + released_by setup b a ≡ open_needs setup f blocked a
  lacks_fall a = let n = needs_fall a in let m = slots_fall a in omega (arith, n, m)

abbrev with_fresh : Actions → List ℕ → ℕ → ℕ → Actions
with_fresh rows lacks b at = record { states = set rows.states b (State.Well at); lacks = lacks }

-- an action ended well
pub rows_well : (setup : Setup) (f g : Facts) (journal more : List Entry) (rows : Actions) (lacks : List ℕ) (b at : ℕ) (reply : Reply) → b < length setup.actions → ChangesOne f g b
    → f.stands b ≡ Out → g.stands b ≡ Well reply → TellsWell more at reply → ((st : Standing) (s : State) → StandsAs journal st s → StandsAs more st s)
    → blocked_in rows b ≡ false → AreSound setup f → length lacks ≡ length rows.lacks → ((a : ℕ) → a < length setup.actions → get_or lacks a 0 + released_by setup b a ≡ lack_at rows a)
    → AreRows setup f journal rows → AreRows setup g more (record { states = set rows.states b (State.Well at); lacks = lacks })
rows_well setup f g journal more rows lacks b at reply l one was now tells kept not_blocked sound size fall are = record {
  size = grind (arith, common_steps, are.size);
  lacks_size = size ∙ are.lacks_size;
  each = λ a. on a (cases_eq a b);
  blocked = subst (λ (p : ℕ → Bool). AreBlocked setup g p) (sym same) (blocked_kept setup f g (blocked_in rows) b one (ap is_badly now ∙ sym (ap is_badly was)) (ap is_free now) not_blocked are.blocked);
  lacks = λ a m. let e = fall a m in let k = lacks_fall setup f g (blocked_in rows) b reply one was now not_blocked sound a in let h = are.lacks a m in
      let r : get_or lacks a 0 ≡ open_needs setup g (blocked_in rows) a = omega (arith, e, k, h) in r ∙ ap (λ (p : ℕ → Bool). open_needs setup g p a) (sym same);
}
  where
    new : State
    new = State.Well at

    inside : b < length rows.states
    inside = omega (arith, l, are.size)

    same : blocked_in (with_fresh rows lacks b at) ≡ blocked_in rows
    same = blocked_elsewhere rows b (State.Well at) inside refl not_blocked

    on : (a : ℕ) → (a ≡ b) ⊎ (a ≡ b → ⊥) → StandsAs more (g.stands a) (state_at (with_fresh rows lacks b at) a)
    on a (inl e) = subst (λ (x : ℕ). StandsAs more (g.stands x) (state_at (with_fresh rows lacks b at) x)) (sym e) (subst (λ (s : State). StandsAs more (g.stands b) s) (sym (state_there rows b (State.Well at) inside)) (reply, now, tells))
    on a (inr n) = subst (λ (s : State). StandsAs more (g.stands a) s) (sym (state_elsewhere rows a b (State.Well at) n)) (kept (g.stands a) (state_at rows a) (subst (λ (st : Standing). StandsAs journal st (state_at rows a)) (sym (one.others a n)) (are.each a)))
