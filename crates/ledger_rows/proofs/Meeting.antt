-- What changes where a report meets a condition.
use Rattle.std.proofs.Common.{◌≡◌, ◌⊎◌, ℕ, ◌+◌, ◌<◌, ◌≤◌, Bool, true, false, not, ◌&&◌, ◌||◌, ◌==◌, List, length, get_or, slice_get, Option, Some, None, refl, sym, ap, ◌∙◌, subst, inl, inr, arith}
use Rattle.std.proofs.lemmas.Bool.{and_parts, cases_lt, eqb-true, true≢false}
use Rattle.std.proofs.lemmas.Option.{slice_get_past}
use Rattle.std.specs.Prelude.{option_map}
use Rattle.engine_types.specs.declared.Action.{Action}
use Rattle.std.specs.Option.{option_map_or}
use Rattle.engine_types.specs.declared.Condition.{Condition}
use Rattle.engine_types.specs.declared.Entry.{Entry}
use Rattle.engine_types.specs.declared.Need.{Need}
use Rattle.run_model.specs.Conditions.{is_started}
use Rattle.run_model.specs.Journals.{Badly, Free, Out, Setup, Standing, Well, is_badly, is_free, is_well}
use Rattle.run_model.specs.Plans.{kind_of, needs_of, slot_needs, start_of}
use Rattle.ledger_rows.specs.ActionRows.{lack_at, state_at}
use Rattle.ledger_rows.specs.ActionRows.Values.{Actions}
use Rattle.ledger_rows.specs.Counts.{counted}
use Rattle.ledger_rows.specs.Facts.{AreBlocked, Facts, MeetsOne, asks_of, counts_by, has_cause, lets_by, lost_by, met_by, open_needs, same_condition, start_lost_by}
use Rattle.ledger_rows.specs.Rows.{AreRows, StandsAs, blocked_in, is_blocked_state}
use Rattle.ledger_rows.specs.declared.action_rows.State.{State}
use Rattle.ledger_rows.proofs.Changes.{cause_kept, counted_fall}

-- conditions that are told to be the same are
pub same_is : (d c : Condition) → same_condition d c ≡ true → d ≡ c
same_is Condition.Started Condition.Started h = refl
same_is Condition.Healthy Condition.Healthy h = refl
same_is Condition.Completed Condition.Completed h = refl
same_is Condition.Running Condition.Running h = refl
same_is Condition.Started Condition.Healthy h = absurd (true≢false (sym h))
same_is Condition.Started Condition.Completed h = absurd (true≢false (sym h))
same_is Condition.Started Condition.Running h = absurd (true≢false (sym h))
same_is Condition.Healthy Condition.Started h = absurd (true≢false (sym h))
same_is Condition.Healthy Condition.Completed h = absurd (true≢false (sym h))
same_is Condition.Healthy Condition.Running h = absurd (true≢false (sym h))
same_is Condition.Completed Condition.Started h = absurd (true≢false (sym h))
same_is Condition.Completed Condition.Healthy h = absurd (true≢false (sym h))
same_is Condition.Completed Condition.Running h = absurd (true≢false (sym h))
same_is Condition.Running Condition.Started h = absurd (true≢false (sym h))
same_is Condition.Running Condition.Healthy h = absurd (true≢false (sym h))
same_is Condition.Running Condition.Completed h = absurd (true≢false (sym h))

and_false : (t : Bool) → (t && false) ≡ false
and_false true = refl
and_false false = refl

-- what has not been met is not
pub unmet : (setup : Setup) (facts : Facts) (s : ℕ) (d : Condition) → is_started d ≡ false → facts.met s d ≡ false → met_by setup facts s d ≡ false
unmet setup facts s Condition.Started r h = absurd (true≢false r)
unmet setup facts s Condition.Running r h = ap (λ (t : Bool). not (facts.failed s Condition.Running) && t) h ∙ and_false (not (facts.failed s Condition.Running))
unmet setup facts s Condition.Healthy r h = ap (λ (t : Bool). not (facts.failed s Condition.Healthy) && t) h ∙ and_false (not (facts.failed s Condition.Healthy))
unmet setup facts s Condition.Completed r h = ap (λ (t : Bool). not (facts.failed s Condition.Completed) && t) h ∙ and_false (not (facts.failed s Condition.Completed))

-- what has failed is not met
pub unmet_failed : (setup : Setup) (facts : Facts) (s : ℕ) (d : Condition) → is_started d ≡ false → facts.failed s d ≡ true → met_by setup facts s d ≡ false
unmet_failed setup facts s Condition.Started r h = absurd (true≢false r)
unmet_failed setup facts s Condition.Running r h = ap (λ (t : Bool). not t && facts.met s Condition.Running) h
unmet_failed setup facts s Condition.Healthy r h = ap (λ (t : Bool). not t && facts.met s Condition.Healthy) h
unmet_failed setup facts s Condition.Completed r h = ap (λ (t : Bool). not t && facts.met s Condition.Completed) h

-- what was met and hasn't failed is met
pub is_met_now : (setup : Setup) (facts : Facts) (s : ℕ) (d : Condition) → is_started d ≡ false → facts.failed s d ≡ false → facts.met s d ≡ true → met_by setup facts s d ≡ true
is_met_now setup facts s Condition.Started r h k = absurd (true≢false r)
is_met_now setup facts s Condition.Running r h k = ap (λ (t : Bool). not t && facts.met s Condition.Running) h ∙ k
is_met_now setup facts s Condition.Healthy r h k = ap (λ (t : Bool). not t && facts.met s Condition.Healthy) h ∙ k
is_met_now setup facts s Condition.Completed r h k = ap (λ (t : Bool). not t && facts.met s Condition.Completed) h ∙ k

-- where the reports on a slot count, its start isn't lost
pub not_lost : (setup : Setup) (facts : Facts) (blocked : ℕ → Bool) (s : ℕ) → AreBlocked setup facts blocked → counts_by setup facts s ≡ true → start_lost_by setup facts blocked s ≡ false
not_lost setup facts blocked s are counts = by (start_of setup.actions s) counts
  where
    settled : (st : Standing) (b : Bool) (c : Bool) → is_well st ≡ true → b ≡ (is_free st && c) → (is_badly st || b) ≡ false
    settled (Well reply) b c h e = e
    settled Free b c h e = absurd (true≢false (sym h))
    settled Out b c h e = absurd (true≢false (sym h))
    settled Badly b c h e = absurd (true≢false (sym h))

    by : (o : Option ℕ) → option_map_or (λ a. is_well (facts.stands a)) o true ≡ true → option_map_or (lost_by facts blocked) o false ≡ false
    by None h = refl
    by (Some a) h = settled (facts.stands a) (blocked a) (has_cause setup facts blocked a) h (are.each a)

-- a need as it would be of a slot with a condition
abbrev pub lets_at : Setup → Facts → (ℕ → Bool) → Bool → ℕ → Condition → Bool
lets_at setup facts blocked r t d = met_by setup facts t d || (not r && (facts.failed t d || start_lost_by setup facts blocked t))

-- where nothing is met, failed or lost, a need lets nothing go
pub lets_nothing : (setup : Setup) (facts : Facts) (blocked : ℕ → Bool) (r : Bool) (s : ℕ) (c : Condition) → met_by setup facts s c ≡ false → facts.failed s c ≡ false → start_lost_by setup facts blocked s ≡ false
    → lets_at setup facts blocked r s c ≡ false
lets_nothing setup facts blocked r s c m f l = close (met_by setup facts s c) (not r) (facts.failed s c) (start_lost_by setup facts blocked s) m f l
  where
    close : (t u v w : Bool) → t ≡ false → v ≡ false → w ≡ false → (t || (u && (v || w))) ≡ false
    close false true false false h i j = refl
    close false false false false h i j = refl
    close true u v w h i j = absurd (true≢false h)
    close false u true w h i j = absurd (true≢false i)
    close false u false true h i j = absurd (true≢false j)

-- a need's own form is that one
pub asks_is : (s : ℕ) (c : Condition) (need : Need) → asks_of s c need ≡ true → (need.slot ≡ s) × (need.condition ≡ c)
asks_is s c need h = let p = and_parts (need.slot == s) (same_condition need.condition c) h in (eqb-true need.slot s p.0, same_is need.condition c p.1)

-- a need that asks is as one of that slot with that condition
pub asked_lets : (setup : Setup) (facts : Facts) (blocked : ℕ → Bool) (s : ℕ) (c : Condition) (need : Need) → asks_of s c need ≡ true → lets_by setup facts blocked need ≡ lets_at setup facts blocked need.required s c
asked_lets setup facts blocked s c need h = let p = asks_is s c need h in
    ap (λ (t : ℕ). lets_at setup facts blocked need.required t need.condition) p.0 ∙ ap (λ (d : Condition). lets_at setup facts blocked need.required s d) p.1

module _ (setup : Setup) (f g : Facts) (blocked : ℕ → Bool) (s : ℕ) (c : Condition) (one : MeetsOne f g s c) (later : is_started c ≡ false) (are : AreBlocked setup f blocked) (counts : counts_by setup f s ≡ true) where
  before : (need : Need) → asks_of s c need ≡ true → lets_by setup f blocked need ≡ false
  before need h = asked_lets setup f blocked s c need h
      ∙ lets_nothing setup f blocked need.required s c (unmet setup f s c later one.before) one.not_failed (not_lost setup f blocked s are counts)

  after : (need : Need) → asks_of s c need ≡ true → lets_by setup g blocked need ≡ true
  after need h = asked_lets setup g blocked s c need h
      ∙ ap (λ (t : Bool). t || (not need.required && (g.failed s c || start_lost_by setup g blocked s)))
      (is_met_now setup g s c later (ap (λ (p : ℕ → Condition → Bool). p s c) one.failed ∙ one.not_failed) one.now)

  lost_same : (t : ℕ) → start_lost_by setup g blocked t ≡ start_lost_by setup f blocked t
  lost_same t = ap (λ (p : ℕ → Standing). option_map_or (λ a. is_badly (p a) || blocked a) (start_of setup.actions t) false) one.stands

  met_same : (t : ℕ) (d : Condition) → ((t == s) && same_condition d c) ≡ false → met_by setup g t d ≡ met_by setup f t d
  met_same t Condition.Started h = ap (λ (p : ℕ → Standing). option_map_or (λ a. is_well (p a)) (start_of setup.actions t) true) one.stands
  met_same t Condition.Healthy h = ap (λ (p : ℕ → Condition → Bool). not (p t Condition.Healthy) && g.met t Condition.Healthy) one.failed ∙ ap (λ (u : Bool). not (f.failed t Condition.Healthy) && u) (one.others t Condition.Healthy h refl)
  met_same t Condition.Completed h = ap (λ (p : ℕ → Condition → Bool). not (p t Condition.Completed) && g.met t Condition.Completed) one.failed ∙ ap (λ (u : Bool). not (f.failed t Condition.Completed) && u) (one.others t Condition.Completed h refl)
  met_same t Condition.Running h = ap (λ (p : ℕ → Condition → Bool). not (p t Condition.Running) && g.met t Condition.Running) one.failed ∙ ap (λ (u : Bool). not (f.failed t Condition.Running) && u) (one.others t Condition.Running h refl)

  other : (need : Need) → asks_of s c need ≡ false → lets_by setup g blocked need ≡ lets_by setup f blocked need
  other need h =
      ap (λ (t : Bool). t || (not need.required && (g.failed need.slot need.condition || start_lost_by setup g blocked need.slot))) (met_same need.slot need.condition h)
      ∙ ap (λ (p : ℕ → Condition → Bool). met_by setup f need.slot need.condition || (not need.required && (p need.slot need.condition || start_lost_by setup g blocked need.slot))) one.failed
      ∙ ap (λ (t : Bool). met_by setup f need.slot need.condition || (not need.required && (f.failed need.slot need.condition || t))) (lost_same need.slot)

  -- so many needs let an action go by it
  pub lacks_met : (a : ℕ) → open_needs setup g blocked a + counted (asks_of s c) (slot_needs setup.declared (kind_of setup.actions a)) ≡ open_needs setup f blocked a
  lacks_met a =
      let m = counted_fall (λ need. not (lets_by setup f blocked need)) (λ need. not (lets_by setup g blocked need)) (asks_of s c) (slot_needs setup.declared (kind_of setup.actions a))
      (λ need h. (ap not (before need h), ap not (after need h))) (λ need h. ap not (other need h)) in
      let n : counted (λ b. not (is_well (g.stands b))) (needs_of setup.actions a) ≡ counted (λ b. not (is_well (f.stands b))) (needs_of setup.actions a)
      = ap (λ (p : ℕ → Standing). counted (λ b. not (is_well (p b))) (needs_of setup.actions a)) one.stands in
      omega (arith, m, n)

  -- what is blocked stays so
  pub blocked_met : AreBlocked setup g blocked
  blocked_met = record {
    each = λ a. are.each a
        ∙ ap (λ (p : ℕ → Standing). is_free (p a) && has_cause setup f blocked a) (sym one.stands)
        ∙ ap (λ (t : Bool). is_free (g.stands a) && t) (sym (cause_kept setup f g blocked a (λ b. ap (λ (p : ℕ → Standing). is_badly (p b)) one.stands) one.failed));
  }

-- a condition is met: the rows with so many fewer needs say it
pub rows_met : (setup : Setup) (f g : Facts) (journal : List Entry) (rows new : Actions) (s : ℕ) (c : Condition) → MeetsOne f g s c → is_started c ≡ false → counts_by setup f s ≡ true
    → new.states ≡ rows.states → length new.lacks ≡ length rows.lacks
    → ((a : ℕ) → a < length setup.actions → lack_at new a + counted (asks_of s c) (slot_needs setup.declared (kind_of setup.actions a)) ≡ lack_at rows a)
    → AreRows setup f journal rows → AreRows setup g journal new
rows_met setup f g journal rows new s c one later counts states size fall are = record {
  size = ap length states ∙ are.size;
  lacks_size = size ∙ are.lacks_size;
  each = λ a. subst (λ (st : Standing). StandsAs journal st (state_at new a)) (ap (λ (p : ℕ → Standing). p a) (sym one.stands))
      (subst (λ (ss : List State). StandsAs journal (f.stands a) (get_or ss a State.Free)) (sym states) (are.each a));
  blocked = subst (λ (p : ℕ → Bool). AreBlocked setup g p) (sym same) (blocked_met setup f g (blocked_in rows) s c one later are.blocked counts);
  lacks = λ a l. let e = fall a l in let h = are.lacks a l in let k = lacks_met setup f g (blocked_in rows) s c one later are.blocked counts a in
      let r : lack_at new a ≡ open_needs setup g (blocked_in rows) a = omega (arith, e, h, k) in r ∙ ap (λ (p : ℕ → Bool). open_needs setup g p a) (sym same);
}
  where
    same : blocked_in new ≡ blocked_in rows
    same = ap (λ (ss : List State). λ (a : ℕ). is_blocked_state (get_or ss a State.Free)) states

-- a condition that was met is taken back: the rows with so many more needs say it
pub rows_unmet : (setup : Setup) (f g : Facts) (journal : List Entry) (rows new : Actions) (s : ℕ) (c : Condition) → MeetsOne f g s c → is_started c ≡ false → counts_by setup f s ≡ true
    → new.states ≡ rows.states → length new.lacks ≡ length rows.lacks
    → ((a : ℕ) → a < length setup.actions → lack_at rows a + counted (asks_of s c) (slot_needs setup.declared (kind_of setup.actions a)) ≡ lack_at new a)
    → AreRows setup g journal rows → AreRows setup f journal new
rows_unmet setup f g journal rows new s c one later counts states size rise are = record {
  size = ap length states ∙ are.size;
  lacks_size = size ∙ are.lacks_size;
  each = λ a. subst (λ (st : Standing). StandsAs journal st (state_at new a)) (ap (λ (p : ℕ → Standing). p a) one.stands)
      (subst (λ (ss : List State). StandsAs journal (g.stands a) (get_or ss a State.Free)) (sym states) (are.each a));
  blocked = subst (λ (p : ℕ → Bool). AreBlocked setup f p) (sym same) was;
  lacks = λ a l. let e = rise a l in let h = are.lacks a l in let k = lacks_met setup f g (blocked_in rows) s c one later was counts a in
      let r : lack_at new a ≡ open_needs setup f (blocked_in rows) a = omega (arith, e, h, k) in r ∙ ap (λ (p : ℕ → Bool). open_needs setup f p a) (sym same);
}
  where
    same : blocked_in new ≡ blocked_in rows
    same = ap (λ (ss : List State). λ (a : ℕ). is_blocked_state (get_or ss a State.Free)) states

    was : AreBlocked setup f (blocked_in rows)
    was = record {
      each = λ a. are.blocked.each a
          ∙ ap (λ (p : ℕ → Standing). is_free (p a) && has_cause setup g (blocked_in rows) a) one.stands
          ∙ ap (λ (t : Bool). is_free (f.stands a) && t) (cause_kept setup f g (blocked_in rows) a (λ b. ap (λ (p : ℕ → Standing). is_badly (p b)) one.stands) one.failed);
    }

-- an action that isn't there asks for nothing
pub none_asked : (setup : Setup) (q : Need → Bool) (a : ℕ) → length setup.actions ≤ a → counted q (slot_needs setup.declared (kind_of setup.actions a)) ≡ 0
none_asked setup q a l = by (slice_get setup.actions a) (slice_get_past setup.actions a l)
  where
    by : (o : Option Action) → o ≡ None → counted q (slot_needs setup.declared (option_map (λ action. action.kind) o)) ≡ 0
    by None e = refl
    by (Some action) e = absurd (cc e)

-- as many needs are let go by it as there are at most
pub met_kept : (setup : Setup) (f g : Facts) (journal : List Entry) (rows : Actions) (s : ℕ) (c : Condition) → MeetsOne f g s c → is_started c ≡ false → counts_by setup f s ≡ true → AreRows setup f journal rows
    → (a : ℕ) → counted (asks_of s c) (slot_needs setup.declared (kind_of setup.actions a)) ≤ lack_at rows a
met_kept setup f g journal rows s c one later counts are a = on (cases_lt a (length setup.actions))
  where
    on : (a < length setup.actions) ⊎ (length setup.actions ≤ a) → counted (asks_of s c) (slot_needs setup.declared (kind_of setup.actions a)) ≤ lack_at rows a
    on (inl l) = let k = lacks_met setup f g (blocked_in rows) s c one later are.blocked counts a in let h = are.lacks a l in omega (arith, k, h)
    on (inr l) = let e = none_asked setup (asks_of s c) a l in omega (arith, e)
