-- What changes where a report fails a condition that wasn't met.
use Rattle.std.proofs.Common.{◌≡◌, ◌⊎◌, ℕ, ◌+◌, ◌<◌, ◌≤◌, Bool, true, false, not, ◌&&◌, ◌||◌, ◌==◌, List, length, get_or, Option, if◌then◌else◌, refl, sym, ap, ◌∙◌, subst, inl, inr, arith}
use Rattle.std.proofs.lemmas.Bool.{and_parts, cases_lt, eqb-true, true≢false}
use Rattle.std.specs.List.{list_any}
use Rattle.std.specs.Option.{option_map_or}
use Rattle.engine_types.specs.declared.Condition.{Condition}
use Rattle.engine_types.specs.declared.Entry.{Entry}
use Rattle.engine_types.specs.declared.Need.{Need}
use Rattle.run_model.specs.Conditions.{is_started}
use Rattle.run_model.specs.Journals.{Setup, Standing, is_badly, is_free, is_well}
use Rattle.run_model.specs.Plans.{kind_of, needs_of, slot_needs, start_of}
use Rattle.ledger_rows.specs.ActionRows.{lack_at, state_at}
use Rattle.ledger_rows.specs.ActionRows.Values.{Actions}
use Rattle.ledger_rows.specs.Counts.{counted, is_listed}
use Rattle.ledger_rows.specs.Facts.{AreBlocked, Facts, FailsOne, asks_of, cause_by, counts_by, is_asking, lacks_by, lets_by, lets_where, lost_by, met_by, open_needs, prefers_of, requires_of, same_condition, start_among}
use Rattle.ledger_rows.specs.Rows.{AreLosing, AreRows, Blocks, StandsAs, blocked_in, carried_on, is_blocked_state, is_free_state, is_pending_in}
use Rattle.ledger_rows.specs.declared.action_rows.State.{State}
use Rattle.ledger_rows.proofs.Changes.{counted_fall}
use Rattle.ledger_rows.proofs.Losing.{any_split}
use Rattle.ledger_rows.proofs.Meeting.{asked_lets, asks_is, lets_at, lets_nothing, none_asked, not_lost, unmet, unmet_failed}
use Rattle.ledger_rows.proofs.Steps.{functions_same}

module _ (setup : Setup) (f g : Facts) (s : ℕ) (c : Condition) (one : FailsOne f g s c) (later : is_started c ≡ false) where
  failed_now : (t : ℕ) (d : Condition) → g.failed t d ≡ (f.failed t d || ((t == s) && same_condition d c))
  failed_now t d = on ((t == s) && same_condition d c) refl
    where
      or_true : (u : Bool) → true ≡ (u || true)
      or_true true = refl
      or_true false = refl

      or_false : (u : Bool) → u ≡ (u || false)
      or_false true = refl
      or_false false = refl

      on : (u : Bool) → ((t == s) && same_condition d c) ≡ u → g.failed t d ≡ (f.failed t d || u)
      on true h = let p = and_parts (t == s) (same_condition d c) h in
          ap (λ (x : ℕ). g.failed x d) (eqb-true t s p.0) ∙ ap (λ (x : Condition). g.failed s x) (Rattle.ledger_rows.proofs.Meeting.same_is d c p.1) ∙ one.now ∙ or_true (f.failed t d)
      on false h = one.others t d h ∙ or_false (f.failed t d)

  -- the causes are those before, and that one
  pub cause_failed : (lost : ℕ → Bool) (a : ℕ) → cause_by setup g lost a ≡ (cause_by setup f lost a || is_asking setup s c a)
  cause_failed lost a =
      ap (λ (t : Bool). list_any lost (needs_of setup.actions a) || t)
      (any_split (λ need. need.required && (g.failed need.slot need.condition || start_among setup lost need.slot))
      (λ need. need.required && (f.failed need.slot need.condition || start_among setup lost need.slot)) (requires_of s c) (slot_needs setup.declared (kind_of setup.actions a))
      (λ need. ap (λ (t : Bool). need.required && (t || start_among setup lost need.slot)) (failed_now need.slot need.condition)
      ∙ spread need.required (f.failed need.slot need.condition) (asks_of s c need) (start_among setup lost need.slot)))
      ∙ assoc (list_any lost (needs_of setup.actions a)) _ _
    where
      spread : (t u v w : Bool) → (t && ((u || v) || w)) ≡ ((t && (u || w)) || (t && v))
      spread false u v w = refl
      spread true true v w = refl
      spread true false true true = refl
      spread true false true false = refl
      spread true false false true = refl
      spread true false false false = refl

      assoc : (t u v : Bool) → (t || (u || v)) ≡ ((t || u) || v)
      assoc true u v = refl
      assoc false u v = refl

  module _ (blocked : ℕ → Bool) (are : AreBlocked setup f blocked) (counts : counts_by setup f s ≡ true) where
    before : (need : Need) → asks_of s c need ≡ true → lets_by setup f blocked need ≡ false
    before need h = asked_lets setup f blocked s c need h ∙ lets_nothing setup f blocked need.required s c (unmet setup f s c later one.not_met) one.before (not_lost setup f blocked s are counts)

    -- a need with these for the lost ones
    abbrev lets_now : Need → Bool
    lets_now need = lets_where setup g (lost_by f blocked) need

    now_at : (need : Need) → asks_of s c need ≡ true → lets_now need ≡ not need.required
    now_at need h = let p = asks_is s c need h in
        ap (λ (t : ℕ). met_by setup g t need.condition || (not need.required && (g.failed t need.condition || start_among setup (lost_by f blocked) t))) p.0
        ∙ ap (λ (d : Condition). met_by setup g s d || (not need.required && (g.failed s d || start_among setup (lost_by f blocked) s))) p.1
        ∙ close (met_by setup g s c) (not need.required) (g.failed s c) (start_among setup (lost_by f blocked) s) (unmet_failed setup g s c later one.now) one.now
      where
        close : (t u v w : Bool) → t ≡ false → v ≡ true → (t || (u && (v || w))) ≡ u
        close false true true w h i = refl
        close false false true w h i = refl
        close true u v w h i = absurd (true≢false h)
        close false u false w h i = absurd (true≢false (sym i))

    met_same : (t : ℕ) (d : Condition) → ((t == s) && same_condition d c) ≡ false → met_by setup g t d ≡ met_by setup f t d
    met_same t Condition.Started h = ap (λ (p : ℕ → Standing). option_map_or (λ a. is_well (p a)) (start_of setup.actions t) true) one.stands
    met_same t Condition.Healthy h = ap (λ (p : ℕ → Condition → Bool). not (g.failed t Condition.Healthy) && p t Condition.Healthy) one.met ∙ ap (λ (u : Bool). not u && f.met t Condition.Healthy) (one.others t Condition.Healthy h)
    met_same t Condition.Completed h = ap (λ (p : ℕ → Condition → Bool). not (g.failed t Condition.Completed) && p t Condition.Completed) one.met ∙ ap (λ (u : Bool). not u && f.met t Condition.Completed) (one.others t Condition.Completed h)
    met_same t Condition.Running h = ap (λ (p : ℕ → Condition → Bool). not (g.failed t Condition.Running) && p t Condition.Running) one.met ∙ ap (λ (u : Bool). not u && f.met t Condition.Running) (one.others t Condition.Running h)

    other_same : (need : Need) → asks_of s c need ≡ false → lets_now need ≡ lets_by setup f blocked need
    other_same need h =
        ap (λ (t : Bool). t || (not need.required && (g.failed need.slot need.condition || start_among setup (lost_by f blocked) need.slot))) (met_same need.slot need.condition h)
        ∙ ap (λ (t : Bool). met_by setup f need.slot need.condition || (not need.required && (t || start_among setup (lost_by f blocked) need.slot))) (one.others need.slot need.condition h)

    when : (need : Need) → prefers_of s c need ≡ true → (not (lets_by setup f blocked need) ≡ true) × (not (lets_now need) ≡ false)
    when need h = let p = and_parts (not need.required) (asks_of s c need) h in (ap not (before need p.1), ap not (now_at need p.1 ∙ p.0))

    other : (need : Need) → prefers_of s c need ≡ false → not (lets_now need) ≡ not (lets_by setup f blocked need)
    other need h = ap not (on (asks_of s c need) refl)
      where
        required_is : (t u : Bool) → (not t && u) ≡ false → u ≡ true → not t ≡ false
        required_is true u e k = refl
        required_is false true e k = e
        required_is false false e k = absurd (true≢false (sym k))

        on : (t : Bool) → asks_of s c need ≡ t → lets_now need ≡ lets_by setup f blocked need
        on true k = now_at need k ∙ required_is need.required (asks_of s c need) h k ∙ sym (before need k)
        on false k = other_same need k

    -- so many needs let an action go by it
    pub lacks_failed : (a : ℕ) → lacks_by setup g (lost_by f blocked) a + counted (prefers_of s c) (slot_needs setup.declared (kind_of setup.actions a)) ≡ open_needs setup f blocked a
    lacks_failed a =
        let m = counted_fall (λ need. not (lets_by setup f blocked need)) (λ need. not (lets_now need)) (prefers_of s c) (slot_needs setup.declared (kind_of setup.actions a)) when other in
        let n : counted (λ b. not (is_well (g.stands b))) (needs_of setup.actions a) ≡ counted (λ b. not (is_well (f.stands b))) (needs_of setup.actions a)
        = ap (λ (p : ℕ → Standing). counted (λ b. not (is_well (p b))) (needs_of setup.actions a)) one.stands in
        omega (arith, m, n)

-- as many needs are let go by it as there are at most
pub failed_kept : (setup : Setup) (f g : Facts) (journal : List Entry) (rows : Actions) (s : ℕ) (c : Condition) → FailsOne f g s c → is_started c ≡ false → counts_by setup f s ≡ true → AreRows setup f journal rows
    → (a : ℕ) → counted (prefers_of s c) (slot_needs setup.declared (kind_of setup.actions a)) ≤ lack_at rows a
failed_kept setup f g journal rows s c one later counts are a = on (cases_lt a (length setup.actions))
  where
    on : (a < length setup.actions) ⊎ (length setup.actions ≤ a) → counted (prefers_of s c) (slot_needs setup.declared (kind_of setup.actions a)) ≤ lack_at rows a
    on (inl l) = let k = lacks_failed setup f g s c one later (blocked_in rows) are.blocked counts a in let h = are.lacks a l in omega (arith, k, h)
    on (inr l) = let e = none_asked setup (prefers_of s c) a l in omega (arith, e)

-- a condition fails: the starts that require it are blocked, and their loss is to be carried on
module _ (setup : Setup) (f g : Facts) (journal : List Entry) (rows new : Actions) (waiting : List (Option ℕ)) (s : ℕ) (c : Condition) (one : FailsOne f g s c) (later : is_started c ≡ false)
    (counts : counts_by setup f s ≡ true) (are : AreRows setup f journal rows)
    (size : length new.states ≡ length rows.states) (lacks_size : length new.lacks ≡ length rows.lacks) (room : length waiting ≡ length rows.states)
    (states : (a : ℕ) → state_at new a ≡ (if (is_free_state (state_at rows a) && is_asking setup s c a) then State.Blocked else state_at rows a))
    (waits : (a : ℕ) → is_pending_in waiting a ≡ (is_free_state (state_at rows a) && is_asking setup s c a))
    (fall : (a : ℕ) → lack_at new a + counted (prefers_of s c) (slot_needs setup.declared (kind_of setup.actions a)) ≡ lack_at rows a) where
  abbrev fresh : ℕ → Bool
  fresh a = is_free_state (state_at rows a) && is_asking setup s c a

  -- by how an action stands: whether it is free or blocked, and whether it is lost
  record Marked (st : Standing) (t : State) : Type 0 where
    free : is_free st ≡ (is_free_state t || is_blocked_state t)
    not_both : is_free_state t ≡ true → (is_badly st || is_blocked_state t) ≡ false

  marked : (st : Standing) (t : State) → StandsAs journal st t → Marked st t
  marked st State.Free h = rw h (record { free = refl; not_both = λ k. refl })
  marked st State.Blocked h = rw h (record { free = refl; not_both = λ k. absurd (true≢false (sym k)) })
  marked st State.Out h = rw h (record { free = refl; not_both = λ k. absurd (true≢false (sym k)) })
  marked st (State.Well at) h = rw h.1 (record { free = refl; not_both = λ k. absurd (true≢false (sym k)) })
  marked st State.Badly h = rw h (record { free = refl; not_both = λ k. absurd (true≢false (sym k)) })

  blocked_now : (a : ℕ) → blocked_in new a ≡ (blocked_in rows a || fresh a)
  blocked_now a = ap is_blocked_state (states a) ∙ by (state_at rows a) (is_asking setup s c a)
    where
      by : (t : State) (u : Bool) → is_blocked_state (if (is_free_state t && u) then State.Blocked else t) ≡ (is_blocked_state t || (is_free_state t && u))
      by State.Free true = refl
      by State.Free false = refl
      by State.Blocked u = refl
      by State.Out u = refl
      by (State.Well at) u = refl
      by State.Badly u = refl

  stands_same : (a : ℕ) → g.stands a ≡ f.stands a
  stands_same a = ap (λ (p : ℕ → Standing). p a) one.stands

  done_now : (a : ℕ) → carried_on g new waiting a ≡ lost_by f (blocked_in rows) a
  done_now a =
      ap (λ (st : Standing). (is_badly st || blocked_in new a) && not (is_pending_in waiting a)) (stands_same a)
      ∙ ap (λ (t : Bool). (is_badly (f.stands a) || t) && not (is_pending_in waiting a)) (blocked_now a)
      ∙ ap (λ (t : Bool). (is_badly (f.stands a) || (blocked_in rows a || fresh a)) && not t) (waits a)
      ∙ by (is_badly (f.stands a)) (blocked_in rows a) (is_free_state (state_at rows a)) (is_asking setup s c a) (marked (f.stands a) (state_at rows a) (are.each a)).not_both
    where
      by : (b k t u : Bool) → (t ≡ true → (b || k) ≡ false) → ((b || (k || (t && u))) && not (t && u)) ≡ (b || k)
      by b k true true h = and_false (b || (k || true)) ∙ sym (h refl)
        where
          and_false : (x : Bool) → (x && false) ≡ false
          and_false true = refl
          and_false false = refl
      by true k true false h = refl
      by false true true false h = refl
      by false false true false h = refl
      by true k false u h = refl
      by false true false u h = refl
      by false false false u h = refl

  done_same : carried_on g new waiting ≡ lost_by f (blocked_in rows)
  done_same = functions_same (carried_on g new waiting) (lost_by f (blocked_in rows)) done_now

  pub failing_on : AreLosing setup g journal new waiting
  failing_on = record {
    size = size ∙ are.size;
    lacks_size = lacks_size ∙ are.lacks_size;
    pending_size = room ∙ are.size;
    each = λ a. subst (λ (st : Standing). StandsAs journal st (state_at new a)) (sym (stands_same a))
        (subst (λ (t : State). StandsAs journal (f.stands a) t) (sym (states a)) (each_by (f.stands a) (state_at rows a) (is_asking setup s c a) (are.each a)));
    lost = λ a h. ap (λ (t : Bool). is_badly (g.stands a) || t) (blocked_now a) ∙ widen (is_badly (g.stands a)) (blocked_in rows a) (fresh a) (sym (waits a) ∙ h);
    blocked = λ a. blocked_now a ∙ blocked_by a
        ∙ ap (λ (st : Standing). is_free st && (cause_by setup f (lost_by f (blocked_in rows)) a || is_asking setup s c a)) (sym (stands_same a))
        ∙ ap (λ (t : Bool). is_free (g.stands a) && t) (sym (cause_failed setup f g s c one later (lost_by f (blocked_in rows)) a))
        ∙ ap (λ (p : ℕ → Bool). is_free (g.stands a) && cause_by setup g p a) (sym done_same);
    lacks = λ a l. let e = fall a in let k = are.lacks a l in let m = lacks_failed setup f g s c one later (blocked_in rows) are.blocked counts a in
        let r : lack_at new a ≡ lacks_by setup g (lost_by f (blocked_in rows)) a = omega (arith, e, k, m) in r ∙ ap (λ (p : ℕ → Bool). lacks_by setup g p a) (sym done_same);
  }
    where
      each_by : (st : Standing) (t : State) (u : Bool) → StandsAs journal st t → StandsAs journal st (if (is_free_state t && u) then State.Blocked else t)
      each_by st State.Free true h = h
      each_by st State.Free false h = h
      each_by st State.Blocked u h = h
      each_by st State.Out u h = h
      each_by st (State.Well at) u h = h
      each_by st State.Badly u h = h

      widen : (b k u : Bool) → u ≡ true → (b || (k || u)) ≡ true
      widen true k u e = refl
      widen false true u e = refl
      widen false false u e = e

      blocked_by : (a : ℕ) → (blocked_in rows a || fresh a) ≡ (is_free (f.stands a) && (cause_by setup f (lost_by f (blocked_in rows)) a || is_asking setup s c a))
      blocked_by a = by (is_free_state (state_at rows a)) (blocked_in rows a) (is_free (f.stands a)) (cause_by setup f (lost_by f (blocked_in rows)) a) (is_asking setup s c a)
          (marked (f.stands a) (state_at rows a) (are.each a)).free (are.blocked.each a)
        where
          by : (t k u v w : Bool) → u ≡ (t || k) → k ≡ (u && v) → (k || (t && w)) ≡ (u && (v || w))
          by t true true true w e h = refl
          by t true true false w e h = absurd (true≢false h)
          by t true false v w e h = absurd (true≢false h)
          by true false true false w e h = refl
          by true false true true w e h = absurd (true≢false (sym h))
          by true false false v w e h = absurd (true≢false (sym e))
          by false false false v w e h = refl
          by false false true v w e h = absurd (true≢false e)

-- as the loops leave it
pub fails_by : (setup : Setup) (f g : Facts) (journal : List Entry) (rows middle new : Actions) (pending waiting : List (Option ℕ)) (s : ℕ) (c : Condition) (required optional : List ℕ)
    → FailsOne f g s c → is_started c ≡ false → counts_by setup f s ≡ true → AreRows setup f journal rows
    → ((a : ℕ) → is_listed required a ≡ is_asking setup s c a)
    → ((a : ℕ) → counted (λ b. b == a) optional ≡ counted (prefers_of s c) (slot_needs setup.declared (kind_of setup.actions a)))
    → ((a : ℕ) → is_pending_in pending a ≡ false) → length pending ≡ length rows.states
    → middle.states ≡ rows.states → length middle.lacks ≡ length rows.lacks → ((a : ℕ) → lack_at middle a + counted (λ b. b == a) optional ≡ lack_at rows a)
    → Blocks required middle new pending waiting → AreLosing setup g journal new waiting
fails_by setup f g journal rows middle new pending waiting s c required optional one later counts are req pref none room states size fell blocks =
    failing_on setup f g journal rows new waiting s c one later counts are (blocks.size ∙ ap length states) (ap length blocks.lacks_are ∙ size) (blocks.pending_size ∙ room)
    (λ a. blocks.states a
    ∙ ap (λ (t : State). if (is_free_state t && is_listed required a) then State.Blocked else t) (ap (λ (ts : List State). get_or ts a State.Free) states)
    ∙ ap (λ (t : Bool). if (is_free_state (state_at rows a) && t) then State.Blocked else state_at rows a) (req a))
    (λ a. blocks.waits a
    ∙ ap (λ (t : Bool). t || (is_free_state (state_at middle a) && is_listed required a)) (none a)
    ∙ ap (λ (t : State). is_free_state t && is_listed required a) (ap (λ (ts : List State). get_or ts a State.Free) states)
    ∙ ap (λ (t : Bool). is_free_state (state_at rows a) && t) (req a))
    (λ a. let e = fell a in let k = pref a in let m : lack_at new a ≡ lack_at middle a = ap (λ (ns : List ℕ). get_or ns a 0) blocks.lacks_are in omega (arith, e, k, m))
