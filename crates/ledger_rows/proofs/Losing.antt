-- What changes where one more action is lost.
use Rattle.std.proofs.Common.{◌≡◌, ◌⊎◌, ℕ, ◌+◌, ◌≤◌, Bool, true, false, cond, not, ◌&&◌, ◌||◌, ◌==◌, List, [], ◌∷◌, length, get_or, Option, Some, None, if◌then◌else◌, refl, sym, ap, ◌∙◌, subst, inl, inr, arith}
use Rattle.std.proofs.lemmas.Bool.{and_parts, cases_eq, eq-eqb, eqb-true, true≢false}
use Rattle.std.specs.List.{list_any}
use Rattle.std.specs.Option.{option_map_or}
use Rattle.engine_types.specs.declared.Condition.{Condition}
use Rattle.engine_types.specs.declared.Entry.{Entry}
use Rattle.engine_types.specs.declared.Need.{Need}
use Rattle.run_model.specs.Journals.{Badly, Out, Setup, Standing, is_badly, is_free, is_well}
use Rattle.run_model.specs.Plans.{kind_of, needs_of, slot_needs, start_of}
use Rattle.ledger_rows.specs.Facts.{AreSound, Facts, cause_by, counts_by, frees, has_cause, lacks_by, lets_where, lost_by, met_by, open_needs, start_among, stops}
use Rattle.ledger_rows.specs.Counts.{counted}
use Rattle.ledger_rows.specs.ActionRows.{state_at}
use Rattle.ledger_rows.specs.ActionRows.Values.{Actions}
use Rattle.ledger_rows.specs.Rows.{AreLosing, AreRows, CarriesOn, StandsAs, blocked_in, carried_on, is_blocked_state, is_free_state, is_pending_in}
use Rattle.ledger_rows.specs.declared.action_rows.State.{State}
use Rattle.ledger_rows.proofs.Changes.{counted_fall}
use Rattle.ledger_rows.proofs.Steps.{functions_same}

-- the forms are the same
pub cause_is : (setup : Setup) (facts : Facts) (blocked : ℕ → Bool) (a : ℕ) → has_cause setup facts blocked a ≡ cause_by setup facts (lost_by facts blocked) a
cause_is setup facts blocked a = refl

pub lacks_is : (setup : Setup) (facts : Facts) (blocked : ℕ → Bool) (a : ℕ) → open_needs setup facts blocked a ≡ lacks_by setup facts (lost_by facts blocked) a
lacks_is setup facts blocked a = refl

pub any_split : {X : Type 0} (p q r : X → Bool) (xs : List X) → ((x : X) → p x ≡ (q x || r x)) → list_any p xs ≡ (list_any q xs || list_any r xs)
any_split p q r [] each = refl
any_split p q r (x ∷ xs) each = ap (λ (t : Bool). t || list_any p xs) (each x) ∙ ap (λ (t : Bool). (q x || r x) || t) (any_split p q r xs each) ∙ on (q x) (r x) (list_any q xs) (list_any r xs)
  where
    on : (t u v w : Bool) → ((t || u) || (v || w)) ≡ ((t || v) || (u || w))
    on true u v w = refl
    on false true true w = refl
    on false true false w = refl
    on false false v w = refl

module _ (setup : Setup) (facts : Facts) (lost more : ℕ → Bool) (x : ℕ) (one : (b : ℕ) → more b ≡ (lost b || (b == x))) where
  start_more : (s : ℕ) → start_among setup more s ≡ (start_among setup lost s || start_among setup (λ b. b == x) s)
  start_more s = by (start_of setup.actions s)
    where
      by : (o : Option ℕ) → option_map_or more o false ≡ (option_map_or lost o false || option_map_or (λ b. b == x) o false)
      by None = refl
      by (Some b) = one b

  -- the causes are those before, and that one
  pub cause_more : (a : ℕ) → cause_by setup facts more a ≡ (cause_by setup facts lost a || stops setup x a)
  cause_more a =
      ap (λ (t : Bool). t || list_any (λ need. need.required && (facts.failed need.slot need.condition || start_among setup more need.slot)) needs)
      (any_split more lost (λ b. b == x) (needs_of setup.actions a) one)
      ∙ ap (λ (t : Bool). (list_any lost (needs_of setup.actions a) || list_any (λ b. b == x) (needs_of setup.actions a)) || t)
      (any_split (λ need. need.required && (facts.failed need.slot need.condition || start_among setup more need.slot))
      (λ need. need.required && (facts.failed need.slot need.condition || start_among setup lost need.slot)) (λ need. need.required && start_among setup (λ b. b == x) need.slot) needs
      (λ need. ap (λ (t : Bool). need.required && (facts.failed need.slot need.condition || t)) (start_more need.slot) ∙ spread need.required (facts.failed need.slot need.condition) _ _))
      ∙ swap (list_any lost (needs_of setup.actions a)) (list_any (λ b. b == x) (needs_of setup.actions a)) _ _
    where
      needs : List Need
      needs = slot_needs setup.declared (kind_of setup.actions a)

      spread : (t u v w : Bool) → (t && (u || (v || w))) ≡ ((t && (u || v)) || (t && w))
      spread false u v w = refl
      spread true true v w = refl
      spread true false v w = refl

      swap : (t u v w : Bool) → ((t || u) || (v || w)) ≡ ((t || v) || (u || w))
      swap true u v w = refl
      swap false true true w = refl
      swap false true false w = refl
      swap false false v w = refl

  module _ (sound : AreSound setup facts) (not_well : is_well (facts.stands x) ≡ false) (not_lost : lost x ≡ false) where
    abbrev waits : Need → Bool
    waits need = not need.required && start_among setup (λ b. b == x) need.slot

    no_count : (s : ℕ) (o : Option ℕ) → option_map_or (λ b. b == x) o false ≡ true → (option_map_or (λ b. is_well (facts.stands b)) o true ≡ false) × (option_map_or lost o false ≡ false) × (option_map_or more o false ≡ true)
    no_count s None e = absurd (true≢false (sym e))
    no_count s (Some b) e = let same : b ≡ x = eqb-true b x e in (rw same not_well, rw same not_lost, rw (one b, e) (or_true (lost b)))
      where
        or_true : (t : Bool) → (t || true) ≡ true
        or_true true = refl
        or_true false = refl

    lets_now : (need : Need) (c : Condition) → (not need.required && start_among setup (λ b. b == x) need.slot) ≡ true
        → (not (met_by setup facts need.slot c || (not need.required && (facts.failed need.slot c || start_among setup lost need.slot))) ≡ true)
        × (not (met_by setup facts need.slot c || (not need.required && (facts.failed need.slot c || start_among setup more need.slot))) ≡ false)
    lets_now need c h = (before, after)
      where
        parts : (not need.required ≡ true) × (start_among setup (λ b. b == x) need.slot ≡ true)
        parts = and_parts (not need.required) (start_among setup (λ b. b == x) need.slot) h

        none : (counts_by setup facts need.slot ≡ false) × (start_among setup lost need.slot ≡ false) × (start_among setup more need.slot ≡ true)
        none = no_count need.slot (start_of setup.actions need.slot) parts.1

        not_failed : (t : Bool) → facts.failed need.slot c ≡ t → t ≡ false
        not_failed false k = refl
        not_failed true k = absurd (true≢false (sym (sound.failed need.slot c k) ∙ none.0))

        not_reported : (t : Bool) → facts.met need.slot c ≡ t → t ≡ false
        not_reported false k = refl
        not_reported true k = absurd (true≢false (sym (sound.met need.slot c k) ∙ none.0))

        unmet : (d : Condition) → facts.met need.slot d ≡ false → met_by setup facts need.slot d ≡ false
        unmet Condition.Started k = none.0
        unmet Condition.Healthy k = rw k (and_false (not (facts.failed need.slot Condition.Healthy)))
          where
            and_false : (t : Bool) → (t && false) ≡ false
            and_false true = refl
            and_false false = refl
        unmet Condition.Completed k = rw k (and_false (not (facts.failed need.slot Condition.Completed)))
          where
            and_false : (t : Bool) → (t && false) ≡ false
            and_false true = refl
            and_false false = refl
        unmet Condition.Running k = rw k (and_false (not (facts.failed need.slot Condition.Running)))
          where
            and_false : (t : Bool) → (t && false) ≡ false
            and_false true = refl
            and_false false = refl

        before : not (met_by setup facts need.slot c || (not need.required && (facts.failed need.slot c || start_among setup lost need.slot))) ≡ true
        before = close (met_by setup facts need.slot c) (not need.required) (facts.failed need.slot c) (start_among setup lost need.slot) (unmet c (not_reported (facts.met need.slot c) refl)) (not_failed (facts.failed need.slot c) refl) none.1
          where
            close : (t u v w : Bool) → t ≡ false → v ≡ false → w ≡ false → not (t || (u && (v || w))) ≡ true
            close false true false false h i j = refl
            close false false false false h i j = refl
            close true u v w h i j = absurd (true≢false h)
            close false u true w h i j = absurd (true≢false i)
            close false u false true h i j = absurd (true≢false j)

        after : not (met_by setup facts need.slot c || (not need.required && (facts.failed need.slot c || start_among setup more need.slot))) ≡ false
        after = close (met_by setup facts need.slot c) (not need.required) (facts.failed need.slot c) (start_among setup more need.slot) parts.0 none.2
          where
            close : (t u v w : Bool) → u ≡ true → w ≡ true → not (t || (u && (v || w))) ≡ false
            close true u v w h i = refl
            close false true true w h i = refl
            close false true false true h i = refl
            close false false v w h i = absurd (true≢false (sym h))
            close false true false false h i = absurd (true≢false (sym i))

    lets_still : (need : Need) → waits need ≡ false → not (lets_where setup facts more need) ≡ not (lets_where setup facts lost need)
    lets_still need h = ap (λ (t : Bool). not (met_by setup facts need.slot need.condition || t))
        (by (not need.required) (facts.failed need.slot need.condition) (start_among setup lost need.slot) (start_among setup more need.slot) (start_among setup (λ b. b == x) need.slot) (start_more need.slot) h)
      where
        by : (u v l m o : Bool) → m ≡ (l || o) → (u && o) ≡ false → (u && (v || m)) ≡ (u && (v || l))
        by false v l m o e k = refl
        by true v l m false e k = ap (λ (t : Bool). v || t) (e ∙ or_false l)
          where
            or_false : (t : Bool) → (t || false) ≡ t
            or_false true = refl
            or_false false = refl
        by true v l m true e k = absurd (true≢false k)

    -- so many needs let an action go by it
    pub lacks_less : (a : ℕ) → lacks_by setup facts more a + frees setup x a ≡ lacks_by setup facts lost a
    lacks_less a =
        let m = counted_fall (λ need. not (lets_where setup facts lost need)) (λ need. not (lets_where setup facts more need)) waits (slot_needs setup.declared (kind_of setup.actions a))
        (λ need h. lets_now need need.condition h) lets_still in
        omega (arith, m)

-- one more loss carried on
module _ (setup : Setup) (facts : Facts) (journal : List Entry) (rows new : Actions) (pending later : List (Option ℕ)) (x : ℕ) (sound : AreSound setup facts)
    (waits : is_pending_in pending x ≡ true) (are : AreLosing setup facts journal rows pending) (on : CarriesOn setup x rows new pending later) where
  abbrev fresh : ℕ → Bool
  fresh a = is_free_state (state_at rows a) && stops setup x a

  -- by how an action stands: whether it is free, blocked, badly or well
  pub record Marked (st : Standing) (s : State) : Type 0 where
    pub free : is_free st ≡ (is_free_state s || is_blocked_state s)
    pub not_both : is_free_state s ≡ true → (is_badly st || is_blocked_state s) ≡ false
    pub lost_not_well : (is_badly st || is_blocked_state s) ≡ true → is_well st ≡ false

  marked : (st : Standing) (s : State) → StandsAs journal st s → Marked st s
  marked st State.Free h = rw h (record { free = refl; not_both = λ k. refl; lost_not_well = λ k. refl })
  marked st State.Blocked h = rw h (record { free = refl; not_both = λ k. absurd (true≢false (sym k)); lost_not_well = λ k. refl })
  marked st State.Out h = rw h (record { free = refl; not_both = λ k. absurd (true≢false (sym k)); lost_not_well = λ k. refl })
  marked st (State.Well at) h = rw h.1 (record { free = refl; not_both = λ k. absurd (true≢false (sym k)); lost_not_well = λ k. absurd (true≢false (sym k)) })
  marked st State.Badly h = rw h (record { free = refl; not_both = λ k. absurd (true≢false (sym k)); lost_not_well = λ k. refl })

  mark : (a : ℕ) → Marked (facts.stands a) (state_at rows a)
  mark a = marked (facts.stands a) (state_at rows a) (are.each a)

  x_lost : (is_badly (facts.stands x) || blocked_in rows x) ≡ true
  x_lost = are.lost x waits

  x_not_free : is_free_state (state_at rows x) ≡ false
  x_not_free = by (is_free_state (state_at rows x)) refl
    where
      by : (t : Bool) → is_free_state (state_at rows x) ≡ t → t ≡ false
      by false h = refl
      by true h = absurd (true≢false (sym x_lost ∙ (mark x).not_both h))

  blocked_now : (a : ℕ) → blocked_in new a ≡ (blocked_in rows a || fresh a)
  blocked_now a = ap is_blocked_state (on.states a) ∙ by (state_at rows a) (stops setup x a)
    where
      by : (s : State) (t : Bool) → is_blocked_state (if (is_free_state s && t) then State.Blocked else s) ≡ (is_blocked_state s || (is_free_state s && t))
      by State.Free true = refl
      by State.Free false = refl
      by State.Blocked t = refl
      by State.Out t = refl
      by (State.Well at) t = refl
      by State.Badly t = refl

  done_now : (a : ℕ) → carried_on facts new later a ≡ (carried_on facts rows pending a || (a == x))
  done_now a = ap (λ (t : Bool). (is_badly (facts.stands a) || t) && not (is_pending_in later a)) (blocked_now a)
      ∙ ap (λ (t : Bool). (is_badly (facts.stands a) || (blocked_in rows a || fresh a)) && not t) (on.waits a)
      ∙ by (a == x) refl (fresh a) refl (is_pending_in pending a)
    where
      settle : (b k p : Bool) → ((b || (k || false)) && not ((p && true) || false)) ≡ (((b || k) && not p) || false)
      settle true true true = refl
      settle true true false = refl
      settle true false true = refl
      settle true false false = refl
      settle false true true = refl
      settle false true false = refl
      settle false false true = refl
      settle false false false = refl

      news : (b k p : Bool) → (b || k) ≡ false → ((b || (k || true)) && not ((p && true) || true)) ≡ (((b || k) && not p) || false)
      news false false true h = refl
      news false false false h = refl
      news true k p h = absurd (true≢false h)
      news false true p h = absurd (true≢false h)

      this : (b k f p : Bool) → (b || k) ≡ true → f ≡ false → ((b || (k || f)) && not ((p && false) || f)) ≡ (((b || k) && not p) || true)
      this true k false true h i = refl
      this true k false false h i = refl
      this false true false true h i = refl
      this false true false false h i = refl
      this false false f p h i = absurd (true≢false (sym h))
      this true k true p h i = absurd (true≢false i)
      this false true true p h i = absurd (true≢false i)

      by : (t : Bool) → (a == x) ≡ t → (u : Bool) → fresh a ≡ u → (p : Bool)
          → ((is_badly (facts.stands a) || (blocked_in rows a || u)) && not ((p && not t) || u)) ≡ (((is_badly (facts.stands a) || blocked_in rows a) && not p) || t)
      by false h false k p = settle (is_badly (facts.stands a)) (blocked_in rows a) p
      by false h true k p = news (is_badly (facts.stands a)) (blocked_in rows a) p ((mark a).not_both (and_parts (is_free_state (state_at rows a)) (stops setup x a) k).0)
      by true h u k p =
          let same : a ≡ x = eqb-true a x h in
          this (is_badly (facts.stands a)) (blocked_in rows a) u p (subst (λ (c : ℕ). (is_badly (facts.stands c) || blocked_in rows c) ≡ true) (sym same) x_lost)
          (sym k ∙ ap (λ (t : Bool). t && stops setup x a) (ap (λ (c : ℕ). is_free_state (state_at rows c)) same ∙ x_not_free))

  x_not_done : carried_on facts rows pending x ≡ false
  x_not_done = ap (λ (t : Bool). lost_by facts (blocked_in rows) x && not t) waits ∙ and_false (lost_by facts (blocked_in rows) x)
    where
      and_false : (t : Bool) → (t && false) ≡ false
      and_false true = refl
      and_false false = refl

  pub losing_on : AreLosing setup facts journal new later
  losing_on = record {
    size = on.size ∙ are.size;
    lacks_size = on.lacks_size ∙ are.lacks_size;
    pending_size = on.pending_size ∙ are.pending_size;
    each = λ a. subst (λ (s : State). StandsAs journal (facts.stands a) s) (sym (on.states a)) (each_by (facts.stands a) (state_at rows a) (stops setup x a) (are.each a));
    lost = λ a h. lost_by_now a (is_pending_in pending a) refl (sym (on.waits a) ∙ h);
    blocked = λ a. blocked_now a ∙ blocked_by a ∙ sym (ap (λ (t : Bool). is_free (facts.stands a) && t) (cause_more setup facts (carried_on facts rows pending) (carried_on facts new later) x done_now a));
    lacks = λ a l. let e = on.lacks a l in let k = are.lacks a l in
        let m = lacks_less setup facts (carried_on facts rows pending) (carried_on facts new later) x done_now sound ((mark x).lost_not_well x_lost) x_not_done a in omega (arith, e, k, m);
  }
    where
      each_by : (st : Standing) (s : State) (t : Bool) → StandsAs journal st s → StandsAs journal st (if (is_free_state s && t) then State.Blocked else s)
      each_by st State.Free true h = h
      each_by st State.Free false h = h
      each_by st State.Blocked t h = h
      each_by st State.Out t h = h
      each_by st (State.Well at) t h = h
      each_by st State.Badly t h = h

      lost_by_now : (a : ℕ) (p : Bool) → is_pending_in pending a ≡ p → ((p && not (a == x)) || fresh a) ≡ true → lost_by facts (blocked_in new) a ≡ true
      lost_by_now a true k h = ap (λ (t : Bool). is_badly (facts.stands a) || t) (blocked_now a) ∙ widen (is_badly (facts.stands a)) (blocked_in rows a) (fresh a) (are.lost a k)
        where
          widen : (b c f : Bool) → (b || c) ≡ true → (b || (c || f)) ≡ true
          widen true c f e = refl
          widen false true f e = refl
          widen false false f e = absurd (true≢false (sym e))
      lost_by_now a false k h = ap (λ (t : Bool). is_badly (facts.stands a) || t) (blocked_now a) ∙ widen (is_badly (facts.stands a)) (blocked_in rows a) (fresh a) h
        where
          widen : (b c f : Bool) → f ≡ true → (b || (c || f)) ≡ true
          widen true c f e = refl
          widen false true f e = refl
          widen false false f e = e

      blocked_by : (a : ℕ) → (blocked_in rows a || fresh a) ≡ (is_free (facts.stands a) && (cause_by setup facts (carried_on facts rows pending) a || stops setup x a))
      blocked_by a = by (is_free_state (state_at rows a)) (blocked_in rows a) (is_free (facts.stands a)) (cause_by setup facts (carried_on facts rows pending) a) (stops setup x a) (mark a).free (are.blocked a)
        where
          by : (s k f c t : Bool) → f ≡ (s || k) → k ≡ (f && c) → (k || (s && t)) ≡ (f && (c || t))
          by s true true true t e h = refl
          by s true true false t e h = absurd (true≢false h)
          by s true false c t e h = absurd (true≢false h)
          by true false true false t e h = refl
          by true false true true t e h = absurd (true≢false (sym h))
          by true false false c t e h = absurd (true≢false (sym e))
          by false false false c t e h = refl
          by false false true c t e h = absurd (true≢false e)

-- a loss that waits lets no more needs go than keep an action
pub lost_lacks : (setup : Setup) (facts : Facts) (journal : List Entry) (rows : Actions) (pending : List (Option ℕ)) (x : ℕ) → AreSound setup facts → is_pending_in pending x ≡ true
    → AreLosing setup facts journal rows pending → (a : ℕ) → frees setup x a ≤ lacks_by setup facts (carried_on facts rows pending) a
lost_lacks setup facts journal rows pending x sound waits are a =
    let m = lacks_less setup facts (carried_on facts rows pending) (λ b. carried_on facts rows pending b || (b == x)) x (λ b. refl) sound (lost_well (facts.stands x) (state_at rows x) (are.each x) (are.lost x waits))
    (ap (λ (t : Bool). lost_by facts (blocked_in rows) x && not t) waits ∙ and_false (lost_by facts (blocked_in rows) x)) a in
    omega (arith, m)
  where
    and_false : (t : Bool) → (t && false) ≡ false
    and_false true = refl
    and_false false = refl

    lost_well : (st : Standing) (s : State) → StandsAs journal st s → (is_badly st || is_blocked_state s) ≡ true → is_well st ≡ false
    lost_well st State.Free h k = ap is_well h
    lost_well st State.Blocked h k = ap is_well h
    lost_well st State.Out h k = ap is_well h
    lost_well st (State.Well at) h k = absurd (true≢false (sym k ∙ ap (λ (t : Standing). is_badly t || false) h.1))
    lost_well st State.Badly h k = ap is_well h

-- where no loss waits, the rows are those of the journal
pub all_carried : (setup : Setup) (facts : Facts) (journal : List Entry) (rows : Actions) (pending : List (Option ℕ)) → ((a : ℕ) → is_pending_in pending a ≡ false)
    → AreLosing setup facts journal rows pending → AreRows setup facts journal rows
all_carried setup facts journal rows pending none are = record {
  size = are.size;
  lacks_size = are.lacks_size;
  each = are.each;
  blocked = record { each = λ a. are.blocked a ∙ ap (λ (p : ℕ → Bool). is_free (facts.stands a) && cause_by setup facts p a) same };
  lacks = λ a l. are.lacks a l ∙ ap (λ (p : ℕ → Bool). lacks_by setup facts p a) same;
}
  where
    same : carried_on facts rows pending ≡ lost_by facts (blocked_in rows)
    same = functions_same (carried_on facts rows pending) (lost_by facts (blocked_in rows)) (λ a. ap (λ (t : Bool). lost_by facts (blocked_in rows) a && not t) (none a) ∙ and_true (lost_by facts (blocked_in rows) a))
      where
        and_true : (t : Bool) → (t && true) ≡ t
        and_true true = refl
        and_true false = refl

-- what lacks rests on what ended well, on reports, and on what is lost
facts_kept : (setup : Setup) (f g : Facts) (lost : ℕ → Bool) → ((b : ℕ) → is_well (g.stands b) ≡ is_well (f.stands b)) → g.failed ≡ f.failed → g.met ≡ f.met
    → (a : ℕ) → lacks_by setup f lost a ≡ lacks_by setup g lost a
facts_kept setup f g lost well failed met a =
    ap (λ (n : ℕ). n + counted (λ need. not (lets_where setup f lost need)) (slot_needs setup.declared (kind_of setup.actions a)))
    (ap (λ (p : ℕ → Bool). counted (λ b. not (p b)) (needs_of setup.actions a)) (sym wells))
    ∙ ap (λ (n : ℕ). counted (λ b. not (is_well (g.stands b))) (needs_of setup.actions a) + n)
    (counted_same (λ need. not (lets_where setup f lost need)) (λ need. not (lets_where setup g lost need)) (slot_needs setup.declared (kind_of setup.actions a)) (λ need. ap not (sym (lets_same need))))
  where
    wells : ◌≡◌ {A = ℕ → Bool} (λ b. is_well (g.stands b)) (λ b. is_well (f.stands b))
    wells = functions_same (λ b. is_well (g.stands b)) (λ b. is_well (f.stands b)) well

    counted_same : {X : Type 0} (p q : X → Bool) (xs : List X) → ((x : X) → p x ≡ q x) → counted p xs ≡ counted q xs
    counted_same p q [] each = refl
    counted_same p q (x ∷ xs) each = ap (λ (t : Bool). cond t (counted p xs + 1) (counted p xs)) (each x) ∙ ap (λ (n : ℕ). cond (q x) (n + 1) n) (counted_same p q xs each)

    counts_same : (s : ℕ) → counts_by setup g s ≡ counts_by setup f s
    counts_same s = ap (λ (p : ℕ → Bool). option_map_or p (start_of setup.actions s) true) wells

    reported : (s : ℕ) (c : Condition) → (not (g.failed s c) && g.met s c) ≡ (not (f.failed s c) && f.met s c)
    reported s c = ap (λ (p : ℕ → Condition → Bool). not (p s c) && g.met s c) failed ∙ ap (λ (p : ℕ → Condition → Bool). not (f.failed s c) && p s c) met

    met_same : (s : ℕ) (c : Condition) → met_by setup g s c ≡ met_by setup f s c
    met_same s Condition.Started = counts_same s
    met_same s Condition.Healthy = reported s Condition.Healthy
    met_same s Condition.Completed = reported s Condition.Completed
    met_same s Condition.Running = reported s Condition.Running

    lets_same : (need : Need) → lets_where setup g lost need ≡ lets_where setup f lost need
    lets_same need =
        ap (λ (t : Bool). t || (not need.required && (g.failed need.slot need.condition || start_among setup lost need.slot))) (met_same need.slot need.condition)
        ∙ ap (λ (p : ℕ → Condition → Bool). met_by setup f need.slot need.condition || (not need.required && (p need.slot need.condition || start_among setup lost need.slot))) failed

-- an action ended otherwise than well: its loss is to be carried on
pub rows_badly : (setup : Setup) (f g : Facts) (journal more : List Entry) (rows new : Actions) (pending : List (Option ℕ)) (b : ℕ)
    → ((a : ℕ) → (a ≡ b → ⊥) → g.stands a ≡ f.stands a) → g.failed ≡ f.failed → g.met ≡ f.met → f.stands b ≡ Out → g.stands b ≡ Badly
    → ((st : Standing) (s : State) → StandsAs journal st s → StandsAs more st s)
    → length new.states ≡ length rows.states → state_at new b ≡ State.Badly → ((a : ℕ) → (a ≡ b → ⊥) → state_at new a ≡ state_at rows a) → new.lacks ≡ rows.lacks → blocked_in rows b ≡ false
    → length pending ≡ length rows.states → ((a : ℕ) → is_pending_in pending a ≡ (a == b)) → AreRows setup f journal rows → AreLosing setup g more new pending
rows_badly setup f g journal more rows new pending b others failed met was now kept size there elsewhere lacks not_blocked room only are = record {
  size = size ∙ are.size;
  lacks_size = ap length lacks ∙ are.lacks_size;
  pending_size = room ∙ are.size;
  each = λ a. each_by a (cases_eq a b);
  lost = λ a h. let e : a ≡ b = eqb-true a b (sym (only a) ∙ h) in ap (λ (k : ℕ). is_badly (g.stands k) || blocked_in new k) e ∙ ap (λ (st : Standing). is_badly st || blocked_in new b) now;
  blocked = λ a. blocked_as a (cases_eq a b) ∙ are.blocked.each a ∙ free_by a (cases_eq a b);
  lacks = λ a l. ap (λ (ns : List ℕ). get_or ns a 0) lacks ∙ are.lacks a l ∙ lacks_as a;
}
  where
    each_by : (a : ℕ) → (a ≡ b) ⊎ (a ≡ b → ⊥) → StandsAs more (g.stands a) (state_at new a)
    each_by a (inl e) = subst (λ (k : ℕ). StandsAs more (g.stands k) (state_at new k)) (sym e) (subst (λ (s : State). StandsAs more (g.stands b) s) (sym there) now)
    each_by a (inr n) = subst (λ (s : State). StandsAs more (g.stands a) s) (sym (elsewhere a n)) (kept (g.stands a) (state_at rows a) (subst (λ (st : Standing). StandsAs journal st (state_at rows a)) (sym (others a n)) (are.each a)))

    blocked_as : (a : ℕ) → (a ≡ b) ⊎ (a ≡ b → ⊥) → blocked_in new a ≡ blocked_in rows a
    blocked_as a (inl e) = ap (blocked_in new) e ∙ ap is_blocked_state there ∙ sym not_blocked ∙ ap (blocked_in rows) (sym e)
    blocked_as a (inr n) = ap is_blocked_state (elsewhere a n)

    -- what is carried on is what was lost before
    done_as : (a : ℕ) → carried_on g new pending a ≡ lost_by f (blocked_in rows) a
    done_as a = ap (λ (t : Bool). lost_by g (blocked_in new) a && not t) (only a) ∙ by (cases_eq a b)
      where
        unequal : (a ≡ b → ⊥) → (t : Bool) → (a == b) ≡ t → t ≡ false
        unequal n true h = absurd (n (eqb-true a b h))
        unequal n false h = refl

        and_true : (t : Bool) → (t && true) ≡ t
        and_true true = refl
        and_true false = refl

        and_false : (t : Bool) → (t && false) ≡ false
        and_false true = refl
        and_false false = refl

        by : (a ≡ b) ⊎ (a ≡ b → ⊥) → (lost_by g (blocked_in new) a && not (a == b)) ≡ lost_by f (blocked_in rows) a
        by (inl e) = ap (λ (t : Bool). lost_by g (blocked_in new) a && not t) (eq-eqb a b e) ∙ and_false (lost_by g (blocked_in new) a)
            ∙ sym (ap (λ (k : ℕ). is_badly (f.stands k) || blocked_in rows k) e ∙ ap (λ (st : Standing). is_badly st || blocked_in rows b) was ∙ not_blocked)
        by (inr n) = ap (λ (t : Bool). lost_by g (blocked_in new) a && not t) (unequal n (a == b) refl) ∙ and_true (lost_by g (blocked_in new) a)
            ∙ ap (λ (st : Standing). is_badly st || blocked_in new a) (others a n) ∙ ap (λ (t : Bool). is_badly (f.stands a) || t) (blocked_as a (inr n))

    done_same : carried_on g new pending ≡ lost_by f (blocked_in rows)
    done_same = functions_same (carried_on g new pending) (lost_by f (blocked_in rows)) done_as

    cause_as : (a : ℕ) → cause_by setup f (lost_by f (blocked_in rows)) a ≡ cause_by setup g (carried_on g new pending) a
    cause_as a = ap (λ (p : ℕ → Condition → Bool). cause_by setup (record { stands = f.stands; failed = p; met = f.met }) (lost_by f (blocked_in rows)) a) (sym failed)
        ∙ ap (λ (p : ℕ → Bool). cause_by setup g p a) (sym done_same)

    free_by : (a : ℕ) → (a ≡ b) ⊎ (a ≡ b → ⊥) → (is_free (f.stands a) && has_cause setup f (blocked_in rows) a) ≡ (is_free (g.stands a) && cause_by setup g (carried_on g new pending) a)
    free_by a (inl e) = ap (λ (t : Bool). t && has_cause setup f (blocked_in rows) a) (ap (λ (k : ℕ). is_free (f.stands k)) e ∙ ap is_free was)
        ∙ sym (ap (λ (t : Bool). t && cause_by setup g (carried_on g new pending) a) (ap (λ (k : ℕ). is_free (g.stands k)) e ∙ ap is_free now))
    free_by a (inr n) = ap (λ (st : Standing). is_free st && has_cause setup f (blocked_in rows) a) (sym (others a n)) ∙ ap (λ (t : Bool). is_free (g.stands a) && t) (cause_as a)

    well_as : (a : ℕ) → (a ≡ b) ⊎ (a ≡ b → ⊥) → is_well (g.stands a) ≡ is_well (f.stands a)
    well_as a (inl e) = ap (λ (k : ℕ). is_well (g.stands k)) e ∙ ap is_well now ∙ sym (ap (λ (k : ℕ). is_well (f.stands k)) e ∙ ap is_well was)
    well_as a (inr n) = ap is_well (others a n)

    lacks_as : (a : ℕ) → open_needs setup f (blocked_in rows) a ≡ lacks_by setup g (carried_on g new pending) a
    lacks_as a = facts_kept setup f g (lost_by f (blocked_in rows)) (λ c. well_as c (cases_eq c b)) failed met a ∙ ap (λ (p : ℕ → Bool). lacks_by setup g p a) (sym done_same)
