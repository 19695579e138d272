-- Reports of legal journals count.
use Rattle.std.proofs.Common.{◌≡◌, ◌⊎◌, ℕ, Bool, true, false, not, ◌&&◌, ◌||◌, ◌==◌, List, [], ◌∷◌, Option, Some, None, if◌then◌else◌, refl, sym, ap, subst, inl, inr}
use Rattle.std.proofs.lemmas.Bool.{eqb-true, true≢false}
use Rattle.std.specs.Option.{option_map_or}
use Rattle.engine_types.specs.declared.Aim.{Aim}
use Rattle.engine_types.specs.declared.Condition.{Condition}
use Rattle.engine_types.specs.declared.Entry.{Entry}
use Rattle.engine_types.specs.declared.Reply.{Reply}
use Rattle.run_model.specs.Conditions.{counts, fails, has_failed, is_started, meets, poll_counts, was_met}
use Rattle.run_model.specs.Journals.{Free, Holding, Nothing, Out, Setup, Standing, Watch, Well, Work, Badly, holding, is_watch_of, is_well, standing}
use Rattle.run_model.specs.Legal.{IsLegal}
use Rattle.run_model.specs.Plans.{start_of}
use Rattle.journal_laws.proofs.Holders.{polled_counts, stays_well}

well_of : (st : Standing) → is_well st ≡ true → (reply : Reply) × (st ≡ Well reply)
well_of (Well reply) h = (reply, refl)
well_of Free h = absurd (true≢false (sym h))
well_of Out h = absurd (true≢false (sym h))
well_of Badly h = absurd (true≢false (sym h))

-- reports that count still do after the next entry
pub counts_later : (aim : Aim) (setup : Setup) (entry : Entry) (past : List Entry) (s : ℕ) → IsLegal aim setup (entry ∷ past) → counts setup past s ≡ true → counts setup (entry ∷ past) s ≡ true
counts_later aim setup entry past s legal h = by (start_of setup.actions s) h
  where
    by : (o : Option ℕ) → option_map_or (λ a. is_well (standing setup past a)) o true ≡ true → option_map_or (λ a. is_well (standing setup (entry ∷ past) a)) o true ≡ true
    by None k = k
    by (Some a) k = let w = well_of (standing setup past a) k in ap is_well (stays_well aim setup entry past a w.0 legal w.1)

-- a slot that a worker looks at counts
pub polled : (aim : Aim) (setup : Setup) (past : List Entry) (w s : ℕ) → IsLegal aim setup past → holding past w ≡ Watch s → (poll_counts setup past w ≡ true) × (counts setup past s ≡ true)
polled aim setup [] w s legal h = absurd (cc h)
polled aim setup (Entry.Seen observation ∷ past) w s legal h = polled aim setup past w s legal.0 h
polled aim setup (Entry.Idle v ∷ past) w s legal h = polled aim setup past w s legal.0 h
polled aim setup (Entry.Leave v ∷ past) w s legal h = polled aim setup past w s legal.0 h
polled aim setup (Entry.Stop v ∷ past) w s legal h = polled aim setup past w s legal.0 h
polled aim setup (Entry.Late v why ∷ past) w s legal h = polled aim setup past w s legal.0 h
polled aim setup (Entry.Short v ∷ past) w s legal h = polled aim setup past w s legal.0 h
polled aim setup (Entry.Claim v a ∷ past) w s legal h = on (v == w) h (polled aim setup past w s legal.0)
  where
    on : (t : Bool) → (if t then Work a else holding past w) ≡ Watch s → (holding past w ≡ Watch s → (poll_counts setup past w ≡ true) × (counts setup past s ≡ true))
        → (poll_counts setup past w ≡ true) × (counts setup (Entry.Claim v a ∷ past) s ≡ true)
    on true k rec = absurd (cc k)
    on false k rec = let r = rec k in (r.0, counts_later aim setup (Entry.Claim v a) past s legal r.1)
polled aim setup (Entry.Ended v outcome ∷ past) w s legal h = on (v == w) h (polled aim setup past w s legal.0)
  where
    on : (t : Bool) → (if t then Nothing else holding past w) ≡ Watch s → (holding past w ≡ Watch s → (poll_counts setup past w ≡ true) × (counts setup past s ≡ true))
        → (poll_counts setup past w ≡ true) × (counts setup (Entry.Ended v outcome ∷ past) s ≡ true)
    on true k rec = absurd (cc k)
    on false k rec = let r = rec k in (r.0, counts_later aim setup (Entry.Ended v outcome) past s legal r.1)
polled aim setup (Entry.Poll v t ∷ past) w s legal h = on (v == w) h (polled aim setup past w s legal.0)
  where
    on : (x : Bool) → (if x then Watch t else holding past w) ≡ Watch s → (holding past w ≡ Watch s → (poll_counts setup past w ≡ true) × (counts setup past s ≡ true))
        → ((if x then counts setup past t else poll_counts setup past w) ≡ true) × (counts setup past s ≡ true)
    on true k rec = let same : t ≡ s = cc k in let c : counts setup past t ≡ true = polled_counts setup past v t legal.1.1 in (c, subst (λ (y : ℕ). counts setup past y ≡ true) same c)
    on false k rec = rec k

middle : (t u v : Bool) → (t && u && v) ≡ true → u ≡ true
middle true true v h = refl
middle true false v h = absurd (true≢false (sym h))
middle false u v h = absurd (true≢false (sym h))

first : (t u : Bool) → (t && u) ≡ true → t ≡ true
first true u h = refl
first false u h = absurd (true≢false (sym h))

either : (t u : Bool) → (t || u) ≡ true → (t ≡ true) ⊎ (u ≡ true)
either true u h = inl refl
either false u h = inr h

watch_is : (h : Holding) (s : ℕ) → is_watch_of s h ≡ true → h ≡ Watch s
watch_is Nothing s e = absurd (true≢false (sym e))
watch_is (Work a) s e = absurd (true≢false (sym e))
watch_is (Watch t) s e = ap (λ (x : ℕ). Watch x) (eqb-true t s e)

pub never_fails_started : (setup : Setup) (past : List Entry) (s : ℕ) → has_failed setup past s Condition.Started ≡ false
never_fails_started setup [] s = refl
never_fails_started setup (Entry.Ended v outcome ∷ past) s = never_fails_started setup past s
never_fails_started setup (entry ∷ past) s = never_fails_started setup past s

pub failed_counts : (aim : Aim) (setup : Setup) (past : List Entry) (s : ℕ) (condition : Condition) → IsLegal aim setup past → has_failed setup past s condition ≡ true → counts setup past s ≡ true
failed_counts aim setup [] s condition legal h = absurd (true≢false (sym h))
failed_counts aim setup (Entry.Ended v outcome ∷ past) s condition legal h =
    on (either (not (is_started condition) && is_watch_of s (holding past v) && fails condition outcome (poll_counts setup past v)) (has_failed setup past s condition) h) (failed_counts aim setup past s condition legal.0)
  where
    on : ((not (is_started condition) && is_watch_of s (holding past v) && fails condition outcome (poll_counts setup past v)) ≡ true) ⊎ (has_failed setup past s condition ≡ true)
        → (has_failed setup past s condition ≡ true → counts setup past s ≡ true) → counts setup (Entry.Ended v outcome ∷ past) s ≡ true
    on (inl e) rec = counts_later aim setup (Entry.Ended v outcome) past s legal
        (polled aim setup past v s legal.0 (watch_is (holding past v) s (middle (not (is_started condition)) (is_watch_of s (holding past v)) (fails condition outcome (poll_counts setup past v)) e))).1
    on (inr e) rec = counts_later aim setup (Entry.Ended v outcome) past s legal (rec e)
failed_counts aim setup (entry ∷ past) s condition legal h = counts_later aim setup entry past s legal (failed_counts aim setup past s condition legal.0 h)

pub met_counts : (aim : Aim) (setup : Setup) (past : List Entry) (s : ℕ) (condition : Condition) → IsLegal aim setup past → was_met setup past s condition ≡ true → counts setup past s ≡ true
met_counts aim setup [] s condition legal h = absurd (true≢false (sym h))
met_counts aim setup (Entry.Ended v outcome ∷ past) s condition legal h =
    on (either (is_watch_of s (holding past v) && meets condition outcome (poll_counts setup past v)) (was_met setup past s condition) h) (met_counts aim setup past s condition legal.0)
  where
    on : ((is_watch_of s (holding past v) && meets condition outcome (poll_counts setup past v)) ≡ true) ⊎ (was_met setup past s condition ≡ true)
        → (was_met setup past s condition ≡ true → counts setup past s ≡ true) → counts setup (Entry.Ended v outcome ∷ past) s ≡ true
    on (inl e) rec = counts_later aim setup (Entry.Ended v outcome) past s legal
        (polled aim setup past v s legal.0 (watch_is (holding past v) s (first (is_watch_of s (holding past v)) (meets condition outcome (poll_counts setup past v)) e))).1
    on (inr e) rec = counts_later aim setup (Entry.Ended v outcome) past s legal (rec e)
met_counts aim setup (entry ∷ past) s condition legal h = counts_later aim setup entry past s legal (met_counts aim setup past s condition legal.0 h)
