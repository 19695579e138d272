-- In a final journal without a failing entry every action ended well.
use Rattle.std.proofs.Common.{◌≡◌, ◌⊎◌, ℕ, zero, suc, ◌<◌, Bool, true, false, cond, not, ◌&&◌, ◌||◌, List, [], ◌∷◌, length, Option, Some, None, slice_get, refl, sym, ◌∙◌, subst, inl, inr, arith}
use Rattle.std.proofs.lemmas.Bool.{and_parts, both_ways, eqb-true, false_from_ne_true, or_cases, or_from}
use Rattle.std.specs.List.{list_all, list_any}
use Rattle.std.specs.Option.{option_or}
use Rattle.std.specs.Prelude.{find, flat_map, if◌then◌else◌, option_map, ◌==◌}
use Rattle.engine_types.specs.declared.Action.{Action}
use Rattle.engine_types.specs.declared.Condition.{Condition}
use Rattle.engine_types.specs.declared.Entry.{Entry}
use Rattle.engine_types.specs.declared.Need.{Need}
use Rattle.engine_types.specs.declared.Outcome.{Outcome}
use Rattle.engine_types.specs.declared.Report.{Report}
use Rattle.engine_types.specs.declared.RunFault.{RunFault}
use Rattle.engine_types.specs.declared.SeenEnd.{SeenEnd}
use Rattle.engine_types.specs.declared.SeenFault.{SeenFault}
use Rattle.run_model.specs.Conditions.{blocked_within, fails, has_failed, is_blocked, is_lost, is_need_lost, is_pending, is_start_lost, is_started, poll_counts, report_of}
use Rattle.run_model.specs.EngineRules.{Among}
use Rattle.run_model.specs.Ending.{Failing, IsFinal, exchange_fault, fails_now, fault_of, first_fault, is_goal_over, is_over, is_seen_bad, report_fault, seen_fault, wanted_conditions}
use Rattle.run_model.specs.Journals.{Badly, Free, Holding, Nothing, Out, Setup, Standing, Watch, Well, Work, ended_as, holding, is_badly, is_ending, is_free, is_watch_of, is_well, is_work_on, standing}
use Rattle.run_model.specs.Plans.{kind_of, needs_of, slot_needs, start_of}
use Rattle.run_model.specs.Requests.{request_out}
use Rattle.run_model.specs.Numbers.{places}
use Rattle.world_laws.specs.Laws.{EveryActionEndedWell}
use Rattle.run_model.proofs.DistinctLists.{among_flat_map, among_left, among_numbers, among_places}
use Rattle.run_model.proofs.KeptLaws.{any_from_list}
use Rattle.run_model.proofs.LegalLaws.{ended_not_free}
use Rattle.run_model.proofs.PlanLaws.{some_from}

module _ {X : Type 0} where
  -- where all elements pass, each does
  pub each_passes : (test : X → Bool) (xs : List X) (x : X) → list_all test xs ≡ true → Among xs x → test x ≡ true
  each_passes test [] x e m = absurd m
  each_passes test (y ∷ ys) x e (inl h) = subst (λ (z : X). test z ≡ true) (sym h) (and_parts (test y) (list_all test ys) e).0
  each_passes test (y ∷ ys) x e (inr m) = each_passes test ys x (and_parts (test y) (list_all test ys) e).1 m

  -- where nothing is found, no element passes
  pub none_found : (test : X → Bool) (xs : List X) (x : X) → find test xs ≡ None → Among xs x → test x ≡ false
  none_found test [] x e m = absurd m
  none_found test (y ∷ ys) x e m = at (test y) refl (none_found test ys x) e m
    where
      at : (t : Bool) → test y ≡ t → (find test ys ≡ None → Among ys x → test x ≡ false) → cond t (Some y) (find test ys) ≡ None → Among (y ∷ ys) x → test x ≡ false
      at true h rest f n = absurd (cc f)
      at false h rest f (inl n) = subst (λ (z : X). test z ≡ false) (sym n) h
      at false h rest f (inr n) = rest f n

-- an entry without a fault after entries without one
pub record HasNone (setup : Setup) (past : List Entry) (entry : Entry) : Type 0 where
  pub before : first_fault setup past ≡ None
  pub here : fault_of setup past entry ≡ None

pub without_fault : (setup : Setup) (entry : Entry) (past : List Entry) → first_fault setup (entry ∷ past) ≡ None → HasNone setup past entry
without_fault setup entry past h = at (first_fault setup past) refl h
  where
    at : (o : Option RunFault) → first_fault setup past ≡ o → option_or o (fault_of setup past entry) ≡ None → HasNone setup past entry
    at (Some fault) k f = absurd (cc f)
    at None k f = record { before = k; here = f }

-- without a fault nothing ended the run early
pub not_ending : (setup : Setup) (past : List Entry) → first_fault setup past ≡ None → is_ending past ≡ false
not_ending setup [] h = refl
not_ending setup (Entry.Stop w ∷ past) h = absurd (cc (without_fault setup (Entry.Stop w) past h).here)
not_ending setup (Entry.Late w why ∷ past) h = absurd (cc (without_fault setup (Entry.Late w why) past h).here)
not_ending setup (Entry.Short w ∷ past) h = absurd (cc (without_fault setup (Entry.Short w) past h).here)
not_ending setup (entry ∷ past) h = not_ending setup past (without_fault setup entry past h).before

bad_is_fault : (bad : SeenFault) → seen_fault (SeenEnd.Bad bad) ≡ None → ⊥
bad_is_fault SeenFault.Memory e = cc e
bad_is_fault bad e = cc e

-- without a fault the observation ended well
pub not_bad : (setup : Setup) (past : List Entry) → first_fault setup past ≡ None → is_seen_bad past ≡ false
not_bad setup [] h = refl
not_bad setup (Entry.Seen observation ∷ past) h = at observation.end refl
  where
    at : (end : SeenEnd) → observation.end ≡ end → is_seen_bad (Entry.Seen observation ∷ past) ≡ false
    at (SeenEnd.Good seen) e = rw e refl
    at (SeenEnd.Bad bad) e = absurd (bad_is_fault bad (subst (λ (end : SeenEnd). seen_fault end ≡ None) e (without_fault setup (Entry.Seen observation) past h).here))
not_bad setup (entry ∷ past) h = not_bad setup past (without_fault setup entry past h).before

-- what is free now was free before
pub free_before : (setup : Setup) (entry : Entry) (past : List Entry) (a : ℕ) → is_free (standing setup (entry ∷ past) a) ≡ true → is_free (standing setup past a) ≡ true
free_before setup (Entry.Claim v b) past a h = at (b == a) h
  where
    at : (t : Bool) → is_free (if t then Out else standing setup past a) ≡ true → is_free (standing setup past a) ≡ true
    at true k = absurd (cc k)
    at false k = k
free_before setup (Entry.Ended v outcome) past a h = at (is_work_on a (holding past v)) h
  where
    at : (t : Bool) → is_free (if t then ended_as (kind_of setup.actions a) outcome else standing setup past a) ≡ true → is_free (standing setup past a) ≡ true
    at true k = absurd (both_ways (is_free (ended_as (kind_of setup.actions a) outcome)) (ended_not_free (kind_of setup.actions a) outcome) k)
    at false k = k
free_before setup entry past a h = h

-- without a fault no action ended otherwise than well
pub none_badly : (setup : Setup) (past : List Entry) → first_fault setup past ≡ None → (a : ℕ) → is_badly (standing setup past a) ≡ false
none_badly setup [] h a = refl
none_badly setup (Entry.Claim v b ∷ past) h a = at (b == a) (none_badly setup past (without_fault setup (Entry.Claim v b) past h).before a)
  where
    at : (t : Bool) → is_badly (standing setup past a) ≡ false → is_badly (if t then Out else standing setup past a) ≡ false
    at true k = refl
    at false k = k
none_badly setup (Entry.Ended v outcome ∷ past) h a =
    at (holding past v) refl (none_badly setup past (without_fault setup (Entry.Ended v outcome) past h).before a) (without_fault setup (Entry.Ended v outcome) past h).here
  where
    not_badly : (x : Standing) (fault : RunFault) → (if is_well x then None else Some fault) ≡ None → is_badly x ≡ false
    not_badly (Well reply) fault k = refl
    not_badly Free fault k = refl
    not_badly Out fault k = refl
    not_badly Badly fault k = absurd (cc k)

    on : (b : ℕ) (t : Bool) → (b == a) ≡ t → is_badly (standing setup past a) ≡ false
        → (if is_well (ended_as (kind_of setup.actions b) outcome) then None else Some (exchange_fault (request_out setup past v) outcome)) ≡ None
        → is_badly (if t then ended_as (kind_of setup.actions a) outcome else standing setup past a) ≡ false
    on b true e rest f =
        let same : b ≡ a = eqb-true b a e in
        subst (λ (n : ℕ). is_badly (ended_as (kind_of setup.actions n) outcome) ≡ false) same
        (not_badly (ended_as (kind_of setup.actions b) outcome) (exchange_fault (request_out setup past v) outcome) f)
    on b false e rest f = rest

    at : (x : Holding) → holding past v ≡ x → is_badly (standing setup past a) ≡ false → fault_of setup past (Entry.Ended v outcome) ≡ None
        → is_badly (standing setup (Entry.Ended v outcome ∷ past) a) ≡ false
    at Nothing k rest f = rw k rest
    at (Watch s) k rest f = rw k rest
    at (Work b) k rest f = rw k (on b (b == a) refl rest (rw k at f))
none_badly setup (entry ∷ past) h a = none_badly setup past (without_fault setup entry past h).before a

-- a required need of a start is a wanted condition, until the start is claimed
abbrev condition_of : Need → Failing
condition_of need = record { slot = need.slot; condition = need.condition }

abbrev of_need : Need → List Failing
of_need need = if need.required then condition_of need ∷ [] else []

abbrev of_start : Setup → List Entry → ℕ → List Failing
of_start setup past a = if is_pending setup past a then flat_map of_need (slot_needs setup.declared (kind_of setup.actions a)) else []

need_wanted : (setup : Setup) (past : List Entry) (a : ℕ) (action : Action) (need : Need) → slice_get setup.actions a ≡ Some action
    → is_pending setup past a ≡ true → Among (slot_needs setup.declared (kind_of setup.actions a)) need → need.required ≡ true
    → Among (wanted_conditions setup past) (condition_of need)
need_wanted setup past a action need e pending m required =
    let one : Among (of_need need) (condition_of need) = rw required (inl refl) in
    let here : Among (of_start setup past a) (condition_of need) =
    rw pending (among_flat_map of_need (slot_needs setup.declared (kind_of setup.actions a)) need (condition_of need) m one) in
    among_left (flat_map (of_start setup past) (places setup.actions)) _ (condition_of need)
    (among_flat_map (of_start setup past) (places setup.actions) a (condition_of need) (among_places setup.actions a action e) here)

-- no poll of a slot ended: what has failed there stays as it was
failed_same : (setup : Setup) (past : List Entry) (v : ℕ) (outcome : Outcome) (s : ℕ) (condition : Condition) → is_watch_of s (holding past v) ≡ false
    → has_failed setup (Entry.Ended v outcome ∷ past) s condition ≡ has_failed setup past s condition
failed_same setup past v outcome s condition h = rw h (at (is_started condition))
  where
    at : (t : Bool) → ((not t && false && fails condition outcome (poll_counts setup past v)) || has_failed setup past s condition) ≡ has_failed setup past s condition
    at true = refl
    at false = refl

-- a wanted condition that hadn't failed hasn't failed by an entry without a fault
still_sound : (setup : Setup) (past : List Entry) (entry : Entry) (failing : Failing) → fault_of setup past entry ≡ None → Among (wanted_conditions setup past) failing
    → has_failed setup past failing.slot failing.condition ≡ false → has_failed setup (entry ∷ past) failing.slot failing.condition ≡ false
still_sound setup past (Entry.Ended v outcome) failing h m e = at (holding past v) refl
  where
    not_new : (old new : Bool) → old ≡ false → (not old && new) ≡ false → new ≡ false
    not_new false new k f = f
    not_new true new k f = absurd (cc k)

    unfound : (o : Option Failing) (f : Failing → RunFault) → option_map f o ≡ None → o ≡ None
    unfound None f k = refl
    unfound (Some x) f k = absurd (cc k)

    reported : (s : ℕ) (o : Option Report) → holding past v ≡ Watch s → report_of outcome ≡ o → has_failed setup (Entry.Ended v outcome ∷ past) failing.slot failing.condition ≡ false
    reported s (Some report) k r =
        let g : report_fault setup past (Entry.Ended v outcome) report ≡ None = rw (k, r) at h in
        let none : find (fails_now setup past (Entry.Ended v outcome)) (wanted_conditions setup past) ≡ None = unfound _ _ g in
        not_new (has_failed setup past failing.slot failing.condition) (has_failed setup (Entry.Ended v outcome ∷ past) failing.slot failing.condition) e
        (none_found (fails_now setup past (Entry.Ended v outcome)) (wanted_conditions setup past) failing none m)
    reported s None k r = let g : Some (exchange_fault (request_out setup past v) outcome) ≡ None = rw (k, r) at h in absurd (cc g)

    at : (x : Holding) → holding past v ≡ x → has_failed setup (Entry.Ended v outcome ∷ past) failing.slot failing.condition ≡ false
    at Nothing k = failed_same setup past v outcome failing.slot failing.condition (rw k refl) ∙ e
    at (Work b) k = failed_same setup past v outcome failing.slot failing.condition (rw k refl) ∙ e
    at (Watch s) k = reported s (report_of outcome) k refl
still_sound setup past (Entry.Seen observation) failing h m e = e
still_sound setup past entry failing h m e = e

-- a start whose slot has needs is an action of the plan
action_at : (setup : Setup) (a : ℕ) (need : Need) → Among (slot_needs setup.declared (kind_of setup.actions a)) need → (action : Action) × (slice_get setup.actions a ≡ Some action)
action_at setup a need m = at (slice_get setup.actions a) refl m
  where
    at : (o : Option Action) → slice_get setup.actions a ≡ o → Among (slot_needs setup.declared (option_map (λ (x : Action). x.kind) o)) need
        → (action : Action) × (slice_get setup.actions a ≡ Some action)
    at None e n = absurd n
    at (Some action) e n = (action, e)

-- no required need of a free action has failed
abbrev pub IsSound : Setup → List Entry → Type 0
IsSound setup past = (a : ℕ) → is_free (standing setup past a) ≡ true → (need : Need) → Among (slot_needs setup.declared (kind_of setup.actions a)) need
    → need.required ≡ true → has_failed setup past need.slot need.condition ≡ false

module _ (setup : Setup) (past : List Entry) (well : (a : ℕ) → is_badly (standing setup past a) ≡ false) (sound : IsSound setup past) where
  not_lost : (blocked : ℕ → Bool) → ((b : ℕ) → blocked b ≡ false) → (b : ℕ) → is_lost setup past blocked b ≡ true → ⊥
  not_lost blocked open_ b e = at (or_cases (is_badly (standing setup past b)) (blocked b) e)
    where
      at : (is_badly (standing setup past b) ≡ true) ⊎ (blocked b ≡ true) → ⊥
      at (inl t) = both_ways _ (well b) t
      at (inr t) = both_ways _ (open_ b) t

  need_not_lost : (blocked : ℕ → Bool) → ((b : ℕ) → blocked b ≡ false) → (a : ℕ) → is_free (standing setup past a) ≡ true → (need : Need)
      → Among (slot_needs setup.declared (kind_of setup.actions a)) need → is_need_lost setup past blocked need ≡ true → ⊥
  need_not_lost blocked open_ a free need m e =
      let p = and_parts need.required _ e in at (sound a free need m p.0) (or_cases _ _ p.1)
    where
      at : has_failed setup past need.slot need.condition ≡ false
          → (has_failed setup past need.slot need.condition ≡ true) ⊎ (is_start_lost setup past blocked need.slot ≡ true) → ⊥
      at f (inl t) = both_ways _ f t
      at f (inr t) = let r = some_from (is_lost setup past blocked) (start_of setup.actions need.slot) t in not_lost blocked open_ r.0 r.2

  -- where no action ended otherwise and no required need of a free one has failed, nothing is blocked
  pub not_blocked : (n a : ℕ) → blocked_within n setup past a ≡ false
  not_blocked zero a = refl
  not_blocked (suc n) a = false_from_ne_true (blocked_within (suc n) setup past a) (at (λ b. not_blocked n b))
    where
      at : ((b : ℕ) → blocked_within n setup past b ≡ false) → blocked_within (suc n) setup past a ≡ true → ⊥
      at open_ e = let p = and_parts (is_free (standing setup past a)) _ e in on p.0 (or_cases _ _ p.1)
        where
          on : is_free (standing setup past a) ≡ true → (list_any (is_lost setup past (blocked_within n setup past)) (needs_of setup.actions a) ≡ true)
              ⊎ (list_any (is_need_lost setup past (blocked_within n setup past)) (slot_needs setup.declared (kind_of setup.actions a)) ≡ true) → ⊥
          on free (inl t) = let r = any_from_list (is_lost setup past (blocked_within n setup past)) (needs_of setup.actions a) t in
              not_lost (blocked_within n setup past) open_ r.0 r.2
          on free (inr t) = let r = any_from_list (is_need_lost setup past (blocked_within n setup past)) (slot_needs setup.declared (kind_of setup.actions a)) t in
              need_not_lost (blocked_within n setup past) open_ a free r.0 r.1 r.2

-- without a fault no required need of a free action has failed
pub none_lost : (setup : Setup) (past : List Entry) → first_fault setup past ≡ None → IsSound setup past
none_lost setup [] h a free need m required = refl
none_lost setup (entry ∷ past) h a free need m required =
    let k = without_fault setup entry past h in
    let before : IsSound setup past = none_lost setup past k.before in
    let was_free = free_before setup entry past a free in
    let open_ : is_blocked setup past a ≡ false = not_blocked setup past (none_badly setup past k.before) before (length setup.actions) a in
    let pending : is_pending setup past a ≡ true = rw (was_free, open_) refl in
    let r = action_at setup a need m in
    still_sound setup past entry (condition_of need) k.here (need_wanted setup past a r.0 need r.1 pending m required) (before a was_free need m required)

-- in a final journal without a failing entry every action ended well
pub all_well : (setup : Setup) (past : List Entry) → IsFinal setup past → first_fault setup past ≡ None
    → (a : ℕ) → a < length setup.actions → is_well (standing setup past a) ≡ true
all_well setup past (inl bad) h a below = absurd (both_ways (is_seen_bad past) (not_bad setup past h) bad)
all_well setup past (inr run) h a below = at run.over
  where
    pick : (x y z : Bool) → y ≡ false → z ≡ false → (x || y || z) ≡ true → x ≡ true
    pick true y z e f t = refl
    pick false y z e f t = absurd (both_ways (y || z) (or_from y z e f) t)

    at : (is_ending past ≡ true) ⊎ ((list_all (is_over setup past) (places setup.actions) ≡ true) × (list_all (is_goal_over setup past) (places setup.declared.slots) ≡ true))
        → is_well (standing setup past a) ≡ true
    at (inl t) = absurd (both_ways (is_ending past) (not_ending setup past h) t)
    at (inr t) = pick (is_well (standing setup past a)) (is_badly (standing setup past a)) (is_blocked setup past a) (none_badly setup past h a)
        (not_blocked setup past (none_badly setup past h) (none_lost setup past h) (length setup.actions) a)
        (each_passes (is_over setup past) (places setup.actions) a t.0 (among_numbers 0 (length setup.actions) a (omega arith) (omega arith)))

pub every_action_ended_well : EveryActionEndedWell
every_action_ended_well aim setup past legal over none a below = all_well setup past over none a below
