-- The actions of a run are orderly: by service along the dependencies, within a service by number, and for each slot in the order of
-- its actions.
use Rattle.std.proofs.Common.{◌≡◌, ℕ, zero, suc, ◌+◌, ◌-◌, ◌*◌, ◌<◌, ◌⊎◌, Bool, true, false, cond, ◌&&◌, ◌||◌, ◌==◌, List, [], ◌∷◌, length, Option, Some, None, slice_get, refl, sym, ap, ◌∙◌, inl, inr, arith, ⊎_elim}
use Rattle.std.specs.Prelude.{find, option_and_then}
use Rattle.std.specs.Option.{option_map_or}
use Rattle.std.specs.Str.{bytes_eq}
use Rattle.std.proofs.lemmas.Bool.{and_parts, eqb-true}
use Rattle.std.proofs.lemmas.Nat.{mul-le}
use Rattle.engine_types.specs.declared.ActionKind.{ActionKind}
use Rattle.engine_types.specs.declared.ActionKind.TheVariants.{MakeVolume, MakeNetwork, StopContainer, RemoveContainer, CreateSlot, ConnectSlot, StopKept, StartSlot, RemoveNetwork, RemoveVolume}
use Rattle.engine_types.specs.declared.Declared.{Declared}
use Rattle.engine_types.specs.declared.DeclaredService.{DeclaredService}
use Rattle.engine_types.specs.declared.Listed.{Listed}
use Rattle.engine_types.specs.declared.Need.{Need}
use Rattle.engine_types.specs.declared.Seen.{Seen}
use Rattle.engine_types.specs.declared.Slot.{Slot}
use Rattle.run_model.specs.EngineRules.{Among, is_live}
use Rattle.run_model.specs.Labels.{is_of_slot}
use Rattle.run_model.specs.Numbers.{places}
use Rattle.run_model.specs.Plans.{Basis, HasSmallNumbers, IsOrderly, IsWhole, asks_restart, basis_of, down_aim, is_in_way, is_needed_by, is_updated, is_wanted, restarts_for, slot_at, slot_needs, up_aim}
use Rattle.run_model.specs.Rolling.{is_added, is_awaited, is_held_back, is_rolled, roll_of, run_actions, waits_for}
use Rattle.run_model.proofs.DistinctLists.{among_places, at_place, from_place}
use Rattle.run_model.proofs.PlanLaws.{some_from}
use Rattle.plan_core.specs.Order.{HasNoCycle}
use Rattle.plan_core.proofs.OrderlyPlans.{any_among, down_needs, rank_down, total, within_total}
use Rattle.plan_core.proofs.Orders.{among_find, orderly}
use Rattle.run_laws.specs.Orders.{NeedsDependencies, RunsAreOrderly}
use Rattle.run_laws.proofs.Rolled.{AreOne, both_parts, in_own_way, of_one, waits}

-- a place that is there
there : {X : Type 0} (xs : List X) (i : ℕ) → i < length xs → (x : X) × (slice_get xs i ≡ Some x)
there [] i h = absurd (omega (arith, h))
there (x ∷ xs) zero h = (x, refl)
there (x ∷ xs) (suc i) h = there xs i (omega (arith, h))

-- one of two tests passes
either : (x y : Bool) → (x || y) ≡ true → (x ≡ true) ⊎ (y ≡ true)
either true y e = inl refl
either false y e = inr e

-- a look-up finds something where something passes
finds : {X : Type 0} (p : X → Bool) (xs : List X) (x : X) → Among xs x → p x ≡ true → (y : X) × (find p xs ≡ Some y)
finds p [] x m e = absurd m
finds p (y ∷ ys) x (inl same) e = (y, let t : p y ≡ true = ap p (sym same) ∙ e in rw t refl)
finds {X} p (y ∷ ys) x (inr m) e = at (p y) refl (finds p ys x m e)
  where
    at : (b : Bool) → p y ≡ b → (z : X) × (find p ys ≡ Some z) → (z : X) × (cond b (Some y) (find p ys) ≡ Some z)
    at true h r = (y, refl)
    at false h r = r

-- sums of numbers, each with as many places between two heights as are wanted
above : (b h g n m : ℕ) → h < g → n < b → h * b + n < g * b + m
above b h g n m less within =
    let product = mul-le (h + 1) b g b (omega (arith, less)) (omega arith) in
    let more : (h + 1) * b ≡ h * b + b = grind arith in
    omega (arith, product, more, within)

beside : (p q m n : ℕ) → p ≡ q → m < n → q + m < p + n
beside p q m n e h = omega (arith, e, h)

between : (a b c d : ℕ) → a ≡ b → c ≡ d → b < d → a < c
between a b c d e f h = omega (arith, e, f, h)

create_after : (a b k x y : ℕ) → a ≡ b → b ≡ 5 * k + 1 → k ≡ x → y ≡ x → a + 1 < 5 * y + 3
create_after a b k x y e f g h = omega (arith, e, f, g, h)

stop_of : (a b k x y : ℕ) → a ≡ b → b ≡ 5 * k + 1 → k ≡ x → y ≡ x → a ≡ 5 * y + 1
stop_of a b k x y e f g h = omega (arith, e, f, g, h)

module _ (declared : Declared) (seen : Seen) (orphans : Bool) (whole : IsWhole declared) (small : HasSmallNumbers declared)
    (cycle : HasNoCycle declared) (follows : NeedsDependencies declared) where
  abbrev up : Basis
  up = basis_of declared seen (up_aim orphans)

  abbrev number_at : ℕ → ℕ
  number_at s = option_map_or (λ (slot : Slot). slot.number) (slot_at declared s) 0

  -- more than any slot's number
  abbrev bound : ℕ
  bound = total number_at (places declared.slots) + 1

  bounded : (s : ℕ) (slot : Slot) → slot_at declared s ≡ Some slot → slot.number < bound
  bounded s slot e =
      let within = within_total number_at (places declared.slots) s (among_places declared.slots s slot e) in
      let at : number_at s ≡ slot.number = ap (λ (o : Option Slot). option_map_or (λ (x : Slot). x.number) o 0) e in
      omega (arith, within, at)

  -- where a slot stands: by its service's height, then by its number
  abbrev key_of : Slot → ℕ
  key_of slot = cycle.height slot.service * bound + slot.number

  abbrev key_at : ℕ → ℕ
  key_at s = option_map_or key_of (slot_at declared s) 0

  key_is : (s : ℕ) (slot : Slot) → slot_at declared s ≡ Some slot → key_at s ≡ key_of slot
  key_is s slot e = ap (λ (o : Option Slot). option_map_or key_of o 0) e

  -- whether a container is a rolled slot's
  abbrev is_rolling : Listed → Slot → Bool
  is_rolling row slot = is_of_slot declared.project slot row.labels && is_rolled up slot

  abbrev stop_rank : Listed → ℕ
  stop_rank row = option_map_or (λ (slot : Slot). 5 * key_of slot + 1) (find (is_rolling row) declared.slots) 0

  abbrev stop_at : ℕ → ℕ
  stop_at c = option_map_or stop_rank (slice_get seen.containers c) 0

  abbrev rank : ActionKind → ℕ
  rank (MakeVolume v) = 0
  rank (MakeNetwork n) = 0
  rank (StopContainer c) = stop_at c
  rank (RemoveContainer c) = stop_at c + 1
  rank (CreateSlot s) = 5 * key_at s + 3
  rank (ConnectSlot s k) = 5 * key_at s + 4
  rank (StopKept s) = 5 * key_at s + 4
  rank (StartSlot s) = 5 * key_at s + 5
  rank (RemoveNetwork n) = 0
  rank (RemoveVolume v) = 0

  same_key : (slot other : Slot) → AreOne slot other → key_of slot ≡ key_of other
  same_key slot other one = rw (one.service, one.number) refl

  sunk : (s t : ℕ) (slot other : Slot) (need : Need) → slot_at declared s ≡ Some slot → Among slot.needs need → need.slot ≡ t → slot_at declared t ≡ Some other
      → key_at t < key_at s
  sunk s t slot other need e m same f =
      let leads = follows s slot other need e m (ap (slot_at declared) same ∙ f) in
      let sinks = cycle.sinks leads.service other.service leads.there leads.depends in
      let height = ap cycle.height leads.own in
      between (key_at t) (key_of other) (key_at s) (key_of slot) (key_is t other f) (key_is s slot e)
      (above bound (cycle.height other.service) (cycle.height slot.service) other.number slot.number (omega (arith, sinks, height)) (bounded t other f))

  -- no service replaces none at a time
  rolls : (slot : Slot) → roll_of declared slot ≡ Some 0 → ⊥
  rolls slot e = at (find (λ (service : DeclaredService). bytes_eq service.key slot.service) declared.services) refl e
    where
      at : (o : Option DeclaredService) → find (λ (service : DeclaredService). bytes_eq service.key slot.service) declared.services ≡ o
          → option_and_then (λ (service : DeclaredService). service.roll) o ≡ Some 0 → ⊥
      at None h k = absurd (cc k)
      at (Some service) h k = whole.rolls service (among_find _ declared.services service h).0 k

  -- a slot that is waited for stands before
  waited : (s t : ℕ) (slot other : Slot) → slot_at declared s ≡ Some slot → slot_at declared t ≡ Some other → waits_for up slot other ≡ true → key_at t < key_at s
  waited s t slot other e f w =
      let known = waits up slot other (rolls slot) w in
      between (key_at t) (key_of other) (key_at s) (key_of slot) (key_is t other f) (key_is s slot e)
      (beside (cycle.height slot.service * bound) (cycle.height other.service * bound) other.number slot.number
      (ap (λ (service : List ℕ). cycle.height service * bound) known.same) known.less)

  -- the stop of a container in the way of a slot stands before the slot's create
  in_way : (s c : ℕ) (slot : Slot) (row : Listed) → slot_at declared s ≡ Some slot → slice_get seen.containers c ≡ Some row → is_in_way slot row ≡ true → stop_at c + 1 < 5 * key_at s + 3
  in_way s c slot row e f way = at (find (is_rolling row) declared.slots) refl
    where
      here : key_at s ≡ key_of slot
      here = key_is s slot e

      row_is : stop_at c ≡ stop_rank row
      row_is = ap (λ (o : Option Listed). option_map_or stop_rank o 0) f

      at : (o : Option Slot) → find (is_rolling row) declared.slots ≡ o → stop_at c + 1 < 5 * key_at s + 3
      at None h =
          let none : stop_rank row ≡ 0 = ap (λ (o : Option Slot). option_map_or (λ (x : Slot). 5 * key_of x + 1) o 0) h in
          omega (arith, row_is, none)
      at (Some other) h =
          let found = among_find (is_rolling row) declared.slots other h in
          let parts = and_parts (is_of_slot declared.project other row.labels) _ found.1 in
          let one = in_own_way up small other slot row found.0 (from_place declared.slots s slot e) (from_place seen.containers c row f) parts.1 parts.0 way in
          let same = same_key other slot one in
          let is : stop_rank row ≡ 5 * key_of other + 1 = ap (λ (o : Option Slot). option_map_or (λ (x : Slot). 5 * key_of x + 1) o 0) h in
          create_after (stop_at c) (stop_rank row) (key_of other) (key_of slot) (key_at s) row_is is same here

  -- the stop of a rolled slot's container stands where the slot stands
  own_stop : (s c : ℕ) (slot : Slot) (row : Listed) → slot_at declared s ≡ Some slot → slice_get seen.containers c ≡ Some row → is_of_slot declared.project slot row.labels ≡ true
      → is_rolled up slot ≡ true → stop_at c ≡ 5 * key_at s + 1
  own_stop s c slot row e f of rolled =
      let m = from_place declared.slots s slot e in
      let found = finds (is_rolling row) declared.slots slot m (both_parts (is_of_slot declared.project slot row.labels) _ of rolled) in
      let other = among_find (is_rolling row) declared.slots found.0 found.1 in
      let parts = and_parts (is_of_slot declared.project found.0 row.labels) _ other.1 in
      let same = same_key found.0 slot (of_one declared small found.0 slot row.labels other.0 m parts.0 of) in
      let row_is : stop_at c ≡ stop_rank row = ap (λ (o : Option Listed). option_map_or stop_rank o 0) f in
      let is : stop_rank row ≡ 5 * key_of found.0 + 1 = ap (λ (o : Option Slot). option_map_or (λ (x : Slot). 5 * key_of x + 1) o 0) found.1 in
      stop_of (stop_at c) (stop_rank row) (key_of found.0) (key_of slot) (key_at s) row_is is same (key_is s slot e)

  needed : (kind other : ActionKind) → is_wanted up kind ≡ true → is_needed_by up kind other ≡ true → rank other < rank kind
  needed (StopContainer c) (RemoveContainer d) w e = absurd (cc e)
  needed (RemoveContainer c) (StopContainer d) w e = let same : c ≡ d = eqb-true c d e in let h = ap stop_at same in omega (arith, h)
  needed (CreateSlot s) (RemoveContainer c) w e =
      let slot = some_from _ (slot_at declared s) e in
      let row = some_from (is_in_way slot.0) (slice_get seen.containers c) slot.2 in
      in_way s c slot.0 row.0 slot.1 row.1 row.2
  needed (CreateSlot s) (MakeNetwork n) w e = omega arith
  needed (CreateSlot s) (MakeVolume v) w e = omega arith
  needed (ConnectSlot s k) (CreateSlot t) w e = let same : s ≡ t = eqb-true s t e in let h = ap key_at same in omega (arith, h)
  needed (ConnectSlot s k) (MakeNetwork n) w e = omega arith
  needed (StopKept s) (StartSlot t) w e =
      let slot = some_from (restarts_for declared seen t) (slot_at declared s) e in
      let need = any_among (λ (n : Need). (n.slot == t) && asks_restart declared seen n) slot.0.needs slot.2 in
      let parts = and_parts (need.0.slot == t) _ need.2 in
      let same : need.0.slot ≡ t = eqb-true need.0.slot t parts.0 in
      let updated = some_from (is_updated declared seen) (slot_at declared need.0.slot) (and_parts need.0.restart _ parts.1).1 in
      let less = sunk s t slot.0 updated.0 need.0 slot.1 need.1 same (sym (ap (slot_at declared) same) ∙ updated.1) in
      omega (arith, less)
  needed (StartSlot s) (CreateSlot t) w e = let same : s ≡ t = eqb-true s t e in let h = ap key_at same in omega (arith, h)
  needed (StartSlot s) (StopKept t) w e = let same : s ≡ t = eqb-true s t e in let h = ap key_at same in omega (arith, h)
  needed (StartSlot s) (ConnectSlot t k) w e = let same : s ≡ t = eqb-true s t e in let h = ap key_at same in omega (arith, h)
  needed (RemoveNetwork n) (RemoveContainer c) w e = absurd (cc w)
  needed (RemoveVolume v) (RemoveContainer c) w e = absurd (cc w)
  needed _ _ w e = absurd (cc e)

  added : (kind other : ActionKind) → is_added up kind other ≡ true → rank other < rank kind
  added (StopContainer c) (StartSlot t) e =
      let row = some_from _ (slice_get seen.containers c) e in
      let other = some_from (is_held_back up row.0) (slot_at declared t) row.2 in
      let parts = and_parts (is_live row.0.state) _ other.2 in
      let slot = any_among (λ (x : Slot). is_of_slot declared.project x row.0.labels && waits_for up x other.0) declared.slots parts.1 in
      let both = and_parts (is_of_slot declared.project slot.0 row.0.labels) _ slot.2 in
      let place = at_place declared.slots slot.0 slot.1 in
      let known = waits up slot.0 other.0 (rolls slot.0) both.1 in
      let stop = own_stop place.0 c slot.0 row.0 place.1 row.1 both.0 known.rolled in
      let less = waited place.0 t slot.0 other.0 place.1 other.1 both.1 in
      omega (arith, stop, less)
  added (StopKept s) (StartSlot t) e =
      let slot = some_from _ (slot_at declared s) e in
      let other = some_from (waits_for up slot.0) (slot_at declared t) slot.2 in
      let less = waited s t slot.0 other.0 slot.1 other.1 other.2 in
      omega (arith, less)
  added (StartSlot s) (StopContainer c) e =
      let slot = some_from _ (slot_at declared s) e in
      let parts = and_parts (is_rolled up slot.0) _ slot.2 in
      let row = some_from (λ (r : Listed). is_of_slot declared.project slot.0 r.labels) (slice_get seen.containers c) parts.1 in
      let stop = own_stop s c slot.0 row.0 slot.1 row.1 row.2 parts.0 in
      omega (arith, stop)
  added _ _ e = absurd (cc e)

  pub orderly_up : IsOrderly declared (run_actions up)
  orderly_up = orderly up (is_awaited up) rank (record { needs = needs; starts = starts })
    where
      needs : (kind other : ActionKind) → is_wanted up kind ≡ true → is_wanted up other ≡ true → is_awaited up kind other ≡ true → rank other < rank kind
      needs kind other w v e = ⊎_elim (needed kind other w) (added kind other) (either (is_needed_by up kind other) (is_added up kind other) e)

      starts : (s : ℕ) (need : Need) → is_wanted up (StartSlot s) ≡ true → Among (slot_needs declared (Some (StartSlot s))) need → rank (StartSlot need.slot) < rank (StartSlot s)
      starts s need wanted m = at (slot_at declared s) refl m
        where
          at : (o : Option Slot) → slot_at declared s ≡ o → Among (option_map_or (λ (slot : Slot). slot.needs) o []) need → 5 * key_at need.slot + 5 < 5 * key_at s + 5
          at None e k = absurd k
          at (Some slot) e k =
              let other = there declared.slots need.slot (whole.needs slot need (from_place declared.slots s slot e) k) in
              let less = sunk s need.slot slot other.0 need e k refl other.1 in
              omega (arith, less)

module _ (declared : Declared) (seen : Seen) (orphans volumes : Bool) (cycle : HasNoCycle declared) where
  abbrev down : Basis
  down = basis_of declared seen (down_aim orphans volumes)

  pub orderly_down : IsOrderly declared (run_actions down)
  orderly_down = orderly down (is_awaited down) (rank_down declared seen orphans volumes cycle) (record { needs = needs; starts = λ s need wanted m. absurd (cc wanted) })
    where
      -- starts are wanted by `up` alone, so a rolling update adds nothing
      none : (kind other : ActionKind) → is_wanted down kind ≡ true → is_wanted down other ≡ true → is_added down kind other ≡ true → ⊥
      none (StopContainer c) (StartSlot t) w v e = absurd (cc v)
      none (StopKept s) (StartSlot t) w v e = absurd (cc v)
      none (StartSlot s) (StopContainer c) w v e = absurd (cc w)
      none _ _ w v e = absurd (cc e)

      needs : (kind other : ActionKind) → is_wanted down kind ≡ true → is_wanted down other ≡ true → is_awaited down kind other ≡ true
          → rank_down declared seen orphans volumes cycle other < rank_down declared seen orphans volumes cycle kind
      needs kind other w v e =
          ⊎_elim (λ n. down_needs declared seen orphans volumes cycle kind other n) (λ a. absurd (none kind other w v a)) (either (is_needed_by down kind other) (is_added down kind other) e)

pub runs_are_orderly : RunsAreOrderly
runs_are_orderly declared seen orphans volumes whole small cycle follows =
    (orderly_up declared seen orphans whole small cycle follows, orderly_down declared seen orphans volumes cycle)
