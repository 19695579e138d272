-- What is looked up is what a rolling update adds.
use Rattle.std.proofs.Common.{◌≡◌, ℕ, Bool, true, false, ◌==◌, ◌&&◌, List, [], Option, Some, None, Result, Ok, Err, IfOk, Vec, Global, slice_get, unwrap_or, refl, sym, ap, ◌∙◌, subst}
use Rattle.std.specs.Prelude.{filter, flat_map}
use Rattle.std.specs.Option.{option_map_or}
use Rattle.std.proofs.lemmas.Bool.{and_from, and_parts, eq-eqb, eqb-true, false_from_ne_true}
use Rattle.std.proofs.lemmas.List.Elements.{filter_agree}
use Rattle.engine_types.specs.declared.Action.{Action}
use Rattle.engine_types.specs.declared.ActionKind.{ActionKind}
use Rattle.engine_types.specs.declared.ActionKind.TheVariants.{StopContainer, StopKept, StartSlot}
use Rattle.engine_types.specs.declared.Listed.{Listed}
use Rattle.engine_types.specs.declared.Slot.{Slot}
use Rattle.run_model.specs.EngineRules.{Among, is_live}
use Rattle.run_model.specs.Labels.{is_of_slot}
use Rattle.run_model.specs.Numbers.{places}
use Rattle.run_model.specs.Plans.{Basis, is_start_of, kind_of, slot_at}
use Rattle.run_model.specs.Rolling.{is_added, is_held_back, is_rolled, waits_for}
use Rattle.run_model.proofs.DistinctLists.{among_filter, among_flat_map, among_places, at_place, from_filter, from_flat_map, from_place}
use Rattle.run_model.proofs.KeptLaws.{any_from_list, any_of_list}
use Rattle.run_model.proofs.PlanLaws.{some_from}
use Rattle.plan_core.specs.Keeping.{is_slots_at}
use Rattle.plan_core.proofs.Loops.{filter-none, slice_get-map}
use Rattle.world_laws.proofs.ActionRequests.{map_from}
use Rattle.rolling_update.specs.Needs.{AreAdded, AreWaited, Given, Scene, is_added_at, is_rolled_at, kinds_in, owns, rolled_basis, starts_at, starts_before, starts_of, stops_at, stops_its, stops_of, waits_at}
use Rattle.rolling_update.proofs.Found.{same_tests}

module _ (given : Given) where
  abbrev scene : Scene
  scene = given.scene

  abbrev basis : Basis
  basis = rolled_basis given

  abbrev kinds : List ActionKind
  kinds = kinds_in given.actions

  kind_is : (b : ℕ) → slice_get kinds b ≡ kind_of given.actions b
  kind_is b = slice_get-map (λ (action : Action). action.kind) given.actions b

  added_is : (kind : ActionKind) (b : ℕ) → is_added_at basis kinds kind b ≡ option_map_or (is_added basis kind) (kind_of given.actions b) false
  added_is kind b = ap (λ (o : Option ActionKind). option_map_or (is_added basis kind) o false) (kind_is b)

  -- an action is there where one is of a kind
  there : (b : ℕ) (kind : ActionKind) → kind_of given.actions b ≡ Some kind → Among (places given.actions) b
  there b kind e = let action = map_from (λ (a : Action). a.kind) (slice_get given.actions b) kind e in among_places given.actions b action.0 action.1

  -- the places that pass are those that are added
  passing : (kind : ActionKind) → AreAdded given kind (filter (is_added_at basis kinds kind) (places given.actions))
  passing kind b = (
    λ m. (from_filter (is_added_at basis kinds kind) (places given.actions) b m).0,
    λ e. let other = some_from (is_added basis kind) (slice_get kinds b) e in
        among_filter (is_added_at basis kinds kind) (places given.actions) b e (there b other.0 (sym (kind_is b) ∙ other.1)),
  )

  -- and so are places that pass by an equal test
  pub passing_by : (kind : ActionKind) (test : ℕ → Bool) → ((b : ℕ) → test b ≡ is_added_at basis kinds kind b) → AreAdded given kind (filter test (places given.actions))
  passing_by kind test same =
      subst (λ (numbers : List ℕ). AreAdded given kind numbers) (sym (filter_agree test (is_added_at basis kinds kind) same (places given.actions))) (passing kind)

  pub before_added : (s : ℕ) → AreAdded given (StopKept s) (starts_before given s)
  before_added s = passing (StopKept s)

  none_before : (s : ℕ) → ((t : ℕ) → waits_at scene s t ≡ true → ⊥) → (other : ActionKind) → is_added basis (StopKept s) other ≡ false
  none_before s none (StartSlot t) = false_from_ne_true (waits_at scene s t) (none t)
  none_before s none _ = refl

  module _ (waited : List (Option ℕ)) (are : AreWaited scene waited) (s : ℕ) where
    -- the start of the slot for which one waits
    pub one_before : (t : ℕ) → slice_get waited s ≡ Some (Some t) → starts_of given.actions t ≡ starts_before given s
    one_before t e =
        filter_agree (starts_at given.actions t) (is_added_at basis kinds (StopKept s)) (λ b. at (kind_of given.actions b) ∙ sym (added_is (StopKept s) b)) (places given.actions)
      where
        at : (o : Option ActionKind) → is_start_of t o ≡ option_map_or (is_added basis (StopKept s)) o false
        at None = refl
        at (Some (StartSlot u)) = same_tests (u == t) (waits_at scene s u)
            (λ h. (are s u).0 (e ∙ ap (λ (n : ℕ). Some (Some n)) (sym (eqb-true u t h))))
            (λ h. let same : Some (Some u) ≡ Some (Some t) = sym ((are s u).1 h) ∙ e in eq-eqb u t (cc same))
        at (Some _) = refl

    -- none, where it waits for none
    pub nothing_before : ((t : ℕ) → slice_get waited s ≡ Some (Some t) → ⊥) → starts_before given s ≡ []
    nothing_before none =
        filter-none (is_added_at basis kinds (StopKept s)) (λ b. added_is (StopKept s) b ∙ at (kind_of given.actions b)) (places given.actions)
      where
        at : (o : Option ActionKind) → option_map_or (is_added basis (StopKept s)) o false ≡ false
        at None = refl
        at (Some other) = none_before s (λ t h. none t ((are s t).1 h)) other

  -- what the stop of a container needs, by its slots
  module _ (c : ℕ) where
    abbrev held : ℕ → Bool
    held b = is_added_at basis kinds (StopContainer c) b

    -- a start that is needed is of a slot for which one of the container's waits
    held_by : (b : ℕ) → held b ≡ true → (option_map_or (λ (row : Listed). is_live row.state) (slice_get scene.seen.containers c) false ≡ true)
        × Among (flat_map (starts_before given) (filter (owns scene c) (places scene.declared.slots))) b
    held_by b e = at (kind_of given.actions b) refl (sym (added_is (StopContainer c) b) ∙ e)
      where
        at : (o : Option ActionKind) → kind_of given.actions b ≡ o → option_map_or (is_added basis (StopContainer c)) o false ≡ true
            → (option_map_or (λ (row : Listed). is_live row.state) (slice_get scene.seen.containers c) false ≡ true)
            × Among (flat_map (starts_before given) (filter (owns scene c) (places scene.declared.slots))) b
        at None k f = absurd (cc f)
        at (Some (StartSlot t)) k f =
            let row = some_from (λ (r : Listed). option_map_or (is_held_back basis r) (slot_at scene.declared t) false) (slice_get scene.seen.containers c) f in
            let other = some_from (is_held_back basis row.0) (slot_at scene.declared t) row.2 in
            let parts = and_parts (is_live row.0.state) _ other.2 in
            let slot = any_from_list (λ (x : Slot). is_of_slot scene.declared.project x row.0.labels && waits_for basis x other.0) scene.declared.slots parts.1 in
            let both = and_parts (is_of_slot scene.declared.project slot.0 row.0.labels) (waits_for basis slot.0 other.0) slot.2 in
            let s = at_place scene.declared.slots slot.0 slot.1 in
            let ours : owns scene c s.0 ≡ true = ap (λ (o : Option Slot). option_map_or (λ (x : Slot). is_slots_at scene.declared scene.seen x c) o false) s.1
            ∙ ap (λ (o : Option Listed). option_map_or (λ (r : Listed). is_of_slot scene.declared.project slot.0 r.labels) o false) row.1 ∙ both.0 in
            let waits : waits_at scene s.0 t ≡ true = ap (λ (o : Option Slot). option_map_or (λ (x : Slot). option_map_or (waits_for basis x) (slot_at scene.declared t) false) o false) s.1
            ∙ ap (λ (o : Option Slot). option_map_or (waits_for basis slot.0) o false) other.1 ∙ both.1 in
            let needed : is_added_at basis kinds (StopKept s.0) b ≡ true = added_is (StopKept s.0) b ∙ ap (λ (o : Option ActionKind). option_map_or (is_added basis (StopKept s.0)) o false) k ∙ waits in (
              ap (λ (o : Option Listed). option_map_or (λ (r : Listed). is_live r.state) o false) row.1 ∙ parts.0,
              among_flat_map (starts_before given) (filter (owns scene c) (places scene.declared.slots)) s.0 b
                  (among_filter (owns scene c) (places scene.declared.slots) s.0 ours (among_places scene.declared.slots s.0 slot.0 s.1)) ((before_added s.0 b).1 needed),
            )
        at (Some _) k f = absurd (cc f)

    -- and such a start is needed
    by_held : (b : ℕ) → option_map_or (λ (row : Listed). is_live row.state) (slice_get scene.seen.containers c) false ≡ true
        → Among (flat_map (starts_before given) (filter (owns scene c) (places scene.declared.slots))) b → held b ≡ true
    by_held b live m =
        let s = from_flat_map (starts_before given) (filter (owns scene c) (places scene.declared.slots)) b m in
        let ours = (from_filter (owns scene c) (places scene.declared.slots) s.0 s.1).0 in
        let needed = (before_added s.0 b).0 s.2 in
        at s.0 ours (kind_of given.actions b) refl (sym (added_is (StopKept s.0) b) ∙ needed)
      where
        at : (s : ℕ) → owns scene c s ≡ true → (o : Option ActionKind) → kind_of given.actions b ≡ o → option_map_or (is_added basis (StopKept s)) o false ≡ true → held b ≡ true
        at s ours None k f = absurd (cc f)
        at s ours (Some (StartSlot t)) k f =
            let slot = some_from (λ (x : Slot). is_slots_at scene.declared scene.seen x c) (slot_at scene.declared s) ours in
            let row = some_from (λ (r : Listed). is_of_slot scene.declared.project slot.0 r.labels) (slice_get scene.seen.containers c) slot.2 in
            let waits : option_map_or (waits_for basis slot.0) (slot_at scene.declared t) false ≡ true
            = sym (ap (λ (o : Option Slot). option_map_or (λ (x : Slot). option_map_or (waits_for basis x) (slot_at scene.declared t) false) o false) slot.1) ∙ f in
            let other = some_from (waits_for basis slot.0) (slot_at scene.declared t) waits in
            let is_live_row : is_live row.0.state ≡ true = sym (ap (λ (o : Option Listed). option_map_or (λ (r : Listed). is_live r.state) o false) row.1) ∙ live in
            let back : is_held_back basis row.0 other.0 ≡ true = and_from _ _ is_live_row
            (any_of_list (λ (x : Slot). is_of_slot scene.declared.project x row.0.labels && waits_for basis x other.0) scene.declared.slots slot.0 (from_place scene.declared.slots s slot.0 slot.1) (and_from _ _ row.2 other.2)) in
            added_is (StopContainer c) b ∙ ap (λ (o : Option ActionKind). option_map_or (is_added basis (StopContainer c)) o false) k
            ∙ ap (λ (o : Option Listed). option_map_or (λ (r : Listed). option_map_or (is_held_back basis r) (slot_at scene.declared t) false) o false) row.1
            ∙ ap (λ (o : Option Slot). option_map_or (is_held_back basis row.0) o false) other.1 ∙ back
        at s ours (Some _) k f = absurd (cc f)

    pub held_added : option_map_or (λ (row : Listed). is_live row.state) (slice_get scene.seen.containers c) false ≡ true
        → AreAdded given (StopContainer c) (flat_map (starts_before given) (filter (owns scene c) (places scene.declared.slots)))
    held_added live b = (λ m. by_held b live m, λ e. (held_by b e).1)

  -- what the start of a slot needs
  module _ (s : ℕ) where
    pub stops_added : (slot : Slot) → slot_at scene.declared s ≡ Some slot → is_rolled basis slot ≡ true → AreAdded given (StartSlot s) (stops_of given slot)
    stops_added slot is rolled = passing_by (StartSlot s) (stops_at given slot) (λ b. at (kind_of given.actions b) ∙ sym (added_is (StartSlot s) b))
      where
        at : (o : Option ActionKind) → stops_its scene slot o ≡ option_map_or (is_added basis (StartSlot s)) o false
        at None = refl
        at (Some (StopContainer c)) = sym (ap (λ (o : Option Slot). option_map_or (λ (x : Slot). is_rolled basis x && is_slots_at scene.declared scene.seen x c) o false) is
            ∙ ap (λ (t : Bool). t && is_slots_at scene.declared scene.seen slot c) rolled)
        at (Some _) = refl

-- what is read at a place of options
pub one_at : (waited : List (Option ℕ)) (s t : ℕ) → Some t ≡ unwrap_or (slice_get waited s) None → slice_get waited s ≡ Some (Some t)
one_at waited s t e = at (slice_get waited s) e
  where
    at : (o : Option (Option ℕ)) → Some t ≡ unwrap_or o None → o ≡ Some (Some t)
    at None h = absurd (cc h)
    at (Some u) h = ap (λ (v : Option ℕ). Some v) (sym h)

pub none_at : (waited : List (Option ℕ)) (s : ℕ) → None ≡ unwrap_or (slice_get waited s) None → (t : ℕ) → slice_get waited s ≡ Some (Some t) → ⊥
none_at waited s e t h = let bad : None ≡ Some t = e ∙ ap (λ (o : Option (Option ℕ)). unwrap_or o None) h in cc bad

-- the starts before a container's slots are what its stop is made to need
pub by_owners : {E : Type 0} (given : Given) (c : ℕ) (result : Result (Vec ℕ Global) E) (numbers : List ℕ) → numbers ≡ filter (owns given.scene c) (places given.scene.declared.slots)
    → option_map_or (λ (row : Listed). is_live row.state) (slice_get given.scene.seen.containers c) false ≡ true
    → IfOk result (λ added. added.items ≡ flat_map (starts_before given) numbers) → IfOk result (λ added. AreAdded given (StopContainer c) added.items)
by_owners given c (Ok added) numbers is live e =
    subst (λ (ns : List ℕ). AreAdded given (StopContainer c) ns) (sym (e ∙ ap (flat_map (starts_before given)) is)) (held_added given c live)
by_owners given c (Err x) numbers is live e = tt

-- the stops of a rolled slot's containers are what its start is made to need
pub by_stops : {E : Type 0} (given : Given) (s : ℕ) (slot : Slot) (result : Result (Vec ℕ Global) E) (found : List ℕ) → slot_at given.scene.declared s ≡ Some slot → is_rolled_at given.scene s ≡ true
    → filter (stops_at given slot) found ≡ stops_of given slot → IfOk result (λ stops. stops.items ≡ filter (stops_at given slot) found)
    → IfOk result (λ stops. AreAdded given (StartSlot s) stops.items)
by_stops given s slot (Ok stops) found is passes all e =
    let rolled : is_rolled (rolled_basis given) slot ≡ true = sym (ap (λ (o : Option Slot). option_map_or (is_rolled (rolled_basis given)) o false) is) ∙ passes in
    subst (λ (ns : List ℕ). AreAdded given (StartSlot s) ns) (sym (e ∙ all)) (stops_added given s slot is rolled)
by_stops given s slot (Err x) found is passes all e = tt
