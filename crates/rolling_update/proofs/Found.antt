-- What is looked up under a text is what is looked for among all.
use Rattle.std.proofs.Common.{◌≡◌, ℕ, suc, ◌+◌, ◌<◌, ◌≤◌, Bool, true, false, cond, not, ◌&&◌, ◌||◌, List, [], ◌∷◌, length, map, Option, Some, None, Result, Ok, Err, IfOk, get_or, slice_get, refl, sym, ap, ◌∙◌, subst, arith}
use Rattle.std.specs.Prelude.{filter, find, option_and_then}
use Rattle.std.specs.List.{list_any}
use Rattle.std.specs.Option.{option_map, option_map_or}
use Rattle.std.specs.Str.{bytes_eq}
use Rattle.std.proofs.lemmas.Bool.{and_parts, eq-eqb, eqb-true, false_from_ne_true}
use Rattle.std.proofs.lemmas.Slice.Eq.{bytes_eq-Decides}
use Rattle.engine_types.specs.declared.Action.{Action}
use Rattle.engine_types.specs.declared.ActionKind.{ActionKind}
use Rattle.engine_types.specs.declared.ActionKind.TheVariants.{StopContainer, StartSlot}
use Rattle.engine_types.specs.declared.Declared.{Declared}
use Rattle.engine_types.specs.declared.DeclaredService.{DeclaredService}
use Rattle.engine_types.specs.declared.Listed.{Listed}
use Rattle.engine_types.specs.declared.Slot.{Slot}
use Rattle.run_model.specs.EngineRules.{is_of_project}
use Rattle.run_model.specs.Labels.{is_of_slot, names_slot}
use Rattle.run_model.specs.Numbers.{places}
use Rattle.run_model.specs.Plans.{Basis, basis_of, is_start_of, is_unstarted, kind_of, slot_at, up_aim}
use Rattle.run_model.specs.Rolling.{has_name_of_another, has_seen, is_crossed, is_same_slot, roll_of}
use Rattle.run_model.proofs.DistinctLists.{among_places}
use Rattle.run_model.proofs.KeptLaws.{any_from_list, any_of_list}
use Rattle.run_model.proofs.PlanLaws.{planned_is_plan, some_from}
use Rattle.plan_core.specs.Finding.{container_text, slot_seen, slot_text, slot_text_at}
use Rattle.plan_core.specs.Index.{is_under, numbers_under, places_under}
use Rattle.plan_core.specs.Keeping.{containers_under, is_slots_at, texts_under}
use Rattle.plan_core.proofs.SlotRows.{any_rows, any_under, filtered, under_one}
use Rattle.plan_core.proofs.SlotTexts.{named_text, under_mapped}
use Rattle.world_laws.proofs.ActionRequests.{map_from}
use Rattle.rolling_update.specs.Needs.{Given, IsUpPlan, Scene, is_other_at, is_seen_at, owns, rolling, starts_at, starts_of, step_text, step_text_of, stops_at, stops_its, stops_of, stray_services, strays}

-- two tests that pass together are equal
pub same_tests : (a b : Bool) → (a ≡ true → b ≡ true) → (b ≡ true → a ≡ true) → a ≡ b
same_tests true b f g = sym (f refl)
same_tests false b f g = sym (false_from_ne_true b (λ e. let bad : false ≡ true = g e in cc bad))

-- a text is compared either way
eq_back : (s t : List ℕ) → bytes_eq s t ≡ bytes_eq t s
eq_back s t = same_tests (bytes_eq s t) (bytes_eq t s)
    (λ e. (bytes_eq-Decides t s).1 (sym ((bytes_eq-Decides s t).0 e)))
    (λ e. (bytes_eq-Decides s t).1 (sym ((bytes_eq-Decides t s).0 e)))

-- a place is itself
at_start : {X : Type 0} (xs : List X) (k : ℕ) → slice_get xs (0 + k) ≡ slice_get xs k
at_start xs k = let same : 0 + k ≡ k = omega arith in ap (slice_get xs) same

-- what is at a place is one
one_at : {X : Type 0} (xs : List X) (k : ℕ) (x y : X) → slice_get xs k ≡ Some x → slice_get xs (0 + k) ≡ Some y → y ≡ x
one_at xs k x y e f = let same : Some y ≡ Some x = sym f ∙ at_start xs k ∙ e in cc same

-- the numbers under a text of which texts were made of elements
under_made : {X : Type 0} (f : X → List ℕ) (xs : List X) (key : List ℕ)
    → numbers_under (texts_under (map f xs)) key ≡ numbers_under (places_under (λ (x : X). f x ∷ []) 0 xs) key
under_made f xs key = ap (λ (entries : List (List ℕ × ℕ)). numbers_under entries key) (under_mapped f 0 xs)

-- labels of a slot's container have the slot's text
of_slot_text : (project : List ℕ) (slot : Slot) (row : Listed) → is_of_slot project slot row.labels ≡ true → container_text row ≡ slot_text slot
of_slot_text project slot row e = named_text slot row.labels (and_parts (is_of_project project row.labels) (names_slot slot row.labels) e).1

module _ (scene : Scene) where
  abbrev rows : List Listed
  rows = scene.seen.containers

  abbrev slots : List Slot
  slots = scene.declared.slots

  -- a slot's container is found under the slot's text
  pub seen_found : (slot : Slot) (holds : Listed → Bool)
      → list_any (is_seen_at scene slot holds) (numbers_under (containers_under scene.seen) (slot_text slot)) ≡ has_seen scene.declared scene.seen slot holds
  seen_found slot holds =
      ap (list_any (is_seen_at scene slot holds)) (under_made container_text rows (slot_text slot))
      ∙ any_under container_text (slot_text slot) (is_seen_at scene slot holds) 0 rows only
      ∙ any_rows (λ (row : Listed). row.id) (λ (row : Listed). is_of_slot scene.declared.project slot row.labels && holds row) (slice_get rows) 0 rows (at_start rows)
    where
      only : (k : ℕ) (row : Listed) → slice_get rows k ≡ Some row → is_seen_at scene slot holds (0 + k) ≡ true → container_text row ≡ slot_text slot
      only k row e t =
          let other = some_from (λ (r : Listed). is_of_slot scene.declared.project slot r.labels && holds r) (slice_get rows (0 + k)) t in
          let same = one_at rows k row other.0 e other.1 in
          ap container_text (sym same) ∙ of_slot_text scene.declared.project slot other.0 (and_parts (is_of_slot scene.declared.project slot other.0.labels) (holds other.0) other.2).0

  -- a slot with a name is found under it
  pub others_found : (slot : Slot) (row : Listed)
      → list_any (is_other_at scene.declared slot row) (numbers_under (texts_under (map (λ (s : Slot). s.name) slots)) row.name)
      ≡ has_name_of_another scene.declared slot row
  others_found slot row =
      ap (list_any (is_other_at scene.declared slot row)) (under_made (λ (s : Slot). s.name) slots row.name)
      ∙ any_under (λ (s : Slot). s.name) row.name (is_other_at scene.declared slot row) 0 slots only
      ∙ any_rows (λ (s : Slot). s.name) (λ (other : Slot). not (is_same_slot slot other) && bytes_eq row.name other.name) (slice_get slots) 0 slots (at_start slots)
    where
      only : (k : ℕ) (other : Slot) → slice_get slots k ≡ Some other → is_other_at scene.declared slot row (0 + k) ≡ true → other.name ≡ row.name
      only k other e t =
          let found = some_from (λ (s : Slot). not (is_same_slot slot s) && bytes_eq row.name s.name) (slice_get slots (0 + k)) t in
          let same = one_at slots k other found.0 e found.1 in
          ap (λ (s : Slot). s.name) (sym same) ∙ sym ((bytes_eq-Decides row.name found.0.name).0 (and_parts (not (is_same_slot slot found.0)) (bytes_eq row.name found.0.name) found.2).1)

  -- a slot of which a container is has the text that the container's labels name
  pub owners_found : (c : ℕ)
      → filter (owns scene c) (numbers_under (texts_under (map slot_text slots)) (slot_seen scene.seen c)) ≡ filter (owns scene c) (places slots)
  owners_found c =
      ap (filter (owns scene c)) (under_made slot_text slots (slot_seen scene.seen c))
      ∙ filtered slot_text (slot_seen scene.seen c) (owns scene c) 0 slots only
    where
      only : (k : ℕ) (slot : Slot) → slice_get slots k ≡ Some slot → owns scene c (0 + k) ≡ true → slot_text slot ≡ slot_seen scene.seen c
      only k slot e t =
          let found = some_from (λ (s : Slot). is_slots_at scene.declared scene.seen s c) (slice_get slots (0 + k)) t in
          let same = one_at slots k slot found.0 e found.1 in
          let row = some_from (λ (r : Listed). is_of_slot scene.declared.project found.0 r.labels) (slice_get rows c) found.2 in
          ap slot_text (sym same) ∙ sym (ap (λ (o : Option Listed). option_map_or container_text o []) row.1 ∙ of_slot_text scene.declared.project found.0 row.0 row.2)

  -- services of slots that stray: a service is crossed where it is among them
  stray_any : (key : List ℕ) (xs : List Slot)
      → list_any (λ (t : List ℕ). list_any (bytes_eq key) (t ∷ [])) (map (λ (s : Slot). s.service) (filter (strays scene) xs))
      ≡ list_any (λ (s : Slot). bytes_eq s.service key && strays scene s) xs
  stray_any key [] = refl
  stray_any key (x ∷ xs) = at (strays scene x) (bytes_eq key x.service) (eq_back key x.service) (stray_any key xs)
    where
      rest : List Slot
      rest = filter (strays scene) xs

      others : Bool
      others = list_any (λ (s : Slot). bytes_eq s.service key && strays scene s) xs

      at : (t u : Bool) → u ≡ bytes_eq x.service key
          → list_any (λ (t : List ℕ). list_any (bytes_eq key) (t ∷ [])) (map (λ (s : Slot). s.service) rest) ≡ others
          → list_any (λ (t : List ℕ). list_any (bytes_eq key) (t ∷ [])) (map (λ (s : Slot). s.service) (cond t (x ∷ rest) rest)) ≡ ((bytes_eq x.service key && t) || others)
      at true u e h = ap (λ (b : Bool). (b || false) || list_any (λ (t : List ℕ). list_any (bytes_eq key) (t ∷ [])) (map (λ (s : Slot). s.service) rest)) (eq_back key x.service)
          ∙ ap (λ (b : Bool). (bytes_eq x.service key || false) || b) h ∙ shorter (bytes_eq x.service key)
        where
          shorter : (b : Bool) → ((b || false) || others) ≡ ((b && true) || others)
          shorter true = refl
          shorter false = refl
      at false u e h = h ∙ none (bytes_eq x.service key)
        where
          none : (b : Bool) → others ≡ ((b && false) || others)
          none true = refl
          none false = refl

  pub crossed_found : (key : List ℕ) → is_under (texts_under (stray_services scene)) key ≡ is_crossed (rolling scene) key
  crossed_found key = under_one (λ (t : List ℕ). t ∷ []) 0 (stray_services scene) key ∙ stray_any key slots

-- and so do the look-ups tell it
pub any_by : {E : Type 0} (scene : Scene) (holds : Slot → Listed → Bool) (slot : Slot) (s : ℕ) (result : Result Bool E) (places : List ℕ) → Some slot ≡ slot_at scene.declared s
    → places ≡ numbers_under (containers_under scene.seen) (slot_text_at scene.declared s) → IfOk result (λ any. any ≡ list_any (is_seen_at scene slot (holds slot)) places)
    → IfOk result (λ any. any ≡ option_map_or (λ x. has_seen scene.declared scene.seen x (holds x)) (slot_at scene.declared s) false)
any_by scene holds slot s (Ok any) places is found e =
    e ∙ ap (list_any (is_seen_at scene slot (holds slot)))
    (found ∙ ap (λ (o : Option Slot). numbers_under (containers_under scene.seen) (option_map_or slot_text o [])) (sym is))
    ∙ seen_found scene slot (holds slot) ∙ ap (λ (o : Option Slot). option_map_or (λ x. has_seen scene.declared scene.seen x (holds x)) o false) is
any_by scene holds slot s (Err x) places is found e = tt

-- the first place under a text is where a look-up finds its element
module _ {X : Type 0} (text : X → List ℕ) (key : List ℕ) where
  abbrev under : ℕ → List X → List ℕ
  under i xs = numbers_under (places_under (λ (x : X). text x ∷ []) i xs) key

  first_found : (i : ℕ) (xs : List X) (whole : List X) → ((j : ℕ) → slice_get whole (i + j) ≡ slice_get xs j)
      → option_and_then (slice_get whole) (slice_get (under i xs) 0) ≡ find (λ x. bytes_eq (text x) key) xs
  first_found i [] whole h = refl
  first_found i (x ∷ xs) whole h = at (bytes_eq key (text x)) (eq_back (text x) key)
      (first_found (i + 1) xs whole (λ j. let n : i + 1 + j ≡ i + suc j = omega arith in ap (slice_get whole) n ∙ h (suc j)))
    where
      entries : List (List ℕ × ℕ)
      entries = filter (λ (entry : List ℕ × ℕ). bytes_eq key entry.0) (places_under (λ (y : X). text y ∷ []) (i + 1) xs)

      at : (b : Bool) → bytes_eq (text x) key ≡ b
          → option_and_then (slice_get whole) (slice_get (map (λ (entry : List ℕ × ℕ). entry.1) entries) 0) ≡ find (λ y. bytes_eq (text y) key) xs
          → option_and_then (slice_get whole) (slice_get (map (λ (entry : List ℕ × ℕ). entry.1) (cond b ((text x, i) ∷ entries) entries)) 0)
          ≡ cond (bytes_eq (text x) key) (Some x) (find (λ y. bytes_eq (text y) key) xs)
      at true e rest = let n : i ≡ i + 0 = omega arith in ap (slice_get whole) n ∙ h 0 ∙ sym (ap (λ (b : Bool). cond b (Some x) (find (λ y. bytes_eq (text y) key) xs)) e)
      at false e rest = rest ∙ sym (ap (λ (b : Bool). cond b (Some x) (find (λ y. bytes_eq (text y) key) xs)) e)

-- how many of a slot's service are replaced at a time, by the first number under its key
pub roll_found : (declared : Declared) (slot : Slot)
    → option_and_then (λ (n : ℕ). option_and_then (λ (service : DeclaredService). service.roll) (slice_get declared.services n))
    (slice_get (numbers_under (texts_under (map (λ (service : DeclaredService). service.key) declared.services)) slot.service) 0)
    ≡ roll_of declared slot
roll_found declared slot =
    twice (slice_get (numbers_under (texts_under (map (λ (service : DeclaredService). service.key) declared.services)) slot.service) 0)
    ∙ ap (λ (ns : List ℕ). option_and_then (λ (service : DeclaredService). service.roll) (option_and_then (slice_get declared.services) (slice_get ns 0)))
    (under_made (λ (service : DeclaredService). service.key) declared.services slot.service)
    ∙ ap (option_and_then (λ (service : DeclaredService). service.roll))
    (first_found (λ (service : DeclaredService). service.key) slot.service 0 declared.services declared.services (at_start declared.services))
  where
    twice : (o : Option ℕ) → option_and_then (λ (n : ℕ). option_and_then (λ (service : DeclaredService). service.roll) (slice_get declared.services n)) o
        ≡ option_and_then (λ (service : DeclaredService). service.roll) (option_and_then (slice_get declared.services) o)
    twice None = refl
    twice (Some n) = refl

-- an action that starts a slot
pub start_is : (s : ℕ) (o : Option ActionKind) → is_start_of s o ≡ true → o ≡ Some (StartSlot s)
start_is s None e = absurd (cc e)
start_is s (Some (StartSlot t)) e = ap (λ (k : ℕ). Some (StartSlot k)) (eqb-true t s e)
start_is s (Some kind) e = absurd (cc e)

-- an action that stops a container of a slot
stop_is : (scene : Scene) (slot : Slot) (o : Option ActionKind) → stops_its scene slot o ≡ true → (c : ℕ) × (o ≡ Some (StopContainer c)) × (is_slots_at scene.declared scene.seen slot c ≡ true)
stop_is scene slot None e = absurd (cc e)
stop_is scene slot (Some (StopContainer c)) e = (c, refl, e)
stop_is scene slot (Some kind) e = absurd (cc e)

-- the kind of an action that is there
kind_at : (actions : List Action) (k : ℕ) (action : Action) (kind : ActionKind) → slice_get actions k ≡ Some action → kind_of actions (0 + k) ≡ Some kind → action.kind ≡ kind
kind_at actions k action kind e f =
    let here : Some action.kind ≡ Some kind = sym (ap (option_map (λ (a : Action). a.kind)) (at_start actions k ∙ e)) ∙ f in cc here

module _ (scene : Scene) (actions : List Action) where
  abbrev steps : List (List ℕ × ℕ)
  steps = texts_under (map (step_text scene) actions)

  only_starts : (s : ℕ) (k : ℕ) (action : Action) → slice_get actions k ≡ Some action → starts_at actions s (0 + k) ≡ true → step_text scene action ≡ slot_text_at scene.declared s
  only_starts s k action e t = ap (step_text_of scene) (kind_at actions k action (StartSlot s) e (start_is s (kind_of actions (0 + k)) t))

  -- a slot's start is found under the slot's text
  pub starts_found : (s : ℕ) → filter (starts_at actions s) (numbers_under steps (slot_text_at scene.declared s)) ≡ starts_of actions s
  starts_found s =
      ap (filter (starts_at actions s)) (under_made (step_text scene) actions (slot_text_at scene.declared s))
      ∙ filtered (step_text scene) (slot_text_at scene.declared s) (starts_at actions s) 0 actions (only_starts s)

  -- a plan of `up` starts a slot exactly where it is to be started
  pub started_found : (s : ℕ) → IsUpPlan scene.declared scene.seen actions
      → list_any (starts_at actions s) (numbers_under steps (slot_text_at scene.declared s)) ≡ option_map_or (is_unstarted (rolling scene)) (slot_at scene.declared s) false
  started_found s plan =
      ap (list_any (starts_at actions s)) (under_made (step_text scene) actions (slot_text_at scene.declared s))
      ∙ any_under (step_text scene) (slot_text_at scene.declared s) (starts_at actions s) 0 actions (only_starts s)
      ∙ same_tests (list_any (starts_at actions s) (places actions)) (option_map_or (is_unstarted (rolling scene)) (slot_at scene.declared s) false) wanted started
    where
      up : Basis
      up = basis_of scene.declared scene.seen (up_aim plan.0)

      wanted : list_any (starts_at actions s) (places actions) ≡ true → option_map_or (is_unstarted (rolling scene)) (slot_at scene.declared s) false ≡ true
      wanted e =
          let b = any_from_list (starts_at actions s) (places actions) e in
          let is = start_is s (kind_of actions b.0) b.2 in
          (planned_is_plan up).wanted b.0 (StartSlot s) (subst (λ (steps : List Action). kind_of steps b.0 ≡ Some (StartSlot s)) plan.1 is)

      started : option_map_or (is_unstarted (rolling scene)) (slot_at scene.declared s) false ≡ true → list_any (starts_at actions s) (places actions) ≡ true
      started e =
          let a = (planned_is_plan up).all (StartSlot s) e in
          let is : kind_of actions a.0 ≡ Some (StartSlot s) = subst (λ (steps : List Action). kind_of steps a.0 ≡ Some (StartSlot s)) (sym plan.1) a.1 in
          let action = map_from (λ (x : Action). x.kind) (slice_get actions a.0) (StartSlot s) is in
          any_of_list (starts_at actions s) (places actions) a.0 (among_places actions a.0 action.0 action.1) (ap (is_start_of s) is ∙ eq-eqb s s refl)

-- the stops of a slot's containers are found under the slot's text
pub stops_found : (given : Given) (s : ℕ) (slot : Slot) → slot_at given.scene.declared s ≡ Some slot
    → filter (stops_at given slot) (numbers_under (texts_under (map (step_text given.scene) given.actions)) (slot_text_at given.scene.declared s)) ≡ stops_of given slot
stops_found given s slot there =
    ap (filter (stops_at given slot)) (under_made (step_text given.scene) given.actions (slot_text_at given.scene.declared s))
    ∙ filtered (step_text given.scene) (slot_text_at given.scene.declared s) (stops_at given slot) 0 given.actions only
  where
    only : (k : ℕ) (action : Action) → slice_get given.actions k ≡ Some action → stops_at given slot (0 + k) ≡ true → step_text given.scene action ≡ slot_text_at given.scene.declared s
    only k action e t =
        let stop = stop_is given.scene slot (kind_of given.actions (0 + k)) t in
        let row = some_from (λ (r : Listed). is_of_slot given.scene.declared.project slot r.labels) (slice_get given.scene.seen.containers stop.0) stop.2 in
        ap (step_text_of given.scene) (kind_at given.actions k action (StopContainer stop.0) e stop.1)
        ∙ ap (λ (o : Option Listed). option_map_or container_text o []) row.1 ∙ of_slot_text given.scene.declared.project slot row.0 row.2
        ∙ sym (ap (λ (o : Option Slot). option_map_or slot_text o []) there)

-- how many are replaced at a time, by what stands first
pub roll_by : (declared : Declared) (slot : Slot) (numbers : List ℕ) → numbers ≡ numbers_under (texts_under (map (λ (service : DeclaredService). service.key) declared.services)) slot.service
    → (o : Option ℕ) → slice_get numbers 0 ≡ o → option_and_then (λ (n : ℕ). option_and_then (λ (service : DeclaredService). service.roll) (slice_get declared.services n)) o ≡ roll_of declared slot
roll_by declared slot numbers is o first =
    ap (option_and_then (λ (n : ℕ). option_and_then (λ (service : DeclaredService). service.roll) (slice_get declared.services n)))
    (sym first ∙ ap (λ (ns : List ℕ). slice_get ns 0) is)
    ∙ roll_found declared slot

pub roll_none : (declared : Declared) (slot : Slot) (numbers : List ℕ) → numbers ≡ numbers_under (texts_under (map (λ (service : DeclaredService). service.key) declared.services)) slot.service
    → length numbers < 1 → None ≡ roll_of declared slot
roll_none declared slot numbers is few = roll_by declared slot numbers is None (at numbers few)
  where
    at : (ns : List ℕ) → length ns < 1 → slice_get ns 0 ≡ None
    at [] l = refl
    at (n ∷ ns) l = absurd (omega (arith, l))

pub roll_some : (declared : Declared) (slot : Slot) (numbers : List ℕ) → numbers ≡ numbers_under (texts_under (map (λ (service : DeclaredService). service.key) declared.services)) slot.service
    → 1 ≤ length numbers → (o : Option DeclaredService) → o ≡ slice_get declared.services (get_or numbers 0 0) → option_and_then (λ (service : DeclaredService). service.roll) o ≡ roll_of declared slot
roll_some declared slot numbers is some o there =
    ap (option_and_then (λ (service : DeclaredService). service.roll)) there ∙ roll_by declared slot numbers is (Some (get_or numbers 0 0)) (at numbers some)
  where
    at : (ns : List ℕ) → 1 ≤ length ns → slice_get ns 0 ≡ Some (get_or ns 0 0)
    at [] l = absurd (omega (arith, l))
    at (n ∷ ns) l = refl
