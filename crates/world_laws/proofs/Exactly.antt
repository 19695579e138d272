-- The tests of what an Engine holds are true exactly where it holds what is declared.
use Rattle.std.proofs.Common.{◌≡◌, ℕ, zero, suc, ◌<◌, Bool, true, false, cond, not, ◌&&◌, ◌||◌, List, [], ◌∷◌, ◌++◌, Option, Some, None, is_some, length, get_or, take, map, find, refl, sym, ap, ◌∙◌, subst, inl, inr, arith}
use Rattle.std.proofs.lemmas.Bool.{eqb-true}
use Rattle.std.proofs.lemmas.List.{map-append}
use Rattle.std.proofs.lemmas.List.Elements.{filter-append}
use Rattle.std.proofs.lemmas.List.Sums.{length-filter}
use Rattle.std.proofs.lemmas.Slice.Eq.{bytes_eq-Decides}
use Rattle.std.specs.List.{list_all, list_any}
use Rattle.std.specs.Option.{option_map, option_map_or, option_to_list}
use Rattle.std.specs.Prelude.{count_by, filter, ◌==◌, ◌↔◌, IfOk, Result, Ok, Err}
use Rattle.std.specs.Str.{bytes_eq}
use Rattle.tree_base.specs.declared.Var.{Var}
use Rattle.engine_types.specs.declared.ContainerRow.{ContainerRow}
use Rattle.engine_types.specs.declared.ContainerState.{ContainerState}
use Rattle.engine_types.specs.declared.Declared.{Declared}
use Rattle.engine_types.specs.declared.Engine.{Engine}
use Rattle.engine_types.specs.declared.NetRow.{NetRow}
use Rattle.engine_types.specs.declared.NetworkSpec.{NetworkSpec}
use Rattle.engine_types.specs.declared.Slot.{Slot}
use Rattle.engine_types.specs.declared.VolumeSpec.{VolumeSpec}
use Rattle.run_model.specs.EngineRules.{Among, container_at, has_volume, image_at, is_of_project, network_at, network_has_name}
use Rattle.run_model.specs.Exact.{IsExact, IsExactNetwork, IsExactSlot, agrees_in, is_attached}
use Rattle.run_model.specs.Labels.{agrees, is_of_slot, is_orphan}
use Rattle.tree_base.specs.ByteOrder.{first_of_each}
use Rattle.run_model.proofs.DistinctLists.{Distinct, among_filter, distinct_filter, from_filter}
use Rattle.world_laws.specs.Exactly.{fits, found_containers, found_networks, holds_network, holds_slot, may_be_there, only_of}

left_is : (a b : Bool) → (a && b) ≡ true → a ≡ true
left_is true b e = refl
left_is false b e = e

right_is : (a b : Bool) → (a && b) ≡ true → b ≡ true
right_is true b e = e
right_is false b e = absurd (cc e)

both_are : (a b : Bool) → a ≡ true → b ≡ true → (a && b) ≡ true
both_are true b e f = f
both_are false b e f = e

opposite : (b : Bool) → not b ≡ true → b ≡ false
opposite true e = absurd (cc e)
opposite false e = refl

module _ {X : Type 0} (p : X → Bool) where
  each_passes : (xs : List X) → list_all p xs ≡ true → (x : X) → Among xs x → p x ≡ true
  each_passes [] e x m = absurd m
  each_passes (y ∷ ys) e x (inl same) = ap p same ∙ left_is (p y) (list_all p ys) e
  each_passes (y ∷ ys) e x (inr m) = each_passes ys (right_is (p y) (list_all p ys) e) x m

  all_pass : (xs : List X) → ((x : X) → Among xs x → p x ≡ true) → list_all p xs ≡ true
  all_pass [] each = refl
  all_pass (y ∷ ys) each = both_are (p y) (list_all p ys) (each y (inl refl)) (all_pass ys (λ x m. each x (inr m)))

module _ {X : Type 0} where
  one_there : (x y : X) → Among (x ∷ []) y → y ≡ x
  one_there x y (inl e) = e
  one_there x y (inr m) = absurd m

  -- a list without repetition, of which each element is the same
  alone : (l : List X) (x : X) → Distinct l → Among l x → ((y : X) → Among l y → y ≡ x) → l ≡ x ∷ []
  alone [] x d m one = absurd m
  alone (y ∷ []) x d m one = ap (λ z. z ∷ []) (one y (inl refl))
  alone (y ∷ z ∷ l) x d m one = absurd (d.0 (inl (one y (inl refl) ∙ sym (one z (inr (inl refl))))))

  only_is : (l : List X) (x : X) → only_of l ≡ Some x → l ≡ x ∷ []
  only_is [] x e = absurd (cc e)
  only_is (y ∷ []) x e = let same : y ≡ x = cc e in ap (λ z. z ∷ []) same
  only_is (y ∷ z ∷ l) x e = absurd (cc e)

  -- the list at a place
  parts_at : (rows : List X) (i : ℕ) (x : X) → i < length rows → x ≡ get_or rows i x → (rest : List X) × (rows ≡ take i rows ++ x ∷ rest)
  parts_at [] i x h is = absurd (omega (arith, h))
  parts_at (y ∷ ys) zero x h is = (ys, ap (λ z. z ∷ ys) (sym is))
  parts_at (y ∷ ys) (suc i) x h is = let r = parts_at ys i x (omega (arith, h)) is in (r.0, ap (λ l. y ∷ l) r.1)

  one_long : (l : List X) → length l ≡ 1 → (x : X) × (l ≡ x ∷ [])
  one_long [] e = absurd (cc e)
  one_long (x ∷ []) e = (x, refl)
  one_long (x ∷ y ∷ l) e = absurd (cc e)

-- a list with an element that passes, behind others of which one passes
module _ {X B : Type 0} (now : B → X) (q : X → Bool) where
  two_pass : (l rest : List B) (b : B) (y : X) → filter q (map now l) ≡ y ∷ [] → q (now b) ≡ true → None ≡ only_of (filter q (map now (l ++ b ∷ rest)))
  two_pass l rest b y first second = sym (ap only_of (
      ap (filter q) (map-append now l (b ∷ rest)) ∙ filter-append q (map now l) (map now (b ∷ rest)) ∙ ap (λ k. k ++ filter q (map now (b ∷ rest))) first
      ∙ ap (λ t. (y ∷ []) ++ cond t (now b ∷ filter q (map now rest)) (filter q (map now rest))) second
      ))

  pub none_alone : (rows : List B) (i : ℕ) (b : B) (o : Option B) → i < length rows → b ≡ get_or rows i b → filter q (map now (take i rows)) ≡ option_to_list (option_map now o)
      → is_some o ≡ true → q (now b) ≡ true → None ≡ only_of (filter q (map now rows))
  none_alone rows i b None within is before one passes = absurd (cc one)
  none_alone rows i b (Some y) within is before one passes =
      let r = parts_at rows i b within is in
      subst (λ (l : List B). None ≡ only_of (filter q (map now l))) (sym r.1) (two_pass (take i rows) r.0 b (now y) before passes)

-- the first rows of each id are those that a look-up finds
module _ {X : Type 0} (key : X → List ℕ) where
  abbrev others : X → X → Bool
  others x y = not (bytes_eq (key x) (key y))

  same_key : (x : X) → bytes_eq (key x) (key x) ≡ true
  same_key x = (bytes_eq-Decides (key x) (key x)).1 refl

  found_first : (k : List ℕ) (xs : List X) (x : X) → find (λ y. bytes_eq (key y) k) xs ≡ Some x → Among (first_of_each key xs) x × (key x ≡ k)
  found_first k [] x e = absurd (cc e)
  found_first k (y ∷ ys) x e = at (bytes_eq (key y) k) refl (found_first k ys x) e
    where
      at : (t : Bool) → bytes_eq (key y) k ≡ t → (find (λ z. bytes_eq (key z) k) ys ≡ Some x → Among (first_of_each key ys) x × (key x ≡ k))
          → cond t (Some y) (find (λ z. bytes_eq (key z) k) ys) ≡ Some x → Among (first_of_each key (y ∷ ys)) x × (key x ≡ k)
      at true h rest f = let same : y ≡ x = cc f in (inl (sym same), ap key (sym same) ∙ (bytes_eq-Decides (key y) k).0 h)
      at false h rest f = let r = rest f in (inr (among_filter (others y) (first_of_each key ys) x (ap (λ l. not (bytes_eq (key y) l)) r.1 ∙ ap not h) r.0), r.1)

  first_found : (xs : List X) (x : X) → Among (first_of_each key xs) x → find (λ y. bytes_eq (key y) (key x)) xs ≡ Some x
  first_found [] x m = absurd m
  first_found (y ∷ ys) x (inl e) =
      ap (λ b. cond b (Some y) (find (λ z. bytes_eq (key z) (key x)) ys)) (ap (λ w. bytes_eq (key y) (key w)) e ∙ same_key y) ∙ ap Some (sym e)
  first_found (y ∷ ys) x (inr m) =
      let r = from_filter (others y) (first_of_each key ys) x m in
      ap (λ b. cond b (Some y) (find (λ z. bytes_eq (key z) (key x)) ys)) (opposite (bytes_eq (key y) (key x)) r.0) ∙ first_found ys x r.1

  distinct_firsts : (xs : List X) → Distinct (first_of_each key xs)
  distinct_firsts [] = tt
  distinct_firsts (x ∷ xs) = (λ m. apart m, distinct_filter (others x) (first_of_each key xs) (distinct_firsts xs))
    where
      apart : Among (filter (others x) (first_of_each key xs)) x → ⊥
      apart m =
          let r = from_filter (others x) (first_of_each key xs) x m in
          let bad : true ≡ false = sym (same_key x) ∙ opposite (bytes_eq (key x) (key x)) r.0 in absurd (cc bad)

agreeing : (project : List ℕ) (slot : Slot) (image : Option (List ℕ)) (labels : List Var) (image_id : List ℕ) (state : ContainerState)
    → agrees project slot image labels image_id state ≡ true → is_of_slot project slot labels ≡ true
agreeing project slot None labels image_id state e = absurd (cc e)
agreeing project slot (Some image) labels image_id state e = left_is _ _ (left_is _ _ (left_is _ _ e))

module _ (declared : Declared) (engine : Engine) where
  -- whether a container is of a slot
  abbrev is_its : Slot → ContainerRow → Bool
  is_its slot row = is_of_slot declared.project slot row.labels

  abbrev its_rows : Slot → List ContainerRow
  its_rows slot = filter (is_its slot) (found_containers engine)

  slot_held : (slot : Slot) → holds_slot declared engine (found_containers engine) slot ≡ true → IsExactSlot declared engine slot
  slot_held slot e = at (only_of (its_rows slot)) refl e
    where
      at : (o : Option ContainerRow) → only_of (its_rows slot) ≡ o → option_map_or (fits declared engine slot) o false ≡ true → IsExactSlot declared engine slot
      at None f e = absurd (cc e)
      at (Some row) f e =
          let one = only_is (its_rows slot) row f in
          let here = from_filter (is_its slot) (found_containers engine) row (subst (λ (l : List ContainerRow). Among l row) (sym one) (inl refl)) in
          record {
            id = row.id;
            row = row;
            is_there = first_found (λ (r : ContainerRow). r.id) engine.containers row here.1;
            of_slot = right_is (is_attached declared engine slot row) (agrees_in declared engine slot row) e;
            attached = left_is (is_attached declared engine slot row) (agrees_in declared engine slot row) e;
            only = λ i other found its.
                let shown = found_first (λ (r : ContainerRow). r.id) i engine.containers other found in
                let m = among_filter (is_its slot) (found_containers engine) other its shown.0 in
                sym shown.1 ∙ ap (λ (r : ContainerRow). r.id) (one_there row other (subst (λ (l : List ContainerRow). Among l other) one m));
          }

  slot_holds : (slot : Slot) → IsExactSlot declared engine slot → holds_slot declared engine (found_containers engine) slot ≡ true
  slot_holds slot x =
      let here = found_first (λ (r : ContainerRow). r.id) x.id engine.containers x.row x.is_there in
      let its = agreeing declared.project slot (image_at engine slot.image) x.row.labels x.row.image_id x.row.report.state x.of_slot in
      let one : its_rows slot ≡ x.row ∷ [] =
      alone (its_rows slot) x.row (distinct_filter (is_its slot) (found_containers engine) (distinct_firsts (λ (r : ContainerRow). r.id) engine.containers))
      (among_filter (is_its slot) (found_containers engine) x.row its here.0) (λ y m. same_row y m)
      in
      ap (λ l. option_map_or (fits declared engine slot) (only_of l) false) one
      ∙ both_are (is_attached declared engine slot x.row) (agrees_in declared engine slot x.row) x.attached x.of_slot
    where
      same_row : (y : ContainerRow) → Among (its_rows slot) y → y ≡ x.row
      same_row y m =
          let r = from_filter (is_its slot) (found_containers engine) y m in
          let there = first_found (λ (r : ContainerRow). r.id) engine.containers y r.1 in
          let same : y.id ≡ x.id = x.only y.id y there r.0 in
          let rows : Some y ≡ Some x.row = sym there ∙ ap (container_at engine) same ∙ x.is_there in cc rows

  -- whether a network has a name
  abbrev is_named : List ℕ → NetRow → Bool
  is_named name row = bytes_eq name row.name

  abbrev named_rows : List ℕ → List NetRow
  named_rows name = filter (is_named name) (found_networks engine)

  named_at : (name id : List ℕ) → network_has_name engine name id ≡ true → (row : NetRow) × (network_at engine id ≡ Some row) × (is_named name row ≡ true)
  named_at name id e = at (network_at engine id) refl e
    where
      at : (o : Option NetRow) → network_at engine id ≡ o → option_map_or (is_named name) o false ≡ true → (row : NetRow) × (network_at engine id ≡ Some row) × (is_named name row ≡ true)
      at None f e = absurd (cc e)
      at (Some row) f e = (row, f, e)

  network_held : (name : List ℕ) → holds_network (found_networks engine) name ≡ true → IsExactNetwork engine name
  network_held name e =
      let counted : length (named_rows name) ≡ 1 = length-filter (is_named name) (found_networks engine) ∙ eqb-true (count_by (is_named name) (found_networks engine)) 1 e in
      let r = one_long (named_rows name) counted in at r.0 r.1
    where
      at : (row : NetRow) → named_rows name ≡ row ∷ [] → IsExactNetwork engine name
      at row one =
          let here = from_filter (is_named name) (found_networks engine) row (subst (λ (l : List NetRow). Among l row) (sym one) (inl refl)) in
          record {
            id = row.id;
            is_there = ap (λ o. option_map_or (is_named name) o false) (first_found (λ (r : NetRow). r.id) engine.networks row here.1) ∙ here.0;
            only = λ i found.
                let other = named_at name i found in
                let shown = found_first (λ (r : NetRow). r.id) i engine.networks other.0 other.1 in
                let m = among_filter (is_named name) (found_networks engine) other.0 other.2 shown.0 in
                sym shown.1 ∙ ap (λ (r : NetRow). r.id) (one_there row other.0 (subst (λ (l : List NetRow). Among l other.0) one m));
          }

  network_holds : (name : List ℕ) → IsExactNetwork engine name → holds_network (found_networks engine) name ≡ true
  network_holds name x =
      let other = named_at name x.id x.is_there in at other.0 other.1 other.2
    where
      at : (row : NetRow) → network_at engine x.id ≡ Some row → is_named name row ≡ true → holds_network (found_networks engine) name ≡ true
      at row there named =
          let here = found_first (λ (r : NetRow). r.id) x.id engine.networks row there in
          let one : named_rows name ≡ row ∷ [] =
          alone (named_rows name) row (distinct_filter (is_named name) (found_networks engine) (distinct_firsts (λ (r : NetRow). r.id) engine.networks))
          (among_filter (is_named name) (found_networks engine) row named here.0) (λ y m. same_row y m)
          in
          ap (λ n. n == 1) (sym (length-filter (is_named name) (found_networks engine)) ∙ ap length one)
        where
          same_row : (y : NetRow) → Among (named_rows name) y → y ≡ row
          same_row y m =
              let r = from_filter (is_named name) (found_networks engine) y m in
              let found = first_found (λ (r : NetRow). r.id) engine.networks y r.1 in
              let same : y.id ≡ x.id = x.only y.id (ap (λ o. option_map_or (is_named name) o false) found ∙ r.0) in
              let rows : Some y ≡ Some row = sym found ∙ ap (network_at engine) same ∙ there in cc rows

  module _ (orphans : Bool) where
    -- whether a container's labels are of some slot, or of an orphan where these weren't asked for
    abbrev is_owned : List Var → Bool
    is_owned labels = list_any (λ slot. is_of_slot declared.project slot labels) declared.slots || (not orphans && is_orphan declared labels)

    owned : (row : ContainerRow) → may_be_there declared orphans row.labels ≡ true → is_of_project declared.project row.labels ≡ true → is_owned row.labels ≡ true
    owned row e its = sym (ap (λ b. not b || is_owned row.labels) its) ∙ e

    may_be : (row : ContainerRow) → (is_of_project declared.project row.labels ≡ true → is_owned row.labels ≡ true) → may_be_there declared orphans row.labels ≡ true
    may_be row own = at (is_of_project declared.project row.labels) own
      where
        at : (b : Bool) → (b ≡ true → is_owned row.labels ≡ true) → (not b || is_owned row.labels) ≡ true
        at true own = own refl
        at false own = refl

    abbrev of_networks : Bool
    of_networks = list_all (λ network. holds_network (found_networks engine) network.name) declared.networks

    abbrev of_volumes : Bool
    of_volumes = list_all (λ volume. has_volume engine volume.name) declared.volumes

    abbrev of_slots : Bool
    of_slots = list_all (holds_slot declared engine (found_containers engine)) declared.slots

    abbrev of_others : Bool
    of_others = list_all (λ row. may_be_there declared orphans row.labels) (found_containers engine)

    held : of_networks ≡ true → of_volumes ≡ true → of_slots ≡ true → of_others ≡ true → IsExact declared engine orphans
    held networks volumes slots others = record {
      slots = λ slot m. slot_held slot (each_passes (holds_slot declared engine (found_containers engine)) declared.slots slots slot m);
      networks = λ network m. network_held network.name (each_passes (λ (n : NetworkSpec). holds_network (found_networks engine) n.name) declared.networks networks network m);
      volumes = each_passes (λ (v : VolumeSpec). has_volume engine v.name) declared.volumes volumes;
      others = λ id row found its.
          owned row (each_passes (λ (r : ContainerRow). may_be_there declared orphans r.labels) (found_containers engine) others row
          (found_first (λ (r : ContainerRow). r.id) id engine.containers row found).0) its;
    }

    networks_hold : IsExact declared engine orphans → of_networks ≡ true
    networks_hold x = all_pass (λ (n : NetworkSpec). holds_network (found_networks engine) n.name) declared.networks (λ n m. network_holds n.name (x.networks n m))

    volumes_hold : IsExact declared engine orphans → of_volumes ≡ true
    volumes_hold x = all_pass (λ (v : VolumeSpec). has_volume engine v.name) declared.volumes x.volumes

    slots_hold : IsExact declared engine orphans → of_slots ≡ true
    slots_hold x = all_pass (holds_slot declared engine (found_containers engine)) declared.slots (λ slot m. slot_holds slot (x.slots slot m))

    others_hold : IsExact declared engine orphans → of_others ≡ true
    others_hold x = all_pass (λ (r : ContainerRow). may_be_there declared orphans r.labels) (found_containers engine)
        (λ row m. may_be row (x.others row.id row (first_found (λ (r : ContainerRow). r.id) engine.containers row m)))

    -- the answers of the tests, one after the other
    pub no_networks : of_networks ≡ false → (false ≡ true) ↔ IsExact declared engine orphans
    no_networks e = (λ f. absurd (cc f), λ x. sym e ∙ networks_hold x)

    pub no_volumes : of_volumes ≡ false → (false ≡ true) ↔ IsExact declared engine orphans
    no_volumes e = (λ f. absurd (cc f), λ x. sym e ∙ volumes_hold x)

    pub containers_tell : {E : Type 0} (answer : Result Bool E) → of_networks ≡ true → of_volumes ≡ true → IfOk answer (λ b. b ≡ (of_slots && of_others))
        → IfOk answer (λ b. (b ≡ true) ↔ IsExact declared engine orphans)
    containers_tell (Err e) networks volumes is = tt
    containers_tell (Ok b) networks volumes is = (
      λ e. let both : (of_slots && of_others) ≡ true = sym is ∙ e in held networks volumes (left_is of_slots of_others both) (right_is of_slots of_others both),
      λ x. is ∙ both_are of_slots of_others (slots_hold x) (others_hold x),
    )
