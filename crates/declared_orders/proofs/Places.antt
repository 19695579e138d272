-- Of which service the slot at a place is.
use Rattle.std.proofs.Common.{◌≡◌, ◌∙◌, ℕ, zero, suc, ◌+◌, ◌-◌, ◌<◌, ◌≤◌, Bool, true, false, cond, List, [], ◌∷◌, ◌++◌, Option, Some, length, slice_get, refl, sym, ap, subst, inl, inr, arith}
use Rattle.std.specs.Prelude.{flat_map, unwrap_or}
use Rattle.std.specs.List.{range_with_len}
use Rattle.std.specs.Str.{bytes_eq}
use Rattle.std.proofs.lemmas.List.FromFn.{length-map-range_with_len}
use Rattle.std.proofs.lemmas.Slice.Eq.{bytes_eq-Decides}
use Rattle.attribute_types.specs.declared.rows.Dependency.{Dependency}
use Rattle.compose_words.specs.declared.options.Scale.{Scale}
use Rattle.declared_laws.proofs.Ascending.{from_range}
use Rattle.declared_laws.proofs.Whole.{each_slot, of_service, slot_of}
use Rattle.declared_set.specs.Declaring.{declared_of, service_of}
use Rattle.declared_set.specs.Slots.{slots_in, slots_of}
use Rattle.declared_set.specs.declared.LoadedProject.{LoadedProject}
use Rattle.declared_slots.specs.Counts.{ranges_from, ranges_of, scale_of}
use Rattle.declared_slots.specs.Needs.{depends_on, need_of, needs_of, needs_on, range_of}
use Rattle.declared_slots.specs.declared.counts.Range.{Range}
use Rattle.engine_types.specs.declared.Need.{Need}
use Rattle.engine_types.specs.declared.Slot.{Slot}
use Rattle.run_laws.specs.Orders.{Leads, NeedsDependencies}
use Rattle.run_model.specs.EngineRules.{Among}
use Rattle.run_model.specs.Plans.{slot_at}
use Rattle.run_model.proofs.DistinctLists.{among_map, from_flat_map, from_map, from_place}
use Rattle.service_graph.specs.Cycles.{dependencies_of}
use Rattle.service_hashes.specs.declared.digest.FileDigest.{FileDigest}
use Rattle.tree_base.specs.Entries.{value_at}
use Rattle.typed_project.specs.declared.service.Service.{Service}

module _ {X : Type 0} where
  left_part : (xs ys : List X) (i : ℕ) (x : X) → i < length xs → slice_get (xs ++ ys) i ≡ Some x → Among xs x
  left_part [] ys i x l e = absurd (omega (arith, l))
  left_part (z ∷ xs) ys zero x l e = let same : z ≡ x = cc e in inl (sym same)
  left_part (z ∷ xs) ys (suc i) x l e = inr (left_part xs ys i x (omega (arith, l)) e)

  right_part : (xs ys : List X) (i : ℕ) (x : X) → length xs ≤ i → slice_get (xs ++ ys) i ≡ Some x → slice_get ys (i - length xs) ≡ Some x
  right_part [] ys i x l e = let same : i ≡ i - 0 = omega arith in subst (λ (n : ℕ). slice_get ys n ≡ Some x) same e
  right_part (z ∷ xs) ys zero x l e = absurd (omega (arith, l))
  right_part (z ∷ xs) ys (suc i) x l e =
      let same : i - length xs ≡ suc i - suc (length xs) = omega arith in
      subst (λ (n : ℕ). slice_get ys n ≡ Some x) same (right_part xs ys i x (omega (arith, l)) e)

-- the slots that are found
abbrev the : Option Range → Range
the found = unwrap_or found (record { first = 0; count = 0 })

module _ (loaded : LoadedProject) (scales : List Scale) (digests : List FileDigest) where
  -- the slots under a key stand behind those of the services before
  behind : (key : List ℕ) (services : List Service) (first : ℕ) → 0 < (the (value_at (ranges_from scales first services) key)).count
      → first ≤ (the (value_at (ranges_from scales first services) key)).first
  behind key [] first l = absurd (omega (arith, l))
  behind key (service ∷ services) first l = at (bytes_eq key service.key) l (behind key services (first + scale_of scales service))
    where
      at : (b : Bool) → 0 < (the (cond b (Some (record { first = first; count = scale_of scales service })) (value_at (ranges_from scales (first + scale_of scales service) services) key))).count
          → (0 < (the (value_at (ranges_from scales (first + scale_of scales service) services) key)).count
          → first + scale_of scales service ≤ (the (value_at (ranges_from scales (first + scale_of scales service) services) key)).first)
          → first ≤ (the (cond b (Some (record { first = first; count = scale_of scales service })) (value_at (ranges_from scales (first + scale_of scales service) services) key))).first
      at true some rest = omega arith
      at false some rest = let h = rest some in omega (arith, h)

  -- and are slots of its service
  of_key : (key : List ℕ) (services : List Service) (first k : ℕ) (slot : Slot)
      → (the (value_at (ranges_from scales first services) key)).first ≤ first + k
      → first + k < (the (value_at (ranges_from scales first services) key)).first + (the (value_at (ranges_from scales first services) key)).count
      → slice_get (flat_map (slots_in loaded scales digests) services) k ≡ Some slot → slot.service ≡ key
  of_key key [] first k slot l m e = absurd (omega (arith, m))
  of_key key (service ∷ services) first k slot l m e =
      at (bytes_eq key service.key) refl l m (behind key services (first + scale_of scales service)) (of_key key services (first + scale_of scales service))
    where
      many : length (slots_in loaded scales digests service) ≡ scale_of scales service
      many = length-map-range_with_len (slot_of loaded scales digests service) 1 (scale_of scales service)

      at : (b : Bool) → bytes_eq key service.key ≡ b
          → (the (cond b (Some (record { first = first; count = scale_of scales service })) (value_at (ranges_from scales (first + scale_of scales service) services) key))).first ≤ first + k
          → first + k < (the (cond b (Some (record { first = first; count = scale_of scales service })) (value_at (ranges_from scales (first + scale_of scales service) services) key))).first
          + (the (cond b (Some (record { first = first; count = scale_of scales service })) (value_at (ranges_from scales (first + scale_of scales service) services) key))).count
          → (0 < (the (value_at (ranges_from scales (first + scale_of scales service) services) key)).count
          → first + scale_of scales service ≤ (the (value_at (ranges_from scales (first + scale_of scales service) services) key)).first)
          → ((n : ℕ) (other : Slot)
          → (the (value_at (ranges_from scales (first + scale_of scales service) services) key)).first ≤ first + scale_of scales service + n
          → first + scale_of scales service + n
          < (the (value_at (ranges_from scales (first + scale_of scales service) services) key)).first + (the (value_at (ranges_from scales (first + scale_of scales service) services) key)).count
          → slice_get (flat_map (slots_in loaded scales digests) services) n ≡ Some other → other.service ≡ key)
          → slot.service ≡ key
      at true h low high before rest =
          let within : k < length (slots_in loaded scales digests service) = omega (arith, high, many) in
          let r = of_service loaded scales digests service slot (left_part (slots_in loaded scales digests service) (flat_map (slots_in loaded scales digests) services) k slot within e) in
          ap (λ (s : Slot). s.service) r.2 ∙ sym ((bytes_eq-Decides key service.key).0 h)
      at false h low high before rest =
          let from = before (omega (arith, low, high)) in
          let past : length (slots_in loaded scales digests service) ≤ k = omega (arith, many, from, low, high) in
          let place : k - length (slots_in loaded scales digests service) ≡ k - scale_of scales service = ap (λ n. k - n) many in
          let there = subst (λ (n : ℕ). slice_get (flat_map (slots_in loaded scales digests) services) n ≡ Some slot) place
          (right_part (slots_in loaded scales digests service) (flat_map (slots_in loaded scales digests) services) k slot past e) in
          rest (k - scale_of scales service) slot (omega (arith, low, many, past)) (omega (arith, high, many, past)) there

  -- what a slot of a service needs is a slot of a service that its own depends on
  pub needed : (service : Service) (need : Need) → Among (needs_of (ranges_of scales loaded.project.services) service) need
      → (dependency : Dependency) × Among (dependencies_of service) dependency
      × ((other : Slot) → slot_at (declared_of loaded scales digests) need.slot ≡ Some other → other.service ≡ dependency.key)
  needed service need m =
      let ranges = ranges_of scales loaded.project.services in
      let d = from_flat_map (needs_on ranges) (dependencies_of service) need m in
      let range = range_of ranges d.0.key in
      let r = from_map (need_of d.0) (range_with_len range.first range.count) need d.2 in
      let within = from_range range.first range.count r.0 r.1 in
      let same : need.slot ≡ r.0 = ap (λ (n : Need). n.slot) r.2 in (
        d.0,
        d.1,
        λ other e. of_key d.0.key loaded.project.services 0 r.0 other (omega (arith, within.0)) (omega (arith, within.1))
            (subst (λ (n : ℕ). slice_get (slots_of loaded scales digests) n ≡ Some other) same e),
      )

  leads : (service : Service) (number : ℕ) → Among loaded.project.services service → (need : Need) (other : Slot)
      → Among (slot_of loaded scales digests service number).needs need
      → slot_at (declared_of loaded scales digests) need.slot ≡ Some other → Leads (declared_of loaded scales digests) (slot_of loaded scales digests service number) other
  leads service number m need other n e =
      let r = needed service need n in
      record {
        service = service_of service;
        there = among_map service_of loaded.project.services service m;
        own = refl;
        depends = subst (λ (t : List ℕ). Among (depends_on service) t) (sym (r.2 other e)) (among_map (λ (d : Dependency). d.key) (dependencies_of service) r.0 r.1);
      }

  pub needs_dependencies : NeedsDependencies (declared_of loaded scales digests)
  needs_dependencies s slot other need e m f =
      each_slot loaded scales digests
      (λ one. Among one.needs need → slot_at (declared_of loaded scales digests) need.slot ≡ Some other → Leads (declared_of loaded scales digests) one other)
      (λ service number h l n g. leads service number h need other n g) slot
      (from_place (slots_of loaded scales digests) s slot e) m f
