-- Slots need one another in no circle where the services don't.
use Rattle.std.proofs.Common.{◌≡◌, ◌∙◌, ℕ, zero, suc, ◌<◌, Bool, true, false, cond, not, List, [], ◌∷◌, Option, Some, None, length, map, refl, sym, ap, subst, inl, inr, arith}
use Rattle.std.specs.Prelude.{find, slice_get}
use Rattle.std.specs.Option.{option_map_or}
use Rattle.std.specs.Str.{bytes_eq}
use Rattle.attribute_types.specs.declared.rows.Dependency.{Dependency}
use Rattle.compose_words.specs.declared.options.Scale.{Scale}
use Rattle.declared_laws.proofs.Ascending.{Up, any_of, ascending_up}
use Rattle.declared_laws.proofs.Firsts.{differ, other_text, same_text}
use Rattle.declared_laws.proofs.Labelled.{not_before_itself}
use Rattle.declared_laws.proofs.Whole.{declares_whole, each_slot}
use Rattle.declared_set.specs.Declaring.{declared_of, service_of}
use Rattle.declared_set.specs.Slots.{slots_of}
use Rattle.declared_set.specs.declared.LoadedProject.{LoadedProject}
use Rattle.engine_types.specs.declared.DeclaredService.{DeclaredService}
use Rattle.engine_types.specs.declared.Need.{Need}
use Rattle.engine_types.specs.declared.Slot.{Slot}
use Rattle.plan_core.specs.Order.{HasNoCycle}
use Rattle.run_model.specs.EngineRules.{Among}
use Rattle.run_model.specs.Plans.{slot_at}
use Rattle.run_model.proofs.DistinctLists.{among_map, from_map, from_place}
use Rattle.service_graph.specs.Cycles.{cycle, dependencies_of, needs_at, service_at}
use Rattle.service_hashes.specs.declared.digest.FileDigest.{FileDigest}
use Rattle.tree_base.specs.ByteOrder.{is_before}
use Rattle.typed_project.specs.Projects.{IsInOrder}
use Rattle.typed_project.specs.declared.service.Service.{Service}
use Rattle.declared_orders.proofs.Heights.{high, keys, sinks}
use Rattle.declared_orders.proofs.Places.{needed}
use Rattle.declared_orders.proofs.Ways.{no_way_back}

-- services in order have different keys
keys_differ : (services : List Service) → Up (λ service other. is_before service.key other.key) services → Up (differ (λ service. service.key)) services
keys_differ [] up = tt
keys_differ (service ∷ services) up = (
  λ other m. ap not (other_text service.key other.key (λ e.
      let bad : true ≡ false = sym (up.0 other m) ∙ ap (λ t. is_before t other.key) e ∙ not_before_itself other.key in cc bad)),
  keys_differ services up.1,
)

not_true : (b : Bool) → not b ≡ true → b ≡ false
not_true true e = absurd (cc e)
not_true false e = refl

-- so each is the one with its key
found_itself : (services : List Service) (service : Service) → Up (differ (λ s. s.key)) services → Among services service → service_at services service.key ≡ Some service
found_itself [] service up m = absurd m
found_itself (other ∷ services) service up (inl e) =
    ap (λ (b : Bool). cond b (Some other) (find (λ s. bytes_eq s.key service.key) services)) (ap (λ (s : Service). bytes_eq other.key s.key) e ∙ same_text other.key) ∙ ap Some (sym e)
found_itself (other ∷ services) service up (inr m) =
    ap (λ (b : Bool). cond b (Some other) (find (λ s. bytes_eq s.key service.key) services)) (not_true (bytes_eq other.key service.key) (up.0 service m)) ∙ found_itself services service up.1 m

-- what stands at a place that is there
there_at : {X : Type 0} (xs : List X) (i : ℕ) → i < length xs → (x : X) × (slice_get xs i ≡ Some x)
there_at [] i l = absurd (omega (arith, l))
there_at (x ∷ xs) zero l = (x, refl)
there_at (x ∷ xs) (suc i) l = there_at xs i (omega (arith, l))

abbrev key_of : Option Slot → List ℕ
key_of slot = option_map_or (λ (s : Slot). s.service) slot []

module _ (loaded : LoadedProject) (scales : List Scale) (digests : List FileDigest) (order : IsInOrder loaded.project.services)
    (none : cycle loaded.project.services ≡ None) where
  apart : Up (differ (λ service. service.key)) loaded.project.services
  apart = keys_differ loaded.project.services (ascending_up (λ (service other : Service). is_before service.key other.key) loaded.project.services order)

  -- a service stands higher than those that it depends on
  lower : (service : Service) (dependency : Dependency) → Among loaded.project.services service → Among (dependencies_of service) dependency → high loaded.project.services dependency.key < high loaded.project.services service.key
  lower service dependency m n =
      let there = any_of (bytes_eq service.key) (keys loaded.project.services) service.key (among_map (λ (s : Service). s.key) loaded.project.services service m) (same_text service.key) in
      let needs : needs_at loaded.project.services service.key ≡ map (λ (need : Dependency). need.key) (dependencies_of service) =
      ap (λ (o : Option Service). option_map_or (λ (s : Service). map (λ (need : Dependency). need.key) (dependencies_of s)) o []) (found_itself loaded.project.services service apart m) in
      sinks loaded.project.services service.key there (no_way_back loaded.project.services none service m) dependency.key
      (subst (λ (l : List (List ℕ)). Among l dependency.key) (sym needs) (among_map (λ (need : Dependency). need.key) (dependencies_of service) dependency n))

  abbrev rank : ℕ → ℕ
  rank s = high loaded.project.services (key_of (slot_at (declared_of loaded scales digests) s))

  falls : (s : ℕ) (slot : Slot) (need : Need) → slot_at (declared_of loaded scales digests) s ≡ Some slot → Among slot.needs need → rank need.slot < rank s
  falls s slot need e m =
      let here = from_place (slots_of loaded scales digests) s slot e in
      let other = there_at (slots_of loaded scales digests) need.slot ((declares_whole loaded scales digests order).needs slot need here m) in
      let below = each_slot loaded scales digests (λ one. Among one.needs need → high loaded.project.services other.0.service < high loaded.project.services one.service)
      (λ service number h l n. let r = needed loaded scales digests service need n in
      subst (λ (t : List ℕ). high loaded.project.services t < high loaded.project.services service.key) (sym (r.2 other.0 other.1)) (lower service r.0 h r.1)) slot here m in
      subst (λ (o : Option Slot). high loaded.project.services (key_of o) < rank s) (sym other.1)
      (subst (λ (o : Option Slot). high loaded.project.services other.0.service < high loaded.project.services (key_of o)) (sym e) below)

  falls_along : (service : DeclaredService) (key : List ℕ) → Among (map service_of loaded.project.services) service → Among service.depends_on key
      → high loaded.project.services key < high loaded.project.services service.key
  falls_along service key m n =
      let r = from_map service_of loaded.project.services service m in
      let d = from_map (λ (need : Dependency). need.key) (dependencies_of r.0) key (subst (λ (s : DeclaredService). Among s.depends_on key) r.2 n) in
      subst (λ (t : List ℕ). high loaded.project.services t < high loaded.project.services service.key) (sym d.2)
      (subst (λ (s : DeclaredService). high loaded.project.services d.0.key < high loaded.project.services s.key) (sym r.2) (lower r.0 d.0 r.1 d.1))

  pub none_declared : HasNoCycle (declared_of loaded scales digests)
  none_declared = record { rank = rank; falls = falls; height = high loaded.project.services; sinks = falls_along }
