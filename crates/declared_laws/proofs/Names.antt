-- The names of the slots of a declared set.
use Rattle.std.proofs.Common.{◌≡◌, ◌∙◌, ◌≤◌, ℕ, true, false, not, List, [], ◌∷◌, ◌++◌, Option, Some, None, Ok, map, refl, sym, ap, subst, arith}
use Rattle.std.specs.Prelude.{flat_map, nat_lt}
use Rattle.std.specs.List.{IsDistinct, range_with_len}
use Rattle.std.specs.Option.{option_map, option_or}
use Rattle.std.specs.Str.{bytes_eq}
use Rattle.std.proofs.lemmas.Bool.{ltb-true}
use Rattle.std.proofs.lemmas.List.{map-append}
use Rattle.compose_words.specs.declared.options.Scale.{Scale}
use Rattle.declared_set.specs.Declaring.{declared, declared_of, unless_refused}
use Rattle.declared_set.specs.Refusing.{names_in, names_of, refusal_of, too_many}
use Rattle.declared_set.specs.Slots.{slots_in, slots_of}
use Rattle.declared_set.specs.declared.LoadedProject.{LoadedProject}
use Rattle.declared_set.specs.declared.refusal.IdentityRefusal.{IdentityRefusal}
use Rattle.declared_slots.specs.Counts.{ranges_of, scale_of}
use Rattle.declared_slots.specs.Named.{name_of}
use Rattle.declared_slots.specs.Needs.{need_count}
use Rattle.declared_slots.specs.Refusing.{twice_named, unknown_scale}
use Rattle.engine_types.specs.declared.Declared.{Declared}
use Rattle.engine_types.specs.declared.Slot.{Slot}
use Rattle.run_model.specs.EngineRules.{Among}
use Rattle.run_model.proofs.DistinctLists.{from_map}
use Rattle.service_hashes.specs.declared.digest.FileDigest.{FileDigest}
use Rattle.tree_base.specs.ByteOrder.{is_before}
use Rattle.typed_project.specs.Projects.{IsInOrder}
use Rattle.typed_project.specs.declared.project.Project.{Project}
use Rattle.typed_project.specs.declared.service.Service.{Service}
use Rattle.declared_laws.specs.Laws.{AreNumbered, IsUnnamed}
use Rattle.declared_laws.proofs.Ascending.{Up, ascending_up, from_range, range_up, up_flat_map, up_map}
use Rattle.declared_laws.proofs.Dashes.{names_tell}
use Rattle.declared_laws.proofs.Firsts.{differ, other_text}
use Rattle.declared_laws.proofs.Labelled.{not_before_itself}
use Rattle.declared_laws.proofs.Twice.{all_differ_once, none_twice, up_is_distinct}
use Rattle.declared_laws.proofs.Whole.{slot_of}

second_none : {X : Type 0} (a b : Option X) → option_or a b ≡ None → b ≡ None
second_none None b e = e
second_none (Some x) b e = absurd (cc e)

none_mapped : {X Y : Type 0} (f : X → Y) (o : Option X) → option_map f o ≡ None → o ≡ None
none_mapped f None e = refl
none_mapped f (Some x) e = absurd (cc e)

-- what is given isn't refused
given_is : (all given : Declared) (refusal : Option IdentityRefusal) → unless_refused all refusal ≡ Ok given → (refusal ≡ None) × (all ≡ given)
given_is all given None e = (refl, cc e)
given_is all given (Some refusal) e = absurd (cc e)

module _ (loaded : LoadedProject) (scales : List Scale) (digests : List FileDigest) where
  names_on : (service : Service) (numbers : List ℕ) → map (λ (slot : Slot). slot.name) (map (slot_of loaded scales digests service) numbers) ≡ map (name_of loaded.project.name service) numbers
  names_on service [] = refl
  names_on service (n ∷ numbers) = ap (λ (names : List (List ℕ)). name_of loaded.project.name service n ∷ names) (names_on service numbers)

  -- the names of the slots are the names that are looked at
  names_are : (services : List Service) → map (λ (slot : Slot). slot.name) (flat_map (slots_in loaded scales digests) services) ≡ flat_map (names_in loaded.project scales) services
  names_are [] = refl
  names_are (service ∷ services) =
      map-append (λ (slot : Slot). slot.name) (slots_in loaded scales digests service) (flat_map (slots_in loaded scales digests) services)
      ∙ ap (λ (names : List (List ℕ)). names ++ map (λ (slot : Slot). slot.name) (flat_map (slots_in loaded scales digests) services)) (names_on service (range_with_len 1 (scale_of scales service)))
      ∙ ap (λ (names : List (List ℕ)). names_in loaded.project scales service ++ names) (names_are services)

  pub given_names_differ : (given : Declared) → declared loaded scales digests ≡ Ok given → IsDistinct bytes_eq (map (λ slot. slot.name) given.slots)
  given_names_differ given e =
      let r = given_is (declared_of loaded scales digests) given (refusal_of loaded.project scales) e in
      let later = second_none (option_map IdentityRefusal.UnknownScale (unknown_scale scales (map (λ (s : Service). s.key) loaded.project.services))) _ r.0 in
      let last = second_none (too_many (need_count (ranges_of scales loaded.project.services) loaded.project.services)) _ later in
      let none = none_mapped IdentityRefusal.NameTwice (twice_named (names_of loaded.project scales)) last in
      subst (λ (d : Declared). IsDistinct bytes_eq (map (λ (slot : Slot). slot.name) d.slots)) r.1
      (up_is_distinct (map (λ (slot : Slot). slot.name) (slots_of loaded scales digests)) (subst (λ (names : List (List ℕ)). Up (differ (λ t. t)) names) (sym (names_are loaded.project.services)) (none_twice (names_of loaded.project scales) none)))

module _ (project : Project) (scales : List Scale) (few : AreNumbered scales project.services)
    (unnamed : (service : Service) → Among project.services service → IsUnnamed service) where
  -- a name of a service has one of its numbers
  named_by : (service : Service) (name : List ℕ) → Among (names_in project scales service) name → (number : ℕ) × (number ≤ scale_of scales service) × (name ≡ name_of project.name service number)
  named_by service name m =
      let r = from_map (name_of project.name service) (range_with_len 1 (scale_of scales service)) name m in
      let within = from_range 1 (scale_of scales service) r.0 r.1 in
      (r.0, omega (arith, within.1), r.2)

  in_one : (service : Service) → Among project.services service → Up (differ (λ t. t)) (names_in project scales service)
  in_one service m =
      let bound = few service m in
      up_map (differ (λ t. t)) nat_lt (name_of project.name service) (range_with_len 1 (scale_of scales service))
      (λ n k h g e.
      let first = from_range 1 (scale_of scales service) n h in
      let second = from_range 1 (scale_of scales service) k g in
      ap not (other_text (name_of project.name service n) (name_of project.name service k) (λ same.
      let r = names_tell project.name service service n k (unnamed service m) (unnamed service m) (omega (arith, first.1, bound)) (omega (arith, second.1, bound)) same in
      let below = ltb-true n k e in
      omega (arith, r.1, below))))
      (range_up 1 (scale_of scales service))

  in_two : (service other : Service) → Among project.services service → Among project.services other → is_before service.key other.key ≡ true
      → (name next : List ℕ) → Among (names_in project scales service) name → Among (names_in project scales other) next → differ (λ t. t) name next ≡ true
  in_two service other m n e name next h g =
      let first = named_by service name h in
      let second = named_by other next g in
      let bound = few service m in
      let limit = few other n in
      ap not (other_text name next (λ same.
      let r = names_tell project.name service other first.0 second.0 (unnamed service m) (unnamed other n) (omega (arith, first.1, bound)) (omega (arith, second.1, limit)) (sym first.2 ∙ same ∙ second.2) in
      let bad : true ≡ false = sym e ∙ ap (λ t. is_before t other.key) r.0 ∙ not_before_itself other.key in
      cc bad))

  pub none_named_twice : IsInOrder project.services → twice_named (names_of project scales) ≡ None
  none_named_twice order =
      all_differ_once (names_of project scales)
      (up_flat_map (differ (λ t. t)) (λ (service other : Service). is_before service.key other.key) (names_in project scales) project.services
      in_one in_two
      (ascending_up (λ (service other : Service). is_before service.key other.key) project.services order))
