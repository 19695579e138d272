-- What slots are made of is the project's.
use Rattle.std.proofs.Common.{◌≡◌, ◌∙◌, ◌+◌, ◌<◌, ◌++◌, ℕ, List, [], ◌∷◌, add-one, ap, get_or, length, map, sym, take}
use Rattle.std.specs.List.{flat_map, range_with_len}
use Rattle.std.proofs.Math.Seq.{take-suc}
use Rattle.std.proofs.lemmas.Grind.{flat_map-append}
use Rattle.std.proofs.lemmas.List.{append-nil}
use Rattle.std.proofs.lemmas.List.Concat.{flat_map-cons}
use Rattle.attribute_scalars.specs.Walks.{is_in}
use Rattle.compose_words.specs.declared.options.Scale.{Scale}
use Rattle.declared_slots.specs.Counts.{scale_of}
use Rattle.engine_types.specs.declared.declared.Slot.{Slot}
use Rattle.typed_project.specs.declared.service.Service.{Service}
use Rattle.declared_set.specs.Ground.{IsGround}
use Rattle.declared_set.specs.Slots.{common_of, common_with, slot_with, slots_in}
use Rattle.declared_set.specs.declared.slots.Common.{Common}
use Rattle.declared_set.specs.declared.slots.Ground.{Ground}

module _ (scales : List Scale) (ground : Ground) (service : Service) (is : IsGround scales ground) where
  same_common : common_with ground.loaded.now.project ground.ranges.now ground.networks.now (is_in ground.awaited.now.keys service.key) ground.digests.now service
      ≡ common_of ground.loaded.now.project scales ground.digests.now service
  same_common = λ i. common_with ground.loaded.now.project (is.ranges i) (is.networks i) (is.awaited service.key i) ground.digests.now service

  -- the slots of a service, by what they have in common and by how many there are
  pub slots_put : (old new : List Slot) (common : Common) (count : ℕ)
      → common ≡ common_with ground.loaded.now.project ground.ranges.now ground.networks.now (is_in ground.awaited.now.keys service.key) ground.digests.now service
      → count ≡ scale_of scales service → new ≡ old ++ map (slot_with ground.loaded.now service common) (range_with_len 1 count)
      → new ≡ old ++ slots_in ground.loaded.now scales ground.digests.now service
  slots_put old new common count shared counts put =
      put ∙ (λ i. old ++ map (slot_with ground.loaded.now service ((shared ∙ same_common) i)) (range_with_len 1 (counts i)))

-- what one more item gives, behind what those before it give
pub flat_more : {X Y : Type 0} (f : X → List Y) (xs : List X) (i : ℕ) (x : X) (before new : List Y) → i < length xs → x ≡ get_or xs i x
    → before ≡ flat_map f (take i xs) → new ≡ before ++ f x → new ≡ flat_map f (take (i + 1) xs)
flat_more {X} {Y} f xs i x before new within is so put =
    let front : take (i + 1) xs ≡ take i xs ++ x ∷ [] = rw (add-one) (take-suc xs i x within ∙ ap (λ (y : X). take i xs ++ y ∷ []) (sym is)) in
    let one : flat_map f (x ∷ []) ≡ f x = flat_map-cons f x [] ∙ append-nil (f x) in
    put ∙ ap (λ (b : List Y). b ++ f x) so ∙ ap (λ (e : List Y). flat_map f (take i xs) ++ e) (sym one) ∙ sym (flat_map-append f (take i xs) (x ∷ [])) ∙ ap (flat_map f) (sym front)
