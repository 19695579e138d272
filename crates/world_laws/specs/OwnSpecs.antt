-- Declared sets whose slots' specs are made for them.
use Rattle.std.specs.Prelude.{◌≡◌, ◌<◌, ◌^◌, true, Some, slice_get}
use Rattle.std.specs.List.{list_any}
use Rattle.std.specs.Str.{bytes_eq}
use Rattle.engine_types.specs.Labels as the
use Rattle.engine_types.specs.declared.Attach.{Attach}
use Rattle.engine_types.specs.declared.Declared.{Declared}
use Rattle.engine_types.specs.declared.Slot.{Slot}
use Rattle.run_model.specs.EngineRules.{Among, endpoints_of, has_label}
use Rattle.run_model.specs.Labels.{hash_for, is_of_slot}
use Rattle.run_model.specs.Plans.{network_name}

-- a slot's spec is made for it: its labels are those of the slot's containers and have the slot's hash of their version, its image is the
-- slot's, and the network of the slot's first attach is one of its endpoints; and its number is one of 32 bits, so that the
-- label's text tells it
pub record IsOwnSpec (declared : Declared) (slot : Slot) : Type 0 where
  pub labels : is_of_slot declared.project slot slot.spec.labels ≡ true
  pub hash : has_label slot.spec.labels the.hash_label (hash_for slot slot.spec.labels) ≡ true
  pub image : slot.spec.image ≡ Some slot.image
  pub endpoint : (attach : Attach) → slice_get slot.attach 0 ≡ Some attach
      → list_any (λ endpoint. bytes_eq endpoint.key (network_name declared attach))
      (endpoints_of slot.spec) ≡ true
  pub number : slot.number < 2 ^ 32

-- the spec of each slot is made for it
abbrev pub HasOwnSpecs : Declared → Type 0
HasOwnSpecs declared = (slot : Slot) → Among declared.slots slot → IsOwnSpec declared slot
