-- The actions that a plan may have for one container or one slot, and the order of the containers.
use Rattle.std.specs.Prelude.{ℕ, List, [], ◌∷◌, map, slice_get}
use Rattle.std.specs.Option.{option_map_or}
use Rattle.engine_types.specs.declared.ActionKind.{ActionKind}
use Rattle.engine_types.specs.declared.ActionKind.TheVariants.{ConnectSlot, RemoveContainer, StopContainer}
use Rattle.engine_types.specs.declared.Attach.{Attach}
use Rattle.engine_types.specs.declared.Listed.{Listed}
use Rattle.run_model.specs.Plans.{Basis, slot_at}
use Rattle.run_model.specs.Numbers.{places}

-- the networks that the slot with this number attaches to
abbrev pub attaches_of : Basis → ℕ → List Attach
attaches_of basis s = option_map_or (λ slot. slot.attach) (slot_at basis.declared s) []

-- the connects of the slot with this number
abbrev pub connects_of : Basis → ℕ → List ActionKind
connects_of basis s = map (λ k. ConnectSlot s k) (places (attaches_of basis s))

-- the end of the container at this place
abbrev pub ends_of : ℕ → List ActionKind
ends_of c = StopContainer c ∷ RemoveContainer c ∷ []

-- the id of the container at this place, and the empty text past the last
abbrev pub id_at : List Listed → ℕ → List ℕ
id_at rows place = option_map_or (λ row. row.id) (slice_get rows place) []
