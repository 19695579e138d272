-- What is read from outcomes and from what was listed.
use Rattle.std.specs.Prelude.{◌≡◌, ◌⊎◌, ℕ, Bool, true, false, not, ◌&&◌, List, [], Option, Some, None, Result, Ok, Err, ◌==◌}
use Rattle.std.specs.List.{list_any}
use Rattle.std.specs.Str.{bytes_eq}
use Rattle.tree_base.specs.declared.Memory.{Memory}
use Rattle.engine_types.specs.declared.Exchange.{Exchange}
use Rattle.engine_types.specs.declared.Listed.{Listed}
use Rattle.engine_types.specs.declared.NetRow.{NetRow}
use Rattle.engine_types.specs.declared.Outcome.{Outcome}
use Rattle.engine_types.specs.declared.Purpose.{Purpose}
use Rattle.engine_types.specs.declared.Reply.{Reply}
use Rattle.engine_types.specs.declared.Seen.{Seen}
use Rattle.engine_types.specs.declared.SeenFault.{SeenFault}
use Rattle.engine_types.specs.declared.SeenEnd.{SeenEnd}
use Rattle.engine_types.specs.declared.Slot.{Slot}
use Rattle.engine_types.specs.declared.VolumeSpec.{VolumeSpec}
use Rattle.run_model.specs.Observation.{Onward, is_asked, is_up, wanting}

-- want of memory as a fault of the observation
abbrev pub or_memory : {X : Type 0} → Result X Memory → Result X SeenFault
or_memory (Ok x) = Ok x
or_memory (Err memory) = Err SeenFault.Memory

-- a fault that was made, or want of memory in its place
abbrev pub fault_or_memory : Result SeenFault Memory → SeenFault
fault_or_memory (Ok fault) = fault
fault_or_memory (Err memory) = SeenFault.Memory

-- this fault, or want of memory in its place
abbrev pub OrMemory : SeenFault → SeenFault → Type 0
OrMemory expected fault = (fault ≡ expected) ⊎ (fault ≡ SeenFault.Memory)

-- how an observation ends that saw this
abbrev pub end_of : Result Seen SeenFault → SeenEnd
end_of (Ok seen) = SeenEnd.Good seen
end_of (Err fault) = SeenEnd.Bad fault

-- the containers of a listing
abbrev pub containers_told : Outcome → Option (List Listed)
containers_told (Outcome.Answered (Reply.Containers rows)) = Some rows
containers_told _ = None

-- the networks of a listing
abbrev pub networks_told : Outcome → Option (List NetRow)
networks_told (Outcome.Answered (Reply.Networks rows)) = Some rows
networks_told _ = None

-- the names of volumes of a listing
abbrev pub volumes_told : Outcome → Option (List (List ℕ))
volumes_told (Outcome.Answered (Reply.Volumes names)) = Some names
volumes_told _ = None

-- the id of an image
abbrev pub id_told : Outcome → Option (List ℕ)
id_told (Outcome.Answered (Reply.ImageId id)) = Some id
id_told _ = None

-- whether an image isn't there: 404
abbrev pub tells_missing : Outcome → Bool
tells_missing (Outcome.Answered (Reply.Refused status message)) = status == 404
tells_missing _ = false

-- whether an image was pulled
abbrev pub tells_pulled : Outcome → Bool
tells_pulled (Outcome.Answered Reply.Pulled) = true
tells_pulled _ = false

-- the message of an error in the stream of a pull
abbrev pub pull_error : Outcome → Option (List ℕ)
pull_error (Outcome.Answered (Reply.PullFailed message)) = Some message
pull_error _ = None

-- what comes after each id may come after it
abbrev pub AreAsked : (List ℕ → List Exchange → Onward) → Type 0
AreAsked onward = (id : List ℕ) → is_asked (onward id []) ≡ true

-- an image's id that was found leads on, and else the image is wanted
abbrev pub found_or_wanted : Option Slot → List ℕ → (List ℕ → List Exchange → Onward)
    → Option (List ℕ) → List Exchange → Onward
found_or_wanted builder image onward (Some id) = onward id
found_or_wanted builder image onward None = wanting builder image onward

-- whether a declared volume is external and, for `up`, missing
abbrev pub is_missing : Purpose → List (List ℕ) → VolumeSpec → Bool
is_missing purpose names volume =
    volume.external && is_up purpose && not (list_any (bytes_eq volume.name) names)
