-- What an observation asks of the Engine, what it may have been answered, and how it ends.
use Rattle.std.specs.Prelude.{◌≡◌, ◌⊎◌, ℕ, Bool, true, false, not, if◌then◌else◌, ◌&&◌, ◌==◌, List, [], ◌∷◌, ◌++◌, Option, Some, None, filter, find, length, map}
use Rattle.std.specs.List.{list_any}
use Rattle.std.specs.Option.{option_or}
use Rattle.std.specs.Str.{bytes_eq}
use Rattle.engine_types.specs.Labels as the
use Rattle.engine_types.specs.declared.Declared.{Declared}
use Rattle.engine_types.specs.declared.Slot.{Slot}
use Rattle.engine_types.specs.declared.Kind.{Kind}
use Rattle.engine_types.specs.declared.Policy.{Policy}
use Rattle.engine_types.specs.declared.NetworkSpec.{NetworkSpec}
use Rattle.engine_types.specs.declared.VolumeSpec.{VolumeSpec}
use Rattle.engine_types.specs.declared.Listed.{Listed}
use Rattle.engine_types.specs.declared.NetRow.{NetRow}
use Rattle.engine_types.specs.declared.Request.{Request}
use Rattle.engine_types.specs.declared.Reply.{Reply}
use Rattle.engine_types.specs.declared.Outcome.{Outcome}
use Rattle.engine_types.specs.declared.Exchange.{Exchange}
use Rattle.engine_types.specs.declared.Observed.{Observed}
use Rattle.engine_types.specs.declared.Purpose.{Purpose}
use Rattle.engine_types.specs.declared.Seen.{Seen}
use Rattle.engine_types.specs.declared.SeenEnd.{SeenEnd}
use Rattle.engine_types.specs.declared.SeenFault.{SeenFault}
use Rattle.run_model.specs.EngineRules.{has_label}
use Rattle.tree_base.specs.ByteOrder.{by_key, first_of_each}

-- where exchanges have led an observation: a request comes next, or it has ended, or they aren't its exchanges
pub data Onward : Type 0 where
  Asks : Request → Onward
  Ends : SeenEnd → Onward
  Strays : Onward

-- whether a request of observation is this one
abbrev pub is_request : Request → Request → Bool
is_request (Request.ListContainers project) (Request.ListContainers other) = bytes_eq project other
is_request Request.ListNetworks Request.ListNetworks = true
is_request Request.ListVolumes Request.ListVolumes = true
is_request (Request.Image name) (Request.Image other) = bytes_eq name other
is_request (Request.Pull name) (Request.Pull other) = bytes_eq name other
is_request _ _ = false

-- the request is the next exchange's, whose outcome leads on from there
abbrev pub asking : Request → (Outcome → List Exchange → Onward) → List Exchange → Onward
asking request onward [] = Asks request
asking request onward (exchange ∷ rest) =
    if is_request request exchange.request then onward exchange.outcome rest else Strays

-- the end stands after the last exchange
abbrev pub ending : SeenEnd → List Exchange → Onward
ending end [] = Ends end
ending end (exchange ∷ rest) = Strays

-- the fault of an outcome without the reply that was asked for: a refusal with its status and message (a reply of
-- another request has neither), a response that was lost, a request that wasn't sent, or want of memory
abbrev pub fault_in : Request → Outcome → SeenFault
fault_in request (Outcome.Answered (Reply.Refused status message)) =
    SeenFault.RequestFailed request status message
fault_in request (Outcome.Answered reply) = SeenFault.RequestFailed request 0 []
fault_in request (Outcome.Lost cause) = SeenFault.Lost request cause
fault_in request Outcome.NotSent = SeenFault.NotSent request
fault_in request Outcome.Memory = SeenFault.Memory

-- an outcome without the reply that was asked for ends the observation
abbrev pub failing : Request → Outcome → List Exchange → Onward
failing request outcome rest = ending (SeenEnd.Bad (fault_in request outcome)) rest

-- the images of the slots, each once, in byte order
abbrev pub images_of : Declared → List (List ℕ)
images_of declared =
    by_key (λ image. image)
    (first_of_each (λ image. image) (map (λ slot. slot.image) declared.slots))

-- the policy Always, `always` of the Compose Specification's `pull_policy`
abbrev pub is_always : Policy → Bool
is_always Policy.Always = true
is_always _ = false

-- the policy Missing, `missing` or nothing of the Compose Specification's `pull_policy`
abbrev pub is_missing : Policy → Bool
is_missing Policy.Missing = true
is_missing _ = false

-- the slots that have an image
abbrev pub slots_with : Declared → List ℕ → List Slot
slots_with declared image = filter (λ slot. bytes_eq image slot.image) declared.slots

-- an image's policy: Always if a slot with that image says so, else Missing if one says so, else Never
abbrev pub policy_of : Declared → List ℕ → Policy
policy_of declared image =
    if list_any (λ slot. is_always slot.policy) (slots_with declared image) then Policy.Always
    else if list_any (λ slot. is_missing slot.policy) (slots_with declared image)
    then Policy.Missing else Policy.Never

-- the least service with an image that is to be built
abbrev pub builder_of : Declared → List ℕ → Option Slot
builder_of declared image = find (λ slot. slot.has_build) (slots_with declared image)

-- after a look at an image: its id leads on
abbrev pub after_look : List ℕ → (List ℕ → List Exchange → Onward) → Outcome → List Exchange
    → Onward
after_look image onward (Outcome.Answered (Reply.ImageId id)) rest = onward id rest
after_look image onward outcome rest = failing (Request.Image image) outcome rest

-- the image's id is asked for, and leads on
abbrev pub inspecting : List ℕ → (List ℕ → List Exchange → Onward) → List Exchange → Onward
inspecting image onward = asking (Request.Image image) (after_look image onward)

-- after a pull of an image: its id is asked for, unless the pull's stream has an error
abbrev pub after_pull : List ℕ → (List ℕ → List Exchange → Onward) → Outcome → List Exchange
    → Onward
after_pull image onward (Outcome.Answered Reply.Pulled) rest = inspecting image onward rest
after_pull image onward (Outcome.Answered (Reply.PullFailed message)) rest =
    ending (SeenEnd.Bad (SeenFault.PullFailed image message)) rest
after_pull image onward outcome rest = failing (Request.Pull image) outcome rest

-- the image is pulled, and then its id is asked for
abbrev pub pulling : List ℕ → (List ℕ → List Exchange → Onward) → List Exchange → Onward
pulling image onward = asking (Request.Pull image) (after_pull image onward)

-- an image that isn't there is pulled, unless a service is to build it
abbrev pub wanting : Option Slot → List ℕ → (List ℕ → List Exchange → Onward) → List Exchange
    → Onward
wanting (Some slot) image onward rest =
    ending (SeenEnd.Bad (SeenFault.NeedsBuild slot.service)) rest
wanting None image onward rest = pulling image onward rest

-- after a first look at an image: its id leads on, and 404 says that it isn't there
abbrev pub after_first_look : Option Slot → List ℕ → (List ℕ → List Exchange → Onward) → Outcome
    → List Exchange → Onward
after_first_look builder image onward (Outcome.Answered (Reply.ImageId id)) rest = onward id rest
after_first_look builder image onward (Outcome.Answered (Reply.Refused status message)) rest =
    if status == 404 then wanting builder image onward rest
    else failing (Request.Image image) (Outcome.Answered (Reply.Refused status message)) rest
after_first_look builder image onward outcome rest = failing (Request.Image image) outcome rest

-- the image's id is asked for, and where it isn't there, the image is pulled
abbrev pub fetching : Option Slot → List ℕ → (List ℕ → List Exchange → Onward) → List Exchange
    → Onward
fetching builder image onward = asking (Request.Image image) (after_first_look builder image onward)

-- an image is looked at by its policy
abbrev pub by_policy : Declared → Policy → List ℕ → (List ℕ → List Exchange → Onward)
    → List Exchange → Onward
by_policy declared Policy.Always image onward rest = pulling image onward rest
by_policy declared Policy.Missing image onward rest =
    fetching (builder_of declared image) image onward rest
by_policy declared Policy.Never image onward rest = inspecting image onward rest

-- what was seen, with one more image
abbrev pub with_image : Seen → List ℕ → List ℕ → Seen
with_image seen image id =
    record seen { images = seen.images ++ record { name = image; id = id } ∷ [] }

-- these images are looked at one after another, and the observation ends well
abbrev pub seeing_images : Declared → List (List ℕ) → Seen → List Exchange → Onward
seeing_images declared [] seen rest = ending (SeenEnd.Good seen) rest
seeing_images declared (image ∷ images) seen rest =
    by_policy declared (policy_of declared image) image
    (λ id. seeing_images declared images (with_image seen image id)) rest

-- whether the project is to be brought up
abbrev pub is_up : Purpose → Bool
is_up Purpose.Up = true
is_up Purpose.Down = false

-- what is wrong with a declared network, by the listed rows of its name: it is there twice (the two least ids count),
-- it is another project's, or it is external and, for `up`, missing
abbrev pub network_fault : Declared → Purpose → List NetRow → NetworkSpec → Option SeenFault
network_fault declared purpose rows network =
    of (by_key (λ row. row.id) (filter (λ row. bytes_eq network.name row.name) rows))
  where
    of : List NetRow → Option SeenFault
    of [] =
        if network.external && is_up purpose
        then Some (SeenFault.ExternalMissing Kind.Network network.name) else None
    of (row ∷ []) =
        if network.external then None
        else if has_label row.labels the.project_label declared.project then None
        else Some (SeenFault.ForeignNetwork network.name row.id)
    of (row ∷ other ∷ rest) = Some (SeenFault.NetworkTwice network.name row.id other.id)

-- what is wrong with a declared volume: it is external and, for `up`, missing
abbrev pub volume_fault : Purpose → List (List ℕ) → VolumeSpec → Option SeenFault
volume_fault purpose names volume =
    if volume.external && is_up purpose && not (list_any (bytes_eq volume.name) names)
    then Some (SeenFault.ExternalMissing Kind.Volume volume.name) else None

-- the first fault of a list's items
abbrev pub first_in : {X : Type 0} → (X → Option SeenFault) → List X → Option SeenFault
first_in fault [] = None
first_in fault (x ∷ xs) = option_or (fault x) (first_in fault xs)

-- what is wrong with what was listed: the declared networks in byte order of name, then the volumes
abbrev pub listing_fault : Declared → Purpose → Seen → Option SeenFault
listing_fault declared purpose seen =
    option_or (first_in (network_fault declared purpose seen.networks) declared.networks)
    (first_in (volume_fault purpose seen.volumes) declared.volumes)

-- after the judgement of the listings: for `up` the images are looked at
abbrev pub after_judging : Declared → Purpose → Seen → Option SeenFault → List Exchange → Onward
after_judging declared purpose seen (Some bad) rest = ending (SeenEnd.Bad bad) rest
after_judging declared Purpose.Up seen None rest =
    seeing_images declared (images_of declared) seen rest
after_judging declared Purpose.Down seen None rest = ending (SeenEnd.Good seen) rest

-- the listings are judged
abbrev pub judging : Declared → Purpose → Seen → List Exchange → Onward
judging declared purpose seen rest =
    after_judging declared purpose seen (listing_fault declared purpose seen) rest

-- after the listing of volumes
abbrev pub after_volumes : Declared → Purpose → Seen → Outcome → List Exchange → Onward
after_volumes declared purpose seen (Outcome.Answered (Reply.Volumes names)) rest =
    judging declared purpose (record seen { volumes = names }) rest
after_volumes declared purpose seen outcome rest = failing Request.ListVolumes outcome rest

-- the volumes are listed where the project declares any
abbrev pub listing_volumes : Declared → Purpose → Seen → List Exchange → Onward
listing_volumes declared purpose seen rest =
    if length declared.volumes == 0 then judging declared purpose seen rest
    else asking Request.ListVolumes (after_volumes declared purpose seen) rest

-- after the listing of networks
abbrev pub after_networks : Declared → Purpose → Seen → Outcome → List Exchange → Onward
after_networks declared purpose seen (Outcome.Answered (Reply.Networks rows)) rest =
    listing_volumes declared purpose (record seen { networks = rows }) rest
after_networks declared purpose seen outcome rest = failing Request.ListNetworks outcome rest

-- the networks are listed where the project declares any
abbrev pub listing_networks : Declared → Purpose → Seen → List Exchange → Onward
listing_networks declared purpose seen rest =
    if length declared.networks == 0 then listing_volumes declared purpose seen rest
    else asking Request.ListNetworks (after_networks declared purpose seen) rest

-- what a listing of containers shows, where only the first of several rows with one id counts
abbrev pub seen_containers : List Listed → Seen
seen_containers rows = record {
  containers = first_of_each (λ row. row.id) rows;
  networks = [];
  volumes = [];
  images = [];
}

-- after the listing of containers
abbrev pub after_containers : Declared → Purpose → Outcome → List Exchange → Onward
after_containers declared purpose (Outcome.Answered (Reply.Containers rows)) rest =
    listing_networks declared purpose (seen_containers rows) rest
after_containers declared purpose outcome rest =
    failing (Request.ListContainers declared.project) outcome rest

-- where exchanges have led an observation of the declared set: the containers are listed, then the networks, then
-- the volumes; what was listed is judged; and for `up` each image is looked at, in byte order
abbrev pub observed : Declared → Purpose → List Exchange → Onward
observed declared purpose exchanges =
    asking (Request.ListContainers declared.project) (after_containers declared purpose) exchanges

-- whether the exchanges are the first ones of some observation, or all
abbrev pub is_asked : Onward → Bool
is_asked Strays = false
is_asked _ = true

-- an observation of the declared set: it ended as its exchanges say, or for want of memory after any of them
abbrev pub IsObservation : Declared → Purpose → Observed → Type 0
IsObservation declared purpose observation =
    (observed declared purpose observation.exchanges ≡ Ends observation.end)
    ⊎ ((observation.end ≡ SeenEnd.Bad SeenFault.Memory)
    × (is_asked (observed declared purpose observation.exchanges) ≡ true))
