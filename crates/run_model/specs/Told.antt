-- What the exchanges of an observation told.
use Rattle.std.specs.Prelude.{◌≡◌, ◌⊎◌, ℕ, Bool, true, false, if◌then◌else◌, List, [], ◌∷◌, Option, Some, None, reverse}
use Rattle.std.specs.List.{list_all}
use Rattle.std.specs.Str.{bytes_eq}
use Rattle.engine_types.specs.declared.Declared.{Declared}
use Rattle.engine_types.specs.declared.Exchange.{Exchange}
use Rattle.engine_types.specs.declared.Listed.{Listed}
use Rattle.engine_types.specs.declared.Outcome.{Outcome}
use Rattle.engine_types.specs.declared.Purpose.{Purpose}
use Rattle.engine_types.specs.declared.Reply.{Reply}
use Rattle.engine_types.specs.declared.Request.{Request}
use Rattle.engine_types.specs.declared.Seen.{Seen}
use Rattle.engine_types.specs.declared.Slot.{Slot}
use Rattle.run_model.specs.EngineRules.{Among}
use Rattle.run_model.specs.Observation.{is_up, listing_fault}
use Rattle.run_model.specs.Plans.{seen_image}
use Rattle.tree_base.specs.ByteOrder.{first_of_each}

-- whether an exchange was answered and its request changes nothing but, by a pull, one image
abbrev pub is_look : Request → Outcome → Bool
is_look (Request.ListContainers project) (Outcome.Answered reply) = true
is_look Request.ListNetworks (Outcome.Answered reply) = true
is_look Request.ListVolumes (Outcome.Answered reply) = true
is_look (Request.Image name) (Outcome.Answered reply) = true
is_look (Request.Pull name) (Outcome.Answered reply) = true
is_look _ _ = false

-- what is known of an image's id after an exchange: a look tells it, and a pull makes it unknown
abbrev pub id_after : List ℕ → Request → Outcome → Option (List ℕ) → Option (List ℕ)
id_after image (Request.Image other) (Outcome.Answered (Reply.ImageId id)) before =
    if bytes_eq image other then Some id else before
id_after image (Request.Pull other) outcome before = if bytes_eq image other then None else before
id_after image _ _ before = before

-- what exchanges, newest first, told of an image's id
abbrev pub id_told : List ℕ → List Exchange → Option (List ℕ)
id_told image [] = None
id_told image (exchange ∷ past) =
    id_after image exchange.request exchange.outcome (id_told image past)

-- an exchange that was answered so
abbrev pub answered : Request → Reply → Exchange
answered request reply = record { request = request; outcome = Outcome.Answered reply }

-- what was seen is what these exchanges told: the first rows with each id of the listing of containers, all rows of the other
-- listings, of which none was asked for where the project declares none, and of each slot's image the id that was told last
pub record IsTold (declared : Declared) (purpose : Purpose) (exchanges : List Exchange)
    (seen : Seen) : Type 0 where
  pub looks : list_all (λ exchange. is_look exchange.request exchange.outcome) exchanges ≡ true
  pub rows : List Listed
  pub listed : Among exchanges
      (answered (Request.ListContainers declared.project) (Reply.Containers rows))
  pub containers : seen.containers ≡ first_of_each (λ row. row.id) rows
  pub networks : ((declared.networks ≡ []) × (seen.networks ≡ []))
      ⊎ Among exchanges (answered Request.ListNetworks (Reply.Networks seen.networks))
  pub volumes : ((declared.volumes ≡ []) × (seen.volumes ≡ []))
      ⊎ Among exchanges (answered Request.ListVolumes (Reply.Volumes seen.volumes))
  pub sound : listing_fault declared purpose seen ≡ None
  pub images : (slot : Slot) → is_up purpose ≡ true → Among declared.slots slot
      → (id : List ℕ) × (id_told slot.image (reverse exchanges) ≡ Some id)
      × (seen_image seen slot ≡ Some id)
