-- What an Engine may answer to each request of the Docker Engine API, and how it is then changed. An Engine is
-- known by its look-ups alone: containers and networks by id, volumes and images by name.
use Rattle.std.specs.Prelude.{◌≡◌, ◌⊎◌, ℕ, zero, suc, Bool, true, false, not, if◌then◌else◌, ◌&&◌, ◌||◌, List, [], ◌∷◌, Option, Some, None, IsSomeAnd, find, map, option_map, unwrap_or, is_some, codes, pos, ◌==◌}
use Rattle.std.specs.List.{list_any, list_all, before_first, IsDistinct, AllZip}
use Rattle.std.specs.Option.{option_map_or}
use Rattle.std.specs.Str.{bytes_eq}
use Rattle.tree_base.specs.declared.Var.{Var}
use Rattle.engine_types.specs.Labels as the
use Rattle.engine_types.specs.Labels.{label}
use Rattle.engine_types.specs.declared.ContainerSpec.{ContainerSpec}
use Rattle.engine_types.specs.declared.Endpoint.{Endpoint}
use Rattle.engine_types.specs.declared.ContainerRow.{ContainerRow}
use Rattle.engine_types.specs.declared.ContainerState.{ContainerState}
use Rattle.engine_types.specs.declared.Health.{Health}
use Rattle.engine_types.specs.declared.Report.{Report}
use Rattle.engine_types.specs.declared.Listed.{Listed}
use Rattle.engine_types.specs.declared.NetRow.{NetRow}
use Rattle.engine_types.specs.declared.Engine.{Engine}
use Rattle.engine_types.specs.declared.Exchange.{Exchange}
use Rattle.engine_types.specs.declared.Request.{Request}
use Rattle.engine_types.specs.declared.Reply.{Reply}
use Rattle.engine_types.specs.declared.Outcome.{Outcome}

-- whether a label has this value
abbrev pub has_label : List Var → List ℕ → List ℕ → Bool
has_label labels name value = option_map_or (bytes_eq value) (label labels name) false

-- whether labels are those of a project's container: its project label names the project, and it is no one-off run
abbrev pub is_of_project : List ℕ → List Var → Bool
is_of_project project labels =
    has_label labels the.project_label project
    && has_label labels the.oneoff_label the.not_oneoff

-- the container with an id
abbrev pub container_at : Engine → List ℕ → Option ContainerRow
container_at engine id = find (λ row. bytes_eq row.id id) engine.containers

-- the network with an id
abbrev pub network_at : Engine → List ℕ → Option NetRow
network_at engine id = find (λ row. bytes_eq row.id id) engine.networks

-- whether a volume with a name is there
abbrev pub has_volume : Engine → List ℕ → Bool
has_volume engine name = list_any (bytes_eq name) engine.volumes

-- the id of the image with a name, as the name is written
abbrev pub image_at : Engine → List ℕ → Option (List ℕ)
image_at engine name =
    option_map (λ row. row.id) (find (λ row. bytes_eq row.name name) engine.images)

-- whether the network with an id has a name
abbrev pub network_has_name : Engine → List ℕ → List ℕ → Bool
network_has_name engine name id =
    option_map_or (λ row. bytes_eq name row.name) (network_at engine id) false

-- whether a network with a name is there
abbrev pub has_network_named : Engine → List ℕ → Bool
has_network_named engine name = list_any (λ row. bytes_eq name row.name) engine.networks

-- whether a container has a name
abbrev pub has_container_named : Engine → List ℕ → Bool
has_container_named engine name = list_any (λ row. bytes_eq name row.name) engine.containers

-- a live container: running, paused or restarting
abbrev pub is_live : ContainerState → Bool
is_live ContainerState.Running = true
is_live ContainerState.Paused = true
is_live ContainerState.Restarting = true
is_live _ = false

-- whether a start begins anything: the container was created, or has exited
abbrev pub can_start : ContainerState → Bool
can_start ContainerState.Created = true
can_start ContainerState.Exited = true
can_start _ = false

-- whether a start finds the container started
abbrev pub is_started : ContainerState → Bool
is_started ContainerState.Running = true
is_started ContainerState.Restarting = true
is_started _ = false

-- whether the first item of a health test names one: it is there, and isn't NONE
abbrev pub first_is_test : List (List ℕ) → Bool
first_is_test [] = false
first_is_test (first ∷ rest) = not (bytes_eq first (codes "NONE"))

-- whether a container has a health test: one whose first item isn't NONE
abbrev pub has_test : ContainerSpec → Bool
has_test spec =
    option_map_or (λ check. option_map_or first_is_test check.test false) spec.healthcheck false

-- the health after a start: it starts anew where there is a test, and else stays
abbrev pub started_health : ContainerSpec → Health → Health
started_health spec health = if has_test spec then Health.Starting else health

-- the container after a start
abbrev pub started_row : ContainerRow → ContainerRow
started_row row = record row {
  report = record row.report {
    state = ContainerState.Running;
    health = started_health row.spec row.report.health;
  };
}

-- the container after a stop
abbrev pub stopped_row : ContainerRow → ContainerRow
stopped_row row =
    record row { report = record row.report { state = ContainerState.Exited; exit_code = pos 0 } }

-- the networks that a container is to be on, by name
abbrev pub endpoints_of : ContainerSpec → List Endpoint
endpoints_of spec = unwrap_or spec.endpoints_config []

-- the container as a create makes it: it has written nothing
abbrev pub created_row : List ℕ → List ℕ → ContainerSpec → List ℕ → List (List ℕ) → ContainerRow
created_row id name spec image networks = record {
  id = id;
  name = name;
  spec = spec;
  labels = spec.labels;
  image_id = image;
  networks = networks;
  report = record { state = ContainerState.Created; exit_code = pos 0; health = Health.Absent };
  logs = [];
}

-- whether a container binds a volume: the part of a bind before its first colon is the volume's name
abbrev pub binds_volume : List ℕ → ContainerRow → Bool
binds_volume name row =
    list_any (λ bind. bytes_eq name (before_first (λ c. c == 58) bind))
    (unwrap_or row.spec.binds [])

-- whether a container is on a network
abbrev pub is_on : List ℕ → ContainerRow → Bool
is_on id row = list_any (bytes_eq id) row.networks

-- x is an item of the list
abbrev pub Among : {X : Type 0} → List X → X → Type 0
Among [] x = ⊥
Among (y ∷ ys) x = (x ≡ y) ⊎ Among ys x

-- the second Engine has this container at the id, and the first's at every other
abbrev pub PutsContainer : Engine → Engine → List ℕ → Option ContainerRow → Type 0
PutsContainer old new id now =
    (i : List ℕ) → container_at new i ≡ (if bytes_eq id i then now else container_at old i)

-- the second Engine has this network at the id, and the first's at every other
abbrev pub PutsNetwork : Engine → Engine → List ℕ → Option NetRow → Type 0
PutsNetwork old new id now =
    (i : List ℕ) → network_at new i ≡ (if bytes_eq id i then now else network_at old i)

-- the second Engine has the volume or not, and the first's under every other name
abbrev pub PutsVolume : Engine → Engine → List ℕ → Bool → Type 0
PutsVolume old new name now =
    (n : List ℕ) → has_volume new n ≡ (if bytes_eq name n then now else has_volume old n)

-- the second Engine has this image under the name, and the first's under every other
abbrev pub PutsImage : Engine → Engine → List ℕ → Option (List ℕ) → Type 0
PutsImage old new name now =
    (n : List ℕ) → image_at new n ≡ (if bytes_eq name n then now else image_at old n)

-- both Engines have the same container at each id
abbrev pub SameContainers : Engine → Engine → Type 0
SameContainers old new = (i : List ℕ) → container_at new i ≡ container_at old i

-- both Engines have the same network at each id
abbrev pub SameNetworks : Engine → Engine → Type 0
SameNetworks old new = (i : List ℕ) → network_at new i ≡ network_at old i

-- both Engines have the same volumes
abbrev pub SameVolumes : Engine → Engine → Type 0
SameVolumes old new = (n : List ℕ) → has_volume new n ≡ has_volume old n

-- both Engines have the same image under each name
abbrev pub SameImages : Engine → Engine → Type 0
SameImages old new = (n : List ℕ) → image_at new n ≡ image_at old n

-- the Engine changed at one container alone
pub record ChangesContainer (old new : Engine) (id : List ℕ)
    (now : Option ContainerRow) : Type 0 where
  pub containers : PutsContainer old new id now
  pub networks : SameNetworks old new
  pub volumes : SameVolumes old new
  pub images : SameImages old new

-- the Engine changed at one network alone
pub record ChangesNetwork (old new : Engine) (id : List ℕ) (now : Option NetRow) : Type 0 where
  pub containers : SameContainers old new
  pub networks : PutsNetwork old new id now
  pub volumes : SameVolumes old new
  pub images : SameImages old new

-- the Engine changed at one volume alone
pub record ChangesVolume (old new : Engine) (name : List ℕ) (now : Bool) : Type 0 where
  pub containers : SameContainers old new
  pub networks : SameNetworks old new
  pub volumes : PutsVolume old new name now
  pub images : SameImages old new

-- the Engine changed at one image's name alone
pub record ChangesImage (old new : Engine) (name : List ℕ) (now : Option (List ℕ)) : Type 0 where
  pub containers : SameContainers old new
  pub networks : SameNetworks old new
  pub volumes : SameVolumes old new
  pub images : PutsImage old new name now

-- a row of a listing shows this container, with the names of its networks in any order
pub record Shows (engine : Engine) (row : ContainerRow) (listed : Listed) : Type 0 where
  pub id : listed.id ≡ row.id
  pub name : listed.name ≡ row.name
  pub image_id : listed.image_id ≡ row.image_id
  pub labels : listed.labels ≡ row.labels
  pub state : listed.state ≡ row.report.state
  pub networks : (n : List ℕ)
      → list_any (bytes_eq n) listed.networks ≡ list_any (network_has_name engine n) row.networks

-- a listing of containers: each of the project's once, in any order, and no other
pub record ListsContainers (engine : Engine) (project : List ℕ) (rows : List Listed) : Type 0 where
  pub distinct : IsDistinct bytes_eq (map (λ listed. listed.id) rows)
  pub shown : (listed : Listed) → Among rows listed → (row : ContainerRow)
      × (container_at engine listed.id ≡ Some row) × (is_of_project project row.labels ≡ true)
      × Shows engine row listed
  pub all : (id : List ℕ) (row : ContainerRow) → container_at engine id ≡ Some row
      → is_of_project project row.labels ≡ true
      → (listed : Listed) × Among rows listed × Shows engine row listed

-- a listing of networks: each once, in any order
pub record ListsNetworks (engine : Engine) (rows : List NetRow) : Type 0 where
  pub distinct : IsDistinct bytes_eq (map (λ row. row.id) rows)
  pub shown : (row : NetRow) → Among rows row → network_at engine row.id ≡ Some row
  pub all : (id : List ℕ) (row : NetRow) → network_at engine id ≡ Some row → Among rows row

-- a listing of volumes: each name once, in any order
pub record ListsVolumes (engine : Engine) (names : List (List ℕ)) : Type 0 where
  pub distinct : IsDistinct bytes_eq names
  pub same : (n : List ℕ) → list_any (bytes_eq n) names ≡ has_volume engine n

-- a container is made: its name is free, its image and the networks of its endpoints are there
pub record Creates (old new : Engine) (name : List ℕ) (spec : ContainerSpec)
    (id : List ℕ) : Type 0 where
  pub name_free : has_container_named old name ≡ false
  pub image : List ℕ
  pub image_is : option_map_or (image_at old) spec.image None ≡ Some image
  pub networks : List (List ℕ)
  pub networks_are : AllZip (λ endpoint network. network_has_name old endpoint.key network ≡ true)
      (endpoints_of spec) networks
  pub fresh : container_at old id ≡ None
  pub changes : ChangesContainer old new id (Some (created_row id name spec image networks))

-- the container at an id passes a test, and becomes another or goes
pub record Updates (old new : Engine) (id : List ℕ) (may : ContainerState → Bool)
    (now : ContainerRow → Option ContainerRow) : Type 0 where
  pub row : ContainerRow
  pub was : container_at old id ≡ Some row
  pub could : may row.report.state ≡ true
  pub changes : ChangesContainer old new id (now row)

-- the container at an id passes a test, and nothing changes
pub record Finds (old new : Engine) (id : List ℕ) (may : ContainerState → Bool) : Type 0 where
  pub row : ContainerRow
  pub was : container_at old id ≡ Some row
  pub could : may row.report.state ≡ true
  pub same : new ≡ old

-- a container joins a network that it wasn't on
pub record Connects (old new : Engine) (network container : List ℕ) : Type 0 where
  pub row : ContainerRow
  pub was : container_at old container ≡ Some row
  pub network_there : is_some (network_at old network) ≡ true
  pub apart : is_on network row ≡ false
  pub networks : List (List ℕ)
  pub joined : (i : List ℕ)
      → list_any (bytes_eq i) networks ≡ (bytes_eq i network || list_any (bytes_eq i) row.networks)
  pub changes : ChangesContainer old new container (Some (record row { networks = networks }))

-- the good answers, request by request
abbrev pub Grants : Engine → Request → Reply → Engine → Type 0
Grants old (Request.ListContainers project) (Reply.Containers rows) new =
    ListsContainers old project rows × (new ≡ old)
Grants old (Request.Inspect id) (Reply.State report) new =
    IsSomeAnd (container_at old id) (λ row. row.report ≡ report) × (new ≡ old)
Grants old (Request.Logs id) (Reply.Bytes bytes) new =
    IsSomeAnd (container_at old id) (λ row. row.logs ≡ bytes) × (new ≡ old)
Grants old (Request.Create name spec) (Reply.Made id) new = Creates old new name spec id
Grants old (Request.Start id) Reply.Done new =
    Updates old new id can_start (λ row. Some (started_row row))
Grants old (Request.Start id) Reply.Already new = Finds old new id is_started
Grants old (Request.Stop id seconds) Reply.Done new =
    Updates old new id is_live (λ row. Some (stopped_row row))
Grants old (Request.Stop id seconds) Reply.Already new =
    Finds old new id (λ state. not (is_live state))
Grants old (Request.Remove id) Reply.Done new =
    Updates old new id (λ state. not (is_live state)) (λ row. None)
Grants old Request.ListNetworks (Reply.Networks rows) new = ListsNetworks old rows × (new ≡ old)
Grants old (Request.MakeNetwork spec) (Reply.Made id) new =
    (network_at old id ≡ None)
    × ChangesNetwork old new id (Some (record { id = id; name = spec.name; labels = spec.labels }))
Grants old (Request.Connect network container aliases) Reply.Done new =
    Connects old new network container
Grants old (Request.RemoveNetwork id) Reply.Done new =
    (is_some (network_at old id) ≡ true) × (list_any (is_on id) old.containers ≡ false)
    × ChangesNetwork old new id None
Grants old Request.ListVolumes (Reply.Volumes names) new = ListsVolumes old names × (new ≡ old)
Grants old (Request.MakeVolume spec) Reply.Done new = ChangesVolume old new spec.name true
Grants old (Request.RemoveVolume name) Reply.Done new =
    (has_volume old name ≡ true) × (list_any (binds_volume name) old.containers ≡ false)
    × ChangesVolume old new name false
Grants old (Request.Image name) (Reply.ImageId id) new = (image_at old name ≡ Some id) × (new ≡ old)
Grants old (Request.Pull name) Reply.Pulled new =
    (id : List ℕ) × ChangesImage old new name (Some id)
Grants _ _ _ _ = ⊥

-- the Engine may answer so, and is then the second one: a refusal, and a pull that failed, change nothing
abbrev pub Answers : Engine → Request → Reply → Engine → Type 0
Answers old request (Reply.Refused status message) new = new ≡ old
Answers old (Request.Pull name) (Reply.PullFailed message) new = new ≡ old
Answers old request reply new = Grants old request reply new

-- a state that an Engine leaves by itself: running, restarting or exited
abbrev pub is_lively : ContainerState → Bool
is_lively ContainerState.Running = true
is_lively ContainerState.Restarting = true
is_lively ContainerState.Exited = true
is_lively _ = false

-- a report that the Engine turns into another by itself: a container goes from one lively state to another, with
-- any exit code and health, or one that runs gets another health
abbrev pub TurnsInto : Report → Report → Type 0
TurnsInto old new =
    ((is_lively old.state ≡ true) × (is_lively new.state ≡ true) × (old.state ≡ new.state → ⊥))
    ⊎ ((old.state ≡ ContainerState.Running) × (new ≡ record old { health = new.health }))

-- one container changes by the Engine's own doing, as by its restart policy
pub record ChangesItself (old new : Engine) : Type 0 where
  pub id : List ℕ
  pub row : ContainerRow
  pub report : Report
  pub was : container_at old id ≡ Some row
  pub turns : TurnsInto row.report report
  pub changes : ChangesContainer old new id (Some (record row { report = report }))

-- so many own changes, one after another
abbrev pub ChangesItselfTimes : ℕ → Engine → Engine → Type 0
ChangesItselfTimes zero old new = new ≡ old
ChangesItselfTimes (suc n) old new =
    (mid : Engine) × ChangesItselfTimes n old mid × ChangesItself mid new

-- any number of own changes
abbrev pub Drifts : Engine → Engine → Type 0
Drifts old new = (n : ℕ) × ChangesItselfTimes n old new

-- a sound Engine: ids and names differ, and the networks of each container are there
pub record IsSound (engine : Engine) : Type 0 where
  pub container_ids : IsDistinct bytes_eq (map (λ row. row.id) engine.containers)
  pub container_names : IsDistinct bytes_eq (map (λ row. row.name) engine.containers)
  pub network_ids : IsDistinct bytes_eq (map (λ row. row.id) engine.networks)
  pub volume_names : IsDistinct bytes_eq engine.volumes
  pub image_names : IsDistinct bytes_eq (map (λ row. row.name) engine.images)
  pub attached : list_all
      (λ row. list_all (λ id. is_some (network_at engine id)) row.networks) engine.containers ≡ true

-- how an exchange changes the Engine that a hand tells: an answer is one step with that reply, what wasn't sent
-- changes nothing, and what was lost is at most one step, with any reply
abbrev pub Tells : Option Engine → Request → Outcome → Option Engine → Type 0
Tells None request outcome new = new ≡ None
Tells (Some old) request (Outcome.Answered reply) new =
    IsSomeAnd new (λ engine. Answers old request reply engine)
Tells (Some old) request Outcome.NotSent new = new ≡ Some old
Tells (Some old) request _ new =
    (new ≡ Some old) ⊎ IsSomeAnd new (λ engine. (reply : Reply) × Answers old request reply engine)

-- how a pause changes the Engine that a hand tells: by own changes alone
abbrev pub DriftsTold : Option Engine → Option Engine → Type 0
DriftsTold None new = new ≡ None
DriftsTold (Some old) new = IsSomeAnd new (λ engine. Drifts old engine)

-- a step of a hand: it made an exchange, or paused for so many milliseconds
pub data Step : Type 0 where
  Made : Exchange → Step
  Paused : ℕ → Step

-- the exchanges among these steps, in order
abbrev pub exchanges_in : List Step → List Exchange
exchanges_in [] = []
exchanges_in (Made exchange ∷ rest) = exchange ∷ exchanges_in rest
exchanges_in (Paused milliseconds ∷ rest) = exchanges_in rest

-- how a step changes the Engine that a hand tells
abbrev pub TellsStep : Step → Option Engine → Option Engine → Type 0
TellsStep (Made exchange) old new = Tells old exchange.request exchange.outcome new
TellsStep (Paused milliseconds) old new = DriftsTold old new

-- the Engine that a hand tells went through these steps, in order
abbrev pub TellsSteps : List Step → Option Engine → Option Engine → Type 0
TellsSteps [] old new = new ≡ old
TellsSteps (step ∷ rest) old new =
    (mid : Option Engine) × TellsStep step old mid × TellsSteps rest mid new

-- these exchanges as steps, with no pause
abbrev pub unpaused : List Exchange → List Step
unpaused [] = []
unpaused (exchange ∷ rest) = Made exchange ∷ unpaused rest

-- the Engine that a hand tells went through these exchanges, in order, with no pause
abbrev pub ToldBy : List Exchange → Option Engine → Option Engine → Type 0
ToldBy exchanges old new = TellsSteps (unpaused exchanges) old new
