-- What an Engine in memory answers to each request of the Docker Engine API, and what it then is.
use Rattle.std.specs.Prelude.{ℕ, ◌+◌, Bool, true, not, if◌then◌else◌, ◌||◌, List, [], ◌∷◌, ◌++◌, Option, None, filter, find, is_none, unwrap_or, codes}
use Rattle.std.specs.List.{filter_map, list_all, list_any}
use Rattle.std.specs.Option.{option_map, option_map_or}
use Rattle.std.specs.Str.{bytes_eq}
use Rattle.engine_types.specs.declared.ContainerRow.{ContainerRow}
use Rattle.engine_types.specs.declared.ContainerSpec.{ContainerSpec}
use Rattle.engine_types.specs.declared.Engine.{Engine}
use Rattle.engine_types.specs.declared.ImageRow.{ImageRow}
use Rattle.engine_types.specs.declared.NetworkSpec.{NetworkSpec}
use Rattle.engine_types.specs.declared.Reply.{Reply}
use Rattle.engine_types.specs.declared.Request.{Request}
use Rattle.run_model.specs.EngineRules.{binds_volume, can_start, container_at, created_row, endpoints_of, has_container_named, has_network_named, has_volume, image_at, is_live, is_on, is_started, network_at, started_row, stopped_row}
use Rattle.memory_engine.specs.declared.catalogue.Catalogue.{Catalogue}
use Rattle.memory_engine.specs.Ids.{id_text, image_id_text}
use Rattle.memory_engine.specs.Listing.{listing}

-- the Engine API's 404: what the request names isn't there
abbrev pub not_found : Reply
not_found = Reply.Refused 404 (codes "not found")

-- the Engine API's 409: something stands in the way
abbrev pub conflict : Reply
conflict = Reply.Refused 409 (codes "conflict")

-- the Engine API's 403: it isn't allowed
abbrev pub forbidden : Reply
forbidden = Reply.Refused 403 (codes "forbidden")

-- whether the image with a name can be pulled
abbrev pub can_be_pulled : Catalogue → List ℕ → Bool
can_be_pulled Catalogue.All name = true
can_be_pulled (Catalogue.Only names) name = list_any (bytes_eq name) names

-- a list in which the first item that passes a test is changed
abbrev pub with_first : {X : Type 0} → (X → Bool) → (X → X) → List X → List X
with_first passes change [] = []
with_first passes change (x ∷ xs) = if passes x then change x ∷ xs else x ∷ with_first passes change xs

-- the Engine in which the container with an id is changed
abbrev pub with_container : Engine → List ℕ → (ContainerRow → ContainerRow) → Engine
with_container engine id change = record engine { containers = with_first (λ row. bytes_eq row.id id) change engine.containers }

-- what comes of a request on the container with an id: it isn't found where there is none
abbrev pub on_container : Engine → List ℕ → (ContainerRow → Reply × Engine) → Reply × Engine
on_container engine id act = option_map_or act (container_at engine id) (not_found, engine)

-- GET /containers/{id}/json
abbrev pub inspected : Engine → List ℕ → Reply × Engine
inspected engine id = on_container engine id (λ row. (Reply.State row.report, engine))

-- GET /containers/{id}/logs
abbrev pub logs_told : Engine → List ℕ → Reply × Engine
logs_told engine id = on_container engine id (λ row. (Reply.Bytes row.logs, engine))

-- the id of the image that a container is to be made of
abbrev pub image_for : Engine → ContainerSpec → Option (List ℕ)
image_for engine spec = option_map_or (image_at engine) spec.image None

-- the id of the first network with a name
abbrev pub network_named : Engine → List ℕ → Option (List ℕ)
network_named engine name = option_map (λ row. row.id) (find (λ row. bytes_eq name row.name) engine.networks)

-- the ids of the networks that a container is to be on
abbrev pub networks_for : Engine → ContainerSpec → List (List ℕ)
networks_for engine spec = filter_map (λ endpoint. network_named engine endpoint.key) (endpoints_of spec)

-- whether a network that a container is to be on isn't there
abbrev pub lacks_network : Engine → ContainerSpec → Bool
lacks_network engine spec = not (list_all (λ endpoint. has_network_named engine endpoint.key) (endpoints_of spec))

-- the Engine with a container more, under the next id
abbrev pub with_created : Engine → List ℕ → ContainerSpec → List ℕ → Engine
with_created engine name spec image = record engine {
  containers = engine.containers ++ created_row (id_text engine.next) name spec image (networks_for engine spec) ∷ [];
  next = engine.next + 1;
}

-- POST /containers/create: in the way is a container with the name, and the image and the networks have to be there
abbrev pub created : Engine → List ℕ → ContainerSpec → Reply × Engine
created engine name spec =
    if has_container_named engine name then (conflict, engine)
    else (if is_none (image_for engine spec) || lacks_network engine spec then (not_found, engine)
    else (Reply.Made (id_text engine.next), with_created engine name spec (unwrap_or (image_for engine spec) [])))

-- POST /containers/{id}/start: only a created container or one that exited can start
abbrev pub started : Engine → List ℕ → Reply × Engine
started engine id = on_container engine id (λ row.
    if is_started row.report.state then (Reply.Already, engine)
    else (if can_start row.report.state then (Reply.Done, with_container engine id started_row)
    else (conflict, engine)))

-- POST /containers/{id}/stop
abbrev pub stopped : Engine → List ℕ → Reply × Engine
stopped engine id = on_container engine id (λ row.
    if is_live row.report.state then (Reply.Done, with_container engine id stopped_row) else (Reply.Already, engine))

-- the Engine without the container with an id
abbrev pub without_container : Engine → List ℕ → Engine
without_container engine id = record engine { containers = filter (λ row. not (bytes_eq row.id id)) engine.containers }

-- DELETE /containers/{id}: in the way is that it is live
abbrev pub removed : Engine → List ℕ → Reply × Engine
removed engine id = on_container engine id (λ row.
    if is_live row.report.state then (conflict, engine) else (Reply.Done, without_container engine id))

-- the Engine with a network more, under the next id
abbrev pub with_network : Engine → NetworkSpec → Engine
with_network engine spec = record engine {
  networks = engine.networks ++ record { id = id_text engine.next; name = spec.name; labels = spec.labels } ∷ [];
  next = engine.next + 1;
}

-- the container after it joined a network
abbrev pub joined_row : List ℕ → ContainerRow → ContainerRow
joined_row network row = record row { networks = row.networks ++ network ∷ [] }

-- POST /networks/{id}/connect: it isn't allowed where the container is on the network already
abbrev pub connected : Engine → List ℕ → List ℕ → Reply × Engine
connected engine network container =
    if is_none (network_at engine network) then (not_found, engine)
    else on_container engine container (λ row.
    if is_on network row then (forbidden, engine)
    else (Reply.Done, with_container engine container (joined_row network)))

-- whether a container is on a network
abbrev pub network_in_use : Engine → List ℕ → Bool
network_in_use engine id = list_any (is_on id) engine.containers

-- the Engine without the network with an id
abbrev pub without_network : Engine → List ℕ → Engine
without_network engine id = record engine { networks = filter (λ row. not (bytes_eq row.id id)) engine.networks }

-- DELETE /networks/{id}: it isn't allowed while a container is on it
abbrev pub network_removed : Engine → List ℕ → Reply × Engine
network_removed engine id =
    if is_none (network_at engine id) then (not_found, engine)
    else (if network_in_use engine id then (forbidden, engine) else (Reply.Done, without_network engine id))

-- the Engine in which a volume is there
abbrev pub with_volume : Engine → List ℕ → Engine
with_volume engine name = record engine { volumes = if has_volume engine name then engine.volumes else engine.volumes ++ name ∷ [] }

-- whether a container binds a volume
abbrev pub volume_in_use : Engine → List ℕ → Bool
volume_in_use engine name = list_any (binds_volume name) engine.containers

-- the Engine without a volume
abbrev pub without_volume : Engine → List ℕ → Engine
without_volume engine name = record engine { volumes = filter (λ other. not (bytes_eq name other)) engine.volumes }

-- DELETE /volumes/{name}: in the way is a container that binds it
abbrev pub volume_removed : Engine → List ℕ → Reply × Engine
volume_removed engine name =
    if not (has_volume engine name) then (not_found, engine)
    else (if volume_in_use engine name then (conflict, engine) else (Reply.Done, without_volume engine name))

-- GET /images/{name}/json
abbrev pub image_told : Engine → List ℕ → Reply × Engine
image_told engine name = option_map_or (λ id. (Reply.ImageId id, engine)) (image_at engine name) (not_found, engine)

-- images in which a name has this id: a name that is there keeps its place, and a new one goes last
abbrev pub with_image : List ImageRow → List ℕ → List ℕ → List ImageRow
with_image [] name id = record { name = name; id = id } ∷ []
with_image (row ∷ rows) name id = if bytes_eq row.name name then record { name = name; id = id } ∷ rows else row ∷ with_image rows name id

-- POST /images/create: it is found where the catalogue has it, and its id is the name's digest
abbrev pub pulled : Catalogue → Engine → List ℕ → Reply × Engine
pulled catalogue engine name =
    if can_be_pulled catalogue name then (Reply.Pulled, record engine { images = with_image engine.images name (image_id_text name) })
    else (not_found, engine)

-- the answer to a request, and the Engine after it
abbrev pub served : Catalogue → Engine → Request → Reply × Engine
served catalogue engine (Request.ListContainers project) = (Reply.Containers (listing engine project), engine)
served catalogue engine (Request.Inspect id) = inspected engine id
served catalogue engine (Request.Logs id) = logs_told engine id
served catalogue engine (Request.Create name spec) = created engine name spec
served catalogue engine (Request.Start id) = started engine id
served catalogue engine (Request.Stop id seconds) = stopped engine id
served catalogue engine (Request.Remove id) = removed engine id
served catalogue engine Request.ListNetworks = (Reply.Networks engine.networks, engine)
served catalogue engine (Request.MakeNetwork spec) = (Reply.Made (id_text engine.next), with_network engine spec)
served catalogue engine (Request.Connect network container aliases) = connected engine network container
served catalogue engine (Request.RemoveNetwork id) = network_removed engine id
served catalogue engine Request.ListVolumes = (Reply.Volumes engine.volumes, engine)
served catalogue engine (Request.MakeVolume spec) = (Reply.Done, with_volume engine spec.name)
served catalogue engine (Request.RemoveVolume name) = volume_removed engine name
served catalogue engine (Request.Image name) = image_told engine name
served catalogue engine (Request.Pull name) = pulled catalogue engine name
