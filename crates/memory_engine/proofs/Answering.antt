-- An Engine in memory answers each request as an Engine may.
use Rattle.std.proofs.Common.{◌≡◌, ℕ, ◌^◌, ◌<◌, true, not, if◌then◌else◌, ◌||◌, List, [], ◌∷◌, ◌++◌, Option, Some, Result, Ok, Err, refl, sym, ap, ◌∙◌, subst}
use Rattle.std.specs.Prelude.{find, is_some, is_none, unwrap_or, IfOk}
use Rattle.std.specs.List.{list_all, filter_map, AllZip}
use Rattle.std.specs.Option.{option_map, option_map_or}
use Rattle.std.specs.Str.{bytes_eq}
use Rattle.std.proofs.lemmas.Bool.{and_parts, or_parts, cond_both, not-false}
use Rattle.engine_types.specs.declared.ContainerRow.{ContainerRow}
use Rattle.engine_types.specs.declared.ContainerSpec.{ContainerSpec}
use Rattle.engine_types.specs.declared.Endpoint.{Endpoint}
use Rattle.engine_types.specs.declared.Engine.{Engine}
use Rattle.engine_types.specs.declared.ImageRow.{ImageRow}
use Rattle.engine_types.specs.declared.NetRow.{NetRow}
use Rattle.engine_types.specs.declared.NetworkSpec.{NetworkSpec}
use Rattle.engine_types.specs.declared.Reply.{Reply}
use Rattle.engine_types.specs.declared.Request.{Request}
use Rattle.run_model.specs.EngineRules.{Answers, ChangesContainer, ChangesVolume, IsSound, can_start, container_at, created_row, endpoints_of, has_container_named, has_network_named, has_volume, image_at, is_live, is_on, is_started, network_at, network_has_name, started_row, stopped_row}
use Rattle.memory_engine.specs.declared.catalogue.Catalogue.{Catalogue}
use Rattle.memory_engine.specs.Ids.{id_text, image_id_text}
use Rattle.memory_engine.specs.Keeping.{IsKept}
use Rattle.memory_engine.specs.Serving.{can_be_pulled, conflict, connected, created, forbidden, image_for, image_told, joined_row, lacks_network, logs_told, network_in_use, network_named, network_removed, networks_for, not_found, pulled, removed, served, started, stopped, volume_in_use, volume_removed, with_container, with_created, with_image, with_network, with_volume, without_container, without_network, without_volume}
use Rattle.memory_engine.proofs.Texts.{by_cases, bytes_eq_apart, bytes_eq_alike, bytes_eq_flips}
use Rattle.memory_engine.proofs.AnyAll.{any-alike, any-filter, any-push, find-any, some_of}
use Rattle.memory_engine.proofs.Distinct.{find-among}
use Rattle.memory_engine.proofs.KeyedRows.{find-filter, find-push, find-with_first}
use Rattle.memory_engine.proofs.Keeps.{free_container, free_network, next_is_free}
use Rattle.memory_engine.proofs.Listings.{lists_containers, lists_networks, lists_volumes}
use Rattle.memory_engine.proofs.Outcomes.{on_container_both, option_both}

abbrev id_of : ContainerRow → List ℕ
id_of row = row.id

abbrev network_id_of : NetRow → List ℕ
network_id_of row = row.id

-- what a request may come to
abbrev May : Engine → Request → Reply × Engine → Type 0
May engine request out = Answers engine request out.0 out.1

-- the container with an id is changed, and no other
pub changes_container : (engine : Engine) (id : List ℕ) (f : ContainerRow → ContainerRow) → ((row : ContainerRow) → (f row).id ≡ row.id)
    → (row : ContainerRow) → container_at engine id ≡ Some row → ChangesContainer engine (with_container engine id f) id (Some (f row))
changes_container engine id f keeps row was = record {
  containers = λ i. find-with_first id_of f keeps id i engine.containers
      ∙ ap (λ (o : Option ContainerRow). if bytes_eq id i then option_map f o else container_at engine i) was;
  networks = λ i. refl;
  volumes = λ n. refl;
  images = λ n. refl;
}

may_start : (engine : Engine) (id : List ℕ) → May engine (Request.Start id) (started engine id)
may_start engine id = on_container_both (May engine (Request.Start id)) engine id (λ row.
    if is_started row.report.state then (Reply.Already, engine)
    else (if can_start row.report.state then (Reply.Done, with_container engine id started_row) else (conflict, engine)))
    refl
    (λ row was. cond_both (is_started row.report.state) (Reply.Already, engine)
    (if can_start row.report.state then (Reply.Done, with_container engine id started_row) else (conflict, engine)) (May engine (Request.Start id))
    (λ could. record { row = row; was = was; could = could; same = refl })
    (λ _. cond_both (can_start row.report.state) (Reply.Done, with_container engine id started_row) (conflict, engine) (May engine (Request.Start id))
    (λ could. record { row = row; was = was; could = could; changes = changes_container engine id started_row (λ _. refl) row was })
    (λ _. refl)))

may_stop : (engine : Engine) (id : List ℕ) (seconds : ℕ) → May engine (Request.Stop id seconds) (stopped engine id)
may_stop engine id seconds = on_container_both (May engine (Request.Stop id seconds)) engine id (λ row.
    if is_live row.report.state then (Reply.Done, with_container engine id stopped_row) else (Reply.Already, engine))
    refl
    (λ row was. cond_both (is_live row.report.state) (Reply.Done, with_container engine id stopped_row) (Reply.Already, engine) (May engine (Request.Stop id seconds))
    (λ could. record { row = row; was = was; could = could; changes = changes_container engine id stopped_row (λ _. refl) row was })
    (λ rests. record { row = row; was = was; could = rw rests refl; same = refl }))

may_remove : (engine : Engine) (id : List ℕ) → May engine (Request.Remove id) (removed engine id)
may_remove engine id = on_container_both (May engine (Request.Remove id)) engine id (λ row.
    if is_live row.report.state then (conflict, engine) else (Reply.Done, without_container engine id))
    refl
    (λ row was. cond_both (is_live row.report.state) (conflict, engine) (Reply.Done, without_container engine id) (May engine (Request.Remove id))
    (λ _. refl)
    (λ rests. record {
      row = row;
      was = was;
      could = rw rests refl;
      changes = record {
        containers = λ i. find-filter id_of id i engine.containers;
        networks = λ i. refl;
        volumes = λ n. refl;
        images = λ n. refl;
      };
    }))

may_inspect : (engine : Engine) (id : List ℕ) → May engine (Request.Inspect id) (served Catalogue.All engine (Request.Inspect id))
may_inspect engine id = on_container_both (May engine (Request.Inspect id)) engine id (λ row. (Reply.State row.report, engine))
    refl
    (λ row was. (rw was refl, refl))

may_tell_logs : (engine : Engine) (id : List ℕ) → May engine (Request.Logs id) (logs_told engine id)
may_tell_logs engine id = on_container_both (May engine (Request.Logs id)) engine id (λ row. (Reply.Bytes row.logs, engine))
    refl
    (λ row was. (rw was refl, refl))

-- ---- creates

-- a network of each name, where all are there
networks_named : (engine : Engine) → IsSound engine → (endpoints : List Endpoint) → list_all (λ endpoint. has_network_named engine endpoint.key) endpoints ≡ true
    → AllZip (λ endpoint network. network_has_name engine endpoint.key network ≡ true) endpoints (filter_map (λ endpoint. network_named engine endpoint.key) endpoints)
networks_named engine sound [] all = tt
networks_named engine sound (endpoint ∷ endpoints) all =
    let parts = and_parts (has_network_named engine endpoint.key) (list_all (λ e. has_network_named engine e.key) endpoints) all in
    let rest = networks_named engine sound endpoints parts.1 in
    let first = find-any (λ (row : NetRow). bytes_eq endpoint.key row.name) engine.networks parts.0 in
    let there : network_at engine first.0.id ≡ Some first.0 = find-among network_id_of engine.networks first.0 sound.network_ids first.3 in
    let named : network_has_name engine endpoint.key first.0.id ≡ true = rw there first.2 in
    rw first.1 (named, rest)

may_create : (engine : Engine) (name : List ℕ) (spec : ContainerSpec) → engine.next < 2 ^ 64 → IsKept engine
    → May engine (Request.Create name spec) (created engine name spec)
may_create engine name spec fits kept =
    let made : Reply × Engine = (Reply.Made (id_text engine.next), with_created engine name spec (unwrap_or (image_for engine spec) [])) in
    let lacks = is_none (image_for engine spec) || lacks_network engine spec in
    cond_both (has_container_named engine name) (conflict, engine) (if lacks then (not_found, engine) else made) (May engine (Request.Create name spec))
    (λ _. refl)
    (λ name_free. cond_both lacks (not_found, engine) made (May engine (Request.Create name spec))
    (λ _. refl)
    (λ whole.
    let parts = or_parts (is_none (image_for engine spec)) (lacks_network engine spec) whole in
    let image = some_of (image_for engine spec) parts.0 in
    let no_container = free_container engine (id_text engine.next) (next_is_free engine fits kept) in
    record {
      name_free = name_free;
      image = unwrap_or (image_for engine spec) [];
      image_is = rw image.1 refl;
      networks = networks_for engine spec;
      networks_are = networks_named engine kept.sound (endpoints_of spec) (not-false (list_all (λ endpoint. has_network_named engine endpoint.key) (endpoints_of spec)) parts.1);
      fresh = no_container;
      changes = record {
        containers = λ i. find-push id_of (created_row (id_text engine.next) name spec (unwrap_or (image_for engine spec) []) (networks_for engine spec))
            (id_text engine.next) i refl engine.containers no_container;
        networks = λ i. refl;
        volumes = λ n. refl;
        images = λ n. refl;
      };
    }))

-- ---- networks

may_make_network : (engine : Engine) (spec : NetworkSpec) → engine.next < 2 ^ 64 → IsKept engine
    → May engine (Request.MakeNetwork spec) (Reply.Made (id_text engine.next), with_network engine spec)
may_make_network engine spec fits kept =
    let no_network = free_network engine (id_text engine.next) (next_is_free engine fits kept) in
    let row : NetRow = record { id = id_text engine.next; name = spec.name; labels = spec.labels } in (
      no_network,
      record {
        containers = λ i. refl;
        networks = λ i. find-push network_id_of row (id_text engine.next) i refl engine.networks no_network;
        volumes = λ n. refl;
        images = λ n. refl;
      },
    )

may_connect : (engine : Engine) (network container : List ℕ) (aliases : List (List ℕ)) → May engine (Request.Connect network container aliases) (connected engine network container)
may_connect engine network container aliases =
    let may : Reply × Engine → Type 0 = May engine (Request.Connect network container aliases) in
    let act : ContainerRow → Reply × Engine = λ row.
    if is_on network row then (forbidden, engine) else (Reply.Done, with_container engine container (joined_row network)) in
    cond_both (is_none (network_at engine network)) (not_found, engine) (option_map_or act (container_at engine container) (not_found, engine)) may
    (λ _. refl)
    (λ there. option_both may act (not_found, engine) (container_at engine container)
    (λ _. refl)
    (λ row was. cond_both (is_on network row) (forbidden, engine) (Reply.Done, with_container engine container (joined_row network)) may
    (λ _. refl)
    (λ apart. record {
      row = row;
      was = was;
      network_there = not-false (is_some (network_at engine network)) there;
      apart = apart;
      networks = row.networks ++ network ∷ [];
      joined = λ i. any-push (bytes_eq i) network row.networks;
      changes = changes_container engine container (joined_row network) (λ _. refl) row was;
    })))

may_remove_network : (engine : Engine) (id : List ℕ) → May engine (Request.RemoveNetwork id) (network_removed engine id)
may_remove_network engine id =
    let may : Reply × Engine → Type 0 = May engine (Request.RemoveNetwork id) in
    cond_both (is_none (network_at engine id)) (not_found, engine) (if network_in_use engine id then (forbidden, engine) else (Reply.Done, without_network engine id)) may
    (λ _. refl)
    (λ there. cond_both (network_in_use engine id) (forbidden, engine) (Reply.Done, without_network engine id) may
    (λ _. refl)
    (λ unused. (
      not-false (is_some (network_at engine id)) there,
      unused,
      record {
        containers = λ i. refl;
        networks = λ i. find-filter network_id_of id i engine.networks;
        volumes = λ n. refl;
        images = λ n. refl;
      },
    )))

-- ---- volumes and images

volume_put : (engine : Engine) (name n : List ℕ) → has_volume (with_volume engine name) n ≡ (if bytes_eq name n then true else has_volume engine n)
volume_put engine name n = by_cases (has_volume engine name)
    (λ there. rw there (by_cases (bytes_eq name n)
    (λ e. rw e (sym (any-alike name n engine.volumes e) ∙ there))
    (λ e. rw e refl)))
    (λ absent. rw absent (any-push (bytes_eq n) name engine.volumes
    ∙ ap (λ b. b || has_volume engine n) (bytes_eq_flips n name)
    ∙ by_cases (bytes_eq name n) (λ e. rw e refl) (λ e. rw e refl)))

may_make_volume : (engine : Engine) (name : List ℕ) → ChangesVolume engine (with_volume engine name) name true
may_make_volume engine name = record {
  containers = λ i. refl;
  networks = λ i. refl;
  volumes = λ n. volume_put engine name n;
  images = λ n. refl;
}

may_remove_volume : (engine : Engine) (name : List ℕ) → May engine (Request.RemoveVolume name) (volume_removed engine name)
may_remove_volume engine name =
    let may : Reply × Engine → Type 0 = May engine (Request.RemoveVolume name) in
    cond_both (not (has_volume engine name)) (not_found, engine) (if volume_in_use engine name then (conflict, engine) else (Reply.Done, without_volume engine name)) may
    (λ _. refl)
    (λ there. cond_both (volume_in_use engine name) (conflict, engine) (Reply.Done, without_volume engine name) may
    (λ _. refl)
    (λ unused. (
      not-false (has_volume engine name) there,
      unused,
      record {
        containers = λ i. refl;
        networks = λ i. refl;
        volumes = λ n. any-filter name n engine.volumes;
        images = λ n. refl;
      },
    )))

may_tell_image : (engine : Engine) (name : List ℕ) → May engine (Request.Image name) (image_told engine name)
may_tell_image engine name =
    option_both (May engine (Request.Image name)) (λ id. (Reply.ImageId id, engine)) (not_found, engine) (image_at engine name)
    (λ _. refl)
    (λ id is. (is, refl))

image_put : (name id n : List ℕ) (rows : List ImageRow)
    → option_map (λ row. row.id) (find (λ row. bytes_eq row.name n) (with_image rows name id))
    ≡ (if bytes_eq name n then Some id else option_map (λ row. row.id) (find (λ row. bytes_eq row.name n) rows))
image_put name id n [] = by_cases (bytes_eq name n) (λ e. rw e refl) (λ e. rw e refl)
image_put name id n (row ∷ rows) =
    let rest = image_put name id n rows in
    by_cases (bytes_eq row.name name)
    (λ here. let alike = bytes_eq_alike row.name name n here in
    rw (here, alike) (by_cases (bytes_eq name n) (λ e. rw e refl) (λ e. rw e refl)))
    (λ apart. by_cases (bytes_eq row.name n)
    (λ there. let other = bytes_eq_apart row.name name n apart there in rw (apart, there, other) refl)
    (λ away. rw (apart, away, rest) refl))

may_pull : (catalogue : Catalogue) (engine : Engine) (name : List ℕ) → May engine (Request.Pull name) (pulled catalogue engine name)
may_pull catalogue engine name =
    cond_both (can_be_pulled catalogue name) (Reply.Pulled, record engine { images = with_image engine.images name (image_id_text name) }) (not_found, engine)
    (May engine (Request.Pull name))
    (λ _. (
      image_id_text name,
      record {
        containers = λ i. refl;
        networks = λ i. refl;
        volumes = λ n. refl;
        images = λ n. image_put name (image_id_text name) n engine.images;
      },
    ))
    (λ _. refl)

-- every request is answered as an Engine may
pub served_answers : (catalogue : Catalogue) (engine : Engine) (request : Request) → engine.next < 2 ^ 64 → IsKept engine
    → Answers engine request (served catalogue engine request).0 (served catalogue engine request).1
served_answers catalogue engine (Request.ListContainers project) fits kept = (lists_containers engine project kept.sound, refl)
served_answers catalogue engine (Request.Inspect id) fits kept = may_inspect engine id
served_answers catalogue engine (Request.Logs id) fits kept = may_tell_logs engine id
served_answers catalogue engine (Request.Create name spec) fits kept = may_create engine name spec fits kept
served_answers catalogue engine (Request.Start id) fits kept = may_start engine id
served_answers catalogue engine (Request.Stop id seconds) fits kept = may_stop engine id seconds
served_answers catalogue engine (Request.Remove id) fits kept = may_remove engine id
served_answers catalogue engine Request.ListNetworks fits kept = (lists_networks engine kept.sound, refl)
served_answers catalogue engine (Request.MakeNetwork spec) fits kept = may_make_network engine spec fits kept
served_answers catalogue engine (Request.Connect network container aliases) fits kept = may_connect engine network container aliases
served_answers catalogue engine (Request.RemoveNetwork id) fits kept = may_remove_network engine id
served_answers catalogue engine Request.ListVolumes fits kept = (lists_volumes engine kept.sound, refl)
served_answers catalogue engine (Request.MakeVolume spec) fits kept = may_make_volume engine spec.name
served_answers catalogue engine (Request.RemoveVolume name) fits kept = may_remove_volume engine name
served_answers catalogue engine (Request.Image name) fits kept = may_tell_image engine name
served_answers catalogue engine (Request.Pull name) fits kept = may_pull catalogue engine name

-- what was answered is what an Engine may answer
pub answered_so : {E : Type 0} (catalogue : Catalogue) (engine : Engine) (request : Request) (new : Engine) (result : Result Reply E) → engine.next < 2 ^ 64 → IsKept engine
    → IfOk result (λ reply. served catalogue engine request ≡ (reply, new)) → IfOk result (λ reply. Answers engine request reply new)
answered_so catalogue engine request new (Ok reply) fits kept ok =
    subst (λ (out : Reply × Engine). Answers engine request out.0 out.1) ok (served_answers catalogue engine request fits kept)
answered_so catalogue engine request new (Err e) fits kept ok = tt
