-- A project that is completed stays as it is when it is completed once more.
use Rattle.std.proofs.Common.{◌≡◌, ◌∙◌, ℕ, Bool, true, false, cond, List, [], ◌∷◌, None, Some, Ok, Err, map, codes, refl, sym, ap, subst}
use Rattle.std.specs.Prelude.{◌||◌, Option, Result, filter, flat_map, if◌then◌else◌, not, unwrap_or}
use Rattle.std.specs.List.{list_any}
use Rattle.std.specs.Option.{option_and_then, option_or}
use Rattle.std.specs.Str.{bytes_eq}
use Rattle.tree_base.specs.Answers.{◌>>=◌}
use Rattle.tree_base.specs.ByteOrder.{by_key, placed}
use Rattle.attribute_types.specs.Lookups.{as_files, as_mounts, as_networks, networks_at}
use Rattle.attribute_types.specs.Values.{value_at}
use Rattle.attribute_types.specs.declared.attribute.Attribute.{Attribute}
use Rattle.attribute_types.specs.declared.attribute.Value.{Value}
use Rattle.attribute_types.specs.declared.rows.Dependency.{Dependency}
use Rattle.attribute_scalars.specs.Walks.{is_in}
use Rattle.loaded_files.specs.declared.refusal.Kind.{Kind}
use Rattle.typed_project.specs.declared.network.Network.{Network}
use Rattle.typed_project.specs.declared.project.FileItem.{FileItem}
use Rattle.typed_project.specs.declared.project.Project.{Project}
use Rattle.typed_project.specs.declared.service.Service.{Service}
use Rattle.typed_project.specs.declared.volume.Volume.{Volume}
use Rattle.service_graph.specs.Cycles.{cycle, dependencies_of, first_of}
use Rattle.loading_words.specs.declared.refusal.ProjectRefusal.{ProjectRefusal}
use Rattle.loading_words.specs.declared.refusal.TreeRefusal.{TreeRefusal}
use Rattle.project_meaning.specs.Completing.{completed, completed_unless, config_keys, default_key, default_network, files_named, is_used, least_missing, network_keys, networks_named, says_networks, secret_keys, service_keys, services_required, settled, undefined_as, undefined_in, undefined_of, used_by, volume_keys, volumes_named, volume_of_mount, with_default_network, without_circle, without_missing}
use Rattle.laws_pages.proofs.Each.{Each, IsIn, each-both, each-by_key, each-kept, each-map, each_is_in, each_before-map, each_of-map, each_unsorted, filter-filter, is_in_more, key_kept, key_placed, key_still, map-map, map_itself, none_found, none_passes}
use Rattle.laws_pages.proofs.Rising.{Rises}
use Rattle.laws_pages.proofs.Settled.{joins_default, name_of, missing_value, settled_needs, settled_twice, settled_value, value-placed}

ok_same : (p q : Project) (r : Result Project TreeRefusal) → r ≡ Ok p → r ≡ Ok q → p ≡ q
ok_same p q (Ok x) e f = let a : x ≡ p = cc e in let b : x ≡ q = cc f in sym a ∙ b
ok_same p q (Err refusal) e f = absurd (cc e)

-- names of which none is missing
module _ (there : List (List ℕ)) where
  abbrev is_missing : List ℕ → Bool
  is_missing name = not (is_in there name)

  passed : (b : Bool) → not b ≡ false → b ≡ true
  passed true h = refl
  passed false h = absurd (cc h)

  pub none_missing : (names : List (List ℕ)) → Each (IsIn there) names → least_missing there names ≡ None
  none_missing names h =
      none_found is_missing (by_key (λ name. name) names)
      (each-by_key (λ name. name) (λ name. is_missing name ≡ false) names (each-map (IsIn there) (λ name. is_missing name ≡ false) (λ name is. ap not is) names h))

  pub all_there : (names : List (List ℕ)) → least_missing there names ≡ None → Each (IsIn there) names
  all_there names h =
      each-map (λ name. is_missing name ≡ false) (IsIn there) (λ name is. passed (is_in there name) is) names
      (each_unsorted (λ name. name) (λ name. is_missing name ≡ false) names (none_passes is_missing (by_key (λ name. name) names) h))

-- all names that a service uses are there
pub record AllThere (project : Project) (service : Service) : Type 0 where
  pub networks : least_missing (default_key ∷ network_keys project) (networks_named service) ≡ None
  pub volumes : least_missing (volume_keys project) (volumes_named service) ≡ None
  pub services : least_missing (service_keys project) (services_required service) ≡ None
  pub secrets : least_missing (secret_keys project) (files_named (codes "secrets") service) ≡ None
  pub configs : least_missing (config_keys project) (files_named (codes "configs") service) ≡ None

five_none : (kind : Kind) (service : Service) (missing : Option (List ℕ)) (rest : Option ProjectRefusal) → option_or (undefined_as kind service missing) rest ≡ None → (missing ≡ None) × (rest ≡ None)
five_none kind service None rest h = (refl, h)
five_none kind service (Some name) rest h = absurd (cc h)

pub told_there : (project : Project) (service : Service) → undefined_in project service ≡ None → AllThere project service
told_there project service h =
    let a = five_none Kind.Network service (least_missing (default_key ∷ network_keys project) (networks_named service)) _ h in
    let b = five_none Kind.Volume service (least_missing (volume_keys project) (volumes_named service)) _ a.1 in
    let c = five_none Kind.Service service (least_missing (service_keys project) (services_required service)) _ b.1 in
    let d = five_none Kind.Secret service (least_missing (secret_keys project) (files_named (codes "secrets") service)) _ c.1 in
    let e = five_none Kind.Config service (least_missing (config_keys project) (files_named (codes "configs") service)) None d.1 in
    record { networks = a.0; volumes = b.0; services = c.0; secrets = d.0; configs = e.0 }

pub none_undefined : (project : Project) (service : Service) → AllThere project service → undefined_in project service ≡ None
none_undefined project service h = rw (h.networks, h.volumes, h.services, h.secrets, h.configs) refl

module _ (project : Project) where
  each_told : (services : List Service) → first_of (map (undefined_in project) services) ≡ None → Each (AllThere project) services
  each_told [] h = tt
  each_told (service ∷ services) h = at (undefined_in project service) refl h (each_told services)
    where
      at : (o : Option ProjectRefusal) → undefined_in project service ≡ o → option_or o (first_of (map (undefined_in project) services)) ≡ None
          → (first_of (map (undefined_in project) services) ≡ None → Each (AllThere project) services) → AllThere project service × Each (AllThere project) services
      at None e h so = (told_there project service e, so h)
      at (Some refusal) e h so = absurd (cc h)

  each_none : (services : List Service) → Each (AllThere project) services → first_of (map (undefined_in project) services) ≡ None
  each_none [] h = refl
  each_none (service ∷ services) h = ap (λ (o : Option ProjectRefusal). option_or o (first_of (map (undefined_in project) services))) (none_undefined project service h.0) ∙ each_none services h.1

-- each name that a service uses is used
module _ (names : Service → List (List ℕ)) where
  abbrev UsedBy : List Service → List ℕ → Type 0
  UsedBy services name = is_used names services name ≡ true

  or_here : (b c : Bool) → b ≡ true → (b || c) ≡ true
  or_here b c h = ap (λ d. d || c) h

  or_later : (b c : Bool) → c ≡ true → (b || c) ≡ true
  or_later true c h = refl
  or_later false c h = h

  pub each_used : (services : List Service) → Each (λ service. Each (UsedBy services) (names service)) services
  each_used [] = tt
  each_used (service ∷ services) = (
    each-map (IsIn (names service)) (UsedBy (service ∷ services)) (λ name h. or_here (is_in (names service) name) (is_used names services name) h) (names service) (each_is_in (names service)),
    each-map (λ s. Each (UsedBy services) (names s)) (λ s. Each (UsedBy (service ∷ services)) (names s))
        (λ s h. each-map (UsedBy services) (UsedBy (service ∷ services)) (λ name k. or_later (is_in (names service) name) (is_used names services name) k) (names s) h)
        services (each_used services),
  )

-- names of elements that are kept where they are used
module _ {X : Type 0} (key : X → List ℕ) (names : Service → List (List ℕ)) (services : List Service) (items : List X) where
  pub kept_there : (service : Service) → Each (UsedBy names services) (names service) → Each (IsIn (map key items)) (names service)
      → Each (IsIn (map key (filter (λ item. is_used names services (key item)) items))) (names service)
  kept_there service used there =
      each-both (UsedBy names services) (IsIn (map key items)) (IsIn (map key (filter (λ item. is_used names services (key item)) items)))
      (λ name u h. key_kept key (is_used names services) name u items h) (names service) used there

module _ (declared : Project) (rises : Each (λ service. Rises name_of service.attributes) declared.services) where
  abbrev keys : List (List ℕ)
  keys = service_keys declared

  abbrev pub all : List Service
  all = map (settled keys) declared.services

  abbrev pub whole : Project
  whole = used_by declared all

  abbrev key_of_service : Service → List ℕ
  key_of_service service = service.key

  same_keys : service_keys whole ≡ keys
  same_keys = map-map key_of_service (settled keys) declared.services

  all_settled : Each (λ service. settled keys service ≡ service) all
  all_settled =
      each_of-map (settled keys) (λ service. settled keys service ≡ service) declared.services
      (each-map (λ service. Rises name_of service.attributes) (λ service. settled keys (settled keys service) ≡ settled keys service) (λ service rise. settled_twice keys service rise) declared.services rises)

  settled_same : map (settled (service_keys whole)) all ≡ all
  settled_same = ap (λ (k : List (List ℕ)). map (settled k) all) same_keys ∙ map_itself (settled keys) all all_settled

  -- the networks that are kept, with the default one
  abbrev uses_default : Bool
  uses_default = is_used networks_named all default_key

  abbrev with_it : List Network
  with_it = with_default_network declared.name uses_default declared.networks

  abbrev network_key : Network → List ℕ
  network_key network = network.key

  abbrev network_used : Network → Bool
  network_used network = is_used networks_named all network.key

  default_by : (used there : Bool) → is_in (map network_key declared.networks) default_key ≡ there → used ≡ true → IsIn (map network_key (with_default_network declared.name used declared.networks)) default_key
  default_by true true e h =
      ap (λ (b : Bool). is_in (map network_key (if b then declared.networks else placed network_key (default_network declared.name) declared.networks)) default_key) e ∙ e
  default_by true false e h =
      ap (λ (b : Bool). is_in (map network_key (if b then declared.networks else placed network_key (default_network declared.name) declared.networks)) default_key) e
      ∙ key_placed network_key (default_network declared.name) declared.networks
  default_by false there e h = absurd (cc h)

  default_there : uses_default ≡ true → IsIn (map network_key (filter network_used with_it)) default_key
  default_there h = key_kept network_key (is_used networks_named all) default_key h with_it (default_by uses_default _ refl h)

  networks_again : (used : Bool) → uses_default ≡ used → filter network_used (with_default_network declared.name used (filter network_used with_it)) ≡ filter network_used with_it
  networks_again false e = filter-filter network_used with_it
  networks_again true e =
      ap (λ (b : Bool). filter network_used (if b then filter network_used with_it else placed network_key (default_network declared.name) (filter network_used with_it))) (default_there e)
      ∙ filter-filter network_used with_it

  abbrev with_parts : List Network → List Volume → List FileItem → List FileItem → Project
  with_parts networks volumes secrets configs = record { name = declared.name; services = all; networks = networks; volumes = volumes; secrets = secrets; configs = configs }

  abbrev volume_used : Volume → Bool
  volume_used volume = is_used volumes_named all volume.key

  abbrev file_used : List ℕ → FileItem → Bool
  file_used name item = is_used (files_named name) all item.key

  same_project : used_by whole all ≡ whole
  same_project =
      ap (λ networks. with_parts networks (filter volume_used whole.volumes) (filter (file_used (codes "secrets")) whole.secrets) (filter (file_used (codes "configs")) whole.configs)) (networks_again uses_default refl)
      ∙ ap (λ volumes. with_parts whole.networks volumes (filter (file_used (codes "secrets")) whole.secrets) (filter (file_used (codes "configs")) whole.configs)) (filter-filter volume_used declared.volumes)
      ∙ ap (λ secrets. with_parts whole.networks whole.volumes secrets (filter (file_used (codes "configs")) whole.configs)) (filter-filter (file_used (codes "secrets")) declared.secrets)
      ∙ ap (λ configs. with_parts whole.networks whole.volumes whole.secrets configs) (filter-filter (file_used (codes "configs")) declared.configs)

  -- what a settled service uses is kept
  module _ (service : Service) (there : AllThere declared service) where
    abbrev this : Service
    this = settled keys service

    same_volumes : volumes_named this ≡ volumes_named service
    same_volumes =
        ap (λ (value : Option Value). flat_map (λ mount. volume_of_mount mount.kind mount.source) (unwrap_or (option_and_then as_mounts value) [])) (settled_value keys service (codes "volumes") refl refl refl)

    same_files : (name : List ℕ) → value_at this.attributes name ≡ value_at service.attributes name → files_named name this ≡ files_named name service
    same_files name e = ap (λ (value : Option Value). map (λ file. file.source) (unwrap_or (option_and_then as_files value) [])) e

    volumes_there : Each (UsedBy volumes_named all) (volumes_named this) → least_missing (volume_keys whole) (volumes_named this) ≡ None
    volumes_there used =
        none_missing (volume_keys whole) (volumes_named this)
        (kept_there (λ (volume : Volume). volume.key) volumes_named all declared.volumes this used
        (subst (λ (names : List (List ℕ)). Each (IsIn (volume_keys declared)) names) (sym same_volumes) (all_there (volume_keys declared) (volumes_named service) there.volumes)))

    secrets_there : Each (UsedBy (files_named (codes "secrets")) all) (files_named (codes "secrets") this) → least_missing (secret_keys whole) (files_named (codes "secrets") this) ≡ None
    secrets_there used =
        none_missing (secret_keys whole) (files_named (codes "secrets") this)
        (kept_there (λ (secret : FileItem). secret.key) (files_named (codes "secrets")) all declared.secrets this used
        (subst (λ (names : List (List ℕ)). Each (IsIn (secret_keys declared)) names) (sym (same_files (codes "secrets") (settled_value keys service (codes "secrets") refl refl refl)))
        (all_there (secret_keys declared) (files_named (codes "secrets") service) there.secrets)))

    configs_there : Each (UsedBy (files_named (codes "configs")) all) (files_named (codes "configs") this) → least_missing (config_keys whole) (files_named (codes "configs") this) ≡ None
    configs_there used =
        none_missing (config_keys whole) (files_named (codes "configs") this)
        (kept_there (λ (config : FileItem). config.key) (files_named (codes "configs")) all declared.configs this used
        (subst (λ (names : List (List ℕ)). Each (IsIn (config_keys declared)) names) (sym (same_files (codes "configs") (settled_value keys service (codes "configs") refl refl refl)))
        (all_there (config_keys declared) (files_named (codes "configs") service) there.configs)))

    required_in : (needs : List Dependency) → Each (λ need. is_in keys need.key ≡ true) needs → Each (IsIn keys) (map (λ need. need.key) (filter (λ need. need.required) needs))
    required_in [] h = tt
    required_in (need ∷ needs) h = at need.required (required_in needs h.1)
      where
        at : (b : Bool) → Each (IsIn keys) (map (λ need. need.key) (filter (λ need. need.required) needs))
            → Each (IsIn keys) (map (λ need. need.key) (cond b (need ∷ filter (λ need. need.required) needs) (filter (λ need. need.required) needs)))
        at true rest = (h.0, rest)
        at false rest = rest

    services_there : least_missing (service_keys whole) (services_required this) ≡ None
    services_there =
        ap (λ (k : List (List ℕ)). least_missing k (services_required this)) same_keys
        ∙ none_missing keys (services_required this)
        (subst (λ (needs : List Dependency). Each (IsIn keys) (map (λ need. need.key) (filter (λ need. need.required) needs))) (sym (settled_needs keys service))
        (required_in (filter (λ need. is_in keys need.key) (dependencies_of service)) (each-kept (λ need. is_in keys need.key) (dependencies_of service))))

    still_there : (used there : Bool) (name : List ℕ) → is_in (map network_key declared.networks) default_key ≡ there → IsIn (map network_key declared.networks) name
        → IsIn (map network_key (with_default_network declared.name used declared.networks)) name
    still_there false t name f k = k
    still_there true true name f k = ap (λ (b : Bool). is_in (map network_key (if b then declared.networks else placed network_key (default_network declared.name) declared.networks)) name) f ∙ k
    still_there true false name f k =
        ap (λ (b : Bool). is_in (map network_key (if b then declared.networks else placed network_key (default_network declared.name) declared.networks)) name) f
        ∙ key_still network_key (default_network declared.name) name declared.networks k

    default_or : (name : List ℕ) (b : Bool) → bytes_eq name default_key ≡ b → UsedBy networks_named all name → (b || list_any (bytes_eq name) (network_keys declared)) ≡ true → IsIn (default_key ∷ network_keys whole) name
    default_or name true e used h = ap (λ b. b || list_any (bytes_eq name) (network_keys whole)) e
    default_or name false e used h =
        is_in_more default_key name (network_keys whole) (key_kept network_key (is_used networks_named all) name used with_it (still_there uses_default _ name refl h))

    abbrev before_default : List Attribute
    before_default = without_missing keys service

    networks_by : (says : Bool)
        → Each (IsIn (default_key ∷ network_keys declared)) (map (λ joined. joined.key) (unwrap_or (networks_at (if says then before_default else placed name_of joins_default before_default) (codes "networks")) []))
    networks_by true =
        subst (λ (value : Option Value). Each (IsIn (default_key ∷ network_keys declared)) (map (λ joined. joined.key) (unwrap_or (option_and_then as_networks value) [])))
        (sym (missing_value keys service (codes "networks") refl refl)) (all_there (default_key ∷ network_keys declared) (networks_named service) there.networks)
    networks_by false =
        subst (λ (value : Option Value). Each (IsIn (default_key ∷ network_keys declared)) (map (λ joined. joined.key) (unwrap_or (option_and_then as_networks value) [])))
        (sym (value-placed joins_default before_default)) (refl, tt)

    networks_there : Each (UsedBy networks_named all) (networks_named this) → least_missing (default_key ∷ network_keys whole) (networks_named this) ≡ None
    networks_there used =
        none_missing (default_key ∷ network_keys whole) (networks_named this)
        (each-both (UsedBy networks_named all) (IsIn (default_key ∷ network_keys declared)) (IsIn (default_key ∷ network_keys whole)) (λ name u is. default_or name _ refl u is) (networks_named this) used
        (networks_by (says_networks before_default)))

  -- all that one settled service uses
  record UsesAll (service : Service) : Type 0 where
    networks : Each (UsedBy networks_named all) (networks_named service)
    volumes : Each (UsedBy volumes_named all) (volumes_named service)
    secrets : Each (UsedBy (files_named (codes "secrets")) all) (files_named (codes "secrets") service)
    configs : Each (UsedBy (files_named (codes "configs")) all) (files_named (codes "configs") service)

  uses_all : Each UsesAll all
  uses_all =
      each-both (λ service. Each (UsedBy networks_named all) (networks_named service) × Each (UsedBy volumes_named all) (volumes_named service))
      (λ service. Each (UsedBy (files_named (codes "secrets")) all) (files_named (codes "secrets") service) × Each (UsedBy (files_named (codes "configs")) all) (files_named (codes "configs") service))
      UsesAll (λ service h k. record { networks = h.0; volumes = h.1; secrets = k.0; configs = k.1 }) all
      (each-both (λ service. Each (UsedBy networks_named all) (networks_named service)) (λ service. Each (UsedBy volumes_named all) (volumes_named service))
      (λ service. Each (UsedBy networks_named all) (networks_named service) × Each (UsedBy volumes_named all) (volumes_named service)) (λ service h k. (h, k)) all (each_used networks_named all) (each_used volumes_named all))
      (each-both (λ service. Each (UsedBy (files_named (codes "secrets")) all) (files_named (codes "secrets") service)) (λ service. Each (UsedBy (files_named (codes "configs")) all) (files_named (codes "configs") service))
      (λ service. Each (UsedBy (files_named (codes "secrets")) all) (files_named (codes "secrets") service) × Each (UsedBy (files_named (codes "configs")) all) (files_named (codes "configs") service))
      (λ service h k. (h, k)) all (each_used (files_named (codes "secrets")) all) (each_used (files_named (codes "configs")) all))

  nothing_missing : Each (AllThere declared) declared.services → undefined_of whole ≡ None
  nothing_missing there =
      each_none whole all
      (each_of-map (settled keys) (AllThere whole) declared.services
      (each-both (AllThere declared) (λ service. UsesAll (settled keys service)) (λ service. AllThere whole (settled keys service))
      (λ service h uses. record {
        networks = networks_there service h uses.networks;
        volumes = volumes_there service h uses.volumes;
        services = services_there service h;
        secrets = secrets_there service h uses.secrets;
        configs = configs_there service h uses.configs;
      }) declared.services there (each_before-map (settled keys) UsesAll declared.services uses_all)))

  completed_by : (missing : Option ProjectRefusal) (circle : Option (List (List ℕ))) (project : Project) → undefined_of declared ≡ missing → cycle all ≡ circle
      → completed declared ≡ Ok project → project ≡ whole
  completed_by (Some refusal) circle project e f h =
      let bad : Err (TreeRefusal.Project refusal) ≡ Ok project = sym (ap (completed_unless declared) e) ∙ h in absurd (cc bad)
  completed_by None (Some circle) project e f h =
      let bad : Err (TreeRefusal.Project (ProjectRefusal.DependencyCycle circle)) ≡ Ok project =
      sym (ap (completed_unless declared) e ∙ ap (λ (o : Option (List (List ℕ))). without_circle all o >>= λ services. Ok (used_by declared services)) f) ∙ h in
      absurd (cc bad)
  completed_by None None project e f h =
      ok_same project whole (completed declared) h
      (ap (completed_unless declared) e ∙ ap (λ (o : Option (List (List ℕ))). without_circle all o >>= λ services. Ok (used_by declared services)) f)

  no_circle : (missing : Option ProjectRefusal) (circle : Option (List (List ℕ))) (project : Project) → undefined_of declared ≡ missing → cycle all ≡ circle
      → completed declared ≡ Ok project → (missing ≡ None) × (circle ≡ None)
  no_circle (Some refusal) circle project e f h =
      let bad : Err (TreeRefusal.Project refusal) ≡ Ok project = sym (ap (completed_unless declared) e) ∙ h in absurd (cc bad)
  no_circle None (Some circle) project e f h =
      let bad : Err (TreeRefusal.Project (ProjectRefusal.DependencyCycle circle)) ≡ Ok project =
      sym (ap (completed_unless declared) e ∙ ap (λ (o : Option (List (List ℕ))). without_circle all o >>= λ services. Ok (used_by declared services)) f) ∙ h in
      absurd (cc bad)
  no_circle None None project e f h = (refl, refl)

  -- a completed project is that of the settled services, with what they use
  pub completed_is : (project : Project) → completed declared ≡ Ok project → project ≡ whole
  completed_is project h = completed_by _ _ project refl refl h

  -- all that its services use is there
  pub completed_there : (project : Project) → completed declared ≡ Ok project → Each (AllThere declared) declared.services
  completed_there project h = each_told declared declared.services (no_circle (undefined_of declared) (cycle all) project refl refl h).0

  whole_completed : (project : Project) → completed declared ≡ Ok project → completed whole ≡ Ok whole
  whole_completed project h =
      let parts = no_circle (undefined_of declared) (cycle all) project refl refl h in
      let missing : undefined_of whole ≡ None = nothing_missing (each_told declared declared.services parts.0) in
      ap (completed_unless whole) missing
      ∙ ap (λ (services : List Service). without_circle services (cycle services) >>= λ those. Ok (used_by whole those)) settled_same
      ∙ ap (λ (o : Option (List (List ℕ))). without_circle all o >>= λ those. Ok (used_by whole those)) parts.1
      ∙ ap (λ (p : Project). Ok p) same_project

  -- and is completed as it is
  pub completed_twice : (project : Project) → completed declared ≡ Ok project → completed project ≡ Ok project
  completed_twice project h = subst (λ (p : Project). completed p ≡ Ok p) (sym (completed_is project h)) (whole_completed project h)
