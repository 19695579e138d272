-- A project is what the tree of its own page means.
use Rattle.std.proofs.Common.{◌≡◌, ◌∙◌, ◌≤◌, ℕ, Bool, true, false, List, [], ◌∷◌, ◌++◌, Ok, Err, length, map, codes, refl, sym, ap, subst, arith}
use Rattle.std.specs.Prelude.{◌==◌, ◌||◌, All, Result, if◌then◌else◌, nat_lt, not, unwrap_or}
use Rattle.std.specs.List.{list_all, list_any}
use Rattle.std.specs.Str.{bytes_eq}
use Rattle.std.proofs.lemmas.Bool.{and_parts, eqb-true, le-ltb, ltb-false}
use Rattle.std.proofs.lemmas.List.Elements.{All-cons, All-nil}
use Rattle.std.proofs.lemmas.Slice.Eq.{bytes_eq-Decides}
use Rattle.std.proofs.lemmas.List.{length-map}
use Rattle.tree_base.specs.Answers.{◌>>=◌}
use Rattle.tree_base.specs.ByteOrder.{placed}
use Rattle.tree_base.specs.declared.tree.Tree.{Tree, out-Tree}
use Rattle.tree_base.specs.declared.tree.Tree.TheOpen.{Tree-F}
use Rattle.merge_rules.specs.Laws.{no_mark, own_keys}
use Rattle.short_forms.specs.Mounts.{is_name_byte}
use Rattle.attribute_types.specs.Lookups.{files_at}
use Rattle.attribute_types.specs.Tables.{file_lines, network_lines}
use Rattle.attribute_types.specs.declared.rows.FileUse.{FileUse}
use Rattle.attribute_types.specs.declared.attribute.Attribute.{Attribute}
use Rattle.attribute_scalars.specs.Scalars.{has_no_colon, is_nonempty}
use Rattle.attribute_scalars.specs.Walks.{Entries, Read, is_in}
use Rattle.typed_project.specs.declared.network.Network.{Network}
use Rattle.typed_project.specs.declared.project.FileItem.{FileItem}
use Rattle.typed_project.specs.declared.project.Project.{Project}
use Rattle.typed_project.specs.declared.service.Service.{Service}
use Rattle.typed_project.specs.declared.volume.Volume.{Volume}
use Rattle.loading_words.specs.declared.refusal.ProjectRefusal.{ProjectRefusal}
use Rattle.loading_words.specs.declared.refusal.TreeRefusal.{TreeRefusal}
use Rattle.project_meaning.specs.Completing.{config_keys, secret_keys, completed, default_key, default_network, files_named, is_used, networks_named, service_keys, settled, used_by, volumes_named, with_default_network}
use Rattle.project_meaning.specs.Meaning.{all_declared, counted, declarations, elements_in, few_services, file_of, is_key, network_of, of_attributes, project_of, section, service_of, volume_of, with_name}
use Rattle.project_pages.specs.AttributePages.{attribute_entry, attributes_node, file_entry, project_node, service_entry}
use Rattle.project_print.specs.Values.{value_of}
use Rattle.laws_attributes.specs.ReadBack.{HasPlace, entries_shown}
use Rattle.laws_pages.specs.PagesOfProjects.{PagesMeanTheirProjects}
use Rattle.laws_pages.proofs.CompletedTwice.{AllThere, all_there, completed_there, completed_is, completed_twice}
use Rattle.laws_pages.proofs.Declared.{AreGood, ServiceCame, FileReads, NetworkReads, ServiceReads, VolumeReads, bound, file_item, good_elements, good_out, items_declared, network_item, service_item, volume_item}
use Rattle.laws_pages.proofs.Each.{Each, IsIn, each-both, each-filter, each-map, each-placed, each_of-map, map-map}
use Rattle.laws_pages.proofs.NamedBack.{fields_back, name_of_text, named_already, network_name}
use Rattle.laws_pages.proofs.PageElements.{declared_back, elements, elements_pass, item_shown, configs_section, networks_section, page_out, secrets_section, services_section, volumes_section}
use Rattle.laws_pages.proofs.Rising.{NoneBefore, Rises, rises-filter, rises-placed}
use Rattle.laws_pages.proofs.ServicesBack.{back_reads}
use Rattle.laws_pages.proofs.Settled.{name_of}
use Rattle.laws_pages.proofs.SettledBack.{map_seen, settled_back, text_seen, value_entry}

abbrev pub service_key : Service → List ℕ
service_key service = service.key

abbrev pub network_key : Network → List ℕ
network_key network = network.key

abbrev pub volume_key : Volume → List ℕ
volume_key volume = volume.key

abbrev pub file_key : FileItem → List ℕ
file_key item = item.key

-- all that a project holds is read again from what is shown of it, and stands in byte order
record Reads (IsOne : Service → Type 0) (project : Project) : Type 0 where
  services : Each IsOne project.services
  services_rise : Rises service_key project.services
  few : length project.services ≤ 1000
  networks : Each NetworkReads project.networks
  networks_rise : Rises network_key project.networks
  volumes : Each VolumeReads project.volumes
  volumes_rise : Rises volume_key project.volumes
  secrets : Each FileReads project.secrets
  secrets_rise : Rises file_key project.secrets
  configs : Each FileReads project.configs
  configs_rise : Rises file_key project.configs

of_given : {X : Type 0} (r : Read X) (x : X) → of_attributes r ≡ Ok x → r ≡ Ok x
of_given (Ok y) x h = let same : y ≡ x = cc h in ap (λ z. Ok z) same
of_given (Err refusal) x h = absurd (cc h)

few_given : (es few : Entries) → few_services es ≡ Ok few → length es ≤ 1000
few_given es few h = at (nat_lt 1000 (length es)) refl h
  where
    at : (b : Bool) → nat_lt 1000 (length es) ≡ b → (if b then Err (TreeRefusal.Project (ProjectRefusal.TooManyServices (counted (length es)))) else Ok es) ≡ Ok few → length es ≤ 1000
    at true e h = absurd (cc h)
    at false e h = ltb-false 1000 (length es) e

-- what a good tree declares
record Declares (name : List ℕ) (declared : Project) : Type 0 where
  named : declared.name ≡ name
  reads : Reads ServiceCame declared

abbrev project_made : List ℕ → List Service → List Network → List Volume → List FileItem → List FileItem → Project
project_made name services networks volumes secrets configs = record { name = name; services = services; networks = networks; volumes = volumes; secrets = secrets; configs = configs }

-- what is declared behind each part
abbrev after_few : List ℕ → Entries → List Network → List Volume → List FileItem → List FileItem → Result Project TreeRefusal
after_few name elements networks volumes secrets configs =
    of_attributes (all_declared service_of elements (codes "services")) >>= λ services. Ok (project_made name services networks volumes secrets configs)

abbrev after_configs : List ℕ → Entries → List Network → List Volume → List FileItem → List FileItem → Result Project TreeRefusal
after_configs name elements networks volumes secrets configs = few_services (section elements (codes "services")) >>= λ few. after_few name elements networks volumes secrets configs

abbrev after_secrets : List ℕ → Entries → List Network → List Volume → List FileItem → Result Project TreeRefusal
after_secrets name elements networks volumes secrets = of_attributes (all_declared file_of elements (codes "configs")) >>= λ configs. after_configs name elements networks volumes secrets configs

abbrev after_volumes : List ℕ → Entries → List Network → List Volume → Result Project TreeRefusal
after_volumes name elements networks volumes = of_attributes (all_declared file_of elements (codes "secrets")) >>= λ secrets. after_secrets name elements networks volumes secrets

abbrev after_networks : List ℕ → Entries → List Network → Result Project TreeRefusal
after_networks name elements networks = of_attributes (all_declared (volume_of name) elements (codes "volumes")) >>= λ volumes. after_volumes name elements networks volumes

abbrev after_elements : List ℕ → Entries → Result Project TreeRefusal
after_elements name elements = of_attributes (all_declared (network_of name) elements (codes "networks")) >>= λ networks. after_networks name elements networks

module _ (name : List ℕ) (declared : Project) (elements : Entries) (good : AreGood elements) where
  from_elements : after_elements name elements ≡ Ok declared → Declares name declared
  from_elements h =
      let b = bound (of_attributes (all_declared (network_of name) elements (codes "networks"))) (after_networks name elements) declared h in
      let c = bound (of_attributes (all_declared (volume_of name) elements (codes "volumes"))) (after_volumes name elements b.first) declared b.rest in
      let d = bound (of_attributes (all_declared file_of elements (codes "secrets"))) (after_secrets name elements b.first c.first) declared c.rest in
      let e = bound (of_attributes (all_declared file_of elements (codes "configs"))) (after_configs name elements b.first c.first d.first) declared d.rest in
      let f = bound (few_services (section elements (codes "services"))) (λ few. after_few name elements b.first c.first d.first e.first) declared e.rest in
      let g = bound (of_attributes (all_declared service_of elements (codes "services"))) (λ services. Ok (project_made name services b.first c.first d.first e.first)) declared f.rest in
      let same : project_made name g.first b.first c.first d.first e.first ≡ declared = cc (g.rest) in
      let networks = items_declared network_key (network_of name) NetworkReads (network_item name) elements (codes "networks") b.first good (of_given (all_declared (network_of name) elements (codes "networks")) b.first b.is) in
      let volumes = items_declared volume_key (volume_of name) VolumeReads (volume_item name) elements (codes "volumes") c.first good (of_given (all_declared (volume_of name) elements (codes "volumes")) c.first c.is) in
      let secrets = items_declared file_key file_of FileReads file_item elements (codes "secrets") d.first good (of_given (all_declared file_of elements (codes "secrets")) d.first d.is) in
      let configs = items_declared file_key file_of FileReads file_item elements (codes "configs") e.first good (of_given (all_declared file_of elements (codes "configs")) e.first e.is) in
      let services = items_declared service_key service_of ServiceCame service_item elements (codes "services") g.first good (of_given (all_declared service_of elements (codes "services")) g.first g.is) in
      let number : length (section elements (codes "services")) ≤ 1000 = few_given (section elements (codes "services")) f.first f.is in
      let within : length g.first ≤ length (section elements (codes "services")) = services.few in
      subst (Declares name) same (record {
        named = refl {a = name};
        reads = record {
          services = services.each;
          services_rise = services.rises;
          few = omega arith;
          networks = networks.each;
          networks_rise = networks.rises;
          volumes = volumes.each;
          volumes_rise = volumes.rises;
          secrets = secrets.each;
          secrets_rise = secrets.rises;
          configs = configs.each;
          configs_rise = configs.rises;
        };
      })

declares : (name : List ℕ) (tree : Tree) (declared : Project) → no_mark tree ≡ true → own_keys tree ≡ true → declarations name (out-Tree tree) ≡ Ok declared → Declares name declared
declares name tree declared marks keys h =
    let a = bound (of_attributes (elements_in (out-Tree tree))) (after_elements name) declared h in
    from_elements name declared a.first (good_elements (out-Tree tree) a.first (good_out tree (marks, keys)) (of_given (elements_in (out-Tree tree)) a.first a.is)) a.rest

-- a name that keys have is a key, and has no colon
key_among : (items : List FileItem) (name : List ℕ) → Each FileReads items → IsIn (map file_key items) name → is_key name ≡ true
key_among [] name keys h = absurd (cc h)
key_among (item ∷ items) name keys h = at (bytes_eq name item.key) refl h (key_among items name keys.1)
  where
    at : (b : Bool) → bytes_eq name item.key ≡ b → (b || list_any (bytes_eq name) (map file_key items)) ≡ true → (IsIn (map file_key items) name → is_key name ≡ true) → is_key name ≡ true
    at true e h so = ap is_key ((bytes_eq-Decides name item.key).0 e) ∙ keys.0
    at false e h so = so h

no_colons : (bytes : List ℕ) → list_all is_name_byte bytes ≡ true → list_any (λ b. b == 58) bytes ≡ false
no_colons [] h = refl
no_colons (b ∷ bytes) h =
    let parts = and_parts (is_name_byte b) (list_all is_name_byte bytes) h in at (b == 58) refl parts.0 (no_colons bytes parts.1)
  where
    at : (c : Bool) → (b == 58) ≡ c → is_name_byte b ≡ true → list_any (λ b. b == 58) bytes ≡ false → (c || list_any (λ b. b == 58) bytes) ≡ false
    at true e is rest =
        let same : b ≡ 58 = eqb-true b 58 e in
        let bad : true ≡ false = sym is ∙ ap is_name_byte same in absurd (cc bad)
    at false e is rest = rest

key_plain : (name : List ℕ) → is_key name ≡ true → has_no_colon name ≡ true
key_plain name h = ap not (no_colons name (and_parts (is_nonempty name) (list_all is_name_byte name) h).1)

files_placed : (items : List FileItem) (files : List FileUse) → Each FileReads items → Each (IsIn (map file_key items)) (map (λ file. file.source) files) → All HasPlace files
files_placed items [] keys h = All-nil HasPlace
files_placed items (file ∷ files) keys h =
    All-cons HasPlace file files (ap (λ b. b || has_no_colon file.target) (key_plain file.source (key_among items file.source keys h.0))) (files_placed items files keys h.1)

-- where all that is used is there, the attributes of services are read again
there_reads : (declared : Project) → Each (AllThere declared) declared.services → Reads ServiceCame declared → Reads ServiceReads declared
there_reads declared there reads = record {
  services = each-both (AllThere declared) ServiceCame ServiceReads
      (λ service t came. record {
        keyed = came.came_keyed;
        back = came.back_if
            (files_placed declared.secrets (unwrap_or (files_at service.attributes (codes "secrets")) []) reads.secrets (all_there (secret_keys declared) (files_named (codes "secrets") service) t.secrets))
            (files_placed declared.configs (unwrap_or (files_at service.attributes (codes "configs")) []) reads.configs (all_there (config_keys declared) (files_named (codes "configs") service) t.configs));
      }) declared.services there reads.services;
  services_rise = reads.services_rise;
  few = reads.few;
  networks = reads.networks;
  networks_rise = reads.networks_rise;
  volumes = reads.volumes;
  volumes_rise = reads.volumes_rise;
  secrets = reads.secrets;
  secrets_rise = reads.secrets_rise;
  configs = reads.configs;
  configs_rise = reads.configs_rise;
}

-- a project of settled services holds what is read again too
none_settled : (keys : List (List ℕ)) (service : Service) (services : List Service) → NoneBefore service_key service services → NoneBefore service_key (settled keys service) (map (settled keys) services)
none_settled keys service [] none = tt
none_settled keys service (other ∷ services) none = (none.0, none_settled keys service services none.1)

settled_rise : (keys : List (List ℕ)) (services : List Service) → Rises service_key services → Rises service_key (map (settled keys) services)
settled_rise keys [] rise = tt
settled_rise keys (service ∷ services) rise = (none_settled keys service services rise.0, settled_rise keys services rise.1)

default_reads : (name : List ℕ) → NetworkReads (default_network name)
default_reads name =
    let text : List ℕ = name ++ codes "_" ++ default_key in
    record {
      keyed = refl;
      named = refl;
      back = fields_back network_lines (name_of_text text ∷ []) (tt, tt) (refl, tt) (network_name (entries_shown (name_of_text text ∷ [])) text, tt);
    }

module _ (declared : Project) (reads : Reads ServiceReads declared) where
  abbrev those : List Service
  those = map (settled (service_keys declared)) declared.services

  with_default_reads : (used there : Bool) → is_in (map network_key declared.networks) default_key ≡ there
      → Each NetworkReads (with_default_network declared.name used declared.networks) × Rises network_key (with_default_network declared.name used declared.networks)
  with_default_reads false there e = (reads.networks, reads.networks_rise)
  with_default_reads true true e =
      subst (λ (l : List Network). Each NetworkReads l × Rises network_key l) (sym (ap (λ (b : Bool). if b then declared.networks else placed network_key (default_network declared.name) declared.networks) e)) (reads.networks, reads.networks_rise)
  with_default_reads true false e =
      subst (λ (l : List Network). Each NetworkReads l × Rises network_key l) (sym (ap (λ (b : Bool). if b then declared.networks else placed network_key (default_network declared.name) declared.networks) e))
      (each-placed network_key NetworkReads (default_network declared.name) declared.networks (default_reads declared.name) reads.networks, rises-placed network_key (default_network declared.name) declared.networks reads.networks_rise)

  abbrev uses : Bool
  uses = is_used networks_named those default_key

  abbrev network_used : Network → Bool
  network_used network = is_used networks_named those network.key

  abbrev volume_used : Volume → Bool
  volume_used volume = is_used volumes_named those volume.key

  abbrev file_used : List ℕ → FileItem → Bool
  file_used name item = is_used (files_named name) those item.key

  used_reads : Reads ServiceReads (used_by declared those)
  used_reads =
      let networks = with_default_reads uses (is_in (map network_key declared.networks) default_key) refl in
      let size : length those ≡ length declared.services = length-map declared.services (settled (service_keys declared)) in
      let few : length declared.services ≤ 1000 = reads.few in
      record {
        services = each_of-map (settled (service_keys declared)) ServiceReads declared.services
            (each-map ServiceReads (λ service. ServiceReads (settled (service_keys declared) service))
            (λ service h. record { keyed = h.keyed; back = settled_back (service_keys declared) service h.back }) declared.services reads.services);
        services_rise = settled_rise (service_keys declared) declared.services reads.services_rise;
        few = omega arith;
        networks = each-filter NetworkReads network_used (with_default_network declared.name uses declared.networks) networks.0;
        networks_rise = rises-filter network_key network_used (with_default_network declared.name uses declared.networks) networks.1;
        volumes = each-filter VolumeReads volume_used declared.volumes reads.volumes;
        volumes_rise = rises-filter volume_key volume_used declared.volumes reads.volumes_rise;
        secrets = each-filter FileReads (file_used (codes "secrets")) declared.secrets reads.secrets;
        secrets_rise = rises-filter file_key (file_used (codes "secrets")) declared.secrets reads.secrets_rise;
        configs = each-filter FileReads (file_used (codes "configs")) declared.configs reads.configs;
        configs_rise = rises-filter file_key (file_used (codes "configs")) declared.configs reads.configs_rise;
      }

-- an item is read from what its page shows of it
abbrev made_service : List ℕ → List Attribute → Service
made_service key attributes = record { key = key; attributes = attributes }

service_read : (service : Service) → ServiceReads service → service_of service.key (out-Tree (value_of (attributes_node service.attributes))) ≡ Ok service
service_read service reads =
    ap (service_of service.key) (map_seen (map attribute_entry service.attributes) ∙ ap Tree-F.Map (map-map value_entry attribute_entry service.attributes))
    ∙ ap (λ (r : Read (List Attribute)). r >>= λ attributes. Ok (made_service service.key attributes)) (back_reads service.attributes reads.back)

abbrev made_network : List ℕ → List Attribute → Network
made_network key attributes = record { key = key; attributes = attributes }

network_read : (name : List ℕ) (network : Network) → NetworkReads network → network_of name network.key (out-Tree (value_of (attributes_node network.attributes))) ≡ Ok network
network_read name network reads =
    ap (network_of name network.key) (map_seen (map attribute_entry network.attributes) ∙ ap Tree-F.Map (map-map value_entry attribute_entry network.attributes))
    ∙ ap (λ (r : Read (List Attribute)). r >>= λ attributes. Ok (made_network network.key (with_name name network.key attributes))) reads.back
    ∙ ap (λ (attributes : List Attribute). Ok (made_network network.key attributes)) (named_already name network.key network.attributes reads.named)

abbrev made_volume : List ℕ → List Attribute → Volume
made_volume key attributes = record { key = key; attributes = attributes }

volume_read : (name : List ℕ) (volume : Volume) → VolumeReads volume → volume_of name volume.key (out-Tree (value_of (attributes_node volume.attributes))) ≡ Ok volume
volume_read name volume reads =
    ap (volume_of name volume.key) (map_seen (map attribute_entry volume.attributes) ∙ ap Tree-F.Map (map-map value_entry attribute_entry volume.attributes))
    ∙ ap (λ (r : Read (List Attribute)). r >>= λ attributes. Ok (made_volume volume.key (with_name name volume.key attributes))) reads.back
    ∙ ap (λ (attributes : List Attribute). Ok (made_volume volume.key attributes)) (named_already name volume.key volume.attributes reads.named)

file_read : (item : FileItem) → file_of item.key (out-Tree (value_of (file_entry item).1)) ≡ Ok item
unfolding file_lines
file_read item = rw (map_seen, text_seen) refl

module _ (project : Project) (reads : Reads ServiceReads project) where
  few_pass : few_services (section (elements project) (codes "services")) ≡ Ok (section (elements project) (codes "services"))
  few_pass =
      let size : length (section (elements project) (codes "services")) ≡ length project.services = ap (length {A = List ℕ × Tree}) (services_section project) ∙ length-map project.services (item_shown service_entry) in
      let few : length project.services ≤ 1000 = reads.few in
      let past : nat_lt 1000 (length (section (elements project) (codes "services"))) ≡ false = le-ltb 1000 (length (section (elements project) (codes "services"))) (omega arith) in
      ap (λ (b : Bool). if b then Err (TreeRefusal.Project (ProjectRefusal.TooManyServices (counted (length (section (elements project) (codes "services")))))) else Ok (section (elements project) (codes "services"))) past

  networks_read : all_declared (network_of project.name) (elements project) (codes "networks") ≡ Ok project.networks
  networks_read =
      declared_back network_key (λ network. value_of (attributes_node network.attributes)) (network_of project.name) (elements project) (codes "networks") project.networks (networks_section project) reads.networks_rise
      (each-map NetworkReads (λ network. is_key network.key ≡ true) (λ network h. h.keyed) project.networks reads.networks)
      (each-map NetworkReads (λ network. network_of project.name network.key (out-Tree (value_of (attributes_node network.attributes))) ≡ Ok network) (λ network h. network_read project.name network h) project.networks reads.networks)

  volumes_read : all_declared (volume_of project.name) (elements project) (codes "volumes") ≡ Ok project.volumes
  volumes_read =
      declared_back volume_key (λ volume. value_of (attributes_node volume.attributes)) (volume_of project.name) (elements project) (codes "volumes") project.volumes (volumes_section project) reads.volumes_rise
      (each-map VolumeReads (λ volume. is_key volume.key ≡ true) (λ volume h. h.keyed) project.volumes reads.volumes)
      (each-map VolumeReads (λ volume. volume_of project.name volume.key (out-Tree (value_of (attributes_node volume.attributes))) ≡ Ok volume) (λ volume h. volume_read project.name volume h) project.volumes reads.volumes)

  services_read : all_declared service_of (elements project) (codes "services") ≡ Ok project.services
  services_read =
      declared_back service_key (λ service. value_of (attributes_node service.attributes)) service_of (elements project) (codes "services") project.services (services_section project) reads.services_rise
      (each-map ServiceReads (λ service. is_key service.key ≡ true) (λ service h. h.keyed) project.services reads.services)
      (each-map ServiceReads (λ service. service_of service.key (out-Tree (value_of (attributes_node service.attributes))) ≡ Ok service) (λ service h. service_read service h) project.services reads.services)

  secrets_read : all_declared file_of (elements project) (codes "secrets") ≡ Ok project.secrets
  secrets_read =
      declared_back file_key (λ item. value_of (file_entry item).1) file_of (elements project) (codes "secrets") project.secrets (secrets_section project) reads.secrets_rise reads.secrets
      (each-map FileReads (λ item. file_of item.key (out-Tree (value_of (file_entry item).1)) ≡ Ok item) (λ item h. file_read item) project.secrets reads.secrets)

  configs_read : all_declared file_of (elements project) (codes "configs") ≡ Ok project.configs
  configs_read =
      declared_back file_key (λ item. value_of (file_entry item).1) file_of (elements project) (codes "configs") project.configs (configs_section project) reads.configs_rise reads.configs
      (each-map FileReads (λ item. file_of item.key (out-Tree (value_of (file_entry item).1)) ≡ Ok item) (λ item h. file_read item) project.configs reads.configs)

  -- the page of a project declares it
  page_declares : declarations project.name (out-Tree (value_of (project_node project))) ≡ Ok project
  page_declares =
      ap (declarations project.name) (page_out project)
      ∙ ap (λ (r : Read Entries). of_attributes r >>= after_elements project.name) (elements_pass project)
      ∙ (λ i. of_attributes (networks_read i) >>= λ networks.
      of_attributes (volumes_read i) >>= λ volumes.
      of_attributes (secrets_read i) >>= λ secrets.
      of_attributes (configs_read i) >>= λ configs.
      few_pass i >>= λ few.
      of_attributes (services_read i) >>= λ services. Ok (project_made project.name services networks volumes secrets configs))

-- what is completed is read again
project_reads : (name : List ℕ) (tree : Tree) (project : Project) → no_mark tree ≡ true → own_keys tree ≡ true → project_of name tree ≡ Ok project → Reads ServiceReads project
project_reads name tree project marks keys h =
    let a = bound (declarations name (out-Tree tree)) completed project h in
    let declares_it = declares name tree a.first marks keys a.is in
    let declared : Project = a.first in
    let rises : Each (λ service. Rises name_of service.attributes) declared.services =
    each-map ServiceCame (λ service. Rises name_of service.attributes) (λ service r. r.rises) declared.services declares_it.reads.services in
    let there : Each (AllThere declared) declared.services = completed_there declared rises project a.rest in
    let is : project ≡ used_by declared (map (settled (service_keys declared)) declared.services) = completed_is declared rises project a.rest in
    subst (Reads ServiceReads) (sym is) (used_reads declared (there_reads declared there declares_it.reads))

-- so are the attributes of its services
pub services_back : (name : List ℕ) (tree : Tree) (project : Project) → no_mark tree ≡ true → own_keys tree ≡ true → project_of name tree ≡ Ok project → Each ServiceReads project.services
services_back name tree project marks keys h = (project_reads name tree project marks keys h).services

-- and is what its page means
pub pages_mean : PagesMeanTheirProjects
pages_mean name tree project marks keys h =
    let a = bound (declarations name (out-Tree tree)) completed project h in
    let declares_it = declares name tree a.first marks keys a.is in
    let declared : Project = a.first in
    let rises : Each (λ service. Rises name_of service.attributes) declared.services =
    each-map ServiceCame (λ service. Rises name_of service.attributes) (λ service r. r.rises) declared.services declares_it.reads.services in
    let is : project ≡ used_by declared (map (settled (service_keys declared)) declared.services) = completed_is declared rises project a.rest in
    let named : project.name ≡ name = ap (λ (p : Project). p.name) is ∙ declares_it.named in
    let twice : completed project ≡ Ok project = completed_twice declared rises project a.rest in
    ap (λ (n : List ℕ). project_of n (value_of (project_node project))) (sym named)
    ∙ ap (λ (r : Result Project TreeRefusal). r >>= completed) (page_declares project (project_reads name tree project marks keys h))
    ∙ twice
