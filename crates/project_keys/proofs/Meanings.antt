-- A project that a tree means, in which no key stands twice, is in order, and its names differ.
use Rattle.std.proofs.Common.{◌≡◌, ℕ, Bool, true, false, cond, List, [], ◌∷◌, ◌++◌, Some, None, Ok, Err, map, codes, refl, ap, sym, ◌∙◌, subst, ◌⊎◌, inl, inr}
use Rattle.std.specs.Prelude.{All, IfOk, Option, Result, ◌||◌, filter, find, is_some, not, nat_lt, length, unwrap_or}
use Rattle.std.specs.Option.{option_map, option_and_then}
use Rattle.std.specs.List.{AllByRecursion, IsDistinct, list_any}
use Rattle.std.proofs.lemmas.Cmp.{nat_list_eq_equiv}
use Rattle.std.specs.Str.{bytes_eq}
use Rattle.std.proofs.lemmas.Slice.Eq.{bytes_eq-Decides}
use Rattle.std.proofs.lemmas.List.Elements.{All-cons, All-filter, All-from_recursion, All-head, All-map, All-nil, All-tail, All-weaker, filter_passes}
use Rattle.tree_base.specs.Answers.{◌>>=◌}
use Rattle.tree_base.specs.ByteOrder.{IsAscending, is_before, placed}
use Rattle.tree_base.specs.declared.tree.Tree.{Tree, out-Tree}
use Rattle.tree_base.specs.declared.tree.Tree.TheOpen.{Tree-F}
use Rattle.merge_rules.specs.Laws.{own_keys}
use Rattle.attribute_types.specs.Lookups.{as_dependencies, dependencies_at, networks_at, text_at}
use Rattle.attribute_types.specs.Values as values
use Rattle.attribute_types.specs.declared.attribute.Attribute.{Attribute}
use Rattle.attribute_types.specs.declared.attribute.Value.{Value}
use Rattle.attribute_types.specs.declared.rows.Dependency.{Dependency}
use Rattle.attribute_scalars.specs.Lists.{if_any}
use Rattle.attribute_scalars.specs.Walks.{Entries, Read, each_entry, in_byte_order, is_in, with_wanting}
use Rattle.attribute_scalars.proofs.Ordering.{All-placed, Rises, ascends, rises-placed}
use Rattle.loading_words.specs.declared.refusal.ProjectRefusal.{ProjectRefusal}
use Rattle.loading_words.specs.declared.refusal.TreeRefusal.{TreeRefusal}
use Rattle.project_meaning.specs.Answers.{Gives}
use Rattle.project_meaning.specs.Completing.{completed, completed_unless, default_key, default_network, files_named, is_used, networks_named, service_keys, settled, undefined_of, used_by, volumes_named, with_default, with_default_network, with_value, without, without_circle, without_missing}
use Rattle.service_graph.specs.Cycles.{cycle}
use Rattle.attribute_types.specs.Tables.{file_lines, network_lines, volume_lines}
use Rattle.attribute_scalars.specs.Walks.{own_entries}
use Rattle.attribute_values.specs.Fields.{fields_of}
use Rattle.attribute_rows.specs.Attributes.{attribute_under, attributes_of, wanted_of_service}
use Rattle.attribute_rows.specs.Rows.{entries_in}
use Rattle.project_meaning.specs.Meaning.{all_declared, declarations, element_form, elements_in, entries_or_none, few_services, section, with_name, file_of, network_of, of_attributes, project_of, service_of, volume_of}
use Rattle.typed_project.specs.DistinctNames.{HasDistinctNames, HasDistinctParts, HaveDistinctNames, IsKeyed}
use Rattle.typed_project.specs.Projects.{IsOrdered}
use Rattle.typed_project.specs.declared.network.Network.{Network}
use Rattle.typed_project.specs.declared.project.FileItem.{FileItem}
use Rattle.typed_project.specs.declared.project.Project.{Project}
use Rattle.typed_project.specs.declared.service.Service.{Service}
use Rattle.typed_project.specs.declared.volume.Volume.{Volume}
use Rattle.project_keys.proofs.Apart.{Own}
use Rattle.project_keys.proofs.Attributes.{AreGood, HasParts, OwnParts, good_differ, name_of, own_parts}
use Rattle.project_keys.proofs.Found.{NamesNetworks, differ_left, found_value, no_networks, under_networks}
use Rattle.project_keys.proofs.Rising.{filter-rises, gifts_all, map-rises}
use Rattle.project_keys.proofs.Sections.{HasGood, NetworkGood, VolumeGood, declared_good, network_good, none_own, own_or_none, others, placed_good, service_good, volume_good}

abbrev service_key : Service → List ℕ
service_key service = service.key

abbrev network_key : Network → List ℕ
network_key network = network.key

abbrev volume_key : Volume → List ℕ
volume_key volume = volume.key

abbrev file_key : FileItem → List ℕ
file_key file = file.key

-- a service with good attributes, whose networks are such
pub record ServiceGood (service : Service) : Type 0 where
  pub good : AreGood service.attributes
  pub networks : All NamesNetworks service.attributes

-- a project whose lists are in order, and whose attributes are good
pub record IsGood (project : Project) : Type 0 where
  pub services : Rises service_key project.services
  pub networks : Rises network_key project.networks
  pub volumes : Rises volume_key project.volumes
  pub secrets : Rises file_key project.secrets
  pub configs : Rises file_key project.configs
  pub of_services : All ServiceGood project.services
  pub of_networks : All NetworkGood project.networks
  pub of_volumes : All VolumeGood project.volumes

pub good_keyed : (project : Project) → IsGood project → IsKeyed project
good_keyed project good = record {
  order = record {
    services = ascends service_key project.services good.services;
    networks = ascends network_key project.networks good.networks;
    volumes = ascends volume_key project.volumes good.volumes;
    secrets = ascends file_key project.secrets good.secrets;
    configs = ascends file_key project.configs good.configs;
  };
  names = record {
    services = All-weaker ServiceGood (λ service. HaveDistinctNames service.attributes) (λ service is. good_differ service.attributes is.good) project.services good.of_services;
    networks = All-weaker NetworkGood (λ network. HaveDistinctNames network.attributes) (λ network is. good_differ network.attributes is) project.networks good.of_networks;
    volumes = All-weaker VolumeGood (λ volume. HaveDistinctNames volume.attributes) (λ volume is. good_differ volume.attributes is) project.volumes good.of_volumes;
  };
}

-- keys of what is read under them
service_keyed : (key : List ℕ) (tree : Tree-F Tree) (service : Service) → service_of key tree ≡ Ok service → service_key service ≡ key
service_keyed key tree service e = by (entries_in tree >>= attributes_of) e
  where
    by : (r : Read (List Attribute)) → (r >>= λ attributes. Ok (record { key = key; attributes = attributes })) ≡ Ok service → service_key service ≡ key
    by (Ok attributes) f = let same : record { key = key; attributes = attributes } ≡ service = cc f in ap service_key (sym same)
    by (Err refusal) f = absurd (cc f)

network_keyed : (project key : List ℕ) (tree : Tree-F Tree) (network : Network) → network_of project key tree ≡ Ok network → network_key network ≡ key
network_keyed project key tree network e = by (entries_or_none tree) e
  where
    inner : (r : Read (List Attribute)) → (r >>= λ attributes. Ok (record { key = key; attributes = with_name project key attributes })) ≡ Ok network → network_key network ≡ key
    inner (Ok attributes) f = let same : record { key = key; attributes = with_name project key attributes } ≡ network = cc f in ap network_key (sym same)
    inner (Err refusal) f = absurd (cc f)

    by : (r : Read Entries) → (r >>= λ entries. fields_of network_lines [] (own_entries entries) >>= λ attributes. Ok (record { key = key; attributes = with_name project key attributes })) ≡ Ok network → network_key network ≡ key
    by (Ok entries) f = inner (fields_of network_lines [] (own_entries entries)) f
    by (Err refusal) f = absurd (cc f)

volume_keyed : (project key : List ℕ) (tree : Tree-F Tree) (volume : Volume) → volume_of project key tree ≡ Ok volume → volume_key volume ≡ key
volume_keyed project key tree volume e = by (entries_or_none tree) e
  where
    inner : (r : Read (List Attribute)) → (r >>= λ attributes. Ok (record { key = key; attributes = with_name project key attributes })) ≡ Ok volume → volume_key volume ≡ key
    inner (Ok attributes) f = let same : record { key = key; attributes = with_name project key attributes } ≡ volume = cc f in ap volume_key (sym same)
    inner (Err refusal) f = absurd (cc f)

    by : (r : Read Entries) → (r >>= λ entries. fields_of volume_lines [] (own_entries entries) >>= λ attributes. Ok (record { key = key; attributes = with_name project key attributes })) ≡ Ok volume → volume_key volume ≡ key
    by (Ok entries) f = inner (fields_of volume_lines [] (own_entries entries)) f
    by (Err refusal) f = absurd (cc f)

file_keyed : (key : List ℕ) (tree : Tree-F Tree) (file : FileItem) → file_of key tree ≡ Ok file → file_key file ≡ key
file_keyed key tree file e = by (entries_or_none tree) e
  where
    inner : (r : Read (List Attribute)) → (r >>= λ attributes. Ok (record { key = key; file = unwrap_or (text_at attributes (codes "file")) [] })) ≡ Ok file → file_key file ≡ key
    inner (Ok attributes) f = let same : record { key = key; file = unwrap_or (text_at attributes (codes "file")) [] } ≡ file = cc f in ap file_key (sym same)
    inner (Err refusal) f = absurd (cc f)

    by : (r : Read Entries) → (r >>= λ entries. fields_of file_lines (codes "file" ∷ []) (own_entries entries) >>= λ attributes. Ok (record { key = key; file = unwrap_or (text_at attributes (codes "file")) [] })) ≡ Ok file → file_key file ≡ key
    by (Ok entries) f = inner (fields_of file_lines (codes "file" ∷ []) (own_entries entries)) f
    by (Err refusal) f = absurd (cc f)

-- what settling a service keeps: its attributes without one, and one put in that none is
without_good : (name : List ℕ) (attributes : List Attribute) → AreGood attributes → AreGood (without name attributes)
without_good name attributes good = record {
  rise = filter-rises name_of (λ attribute. not (bytes_eq attribute.name name)) attributes good.rise;
  parts = All-filter (λ attribute. not (bytes_eq attribute.name name)) HasParts attributes good.parts;
}

units : (entries : Entries) → AllByRecursion (λ (_ : List ℕ × Tree). Unit {0}) entries
units [] = tt
units (entry ∷ entries) = (tt, units entries)

-- the attributes of a service name networks as such
attributes_networks : (entries : Entries) (attributes : List Attribute) → attributes_of entries ≡ Ok attributes → All NamesNetworks attributes
attributes_networks entries attributes e =
    let kept = own_entries entries in
    let wanted = wanted_of_service kept in
    gifts_all (attribute_under wanted kept) (λ _. Unit {0}) NamesNetworks (λ key tree found own f. under_networks (is_in wanted key) kept key tree found f)
    (in_byte_order (with_wanting wanted kept)) attributes (All-from_recursion (λ (_ : List ℕ × Tree). Unit {0}) (in_byte_order (with_wanting wanted kept)) (units (in_byte_order (with_wanting wanted kept)))) e

networks_of_service : (key : List ℕ) (tree : Tree-F Tree) (service : Service) → service_of key tree ≡ Ok service → All NamesNetworks service.attributes
networks_of_service key tree service e = by (entries_in tree) e
  where
    inner : (r : Read (List Attribute)) → ((attributes : List Attribute) → r ≡ Ok attributes → All NamesNetworks attributes)
        → (r >>= λ attributes. Ok (record { key = key; attributes = attributes })) ≡ Ok service → All NamesNetworks service.attributes
    inner (Ok attributes) all f = let same : record { key = key; attributes = attributes } ≡ service = cc f in subst (λ (s : Service). All NamesNetworks s.attributes) same (all attributes refl)
    inner (Err refusal) all f = absurd (cc f)

    by : (r : Read Entries) → ((r >>= attributes_of) >>= λ attributes. Ok (record { key = key; attributes = attributes })) ≡ Ok service → All NamesNetworks service.attributes
    by (Ok entries) f = inner (attributes_of entries) (attributes_networks entries) f
    by (Err refusal) f = absurd (cc f)

whole_service : (key : List ℕ) (tree : Tree) → own_keys tree ≡ true → (service : Service) → service_of key (out-Tree tree) ≡ Ok service → ServiceGood service
whole_service key tree own service e = record { good = service_good key tree own service e; networks = networks_of_service key (out-Tree tree) service e }

-- what a service needs has keys that differ
needs_differ : (attributes : List Attribute) → All HasParts attributes → HasDistinctParts (Value.Dependencies (unwrap_or (dependencies_at attributes (codes "depends_on")) []))
unfolding IsDistinct
needs_differ attributes all = by (values.value_at attributes (codes "depends_on")) refl
  where
    none : HasDistinctParts (Value.Dependencies [])
    none = tt

    by : (o : Option Value) → values.value_at attributes (codes "depends_on") ≡ o → HasDistinctParts (Value.Dependencies (unwrap_or (option_and_then as_dependencies o) []))
    by None e = none
    by (Some (Value.Dependencies needs)) e =
        let found = found_value HasParts (codes "depends_on") attributes (Value.Dependencies needs) all e in subst HasDistinctParts found.value found.holds
    by (Some other) e = none

-- what is left of attributes without one has no such name
without_apart : (name : List ℕ) (attributes : List Attribute) → All (λ attribute. bytes_eq name attribute.name ≡ false) (without name attributes)
without_apart name attributes =
    All-weaker (λ (attribute : Attribute). not (bytes_eq attribute.name name) ≡ true) (λ attribute. bytes_eq name attribute.name ≡ false)
    (λ attribute is. nat_list_eq_equiv.symm name attribute.name ∙ no (bytes_eq attribute.name name) is) (without name attributes)
    (filter_passes (λ attribute. not (bytes_eq attribute.name name)) attributes)
  where
    no : (b : Bool) → not b ≡ true → b ≡ false
    no true e = absurd (cc e)
    no false e = refl

-- the needs that are left, put in
put_needs : (needs : List Dependency) → HasDistinctParts (Value.Dependencies needs) → (attributes : List Attribute) → AreGood attributes → All (λ attribute. bytes_eq (codes "depends_on") attribute.name ≡ false) attributes
    → AreGood (with_value (codes "depends_on") (option_map Value.Dependencies (if_any needs)) attributes)
put_needs [] parts attributes good apart = good
put_needs (need ∷ needs) parts attributes good apart = placed_good (record { name = codes "depends_on"; value = Value.Dependencies (need ∷ needs) }) attributes apart parts good

put_networks : (needs : List Dependency) (attributes : List Attribute) → All NamesNetworks attributes → All NamesNetworks (with_value (codes "depends_on") (option_map Value.Dependencies (if_any needs)) attributes)
put_networks [] attributes all = all
put_networks (need ∷ needs) attributes all = All-placed name_of NamesNetworks (record { name = codes "depends_on"; value = Value.Dependencies (need ∷ needs) }) attributes (λ e. absurd (cc e)) all

-- a service without the needs that aren't there
missing_good : (keys : List (List ℕ)) (service : Service) → ServiceGood service → ServiceGood (record { key = service.key; attributes = without_missing keys service })
missing_good keys service is =
    let left = without (codes "depends_on") service.attributes in
    let there = filter (λ (need : Dependency). is_in keys need.key) (unwrap_or (dependencies_at service.attributes (codes "depends_on")) []) in
    record {
      good =
          put_needs there (differ_left (λ (need : Dependency). need.key) (λ need. is_in keys need.key) (unwrap_or (dependencies_at service.attributes (codes "depends_on")) []) (needs_differ service.attributes is.good.parts))
          left (without_good (codes "depends_on") service.attributes is.good) (without_apart (codes "depends_on") service.attributes);
      networks = put_networks there left (All-filter (λ attribute. not (bytes_eq attribute.name (codes "depends_on"))) NamesNetworks service.attributes is.networks);
    }

-- attributes with the default network, where nothing is said of networks
default_good : (key : List ℕ) (attributes : List Attribute) → ServiceGood (record { key = key; attributes = attributes }) → ServiceGood (record { key = key; attributes = with_default attributes })
unfolding IsDistinct
default_good key attributes is = by (is_some (networks_at attributes (codes "networks"))) refl (is_some (text_at attributes (codes "network_mode")))
  where
    default : Attribute
    default = record { name = codes "networks"; value = Value.Networks (record { key = default_key; aliases = [] } ∷ []) }

    one_key : HasParts default
    one_key = (tt, tt)

    put : is_some (networks_at attributes (codes "networks")) ≡ false → ServiceGood (record { key = key; attributes = placed {X = Attribute} (λ attribute. attribute.name) default attributes })
    put e = record {
      good = placed_good default attributes (others (codes "networks") attributes (no_networks attributes is.networks e)) one_key is.good;
      networks = All-placed name_of NamesNetworks default attributes (λ same. tt) is.networks;
    }

    by : (a : Bool) → is_some (networks_at attributes (codes "networks")) ≡ a → (b : Bool)
        → ServiceGood (record { key = key; attributes = cond (a || b) attributes (placed {X = Attribute} (λ attribute. attribute.name) default attributes) })
    by true e b = is
    by false e true = is
    by false e false = put e

settled_good : (keys : List (List ℕ)) (service : Service) → ServiceGood service → ServiceGood (settled keys service)
settled_good keys service is = default_good service.key (without_missing keys service) (missing_good keys service is)

all_settled : (keys : List (List ℕ)) (services : List Service) → All ServiceGood services → All ServiceGood (map (settled keys) services)
all_settled keys services all = All-map ServiceGood (settled keys) services (All-weaker ServiceGood (λ service. ServiceGood (settled keys service)) (λ service is. settled_good keys service is) services all)

-- networks with the default one
apart_networks : (name : List ℕ) (networks : List Network) → is_in (map network_key networks) name ≡ false → All (λ network. bytes_eq name network.key ≡ false) networks
apart_networks name [] e = All-nil (λ network. bytes_eq name network.key ≡ false)
apart_networks name (network ∷ networks) e = at (apart_networks name networks) (bytes_eq name network.key) refl e
  where
    at : (is_in (map network_key networks) name ≡ false → All (λ network. bytes_eq name network.key ≡ false) networks)
        → (b : Bool) → bytes_eq name network.key ≡ b → (b || is_in (map network_key networks) name) ≡ false → All (λ network. bytes_eq name network.key ≡ false) (network ∷ networks)
    at rest true f g = absurd (cc g)
    at rest false f g = All-cons (λ network. bytes_eq name network.key ≡ false) network networks f (rest g)

default_networks : (project : List ℕ) (used : Bool) (networks : List Network) → Rises network_key networks × All NetworkGood networks
    → Rises network_key (with_default_network project used networks) × All NetworkGood (with_default_network project used networks)
default_networks project false networks h = h
default_networks project true networks h = by (is_in (map network_key networks) default_key) refl
  where
    default : Network
    default = default_network project

    is : NetworkGood default
    is = record { rise = (All-nil (λ (other : Attribute). is_before (codes "name") other.name ≡ true), tt); parts = All-cons HasParts (record { name = codes "name"; value = Value.Text (project ++ codes "_" ++ default_key) }) [] tt (All-nil HasParts) }

    by : (b : Bool) → is_in (map network_key networks) default_key ≡ b
        → Rises network_key (cond b networks (placed {X = Network} (λ network. network.key) default networks)) × All NetworkGood (cond b networks (placed {X = Network} (λ network. network.key) default networks))
    by true e = h
    by false e = (rises-placed network_key default networks (apart_networks default_key networks e) h.0, All-placed network_key NetworkGood default networks is h.1)

used_good : (project : Project) → IsGood project → (services : List Service) → Rises service_key services → All ServiceGood services → IsGood (used_by project services)
used_good project good services rise all =
    let networks = default_networks project.name (is_used networks_named services default_key) project.networks (good.networks, good.of_networks) in
    let kept = with_default_network project.name (is_used networks_named services default_key) project.networks in
    record {
      services = rise;
      networks = filter-rises network_key (λ network. is_used networks_named services network.key) kept networks.0;
      volumes = filter-rises volume_key (λ volume. is_used volumes_named services volume.key) project.volumes good.volumes;
      secrets = filter-rises file_key (λ secret. is_used (files_named (codes "secrets")) services secret.key) project.secrets good.secrets;
      configs = filter-rises file_key (λ config. is_used (files_named (codes "configs")) services config.key) project.configs good.configs;
      of_services = all;
      of_networks = All-filter (λ network. is_used networks_named services network.key) NetworkGood kept networks.1;
      of_volumes = All-filter (λ volume. is_used volumes_named services volume.key) VolumeGood project.volumes good.of_volumes;
    }

completed_good : (project whole : Project) → IsGood project → completed project ≡ Ok whole → IsGood whole
completed_good project whole good e = by (undefined_of project) e
  where
    services : List Service
    services = map (settled (service_keys project)) project.services

    done : (o : Option (List (List ℕ))) → (without_circle services o >>= λ services. Ok (used_by project services)) ≡ Ok whole → IsGood whole
    done None f =
        let same : used_by project services ≡ whole = cc f in
        subst IsGood same
        (used_good project good services (map-rises service_key service_key (settled (service_keys project)) (λ service. refl) project.services good.services)
        (all_settled (service_keys project) project.services good.of_services))
    done (Some circle) f = absurd (cc f)

    by : (o : Option ProjectRefusal) → completed_unless project o ≡ Ok whole → IsGood whole
    by None f = done (cycle services) f
    by (Some refusal) f = absurd (cc f)

-- elements of a tree, in which no key stands twice
elements_own : (tree : Tree-F Tree) → OwnParts tree → (elements : Entries) → elements_in tree ≡ Ok elements → All Own elements
elements_own Tree-F.Null own elements e = let same : [] ≡ elements = cc e in subst (All Own) same (All-nil Own)
elements_own (Tree-F.Map entries) own elements e = by (each_entry (λ key tree. element_form key (out-Tree tree)) (in_byte_order entries)) e
  where
    by : (r : Read (List Attribute)) → (r >>= λ none. Ok entries) ≡ Ok elements → All Own elements
    by (Ok none) f = let same : entries ≡ elements = cc f in subst (All Own) same own.1
    by (Err refusal) f = absurd (cc f)
elements_own (Tree-F.Scalar text) own elements e = absurd (cc e)
elements_own (Tree-F.Seq items) own elements e = absurd (cc e)
elements_own Tree-F.Reset own elements e = absurd (cc e)
elements_own (Tree-F.Override inner) own elements e = absurd (cc e)

file_any : (key : List ℕ) (tree : Tree) → own_keys tree ≡ true → (file : FileItem) → file_of key (out-Tree tree) ≡ Ok file → Unit {0}
file_any key tree own file e = tt

-- what its elements declare
abbrev Chain : List ℕ → Entries → Result Project TreeRefusal
Chain name elements =
    of_attributes (all_declared (network_of name) elements (codes "networks")) >>= λ networks.
    of_attributes (all_declared (volume_of name) elements (codes "volumes")) >>= λ volumes.
    of_attributes (all_declared file_of elements (codes "secrets")) >>= λ secrets.
    of_attributes (all_declared file_of elements (codes "configs")) >>= λ configs.
    few_services (section elements (codes "services")) >>= λ few.
    of_attributes (all_declared service_of elements (codes "services")) >>= λ services.
    Ok (record { name = name; services = services; networks = networks; volumes = volumes; secrets = secrets; configs = configs })

-- what a tree declares
declarations_good : (name : List ℕ) (tree : Tree-F Tree) → OwnParts tree → (project : Project) → declarations name tree ≡ Ok project → IsGood project
declarations_good name tree own project e = at_elements (elements_in tree) (elements_own tree own) e
  where
    parts : (elements : Entries) → All Own elements
        → (networks : Read (List Network)) → all_declared (network_of name) elements (codes "networks") ≡ networks
        → (volumes : Read (List Volume)) → all_declared (volume_of name) elements (codes "volumes") ≡ volumes
        → (secrets : Read (List FileItem)) → all_declared file_of elements (codes "secrets") ≡ secrets
        → (configs : Read (List FileItem)) → all_declared file_of elements (codes "configs") ≡ configs
        → (few : Result Entries TreeRefusal)
        → (services : Read (List Service)) → all_declared service_of elements (codes "services") ≡ services
        → (of_attributes networks >>= λ networks. of_attributes volumes >>= λ volumes. of_attributes secrets >>= λ secrets. of_attributes configs >>= λ configs. few >>= λ few. of_attributes services >>= λ services.
        Ok (record { name = name; services = services; networks = networks; volumes = volumes; secrets = secrets; configs = configs })) ≡ Ok project → IsGood project
    parts elements all (Ok networks) a (Ok volumes) b (Ok secrets) c (Ok configs) d (Ok few) (Ok services) f g =
        let n = declared_good network_key NetworkGood (network_of name) (network_keyed name) (network_good name) elements all (codes "networks") networks a in
        let v = declared_good volume_key VolumeGood (volume_of name) (volume_keyed name) (volume_good name) elements all (codes "volumes") volumes b in
        let s = declared_good file_key (λ file. Unit {0}) file_of file_keyed file_any elements all (codes "secrets") secrets c in
        let k = declared_good file_key (λ file. Unit {0}) file_of file_keyed file_any elements all (codes "configs") configs d in
        let w = declared_good service_key ServiceGood service_of service_keyed whole_service elements all (codes "services") services f in
        let same : record { name = name; services = services; networks = networks; volumes = volumes; secrets = secrets; configs = configs } ≡ project = cc g in
        subst IsGood same (record { services = w.0; networks = n.0; volumes = v.0; secrets = s.0; configs = k.0; of_services = w.1; of_networks = n.1; of_volumes = v.1 })
    parts elements all (Err refusal) a volumes b secrets c configs d few services f g = absurd (cc g)
    parts elements all (Ok networks) a (Err refusal) b secrets c configs d few services f g = absurd (cc g)
    parts elements all (Ok networks) a (Ok volumes) b (Err refusal) c configs d few services f g = absurd (cc g)
    parts elements all (Ok networks) a (Ok volumes) b (Ok secrets) c (Err refusal) d few services f g = absurd (cc g)
    parts elements all (Ok networks) a (Ok volumes) b (Ok secrets) c (Ok configs) d (Err refusal) services f g = absurd (cc g)
    parts elements all (Ok networks) a (Ok volumes) b (Ok secrets) c (Ok configs) d (Ok few) (Err refusal) f g = absurd (cc g)

    at_elements : (r : Read Entries) → ((elements : Entries) → r ≡ Ok elements → All Own elements) → (of_attributes r >>= Chain name) ≡ Ok project → IsGood project
    at_elements (Ok elements) all f =
        parts elements (all elements refl) (all_declared (network_of name) elements (codes "networks")) refl (all_declared (volume_of name) elements (codes "volumes")) refl
        (all_declared file_of elements (codes "secrets")) refl (all_declared file_of elements (codes "configs")) refl (few_services (section elements (codes "services")))
        (all_declared service_of elements (codes "services")) refl f
    at_elements (Err refusal) all f = absurd (cc f)

-- what a tree means in which no key stands twice
pub meaning_keyed : (name : List ℕ) (tree : Tree) → own_keys tree ≡ true → (project : Project) → project_of name tree ≡ Ok project → IsKeyed project
meaning_keyed name tree own project e = by (declarations name (out-Tree tree)) refl e
  where
    by : (r : Result Project TreeRefusal) → declarations name (out-Tree tree) ≡ r → (r >>= completed) ≡ Ok project → IsKeyed project
    by (Ok declared) a f = good_keyed project (completed_good declared project (declarations_good name (out-Tree tree) (own_parts tree own) declared a) f)
    by (Err refusal) a f = absurd (cc f)

-- what a call gave that gives it
pub given_keyed : (name : List ℕ) (tree : Tree) → own_keys tree ≡ true → (given : Result Project TreeRefusal) → Gives given (project_of name tree) → IfOk given IsKeyed
given_keyed name tree own (Ok project) h = meaning_keyed name tree own project h
given_keyed name tree own (Err refusal) h = tt
