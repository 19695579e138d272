-- No service of a tree is lost: each entry gives one of its key, and what is completed keeps them.
use Rattle.std.proofs.Common.{◌≡◌, ℕ, Bool, true, false, cond, List, [], ◌∷◌, ◌++◌, Some, None, Ok, Err, map, codes, refl, ap, sym, ◌∙◌, subst}
use Rattle.std.specs.Prelude.{Option, Result}
use Rattle.std.proofs.lemmas.List.{map-append}
use Rattle.tree_base.specs.Answers.{◌>>=◌}
use Rattle.tree_base.specs.declared.Step.TheVariants.{Key}
use Rattle.tree_base.specs.declared.tree.Tree.{Tree, out-Tree}
use Rattle.attribute_types.specs.Answers.{refused, under}
use Rattle.attribute_types.specs.declared.attribute.Attribute.{Attribute}
use Rattle.attribute_types.specs.declared.refusal.Fault.{Fault}
use Rattle.attribute_scalars.specs.Walks.{Entries, Read, each_entry, in_byte_order}
use Rattle.attribute_rows.specs.Attributes.{attributes_of}
use Rattle.attribute_rows.specs.Rows.{entries_in}
use Rattle.loading_words.specs.declared.refusal.ProjectRefusal.{ProjectRefusal}
use Rattle.loading_words.specs.declared.refusal.TreeRefusal.{TreeRefusal}
use Rattle.project_meaning.specs.Completing.{completed, completed_unless, service_keys, settled, undefined_of, used_by, without_circle}
use Rattle.project_meaning.specs.Meaning.{all_declared, declarations, declared_as, elements_in, few_services, file_of, is_key, network_of, of_attributes, project_of, section, service_of, volume_of}
use Rattle.project_keys.specs.Laws.{NoServiceIsLost}
use Rattle.project_keys.proofs.Rising.{parts_of}
use Rattle.service_graph.specs.Cycles.{cycle}
use Rattle.typed_project.specs.declared.network.Network.{Network}
use Rattle.typed_project.specs.declared.project.FileItem.{FileItem}
use Rattle.typed_project.specs.declared.project.Project.{Project}
use Rattle.typed_project.specs.declared.service.Service.{Service}
use Rattle.typed_project.specs.declared.volume.Volume.{Volume}

abbrev key_of : Service → List ℕ
key_of service = service.key

abbrev key_in : List ℕ × Tree → List ℕ
key_in entry = entry.0

-- an entry gives one service, of its key
one_key : (key : List ℕ) (tree : Tree) (found : List Service) → declared_as service_of key tree ≡ Ok found → map key_of found ≡ key ∷ []
one_key key tree found e = by (is_key key) e
  where
    inner : (r : Read (List Attribute)) → ((r >>= λ attributes. Ok (record { key = key; attributes = attributes })) >>= λ (item : Service). Ok (item ∷ [])) ≡ Ok found → map key_of found ≡ key ∷ []
    inner (Err refusal) f = absurd (cc f)
    inner (Ok attributes) f = let same : record { key = key; attributes = attributes } ∷ [] ≡ found = cc f in ap (map key_of) (sym same)

    by : (b : Bool) → cond b (service_of key (out-Tree tree) >>= λ item. Ok (item ∷ [])) (refused Fault.BadValue) ≡ Ok found → map key_of found ≡ key ∷ []
    by true f = inner (entries_in (out-Tree tree) >>= attributes_of) f
    by false f = absurd (cc f)

keys_are : (entries : Entries) (services : List Service) → each_entry (declared_as service_of) entries ≡ Ok services → map key_of services ≡ map key_in entries
keys_are [] services e = let none : [] ≡ services = cc e in ap (map key_of) (sym none)
keys_are ((key, tree) ∷ entries) services e =
    let parts = parts_of (declared_as service_of) key tree entries services e in
    ap (map key_of) parts.both ∙ map-append key_of parts.first parts.more
    ∙ (λ i. one_key key tree parts.first parts.one i ++ keys_are entries parts.more parts.rest i)

under_ok : (key : List ℕ) (r : Read (List Service)) (xs : List Service) → under (Key key) r ≡ Ok xs → r ≡ Ok xs
under_ok key (Ok ys) xs e = e
under_ok key (Err refusal) xs e = absurd (cc e)

-- what a tree declares has the services of its entries
declared_keys : (name : List ℕ) (tree : Tree) (elements : Entries) (project : Project) → elements_in (out-Tree tree) ≡ Ok elements → declarations name (out-Tree tree) ≡ Ok project
    → map key_of project.services ≡ map key_in (in_byte_order (section elements (codes "services")))
declared_keys name tree elements project is e =
    parts (of_attributes (all_declared (network_of name) elements (codes "networks"))) (of_attributes (all_declared (volume_of name) elements (codes "volumes")))
    (of_attributes (all_declared file_of elements (codes "secrets"))) (of_attributes (all_declared file_of elements (codes "configs"))) (few_services (section elements (codes "services")))
    (all_declared service_of elements (codes "services")) refl
    (ap (λ (r : Read Entries). of_attributes r >>= λ elements.
    of_attributes (all_declared (network_of name) elements (codes "networks")) >>= λ networks.
    of_attributes (all_declared (volume_of name) elements (codes "volumes")) >>= λ volumes.
    of_attributes (all_declared file_of elements (codes "secrets")) >>= λ secrets.
    of_attributes (all_declared file_of elements (codes "configs")) >>= λ configs.
    few_services (section elements (codes "services")) >>= λ few.
    of_attributes (all_declared service_of elements (codes "services")) >>= λ services.
    Ok (record { name = name; services = services; networks = networks; volumes = volumes; secrets = secrets; configs = configs })) (sym is) ∙ e)
  where
    parts : (networks : Result (List Network) TreeRefusal) (volumes : Result (List Volume) TreeRefusal) (secrets configs : Result (List FileItem) TreeRefusal) (few : Result Entries TreeRefusal)
        → (services : Read (List Service)) → all_declared service_of elements (codes "services") ≡ services
        → (networks >>= λ networks. volumes >>= λ volumes. secrets >>= λ secrets. configs >>= λ configs. few >>= λ few. of_attributes services >>= λ services.
        Ok (record { name = name; services = services; networks = networks; volumes = volumes; secrets = secrets; configs = configs })) ≡ Ok project
        → map key_of project.services ≡ map key_in (in_byte_order (section elements (codes "services")))
    parts (Ok networks) (Ok volumes) (Ok secrets) (Ok configs) (Ok few) (Ok services) f g =
        let same : record { name = name; services = services; networks = networks; volumes = volumes; secrets = secrets; configs = configs } ≡ project = cc g in
        ap (λ (p : Project). map key_of p.services) (sym same)
        ∙ keys_are (in_byte_order (section elements (codes "services"))) services (under_ok (codes "services") (each_entry (declared_as service_of) (in_byte_order (section elements (codes "services")))) services f)
    parts (Err refusal) volumes secrets configs few services f g = absurd (cc g)
    parts (Ok networks) (Err refusal) secrets configs few services f g = absurd (cc g)
    parts (Ok networks) (Ok volumes) (Err refusal) configs few services f g = absurd (cc g)
    parts (Ok networks) (Ok volumes) (Ok secrets) (Err refusal) few services f g = absurd (cc g)
    parts (Ok networks) (Ok volumes) (Ok secrets) (Ok configs) (Err refusal) services f g = absurd (cc g)
    parts (Ok networks) (Ok volumes) (Ok secrets) (Ok configs) (Ok few) (Err refusal) f g = absurd (cc g)

settled_keys : (keys : List (List ℕ)) (services : List Service) → map key_of (map (settled keys) services) ≡ map key_of services
settled_keys keys [] = refl
settled_keys keys (service ∷ services) = ap (λ l. service.key ∷ l) (settled_keys keys services)

-- what is completed keeps them
completed_keys : (project whole : Project) → completed project ≡ Ok whole → map key_of whole.services ≡ map key_of project.services
completed_keys project whole e = by (undefined_of project) e
  where
    services : List Service
    services = map (settled (service_keys project)) project.services

    done : (o : Option (List (List ℕ))) → (without_circle services o >>= λ services. Ok (used_by project services)) ≡ Ok whole → map key_of whole.services ≡ map key_of project.services
    done None f =
        let same : used_by project services ≡ whole = cc f in ap (λ (p : Project). map key_of p.services) (sym same) ∙ settled_keys (service_keys project) project.services
    done (Some circle) f = absurd (cc f)

    by : (o : Option ProjectRefusal) → completed_unless project o ≡ Ok whole → map key_of whole.services ≡ map key_of project.services
    by None f = done (cycle services) f
    by (Some refusal) f = absurd (cc f)

pub none_lost : NoServiceIsLost
none_lost name tree elements project is e = by (declarations name (out-Tree tree)) refl e
  where
    by : (r : Result Project TreeRefusal) → declarations name (out-Tree tree) ≡ r → (r >>= completed) ≡ Ok project
        → map key_of project.services ≡ map key_in (in_byte_order (section elements (codes "services")))
    by (Ok declared) a f = completed_keys declared project f ∙ declared_keys name tree elements declared is a
    by (Err refusal) a f = absurd (cc f)
