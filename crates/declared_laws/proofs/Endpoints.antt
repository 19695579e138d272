-- The networks that a service joins are declared, and its first attach is its endpoint.
use Rattle.std.proofs.Common.{◌≡◌, ◌∙◌, ◌||◌, ℕ, Bool, true, false, List, [], ◌∷◌, ◌++◌, Option, Some, None, map, slice_get, refl, sym, ap, subst, inl, inr}
use Rattle.std.specs.Prelude.{codes, find, flat_map, position, unwrap_or}
use Rattle.std.specs.List.{list_any}
use Rattle.std.specs.Option.{option_and_then, option_map, option_map_or, option_to_list}
use Rattle.std.specs.Str.{bytes_eq}
use Rattle.std.proofs.lemmas.Slice.Eq.{bytes_eq-Decides}
use Rattle.attribute_types.specs.Lookups.{networks_at, text_at}
use Rattle.attribute_types.specs.declared.rows.NetworkUse.{NetworkUse}
use Rattle.container_specs.specs.Lists.{each_once}
use Rattle.container_specs.specs.Networks.{aliases_on, endpoints_of, joined_as, joined_networks, network_name, networks_by_name}
use Rattle.container_specs.specs.declared.networks.JoinedNetwork.{JoinedNetwork}
use Rattle.declared_resources.specs.Resources.{network_spec, networks_of}
use Rattle.engine_types.specs.declared.Attach.{Attach}
use Rattle.engine_types.specs.declared.resource.NetworkSpec.{NetworkSpec}
use Rattle.named_items.specs.Names as named
use Rattle.run_model.specs.EngineRules.{Among}
use Rattle.run_model.proofs.DistinctLists.{among_by_key, among_map, from_by_key, from_flat_map, from_map}
use Rattle.service_attaches.specs.Attaches.{attach_of}
use Rattle.tree_base.specs.ByteOrder.{first_of_each}
use Rattle.typed_project.specs.declared.network.Network.{Network}
use Rattle.typed_project.specs.declared.project.Project.{Project}
use Rattle.typed_project.specs.declared.service.Service.{Service}
use Rattle.declared_laws.proofs.Firsts.{first_kept, found, found_at, from_firsts, not_found}

-- what a step on a value gives, it gives of a value that is there
stepped : {X Y : Type 0} (f : X → Option Y) (o : Option X) (y : Y) → option_and_then f o ≡ Some y → (x : X) × (o ≡ Some x) × (f x ≡ Some y)
stepped f None y e = absurd (cc e)
stepped f (Some x) y e = (x, refl, e)

-- a network that is joined has the name that its key has
joined_name : (name : Option (List ℕ)) (used : NetworkUse) (joined : JoinedNetwork)
    → Among (option_to_list (option_map (λ (t : List ℕ). let made : JoinedNetwork = record { name = t; aliases = used.aliases } in made) name)) joined → name ≡ Some joined.name
joined_name None used joined m = absurd m
joined_name (Some t) used joined (inl e) = ap (λ (j : JoinedNetwork). Some j.name) (sym e)
joined_name (Some t) used joined (inr m) = absurd m

module _ (project : Project) where
  -- a name that a key has is that of a declared network
  name_declared : (key name : List ℕ) → network_name project key ≡ Some name → (spec : NetworkSpec) × Among (networks_of project) spec × (spec.name ≡ name)
  name_declared key name e =
      let s = stepped (λ (network : Network). text_at network.attributes (codes "name")) (find (λ network. bytes_eq network.key key) project.networks) name e in
      let there = found (λ (network : Network). bytes_eq network.key key) project.networks s.0 s.1 in
      let first = first_kept named.network_name project.networks s.0 there.0 in
      let sorted = among_by_key named.network_name (first_of_each named.network_name project.networks) first.0 first.1 in
      let known : named.network_name s.0 ≡ name = ap (λ (o : Option (List ℕ)). unwrap_or o s.0.key) s.2 in
      (network_spec project.name first.0, among_map (network_spec project.name) _ first.0 sorted, first.2 ∙ known)

  -- each network that a service joins has the name that one of its keys has
  joined_key : (service : Service) (joined : JoinedNetwork) → Among (networks_by_name project service) joined → (key : List ℕ) × (network_name project key ≡ Some joined.name)
  joined_key service joined m =
      let all = joined_networks project service in
      let names = map (λ (network : JoinedNetwork). network.name) all in
      let r = from_map (λ (name : List ℕ). let made : JoinedNetwork = record { name = name; aliases = aliases_on service all name } in made) (each_once names) joined m in
      let kept = from_firsts (λ (t : List ℕ). t) names r.0 (from_by_key (λ (t : List ℕ). t) (first_of_each (λ (t : List ℕ). t) names) r.0 r.1) in
      let given = from_map (λ (network : JoinedNetwork). network.name) all r.0 kept in
      let joins = from_flat_map (λ (used : NetworkUse). option_to_list (joined_as project used)) (unwrap_or (networks_at service.attributes (codes "networks")) []) given.0 given.1 in
      let is : joined.name ≡ given.0.name = ap (λ (j : JoinedNetwork). j.name) r.2 ∙ given.2 in
      (joins.0.key, subst (λ (t : List ℕ). network_name project joins.0.key ≡ Some t) (sym is) (joined_name (network_name project joins.0.key) joins.0 given.0 joins.2))

  -- so it is declared
  joined_declared : (service : Service) (joined : JoinedNetwork) → Among (networks_by_name project service) joined
      → (spec : NetworkSpec) × Among (networks_of project) spec × (spec.name ≡ joined.name)
  joined_declared service joined m = let r = joined_key service joined m in name_declared r.0 joined.name r.1

  -- the name of the network at a place
  abbrev name_at : ℕ → List ℕ
  name_at place = option_map_or (λ (network : NetworkSpec). network.name) (slice_get (networks_of project) place) []

  -- where the first network that is joined is declared, the first attach is to it
  first_attach : (list : List JoinedNetwork) → ((joined : JoinedNetwork) → Among list joined → (spec : NetworkSpec) × Among (networks_of project) spec × (spec.name ≡ joined.name))
      → (attach : Attach) → slice_get (flat_map (attach_of (networks_of project)) list) 0 ≡ Some attach
      → list_any (λ endpoint. bytes_eq endpoint.key (name_at attach.network)) (unwrap_or (endpoints_of list) []) ≡ true
  first_attach [] declared attach e = absurd (cc e)
  first_attach (joined ∷ list) declared attach e = at (position of_name (networks_of project)) refl e
    where
      of_name : NetworkSpec → Bool
      of_name network = bytes_eq network.name joined.name

      or_none : (b : Bool) → b ≡ true → (b || false) ≡ true
      or_none true h = refl
      or_none false h = h

      at : (place : Option ℕ) → position of_name (networks_of project) ≡ place
          → slice_get (option_to_list (option_map (λ (n : ℕ). let made : Attach = record { network = n; aliases = joined.aliases } in made) place) ++ flat_map (attach_of (networks_of project)) list) 0 ≡ Some attach
          → list_any (λ endpoint. bytes_eq endpoint.key (name_at attach.network)) (unwrap_or (endpoints_of (joined ∷ list)) []) ≡ true
      at None h f =
          let there = declared joined (inl refl) in
          absurd (not_found of_name (networks_of project) there.0 h there.1 ((bytes_eq-Decides there.0.name joined.name).1 there.2))
      at (Some place) h f =
          let r = found_at of_name (networks_of project) place h in
          let known : name_at place ≡ joined.name = ap (λ (o : Option NetworkSpec). option_map_or (λ (network : NetworkSpec). network.name) o []) r.2 ∙ (bytes_eq-Decides r.0.name joined.name).0 r.3 in
          let first : place ≡ attach.network = cc f in
          subst (λ (n : ℕ). (bytes_eq joined.name (name_at n) || false) ≡ true) first
          (or_none (bytes_eq joined.name (name_at place)) ((bytes_eq-Decides joined.name (name_at place)).1 (sym known)))

  pub first_is_endpoint : (service : Service) (attach : Attach) → slice_get (flat_map (attach_of (networks_of project)) (networks_by_name project service)) 0 ≡ Some attach
      → list_any (λ endpoint. bytes_eq endpoint.key (name_at attach.network)) (unwrap_or (endpoints_of (networks_by_name project service)) []) ≡ true
  first_is_endpoint service = first_attach (networks_by_name project service) (joined_declared service)
