-- After a run of `down` without a fault all that is declared is gone, in every world of the run.
use Rattle.std.proofs.Common.{◌≡◌, ◌⊎◌, ℕ, Bool, true, false, not, ◌&&◌, ◌||◌, List, [], ◌∷◌, Some, None, slice_get, refl, sym, ap, ◌∙◌, subst, inl, inr}
use Rattle.std.proofs.lemmas.Option.{slice_get_within}
use Rattle.std.proofs.lemmas.Slice.Eq.{bytes_eq-Decides}
use Rattle.std.specs.Prelude.{filter, if◌then◌else◌}
use Rattle.std.specs.Str.{bytes_eq}
use Rattle.engine_types.specs.declared.Action.{Action}
use Rattle.engine_types.specs.declared.ActionKind.{ActionKind}
use Rattle.engine_types.specs.declared.ActionKind.TheVariants.{RemoveContainer, RemoveNetwork, RemoveVolume}
use Rattle.engine_types.specs.declared.Aim.{Aim}
use Rattle.engine_types.specs.declared.ContainerRow.{ContainerRow}
use Rattle.engine_types.specs.declared.Declared.{Declared}
use Rattle.engine_types.specs.declared.Engine.{Engine}
use Rattle.engine_types.specs.declared.Listed.{Listed}
use Rattle.engine_types.specs.declared.NetRow.{NetRow}
use Rattle.engine_types.specs.declared.NetworkSpec.{NetworkSpec}
use Rattle.engine_types.specs.declared.Purpose.{Purpose}
use Rattle.engine_types.specs.declared.Reply.{Reply}
use Rattle.engine_types.specs.declared.SeenFault.{SeenFault}
use Rattle.engine_types.specs.declared.VolumeSpec.{VolumeSpec}
use Rattle.run_model.specs.EngineRules.{Among, ListsNetworks, ListsVolumes, container_at, has_volume, is_of_project, network_at, network_has_name}
use Rattle.run_model.specs.Journals.{Setup, is_good}
use Rattle.run_model.specs.Labels.{has_declared_service}
use Rattle.run_model.specs.Observation.{first_in, is_up, network_fault}
use Rattle.run_model.specs.Plans.{Basis, CarriesOut, is_kept, is_network_seen, is_removed, is_volume_seen, is_wanted}
use Rattle.run_model.specs.Requests.{seen_network_id}
use Rattle.run_model.specs.Runs.{run_setup}
use Rattle.tree_base.specs.ByteOrder.{by_key}
use Rattle.run_model.specs.Worlds.{Move}
use Rattle.run_model.proofs.DistinctLists.{among_by_key, among_filter, at_place}
use Rattle.run_model.proofs.KeptLaws.{any_of_list}
use Rattle.run_model.proofs.LegalLaws.{found_passes}
use Rattle.run_model.proofs.PlanLaws.{some_from}
use Rattle.run_requests.proofs.Searches.{find_passes, find_some, first_none, none_first}
use Rattle.world_laws.specs.Laws.{GoneInEachWorld}
use Rattle.world_laws.proofs.ActionRequests.{map_from}
use Rattle.world_laws.proofs.Effects.{each_has_effect}
use Rattle.world_laws.proofs.Finished.{IsEnded, basis_of}
use Rattle.world_laws.proofs.Held.{effects}
use Rattle.world_laws.proofs.Removed.{HasLess, IsWithout, has_less, plan_of}
use Rattle.world_laws.proofs.WholeRuns.{is_ended}

-- whether an action removes
abbrev is_remove : ActionKind → Bool
is_remove (RemoveContainer c) = true
is_remove (RemoveNetwork n) = true
is_remove (RemoveVolume v) = true
is_remove _ = false

-- the one good reply to a remove
good_remove : (kind : ActionKind) (reply : Reply) → is_remove kind ≡ true → is_good kind reply ≡ true → reply ≡ Reply.Done
good_remove (RemoveContainer c) Reply.Done r e = refl
good_remove (RemoveNetwork n) Reply.Done r e = refl
good_remove (RemoveVolume v) Reply.Done r e = refl
good_remove (RemoveContainer c) _ r e = absurd (cc e)
good_remove (RemoveNetwork n) _ r e = absurd (cc e)
good_remove (RemoveVolume v) _ r e = absurd (cc e)
good_remove _ _ r e = absurd (cc r)

-- a plan of `down` removes each container of the project that has a slot's service, and each other one where orphans are asked for
removed : (basis : Basis) (row : Listed) → is_up basis.aim.purpose ≡ false → is_of_project basis.declared.project row.labels ≡ true
    → (basis.aim.orphans || has_declared_service basis.declared row.labels) ≡ true → is_removed basis row ≡ true
removed basis row down p e = rw (p, down) (at (has_declared_service basis.declared row.labels) basis.aim.orphans e)
  where
    at : (served orphans : Bool) → (orphans || served) ≡ true → (if served then not (false && is_kept basis.declared basis.seen row) else orphans) ≡ true
    at true orphans f = refl
    at false true f = refl
    at false false f = absurd (cc f)

-- two listed networks with a declared network's name are one, where there is no fault
one_named : (declared : Declared) (purpose : Purpose) (rows : List NetRow) (network : NetworkSpec) → network_fault declared purpose rows network ≡ None
    → (row other : NetRow) → Among rows row → bytes_eq network.name row.name ≡ true → Among rows other → bytes_eq network.name other.name ≡ true → row ≡ other
one_named declared purpose rows network sound row other m h n k = at (by_key (λ (r : NetRow). r.id) named) refl
  where
    named : List NetRow
    named = filter (λ (r : NetRow). bytes_eq network.name r.name) rows

    has : (r : NetRow) → Among rows r → bytes_eq network.name r.name ≡ true → Among (by_key (λ (x : NetRow). x.id) named) r
    has r i j = among_by_key (λ (x : NetRow). x.id) named r (among_filter (λ (x : NetRow). bytes_eq network.name x.name) rows r j i)

    at : (found : List NetRow) → by_key (λ (r : NetRow). r.id) named ≡ found → row ≡ other
    at [] e = absurd (subst (λ (xs : List NetRow). Among xs row) e (has row m h))
    at (x ∷ []) e = only (subst (λ (xs : List NetRow). Among xs row) e (has row m h)) (subst (λ (xs : List NetRow). Among xs other) e (has other n k))
      where
        only : Among (x ∷ []) row → Among (x ∷ []) other → row ≡ other
        only (inl i) (inl j) = i ∙ sym j
        only (inr i) j = absurd i
        only i (inr j) = absurd j
    at (x ∷ y ∷ rest) e = let f : Some (SeenFault.NetworkTwice network.name x.id y.id) ≡ None = rw e at sound in absurd (cc f)

module _ (aim : Aim) (setup : Setup) (first last : Engine) (moves : List Move) (down : is_up aim.purpose ≡ false) (ended : IsEnded aim setup first moves last) where
  abbrev basis : Basis
  basis = basis_of aim setup

  has : HasLess aim setup (effects moves) last
  has = has_less aim setup first down moves last ended.way

  plan : CarriesOut basis setup.actions
  plan = plan_of aim setup first down moves last ended.way

  -- what was to go is gone
  without : (kind : ActionKind) → is_remove kind ≡ true → is_wanted basis kind ≡ true → IsWithout setup last kind
  without kind r w =
      let x = plan.all kind w in
      let action = map_from (λ (y : Action). y.kind) (slice_get setup.actions x.0) kind x.1 in
      let done = each_has_effect setup first last moves x.0 ended.way.world (ended.well x.0 (slice_get_within setup.actions x.0 action.0 action.1)) in
      let kinds : Some done.1.good.kind ≡ Some kind = sym done.1.good.kind_is ∙ x.1 in
      let same : done.1.good.kind ≡ kind = cc kinds in
      let good : is_good kind done.0 ≡ true = subst (λ (k : ActionKind). is_good k done.0 ≡ true) same done.1.good.good in
      has.without x.0 kind x.1 (done.1.effect ∙ ap Some (good_remove kind done.0 r good))

  -- no container of the project has a slot's service, and none is there where orphans were asked for
  no_container : (id : List ℕ) (row : ContainerRow) → container_at last id ≡ Some row → is_of_project setup.declared.project row.labels ≡ true
      → (aim.orphans || has_declared_service setup.declared row.labels) ≡ false
  no_container id row e p = at (aim.orphans || has_declared_service setup.declared row.labels) refl
    where
      never : (aim.orphans || has_declared_service setup.declared row.labels) ≡ true → ⊥
      never f =
          let was = has.less.containers id row e in
          let of_was : is_of_project setup.declared.project was.0.labels ≡ true = rw (← was.2) p in
          let seen = has.sight.all id was.0 was.1 of_was in
          let listed : Listed = seen.0 in
          let c = at_place setup.seen.containers listed seen.1 in
          let labels : row.labels ≡ listed.labels = was.2 ∙ sym seen.3.labels in
          let go : is_removed basis listed ≡ true = removed basis listed down (rw (← labels) p) (rw (← labels) f) in
          let none = without (RemoveContainer c.0) refl (rw (c.1, go) refl) listed c.1 in
          let bad : None ≡ Some row = sym none ∙ ap (container_at last) seen.2 ∙ e in cc bad

      at : (t : Bool) → (aim.orphans || has_declared_service setup.declared row.labels) ≡ t → t ≡ false
      at false f = refl
      at true f = absurd (never f)

  -- no declared network that isn't external is there
  module _ (network : NetworkSpec) (m : Among setup.declared.networks network) (external : network.external ≡ false) where
    sound : network_fault setup.declared aim.purpose setup.seen.networks network ≡ None
    sound = none_first (network_fault setup.declared aim.purpose setup.seen.networks) setup.declared.networks network
        (first_none (first_in (network_fault setup.declared aim.purpose setup.seen.networks) setup.declared.networks) _ has.sight.sound) m

    removes : (row : NetRow) → Among setup.seen.networks row → bytes_eq network.name row.name ≡ true → network_at last row.id ≡ None
    removes row s named =
        let back : bytes_eq row.name network.name ≡ true = (bytes_eq-Decides row.name network.name).1 (sym ((bytes_eq-Decides network.name row.name).0 named)) in
        let found = find_some (λ (r : NetRow). bytes_eq r.name network.name) setup.seen.networks row s back in
        let passes = find_passes (λ (r : NetRow). bytes_eq r.name network.name) setup.seen.networks found.0 found.1 in
        let same_name : bytes_eq network.name found.0.name ≡ true = (bytes_eq-Decides network.name found.0.name).1 (sym ((bytes_eq-Decides found.0.name network.name).0 passes.0)) in
        let same : found.0 ≡ row = one_named setup.declared aim.purpose setup.seen.networks network sound found.0 row passes.1 same_name s named in
        let id : seen_network_id setup network.name ≡ Some row.id = rw found.1 (ap (λ (r : NetRow). Some r.id) same) in
        let listed : is_network_seen setup.seen network.name ≡ true = any_of_list (λ (r : NetRow). bytes_eq r.name network.name) setup.seen.networks row s back in
        let n = at_place setup.declared.networks network m in
        without (RemoveNetwork n.0) refl (rw (down, n.1, external, listed) refl) network row.id n.1 id

    no_network : (id : List ℕ) → network_has_name last network.name id ≡ false
    no_network id = at (network_has_name last network.name id) refl
      where
        on : network_has_name last network.name id ≡ true → (setup.declared.networks ≡ []) ⊎ ListsNetworks has.start setup.seen.networks → ⊥
        on e (inl empty) = subst (λ (xs : List NetworkSpec). Among xs network) empty m
        on e (inr lists) =
            let r = some_from (λ (row : NetRow). bytes_eq network.name row.name) (network_at last id) e in
            let row : NetRow = r.0 in
            let own : row.id ≡ id = (bytes_eq-Decides row.id id).0 (found_passes (λ (x : NetRow). bytes_eq x.id id) last.networks row r.1) in
            let none = removes row (lists.all id row (has.less.networks id row r.1)) r.2 in
            let bad : None ≡ Some row = sym none ∙ ap (network_at last) own ∙ r.1 in cc bad

        at : (t : Bool) → network_has_name last network.name id ≡ t → t ≡ false
        at false e = refl
        at true e = absurd (on e has.sight.networks)

  -- no declared volume that isn't external is there, where volumes were asked for
  no_volume : aim.volumes ≡ true → (volume : VolumeSpec) → Among setup.declared.volumes volume → volume.external ≡ false → has_volume last volume.name ≡ false
  no_volume asked volume m external = at (has_volume last volume.name) refl
    where
      on : has_volume last volume.name ≡ true → (setup.declared.volumes ≡ []) ⊎ ListsVolumes has.start setup.seen.volumes → ⊥
      on e (inl empty) = subst (λ (xs : List VolumeSpec). Among xs volume) empty m
      on e (inr lists) =
          let listed : is_volume_seen setup.seen volume.name ≡ true = lists.same volume.name ∙ has.less.volumes volume.name e in
          let v = at_place setup.declared.volumes volume m in
          let none : has_volume last volume.name ≡ false = without (RemoveVolume v.0) refl (rw (down, asked, v.1, external, listed) refl) volume v.1 in
          let bad : false ≡ true = sym none ∙ e in cc bad

      at : (t : Bool) → has_volume last volume.name ≡ t → t ≡ false
      at false e = refl
      at true e = absurd (on e has.sight.volumes)

pub gone_in_each_world : GoneInEachWorld
gone_in_each_world task journal first last moves down whole run sound world =
    let setup : Setup = run_setup task journal in
    let ended : IsEnded task.aim setup first moves last = is_ended task journal first last moves run sound world in
    record {
      containers = no_container task.aim setup first last moves down ended;
      networks = no_network task.aim setup first last moves down ended;
      no_volumes = no_volume task.aim setup first last moves down ended;
    }
