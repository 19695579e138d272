-- Planned actions of every aim can be carried out in some order: that `up` takes no volumes makes no difference.
use Rattle.std.proofs.Common.{◌≡◌, Bool, false, ◌||◌, List, map, filter, slice_get, refl, subst}
use Rattle.std.specs.Option.{option_map_or}
use Rattle.engine_types.specs.declared.Action.{Action}
use Rattle.engine_types.specs.declared.ActionKind.{ActionKind}
use Rattle.engine_types.specs.declared.ActionKind.TheVariants.{MakeVolume, MakeNetwork, StopContainer, RemoveContainer, CreateSlot, ConnectSlot, StopKept, StartSlot, RemoveNetwork, RemoveVolume}
use Rattle.engine_types.specs.declared.Aim.{Aim}
use Rattle.engine_types.specs.declared.Declared.{Declared}
use Rattle.engine_types.specs.declared.Purpose.{Purpose}
use Rattle.engine_types.specs.declared.Seen.{Seen}
use Rattle.plan_core.specs.Order.{HasNoCycle, PlansAreOrderly}
use Rattle.run_laws.specs.Orders.{NeedsDependencies, RunsAreOrderly}
use Rattle.run_model.specs.Numbers.{places}
use Rattle.run_model.specs.Plans.{Basis, HasSmallNumbers, IsOrderly, IsWhole, basis_of, is_needed_by, is_wanted, planned, possible, up_aim}
use Rattle.run_model.specs.Rolling.{is_added, is_awaited, run_actions}

abbrev pub basis_with : Declared → Seen → Aim → Basis
basis_with declared seen aim = record { declared = declared; seen = seen; aim = aim }

abbrev aim_of : Purpose → Bool → Bool → Aim
aim_of purpose orphans volumes = record { purpose = purpose; orphans = orphans; volumes = volumes }

-- the actions that are wanted, with what each needs
abbrev listed_by : List ActionKind → (ActionKind → Bool) → (ActionKind → ActionKind → Bool) → List Action
listed_by kinds wanted needs =
    map (λ kind. record { kind = kind; needs = filter (λ b. option_map_or (needs kind) (slice_get (filter wanted kinds) b) false) (places (filter wanted kinds)) }) (filter wanted kinds)

module _ (declared : Declared) (seen : Seen) (orphans volumes : Bool) where
  abbrev up : Basis
  up = basis_of declared seen (up_aim orphans)

  abbrev other_up : Basis
  other_up = basis_with declared seen (aim_of Purpose.Up orphans volumes)

  wanted_same : (kind : ActionKind) → is_wanted up kind ≡ is_wanted other_up kind
  wanted_same (MakeVolume v) = refl
  wanted_same (MakeNetwork n) = refl
  wanted_same (StopContainer c) = refl
  wanted_same (RemoveContainer c) = refl
  wanted_same (CreateSlot s) = refl
  wanted_same (ConnectSlot s k) = refl
  wanted_same (StopKept s) = refl
  wanted_same (StartSlot s) = refl
  wanted_same (RemoveNetwork n) = refl
  wanted_same (RemoveVolume v) = refl

  needed_same : (kind other : ActionKind) → is_needed_by up kind other ≡ is_needed_by other_up kind other
  needed_same (StopContainer c) (RemoveContainer d) = refl
  needed_same (RemoveContainer c) (StopContainer d) = refl
  needed_same (CreateSlot s) (RemoveContainer c) = refl
  needed_same (CreateSlot s) (MakeNetwork n) = refl
  needed_same (CreateSlot s) (MakeVolume v) = refl
  needed_same (ConnectSlot s k) (CreateSlot t) = refl
  needed_same (ConnectSlot s k) (MakeNetwork n) = refl
  needed_same (StartSlot s) (CreateSlot t) = refl
  needed_same (StopKept s) (StartSlot t) = refl
  needed_same (StartSlot s) (ConnectSlot t k) = refl
  needed_same (StartSlot s) (StopKept t) = refl
  needed_same (RemoveNetwork n) (RemoveContainer c) = refl
  needed_same (RemoveVolume v) (RemoveContainer c) = refl
  needed_same _ _ = refl

  added_same : (kind other : ActionKind) → is_added up kind other ≡ is_added other_up kind other
  added_same (StopContainer c) (StartSlot t) = refl
  added_same (StopKept s) (StartSlot t) = refl
  added_same (StartSlot s) (StopContainer c) = refl
  added_same _ _ = refl

  awaited_same : (kind other : ActionKind) → is_awaited up kind other ≡ is_awaited other_up kind other
  awaited_same kind other = λ i. needed_same kind other i || added_same kind other i

  planned_same : planned up ≡ planned other_up
  planned_same = λ i. listed_by (possible up) (λ kind. wanted_same kind i) (λ kind other. needed_same kind other i)

  run_same : run_actions up ≡ run_actions other_up
  run_same = λ i. listed_by (possible up) (λ kind. wanted_same kind i) (λ kind other. awaited_same kind other i)

module _ (declared : Declared) (seen : Seen) where
  pub planned_orderly : PlansAreOrderly → (aim : Aim) → HasNoCycle declared → IsOrderly declared (planned (basis_with declared seen aim))
  planned_orderly plans aim acyclic = at aim.purpose aim.orphans aim.volumes
    where
      at : (purpose : Purpose) (orphans volumes : Bool) → IsOrderly declared (planned (basis_with declared seen (aim_of purpose orphans volumes)))
      at Purpose.Up orphans volumes = subst (λ (xs : List Action). IsOrderly declared xs) (planned_same declared seen orphans volumes) (plans declared seen orphans volumes acyclic).0
      at Purpose.Down orphans volumes = (plans declared seen orphans volumes acyclic).1

  pub rolled_orderly : RunsAreOrderly → (aim : Aim) → IsWhole declared → HasSmallNumbers declared → HasNoCycle declared → NeedsDependencies declared
      → IsOrderly declared (run_actions (basis_with declared seen aim))
  rolled_orderly runs aim whole small acyclic needs = at aim.purpose aim.orphans aim.volumes
    where
      at : (purpose : Purpose) (orphans volumes : Bool) → IsOrderly declared (run_actions (basis_with declared seen (aim_of purpose orphans volumes)))
      at Purpose.Up orphans volumes = subst (λ (xs : List Action). IsOrderly declared xs) (run_same declared seen orphans volumes) (runs declared seen orphans volumes whole small acyclic needs).0
      at Purpose.Down orphans volumes = (runs declared seen orphans volumes whole small acyclic needs).1
