-- The rows of the table of actions that could have one for each volume, network or slot.
use Rattle.std.specs.Prelude.{ℕ, List, length, map}
use Rattle.engine_types.specs.declared.ActionKind.{ActionKind}
use Rattle.engine_types.specs.declared.ActionKind.TheVariants.{MakeVolume, MakeNetwork, CreateSlot, StopKept, StartSlot, RemoveNetwork, RemoveVolume}
use Rattle.plan_core.specs.declared.kinds.Row.{Row}
use Rattle.run_model.specs.Numbers.{numbers_from}
use Rattle.run_model.specs.Plans.{Basis}

-- the action of a row for the volume, network or slot with this number
abbrev pub action_of : Row → ℕ → ActionKind
action_of Row.NewVolumes n = MakeVolume n
action_of Row.NewNetworks n = MakeNetwork n
action_of Row.Creates n = CreateSlot n
action_of Row.Restarts n = StopKept n
action_of Row.Starts n = StartSlot n
action_of Row.OldNetworks n = RemoveNetwork n
action_of Row.OldVolumes n = RemoveVolume n

-- how many actions a row could have
abbrev pub count_of : Basis → Row → ℕ
count_of basis Row.NewVolumes = length basis.declared.volumes
count_of basis Row.NewNetworks = length basis.declared.networks
count_of basis Row.Creates = length basis.declared.slots
count_of basis Row.Restarts = length basis.declared.slots
count_of basis Row.Starts = length basis.declared.slots
count_of basis Row.OldNetworks = length basis.declared.networks
count_of basis Row.OldVolumes = length basis.declared.volumes

-- the actions that a row could have
abbrev pub row_actions : Basis → Row → List ActionKind
row_actions basis row = map (λ n. action_of row n) (numbers_from 0 (count_of basis row))
