-- Which declared sets one worker can carry out, as a test.
use Rattle.std.specs.Prelude.{ℕ, Bool, true, false, not, ◌&&◌, ◌==◌, nat_lt, List, [], ◌∷◌, Option, Some, None, length}
use Rattle.std.specs.List.{list_all, list_any}
use Rattle.std.specs.Str.{bytes_eq}
use Rattle.engine_types.specs.declared.Declared.{Declared}
use Rattle.engine_types.specs.declared.DeclaredService.{DeclaredService}
use Rattle.engine_types.specs.declared.NetworkSpec.{NetworkSpec}
use Rattle.engine_types.specs.declared.Slot.{Slot}
use Rattle.run_model.specs.Plans.{is_slot_before}
use Rattle.tree_base.specs.ByteOrder.{is_before}

-- whether each element stands before all later ones
abbrev pub is_ascending : {X : Type 0} → (X → X → Bool) → List X → Bool
is_ascending before [] = true
is_ascending before (x ∷ xs) = list_all (before x) xs && is_ascending before xs

-- whether a slot attaches to networks that are there
abbrev pub is_attached : List NetworkSpec → Slot → Bool
is_attached networks slot = list_all (λ attach. nat_lt attach.network (length networks)) slot.attach

-- whether a service with this key is there
abbrev pub is_owned : List DeclaredService → List ℕ → Bool
is_owned services key = list_any (λ service. bytes_eq service.key key) services

-- whether a list has no element
abbrev pub is_nil : {X : Type 0} → List X → Bool
is_nil [] = true
is_nil (x ∷ xs) = false

-- whether a slot is of a service that is there, attaches to networks that are there, needs no other slot, and has a number of 32 bits
abbrev pub is_served : List DeclaredService → List NetworkSpec → Slot → Bool
is_served services networks slot =
    is_owned services slot.service && is_attached networks slot && is_nil slot.needs
    && nat_lt slot.number 4294967296

-- whether slots do
abbrev pub are_served : List DeclaredService → List NetworkSpec → List Slot → Bool
are_served services networks slots = list_all (is_served services networks) slots

-- whether slots are replaced at least one at a time
abbrev pub some_at_a_time : Option ℕ → Bool
some_at_a_time (Some count) = not (count == 0)
some_at_a_time None = true

-- whether a service depends on no other one, and its slots are replaced at least one at a time
abbrev pub is_alone : DeclaredService → Bool
is_alone service = is_nil service.depends_on && some_at_a_time service.roll

-- whether services do
abbrev pub stand_alone : List DeclaredService → Bool
stand_alone services = list_all is_alone services

-- whether a declared set is whole and nothing in it waits for anything else
abbrev pub is_serial : Declared → Bool
is_serial declared =
    is_ascending is_slot_before declared.slots
    && is_ascending (λ service other. is_before service.key other.key) declared.services
    && is_ascending (λ network other. is_before network.name other.name) declared.networks
    && is_ascending (λ volume other. is_before volume.name other.name) declared.volumes
    && are_served declared.services declared.networks declared.slots
    && stand_alone declared.services
