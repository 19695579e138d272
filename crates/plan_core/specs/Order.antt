-- When a plan can be carried out in some order.
use Rattle.std.specs.Prelude.{◌≡◌, ℕ, ◌<◌, Bool, List, Some}
use Rattle.engine_types.specs.declared.Declared.{Declared}
use Rattle.engine_types.specs.declared.DeclaredService.{DeclaredService}
use Rattle.engine_types.specs.declared.Need.{Need}
use Rattle.engine_types.specs.declared.Seen.{Seen}
use Rattle.engine_types.specs.declared.Slot.{Slot}
use Rattle.run_model.specs.EngineRules.{Among}
use Rattle.run_model.specs.Plans.{IsOrderly, basis_of, down_aim, planned, slot_at, up_aim}

-- neither the needs of the slots nor the dependencies of the services go in a circle: there is a rank of the slots
-- that falls along each need, and one of the keys that falls along each dependency
pub record HasNoCycle (declared : Declared) : Type 0 where
  pub rank : ℕ → ℕ
  pub falls : (s : ℕ) (slot : Slot) (need : Need) → slot_at declared s ≡ Some slot
      → Among slot.needs need → rank need.slot < rank s
  pub height : List ℕ → ℕ
  pub sinks : (service : DeclaredService) (key : List ℕ) → Among declared.services service
      → Among service.depends_on key → height key < height service.key

-- where neither of them goes in a circle, plans can be carried out in some order
abbrev pub PlansAreOrderly : Type 0
PlansAreOrderly = (declared : Declared) (seen : Seen) (orphans volumes : Bool)
    → HasNoCycle declared → IsOrderly declared (planned (basis_of declared seen (up_aim orphans)))
    × IsOrderly declared (planned (basis_of declared seen (down_aim orphans volumes)))
