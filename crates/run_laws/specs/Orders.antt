-- When the actions of a run can be carried out in some order.
use Rattle.std.specs.Prelude.{◌≡◌, ℕ, Bool, Some}
use Rattle.engine_types.specs.declared.Declared.{Declared}
use Rattle.engine_types.specs.declared.DeclaredService.{DeclaredService}
use Rattle.engine_types.specs.declared.Need.{Need}
use Rattle.engine_types.specs.declared.Seen.{Seen}
use Rattle.engine_types.specs.declared.Slot.{Slot}
use Rattle.plan_core.specs.Order.{HasNoCycle}
use Rattle.run_model.specs.EngineRules.{Among}
use Rattle.run_model.specs.Plans.{HasSmallNumbers, IsOrderly, IsWhole, basis_of, down_aim, slot_at, up_aim}
use Rattle.run_model.specs.Rolling.{run_actions}

-- a service by which a slot may need another one: it is the slot's, and depends on the other's
pub record Leads (declared : Declared) (slot other : Slot) : Type 0 where
  pub service : DeclaredService
  pub there : Among declared.services service
  pub own : service.key ≡ slot.service
  pub depends : Among service.depends_on other.service

-- each slot needs only slots of services on which its own service depends: `depends_on` of the Compose Specification
abbrev pub NeedsDependencies : Declared → Type 0
NeedsDependencies declared =
    (s : ℕ) (slot other : Slot) (need : Need) → slot_at declared s ≡ Some slot
    → Among slot.needs need
    → slot_at declared need.slot ≡ Some other → Leads declared slot other

-- where dependencies go in no circle, the actions of runs can be carried out in some order
abbrev pub RunsAreOrderly : Type 0
RunsAreOrderly =
    (declared : Declared) (seen : Seen) (orphans volumes : Bool) → IsWhole declared
    → HasSmallNumbers declared → HasNoCycle declared → NeedsDependencies declared
    → IsOrderly declared (run_actions (basis_of declared seen (up_aim orphans)))
    × IsOrderly declared (run_actions (basis_of declared seen (down_aim orphans volumes)))
