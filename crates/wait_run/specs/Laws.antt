-- Laws above the definitions of a wait.
use Rattle.std.specs.Prelude.{◌≡◌, ℕ, ◌<◌, true, List, ◌++◌, Option, Some, length, slice_get}
use Rattle.engine_types.specs.declared.Declared.{Declared}
use Rattle.engine_types.specs.declared.Exchange.{Exchange}
use Rattle.engine_types.specs.declared.Report.{Report}
use Rattle.engine_types.specs.declared.StreamFault.{StreamFault}
use Rattle.wait_run.specs.Asking.{IsWait}
use Rattle.wait_run.specs.Comes.{Comes}
use Rattle.wait_run.specs.Ends.{status_of}
use Rattle.wait_run.specs.Reports.{all_met, met_in, said_in}
use Rattle.wait_run.specs.declared.waited.Waited.{Waited}

-- no slot's place is twice among those whose goals were met
abbrev pub GoalsAreMetOnce : Type 0
GoalsAreMetOnce = (declared : Declared) (said : List (ℕ × Report)) (i j s : ℕ)
    → slice_get (met_in declared said) i ≡ Some s → slice_get (met_in declared said) j ≡ Some s
    → i ≡ j

-- a wait has met all goals, and says so of each slot
pub record MeetsAll (declared : Declared) (body : List ℕ) (made : List Exchange) (waited : Waited)
    : Type 0 where
  pub met : all_met declared (said_in declared body made) ≡ true
  pub told : (s : ℕ) → s < length declared.slots
      → (i : ℕ) × (slice_get waited.met i ≡ Some s)

-- a wait whose status is 0 has
abbrev pub GoodEndsMeetAll : Type 0
GoodEndsMeetAll = (declared : Declared) (body : List ℕ) (made : List Exchange)
    (end : Option StreamFault) (waited : Waited) → Comes declared body made end waited
    → status_of waited.refusal ≡ 0 → MeetsAll declared body made waited

-- what was asked stays right however the stream goes on
abbrev pub MoreEventsOnlyAdd : Type 0
MoreEventsOnlyAdd = (declared : Declared) (body more : List ℕ) (made : List Exchange)
    → IsWait declared body made → IsWait declared (body ++ more) made
