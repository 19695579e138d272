-- Which hands are dialled at a place, and why there is none for some worker.
use Rattle.std.specs.Prelude.{◌≡◌, ◌⊎◌, ℕ, List, [], ◌∷◌, ◌++◌, Option, Some, None, Result, Ok, Err}
use Rattle.compose_cli.specs.declared.Place.{Place}
use Rattle.outside_api.specs.Plugs.{dial_of}
use Rattle.outside_api.specs.declared.dial.Dial.{Dial}
use Rattle.repeated_runs.specs.declared.dialling.DialFault.{DialFault}
use Rattle.refusals.specs.declared.Part.{Part}
use Rattle.refusals.specs.declared.Refusal.{Refusal}

-- what a call is refused with that has no hand for some worker
abbrev pub refusal_of : DialFault → Refusal
refusal_of DialFault.Plug = Refusal.Outside Part.Plug
refusal_of DialFault.Memory = Refusal.Memory

-- what a call is refused with after its dials, if anything
abbrev pub refusal_by : {X : Type 0} → Result X DialFault → Option Refusal
refusal_by (Ok x) = None
refusal_by (Err fault) = Some (refusal_of fault)

-- the dial of worker n's hand here
abbrev pub IsDialHere : Place → ℕ → Dial → Type 0
IsDialHere here n dial = dial ≡ dial_of here.target here.stop_file n

-- the dials grew by this one, after which a call is refused so, if at all; where memory was wanted they may have stayed
abbrev pub AddsDialOf : List Dial → Dial → List Dial → Option Refusal → Type 0
AddsDialOf old dial new (Some Refusal.Memory) = (new ≡ old) ⊎ (new ≡ old ++ dial ∷ [])
AddsDialOf old dial new refusal = new ≡ old ++ dial ∷ []
