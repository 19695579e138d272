-- Which hands a call asks its plug for.
use Rattle.std.specs.Prelude.{◌≡◌, ◌⊎◌, ◌≤◌, ℕ, ◌+◌, List, [], ◌∷◌, ◌++◌, Option, Some, Result, Ok, length}
use Rattle.asked_project.specs.Asking.{Variables, options_asked}
use Rattle.asked_target.specs.Targets.{asked_stop_file, asked_target}
use Rattle.compose_cli.specs.Ends.{failed_dial}
use Rattle.compose_cli.specs.declared.reaching.Place.{Place}
use Rattle.compose_words.specs.declared.Options.{Options}
use Rattle.outside_api.specs.Plugs.{dial_of}
use Rattle.outside_api.specs.declared.dial.Dial.{Dial}
use Rattle.refusals.specs.declared.Refusal.{Refusal}

-- the dial of worker n's hand that options, variables and a directory ask for: for their Engine, with their stop file
abbrev pub IsDialFor : Options → Variables → List ℕ → ℕ → Dial → Type 0
IsDialFor options env cwd n dial =
    (asked_target options env cwd ≡ Ok (Some dial.target))
    × (dial.stop_file ≡ asked_stop_file options cwd) × (dial.number ≡ n)

-- the dial of worker n's hand that words and variables ask for
abbrev pub IsDialAsked : List (List ℕ) → Variables → List ℕ → ℕ → Dial → Type 0
IsDialAsked words env cwd n dial =
    (options : Options) × (options_asked words env ≡ Ok options)
    × IsDialFor options env cwd n dial

-- the dial of worker n's hand at a place
abbrev pub IsDialAt : {E : Type 0} → Result Place E → ℕ → Dial → Type 0
IsDialAt place n dial =
    (here : Place) × (place ≡ Ok here) × (dial ≡ dial_of here.target here.stop_file n)

-- these dials are of the workers from this number on, in order, and this holds of each with its worker's number
abbrev pub AreDials : (ℕ → Dial → Type 0) → ℕ → List Dial → Type 0
AreDials Fact from [] = Unit {0}
AreDials Fact from (dial ∷ rest) = Fact from dial × AreDials Fact (from + 1) rest

-- so many dials made so many hands: each made one, but the last, where the plug failed, or memory was wanted
abbrev pub MadeHands : ℕ → ℕ → Option Refusal → Type 0
MadeHands dials hands refusal =
    ((dials ≡ hands) × (refusal ≡ failed_dial → ⊥))
    ⊎ ((dials ≡ hands + 1) × ((refusal ≡ failed_dial) ⊎ (refusal ≡ Some Refusal.Memory)))

-- a plug was asked for the hands of so many workers at most, from 0 on and in order, by dials of which this holds: for each of these
-- hands, and for no other but one that wasn't made, since the plug failed or memory was wanted
abbrev pub Dials :
    (ℕ → Dial → Type 0) → ℕ → List Dial → List Dial → ℕ → Option Refusal → Type 0
Dials Fact workers old new hands refusal =
    (dials : List Dial) × (new ≡ old ++ dials) × AreDials Fact 0 dials
    × (length dials ≤ workers) × MadeHands (length dials) hands refusal
