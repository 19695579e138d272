-- What a plug tells of the dials, streams and doors that it is asked for, and how it counts the hands that it made.
use Rattle.std.specs.Prelude.{◌≡◌, ◌⊎◌, ℕ, ◌+◌, List, [], ◌∷◌, ◌++◌, Option, Some, None}
use Rattle.outside_api.specs.declared.dial.Dial.{Dial}
use Rattle.outside_api.specs.declared.plug.Target.{Target}
use Rattle.outside_api.specs.declared.wire.DialAnswer.{DialAnswer}

-- the dial of a worker's hand, by its number, for an Engine and with a stop file
abbrev pub dial_of : Target → Option (List ℕ) → ℕ → Dial
dial_of target stop_file number =
    record { target = target; stop_file = stop_file; number = number }

-- what was asked for grew by exactly this, whatever came of it; where memory was wanted it may have stayed
abbrev pub Adds : {A T : Type 0} → List A → A → List A → DialAnswer T → Type 0
Adds old asked new DialAnswer.Memory = (new ≡ old) ⊎ (new ≡ old ++ asked ∷ [])
Adds old asked new answer = new ≡ old ++ asked ∷ []

-- the dials that were asked for grew so
abbrev pub AddsDial : {T : Type 0} → List Dial → Dial → List Dial → DialAnswer T → Type 0
AddsDial old dial new answer = Adds old dial new answer

-- the count rises by one exactly where a hand was made
abbrev pub CountsDial : {T : Type 0} → Option ℕ → Option ℕ → DialAnswer T → Type 0
CountsDial None new answer = new ≡ None
CountsDial (Some old) new (DialAnswer.Dialled hand) = new ≡ Some (old + 1)
CountsDial (Some old) new answer = new ≡ Some old
