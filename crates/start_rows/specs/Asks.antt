-- Which needs ask for a condition of a slot.
use Rattle.std.specs.Prelude.{◌≡◌, ℕ, ◌<◌, Bool, not, if◌then◌else◌, ◌&&◌, ◌==◌, List, [], ◌∷◌, ◌++◌, get_or, length, set}
use Rattle.engine_types.specs.declared.Condition.{Condition}
use Rattle.engine_types.specs.declared.Need.{Need}
use Rattle.run_model.specs.Journals.{Setup}
use Rattle.run_model.specs.Plans.{kind_of, slot_needs}
use Rattle.ledger_rows.specs.Counts.{counted}
use Rattle.ledger_rows.specs.Facts.{asks_of, prefers_of, requires_of, same_condition}
use Rattle.start_rows.specs.declared.ask.Ask.{Ask}

-- whether a need asks so for this condition, of whatever slot
abbrev pub asks : Ask → Condition → Need → Bool
asks Ask.Any c need = same_condition need.condition c
asks Ask.Required c need = need.required && same_condition need.condition c
asks Ask.Optional c need = not need.required && same_condition need.condition c

-- whether a need asks so for this condition of this slot
abbrev pub asked_by : Ask → ℕ → Condition → Need → Bool
asked_by Ask.Any s c need = asks_of s c need
asked_by Ask.Required s c need = requires_of s c need
asked_by Ask.Optional s c need = prefers_of s c need

-- rows of slots with an action put last into that of the slot that a need names, where it asks so
abbrev pub with_ask : Ask → Condition → Need → ℕ → List (List ℕ) → List (List ℕ)
with_ask ask c need action rows =
    if asks ask c need then set rows need.slot (get_or rows need.slot [] ++ action ∷ []) else rows

-- rows of slots in which each action stands as often as it asks so for the condition of the slot
abbrev pub AreAskingRows : Ask → Condition → Setup → List (List ℕ) → Type 0
AreAskingRows ask c setup rows = (s a : ℕ) → s < length setup.declared.slots
    → counted (λ b. b == a) (get_or rows s [])
    ≡ counted (asked_by ask s c) (slot_needs setup.declared (kind_of setup.actions a))
