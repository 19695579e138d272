-- What a worker begins with, and what it leaves.
use Rattle.std.specs.Prelude.{◌≡◌, true, false, List, [], ◌∷◌, ◌++◌, reverse}
use Rattle.engine_types.specs.declared.Entry.{Entry}
use Rattle.engine_types.specs.declared.Observed.{Observed}
use Rattle.engine_types.specs.declared.Seen.{Seen}
use Rattle.engine_types.specs.declared.SeenEnd.{SeenEnd}
use Rattle.run_model.specs.Journals.{has_left}

-- the journal has only its observation, which ended well
pub record HasOnlySeen (journal : List Entry) : Type 0 where
  pub observation : Observed
  pub seen : Seen
  pub only : journal ≡ Entry.Seen observation ∷ []
  pub good : observation.end ≡ SeenEnd.Good seen

-- the second journal goes on from the first
abbrev pub GoesOn : List Entry → List Entry → Type 0
GoesOn old new = (added : List Entry) × (new ≡ old ++ added)

-- worker 0 left by the last entry of the journal, and not before
pub record EndsByLeaving (journal : List Entry) : Type 0 where
  pub before : List Entry
  pub last : Entry
  pub are : journal ≡ before ++ last ∷ []
  pub leaves : has_left (last ∷ []) 0 ≡ true
  pub here : has_left (reverse before) 0 ≡ false
