-- What a run saw, by the entry that its journal begins with.
use Rattle.std.proofs.Common.{◌≡◌, List, ◌∷◌, ◌++◌, Some, refl, ap, ◌∙◌}
use Rattle.std.specs.Prelude.{slice_get}
use Rattle.engine_types.specs.declared.Entry.{Entry}
use Rattle.journal_laws.specs.Courses.{first_seen}
use Rattle.ledger_core.specs.Seeing.{seen_at}
use Rattle.ledger_run.specs.Works.{HasOnlySeen}

-- a journal that goes on from a good observation begins with what was seen
pub begins_seen : (old journal added : List Entry) → HasOnlySeen old → journal ≡ old ++ added → seen_at (slice_get journal 0) ≡ Some (first_seen journal)
begins_seen old journal added only grown =
    let is : journal ≡ Entry.Seen only.observation ∷ added = grown ∙ ap (λ (js : List Entry). js ++ added) only.only in
    rw (is, only.good) refl
