-- A worker of a run may call, in a journal whose entries are known.
use Rattle.std.proofs.Common.{◌≡◌, ℕ, ◌<◌, true, false, List}
use Rattle.std.specs.Prelude.{is_some}
use Rattle.engine_types.specs.declared.Entry.{Entry}
use Rattle.run_model.specs.Journals.{Setup, Nothing, holding, has_left, seen_in}
use Rattle.run_model.specs.Legal.{IsReady}

pub ready_for : (setup : Setup) (past : List Entry) (w : ℕ) → w < setup.limits.workers → is_some (seen_in past) ≡ true → holding past w ≡ Nothing → has_left past w ≡ false → IsReady setup past w
ready_for setup past w below begun idle here = record { begun = begun; below = below; idle = idle; here = here }

-- the same of worker 0
pub ready : (setup : Setup) (past : List Entry) → 0 < setup.limits.workers → is_some (seen_in past) ≡ true → holding past 0 ≡ Nothing → has_left past 0 ≡ false → IsReady setup past 0
ready setup past below begun idle here = record { begun = begun; below = below; idle = idle; here = here }
