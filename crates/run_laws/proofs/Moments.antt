-- The laws on runs that were cut off, applied to the run whose create is lost and the next one.
use Rattle.std.proofs.Common.{[], ◌∷◌, refl}
use Rattle.std.specs.Fmt.{digits}
use Rattle.std.specs.Prelude.{codes}
use Rattle.engine_types.specs.declared.ActionKind.TheVariants.{CreateSlot}
use Rattle.run_model.specs.Cuts.{IsRan}
use Rattle.cut_laws.specs.Once.{IsOnce, IsPending}
use Rattle.cut_laws.proofs.AcrossRuns.{once_across_runs}
use Rattle.run_laws.specs.OneService.{to_up}
use Rattle.run_laws.specs.TwoNetworks.{shop, web}
use Rattle.run_laws.specs.TwoWorlds.{after, bare, first_moves, second_moves, waiting, waiting_moves}
use Rattle.run_laws.proofs.LostCreate.{first, first_legal, second}
use Rattle.run_laws.proofs.TwoNetworks.{own, whole}
use Rattle.run_laws.proofs.TwoWorlds.{first_13, runs, tells_sha}

pub pending : IsPending first waiting_moves 2 (CreateSlot 0)
pending = record { begun = refl; has = refl; no_effect = refl; unsure = refl }

-- the first run, cut off before its create takes effect
cut : IsRan shop (λ image. codes "sha") bare (record { aim = to_up; setup = first; moves = waiting_moves }) waiting
cut = record { declares = refl; up = refl; plan = refl; journal = first_legal; told = tells_sha [] []; world = first_13 }

pub waits : IsOnce shop 0 web (codes "sha") 0 first waiting_moves waiting
waits = once_across_runs shop (λ image. codes "sha") bare (record { aim = to_up; setup = first; moves = waiting_moves }) [] waiting whole own (bare, refl, cut) 0 web refl

pub stands : IsOnce shop 0 web (codes "sha") 1 second second_moves after
unfolding digits
stands = once_across_runs shop (λ image. codes "sha") bare (record { aim = to_up; setup = second; moves = second_moves })
    (record { aim = to_up; setup = first; moves = first_moves } ∷ []) after whole own runs 0 web refl
