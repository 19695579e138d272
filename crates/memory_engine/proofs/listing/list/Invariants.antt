use Rattle.std.proofs.Common.{◌≡◌, take, map, filter}
use Rattle.run_model.specs.EngineRules.{is_of_project}
use Rattle.memory_engine.specs.Listing.{listed_row}
use Rattle.memory_engine.proofs.listing.list.Given as goal

abbrev pub invariant-loop-row : goal.invariant-loop-row
invariant-loop-row l =
    l.rows ≡ map (listed_row l.engine) (filter (λ row. is_of_project l.project row.labels) (take l.row-index l.row-items))
