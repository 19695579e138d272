-- A sort and a removal of repeats keep each number.
use Rattle.std.proofs.lemmas.List.Filters.{dedup_is}
use Rattle.rolling_update.proofs.Joining.{joined_holds, joined_rises}
use Rattle.rolling_update.proofs.adding.joined.Goals as goal

pub returns-clause-rises : goal.returns-clause-rises
returns-clause-rises c = joined_rises _ _ c.sort_unstable.ensures.sorted (dedup_is _ _ _ c.dedup.ensures.filtered)

pub returns-clause-holds : goal.returns-clause-holds
returns-clause-holds c =
    joined_holds c.args.needs.now c.args.added.now _ _ _ c.in_ok-all.ensures c.sort_unstable.ensures.permutation (dedup_is _ _ _ c.dedup.ensures.filtered)
