use Rattle.std.proofs.Common.{[], ℕ, List, Option, arith, sym}
use Rattle.std.specs.List.{flat_map}
use Rattle.std.proofs.lemmas.List.{flat_map_more}
use Rattle.container_specs.specs.Process.{setting_of}
use Rattle.container_specs.proofs.Walks.{one_walked}
use Rattle.container_specs.proofs.process.settings_of.Goals as goal

abbrev setting : List ℕ × Option (List ℕ) → List (List ℕ)
setting pair = setting_of pair.0 pair.1

pub loop-at-preserved : goal.loop-at-preserved
loop-at-preserved c =
    one_walked _ setting (flat_map setting) (λ xs x. sym (flat_map_more setting [] xs x)) c.args.pairs.now c.loop-at.at c.pair.result c.loop-at.settings _ (omega arith) c.pair.ensures c.loop-at.invariant c.in_ok-put_setting.ensures
