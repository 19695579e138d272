use Rattle.std.proofs.Common.{◌∷◌, [], arith, map}
use Rattle.std.proofs.lemmas.List.{map_push}
use Rattle.container_specs.specs.Host.{host_of}
use Rattle.container_specs.proofs.Walks.{one_walked}
use Rattle.container_specs.proofs.host.hosts_of.Goals as goal

pub loop-at-preserved : goal.loop-at-preserved
loop-at-preserved c =
    one_walked _ (λ pair. host_of pair ∷ []) (map host_of) (map_push host_of) c.args.pairs.now c.loop-at.at c.pair.result c.loop-at.hosts _ (omega arith) c.pair.ensures c.loop-at.invariant c.in_ok-put_host.ensures
