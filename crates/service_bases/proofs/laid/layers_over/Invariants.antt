use Rattle.std.proofs.Common.{◌≡◌, length, reverse}
use Rattle.service_bases.specs.Chains.{layers_over}
use Rattle.service_bases.proofs.laid.layers_over.Given as goal

abbrev pub invariant-loop-layer : goal.invariant-loop-layer
invariant-loop-layer l = layers_over l.all (reverse l.rest) ≡ layers_over l.fn.base (reverse l.fn.layers)

abbrev pub decreases-loop-layer : goal.decreases-loop-layer
decreases-loop-layer l = length l.rest
