use Rattle.std.proofs.Common.{◌≡◌, length}
use Rattle.service_bases.specs.Chains.{chain_in}
use Rattle.service_bases.proofs.chain.chain_in.Given as goal

abbrev pub invariant-loop-steps : goal.invariant-loop-steps
invariant-loop-steps l = chain_in l.steps l.env l.source l.next l.above ≡ chain_in (length l.source.services) l.env l.source l.name l.fn.layers

abbrev pub decreases-loop-steps : goal.decreases-loop-steps
decreases-loop-steps l = l.steps
