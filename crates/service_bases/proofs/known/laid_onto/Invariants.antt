use Rattle.std.proofs.Common.{List, ℕ, length, reverse}
use Rattle.service_bases.specs.Known.{AreWhole, IsWhole, Leads}
use Rattle.service_bases.proofs.known.laid_onto.Given as goal

-- what was laid is that of a service to which the layers that are left lead
abbrev pub invariant-loop-layer : goal.invariant-loop-layer
invariant-loop-layer l =
    AreWhole l.env l.source l.known
    × ((own : List ℕ) × Leads l.env l.source l.name (reverse l.rest) own × IsWhole l.env l.source own l.below)

abbrev pub decreases-loop-layer : goal.decreases-loop-layer
decreases-loop-layer l = length l.rest
