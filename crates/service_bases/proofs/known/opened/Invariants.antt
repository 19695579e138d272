use Rattle.std.proofs.Common.{◌≤◌, length, reverse}
use Rattle.service_bases.specs.Known.{AreWhole, Leads}
use Rattle.service_bases.proofs.known.opened.Given as goal

abbrev pub invariant-loop-steps : goal.invariant-loop-steps
invariant-loop-steps l = record {
  whole : AreWhole l.env l.source l.known;
  leads : Leads l.env l.source l.name (reverse l.above) l.next;
  within : l.steps ≤ length l.source.services;
}

abbrev pub decreases-loop-steps : goal.decreases-loop-steps
decreases-loop-steps l = l.steps
