use Rattle.std.proofs.Common.{ℕ, List, slice_get, sym, ap, ◌∙◌}
use Rattle.engine_types.specs.declared.Listed.{Listed}
use Rattle.ledger_start.specs.Seconds.{seconds_for}
use Rattle.ledger_start.proofs.Starts.{map_at, seen_containers}
use Rattle.ledger_start.proofs.places.places_of.Goals as goal

pub returns : goal.returns
returns c = record {
  creates = c.in_ok-creates.ensures.each;
  makes = c.in_ok-makes.ensures.each;
  seconds = λ i row e. ap (λ (ns : List ℕ). slice_get ns i) c.in_ok-seconds.ensures
      ∙ map_at (seconds_for c.args.outset.now.declared.now c.args.outset.now.limits) c.containers-rows.result.now i row
      (ap (λ (rows : List Listed). slice_get rows i) (c.containers-rows.ensures ∙ sym (seen_containers c.args.outset.now.observed.now.exchanges c.args.outset.now.observed.now.end)) ∙ e);
}
