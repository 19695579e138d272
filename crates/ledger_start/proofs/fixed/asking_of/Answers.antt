use Rattle.start_rows.proofs.Askers.{asking, preferring, requiring}
use Rattle.ledger_start.specs.Outsets.{start_setup}
use Rattle.ledger_start.proofs.fixed.asking_of.Goals as goal

pub returns : goal.returns
returns c = record {
  asking_size = c.in_ok-asking.ensures.size;
  required_size = c.in_ok-required.ensures.size;
  optional_size = c.in_ok-optional.ensures.size;
  asking = λ s. asking (start_setup c.args.outset.now) c.args.condition c.in_ok-asking.asking s c.requires.whole c.in_ok-asking.ensures.size c.in_ok-asking.ensures.each;
  required = λ s. requiring (start_setup c.args.outset.now) c.args.condition c.in_ok-required.required s c.requires.whole c.in_ok-required.ensures.size c.in_ok-required.ensures.each;
  optional = λ s. preferring (start_setup c.args.outset.now) c.args.condition c.in_ok-optional.optional s c.requires.whole c.in_ok-optional.ensures.size c.in_ok-optional.ensures.each;
}
