use Rattle.std.proofs.Common.{false, refl, sym, true≢false}
use Rattle.engine_types.specs.declared.WireEnd.{WireEnd}
use Rattle.response_rules.proofs.EarlyEnds.{over}
use Rattle.response_rules.proofs.laws.ended_only_at_the_end.Goals as goal

pub returns : goal.returns
returns c = λ request read breaks. true≢false (sym (over read false WireEnd.Ended breaks refl))
