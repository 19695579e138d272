use Rattle.std.proofs.Common.{◌≡◌, ◌∙◌, ◌+◌, drop, sym, arith}
use Rattle.interpolate.specs.Heads.{own}
use Rattle.interpolate.specs.Lengths.{literal_len}
use Rattle.interpolate.proofs.Inside.{literal_go, literal_stop}
use Rattle.interpolate.proofs.scan.literal_len.Goals as goal

pub returns-then-stops-clause-is : goal.returns-then-stops-clause-is
returns-then-stops-clause-is c =
    let so_far : c.loop-at.at + literal_len (own c.args.inside (drop c.loop-at.at c.args.text.now)) ≡ literal_len (own c.args.inside c.args.text.now) = c.loop-at.invariant in
    omega (arith, literal_stop c.args.inside c.args.text.now c.loop-at.at c.loop-at-test.true (sym c.stops.ensures ∙ c.if-stops.true))

pub loop-at-preserved : goal.loop-at-preserved
loop-at-preserved c =
    let so_far : c.loop-at.at + literal_len (own c.args.inside (drop c.loop-at.at c.args.text.now)) ≡ literal_len (own c.args.inside c.args.text.now) = c.loop-at.invariant in
    omega (arith, literal_go c.args.inside c.args.text.now c.loop-at.at c.loop-at-test.true (sym c.stops.ensures ∙ c.if-stops.false))
