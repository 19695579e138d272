use Rattle.std.proofs.Common.{◌≡◌, ◌∙◌, ◌<◌, ◌+◌, Some, ap, arith, length, refl, rules, sym, take}
use Rattle.std.specs.Prelude.{slice_get}
use Rattle.std.proofs.Math.Seq.{take-length}
use Rattle.std.proofs.lemmas.Option.{slice_get_read}
use Rattle.declared_slots.specs.Counts.{ranges_of, scale_of}
use Rattle.declared_slots.proofs.Counting.{as_many, one_more_sum, range_put}
use Rattle.declared_slots.proofs.counts.ranges.Goals as goal

pub loop-service-preserved : goal.loop-service-preserved
loop-service-preserved c =
    let within : c.loop-service.service-index < length c.args.services.now = omega arith in
    let at : slice_get c.args.services.now c.loop-service.service-index ≡ Some c.service-item.result =
    slice_get_read c.args.services.now (length c.args.services.now) c.loop-service.service-index c.service-item.result refl within c.service-item.is in (
      search (rules, range_put c.args.scales.now c.args.services.now c.loop-service.service-index c.service-item.result c.requires at),
      one_more_sum (scale_of c.args.scales.now) c.args.services.now c.loop-service.service-index c.service-item.result c.loop-service.first c.in_ok-count.count c.in_ok-first.first within c.service-item.is c.loop-service.invariant.1 c.in_ok-count.ensures c.in_ok-first.ensures,
    )

pub returns : goal.returns
returns c =
    let all : c.loop-service.service-index ≡ length (ranges_of c.args.scales.now c.args.services.now) = omega (arith, as_many c.args.scales.now 0 c.args.services.now) in
    c.loop-service.invariant.0 ∙ ap (λ n. take n (ranges_of c.args.scales.now c.args.services.now)) all ∙ take-length (ranges_of c.args.scales.now c.args.services.now)
