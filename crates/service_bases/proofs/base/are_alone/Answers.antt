use Rattle.std.proofs.Common.{◌≡◌, length, slice_get, Some, refl, sym, subst, arith}
use Rattle.std.proofs.lemmas.Option.{slice_get_read}
use Rattle.std.specs.List.{AllByRecursion}
use Rattle.attribute_paths.proofs.Walks.{drop_next}
use Rattle.service_bases.specs.Bases.{Alone}
use Rattle.service_bases.proofs.Standing.{none_more}
use Rattle.service_bases.proofs.base.are_alone.Goals as goal

pub loop-service-preserved : goal.loop-service-preserved
loop-service-preserved c = λ rest.
    let services = c.args.services.now in
    let l = c.loop-service in
    let service = c.service-item.result in
    let at : slice_get services l.service-index ≡ Some service = slice_get_read services (length services) l.service-index service refl (omega arith) c.service-item.is in
    l.invariant (subst (AllByRecursion Alone) (sym (drop_next services l.service-index service at)) (c.if-not-is_alone.ensures refl, rest))

pub returns : goal.returns
returns c = λ is.
    let l = c.loop-service in
    l.invariant (subst (AllByRecursion Alone) (sym (none_more c.args.services.now l.service-index (omega arith))) tt)
