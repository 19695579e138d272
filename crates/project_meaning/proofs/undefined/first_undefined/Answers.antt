use Rattle.std.proofs.Common.{◌≡◌, ◌∙◌, Some, length, slice_get, refl, sym, arith}
use Rattle.std.proofs.lemmas.Option.{slice_get_read}
use Rattle.project_meaning.specs.Names.{undefined_among}
use Rattle.project_meaning.proofs.Whole.{none_from, passed, stopped}
use Rattle.project_meaning.proofs.undefined.first_undefined.Goals as goal

pub returns-in-Some : goal.returns-in-Some
returns-in-Some c =
    let items = c.args.services.now in
    let i = c.loop-service.service-index in
    let service = c.service-item.result in
    let at : slice_get items i ≡ Some service = slice_get_read items (length items) i service refl (omega arith) c.service-item.is in
    stopped (undefined_among c.args.keys.now) items i service at c.in-Some.refusal (sym c.in_ok-refusal.ensures ∙ c.in-Some.is) ∙ c.loop-service.invariant

pub loop-service-preserved : goal.loop-service-preserved
loop-service-preserved c =
    let items = c.args.services.now in
    let i = c.loop-service.service-index in
    let service = c.service-item.result in
    let at : slice_get items i ≡ Some service = slice_get_read items (length items) i service refl (omega arith) c.service-item.is in
    passed (undefined_among c.args.keys.now) items i service at (sym c.in_ok-refusal.ensures ∙ none_from c.in_ok-refusal.field-0 c.in_default.not-Some) ∙ c.loop-service.invariant
