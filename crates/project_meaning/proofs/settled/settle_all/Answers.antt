use Rattle.std.proofs.Common.{◌≡◌, ◌<◌, ◌∙◌, length, set, ap, sym, arith}
use Rattle.std.proofs.lemmas.List.Edits.{map_over_more}
use Rattle.typed_project.specs.declared.service.Service.{Service}
use Rattle.project_meaning.specs.Completing.{settled}
use Rattle.project_meaning.proofs.settled.settle_all.Goals as goal

pub loop-service-preserved : goal.loop-service-preserved
loop-service-preserved c =
    let xs = c.args.services.now.items in
    let ys = c.loop-service.service-items in
    let i = c.loop-service.service-index in
    let same : length c.deref_mut-service-items.result.now ≡ length xs = ap (length {A = Service}) c.deref_mut-service-items.ensures.value in
    let within : i < length xs = omega (arith, same) in
    ap (λ (s : Service). set ys i s) c.in_ok-settle.ensures
    ∙ ap (λ (s : Service). set ys i (settled c.args.keys.now s)) (sym c.service-item.is)
    ∙ map_over_more (settled c.args.keys.now) xs ys i c.service-item.result within c.loop-service.invariant c.service-item.is
