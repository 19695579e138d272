use Rattle.std.proofs.Common.{◌∙◌, List, ap, map, subst, sym}
use Rattle.std.specs.List.{IsDistinct}
use Rattle.std.specs.Map.{keys_of}
use Rattle.std.specs.Str.{bytes_eq}
use Rattle.project_pages.proofs.Keys.{ascending_differ}
use Rattle.typed_project.specs.declared.service.Service.{Service}
use Rattle.declared_set.proofs.Numbering.{keys_from}
use Rattle.declared_set.proofs.declaring.declare.Goals as goal

pub ranges-requires : goal.ranges-requires
ranges-requires c =
    subst (λ (services : List Service). IsDistinct bytes_eq (map (λ (service : Service). service.key) services)) (sym c.as_slice.ensures)
    (ascending_differ (λ (service : Service). service.key) c.args.loaded.now.project.services c.requires.order.services)

pub refusal_of-requires-clause-keys : goal.refusal_of-requires-clause-keys
refusal_of-requires-clause-keys c =
    ap keys_of c.in_ok-ranges.ensures ∙ keys_from c.args.scales.now 0 c.as_slice.result.now ∙ ap (map (λ (service : Service). service.key)) c.as_slice.ensures
