use Rattle.std.proofs.Common.{◌∙◌, rules}
use Rattle.std.specs.Cmp.Lexicographic.{slice_cmp}
use Rattle.std.specs.Ordering.{nat_cmp}
use Rattle.std.proofs.lemmas.Fn.{always_returns_same}
use Rattle.typed_project.specs.declared.service.Service.{Service}
use Rattle.service_graph.proofs.Searching.{searched}
use Rattle.service_graph.proofs.links.place_of.Goals as goal

pub returns : goal.returns
returns c =
    let facts = c.binary_search_by.ensures in
    let by = facts.position (λ (service : Service). slice_cmp nat_cmp service.key c.args.key.now) (always_returns_same _ _ _ (λ a r f k. (search rules, search rules))) in
    c.ok.ensures.value ∙ searched c.args.services.now c.requires c.args.key.now _ facts.bound by
