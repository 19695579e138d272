use Rattle.std.proofs.Common.{◌∙◌, sym, true≢false}
use Rattle.serde_json.specs.View.{view}
use Rattle.engine_bodies.proofs.Tables.{some_member}
use Rattle.engine_bodies.proofs.objects.Object.end_if_any.Goals as goal

pub returns : goal.returns
returns c = (
  c.in_ok-value.ensures.0,
  some_member c.args.self.members.entries (view c.in_ok-value.value) (λ none. true≢false (sym (c.is_empty-is_empty.ensures.1 none) ∙ c.if-is_empty.false)) c.in_ok-value.ensures.1,
)
