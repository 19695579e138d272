use Rattle.std.proofs.Common.{◌∙◌, ◌++◌, ap, rules}
use Rattle.project_print.specs.Written.{content}
use Rattle.project_print.proofs.Strings.{content_done}
use Rattle.project_print.proofs.compact_json.put_content.Goals as goal

pub loop-rest-preserved : goal.loop-rest-preserved
loop-rest-preserved c = record {
  utf8 = c.range_from-rest.utf8;
  same = ap (λ x. c.put_piece.new.out ++ content c.args.dollars x) c.range_from-rest.ensures.value ∙ c.in_ok-len.ensures.put ∙ c.loop-rest.invariant.same;
}

pub returns : goal.returns
returns c = content_done c.args.dollars c.loop-rest.rest.now _ _ (search rules) c.loop-rest.invariant.same
