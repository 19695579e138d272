use Rattle.std.proofs.Common.{◌∙◌, ◌/◌}
use Rattle.std.specs.Prelude.{codes}
use Rattle.load_maker.specs.Texts.{need_line, three_digits}
use Rattle.load_maker.proofs.Rows.{three_put}
use Rattle.load_maker.proofs.service.push_need_line.Goals as goal

pub returns : goal.returns
unfolding need_line
returns c =
    three_put c.args.text.now (codes "    depends_on: [s") c.as_str.result.now (codes "]\n") (three_digits (c.args.service / 2)) _ _ _
    c.in_ok-push_str.ensures.ok c.in_ok-push_str-2.ensures.ok (c.as_str.ensures.value ∙ c.in_ok-digits.ensures) c.in_ok-push_str-3.ensures.ok
