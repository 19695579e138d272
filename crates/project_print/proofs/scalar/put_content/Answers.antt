use Rattle.std.proofs.Common.{◌∙◌, ◌++◌, sym, ap}
use Rattle.std.proofs.lemmas.Result.{on_ok_weaker}
use Rattle.std.specs.Str.Iter.{chars_rest}
use Rattle.project_print.specs.Scalars.{escaped}
use Rattle.project_print.proofs.Letters.{all_stand, mapped_step}
use Rattle.project_print.proofs.scalar.put_content.Goals as goal

pub returns-then-stand_in_quotes : goal.returns-then-stand_in_quotes
returns-then-stand_in_quotes c =
    on_ok_weaker c.push_str.result (λ e. e ∙ ap (λ x. c.args.out.now ++ x) (sym (all_stand c.args.text.now (rw c.as_bytes.ensures.value at (sym c.stand_in_quotes.ensures ∙ c.if-stand_in_quotes.true))))) c.push_str.ensures.ok

pub loop-c-preserved : goal.loop-c-preserved
loop-c-preserved c =
    let read = rw c.in-Some.is at c.next.ensures.steps in
    mapped_step escaped c.in-Some.c c.loop-c.out _ (chars_rest c.next.new.self) _ read.0 c.in_ok-put_escaped.ensures ∙ c.loop-c.invariant
