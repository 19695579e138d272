use Rattle.std.proofs.Common.{◌≡◌, ◌∙◌, Some, ap, arith, length, refl, sym, take}
use Rattle.std.specs.Prelude.{slice_get}
use Rattle.std.proofs.lemmas.Option.{slice_get_read}
use Rattle.container_specs.proofs.Once.{firsts, one_known}
use Rattle.container_specs.proofs.Walks.{one_taken}
use Rattle.container_specs.proofs.lists.distinct.Goals as goal

pub loop-text-preserved : goal.loop-text-preserved
loop-text-preserved c =
    let texts = c.args.texts.now in
    let i = c.loop-text.text-index in
    let text = c.text-item.result in
    let at : slice_get texts i ≡ Some text = slice_get_read texts (length texts) i text refl (omega arith) c.text-item.is in
    one_known c.loop-text.known c.put_key.new.known (take i texts) text tt c.loop-text.invariant c.in_ok-put_key.ensures ∙ ap firsts (sym (one_taken texts i text at))
