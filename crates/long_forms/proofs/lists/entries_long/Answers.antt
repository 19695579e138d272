use Rattle.std.proofs.Common.{◌≡◌, ◌∙◌, ◌+◌, ap, sym, Ok, List, [], length, drop, slice_get, Some, refl, arith}
use Rattle.std.proofs.lemmas.Result.{err_from_is_err_and}
use Rattle.std.proofs.lemmas.Option.{slice_get_read}
use Rattle.tree_base.specs.declared.Tree.{Tree, Seq}
use Rattle.merge_tables.specs.Answers.{turned}
use Rattle.long_forms.specs.LongForms.{entries_from, entries_with, made_by}
use Rattle.merge_tables.proofs.Answering.{fails_on, goes_on, same_fails}
use Rattle.attribute_paths.proofs.Walks.{drop_next}
use Rattle.long_forms.proofs.lists.entries_long.Goals as goal

pub returns-in_err-done : goal.returns-in_err-done
returns-in_err-done c =
    let items = c.args.items.now in
    let form = made_by c.args.form in
    let l = c.loop-at in
    let item = c.index-items-at.result in
    let at : slice_get items l.at ≡ Some item = slice_get_read items (length items) l.at item refl (omega arith) c.index-items-at.is in
    let next = drop_next items l.at item at in
    let p = err_from_is_err_and c.from_residual.result c.from_residual.ensures.1 in
    let e = turned c.in_err-done.field-0.0 in
    let one = entries_with form l.at l.done item in
    let rest = λ (all : List Tree). entries_from form (l.at + 1) all (drop (l.at + 1) items) in
    rw (p.1, p.2) (fails_on e (entries_from form 0 [] items) (λ (all : List Tree). Ok (Seq all))
    (same_fails e _ _ (sym (ap (entries_from form l.at l.done) next) ∙ l.invariant) (fails_on e one rest c.in_err-done.ensures)))

pub loop-at-preserved : goal.loop-at-preserved
loop-at-preserved c =
    let items = c.args.items.now in
    let form = made_by c.args.form in
    let l = c.loop-at in
    let item = c.index-items-at.result in
    let at : slice_get items l.at ≡ Some item = slice_get_read items (length items) l.at item refl (omega arith) c.index-items-at.is in
    let next = drop_next items l.at item at in
    let rest = λ (all : List Tree). entries_from form (l.at + 1) all (drop (l.at + 1) items) in
    sym (goes_on (entries_with form l.at l.done item) rest c.in_ok-done.done c.in_ok-done.ensures)
    ∙ sym (ap (entries_from form l.at l.done) next) ∙ l.invariant
