use Rattle.std.proofs.Common.{◌≡◌, ◌∙◌, Some, length, slice_get, refl, sym, arith, rules}
use Rattle.std.proofs.lemmas.Option.{slice_get_read}
use Rattle.std.proofs.lemmas.Result.{err_from_is_err_and}
use Rattle.merge_tables.specs.Answers.{turned}
use Rattle.merge_tables.proofs.Answering.{same_fails}
use Rattle.merge_rules.specs.UnderExtends.{service_allowed}
use Rattle.merge_rules.proofs.AskedSteps.{entries_passed, entry_passed, entry_refused}
use Rattle.merge_rules.proofs.under_extends.each_allowed.Goals as goal

pub returns-in_err-one_allowed : goal.returns-in_err-one_allowed
returns-in_err-one_allowed c =
    let keys = c.args.keys.now in
    let values = c.args.values.now in
    let l = c.loop-at in
    let key = c.index-keys-at.result in
    let value = c.index-values-at.result in
    let same : length keys ≡ length values = search rules in
    let k : slice_get keys l.at ≡ Some key = slice_get_read keys (length keys) l.at key refl (omega arith) c.index-keys-at.is in
    let v : slice_get values l.at ≡ Some value = slice_get_read values (length values) l.at value refl (omega arith) c.index-values-at.is in
    let p = err_from_is_err_and c.from_residual.result c.from_residual.ensures.1 in
    let e = turned c.in_err-one_allowed.field-0.0 in
    rw (p.1, p.2) (same_fails e _ _ l.invariant (entry_refused service_allowed keys values l.at key value k v e c.in_err-one_allowed.ensures))

pub loop-at-preserved : goal.loop-at-preserved
loop-at-preserved c =
    let keys = c.args.keys.now in
    let values = c.args.values.now in
    let l = c.loop-at in
    let key = c.index-keys-at.result in
    let value = c.index-values-at.result in
    let same : length keys ≡ length values = search rules in
    let k : slice_get keys l.at ≡ Some key = slice_get_read keys (length keys) l.at key refl (omega arith) c.index-keys-at.is in
    let v : slice_get values l.at ≡ Some value = slice_get_read values (length values) l.at value refl (omega arith) c.index-values-at.is in
    entry_passed service_allowed keys values l.at key value k v c.in_ok-one_allowed.ensures ∙ l.invariant

pub returns : goal.returns
returns c =
    let l = c.loop-at in
    sym l.invariant ∙ entries_passed service_allowed c.args.keys.now c.args.values.now l.at (omega arith)
