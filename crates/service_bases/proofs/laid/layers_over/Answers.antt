use Rattle.std.proofs.Common.{◌∙◌, sym}
use Rattle.std.proofs.lemmas.Result.{err_from_is_err_and}
use Rattle.loaded_files.proofs.Givens.{same_given}
use Rattle.service_bases.proofs.Layers.{all_up, one_out, one_up}
use Rattle.service_bases.proofs.laid.layers_over.Goals as goal

pub returns-in_err-all-clause-given : goal.returns-in_err-all-clause-given
returns-in_err-all-clause-given c =
    let l = c.loop-layer in
    let p = err_from_is_err_and c.from_residual.result c.from_residual.ensures.1 in
    rw (p.1, p.2) (same_given _ _ _ l.invariant (one_out l.all l.rest c.pop.new.self c.in-Some.layer c.in-Some.ensures c.in_err-all.field-0.0 c.in_err-all.ensures.given))

pub loop-layer-preserved : goal.loop-layer-preserved
loop-layer-preserved c =
    let l = c.loop-layer in
    one_up l.all l.rest c.pop.new.self c.in-Some.layer c.in-Some.ensures c.in_ok-all.all c.in_ok-all.ensures.given ∙ l.invariant

pub returns-clause-given : goal.returns-clause-given
returns-clause-given c =
    let l = c.loop-layer in
    λ n. sym (sym l.invariant ∙ all_up l.all l.rest c.in_default.ensures.0)
