use Rattle.std.proofs.Common.{◌∙◌, arith}
use Rattle.std.proofs.lemmas.Result.{err_from_is_err_and}
use Rattle.loaded_files.proofs.Givens.{same_given}
use Rattle.service_bases.proofs.Links.{ended_at, further_at, refused_at}
use Rattle.service_bases.proofs.chain.chain_in.Goals as goal

pub returns-in-Ended-clause-given : goal.returns-in-Ended-clause-given
returns-in-Ended-clause-given c =
    let a = c.args in
    let l = c.loop-steps in
    same_given _ _ _ l.invariant (ended_at a.env.now a.source.now l.next l.above l.steps c.in-Ended.chain (omega arith) (rw c.in-Ended.is at c.in_ok-chain.ensures.given))

pub returns-in_err-chain-clause-given : goal.returns-in_err-chain-clause-given
returns-in_err-chain-clause-given c =
    let a = c.args in
    let l = c.loop-steps in
    let p = err_from_is_err_and c.from_residual-in_err-chain.result c.from_residual-in_err-chain.ensures.1 in
    rw (p.1, p.2) (same_given _ _ _ l.invariant (refused_at a.env.now a.source.now l.next l.above l.steps c.in_err-chain.field-0.0 (omega arith) c.in_err-chain.ensures.given))

pub loop-steps-preserved : goal.loop-steps-preserved
loop-steps-preserved c =
    let a = c.args in
    let l = c.loop-steps in
    further_at a.env.now a.source.now l.next l.above l.steps c.in-Further.base c.in-Further.more (omega arith) (rw c.in-Further.is at c.in_ok-chain.ensures.given) ∙ l.invariant
