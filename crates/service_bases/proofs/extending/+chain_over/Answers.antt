use Rattle.std.proofs.Common.{◌-◌, suc, Option, subst, ◌∙◌, sym}
use Rattle.std.proofs.lemmas.Result.{err_from_is_err_and}
use Rattle.loaded_files.specs.Reads.{Gives}
use Rattle.outside_files.specs.Files.{Contents}
use Rattle.service_bases.specs.Extending.{chain_over}
use Rattle.service_bases.proofs.Files.{base_refused, chain_continued, chain_ended, chain_refused, last_file, next_file}
use Rattle.loaded_files.proofs.Went.{unread}
use Rattle.service_bases.proofs.extending.+chain_over.Goals as goal

pub chain_over-returns-in_err-layers-clause-given : goal.chain_over-returns-in_err-layers-clause-given
chain_over-returns-in_err-layers-clause-given g t c =
    let a = c.args in
    let p = err_from_is_err_and c.from_residual.result c.from_residual.ensures.1 in
    rw (p.1, p.2) (chain_refused (g.F.Files.told a.files.now) a.env.now a.further a.source.now a.name.now a.layers a.left c.in_err-layers.field-0.0 c.in_err-layers.ensures.given)

pub goes_on-returns-in_err-source-clause-given : goal.goes_on-returns-in_err-source-clause-given
goes_on-returns-in_err-source-clause-given g t c =
    let a = c.args in
    let p = err_from_is_err_and c.from_residual.result c.from_residual.ensures.1 in
    rw (p.1, p.2) (base_refused (g.F.Files.told a.files.now) a.env.now (chain_over a.further a.env.now) a.layers a.left a.at c.in_err-source.field-0.0 c.in_err-source.ensures.given)

pub chain_over-returns-in-None-clause-given : goal.chain_over-returns-in-None-clause-given
chain_over-returns-in-None-clause-given g t c =
    let a = c.args in
    chain_ended (g.F.Files.told a.files.now) a.env.now a.further a.source.now a.name.now a.layers a.left c.in_ok-layers.field-0 c.in-None.is c.in_ok-layers.ensures.given

pub chain_over-returns-in-Some-clause-given : goal.chain_over-returns-in-Some-clause-given
chain_over-returns-in-Some-clause-given g t c =
    let a = c.args in
    chain_continued (g.F.Files.told a.files.now) a.env.now a.further a.source.now a.name.now a.layers a.left c.in_ok-layers.field-0 c.in-Some.at c.goes_on.result c.in-Some.is c.in_ok-layers.ensures.given
    c.goes_on.ensures.given

pub goes_on-returns-then-further-eq0-clause-given : goal.goes_on-returns-then-further-eq0-clause-given
goes_on-returns-then-further-eq0-clause-given g t c =
    let a = c.args in
    last_file (g.F.Files.told a.files.now) a.env.now a.layers a.left a.at c.in_ok-source.source c.in_ok-source.left c.in_ok-source.ensures.given a.further c.if-further-eq0.true

pub goes_on-returns-clause-given : goal.goes_on-returns-clause-given
goes_on-returns-clause-given g t c =
    let a = c.args in
    let told = g.F.Files.told a.files.now in
    let r = c.chain_over.result in
    let given = subst (λ (t : Option Contents). Gives t r (chain_over (suc (a.further - 1)) a.env.now c.in_ok-source.source a.at.service a.layers c.in_ok-source.left)) c.in_ok-source.ensures.kept c.chain_over.ensures.given in
    next_file told a.env.now a.layers a.left a.at c.in_ok-source.source c.in_ok-source.left c.in_ok-source.ensures.given a.further r c.if-further-eq0.false given

pub chain_over-returns-in_err-layers-clause-reads : goal.chain_over-returns-in_err-layers-clause-reads
chain_over-returns-in_err-layers-clause-reads g t c =
    let p = err_from_is_err_and c.from_residual.result c.from_residual.ensures.1 in
    rw (p.1, p.2) (λ well. well ∙ sym (unread c.in_err-layers.field-0.0 c.in_err-layers.ensures.fault))

pub goes_on-returns-in_err-source-clause-reads : goal.goes_on-returns-in_err-source-clause-reads
goes_on-returns-in_err-source-clause-reads g t c =
    let p = err_from_is_err_and c.from_residual.result c.from_residual.ensures.1 in
    rw (p.1, p.2) c.in_err-source.ensures.reads
