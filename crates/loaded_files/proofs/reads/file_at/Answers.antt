use Rattle.loaded_files.specs.Reads.{look, taken}
use Rattle.loaded_files.proofs.Runs.{gives_on}
use Rattle.std.proofs.Common.{◌∙◌, sym}
use Rattle.std.proofs.lemmas.Result.{err_from_is_err_and}
use Rattle.loaded_files.proofs.Went.{unread_result}
use Rattle.loaded_files.proofs.reads.file_at.Goals as goal

pub returns-clause-given : goal.returns-clause-given
returns-clause-given g c =
    let told = g.F.Files.told c.args.files.now in
    gives_on told (look c.args.path.now) (λ found. taken c.args.path.now found c.args.left) c.in_ok-seen.seen c.taken.result c.in_ok-seen.ensures.given (c.taken.ensures.given told)

pub returns-in_err-seen-clause-reads : goal.returns-in_err-seen-clause-reads
returns-in_err-seen-clause-reads g c =
    let p = err_from_is_err_and c.from_residual.result c.from_residual.ensures.1 in
    rw (p.1, p.2) c.in_err-seen.ensures.reads

pub returns-clause-reads : goal.returns-clause-reads
returns-clause-reads g c = λ well. c.in_ok-seen.ensures.reads well ∙ sym (unread_result c.taken.result c.taken.ensures.fault)
