use Rattle.loaded_files.proofs.Files.{over_read, over_unread}
use Rattle.std.proofs.Common.{◌∙◌, sym}
use Rattle.loaded_files.proofs.Went.{unread_result}
use Rattle.loaded_files.proofs.laying.file_laid.Goals as goal

pub returns-in-Ok-clause-given : goal.returns-in-Ok-clause-given
returns-in-Ok-clause-given g c =
    let a = c.args in
    let told = g.F.Files.told a.files.now in
    over_read told a.env.now a.path.now a.found a.base a.left c.in-Ok.over c.in-Ok.left c.over_laid.result c.in-Ok.ensures.given (c.over_laid.ensures.given told)

pub returns-in-Err-clause-given : goal.returns-in-Err-clause-given
returns-in-Err-clause-given g c =
    let a = c.args in
    over_unread (g.F.Files.told a.files.now) a.env.now a.path.now a.found a.base a.left c.in-Err.refusal c.in-Err.ensures.given

pub returns-in-Ok-clause-reads : goal.returns-in-Ok-clause-reads
returns-in-Ok-clause-reads g c = λ well. c.in-Ok.ensures.reads well ∙ sym (unread_result c.over_laid.result c.over_laid.ensures.fault)
