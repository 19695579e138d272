use Rattle.std.proofs.Common.{◌∙◌, sym}
use Rattle.outside_files.proofs.AfterReads.{read_goes}
use Rattle.file_digests.proofs.reading.digest_of.Goals as goal

pub returns-clause-given : goal.returns-clause-given
returns-clause-given g c = λ n. (c.read-answer.result, c.read-answer.ensures.told, c.digest_read.ensures.given n)

pub returns-clause-fault : goal.returns-clause-fault
returns-clause-fault g c = λ at e. c.read-answer.ensures.failed (c.digest_read.ensures.fault at e)

pub returns-clause-reads : goal.returns-clause-reads
returns-clause-reads g c = λ well. read_goes (g.F.Files.reads c.args.files.now) (g.F.Files.reads c.read-answer.new.self) c.args.item.now.file c.read-answer.result c.read-answer.ensures.reads well ∙ sym c.digest_read.ensures.ends
