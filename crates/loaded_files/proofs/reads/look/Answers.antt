use Rattle.std.proofs.Common.{◌∙◌, ap, refl, sym}
use Rattle.outside_files.proofs.AfterReads.{read_failed, read_well}
use Rattle.outside_files.specs.Reads.{FailedAt}
use Rattle.outside_files.specs.declared.files.FileAnswer.TheVariants.{Bytes, Longer, Memory, Missing}
use Rattle.loaded_files.proofs.reads.look.Goals as goal

pub returns-in-Bytes-clause-reads : goal.returns-in-Bytes-clause-reads
returns-in-Bytes-clause-reads g c = read_well (g.F.Files.reads c.args.files.now) (g.F.Files.reads c.read.new.self) c.args.path.now (Bytes c.in-Bytes.bytes) refl c.in-Bytes.ensures.reads

pub returns-in-Missing-clause-reads : goal.returns-in-Missing-clause-reads
returns-in-Missing-clause-reads g c = read_well (g.F.Files.reads c.args.files.now) (g.F.Files.reads c.read.new.self) c.args.path.now Missing refl c.in-Missing.ensures.reads

pub returns-in-Longer-clause-reads : goal.returns-in-Longer-clause-reads
returns-in-Longer-clause-reads g c = read_well (g.F.Files.reads c.args.files.now) (g.F.Files.reads c.read.new.self) c.args.path.now Longer refl c.in-Longer.ensures.reads

pub returns-in-Failed-clause-reads : goal.returns-in-Failed-clause-reads
returns-in-Failed-clause-reads g c = λ well. read_failed (g.F.Files.reads c.args.files.now) (g.F.Files.reads c.read.new.self) c.args.path.now c.in-Failed.ensures.reads well ∙ ap FailedAt (sym c.in_ok-failing.ensures)

pub returns-in-Memory-clause-reads : goal.returns-in-Memory-clause-reads
returns-in-Memory-clause-reads g c = read_well (g.F.Files.reads c.args.files.now) (g.F.Files.reads c.read.new.self) c.args.path.now Memory refl c.in-Memory.ensures.reads
