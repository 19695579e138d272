-- What files in memory show, and which of their reads fail.
use Rattle.std.specs.Prelude.{ℕ, Bool, List}
use Rattle.outside_files.specs.Failures.{next_fails}
use Rattle.outside_files.specs.Files.{Contents}
use Rattle.outside_files.specs.declared.file_read.FileRead.{FileRead}
use Rattle.outside_files.specs.declared.memory_files.MemoryFiles.{MemoryFiles}

-- the bytes of the files under their paths
abbrev pub contents : MemoryFiles → Contents
contents memory = memory.files

-- the numbers of the reads that are to fail, from 1
abbrev pub failing_reads : MemoryFiles → List ℕ
failing_reads memory = memory.failing.fails

-- the reads that were asked for, in order
abbrev pub reads_of : MemoryFiles → List FileRead
reads_of memory = memory.reads.items

-- how many reads were made
abbrev pub read_count : MemoryFiles → ℕ
read_count memory = memory.failing.calls

-- how many reads failed
abbrev pub failed_reads : MemoryFiles → ℕ
failed_reads memory = memory.failing.failed

-- whether the next read is to fail
abbrev pub next_read_fails : MemoryFiles → Bool
next_read_fails memory = next_fails (failing_reads memory) (read_count memory)
