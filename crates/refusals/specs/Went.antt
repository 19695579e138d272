-- How the reads of a call went, by what it is refused with.
use Rattle.std.specs.Prelude.{◌≡◌, List, Option, Some, None, Result, Ok, Err}
use Rattle.file_digests.specs.Digests as digests
use Rattle.loaded_files.specs.Reads as loads
use Rattle.outside_files.specs.Reads.{Went, Well, went}
use Rattle.outside_files.specs.declared.file_read.FileRead.{FileRead}
use Rattle.refusals.specs.declared.refusal.Refusal.{Refusal}

-- the last read failed where that is what the call is refused with, and else all went well
abbrev pub refused_as : Refusal → Went
refused_as (Refusal.Load refusal) = loads.refused_as refusal
refused_as (Refusal.Digest refusal) = digests.refused_as refusal
refused_as refusal = Well

-- the same of an answer
abbrev pub ends_as : {X : Type 0} → Result X Refusal → Went
ends_as (Ok x) = Well
ends_as (Err refusal) = refused_as refusal

-- where no read had failed before, the reads went as the answer ended
abbrev pub WentAs : {X : Type 0} → List FileRead → List FileRead → Result X Refusal → Type 0
WentAs old new result = went old ≡ Well → went new ≡ ends_as result

-- where no read had failed before, the reads of a call went as it ended; of one that wanted memory nothing is said
abbrev pub ReadsEnd : List FileRead → List FileRead → Option Refusal → Type 0
ReadsEnd old new None = went old ≡ Well → went new ≡ Well
ReadsEnd old new (Some Refusal.Memory) = Unit {0}
ReadsEnd old new (Some refusal) = went old ≡ Well → went new ≡ refused_as refusal
