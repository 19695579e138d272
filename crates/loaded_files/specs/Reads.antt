-- Loading as a run of reads: which file is read next, and what follows each answer.
use Rattle.std.specs.Prelude.{◌≡◌, ◌⊎◌, ℕ, zero, suc, List, if◌then◌else◌, length, nat_lt, Option, Some, None, IfSome, Result, Ok, Err}
use Rattle.tree_base.specs.Limits.{most_file_bytes}
use Rattle.loaded_files.specs.declared.reads.Seen.{Seen}
use Rattle.loaded_files.specs.declared.reads.Seen.TheVariants.{There, Longer, Missing}
use Rattle.loaded_files.specs.declared.refusal.LoadRefusal.{LoadRefusal}
use Rattle.loaded_files.specs.declared.refusal.LoadRefusal.TheVariants.{NotFound, ReadFault, FileTooLarge, TooManyFiles, Memory}
use Rattle.outside_files.specs.Files.{Contents}
use Rattle.outside_files.specs.Reads.{FailedAt, Went, Well, went}
use Rattle.outside_files.specs.declared.file_read.FileRead.{FileRead}
use Rattle.tree_base.specs.Entries.{value_at}

-- what is given in the end, or a path to read and what follows what is seen there
pub data Load (X : Type 0) : Type 0 where
  done : Result X LoadRefusal → Load X
  reading : List ℕ → (Seen → Load X) → Load X

-- what follows a value
abbrev pub after : {A B : Type 0} → Result A LoadRefusal → (A → Load B) → Load B
after (Ok x) f = f x
after (Err refusal) f = done (Err refusal)

infixl 10 ◌>>=◌
-- one load after another: the first refusal is that of both
abbrev pub ◌>>=◌ : {A B : Type 0} → Load A → (A → Load B) → Load B
(done result) >>= f = after result f
(reading path next) >>= f = reading path (λ seen. next seen >>= f)

-- a value, for which nothing is read
abbrev pub give : {X : Type 0} → X → Load X
give x = done (Ok x)

-- a refusal, for which nothing is read
abbrev pub refuse : {X : Type 0} → LoadRefusal → Load X
refuse refusal = done (Err refusal)

-- what is seen of files that hold these bytes
abbrev pub seen_of : Option (List ℕ) → Seen
seen_of None = Missing
seen_of (Some bytes) = if nat_lt most_file_bytes (length bytes) then Longer else There bytes

-- what is loaded from files that hold these bytes
abbrev pub loaded_from : {X : Type 0} → Contents → Load X → Result X LoadRefusal
loaded_from files (done result) = result
loaded_from files (reading path next) = loaded_from files (next (seen_of (value_at files path)))

-- this may be seen at a path; it is what the files hold where they are told
abbrev pub MayBe : Option Contents → List ℕ → Seen → Type 0
MayBe told path seen = IfSome told (λ files. seen ≡ seen_of (value_at files path))

-- what may be seen at the paths gives this result; a read that fails ends it
abbrev pub Ran : {X : Type 0} → Option Contents → Load X → Result X LoadRefusal → Type 0
Ran told (done given) result = result ≡ given
Ran told (reading path next) result =
    ((seen : Seen) × MayBe told path seen × Ran told (next seen) result) ⊎ (result ≡ Err (ReadFault path))

-- what a call gave is what some answers give, unless memory was wanted
abbrev pub Gives : {X : Type 0} → Option Contents → Result X LoadRefusal → Load X → Type 0
Gives told result load = (result ≡ Err Memory → ⊥) → Ran told load result

-- what a call gave that reads nothing is this, unless memory was wanted
abbrev pub IsGiven : {X : Type 0} → Result X LoadRefusal → Result X LoadRefusal → Type 0
IsGiven result given = (result ≡ Err Memory → ⊥) → result ≡ given

-- how the reads went of a call that is refused so: the last one failed where that is what it is refused with, and else all went well
abbrev pub refused_as : LoadRefusal → Went
refused_as (ReadFault path) = FailedAt path
refused_as refusal = Well

-- the same of what a call gave
abbrev pub ends_as : {X : Type 0} → Result X LoadRefusal → Went
ends_as (Ok x) = Well
ends_as (Err refusal) = refused_as refusal

-- where no read had failed before, the reads of a call went as it ended: so none failed but the last, of which it tells
abbrev pub WentAs : {X : Type 0} → List FileRead → List FileRead → Result X LoadRefusal → Type 0
WentAs old new result = went old ≡ Well → went new ≡ ends_as result

-- a file is looked at
abbrev pub look : List ℕ → Load Seen
look path = reading path give

-- a file that is there counts among those that may still be read
abbrev pub counted : List ℕ → ℕ → Result (List ℕ) LoadRefusal → Load (List ℕ × ℕ)
counted path zero found = refuse (TooManyFiles path)
counted path (suc left) found = after found (λ bytes. give (bytes, left))

-- what was found at a path, where a file has to be there, and how many files may still be read
abbrev pub taken : List ℕ → Seen → ℕ → Load (List ℕ × ℕ)
taken path (There bytes) left = counted path left (Ok bytes)
taken path Longer left = counted path left (Err (FileTooLarge path))
taken path Missing left = refuse (NotFound path)

-- a file that has to be there
abbrev pub file_at : List ℕ → ℕ → Load (List ℕ × ℕ)
file_at path left = look path >>= λ found. taken path found left

-- what was found at a path, where the file may be missing
abbrev pub taken_if : List ℕ → Seen → ℕ → Load (Option (List ℕ) × ℕ)
taken_if path Missing left = give (None, left)
taken_if path (There bytes) left = taken path (There bytes) left >>= λ got. give (Some got.0, got.1)
taken_if path Longer left = taken path Longer left >>= λ got. give (Some got.0, got.1)

-- a file that may be missing
abbrev pub file_if_there : List ℕ → ℕ → Load (Option (List ℕ) × ℕ)
file_if_there path left = look path >>= λ found. taken_if path found left
