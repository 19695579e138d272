-- How the program ends: its exit status, and the line that it writes.
use Rattle.std.specs.Prelude.{◌≡◌, ℕ, List, ◌++◌, Option, codes}
use Rattle.compose_words.specs.Printed.{version}
use Rattle.compose_words.specs.Usage.{usage}
use Rattle.compose_words.specs.declared.notice.Notice.{Notice}
use Rattle.refusals.specs.Saying.{IsSaid, IsSaidIfAny, SaysRefusal}
use Rattle.refusals.specs.Statuses.{status_of}
use Rattle.refusals.specs.declared.Refusal.{Refusal}
use Rattle.run_model.specs.Lines.{line}
use Rattle.compose.specs.declared.directory.DirectoryRefusal.{DirectoryRefusal}

-- it ended with the status of the refusal, if any, and wrote its line; a want of memory may stand in its place
abbrev pub EndsWith : Option Refusal → ℕ → Option (List ℕ) → Option (List ℕ) → ℕ → ℕ → Type 0
EndsWith refusal status old new faults_old faults_new =
    (said : Option Refusal) × IsSaidIfAny refusal said × (status ≡ status_of said)
    × SaysRefusal said old new faults_old faults_new

-- a status is that of the refusal, or of a want of memory
abbrev pub IsStatusOf : Refusal → ℕ → Type 0
IsStatusOf refusal status = (said : Option Refusal) × IsSaid refusal said × (status ≡ status_of said)

-- what is written about the program
abbrev pub notice_text : Notice → List ℕ
notice_text Notice.Help = usage
notice_text Notice.Version = version

-- a working directory whose path isn't UTF-8 has status 2, one that can't be read 7, and a want of memory 9
abbrev pub directory_status : DirectoryRefusal → ℕ
directory_status DirectoryRefusal.BadUtf8 = 2
directory_status DirectoryRefusal.ReadFault = 7
directory_status DirectoryRefusal.Memory = 9

-- it is named by its variable
abbrev pub directory_words : DirectoryRefusal → List ℕ
directory_words DirectoryRefusal.BadUtf8 = codes "PWD: BadUtf8"
directory_words DirectoryRefusal.ReadFault = codes "PWD: ReadFault"
directory_words DirectoryRefusal.Memory = codes "memory"

-- the line of such a refusal, with its line feed
abbrev pub directory_line : DirectoryRefusal → List ℕ
directory_line refusal = line (codes "compose: " ++ directory_words refusal)
