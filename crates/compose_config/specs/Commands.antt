-- What the command `config` leaves.
use Rattle.std.specs.Prelude.{◌≡◌, ◌≤◌, ℕ, Bool, false, if◌then◌else◌, List, [], Option, Some, None, IfSome, Ok, Err, Result, IfOk, length, take}
use Rattle.asked_project.specs.Asking.{Variables}
use Rattle.asked_project.specs.Meaning.{IsFailedRead, IsSpelled, meaning}
use Rattle.compose_words.specs.declared.Command.{Command}
use Rattle.compose_words.specs.declared.Options.{Options}
use Rattle.compose_words.specs.declared.WordsRefusal.{WordsRefusal}
use Rattle.declared_set.specs.declared.LoadedProject.{LoadedProject}
use Rattle.loaded_files.specs.declared.LoadRefusal.{LoadRefusal}
use Rattle.project_pages.specs.AttributePages.{page, page_json}
use Rattle.outside_files.specs.Counts.{Rose}
use Rattle.outside_files.specs.Files.{Contents}
use Rattle.outside_files.specs.Sinks.{GrewBy}
use Rattle.typed_project.specs.declared.project.Project.{Project}
use Rattle.refusals.specs.Origins.{IsOfAsking}
use Rattle.refusals.specs.declared.Part.{Part}
use Rattle.refusals.specs.declared.Refusal.{Refusal}

-- the command is `config`
abbrev pub IsConfig : Option Command → Type 0
IsConfig (Some (Command.Config json quiet)) = Unit {0}
IsConfig _ = ⊥

-- words that read as `config`, or are refused
abbrev pub IsConfigOrRefused : Result Options WordsRefusal → Type 0
IsConfigOrRefused (Ok options) = IsConfig (Some options.command)
IsConfigOrRefused (Err refusal) = Unit {0}

-- the command prints nothing
abbrev pub is_quiet : Command → Bool
is_quiet (Command.Config json quiet) = quiet
is_quiet _ = false

-- the command prints JSON
abbrev pub is_json : Command → Bool
is_json (Command.Config json quiet) = json
is_json _ = false

-- the page of a project as a command prints it: as JSON, where this was asked for
abbrev pub page_as : Command → Project → List ℕ
page_as command project = if is_json command then page_json project else page project

-- what a command prints of a project: its page, and nothing where `--quiet` was given
abbrev pub page_for : Command → Project → List ℕ
page_for command project = if is_quiet command then [] else page_as command project

-- what `config` prints of a project, where the words are built
abbrev pub page_asked : Option Command → Project → List ℕ
page_asked None project = []
page_asked (Some command) project = page_for command project

-- a fact on the project that a call loads, with what it is loaded from: the one that its words, variables and files mean
-- where the files are told, else one that some answers of reads give
abbrev pub ForProject :
    List (List ℕ) → Variables → List ℕ → Option Contents → (LoadedProject → Type 0) → Type 0
ForProject words env cwd None Fact =
    (loaded : LoadedProject) × IsSpelled words env cwd None loaded × Fact loaded
ForProject words env cwd (Some contents) Fact =
    (loaded : LoadedProject) × (meaning words env cwd contents ≡ Ok loaded) × Fact loaded

-- a fact that holds where the files are told and a project is meant
abbrev pub IfLoads : List (List ℕ) → Variables → List ℕ → Option Contents → Type 0 → Type 0
IfLoads words env cwd told Fact =
    IfSome told (λ contents. IfOk (meaning words env cwd contents) (λ _. Fact))

-- what `config` may be refused with: a refusal of what is asked for, a fault of the output, or a want of memory
abbrev pub IsOfConfig : Option Refusal → Type 0
IsOfConfig None = Unit {0}
IsOfConfig (Some (Refusal.Outside Part.Out)) = Unit {0}
IsOfConfig (Some refusal) = IsOfAsking refusal

-- the output grew by a prefix of a page
abbrev pub GrewByPrefix : Option (List ℕ) → Option (List ℕ) → List ℕ → Type 0
GrewByPrefix old new page = (n : ℕ) × (n ≤ length page) × GrewBy old (take n page) new

-- what became of a page: it was written whole; or the output failed, or memory was wanted, after a prefix of it
abbrev pub PrintsPage : List ℕ → Option Refusal → Option (List ℕ) → Option (List ℕ) → ℕ → ℕ → Type 0
PrintsPage page None old new faults_old faults_new = GrewBy old page new
PrintsPage page (Some (Refusal.Outside Part.Out)) old new faults_old faults_new =
    Rose faults_old faults_new × GrewByPrefix old new page
PrintsPage page (Some Refusal.Memory) old new faults_old faults_new = GrewByPrefix old new page
PrintsPage page _ old new faults_old faults_new = ⊥

-- a call is refused since a read failed, which its load comes to and the files counted
abbrev pub IsReadFault :
    List (List ℕ) → Variables → List ℕ → Option Contents → ℕ → ℕ → Option Refusal → Type 0
IsReadFault words env cwd told old new (Some (Refusal.Load (LoadRefusal.ReadFault path))) =
    IsFailedRead words env cwd told old new path
IsReadFault words env cwd told old new _ = ⊥

-- nothing but what is outside hinders a call: it ends well, or memory is wanted, or a read failed so, or the output
-- did, which was counted
abbrev pub OnlyOutsideFails : (Option Refusal → Type 0) → ℕ → ℕ → Option Refusal → Type 0
OnlyOutsideFails ReadFailed out_old out_new None = Unit {0}
OnlyOutsideFails ReadFailed out_old out_new (Some Refusal.Memory) = Unit {0}
OnlyOutsideFails ReadFailed out_old out_new (Some (Refusal.Outside Part.Out)) = Rose out_old out_new
OnlyOutsideFails ReadFailed out_old out_new refusal = ReadFailed refusal
