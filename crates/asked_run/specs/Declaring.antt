-- What a call declares of the Engine: what its project declares by the numbers of `--scale` and the digests of its files,
-- or the first refusal.
use Rattle.std.specs.Prelude.{◌≡◌, ℕ, Bool, true, false, List, [], Option, Some, None, Result, Ok, Err}
use Rattle.asked_run.specs.Told.{digests_for}
use Rattle.compose_words.specs.declared.Command.{Command}
use Rattle.compose_words.specs.declared.options.Scale.{Scale}
use Rattle.declared_set.specs.Declaring.{declared}
use Rattle.declared_set.specs.declared.IdentityRefusal.{IdentityRefusal}
use Rattle.declared_set.specs.declared.LoadedProject.{LoadedProject}
use Rattle.engine_types.specs.declared.Declared.{Declared}
use Rattle.file_digests.specs.Digests.{AreDigested, Given, empty_digests}
use Rattle.file_digests.specs.declared.DigestRefusal.{DigestRefusal}
use Rattle.outside_files.specs.Counts.{Rose}
use Rattle.outside_files.specs.Files.{Contents}
use Rattle.refusals.specs.Origins.{digest_refusal, identity_refusal}
use Rattle.refusals.specs.Refused.{is_free_of_declaring}
use Rattle.refusals.specs.declared.Refusal.{Refusal}
use Rattle.service_hashes.specs.declared.digest.FileDigest.{FileDigest}
use Rattle.tree_base.specs.Answers.{◌>>=◌, Unless}
use Rattle.typed_project.specs.declared.project.Project.{Project}

-- the numbers of `--scale`, which `up` alone has
abbrev pub scales_of : Command → List Scale
scales_of (Command.Up orphans wait seconds scale) = scale
scales_of command = []

-- digests, or what a call is refused with that lacks one
abbrev pub digests_or_refused : Given → Result (List FileDigest) Refusal
digests_or_refused (Ok digests) = Ok digests
digests_or_refused (Err refusal) = Err (digest_refusal refusal)

-- what is declared, or what a call is refused with whose project declares nothing
abbrev pub declared_or_refused : Result Declared IdentityRefusal → Result Declared Refusal
declared_or_refused (Ok declared) = Ok declared
declared_or_refused (Err refusal) = Err (identity_refusal refusal)

-- what a project declares that was loaded so, with these numbers of `--scale` and these digests of its files
abbrev pub declared_in : List Scale → LoadedProject → List FileDigest → Result Declared Refusal
declared_in scales loaded digests =
    declared_or_refused (declared loaded scales digests)

-- what it declares for a command
abbrev pub declared_with : Command → LoadedProject → List FileDigest → Result Declared Refusal
declared_with command loaded digests = declared_in (scales_of command) loaded digests

-- what it declares by what is given of the digests: a refusal of these comes first
abbrev pub declared_by : Command → LoadedProject → Given → Result Declared Refusal
declared_by command loaded given = digests_or_refused given >>= declared_with command loaded

-- whether the files of configs and secrets are read for a command: `up` alone needs their digests
abbrev pub reads_digests : Command → Bool
reads_digests (Command.Up orphans wait seconds scale) = true
reads_digests command = false

-- what is given of the digests for a command: `up` reads the files of configs and secrets, and for the others each is the
-- empty text
abbrev pub AreDigests : Option Contents → Command → Project → Given → Type 0
AreDigests told (Command.Up orphans wait seconds scale) project given =
    AreDigested told project given
AreDigests told command project given = given ≡ Ok (empty_digests project)

-- some answers of reads give this: what the project declares, or the refusal; the answers are the files' where these are told
abbrev pub Declares : Option Contents → Command → LoadedProject → Result Declared Refusal → Type 0
Declares told command loaded result =
    (given : Given) × AreDigests told command loaded.project given
    × (result ≡ declared_by command loaded given)

-- some answers of reads give digests by which the project declares this
abbrev pub IsDeclared : Option Contents → Command → LoadedProject → Declared → Type 0
IsDeclared told command loaded declared =
    (digests : List FileDigest) × AreDigests told command loaded.project (Ok digests)
    × (declared_with command loaded digests ≡ Ok declared)

-- what a project that was loaded so declares for a command where its files hold these bytes, or the first refusal
abbrev pub declared_from : Contents → Command → LoadedProject → Result Declared Refusal
declared_from files command loaded =
    declared_by command loaded (digests_for files command loaded.project)

-- an answer is what is declared, or its refusal; a read that failed and a want of memory may stand in its place
abbrev pub DeclaresAs : Result Declared Refusal → Result Declared Refusal → Type 0
DeclaresAs meant (Ok declared) = meant ≡ Ok declared
DeclaresAs meant (Err refusal) = Unless (is_free_of_declaring refusal) (meant ≡ Err refusal)

-- the read of a file failed: the command asks a digest of that file, and the files' count of faults rose
abbrev pub IsFailedDigest : Option Contents → Command → Project → ℕ → ℕ → List ℕ → Type 0
IsFailedDigest told command project old new path =
    AreDigests told command project (Err (DigestRefusal.ReadFault path)) × Rose old new

-- a fact on what a call declares: on the set that its files give where they are told, else on one that some digests give
abbrev pub ForDeclared :
    Option Contents → Command → LoadedProject → (Declared → Type 0) → Type 0
ForDeclared None command loaded Fact =
    (declared : Declared) × IsDeclared None command loaded declared × Fact declared
ForDeclared (Some files) command loaded Fact =
    (declared : Declared) × (declared_from files command loaded ≡ Ok declared) × Fact declared
