-- The digests of files that tell what they hold.
use Rattle.std.specs.Prelude.{◌≡◌, ◌⊎◌, ℕ, List, [], ◌∷◌, Option, Some, None, Result, Ok, Err, if◌then◌else◌, length, nat_lt}
use Rattle.tree_base.specs.Limits.{most_file_bytes}
use Rattle.compose_words.specs.declared.Command.{Command}
use Rattle.engine_types.specs.declared.declared.Kind.{Kind}
use Rattle.file_digests.specs.Digests.{Given, behind, digest_read, empty_digests}
use Rattle.file_digests.specs.declared.DigestRefusal.{DigestRefusal}
use Rattle.outside_files.specs.Files.{Contents}
use Rattle.outside_files.specs.declared.files.FileAnswer.{FileAnswer}
use Rattle.outside_files.specs.declared.files.FileAnswer.TheVariants.{Bytes, Longer, Missing}
use Rattle.service_hashes.specs.declared.digest.FileDigest.{FileDigest}
use Rattle.tree_base.specs.Answers.{◌>>=◌}
use Rattle.tree_base.specs.Entries.{value_at}
use Rattle.typed_project.specs.declared.project.FileItem.{FileItem}
use Rattle.typed_project.specs.declared.project.Project.{Project}

-- what the read of a file answers that holds these bytes, or isn't there
abbrev pub answer_of : Option (List ℕ) → FileAnswer
answer_of None = Missing
answer_of (Some bytes) = if nat_lt most_file_bytes (length bytes) then Longer else Bytes bytes

-- the digest of an item's file
abbrev pub digest_in : Contents → Kind → FileItem → Result FileDigest DigestRefusal
digest_in files kind item = digest_read kind item (answer_of (value_at files item.file))

-- the digests of items' files, or the refusal of the first that there is none of
abbrev pub digests_in : Contents → Kind → List FileItem → Given
digests_in files kind [] = Ok []
digests_in files kind (item ∷ items) =
    digest_in files kind item >>= λ digest. behind (digest ∷ []) (digests_in files kind items)

-- those of a project's configs and then of its secrets
abbrev pub digests_of : Contents → Project → Given
digests_of files project =
    digests_in files Kind.Config project.configs
    >>= λ configs. behind configs (digests_in files Kind.Secret project.secrets)

-- the digests for a command: of the files, which `up` reads, and the empty text for each otherwise
abbrev pub digests_for : Contents → Command → Project → Given
digests_for files (Command.Up orphans wait seconds scale) project = digests_of files project
digests_for files command project = Ok (empty_digests project)

-- a read that failed, or a want of memory
abbrev pub IsHindered : Given → Type 0
IsHindered given =
    (given ≡ Err DigestRefusal.Memory)
    ⊎ ((path : List ℕ) × (given ≡ Err (DigestRefusal.ReadFault path)))
