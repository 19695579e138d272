-- The digests of the files of a project's configs and secrets, by what the reads of these files answer.
use Rattle.std.specs.Prelude.{◌≡◌, ℕ, List, [], ◌∷◌, ◌++◌, Option, IfSome, Result, Ok, Err, map}
use Rattle.tree_base.specs.Limits.{most_file_bytes}
use Rattle.sha2.specs.Sha256.{sha256}
use Rattle.hex.specs.Hex.{encode_lower}
use Rattle.engine_types.specs.declared.declared.Kind.{Kind}
use Rattle.outside_files.specs.Files.{Contents, IsReadOf}
use Rattle.outside_files.specs.Reads.{FailedAt, Went, Well, went}
use Rattle.outside_files.specs.declared.file_read.FileRead.{FileRead}
use Rattle.outside_files.specs.declared.files.FileAnswer.{FileAnswer}
use Rattle.outside_files.specs.declared.files.FileAnswer.TheVariants.{Bytes, Missing, Longer, Failed, Memory}
use Rattle.service_hashes.specs.declared.digest.FileDigest.{FileDigest}
use Rattle.tree_base.specs.Answers.{◌>>=◌}
use Rattle.typed_project.specs.declared.project.FileItem.{FileItem}
use Rattle.typed_project.specs.declared.project.Project.{Project}
use Rattle.file_digests.specs.declared.refusal.DigestRefusal.{DigestRefusal}
use Rattle.file_digests.specs.declared.refusal.DigestRefusal.TheVariants as refusals

-- the digest of an item whose file has these bytes: their SHA-256 (FIPS 180-4) in lower hexadecimal
abbrev pub digest_of : Kind → FileItem → List ℕ → FileDigest
digest_of kind item bytes = record { kind = kind; key = item.key; digest = encode_lower (sha256 bytes) }

-- what the answer to the read of an item's file gives
abbrev pub digest_read : Kind → FileItem → FileAnswer → Result FileDigest DigestRefusal
digest_read kind item (Bytes bytes) = Ok (digest_of kind item bytes)
digest_read kind item Missing = Err (refusals.NotFound item.file)
digest_read kind item Longer = Err (refusals.FileTooLarge item.file)
digest_read kind item Failed = Err (refusals.ReadFault item.file)
digest_read kind item Memory = Err refusals.Memory

-- an answer that the read of an item's file may give
abbrev pub MayAnswer : Option Contents → FileItem → FileAnswer → Type 0
MayAnswer told item answer = IfSome told (λ files. IsReadOf files item.file most_file_bytes answer)

-- how the reads went of what is refused so: the last one failed where that is what it is refused with, and else all went well
abbrev pub refused_as : DigestRefusal → Went
refused_as (refusals.ReadFault path) = FailedAt path
refused_as refusal = Well

-- the same of what was given
abbrev pub ends_as : {X : Type 0} → Result X DigestRefusal → Went
ends_as (Ok x) = Well
ends_as (Err refusal) = refused_as refusal

-- where no read had failed before, the reads went as it ended
abbrev pub WentAs : {X : Type 0} → List FileRead → List FileRead → Result X DigestRefusal → Type 0
WentAs old new result = went old ≡ Well → went new ≡ ends_as result

-- digests, or the refusal of the first that there is none of
abbrev pub Given : Type 0
Given = Result (List FileDigest) DigestRefusal

-- digests behind others
abbrev pub behind : List FileDigest → Given → Given
behind done given = given >>= λ more. Ok (done ++ more)

-- what is given of one item, and then of the rest; a refusal ends it
abbrev pub Follows : Result FileDigest DigestRefusal → (Given → Type 0) → Given → Type 0
Follows (Err refusal) Rest given = given ≡ Err refusal
Follows (Ok digest) Rest given = (more : Given) × Rest more × (given ≡ behind (digest ∷ []) more)

-- what is given of items, whose files are read in turn
abbrev pub Digested : Option Contents → Kind → List FileItem → Given → Type 0
Digested told kind [] given = given ≡ Ok []
Digested told kind (item ∷ items) given =
    (answer : FileAnswer) × MayAnswer told item answer
    × Follows (digest_read kind item answer) (Digested told kind items) given

-- what is given of some items, and then of others; a refusal ends it
abbrev pub FollowsAll : Given → (Given → Type 0) → Given → Type 0
FollowsAll (Err refusal) Rest given = given ≡ Err refusal
FollowsAll (Ok digests) Rest given = (more : Given) × Rest more × (given ≡ behind digests more)

-- what is given of a project's files: those of its configs and then those of its secrets, in the order of their keys
abbrev pub AreDigested : Option Contents → Project → Given → Type 0
AreDigested told project given =
    (configs : Given) × Digested told Kind.Config project.configs configs
    × FollowsAll configs (Digested told Kind.Secret project.secrets) given

-- the empty digest of an item
abbrev pub empty_digest : Kind → FileItem → FileDigest
empty_digest kind item = record { kind = kind; key = item.key; digest = [] }

-- the empty digests of a project's configs and then of its secrets
abbrev pub empty_digests : Project → List FileDigest
empty_digests project =
    map (empty_digest Kind.Config) project.configs ++ map (empty_digest Kind.Secret) project.secrets
