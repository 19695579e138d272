-- Where files tell what they hold, digests are one list, or one refusal.
use Rattle.std.proofs.Common.{◌≡◌, ◌∙◌, ◌⊎◌, ℕ, ◌<◌, ◌≤◌, List, [], ◌∷◌, Ok, Err, Some, None, ap, inl, inr, length, refl, subst, sym}
use Rattle.std.specs.Prelude.{Option, Result, IsSomeAnd, if◌then◌else◌, Bool, true, false, nat_lt}
use Rattle.std.proofs.lemmas.Bool.{le-ltb, lt-ltb}
use Rattle.tree_base.specs.Limits.{most_file_bytes}
use Rattle.asked_run.specs.Declaring.{AreDigests}
use Rattle.asked_run.specs.Told.{IsHindered, answer_of, digest_in, digests_for, digests_in, digests_of}
use Rattle.compose_words.specs.declared.Command.{Command}
use Rattle.engine_types.specs.declared.declared.Kind.{Kind}
use Rattle.file_digests.specs.Digests.{AreDigested, Digested, Follows, FollowsAll, Given, MayAnswer, behind, digest_read}
use Rattle.file_digests.specs.declared.DigestRefusal.{DigestRefusal}
use Rattle.outside_files.specs.Files.{Contents, IsReadOf}
use Rattle.outside_files.specs.declared.files.FileAnswer.{FileAnswer}
use Rattle.outside_files.specs.declared.files.FileAnswer.TheVariants.{Bytes, Failed, Longer, Memory, Missing}
use Rattle.service_hashes.specs.declared.digest.FileDigest.{FileDigest}
use Rattle.tree_base.specs.Answers.{◌>>=◌}
use Rattle.tree_base.specs.Entries.{value_at}
use Rattle.typed_project.specs.declared.project.FileItem.{FileItem}
use Rattle.typed_project.specs.declared.project.Project.{Project}

abbrev refused : DigestRefusal → Given
refused refusal = Err refusal

-- an answer that is true of a file, which holds these bytes or isn't there
abbrev IsTrueOf : Option (List ℕ) → FileAnswer → Type 0
IsTrueOf found (Bytes bytes) = (found ≡ Some bytes) × (length bytes ≤ most_file_bytes)
IsTrueOf found Missing = found ≡ None
IsTrueOf found Longer = IsSomeAnd found (λ bytes. most_file_bytes < length bytes)
IsTrueOf found Failed = Unit {0}
IsTrueOf found Memory = Unit {0}

within : (bytes : List ℕ) (long : Bool) → nat_lt most_file_bytes (length bytes) ≡ long → long ≡ false → answer_of (Some bytes) ≡ Bytes bytes
within bytes long e f = ap (λ (b : Bool). if b then Longer else Bytes bytes) (e ∙ f)

beyond : (bytes : List ℕ) → most_file_bytes < length bytes → answer_of (Some bytes) ≡ Longer
beyond bytes l = ap (λ (b : Bool). if b then Longer else Bytes bytes) (lt-ltb most_file_bytes (length bytes) l)

-- what follows an answer that is true of a file: the one that it has, or none
abbrev Or : Type 0 → FileAnswer → FileAnswer → Type 0
Or A answer expected = A ⊎ (answer ≡ expected)

-- a true answer is the one that the file has, but for a read that failed or wanted memory
one_answer : (found : Option (List ℕ)) (answer : FileAnswer) → IsTrueOf found answer → ((answer ≡ Failed) ⊎ (answer ≡ Memory)) ⊎ (answer ≡ answer_of found)
one_answer found (Bytes bytes) h = inr (sym (ap answer_of h.0 ∙ within bytes false (le-ltb most_file_bytes (length bytes) h.1) refl))
one_answer found Missing h = inr (sym (ap answer_of h))
one_answer None Longer h = absurd h
one_answer (Some bytes) Longer h = inr (sym (beyond bytes h))
one_answer found Failed h = inl (inl refl)
one_answer found Memory h = inl (inr refl)

as_true : (files : Contents) (path : List ℕ) (answer : FileAnswer) → IsReadOf files path most_file_bytes answer → IsTrueOf (value_at files path) answer
as_true files path (Bytes bytes) h = h
as_true files path Missing h = h
as_true files path Longer h = h
as_true files path Failed h = h
as_true files path Memory h = h

-- what is given is what the files have, or a read failed or wanted memory
abbrev Has : Given → Given → Type 0
Has expected given = (given ≡ expected) ⊎ IsHindered given

-- digests behind others are hindered where they are
behind_hindered : (done : List FileDigest) (more : Given) → IsHindered more → IsHindered (behind done more)
behind_hindered done more (inl e) = inl (ap (behind done) e)
behind_hindered done more (inr e) = inr (e.0, ap (behind done) e.1)

behind_has : (done : List FileDigest) (expected more given : Given) → Has expected more → given ≡ behind done more → Has (behind done expected) given
behind_has done expected more given (inl e) is = inl (is ∙ ap (behind done) e)
behind_has done expected more given (inr h) is = inr (subst IsHindered (sym is) (behind_hindered done more h))

module _ (files : Contents) (kind : Kind) where
  -- what follows the digest of an item
  one_on : (item : FileItem) (items : List FileItem) → ((given : Given) → Digested (Some files) kind items given → Has (digests_in files kind items) given) → (one : Result FileDigest DigestRefusal) (given : Given)
      → Follows one (Digested (Some files) kind items) given → Has (one >>= λ digest. behind (digest ∷ []) (digests_in files kind items)) given
  one_on item items rest (Err refusal) given h = inl h
  one_on item items rest (Ok digest) given h = behind_has (digest ∷ []) (digests_in files kind items) h.0 given (rest h.0 h.1) h.2

  abbrev Next : FileItem → List FileItem → Given → FileAnswer → Type 0
  Next item items given answer = Follows (digest_read kind item answer) (Digested (Some files) kind items) given

  item_on : (item : FileItem) (items : List FileItem) (given : Given) (answer : FileAnswer) → ((answer ≡ Failed) ⊎ (answer ≡ Memory)) ⊎ (answer ≡ answer_of (value_at files item.file))
      → ((given : Given) → Digested (Some files) kind items given → Has (digests_in files kind items) given) → Next item items given answer → Has (digests_in files kind (item ∷ items)) given
  item_on item items given answer (inl (inl e)) rest h = inr (inr (item.file, subst (Next item items given) e h))
  item_on item items given answer (inl (inr e)) rest h = inr (inl (subst (Next item items given) e h))
  item_on item items given answer (inr e) rest h = one_on item items rest (digest_in files kind item) given (subst (Next item items given) e h)

  items_have : (items : List FileItem) (given : Given) → Digested (Some files) kind items given → Has (digests_in files kind items) given
  items_have [] given h = inl h
  items_have (item ∷ items) given h = item_on item items given h.0 (one_answer (value_at files item.file) h.0 (as_true files item.file h.0 h.1)) (items_have items) h.2

module _ (files : Contents) (project : Project) where
  secrets_on : (configs expected : Given) (given : Given) → Has expected configs → FollowsAll configs (Digested (Some files) Kind.Secret project.secrets) given
      → Has (expected >>= λ done. behind done (digests_in files Kind.Secret project.secrets)) given
  secrets_on (Err refusal) expected given (inl e) h = inl (h ∙ ap (λ (r : Given). r >>= λ done. behind done (digests_in files Kind.Secret project.secrets)) e)
  secrets_on (Err refusal) expected given (inr hindered) h = inr (subst IsHindered (sym h) hindered)
  secrets_on (Ok configs) expected given (inl e) h =
      subst (λ (r : Given). Has (r >>= λ done. behind done (digests_in files Kind.Secret project.secrets)) given) e
      (behind_has configs (digests_in files Kind.Secret project.secrets) h.0 given (items_have files Kind.Secret project.secrets h.0 h.1) h.2)
  secrets_on (Ok configs) expected given (inr (inl e)) h = absurd (cc e)
  secrets_on (Ok configs) expected given (inr (inr e)) h = absurd (cc (e.1))

  project_has : (given : Given) → AreDigested (Some files) project given → Has (digests_of files project) given
  project_has given h = secrets_on h.0 (digests_in files Kind.Config project.configs) given (items_have files Kind.Config project.configs h.0 h.1) h.2

pub told_have : (files : Contents) (command : Command) (project : Project) (given : Given) → AreDigests (Some files) command project given → (given ≡ digests_for files command project) ⊎ IsHindered given
told_have files (Command.Up orphans wait seconds scale) project given h = project_has files project given h
told_have files (Command.Down orphans volumes seconds) project given h = inl h
told_have files (Command.Config json quiet) project given h = inl h
told_have files (Command.Simulate number) project given h = inl h
told_have files Command.Wait project given h = inl h
told_have files Command.Logs project given h = inl h
told_have files (Command.EngineSim connections) project given h = inl h
