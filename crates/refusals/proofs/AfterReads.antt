-- How the reads of a call went, by what it is refused with.
use Rattle.std.proofs.Common.{◌≡◌, ◌∙◌, true, false, ◌||◌, List, Some, None, Ok, Err, ap, refl}
use Rattle.std.specs.Prelude.{Option, Result, IfErr, IsTrue}
use Rattle.file_digests.specs.Digests as digests
use Rattle.file_digests.specs.declared.DigestRefusal.{DigestRefusal}
use Rattle.loaded_files.specs.Reads as loads
use Rattle.loaded_files.specs.declared.LoadRefusal.{LoadRefusal}
use Rattle.outside_files.specs.Reads.{Well, went}
use Rattle.outside_files.specs.declared.file_read.FileRead.{FileRead}
use Rattle.refusals.proofs.Said.{said}
use Rattle.refusals.specs.Origins.{IsOfDeclaring, IsOfLoading, digest_refusal, is_of_words, load_refusal}
use Rattle.refusals.specs.Refused.{is_failed_digest, wants_memory}
use Rattle.refusals.specs.Saying.{IsSaid}
use Rattle.refusals.specs.Went.{ReadsEnd, ends_as, refused_as}
use Rattle.refusals.specs.declared.refusal.Refusal.{Refusal}

-- a refusal of loading, joined
pub load_went : (refusal : LoadRefusal) (joined : Refusal) → joined ≡ load_refusal refusal → refused_as joined ≡ loads.refused_as refusal
load_went refusal joined is = ap refused_as is ∙ at refusal
  where
    at : (refusal : LoadRefusal) → refused_as (load_refusal refusal) ≡ loads.refused_as refusal
    at (LoadRefusal.NotFound path) = refl
    at (LoadRefusal.ReadFault path) = refl
    at (LoadRefusal.FileTooLarge path) = refl
    at (LoadRefusal.TooManyFiles path) = refl
    at (LoadRefusal.NoHome path) = refl
    at (LoadRefusal.Yaml path cause) = refl
    at (LoadRefusal.EnvFile path cause) = refl
    at (LoadRefusal.Subst path cause) = refl
    at (LoadRefusal.Merge path cause) = refl
    at (LoadRefusal.BadShape place) = refl
    at (LoadRefusal.ExtendsCycle services) = refl
    at (LoadRefusal.NoSuchBase file service) = refl
    at (LoadRefusal.IncludeCycle files) = refl
    at (LoadRefusal.Conflict kind key file) = refl
    at LoadRefusal.Memory = refl

-- one of digests, joined
pub digest_went : (refusal : DigestRefusal) (joined : Refusal) → joined ≡ digest_refusal refusal → refused_as joined ≡ digests.refused_as refusal
digest_went refusal joined is = ap refused_as is ∙ at refusal
  where
    at : (refusal : DigestRefusal) → refused_as (digest_refusal refusal) ≡ digests.refused_as refusal
    at (DigestRefusal.NotFound path) = refl
    at (DigestRefusal.ReadFault path) = refl
    at (DigestRefusal.FileTooLarge path) = refl
    at DigestRefusal.Memory = refl

-- one of words is no read that failed
pub words_went : (refusal : Refusal) → IsTrue (is_of_words refusal || wants_memory refusal) → refused_as refusal ≡ Well
words_went (Refusal.Words words) h = refl
words_went (Refusal.NotBuilt unbuilt) h = refl
words_went (Refusal.Load load) h = absurd (cc h)
words_went (Refusal.Name name) h = refl
words_went (Refusal.Active active) h = refl
words_went (Refusal.Project project) h = refl
words_went (Refusal.Digest digest) h = absurd (cc h)
words_went (Refusal.Identity identity) h = refl
words_went (Refusal.Seen fault) h = refl
words_went (Refusal.Request request outcome) h = refl
words_went (Refusal.Condition slot condition report) h = refl
words_went Refusal.Stopped h = refl
words_went (Refusal.Late why) h = refl
words_went (Refusal.Outside part) h = refl
words_went Refusal.Memory h = refl

-- nor is one of what is declared, but for one of digests
pub declared_went : {X : Type 0} (result : Result X Refusal) → IfErr result IsOfDeclaring → IfErr result (λ refusal. is_failed_digest refusal ≡ false) → ends_as result ≡ Well
declared_went (Ok x) kind none = refl
declared_went (Err refusal) kind none = at refusal kind none
  where
    at : (refusal : Refusal) → IsOfDeclaring refusal → is_failed_digest refusal ≡ false → refused_as refusal ≡ Well
    at (Refusal.Digest (DigestRefusal.NotFound path)) kind none = refl
    at (Refusal.Digest (DigestRefusal.ReadFault path)) kind none = absurd (cc none)
    at (Refusal.Digest (DigestRefusal.FileTooLarge path)) kind none = refl
    at (Refusal.Digest DigestRefusal.Memory) kind none = refl
    at (Refusal.Words words) kind none = refl
    at (Refusal.NotBuilt unbuilt) kind none = refl
    at (Refusal.Load load) kind none = absurd kind
    at (Refusal.Name name) kind none = refl
    at (Refusal.Active active) kind none = refl
    at (Refusal.Project project) kind none = refl
    at (Refusal.Identity identity) kind none = refl
    at (Refusal.Seen fault) kind none = refl
    at (Refusal.Request request outcome) kind none = refl
    at (Refusal.Condition slot condition report) kind none = refl
    at Refusal.Stopped kind none = refl
    at (Refusal.Late why) kind none = refl
    at (Refusal.Outside part) kind none = refl
    at Refusal.Memory kind none = refl

module _ (old new : List FileRead) where
  -- the reads of a call that is refused so
  ends_refused : (refusal : Refusal) → (went old ≡ Well → went new ≡ refused_as refusal) → ReadsEnd old new (Some refusal)
  ends_refused (Refusal.Words words) h = h
  ends_refused (Refusal.NotBuilt unbuilt) h = h
  ends_refused (Refusal.Load load) h = h
  ends_refused (Refusal.Name name) h = h
  ends_refused (Refusal.Active active) h = h
  ends_refused (Refusal.Project project) h = h
  ends_refused (Refusal.Digest digest) h = h
  ends_refused (Refusal.Identity identity) h = h
  ends_refused (Refusal.Seen fault) h = h
  ends_refused (Refusal.Request request outcome) h = h
  ends_refused (Refusal.Condition slot condition report) h = h
  ends_refused Refusal.Stopped h = h
  ends_refused (Refusal.Late why) h = h
  ends_refused (Refusal.Outside part) h = h
  ends_refused Refusal.Memory h = tt

  -- the same where the refusal is said
  pub ends_said : (refusal : Refusal) (found : Option Refusal) → IsSaid refusal found → (went old ≡ Well → went new ≡ refused_as refusal) → ReadsEnd old new found
  ends_said refusal found is_said h = said refusal found is_said (ReadsEnd old new) tt (ends_refused refusal h)

  -- all reads of a call went well that isn't refused before it sends anything
  pub ends_loaded : (refusal : Option Refusal) → (IsOfLoading refusal → ⊥) → (went old ≡ Well → went new ≡ Well) → ReadsEnd old new refusal
  ends_loaded None none h = h
  ends_loaded (Some (Refusal.Words words)) none h = absurd (none tt)
  ends_loaded (Some (Refusal.NotBuilt unbuilt)) none h = absurd (none tt)
  ends_loaded (Some (Refusal.Load load)) none h = absurd (none tt)
  ends_loaded (Some (Refusal.Name name)) none h = absurd (none tt)
  ends_loaded (Some (Refusal.Active active)) none h = absurd (none tt)
  ends_loaded (Some (Refusal.Project project)) none h = absurd (none tt)
  ends_loaded (Some (Refusal.Digest digest)) none h = absurd (none tt)
  ends_loaded (Some (Refusal.Identity identity)) none h = absurd (none tt)
  ends_loaded (Some (Refusal.Seen fault)) none h = h
  ends_loaded (Some (Refusal.Request request outcome)) none h = h
  ends_loaded (Some (Refusal.Condition slot condition report)) none h = h
  ends_loaded (Some Refusal.Stopped) none h = h
  ends_loaded (Some (Refusal.Late why)) none h = h
  ends_loaded (Some (Refusal.Outside part)) none h = h
  ends_loaded (Some Refusal.Memory) none h = tt

  -- reads that begin earlier, and went well until then
  pub ends_after : (before : List FileRead) (refusal : Option Refusal) → (went before ≡ Well → went old ≡ Well) → ReadsEnd old new refusal → ReadsEnd before new refusal
  ends_after before None first h = λ well. h (first well)
  ends_after before (Some (Refusal.Words words)) first h = (λ well. h (first well))
  ends_after before (Some (Refusal.NotBuilt unbuilt)) first h = (λ well. h (first well))
  ends_after before (Some (Refusal.Load load)) first h = (λ well. h (first well))
  ends_after before (Some (Refusal.Name name)) first h = (λ well. h (first well))
  ends_after before (Some (Refusal.Active active)) first h = (λ well. h (first well))
  ends_after before (Some (Refusal.Project project)) first h = (λ well. h (first well))
  ends_after before (Some (Refusal.Digest digest)) first h = (λ well. h (first well))
  ends_after before (Some (Refusal.Identity identity)) first h = (λ well. h (first well))
  ends_after before (Some (Refusal.Seen fault)) first h = (λ well. h (first well))
  ends_after before (Some (Refusal.Request request outcome)) first h = (λ well. h (first well))
  ends_after before (Some (Refusal.Condition slot condition report)) first h = (λ well. h (first well))
  ends_after before (Some Refusal.Stopped) first h = (λ well. h (first well))
  ends_after before (Some (Refusal.Late why)) first h = (λ well. h (first well))
  ends_after before (Some (Refusal.Outside part)) first h = (λ well. h (first well))
  ends_after before (Some Refusal.Memory) first h = tt
