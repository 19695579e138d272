-- The exit status of each refusal.
use Rattle.std.specs.Prelude.{ℕ, Option, Some, None}
use Rattle.compose_words.specs.declared.WordsRefusal.{WordsRefusal}
use Rattle.declared_set.specs.declared.IdentityRefusal.{IdentityRefusal}
use Rattle.file_digests.specs.declared.DigestRefusal.{DigestRefusal}
use Rattle.run_model.specs.Ending.{seen_status, outcome_status}
use Rattle.loading_words.specs.Statuses.{active_status, load_status, project_status}
use Rattle.refusals.specs.declared.refusal.Refusal.{Refusal}
use Rattle.refusals.specs.declared.refusal.Unbuilt.{Unbuilt}

-- words that are none have status 1, and a want of memory while they are read has 9
abbrev pub words_status : WordsRefusal → ℕ
words_status WordsRefusal.Memory = 9
words_status _ = 1

-- words that aren't built have status 1
abbrev pub unbuilt_status : Unbuilt → ℕ
unbuilt_status Unbuilt.Words = 1

-- a file that isn't there has status 2, a read that failed 7, one past the limit 8, and a want of memory 9
abbrev pub digest_status : DigestRefusal → ℕ
digest_status (DigestRefusal.NotFound path) = 2
digest_status (DigestRefusal.ReadFault path) = 7
digest_status (DigestRefusal.FileTooLarge path) = 8
digest_status DigestRefusal.Memory = 9

-- a service that isn't there and a name that two containers have have status 2, needs past the limit 8, and a want of
-- memory 9
abbrev pub identity_status : IdentityRefusal → ℕ
identity_status (IdentityRefusal.UnknownScale service) = 2
identity_status (IdentityRefusal.TooManyNeeds count) = 8
identity_status (IdentityRefusal.NameTwice name) = 2
identity_status IdentityRefusal.Memory = 9

-- 1 for words, 2 for a project that isn't one, 3 where the Engine refused, 4 where a condition failed, 5 where the
-- run was stopped, 6 where it was late, 7 for a fault outside, 8 for a limit, 9 for memory
abbrev pub refusal_status : Refusal → ℕ
refusal_status (Refusal.Words refusal) = words_status refusal
refusal_status (Refusal.NotBuilt unbuilt) = unbuilt_status unbuilt
refusal_status (Refusal.Load refusal) = load_status refusal
refusal_status (Refusal.Name refusal) = project_status refusal
refusal_status (Refusal.Active refusal) = active_status refusal
refusal_status (Refusal.Project refusal) = project_status refusal
refusal_status (Refusal.Digest refusal) = digest_status refusal
refusal_status (Refusal.Identity refusal) = identity_status refusal
refusal_status (Refusal.Seen fault) = seen_status fault
refusal_status (Refusal.Request request outcome) = outcome_status outcome
refusal_status (Refusal.Condition slot condition report) = 4
refusal_status Refusal.Stopped = 5
refusal_status (Refusal.Late why) = 6
refusal_status (Refusal.Outside part) = 7
refusal_status Refusal.Memory = 9

-- the exit status of a call: 0 where nothing is refused
abbrev pub status_of : Option Refusal → ℕ
status_of None = 0
status_of (Some refusal) = refusal_status refusal
