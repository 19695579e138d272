-- The line that each refusal prints.
use Rattle.std.specs.Prelude.{ℕ, List, ◌++◌, codes, decimal}
use Rattle.compose_words.specs.Printed.{refusal_text}
use Rattle.declared_set.specs.declared.IdentityRefusal.{IdentityRefusal}
use Rattle.file_digests.specs.declared.DigestRefusal.{DigestRefusal}
use Rattle.run_model.specs.Lines.{line, fault_words}
use Rattle.engine_types.specs.declared.RunFault.{RunFault}
use Rattle.loading_words.specs.Messages as projects
use Rattle.refusals.specs.declared.refusal.Part.{Part}
use Rattle.refusals.specs.declared.refusal.Refusal.{Refusal}
use Rattle.refusals.specs.declared.refusal.Unbuilt.{Unbuilt}

-- the part of the outside that failed
abbrev pub part_words : Part → List ℕ
part_words Part.Out = codes "Out"
part_words Part.Plug = codes "Plug"

-- what isn't built: the words
abbrev pub unbuilt_words : Unbuilt → List ℕ
unbuilt_words Unbuilt.Words = codes "not built: words"

-- a file that there is no digest of is named by its path
abbrev pub digest_words : DigestRefusal → List ℕ
digest_words (DigestRefusal.NotFound path) = path ++ codes ": NotFound"
digest_words (DigestRefusal.ReadFault path) = path ++ codes ": ReadFault"
digest_words (DigestRefusal.FileTooLarge path) = path ++ codes ": FileTooLarge"
digest_words DigestRefusal.Memory = codes "memory"

-- a service that isn't there, a name that two containers have, and the number of needs behind the limit's name
abbrev pub identity_words : IdentityRefusal → List ℕ
identity_words (IdentityRefusal.UnknownScale service) = codes "no service " ++ service
identity_words (IdentityRefusal.TooManyNeeds count) = codes "TooManyNeeds: " ++ decimal count
identity_words (IdentityRefusal.NameTwice name) = codes "name twice: " ++ name
identity_words IdentityRefusal.Memory = codes "memory"

-- what a refusal says
abbrev pub refusal_words : Refusal → List ℕ
refusal_words (Refusal.Words refusal) = refusal_text refusal
refusal_words (Refusal.NotBuilt unbuilt) = unbuilt_words unbuilt
refusal_words (Refusal.Load refusal) = projects.load_words refusal
refusal_words (Refusal.Name refusal) = projects.project_words refusal
refusal_words (Refusal.Active refusal) = projects.active_words refusal
refusal_words (Refusal.Project refusal) = projects.project_words refusal
refusal_words (Refusal.Digest refusal) = digest_words refusal
refusal_words (Refusal.Identity refusal) = identity_words refusal
refusal_words (Refusal.Seen fault) = fault_words (RunFault.Seen fault)
refusal_words (Refusal.Request request outcome) = fault_words (RunFault.Request request outcome)
refusal_words (Refusal.Condition slot condition report) =
    fault_words (RunFault.Condition slot condition report)
refusal_words Refusal.Stopped = fault_words RunFault.Stopped
refusal_words (Refusal.Late why) = fault_words (RunFault.Late why)
refusal_words (Refusal.Outside part) = codes "fault: " ++ part_words part
refusal_words Refusal.Memory = fault_words RunFault.Memory

-- the line of a refusal, with its line feed
abbrev pub refusal_line : Refusal → List ℕ
refusal_line refusal = line (codes "compose: " ++ refusal_words refusal)
