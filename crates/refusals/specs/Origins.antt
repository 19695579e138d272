-- Where in a call a refusal comes from: what the call asks for, what its project declares of the Engine, or the run.
use Rattle.std.specs.Prelude.{Bool, true, false, Option, Some}
use Rattle.compose_words.specs.declared.WordsRefusal.{WordsRefusal}
use Rattle.declared_set.specs.declared.IdentityRefusal.{IdentityRefusal}
use Rattle.engine_types.specs.declared.RunFault.{RunFault}
use Rattle.file_digests.specs.declared.DigestRefusal.{DigestRefusal}
use Rattle.loaded_files.specs.declared.LoadRefusal.{LoadRefusal}
use Rattle.loading_words.specs.declared.TreeRefusal.{TreeRefusal}
use Rattle.refusals.specs.declared.refusal.Part.{Part}
use Rattle.refusals.specs.declared.refusal.Refusal.{Refusal}

-- a refusal of what a call asks for: of the words, of loading, of the project's name, of its active services, or of what
-- stands in it; or a want of memory
abbrev pub IsOfAsking : Refusal → Type 0
IsOfAsking (Refusal.Words refusal) = Unit {0}
IsOfAsking (Refusal.NotBuilt unbuilt) = Unit {0}
IsOfAsking (Refusal.Load refusal) = Unit {0}
IsOfAsking (Refusal.Name refusal) = Unit {0}
IsOfAsking (Refusal.Active refusal) = Unit {0}
IsOfAsking (Refusal.Project refusal) = Unit {0}
IsOfAsking Refusal.Memory = Unit {0}
IsOfAsking _ = ⊥

-- a refusal of what a project declares of the Engine: of a digest or of the declared set; or a want of memory
abbrev pub IsOfDeclaring : Refusal → Type 0
IsOfDeclaring (Refusal.Digest refusal) = Unit {0}
IsOfDeclaring (Refusal.Identity refusal) = Unit {0}
IsOfDeclaring Refusal.Memory = Unit {0}
IsOfDeclaring _ = ⊥

-- a refusal that comes before anything is sent: of the words, of loading, of the project, or of what it declares
abbrev pub IsOfLoading : Option Refusal → Type 0
IsOfLoading (Some (Refusal.Words refusal)) = Unit {0}
IsOfLoading (Some (Refusal.NotBuilt unbuilt)) = Unit {0}
IsOfLoading (Some (Refusal.Load refusal)) = Unit {0}
IsOfLoading (Some (Refusal.Name refusal)) = Unit {0}
IsOfLoading (Some (Refusal.Active refusal)) = Unit {0}
IsOfLoading (Some (Refusal.Project refusal)) = Unit {0}
IsOfLoading (Some (Refusal.Digest refusal)) = Unit {0}
IsOfLoading (Some (Refusal.Identity refusal)) = Unit {0}
IsOfLoading _ = ⊥

-- a refusal of the words: they are none, or ask for what isn't built
abbrev pub is_of_words : Refusal → Bool
is_of_words (Refusal.Words refusal) = true
is_of_words (Refusal.NotBuilt unbuilt) = true
is_of_words _ = false

-- a refusal that comes before the dial: of what is asked for, or of what is declared
abbrev pub IsBeforeDial : Refusal → Type 0
IsBeforeDial (Refusal.Words refusal) = Unit {0}
IsBeforeDial (Refusal.NotBuilt unbuilt) = Unit {0}
IsBeforeDial (Refusal.Load refusal) = Unit {0}
IsBeforeDial (Refusal.Name refusal) = Unit {0}
IsBeforeDial (Refusal.Active refusal) = Unit {0}
IsBeforeDial (Refusal.Project refusal) = Unit {0}
IsBeforeDial (Refusal.Digest refusal) = Unit {0}
IsBeforeDial (Refusal.Identity refusal) = Unit {0}
IsBeforeDial Refusal.Memory = Unit {0}
IsBeforeDial _ = ⊥

-- a refusal that comes after the dial, or none
abbrev pub IsOfRun : Option Refusal → Type 0
IsOfRun (Some (Refusal.Words refusal)) = ⊥
IsOfRun (Some (Refusal.NotBuilt unbuilt)) = ⊥
IsOfRun (Some (Refusal.Load refusal)) = ⊥
IsOfRun (Some (Refusal.Name refusal)) = ⊥
IsOfRun (Some (Refusal.Active refusal)) = ⊥
IsOfRun (Some (Refusal.Project refusal)) = ⊥
IsOfRun (Some (Refusal.Digest refusal)) = ⊥
IsOfRun (Some (Refusal.Identity refusal)) = ⊥
IsOfRun (Some (Refusal.Outside Part.Plug)) = ⊥
IsOfRun _ = Unit {0}

-- what a call is refused with whose words are refused so
abbrev pub words_refusal : WordsRefusal → Refusal
words_refusal WordsRefusal.Memory = Refusal.Memory
words_refusal refusal = Refusal.Words refusal

-- what a call is refused with whose files aren't loaded
abbrev pub load_refusal : LoadRefusal → Refusal
load_refusal LoadRefusal.Memory = Refusal.Memory
load_refusal refusal = Refusal.Load refusal

-- what a call is refused with whose tree gives no project
abbrev pub project_refusal : TreeRefusal → Refusal
project_refusal (TreeRefusal.Name refusal) = Refusal.Name refusal
project_refusal (TreeRefusal.Active refusal) = Refusal.Active refusal
project_refusal (TreeRefusal.Project refusal) = Refusal.Project refusal
project_refusal TreeRefusal.Memory = Refusal.Memory

-- what a call is refused with that has no digest of a file
abbrev pub digest_refusal : DigestRefusal → Refusal
digest_refusal DigestRefusal.Memory = Refusal.Memory
digest_refusal refusal = Refusal.Digest refusal

-- what a call is refused with whose project declares nothing
abbrev pub identity_refusal : IdentityRefusal → Refusal
identity_refusal IdentityRefusal.Memory = Refusal.Memory
identity_refusal refusal = Refusal.Identity refusal

-- what a call is refused with where its run is refused so
abbrev pub run_refusal : RunFault → Refusal
run_refusal (RunFault.Seen fault) = Refusal.Seen fault
run_refusal (RunFault.Request request outcome) = Refusal.Request request outcome
run_refusal (RunFault.Condition slot condition report) = Refusal.Condition slot condition report
run_refusal RunFault.Stopped = Refusal.Stopped
run_refusal (RunFault.Late why) = Refusal.Late why
run_refusal RunFault.Memory = Refusal.Memory
