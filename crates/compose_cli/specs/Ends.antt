-- How a call ends.
use Rattle.std.specs.Prelude.{◌≡◌, ℕ, ◌+◌, List, [], Option, Some, None}
use Rattle.asked_project.specs.Asking.{Variables, command_of}
use Rattle.compose_cli.specs.declared.ended.Ended.{Ended}
use Rattle.compose_config.specs.Commands.{ForProject, GrewByPrefix, page_asked}
use Rattle.file_digests.specs.declared.DigestRefusal.{DigestRefusal}
use Rattle.loaded_files.specs.declared.LoadRefusal.{LoadRefusal}
use Rattle.outside_files.specs.Files.{Contents}
use Rattle.outside_files.specs.Sinks.{GrewBy}
use Rattle.refusals.specs.declared.Part.{Part}
use Rattle.refusals.specs.declared.Refusal.{Refusal}
use Rattle.refusals.specs.Refused.{IsRefusal}

-- no hand was made, and the journal is empty
abbrev pub SendsNothing : {H : Type 0} → Ended H → Type 0
SendsNothing ended = (ended.hands ≡ []) × (ended.journal ≡ [])

-- the call is refused so, and nothing was sent
abbrev pub IsRefusedWith : {H : Type 0} → Refusal → Ended H → Type 0
IsRefusedWith refusal ended = SendsNothing ended × IsRefusal refusal ended.refusal

-- the plug's count of hands, where it is told, rose by so many
abbrev pub CountsHands : Option ℕ → Option ℕ → ℕ → Type 0
CountsHands None new hands = new ≡ None
CountsHands (Some old) new hands = new ≡ Some (old + hands)

-- what a call is refused with where the read of a file failed as it was loaded
abbrev pub failed_read : List ℕ → Option Refusal
failed_read path = Some (Refusal.Load (LoadRefusal.ReadFault path))

-- what it is refused with where the read of a file for its digest failed
abbrev pub failed_digest : List ℕ → Option Refusal
failed_digest path = Some (Refusal.Digest (DigestRefusal.ReadFault path))

-- what it is refused with where no hand could be made
abbrev pub failed_dial : Option Refusal
failed_dial = Some (Refusal.Outside Part.Plug)

-- what it is refused with where the output failed
abbrev pub failed_output : Option Refusal
failed_output = Some (Refusal.Outside Part.Out)

-- the output grew by the page of the project that a call loads, as its command prints it
abbrev pub WritesPage :
    List (List ℕ) → Variables → List ℕ → Option Contents → Option (List ℕ) → Option (List ℕ)
    → Type 0
WritesPage words env cwd told old new =
    ForProject words env cwd told
    (λ loaded. GrewBy old (page_asked (command_of words env) loaded.project) new)

-- the output grew by a prefix of that page
abbrev pub WritesPrefix :
    List (List ℕ) → Variables → List ℕ → Option Contents → Option (List ℕ) → Option (List ℕ)
    → Type 0
WritesPrefix words env cwd told old new =
    ForProject words env cwd told
    (λ loaded. GrewByPrefix old new (page_asked (command_of words env) loaded.project))
