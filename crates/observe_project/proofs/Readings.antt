-- What is read from an outcome leads on as the outcome does.
use Rattle.std.proofs.Common.{◌≡◌, ℕ, true, false, cond, List, [], Option, Some, None, refl, sym, ap, ◌∙◌, subst, inl, inr}
use Rattle.std.specs.Prelude.{IfOk, Result, Ok, Err}
use Rattle.tree_base.specs.declared.Memory.{Memory}
use Rattle.engine_types.specs.declared.Declared.{Declared}
use Rattle.engine_types.specs.declared.Exchange.{Exchange}
use Rattle.engine_types.specs.declared.Listed.{Listed}
use Rattle.engine_types.specs.declared.NetRow.{NetRow}
use Rattle.engine_types.specs.declared.Outcome.{Outcome}
use Rattle.engine_types.specs.declared.Purpose.{Purpose}
use Rattle.engine_types.specs.declared.Reply.{Reply}
use Rattle.engine_types.specs.declared.Request.{Request}
use Rattle.engine_types.specs.declared.Seen.{Seen}
use Rattle.engine_types.specs.declared.SeenEnd.{SeenEnd}
use Rattle.engine_types.specs.declared.SeenFault.{SeenFault}
use Rattle.engine_types.specs.declared.Slot.{Slot}
use Rattle.run_model.specs.Observation.{Ends, Onward, after_containers, after_first_look, after_look, after_networks, after_pull, after_volumes, failing, fault_in, inspecting, is_asked, judging, listing_networks, listing_volumes, seen_containers, wanting}
use Rattle.outside_api.specs.Hands.{Heard, HasCause}
use Rattle.observe_project.specs.Exchanges.{HasCauseOfFault}
use Rattle.observe_project.specs.Reading.{AreAsked, OrMemory, containers_told, fault_or_memory, found_or_wanted, id_told, networks_told, or_memory, pull_error, tells_missing, tells_pulled, volumes_told}
use Rattle.observe_project.specs.Steps.{Reads}
use Rattle.observe_project.proofs.Onward.{judging_asked, listing_networks_asked, listing_volumes_asked}

-- the cause of a fault
abbrev pub IsCaused : Request → Outcome → SeenFault → Type 0
IsCaused request outcome fault = (heard : Option (List Heard)) (old new : ℕ) → HasCause request heard old new outcome → HasCauseOfFault heard old new fault

pub fault_in-caused : (request : Request) (outcome : Outcome) → IsCaused request outcome (fault_in request outcome)
fault_in-caused request (Outcome.Answered (Reply.Refused status message)) heard old new t = tt
fault_in-caused request (Outcome.Answered _) heard old new t = tt
fault_in-caused request (Outcome.Lost cause) heard old new t = t
fault_in-caused request Outcome.NotSent heard old new t = t
fault_in-caused request Outcome.Memory heard old new t = tt

pub or_memory-fault : (made : Result SeenFault Memory) (expected fault : SeenFault) → IfOk made (λ f. f ≡ expected) → fault ≡ fault_or_memory made → OrMemory expected fault
or_memory-fault (Ok f) expected fault h e = inl (e ∙ h)
or_memory-fault (Err memory) expected fault h e = inr e

module _ {X : Type 0} (from : List Exchange → Onward) (onward : X → List Exchange → Onward) (request : Request) (outcome : Outcome) where
  -- a value that was read, where memory may be wanted for it
  pub reads-value : (value : X) (answer : Result X Memory) (result : Result X SeenFault) → ((rest : List Exchange) → from rest ≡ onward value rest)
      → is_asked (onward value []) ≡ true → IfOk answer (λ x. x ≡ value) → result ≡ or_memory answer → Reads from onward request outcome result
  reads-value value (Ok x) result on asked h e = let P : Result X SeenFault → Type 0 = λ r. Reads from onward request outcome r in subst P (sym e) (record {
    leads = λ rest. on rest ∙ ap (λ y. onward y rest) (sym h);
    cause = λ heard old new t. tt;
  })
  reads-value value (Err memory) result on asked h e = let P : Result X SeenFault → Type 0 = λ r. Reads from onward request outcome r in subst P (sym e) (record {
    leads = inr (refl, ap is_asked (on []) ∙ asked);
    cause = λ heard old new t. tt;
  })

  -- a fault that was read, where memory may be wanted for it
  pub reads-fault : (expected fault : SeenFault) → from [] ≡ Ends (SeenEnd.Bad expected) → IsCaused request outcome expected → OrMemory expected fault → Reads from onward request outcome (Err fault)
  reads-fault expected fault on caused (inl e) = record {
    leads = inl (on ∙ ap (λ f. Ends (SeenEnd.Bad f)) (sym e));
    cause = λ heard old new t. let P : SeenFault → Type 0 = λ f. HasCauseOfFault heard old new f in subst P (sym e) (caused heard old new t);
  }
  reads-fault expected fault on caused (inr e) = record {
    leads = inr (e, ap is_asked on);
    cause = λ heard old new t. let P : SeenFault → Type 0 = λ f. HasCauseOfFault heard old new f in subst P (sym e) tt;
  }

module _ (declared : Declared) (purpose : Purpose) where
  containers_on : (outcome : Outcome) (rows : List Listed) → Some rows ≡ containers_told outcome → (rest : List Exchange)
      → after_containers declared purpose outcome rest ≡ listing_networks declared purpose (seen_containers rows) rest
  containers_on (Outcome.Answered (Reply.Containers found)) rows e rest = let same : rows ≡ found = cc e in ap (λ r. listing_networks declared purpose (seen_containers r) rest) (sym same)
  containers_on _ rows e rest = absurd (cc e)

  containers_fail : (outcome : Outcome) → None ≡ containers_told outcome
      → after_containers declared purpose outcome [] ≡ Ends (SeenEnd.Bad (fault_in (Request.ListContainers declared.project) outcome))
  containers_fail (Outcome.Answered (Reply.Containers found)) e = absurd (cc e)
  containers_fail _ e = refl

  pub reads-containers : (request : Request) (outcome : Outcome) (rows : List Listed) (answer : Result Seen Memory) (result : Result Seen SeenFault) → Some rows ≡ containers_told outcome
      → IfOk answer (λ seen. seen ≡ seen_containers rows) → result ≡ or_memory answer → Reads (after_containers declared purpose outcome) (listing_networks declared purpose) request outcome result
  reads-containers request outcome rows answer result told =
      reads-value (after_containers declared purpose outcome) (listing_networks declared purpose) request outcome (seen_containers rows) answer result
      (containers_on outcome rows told) (listing_networks_asked declared purpose (seen_containers rows))

  pub reads-no_containers : (request : Request) (outcome : Outcome) (fault : SeenFault) → None ≡ containers_told outcome → request ≡ Request.ListContainers declared.project
      → OrMemory (fault_in request outcome) fault → Reads (after_containers declared purpose outcome) (listing_networks declared purpose) request outcome (Err fault)
  reads-no_containers request outcome fault told is h =
      reads-fault (after_containers declared purpose outcome) (listing_networks declared purpose) request outcome (fault_in request outcome) fault
      (containers_fail outcome told ∙ ap (λ r. Ends (SeenEnd.Bad (fault_in r outcome))) (sym is)) (fault_in-caused request outcome) h

  module _ (seen : Seen) where
    networks_on : (outcome : Outcome) (rows : List NetRow) → Some rows ≡ networks_told outcome → (rest : List Exchange)
        → after_networks declared purpose seen outcome rest ≡ listing_volumes declared purpose (record seen { networks = rows }) rest
    networks_on (Outcome.Answered (Reply.Networks found)) rows e rest =
        let same : rows ≡ found = cc e in ap (λ r. listing_volumes declared purpose (record seen { networks = r }) rest) (sym same)
    networks_on _ rows e rest = absurd (cc e)

    networks_fail : (outcome : Outcome) → None ≡ networks_told outcome → after_networks declared purpose seen outcome [] ≡ Ends (SeenEnd.Bad (fault_in Request.ListNetworks outcome))
    networks_fail (Outcome.Answered (Reply.Networks found)) e = absurd (cc e)
    networks_fail _ e = refl

    pub reads-networks : (request : Request) (outcome : Outcome) (rows : List NetRow) (answer : Result Seen Memory) (result : Result Seen SeenFault) → Some rows ≡ networks_told outcome
        → IfOk answer (λ now. now ≡ record seen { networks = rows }) → result ≡ or_memory answer
        → Reads (after_networks declared purpose seen outcome) (listing_volumes declared purpose) request outcome result
    reads-networks request outcome rows answer result told =
        reads-value (after_networks declared purpose seen outcome) (listing_volumes declared purpose) request outcome (record seen { networks = rows }) answer result
        (networks_on outcome rows told) (listing_volumes_asked declared purpose (record seen { networks = rows }))

    pub reads-no_networks : (request : Request) (outcome : Outcome) (fault : SeenFault) → None ≡ networks_told outcome → request ≡ Request.ListNetworks
        → OrMemory (fault_in request outcome) fault → Reads (after_networks declared purpose seen outcome) (listing_volumes declared purpose) request outcome (Err fault)
    reads-no_networks request outcome fault told is h =
        reads-fault (after_networks declared purpose seen outcome) (listing_volumes declared purpose) request outcome (fault_in request outcome) fault
        (networks_fail outcome told ∙ ap (λ r. Ends (SeenEnd.Bad (fault_in r outcome))) (sym is)) (fault_in-caused request outcome) h

    volumes_on : (outcome : Outcome) (names : List (List ℕ)) → Some names ≡ volumes_told outcome → (rest : List Exchange)
        → after_volumes declared purpose seen outcome rest ≡ judging declared purpose (record seen { volumes = names }) rest
    volumes_on (Outcome.Answered (Reply.Volumes found)) names e rest =
        let same : names ≡ found = cc e in ap (λ r. judging declared purpose (record seen { volumes = r }) rest) (sym same)
    volumes_on _ names e rest = absurd (cc e)

    volumes_fail : (outcome : Outcome) → None ≡ volumes_told outcome → after_volumes declared purpose seen outcome [] ≡ Ends (SeenEnd.Bad (fault_in Request.ListVolumes outcome))
    volumes_fail (Outcome.Answered (Reply.Volumes found)) e = absurd (cc e)
    volumes_fail _ e = refl

    pub reads-volumes : (request : Request) (outcome : Outcome) (names : List (List ℕ)) (answer : Result Seen Memory) (result : Result Seen SeenFault) → Some names ≡ volumes_told outcome
        → IfOk answer (λ now. now ≡ record seen { volumes = names }) → result ≡ or_memory answer
        → Reads (after_volumes declared purpose seen outcome) (judging declared purpose) request outcome result
    reads-volumes request outcome names answer result told =
        reads-value (after_volumes declared purpose seen outcome) (judging declared purpose) request outcome (record seen { volumes = names }) answer result
        (volumes_on outcome names told) (judging_asked declared purpose (record seen { volumes = names }))

    pub reads-no_volumes : (request : Request) (outcome : Outcome) (fault : SeenFault) → None ≡ volumes_told outcome → request ≡ Request.ListVolumes
        → OrMemory (fault_in request outcome) fault → Reads (after_volumes declared purpose seen outcome) (judging declared purpose) request outcome (Err fault)
    reads-no_volumes request outcome fault told is h =
        reads-fault (after_volumes declared purpose seen outcome) (judging declared purpose) request outcome (fault_in request outcome) fault
        (volumes_fail outcome told ∙ ap (λ r. Ends (SeenEnd.Bad (fault_in r outcome))) (sym is)) (fault_in-caused request outcome) h

module _ (image : List ℕ) (onward : List ℕ → List Exchange → Onward) where
  look_on : (outcome : Outcome) (id : List ℕ) → Some id ≡ id_told outcome → (rest : List Exchange) → after_look image onward outcome rest ≡ onward id rest
  look_on (Outcome.Answered (Reply.ImageId found)) id e rest = let same : id ≡ found = cc e in ap (λ i. onward i rest) (sym same)
  look_on _ id e rest = absurd (cc e)

  look_fail : (outcome : Outcome) → None ≡ id_told outcome → after_look image onward outcome [] ≡ Ends (SeenEnd.Bad (fault_in (Request.Image image) outcome))
  look_fail (Outcome.Answered (Reply.ImageId found)) e = absurd (cc e)
  look_fail _ e = refl

  pub reads-id : AreAsked onward → (request : Request) (outcome : Outcome) (id : List ℕ) (answer : Result (List ℕ) Memory) (result : Result (List ℕ) SeenFault) → Some id ≡ id_told outcome
      → IfOk answer (λ copy. copy ≡ id) → result ≡ or_memory answer → Reads (after_look image onward outcome) onward request outcome result
  reads-id each request outcome id answer result told = reads-value (after_look image onward outcome) onward request outcome id answer result (look_on outcome id told) (each id)

  pub reads-no_id : (request : Request) (outcome : Outcome) (fault : SeenFault) → None ≡ id_told outcome → request ≡ Request.Image image
      → OrMemory (fault_in request outcome) fault → Reads (after_look image onward outcome) onward request outcome (Err fault)
  reads-no_id request outcome fault told is h =
      reads-fault (after_look image onward outcome) onward request outcome (fault_in request outcome) fault
      (look_fail outcome told ∙ ap (λ r. Ends (SeenEnd.Bad (fault_in r outcome))) (sym is)) (fault_in-caused request outcome) h

  pulled_on : (outcome : Outcome) → true ≡ tells_pulled outcome → (rest : List Exchange) → after_pull image onward outcome rest ≡ inspecting image onward rest
  pulled_on (Outcome.Answered Reply.Pulled) e rest = refl
  pulled_on _ e rest = absurd (cc e)

  pub reads-pulled : (request : Request) (outcome : Outcome) → true ≡ tells_pulled outcome → Reads (after_pull image onward outcome) (λ (u : Unit {0}). inspecting image onward) request outcome (Ok tt)
  reads-pulled request outcome told = record { leads = pulled_on outcome told; cause = λ heard old new t. tt }

  pull_breaks : (outcome : Outcome) (message : List ℕ) → Some message ≡ pull_error outcome → after_pull image onward outcome [] ≡ Ends (SeenEnd.Bad (SeenFault.PullFailed image message))
  pull_breaks (Outcome.Answered (Reply.PullFailed found)) message e = let same : message ≡ found = cc e in ap (λ m. Ends (SeenEnd.Bad (SeenFault.PullFailed image m))) (sym same)
  pull_breaks _ message e = absurd (cc e)

  pub reads-pull_error : (request : Request) (outcome : Outcome) (message : List ℕ) (fault : SeenFault) → Some message ≡ pull_error outcome → OrMemory (SeenFault.PullFailed image message) fault
      → Reads (after_pull image onward outcome) (λ (u : Unit {0}). inspecting image onward) request outcome (Err fault)
  reads-pull_error request outcome message fault told h =
      reads-fault (after_pull image onward outcome) (λ (u : Unit {0}). inspecting image onward) request outcome (SeenFault.PullFailed image message) fault
      (pull_breaks outcome message told) (λ heard old new t. tt) h

  pull_fail : (outcome : Outcome) → false ≡ tells_pulled outcome → None ≡ pull_error outcome → after_pull image onward outcome [] ≡ Ends (SeenEnd.Bad (fault_in (Request.Pull image) outcome))
  pull_fail (Outcome.Answered Reply.Pulled) e f = absurd (cc e)
  pull_fail (Outcome.Answered (Reply.PullFailed message)) e f = absurd (cc f)
  pull_fail _ e f = refl

  pub reads-no_pull : (request : Request) (outcome : Outcome) (fault : SeenFault) → false ≡ tells_pulled outcome → None ≡ pull_error outcome → request ≡ Request.Pull image
      → OrMemory (fault_in request outcome) fault → Reads (after_pull image onward outcome) (λ (u : Unit {0}). inspecting image onward) request outcome (Err fault)
  reads-no_pull request outcome fault told none is h =
      reads-fault (after_pull image onward outcome) (λ (u : Unit {0}). inspecting image onward) request outcome (fault_in request outcome) fault
      (pull_fail outcome told none ∙ ap (λ r. Ends (SeenEnd.Bad (fault_in r outcome))) (sym is)) (fault_in-caused request outcome) h

  module _ (builder : Option Slot) where
    first_on : (outcome : Outcome) (id : List ℕ) → Some id ≡ id_told outcome → (rest : List Exchange) → after_first_look builder image onward outcome rest ≡ onward id rest
    first_on (Outcome.Answered (Reply.ImageId found)) id e rest = let same : id ≡ found = cc e in ap (λ i. onward i rest) (sym same)
    first_on _ id e rest = absurd (cc e)

    pub reads-found : AreAsked onward → (request : Request) (outcome : Outcome) (id : List ℕ) (answer : Result (Option (List ℕ)) Memory) (result : Result (Option (List ℕ)) SeenFault)
        → Some id ≡ id_told outcome → IfOk answer (λ copy. copy ≡ Some id) → result ≡ or_memory answer
        → Reads (after_first_look builder image onward outcome) (found_or_wanted builder image onward) request outcome result
    reads-found each request outcome id answer result told =
        reads-value (after_first_look builder image onward outcome) (found_or_wanted builder image onward) request outcome (Some id) answer result (first_on outcome id told) (each id)

    missing_on : (outcome : Outcome) → true ≡ tells_missing outcome → (rest : List Exchange) → after_first_look builder image onward outcome rest ≡ wanting builder image onward rest
    missing_on (Outcome.Answered (Reply.Refused status message)) e rest =
        ap (λ b. cond b (wanting builder image onward rest) (failing (Request.Image image) (Outcome.Answered (Reply.Refused status message)) rest)) (sym e)
    missing_on _ e rest = absurd (cc e)

    pub reads-missing : (request : Request) (outcome : Outcome) → true ≡ tells_missing outcome
        → Reads (after_first_look builder image onward outcome) (found_or_wanted builder image onward) request outcome (Ok None)
    reads-missing request outcome told = record { leads = missing_on outcome told; cause = λ heard old new t. tt }

    first_fail : (outcome : Outcome) → None ≡ id_told outcome → false ≡ tells_missing outcome
        → after_first_look builder image onward outcome [] ≡ Ends (SeenEnd.Bad (fault_in (Request.Image image) outcome))
    first_fail (Outcome.Answered (Reply.ImageId found)) e f = absurd (cc e)
    first_fail (Outcome.Answered (Reply.Refused status message)) e f =
        ap (λ b. cond b (wanting builder image onward []) (failing (Request.Image image) (Outcome.Answered (Reply.Refused status message)) [])) (sym f)
    first_fail _ e f = refl

    pub reads-no_first : (request : Request) (outcome : Outcome) (fault : SeenFault) → None ≡ id_told outcome → false ≡ tells_missing outcome → request ≡ Request.Image image
        → OrMemory (fault_in request outcome) fault → Reads (after_first_look builder image onward outcome) (found_or_wanted builder image onward) request outcome (Err fault)
    reads-no_first request outcome fault told none is h =
        reads-fault (after_first_look builder image onward outcome) (found_or_wanted builder image onward) request outcome (fault_in request outcome) fault
        (first_fail outcome told none ∙ ap (λ r. Ends (SeenEnd.Bad (fault_in r outcome))) (sym is)) (fault_in-caused request outcome) h
