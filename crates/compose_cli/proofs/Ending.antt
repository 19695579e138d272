-- How a call ends that is refused before its run, or that prints.
use Rattle.std.proofs.Common.{◌≡◌, ◌+◌, Some, None, Ok, Err, ap, arith, length, refl, subst, sym}
use Rattle.std.specs.Prelude.{ℕ, List, Option, Result, IfErr, IfSome, IsTrue}
use Rattle.engine_types.specs.declared.Aim.{Aim}
use Rattle.asked_project.specs.Asking.{Variables, command_of}
use Rattle.asked_project.specs.Meaning.{IsFailedRead, MeansAs, meaning}
use Rattle.compose_cli.specs.Ends.{CountsHands, IsRefusedWith, SendsNothing}
use Rattle.compose_cli.specs.Runs.{IfRuns, IsUnbegun, aim_asked}
use Rattle.compose_cli.specs.declared.ended.Ended.{Ended}
use Rattle.compose_config.proofs.Loads.{answered, loads_weaker, not_loaded, said_refusal}
use Rattle.compose_config.specs.Commands.{IfLoads, IsConfig, IsReadFault}
use Rattle.compose_words.specs.declared.Command.{Command}
use Rattle.file_digests.specs.declared.DigestRefusal.{DigestRefusal}
use Rattle.loaded_files.specs.declared.LoadRefusal.{LoadRefusal}
use Rattle.outside_files.specs.Files.{Contents}
use Rattle.refusals.proofs.Said.{said}
use Rattle.refusals.specs.Origins.{IsOfAsking, IsOfLoading, is_of_words}
use Rattle.refusals.specs.Refused.{IsRefusal}
use Rattle.refusals.specs.Saying.{IsSaid}
use Rattle.refusals.specs.declared.Refusal.{Refusal}
use Rattle.declared_set.specs.declared.LoadedProject.{LoadedProject}

-- a fact beside others
pub beside : {X Y : Type 0} {A : Type 0} (meant : Result X Y) (P : Y → Type 0) → A → IfErr meant P → IfErr meant (λ refusal. A × P refusal)
beside (Ok x) P a h = tt
beside (Err refusal) P a h = (a, h)

-- what is meant to be refused is what the call is refused with, and nothing was sent
pub refused_with : {H : Type 0} (meant : Result LoadedProject Refusal) (refusal : Refusal) (ended : Ended H) → SendsNothing ended → MeansAs meant (answered refusal) → IsSaid refusal ended.refusal → IfErr meant (λ r. IsRefusedWith r ended)
refused_with meant refusal ended nothing means is_said = beside meant (λ r. IsRefusal r ended.refusal) nothing (said_refusal meant refusal ended.refusal means is_said)

where_it_runs : (aim : Option Aim) (Fact : Type 0) → Fact → IfSome aim (λ _. Fact)
where_it_runs None Fact fact = tt
where_it_runs (Some aim) Fact fact = fact

-- a fact holds also where the words run something
pub if_runs : (words : List (List ℕ)) (env : Variables) (Fact : Type 0) → Fact → IfRuns words env (λ _. Fact)
if_runs words env Fact fact = where_it_runs (aim_asked (command_of words env)) Fact fact

module _ (words : List (List ℕ)) (env : Variables) (cwd : List ℕ) (told : Option Contents) (old new : ℕ) where
  abbrev Failed : Option Refusal → Type 0
  Failed found = IsReadFault words env cwd told old new found

  -- a refusal of loading, where a project is meant, is a read that failed
  abbrev OnlyRead : Option Refusal → Type 0
  OnlyRead found = IsOfLoading found → Failed found

  pub only_reads : (refusal : Refusal) (found : Option Refusal) → IfSome told (λ contents. MeansAs (meaning words env cwd contents) (answered refusal))
      → ((path : List ℕ) → refusal ≡ Refusal.Load (LoadRefusal.ReadFault path) → IsFailedRead words env cwd told old new path) → IsSaid refusal found → IsOfLoading found
      → IfLoads words env cwd told (Failed found)
  only_reads refusal found means read is_said of_loading =
      loads_weaker words env cwd told (OnlyRead (Some refusal)) (Failed found)
      (not_loaded words env cwd told (λ r. OnlyRead (Some r)) refusal means (λ never. absurd never) (λ path e _. read path e))
      (λ only. said refusal found is_said OnlyRead (λ never. absurd never) only of_loading)

-- a refusal of what is asked for begins no run
pub before_unbegun : (refusal : Refusal) (found : Option Refusal) → IsOfAsking refusal → IsSaid refusal found → IsUnbegun found
before_unbegun refusal found before is_said = said refusal found is_said IsUnbegun tt (at refusal before)
  where
    at : (refusal : Refusal) → IsOfAsking refusal → IsUnbegun (Some refusal)
    at Refusal.Memory h = tt
    at (Refusal.Words words) h = tt
    at (Refusal.NotBuilt unbuilt) h = tt
    at (Refusal.Load load) h = tt
    at (Refusal.Name name) h = tt
    at (Refusal.Active active) h = tt
    at (Refusal.Project project) h = tt
    at (Refusal.Digest cause) h = absurd h
    at (Refusal.Identity cause) h = absurd h
    at (Refusal.Seen fault) h = absurd h
    at (Refusal.Request request outcome) h = absurd h
    at (Refusal.Condition slot condition report) h = absurd h
    at Refusal.Stopped h = absurd h
    at (Refusal.Late why) h = absurd h
    at (Refusal.Outside part) h = absurd h

-- a command that runs something isn't `config`
pub no_config : (command : Option Command) (aim : Aim) → aim_asked command ≡ Some aim → IsConfig command → ⊥
no_config None aim e c = c
no_config (Some (Command.Config json quiet)) aim e c = cc e
no_config (Some (Command.Up orphans wait seconds scale)) aim e c = c
no_config (Some (Command.Down orphans volumes seconds)) aim e c = c
no_config (Some (Command.Simulate number)) aim e c = c
no_config (Some Command.Wait) aim e c = c
no_config (Some Command.Logs) aim e c = c
no_config (Some (Command.EngineSim connections)) aim e c = c

-- a refusal that is none of loading is none of words
pub no_words : (refusal : Option Refusal) (words : Refusal) → (IsOfLoading refusal → ⊥) → IsTrue (is_of_words words) → refusal ≡ Some words → ⊥
no_words refusal words none h e = none (subst IsOfLoading (sym e) (at words h))
  where
    at : (words : Refusal) → IsTrue (is_of_words words) → IsOfLoading (Some words)
    at (Refusal.Words words) h = tt
    at (Refusal.NotBuilt unbuilt) h = tt
    at (Refusal.Load load) h = tt
    at (Refusal.Name name) h = tt
    at (Refusal.Active active) h = tt
    at (Refusal.Project project) h = tt
    at (Refusal.Digest cause) h = tt
    at (Refusal.Identity cause) h = tt
    at (Refusal.Seen fault) h = absurd (cc h)
    at (Refusal.Request request outcome) h = absurd (cc h)
    at (Refusal.Condition slot condition report) h = absurd (cc h)
    at Refusal.Stopped h = absurd (cc h)
    at (Refusal.Late why) h = absurd (cc h)
    at (Refusal.Outside part) h = absurd (cc h)
    at Refusal.Memory h = absurd (cc h)

-- no hand is counted where none was made
pub counts_none : {H : Type 0} (count : Option ℕ) (ended : Ended H) → SendsNothing ended → CountsHands count count (length ended.hands)
counts_none None ended nothing = refl
counts_none {H} (Some n) ended nothing =
    let size : length ended.hands ≡ 0 = ap (length {A = H}) nothing.0 in
    let same : n ≡ n + length ended.hands = omega (arith, size) in ap (λ (k : ℕ). Some k) same

-- no digest is refused by what a call asks for
pub asking_no_digest : (refusal : Refusal) (found : Option Refusal) (cause : DigestRefusal) → IsOfAsking refusal → IsSaid refusal found → found ≡ Some (Refusal.Digest cause) → ⊥
asking_no_digest refusal found cause asking is_said = said refusal found is_said (λ f. f ≡ Some (Refusal.Digest cause) → ⊥) (λ e. cc e) (at refusal asking)
  where
    at : (r : Refusal) → IsOfAsking r → Some r ≡ Some (Refusal.Digest cause) → ⊥
    at (Refusal.Digest other) h e = h
    at (Refusal.Words words) h e = cc e
    at (Refusal.NotBuilt unbuilt) h e = cc e
    at (Refusal.Load load) h e = cc e
    at (Refusal.Name name) h e = cc e
    at (Refusal.Active active) h e = cc e
    at (Refusal.Project project) h e = cc e
    at (Refusal.Identity other) h e = cc e
    at (Refusal.Seen fault) h e = cc e
    at (Refusal.Request request outcome) h e = cc e
    at (Refusal.Condition slot condition report) h e = cc e
    at Refusal.Stopped h e = cc e
    at (Refusal.Late why) h e = cc e
    at (Refusal.Outside part) h e = cc e
    at Refusal.Memory h e = cc e
