-- How a call ends whose project is declared, or isn't.
use Rattle.std.proofs.Common.{◌≡◌, ◌<◌, ◌≤◌, ◌⊎◌, ◌∙◌, Bool, true, false, ℕ, List, Some, None, Ok, Err, arith, inl, inr, refl, subst, sym}
use Rattle.std.proofs.lemmas.Bool.{cases_lt}
use Rattle.std.specs.Prelude.{Option, Result, IfErr, IfOk, IfSome, IsTrue, ◌||◌}
use Rattle.engine_types.specs.declared.RunOptions.{RunOptions}
use Rattle.engine_types.specs.declared.Aim.{Aim}
use Rattle.asked_project.specs.Asking.{Variables, command_of, options_asked}
use Rattle.asked_project.specs.Meaning.{IsLoaded, IsSpelled, MeansAs, meaning}
use Rattle.asked_project.specs.declared.Asked.{Asked}
use Rattle.asked_run.specs.Declaring.{AreDigests, DeclaresAs, ForDeclared, IsDeclared, IsFailedDigest, declared_from}
use Rattle.compose_cli.specs.Ends.{SendsNothing}
use Rattle.compose_cli.specs.Runs.{IfDeclared, IsDigestOf, IsFailedDigestRead, IsFaultOfReads, IsUnbegun, IsUndeclared, aim_asked, aim_for}
use Rattle.compose_cli.specs.declared.ended.Ended.{Ended}
use Rattle.compose_config.proofs.Loads.{answered, not_loaded}
use Rattle.compose_config.specs.Commands.{IfLoads, IsReadFault}
use Rattle.compose_words.specs.declared.Command.{Command}
use Rattle.compose_words.specs.declared.Options.{Options}
use Rattle.declared_set.specs.declared.LoadedProject.{LoadedProject}
use Rattle.engine_types.specs.declared.Declared.{Declared}
use Rattle.declared_set.specs.declared.IdentityRefusal.{IdentityRefusal}
use Rattle.file_digests.specs.declared.DigestRefusal.{DigestRefusal}
use Rattle.loaded_files.specs.declared.LoadRefusal.{LoadRefusal}
use Rattle.outside_files.specs.Counts.{Rose}
use Rattle.outside_files.specs.Files.{Contents}
use Rattle.refusals.proofs.Said.{said}
use Rattle.refusals.specs.Origins.{IsOfDeclaring, IsOfLoading, is_of_words}
use Rattle.refusals.specs.Refused.{is_failed_digest, is_failed_read, wants_memory}
use Rattle.refusals.specs.Saying.{IsSaid}
use Rattle.refusals.specs.declared.Part.{Part}
use Rattle.refusals.specs.declared.Refusal.{Refusal}
use Rattle.tree_base.specs.Answers.{Unless}
use Rattle.typed_project.specs.declared.project.Project.{Project}

abbrev pub undeclared : Refusal → Result Declared Refusal
undeclared refusal = Err refusal

abbrev pub declares : Declared → Result Declared Refusal
declares declared = Ok declared

-- a fact on what was declared is one on what is declared
for_declared : (told : Option Contents) (command : Command) (loaded : LoadedProject) (declared : Declared) (Fact : Declared → Type 0)
    → IfSome told (λ contents. DeclaresAs (declared_from contents command loaded) (declares declared)) → IsDeclared told command loaded declared → Fact declared → ForDeclared told command loaded Fact
for_declared None command loaded declared Fact means is fact = (declared, is, fact)
for_declared (Some contents) command loaded declared Fact means is fact = (declared, means, fact)

-- the same, of a fact on these options too, found by others that are equal
pub for_declared_by : (told : Option Contents) (command : Command) (loaded : LoadedProject) (declared : Declared) (found expected : RunOptions) (Fact : Declared → RunOptions → Type 0) → found ≡ expected
    → IfSome told (λ contents. DeclaresAs (declared_from contents command loaded) (declares declared)) → IsDeclared told command loaded declared → Fact declared found → ForDeclared told command loaded (λ d. Fact d expected)
for_declared_by told command loaded declared found expected Fact same means is fact =
    for_declared told command loaded declared (λ d. Fact d expected) means is (subst (Fact declared) same fact)

-- what is declared isn't refused
pub declared_unrefused : (Fact : Refusal → Type 0) (meant : Result Declared Refusal) (declared : Declared) → DeclaresAs meant (declares declared) → IfErr meant Fact
declared_unrefused Fact meant declared means = subst (λ (m : Result Declared Refusal). IfErr m Fact) (sym means) tt

-- what can't be declared is what a call is refused with
pub refused_undeclared : {H : Type 0} (meant : Result Declared Refusal) (refusal : Refusal) (ended : Ended H) → SendsNothing ended → DeclaresAs meant (undeclared refusal) → IsSaid refusal ended.refusal
    → IfErr meant (λ r. SendsNothing ended × IsUndeclared r ended.refusal)
refused_undeclared meant refusal ended nothing means is_said =
    beside meant (said refusal ended.refusal is_said (λ found. IfErr meant (λ r. IsUndeclared r found)) (free meant) (at (wants_memory refusal) (is_failed_read refusal) (is_failed_digest refusal) meant means))
  where
    beside : (meant : Result Declared Refusal) → IfErr meant (λ r. IsUndeclared r ended.refusal) → IfErr meant (λ r. SendsNothing ended × IsUndeclared r ended.refusal)
    beside (Ok declared) h = tt
    beside (Err expected) h = (nothing, h)

    free : (meant : Result Declared Refusal) → IfErr meant (λ r. IsUndeclared r (Some Refusal.Memory))
    free (Ok declared) = tt
    free (Err expected) = tt

    at : (wants read digest : Bool) (meant : Result Declared Refusal) → Unless (wants || digest) (meant ≡ Err refusal) → IfErr meant (λ expected. Unless ((wants || read) || digest) (refusal ≡ expected))
    at wants read digest (Ok declared) h = tt
    at true read digest (Err expected) h = tt
    at false true digest (Err expected) h = tt
    at false false true (Err expected) h = tt
    at false false false (Err expected) h = let same : expected ≡ refusal = cc h in sym same

module _ (command : Command) (project : Project) (told : Option Contents) (old new : ℕ) where
  -- a refusal in place of what is declared is a read that failed
  pub only_digests : (meant : Result Declared Refusal) (refusal : Refusal) (found : Option Refusal) → IsOfDeclaring refusal → DeclaresAs meant (undeclared refusal)
      → ((path : List ℕ) → undeclared refusal ≡ Err (Refusal.Digest (DigestRefusal.ReadFault path)) → IsFailedDigest told command project old new path) → IsSaid refusal found → IsOfLoading found
      → IfOk meant (λ _. IsDigestOf command project told old new found)
  only_digests meant refusal found kind means read is_said = said refusal found is_said (λ f. IsOfLoading f → IfOk meant (λ _. IsDigestOf command project told old new f)) (λ never. absurd never) (at refusal kind means read)
    where
      unerr : (r : Refusal) (A : Type 0) → meant ≡ Err r → IfOk meant (λ _. A)
      unerr r A e = subst (λ (m : Result Declared Refusal). IfOk m (λ _. A)) (sym e) tt

      all : (m : Result Declared Refusal) (A : Type 0) → A → IfOk m (λ _. A)
      all (Ok declared) A a = a
      all (Err r) A a = tt

      at : (r : Refusal) → IsOfDeclaring r → DeclaresAs meant (undeclared r) → ((path : List ℕ) → undeclared r ≡ Err (Refusal.Digest (DigestRefusal.ReadFault path)) → IsFailedDigest told command project old new path)
          → IsOfLoading (Some r) → IfOk meant (λ _. IsDigestOf command project told old new (Some r))
      at (Refusal.NotBuilt unbuilt) kind means read loading = unerr (Refusal.NotBuilt unbuilt) (IsDigestOf command project told old new (Some (Refusal.NotBuilt unbuilt))) means
      at (Refusal.Digest (DigestRefusal.ReadFault path)) kind means read loading = all meant (IsDigestOf command project told old new (Some (Refusal.Digest (DigestRefusal.ReadFault path)))) (path, refl, read path refl)
      at (Refusal.Digest (DigestRefusal.NotFound path)) kind means read loading = unerr (Refusal.Digest (DigestRefusal.NotFound path)) (IsDigestOf command project told old new (Some (Refusal.Digest (DigestRefusal.NotFound path)))) means
      at (Refusal.Digest (DigestRefusal.FileTooLarge path)) kind means read loading = unerr (Refusal.Digest (DigestRefusal.FileTooLarge path)) (IsDigestOf command project told old new (Some (Refusal.Digest (DigestRefusal.FileTooLarge path)))) means
      at (Refusal.Digest DigestRefusal.Memory) kind means read loading = unerr (Refusal.Digest DigestRefusal.Memory) (IsDigestOf command project told old new (Some (Refusal.Digest DigestRefusal.Memory))) means
      at (Refusal.Identity cause) kind means read loading = unerr (Refusal.Identity cause) (IsDigestOf command project told old new (Some (Refusal.Identity cause))) means
      at Refusal.Memory kind means read loading = absurd loading
      at (Refusal.Words words) kind means read loading = absurd kind
      at (Refusal.Load load) kind means read loading = absurd kind
      at (Refusal.Name name) kind means read loading = absurd kind
      at (Refusal.Active active) kind means read loading = absurd kind
      at (Refusal.Project project) kind means read loading = absurd kind
      at (Refusal.Seen fault) kind means read loading = absurd kind
      at (Refusal.Request request outcome) kind means read loading = absurd kind
      at (Refusal.Condition slot condition report) kind means read loading = absurd kind
      at Refusal.Stopped kind means read loading = absurd kind
      at (Refusal.Late why) kind means read loading = absurd kind
      at (Refusal.Outside part) kind means read loading = absurd kind

-- the read that failed is the one that was answered
pub said_digest : (refusal : Refusal) (found : Option Refusal) (path : List ℕ) → IsSaid refusal found → found ≡ Some (Refusal.Digest (DigestRefusal.ReadFault path)) → refusal ≡ Refusal.Digest (DigestRefusal.ReadFault path)
said_digest refusal found path is_said = said refusal found is_said (λ f. f ≡ Some (Refusal.Digest (DigestRefusal.ReadFault path)) → refusal ≡ Refusal.Digest (DigestRefusal.ReadFault path))
    (λ h. absurd (cc h)) (λ h. let same : refusal ≡ Refusal.Digest (DigestRefusal.ReadFault path) = cc h in same)

-- a fact on what is said of a refusal of declaring: one on each of these
declaring_said : (refusal : Refusal) (found : Option Refusal) (P : Option Refusal → Type 0) → IsOfDeclaring refusal → IsSaid refusal found → ((cause : DigestRefusal) → P (Some (Refusal.Digest cause)))
    → ((cause : IdentityRefusal) → P (Some (Refusal.Identity cause))) → P (Some Refusal.Memory) → P found
declaring_said refusal found P kind is_said digest identity memory = said refusal found is_said P memory (at refusal kind)
  where
    at : (r : Refusal) → IsOfDeclaring r → P (Some r)
    at (Refusal.NotBuilt unbuilt) kind = absurd kind
    at (Refusal.Digest cause) kind = digest cause
    at (Refusal.Identity cause) kind = identity cause
    at Refusal.Memory kind = memory
    at (Refusal.Words words) kind = absurd kind
    at (Refusal.Load load) kind = absurd kind
    at (Refusal.Name name) kind = absurd kind
    at (Refusal.Active active) kind = absurd kind
    at (Refusal.Project project) kind = absurd kind
    at (Refusal.Seen fault) kind = absurd kind
    at (Refusal.Request request outcome) kind = absurd kind
    at (Refusal.Condition slot condition report) kind = absurd kind
    at Refusal.Stopped kind = absurd kind
    at (Refusal.Late why) kind = absurd kind
    at (Refusal.Outside part) kind = absurd kind

abbrev words_in : Option Refusal → Bool
words_in None = false
words_in (Some refusal) = is_of_words refusal

-- no refusal of declaring is one of words
pub declaring_no_words : (refusal words : Refusal) (found : Option Refusal) → IsOfDeclaring refusal → IsSaid refusal found → IsTrue (is_of_words words) → found ≡ Some words → ⊥
declaring_no_words refusal words found kind is_said of_words e =
    no_true (subst (λ (f : Option Refusal). IsTrue (words_in f)) (sym e) of_words) (declaring_said refusal found (λ f. words_in f ≡ false) kind is_said (λ cause. refl) (λ cause. refl) refl)
  where
    no_true : IsTrue (words_in found) → words_in found ≡ false → ⊥
    no_true h e = let bad : IsTrue false = subst IsTrue e h in cc bad

-- no read of a Compose file failed, where a project can't be declared
pub declaring_no_load : (refusal : Refusal) (found : Option Refusal) (path : List ℕ) → IsOfDeclaring refusal → IsSaid refusal found → found ≡ Some (Refusal.Load (LoadRefusal.ReadFault path)) → ⊥
declaring_no_load refusal found path kind is_said = declaring_said refusal found (λ f. f ≡ Some (Refusal.Load (LoadRefusal.ReadFault path)) → ⊥) kind is_said (λ cause e. cc e) (λ cause e. cc e) (λ e. cc e)

-- nothing outside failed
pub declaring_no_outside : (refusal : Refusal) (found : Option Refusal) (part : Part) → IsOfDeclaring refusal → IsSaid refusal found → found ≡ Some (Refusal.Outside part) → ⊥
declaring_no_outside refusal found part kind is_said = declaring_said refusal found (λ f. f ≡ Some (Refusal.Outside part) → ⊥) kind is_said (λ cause e. cc e) (λ cause e. cc e) (λ e. cc e)

-- what can't be declared begins no run
pub declaring_unbegun : (refusal : Refusal) (found : Option Refusal) → IsOfDeclaring refusal → IsSaid refusal found → IsUnbegun found
declaring_unbegun refusal found kind is_said = declaring_said refusal found IsUnbegun kind is_said (λ cause. tt) (λ cause. tt) tt

-- a count that rose in a call rose since before it
rose_before : (old between new : ℕ) → old ≤ between → between ≤ new → Rose between new → Rose old new
rose_before old between new first second (inl r) = inl (omega arith)
rose_before old between new first second (inr r) = at (cases_lt old between)
  where
    at : (old < between) ⊎ (between ≤ old) → Rose old new
    at (inl l) = inl (omega arith)
    at (inr l) = inr (omega arith)

abbrev given : Options → Result Options Refusal
given options = Ok options

-- a refusal that may stand in the place of each that can't be declared
abbrev Free : Refusal → Type 0
Free r = (expected : Refusal) → IsUndeclared expected (Some r)

module _ (words : List (List ℕ)) (env : Variables) (cwd : List ℕ) (told : Option Contents) where
  -- a fact on what is declared of the project that was asked for, as the files tell it later
  pub if_declared : (later : Option Contents) (asked : Asked) (Fact : Result Declared Refusal → Type 0) → later ≡ told → IfSome told (λ contents. MeansAs (meaning words env cwd contents) (Ok asked))
      → command_of words env ≡ Some asked.options.command → IfSome later (λ contents. Fact (declared_from contents asked.options.command asked.loaded)) → IfDeclared words env cwd told Fact
  if_declared later asked Fact same means is fact = at told means (subst (λ (t : Option Contents). IfSome t (λ contents. Fact (declared_from contents asked.options.command asked.loaded))) same fact)
    where
      if_aim : (aim : Option Aim) (A : Type 0) → A → IfSome aim (λ _. A)
      if_aim None A a = tt
      if_aim (Some aim) A a = a

      at : (told : Option Contents) → IfSome told (λ contents. MeansAs (meaning words env cwd contents) (Ok asked)) → IfSome told (λ contents. Fact (declared_from contents asked.options.command asked.loaded)) → IfDeclared words env cwd told Fact
      at None means fact = tt
      at (Some contents) means fact = rw (means, is) (if_aim (aim_for asked.options.command) (Fact (declared_from contents asked.options.command asked.loaded)) fact)

  -- nothing is declared by words that run nothing
  pub if_declared_idle : (Fact : Result Declared Refusal → Type 0) → aim_asked (command_of words env) ≡ None → IfDeclared words env cwd told Fact
  if_declared_idle Fact none = at told
    where
      unaimed : (aim : Option Aim) (A : Type 0) → aim ≡ None → IfSome aim (λ _. A)
      unaimed aim A e = subst (λ (o : Option Aim). IfSome o (λ _. A)) (sym e) tt

      by : (command : Option Command) (F : Command → Type 0) → aim_asked command ≡ None → IfSome command (λ c. IfSome (aim_for c) (λ _. F c))
      by None F e = tt
      by (Some command) F e = unaimed (aim_for command) (F command) e

      one : (contents : Contents) (meant : Result LoadedProject Refusal) → IfOk meant (λ loaded. IfSome (command_of words env) (λ command. IfSome (aim_for command) (λ _. Fact (declared_from contents command loaded))))
      one contents (Ok loaded) = by (command_of words env) (λ command. Fact (declared_from contents command loaded)) none
      one contents (Err refusal) = tt

      at : (told : Option Contents) → IfDeclared words env cwd told Fact
      at None = tt
      at (Some contents) = one contents (meaning words env cwd contents)

  -- a fact that holds where a project is loaded holds where it is declared
  pub loads_declared : (A : Type 0) (Fact : Result Declared Refusal → Type 0) → IfLoads words env cwd told A → ((meant : Result Declared Refusal) → A → Fact meant) → IfDeclared words env cwd told Fact
  loads_declared A Fact h k = at told h
    where
      if_aim : (aim : Option Aim) (B : Type 0) → B → IfSome aim (λ _. B)
      if_aim None B b = tt
      if_aim (Some aim) B b = b

      by : (contents : Contents) (loaded : LoadedProject) (command : Option Command) → A → IfSome command (λ c. IfSome (aim_for c) (λ _. Fact (declared_from contents c loaded)))
      by contents loaded None a = tt
      by contents loaded (Some command) a = if_aim (aim_for command) (Fact (declared_from contents command loaded)) (k (declared_from contents command loaded) a)

      one : (contents : Contents) (meant : Result LoadedProject Refusal) → IfOk meant (λ _. A) → IfOk meant (λ loaded. IfSome (command_of words env) (λ command. IfSome (aim_for command) (λ _. Fact (declared_from contents command loaded))))
      one contents (Ok loaded) a = by contents loaded (command_of words env) a
      one contents (Err refusal) a = tt

      at : (told : Option Contents) → IfLoads words env cwd told A → IfDeclared words env cwd told Fact
      at None h = tt
      at (Some contents) h = one contents (meaning words env cwd contents) h

  -- a refusal in place of a project that is meant may stand in the place of each that can't be declared
  pub asking_undeclared : {H : Type 0} (refusal : Refusal) (ended : Ended H) → SendsNothing ended → IfSome told (λ contents. MeansAs (meaning words env cwd contents) (answered refusal)) → IsSaid refusal ended.refusal
      → IfDeclared words env cwd told (λ meant. IfErr meant (λ r. SendsNothing ended × IsUndeclared r ended.refusal))
  asking_undeclared refusal ended nothing means is_said =
      loads_declared (Free refusal) (λ meant. IfErr meant (λ r. SendsNothing ended × IsUndeclared r ended.refusal))
      (not_loaded words env cwd told Free refusal means (λ expected. tt) (λ path e expected. tt))
      (λ meant free. all meant (λ expected. (nothing, said refusal ended.refusal is_said (λ f. IsUndeclared expected f) tt (free expected))))
    where
      all : (meant : Result Declared Refusal) → ((expected : Refusal) → SendsNothing ended × IsUndeclared expected ended.refusal) → IfErr meant (λ r. SendsNothing ended × IsUndeclared r ended.refusal)
      all (Ok declared) h = tt
      all (Err expected) h = h expected

  module _ (old new : ℕ) where
    -- a read of a Compose file that failed is one of the call
    pub loads_fault : (found : Option Refusal) → IfLoads words env cwd told (IsReadFault words env cwd told old new found)
        → IfDeclared words env cwd told (λ meant. IfOk meant (λ _. IsFaultOfReads words env cwd told old new found))
    loads_fault found h = loads_declared (IsReadFault words env cwd told old new found) (λ meant. IfOk meant (λ _. IsFaultOfReads words env cwd told old new found)) h (λ meant fault. all meant (inl fault))
      where
        all : (meant : Result Declared Refusal) → IsFaultOfReads words env cwd told old new found → IfOk meant (λ _. IsFaultOfReads words env cwd told old new found)
        all (Ok declared) fault = fault
        all (Err refusal) fault = tt

    -- a read for a digest that failed is one of the call: after it loaded the project, as the files tell it then
    pub digest_read : (later : Option Contents) (asked : Asked) (between : ℕ) (path : List ℕ) → later ≡ told → options_asked words env ≡ Ok asked.options → IsSpelled words env cwd told asked.loaded → old ≤ between → between ≤ new
        → IsFailedDigest later asked.options.command asked.loaded.project between new path → IsFailedDigestRead words env cwd told old new path
    digest_read later asked between path same is spelled first second failed =
        let both : Ok spelled.0 ≡ given asked.options = sym spelled.1 ∙ is in
        let options : spelled.0 ≡ asked.options = cc both in (
          asked.options,
          is,
          asked.loaded,
          subst (λ (o : Options). IsLoaded o env cwd told asked.loaded) options spelled.2,
          (
            subst (λ (t : Option Contents). AreDigests t asked.options.command asked.loaded.project (Err (DigestRefusal.ReadFault path))) same failed.0,
            rose_before old between new first second failed.1,
          ),
        )

    pub digest_faults : (later : Option Contents) (asked : Asked) (between : ℕ) (found : Option Refusal) → later ≡ told → options_asked words env ≡ Ok asked.options → IsSpelled words env cwd told asked.loaded → old ≤ between → between ≤ new
        → (meant : Result Declared Refusal) → IfOk meant (λ _. IsDigestOf asked.options.command asked.loaded.project later between new found) → IfOk meant (λ _. IsFaultOfReads words env cwd told old new found)
    digest_faults later asked between found same is spelled first second (Ok declared) fault =
        inr (fault.0, fault.1, digest_read later asked between fault.0 same is spelled first second fault.2)
    digest_faults later asked between found same is spelled first second (Err refusal) fault = tt
