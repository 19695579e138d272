-- What is declared, by the digests that were given.
use Rattle.std.proofs.Common.{◌≡◌, ◌∙◌, ◌⊎◌, ℕ, Bool, true, false, ◌||◌, List, Ok, Err, Some, None, ap, inl, inr, refl, subst, sym}
use Rattle.std.specs.Prelude.{Option, Result, IfErr, IfOk, IfSome, if◌then◌else◌}
use Rattle.asked_run.proofs.Told.{told_have}
use Rattle.asked_run.specs.Declaring.{AreDigests, Declares, DeclaresAs, ForDeclared, IsDeclared, IsFailedDigest, declared_by, declared_from, declared_or_refused, declared_with, digests_or_refused}
use Rattle.asked_run.specs.Told.{IsHindered, digests_for}
use Rattle.compose_words.specs.declared.Command.{Command}
use Rattle.compose_words.specs.declared.options.Scale.{Scale}
use Rattle.declared_laws.proofs.OwnSpecs.{declares_own}
use Rattle.declared_laws.proofs.Whole.{declares_whole}
use Rattle.declared_laws.specs.Laws.{AreNumbered}
use Rattle.declared_orders.proofs.Circles.{none_declared}
use Rattle.declared_orders.proofs.Places.{needs_dependencies}
use Rattle.declared_set.specs.Declaring.{declared, declared_of, unless_refused}
use Rattle.declared_set.specs.Declaring as declaring
use Rattle.declared_set.specs.Refusing.{refusal_of}
use Rattle.declared_set.specs.declared.IdentityRefusal.{IdentityRefusal}
use Rattle.declared_set.specs.declared.LoadedProject.{LoadedProject}
use Rattle.engine_types.specs.declared.Declared.{Declared}
use Rattle.file_digests.specs.Digests.{Given}
use Rattle.file_digests.specs.declared.DigestRefusal.{DigestRefusal}
use Rattle.outside_files.specs.Counts.{Rose}
use Rattle.outside_files.specs.Files.{Contents}
use Rattle.plan_core.specs.Order.{HasNoCycle}
use Rattle.refusals.specs.Origins.{digest_refusal, identity_refusal}
use Rattle.refusals.specs.Refused.{is_failed_digest, is_free_of_declaring, wants_memory}
use Rattle.refusals.specs.declared.Refusal.{Refusal}
use Rattle.run_laws.specs.Orders.{NeedsDependencies}
use Rattle.run_model.specs.Plans.{IsWhole}
use Rattle.service_graph.specs.Cycles.{cycle}
use Rattle.service_hashes.specs.declared.digest.FileDigest.{FileDigest}
use Rattle.tree_base.specs.Answers.{◌>>=◌, Fails, Gives, Unless}
use Rattle.typed_project.specs.Projects.{IsInOrder}
use Rattle.world_laws.specs.OwnSpecs.{HasOwnSpecs}

abbrev refused : Refusal → Result Declared Refusal
refused refusal = Err refusal

-- a refusal that wants memory is that want
memory_is : (refusal : Refusal) → wants_memory refusal ≡ true → refusal ≡ Refusal.Memory
memory_is (Refusal.Words words) e = absurd (cc e)
memory_is (Refusal.NotBuilt unbuilt) e = absurd (cc e)
memory_is (Refusal.Load load) e = absurd (cc e)
memory_is (Refusal.Name name) e = absurd (cc e)
memory_is (Refusal.Active active) e = absurd (cc e)
memory_is (Refusal.Project project) e = absurd (cc e)
memory_is (Refusal.Digest digest) e = absurd (cc e)
memory_is (Refusal.Identity identity) e = absurd (cc e)
memory_is (Refusal.Seen fault) e = absurd (cc e)
memory_is (Refusal.Request request outcome) e = absurd (cc e)
memory_is (Refusal.Condition slot condition report) e = absurd (cc e)
memory_is Refusal.Stopped e = absurd (cc e)
memory_is (Refusal.Late why) e = absurd (cc e)
memory_is (Refusal.Outside part) e = absurd (cc e)
memory_is Refusal.Memory e = refl

-- what a call gave that found memory is the answer
exactly : (result answer : Result Declared Refusal) → Gives wants_memory result answer → (result ≡ Err Refusal.Memory → ⊥) → result ≡ answer
exactly (Ok declared) answer h n = sym h
exactly (Err refusal) answer h n = at (wants_memory refusal) refl h
  where
    at : (wants : Bool) → wants_memory refusal ≡ wants → Unless wants (answer ≡ refused refusal) → refused refusal ≡ answer
    at true e h = absurd (n (ap refused (memory_is refusal e)))
    at false e h = sym h

-- the declared set that isn't refused is the one of the project
set_is : (loaded : LoadedProject) (scales : List Scale) (digests : List FileDigest) (given : Declared) → declared loaded scales digests ≡ Ok given → declared_of loaded scales digests ≡ given
set_is loaded scales digests given e = at (refusal_of loaded.project scales) e
  where
    at : (refusal : Option IdentityRefusal) → unless_refused (declared_of loaded scales digests) refusal ≡ Ok given → declared_of loaded scales digests ≡ given
    at None e = cc e
    at (Some refusal) e = absurd (cc e)

module _ (loaded : LoadedProject) (scales : List Scale) (digests : List FileDigest) (given : Declared) where
  pub set_whole : IsInOrder loaded.project.services → declared loaded scales digests ≡ Ok given → IsWhole given
  set_whole order e = subst IsWhole (set_is loaded scales digests given e) (declares_whole loaded scales digests order)

  pub set_own : AreNumbered scales loaded.project.services → declared loaded scales digests ≡ Ok given → HasOwnSpecs given
  set_own numbered e = subst HasOwnSpecs (set_is loaded scales digests given e) (declares_own loaded scales digests numbered)

  pub set_acyclic : IsInOrder loaded.project.services → cycle loaded.project.services ≡ None → declared loaded scales digests ≡ Ok given → HasNoCycle given
  set_acyclic order none e = subst HasNoCycle (set_is loaded scales digests given e) (none_declared loaded scales digests order none)

  pub set_needs : declared loaded scales digests ≡ Ok given → NeedsDependencies given
  set_needs e = subst NeedsDependencies (set_is loaded scales digests given e) (needs_dependencies loaded scales digests)

-- a refusal of what is declared is what the call is refused with
pub gives_refused : (answer : Result Declared IdentityRefusal) (refusal : IdentityRefusal) (joined : Refusal) → joined ≡ identity_refusal refusal → Fails declaring.wants_memory refusal answer
    → Fails wants_memory joined (declared_or_refused answer)
gives_refused answer refusal joined is h = subst (λ (r : Refusal). Fails wants_memory r (declared_or_refused answer)) (sym is) (at refusal h)
  where
    at : (refusal : IdentityRefusal) → Fails declaring.wants_memory refusal answer → Fails wants_memory (identity_refusal refusal) (declared_or_refused answer)
    at (IdentityRefusal.UnknownScale service) h = ap declared_or_refused h
    at (IdentityRefusal.TooManyNeeds count) h = ap declared_or_refused h
    at (IdentityRefusal.NameTwice name) h = ap declared_or_refused h
    at IdentityRefusal.Memory h = tt

-- a refusal of what is declared is no read that failed
pub identity_no_read : (refusal : IdentityRefusal) (joined : Refusal) → joined ≡ identity_refusal refusal → is_failed_digest joined ≡ false
identity_no_read refusal joined is = ap is_failed_digest is ∙ at refusal
  where
    at : (refusal : IdentityRefusal) → is_failed_digest (identity_refusal refusal) ≡ false
    at (IdentityRefusal.UnknownScale service) = refl
    at (IdentityRefusal.TooManyNeeds count) = refl
    at (IdentityRefusal.NameTwice name) = refl
    at IdentityRefusal.Memory = refl

module _ (told : Option Contents) (command : Command) (loaded : LoadedProject) where
  -- what was declared by digests that were given
  pub declares_with : (digests : List FileDigest) (result : Result Declared Refusal) → AreDigests told command loaded.project (Ok digests) → Gives wants_memory result (declared_with command loaded digests)
      → (result ≡ Err Refusal.Memory → ⊥) → Declares told command loaded result
  declares_with digests result are h n = (Ok digests, are, exactly result (declared_with command loaded digests) h n)

  -- a refusal of digests
  pub declares_refused : (refusal : DigestRefusal) (joined : Refusal) → joined ≡ digest_refusal refusal → ((refusal ≡ DigestRefusal.Memory → ⊥) → AreDigests told command loaded.project (Err refusal))
      → (refused joined ≡ Err Refusal.Memory → ⊥) → Declares told command loaded (Err joined)
  declares_refused refusal joined is are n = (Err refusal, are (λ e. n (ap refused (is ∙ ap digest_refusal e))), ap refused is)

  -- the set is declared by digests
  pub is_declared : (digests : List FileDigest) (result : Result Declared Refusal) → AreDigests told command loaded.project (Ok digests) → Gives wants_memory result (declared_with command loaded digests)
      → IfOk result (λ declared. IsDeclared told command loaded declared)
  is_declared digests (Ok declared) are h = (digests, are, h)
  is_declared digests (Err refusal) are h = tt

  -- a read that failed is one that the command asks for
  pub read_failed : (refusal : DigestRefusal) (joined : Refusal) (path : List ℕ) (old new : ℕ) → joined ≡ digest_refusal refusal → joined ≡ Refusal.Digest (DigestRefusal.ReadFault path)
      → ((refusal ≡ DigestRefusal.Memory → ⊥) → AreDigests told command loaded.project (Err refusal)) → ((at : List ℕ) → refusal ≡ DigestRefusal.ReadFault at → Rose old new) → IsFailedDigest told command loaded.project old new path
  read_failed refusal joined path old new is e are rose =
      let same : refusal ≡ DigestRefusal.ReadFault path = at refusal (sym is ∙ e) in
      (subst (λ (r : DigestRefusal). AreDigests told command loaded.project (Err r)) same (are (λ f. let bad : DigestRefusal.ReadFault path ≡ DigestRefusal.Memory = sym same ∙ f in absurd (cc bad))), rose path same)
    where
      at : (refusal : DigestRefusal) → digest_refusal refusal ≡ Refusal.Digest (DigestRefusal.ReadFault path) → refusal ≡ DigestRefusal.ReadFault path
      at (DigestRefusal.NotFound found) e = cc e
      at (DigestRefusal.ReadFault found) e = cc e
      at (DigestRefusal.FileTooLarge found) e = cc e
      at DigestRefusal.Memory e = absurd (cc e)

-- a call that had its digests failed in no read
pub no_read : (result : Result Declared Refusal) (path : List ℕ) → IfErr result (λ refusal. is_failed_digest refusal ≡ false) → result ≡ Err (Refusal.Digest (DigestRefusal.ReadFault path)) → ⊥
no_read (Ok declared) path h e = cc e
no_read (Err refusal) path h e =
    let same : refusal ≡ Refusal.Digest (DigestRefusal.ReadFault path) = cc e in
    let bad : true ≡ false = sym (ap is_failed_digest same) ∙ h in cc bad

-- where the files are told, what some answers give is what they have
module _ (files : Contents) (command : Command) (loaded : LoadedProject) where
  as_told : (result : Result Declared Refusal) → Declares (Some files) command loaded result → (result ≡ declared_from files command loaded) ⊎ ((refusal : Refusal) × (result ≡ Err refusal) × (is_free_of_declaring refusal ≡ true))
  as_told result h = at h.0 (told_have files command loaded.project h.0 h.1) h.2
    where
      at : (given : Given) → (given ≡ digests_for files command loaded.project) ⊎ IsHindered given → result ≡ declared_by command loaded given
          → (result ≡ declared_from files command loaded) ⊎ ((refusal : Refusal) × (result ≡ Err refusal) × (is_free_of_declaring refusal ≡ true))
      at given (inl e) is = inl (is ∙ ap (declared_by command loaded) e)
      at given (inr (inl e)) is = inr (Refusal.Memory, is ∙ ap (declared_by command loaded) e, refl)
      at given (inr (inr e)) is = inr (Refusal.Digest (DigestRefusal.ReadFault e.0), is ∙ ap (declared_by command loaded) e.1, refl)

  declares_as : (result : Result Declared Refusal) → ((result ≡ Err Refusal.Memory → ⊥) → Declares (Some files) command loaded result) → DeclaresAs (declared_from files command loaded) result
  declares_as (Ok declared) h = at (as_told (Ok declared) (h (λ e. cc e)))
    where
      at : (Ok declared ≡ declared_from files command loaded) ⊎ ((refusal : Refusal) × (Ok declared ≡ refused refusal) × (is_free_of_declaring refusal ≡ true)) → declared_from files command loaded ≡ Ok declared
      at (inl e) = sym e
      at (inr free) = absurd (cc (free.1))
  declares_as (Err refusal) h = at (is_free_of_declaring refusal) refl
    where
      told_one : is_free_of_declaring refusal ≡ false → (refused refusal ≡ declared_from files command loaded) ⊎ ((r : Refusal) × (refused refusal ≡ Err r) × (is_free_of_declaring r ≡ true)) → declared_from files command loaded ≡ refused refusal
      told_one e (inl is) = sym is
      told_one e (inr free) = let same : refusal ≡ free.0 = cc (free.1) in let bad : false ≡ true = sym e ∙ ap is_free_of_declaring same ∙ free.2 in absurd (cc bad)

      no_memory : is_free_of_declaring refusal ≡ false → refused refusal ≡ Err Refusal.Memory → ⊥
      no_memory e is = let same : refusal ≡ Refusal.Memory = cc is in let bad : false ≡ true = sym e ∙ ap is_free_of_declaring same in absurd (cc bad)

      at : (free : Bool) → is_free_of_declaring refusal ≡ free → Unless free (declared_from files command loaded ≡ Err refusal)
      at true e = tt
      at false e = told_one e (as_told (Err refusal) (h (no_memory e)))

-- the same where files may be told
pub told_as : (told : Option Contents) (command : Command) (loaded : LoadedProject) (result : Result Declared Refusal) → ((result ≡ Err Refusal.Memory → ⊥) → Declares told command loaded result)
    → IfSome told (λ contents. DeclaresAs (declared_from contents command loaded) result)
told_as None command loaded result h = tt
told_as (Some files) command loaded result h = declares_as files command loaded result h

-- a fact on the set that a call declared
pub for_declared : (told : Option Contents) (command : Command) (loaded : LoadedProject) (declared : Declared) (Fact : Declared → Type 0) → IfSome told (λ contents. DeclaresAs (declared_from contents command loaded) (Ok declared))
    → IsDeclared told command loaded declared → Fact declared → ForDeclared told command loaded Fact
for_declared None command loaded declared Fact means is fact = (declared, is, fact)
for_declared (Some files) command loaded declared Fact means is fact = (declared, means, fact)
