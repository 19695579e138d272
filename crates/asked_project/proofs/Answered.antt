-- What a call is asked, by its words and by what was loaded.
use Rattle.std.proofs.Common.{◌≡◌, ◌∙◌, ◌⊎◌, ℕ, Bool, true, false, ◌||◌, List, Ok, Err, Some, None, inl, inr, refl, sym, ap, subst}
use Rattle.std.specs.Prelude.{Option, Result, IfErr, IfOk, IfSome, IsTrue}
use Rattle.asked_project.specs.Asking.{Variables, command_in, command_of, options_asked}
use Rattle.asked_project.specs.Meaning.{IsFailedLoad, IsLoaded, IsSpelled, MeansAs, load_for, loaded_or_refused, meaning, project_for, project_loaded}
use Rattle.asked_project.specs.Parts.{IsOfProject, MeansFor, asked_with}
use Rattle.asked_project.specs.declared.asking.Asked.{Asked}
use Rattle.asked_project.proofs.Refusing.{words_no_memory}
use Rattle.compose_words.specs.declared.Options.{Options}
use Rattle.declared_set.specs.declared.LoadedProject.{LoadedProject}
use Rattle.loaded_files.proofs.Runs.{ran_told}
use Rattle.loaded_files.specs.Reads.{Load, Ran, loaded_from}
use Rattle.loaded_files.specs.Reads as reads
use Rattle.loaded_files.specs.declared.LoadRefusal.{LoadRefusal}
use Rattle.loaded_files.specs.declared.Loaded.{Loaded}
use Rattle.outside_files.specs.Counts.{Rose}
use Rattle.outside_files.specs.Files.{Contents}
use Rattle.refusals.proofs.Joined.{one_load}
use Rattle.refusals.specs.Origins.{IsOfAsking, is_of_words, load_refusal}
use Rattle.refusals.specs.Refused.{is_failed_read, is_free, wants_memory}
use Rattle.refusals.specs.Went.{ends_as, refused_as}
use Rattle.outside_files.specs.Reads.{Well}
use Rattle.refusals.specs.declared.Refusal.{Refusal}
use Rattle.typed_project.specs.DistinctNames.{IsKeyed}
use Rattle.tree_base.specs.Answers.{◌>>=◌, Fails, Gives, Unless}

pub IfSome-map : {A : Type 0} (o : Option A) (P Q : A → Type 0) → IfSome o P → ((x : A) → P x → Q x) → IfSome o Q
IfSome-map None P Q h k = tt
IfSome-map (Some x) P Q h k = k x h

pub IfSome-all : {A : Type 0} (o : Option A) (P : A → Type 0) → ((x : A) → P x) → IfSome o P
IfSome-all None P h = tt
IfSome-all (Some x) P h = h x

abbrev refusing : Refusal → Result Asked Refusal
refusing refusal = Err refusal

abbrev unloaded : LoadRefusal → Result Loaded LoadRefusal
unloaded refusal = Err refusal

-- what follows a refusal that may stand in the place of others
unless_free : (refusal : Refusal) (A B : Type 0) → Unless (wants_memory refusal) A → (A → B) → Unless (is_free refusal) B
unless_free refusal A B h k = at (wants_memory refusal) (is_failed_read refusal) h
  where
    at : (wants failed : Bool) → Unless wants A → Unless (wants || failed) B
    at true failed h = tt
    at false true h = tt
    at false false h = k h

-- a load that gave something, or was refused otherwise than for want of memory, ran so
ran_loaded : (told : Option Contents) (load : Load Loaded) (loaded : Loaded) → reads.Gives told (Ok loaded) load → Ran told load (Ok loaded)
ran_loaded told load loaded h = h (λ e. cc e)

module _ (options : Options) (env : Variables) (cwd : List ℕ) where
  abbrev load : Load Loaded
  load = load_for options env cwd

  module _ (files : Contents) where
    -- what was loaded means its project
    loaded_means : (loaded : Loaded) → Ran (Some files) load (Ok loaded) → project_for options env cwd files ≡ project_loaded options loaded
    loaded_means loaded h = at (ran_told files load (Ok loaded) h)
      where
        at : (Ok loaded ≡ loaded_from files load) ⊎ ((path : List ℕ) × (Ok loaded ≡ Err (LoadRefusal.ReadFault path))) → project_for options env cwd files ≡ project_loaded options loaded
        at (inl e) = ap (λ (r : Result Loaded LoadRefusal). loaded_or_refused r >>= project_loaded options) (sym e)
        at (inr failed) = absurd (cc (failed.1))

    as_asked : (meant project : Result LoadedProject Refusal) → Gives wants_memory project meant → MeansAs meant (asked_with options project)
    as_asked meant (Ok project) h = h
    as_asked meant (Err refusal) h = unless_free refusal (meant ≡ Err refusal) (meant ≡ Err refusal) h (λ e. e)

    means_project : (loaded : Loaded) (project : Result LoadedProject Refusal) → reads.Gives (Some files) (Ok loaded) load → Gives wants_memory project (project_loaded options loaded) → MeansFor options env cwd files (asked_with options project)
    means_project loaded project h k =
        subst (λ (meant : Result LoadedProject Refusal). MeansAs meant (asked_with options project)) (sym (loaded_means loaded (ran_loaded (Some files) load loaded h))) (as_asked (project_loaded options loaded) project k)

    -- a refusal of loading means what a call is refused with
    refused_means : (refusal : LoadRefusal) → (refusal ≡ LoadRefusal.Memory → ⊥) → ((path : List ℕ) → refusal ≡ LoadRefusal.ReadFault path → ⊥) → reads.Gives (Some files) (unloaded refusal) load
        → project_for options env cwd files ≡ Err (load_refusal refusal)
    refused_means refusal wanted failed h =
        at (ran_told files load (unloaded refusal) (h (λ e. let same : refusal ≡ LoadRefusal.Memory = cc e in wanted same)))
      where
        at : (unloaded refusal ≡ loaded_from files load) ⊎ ((path : List ℕ) × (unloaded refusal ≡ unloaded (LoadRefusal.ReadFault path))) → project_for options env cwd files ≡ Err (load_refusal refusal)
        at (inl e) = ap (λ (r : Result Loaded LoadRefusal). loaded_or_refused r >>= project_loaded options) (sym e)
        at (inr found) = let same : refusal ≡ LoadRefusal.ReadFault found.0 = cc found.1 in absurd (failed found.0 same)

    means_refusal : (refusal : LoadRefusal) → reads.Gives (Some files) (unloaded refusal) load → MeansFor options env cwd files (Err (load_refusal refusal))
    means_refusal (LoadRefusal.NotFound path) h = refused_means (LoadRefusal.NotFound path) (λ e. cc e) (λ path e. cc e) h
    means_refusal (LoadRefusal.ReadFault path) h = tt
    means_refusal (LoadRefusal.FileTooLarge path) h = refused_means (LoadRefusal.FileTooLarge path) (λ e. cc e) (λ path e. cc e) h
    means_refusal (LoadRefusal.TooManyFiles path) h = refused_means (LoadRefusal.TooManyFiles path) (λ e. cc e) (λ path e. cc e) h
    means_refusal (LoadRefusal.NoHome path) h = refused_means (LoadRefusal.NoHome path) (λ e. cc e) (λ path e. cc e) h
    means_refusal (LoadRefusal.Yaml path cause) h = refused_means (LoadRefusal.Yaml path cause) (λ e. cc e) (λ path e. cc e) h
    means_refusal (LoadRefusal.EnvFile path cause) h = refused_means (LoadRefusal.EnvFile path cause) (λ e. cc e) (λ path e. cc e) h
    means_refusal (LoadRefusal.Subst path cause) h = refused_means (LoadRefusal.Subst path cause) (λ e. cc e) (λ path e. cc e) h
    means_refusal (LoadRefusal.Merge path cause) h = refused_means (LoadRefusal.Merge path cause) (λ e. cc e) (λ path e. cc e) h
    means_refusal (LoadRefusal.BadShape at) h = refused_means (LoadRefusal.BadShape at) (λ e. cc e) (λ path e. cc e) h
    means_refusal (LoadRefusal.ExtendsCycle services) h = refused_means (LoadRefusal.ExtendsCycle services) (λ e. cc e) (λ path e. cc e) h
    means_refusal (LoadRefusal.NoSuchBase file service) h = refused_means (LoadRefusal.NoSuchBase file service) (λ e. cc e) (λ path e. cc e) h
    means_refusal (LoadRefusal.IncludeCycle paths) h = refused_means (LoadRefusal.IncludeCycle paths) (λ e. cc e) (λ path e. cc e) h
    means_refusal (LoadRefusal.Conflict kind key file) h = refused_means (LoadRefusal.Conflict kind key file) (λ e. cc e) (λ path e. cc e) h
    means_refusal LoadRefusal.Memory h = tt

  module _ (told : Option Contents) where
    -- the same where files tell what they hold
    pub loads_project : (loaded : Loaded) (project : Result LoadedProject Refusal) → reads.Gives told (Ok loaded) load → Gives wants_memory project (project_loaded options loaded)
        → IfSome told (λ contents. MeansFor options env cwd contents (asked_with options project))
    loads_project loaded project h k = at told h
      where
        at : (told : Option Contents) → reads.Gives told (Ok loaded) load → IfSome told (λ contents. MeansFor options env cwd contents (asked_with options project))
        at None h = tt
        at (Some contents) h = means_project contents loaded project h k

    pub loads_refused : (refusal : LoadRefusal) (joined : Refusal) → joined ≡ load_refusal refusal → reads.Gives told (unloaded refusal) load → IfSome told (λ contents. MeansFor options env cwd contents (Err joined))
    loads_refused refusal joined is h = subst (λ (r : Refusal). IfSome told (λ contents. MeansFor options env cwd contents (Err r))) (sym is) (at told h)
      where
        at : (told : Option Contents) → reads.Gives told (unloaded refusal) load → IfSome told (λ contents. MeansFor options env cwd contents (Err (load_refusal refusal)))
        at None h = tt
        at (Some contents) h = means_refusal contents refusal h

    -- a project that was loaded is one that some answers of reads give
    pub is_loaded : (loaded : Loaded) (project : Result LoadedProject Refusal) → reads.Gives told (Ok loaded) load → Gives wants_memory project (project_loaded options loaded)
        → IfOk (asked_with options project) (λ asked. IsLoaded options env cwd told asked.loaded)
    is_loaded loaded (Err refusal) h k = tt
    is_loaded loaded (Ok project) h k = (loaded, ran_loaded told load loaded h, k)

    -- a read that failed is one that the load comes to
    pub loads_read : (refusal : LoadRefusal) (joined : Refusal) (path : List ℕ) (old new : ℕ) → joined ≡ load_refusal refusal → joined ≡ Refusal.Load (LoadRefusal.ReadFault path) → reads.Gives told (unloaded refusal) load
        → ((at : List ℕ) → refusal ≡ LoadRefusal.ReadFault at → Rose old new) → IsFailedLoad options env cwd told old new path
    loads_read refusal joined path old new is e h rose =
        let same : refusal ≡ LoadRefusal.ReadFault path = one_load refusal (LoadRefusal.ReadFault path) (sym is ∙ e) in
        let ran : Ran told load (unloaded refusal) = h (λ f. let wanted : refusal ≡ LoadRefusal.Memory = cc f in let bad : LoadRefusal.ReadFault path ≡ LoadRefusal.Memory = sym same ∙ wanted in cc bad) in
        (subst (λ (r : LoadRefusal). Ran told load (unloaded r)) same ran, rose path same)

-- a refusal of loading is none of words
pub load_no_words : (refusal : LoadRefusal) → IsTrue (is_of_words (load_refusal refusal)) → ⊥
load_no_words (LoadRefusal.NotFound path) h = cc h
load_no_words (LoadRefusal.ReadFault path) h = cc h
load_no_words (LoadRefusal.FileTooLarge path) h = cc h
load_no_words (LoadRefusal.TooManyFiles path) h = cc h
load_no_words (LoadRefusal.NoHome path) h = cc h
load_no_words (LoadRefusal.Yaml path cause) h = cc h
load_no_words (LoadRefusal.EnvFile path cause) h = cc h
load_no_words (LoadRefusal.Subst path cause) h = cc h
load_no_words (LoadRefusal.Merge path cause) h = cc h
load_no_words (LoadRefusal.BadShape at) h = cc h
load_no_words (LoadRefusal.ExtendsCycle services) h = cc h
load_no_words (LoadRefusal.NoSuchBase file service) h = cc h
load_no_words (LoadRefusal.IncludeCycle files) h = cc h
load_no_words (LoadRefusal.Conflict kind key file) h = cc h
load_no_words LoadRefusal.Memory h = cc h

-- what holds of refusals of a project
project_no_words : (refusal : Refusal) → IsOfProject refusal → IsTrue (is_of_words refusal) → ⊥
project_no_words (Refusal.NotBuilt unbuilt) k h = k
project_no_words (Refusal.Words words) k h = k
project_no_words (Refusal.Load refusal) k h = k
project_no_words (Refusal.Name name) k h = cc h
project_no_words (Refusal.Active active) k h = cc h
project_no_words (Refusal.Project project) k h = cc h
project_no_words (Refusal.Digest digest) k h = k
project_no_words (Refusal.Identity identity) k h = k
project_no_words (Refusal.Seen fault) k h = k
project_no_words (Refusal.Request request outcome) k h = k
project_no_words (Refusal.Condition slot condition report) k h = k
project_no_words Refusal.Stopped k h = k
project_no_words (Refusal.Late why) k h = k
project_no_words (Refusal.Outside part) k h = k
project_no_words Refusal.Memory k h = cc h

project_went : (refusal : Refusal) → IsOfProject refusal → refused_as refusal ≡ Well
project_went (Refusal.Words words) k = refl
project_went (Refusal.NotBuilt unbuilt) k = refl
project_went (Refusal.Load load) k = absurd k
project_went (Refusal.Name name) k = refl
project_went (Refusal.Active active) k = refl
project_went (Refusal.Project project) k = refl
project_went (Refusal.Digest digest) k = absurd k
project_went (Refusal.Identity identity) k = refl
project_went (Refusal.Seen fault) k = refl
project_went (Refusal.Request request outcome) k = refl
project_went (Refusal.Condition slot condition report) k = refl
project_went Refusal.Stopped k = refl
project_went (Refusal.Late why) k = refl
project_went (Refusal.Outside part) k = refl
project_went Refusal.Memory k = refl

project_of_asking : (refusal : Refusal) → IsOfProject refusal → IsOfAsking refusal
project_of_asking (Refusal.NotBuilt unbuilt) k = tt
project_of_asking (Refusal.Words words) k = tt
project_of_asking (Refusal.Load refusal) k = tt
project_of_asking (Refusal.Name name) k = tt
project_of_asking (Refusal.Active active) k = tt
project_of_asking (Refusal.Project project) k = tt
project_of_asking (Refusal.Digest digest) k = absurd k
project_of_asking (Refusal.Identity identity) k = absurd k
project_of_asking (Refusal.Seen fault) k = absurd k
project_of_asking (Refusal.Request request outcome) k = absurd k
project_of_asking (Refusal.Condition slot condition report) k = absurd k
project_of_asking Refusal.Stopped k = absurd k
project_of_asking (Refusal.Late why) k = absurd k
project_of_asking (Refusal.Outside part) k = absurd k
project_of_asking Refusal.Memory k = tt

module _ (options : Options) where
  -- how a project that was loaded, or its refusal, answers
  pub with_keyed : (project : Result LoadedProject Refusal) → IfOk project (λ p. IsKeyed p.project) → IfOk (asked_with options project) (λ asked. IsKeyed asked.loaded.project)
  with_keyed (Ok project) h = h
  with_keyed (Err refusal) h = tt

  pub with_options : (project : Result LoadedProject Refusal) → IfOk (asked_with options project) (λ asked. asked.options ≡ options)
  with_options (Ok project) = refl
  with_options (Err refusal) = tt

  pub with_kind : (project : Result LoadedProject Refusal) → IfErr project IsOfProject → IfErr (asked_with options project) IsOfAsking
  with_kind (Ok project) h = tt
  with_kind (Err refusal) h = project_of_asking refusal h

  pub with_no_words : (project : Result LoadedProject Refusal) → IfErr project IsOfProject → IfErr (asked_with options project) (λ refusal. IsTrue (is_of_words refusal) → ⊥)
  with_no_words (Ok project) h = tt
  with_no_words (Err refusal) h = project_no_words refusal h

  pub with_went : (project : Result LoadedProject Refusal) (asked : Result Asked Refusal) → asked ≡ asked_with options project → IfErr project IsOfProject → ends_as asked ≡ Well
  with_went project asked is h = ap (λ (a : Result Asked Refusal). ends_as a) is ∙ at project h
    where
      at : (project : Result LoadedProject Refusal) → IfErr project IsOfProject → ends_as (asked_with options project) ≡ Well
      at (Ok project) h = refl
      at (Err refusal) h = project_went refusal h

  pub with_no_read : (project : Result LoadedProject Refusal) (path : List ℕ) → IfErr project IsOfProject → asked_with options project ≡ Err (Refusal.Load (LoadRefusal.ReadFault path)) → ⊥
  with_no_read (Ok project) path h e = cc e
  with_no_read (Err refusal) path h e = let same : refusal ≡ Refusal.Load (LoadRefusal.ReadFault path) = cc e in subst IsOfProject same h

abbrev next : Variables → List ℕ → Contents → Result Options Refusal → Result LoadedProject Refusal
next env cwd files asked = asked >>= λ options. project_for options env cwd files

module _ (words : List (List ℕ)) (env : Variables) where
  -- words that are built mean what their options mean
  pub means_loaded : (cwd : List ℕ) (files : Contents) (options : Options) (result : Result Asked Refusal) → options_asked words env ≡ Ok options → MeansFor options env cwd files result → MeansAs (meaning words env cwd files) result
  means_loaded cwd files options result e h = subst (λ (m : Result LoadedProject Refusal). MeansAs m result) (sym (ap (next env cwd files) e)) h

  -- words that are refused mean that refusal
  pub means_refused : (cwd : List ℕ) (files : Contents) (refusal : Refusal) → Fails wants_memory refusal (options_asked words env) → MeansAs (meaning words env cwd files) (Err refusal)
  means_refused cwd files refusal h = unless_free refusal (options_asked words env ≡ Err refusal) (meaning words env cwd files ≡ Err refusal) h (λ e. ap (next env cwd files) e)

  -- where words are refused, that is the answer, unless memory was wanted
  pub refused_answers : (refusal : Refusal) → Fails wants_memory refusal (options_asked words env) → IfErr (options_asked words env) (λ expected. Gives wants_memory (refusing refusal) (Err expected))
  refused_answers refusal h = at (wants_memory refusal) (options_asked words env) h
    where
      at : (wants : Bool) (asked : Result Options Refusal) → Unless wants (asked ≡ Err refusal) → IfErr asked (λ expected. Unless wants (refusing expected ≡ refusing refusal))
      at true (Ok options) h = tt
      at true (Err expected) h = tt
      at false (Ok options) h = tt
      at false (Err expected) h = let same : expected ≡ refusal = cc h in ap refusing same

  pub unrefused_answers : (options : Options) (result : Result Asked Refusal) → options_asked words env ≡ Ok options → IfErr (options_asked words env) (λ expected. Gives wants_memory result (Err expected))
  unrefused_answers options result e = subst (λ (asked : Result Options Refusal). IfErr asked (λ expected. Gives wants_memory result (Err expected))) (sym e) tt

  -- a refusal of words is the one that they have
  pub refused_exactly : (refusal : Refusal) → Fails wants_memory refusal (options_asked words env) → IsTrue (is_of_words refusal) → options_asked words env ≡ Err refusal
  refused_exactly refusal h of_words = subst (λ (wants : Bool). Unless wants (options_asked words env ≡ Err refusal)) (words_no_memory refusal of_words) h

  -- an answer for words that are built refuses no words, and has their options
  pub no_words : (result : Result Asked Refusal) → IfErr result (λ refusal. IsTrue (is_of_words refusal) → ⊥) → IfErr result (λ refusal. IsTrue (is_of_words refusal) → options_asked words env ≡ Err refusal)
  no_words (Ok asked) h = tt
  no_words (Err refusal) h = λ of_words. absurd (h of_words)

  pub same_options : (options : Options) (result : Result Asked Refusal) → options_asked words env ≡ Ok options → IfOk result (λ asked. asked.options ≡ options) → IfOk result (λ asked. options_asked words env ≡ Ok asked.options)
  same_options options (Err refusal) e h = tt
  same_options options (Ok asked) e h = e ∙ ap (λ (o : Options). Ok o) (sym h)

  -- a project that was loaded for the options of words is spelled by them
  pub is_spelled : (cwd : List ℕ) (told : Option Contents) (options : Options) (result : Result Asked Refusal) → options_asked words env ≡ Ok options → IfOk result (λ asked. IsLoaded options env cwd told asked.loaded)
      → IfOk result (λ asked. IsSpelled words env cwd told asked.loaded)
  is_spelled cwd told options (Err refusal) e h = tt
  is_spelled cwd told options (Ok asked) e h = (options, e, h)

  pub command_is : (options : Options) → options_asked words env ≡ Ok options → command_of words env ≡ Some options.command
  command_is options e = ap command_in e
