-- Facts on the project that was asked for, and on what was refused.
use Rattle.std.proofs.Common.{◌≡◌, Bool, true, false, List, ℕ, Some, None, Ok, Err, refl, subst, sym, ap}
use Rattle.std.specs.Prelude.{Option, Result, IfErr, IfOk, IfSome, IsTrue}
use Rattle.asked_project.specs.Asking.{Variables, command_in, command_of, options_asked}
use Rattle.asked_project.specs.Meaning.{IsFailedRead, IsSpelled, MeansAs, meaning}
use Rattle.asked_project.specs.declared.Asked.{Asked}
use Rattle.compose_config.specs.Commands.{ForProject, IfLoads, IsOfConfig, IsReadFault, OnlyOutsideFails}
use Rattle.compose_words.specs.declared.Options.{Options}
use Rattle.declared_set.specs.declared.LoadedProject.{LoadedProject}
use Rattle.loaded_files.specs.declared.LoadRefusal.{LoadRefusal}
use Rattle.outside_files.specs.Files.{Contents}
use Rattle.refusals.proofs.Said.{said}
use Rattle.refusals.specs.Origins.{IsOfAsking, is_of_words}
use Rattle.refusals.specs.Refused.{IsRefusal, is_free, wants_memory}
use Rattle.refusals.specs.Saying.{IsSaid}
use Rattle.refusals.specs.declared.Refusal.{Refusal}
use Rattle.tree_base.specs.Answers.{Gives, Unless}

-- a fact that follows from another one, of what may be there
pub IfSome-map : {A : Type 0} (o : Option A) (P Q : A → Type 0) → IfSome o P → ((x : A) → P x → Q x) → IfSome o Q
IfSome-map None P Q h k = tt
IfSome-map (Some x) P Q h k = k x h

abbrev pub answered : Refusal → Result Asked Refusal
answered refusal = Err refusal

abbrev pub given : Asked → Result Asked Refusal
given asked = Ok asked

-- where something is meant to be refused, a call is refused so
abbrev pub IsRefusedAs : Result LoadedProject Refusal → Option Refusal → Type 0
IsRefusedAs meant found = IfErr meant (λ refusal. IsRefusal refusal found)

pub free_memory : (meant : Result LoadedProject Refusal) → IsRefusedAs meant (Some Refusal.Memory)
free_memory (Ok project) = tt
free_memory (Err refusal) = tt

-- what was answered is what is meant
pub means_refusal : (meant : Result LoadedProject Refusal) (refusal : Refusal) → MeansAs meant (answered refusal) → IsRefusedAs meant (Some refusal)
means_refusal meant refusal h = at (is_free refusal) meant h
  where
    at : (free : Bool) (meant : Result LoadedProject Refusal) → Unless free (meant ≡ Err refusal) → IfErr meant (λ expected. Unless free (refusal ≡ expected))
    at true (Ok project) h = tt
    at true (Err expected) h = tt
    at false (Ok project) h = tt
    at false (Err expected) h = let same : expected ≡ refusal = cc h in sym same

-- the same of what is said
pub said_refusal : (meant : Result LoadedProject Refusal) (refusal : Refusal) (found : Option Refusal) → MeansAs meant (answered refusal) → IsSaid refusal found → IsRefusedAs meant found
said_refusal meant refusal found h is_said = said refusal found is_said (IsRefusedAs meant) (free_memory meant) (means_refusal meant refusal h)

-- a project that is meant isn't refused
pub means_unrefused : (Fact : Refusal → Type 0) (meant : Result LoadedProject Refusal) (asked : Asked) → MeansAs meant (given asked) → IfErr meant Fact
means_unrefused Fact meant asked h = subst (λ (m : Result LoadedProject Refusal). IfErr m Fact) (sym h) tt

-- a want of memory that was said stands in the place of any refusal
memory_said : (refusal expected : Refusal) (found : Option Refusal) → wants_memory refusal ≡ true → IsSaid refusal found → IsSaid expected found
memory_said Refusal.Memory expected found wants s = said Refusal.Memory found s (IsSaid expected) tt tt
memory_said (Refusal.Words words) expected found wants s = absurd (cc wants)
memory_said (Refusal.NotBuilt unbuilt) expected found wants s = absurd (cc wants)
memory_said (Refusal.Load load) expected found wants s = absurd (cc wants)
memory_said (Refusal.Name name) expected found wants s = absurd (cc wants)
memory_said (Refusal.Active active) expected found wants s = absurd (cc wants)
memory_said (Refusal.Project project) expected found wants s = absurd (cc wants)
memory_said (Refusal.Digest digest) expected found wants s = absurd (cc wants)
memory_said (Refusal.Identity identity) expected found wants s = absurd (cc wants)
memory_said (Refusal.Seen fault) expected found wants s = absurd (cc wants)
memory_said (Refusal.Request request outcome) expected found wants s = absurd (cc wants)
memory_said (Refusal.Condition slot condition report) expected found wants s = absurd (cc wants)
memory_said Refusal.Stopped expected found wants s = absurd (cc wants)
memory_said (Refusal.Late why) expected found wants s = absurd (cc wants)
memory_said (Refusal.Outside part) expected found wants s = absurd (cc wants)

module _ (words : List (List ℕ)) (env : Variables) where
  -- what words are refused with is said, unless memory was wanted
  abbrev SaysWords : Option Refusal → Type 0
  SaysWords found = IfErr (options_asked words env) (λ refusal. IsSaid refusal found)

  pub said_words : (refusal : Refusal) (found : Option Refusal) → IfErr (options_asked words env) (λ expected. Gives wants_memory (answered refusal) (Err expected)) → IsSaid refusal found → SaysWords found
  said_words refusal found h is_said = at (options_asked words env) h
    where
      one : (expected : Refusal) (wants : Bool) → wants_memory refusal ≡ wants → Unless wants (answered expected ≡ answered refusal) → IsSaid expected found
      one expected true is h = memory_said refusal expected found is is_said
      one expected false is h = let same : expected ≡ refusal = cc h in subst (λ (r : Refusal). IsSaid r found) (sym same) is_said

      at : (asked : Result Options Refusal) → IfErr asked (λ expected. Gives wants_memory (answered refusal) (Err expected)) → IfErr asked (λ expected. IsSaid expected found)
      at (Ok options) h = tt
      at (Err expected) h = one expected (wants_memory refusal) refl h

  -- words that have options aren't refused
  pub no_words_refused : (Fact : Refusal → Type 0) (options : Options) → options_asked words env ≡ Ok options → IfErr (options_asked words env) Fact
  no_words_refused Fact options is = subst (λ (asked : Result Options Refusal). IfErr asked Fact) (sym is) tt

  pub command_is : (options : Options) → options_asked words env ≡ Ok options → command_of words env ≡ Some options.command
  command_is options is = ap command_in is

  abbrev Exactly : Option Refusal → Type 0
  Exactly found = (w : Refusal) → IsTrue (is_of_words w) → found ≡ Some w → options_asked words env ≡ Err w

  no_memory : Exactly (Some Refusal.Memory)
  no_memory w h same =
      let is : Refusal.Memory ≡ w = cc same in
      let bad : IsTrue false = subst (λ (r : Refusal). IsTrue (is_of_words r)) (sym is) h in
      absurd (cc bad)

  exact : (refusal : Refusal) → (IsTrue (is_of_words refusal) → options_asked words env ≡ Err refusal) → Exactly (Some refusal)
  exact refusal only w h same =
      let is : refusal ≡ w = cc same in
      subst (λ (r : Refusal). options_asked words env ≡ Err r) is (only (subst (λ (r : Refusal). IsTrue (is_of_words r)) (sym is) h))

  -- a refusal of words that was said is the one that they have
  pub said_exactly : (refusal found_words : Refusal) (found : Option Refusal) → (IsTrue (is_of_words refusal) → options_asked words env ≡ Err refusal) → IsSaid refusal found → IsTrue (is_of_words found_words)
      → found ≡ Some found_words → options_asked words env ≡ Err found_words
  said_exactly refusal found_words found only is_said of_words e = said refusal found is_said Exactly no_memory (exact refusal only) found_words of_words e

  module _ (cwd : List ℕ) (told : Option Contents) where
    -- a fact on the project that was answered is one on the project that is meant
    pub for_project : (asked : Asked) (Fact : LoadedProject → Type 0) → IfSome told (λ contents. MeansAs (meaning words env cwd contents) (given asked)) → IsSpelled words env cwd told asked.loaded → Fact asked.loaded → ForProject words env cwd told Fact
    for_project asked Fact means spelled fact = at told means spelled
      where
        at : (told : Option Contents) → IfSome told (λ contents. MeansAs (meaning words env cwd contents) (given asked)) → IsSpelled words env cwd told asked.loaded → ForProject words env cwd told Fact
        at None h is = (asked.loaded, is, fact)
        at (Some contents) h is = (asked.loaded, h, fact)

    -- a fact holds also where a project is meant
    pub if_loads : (Fact : Type 0) → Fact → IfLoads words env cwd told Fact
    if_loads Fact fact = at told
      where
        one : (meant : Result LoadedProject Refusal) → IfOk meant (λ _. Fact)
        one (Ok project) = fact
        one (Err refusal) = tt

        at : (told : Option Contents) → IfLoads words env cwd told Fact
        at None = tt
        at (Some contents) = one (meaning words env cwd contents)

    pub loads_weaker : (First Second : Type 0) → IfLoads words env cwd told First → (First → Second) → IfLoads words env cwd told Second
    loads_weaker First Second h k = at told h
      where
        one : (meant : Result LoadedProject Refusal) → IfOk meant (λ _. First) → IfOk meant (λ _. Second)
        one (Ok project) fact = k fact
        one (Err refusal) fact = tt

        at : (told : Option Contents) → IfLoads words env cwd told First → IfLoads words env cwd told Second
        at None h = tt
        at (Some contents) h = one (meaning words env cwd contents) h

    -- a refusal in place of a project that is meant is a want of memory or a read that failed
    pub not_loaded : (Fact : Refusal → Type 0) (refusal : Refusal) → IfSome told (λ contents. MeansAs (meaning words env cwd contents) (answered refusal)) → Fact Refusal.Memory
        → ((path : List ℕ) → refusal ≡ Refusal.Load (LoadRefusal.ReadFault path) → Fact (Refusal.Load (LoadRefusal.ReadFault path))) → IfLoads words env cwd told (Fact refusal)
    not_loaded Fact refusal h memory read = at told h
      where
        free : (refusal : Refusal) → is_free refusal ≡ true → ((path : List ℕ) → refusal ≡ Refusal.Load (LoadRefusal.ReadFault path) → Fact (Refusal.Load (LoadRefusal.ReadFault path))) → Fact refusal
        free Refusal.Memory e read = memory
        free (Refusal.Load (LoadRefusal.ReadFault path)) e read = read path refl
        free (Refusal.Load (LoadRefusal.NotFound path)) e read = absurd (cc e)
        free (Refusal.Load (LoadRefusal.FileTooLarge path)) e read = absurd (cc e)
        free (Refusal.Load (LoadRefusal.TooManyFiles path)) e read = absurd (cc e)
        free (Refusal.Load (LoadRefusal.NoHome path)) e read = absurd (cc e)
        free (Refusal.Load (LoadRefusal.Yaml path cause)) e read = absurd (cc e)
        free (Refusal.Load (LoadRefusal.EnvFile path cause)) e read = absurd (cc e)
        free (Refusal.Load (LoadRefusal.Subst path cause)) e read = absurd (cc e)
        free (Refusal.Load (LoadRefusal.Merge path cause)) e read = absurd (cc e)
        free (Refusal.Load (LoadRefusal.BadShape at)) e read = absurd (cc e)
        free (Refusal.Load (LoadRefusal.ExtendsCycle services)) e read = absurd (cc e)
        free (Refusal.Load (LoadRefusal.NoSuchBase file service)) e read = absurd (cc e)
        free (Refusal.Load (LoadRefusal.IncludeCycle files)) e read = absurd (cc e)
        free (Refusal.Load (LoadRefusal.Conflict kind key file)) e read = absurd (cc e)
        free (Refusal.Load LoadRefusal.Memory) e read = absurd (cc e)
        free (Refusal.Words words) e read = absurd (cc e)
        free (Refusal.NotBuilt unbuilt) e read = absurd (cc e)
        free (Refusal.Name name) e read = absurd (cc e)
        free (Refusal.Active active) e read = absurd (cc e)
        free (Refusal.Project project) e read = absurd (cc e)
        free (Refusal.Digest digest) e read = absurd (cc e)
        free (Refusal.Identity identity) e read = absurd (cc e)
        free (Refusal.Seen fault) e read = absurd (cc e)
        free (Refusal.Request request outcome) e read = absurd (cc e)
        free (Refusal.Condition slot condition report) e read = absurd (cc e)
        free Refusal.Stopped e read = absurd (cc e)
        free (Refusal.Late why) e read = absurd (cc e)
        free (Refusal.Outside part) e read = absurd (cc e)

        one : (is : Bool) (meant : Result LoadedProject Refusal) → is_free refusal ≡ is → Unless is (meant ≡ Err refusal) → IfOk meant (λ _. Fact refusal)
        one is (Err expected) e h = tt
        one true (Ok project) e h = free refusal e read
        one false (Ok project) e h = absurd (cc h)

        at : (told : Option Contents) → IfSome told (λ contents. MeansAs (meaning words env cwd contents) (answered refusal)) → IfLoads words env cwd told (Fact refusal)
        at None h = tt
        at (Some contents) h = one (is_free refusal) (meaning words env cwd contents) refl h

-- a read that failed and was said
pub said_read : (refusal : Refusal) (found : Option Refusal) (path : List ℕ) → IsSaid refusal found → found ≡ Some (Refusal.Load (LoadRefusal.ReadFault path)) → refusal ≡ Refusal.Load (LoadRefusal.ReadFault path)
said_read refusal found path is_said e =
    let same : Some (Refusal.Load (LoadRefusal.ReadFault path)) ≡ Some refusal = subst (IsSaid refusal) e is_said in
    cc same

-- a refusal of what was asked for is no fault of the plug or of the output, and was said
pub asking_kind : (refusal : Refusal) (found : Option Refusal) → IsOfAsking refusal → IsSaid refusal found → IsOfConfig found
asking_kind refusal found before is_said = said refusal found is_said IsOfConfig tt (at refusal before)
  where
    at : (refusal : Refusal) → IsOfAsking refusal → IsOfConfig (Some refusal)
    at Refusal.Memory h = tt
    at (Refusal.Words words) h = tt
    at (Refusal.NotBuilt unbuilt) h = tt
    at (Refusal.Load load) h = tt
    at (Refusal.Name name) h = tt
    at (Refusal.Active active) h = tt
    at (Refusal.Project project) h = tt
    at (Refusal.Digest digest) h = absurd h
    at (Refusal.Identity identity) h = absurd h
    at (Refusal.Seen fault) h = absurd h
    at (Refusal.Request request outcome) h = absurd h
    at (Refusal.Condition slot condition report) h = absurd h
    at Refusal.Stopped h = absurd h
    at (Refusal.Late why) h = absurd h
    at (Refusal.Outside part) h = absurd h

pub asking_no_outside : (refusal : Refusal) (found : Option Refusal) → IsOfAsking refusal → IsSaid refusal found → (part : _) → found ≡ Some (Refusal.Outside part) → ⊥
asking_no_outside refusal found before is_said part e =
    let same : Some (Refusal.Outside part) ≡ Some refusal = subst (IsSaid refusal) e is_said in
    let is : Refusal.Outside part ≡ refusal = cc same in
    subst IsOfAsking (sym is) before

-- what was said is a refusal
pub said_some : (refusal : Refusal) (found : Option Refusal) → IsSaid refusal found → found ≡ None → ⊥
said_some refusal found is_said e = let bad : IsSaid refusal None = subst (IsSaid refusal) e is_said in cc bad

-- nothing but what is outside hinders a call that is meant to have a project, where a refusal was said
module _ (words : List (List ℕ)) (env : Variables) (cwd : List ℕ) (told : Option Contents) (files_old files_new out_old out_new : ℕ) where
  abbrev Failed : Option Refusal → Type 0
  Failed found = IsReadFault words env cwd told files_old files_new found

  abbrev Hindered : Option Refusal → Type 0
  Hindered found = OnlyOutsideFails Failed out_old out_new found

  pub only_outside : (refusal : Refusal) (found : Option Refusal) → IfSome told (λ contents. MeansAs (meaning words env cwd contents) (answered refusal))
      → ((path : List ℕ) → refusal ≡ Refusal.Load (LoadRefusal.ReadFault path) → IsFailedRead words env cwd told files_old files_new path) → IsSaid refusal found
      → IfLoads words env cwd told (Hindered found)
  only_outside refusal found means read is_said =
      loads_weaker words env cwd told (Hindered (Some refusal)) (Hindered found) (not_loaded words env cwd told (λ r. Hindered (Some r)) refusal means tt read)
      (λ only. said refusal found is_said Hindered tt only)
