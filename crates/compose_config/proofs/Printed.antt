-- What a page leaves that was printed.
use Rattle.std.proofs.Common.{◌≡◌, ℕ, List, [], Some, None, length, refl, sym, ap, subst, arith, append-nil}
use Rattle.std.specs.Prelude.{IsTrue, Option}
use Rattle.std.proofs.Math.Seq.{take-length}
use Rattle.compose_config.specs.Commands.{GrewByPrefix, IsOfConfig, OnlyOutsideFails, PrintsPage, page_asked, page_for}
use Rattle.compose_words.specs.declared.Command.{Command}
use Rattle.outside_files.specs.Counts.{Rose}
use Rattle.outside_files.specs.Sinks.{GrewBy}
use Rattle.loaded_files.specs.declared.LoadRefusal.{LoadRefusal}
use Rattle.refusals.proofs.Said.{said_if_any}
use Rattle.refusals.specs.Origins.{IsOfLoading, is_of_words}
use Rattle.refusals.specs.Saying.{IsSaidIfAny}
use Rattle.refusals.specs.declared.Part.{Part}
use Rattle.refusals.specs.declared.Refusal.{Refusal}
use Rattle.typed_project.specs.declared.project.Project.{Project}

-- an output to which nothing was written grew by nothing
pub grew_by_nothing : (old : Option (List ℕ)) → GrewBy old [] old
grew_by_nothing None = refl
grew_by_nothing (Some text) = sym (ap (λ (t : List ℕ). Some t) (append-nil text))

module _ (page : List ℕ) (old new : Option (List ℕ)) (faults_old faults_new : ℕ) where
  whole_is_prefix : GrewBy old page new → GrewByPrefix old new page
  whole_is_prefix grew = (length page, omega arith, subst (λ (text : List ℕ). GrewBy old text new) (sym (take-length page)) grew)

  abbrev Prints : Option Refusal → Type 0
  Prints refusal = PrintsPage page refusal old new faults_old faults_new

  -- whatever became of the page, the output grew by a prefix of it
  pub page_prefix : (refusal : Option Refusal) → PrintsPage page refusal old new faults_old faults_new → GrewByPrefix old new page
  page_prefix None prints = whole_is_prefix prints
  page_prefix (Some (Refusal.Outside Part.Out)) prints = prints.1
  page_prefix (Some (Refusal.Outside Part.Plug)) prints = absurd prints
  page_prefix (Some Refusal.Memory) prints = prints
  page_prefix (Some (Refusal.Words words)) prints = absurd prints
  page_prefix (Some (Refusal.NotBuilt unbuilt)) prints = absurd prints
  page_prefix (Some (Refusal.Load load)) prints = absurd prints
  page_prefix (Some (Refusal.Name name)) prints = absurd prints
  page_prefix (Some (Refusal.Active active)) prints = absurd prints
  page_prefix (Some (Refusal.Project refusal)) prints = absurd prints
  page_prefix (Some (Refusal.Digest digest)) prints = absurd prints
  page_prefix (Some (Refusal.Identity identity)) prints = absurd prints
  page_prefix (Some (Refusal.Seen fault)) prints = absurd prints
  page_prefix (Some (Refusal.Request request outcome)) prints = absurd prints
  page_prefix (Some (Refusal.Condition slot condition report)) prints = absurd prints
  page_prefix (Some Refusal.Stopped) prints = absurd prints
  page_prefix (Some (Refusal.Late why)) prints = absurd prints

  -- a page that is said of, where there was no memory for the line
  pub page_said : (refusal found : Option Refusal) → IsSaidIfAny refusal found → PrintsPage page refusal old new faults_old faults_new → PrintsPage page found old new faults_old faults_new
  page_said refusal found is_said prints = said_if_any refusal found is_said Prints (page_prefix refusal prints) prints

  pub page_kept : (refusal found : Option Refusal) → found ≡ refusal → PrintsPage page refusal old new faults_old faults_new → PrintsPage page found old new faults_old faults_new
  page_kept refusal found e prints = subst Prints (sym e) prints

  -- what the refusal of a page may be
  abbrev IsOfPage : Option Refusal → Type 0
  IsOfPage None = Unit {0}
  IsOfPage (Some (Refusal.Outside Part.Out)) = Rose faults_old faults_new
  IsOfPage (Some Refusal.Memory) = Unit {0}
  IsOfPage _ = ⊥

  pub of_page : (refusal : Option Refusal) → PrintsPage page refusal old new faults_old faults_new → IsOfPage refusal
  of_page None prints = tt
  of_page (Some (Refusal.Outside Part.Out)) prints = prints.0
  of_page (Some (Refusal.Outside Part.Plug)) prints = absurd prints
  of_page (Some Refusal.Memory) prints = tt
  of_page (Some (Refusal.Words words)) prints = absurd prints
  of_page (Some (Refusal.NotBuilt unbuilt)) prints = absurd prints
  of_page (Some (Refusal.Load load)) prints = absurd prints
  of_page (Some (Refusal.Name name)) prints = absurd prints
  of_page (Some (Refusal.Active active)) prints = absurd prints
  of_page (Some (Refusal.Project refusal)) prints = absurd prints
  of_page (Some (Refusal.Digest digest)) prints = absurd prints
  of_page (Some (Refusal.Identity identity)) prints = absurd prints
  of_page (Some (Refusal.Seen fault)) prints = absurd prints
  of_page (Some (Refusal.Request request outcome)) prints = absurd prints
  of_page (Some (Refusal.Condition slot condition report)) prints = absurd prints
  of_page (Some Refusal.Stopped) prints = absurd prints
  of_page (Some (Refusal.Late why)) prints = absurd prints

  -- a project that was loaded is printed, unless memory is wanted or the output fails
  pub page_complete : (ReadFailed : Option Refusal → Type 0) (refusal : Option Refusal) → PrintsPage page refusal old new faults_old faults_new → OnlyOutsideFails ReadFailed faults_old faults_new refusal
  page_complete ReadFailed refusal prints = at refusal (of_page refusal prints)
    where
      at : (refusal : Option Refusal) → IsOfPage refusal → OnlyOutsideFails ReadFailed faults_old faults_new refusal
      at None h = tt
      at (Some (Refusal.Outside Part.Out)) h = h
      at (Some Refusal.Memory) h = tt
      at (Some (Refusal.Outside Part.Plug)) h = absurd h
      at (Some (Refusal.Words words)) h = absurd h
      at (Some (Refusal.NotBuilt unbuilt)) h = absurd h
      at (Some (Refusal.Load load)) h = absurd h
      at (Some (Refusal.Name name)) h = absurd h
      at (Some (Refusal.Active active)) h = absurd h
      at (Some (Refusal.Project refusal)) h = absurd h
      at (Some (Refusal.Digest digest)) h = absurd h
      at (Some (Refusal.Identity identity)) h = absurd h
      at (Some (Refusal.Seen fault)) h = absurd h
      at (Some (Refusal.Request request outcome)) h = absurd h
      at (Some (Refusal.Condition slot condition report)) h = absurd h
      at (Some Refusal.Stopped) h = absurd h
      at (Some (Refusal.Late why)) h = absurd h

  pub page_kind : (refusal : Option Refusal) → PrintsPage page refusal old new faults_old faults_new → IsOfConfig refusal
  page_kind refusal prints = at refusal (of_page refusal prints)
    where
      at : (refusal : Option Refusal) → IsOfPage refusal → IsOfConfig refusal
      at None h = tt
      at (Some (Refusal.Outside Part.Out)) h = tt
      at (Some Refusal.Memory) h = tt
      at (Some (Refusal.Outside Part.Plug)) h = absurd h
      at (Some (Refusal.Words words)) h = tt
      at (Some (Refusal.NotBuilt unbuilt)) h = absurd h
      at (Some (Refusal.Load load)) h = tt
      at (Some (Refusal.Name name)) h = tt
      at (Some (Refusal.Active active)) h = tt
      at (Some (Refusal.Project refusal)) h = tt
      at (Some (Refusal.Digest digest)) h = absurd h
      at (Some (Refusal.Identity identity)) h = absurd h
      at (Some (Refusal.Seen fault)) h = absurd h
      at (Some (Refusal.Request request outcome)) h = absurd h
      at (Some (Refusal.Condition slot condition report)) h = absurd h
      at (Some Refusal.Stopped) h = absurd h
      at (Some (Refusal.Late why)) h = absurd h

  pub page_no_loading : (refusal : Option Refusal) → PrintsPage page refusal old new faults_old faults_new → IsOfLoading refusal → ⊥
  page_no_loading refusal prints = at refusal (of_page refusal prints)
    where
      at : (refusal : Option Refusal) → IsOfPage refusal → IsOfLoading refusal → ⊥
      at None h l = l
      at (Some (Refusal.Outside Part.Out)) h l = l
      at (Some Refusal.Memory) h l = l
      at (Some (Refusal.Outside Part.Plug)) h l = h
      at (Some (Refusal.Words words)) h l = h
      at (Some (Refusal.NotBuilt unbuilt)) h l = h
      at (Some (Refusal.Load load)) h l = h
      at (Some (Refusal.Name name)) h l = h
      at (Some (Refusal.Active active)) h l = h
      at (Some (Refusal.Project refusal)) h l = h
      at (Some (Refusal.Digest digest)) h l = h
      at (Some (Refusal.Identity identity)) h l = h
      at (Some (Refusal.Seen fault)) h l = h
      at (Some (Refusal.Request request outcome)) h l = h
      at (Some (Refusal.Condition slot condition report)) h l = h
      at (Some Refusal.Stopped) h l = h
      at (Some (Refusal.Late why)) h l = h

  pub page_fault : (refusal : Option Refusal) → PrintsPage page refusal old new faults_old faults_new → refusal ≡ Some (Refusal.Outside Part.Out) → Rose faults_old faults_new
  page_fault refusal prints e = subst IsOfPage e (of_page refusal prints)

  pub page_no_read : (refusal : Option Refusal) (path : List ℕ) → PrintsPage page refusal old new faults_old faults_new → refusal ≡ Some (Refusal.Load (LoadRefusal.ReadFault path)) → ⊥
  page_no_read refusal path prints e = subst IsOfPage e (of_page refusal prints)

  pub page_no_words : (refusal : Option Refusal) (words : Refusal) → PrintsPage page refusal old new faults_old faults_new → IsTrue (is_of_words words) → refusal ≡ Some words → ⊥
  page_no_words refusal words prints h e = at words h (subst IsOfPage e (of_page refusal prints))
    where
      at : (words : Refusal) → IsTrue (is_of_words words) → IsOfPage (Some words) → ⊥
      at (Refusal.Outside Part.Out) h p = cc h
      at Refusal.Memory h p = cc h
      at (Refusal.Outside Part.Plug) h p = p
      at (Refusal.Words words) h p = p
      at (Refusal.NotBuilt unbuilt) h p = p
      at (Refusal.Load load) h p = p
      at (Refusal.Name name) h p = p
      at (Refusal.Active active) h p = p
      at (Refusal.Project refusal) h p = p
      at (Refusal.Digest digest) h p = p
      at (Refusal.Identity identity) h p = p
      at (Refusal.Seen fault) h p = p
      at (Refusal.Request request outcome) h p = p
      at (Refusal.Condition slot condition report) h p = p
      at Refusal.Stopped h p = p
      at (Refusal.Late why) h p = p

  pub page_no_plug : (refusal : Option Refusal) → PrintsPage page refusal old new faults_old faults_new → refusal ≡ Some (Refusal.Outside Part.Plug) → ⊥
  page_no_plug refusal prints e = subst IsOfPage e (of_page refusal prints)

module _ (old new : Option (List ℕ)) (faults_old faults_new : ℕ) (command : Option Command) where
  page_is : (asked : Command) (project : Project) → command ≡ Some asked → page_for asked project ≡ page_asked command project
  page_is asked project is = sym (ap (λ (c : Option Command). page_asked c project) is)

  -- the page of the command that words ask for was written whole, or a prefix of it
  pub asked_whole : (asked : Command) (project : Project) → command ≡ Some asked → (refusal : Option Refusal) → refusal ≡ None → PrintsPage (page_for asked project) refusal old new faults_old faults_new → GrewBy old (page_asked command project) new
  asked_whole asked project is refusal none prints =
      subst (λ (page : List ℕ). GrewBy old page new) (page_is asked project is) (subst (λ (r : Option Refusal). PrintsPage (page_for asked project) r old new faults_old faults_new) none prints)

  pub asked_prefix : (asked : Command) (project : Project) → command ≡ Some asked → (refusal : Option Refusal) → PrintsPage (page_for asked project) refusal old new faults_old faults_new → GrewByPrefix old new (page_asked command project)
  asked_prefix asked project is refusal prints =
      subst (GrewByPrefix old new) (page_is asked project is) (page_prefix (page_for asked project) old new faults_old faults_new refusal prints)
