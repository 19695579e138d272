-- What each step over files gives, by what its reads gave: a base's file, a chain, a service, several of them.
use Rattle.std.proofs.Common.{◌≡◌, ℕ, zero, suc, ◌-◌, List, [], ◌∷◌, length, reverse, Option, None, Some, Result, Ok, Err, refl, ap, subst, sub-one}
use Rattle.file_paths.specs.Paths.{Variables}
use Rattle.file_paths.specs.Resolving.{Entries}
use Rattle.loaded_files.specs.FileTrees.{file_laid, shaped}
use Rattle.loaded_files.specs.Reads.{Gives, IsGiven, Load, Ran, after, give}
use Rattle.loaded_files.specs.declared.refusal.LoadRefusal.{LoadRefusal}
use Rattle.loaded_files.specs.declared.refusal.LoadRefusal.TheVariants.{TooManyFiles}
use Rattle.loaded_files.specs.declared.refusal.ServiceAt.{ServiceAt}
use Rattle.loaded_files.proofs.Runs.{given_on, given_out, gives_on, gives_out, ran_on, ran_out}
use Rattle.outside_files.specs.Files.{Contents}
use Rattle.service_bases.specs.Bases.{base_source}
use Rattle.service_bases.specs.Chains.{chain_in, laid_up}
use Rattle.service_bases.specs.Extending.{Onward, all_extended, base_file, chain_over, continued, extended, goes_on}
use Rattle.service_bases.specs.declared.chain.Chain.{Chain}
use Rattle.service_bases.specs.declared.chain.Layer.{Layer}
use Rattle.service_bases.specs.declared.source.Source.{Source}
use Rattle.tree_base.specs.Entries.{with_entry}
use Rattle.tree_base.specs.declared.Tree.{Tree, Map, Null}

module _ (told : Option Contents) where
  -- a base's file
  module _ (env : Variables) (path : List ℕ) (left : ℕ) where
    abbrev as_source : ℕ → Tree → Load (Source × ℕ)
    as_source rest tree = give (base_source path tree, rest)

    abbrev then_shape : Tree × ℕ → Load (Source × ℕ)
    then_shape got = after (shaped got.0) (as_source got.1)

    abbrev laid_file : Load (Tree × ℕ)
    laid_file = file_laid env path None Null left

    pub base_unread : (e : LoadRefusal) → Gives {X = Tree × ℕ} told (Err e) laid_file → Gives {X = Source × ℕ} told (Err e) (base_file env path left)
    base_unread e h = gives_out told laid_file then_shape e h

    module _ (tree : Tree) (rest : ℕ) (h : Gives told (Ok (tree, rest)) laid_file) where
      pub base_misshaped : (e : LoadRefusal) → IsGiven {X = Tree} (Err e) (shaped tree) → Gives {X = Source × ℕ} told (Err e) (base_file env path left)
      base_misshaped e k = gives_on told laid_file then_shape (tree, rest) (Err e) h (given_out told (shaped tree) (as_source rest) e k)

      pub base_there : (whole : Tree) (source : Source) → IsGiven (Ok whole) (shaped tree) → source ≡ base_source path whole → Gives told (Ok (source, rest)) (base_file env path left)
      base_there whole source k s =
          gives_on told laid_file then_shape (tree, rest) (Ok (source, rest)) h
          (given_on told (shaped tree) (as_source rest) whole (Ok (source, rest)) k (λ n. ap (λ (x : Source). Ok (x, rest)) s))

  -- a chain that goes on in another file
  module _ (env : Variables) (next : Onward) (layers : List Layer) (left : ℕ) (at : ServiceAt) where
    abbrev then_next : Source × ℕ → Load (List Layer × ℕ)
    then_next got = next got.0 at.service layers got.1

    pub base_refused : (e : LoadRefusal) → Gives {X = Source × ℕ} told (Err e) (base_file env at.file left) → Gives {X = List Layer × ℕ} told (Err e) (goes_on env next layers left at)
    base_refused e h = gives_out told (base_file env at.file left) then_next e h

    pub base_read : (source : Source) (rest : ℕ) (r : Result (List Layer × ℕ) LoadRefusal) → Gives told (Ok (source, rest)) (base_file env at.file left) → Gives told r (next source at.service layers rest)
        → Gives told r (goes_on env next layers left at)
    base_read source rest r h k = gives_on told (base_file env at.file left) then_next (source, rest) r h k

  -- where another file may follow the one that was read, and where none may
  module _ (env : Variables) (layers : List Layer) (left : ℕ) (at : ServiceAt) (source : Source) (rest : ℕ) (h : Gives told (Ok (source, rest)) (base_file env at.file left)) where
    pub last_file : (further : ℕ) → further ≡ 0 → Gives {X = List Layer × ℕ} told (Err (TooManyFiles source.file)) (goes_on env (chain_over further env) layers left at)
    last_file zero e = base_read env (chain_over zero env) layers left at source rest (Err (TooManyFiles source.file)) h (λ n. refl)
    last_file (suc further) e = absurd cc

    pub next_file : (further : ℕ) (r : Result (List Layer × ℕ) LoadRefusal) → (further ≡ 0 → ⊥) → Gives told r (chain_over (suc (further - 1)) env source at.service layers rest) → Gives told r (goes_on env (chain_over further env) layers left at)
    next_file zero r n k = absurd (n refl)
    next_file (suc further) r n k =
        base_read env (chain_over (suc further) env) layers left at source rest r h
        (subst (λ (j : ℕ). Gives told r (chain_over (suc j) env source at.service layers rest)) (sub-one (suc further)) k)

  -- a chain from a service of a source on
  module _ (env : Variables) (sources : ℕ) (source : Source) (name : List ℕ) (layers : List Layer) (left : ℕ) where
    abbrev here : Result Chain LoadRefusal
    here = chain_in (length source.services) env source name layers

    abbrev then_onward : Chain → Load (List Layer × ℕ)
    then_onward chain = continued env (chain_over sources env) chain.layers left chain.next

    pub chain_refused : (e : LoadRefusal) → IsGiven {X = Chain} (Err e) here → Gives {X = List Layer × ℕ} told (Err e) (chain_over (suc sources) env source name layers left)
    chain_refused e h = given_out told here then_onward e h

    chain_there : (chain : Chain) (r : Result (List Layer × ℕ) LoadRefusal) → IsGiven (Ok chain) here → Gives told r (then_onward chain) → Gives told r (chain_over (suc sources) env source name layers left)
    chain_there chain r h k = given_on told here then_onward chain r h k

    pub chain_ended : (chain : Chain) → chain.next ≡ None → IsGiven (Ok chain) here → Gives told (Ok (chain.layers, left)) (chain_over (suc sources) env source name layers left)
    chain_ended chain none h = chain_there chain (Ok (chain.layers, left)) h (rw none (λ n. refl))

    pub chain_continued : (chain : Chain) (at : ServiceAt) (r : Result (List Layer × ℕ) LoadRefusal) → chain.next ≡ Some at → IsGiven (Ok chain) here
        → Gives told r (goes_on env (chain_over sources env) chain.layers left at) → Gives told r (chain_over (suc sources) env source name layers left)
    chain_continued chain at r some h k = chain_there chain r h (rw some k)

  -- a service over all that it extends
  module _ (env : Variables) (source : Source) (name : List ℕ) (left : ℕ) where
    abbrev pub whole_chain : Load (List Layer × ℕ)
    whole_chain = chain_over (suc left) env source name [] left

    abbrev as_service : ℕ → Entries → Load (Entries × ℕ)
    as_service rest service = give (service, rest)

    abbrev then_laid : List Layer × ℕ → Load (Entries × ℕ)
    then_laid got = after (laid_up (reverse got.0)) (as_service got.1)

    pub not_followed : (e : LoadRefusal) → Gives {X = List Layer × ℕ} told (Err e) whole_chain → Gives {X = Entries × ℕ} told (Err e) (extended env source name left)
    not_followed e h = gives_out told whole_chain then_laid e h

    module _ (layers : List Layer) (rest : ℕ) (h : Gives told (Ok (layers, rest)) whole_chain) where
      pub not_laid : (e : LoadRefusal) → IsGiven {X = Entries} (Err e) (laid_up (reverse layers)) → Gives {X = Entries × ℕ} told (Err e) (extended env source name left)
      not_laid e k = gives_on told whole_chain then_laid (layers, rest) (Err e) h (given_out told (laid_up (reverse layers)) (as_service rest) e k)

      pub laid_there : (service : Entries) → IsGiven (Ok service) (laid_up (reverse layers)) → Gives told (Ok (service, rest)) (extended env source name left)
      laid_there service k =
          gives_on told whole_chain then_laid (layers, rest) (Ok (service, rest)) h
          (given_on told (laid_up (reverse layers)) (as_service rest) service (Ok (service, rest)) k (λ n. refl))

  -- services, one after another
  module _ (env : Variables) (source : Source) (name : List ℕ) (names : List (List ℕ)) (services : Entries) (left : ℕ) where
    abbrev then_others : Entries × ℕ → Load (Entries × ℕ)
    then_others got = all_extended env source names (with_entry services name (Map got.0)) got.1

    pub service_on : (service put : Entries) (rest : ℕ) (r : Result (Entries × ℕ) LoadRefusal) → Gives told (Ok (service, rest)) (extended env source name left) → put ≡ with_entry services name (Map service)
        → Ran told (all_extended env source names put rest) r → Ran told (all_extended env source (name ∷ names) services left) r
    service_on service put rest r h e k =
        ran_on told (extended env source name left) then_others (service, rest) r (h (λ q. cc))
        (subst (λ (all : Entries). Ran told (all_extended env source names all rest) r) e k)

    pub service_out : (e : LoadRefusal) → Ran {X = Entries × ℕ} told (extended env source name left) (Err e) → Ran {X = Entries × ℕ} told (all_extended env source (name ∷ names) services left) (Err e)
    service_out e h = ran_out told (extended env source name left) then_others e h
