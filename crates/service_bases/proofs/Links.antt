-- What each step of a chain gives in one source, by what stands there.
use Rattle.std.proofs.Common.{◌≡◌, ◌∙◌, ℕ, zero, suc, ◌<◌, ◌-◌, List, [], ◌∷◌, ◌++◌, position, Option, Some, None, Result, Ok, Err, refl, sym, ap, subst, sub-one, arith}
use Rattle.std.specs.Option.{option_map_or}
use Rattle.file_paths.specs.Paths.{Variables}
use Rattle.file_paths.specs.Resolving.{Entries, resolved_service}
use Rattle.file_paths.specs.Shapes.{entries_in}
use Rattle.loaded_files.specs.Reads.{IsGiven}
use Rattle.loaded_files.specs.Refusing.{of_path}
use Rattle.loaded_files.specs.declared.refusal.LoadRefusal.{LoadRefusal}
use Rattle.loaded_files.specs.declared.refusal.LoadRefusal.TheVariants.{ExtendsCycle, NoSuchBase}
use Rattle.loaded_files.specs.declared.refusal.ServiceAt.{ServiceAt}
use Rattle.loaded_files.proofs.Givens.{then_given, then_refused}
use Rattle.service_bases.specs.Bases.{extends_of, found_service, is_at, placed_service, service_in}
use Rattle.service_bases.specs.Chains.{chain_in, followed, layer_for, met_from, not_met, step_in, stepped}
use Rattle.service_bases.specs.declared.base.Base.{Base}
use Rattle.service_bases.specs.declared.chain.Chain.{Chain}
use Rattle.service_bases.specs.declared.chain.Layer.{Layer}
use Rattle.service_bases.specs.declared.chain.NextLink.{NextLink}
use Rattle.service_bases.specs.declared.chain.NextLink.TheVariants.{Ended, Further}
use Rattle.service_bases.specs.declared.source.Source.{Source}
use Rattle.tree_base.specs.Answers.{◌>>=◌}
use Rattle.tree_base.specs.Entries.{value_at}
use Rattle.tree_base.specs.declared.Tree.{Tree, out-Tree}

-- a service that is looked for, and its paths
module _ (env : Variables) (source : Source) (name : List ℕ) where
  pub found_there : (service : Tree) (r : Result Entries LoadRefusal) → value_at source.services name ≡ Some service → IsGiven r (placed_service env source.directory service) → IsGiven r (service_in env source name)
  found_there service r e h = subst (λ (o : Option Tree). IsGiven r (found_service env source name o)) (sym e) h

  pub not_found : value_at source.services name ≡ None → IsGiven {X = Entries} (Err (NoSuchBase source.file name)) (service_in env source name)
  not_found e = subst (λ (o : Option Tree). IsGiven {X = Entries} (Err (NoSuchBase source.file name)) (found_service env source name o)) (sym e) (λ n. refl)

module _ (env : Variables) (directory : List ℕ) (service : Tree) where
  abbrev then_entries : Tree → Result Entries LoadRefusal
  then_entries placed = Ok (entries_in (out-Tree placed))

  pub not_placed : (e : LoadRefusal) → IsGiven {X = Tree} (Err e) (of_path (resolved_service directory env service)) → IsGiven {X = Entries} (Err e) (placed_service env (Some directory) service)
  not_placed e h = then_refused (of_path (resolved_service directory env service)) then_entries e h

  pub placed_there : (placed : Tree) → IsGiven (Ok placed) (of_path (resolved_service directory env service)) → IsGiven (Ok (entries_in (out-Tree placed))) (placed_service env (Some directory) service)
  placed_there placed h = then_given (of_path (resolved_service directory env service)) then_entries placed (Ok (entries_in (out-Tree placed))) h (λ n. refl)

-- one service more in a chain
module _ (env : Variables) (source : Source) (name : List ℕ) (layers : List Layer) where
  abbrev pub then_followed : Entries → Result NextLink LoadRefusal
  then_followed service = followed source.file (layers ++ layer_for source.file name service ∷ []) (extends_of service)

  pub no_service : (e : LoadRefusal) → IsGiven {X = Entries} (Err e) (service_in env source name) → IsGiven {X = NextLink} (Err e) (step_in env source name layers)
  no_service e h = then_refused (service_in env source name) then_followed e h

  pub service_there : (service : Entries) (all : List Layer) (base : Option Base) (r : Result NextLink LoadRefusal) → IsGiven (Ok service) (service_in env source name) → all ≡ layers ++ layer_for source.file name service ∷ [] → base ≡ extends_of service
      → IsGiven r (followed source.file all base) → IsGiven r (step_in env source name layers)
  service_there service all base r h a b k =
      then_given (service_in env source name) then_followed service r h
      (subst (λ (bs : Option Base). IsGiven r (followed source.file (layers ++ layer_for source.file name service ∷ []) bs)) b
      (subst (λ (ls : List Layer). IsGiven r (followed source.file ls base)) a k))

-- a base in its chain
module _ (base : ServiceAt) (layers : List Layer) where
  abbrev by_place : Option ℕ → Result (Unit {0}) LoadRefusal
  by_place place = option_map_or (λ at. Err (ExtendsCycle (met_from at layers))) place (Ok tt)

  pub new_base : position (λ (layer : Layer). is_at base layer.at) layers ≡ None → not_met base layers ≡ Ok tt
  new_base e = ap by_place e

  pub old_base : (place : ℕ) → position (λ (layer : Layer). is_at base layer.at) layers ≡ Some place → not_met base layers ≡ Err (ExtendsCycle (met_from place layers))
  old_base place e = ap by_place e

  -- what follows where the base isn't met, and where it is
  pub goes_further : (next : NextLink) → IsGiven (Ok tt) (not_met base layers) → IsGiven (Ok next) (not_met base layers >>= λ ok. Ok next)
  goes_further next h = then_given (not_met base layers) (λ (ok : Unit {0}). Ok next) tt (Ok next) h (λ n. refl)

  pub comes_back : (next : NextLink) (e : LoadRefusal) → IsGiven {X = Unit {0}} (Err e) (not_met base layers) → IsGiven {X = NextLink} (Err e) (not_met base layers >>= λ ok. Ok next)
  comes_back next e h = then_refused (not_met base layers) (λ (ok : Unit {0}). Ok next) e h

-- a chain in one source, a step further
module _ (env : Variables) (source : Source) (name : List ℕ) (layers : List Layer) where
  step_further : (steps : ℕ) (base : List ℕ) (more : List Layer) → IsGiven (Ok (Further base more)) (step_in env source name layers) → chain_in (suc steps) env source name layers ≡ chain_in steps env source base more
  step_further steps base more h = ap (λ (r : Result NextLink LoadRefusal). r >>= stepped (chain_in steps env source)) (sym (h (λ e. cc)))

  pub further_at : (steps : ℕ) (base : List ℕ) (more : List Layer) → 0 < steps → IsGiven (Ok (Further base more)) (step_in env source name layers)
      → chain_in (steps - 1) env source base more ≡ chain_in steps env source name layers
  further_at zero base more n h = absurd (omega arith)
  further_at (suc steps) base more n h = ap (λ (k : ℕ). chain_in k env source base more) (sub-one (suc steps)) ∙ sym (step_further steps base more h)

  pub ended_at : (steps : ℕ) (chain : Chain) → 0 < steps → IsGiven (Ok (Ended chain)) (step_in env source name layers) → IsGiven (Ok chain) (chain_in steps env source name layers)
  ended_at zero chain n h = absurd (omega arith)
  ended_at (suc steps) chain n h = then_given (step_in env source name layers) (stepped (chain_in steps env source)) (Ended chain) (Ok chain) h (λ q. refl)

  pub refused_at : (steps : ℕ) (e : LoadRefusal) → 0 < steps → IsGiven {X = NextLink} (Err e) (step_in env source name layers) → IsGiven {X = Chain} (Err e) (chain_in steps env source name layers)
  refused_at zero e n h = absurd (omega arith)
  refused_at (suc steps) e n h = then_refused (step_in env source name layers) (stepped (chain_in steps env source)) e h
