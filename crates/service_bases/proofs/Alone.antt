-- A service that extends nothing: its chain is itself.
use Rattle.std.proofs.Common.{◌≡◌, ◌∙◌, ℕ, suc, List, [], ◌∷◌, length, None, Option, Some, Ok, ap}
use Rattle.std.specs.Prelude.{codes}
use Rattle.std.specs.Option.{option_and_then}
use Rattle.file_paths.specs.Paths.{Variables}
use Rattle.file_paths.specs.Resolving.{Entries}
use Rattle.file_paths.specs.Shapes.{entries_in}
use Rattle.loaded_files.proofs.Names.{none_out}
use Rattle.service_bases.specs.Bases.{extends_in, found_service, main_source}
use Rattle.service_bases.specs.Chains.{chain_in, followed, laid_up, layer_for, stepped}
use Rattle.service_bases.specs.declared.chain.Chain.{Chain}
use Rattle.service_bases.specs.declared.chain.Layer.{Layer}
use Rattle.service_bases.specs.declared.source.Source.{Source}
use Rattle.service_bases.proofs.Links.{then_followed}
use Rattle.tree_base.specs.Answers.{◌>>=◌}
use Rattle.tree_base.specs.Entries.{value_at}
use Rattle.tree_base.specs.declared.Tree.{Tree, Map, out-Tree}
use Rattle.tree_base.specs.declared.Tree.TheOpen.{Tree-F}
use Rattle.tree_base.specs.declared.tree.Tree.TheVariants.{outs-Map}

module _ (env : Variables) (file : List ℕ) (services : Entries) (name : List ℕ) (entries : Entries) (at : value_at services name ≡ Some (Map entries)) (none : value_at entries (codes "extends") ≡ None) where
  abbrev pub source : Source
  source = main_source file services

  abbrev pub layer : Layer
  layer = layer_for file name entries

  abbrev pub whole : Chain
  whole = record { layers = layer ∷ []; next = None }

  chain_one : (steps : ℕ) → chain_in (suc steps) env source name [] ≡ Ok whole
  chain_one steps =
      ap (λ (o : Option Tree). (found_service env source name o >>= then_followed env source name []) >>= stepped (chain_in steps env source)) at
      ∙ ap (λ (t : Tree-F Tree). (Ok (entries_in t) >>= then_followed env source name []) >>= stepped (chain_in steps env source)) (outs-Map entries)
      ∙ ap (λ (o : Option Tree). followed file (layer ∷ []) (option_and_then (λ tree. extends_in (out-Tree tree)) o) >>= stepped (chain_in steps env source)) none

  by_length : (ss : Entries) → value_at ss name ≡ Some (Map entries) → chain_in (length ss) env source name [] ≡ Ok whole
  by_length [] h = absurd cc
  by_length (e ∷ es) h = chain_one (length es)

  pub chain_alone : chain_in (length services) env source name [] ≡ Ok whole
  chain_alone = by_length services at

  -- and laid it is itself
  pub laid_alone : laid_up (layer ∷ []) ≡ Ok entries
  laid_alone = ap Ok (none_out entries (codes "extends") none)
