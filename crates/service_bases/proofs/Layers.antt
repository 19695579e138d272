-- Chains that are laid from their end up.
use Rattle.std.proofs.Common.{◌≡◌, ◌∙◌, List, [], ◌∷◌, ◌++◌, reverse, Result, Ok, Err, sym, ap, subst}
use Rattle.std.proofs.lemmas.List.{reverse-append}
use Rattle.file_paths.specs.Resolving.{Entries}
use Rattle.loaded_files.specs.Reads.{IsGiven}
use Rattle.loaded_files.specs.declared.refusal.LoadRefusal.{LoadRefusal}
use Rattle.loaded_files.proofs.Givens.{then_refused}
use Rattle.service_bases.specs.Chains.{laid_up, layer_over, layers_over}
use Rattle.service_bases.specs.declared.chain.Layer.{Layer}
use Rattle.tree_base.specs.Answers.{◌>>=◌}

-- the last service of a chain comes first
turned : (layers rest : List Layer) (last : Layer) → layers ≡ rest ++ last ∷ [] → reverse layers ≡ last ∷ reverse rest
turned layers rest last e = ap reverse e ∙ reverse-append rest (last ∷ [])

pub up_from : (layers rest : List Layer) (last : Layer) (r : Result Entries LoadRefusal) → layers ≡ rest ++ last ∷ [] → IsGiven r (layers_over last.service (reverse rest)) → IsGiven r (laid_up (reverse layers))
up_from layers rest last r e h = subst (λ (ls : List Layer). IsGiven r (laid_up ls)) (sym (turned layers rest last e)) h

pub up_from_none : (layers : List Layer) → layers ≡ [] → laid_up (reverse layers) ≡ Ok []
up_from_none layers e = ap (λ (ls : List Layer). laid_up (reverse ls)) e

module _ (all : Entries) (layers rest : List Layer) (layer : Layer) (e : layers ≡ rest ++ layer ∷ []) where
  on_layer : layers_over all (reverse layers) ≡ (layer_over all layer >>= λ more. layers_over more (reverse rest))
  on_layer = ap (layers_over all) (turned layers rest layer e)

  pub one_up : (more : Entries) → IsGiven (Ok more) (layer_over all layer) → layers_over more (reverse rest) ≡ layers_over all (reverse layers)
  one_up more h = sym (on_layer ∙ ap (λ (r : Result Entries LoadRefusal). r >>= λ all. layers_over all (reverse rest)) (sym (h (λ q. cc))))

  pub one_out : (refusal : LoadRefusal) → IsGiven {X = Entries} (Err refusal) (layer_over all layer) → IsGiven {X = Entries} (Err refusal) (layers_over all (reverse layers))
  one_out refusal h = subst (λ (r : Result Entries LoadRefusal). IsGiven {X = Entries} (Err refusal) r) (sym on_layer) (then_refused (layer_over all layer) (λ more. layers_over more (reverse rest)) refusal h)

pub all_up : (all : Entries) (layers : List Layer) → layers ≡ [] → layers_over all (reverse layers) ≡ Ok all
all_up all layers e = ap (λ (ls : List Layer). layers_over all (reverse ls)) e
