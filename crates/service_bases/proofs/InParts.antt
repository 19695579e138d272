-- Chains that are laid in parts.
use Rattle.std.proofs.Common.{◌≡◌, ◌∙◌, List, [], ◌∷◌, ◌++◌, Result, Ok, Err, refl, ap}
use Rattle.file_paths.specs.Resolving.{Entries}
use Rattle.loaded_files.specs.Refusing.{of_merge}
use Rattle.loaded_files.specs.declared.refusal.LoadRefusal.{LoadRefusal}
use Rattle.merge_tables.specs.declared.refusal.MergeRefusal.{MergeRefusal}
use Rattle.service_bases.specs.Chains.{laid_up, layer_over, layers_over}
use Rattle.service_bases.specs.Laws.{StandsAlone}
use Rattle.service_bases.specs.declared.chain.Layer.{Layer}
use Rattle.service_bases.proofs.Standalone.{over_nothing}
use Rattle.tree_base.specs.Answers.{◌>>=◌}

pub in_parts : (lower upper : List Layer) (base : Entries) → layers_over base (lower ++ upper) ≡ (layers_over base lower >>= λ all. layers_over all upper)
in_parts [] upper base = refl
in_parts (layer ∷ lower) upper base = by (in_parts lower upper) (layer_over base layer)
  where
    by : ((all : Entries) → layers_over all (lower ++ upper) ≡ (layers_over all lower >>= λ all. layers_over all upper)) → (r : Result Entries LoadRefusal)
        → (r >>= λ all. layers_over all (lower ++ upper)) ≡ ((r >>= λ all. layers_over all lower) >>= λ all. layers_over all upper)
    by rest (Ok all) = rest all
    by rest (Err e) = refl

-- what follows a value that is given as it is
pub from_given : {B : Type 0} (r : Result Entries LoadRefusal) (f : Entries → Result B LoadRefusal) (base : Entries) → (r >>= λ all. Ok all) ≡ Ok base → (r >>= f) ≡ f base
from_given {B} (Ok all) f base h = let same : all ≡ base = cc in ap f same
from_given (Err e) f base h = absurd cc

-- one service more over a chain that is laid
pub laid_last : (layers : List Layer) (layer : Layer) (base all : Entries) → laid_up layers ≡ Ok base → (layers ≡ [] → ⊥) → layer_over base layer ≡ Ok all → laid_up (layers ++ layer ∷ []) ≡ Ok all
laid_last [] layer base all e some o = absurd (some refl)
laid_last (l ∷ layers) layer base all e some o =
    in_parts layers (layer ∷ []) l.service
    ∙ ap (λ (r : Result Entries LoadRefusal). r >>= λ below. layers_over below (layer ∷ [])) e
    ∙ ap (λ (r : Result Entries LoadRefusal). r >>= λ below. Ok below) o

pub over_empty : (last top : Layer) → last.service ≡ [] → StandsAlone top.at.service top.service → laid_up (last ∷ top ∷ []) ≡ Ok top.service
over_empty last top e alone =
    ap (λ (base : Entries). layers_over base (top ∷ [])) e
    ∙ ap (λ (r : Result Entries MergeRefusal). of_merge top.at.file r >>= λ all. Ok all) (over_nothing top.at.service top.service alone)
