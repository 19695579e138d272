-- The services of a file that a service extends, one after another, and what a chain of them gives together (the
-- Compose Specification, "Extend": a base is extended itself before a service is laid over it).
use Rattle.std.specs.Prelude.{ℕ, zero, suc, List, [], ◌∷◌, ◌++◌, drop, map, position, Option, Some, None, Result, Ok, Err, codes}
use Rattle.std.specs.Option.{option_map_or}
use Rattle.file_paths.specs.Paths.{Variables}
use Rattle.file_paths.specs.Resolving.{Entries}
use Rattle.loaded_files.specs.Refusing.{of_merge}
use Rattle.loaded_files.specs.declared.refusal.LoadRefusal.{LoadRefusal}
use Rattle.loaded_files.specs.declared.refusal.LoadRefusal.TheVariants.{ExtendsCycle, NoSuchBase}
use Rattle.loaded_files.specs.declared.refusal.ServiceAt.{ServiceAt}
use Rattle.merge_rules.specs.Overlay.{service_over}
use Rattle.service_bases.specs.Bases.{at_service, extends_of, is_at, service_in}
use Rattle.service_bases.specs.declared.base.Base.{Base}
use Rattle.service_bases.specs.declared.chain.Chain.{Chain}
use Rattle.service_bases.specs.declared.chain.Layer.{Layer}
use Rattle.service_bases.specs.declared.chain.NextLink.{NextLink}
use Rattle.service_bases.specs.declared.chain.NextLink.TheVariants.{Ended, Further}
use Rattle.service_bases.specs.declared.source.Source.{Source}
use Rattle.tree_base.specs.Answers.{◌>>=◌}
use Rattle.tree_base.specs.Entries.{without_entry}

-- a service of a chain, without what it extends
abbrev pub layer_for : List ℕ → List ℕ → Entries → Layer
layer_for file name service =
    record { at = at_service file name; service = without_entry service (codes "extends") }

-- the services of a chain from a place on
abbrev pub met_from : ℕ → List Layer → List ServiceAt
met_from place layers = map (λ layer. layer.at) (drop place layers)

-- nothing, unless a base is in its chain already: then all from there on extend one another
abbrev pub not_met : ServiceAt → List Layer → Result (Unit {0}) LoadRefusal
not_met base layers =
    option_map_or (λ place. Err (ExtendsCycle (met_from place layers)))
    (position (λ layer. is_at base layer.at) layers) (Ok tt)

-- a chain that goes on at a base: in the same file, or in another one, where it has to be read first
abbrev pub further : List ℕ → List Layer → List ℕ → Option (List ℕ) → Result NextLink LoadRefusal
further file layers name None =
    not_met (at_service file name) layers >>= λ ok. Ok (Further name layers)
further file layers name (Some other) =
    not_met (at_service other name) layers >>= λ ok.
    Ok (Ended (record { layers = layers; next = Some (at_service other name) }))

-- what follows a service in its chain: nothing, or its base
abbrev pub followed : List ℕ → List Layer → Option Base → Result NextLink LoadRefusal
followed file layers None = Ok (Ended (record { layers = layers; next = None }))
followed file layers (Some base) = further file layers base.service base.file

-- one service more in a chain
abbrev pub step_in : Variables → Source → List ℕ → List Layer → Result NextLink LoadRefusal
step_in env source name layers =
    service_in env source name >>= λ service.
    followed source.file (layers ++ layer_for source.file name service ∷ []) (extends_of service)

-- the chain, where it ended, or else what is made of the next service
abbrev pub stepped : (List ℕ → List Layer → Result Chain LoadRefusal) → NextLink → Result Chain LoadRefusal
stepped next (Ended chain) = Ok chain
stepped next (Further name layers) = next name layers

-- a chain in one source: it has at most as many services as the source, and a further one isn't there
abbrev pub chain_in : ℕ → Variables → Source → List ℕ → List Layer → Result Chain LoadRefusal
chain_in zero env source name layers = Err (NoSuchBase source.file name)
chain_in (suc steps) env source name layers =
    step_in env source name layers >>= stepped (chain_in steps env source)

-- a service laid over what its bases gave
abbrev pub layer_over : Entries → Layer → Result Entries LoadRefusal
layer_over base layer =
    of_merge layer.at.file (service_over layer.at.service base layer.service)

-- services laid over what their bases gave, one after another
abbrev pub layers_over : Entries → List Layer → Result Entries LoadRefusal
layers_over base [] = Ok base
layers_over base (layer ∷ layers) = layer_over base layer >>= λ all. layers_over all layers

-- a chain laid from its last service up, which stands as it is
abbrev pub laid_up : List Layer → Result Entries LoadRefusal
laid_up [] = Ok []
laid_up (layer ∷ layers) = layers_over layer.service layers
