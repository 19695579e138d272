-- Services over all that they extend, in one file and over files (the Compose Specification, "Extend"): which files are
-- read for them, and in which order.
use Rattle.std.specs.Prelude.{ℕ, zero, suc, List, [], ◌∷◌, length, reverse, Option, Some, None}
use Rattle.file_paths.specs.Paths.{Variables}
use Rattle.file_paths.specs.Resolving.{Entries}
use Rattle.loaded_files.specs.Fields.{names_of}
use Rattle.loaded_files.specs.FileTrees.{file_laid, shaped}
use Rattle.loaded_files.specs.Reads.{◌>>=◌, Load, after, give, refuse}
use Rattle.loaded_files.specs.declared.refusal.LoadRefusal.TheVariants.{TooManyFiles}
use Rattle.loaded_files.specs.declared.refusal.ServiceAt.{ServiceAt}
use Rattle.service_bases.specs.Bases.{base_source, main_source}
use Rattle.service_bases.specs.Chains.{chain_in, laid_up}
use Rattle.service_bases.specs.declared.chain.Layer.{Layer}
use Rattle.service_bases.specs.declared.source.Source.{Source}
use Rattle.tree_base.specs.Entries.{with_entry}
use Rattle.tree_base.specs.declared.Tree.{Null, Map}

-- a file that `extends` names: it is read and brought to long forms by itself, and its whole shape is asked; of what it
-- includes nothing is read
abbrev pub base_file : Variables → List ℕ → ℕ → Load (Source × ℕ)
base_file env path left =
    file_laid env path None Null left >>= λ got.
    after (shaped got.0) (λ tree. give (base_source path tree, got.1))

-- what makes a chain whole at the service of a source, behind its layers, and how many files may still be read then
abbrev pub Onward : Type 0
Onward = Source → List ℕ → List Layer → ℕ → Load (List Layer × ℕ)

-- a chain that goes on at a service of a file that has to be read first
abbrev pub goes_on : Variables → Onward → List Layer → ℕ → ServiceAt → Load (List Layer × ℕ)
goes_on env next layers left at =
    base_file env at.file left >>= λ got. next got.0 at.service layers got.1

-- a chain that ended in the files that were read, or goes on in another one
abbrev pub continued :
    Variables → Onward → List Layer → ℕ → Option ServiceAt → Load (List Layer × ℕ)
continued env next layers left None = give (layers, left)
continued env next layers left (Some at) = goes_on env next layers left at

-- a whole chain over so many sources; each but the first is a file that is read, so that one more than files that may
-- be read is always enough
abbrev pub chain_over : ℕ → Variables → Onward
chain_over zero env source name layers left = refuse (TooManyFiles source.file)
chain_over (suc sources) env source name layers left =
    after (chain_in (length source.services) env source name layers) (λ chain.
    continued env (chain_over sources env) chain.layers left chain.next)

-- a service over all that it extends: the chain is followed to its end, and then laid from its end up
abbrev pub extended : Variables → Source → List ℕ → ℕ → Load (Entries × ℕ)
extended env source name left =
    chain_over (suc left) env source name [] left >>= λ got.
    after (laid_up (reverse got.0)) (λ service. give (service, got.1))

-- the services of these names over all that they extend, put in their places; what they extend in the model is what
-- stood there before
abbrev pub all_extended :
    Variables → Source → List (List ℕ) → Entries → ℕ → Load (Entries × ℕ)
all_extended env source [] services left = give (services, left)
all_extended env source (name ∷ names) services left =
    extended env source name left >>= λ got.
    all_extended env source names (with_entry services name (Map got.0)) got.1

-- the services of a model over all that they extend, in byte order of their names; the model's first file is theirs
abbrev pub services_extended : Variables → List ℕ → Entries → ℕ → Load (Entries × ℕ)
services_extended env file services left =
    all_extended env (main_source file services) (names_of services) services left
