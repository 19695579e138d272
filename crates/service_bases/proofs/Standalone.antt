-- A service that could stand alone in a merged file is itself when it is laid over nothing.
use Rattle.std.proofs.Common.{◌≡◌, ◌∙◌, ℕ, List, [], ◌∷◌, Option, Some, Result, Ok, Err, refl, sym, ap, rules}
use Rattle.std.specs.Prelude.{codes}
use Rattle.attribute_paths.specs.Patterns.{below_key}
use Rattle.file_paths.specs.Resolving.{Entries}
use Rattle.merge_tables.specs.declared.refusal.MergeRefusal.{MergeRefusal}
use Rattle.merge_tables.specs.declared.rules.Standing.TheVariants.{Value}
use Rattle.merge_tables.specs.Answers.{under, within}
use Rattle.merge_tables.specs.Attributes.{JoiningRules, overlay_rules}
use Rattle.merge_rules.specs.Overlay.{entries_over, laid, layers, over_files, service_over, with_value}
use Rattle.merge_tables.specs.Spots.{service_rules, services_rules}
use Rattle.merge_tables.specs.Parts.{or_null}
use Rattle.merge_rules.proofs.MergedTrees.{within_same}
use Rattle.merge_rules.proofs.Unchanged.{files_stand}
use Rattle.service_bases.specs.Laws.{StandsAlone, file_of}
use Rattle.tree_base.specs.Answers.{◌>>=◌}
use Rattle.tree_base.specs.declared.Step.TheVariants.{Key}
use Rattle.tree_base.specs.declared.tree.Tree.{Tree, out-Tree, the_lemmas}
use Rattle.tree_base.specs.declared.tree.Tree.TheOpen.{Tree-F}
use Rattle.tree_base.specs.declared.tree.Tree.TheVariants.{Map, Null, outs-Map}

-- equal mappings have equal entries
same_entries : (these those : Entries) → Map these ≡ Map those → these ≡ those
same_entries these those e =
    let opened : Tree-F.Map these ≡ Tree-F.Map those = sym (outs-Map these) ∙ ap out-Tree e ∙ outs-Map those in cc

given_same : {A : Type 0} (these those : A) → ◌≡◌ {A = Result A MergeRefusal} (Ok these) (Ok those) → these ≡ those
given_same these those e = cc

only_same : (key : List ℕ) (this that : Tree) → ◌≡◌ {A = Entries} ((key, this) ∷ []) ((key, that) ∷ []) → this ≡ that
only_same key this that e =
    let pair : ◌≡◌ {A = List ℕ × Tree} (key, this) (key, that) = cc in ap (λ (p : List ℕ × Tree). p.1) pair

-- a mapping over nothing, by its entries
abbrev as_tree : Entries → Result (Option Tree) MergeRefusal
as_tree all = Ok (Some (Map all))

map_laid : (lines : JoiningRules) (entries : Entries) → laid (Map entries) Value lines Null ≡ (entries_over lines (layers entries) [] >>= as_tree)
map_laid lines entries = search (rules, the_lemmas)

-- a file that stands over nothing is what its entries give
entries_stand : (entries : Entries) → over_files Null (Map entries) ≡ Ok (Map entries) → entries_over overlay_rules (layers entries) [] ≡ Ok entries
unfolding over_files
entries_stand entries h =
    by (entries_over overlay_rules (layers entries) [])
    (ap (λ (r : Result (Option Tree) MergeRefusal). r >>= λ tree. within (or_null tree)) (sym (map_laid overlay_rules entries)) ∙ h)
  where
    by : (r : Result Entries MergeRefusal) → ((r >>= as_tree) >>= λ tree. within (or_null tree)) ≡ Ok (Map entries) → r ≡ Ok entries
    by (Ok all) q = ap Ok (same_entries all entries (within_same (Map all) (Map entries) q))
    by (Err refusal) q = absurd (let wrong : ⊥ = cc in wrong)

-- where the only entry of a mapping stands, so do the entries of that
only_stands : (lines : JoiningRules) (key : List ℕ) (entries : Entries) → entries_over lines (layers ((key, Map entries) ∷ [])) [] ≡ Ok ((key, Map entries) ∷ []) → entries_over (below_key key lines) (layers entries) [] ≡ Ok entries
only_stands lines key entries h =
    by (entries_over (below_key key lines) (layers entries) [])
    (ap (λ (r : Result (Option Tree) MergeRefusal). (under (Key key) r >>= λ value. Ok (with_value [] key value)) >>= entries_over lines []) (sym (map_laid (below_key key lines) entries)) ∙ h)
  where
    by : (r : Result Entries MergeRefusal) → ((under (Key key) (r >>= as_tree) >>= λ value. Ok (with_value [] key value)) >>= entries_over lines []) ≡ Ok ((key, Map entries) ∷ []) → r ≡ Ok entries
    by (Ok all) q = ap Ok (same_entries all entries (only_same key (Map all) (Map entries) (given_same ((key, Map all) ∷ []) ((key, Map entries) ∷ []) q)))
    by (Err refusal) q = absurd (let wrong : ⊥ = cc in wrong)

in_services : below_key (codes "services") overlay_rules ≡ services_rules
unfolding services_rules
in_services = refl

in_service : (name : List ℕ) → below_key name services_rules ≡ service_rules
unfolding overlay_rules services_rules service_rules
in_service name = refl

-- a service over nothing
pub over_nothing : (name : List ℕ) (service : Entries) → StandsAlone name service → service_over name [] service ≡ Ok service
unfolding service_over
over_nothing name service is =
    let file = file_of name service in
    let whole = entries_stand ((codes "services", Map ((name, Map service) ∷ [])) ∷ []) (files_stand file is.0 is.1 is.2 ∙ is.3) in
    let services = only_stands overlay_rules (codes "services") ((name, Map service) ∷ []) whole in
    let one = only_stands services_rules name service (ap (λ (lines : JoiningRules). entries_over lines (layers ((name, Map service) ∷ [])) []) (sym in_services) ∙ services) in
    ap (λ (r : Result Entries MergeRefusal). under (Key (codes "services")) (under (Key name) r))
    (ap (λ (lines : JoiningRules). entries_over lines (layers service) []) (sym (in_service name)) ∙ one)
