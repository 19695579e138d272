-- The page of a project, as a Compose file, is loaded as that project.
use Rattle.std.proofs.Common.{◌≡◌, ◌∙◌, ℕ, suc, ◌&&◌, Bool, true, false, not, List, [], ◌∷◌, Option, Some, Result, Ok, Err, codes, map, refl, sym, ap, arith, tests, true≢false}
use Rattle.std.proofs.lemmas.Bool.{and_from, and_parts}
use Rattle.std.proofs.lemmas.Cmp.{nat_list_cmp_total}
use Rattle.std.proofs.lemmas.Slice.Eq.{bytes_eq-Decides}
use Rattle.std.proofs.lemmas.Str.{is_utf8-from_IsUtf8}
use Rattle.std.specs.Cmp.Lexicographic.{slice_cmp}
use Rattle.std.specs.List.{list_all, list_any}
use Rattle.std.specs.Ordering.{is_lt, nat_cmp, ordering_reverse}
use Rattle.std.specs.Prelude.{IsTrue, slice_get}
use Rattle.std.specs.Str.{bytes_eq, is_utf8}
use Rattle.std.specs.declared.cmp.Ordering.{Ordering}
use Rattle.std.specs.declared.cmp.Ordering.TheVariants.{Less, Equal, Greater}
use Rattle.loaded_files.specs.FileTrees.{tree_in}
use Rattle.loaded_files.specs.FileTrees as files
use Rattle.interpolate.specs.Walking.{substituted_tree}
use Rattle.laws_pages.specs.PlainTrees.{tree_of_project}
use Rattle.laws_pages.specs.PlainTrees as trees_of
use Rattle.normal_form.specs.ProjectNames.{is_mark, is_name, is_name_character}
use Rattle.laws_pages.proofs.Values.{printable_text_is, printed_value, value_map, value_text}
use Rattle.laws_pages.specs.Projects.{IsReadable}
use Rattle.project_print.specs.Values.{value_of}
use Rattle.laws_pages.specs.PlainNodes.{entry_of, node_of, project_page, service_node}
use Rattle.project_pages.specs.AttributePages.{project_node, service_entry}
use Rattle.project_print.specs.Pages.{page_text}
use Rattle.project_print.specs.Scalars.{is_plain_byte}
use Rattle.project_print.specs.declared.node.Node.{Node}
use Rattle.project_print.specs.declared.node.Node.TheVariants.{Map, Text}
use Rattle.typed_project.specs.PlainProjects.{AreInOrder, PlainProject, PlainService, project_of, service_of}
use Rattle.tree_base.specs.ByteOrder.{is_before}
use Rattle.tree_base.specs.declared.tree.Tree.{Tree}
use Rattle.tree_base.specs.declared.tree.Tree.TheVariants as trees
use Rattle.yaml_lines.specs.Scan.{scan_of}
use Rattle.yaml_lines.specs.declared.Lines.{Lines}
use Rattle.yaml_lines.specs.declared.YamlRefusal.{YamlRefusal}
use Rattle.yaml_nodes.specs.Progress.{◌>>=◌}
use Rattle.laws_yaml.specs.Readable.{are_distinct, is_so}
use Rattle.laws_yaml.proofs.CleanLines.{plain_line}
use Rattle.laws_yaml.proofs.Decoded.{keys_in, printable_in, printable_map}
use Rattle.laws_yaml.proofs.PrintedPages.{printed_back}
use Rattle.laws_yaml.specs.Printed.{is_printable, tree_of}
use Rattle.yaml_tree.specs.Reading.{reading}

-- the node of a service means the service as a file has it
value_of_service : (service : PlainService) → value_of (service_node service) ≡ (trees_of.entry_of service).1
value_of_service service =
    value_map ((codes "image", Text service.image) ∷ (codes "network_mode", Text (codes "none")) ∷ [])
    ∙ (λ i. trees.Map ((codes "image", value_text service.image i) ∷ (codes "network_mode", value_text (codes "none") i) ∷ []))

values_of_services : (services : List PlainService) → map (λ (e : List ℕ × Node). (e.0, value_of e.1)) (map entry_of services) ≡ map trees_of.entry_of services
values_of_services [] = refl
values_of_services (service ∷ services) = λ i. (service.key, value_of_service service i) ∷ values_of_services services i

-- and that of a project the project
pub value_of_project : (project : PlainProject) → value_of (node_of project) ≡ tree_of_project project
value_of_project project =
    let services : List (List ℕ × Node) = map entry_of project.services in
    value_map ((codes "name", Text project.name) ∷ (codes "services", Map services) ∷ [])
    ∙ (λ i. trees.Map ((codes "name", value_text project.name i) ∷ (codes "services", (value_map services ∙ ap trees.Map (values_of_services project.services)) i) ∷ []))

-- a word of ASCII letters is UTF-8
ascii : (text : List ℕ) → list_all is_plain_byte text ≡ true → is_utf8 text ≡ true
ascii text plain = is_utf8-from_IsUtf8 text (plain_line text plain).utf8

-- a name is a text in UTF-8
plain_name : (c : ℕ) → is_name_character c ≡ true → is_plain_byte c ≡ true
plain_name c h = grind (arith, tests)

plain_names : (cs : List ℕ) → list_all is_name_character cs ≡ true → list_all is_plain_byte cs ≡ true
plain_names [] h = refl
plain_names (c ∷ cs) h =
    let parts = and_parts (is_name_character c) (list_all is_name_character cs) h in
    and_from (is_plain_byte c) (list_all is_plain_byte cs) (plain_name c parts.0) (plain_names cs parts.1)

name_is_utf8 : (name : List ℕ) → is_name name ≡ true → is_utf8 name ≡ true
name_is_utf8 [] h = absurd cc
name_is_utf8 (c ∷ cs) h =
    ascii (c ∷ cs) (plain_names (c ∷ cs) (and_parts (not (is_mark c)) (list_all is_name_character (c ∷ cs)) h).1)

is_so_by : (b : Bool) → IsTrue b → b ≡ true
is_so_by true h = refl
is_so_by false h = absurd (cc h)

-- no text is before itself
itself : (o : Ordering) → o ≡ ordering_reverse o → is_lt o ≡ false
itself Less e = absurd (cc e)
itself Equal e = refl
itself Greater e = refl

pub not_before_itself : (text : List ℕ) → is_before text text ≡ false
not_before_itself text = itself (slice_cmp nat_cmp text text) (nat_list_cmp_total.antisymm text text)

-- what is before another differs from it
differs : (one other : List ℕ) → is_before one other ≡ true → bytes_eq one other ≡ false
differs one other before = by (bytes_eq one other) refl
  where
    by : (b : Bool) → bytes_eq one other ≡ b → b ≡ false
    by true e = let same = (bytes_eq-Decides one other).0 e in absurd (true≢false (sym before ∙ ap (is_before one) (sym same) ∙ not_before_itself one))
    by false e = refl

none_same : (key : List ℕ) (services : List PlainService) → ((at : ℕ) (other : PlainService) → slice_get services at ≡ Some other → is_before key other.key ≡ true)
    → list_any (bytes_eq key) (keys_in (map entry_of services)) ≡ false
none_same key [] before = refl
none_same key (service ∷ services) before =
    rw (differs key service.key (before 0 service refl)) (none_same key services (λ at other e. before (suc at) other e))

-- services in order have different keys
keys_differ : (services : List PlainService) → AreInOrder services → are_distinct (keys_in (map entry_of services)) ≡ true
keys_differ [] order = refl
keys_differ (service ∷ services) order =
    rw (none_same service.key services (λ at other e. order 0 (suc at) service other (omega arith) refl e))
    (keys_differ services (λ i j one other less e f. order (suc i) (suc j) one other (omega (arith, less)) e f))

keys_are : (services : List PlainService) → keys_in (map entry_of services) ≡ map (λ service. service.key) services
keys_are [] = refl
keys_are (service ∷ services) = ap (λ l. service.key ∷ l) (keys_are services)

-- a mapping of two entries, whose keys are words of Compose files
service_printable : (service : PlainService) → is_utf8 service.image ≡ true → is_printable (service_node service) ≡ true
service_printable service image =
    printable_map ((codes "image", Text service.image) ∷ (codes "network_mode", Text (codes "none")) ∷ [])
    ∙ rw (
      printable_text_is service.image ∙ image,
      printable_text_is (codes "none") ∙ ascii (codes "none") refl,
      ascii (codes "image") refl,
      ascii (codes "network_mode") refl,
    ) refl

services_printable : (services : List PlainService) → list_all is_utf8 (map (λ service. service.image) services) ≡ true → list_all is_so (printable_in (map entry_of services)) ≡ true
services_printable [] images = refl
services_printable (service ∷ services) images =
    let parts = and_parts (is_utf8 service.image) (list_all is_utf8 (map (λ service. service.image) services)) images in
    and_from (is_printable (service_node service)) (list_all is_so (printable_in (map entry_of services))) (service_printable service parts.0) (services_printable services parts.1)

project_printable : (project : PlainProject) → IsReadable project → is_printable (node_of project) ≡ true
project_printable project is =
    let services : List (List ℕ × Node) = map entry_of project.services in
    let all_services : is_printable (Map services) ≡ true =
    printable_map services
    ∙ and_from (list_all is_utf8 (keys_in services)) (are_distinct (keys_in services) && list_all is_so (printable_in services)) (ap (list_all is_utf8) (keys_are project.services) ∙ is.keys)
    (and_from (are_distinct (keys_in services)) (list_all is_so (printable_in services)) (keys_differ project.services is.order) (services_printable project.services is.images)) in
    let named : is_printable (Text project.name) ≡ true = printable_text_is project.name ∙ name_is_utf8 project.name (is_so_by (is_name project.name) is.named) in
    printable_map ((codes "name", Text project.name) ∷ (codes "services", Map services) ∷ []) ∙ rw (named, all_services, ascii (codes "name") refl, ascii (codes "services") refl) refl

entries_same : (services : List PlainService) → map service_entry (map service_of services) ≡ map entry_of services
entries_same [] = refl
entries_same (service ∷ services) = ap (λ l. entry_of service ∷ l) (entries_same services)

node_same : (project : PlainProject) → project_node (project_of project) ≡ node_of project
node_same project = ap (λ (entries : List (List ℕ × Node)). Map ((codes "name", Text project.name) ∷ (codes "services", Map entries) ∷ [])) (entries_same project.services)

-- the two ways to say what lines spell
same_reading : (read : Result Lines YamlRefusal) → files.tree_of read ≡ (read >>= reading)
same_reading (Ok lines) = refl
same_reading (Err refusal) = refl

-- the tree of the page, and with its values
pub page_read : (project : PlainProject) → IsReadable project → tree_in (project_page project) ≡ Ok (tree_of (node_of project))
page_read project is =
    ap (λ (node : Node). tree_in (page_text node)) (node_same project)
    ∙ same_reading (scan_of 0 (page_text (node_of project))) ∙ printed_back 0 (node_of project) (project_printable project is) is.tree

pub page_valued : (env : List ℕ → Option (List ℕ)) (project : PlainProject) → IsReadable project → substituted_tree env (tree_of (node_of project)) ≡ Ok (tree_of_project project)
page_valued env project is = printed_value env (node_of project) (project_printable project is) is.tree.text ∙ ap (λ (t : Tree). Ok t) (value_of_project project)
