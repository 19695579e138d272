-- The page of a project, line by line.
use Rattle.std.proofs.Common.{◌≡◌, ◌<◌, ◌∙◌, ℕ, List, [], ◌∷◌, ◌++◌, true, codes, length, map, flat_map, refl, ap, append_assoc, rules, arith}
use Rattle.std.proofs.lemmas.Grind.{flat_map-append}
use Rattle.std.proofs.lemmas.List.{append-nil, map-append}
use Rattle.compose_config.specs.Laws.{EmptyProjectsHaveTwoLines, PagesHaveTheirLines, service_lines, text_word}
use Rattle.typed_project.specs.PlainProjects.{PlainProject, PlainService, project_of, service_of}
use Rattle.project_pages.specs.AttributePages.{attributes_node, page, project_node, service_entry}
use Rattle.project_print.specs.Pages.{Shown, block, deeper, ended, entry, lines_of, shown, word}
use Rattle.project_print.specs.Scalars.{scalar}
use Rattle.project_print.specs.declared.node.Node.{Node, the_lemmas}
use Rattle.project_print.specs.declared.node.Node.TheVariants.{Map, Text}

-- what is shown of a mapping, and of a text
abbrev under : List ℕ × Node → Shown
under entry_ = entry (entry_.0, shown entry_.1)

at_map : (entries : List (List ℕ × Node)) → shown (Map entries) ≡ block (codes "{}") (map entry (map (λ (e : List ℕ × Node). (e.0, shown e.1)) entries))
at_map entries = search (rules, the_lemmas)

at_text : (text : List ℕ) → shown (Text text) ≡ word (text_word text)
at_text text = search (rules, the_lemmas)

-- the entry of a service by its key and its image
abbrev plain_entry : PlainService → List ℕ × Node
plain_entry service = service_entry (service_of service)

entries_same : (services : List PlainService) → map service_entry (map service_of services) ≡ map plain_entry services
entries_same [] = refl
entries_same (service ∷ services) = ap (λ l. plain_entry service ∷ l) (entries_same services)

node_same : (name : List ℕ) (services : List PlainService)
    → project_node (project_of (record { name = name; services = services })) ≡ Map ((codes "name", Text name) ∷ (codes "services", Map (map plain_entry services)) ∷ [])
node_same name services = ap (λ (entries : List (List ℕ × Node)). Map ((codes "name", Text name) ∷ (codes "services", Map entries) ∷ [])) (entries_same services)

-- what is shown of a service, and of its entry
abbrev service_shape : PlainService → Shown
service_shape service = record { is_block = true; first = codes "image: " ++ text_word service.image; more = codes "network_mode: none" ∷ [] }

abbrev entry_shape : PlainService → Shown
entry_shape service = entry (service.key, service_shape service)

service_shown : (service : PlainService) → shown (attributes_node (service_of service).attributes) ≡ service_shape service
service_shown service =
    at_map ((codes "image", Text service.image) ∷ (codes "network_mode", Text (codes "none")) ∷ [])
    ∙ (λ i. block (codes "{}") (entry (codes "image", at_text service.image i) ∷ entry (codes "network_mode", at_text (codes "none") i) ∷ []))

entries_shown : (services : List PlainService) → map entry (map (λ (e : List ℕ × Node). (e.0, shown e.1)) (map plain_entry services)) ≡ map entry_shape services
entries_shown [] = refl
entries_shown (service ∷ services) = λ i. entry (service.key, service_shown service i) ∷ entries_shown services i

services_shown : (services : List PlainService) → shown (Map (map plain_entry services)) ≡ block (codes "{}") (map entry_shape services)
services_shown services = at_map (map plain_entry services) ∙ ap (block (codes "{}")) (entries_shown services)

-- the lines of a service, below those of the project
entry_lines : (service : PlainService) → flat_map ended (map deeper (lines_of (entry_shape service))) ≡ service_lines service
entry_lines service = joined (scalar service.key) (text_word service.image)
  where
    joined : (key image : List ℕ) → ((codes "  " ++ (key ++ codes ":")) ++ codes "\n") ++ (((codes "    image: " ++ image) ++ codes "\n") ++ codes "    network_mode: none\n")
        ≡ codes "  " ++ (key ++ (codes ":\n    image: " ++ (image ++ codes "\n    network_mode: none\n")))
    joined key image = simp append_assoc

all_lines : (services : List PlainService) → flat_map ended (map deeper (flat_map lines_of (map entry_shape services))) ≡ flat_map service_lines services
all_lines [] = refl
all_lines (service ∷ services) =
    ap (flat_map ended) (map-append deeper (lines_of (entry_shape service)) (flat_map lines_of (map entry_shape services)))
    ∙ flat_map-append ended (map deeper (lines_of (entry_shape service))) (map deeper (flat_map lines_of (map entry_shape services)))
    ∙ (λ i. entry_lines service i ++ all_lines services i)

page_lines : (name : List ℕ) (services : List PlainService) → 0 < length services
    → page (project_of (record { name = name; services = services })) ≡ codes "name: " ++ (text_word name ++ (codes "\nservices:\n" ++ flat_map service_lines services))
page_lines name [] some = absurd (omega (arith, some))
page_lines name (service ∷ services) some =
    ap (λ (s : Shown). flat_map ended (lines_of s)) project_shown
    ∙ ap (λ (ls : List (List ℕ)). ended (codes "name: " ++ text_word name) ++ (codes "services:\n" ++ flat_map ended ls)) (append-nil (map deeper (lines_of services_block)))
    ∙ ap (λ (text : List ℕ). ended (codes "name: " ++ text_word name) ++ (codes "services:\n" ++ text)) (all_lines (service ∷ services))
    ∙ joined (text_word name) (flat_map service_lines (service ∷ services))
  where
    services_block : Shown
    services_block = block (codes "{}") (map entry_shape (service ∷ services))

    project_shown : shown (project_node (project_of (record { name = name; services = service ∷ services }))) ≡ block (codes "{}") (entry (codes "name", word (text_word name)) ∷ entry (codes "services", services_block) ∷ [])
    project_shown =
        ap shown (node_same name (service ∷ services))
        ∙ at_map ((codes "name", Text name) ∷ (codes "services", Map (map plain_entry (service ∷ services))) ∷ [])
        ∙ (λ i. block (codes "{}") (entry (codes "name", at_text name i) ∷ entry (codes "services", services_shown (service ∷ services) i) ∷ []))

    joined : (n rest : List ℕ) → ((codes "name: " ++ n) ++ codes "\n") ++ (codes "services:\n" ++ rest) ≡ codes "name: " ++ (n ++ (codes "\nservices:\n" ++ rest))
    joined n rest = simp append_assoc

empty_lines : (name : List ℕ) → page (project_of (record { name = name; services = [] })) ≡ codes "name: " ++ (text_word name ++ codes "\nservices: {}\n")
empty_lines name = ap (λ (s : Shown). flat_map ended (lines_of s)) project_shown ∙ joined (text_word name)
  where
    project_shown : shown (project_node (project_of (record { name = name; services = [] }))) ≡ block (codes "{}") (entry (codes "name", word (text_word name)) ∷ entry (codes "services", word (codes "{}")) ∷ [])
    project_shown =
        at_map ((codes "name", Text name) ∷ (codes "services", Map []) ∷ [])
        ∙ (λ i. block (codes "{}") (entry (codes "name", at_text name i) ∷ entry (codes "services", services_shown [] i) ∷ []))

    joined : (n : List ℕ) → ((codes "name: " ++ n) ++ codes "\n") ++ codes "services: {}\n" ≡ codes "name: " ++ (n ++ codes "\nservices: {}\n")
    joined n = simp append_assoc

pub empty_pages : EmptyProjectsHaveTwoLines
empty_pages project none = ap (λ (services : List PlainService). page (project_of (record { name = project.name; services = services }))) none ∙ empty_lines project.name

pub pages : PagesHaveTheirLines
pages project some = page_lines project.name project.services some
