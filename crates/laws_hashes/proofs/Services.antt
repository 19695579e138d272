-- Services of projects with the same text under the first hash.
use Rattle.std.proofs.Common.{◌≡◌, ◌∙◌, ℕ, All, List, [], ◌∷◌, map, sym, ap}
use Rattle.std.proofs.lemmas.List.Elements.{All-cons, All-contains, All-nil}
use Rattle.laws_hashes.proofs.Readings.{all_same}
use Rattle.laws_hashes.specs.Laws.{IsMeant, OwnTextsTellServices}
use Rattle.laws_pages.proofs.JsonNodeDigits.{words_pass}
use Rattle.laws_pages.proofs.JsonNodePageWords.{attributes_words}
use Rattle.laws_pages.proofs.Tells.{tells}
use Rattle.laws_pages.specs.Words.{is_word}
use Rattle.laws_attributes.specs.ReadBack.{entries_shown}
use Rattle.laws_pages.proofs.Declared.{ServiceReads}
use Rattle.laws_pages.proofs.Each.{Each, each-filter}
use Rattle.laws_pages.proofs.PagesMean.{services_back}
use Rattle.laws_pages.proofs.ServicesBack.{Back, IsRead, wanted_by}
use Rattle.project_pages.specs.AttributePages.{attribute_entry, attributes_node}
use Rattle.project_pages.specs.Puts.{is_hashed}
use Rattle.project_print.specs.declared.compact_json.Dollars.{Dollars}
use Rattle.project_print.specs.declared.node.Node.{Node, out-Node}
use Rattle.project_print.specs.declared.node.Node.TheOpen.{Node-F}
use Rattle.project_print.specs.declared.node.Node.TheVariants.{Map, outs-Map}
use Rattle.service_hashes.specs.Laws.{hashed_attributes}
use Rattle.typed_project.specs.declared.service.Service.{Service}

-- a mapping tells its entries
entries_same : (es fs : List (List ℕ × Node)) → Map es ≡ Map fs → es ≡ fs
entries_same es fs e = let seen : Node-F.Map es ≡ Node-F.Map fs = sym (outs-Map es) ∙ ap out-Node e ∙ outs-Map fs in cc seen

all_of : (services : List Service) → Each ServiceReads services → All ServiceReads services
all_of [] h = All-nil ServiceReads
all_of (service ∷ services) h = All-cons ServiceReads service services h.0 (all_of services h.1)

-- the attributes of a service of a project are read again
meant_back : (service : Service) → IsMeant service → Back service.attributes
meant_back service is =
    let reads = services_back is.name is.tree is.project is.unmarked is.apart is.means in
    (All-contains ServiceReads is.project.services service (all_of is.project.services reads) is.among).back

abbrev HashedAreRead : Service → Type 0
HashedAreRead service = Each (IsRead (wanted_by service.attributes) (entries_shown service.attributes)) (hashed_attributes service)

hashed_back : (service : Service) → IsMeant service → HashedAreRead service
hashed_back service is =
    each-filter (IsRead (wanted_by service.attributes) (entries_shown service.attributes)) is_hashed service.attributes (meant_back service is).each

pub own_texts_tell : OwnTextsTellServices
own_texts_tell service other one two e =
    let nodes : attributes_node (hashed_attributes service) ≡ attributes_node (hashed_attributes other) =
    tells Dollars.Once (attributes_node (hashed_attributes service)) (attributes_node (hashed_attributes other))
    (attributes_words is_word words_pass (hashed_attributes service)) (attributes_words is_word words_pass (hashed_attributes other)) e in
    all_same (wanted_by service.attributes) (wanted_by other.attributes) (entries_shown service.attributes) (entries_shown other.attributes) (hashed_attributes service) (hashed_attributes other)
    (hashed_back service one) (hashed_back other two)
    (entries_same (map attribute_entry (hashed_attributes service)) (map attribute_entry (hashed_attributes other)) nodes)
