-- A page by its sections.
use Rattle.std.proofs.Common.{◌≡◌, ◌≢◌, ◌≤◌, ◌∙◌, ℕ, zero, suc, List, [], ◌∷◌, ◌++◌, drop, length, map, flat_map, codes, refl, sym, ap, arith, Bool, true, false, eqb, not, ◌↔◌, Option, Some, None, slice_get, ◌+◌, ◌<◌, add-one}
use Rattle.std.proofs.lemmas.Grind.{flat_map-append}
use Rattle.std.proofs.lemmas.List.{append-nil}
use Rattle.typed_project.specs.declared.project.Project.{Project}
use Rattle.project_print.specs.declared.node.Node.{Node}
use Rattle.project_print.specs.declared.node.Node.TheVariants.{Map, Text}
use Rattle.project_print.specs.Pages.{Shown, entry, item, page_text, shown}
use Rattle.project_print.specs.Written.{gap, hanging, parts_text}
use Rattle.project_print.proofs.Blocks.{map_is_block, map_lines, no_items, no_lines, seq_is_block, seq_lines}
use Rattle.project_pages.specs.AttributePages.{file_entry, if_any, network_entry, page, pair_entry, pairs_node, service_entry, texts_node, volume_entry}
use Rattle.project_pages.specs.Sections.{maybe_text, section_text}

-- the lines of an item under its key
abbrev pub item_lines : {X : Type 0} → (X → List ℕ) → (X → Node) → X → Shown
item_lines name show x = entry (name x, shown (show x))

-- entries as they are shown, from their items
shown_items : {X : Type 0} (name : X → List ℕ) (show : X → Node) (xs : List X)
    → map entry (map (λ (e : List ℕ × Node). (e.0, shown e.1)) (map {B = List ℕ × Node} (λ x. (name x, show x)) xs)) ≡ map (item_lines name show) xs
shown_items name show [] = refl
shown_items name show (x ∷ xs) = ap (λ ps. item_lines name show x ∷ ps) (shown_items name show xs)

some_items : {X : Type 0} (name : X → List ℕ) (show : X → Node) (xs : List X) → xs ≢ [] → map {B = List ℕ × Node} (λ x. (name x, show x)) xs ≢ []
some_items name show [] some = absurd (some refl)
some_items name show (x ∷ xs) some = λ no. cc

-- the entries of a mapping, one below the other, are what is shown of it
pub items_lines : {X : Type 0} (name : X → List ℕ) (show : X → Node) (d : ℕ) (xs : List X) → xs ≢ []
    → parts_text d 0 (map (item_lines name show) xs) ≡ hanging d (shown (Map (map {B = List ℕ × Node} (λ x. (name x, show x)) xs)))
items_lines name show d xs some =
    ap (parts_text d 0) (sym (shown_items name show xs)) ∙ map_lines d (map {B = List ℕ × Node} (λ x. (name x, show x)) xs) (some_items name show xs some)

-- a mapping of no items
pub no_items_lines : {X : Type 0} (name : X → List ℕ) (show : X → Node) (d : ℕ) (xs : List X) → xs ≡ []
    → codes "{}\n" ≡ hanging d (shown (Map (map {B = List ℕ × Node} (λ x. (name x, show x)) xs)))
no_items_lines name show d xs none = sym (no_lines d) ∙ ap (λ ys. hanging d (shown (Map (map {B = List ℕ × Node} (λ x. (name x, show x)) ys)))) (sym none)

-- a mapping of items
abbrev pub shown_mapping : {X : Type 0} → (X → List ℕ) → (X → Node) → List X → Node
shown_mapping name show xs = Map (map {B = List ℕ × Node} (λ x. (name x, show x)) xs)

-- there is no item exactly where their length is zero
pub none_by : {X : Type 0} (b : Bool) (xs : List X) → b ≡ eqb (length xs) 0 → b ≡ true → xs ≡ []
none_by b [] is so = refl
none_by b (x ∷ xs) is so = absurd (grind arith)

pub some_by : {X : Type 0} (b : Bool) (xs : List X) → b ≡ eqb (length xs) 0 → b ≡ false → xs ≢ []
some_by b [] is so = λ _. absurd (grind arith)
some_by b (x ∷ xs) is so = λ none. cc

-- a mapping is a block exactly where there is an item
pub is_block_of : {X : Type 0} (name : X → List ℕ) (show : X → Node) (b : Bool) (xs : List X) → b ≡ eqb (length xs) 0 → not b ≡ (shown (shown_mapping name show xs)).is_block
is_block_of name show b [] is = map_is_block b [] ((λ yes. refl), (λ none. grind arith))
is_block_of name show b (x ∷ xs) is =
    map_is_block b ((name x, show x) ∷ map {B = List ℕ × Node} (λ x. (name x, show x)) xs) ((λ yes. absurd (grind arith)), (λ none. absurd (let no : (name x, show x) ∷ map {B = List ℕ × Node} (λ x. (name x, show x)) xs ≡ [] = none in cc)))

-- nothing is left behind the last item
pub none_left : {X P : Type 0} (f : X → P) (xs : List X) (i : ℕ) → length xs ≤ i → drop i (map f xs) ≡ []
none_left f [] zero past = refl
none_left f [] (suc i) past = refl
none_left f (x ∷ xs) zero past = absurd (omega arith)
none_left f (x ∷ xs) (suc i) past = none_left f xs i (omega arith)

-- a section that isn't empty
pub section_some : {X : Type 0} (name : List ℕ) (show : List X → Node) (xs : List X) → xs ≢ []
    → hanging 0 (entry (name, shown (show xs))) ≡ section_text name show xs
section_some name show [] some = absurd (some refl)
section_some name show (x ∷ xs) some = refl

-- an empty one
pub section_none : {X : Type 0} (name : List ℕ) (show : List X → Node) (xs : List X) → xs ≡ [] → [] ≡ section_text name show xs
section_none name show xs none = ap (section_text name show) (sym none)

-- the lines of an entry of a page
abbrev part : List ℕ × Node → List ℕ
part (key, node) = hanging 0 (entry (key, shown node))

-- at the outermost level nothing stands before a part
no_gap : (n : ℕ) → gap 0 n ≡ []
no_gap zero = refl
no_gap (suc n) = refl

parts_flat : (n : ℕ) (ps : List Shown) → parts_text 0 n ps ≡ flat_map (hanging 0) ps
parts_flat n [] = refl
parts_flat n (p ∷ ps) = λ i. no_gap n i ++ (hanging 0 p ++ parts_flat (suc n) ps i)

entries_flat : (es : List (List ℕ × Node)) → flat_map (hanging 0) (map entry (map (λ (e : List ℕ × Node). (e.0, shown e.1)) es)) ≡ flat_map part es
entries_flat [] = refl
entries_flat (e ∷ es) = ap (λ y. part e ++ y) (entries_flat es)

page_of_entries : (es : List (List ℕ × Node)) → es ≢ [] → page_text (Map es) ≡ flat_map part es
page_of_entries es some =
    sym (map_lines 0 es some) ∙ parts_flat 0 (map entry (map (λ (e : List ℕ × Node). (e.0, shown e.1)) es)) ∙ entries_flat es

section_of : {X : Type 0} (name : List ℕ) (show : List X → Node) (xs : List X) → flat_map part (if_any name show xs) ≡ section_text name show xs
section_of name show [] = refl
section_of name show (x ∷ xs) = append-nil (part (name, show (x ∷ xs)))

behind_any : {X : Type 0} (name : List ℕ) (show : List X → Node) (xs : List X) (e : List ℕ × Node) (es : List (List ℕ × Node)) → if_any name show xs ++ e ∷ es ≢ []
behind_any name show [] e es = λ no. cc
behind_any name show (x ∷ xs) e es = λ no. cc

-- the page of a project: its sections, its name and its services
pub page_by_sections : (project : Project) → page project
    ≡ section_text (codes "configs") (λ configs. Map (map file_entry configs)) project.configs
    ++ (hanging 0 (entry (codes "name", shown (Text project.name)))
    ++ (section_text (codes "networks") (λ networks. Map (map network_entry networks)) project.networks
    ++ (section_text (codes "secrets") (λ secrets. Map (map file_entry secrets)) project.secrets
    ++ (hanging 0 (entry (codes "services", shown (Map (map service_entry project.services))))
    ++ section_text (codes "volumes") (λ volumes. Map (map volume_entry volumes)) project.volumes))))
page_by_sections project =
    let services : List ℕ × Node = (codes "services", Map (map service_entry project.services)) in
    let volumes : List (List ℕ × Node) = if_any (codes "volumes") (λ volumes. Map (map volume_entry volumes)) project.volumes in
    let secrets : List (List ℕ × Node) = if_any (codes "secrets") (λ secrets. Map (map file_entry secrets)) project.secrets in
    let networks : List (List ℕ × Node) = if_any (codes "networks") (λ networks. Map (map network_entry networks)) project.networks in
    let configs : List (List ℕ × Node) = if_any (codes "configs") (λ configs. Map (map file_entry configs)) project.configs in
    let name : List ℕ × Node = (codes "name", Text project.name) in
    page_of_entries (configs ++ name ∷ (networks ++ (secrets ++ services ∷ volumes))) (behind_any (codes "configs") (λ configs. Map (map file_entry configs)) project.configs name (networks ++ (secrets ++ services ∷ volumes)))
    ∙ flat_map-append part configs (name ∷ (networks ++ (secrets ++ services ∷ volumes)))
    ∙ (λ i. section_of (codes "configs") (λ configs. Map (map file_entry configs)) project.configs i ++ (part name ++ flat_map-append part networks (secrets ++ services ∷ volumes) i))
    ∙ (λ i. section_text (codes "configs") (λ configs. Map (map file_entry configs)) project.configs ++ (part name
    ++ (section_of (codes "networks") (λ networks. Map (map network_entry networks)) project.networks i ++ flat_map-append part secrets (services ∷ volumes) i)))
    ∙ (λ i. section_text (codes "configs") (λ configs. Map (map file_entry configs)) project.configs ++ (part name
    ++ (section_text (codes "networks") (λ networks. Map (map network_entry networks)) project.networks
    ++ (section_of (codes "secrets") (λ secrets. Map (map file_entry secrets)) project.secrets i
    ++ (part services ++ section_of (codes "volumes") (λ volumes. Map (map volume_entry volumes)) project.volumes i)))))

-- the items of texts, as they are shown
shown_texts : (ts : List (List ℕ)) → map item (map shown (map Text ts)) ≡ map (λ t. item (shown (Text t))) ts
shown_texts [] = refl
shown_texts (t ∷ ts) = ap (λ ps. item (shown (Text t)) ∷ ps) (shown_texts ts)

some_texts : (ts : List (List ℕ)) → ts ≢ [] → map Text ts ≢ []
some_texts [] some = absurd (some refl)
some_texts (t ∷ ts) some = λ none. cc

-- texts one below the other are what is shown of a sequence of them
pub texts_lines : (d : ℕ) (ts : List (List ℕ)) → ts ≢ [] → parts_text d 0 (map (λ t. item (shown (Text t))) ts) ≡ hanging d (shown (texts_node ts))
texts_lines d ts some = ap (parts_text d 0) (sym (shown_texts ts)) ∙ seq_lines d (map Text ts) (some_texts ts some)

-- a sequence of no texts
pub no_texts_lines : (d : ℕ) (ts : List (List ℕ)) → ts ≡ [] → codes "[]\n" ≡ hanging d (shown (texts_node ts))
no_texts_lines d ts none = sym (no_items d) ∙ ap (λ us. hanging d (shown (texts_node us))) (sym none)

-- a sequence is a block exactly where there is a text
pub texts_block : (b : Bool) (ts : List (List ℕ)) → b ≡ eqb (length ts) 0 → not b ≡ (shown (texts_node ts)).is_block
texts_block b [] is = seq_is_block b [] ((λ so. refl), (λ none. grind arith))
texts_block b (t ∷ ts) is =
    seq_is_block b (Text t ∷ map Text ts) ((λ so. absurd (grind arith)), (λ none. absurd (let no : Text t ∷ map Text ts ≡ [] = none in cc)))

-- the lines of a pair
abbrev pub pair_lines : List ℕ × Option (List ℕ) → Shown
pair_lines pair = entry (pair.0, shown (maybe_text pair.1))

shown_pairs : (ps : List (List ℕ × Option (List ℕ))) → map entry (map (λ (e : List ℕ × Node). (e.0, shown e.1)) (map pair_entry ps)) ≡ map pair_lines ps
shown_pairs [] = refl
shown_pairs (p ∷ ps) = ap (λ qs. pair_lines p ∷ qs) (shown_pairs ps)

some_pairs : (ps : List (List ℕ × Option (List ℕ))) → ps ≢ [] → map pair_entry ps ≢ []
some_pairs [] some = absurd (some refl)
some_pairs (p ∷ ps) some = λ none. cc

-- pairs one below the other are what is shown of a mapping of them
pub pairs_lines : (d : ℕ) (ps : List (List ℕ × Option (List ℕ))) → ps ≢ [] → parts_text d 0 (map pair_lines ps) ≡ hanging d (shown (pairs_node ps))
pairs_lines d ps some = ap (parts_text d 0) (sym (shown_pairs ps)) ∙ map_lines d (map pair_entry ps) (some_pairs ps some)

-- a mapping of no pairs
pub no_pairs_lines : (d : ℕ) (ps : List (List ℕ × Option (List ℕ))) → ps ≡ [] → codes "{}\n" ≡ hanging d (shown (pairs_node ps))
no_pairs_lines d ps none = sym (no_lines d) ∙ ap (λ qs. hanging d (shown (pairs_node qs))) (sym none)

-- a mapping is a block exactly where there is a pair
pub pairs_block : (b : Bool) (ps : List (List ℕ × Option (List ℕ))) → ((b ≡ true) ↔ (ps ≡ [])) → not b ≡ (shown (pairs_node ps)).is_block
pairs_block b [] h = map_is_block b [] ((λ so. refl), (λ none. h.1 refl))
pairs_block b (p ∷ ps) h =
    map_is_block b (pair_entry p ∷ map pair_entry ps) ((λ so. absurd (let no : p ∷ ps ≡ [] = h.0 so in cc)), (λ none. absurd (let no : pair_entry p ∷ map pair_entry ps ≡ [] = none in cc)))

next_pair : {X P : Type 0} (f : X → P) (xs : List X) (i : ℕ) (x : X) → slice_get xs i ≡ Some x → drop i (map f xs) ≡ f x ∷ drop (suc i) (map f xs)
next_pair f [] i x at = let no : None ≡ Some x = at in cc
next_pair f (y ∷ ys) zero x at = let same : Some y ≡ Some x = at in let found : y ≡ x = cc in λ i. f (found i) ∷ map f ys
next_pair f (y ∷ ys) (suc i) x at = next_pair f ys i x at

-- from a place on, what is made of the item at it, and the rest
pub next_found : {X P : Type 0} (f : X → P) (xs : List X) (i : ℕ) (x : X) → slice_get xs i ≡ Some x → drop i (map f xs) ≡ f x ∷ drop (i + 1) (map f xs)
next_found f xs i x at = next_pair f xs i x at ∙ ap (λ n. f x ∷ drop n (map f xs)) (sym (add-one i))

-- a place before the end has an item
pub some_there : {X : Type 0} (xs : List X) (i : ℕ) → i < length xs → slice_get xs i ≡ None → ⊥
some_there [] i within none = omega arith
some_there (x ∷ xs) zero within none = let no : Some x ≡ None = none in cc
some_there (x ∷ xs) (suc i) within none = some_there xs i (omega arith) none
