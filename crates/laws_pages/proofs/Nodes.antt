-- Nodes by their parts: what holds of every node, its JSON, and whether its words are numbers and flags.
use Rattle.std.proofs.Common.{◌≡◌, ◌∙◌, ℕ, Bool, true, List, [], ◌∷◌, ◌++◌, codes, map, refl, sym, ap, subst, rules}
use Rattle.std.specs.List.{list_all, zip}
use Rattle.std.specs.Map.{keys_of, values_of}
use Rattle.json.specs.Print.{quoted}
use Rattle.laws_pages.specs.Words.{all_words}
use Rattle.project_print.proofs.Commas.{map_json, seq_json}
use Rattle.project_print.specs.Json.{json_of, member, spelled}
use Rattle.project_print.specs.Written.{listed_from}
use Rattle.project_print.specs.declared.compact_json.Dollars.{Dollars}
use Rattle.project_print.specs.declared.node.Node.{Node, out-Node, roll-Node, roll-out-Node, the_lemmas}
use Rattle.project_print.specs.declared.node.Node.TheFolds.{ind-Node, map-Node}
use Rattle.project_print.specs.declared.node.Node.TheOpen.{Node-F}
use Rattle.project_print.specs.declared.node.Node.TheVariants.{Map, Null, Seq, Text, Word, rolls-Map, rolls-Null, rolls-Seq, rolls-Text, rolls-Word}

-- a fact on each
abbrev pub OfAll : {X : Type 0} → (X → Type 0) → List X → Type 0
OfAll P [] = Unit {0}
OfAll P (x ∷ xs) = P x × OfAll P xs

module _ (P : Node → Type 0) (of_null : P Null) (of_word : (text : List ℕ) → P (Word text)) (of_text : (text : List ℕ) → P (Text text)) (of_map : (entries : List (List ℕ × Node)) → OfAll (λ (e : List ℕ × Node). P e.1) entries → P (Map entries)) (of_seq : (items : List Node) → OfAll P items → P (Seq items)) where
  -- nodes, each with the fact
  abbrev Known : Type 0
  Known = (n : Node) × P n

  known_items : (xs : List Known) → OfAll P (map (λ (x : Known). x.0) xs)
  known_items [] = tt
  known_items (x ∷ xs) = (x.1, known_items xs)

  known_entries : (es : List (List ℕ × Known)) → OfAll (λ (e : List ℕ × Node). P e.1) (map (λ (e : List ℕ × Known). (e.0, e.1.0)) es)
  known_entries [] = tt
  known_entries (e ∷ es) = (e.1.1, known_entries es)

  by_parts : (y : Node-F Known) → P (roll-Node (map-Node Known Node (λ (x : Known). x.0) y))
  by_parts Node-F.Null = subst P (sym rolls-Null) of_null
  by_parts (Node-F.Word text) = subst P (sym (rolls-Word text)) (of_word text)
  by_parts (Node-F.Text text) = subst P (sym (rolls-Text text)) (of_text text)
  by_parts (Node-F.Map es) = let entries : List (List ℕ × Node) = map (λ (e : List ℕ × Known). (e.0, e.1.0)) es in subst P (sym (rolls-Map entries)) (of_map entries (known_entries es))
  by_parts (Node-F.Seq xs) = let items : List Node = map (λ (x : Known). x.0) xs in subst P (sym (rolls-Seq items)) (of_seq items (known_items xs))

  -- what holds of a node where it holds of its parts holds of every node
  pub of_every : (node : Node) → P node
  of_every = ind-Node P (λ x y is. subst (λ (z : Node-F Node). P (roll-Node z)) is (by_parts y))

-- what holds of each kind of node holds of every node
pub of_each : (P : Node → Type 0) → P Null → ((text : List ℕ) → P (Word text)) → ((text : List ℕ) → P (Text text)) → ((entries : List (List ℕ × Node)) → P (Map entries)) → ((items : List Node) → P (Seq items))
    → (node : Node) → P node
of_each P of_null of_word of_text of_map of_seq node = subst P (roll-out-Node node) (by (out-Node node))
  where
    by : (layer : Node-F Node) → P (roll-Node layer)
    by Node-F.Null = subst P (sym rolls-Null) of_null
    by (Node-F.Word text) = subst P (sym (rolls-Word text)) (of_word text)
    by (Node-F.Text text) = subst P (sym (rolls-Text text)) (of_text text)
    by (Node-F.Map entries) = subst P (sym (rolls-Map entries)) (of_map entries)
    by (Node-F.Seq items) = subst P (sym (rolls-Seq items)) (of_seq items)

-- the JSON of each kind
module _ (dollars : Dollars) where
  pub json_null : json_of dollars Null ≡ codes "null"
  json_null = search (rules, the_lemmas)

  pub json_word : (text : List ℕ) → json_of dollars (Word text) ≡ text
  json_word text = search (rules, the_lemmas)

  pub json_text : (text : List ℕ) → json_of dollars (Text text) ≡ quoted (spelled dollars text)
  json_text text = search (rules, the_lemmas)

  -- an entry as a member
  abbrev pub json_entry : List ℕ × Node → List ℕ
  json_entry e = member (e.0, json_of dollars e.1)

  zipped : (es : List (List ℕ × Node)) → map member (zip (keys_of es) (map (json_of dollars) (values_of es))) ≡ map json_entry es
  zipped [] = refl
  zipped (e ∷ es) = ap (λ (l : List (List ℕ)). json_entry e ∷ l) (zipped es)

  pub json_map : (es : List (List ℕ × Node)) → json_of dollars (Map es) ≡ codes "{" ++ (listed_from 0 (map json_entry es) ++ codes "}")
  json_map es = sym (map_json dollars es) ∙ ap (λ (l : List (List ℕ)). codes "{" ++ (listed_from 0 l ++ codes "}")) (zipped es)

  pub json_seq : (xs : List Node) → json_of dollars (Seq xs) ≡ codes "[" ++ (listed_from 0 (map (json_of dollars) xs) ++ codes "]")
  json_seq xs = sym (seq_json dollars xs)

-- whether the words of each kind pass a test
module _ (test : List ℕ → Bool) where
  pub words_null : all_words test Null ≡ true
  words_null = search (rules, the_lemmas)

  pub words_word : (text : List ℕ) → all_words test (Word text) ≡ test text
  words_word text = search (rules, the_lemmas)

  pub words_text : (text : List ℕ) → all_words test (Text text) ≡ true
  words_text text = search (rules, the_lemmas)

  -- whether those of each entry do
  abbrev pub words_in : List (List ℕ × Node) → List Bool
  words_in es = map (λ e. all_words test e.1) es

  words_are : (es : List (List ℕ × Node)) → values_of (map (λ (e : List ℕ × Node). (e.0, all_words test e.1)) es) ≡ words_in es
  words_are [] = refl
  words_are (e ∷ es) = ap (λ (l : List Bool). all_words test e.1 ∷ l) (words_are es)

  words_map_at : (es : List (List ℕ × Node)) → all_words test (Map es) ≡ list_all (λ is. is) (values_of (map (λ (e : List ℕ × Node). (e.0, all_words test e.1)) es))
  words_map_at es = search (rules, the_lemmas)

  pub words_map : (es : List (List ℕ × Node)) → all_words test (Map es) ≡ list_all (λ is. is) (words_in es)
  words_map es = words_map_at es ∙ ap (list_all (λ (is : Bool). is)) (words_are es)

  pub words_seq : (xs : List Node) → all_words test (Seq xs) ≡ list_all (λ is. is) (map (all_words test) xs)
  words_seq xs = search (rules, the_lemmas)
