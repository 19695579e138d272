-- A node as the program holds it, whose words are words, is read back.
use Rattle.std.proofs.Common.{◌≡◌, ◌∙◌, ℕ, ◌&&◌, Bool, true, List, [], ◌∷◌, map, refl, sym, ap, rules}
use Rattle.std.proofs.lemmas.Bool.{and_from, and_parts}
use Rattle.std.specs.List.{list_all}
use Rattle.std.specs.Map.{keys_of, values_of}
use Rattle.std.specs.Str.{is_utf8}
use Rattle.project_print.specs.declared.node.Node.{Node, fold-Node, the_lemmas}
use Rattle.project_print.specs.declared.node.Node.TheOpen.{Node-F}
use Rattle.project_print.specs.declared.node.Node.TheVariants.{Map, Null, Seq, Text, Word}
use Rattle.laws_yaml.proofs.Induction.{OfAll, of_every}
use Rattle.laws_yaml.specs.Readable.{are_distinct, is_read_as_word, is_so}
use Rattle.laws_yaml.proofs.Decoded.{keys_in, printable_in, printable_map, printable_null, printable_seq, printable_text, printable_word}
use Rattle.laws_yaml.specs.Printed.{is_printable}
use Rattle.laws_pages.specs.Held.{is_held}

-- whether the words of a node are read as they stand, where its parts are given by whether theirs are
abbrev words_step : Node-F Bool → Bool
words_step Node-F.Null = true
words_step (Node-F.Word text) = is_read_as_word text
words_step (Node-F.Text text) = true
words_step (Node-F.Map entries) = list_all is_so (values_of entries)
words_step (Node-F.Seq items) = list_all is_so items

-- whether the words of a node are read as they stand
abbrev pub has_words : Node → Bool
has_words = fold-Node Bool words_step

pub words_null : has_words Null ≡ true
words_null = search (rules, the_lemmas)

pub words_word : (text : List ℕ) → has_words (Word text) ≡ is_read_as_word text
words_word text = search (rules, the_lemmas)

pub words_text : (text : List ℕ) → has_words (Text text) ≡ true
words_text text = search (rules, the_lemmas)

abbrev pub words_in : List (List ℕ × Node) → List Bool
words_in es = map (λ e. has_words e.1) es

words_are : (es : List (List ℕ × Node))
    → values_of (map (λ (e : List ℕ × Node). (e.0, has_words e.1)) es) ≡ words_in es
words_are [] = refl
words_are (e ∷ es) = ap (λ l. has_words e.1 ∷ l) (words_are es)

words_map_at : (es : List (List ℕ × Node))
    → has_words (Map es) ≡ list_all is_so (values_of (map (λ (e : List ℕ × Node). (e.0, has_words e.1)) es))
words_map_at es = search (rules, the_lemmas)

pub words_map : (es : List (List ℕ × Node)) → has_words (Map es) ≡ list_all is_so (words_in es)
words_map es = words_map_at es ∙ ap (list_all is_so) (words_are es)

pub words_seq : (xs : List Node) → has_words (Seq xs) ≡ list_all is_so (map has_words xs)
words_seq xs = search (rules, the_lemmas)

held_text : (text : List ℕ) → is_held (Text text) ≡ is_utf8 text
held_text text = search (rules, the_lemmas)

abbrev held_in : List (List ℕ × Node) → List Bool
held_in es = map (λ e. is_held e.1) es

held_keys_are : (es : List (List ℕ × Node))
    → keys_of (map (λ (e : List ℕ × Node). (e.0, is_held e.1)) es) ≡ keys_in es
held_keys_are [] = refl
held_keys_are (e ∷ es) = ap (λ l. e.0 ∷ l) (held_keys_are es)

held_values_are : (es : List (List ℕ × Node))
    → values_of (map (λ (e : List ℕ × Node). (e.0, is_held e.1)) es) ≡ held_in es
held_values_are [] = refl
held_values_are (e ∷ es) = ap (λ l. is_held e.1 ∷ l) (held_values_are es)

held_map_at : (es : List (List ℕ × Node)) → is_held (Map es)
    ≡ (list_all is_utf8 (keys_of (map (λ (e : List ℕ × Node). (e.0, is_held e.1)) es))
    && (are_distinct (keys_of (map (λ (e : List ℕ × Node). (e.0, is_held e.1)) es)) && list_all is_so (values_of (map (λ (e : List ℕ × Node). (e.0, is_held e.1)) es))))
held_map_at es = search (rules, the_lemmas)

held_map : (es : List (List ℕ × Node))
    → is_held (Map es) ≡ (list_all is_utf8 (keys_in es) && (are_distinct (keys_in es) && list_all is_so (held_in es)))
held_map es = held_map_at es ∙ (λ i. list_all is_utf8 (held_keys_are es i) && (are_distinct (held_keys_are es i) && list_all is_so (held_values_are es i)))

held_seq : (xs : List Node) → is_held (Seq xs) ≡ list_all is_so (map is_held xs)
held_seq xs = search (rules, the_lemmas)

abbrev Claim : Node → Type 0
Claim node = is_held node ≡ true → has_words node ≡ true → is_printable node ≡ true

entries_are : (es : List (List ℕ × Node)) → OfAll (λ (e : List ℕ × Node). Claim e.1) es
    → list_all is_so (held_in es) ≡ true → list_all is_so (words_in es) ≡ true → list_all is_so (printable_in es) ≡ true
entries_are [] claims held words = refl
entries_are (e ∷ es) claims held words =
    let one = and_parts (is_held e.1) (list_all is_so (held_in es)) held in
    let two = and_parts (has_words e.1) (list_all is_so (words_in es)) words in
    and_from (is_printable e.1) (list_all is_so (printable_in es)) (claims.0 one.0 two.0) (entries_are es claims.1 one.1 two.1)

items_are : (xs : List Node) → OfAll Claim xs → list_all is_so (map is_held xs) ≡ true
    → list_all is_so (map has_words xs) ≡ true → list_all is_so (map is_printable xs) ≡ true
items_are [] claims held words = refl
items_are (x ∷ xs) claims held words =
    let one = and_parts (is_held x) (list_all is_so (map is_held xs)) held in
    let two = and_parts (has_words x) (list_all is_so (map has_words xs)) words in
    and_from (is_printable x) (list_all is_so (map is_printable xs)) (claims.0 one.0 two.0) (items_are xs claims.1 one.1 two.1)

map_claim : (es : List (List ℕ × Node)) → OfAll (λ (e : List ℕ × Node). Claim e.1) es → Claim (Map es)
map_claim es claims held words =
    let all = and_parts (list_all is_utf8 (keys_in es)) (are_distinct (keys_in es) && list_all is_so (held_in es)) (sym (held_map es) ∙ held) in
    let rest = and_parts (are_distinct (keys_in es)) (list_all is_so (held_in es)) all.1 in
    printable_map es
    ∙ and_from (list_all is_utf8 (keys_in es)) (are_distinct (keys_in es) && list_all is_so (printable_in es)) all.0
    (and_from (are_distinct (keys_in es)) (list_all is_so (printable_in es)) rest.0 (entries_are es claims rest.1 (sym (words_map es) ∙ words)))

pub held_printable : (node : Node) → Claim node
held_printable =
    of_every Claim (λ held words. printable_null)
    (λ text held words. printable_word text ∙ sym (words_word text) ∙ words)
    (λ text held words. printable_text text ∙ sym (held_text text) ∙ held)
    map_claim
    (λ xs claims held words. printable_seq xs ∙ items_are xs claims (sym (held_seq xs) ∙ held) (sym (words_seq xs) ∙ words))
