-- Parts with commas between them.
use Rattle.std.proofs.Common.{◌≡◌, ◌∙◌, ℕ, suc, ◌+◌, List, [], ◌∷◌, ◌++◌, codes, map, refl, sym, ap, append_assoc, add-one, rules}
use Rattle.std.proofs.lemmas.List.{append-nil}
use Rattle.std.specs.List.{join_with_byte, zip}
use Rattle.std.specs.Map.{keys_of, values_of}
use Rattle.json.specs.Print.{quoted}
use Rattle.tree_base.proofs.Pairs.{values_mapped}
use Rattle.project_print.specs.declared.compact_json.Dollars.{Dollars}
use Rattle.project_print.specs.declared.node.Node.{Node, the_lemmas}
use Rattle.project_print.specs.declared.node.Node.TheVariants.{Map, Seq}
use Rattle.project_print.specs.Json.{json_of, listed, member}
use Rattle.project_print.specs.Written.{comma, listed_from, members_text}

listed_behind : (n : ℕ) (p : List ℕ) (ps : List (List ℕ)) → listed_from (suc n) (p ∷ ps) ≡ 44 ∷ join_with_byte 44 (p ∷ ps)
listed_behind n p [] = ap (λ x. 44 ∷ x) (append-nil p)
listed_behind n p (q ∷ qs) = ap (λ x. 44 ∷ (p ++ x)) (listed_behind (suc n) q qs)

-- a comma before each part but the first stands between each two
pub listed_all : (ps : List (List ℕ)) → listed_from 0 ps ≡ listed ps
listed_all [] = refl
listed_all (p ∷ []) = append-nil p
listed_all (p ∷ q ∷ qs) = ap (λ x. p ++ x) (listed_behind 0 q qs)

fold_at_map : (dollars : Dollars) (es : List (List ℕ × Node)) → json_of dollars (Map es) ≡ codes "{" ++ (listed (map member (map (λ (e : List ℕ × Node). (e.0, json_of dollars e.1)) es)) ++ codes "}")
fold_at_map dollars es = search (rules, the_lemmas)

fold_at_seq : (dollars : Dollars) (xs : List Node) → json_of dollars (Seq xs) ≡ codes "[" ++ (listed (map (json_of dollars) xs) ++ codes "]")
fold_at_seq dollars xs = search (rules, the_lemmas)

-- the members of an object
pub map_json : (dollars : Dollars) (es : List (List ℕ × Node)) → codes "{" ++ (members_text (zip (keys_of es) (map (json_of dollars) (values_of es))) ++ codes "}") ≡ json_of dollars (Map es)
map_json dollars es =
    ap (λ x. codes "{" ++ (members_text x ++ codes "}")) (values_mapped (json_of dollars) es)
    ∙ ap (λ x. codes "{" ++ (x ++ codes "}")) (listed_all (map member (map (λ (e : List ℕ × Node). (e.0, json_of dollars e.1)) es)))
    ∙ sym (fold_at_map dollars es)

-- the items of an array
pub seq_json : (dollars : Dollars) (xs : List Node) → codes "[" ++ (listed_from 0 (map (json_of dollars) xs) ++ codes "]") ≡ json_of dollars (Seq xs)
seq_json dollars xs = ap (λ x. codes "[" ++ (x ++ codes "]")) (listed_all (map (json_of dollars) xs)) ∙ sym (fold_at_seq dollars xs)

-- one member more
pub member_step : (at : ℕ) (out one two three four total k j : List ℕ) (parts rest : List (List ℕ)) → one ≡ out ++ comma at → two ≡ one ++ quoted k → three ≡ two ++ codes ":" → four ≡ three ++ j
    → parts ≡ member (k, j) ∷ rest → out ++ listed_from at parts ≡ total → four ++ listed_from (at + 1) rest ≡ total
member_step at out one two three four total k j parts rest e f g h p so_far =
    (λ i. (h ∙ ap (λ x. x ++ j) (g ∙ ap (λ x. x ++ codes ":") (f ∙ ap (λ x. x ++ quoted k) e))) i ++ listed_from (add-one at i) rest)
    ∙ joined out (comma at) (quoted k) (codes ":") j (listed_from (suc at) rest)
    ∙ ap (λ x. out ++ listed_from at x) (sym p)
    ∙ so_far
  where
    joined : (a g k h j r : List ℕ) → ((((a ++ g) ++ k) ++ h) ++ j) ++ r ≡ a ++ (g ++ ((k ++ (h ++ j)) ++ r))
    joined a g k h j r = simp append_assoc

-- one element more
pub element_step : (at : ℕ) (out one two total j : List ℕ) (parts rest : List (List ℕ)) → one ≡ out ++ comma at → two ≡ one ++ j
    → parts ≡ j ∷ rest → out ++ listed_from at parts ≡ total → two ++ listed_from (at + 1) rest ≡ total
element_step at out one two total j parts rest e f p so_far =
    (λ i. (f ∙ ap (λ x. x ++ j) e) i ++ listed_from (add-one at i) rest)
    ∙ joined out (comma at) j (listed_from (suc at) rest)
    ∙ ap (λ x. out ++ listed_from at x) (sym p)
    ∙ so_far
  where
    joined : (a g j r : List ℕ) → ((a ++ g) ++ j) ++ r ≡ a ++ (g ++ (j ++ r))
    joined a g j r = simp append_assoc

-- nothing is left behind the last part
pub listed_done : (at : ℕ) (out total : List ℕ) (parts : List (List ℕ)) → parts ≡ [] → out ++ listed_from at parts ≡ total → out ≡ total
listed_done at out total parts e h = sym (append-nil out) ∙ ap (λ x. out ++ listed_from at x) (sym e) ∙ h

-- parts between their brackets
pub wrapped : (out one two three open_ inner close total : List ℕ) → one ≡ out ++ open_ → two ≡ one ++ inner → three ≡ two ++ close → open_ ++ (inner ++ close) ≡ total → three ≡ out ++ total
wrapped out one two three open_ inner close total e f g h =
    g ∙ ap (λ x. x ++ close) (f ∙ ap (λ x. x ++ inner) e) ∙ joined out open_ inner close ∙ ap (λ x. out ++ x) h
  where
    joined : (a o i c : List ℕ) → ((a ++ o) ++ i) ++ c ≡ a ++ (o ++ (i ++ c))
    joined a o i c = simp append_assoc
