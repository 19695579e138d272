-- Marks of entries: those of items that are one are the same.
use Rattle.std.proofs.Common.{◌≡◌, ◌∙◌, ℕ, true, false, List, [], ◌∷◌, ◌++◌, map, Option, Some, None, refl, sym, ap, codes, append_assoc, append-nil, rules, true≢false}
use Rattle.std.proofs.lemmas.Bool.{and_parts}
use Rattle.std.specs.Option.{option_map}
use Rattle.tree_base.specs.declared.tree.Tree.{Tree, out-Tree, the_lemmas}
use Rattle.tree_base.specs.declared.tree.Tree.TheVariants.{Scalar}
use Rattle.merge_tables.specs.declared.rules.EntryKind.{EntryKind}
use Rattle.merge_tables.specs.Parts.{field}
use Rattle.merge_rules.specs.Marks.{counted, mark_of, mark_text, written}
use Rattle.merge_rules.specs.Sameness.{same, same_items}
use Rattle.merge_rules.specs.Uniqueness.{alone, are_one, binding, key_in, protocol_of, same_keys}
use Rattle.merge_rules.proofs.Sames.{same_told}

-- keys that are the same are equal
keys_told : (key other : List Tree) → same_items (map same key) other ≡ true → key ≡ other
keys_told [] [] h = refl
keys_told [] (o ∷ others) h = absurd (true≢false (sym h))
keys_told (k ∷ key) [] h = absurd (true≢false (sym h))
keys_told (k ∷ key) (o ∷ others) h =
    let p = and_parts (same k o) (same_items (map same key) others) h in
    (λ i. same_told k o p.0 i ∷ keys_told key others p.1 i)

-- items that are one have one mark
pub one_mark : (kind : EntryKind) (item other : Tree) (mark : List ℕ) → are_one kind item other ≡ true → mark_of kind item ≡ Some mark → mark_of kind other ≡ Some mark
one_mark kind item other mark one is = by (key_in kind (out-Tree item)) (key_in kind (out-Tree other)) one is
  where
    by : (key own : Option (List Tree)) → same_keys key own ≡ true → option_map mark_text key ≡ Some mark → option_map mark_text own ≡ Some mark
    by None own one is = absurd (true≢false (sym one))
    by (Some key) None one is = absurd (true≢false (sym one))
    by (Some key) (Some own) one is = ap (λ (k : List Tree). Some (mark_text k)) (sym (keys_told key own one)) ∙ is

-- an item without a mark is one with no other
pub unmarked : (kind : EntryKind) (item other : Tree) → mark_of kind item ≡ None → are_one kind item other ≡ false
unmarked kind item other none = by (key_in kind (out-Tree item)) none
  where
    by : (key : Option (List Tree)) → option_map mark_text key ≡ None → same_keys key (key_in kind (out-Tree other)) ≡ false
    by None e = refl
    by (Some key) e = absurd (cc e)

-- the part of a text
pub scalar_part : (text : List ℕ) → written (Scalar text) ≡ counted text
scalar_part text = search (rules, the_lemmas)

text_mark : (text : List ℕ) → mark_text (Scalar text ∷ []) ≡ counted text
text_mark text = append-nil (written (Scalar text)) ∙ scalar_part text

-- the mark of a key of one text
pub marked_text : (text mark : List ℕ) (own : Option (List ℕ)) → own ≡ Some text → mark ≡ counted text → Some mark ≡ option_map mark_text (alone own)
marked_text text mark own is made =
    ap Some (made ∙ sym (text_mark text)) ∙ ap (λ (t : Option (List ℕ)). option_map mark_text (alone t)) (sym is)

pub no_text : (own : Option (List ℕ)) → own ≡ None → None ≡ option_map mark_text (alone own)
no_text own is = ap (λ (t : Option (List ℕ)). option_map mark_text (alone t)) (sym is)

-- the parts of a port, put one behind the other
pub port_marked : (target : List ℕ) (entries : List (List ℕ × Tree)) (a b c d : List ℕ) → a ≡ counted target
    → b ≡ a ++ written (field entries (codes "host_ip")) → c ≡ b ++ written (field entries (codes "published")) → d ≡ c ++ written (protocol_of entries)
    → d ≡ mark_text (Scalar target ∷ binding entries)
port_marked target entries a b c d e f g h =
    let first = written (Scalar target) in
    let second = written (field entries (codes "host_ip")) in
    let third = written (field entries (codes "published")) in
    let fourth = written (protocol_of entries) in
    let one : a ≡ first = e ∙ sym (scalar_part target) in
    let two : b ≡ first ++ second = f ∙ ap (λ (t : List ℕ). t ++ second) one in
    let three : c ≡ (first ++ second) ++ third = g ∙ ap (λ (t : List ℕ). t ++ third) two in
    h ∙ ap (λ (t : List ℕ). t ++ fourth) three
    ∙ append_assoc (first ++ second) third fourth
    ∙ append_assoc first second (third ++ fourth)
    ∙ ap (λ (t : List ℕ). first ++ (second ++ (third ++ t))) (sym (append-nil fourth))
