-- Two trees are the same by the definition exactly where they are equal.
use Rattle.std.proofs.Common.{◌≡◌, ◌∙◌, ℕ, List, [], ◌∷◌, map, Bool, true, false, ◌&&◌, ap, refl, sym, true≢false, rules}
use Rattle.std.proofs.lemmas.Bool.{and_parts, false_from_ne_true}
use Rattle.std.proofs.lemmas.Slice.Eq.{bytes_eq-Decides}
use Rattle.std.specs.Str.{bytes_eq}
use Rattle.tree_base.specs.declared.tree.Tree.{Tree, out-Tree, roll-Tree, roll-out-Tree, the_lemmas}
use Rattle.tree_base.specs.declared.tree.Tree.TheOpen.{Tree-F}
use Rattle.tree_base.specs.declared.tree.Tree.TheVariants.{Map, Null, Override, Reset, Scalar, Seq, rolls-Map, rolls-Null, rolls-Override, rolls-Reset, rolls-Scalar, rolls-Seq}
use Rattle.merge_rules.specs.Sameness.{same, same_entries, same_items, same_step}
use Rattle.attribute_paths.proofs.Trees.{OfAll, of_every}

-- entries with what says whether a tree is the same as their value
abbrev tests : List (List ℕ × Tree) → List (List ℕ × (Tree → Bool))
tests es = map (λ (e : List ℕ × Tree). (e.0, same e.1)) es

-- a tree is the same as itself
items_self : (xs : List Tree) → OfAll (λ (t : Tree). same t t ≡ true) xs → same_items (map same xs) xs ≡ true
items_self [] h = refl
items_self (x ∷ xs) h = rw (h.0, items_self xs h.1) refl

entries_self : (es : List (List ℕ × Tree)) → OfAll (λ (e : List ℕ × Tree). same e.1 e.1 ≡ true) es → same_entries (tests es) es ≡ true
entries_self [] h = refl
entries_self (e ∷ es) h = rw ((bytes_eq-Decides e.0 e.0).1 refl, h.0, entries_self es h.1) refl

null_self : same Null Null ≡ true
null_self = search (rules, the_lemmas)

scalar_at : (text : List ℕ) → same (Scalar text) (Scalar text) ≡ bytes_eq text text
scalar_at text = search (rules, the_lemmas)

map_at : (es : List (List ℕ × Tree)) → same (Map es) (Map es) ≡ same_entries (tests es) es
map_at es = search (rules, the_lemmas)

seq_at : (xs : List Tree) → same (Seq xs) (Seq xs) ≡ same_items (map same xs) xs
seq_at xs = search (rules, the_lemmas)

reset_self : same Reset Reset ≡ true
reset_self = search (rules, the_lemmas)

override_at : (inner : Tree) → same (Override inner) (Override inner) ≡ same inner inner
override_at inner = search (rules, the_lemmas)

pub same_self : (tree : Tree) → same tree tree ≡ true
same_self =
    of_every (λ t. same t t ≡ true)
    null_self
    (λ text. scalar_at text ∙ (bytes_eq-Decides text text).1 refl)
    (λ es h. map_at es ∙ entries_self es h)
    (λ xs h. seq_at xs ∙ items_self xs h)
    reset_self
    (λ inner h. override_at inner ∙ h)

-- what is the same as a tree equals it
abbrev Told : Tree → Type 0
Told tree = (other : Tree) → same tree other ≡ true → tree ≡ other

items_told : (xs us : List Tree) → OfAll Told xs → same_items (map same xs) us ≡ true → xs ≡ us
items_told [] [] told h = refl
items_told [] (u ∷ us) told h = absurd (true≢false (sym h))
items_told (x ∷ xs) [] told h = absurd (true≢false (sym h))
items_told (x ∷ xs) (u ∷ us) told h =
    let p = and_parts (same x u) (same_items (map same xs) us) h in
    (λ i. told.0 u p.0 i ∷ items_told xs us told.1 p.1 i)

entries_told : (es fs : List (List ℕ × Tree)) → OfAll (λ (e : List ℕ × Tree). Told e.1) es → same_entries (tests es) fs ≡ true → es ≡ fs
entries_told [] [] told h = refl
entries_told [] (f ∷ fs) told h = absurd (true≢false (sym h))
entries_told (e ∷ es) [] told h = absurd (true≢false (sym h))
entries_told (e ∷ es) (f ∷ fs) told h =
    let p = and_parts (bytes_eq e.0 f.0 && same e.1 f.1) (same_entries (tests es) fs) h in
    let q = and_parts (bytes_eq e.0 f.0) (same e.1 f.1) p.0 in
    (λ i. ((bytes_eq-Decides e.0 f.0).0 q.0 i, told.0 f.1 q.1 i) ∷ entries_told es fs told.1 p.1 i)

null_told : (v : Tree-F Tree) → same_step Tree-F.Null v ≡ true → Null ≡ roll-Tree v
null_told Tree-F.Null h = sym rolls-Null
null_told (Tree-F.Scalar other) h = absurd (true≢false (sym h))
null_told (Tree-F.Map fs) h = absurd (true≢false (sym h))
null_told (Tree-F.Seq us) h = absurd (true≢false (sym h))
null_told Tree-F.Reset h = absurd (true≢false (sym h))
null_told (Tree-F.Override other) h = absurd (true≢false (sym h))

null_opens : (other : Tree) → same Null other ≡ same_step Tree-F.Null (out-Tree other)
null_opens other = search (rules, the_lemmas)

scalar_told : (text : List ℕ) (v : Tree-F Tree) → same_step (Tree-F.Scalar text) v ≡ true → Scalar text ≡ roll-Tree v
scalar_told text Tree-F.Null h = absurd (true≢false (sym h))
scalar_told text (Tree-F.Scalar other) h = ap Scalar ((bytes_eq-Decides text other).0 h) ∙ sym (rolls-Scalar other)
scalar_told text (Tree-F.Map fs) h = absurd (true≢false (sym h))
scalar_told text (Tree-F.Seq us) h = absurd (true≢false (sym h))
scalar_told text Tree-F.Reset h = absurd (true≢false (sym h))
scalar_told text (Tree-F.Override other) h = absurd (true≢false (sym h))

scalar_opens : (text : List ℕ) (other : Tree) → same (Scalar text) other ≡ same_step (Tree-F.Scalar text) (out-Tree other)
scalar_opens text other = search (rules, the_lemmas)

map_told : (es : List (List ℕ × Tree)) → OfAll (λ (e : List ℕ × Tree). Told e.1) es → (v : Tree-F Tree) → same_step (Tree-F.Map (tests es)) v ≡ true → Map es ≡ roll-Tree v
map_told es told Tree-F.Null h = absurd (true≢false (sym h))
map_told es told (Tree-F.Scalar other) h = absurd (true≢false (sym h))
map_told es told (Tree-F.Map fs) h = ap Map (entries_told es fs told h) ∙ sym (rolls-Map fs)
map_told es told (Tree-F.Seq us) h = absurd (true≢false (sym h))
map_told es told Tree-F.Reset h = absurd (true≢false (sym h))
map_told es told (Tree-F.Override other) h = absurd (true≢false (sym h))

map_opens : (es : List (List ℕ × Tree)) (other : Tree) → same (Map es) other ≡ same_step (Tree-F.Map (tests es)) (out-Tree other)
map_opens es other = search (rules, the_lemmas)

seq_told : (xs : List Tree) → OfAll Told xs → (v : Tree-F Tree) → same_step (Tree-F.Seq (map same xs)) v ≡ true → Seq xs ≡ roll-Tree v
seq_told xs told Tree-F.Null h = absurd (true≢false (sym h))
seq_told xs told (Tree-F.Scalar other) h = absurd (true≢false (sym h))
seq_told xs told (Tree-F.Map fs) h = absurd (true≢false (sym h))
seq_told xs told (Tree-F.Seq us) h = ap Seq (items_told xs us told h) ∙ sym (rolls-Seq us)
seq_told xs told Tree-F.Reset h = absurd (true≢false (sym h))
seq_told xs told (Tree-F.Override other) h = absurd (true≢false (sym h))

seq_opens : (xs : List Tree) (other : Tree) → same (Seq xs) other ≡ same_step (Tree-F.Seq (map same xs)) (out-Tree other)
seq_opens xs other = search (rules, the_lemmas)

reset_told : (v : Tree-F Tree) → same_step Tree-F.Reset v ≡ true → Reset ≡ roll-Tree v
reset_told Tree-F.Null h = absurd (true≢false (sym h))
reset_told (Tree-F.Scalar other) h = absurd (true≢false (sym h))
reset_told (Tree-F.Map fs) h = absurd (true≢false (sym h))
reset_told (Tree-F.Seq us) h = absurd (true≢false (sym h))
reset_told Tree-F.Reset h = sym rolls-Reset
reset_told (Tree-F.Override other) h = absurd (true≢false (sym h))

reset_opens : (other : Tree) → same Reset other ≡ same_step Tree-F.Reset (out-Tree other)
reset_opens other = search (rules, the_lemmas)

override_told : (inner : Tree) → Told inner → (v : Tree-F Tree) → same_step (Tree-F.Override (same inner)) v ≡ true → Override inner ≡ roll-Tree v
override_told inner told Tree-F.Null h = absurd (true≢false (sym h))
override_told inner told (Tree-F.Scalar other) h = absurd (true≢false (sym h))
override_told inner told (Tree-F.Map fs) h = absurd (true≢false (sym h))
override_told inner told (Tree-F.Seq us) h = absurd (true≢false (sym h))
override_told inner told Tree-F.Reset h = absurd (true≢false (sym h))
override_told inner told (Tree-F.Override other) h = ap Override (told other h) ∙ sym (rolls-Override other)

override_opens : (inner : Tree) (other : Tree) → same (Override inner) other ≡ same_step (Tree-F.Override (same inner)) (out-Tree other)
override_opens inner other = search (rules, the_lemmas)

pub same_told : (tree other : Tree) → same tree other ≡ true → tree ≡ other
same_told =
    of_every Told
    (λ other h. null_told (out-Tree other) (sym (null_opens other) ∙ h) ∙ roll-out-Tree other)
    (λ text other h. scalar_told text (out-Tree other) (sym (scalar_opens text other) ∙ h) ∙ roll-out-Tree other)
    (λ es told other h. map_told es told (out-Tree other) (sym (map_opens es other) ∙ h) ∙ roll-out-Tree other)
    (λ xs told other h. seq_told xs told (out-Tree other) (sym (seq_opens xs other) ∙ h) ∙ roll-out-Tree other)
    (λ other h. reset_told (out-Tree other) (sym (reset_opens other) ∙ h) ∙ roll-out-Tree other)
    (λ inner told other h. override_told inner told (out-Tree other) (sym (override_opens inner other) ∙ h) ∙ roll-out-Tree other)

-- what decides whether two trees are equal is whether they are the same
pub decided : (tree other : Tree) (is : Bool) → (is ≡ true → tree ≡ other) × (tree ≡ other → is ≡ true) → is ≡ same tree other
decided tree other true h = sym (ap (λ (t : Tree). same tree t) (sym (h.0 refl)) ∙ same_self tree)
decided tree other false h = sym (false_from_ne_true (same tree other) (λ e. true≢false (sym (h.1 (same_told tree other e)))))
