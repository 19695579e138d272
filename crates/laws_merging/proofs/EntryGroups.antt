-- Entries of plain mappings merge the same however they are grouped.
use Rattle.std.proofs.Common.{◌≡◌, ◌∙◌, ℕ, Bool, true, false, List, [], ◌∷◌, Option, Some, Result, ap, refl, sym, subst}
use Rattle.std.specs.List.{list_any}
use Rattle.std.specs.Map.{keys_of}
use Rattle.std.specs.Str.{bytes_eq}
use Rattle.tree_base.specs.Entries.{value_at, with_entry}
use Rattle.tree_base.specs.declared.tree.Tree.{Tree}
use Rattle.attribute_paths.specs.Patterns.{below_key}
use Rattle.attribute_paths.proofs.Trees.{OfAll}
use Rattle.merge_tables.specs.declared.refusal.MergeRefusal.{MergeRefusal}
use Rattle.merge_tables.specs.declared.rules.Standing.TheVariants.{Value}
use Rattle.merge_tables.specs.Attributes.{JoiningRules}
use Rattle.merge_rules.specs.Laws.{are_apart}
use Rattle.merge_tables.specs.Parts.{or_null}
use Rattle.laws_merging.proofs.Entries.{Entries, other_value, own_value, same_key, swapped, turned_key, twice}
use Rattle.laws_merging.proofs.Options.{◌>>?◌, OfGiven, ends, next_next, of_next, same_given, same_next, swaps}
use Rattle.laws_merging.proofs.Over.{over, put, puts, tree_of}
use Rattle.laws_merging.proofs.Standing.{stands}
use Rattle.laws_merging.proofs.Plain.{ArePlain, IsNew, Plain, PlainEntries, first_new, or_parts, put_plain, value_plain}

-- a tree over what another one gives over a base
abbrev pub Groups : Tree → JoiningRules → Type 0
Groups tree lines = (second first : Tree) → Plain lines second → (over lines first second >>? λ below. over lines below tree) ≡ (over lines second tree >>? λ above. over lines first above)

-- a plain tree over a plain one gives one
abbrev pub Keeps : Tree → JoiningRules → Type 0
Keeps tree lines = (base : Tree) → Plain lines base → OfGiven (Plain lines) (over lines base tree)

module _ (lines : JoiningRules) where
  -- an entry, and what follows
  put_next : {B : Type 0} (es : Entries) (k : List ℕ) (v : Tree) (f : Entries → Option B) → (put lines es (k, v) >>? f) ≡ (over (below_key k lines) (or_null (value_at es k)) v >>? λ w. f (with_entry es k w))
  put_next es k v f = next_next (over (below_key k lines) (or_null (value_at es k)) v) (λ w. Some (with_entry es k w)) f

  -- an entry behind one of another key
  put_other : (es : Entries) (k q : List ℕ) (v w : Tree) → bytes_eq q k ≡ false → put lines (with_entry es k w) (q, v) ≡ (over (below_key q lines) (or_null (value_at es q)) v >>? λ u. Some (with_entry (with_entry es k w) q u))
  put_other es k q v w apart = ap (λ (o : Option Tree). over (below_key q lines) (or_null o) v >>? λ u. Some (with_entry (with_entry es k w) q u)) (other_value es k q w apart)

  -- an entry behind one of its own key
  put_own : (es : Entries) (k : List ℕ) (v w : Tree) → put lines (with_entry es k w) (k, v) ≡ (over (below_key k lines) w v >>? λ u. Some (with_entry es k u))
  put_own es k v w =
      ap (λ (o : Option Tree). over (below_key k lines) (or_null o) v >>? λ u. Some (with_entry (with_entry es k w) k u)) (own_value es k w)
      ∙ same_next (over (below_key k lines) w v) (λ u. Some (with_entry (with_entry es k w) k u)) (λ u. Some (with_entry es k u)) (λ u. ap (λ (l : Entries). Some l) (twice es k w u))

  -- two entries of different keys, of which the first is there
  put_both : (es : Entries) (k q : List ℕ) (v w old : Tree) → value_at es k ≡ Some old → bytes_eq q k ≡ false
      → (put lines es (q, w) >>? λ next. put lines next (k, v)) ≡ (put lines es (k, v) >>? λ next. put lines next (q, w))
  put_both es k q v w old there apart =
      let Ok_ : Option Tree = over (below_key k lines) (or_null (value_at es k)) v in
      let Oq_ : Option Tree = over (below_key q lines) (or_null (value_at es q)) w in
      put_next es q w (λ next. put lines next (k, v))
      ∙ same_next Oq_ (λ x. put lines (with_entry es q x) (k, v)) (λ x. Ok_ >>? λ y. Some (with_entry (with_entry es k y) q x))
      (λ x. put_other es q k v x (turned_key q k apart)
      ∙ same_next Ok_ (λ y. Some (with_entry (with_entry es q x) k y)) (λ y. Some (with_entry (with_entry es k y) q x))
      (λ y. ap (λ (l : Entries). Some l) (swapped es k q y x old there (turned_key q k apart))))
      ∙ swaps Oq_ Ok_ (λ x y. Some (with_entry (with_entry es k y) q x))
      ∙ same_next Ok_ (λ y. Oq_ >>? λ x. Some (with_entry (with_entry es k y) q x)) (λ y. put lines (with_entry es k y) (q, w)) (λ y. sym (put_other es k q w y apart))
      ∙ sym (put_next es k v (λ next. put lines next (q, w)))

  -- an entry behind those of other keys, where it is there already
  goes_ahead : (fs : Entries) (es : Entries) (k : List ℕ) (v old : Tree) → value_at es k ≡ Some old → IsNew k fs
      → (puts lines fs es >>? λ next. put lines next (k, v)) ≡ (put lines es (k, v) >>? λ next. puts lines fs next)
  goes_ahead [] es k v old there new = sym (ends (put lines es (k, v)))
  goes_ahead (f ∷ fs) es k v old there new =
      let p = or_parts (bytes_eq f.0 k) (list_any (λ other. bytes_eq other k) (keys_of fs)) new in
      let o : Option Tree = over (below_key f.0 lines) (or_null (value_at es f.0)) f.1 in
      next_next (put lines es f) (λ next. puts lines fs next) (λ next. put lines next (k, v))
      ∙ put_next es f.0 f.1 (λ next. puts lines fs next >>? λ last. put lines last (k, v))
      ∙ same_next o (λ w. puts lines fs (with_entry es f.0 w) >>? λ last. put lines last (k, v)) (λ w. put lines (with_entry es f.0 w) (k, v) >>? λ last. puts lines fs last)
      (λ w. goes_ahead fs (with_entry es f.0 w) k v old (other_value es f.0 k w (turned_key f.0 k p.0) ∙ there) p.1)
      ∙ sym (put_next es f.0 f.1 (λ next. put lines next (k, v) >>? λ last. puts lines fs last))
      ∙ sym (next_next (put lines es f) (λ next. put lines next (k, v)) (λ last. puts lines fs last))
      ∙ ap (λ (x : Option Entries). x >>? λ last. puts lines fs last) (put_both es k f.0 v f.1 old there p.0)
      ∙ next_next (put lines es (k, v)) (λ next. put lines next f) (λ last. puts lines fs last)

  -- an entry over the first of others, of the same key
  over_first : (k : List ℕ) (v u : Tree) (fs es : Entries) → Groups v (below_key k lines) → Plain (below_key k lines) u → IsNew k fs
      → (puts lines ((k, u) ∷ fs) es >>? λ next. put lines next (k, v)) ≡ (over (below_key k lines) u v >>? λ w. puts lines ((k, w) ∷ fs) es)
  over_first k v u fs es groups plain new =
      let below = below_key k lines in
      let base : Tree = or_null (value_at es k) in
      next_next (put lines es (k, u)) (λ next. puts lines fs next) (λ next. put lines next (k, v))
      ∙ put_next es k u (λ next. puts lines fs next >>? λ last. put lines last (k, v))
      ∙ same_next (over below base u) (λ z. puts lines fs (with_entry es k z) >>? λ last. put lines last (k, v)) (λ z. over below z v >>? λ y. puts lines fs (with_entry es k y))
      (λ z. goes_ahead fs (with_entry es k z) k v z (own_value es k z) new
      ∙ ap (λ (o : Option Entries). o >>? λ next. puts lines fs next) (put_own es k v z)
      ∙ next_next (over below z v) (λ y. Some (with_entry es k y)) (λ next. puts lines fs next))
      ∙ sym (next_next (over below base u) (λ z. over below z v) (λ y. puts lines fs (with_entry es k y)))
      ∙ ap (λ (o : Option Tree). o >>? λ y. puts lines fs (with_entry es k y)) (groups u base plain)
      ∙ next_next (over below u v) (λ w. over below base w) (λ y. puts lines fs (with_entry es k y))
      ∙ same_next (over below u v) (λ w. over below base w >>? λ y. puts lines fs (with_entry es k y)) (λ w. puts lines ((k, w) ∷ fs) es) (λ w. sym (put_next es k w (λ next. puts lines fs next)))

  -- an entry over entries over a mapping
  entry_groups : (k : List ℕ) (v : Tree) → Groups v (below_key k lines) → Plain (below_key k lines) v → (fs : Entries) → PlainEntries lines fs → (es : Entries)
      → (puts lines fs es >>? λ next. put lines next (k, v)) ≡ (put lines fs (k, v) >>? λ above. puts lines above es)
  entry_groups k v groups plain [] are es =
      sym (ends (put lines es (k, v)))
      ∙ sym (ap (λ (r : Result (Option Tree) MergeRefusal). (tree_of r >>? λ w. Some ((k, w) ∷ [])) >>? λ above. puts lines above es) (stands v (below_key k lines) plain Value))
  entry_groups k v groups plain (f ∷ fs) are es = by (bytes_eq k f.0) refl (entry_groups k v groups plain fs (first.1, are.1.1))
    where
      first : IsNew f.0 fs × (are_apart (keys_of fs) ≡ true)
      first = first_new f fs are.0

      found : Option Tree
      found = over (below_key k lines) (or_null (value_at fs k)) v

      by : (b : Bool) → bytes_eq k f.0 ≡ b → ((next : Entries) → (puts lines fs next >>? λ last. put lines last (k, v)) ≡ (put lines fs (k, v) >>? λ above. puts lines above next))
          → (puts lines (f ∷ fs) es >>? λ next. put lines next (k, v)) ≡ (put lines (f ∷ fs) (k, v) >>? λ above. puts lines above es)
      by true is more =
          let same = same_key k f.0 is in
          subst (λ (q : List ℕ). (puts lines ((q, f.1) ∷ fs) es >>? λ next. put lines next (k, v)) ≡ (over (below_key k lines) f.1 v >>? λ w. puts lines ((q, w) ∷ fs) es)) same
          (over_first k v f.1 fs es groups (subst (λ (q : List ℕ). Plain (below_key q lines) f.1) (sym same) are.1.0) (subst (λ (q : List ℕ). IsNew q fs) (sym same) first.0))
          ∙ rw is (sym (next_next (over (below_key k lines) f.1 v) (λ w. Some ((f.0, w) ∷ fs)) (λ above. puts lines above es)))
      by false is more =
          next_next (put lines es f) (λ next. puts lines fs next) (λ next. put lines next (k, v))
          ∙ same_next (put lines es f) (λ next. puts lines fs next >>? λ last. put lines last (k, v)) (λ next. found >>? λ w. puts lines (with_entry fs k w) next)
          (λ next. more next ∙ put_next fs k v (λ above. puts lines above next))
          ∙ swaps (put lines es f) found (λ next w. puts lines (with_entry fs k w) next)
          ∙ rw is (sym (next_next found (λ w. Some (f ∷ with_entry fs k w)) (λ above. puts lines above es)))

  -- plain entries put to plain ones
  put_keeps : (fs : Entries) (k : List ℕ) (v : Tree) → Keeps v (below_key k lines) → PlainEntries lines fs → OfGiven (PlainEntries lines) (put lines fs (k, v))
  put_keeps fs k v keeps are =
      of_next (Plain (below_key k lines)) (PlainEntries lines) (over (below_key k lines) (or_null (value_at fs k)) v) (λ w. Some (with_entry fs k w))
      (keeps (or_null (value_at fs k)) (value_plain lines fs k are.1)) (λ w is. put_plain lines fs k w are is)

  pub puts_keeps : (es : Entries) → OfAll (λ (e : List ℕ × Tree). Keeps e.1 (below_key e.0 lines)) es → (fs : Entries) → PlainEntries lines fs → OfGiven (PlainEntries lines) (puts lines es fs)
  puts_keeps [] keeps fs are = are
  puts_keeps (e ∷ es) keeps fs are =
      of_next (PlainEntries lines) (PlainEntries lines) (put lines fs e) (λ next. puts lines es next) (put_keeps fs e.0 e.1 keeps.0 are) (λ next is. puts_keeps es keeps.1 next is)

  -- entries over entries over a mapping
  pub entries_group : (es : Entries) → OfAll (λ (e : List ℕ × Tree). Groups e.1 (below_key e.0 lines)) es → OfAll (λ (e : List ℕ × Tree). Keeps e.1 (below_key e.0 lines)) es → ArePlain lines es
      → (fs : Entries) → PlainEntries lines fs → (base : Entries) → (puts lines fs base >>? λ next. puts lines es next) ≡ (puts lines es fs >>? λ above. puts lines above base)
  entries_group [] group keep plain fs are base = ends (puts lines fs base)
  entries_group (e ∷ es) group keep plain fs are base =
      sym (next_next (puts lines fs base) (λ next. put lines next e) (λ next. puts lines es next))
      ∙ ap (λ (o : Option Entries). o >>? λ next. puts lines es next) (entry_groups e.0 e.1 group.0 plain.0 fs are base)
      ∙ next_next (put lines fs e) (λ above. puts lines above base) (λ next. puts lines es next)
      ∙ same_given (PlainEntries lines) (put lines fs e) (λ above. puts lines above base >>? λ next. puts lines es next) (λ above. puts lines es above >>? λ higher. puts lines higher base)
      (put_keeps fs e.0 e.1 keep.0 are) (λ above is. entries_group es group.1 keep.1 plain.1 above is base)
      ∙ sym (next_next (put lines fs e) (λ above. puts lines es above) (λ higher. puts lines higher base))
