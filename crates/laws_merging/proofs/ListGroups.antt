-- Lists of unique entries merge the same however they are grouped.
use Rattle.std.proofs.Common.{◌≡◌, ◌∙◌, Bool, true, false, not, ◌&&◌, ◌||◌, cond, List, [], ◌∷◌, Option, None, Some, ap, refl, sym, true≢false}
use Rattle.std.specs.List.{list_any}
use Rattle.tree_base.specs.declared.tree.Tree.{Tree, out-Tree}
use Rattle.attribute_paths.proofs.Trees.{OfAll}
use Rattle.merge_tables.specs.declared.rules.EntryKind.{EntryKind}
use Rattle.merge_tables.specs.declared.rules.Joining.TheVariants.{Unique}
use Rattle.merge_rules.specs.Uniqueness.{are_one}
use Rattle.laws_merging.specs.Grouping.{are_several, by_texts}
use Rattle.laws_merging.proofs.EntryGroups.{Groups, Keeps}
use Rattle.laws_merging.proofs.Keys.{IsApart, key_of, one_key, same_apart, same_left, same_right, two_turned}
use Rattle.laws_merging.proofs.Known.{makes_known}
use Rattle.laws_merging.proofs.Options.{◌>>?◌, OfGiven, ends, next_next, of_next, same_given, same_next, swaps}
use Rattle.laws_merging.proofs.Over.{joins, over, taken}
use Rattle.laws_merging.proofs.Plain.{Plain, or_parts}
use Rattle.laws_merging.proofs.Standing.{first_known}

-- what is given is what is given
itself : {A : Type 0} (o : Option A) → OfGiven (λ (a : A). o ≡ Some a) o
itself None = tt
itself (Some a) = refl

module _ (kind : EntryKind) where
  -- a plain entry that is known by texts
  abbrev pub IsEntry : Tree → Type 0
  IsEntry entry = Plain [] entry × (by_texts kind (out-Tree entry) ≡ true)

  -- a list in which an entry is one with some
  abbrev pub HasOne : Tree → List Tree → Type 0
  HasOne entry items = list_any (are_one kind entry) items ≡ true

  -- plain entries that are known apart
  abbrev pub AreEntries : List Tree → Type 0
  AreEntries items = OfAll (Plain []) items × (are_several kind items ≡ true)

  hits : (item : Tree) (items : List Tree) (entry : Tree) → are_one kind entry item ≡ true → taken kind (item ∷ items) entry ≡ (over [] item entry >>? λ merged. Some (merged ∷ items))
  hits item items entry is = rw is refl

  misses : (item : Tree) (items : List Tree) (entry : Tree) → are_one kind entry item ≡ false → taken kind (item ∷ items) entry ≡ (taken kind items entry >>? λ all. Some (item ∷ all))
  misses item items entry is = rw is refl

  -- a step after an entry that hits, and after one that misses
  hits_next : {B : Type 0} (item : Tree) (items : List Tree) (entry : Tree) (f : List Tree → Option B) → are_one kind entry item ≡ true → (taken kind (item ∷ items) entry >>? f) ≡ (over [] item entry >>? λ merged. f (merged ∷ items))
  hits_next {B} item items entry f is = ap (λ (o : Option (List Tree)). o >>? f) (hits item items entry is) ∙ next_next (over [] item entry) (λ merged. Some (merged ∷ items)) f

  misses_next : {B : Type 0} (item : Tree) (items : List Tree) (entry : Tree) (f : List Tree → Option B) → are_one kind entry item ≡ false → (taken kind (item ∷ items) entry >>? f) ≡ (taken kind items entry >>? λ all. f (item ∷ all))
  misses_next {B} item items entry f is = ap (λ (o : Option (List Tree)). o >>? f) (misses item items entry is) ∙ next_next (taken kind items entry) (λ all. Some (item ∷ all)) f

  -- what is made of an entry is known as it is
  made_key : (item entry made : Tree) → IsEntry entry → are_one kind entry item ≡ true → over [] item entry ≡ Some made → key_of kind made ≡ key_of kind entry
  made_key item entry made is one h = (makes_known kind entry is.0 is.1 item made one h).0

  -- what an entry is one with, after another one was taken in
  abbrev AnyMore : Tree → Tree → List Tree → List Tree → Type 0
  AnyMore other entry items all = list_any (are_one kind other) all ≡ (list_any (are_one kind other) items || are_one kind other entry)

  any_more : (items : List Tree) (entry other : Tree) → IsEntry entry → OfGiven (AnyMore other entry items) (taken kind items entry)
  any_more [] entry other is = or_false (are_one kind other entry)
    where
      or_false : (b : Bool) → (b || false) ≡ (false || b)
      or_false true = refl
      or_false false = refl
  any_more (item ∷ items) entry other is = by (are_one kind entry item) refl (any_more items entry other is)
    where
      again : (p a : Bool) → (p || a) ≡ ((p || a) || p)
      again true a = refl
      again false true = refl
      again false false = refl

      further : (p a q : Bool) → (p || (a || q)) ≡ ((p || a) || q)
      further true a q = refl
      further false a q = refl

      by : (b : Bool) → are_one kind entry item ≡ b → OfGiven (AnyMore other entry items) (taken kind items entry)
          → OfGiven (AnyMore other entry (item ∷ items)) (cond b (over [] item entry >>? λ merged. Some (merged ∷ items)) (taken kind items entry >>? λ all. Some (item ∷ all)))
      by true one more =
          of_next (λ (merged : Tree). over [] item entry ≡ Some merged) (AnyMore other entry (item ∷ items)) (over [] item entry) (λ merged. Some (merged ∷ items)) (itself (over [] item entry))
          (λ merged h.
          let key = made_key item entry merged is one h in
          let first = same_right kind merged entry other key in
          let second = same_right kind entry item other (one_key kind entry item one) in
          ap (λ (b : Bool). b || list_any (are_one kind other) items) (first ∙ second)
          ∙ again (are_one kind other item) (list_any (are_one kind other) items)
          ∙ ap (λ (b : Bool). (are_one kind other item || list_any (are_one kind other) items) || b) (sym second))
      by false two more =
          of_next (AnyMore other entry items) (AnyMore other entry (item ∷ items)) (taken kind items entry) (λ all. Some (item ∷ all)) more
          (λ all h. ap (λ (b : Bool). are_one kind other item || b) h ∙ further (are_one kind other item) (list_any (are_one kind other) items) (are_one kind other entry))

  or_left : (a b : Bool) → a ≡ true → (a || b) ≡ true
  or_left a b h = rw h refl

  or_right : (a b : Bool) → b ≡ true → (a || b) ≡ true
  or_right true b h = refl
  or_right false b h = h

  -- an entry is there once it is taken in, and stays
  has_taken : (items : List Tree) (entry other : Tree) → IsEntry entry → are_one kind other entry ≡ true → OfGiven (HasOne other) (taken kind items entry)
  has_taken items entry other is one = of_given (taken kind items entry) (any_more items entry other is)
    where
      of_given : (o : Option (List Tree)) → OfGiven (AnyMore other entry items) o → OfGiven (HasOne other) o
      of_given None h = tt
      of_given (Some all) h = h ∙ or_right (list_any (are_one kind other) items) (are_one kind other entry) one

  has_stayed : (items : List Tree) (entry other : Tree) → IsEntry entry → HasOne other items → OfGiven (HasOne other) (taken kind items entry)
  has_stayed items entry other is there = of_given (taken kind items entry) (any_more items entry other is)
    where
      of_given : (o : Option (List Tree)) → OfGiven (AnyMore other entry items) o → OfGiven (HasOne other) o
      of_given None h = tt
      of_given (Some all) h = h ∙ or_left (list_any (are_one kind other) items) (are_one kind other entry) there

  apart_stayed : (items : List Tree) (entry other : Tree) → IsEntry entry → IsApart kind other items → are_one kind other entry ≡ false → OfGiven (IsApart kind other) (taken kind items entry)
  apart_stayed items entry other is apart two = of_given (taken kind items entry) (any_more items entry other is)
    where
      of_given : (o : Option (List Tree)) → OfGiven (AnyMore other entry items) o → OfGiven (IsApart kind other) o
      of_given None h = tt
      of_given (Some all) h = h ∙ rw (apart, two) refl

  -- two entries that aren't one, of which the second is there
  abbrev Commute : Tree → Tree → List Tree → Type 0
  Commute entry other items = (taken kind items entry >>? λ all. taken kind all other) ≡ (taken kind items other >>? λ all. taken kind all entry)

  commutes : (items : List Tree) (entry other : Tree) → IsEntry entry → IsEntry other → are_one kind other entry ≡ false → HasOne other items → Commute entry other items
  commutes [] entry other is has two there = absurd (true≢false (sym there))
  commutes (item ∷ items) entry other is has two there = by (are_one kind entry item) (are_one kind other item) refl refl (commutes items entry other is has two)
    where
      left : Option Tree
      left = over [] item entry

      right : Option Tree
      right = over [] item other

      by : (b d : Bool) → are_one kind entry item ≡ b → are_one kind other item ≡ d → (HasOne other items → Commute entry other items) → Commute entry other (item ∷ items)
      by true true h k more = absurd (true≢false (sym k ∙ same_right kind item entry other (sym (one_key kind entry item h)) ∙ two))
      by true false h k more =
          hits_next item items entry (λ all. taken kind all other) h
          ∙ same_given (λ (merged : Tree). left ≡ Some merged) left (λ merged. taken kind (merged ∷ items) other) (λ merged. taken kind items other >>? λ all. Some (merged ∷ all)) (itself left)
          (λ merged e. misses merged items other (same_right kind merged entry other (made_key item entry merged is h e) ∙ two))
          ∙ swaps left (taken kind items other) (λ merged all. Some (merged ∷ all))
          ∙ same_next (taken kind items other) (λ all. left >>? λ merged. Some (merged ∷ all)) (λ all. taken kind (item ∷ all) entry) (λ all. sym (hits item all entry h))
          ∙ sym (misses_next item items other (λ all. taken kind all entry) k)
      by false true h k more =
          misses_next item items entry (λ all. taken kind all other) h
          ∙ same_next (taken kind items entry) (λ all. taken kind (item ∷ all) other) (λ all. right >>? λ merged. Some (merged ∷ all)) (λ all. hits item all other k)
          ∙ swaps (taken kind items entry) right (λ all merged. Some (merged ∷ all))
          ∙ same_given (λ (merged : Tree). right ≡ Some merged) right (λ merged. taken kind items entry >>? λ all. Some (merged ∷ all)) (λ merged. taken kind (merged ∷ items) entry) (itself right)
          (λ merged e. sym (misses merged items entry (same_right kind merged other entry (made_key item other merged has k e) ∙ two_turned kind other entry two)))
          ∙ sym (hits_next item items other (λ all. taken kind all entry) k)
      by false false h k more =
          let later = more (rw_false k there) in
          misses_next item items entry (λ all. taken kind all other) h
          ∙ same_next (taken kind items entry) (λ all. taken kind (item ∷ all) other) (λ all. taken kind all other >>? λ last. Some (item ∷ last)) (λ all. misses item all other k)
          ∙ sym (next_next (taken kind items entry) (λ all. taken kind all other) (λ last. Some (item ∷ last)))
          ∙ ap (λ (o : Option (List Tree)). o >>? λ last. Some (item ∷ last)) later
          ∙ next_next (taken kind items other) (λ all. taken kind all entry) (λ last. Some (item ∷ last))
          ∙ same_next (taken kind items other) (λ all. taken kind all entry >>? λ last. Some (item ∷ last)) (λ all. taken kind (item ∷ all) entry) (λ all. sym (misses item all entry h))
          ∙ sym (misses_next item items other (λ all. taken kind all entry) k)
        where
          rw_false : {a b : Bool} → a ≡ false → (a || b) ≡ true → b ≡ true
          rw_false {a} {b} e h = sym (ap (λ (x : Bool). x || b) e) ∙ h

  abbrev unique : List Tree → List Tree → Option (List Tree)
  unique more items = joins (Some (Unique kind)) more items

  -- an entry behind those that it isn't one with, where it is there already
  goes_ahead : (ys items : List Tree) (entry : Tree) → AreEntries ys → IsEntry entry → IsApart kind entry ys → HasOne entry items
      → (unique ys items >>? λ all. taken kind all entry) ≡ (taken kind items entry >>? λ all. unique ys all)
  goes_ahead [] items entry are is apart there = sym (ends (taken kind items entry))
  goes_ahead (y ∷ ys) items entry are is apart there =
      let p = or_parts (are_one kind entry y) (list_any (are_one kind entry) ys) apart in
      let first = first_known kind y ys are.1 in
      let own : IsEntry y = (are.0.0, first.0) in
      next_next (taken kind items y) (λ all. unique ys all) (λ all. taken kind all entry)
      ∙ same_given (HasOne entry) (taken kind items y) (λ all. unique ys all >>? λ last. taken kind last entry) (λ all. taken kind all entry >>? λ last. unique ys last) (has_stayed items y entry own there)
      (λ all h. goes_ahead ys all entry (are.0.1, first.1.1) is p.1 h)
      ∙ sym (next_next (taken kind items y) (λ all. taken kind all entry) (λ last. unique ys last))
      ∙ ap (λ (o : Option (List Tree)). o >>? λ last. unique ys last) (commutes items y entry own is p.0 there)
      ∙ next_next (taken kind items entry) (λ all. taken kind all y) (λ last. unique ys last)

  -- an entry over one that it is one with, over a list
  meets_here : (items : List Tree) (below entry : Tree) → Groups entry [] → IsEntry below → IsEntry entry → are_one kind entry below ≡ true
      → (taken kind items below >>? λ all. taken kind all entry) ≡ (over [] below entry >>? λ merged. taken kind items merged)
  meets_here [] below entry groups is has one = hits below [] entry one
  meets_here (item ∷ items) below entry groups is has one = by (are_one kind below item) refl (meets_here items below entry groups is has one)
    where
      merge : Option Tree
      merge = over [] below entry

      merged_known : (merged : Tree) → merge ≡ Some merged → are_one kind merged item ≡ are_one kind below item
      merged_known merged e = same_left kind merged below item (made_key below entry merged has one e ∙ one_key kind entry below one)

      by : (b : Bool) → are_one kind below item ≡ b → (taken kind items below >>? λ all. taken kind all entry) ≡ (merge >>? λ merged. taken kind items merged)
          → (taken kind (item ∷ items) below >>? λ all. taken kind all entry) ≡ (merge >>? λ merged. taken kind (item ∷ items) merged)
      by true h more =
          hits_next item items below (λ all. taken kind all entry) h
          ∙ same_given (λ (u : Tree). over [] item below ≡ Some u) (over [] item below) (λ u. taken kind (u ∷ items) entry) (λ u. over [] u entry >>? λ v. Some (v ∷ items)) (itself (over [] item below))
          (λ u e. hits u items entry (same_right kind u below entry (made_key item below u is h e) ∙ one))
          ∙ sym (next_next (over [] item below) (λ u. over [] u entry) (λ v. Some (v ∷ items)))
          ∙ ap (λ (o : Option Tree). o >>? λ v. Some (v ∷ items)) (groups below item is.0)
          ∙ next_next merge (λ merged. over [] item merged) (λ v. Some (v ∷ items))
          ∙ same_given (λ (merged : Tree). merge ≡ Some merged) merge (λ merged. over [] item merged >>? λ v. Some (v ∷ items)) (λ merged. taken kind (item ∷ items) merged) (itself merge)
          (λ merged e. sym (hits item items merged (merged_known merged e ∙ h)))
      by false h more =
          misses_next item items below (λ all. taken kind all entry) h
          ∙ same_next (taken kind items below) (λ all. taken kind (item ∷ all) entry) (λ all. taken kind all entry >>? λ last. Some (item ∷ last))
          (λ all. misses item all entry (same_left kind entry below item (one_key kind entry below one) ∙ h))
          ∙ sym (next_next (taken kind items below) (λ all. taken kind all entry) (λ last. Some (item ∷ last)))
          ∙ ap (λ (o : Option (List Tree)). o >>? λ last. Some (item ∷ last)) more
          ∙ next_next merge (λ merged. taken kind items merged) (λ last. Some (item ∷ last))
          ∙ same_given (λ (merged : Tree). merge ≡ Some merged) merge (λ merged. taken kind items merged >>? λ last. Some (item ∷ last)) (λ merged. taken kind (item ∷ items) merged) (itself merge)
          (λ merged e. sym (misses item items merged (merged_known merged e ∙ h)))

  -- an entry over the first of others, which it is one with
  over_first : (y : Tree) (ys items : List Tree) (entry : Tree) → Groups entry [] → IsEntry entry → AreEntries (y ∷ ys) → are_one kind entry y ≡ true
      → (unique (y ∷ ys) items >>? λ all. taken kind all entry) ≡ (over [] y entry >>? λ merged. unique (merged ∷ ys) items)
  over_first y ys items entry groups is are one =
      let first = first_known kind y ys are.1 in
      let own : IsEntry y = (are.0.0, first.0) in
      let apart : IsApart kind entry ys = same_apart kind entry y ys (one_key kind entry y one) ∙ first.1.0 in
      next_next (taken kind items y) (λ all. unique ys all) (λ all. taken kind all entry)
      ∙ same_given (HasOne entry) (taken kind items y) (λ all. unique ys all >>? λ last. taken kind last entry) (λ all. taken kind all entry >>? λ last. unique ys last) (has_taken items y entry own one)
      (λ all h. goes_ahead ys all entry (are.0.1, first.1.1) is apart h)
      ∙ sym (next_next (taken kind items y) (λ all. taken kind all entry) (λ last. unique ys last))
      ∙ ap (λ (o : Option (List Tree)). o >>? λ last. unique ys last) (meets_here items y entry groups own is one)
      ∙ next_next (over [] y entry) (λ merged. taken kind items merged) (λ last. unique ys last)

  -- an entry over entries over a list
  entry_groups : (entry : Tree) → Groups entry [] → IsEntry entry → (ys : List Tree) → AreEntries ys → (items : List Tree)
      → (unique ys items >>? λ all. taken kind all entry) ≡ (taken kind ys entry >>? λ above. unique above items)
  entry_groups entry groups is [] are items = sym (ends (taken kind items entry))
  entry_groups entry groups is (y ∷ ys) are items = by (are_one kind entry y) refl (entry_groups entry groups is ys (are.0.1, (first_known kind y ys are.1).1.1))
    where
      by : (b : Bool) → are_one kind entry y ≡ b → ((items : List Tree) → (unique ys items >>? λ all. taken kind all entry) ≡ (taken kind ys entry >>? λ above. unique above items))
          → (unique (y ∷ ys) items >>? λ all. taken kind all entry) ≡ (taken kind (y ∷ ys) entry >>? λ above. unique above items)
      by true one more = over_first y ys items entry groups is are one ∙ sym (hits_next y ys entry (λ above. unique above items) one)
      by false two more =
          next_next (taken kind items y) (λ all. unique ys all) (λ all. taken kind all entry)
          ∙ same_next (taken kind items y) (λ all. unique ys all >>? λ last. taken kind last entry) (λ all. taken kind ys entry >>? λ above. unique above all) more
          ∙ swaps (taken kind items y) (taken kind ys entry) (λ all above. unique above all)
          ∙ sym (misses_next y ys entry (λ above. unique above items) two)

  and_all : (a b c : Bool) → a ≡ true → b ≡ false → c ≡ true → (a && (not b && c)) ≡ true
  and_all a b c h k l = rw (h, k, l) refl

  -- plain entries stay so where one more is taken in
  taken_keeps : (ys : List Tree) (entry : Tree) → Keeps entry [] → IsEntry entry → AreEntries ys → OfGiven AreEntries (taken kind ys entry)
  taken_keeps [] entry keeps is are = ((is.0, tt), and_all (by_texts kind (out-Tree entry)) false true is.1 refl refl)
  taken_keeps (y ∷ ys) entry keeps is are = by (are_one kind entry y) refl (taken_keeps ys entry keeps is (are.0.1, (first_known kind y ys are.1).1.1))
    where
      both : (o : Option Tree) → OfGiven (Plain []) o → OfGiven (λ (merged : Tree). Plain [] merged × (o ≡ Some merged)) o
      both None h = tt
      both (Some merged) h = (h, refl)

      pair : (o : Option (List Tree)) → OfGiven AreEntries o → OfGiven (IsApart kind y) o → OfGiven (λ (all : List Tree). AreEntries all × IsApart kind y all) o
      pair None h k = tt
      pair (Some all) h k = (h, k)

      by : (b : Bool) → are_one kind entry y ≡ b → OfGiven AreEntries (taken kind ys entry)
          → OfGiven AreEntries (cond b (over [] y entry >>? λ merged. Some (merged ∷ ys)) (taken kind ys entry >>? λ all. Some (y ∷ all)))
      by true one more =
          let first = first_known kind y ys are.1 in
          of_next (λ (merged : Tree). Plain [] merged × (over [] y entry ≡ Some merged)) AreEntries (over [] y entry) (λ merged. Some (merged ∷ ys)) (both (over [] y entry) (keeps y are.0.0))
          (λ merged h.
          let known = makes_known kind entry is.0 is.1 y merged one h.1 in
          let apart = same_apart kind merged y ys (known.0 ∙ one_key kind entry y one) ∙ first.1.0 in
          ((h.0, are.0.1), and_all (by_texts kind (out-Tree merged)) (list_any (are_one kind merged) ys) (are_several kind ys) (known.1 first.0) apart first.1.1))
      by false two more =
          let first = first_known kind y ys are.1 in
          of_next (λ (all : List Tree). AreEntries all × IsApart kind y all) AreEntries (taken kind ys entry) (λ all. Some (y ∷ all))
          (pair (taken kind ys entry) more (apart_stayed ys entry y is first.1.0 (two_turned kind entry y two)))
          (λ all h. ((are.0.0, h.0.0), and_all (by_texts kind (out-Tree y)) (list_any (are_one kind y) all) (are_several kind all) first.0 h.1 h.0.1))

  pub lists_keep : (zs : List Tree) → OfAll (λ (z : Tree). Keeps z []) zs → AreEntries zs → (ys : List Tree) → AreEntries ys → OfGiven AreEntries (unique zs ys)
  lists_keep [] keeps zare ys are = are
  lists_keep (z ∷ zs) keeps zare ys are =
      let first = first_known kind z zs zare.1 in
      of_next AreEntries AreEntries (taken kind ys z) (λ all. unique zs all) (taken_keeps ys z keeps.0 (zare.0.0, first.0) are) (λ all h. lists_keep zs keeps.1 (zare.0.1, first.1.1) all h)

  -- entries over entries over a list
  pub lists_group : (zs : List Tree) → OfAll (λ (z : Tree). Groups z []) zs → OfAll (λ (z : Tree). Keeps z []) zs → AreEntries zs → (ys : List Tree) → AreEntries ys → (items : List Tree)
      → (unique ys items >>? λ all. unique zs all) ≡ (unique zs ys >>? λ above. unique above items)
  lists_group [] groups keeps zare ys are items = ends (unique ys items)
  lists_group (z ∷ zs) groups keeps zare ys are items =
      let first = first_known kind z zs zare.1 in
      let own : IsEntry z = (zare.0.0, first.0) in
      sym (next_next (unique ys items) (λ all. taken kind all z) (λ all. unique zs all))
      ∙ ap (λ (o : Option (List Tree)). o >>? λ all. unique zs all) (entry_groups z groups.0 own ys are items)
      ∙ next_next (taken kind ys z) (λ above. unique above items) (λ all. unique zs all)
      ∙ same_given AreEntries (taken kind ys z) (λ above. unique above items >>? λ all. unique zs all) (λ above. unique zs above >>? λ higher. unique higher items)
      (taken_keeps ys z keeps.0 own are) (λ above h. lists_group zs groups.1 keeps.1 (zare.0.1, first.1.1) above h items)
      ∙ sym (next_next (taken kind ys z) (λ above. unique zs above) (λ higher. unique higher items))
