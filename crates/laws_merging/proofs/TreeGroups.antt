-- Plain trees merge the same however they are grouped.
use Rattle.std.proofs.Common.{◌≡◌, ◌∙◌, ℕ, Bool, true, false, cond, nat_le, List, [], ◌∷◌, ◌++◌, Option, None, Some, Result, Ok, Err, ap, refl, sym, subst, true≢false}
use Rattle.std.proofs.lemmas.List.{append_assoc}
use Rattle.tree_base.specs.Answers.{◌>>=◌}
use Rattle.tree_base.specs.Trees.{node_count, text_size}
use Rattle.tree_base.specs.declared.tree.Tree.{Tree, out-Tree}
use Rattle.tree_base.specs.declared.tree.Tree.TheVariants.{Map, Null, Scalar, Seq}
use Rattle.tree_base.specs.declared.tree.Tree.TheOpen.{Tree-F}
use Rattle.attribute_paths.specs.Patterns.{below_key, here}
use Rattle.attribute_paths.proofs.Trees.{OfAll, of_every}
use Rattle.merge_tables.specs.declared.refusal.MergeRefusal.{MergeRefusal}
use Rattle.merge_tables.specs.declared.refusal.MergeRefusal.TheVariants.{TooManyNodes, TooMuchText}
use Rattle.merge_tables.specs.declared.rules.EntryKind.{EntryKind}
use Rattle.merge_tables.specs.declared.rules.Joining.{Joining}
use Rattle.merge_tables.specs.declared.rules.Joining.TheVariants.{Replaced, Unique}
use Rattle.merge_tables.specs.declared.rules.Standing.TheVariants.{Value}
use Rattle.merge_tables.specs.Answers.{within}
use Rattle.merge_tables.specs.Attributes.{JoiningRules, overlay_rules}
use Rattle.merge_rules.specs.Overlay.{items_kept, laid, over_files, scalar_over}
use Rattle.merge_tables.specs.Parts.{or_null}
use Rattle.laws_merging.specs.Grouping.{PlainFilesGroup, PlainStays, PlainTreesGroup, are_known, given}
use Rattle.laws_merging.proofs.Entries.{Entries}
use Rattle.laws_merging.proofs.EntryGroups.{Groups, Keeps, entries_group, puts_keeps}
use Rattle.laws_merging.proofs.TreeKinds.{entries_in, items_in, made_map, made_seq, map_on_map, map_on_scalar, map_on_seq, null_under, over_map, over_null, over_scalar, over_seq, scalar_on_map, scalar_on_scalar, scalar_on_seq, seq_on_map, seq_on_scalar, seq_on_seq}
use Rattle.laws_merging.proofs.ListGroups.{AreEntries, lists_group, lists_keep}
use Rattle.laws_merging.proofs.Options.{◌>>?◌, OfGiven, ends, next_next, of_next, same_given, same_next, swaps}
use Rattle.laws_merging.proofs.Over.{Stays, bare, joins, over, puts, tree_of}
use Rattle.laws_merging.proofs.Standing.{joins_anew, joins_behind}
use Rattle.laws_merging.proofs.Plain.{ArePlain, Plain, PlainEntries, joined_plain, map_plain, of_map, of_seq, override_marks, reset_marks, scalar_plain, seq_plain}

-- what was made is of a kind that takes nothing over it
made_none : {A : Type 0} (made : Option A) (f : A → Tree) (g : Tree → Option Tree) → ((a : A) → g (f a) ≡ None) → ((made >>? λ a. Some (f a)) >>? g) ≡ None
made_none None f g h = refl
made_none (Some a) f g h = h a

-- items of a plain sequence
abbrev ArePlainItems : Option Joining → List Tree → Type 0
ArePlainItems joining xs = (are_known joining xs ≡ true) × OfAll (Plain []) xs

turned : (kind : EntryKind) (o : Option (List Tree)) → OfGiven (AreEntries kind) o → OfGiven (ArePlainItems (Some (Unique kind))) o
turned kind None h = tt
turned kind (Some all) h = (h.1, h.0)

-- plain items joined with plain ones
items_keep : (joining : Option Joining) (xs : List Tree) → OfAll (λ (x : Tree). Keeps x []) xs → ArePlainItems joining xs → (ys : List Tree) → ArePlainItems joining ys → OfGiven (ArePlainItems joining) (joins joining xs (items_kept joining ys))
items_keep None xs keeps h ys k = subst (OfGiven (ArePlainItems None)) (sym (joins_behind xs ys)) (refl, joined_plain ys xs k.1 h.1)
items_keep (Some Replaced) xs keeps h ys k = subst (OfGiven (ArePlainItems (Some Replaced))) (sym (joins_anew xs [])) (refl, h.1)
items_keep (Some (Unique kind)) xs keeps h ys k = turned kind (joins (Some (Unique kind)) xs ys) (lists_keep kind xs keeps (h.1, h.0) ys (k.1, k.0))

-- items over items over those below
items_group : (joining : Option Joining) (zs : List Tree) → OfAll (λ (z : Tree). Groups z []) zs → OfAll (λ (z : Tree). Keeps z []) zs → ArePlainItems joining zs → (ys : List Tree) → ArePlainItems joining ys → (below : List Tree)
    → (joins joining ys (items_kept joining below) >>? λ all. joins joining zs (items_kept joining all)) ≡ (joins joining zs (items_kept joining ys) >>? λ above. joins joining above (items_kept joining below))
items_group None zs groups keeps h ys k below =
    ap (λ (o : Option (List Tree)). o >>? λ all. joins None zs all) (joins_behind ys below)
    ∙ joins_behind zs (below ++ ys)
    ∙ ap (λ (l : List Tree). Some l) (append_assoc below ys zs)
    ∙ sym (joins_behind (ys ++ zs) below)
    ∙ sym (ap (λ (o : Option (List Tree)). o >>? λ above. joins None above below) (joins_behind zs ys))
items_group (Some Replaced) zs groups keeps h ys k below =
    ap (λ (o : Option (List Tree)). o >>? λ all. joins (Some Replaced) zs []) (joins_anew ys [])
    ∙ sym (ap (λ (o : Option (List Tree)). o >>? λ above. joins (Some Replaced) above []) (joins_anew zs []))
items_group (Some (Unique kind)) zs groups keeps h ys k below = lists_group kind zs groups keeps (h.1, h.0) ys (k.1, k.0) below

module _ (lines : JoiningRules) where
  -- a plain tree over a plain one gives one
  scalar_keeps : (text : List ℕ) → Keeps (Scalar text) lines
  scalar_keeps text base plain = subst (OfGiven (Plain lines)) (sym (over_scalar lines text base)) (by (out-Tree base))
    where
      by : (v : Tree-F Tree) → OfGiven (Plain lines) (tree_of (scalar_over text v))
      by Tree-F.Null = scalar_plain text lines
      by (Tree-F.Scalar old) = scalar_plain text lines
      by (Tree-F.Map es) = tt
      by (Tree-F.Seq xs) = tt
      by Tree-F.Reset = tt
      by (Tree-F.Override inner) = tt

  map_keeps : (es : Entries) → OfAll (λ (e : List ℕ × Tree). Keeps e.1 (below_key e.0 lines)) es → Plain lines (Map es) → Keeps (Map es) lines
  map_keeps es keeps plain =
      of_every (λ base. Plain lines base → OfGiven (Plain lines) (over lines base (Map es)))
      (λ h. subst (OfGiven (Plain lines)) (sym (null_under lines (Map es) plain)) plain)
      (λ text h. subst (OfGiven (Plain lines)) (sym (map_on_scalar lines es text)) tt)
      (λ fs is h. subst (OfGiven (Plain lines)) (sym (map_on_map lines es fs plain)) (of_next (PlainEntries lines) (Plain lines) (puts lines es fs) (λ all. Some (Map all)) (puts_keeps lines es keeps fs (of_map lines fs h)) (λ all is. map_plain lines all is)))
      (λ ys is h. subst (OfGiven (Plain lines)) (sym (map_on_seq lines es ys)) tt)
      (λ h. absurd (true≢false (sym h ∙ reset_marks lines)))
      (λ inner is h. absurd (true≢false (sym h ∙ override_marks inner lines)))

  seq_keeps : (xs : List Tree) → OfAll (λ (x : Tree). Keeps x []) xs → Plain lines (Seq xs) → Keeps (Seq xs) lines
  seq_keeps xs keeps plain =
      of_every (λ base. Plain lines base → OfGiven (Plain lines) (over lines base (Seq xs)))
      (λ h. subst (OfGiven (Plain lines)) (sym (null_under lines (Seq xs) plain)) plain)
      (λ text h. subst (OfGiven (Plain lines)) (sym (seq_on_scalar lines xs text)) tt)
      (λ fs is h. subst (OfGiven (Plain lines)) (sym (seq_on_map lines xs fs)) tt)
      (λ ys is h. subst (OfGiven (Plain lines)) (sym (seq_on_seq lines xs ys plain))
      (of_next (ArePlainItems (here lines)) (Plain lines) (joins (here lines) xs (items_kept (here lines) ys)) (λ all. Some (Seq all))
      (items_keep (here lines) xs keeps (of_seq lines xs plain) ys (of_seq lines ys h)) (λ all is. seq_plain lines all is.0 is.1)))
      (λ h. absurd (true≢false (sym h ∙ reset_marks lines)))
      (λ inner is h. absurd (true≢false (sym h ∙ override_marks inner lines)))

-- a tree that keeps plain trees so, wherever it is plain
abbrev KeepsAll : Tree → Type 0
KeepsAll tree = (lines : JoiningRules) → Plain lines tree → Keeps tree lines

each_keeps : (lines : JoiningRules) (es : Entries) → OfAll (λ (e : List ℕ × Tree). KeepsAll e.1) es → ArePlain lines es → OfAll (λ (e : List ℕ × Tree). Keeps e.1 (below_key e.0 lines)) es
each_keeps lines [] keeps plain = tt
each_keeps lines (e ∷ es) keeps plain = (keeps.0 (below_key e.0 lines) plain.0, each_keeps lines es keeps.1 plain.1)

each_item_keeps : (xs : List Tree) → OfAll KeepsAll xs → OfAll (Plain []) xs → OfAll (λ (x : Tree). Keeps x []) xs
each_item_keeps [] keeps plain = tt
each_item_keeps (x ∷ xs) keeps plain = (keeps.0 [] plain.0, each_item_keeps xs keeps.1 plain.1)

keeps : (tree : Tree) → KeepsAll tree
keeps =
    of_every KeepsAll
    (λ lines plain base h. subst (OfGiven (Plain lines)) (sym (over_null lines base)) h)
    (λ text lines plain. scalar_keeps lines text)
    (λ es is lines plain. map_keeps lines es (each_keeps lines es is (of_map lines es plain).1) plain)
    (λ xs is lines plain. seq_keeps lines xs (each_item_keeps xs is (of_seq lines xs plain).1) plain)
    (λ lines plain. absurd (true≢false (sym plain ∙ reset_marks lines)))
    (λ inner is lines plain. absurd (true≢false (sym plain ∙ override_marks inner lines)))

all_keep : (lines : JoiningRules) (es : Entries) → ArePlain lines es → OfAll (λ (e : List ℕ × Tree). Keeps e.1 (below_key e.0 lines)) es
all_keep lines [] plain = tt
all_keep lines (e ∷ es) plain = (keeps e.1 (below_key e.0 lines) plain.0, all_keep lines es plain.1)

items_all_keep : (xs : List Tree) → OfAll (Plain []) xs → OfAll (λ (x : Tree). Keeps x []) xs
items_all_keep [] plain = tt
items_all_keep (x ∷ xs) plain = (keeps x [] plain.0, items_all_keep xs plain.1)

module _ (lines : JoiningRules) (first : Tree) where
  -- a tree over what a second one gives over the first
  abbrev Meets : Tree → Tree → Type 0
  Meets tree second = (over lines first second >>? λ below. over lines below tree) ≡ (over lines second tree >>? λ above. over lines first above)

  meets_null : (tree : Tree) → Plain lines tree → Meets tree Null
  meets_null tree plain =
      ap (λ (o : Option Tree). o >>? λ below. over lines below tree) (over_null lines first)
      ∙ sym (ap (λ (o : Option Tree). o >>? λ above. over lines first above) (null_under lines tree plain))

  -- where the upper two are of different kinds
  meets_none : {A : Type 0} (tree second : Tree) (made : Option A) (f : A → Tree) → over lines first second ≡ (made >>? λ a. Some (f a)) → ((a : A) → over lines (f a) tree ≡ None) → over lines second tree ≡ None → Meets tree second
  meets_none tree second made f is differ none =
      ap (λ (o : Option Tree). o >>? λ below. over lines below tree) is
      ∙ made_none made f (λ below. over lines below tree) differ
      ∙ sym (ap (λ (o : Option Tree). o >>? λ above. over lines first above) none)

  -- a scalar is made where nothing and where a scalar was
  scalar_made : (text : List ℕ) → (made : Option (Unit {0})) × (over lines first (Scalar text) ≡ (made >>? λ a. Some (Scalar text)))
  scalar_made text = let got = by (out-Tree first) in (got.0, over_scalar lines text first ∙ got.1)
    where
      by : (v : Tree-F Tree) → (made : Option (Unit {0})) × (tree_of (scalar_over text v) ≡ (made >>? λ a. Some (Scalar text)))
      by Tree-F.Null = (Some tt, refl)
      by (Tree-F.Scalar old) = (Some tt, refl)
      by (Tree-F.Map es) = (None, refl)
      by (Tree-F.Seq xs) = (None, refl)
      by Tree-F.Reset = (None, refl)
      by (Tree-F.Override inner) = (None, refl)

  scalars_meet : (text old : List ℕ) → Meets (Scalar text) (Scalar old)
  scalars_meet text old =
      ap (λ (o : Option Tree). o >>? λ below. over lines below (Scalar text)) (over_scalar lines old first)
      ∙ by (out-Tree first)
      ∙ sym (over_scalar lines text first)
      ∙ sym (ap (λ (o : Option Tree). o >>? λ above. over lines first above) (scalar_on_scalar lines text old))
    where
      by : (v : Tree-F Tree) → (tree_of (scalar_over old v) >>? λ below. over lines below (Scalar text)) ≡ tree_of (scalar_over text v)
      by Tree-F.Null = scalar_on_scalar lines text old
      by (Tree-F.Scalar older) = scalar_on_scalar lines text old
      by (Tree-F.Map es) = refl
      by (Tree-F.Seq xs) = refl
      by Tree-F.Reset = refl
      by (Tree-F.Override inner) = refl

  maps_meet : (es fs : Entries) → OfAll (λ (e : List ℕ × Tree). Groups e.1 (below_key e.0 lines)) es → Plain lines (Map es) → Plain lines (Map fs) → Meets (Map es) (Map fs)
  maps_meet es fs groups plain other =
      let base = entries_in lines first in
      let parts = of_map lines es plain in
      let below = of_map lines fs other in
      let keep = all_keep lines es parts.1 in
      ap (λ (o : Option Tree). o >>? λ made. over lines made (Map es)) (made_map lines fs first other)
      ∙ next_next (base >>? λ b. puts lines fs b) (λ all. Some (Map all)) (λ made. over lines made (Map es))
      ∙ same_next (base >>? λ b. puts lines fs b) (λ all. over lines (Map all) (Map es)) (λ all. puts lines es all >>? λ last. Some (Map last)) (λ all. map_on_map lines es all plain)
      ∙ next_next base (λ b. puts lines fs b) (λ all. puts lines es all >>? λ last. Some (Map last))
      ∙ same_next base (λ b. puts lines fs b >>? λ all. puts lines es all >>? λ last. Some (Map last)) (λ b. puts lines es fs >>? λ above. puts lines above b >>? λ last. Some (Map last))
      (λ b. sym (next_next (puts lines fs b) (λ all. puts lines es all) (λ last. Some (Map last)))
      ∙ ap (λ (o : Option Entries). o >>? λ last. Some (Map last)) (entries_group lines es groups keep parts.1 fs below b)
      ∙ next_next (puts lines es fs) (λ above. puts lines above b) (λ last. Some (Map last)))
      ∙ swaps base (puts lines es fs) (λ b above. puts lines above b >>? λ last. Some (Map last))
      ∙ same_given (PlainEntries lines) (puts lines es fs) (λ above. base >>? λ b. puts lines above b >>? λ last. Some (Map last)) (λ above. over lines first (Map above))
      (puts_keeps lines es keep fs below) (λ above is. sym (over_map lines above first (map_plain lines above is)))
      ∙ sym (next_next (puts lines es fs) (λ above. Some (Map above)) (λ above. over lines first above))
      ∙ sym (ap (λ (o : Option Tree). o >>? λ above. over lines first above) (map_on_map lines es fs plain))

  seqs_meet : (zs ys : List Tree) → OfAll (λ (z : Tree). Groups z []) zs → Plain lines (Seq zs) → Plain lines (Seq ys) → Meets (Seq zs) (Seq ys)
  seqs_meet zs ys groups plain other =
      let base = items_in lines first in
      let joining = here lines in
      let parts = of_seq lines zs plain in
      let below = of_seq lines ys other in
      let keep = items_all_keep zs parts.1 in
      ap (λ (o : Option Tree). o >>? λ made. over lines made (Seq zs)) (made_seq lines ys first other)
      ∙ next_next (base >>? λ b. joins joining ys (items_kept joining b)) (λ all. Some (Seq all)) (λ made. over lines made (Seq zs))
      ∙ same_next (base >>? λ b. joins joining ys (items_kept joining b)) (λ all. over lines (Seq all) (Seq zs)) (λ all. joins joining zs (items_kept joining all) >>? λ last. Some (Seq last)) (λ all. seq_on_seq lines zs all plain)
      ∙ next_next base (λ b. joins joining ys (items_kept joining b)) (λ all. joins joining zs (items_kept joining all) >>? λ last. Some (Seq last))
      ∙ same_next base (λ b. joins joining ys (items_kept joining b) >>? λ all. joins joining zs (items_kept joining all) >>? λ last. Some (Seq last))
      (λ b. joins joining zs (items_kept joining ys) >>? λ above. joins joining above (items_kept joining b) >>? λ last. Some (Seq last))
      (λ b. sym (next_next (joins joining ys (items_kept joining b)) (λ all. joins joining zs (items_kept joining all)) (λ last. Some (Seq last)))
      ∙ ap (λ (o : Option (List Tree)). o >>? λ last. Some (Seq last)) (items_group joining zs groups keep parts ys below b)
      ∙ next_next (joins joining zs (items_kept joining ys)) (λ above. joins joining above (items_kept joining b)) (λ last. Some (Seq last)))
      ∙ swaps base (joins joining zs (items_kept joining ys)) (λ b above. joins joining above (items_kept joining b) >>? λ last. Some (Seq last))
      ∙ same_given (ArePlainItems joining) (joins joining zs (items_kept joining ys)) (λ above. base >>? λ b. joins joining above (items_kept joining b) >>? λ last. Some (Seq last)) (λ above. over lines first (Seq above))
      (items_keep joining zs keep parts ys below) (λ above is. sym (over_seq lines above first (seq_plain lines above is.0 is.1)))
      ∙ sym (next_next (joins joining zs (items_kept joining ys)) (λ above. Some (Seq above)) (λ above. over lines first above))
      ∙ sym (ap (λ (o : Option Tree). o >>? λ above. over lines first above) (seq_on_seq lines zs ys plain))

-- a tree that groups wherever it is plain
abbrev GroupsAll : Tree → Type 0
GroupsAll tree = (lines : JoiningRules) → Plain lines tree → Groups tree lines

each_groups : (lines : JoiningRules) (es : Entries) → OfAll (λ (e : List ℕ × Tree). GroupsAll e.1) es → ArePlain lines es → OfAll (λ (e : List ℕ × Tree). Groups e.1 (below_key e.0 lines)) es
each_groups lines [] group plain = tt
each_groups lines (e ∷ es) group plain = (group.0 (below_key e.0 lines) plain.0, each_groups lines es group.1 plain.1)

null_groups : GroupsAll Null
null_groups lines plain second first h =
    same_next (over lines first second) (λ below. over lines below Null) (λ below. Some below) (over_null lines)
    ∙ ends (over lines first second)
    ∙ sym (ap (λ (o : Option Tree). o >>? λ above. over lines first above) (over_null lines second))

scalar_groups : (text : List ℕ) → GroupsAll (Scalar text)
scalar_groups text lines plain second first =
    of_every (λ second. Plain lines second → Meets lines first (Scalar text) second)
    (λ h. meets_null lines first (Scalar text) plain)
    (λ old h. scalars_meet lines first text old)
    (λ fs is h. meets_none lines first (Scalar text) (Map fs) (entries_in lines first >>? λ below. puts lines fs below) Map (made_map lines fs first h) (scalar_on_map lines text) (scalar_on_map lines text fs))
    (λ ys is h. meets_none lines first (Scalar text) (Seq ys) (items_in lines first >>? λ below. joins (here lines) ys (items_kept (here lines) below)) Seq (made_seq lines ys first h) (scalar_on_seq lines text) (scalar_on_seq lines text ys))
    (λ h. absurd (true≢false (sym h ∙ reset_marks lines)))
    (λ inner is h. absurd (true≢false (sym h ∙ override_marks inner lines)))
    second

map_groups : (es : Entries) → OfAll (λ (e : List ℕ × Tree). GroupsAll e.1) es → GroupsAll (Map es)
map_groups es group lines plain second first =
    of_every (λ second. Plain lines second → Meets lines first (Map es) second)
    (λ h. meets_null lines first (Map es) plain)
    (λ old h. let made = scalar_made lines first old in meets_none lines first (Map es) (Scalar old) made.0 (λ a. Scalar old) made.1 (λ a. map_on_scalar lines es old) (map_on_scalar lines es old))
    (λ fs is h. maps_meet lines first es fs (each_groups lines es group (of_map lines es plain).1) plain h)
    (λ ys is h. meets_none lines first (Map es) (Seq ys) (items_in lines first >>? λ below. joins (here lines) ys (items_kept (here lines) below)) Seq (made_seq lines ys first h) (map_on_seq lines es) (map_on_seq lines es ys))
    (λ h. absurd (true≢false (sym h ∙ reset_marks lines)))
    (λ inner is h. absurd (true≢false (sym h ∙ override_marks inner lines)))
    second

each_item_groups : (xs : List Tree) → OfAll GroupsAll xs → OfAll (Plain []) xs → OfAll (λ (x : Tree). Groups x []) xs
each_item_groups [] group plain = tt
each_item_groups (x ∷ xs) group plain = (group.0 [] plain.0, each_item_groups xs group.1 plain.1)

seq_groups : (zs : List Tree) → OfAll GroupsAll zs → GroupsAll (Seq zs)
seq_groups zs group lines plain second first =
    of_every (λ second. Plain lines second → Meets lines first (Seq zs) second)
    (λ h. meets_null lines first (Seq zs) plain)
    (λ old h. let made = scalar_made lines first old in meets_none lines first (Seq zs) (Scalar old) made.0 (λ a. Scalar old) made.1 (λ a. seq_on_scalar lines zs old) (seq_on_scalar lines zs old))
    (λ fs is h. meets_none lines first (Seq zs) (Map fs) (entries_in lines first >>? λ below. puts lines fs below) Map (made_map lines fs first h) (seq_on_map lines zs) (seq_on_map lines zs fs))
    (λ ys is h. seqs_meet lines first zs ys (each_item_groups zs group (of_seq lines zs plain).1) plain h)
    (λ h. absurd (true≢false (sym h ∙ reset_marks lines)))
    (λ inner is h. absurd (true≢false (sym h ∙ override_marks inner lines)))
    second

groups : (tree : Tree) → GroupsAll tree
groups =
    of_every GroupsAll
    null_groups
    scalar_groups
    map_groups
    seq_groups
    (λ lines plain. absurd (true≢false (sym plain ∙ reset_marks lines)))
    (λ inner is lines plain. absurd (true≢false (sym plain ∙ override_marks inner lines)))

-- a tree that is given, as an answer gives it
abbrev whole : Option Tree → Option (Option Tree)
whole None = None
whole (Some tree) = Some (Some tree)

given_whole : (r : Result (Option Tree) MergeRefusal) → Stays r → given r ≡ whole (tree_of r)
given_whole (Ok None) h = absurd h
given_whole (Ok (Some tree)) h = refl
given_whole (Err refusal) h = refl

-- a step after one that takes nothing away
given_step : {B : Type 0} (r : Result (Option Tree) MergeRefusal) → Stays r → (f : Tree → Result B MergeRefusal) → given (r >>= λ tree. f (or_null tree)) ≡ (tree_of r >>? λ tree. given (f tree))
given_step (Ok None) h f = absurd h
given_step (Ok (Some tree)) h f = refl
given_step (Err refusal) h f = refl

whole_next : (o : Option Tree) (f : Tree → Option Tree) → (o >>? λ tree. whole (f tree)) ≡ whole (o >>? f)
whole_next None f = refl
whole_next (Some tree) f = refl

pub plain_stays : PlainStays
plain_stays lines base tree merged plain upper h = subst (OfGiven (Plain lines)) (ap tree_of h) (keeps tree lines upper base plain)

pub plain_trees_group : PlainTreesGroup
plain_trees_group lines first second third plain upper =
    given_step (laid second Value lines first) (bare second lines plain Value lines first) (λ tree. laid third Value lines tree)
    ∙ same_next (over lines first second) (λ tree. given (laid third Value lines tree)) (λ tree. whole (over lines tree third)) (λ tree. given_whole (laid third Value lines tree) (bare third lines upper Value lines tree))
    ∙ whole_next (over lines first second) (λ tree. over lines tree third)
    ∙ ap whole (groups third lines upper second first plain)
    ∙ sym (whole_next (over lines second third) (λ tree. over lines first tree))
    ∙ same_given (Plain lines) (over lines second third) (λ tree. whole (over lines first tree)) (λ tree. given (laid tree Value lines first)) (keeps third lines upper second plain) (λ tree is. sym (given_whole (laid tree Value lines first) (bare tree lines is Value lines first)))
    ∙ sym (given_step (laid third Value lines second) (bare third lines upper Value lines second) (λ tree. laid tree Value lines first))

-- a tree within the limits is that tree
pub within_same : (tree merged : Tree) → within tree ≡ Ok merged → tree ≡ merged
within_same tree merged h = by (nat_le (node_count tree) 200000) (nat_le (text_size tree) 16777216) h
  where
    by : (few short : Bool) → cond {A = Result Tree MergeRefusal} few (cond short (Ok tree) (Err TooMuchText)) (Err TooManyNodes) ≡ Ok merged → tree ≡ merged
    by true true h = cc
    by true false h = absurd (let wrong : ⊥ = cc in wrong)
    by false short h = absurd (let wrong : ⊥ = cc in wrong)

-- a file's tree over another one
over_given : (base tree merged : Tree) → Plain overlay_rules tree → over_files base tree ≡ Ok merged → over overlay_rules base tree ≡ Some merged
unfolding over_files
over_given base tree merged plain h = by (laid tree Value overlay_rules base) (bare tree overlay_rules plain Value overlay_rules base) h
  where
    by : (r : Result (Option Tree) MergeRefusal) → Stays r → (r >>= λ made. within (or_null made)) ≡ Ok merged → tree_of r ≡ Some merged
    by (Ok None) stays h = absurd stays
    by (Ok (Some made)) stays h = ap (λ (x : Tree). Some x) (within_same made merged h)
    by (Err refusal) stays h = absurd (let wrong : ⊥ = cc in wrong)

files_give : (base tree : Tree) → Plain overlay_rules tree → given (over_files base tree) ≡ (over overlay_rules base tree >>? λ made. given (within made))
unfolding over_files
files_give base tree plain = given_step (laid tree Value overlay_rules base) (bare tree overlay_rules plain Value overlay_rules base) within

pub plain_files_group : PlainFilesGroup
plain_files_group first second third left right plain upper is other =
    let lower = over_given first second left plain is in
    let higher = over_given second third right upper other in
    let fine : Plain overlay_rules right = subst (OfGiven (Plain overlay_rules)) higher (keeps third overlay_rules upper second plain) in
    let same : over overlay_rules left third ≡ over overlay_rules first right =
    sym (ap (λ (o : Option Tree). o >>? λ below. over overlay_rules below third) lower)
    ∙ groups third overlay_rules upper second first plain
    ∙ ap (λ (o : Option Tree). o >>? λ above. over overlay_rules first above) higher in
    files_give left third upper
    ∙ ap (λ (o : Option Tree). o >>? λ made. given (within made)) same
    ∙ sym (files_give first right fine)
