-- A plain tree over another one, as what it gives.
use Rattle.std.proofs.Common.{◌≡◌, ◌∙◌, ℕ, Bool, true, false, cond, suc, ◌+◌, List, [], ◌∷◌, ◌++◌, map, slice_get, slice_set, unwrap_or, Option, None, Some, Result, Ok, Err, arith, ap, refl, sym, subst, true≢false, rules}
use Rattle.std.proofs.lemmas.Iterator.Adapters.{position_from-zero}
use Rattle.std.specs.List.{position_from}
use Rattle.std.specs.Option.{option_map}
use Rattle.tree_base.specs.Answers.{◌>>=◌}
use Rattle.tree_base.specs.Entries.{value_at, with_entry}
use Rattle.tree_base.specs.declared.tree.Tree.{Tree, out-Tree, the_lemmas}
use Rattle.tree_base.specs.declared.tree.Tree.TheOpen.{Tree-F}
use Rattle.tree_base.specs.declared.tree.Tree.TheVariants.{Map, Null, Scalar, Seq}
use Rattle.tree_base.specs.declared.Step.TheVariants.{Index, Key}
use Rattle.attribute_paths.specs.Patterns.{below_key, here}
use Rattle.attribute_paths.proofs.Trees.{OfAll, of_every}
use Rattle.merge_tables.specs.declared.refusal.MergeRefusal.{MergeRefusal}
use Rattle.merge_tables.specs.declared.rules.EntryKind.{EntryKind}
use Rattle.merge_tables.specs.declared.rules.Joining.{Joining}
use Rattle.merge_tables.specs.declared.rules.Joining.TheVariants.{Replaced, Unique}
use Rattle.merge_tables.specs.declared.rules.Standing.{Standing}
use Rattle.merge_tables.specs.declared.rules.Standing.TheVariants.{Item, Value}
use Rattle.merge_tables.specs.Answers.{place, under}
use Rattle.merge_tables.specs.Attributes.{JoiningRules}
use Rattle.merge_rules.specs.Overlay.{Lay, entries_below, entries_laid, entries_over, entry_over, entry_placed, entry_taken, item_joined, items_below, items_joined, items_kept, items_laid, laid, layers, one_of, scalar_over, with_value}
use Rattle.merge_rules.specs.Uniqueness.{are_one}
use Rattle.merge_tables.specs.Parts.{or_null}
use Rattle.laws_merging.specs.Grouping.{given}
use Rattle.laws_merging.proofs.Entries.{Entries}
use Rattle.laws_merging.proofs.Options.{◌>>?◌, same_next}
use Rattle.laws_merging.proofs.Plain.{ArePlain, Plain, override_marks, reset_marks}

-- the tree that is given, and none where it is taken away or refused
abbrev pub tree_of : Result (Option Tree) MergeRefusal → Option Tree
tree_of (Ok tree) = tree
tree_of (Err refusal) = None

-- what is given isn't taken away
abbrev pub Stays : Result (Option Tree) MergeRefusal → Type 0
Stays (Ok None) = ⊥
Stays (Ok (Some tree)) = Unit {0}
Stays (Err refusal) = Unit {0}

-- a tree that takes nothing away
abbrev pub IsBare : Tree → Type 0
IsBare tree = (standing : Standing) (lines : JoiningRules) (base : Tree) → Stays (laid tree standing lines base)

abbrev pub AreBare : Entries → Type 0
AreBare es = OfAll (λ (e : List ℕ × Tree). IsBare e.1) es

-- a tree over a base
abbrev pub over : JoiningRules → Tree → Tree → Option Tree
over lines base tree = tree_of (laid tree Value lines base)

-- an entry, and entries, over a mapping
abbrev pub put : JoiningRules → Entries → List ℕ × Tree → Option Entries
put lines es e = over (below_key e.0 lines) (or_null (value_at es e.0)) e.1 >>? λ v. Some (with_entry es e.0 v)

abbrev pub puts : JoiningRules → Entries → Entries → Option Entries
puts lines [] es = Some es
puts lines (e ∷ more) es = put lines es e >>? λ next. puts lines more next

pub given_next : {A B : Type 0} (r : Result A MergeRefusal) (f : A → Result B MergeRefusal) → given (r >>= f) ≡ (given r >>? λ a. given (f a))
given_next (Ok a) f = refl
given_next (Err refusal) f = refl

module _ (standing : Standing) (lines : JoiningRules) (base : Tree) where
  pub null_lays : laid Null standing lines base ≡ Ok (Some base)
  null_lays = search (rules, the_lemmas)

  pub scalar_lays : (text : List ℕ) → laid (Scalar text) standing lines base ≡ scalar_over text (out-Tree base)
  scalar_lays text = search (rules, the_lemmas)

  pub map_lays : (es : Entries) → laid (Map es) standing lines base ≡ entries_laid lines (layers es) base
  map_lays es = search (rules, the_lemmas)

  pub seq_lays : (xs : List Tree) → laid (Seq xs) standing lines base ≡ items_laid (here lines) (map laid xs) base
  seq_lays xs = search (rules, the_lemmas)

-- a plain tree takes nothing away
pub bare_scalar : (text : List ℕ) → IsBare (Scalar text)
bare_scalar text s l b = subst Stays (sym (scalar_lays s l b text)) (by b)
  where
    by : (b : Tree) → Stays (scalar_over text (out-Tree b))
    by b = elim (out-Tree b) as (λ v. Stays (scalar_over text v)) [ Tree-F.Null ↦ tt | Tree-F.Scalar old ↦ tt | Tree-F.Map es ↦ tt | Tree-F.Seq xs ↦ tt | Tree-F.Reset ↦ tt | Tree-F.Override inner ↦ tt ]

stays_next : {A : Type 0} (r : Result A MergeRefusal) (f : A → Tree) → Stays (r >>= λ a. Ok (Some (f a)))
stays_next (Ok a) f = tt
stays_next (Err refusal) f = tt

stays_after : {A B : Type 0} (r : Result A MergeRefusal) (g : A → Result B MergeRefusal) (f : B → Tree) → Stays (r >>= λ a. g a >>= λ b. Ok (Some (f b)))
stays_after (Ok a) g f = stays_next (g a) f
stays_after (Err refusal) g f = tt

pub bare_map : (es : Entries) → IsBare (Map es)
bare_map es s l b = subst Stays (sym (map_lays s l b es)) (by (entries_below (out-Tree b)))
  where
    by : (r : Result Entries MergeRefusal) → Stays (r >>= entries_over l (layers es) >>= λ all. Ok (Some (Map all)))
    by (Ok below) = stays_next (entries_over l (layers es) below) Map
    by (Err refusal) = tt

pub bare_seq : (xs : List Tree) → IsBare (Seq xs)
bare_seq xs s l b = subst Stays (sym (seq_lays s l b xs)) (stays_after (items_below (out-Tree b)) (λ below. items_joined (here l) (map laid xs) (items_kept (here l) below)) Seq)

pub bare : (tree : Tree) (lines : JoiningRules) → Plain lines tree → IsBare tree
bare =
    of_every (λ tree. (lines : JoiningRules) → Plain lines tree → IsBare tree)
    (λ lines h s l b. subst Stays (sym (null_lays s l b)) tt)
    (λ text lines h. bare_scalar text)
    (λ es is lines h. bare_map es)
    (λ xs is lines h. bare_seq xs)
    (λ lines h. absurd (true≢false (sym h ∙ reset_marks lines)))
    (λ inner is lines h. absurd (true≢false (sym h ∙ override_marks inner lines)))

pub all_bare : (lines : JoiningRules) (es : Entries) → ArePlain lines es → AreBare es
all_bare lines [] h = tt
all_bare lines (e ∷ es) h = (bare e.1 (below_key e.0 lines) h.0, all_bare lines es h.1)

-- entries over a mapping are put there
entry_put : (lines : JoiningRules) (es : Entries) (e : List ℕ × Tree) → IsBare e.1 → given (entry_over lines es (e.0, laid e.1)) ≡ put lines es e
entry_put lines es e is = by (laid e.1 Value (below_key e.0 lines) (or_null (value_at es e.0))) (is Value (below_key e.0 lines) (or_null (value_at es e.0)))
  where
    by : (r : Result (Option Tree) MergeRefusal) → Stays r → given (under (Key e.0) r >>= λ value. Ok (with_value es e.0 value)) ≡ (tree_of r >>? λ v. Some (with_entry es e.0 v))
    by (Ok None) h = absurd h
    by (Ok (Some v)) h = refl
    by (Err refusal) h = refl

pub entries_put : (lines : JoiningRules) (es : Entries) → AreBare es → (below : Entries) → given (entries_over lines (layers es) below) ≡ puts lines es below
entries_put lines [] is below = refl
entries_put lines (e ∷ es) is below =
    given_next (entry_over lines below (e.0, laid e.1)) (entries_over lines (layers es))
    ∙ ap (λ (o : Option Entries). o >>? λ next. given (entries_over lines (layers es) next)) (entry_put lines below e is.0)
    ∙ same_next (put lines below e) (λ next. given (entries_over lines (layers es) next)) (λ next. puts lines es next) (entries_put lines es is.1)

-- what a plain tree gives, by its kind, however it stands
module _ (standing : Standing) (lines : JoiningRules) (base : Tree) where
  pub map_gives : (es : Entries) → AreBare es → tree_of (laid (Map es) standing lines base) ≡ (given (entries_below (out-Tree base)) >>? λ below. puts lines es below >>? λ all. Some (Map all))
  map_gives es is = ap tree_of (map_lays standing lines base es) ∙ by (entries_below (out-Tree base))
    where
      made : (r : Result Entries MergeRefusal) → tree_of (r >>= λ all. Ok (Some (Map all))) ≡ (given r >>? λ all. Some (Map all))
      made (Ok all) = refl
      made (Err refusal) = refl

      by : (r : Result Entries MergeRefusal) → tree_of (r >>= entries_over lines (layers es) >>= λ all. Ok (Some (Map all))) ≡ (given r >>? λ below. puts lines es below >>? λ all. Some (Map all))
      by (Ok below) = made (entries_over lines (layers es) below) ∙ ap (λ (o : Option Entries). o >>? λ all. Some (Map all)) (entries_put lines es is below)
      by (Err refusal) = refl

-- a tree that is laid over nothing as an item as it is
abbrev pub ItemStands : Tree → Type 0
ItemStands tree = laid tree Item [] Null ≡ Ok (Some tree)

-- an entry among unique ones: over the first that is one with it, or behind them
abbrev pub taken : EntryKind → List Tree → Tree → Option (List Tree)
taken kind [] entry = Some (entry ∷ [])
taken kind (item ∷ items) entry = cond (are_one kind entry item) (over [] item entry >>? λ merged. Some (merged ∷ items)) (taken kind items entry >>? λ all. Some (item ∷ all))

-- an item, and items, by how sequences are joined
abbrev pub joined : Option Joining → List Tree → Tree → Option (List Tree)
joined None items item = Some (items ++ item ∷ [])
joined (Some Replaced) items item = Some (items ++ item ∷ [])
joined (Some (Unique kind)) items item = taken kind items item

abbrev pub joins : Option Joining → List Tree → List Tree → Option (List Tree)
joins joining [] items = Some items
joins joining (item ∷ more) items = joined joining items item >>? λ all. joins joining more all

-- a plain tree gives the same as an item
abbrev StandsAlike : Tree → Type 0
StandsAlike tree = (lines : JoiningRules) → Plain lines tree → (base : Tree) → laid tree Item lines base ≡ laid tree Value lines base

stands_alike : (tree : Tree) → StandsAlike tree
stands_alike =
    of_every StandsAlike
    (λ l h b. null_lays Item l b ∙ sym (null_lays Value l b))
    (λ text l h b. scalar_lays Item l b text ∙ sym (scalar_lays Value l b text))
    (λ es is l h b. map_lays Item l b es ∙ sym (map_lays Value l b es))
    (λ xs is l h b. seq_lays Item l b xs ∙ sym (seq_lays Value l b xs))
    (λ l h b. absurd (true≢false (sym h ∙ reset_marks l)))
    (λ inner is l h b. absurd (true≢false (sym h ∙ override_marks inner l)))

-- the first place at which a test passes, counted from one further on
next_place : (test : Tree → Bool) (items : List Tree) (at : ℕ) → position_from test (suc at) items ≡ option_map suc (position_from test at items)
next_place test [] at = refl
next_place test (item ∷ items) at = by (test item) (next_place test items (at + 1))
  where
    by : (b : Bool) → position_from test (suc (at + 1)) items ≡ option_map suc (position_from test (at + 1) items) → cond b (Some (suc at)) (position_from test (suc at + 1) items) ≡ option_map suc (cond b (Some at) (position_from test (at + 1) items))
    by true more = refl
    by false more = ap (λ n. position_from test n items) (omega arith) ∙ more

-- an entry is placed where it is taken
behind_first : (item entry : Tree) (items : List Tree) (lay : Lay) (at : Option ℕ) → given (entry_placed (item ∷ items) lay entry (option_map suc at)) ≡ (given (entry_placed items lay entry at) >>? λ all. Some (item ∷ all))
behind_first item entry items lay None = refl
behind_first item entry items lay (Some at) = by (lay Item [] (or_null (slice_get items at)))
  where
    by : (r : Result (Option Tree) MergeRefusal)
        → given (under (Index (place (suc at))) r >>= λ merged. Ok (slice_set (item ∷ items) (suc at) (unwrap_or merged entry))) ≡ (given (under (Index (place at)) r >>= λ merged. Ok (slice_set items at (unwrap_or merged entry))) >>? λ all. Some (item ∷ all))
    by (Ok merged) = refl
    by (Err refusal) = refl

entry_taken_in : (kind : EntryKind) (items : List Tree) (entry : Tree) → Plain [] entry → given (entry_placed items (laid entry) entry (position_from (are_one kind entry) 0 items)) ≡ taken kind items entry
entry_taken_in kind [] entry plain = refl
entry_taken_in kind (item ∷ items) entry plain = by (are_one kind entry item) (entry_taken_in kind items entry plain)
  where
    merged : (r : Result (Option Tree) MergeRefusal) → Stays r → given (under (Index (place 0)) r >>= λ merged. Ok (slice_set (item ∷ items) 0 (unwrap_or merged entry))) ≡ (tree_of r >>? λ merged. Some (merged ∷ items))
    merged (Ok None) h = absurd h
    merged (Ok (Some tree)) h = refl
    merged (Err refusal) h = refl

    by : (b : Bool) → given (entry_placed items (laid entry) entry (position_from (are_one kind entry) 0 items)) ≡ taken kind items entry
        → given (entry_placed (item ∷ items) (laid entry) entry (cond b (Some 0) (position_from (are_one kind entry) 1 items))) ≡ cond b (over [] item entry >>? λ merged. Some (merged ∷ items)) (taken kind items entry >>? λ all. Some (item ∷ all))
    by true more =
        merged (laid entry Item [] item) (bare entry [] plain Item [] item)
        ∙ ap (λ (r : Result (Option Tree) MergeRefusal). tree_of r >>? λ merged. Some (merged ∷ items)) (stands_alike entry [] plain item)
    by false more =
        ap (λ (at : Option ℕ). given (entry_placed (item ∷ items) (laid entry) entry at)) (next_place (are_one kind entry) items 0)
        ∙ behind_first item entry items (laid entry) (position_from (are_one kind entry) 0 items)
        ∙ ap (λ (o : Option (List Tree)). o >>? λ all. Some (item ∷ all)) more

item_gives : (joining : Option Joining) (items : List Tree) (item : Tree) → Plain [] item → ItemStands item → given (item_joined joining items (laid item)) ≡ joined joining items item
item_gives None items item plain is = ap (λ (r : Result (Option Tree) MergeRefusal). given (r >>= λ made. Ok (items ++ one_of made))) is
item_gives (Some Replaced) items item plain is = ap (λ (r : Result (Option Tree) MergeRefusal). given (r >>= λ made. Ok (items ++ one_of made))) is
item_gives (Some (Unique kind)) items item plain is =
    ap (λ (r : Result (Option Tree) MergeRefusal). given (r >>= entry_taken kind items (laid item))) is
    ∙ ap (λ (at : Option ℕ). given (entry_placed items (laid item) item at)) (position_from-zero (are_one kind item) items)
    ∙ entry_taken_in kind items item plain

items_give : (joining : Option Joining) (xs : List Tree) → OfAll (Plain []) xs → OfAll ItemStands xs → (items : List Tree) → given (items_joined joining (map laid xs) items) ≡ joins joining xs items
items_give joining [] plain stand items = refl
items_give joining (x ∷ xs) plain stand items =
    given_next (item_joined joining items (laid x)) (items_joined joining (map laid xs))
    ∙ ap (λ (o : Option (List Tree)). o >>? λ all. given (items_joined joining (map laid xs) all)) (item_gives joining items x plain.0 stand.0)
    ∙ same_next (joined joining items x) (λ all. given (items_joined joining (map laid xs) all)) (λ all. joins joining xs all) (items_give joining xs plain.1 stand.1)

module _ (standing : Standing) (lines : JoiningRules) (base : Tree) where
  pub seq_gives : (xs : List Tree) → OfAll (Plain []) xs → OfAll ItemStands xs
      → tree_of (laid (Seq xs) standing lines base) ≡ (given (items_below (out-Tree base)) >>? λ below. joins (here lines) xs (items_kept (here lines) below) >>? λ all. Some (Seq all))
  seq_gives xs plain stand = ap tree_of (seq_lays standing lines base xs) ∙ by (items_below (out-Tree base))
    where
      made : (r : Result (List Tree) MergeRefusal) → tree_of (r >>= λ all. Ok (Some (Seq all))) ≡ (given r >>? λ all. Some (Seq all))
      made (Ok all) = refl
      made (Err refusal) = refl

      by : (r : Result (List Tree) MergeRefusal) → tree_of (r >>= λ below. items_joined (here lines) (map laid xs) (items_kept (here lines) below) >>= λ all. Ok (Some (Seq all)))
          ≡ (given r >>? λ below. joins (here lines) xs (items_kept (here lines) below) >>? λ all. Some (Seq all))
      by (Ok below) = made (items_joined (here lines) (map laid xs) (items_kept (here lines) below)) ∙ ap (λ (o : Option (List Tree)). o >>? λ all. Some (Seq all)) (items_give (here lines) xs plain stand (items_kept (here lines) below))
      by (Err refusal) = refl
