-- Steps of laying a tree over another one.
use Rattle.std.proofs.Common.{◌≡◌, ◌∙◌, ℕ, List, [], ◌++◌, Some, None, Option, Result, Ok, map, sym, ap, rules}
use Rattle.std.specs.Cmp.Lexicographic.{nat_list_eq_equiv}
use Rattle.std.specs.List.{zip}
use Rattle.std.specs.Map.{keys_of, values_of}
use Rattle.tree_base.specs.Answers.{◌>>=◌}
use Rattle.tree_base.specs.Entries.{value_at, with_entry}
use Rattle.tree_base.specs.declared.Step.TheVariants.{Key}
use Rattle.tree_base.specs.declared.Tree.{Tree, Map, Null, Override, Reset, Scalar, Seq, out-Tree, the_lemmas}
use Rattle.tree_base.proofs.Pairs.{put_twice}
use Rattle.attribute_paths.proofs.Walks.{entries_are, put_removed}
use Rattle.attribute_paths.specs.Patterns.{below_key, here}
use Rattle.merge_tables.specs.declared.refusal.MergeRefusal.{MergeRefusal}
use Rattle.merge_tables.specs.declared.rules.Joining.{Joining}
use Rattle.merge_tables.specs.declared.rules.Joining.TheVariants.{Replaced, Unique}
use Rattle.merge_tables.specs.declared.rules.Standing.{Standing}
use Rattle.merge_tables.specs.declared.rules.Standing.TheVariants.{Item, Value}
use Rattle.merge_tables.specs.Answers.{Fails, under}
use Rattle.merge_tables.specs.Attributes.{JoiningRules}
use Rattle.merge_rules.specs.Overlay.{Lay, entries_below, entries_laid, entries_over, entry_over, entry_taken, item_joined, items_laid, kept_below, laid, layers, one_of, scalar_over, with_value}
use Rattle.merge_tables.specs.Parts.{or_null}
use Rattle.merge_tables.proofs.Answering.{fails_on, goes_on}

-- a mapping laid over entries, by its keys and values
pub map_goes : (lines : JoiningRules) (es : List (List ℕ × Tree)) (keys : List (List ℕ)) (values : List Tree) (base : Tree) (below : List (List ℕ × Tree)) → keys ≡ keys_of es → values ≡ values_of es
    → entries_below (out-Tree base) ≡ Ok below
    → entries_laid lines (layers es) base ≡ (entries_over lines (zip keys (map laid values)) below >>= λ all. Ok (Some (Map all)))
map_goes lines es keys values base below k v h =
    ap (λ (r : Result (List (List ℕ × Tree)) MergeRefusal). r >>= entries_over lines (layers es) >>= λ all. Ok (Some (Map all))) h
    ∙ ap (λ (l : List (List ℕ × Lay)). entries_over lines l below >>= λ all. Ok (Some (Map all))) (sym (entries_are laid es keys values k v))

-- an item that fails on nothing fails, however the sequences are joined
pub item_fails : (joining : Option Joining) (items : List Tree) (lay : Lay) (e : MergeRefusal) → Fails e (lay Item [] Null) → Fails e (item_joined joining items lay)
item_fails None items lay e h = fails_on e (lay Item [] Null) (λ (item : Option Tree). Ok (items ++ one_of item)) h
item_fails (Some Replaced) items lay e h = fails_on e (lay Item [] Null) (λ (item : Option Tree). Ok (items ++ one_of item)) h
item_fails (Some (Unique kind)) items lay e h = fails_on e (lay Item [] Null) (entry_taken kind items lay) h

-- a tree laid over another, by its kind
module _ (standing : Standing) (lines : JoiningRules) (base : Tree) where
  pub null_lays : laid Null standing lines base ≡ Ok (Some base)
  null_lays = search (rules, the_lemmas)

  pub scalar_lays : (text : List ℕ) → laid (Scalar text) standing lines base ≡ scalar_over text (out-Tree base)
  scalar_lays text = search (rules, the_lemmas)

  pub map_lays : (es : List (List ℕ × Tree)) → laid (Map es) standing lines base ≡ entries_laid lines (layers es) base
  map_lays es = search (rules, the_lemmas)

  pub seq_lays : (xs : List Tree) → laid (Seq xs) standing lines base ≡ items_laid (here lines) (map laid xs) base
  seq_lays xs = search (rules, the_lemmas)

  pub reset_lays : laid Reset standing lines base ≡ Ok None
  reset_lays = search (rules, the_lemmas)

  pub override_lays : (inner : Tree) → laid (Override inner) standing lines base ≡ laid inner standing lines (kept_below standing base)
  override_lays inner = search (rules, the_lemmas)

-- a key's value laid over the one below it, and put in its place
pub entry_goes : (lines at : JoiningRules) (base : List (List ℕ × Tree)) (k : List ℕ) (value old : Tree) (new : Option Tree) → old ≡ or_null (value_at base k) → at ≡ below_key k lines
    → under (Key k) (laid value Value at old) ≡ Ok new
    → entry_over lines base (k, laid value) ≡ Ok (with_value base k new)
entry_goes lines at base k value old new below left h =
    goes_on (under (Key k) (laid value Value (below_key k lines) (or_null (value_at base k)))) (λ (tree : Option Tree). Ok (with_value base k tree)) new
    ((λ i. under (Key k) (laid value Value (sym left i) (sym below i))) ∙ h)

-- the new value of a key, where null was left in its place
pub value_put : (base : List (List ℕ × Tree)) (k : List ℕ) (new : Option Tree) → with_value (with_entry base k Null) k new ≡ with_value base k new
value_put base k None = put_removed base k Null
value_put base k (Some value) = put_twice nat_list_eq_equiv base k Null value
