-- Files that merge the same however they are grouped.
use Rattle.std.specs.Prelude.{◌≡◌, ℕ, Bool, true, false, not, ◌&&◌, List, [], ◌∷◌, map, codes, Option, Some, None, Result, Ok, Err}
use Rattle.std.specs.List.{list_all, list_any}
use Rattle.std.specs.Map.{keys_of}
use Rattle.tree_base.specs.Answers.{◌>>=◌}
use Rattle.tree_base.specs.declared.Tree.{Tree, fold-Tree, out-Tree, Null, Scalar, Map, Seq, Reset, Override}
use Rattle.tree_base.specs.declared.Tree.TheOpen.{Tree-F}
use Rattle.attribute_paths.specs.Patterns.{below_key, here}
use Rattle.merge_tables.specs.declared.refusal.MergeRefusal.{MergeRefusal}
use Rattle.merge_tables.specs.declared.rules.EntryKind.{EntryKind}
use Rattle.merge_tables.specs.declared.rules.EntryKind.TheVariants.{Port}
use Rattle.merge_tables.specs.declared.rules.Joining.{Joining}
use Rattle.merge_tables.specs.declared.rules.Joining.TheVariants.{Replaced, Unique}
use Rattle.merge_tables.specs.declared.rules.Standing.TheVariants.{Value}
use Rattle.merge_tables.specs.Attributes.{JoiningRules, overlay_rules}
use Rattle.merge_rules.specs.Laws.{are_apart, no_mark, own_keys}
use Rattle.merge_rules.specs.Overlay.{laid, over_files}
use Rattle.merge_rules.specs.Uniqueness.{are_one}
use Rattle.merge_tables.specs.Parts.{field, or_null}

-- whether a tree is a text, or null
abbrev pub is_text : Tree-F Tree → Bool
is_text Tree-F.Null = true
is_text (Tree-F.Scalar text) = true
is_text other = false

-- whether a field of an entry is a text, or isn't there
abbrev pub has_text : List (List ℕ × Tree) → List ℕ → Bool
has_text entries name = is_text (out-Tree (field entries name))

-- whether an entry is known by texts alone, as every one but a port: its address, what it is published as and its protocol may be other trees
abbrev pub by_texts : EntryKind → Tree-F Tree → Bool
by_texts Port (Tree-F.Map entries) = has_text entries (codes "host_ip") && (has_text entries (codes "published") && has_text entries (codes "protocol"))
by_texts kind item = true

-- whether the entries of a list are known by texts, and no two of them are one
abbrev pub are_several : EntryKind → List Tree → Bool
are_several kind [] = true
are_several kind (item ∷ items) = by_texts kind (out-Tree item) && (not (list_any (are_one kind item) items) && are_several kind items)

-- whether that holds of a sequence whose entries are unique; of any other one nothing is asked
abbrev pub are_known : Option Joining → List Tree → Bool
are_known None items = true
are_known (Some Replaced) items = true
are_known (Some (Unique kind)) items = are_several kind items

-- a tree, and whether it is plain by the rules
abbrev pub Judged : Type 0
Judged = Tree × (JoiningRules → Bool)

-- whether a tree is plain, by what says so of its parts
abbrev pub judge_step : Tree-F Judged → Judged
judge_step Tree-F.Null = (Null, λ rules. true)
judge_step (Tree-F.Scalar text) = (Scalar text, λ rules. true)
judge_step (Tree-F.Map entries) =
    (Map (map (λ entry. (entry.0, entry.1.0)) entries), λ rules. are_apart (keys_of entries) && list_all (λ (entry : List ℕ × Judged). entry.1.1 (below_key entry.0 rules)) entries)
judge_step (Tree-F.Seq items) =
    (Seq (map (λ item. item.0) items), λ rules. are_known (here rules) (map (λ item. item.0) items) && list_all (λ (item : Judged). item.1 []) items)
judge_step Tree-F.Reset = (Reset, λ rules. false)
judge_step (Tree-F.Override inner) = (Override inner.0, λ rules. false)

-- a tree, and whether it is plain, part by part
abbrev pub judged : Tree → Judged
judged = fold-Tree Judged judge_step

-- whether a tree is plain where these rules hold: no mark stands in it, no key twice in a mapping,
-- and in a list of unique entries no two that are one, and no port that is known by more than texts
abbrev pub is_plain : Tree → JoiningRules → Bool
is_plain tree = (judged tree).1

-- what an answer gives, and nothing where it is refused
abbrev pub given : {A : Type 0} → Result A MergeRefusal → Option A
given (Ok x) = Some x
given (Err refusal) = None

-- the second of three trees over the first, and the third over that, give what the third over the second, and that over the first, give:
-- the same tree, or both are refused
abbrev pub PlainTreesGroup : Type 0
PlainTreesGroup = (rules : JoiningRules) (first second third : Tree) → is_plain second rules ≡ true → is_plain third rules ≡ true
    → given (laid second Value rules first >>= λ tree. laid third Value rules (or_null tree))
    ≡ given (laid third Value rules second >>= λ tree. laid (or_null tree) Value rules first)

-- so do three files, where both first steps give a tree within the limits
abbrev pub PlainFilesGroup : Type 0
PlainFilesGroup = (first second third left right : Tree) → is_plain second overlay_rules ≡ true → is_plain third overlay_rules ≡ true
    → over_files first second ≡ Ok left → over_files second third ≡ Ok right → given (over_files left third) ≡ given (over_files first right)

-- a plain tree over a plain one gives a plain one, so that more than three group as well
abbrev pub PlainStays : Type 0
PlainStays = (rules : JoiningRules) (base over merged : Tree) → is_plain base rules ≡ true → is_plain over rules ≡ true
    → laid over Value rules base ≡ Ok (Some merged) → is_plain merged rules ≡ true

-- whether sequences are joined so that their entries are unique
abbrev pub makes_unique : Joining → Bool
makes_unique Replaced = false
makes_unique (Unique kind) = true

-- whether by these rules no sequence has unique entries
abbrev pub has_no_unique : JoiningRules → Bool
has_no_unique rules = list_all (λ rule. not (makes_unique rule.1)) rules

-- where no sequence has unique entries, every tree without marks that has no key twice is plain
abbrev pub WithoutUniquePlain : Type 0
WithoutUniquePlain = (rules : JoiningRules) (tree : Tree) → has_no_unique rules ≡ true → no_mark tree ≡ true → own_keys tree ≡ true → is_plain tree rules ≡ true
