-- The entries of a mapping are read alike in rows without their numbers.
use Rattle.std.proofs.Common.{◌≡◌, ◌∙◌, ℕ, List, Bool, true, false, Option, Some, None, ◌||◌, refl, sym, ap, subst, if◌then◌else◌}
use Rattle.std.specs.Option.{is_some}
use Rattle.tree_base.specs.Entries.{value_at, with_entry}
use Rattle.tree_base.specs.declared.tree.Tree.{Tree, out-Tree}
use Rattle.yaml_lines.specs.declared.plain.Context.{Context}
use Rattle.yaml_lines.specs.declared.refusal.YamlFault.TheVariants.{BadMerge, BadScalar, RepeatedKey, Unsupported}
use Rattle.yaml_lines.specs.declared.refusal.YamlRefusal.TheVariants.{Bad}
use Rattle.yaml_lines.specs.declared.row.Row.{Row}
use Rattle.yaml_lines.specs.Plain.{is_colon, plain_of}
use Rattle.yaml_lines.specs.Quoted.{quoted_of}
use Rattle.yaml_lines.specs.Rows.{text_at}
use Rattle.yaml_nodes.specs.declared.entries.Entries.{Entries}
use Rattle.yaml_nodes.specs.declared.entries.Merge.{Merge}
use Rattle.yaml_nodes.specs.declared.key.Key.{Key}
use Rattle.yaml_nodes.specs.declared.progress.Progress.{Progress}
use Rattle.yaml_nodes.specs.declared.spot.Spot.{Spot}
use Rattle.yaml_nodes.specs.declared.spot.Spot.TheVariants.{Here}
use Rattle.yaml_nodes.specs.Mappings.{Pairs, added_maps, is_there, key_at, key_size, key_with, merged, merged_with, new_key, with_merge, with_pair}
use Rattle.yaml_nodes.specs.Marks.{is_property, is_quote, starts}
use Rattle.yaml_nodes.specs.Properties.{fault_of_key}
use Rattle.laws_yaml.proofs.Alike.{Alike, Same, either, either_by, gives, refuses, followed}
use Rattle.laws_yaml.proofs.Places.{bad_same, bare, bare_spot, nodes_same, spot_same, text_same}

-- a merge key without the line of its spot
abbrev pub bare_merge : Option Merge → Option Merge
bare_merge None = None
bare_merge (Some merge) = Some (record merge { spot = bare_spot merge.spot })

abbrev pub bare_entries : Entries → Entries
bare_entries entries = record entries { merge = bare_merge entries.merge }

key_with_same : (is_plain : Bool) (p : Progress) (row : Row) (at : ℕ) (read : Option (List ℕ × ℕ)) → Same (key_with is_plain p row at read) (key_with is_plain p (bare row) at read)
key_with_same is_plain p row at None = bad_same BadScalar p row at
key_with_same is_plain p row at (Some (cs, n)) = gives refl

-- the key that begins at a place
pub key_same : (context : Context) (p : Progress) (row : Row) (at : ℕ) → Same (key_at context p row at) (key_at context p (bare row) at)
key_same context p row at =
    let cs = text_at row at in
    either (is_property cs) (bad_same (fault_of_key cs) p row at)
    (either (starts 42 cs || is_colon cs) (bad_same Unsupported p row at)
    (either (is_quote cs) (key_with_same false p row at (quoted_of cs)) (key_with_same true p row at (plain_of context cs))))

some_bare : (merge : Option Merge) → is_some merge ≡ is_some (bare_merge merge)
some_bare None = refl
some_bare (Some merge) = refl

there_bare : (entries : Entries) (key : Key) → is_there entries key ≡ is_there (bare_entries entries) key
there_bare entries key = ap (λ b. if key.is_merge then b else is_some (value_at entries.own key.text)) (some_bare entries.merge)

module _ (x y : Entries) (h : bare_entries x ≡ bare_entries y) where
  there_same : (key : Key) → is_there x key ≡ is_there y key
  there_same key = there_bare x key ∙ ap (λ z. is_there z key) h ∙ sym (there_bare y key)

  -- a key that isn't there yet
  pub new_key_same : (p : Progress) (row : Row) (at : ℕ) (key : Key) → Same (new_key x p row at key) (new_key y p (bare row) at key)
  new_key_same p row at key = either_by (is_there x key) (is_there y key) (there_same key) (bad_same RepeatedKey p row at) (text_same p row (Here at) (Here at) (key_size key) refl)

  with_merge_same : (p : Progress) (row : Row) (s t : Spot) (maps : Option (List Pairs)) → bare_spot s ≡ bare_spot t → Alike bare_entries (with_merge x p row s maps) (with_merge y p (bare row) t maps)
  with_merge_same p row s t None e = refuses (ap (λ place. Bad BadMerge place) (spot_same p row s t e))
  with_merge_same p row s t (Some maps) e = let own : x.own ≡ y.own = ap (λ (z : Entries). z.own) h in gives (λ i. record { own = own i; merge = Some (record { maps = maps; spot = e i }) })

  -- one entry more
  pub with_pair_same : (p : Progress) (row : Row) (s t : Spot) (key : Key) (tree : Tree) → bare_spot s ≡ bare_spot t → Alike bare_entries (with_pair x p row s key tree) (with_pair y p (bare row) t key tree)
  with_pair_same p row s t key tree e =
      either key.is_merge (with_merge_same p row s t (added_maps (out-Tree tree)) e) (gives (ap (λ (z : Entries). record z { own = with_entry z.own key.text tree }) h))

merged_with_spot : (p : Progress) (row : Row) (own : Pairs) (maps : List Pairs) (s t : Spot) → bare_spot s ≡ bare_spot t
    → Same (merged_with p row own (Some (record { maps = maps; spot = s }))) (merged_with p (bare row) own (Some (record { maps = maps; spot = t })))
merged_with_spot p row own maps s t e = followed (nodes_same p row s t _ _ e) (λ q. gives refl)

merged_with_same : (p : Progress) (row : Row) (own : Pairs) (of other : Option Merge) → bare_merge of ≡ bare_merge other → Same (merged_with p row own of) (merged_with p (bare row) own other)
merged_with_same p row own None None e = gives refl
merged_with_same p row own (Some of) (Some other) e =
    let same : ◌≡◌ {A = Merge} (record of { spot = bare_spot of.spot }) (record other { spot = bare_spot other.spot }) = cc in
    let maps : of.maps ≡ other.maps = ap (λ (m : Merge). m.maps) same in
    subst (λ m. Same (merged_with p row own (Some of)) (merged_with p (bare row) own (Some (record { maps = m; spot = other.spot })))) maps
    (merged_with_spot p row own of.maps of.spot other.spot (ap (λ (m : Merge). m.spot) same))
merged_with_same p row own (Some of) None e = absurd (cc)
merged_with_same p row own None (Some other) e = absurd (cc)

-- the mapping of entries
pub merged_same : (x y : Entries) → bare_entries x ≡ bare_entries y → (p : Progress) (row : Row) → Same (merged p row x) (merged p (bare row) y)
merged_same x y h p row =
    let own : x.own ≡ y.own = ap (λ (z : Entries). z.own) h in
    subst (λ o. Same (merged_with p row x.own x.merge) (merged_with p (bare row) o y.merge)) own (merged_with_same p row x.own x.merge y.merge (ap (λ (z : Entries). z.merge) h))
