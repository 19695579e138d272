-- What stands before a node: at most one name by an anchor, and one tag.
use Rattle.std.specs.Prelude.{ℕ, zero, suc, ◌+◌, List, ◌∷◌, [], Bool, true, false, Option, Some, None, Result, Ok, Err, drop, take, length, ◌==◌, ◌&&◌, codes, if◌then◌else◌}
use Rattle.std.specs.Option.{option_map}
use Rattle.std.specs.Str.{encode_utf8_all, bytes_eq}
use Rattle.tree_base.specs.Entries.{with_entry}
use Rattle.tree_base.specs.declared.tree.Tree.{Tree}
use Rattle.tree_base.specs.declared.tree.Tree.TheVariants.{Reset, Override}
use Rattle.yaml_lines.specs.Blanks.{is_white}
use Rattle.yaml_lines.specs.declared.refusal.YamlFault.{YamlFault}
use Rattle.yaml_lines.specs.declared.refusal.YamlFault.TheVariants.{BadScalar, BadTag, Unsupported}
use Rattle.yaml_lines.specs.declared.refusal.YamlRefusal.{YamlRefusal}
use Rattle.yaml_lines.specs.declared.refusal.YamlRefusal.TheVariants.{Bad}
use Rattle.yaml_lines.specs.declared.row.Row.{Row}
use Rattle.yaml_nodes.specs.declared.progress.Progress.{Progress}
use Rattle.yaml_nodes.specs.declared.properties.Properties.{Properties}
use Rattle.yaml_nodes.specs.declared.properties.Tag.{Tag}
use Rattle.yaml_nodes.specs.declared.properties.Tag.TheVariants as tags
use Rattle.yaml_nodes.specs.declared.spot.Spot.{Spot}
use Rattle.yaml_nodes.specs.declared.spot.Spot.TheVariants.{Here, Before}
use Rattle.yaml_nodes.specs.Marks.{is_property, name_len, starts}
use Rattle.yaml_nodes.specs.Progress.{◌>>=◌, bad, place_of}

-- no property
abbrev pub no_properties : Properties
no_properties = record { name = None; tag = None }

-- the name that stands behind the first character of a text
abbrev pub name_of : List ℕ → List ℕ
name_of cs = encode_utf8_all (take (name_len (drop 1 cs)) (drop 1 cs))

-- a tag that is known; `!reset` and `!override` only where a value may be marked
abbrev pub tag_of : Bool → List ℕ → Option Tag
tag_of may_be_marked name =
    if bytes_eq name (codes "!str") then Some tags.Str
    else (if bytes_eq name (codes "reset") && may_be_marked then Some tags.Reset
    else (if bytes_eq name (codes "override") && may_be_marked then Some tags.Override else None))

-- a name beside the properties before it: not the empty one, and no second one
abbrev pub with_name : Progress → Row → ℕ → Properties → List ℕ → Option (List ℕ) →
    Result Properties YamlRefusal
with_name p row at found name (Some other) = bad BadScalar p row at
with_name p row at found name None =
    if length name == 0 then bad BadScalar p row at else Ok (record found { name = Some name })

-- a tag beside the properties before it: one that is known, and no second one
abbrev pub with_tag : Progress → Row → ℕ → Properties → Option Tag → Option (Tag × Spot) →
    Result Properties YamlRefusal
with_tag p row at found (Some tag) None = Ok (record found { tag = Some (tag, Here at) })
with_tag p row at found tag other = bad BadTag p row at

-- the property that begins here, beside those before it
abbrev pub with_property : Bool → Progress → Row → ℕ → Properties → List ℕ →
    Result Properties YamlRefusal
with_property may_be_marked p row at found cs =
    if starts 38 cs then with_name p row at found (name_of cs) found.name
    else with_tag p row at found (tag_of may_be_marked (name_of cs)) found.tag

-- the properties that stand from a place on, beside those before them; so many characters belong to one that began before
abbrev pub properties_from : Bool → Progress → Row → ℕ → Properties → ℕ → List ℕ →
    Result Properties YamlRefusal
properties_from may_be_marked p row at found skip [] = Ok found
properties_from may_be_marked p row at found (suc skip) (c ∷ cs) =
    properties_from may_be_marked p row (at + 1) found skip cs
properties_from may_be_marked p row at found zero (c ∷ cs) =
    if is_white c then properties_from may_be_marked p row (at + 1) found 0 cs
    else (if is_property (c ∷ cs)
    then (with_property may_be_marked p row at found (c ∷ cs) >>=
    λ more. properties_from may_be_marked p row (at + 1) more (name_len cs) cs)
    else Ok found)

-- a property before a key is the key's, which has none: an anchor isn't supported there, and a tag is bad
abbrev pub fault_of_key : List ℕ → YamlFault
fault_of_key cs = if starts 38 cs then Unsupported else BadTag

-- the properties of a row, for a node in the lines behind it
abbrev pub carried : Progress → Row → Properties → Properties
carried p row found =
    record found { tag = option_map (λ t. (t.0, Before (place_of p row t.1))) found.tag }

-- properties where `!!str` may not stand: it stands on a scalar or nothing alone
abbrev pub unspelled_by : Option (Tag × Spot) → Progress → Row → Properties →
    Result Properties YamlRefusal
unspelled_by (Some (tags.Str, spot)) p row found = Err (Bad BadTag (place_of p row spot))
unspelled_by tag p row found = Ok found

-- the same, by their own tag
abbrev pub unspelled : Progress → Row → Properties → Result Properties YamlRefusal
unspelled p row found = unspelled_by found.tag p row found

-- whether the tag `!!str` stands there
abbrev pub is_spelled : Option (Tag × Spot) → Bool
is_spelled (Some (tags.Str, spot)) = true
is_spelled tag = false

-- a tree under its mark
abbrev pub marked : Option (Tag × Spot) → Tree → Tree
marked (Some (tags.Reset, spot)) tree = Reset
marked (Some (tags.Override, spot)) tree = Override tree
marked tag tree = tree

-- the latest finished node of a name
abbrev pub named : Option (List ℕ) → Progress → Tree → Progress
named None p tree = p
named (Some name) p tree = record p { names = with_entry p.names name tree }

-- a node that is finished, with its properties: its name stands for it without the mark
abbrev pub finished : Properties → Tree × Progress → Tree × Progress
finished found (tree, p) = (marked found.tag tree, named found.name p tree)
