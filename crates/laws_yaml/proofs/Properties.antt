-- What stands before a node is read alike in rows without their numbers.
use Rattle.std.proofs.Common.{◌≡◌, ◌∙◌, ℕ, zero, suc, ◌+◌, ◌==◌, List, [], ◌∷◌, Bool, Option, Some, None, length, refl, sym, ap, subst}
use Rattle.std.specs.Option.{option_map}
use Rattle.tree_base.specs.declared.tree.Tree.{Tree}
use Rattle.yaml_lines.specs.Blanks.{is_white}
use Rattle.yaml_lines.specs.declared.refusal.YamlFault.TheVariants.{BadScalar, BadTag}
use Rattle.yaml_lines.specs.declared.refusal.YamlRefusal.TheVariants.{Bad}
use Rattle.yaml_lines.specs.declared.row.Row.{Row}
use Rattle.yaml_nodes.specs.declared.progress.Progress.{Progress}
use Rattle.yaml_nodes.specs.declared.properties.Properties.{Properties}
use Rattle.yaml_nodes.specs.declared.properties.Tag.{Tag}
use Rattle.yaml_nodes.specs.declared.properties.Tag.TheVariants as tags
use Rattle.yaml_nodes.specs.declared.spot.Spot.{Spot}
use Rattle.yaml_nodes.specs.declared.spot.Spot.TheVariants.{Here, Before}
use Rattle.yaml_nodes.specs.Marks.{is_property, name_len, starts}
use Rattle.yaml_nodes.specs.Progress.{place_of}
use Rattle.yaml_nodes.specs.Properties.{carried, finished, is_spelled, marked, name_of, named, properties_from, tag_of, unspelled, unspelled_by, with_name, with_property, with_tag}
use Rattle.laws_yaml.proofs.Alike.{Alike, chained, either, gives, refuses}
use Rattle.laws_yaml.proofs.Places.{bad_same, bare, bare_spot, spot_same}

-- a tag without the line of its spot
abbrev pub bare_tag : Option (Tag × Spot) → Option (Tag × Spot)
bare_tag None = None
bare_tag (Some tag) = Some (tag.0, bare_spot tag.1)

-- properties without the line of their tag's spot
abbrev pub bare_found : Properties → Properties
bare_found found = record found { tag = bare_tag found.tag }

name_same : (p : Progress) (row : Row) (at : ℕ) (f g : Properties) (name : List ℕ) (of other : Option (List ℕ)) → bare_found f ≡ bare_found g → of ≡ other
    → Alike bare_found (with_name p row at f name of) (with_name p (bare row) at g name other)
name_same p row at f g name None None h e = either (length name == 0) (bad_same BadScalar p row at) (gives (ap (λ (x : Properties). record x { name = Some name }) h))
name_same p row at f g name (Some of) (Some other) h e = bad_same BadScalar p row at
name_same p row at f g name (Some of) None h e = absurd (cc)
name_same p row at f g name None (Some other) h e = absurd (cc)

tag_same : (p : Progress) (row : Row) (at : ℕ) (f g : Properties) (tag : Option Tag) (of other : Option (Tag × Spot)) → bare_found f ≡ bare_found g → bare_tag of ≡ bare_tag other
    → Alike bare_found (with_tag p row at f tag of) (with_tag p (bare row) at g tag other)
tag_same p row at f g None of other h e = bad_same BadTag p row at
tag_same p row at f g (Some tag) None None h e = gives (ap (λ (x : Properties). record x { tag = Some (tag, Here at) }) h)
tag_same p row at f g (Some tag) (Some of) (Some other) h e = bad_same BadTag p row at
tag_same p row at f g (Some tag) (Some of) None h e = absurd (cc)
tag_same p row at f g (Some tag) None (Some other) h e = absurd (cc)

property_same : (may_be_marked : Bool) (p : Progress) (row : Row) (at : ℕ) (f g : Properties) (cs : List ℕ) → bare_found f ≡ bare_found g
    → Alike bare_found (with_property may_be_marked p row at f cs) (with_property may_be_marked p (bare row) at g cs)
property_same may_be_marked p row at f g cs h =
    either (starts 38 cs) (name_same p row at f g (name_of cs) f.name g.name h (ap (λ (x : Properties). x.name) h))
    (tag_same p row at f g (tag_of may_be_marked (name_of cs)) f.tag g.tag h (ap (λ (x : Properties). x.tag) h))

-- the properties that stand from a place on
pub properties_same : (may_be_marked : Bool) (p : Progress) (row : Row) (at : ℕ) (f g : Properties) (skip : ℕ) (cs : List ℕ) → bare_found f ≡ bare_found g
    → Alike bare_found (properties_from may_be_marked p row at f skip cs) (properties_from may_be_marked p (bare row) at g skip cs)
properties_same may_be_marked p row at f g skip [] h = gives h
properties_same may_be_marked p row at f g (suc skip) (c ∷ cs) h = properties_same may_be_marked p row (at + 1) f g skip cs h
properties_same may_be_marked p row at f g zero (c ∷ cs) h =
    either (is_white c) (properties_same may_be_marked p row (at + 1) f g 0 cs h)
    (either (is_property (c ∷ cs))
    (chained (property_same may_be_marked p row at f g (c ∷ cs) h) (λ x y k. properties_same may_be_marked p row (at + 1) x y (name_len cs) cs k))
    (gives h))

module _ (p : Progress) (row : Row) (f g : Properties) (h : bare_found f ≡ bare_found g) where
  unspelled_tag : (tag : Tag) (s t : Spot) → bare_spot s ≡ bare_spot t → Alike bare_found (unspelled_by (Some (tag, s)) p row f) (unspelled_by (Some (tag, t)) p (bare row) g)
  unspelled_tag tags.Str s t e = refuses (ap (λ place. Bad BadTag place) (spot_same p row s t e))
  unspelled_tag tags.Reset s t e = gives h
  unspelled_tag tags.Override s t e = gives h

  unspelled_by_same : (of other : Option (Tag × Spot)) → bare_tag of ≡ bare_tag other → Alike bare_found (unspelled_by of p row f) (unspelled_by other p (bare row) g)
  unspelled_by_same None None e = gives h
  unspelled_by_same (Some of) (Some other) e =
      let both : ◌≡◌ {A = Tag × Spot} (of.0, bare_spot of.1) (other.0, bare_spot other.1) = cc in
      let tag : of.0 ≡ other.0 = ap (λ (t : Tag × Spot). t.0) both in
      let spot : bare_spot of.1 ≡ bare_spot other.1 = ap (λ (t : Tag × Spot). t.1) both in
      subst (λ t. Alike bare_found (unspelled_by (Some of) p row f) (unspelled_by (Some (t, other.1)) p (bare row) g)) tag (unspelled_tag of.0 of.1 other.1 spot)
  unspelled_by_same (Some of) None e = absurd (cc)
  unspelled_by_same None (Some other) e = absurd (cc)

  -- `!!str` is refused alike
  pub unspelled_same : Alike bare_found (unspelled p row f) (unspelled p (bare row) g)
  unspelled_same = unspelled_by_same f.tag g.tag (ap (λ (x : Properties). x.tag) h)

  carried_tag : (of other : Option (Tag × Spot)) → bare_tag of ≡ bare_tag other
      → bare_tag (option_map (λ t. (t.0, Before (place_of p row t.1))) of) ≡ bare_tag (option_map (λ t. (t.0, Before (place_of p (bare row) t.1))) other)
  carried_tag None None e = refl
  carried_tag (Some of) (Some other) e =
      let both : ◌≡◌ {A = Tag × Spot} (of.0, bare_spot of.1) (other.0, bare_spot other.1) = cc in
      let tag : of.0 ≡ other.0 = ap (λ (t : Tag × Spot). t.0) both in
      let spot : bare_spot of.1 ≡ bare_spot other.1 = ap (λ (t : Tag × Spot). t.1) both in
      let place = spot_same p row of.1 other.1 spot in
      λ i. Some (tag i, Before (place i))
  carried_tag (Some of) None e = absurd (cc)
  carried_tag None (Some other) e = absurd (cc)

  -- properties of a row, for the lines behind it
  pub carried_same : bare_found (carried p row f) ≡ bare_found (carried p (bare row) g)
  carried_same =
      let name : f.name ≡ g.name = ap (λ (x : Properties). x.name) h in
      let tag = carried_tag f.tag g.tag (ap (λ (x : Properties). x.tag) h) in
      λ i. record { name = name i; tag = tag i }

marked_bare : (tag : Option (Tag × Spot)) (tree : Tree) → marked tag tree ≡ marked (bare_tag tag) tree
marked_bare None tree = refl
marked_bare (Some (tags.Str, spot)) tree = refl
marked_bare (Some (tags.Reset, spot)) tree = refl
marked_bare (Some (tags.Override, spot)) tree = refl

spelled_bare : (tag : Option (Tag × Spot)) → is_spelled tag ≡ is_spelled (bare_tag tag)
spelled_bare None = refl
spelled_bare (Some (tags.Str, spot)) = refl
spelled_bare (Some (tags.Reset, spot)) = refl
spelled_bare (Some (tags.Override, spot)) = refl

module _ (f g : Properties) (h : bare_found f ≡ bare_found g) where
  -- a node that is finished is the same with the same properties
  pub finished_same : (got : Tree × Progress) → finished f got ≡ finished g got
  finished_same (tree, p) =
      (λ i. (marked_bare f.tag tree i, named f.name p tree)) ∙ ap (λ (x : Properties). finished x (tree, p)) h ∙ sym (λ i. (marked_bare g.tag tree i, named g.name p tree))

  pub spelled_same : is_spelled f.tag ≡ is_spelled g.tag
  spelled_same = spelled_bare f.tag ∙ ap (λ (x : Properties). is_spelled x.tag) h ∙ sym (spelled_bare g.tag)
