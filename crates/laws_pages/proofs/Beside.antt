-- What an attribute looks at beside it: where that is the same, the attribute is read as before.
use Rattle.std.proofs.Common.{◌≡◌, ◌∙◌, ℕ, Bool, true, false, cond, List, [], ◌∷◌, Some, None, Ok, codes, refl, sym, ap}
use Rattle.std.specs.Prelude.{◌&&◌, ◌||◌, Option, find, not, nat_le}
use Rattle.std.specs.List.{list_all, list_any}
use Rattle.std.specs.Option.{option_map, option_or}
use Rattle.std.specs.Str.{bytes_eq}
use Rattle.std.proofs.lemmas.Bool.{and_parts}
use Rattle.std.proofs.lemmas.Slice.Eq.{bytes_eq-Decides}
use Rattle.tree_base.specs.Answers.{◌>>=◌}
use Rattle.tree_base.specs.declared.Tree.{Tree, out-Tree}
use Rattle.tree_base.specs.declared.Tree.TheOpen.{Tree-F}
use Rattle.attribute_types.specs.Tables.{Lines, form_of, host_lines, joining_lines, line_of, process_lines, resource_lines, running_lines}
use Rattle.attribute_types.specs.declared.attribute.Value.{Value}
use Rattle.attribute_types.specs.declared.form.Form.{Form}
use Rattle.attribute_types.specs.declared.form.Plain.{Plain}
use Rattle.attribute_types.specs.declared.form.WordSet.TheVariants as words
use Rattle.attribute_scalars.specs.Scalars.{accepted, bool_of, has_no_colon, if_passes, is_word_of, num_of, text_of, written}
use Rattle.attribute_scalars.specs.Walks.{Entries, Read, is_in}
use Rattle.attribute_values.specs.Fields.{field_by, field_of, named, unless_null}
use Rattle.attribute_values.specs.Forms.{external_among, has_networks, if_right, is_bind, is_of_own, plain_value, replicas_among, same_count}
use Rattle.attribute_rows.specs.Attributes.{attribute_by, attribute_under}

-- what a plain form looks at is the same beside both
abbrev pub Looks : Plain → Entries → Entries → Type 0
Looks Plain.Scale new old = replicas_among new ≡ replicas_among old
Looks Plain.NetworkMode new old = has_networks new ≡ has_networks old
Looks Plain.External new old = list_any is_of_own new ≡ list_any is_of_own old
Looks Plain.Source new old = is_bind new ≡ is_bind old
Looks plain new old = Unit {0}

module _ (new old : Entries) where
  external_again : list_any is_of_own new ≡ list_any is_of_own old → (given : Bool) → external_among new given ≡ external_among old given
  external_again same true = ap (λ b. if_right (not b) (Some (Value.Bool true))) same
  external_again same false = refl

  -- a plain form gives the same beside both
  pub plain_again : (tree : Tree) (v : Tree-F Tree) (plain : Plain) → Looks plain new old → plain_value plain new tree v ≡ plain_value plain old tree v
  plain_again tree v Plain.Scale same = (λ i. written num_of v >>= λ count. if_right (nat_le count 100 && same_count count (same i)) (Some (Value.Num count)))
  plain_again tree v Plain.NetworkMode same = (λ i. accepted (if_passes (is_word_of words.NetworkModes)) v >>= λ mode. if_right (not (same i)) (Some (Value.Text mode)))
  plain_again tree v Plain.External same = (λ i. written bool_of v >>= λ given. external_again same given i)
  plain_again tree v Plain.Source same = (λ i. text_of v >>= λ text. if_right (not (same i) || has_no_colon text) (Some (Value.Text text)))
  plain_again tree v plain same = refl

  unless_again : (wanted : Bool) (tree : Tree) (v : Tree-F Tree) (plain : Plain) → Looks plain new old → unless_null wanted (plain_value plain new tree) v ≡ unless_null wanted (plain_value plain old tree) v
  unless_again wanted tree v plain same = (λ i. unless_null wanted (λ u. plain_again tree u plain same i) v)

  -- and so does a line of a table
  pub field_again : (lines : Lines Plain) (wanted : List (List ℕ)) (name : List ℕ) (tree : Tree) → ((plain : Plain) → Looks plain new old) → field_of lines wanted new name tree ≡ field_of lines wanted old name tree
  field_again lines wanted name tree same = at (line_of lines name)
    where
      at : (o : Option Plain) → field_by o (is_in wanted name) new name tree ≡ field_by o (is_in wanted name) old name tree
      at None = refl
      at (Some plain) = ap (λ (r : Read (Option Value)). r >>= λ value. Ok (named name value)) (unless_again (is_in wanted name) tree (out-Tree tree) plain (same plain))

-- all that any form looks at is the same
pub looks_all : (new old : Entries) → replicas_among new ≡ replicas_among old → has_networks new ≡ has_networks old → list_any is_of_own new ≡ list_any is_of_own old → is_bind new ≡ is_bind old → (plain : Plain) → Looks plain new old
looks_all new old replicas networks own bind Plain.Scale = replicas
looks_all new old replicas networks own bind Plain.NetworkMode = networks
looks_all new old replicas networks own bind Plain.External = own
looks_all new old replicas networks own bind Plain.Source = bind
looks_all new old replicas networks own bind plain = tt

-- a form that a service's attribute of a name may have: only one attribute looks at networks,
-- and none is external or a source
abbrev may_stand : List ℕ → Plain → Bool
may_stand name Plain.External = false
may_stand name Plain.Source = false
may_stand name Plain.NetworkMode = bytes_eq name (codes "network_mode")
may_stand name plain = true

abbrev line_fine : List ℕ × Form → Bool
line_fine (name, Form.Plain plain) = may_stand name plain
line_fine (name, form) = true

process_fine : list_all line_fine process_lines ≡ true
unfolding process_lines
process_fine = refl

host_fine : list_all line_fine host_lines ≡ true
unfolding host_lines
host_fine = refl

resource_fine : list_all line_fine resource_lines ≡ true
unfolding resource_lines
resource_fine = refl

joining_fine : list_all line_fine joining_lines ≡ true
unfolding joining_lines
joining_fine = refl

running_fine : list_all line_fine running_lines ≡ true
unfolding running_lines
running_fine = refl

found_fine : (lines : Lines Form) (name : List ℕ) (form : Form) → list_all line_fine lines ≡ true → line_of lines name ≡ Some form → line_fine (name, form) ≡ true
found_fine [] name form fine h = absurd (cc h)
found_fine (l ∷ lines) name form fine h =
    let both = and_parts (line_fine l) (list_all line_fine lines) fine in
    at (bytes_eq l.0 name) refl h both.0 (found_fine lines name form both.1)
  where
    at : (b : Bool) → bytes_eq l.0 name ≡ b → option_map (λ line. line.1) (cond b (Some l) (find (λ line. bytes_eq line.0 name) lines)) ≡ Some form → line_fine l ≡ true
        → (line_of lines name ≡ Some form → line_fine (name, form) ≡ true) → line_fine (name, form) ≡ true
    at true e h is so =
        let same : l.1 ≡ form = cc h in
        let named_so : l.0 ≡ name = (bytes_eq-Decides l.0 name).0 e in
        (λ i. line_fine (sym named_so i, sym same i)) ∙ is
    at false e h is so = so h

form_fine : (name : List ℕ) (form : Form) → form_of name ≡ Some form → line_fine (name, form) ≡ true
form_fine name form h = first (line_of process_lines name) refl h
  where
    fifth : (o : Option Form) → line_of running_lines name ≡ o → o ≡ Some form → line_fine (name, form) ≡ true
    fifth o e h = found_fine running_lines name form running_fine (e ∙ h)

    fourth : (o : Option Form) → line_of joining_lines name ≡ o → option_or o (line_of running_lines name) ≡ Some form → line_fine (name, form) ≡ true
    fourth (Some f) e h = found_fine joining_lines name form joining_fine (e ∙ h)
    fourth None e h = fifth (line_of running_lines name) refl h

    third : (o : Option Form) → line_of resource_lines name ≡ o → option_or o (option_or (line_of joining_lines name) (line_of running_lines name)) ≡ Some form → line_fine (name, form) ≡ true
    third (Some f) e h = found_fine resource_lines name form resource_fine (e ∙ h)
    third None e h = fourth (line_of joining_lines name) refl h

    second : (o : Option Form) → line_of host_lines name ≡ o → option_or o (option_or (line_of resource_lines name) (option_or (line_of joining_lines name) (line_of running_lines name))) ≡ Some form → line_fine (name, form) ≡ true
    second (Some f) e h = found_fine host_lines name form host_fine (e ∙ h)
    second None e h = third (line_of resource_lines name) refl h

    first : (o : Option Form) → line_of process_lines name ≡ o
        → option_or o (option_or (line_of host_lines name) (option_or (line_of resource_lines name) (option_or (line_of joining_lines name) (line_of running_lines name)))) ≡ Some form → line_fine (name, form) ≡ true
    first (Some f) e h = found_fine process_lines name form process_fine (e ∙ h)
    first None e h = second (line_of host_lines name) refl h

-- an attribute of a service is read as before beside others that say the same of what it looks at
module _ (new old : Entries) (name : List ℕ) (replicas : replicas_among new ≡ replicas_among old) (networks : bytes_eq name (codes "network_mode") ≡ true → has_networks new ≡ has_networks old) where
  looks_fine : (plain : Plain) → may_stand name plain ≡ true → Looks plain new old
  looks_fine Plain.Scale fine = replicas
  looks_fine Plain.NetworkMode fine = networks fine
  looks_fine Plain.External fine = absurd (cc fine)
  looks_fine Plain.Source fine = absurd (cc fine)
  looks_fine plain fine = tt

  pub attribute_again : (wanted : List (List ℕ)) (tree : Tree) → attribute_under wanted new name tree ≡ attribute_under wanted old name tree
  attribute_again wanted tree = at (form_of name) refl
    where
      at : (o : Option Form) → form_of name ≡ o → attribute_by o (is_in wanted name) new name tree ≡ attribute_by o (is_in wanted name) old name tree
      at None e = refl
      at (Some (Form.Plain plain)) e =
          ap (λ (r : Read (Option Value)). r >>= λ value. Ok (named name value))
          (unless_again new old (is_in wanted name) tree (out-Tree tree) plain (looks_fine plain (form_fine name (Form.Plain plain) e)))
      at (Some (Form.Own row)) e = refl
      at (Some Form.Consumed) e = refl
