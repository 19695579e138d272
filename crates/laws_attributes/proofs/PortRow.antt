-- Ports are read again.
use Rattle.std.proofs.Common.{◌≡◌, ◌∙◌, ℕ, true, false, cond, List, [], ◌∷◌, map, codes, Some, None, Ok, is_some, unwrap_or, refl, ap, sym, subst}
use Rattle.std.specs.Prelude.{Option}
use Rattle.std.specs.Option.{option_map}
use Rattle.short_forms.specs.PortLaws.{published_in, target_in}
use Rattle.short_forms.specs.declared.ports.Port.{Port}
use Rattle.tree_base.specs.Answers.{◌>>=◌}
use Rattle.tree_base.specs.declared.tree.Tree.{Tree, out-Tree}
use Rattle.tree_base.specs.declared.tree.Tree.TheOpen.{Tree-F}
use Rattle.tree_base.specs.declared.tree.Tree.TheVariants.{Seq}
use Rattle.attribute_types.specs.Lookups.{as_port, as_text}
use Rattle.attribute_types.specs.Tables.{line_of, port_lines}
use Rattle.attribute_types.specs.Values.{value_at}
use Rattle.attribute_types.specs.declared.attribute.Attribute.{Attribute}
use Rattle.attribute_types.specs.declared.attribute.Value.{Value}
use Rattle.attribute_types.specs.declared.form.Plain.{Plain}
use Rattle.attribute_types.specs.declared.form.Row.{Row}
use Rattle.attribute_types.specs.declared.form.WordSet.{WordSet}
use Rattle.attribute_types.specs.declared.form.WordSet.TheVariants as words
use Rattle.attribute_scalars.specs.Scalars.{accepted, if_passes, is_word_of, text_of}
use Rattle.attribute_scalars.specs.Walks.{Read}
use Rattle.attribute_values.specs.Fields.{fields_of}
use Rattle.attribute_rows.specs.Rows.{in_mapping, listed, port_from, port_of, row_value}
use Rattle.attribute_paths.proofs.Trees.{OfAll}
use Rattle.laws_attributes.proofs.Full.{fields_there}
use Rattle.laws_attributes.proofs.Gifts.{shown_by}
use Rattle.laws_attributes.proofs.PlainForms.{Back, accepted_scalar, any_back, any_given, bound_given, kept_back, scalar_there, seq_there}
use Rattle.laws_attributes.proofs.RowFields.{LeafAt, made_at, mapped_row, one_row, rows_back}
use Rattle.laws_attributes.proofs.RowForms.{RowAgain, found_at, makes_kept, port_made, present_found, text_made}
use Rattle.laws_attributes.proofs.RowWalks.{IsListed, listed_again, mapping_again, mapping_read}
use Rattle.laws_attributes.proofs.Shown.{leaf, port_rows, present, rows_tree}
use Rattle.laws_attributes.proofs.Wanting.{wanted_there}

address_line : line_of port_lines (codes "host_ip") ≡ Some Plain.Text
unfolding port_lines
address_line = refl

protocol_line : line_of port_lines (codes "protocol") ≡ Some (Plain.Word words.Protocols)
unfolding port_lines
protocol_line = refl

published_line : line_of port_lines (codes "published") ≡ Some Plain.Published
unfolding port_lines
published_line = refl

target_line : line_of port_lines (codes "target") ≡ Some Plain.PortTarget
unfolding port_lines
target_line = refl

-- a word that an attribute may have
pub word_shown : (set : WordSet) (text : List ℕ) → is_word_of set text ≡ true → Back (Plain.Word set) (Value.Text text)
word_shown set text is = (
  scalar_there text,
  λ beside.
      kept_back Value.Text (accepted (if_passes (is_word_of set)) _) text (accepted_scalar (if_passes (is_word_of set)) text text (ap (λ b. cond b (Some text) None) is)),
)

abbrev wanted : List (List ℕ)
wanted = codes "target" ∷ []

-- a port of fields that are each read again
module _ (address : Option (List ℕ)) (address_back : (x : List ℕ) → address ≡ Some x → Back Plain.Text (Value.Text x))
    (protocol : List ℕ) (protocol_back : Back (Plain.Word words.Protocols) (Value.Text protocol))
    (published : Option (List ℕ)) (published_back : (x : List ℕ) → published ≡ Some x → Back Plain.Published (Value.Text x))
    (target : ℕ) (target_back : Back Plain.PortTarget (Value.Port target)) where
  abbrev made : Port
  made = record { host_ip = address; published = published; target = target; protocol = protocol }

  abbrev again : List Attribute
  again = present (port_rows made)

  read : fields_of port_lines wanted (shown_by leaf again) ≡ Ok again
  read =
      rows_back port_lines wanted (port_rows made) refl (refl, tt) (
        mapped_row (LeafAt port_lines) (codes "host_ip") Value.Text address (λ x e. (Plain.Text, address_line, address_back x e, refl)),
        (
          one_row (LeafAt port_lines) (codes "protocol") (Value.Text protocol) (Plain.Word words.Protocols, protocol_line, protocol_back, refl),
          (
            mapped_row (LeafAt port_lines) (codes "published") Value.Text published (λ x e. (Plain.Published, published_line, published_back x e, refl)),
            (one_row (LeafAt port_lines) (codes "target") (Value.Port target) (Plain.PortTarget, target_line, target_back, refl), tt),
          ),
        ),
      )

  from_again : port_from again ≡ made
  from_again = (λ i. record {
    host_ip = present_found as_text Value.Text text_made (port_rows made) (codes "host_ip") address refl i;
    published = present_found as_text Value.Text text_made (port_rows made) (codes "published") published refl i;
    target = unwrap_or (present_found as_port Value.Port port_made (port_rows made) (codes "target") (Some target) refl i) 0;
    protocol = unwrap_or (present_found as_text Value.Text text_made (port_rows made) (codes "protocol") (Some protocol) refl i) (codes "tcp");
  })

  pub made_listed : IsListed (λ port. rows_tree (port_rows port)) port_of (λ port. Unit {0}) made
  made_listed =
      mapping_again port_of (shown_by leaf again) made
      (ap (λ r. r >>= λ attributes. ok_port (port_from attributes)) read ∙ ap ok_port from_again)
    where
      ok_port : Port → Read Port
      ok_port port = Ok port

or_tcp : (o : Option (List ℕ)) → ((x : List ℕ) → o ≡ Some x → Back (Plain.Word words.Protocols) (Value.Text x)) → Back (Plain.Word words.Protocols) (Value.Text (unwrap_or o (codes "tcp")))
or_tcp None h = word_shown words.Protocols (codes "tcp") refl
or_tcp (Some x) h = h x refl

port_listed : (s : Tree-F Tree) (port : Port) → in_mapping port_of s ≡ Ok port → Unit {0} → IsListed (λ port. rows_tree (port_rows port)) port_of (λ port. Unit {0}) port
port_listed s port e unit =
    let m = mapping_read port_of s port e in
    let b = bound_given (fields_of port_lines wanted m.0) (λ attributes. ok_port (port_from attributes)) port m.1 in
    let a = made_at port_lines wanted m.0 b.0 b.1 Value.Text (λ x. Back Plain.Text (Value.Text x)) (codes "host_ip") Plain.Text address_line
    (makes_kept Plain.Text m.0 Value.Text (λ tree. text_of (out-Tree tree)) refl (λ tree. refl)) in
    let c = made_at port_lines wanted m.0 b.0 b.1 Value.Text (λ x. Back (Plain.Word words.Protocols) (Value.Text x)) (codes "protocol") (Plain.Word words.Protocols) protocol_line
    (makes_kept (Plain.Word words.Protocols) m.0 Value.Text (λ tree. accepted (if_passes (is_word_of words.Protocols)) (out-Tree tree)) refl (λ tree. refl)) in
    let p = made_at port_lines wanted m.0 b.0 b.1 Value.Text (λ x. Back Plain.Published (Value.Text x)) (codes "published") Plain.Published published_line
    (makes_kept Plain.Published m.0 Value.Text (λ tree. accepted published_in (out-Tree tree)) refl (λ tree. refl)) in
    let t = made_at port_lines wanted m.0 b.0 b.1 Value.Port (λ x. Back Plain.PortTarget (Value.Port x)) (codes "target") Plain.PortTarget target_line
    (makes_kept Plain.PortTarget m.0 Value.Port (λ tree. accepted target_in (out-Tree tree)) refl (λ tree. refl)) in
    let there = (fields_there port_lines wanted m.0 b.0 b.1 (codes "target") Plain.PortTarget target_line refl refl (wanted_there wanted m.0).0).3 in
    let whole : port_from b.0 ≡ port = cc b.2 in
    by_target b.0 a.0 a.1 a.2 c.0 c.1 c.2 p.0 p.1 p.2 t.0 t.1 t.2 there port whole
  where
    ok_port : Port → Read Port
    ok_port port = Ok port

    by_target : (attributes : List Attribute) (a : Option (List ℕ)) → value_at attributes (codes "host_ip") ≡ option_map Value.Text a → ((x : List ℕ) → a ≡ Some x → Back Plain.Text (Value.Text x))
        → (c : Option (List ℕ)) → value_at attributes (codes "protocol") ≡ option_map Value.Text c → ((x : List ℕ) → c ≡ Some x → Back (Plain.Word words.Protocols) (Value.Text x))
        → (p : Option (List ℕ)) → value_at attributes (codes "published") ≡ option_map Value.Text p → ((x : List ℕ) → p ≡ Some x → Back Plain.Published (Value.Text x))
        → (t : Option ℕ) → value_at attributes (codes "target") ≡ option_map Value.Port t → ((x : ℕ) → t ≡ Some x → Back Plain.PortTarget (Value.Port x))
        → is_some (value_at attributes (codes "target")) ≡ true → (port : Port) → port_from attributes ≡ port → IsListed (λ port. rows_tree (port_rows port)) port_of (λ port. Unit {0}) port
    by_target attributes a a_is a_back c c_is c_back p p_is p_back None t_is t_back there port whole =
        let bad : false ≡ true = sym (ap is_some t_is) ∙ there in absurd (cc bad)
    by_target attributes a a_is a_back c c_is c_back p p_is p_back (Some t) t_is t_back there port whole =
        let same : made a a_back (unwrap_or c (codes "tcp")) (or_tcp c c_back) p p_back t (t_back t refl) ≡ port_from attributes = (λ i. record {
          host_ip = sym (found_at as_text Value.Text text_made attributes (codes "host_ip") a a_is) i;
          published = sym (found_at as_text Value.Text text_made attributes (codes "published") p p_is) i;
          target = unwrap_or (sym (found_at as_port Value.Port port_made attributes (codes "target") (Some t) t_is) i) 0;
          protocol = unwrap_or (sym (found_at as_text Value.Text text_made attributes (codes "protocol") c c_is) i) (codes "tcp");
        }) in
        subst (IsListed (λ port. rows_tree (port_rows port)) port_of (λ port. Unit {0})) (same ∙ whole)
        (made_listed a a_back (unwrap_or c (codes "tcp")) (or_tcp c c_back) p p_back t (t_back t refl))

pub ports_again : (s : Tree-F Tree) (v : Value) → row_value Row.Ports s ≡ Ok (Some v) → RowAgain Row.Ports v
ports_again s v e =
    let k = any_given Value.Ports (listed port_of s) v e in
    subst (RowAgain Row.Ports) k.3 (
      seq_there _,
      any_back Value.Ports (listed port_of (out-Tree (Seq (map (λ port. rows_tree (port_rows port)) k.0)))) k.0
          (listed_again (λ port. rows_tree (port_rows port)) port_of (λ port. Unit {0}) port_listed s k.0 k.1 (all_units k.0)) k.2,
    )
  where
    all_units : (l : List Port) → OfAll (λ (port : Port). Unit {0}) l
    all_units [] = tt
    all_units (x ∷ xs) = (tt, all_units xs)
