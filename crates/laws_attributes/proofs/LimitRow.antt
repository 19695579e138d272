-- Limits, and networks that are joined, are read again.
use Rattle.std.proofs.Common.{◌≡◌, ◌∙◌, ℕ, ℤ, List, [], ◌∷◌, map, codes, Some, None, Ok, inl, inr, unwrap_or, refl, ap, sym, subst}
use Rattle.std.specs.Prelude.{Option}
use Rattle.std.specs.Fmt.{signed_decimal}
use Rattle.tree_base.specs.Answers.{◌>>=◌}
use Rattle.tree_base.specs.declared.tree.Tree.{Tree, out-Tree}
use Rattle.tree_base.specs.declared.tree.Tree.TheOpen.{Tree-F}
use Rattle.tree_base.specs.declared.tree.Tree.TheVariants.{Map, outs-Map, outs-Null}
use Rattle.attribute_types.specs.Lookups.{as_int, as_texts, texts_at}
use Rattle.attribute_types.specs.Tables.{line_of, network_use_lines, ulimit_lines}
use Rattle.attribute_types.specs.declared.attribute.Value.{Value}
use Rattle.attribute_types.specs.declared.form.Plain.{Plain}
use Rattle.attribute_types.specs.declared.form.Row.{Row}
use Rattle.attribute_types.specs.declared.rows.NetworkUse.{NetworkUse}
use Rattle.attribute_types.specs.declared.rows.Ulimit.{Ulimit}
use Rattle.attribute_scalars.specs.Lists.{if_any, texts_of}
use Rattle.attribute_scalars.specs.Scalars.{int_of, written}
use Rattle.attribute_scalars.specs.Walks.{Entries, Read}
use Rattle.attribute_values.specs.Fields.{fields_of}
use Rattle.attribute_values.specs.Forms.{plain_value}
use Rattle.attribute_rows.specs.Rows.{in_mapping, keyed, network_use_of, row_value, ulimit_from, ulimit_of, ulimit_with}
use Rattle.laws_attributes.proofs.Gifts.{shown_by}
use Rattle.laws_attributes.proofs.PlainForms.{Back, any_back, any_given, bound_given, kept_given, map_there, scalar_there, written_given, written_scalar}
use Rattle.laws_attributes.proofs.RowFields.{LeafAt, made_at, one_row, rows_back}
use Rattle.laws_attributes.proofs.RowForms.{RowAgain, found_at, int_made, list_made, makes_any, present_found}
use Rattle.laws_attributes.proofs.RowWalks.{IsRead, Single, keyed_again, mapping_read}
use Rattle.laws_attributes.proofs.ScalarForms.{int_back}
use Rattle.laws_attributes.proofs.Shown.{aliases_tree, leaf, network_tree, present, rows_tree, ulimit_rows, ulimit_tree}

hard_line : line_of ulimit_lines (codes "hard") ≡ Some Plain.Int
unfolding ulimit_lines
hard_line = refl

soft_line : line_of ulimit_lines (codes "soft") ≡ Some Plain.Int
unfolding ulimit_lines
soft_line = refl

-- a number that is written
abbrev IsInt : ℤ → Type 0
IsInt n = int_of (signed_decimal n) ≡ Some n

int_shown : (n : ℤ) → IsInt n → Back Plain.Int (Value.Int n)
int_shown n is = (scalar_there _, λ beside. (λ i. written_scalar int_of (signed_decimal n) n is i >>= λ x. some_int x))
  where
    some_int : ℤ → Read (Option Value)
    some_int x = Ok (Some (Value.Int x))

abbrev limit_key : Ulimit → List ℕ
limit_key limit = limit.key

abbrev limit_shown : Ulimit → Tree
limit_shown limit = rows_tree (ulimit_rows limit)

-- a limit of two such numbers is read again
limit_read : (limit : Ulimit) → IsInt limit.hard → IsInt limit.soft → IsRead limit_key limit_shown ulimit_of limit
limit_read limit hard soft =
    let l = present (ulimit_rows limit) in
    let read : fields_of ulimit_lines (codes "hard" ∷ codes "soft" ∷ []) (shown_by leaf l) ≡ Ok l =
    rows_back ulimit_lines (codes "hard" ∷ codes "soft" ∷ []) (ulimit_rows limit) refl (refl, (refl, tt)) (
      one_row (LeafAt ulimit_lines) (codes "hard") (Value.Int limit.hard) (Plain.Int, hard_line, int_shown limit.hard hard, refl),
      (one_row (LeafAt ulimit_lines) (codes "soft") (Value.Int limit.soft) (Plain.Int, soft_line, int_shown limit.soft soft, refl), tt),
    ) in
    ap (ulimit_of limit.key) (outs-Map (shown_by leaf l))
    ∙ ap (λ r. r >>= λ attributes. some_limits (ulimit_from limit.key attributes)) read
    ∙ (λ i. some_limits (ulimit_with limit.key
    (present_found as_int Value.Int int_made (ulimit_rows limit) (codes "soft") (Some limit.soft) refl i)
    (present_found as_int Value.Int int_made (ulimit_rows limit) (codes "hard") (Some limit.hard) refl i)))
  where
    some_limits : List Ulimit → Read (List Ulimit)
    some_limits l = Ok l

limit_from : (key : List ℕ) (soft hard : Option ℤ) → ((n : ℤ) → soft ≡ Some n → IsInt n) → ((n : ℤ) → hard ≡ Some n → IsInt n) → (xs : List Ulimit) → ulimit_with key soft hard ≡ xs
    → Single limit_key limit_shown ulimit_of key xs
limit_from key (Some soft) (Some hard) is_soft is_hard xs e =
    let limit : Ulimit = record { key = key; soft = soft; hard = hard } in inr (limit, sym e, refl, limit_read limit (is_hard hard refl) (is_soft soft refl))
limit_from key None hard is_soft is_hard xs e = inl (sym e)
limit_from key (Some soft) None is_soft is_hard xs e = inl (sym e)

int_makes : (es : Entries) (tree : Tree) (v : Value) → plain_value Plain.Int es tree (out-Tree tree) ≡ Ok (Some v) → (n : ℤ) × (Value.Int n ≡ v) × IsInt n
int_makes es tree v e =
    let k = kept_given Value.Int (written int_of (out-Tree tree)) v e in
    let w = written_given int_of (out-Tree tree) k.0 k.1 in
    (k.0, k.2, int_back w.0 k.0 w.1)

of_mapping : (key : List ℕ) (es : Entries) (xs : List Ulimit) → ulimit_of key (Tree-F.Map es) ≡ Ok xs → Single limit_key limit_shown ulimit_of key xs
of_mapping key es xs e =
    let names = codes "hard" ∷ codes "soft" ∷ [] in
    let b = bound_given (fields_of ulimit_lines names es) (λ attributes. some_limits (ulimit_from key attributes)) xs e in
    let h = made_at ulimit_lines names es b.0 b.1 Value.Int IsInt (codes "hard") Plain.Int hard_line (int_makes es) in
    let s = made_at ulimit_lines names es b.0 b.1 Value.Int IsInt (codes "soft") Plain.Int soft_line (int_makes es) in
    let whole : ulimit_from key b.0 ≡ xs = cc b.2 in
    let same : ulimit_with key s.0 h.0 ≡ ulimit_from key b.0 =
    (λ i. ulimit_with key (sym (found_at as_int Value.Int int_made b.0 (codes "soft") s.0 s.1) i) (sym (found_at as_int Value.Int int_made b.0 (codes "hard") h.0 h.1) i)) in
    limit_from key s.0 h.0 s.2 h.2 xs (same ∙ whole)
  where
    some_limits : List Ulimit → Read (List Ulimit)
    some_limits l = Ok l

-- one number is both
of_number : (key : List ℕ) (s : Tree-F Tree) (xs : List Ulimit) → (written int_of s >>= λ number. Ok (record { key = key; soft = number; hard = number } ∷ [])) ≡ Ok xs
    → Single limit_key limit_shown ulimit_of key xs
of_number key s xs e =
    let b = bound_given (written int_of s) (λ number. some_limits (record { key = key; soft = number; hard = number } ∷ [])) xs e in
    let w = written_given int_of s b.0 b.1 in
    let is = int_back w.0 b.0 w.1 in
    let limit : Ulimit = record { key = key; soft = b.0; hard = b.0 } in
    let whole : limit ∷ [] ≡ xs = cc b.2 in
    inr (limit, sym whole, refl, limit_read limit is is)
  where
    some_limits : List Ulimit → Read (List Ulimit)
    some_limits l = Ok l

limit_single : (key : List ℕ) (s : Tree-F Tree) (xs : List Ulimit) → ulimit_of key s ≡ Ok xs → Single limit_key limit_shown ulimit_of key xs
limit_single key Tree-F.Null xs e = let none : [] ≡ xs = cc e in inl (sym none)
limit_single key (Tree-F.Map es) xs e = of_mapping key es xs e
limit_single key (Tree-F.Scalar text) xs e = of_number key (Tree-F.Scalar text) xs e
limit_single key (Tree-F.Seq items) xs e = of_number key (Tree-F.Seq items) xs e
limit_single key Tree-F.Reset xs e = of_number key Tree-F.Reset xs e
limit_single key (Tree-F.Override inner) xs e = of_number key (Tree-F.Override inner) xs e

pub limits_again : (s : Tree-F Tree) (v : Value) → row_value Row.Ulimits s ≡ Ok (Some v) → RowAgain Row.Ulimits v
limits_again s v e =
    let k = any_given Value.Ulimits (keyed ulimit_of s) v e in
    subst (RowAgain Row.Ulimits) k.3
    (map_there _, any_back Value.Ulimits (keyed ulimit_of (out-Tree (Map (map ulimit_tree k.0)))) k.0 (keyed_again limit_key limit_shown ulimit_of limit_single s k.0 k.1) k.2)

-- networks that are joined
aliases_line : line_of network_use_lines (codes "aliases") ≡ Some Plain.List
unfolding network_use_lines
aliases_line = refl

abbrev joined_key : NetworkUse → List ℕ
joined_key joined = joined.key

abbrev joined_shown : NetworkUse → Tree
joined_shown joined = aliases_tree joined.aliases

-- further names that are read
abbrev AreNames : List (List ℕ) → Type 0
AreNames names = Back Plain.List (Value.List names) × (if_any names ≡ Some names)

joined_read : (key : List ℕ) (names : Option (List (List ℕ))) → ((l : List (List ℕ)) → names ≡ Some l → AreNames l)
    → IsRead joined_key joined_shown network_use_of (record { key = key; aliases = unwrap_or names [] })
joined_read key None are = ap (network_use_of key) outs-Null
joined_read key (Some []) are = absurd (let bad : None ≡ Some [] = (are [] refl).1 in cc bad)
joined_read key (Some (name ∷ names)) are =
    let l = present ((codes "aliases", Some (Value.List (name ∷ names))) ∷ []) in
    let read : fields_of network_use_lines [] (shown_by leaf l) ≡ Ok l =
    rows_back network_use_lines [] ((codes "aliases", Some (Value.List (name ∷ names))) ∷ []) refl tt
    (one_row (LeafAt network_use_lines) (codes "aliases") (Value.List (name ∷ names)) (Plain.List, aliases_line, (are (name ∷ names) refl).0, refl), tt) in
    ap (network_use_of key) (outs-Map (shown_by leaf l))
    ∙ ap (λ r. r >>= λ attributes. one_use (unwrap_or (texts_at attributes (codes "aliases")) [])) read
    ∙ (λ i. one_use (unwrap_or (present_found as_texts Value.List list_made ((codes "aliases", Some (Value.List (name ∷ names))) ∷ []) (codes "aliases") (Some (name ∷ names)) refl i) []))
  where
    one_use : List (List ℕ) → Read (List NetworkUse)
    one_use l = Ok (record { key = key; aliases = l } ∷ [])

of_names : (key : List ℕ) (s : Tree-F Tree) (xs : List NetworkUse)
    → (in_mapping (fields_of network_use_lines []) s >>= λ attributes. Ok (record { key = key; aliases = unwrap_or (texts_at attributes (codes "aliases")) [] } ∷ [])) ≡ Ok xs
    → Single joined_key joined_shown network_use_of key xs
of_names key s xs e =
    let b = bound_given (in_mapping (fields_of network_use_lines []) s) (λ attributes. one_use (unwrap_or (texts_at attributes (codes "aliases")) [])) xs e in
    let m = mapping_read (fields_of network_use_lines []) s b.0 b.1 in
    let a = made_at network_use_lines [] m.0 b.0 m.1 Value.List AreNames (codes "aliases") Plain.List aliases_line (makes_any Plain.List m.0 Value.List (λ tree. texts_of (out-Tree tree)) refl (λ tree. refl)) in
    let joined : NetworkUse = record { key = key; aliases = unwrap_or a.0 [] } in
    let whole : record { key = key; aliases = unwrap_or (texts_at b.0 (codes "aliases")) [] } ∷ [] ≡ xs = cc b.2 in
    let same : joined ∷ [] ≡ xs = (λ i. record { key = key; aliases = unwrap_or (sym (found_at as_texts Value.List list_made b.0 (codes "aliases") a.0 a.1) i) [] } ∷ []) ∙ whole in
    inr (joined, sym same, refl, joined_read key a.0 a.2)
  where
    one_use : List (List ℕ) → Read (List NetworkUse)
    one_use l = Ok (record { key = key; aliases = l } ∷ [])

joined_single : (key : List ℕ) (s : Tree-F Tree) (xs : List NetworkUse) → network_use_of key s ≡ Ok xs → Single joined_key joined_shown network_use_of key xs
joined_single key Tree-F.Null xs e =
    let joined : NetworkUse = record { key = key; aliases = [] } in
    let whole : joined ∷ [] ≡ xs = cc e in inr (joined, sym whole, refl, joined_read key None (λ l some. absurd (cc some)))
joined_single key (Tree-F.Map es) xs e = of_names key (Tree-F.Map es) xs e
joined_single key (Tree-F.Scalar text) xs e = of_names key (Tree-F.Scalar text) xs e
joined_single key (Tree-F.Seq items) xs e = of_names key (Tree-F.Seq items) xs e
joined_single key Tree-F.Reset xs e = of_names key Tree-F.Reset xs e
joined_single key (Tree-F.Override inner) xs e = of_names key (Tree-F.Override inner) xs e

pub networks_again : (s : Tree-F Tree) (v : Value) → row_value Row.Networks s ≡ Ok (Some v) → RowAgain Row.Networks v
networks_again s v e =
    let k = any_given Value.Networks (keyed network_use_of s) v e in
    subst (RowAgain Row.Networks) k.3
    (map_there _, any_back Value.Networks (keyed network_use_of (out-Tree (Map (map network_tree k.0)))) k.0 (keyed_again joined_key joined_shown network_use_of joined_single s k.0 k.1) k.2)
