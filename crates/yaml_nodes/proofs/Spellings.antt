-- Scalars by the text that their characters spell.
use Rattle.std.proofs.Common.{◌≡◌, ◌∙◌, ℕ, List, [], true, false, cond, Option, Some, None, refl, ap}
use Rattle.std.specs.Str.{encode_utf8_all}
use Rattle.tree_base.specs.declared.tree.Tree.TheVariants.{Null, Scalar}
use Rattle.yaml_lines.specs.declared.refusal.YamlFault.TheVariants.{BadScalar}
use Rattle.yaml_lines.specs.declared.row.Row.{Row}
use Rattle.yaml_lines.specs.Spelling.{spelled}
use Rattle.yaml_nodes.specs.declared.progress.Progress.{Progress}
use Rattle.yaml_nodes.specs.declared.properties.Properties.{Properties}
use Rattle.yaml_nodes.specs.Progress.{bad}
use Rattle.yaml_nodes.specs.Scalars.{is_plain_null, scalar, quoted_scalar, plain_scalar}

module _ (found : Properties) (p : Progress) (row : Row) (at : ℕ) where
  -- what is no scalar in quotes is refused
  pub quoted_none : (read : Option (List ℕ × ℕ)) → spelled read ≡ None → quoted_scalar found p row at read ≡ bad BadScalar p row at
  quoted_none None h = refl
  quoted_none (Some (cs, n)) h = absurd (cc)

  -- a scalar in quotes is its text
  pub quoted_some : (read : Option (List ℕ × ℕ)) (text : List ℕ) (n : ℕ) → spelled read ≡ Some (text, n) → quoted_scalar found p row at read ≡ scalar found p row at (Scalar text) text n
  quoted_some None text n h = absurd (cc)
  quoted_some (Some (cs, m)) text n h =
      let same : (encode_utf8_all cs, m) ≡ (text, n) = cc in
      ap (λ (q : List ℕ × ℕ). scalar found p row at (Scalar q.0) q.0 q.1) same

  -- what is no plain scalar is refused
  pub plain_none : (read : Option (List ℕ × ℕ)) → spelled read ≡ None → plain_scalar found p row at read ≡ bad BadScalar p row at
  plain_none None h = refl
  plain_none (Some (cs, n)) h = absurd (cc)

  -- a plain scalar is its text, or null
  plain_with : (read : Option (List ℕ × ℕ)) (text : List ℕ) (n : ℕ) → spelled read ≡ Some (text, n)
      → plain_scalar found p row at read ≡ scalar found p row at (cond (is_plain_null found text) Null (Scalar text)) (cond (is_plain_null found text) [] text) n
  plain_with None text n h = absurd (cc)
  plain_with (Some (cs, m)) text n h =
      let same : (encode_utf8_all cs, m) ≡ (text, n) = cc in
      ap (λ (q : List ℕ × ℕ). scalar found p row at (cond (is_plain_null found q.0) Null (Scalar q.0)) (cond (is_plain_null found q.0) [] q.0) q.1) same

  -- a plain scalar that is no word for null is its text
  pub plain_some : (read : Option (List ℕ × ℕ)) (text : List ℕ) (n : ℕ) → spelled read ≡ Some (text, n) → is_plain_null found text ≡ false
      → plain_scalar found p row at read ≡ scalar found p row at (Scalar text) text n
  plain_some read text n h other = plain_with read text n h ∙ ap (λ b. scalar found p row at (cond b Null (Scalar text)) (cond b [] text) n) other

  -- a plain word for null is null
  pub plain_null : (read : Option (List ℕ × ℕ)) (text : List ℕ) (n : ℕ) → spelled read ≡ Some (text, n) → is_plain_null found text ≡ true
      → plain_scalar found p row at read ≡ scalar found p row at Null [] n
  plain_null read text n h null = plain_with read text n h ∙ ap (λ b. scalar found p row at (cond b Null (Scalar text)) (cond b [] text) n) null
