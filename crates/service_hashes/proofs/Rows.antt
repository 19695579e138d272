-- Rows of secrets or configs that are used, under their keys.
use Rattle.std.proofs.Common.{◌≡◌, ◌∙◌, ◌≤◌, ℕ, List, Bor, length, map, subst, sym, take}
use Rattle.std.specs.List.{IsDistinct}
use Rattle.std.specs.Str.{bytes_eq}
use Rattle.std.proofs.lemmas.List.{take_all}
use Rattle.attribute_scalars.proofs.Walks.{map_seen}
use Rattle.attribute_types.specs.declared.rows.FileUse.{FileUse}
use Rattle.engine_types.specs.declared.declared.Kind.{Kind}
use Rattle.project_print.specs.declared.node.Node.{Node}
use Rattle.project_print.specs.declared.node.Node.TheVariants.{Text}
use Rattle.service_hashes.specs.Hashes.{digest_at, used_entry}
use Rattle.service_hashes.specs.declared.digest.FileDigest.{FileDigest}

-- the key of a row
abbrev pub key_of : Bor FileUse → List ℕ
key_of row = row.now.source

-- what is shown under it
abbrev pub shown_of : List FileDigest → Kind → Bor FileUse → Node
shown_of digests kind row = Text (digest_at digests kind row.now.source)

module _ (rows : List (Bor FileUse)) where
  pub keys_differ : IsDistinct bytes_eq (map (λ (used : FileUse). used.source) (map (λ (row : Bor FileUse). row.now) rows)) → IsDistinct bytes_eq (map key_of rows)
  keys_differ d = subst (λ (keys : List (List ℕ)). IsDistinct bytes_eq keys) (map_seen (λ (used : FileUse). used.source) (λ (row : Bor FileUse). row.now) rows) d

  pub all_rows : (digests : List FileDigest) (kind : Kind) (i : ℕ) (entries : List (List ℕ × Node)) → length (map (λ (row : Bor FileUse). used_entry digests kind row.now) rows) ≤ i
      → entries ≡ take i (map (λ (row : Bor FileUse). used_entry digests kind row.now) rows) → entries ≡ map (used_entry digests kind) (map (λ (row : Bor FileUse). row.now) rows)
  all_rows digests kind i entries past so =
      so ∙ take_all i (map (λ (row : Bor FileUse). used_entry digests kind row.now) rows) past ∙ sym (map_seen (used_entry digests kind) (λ (row : Bor FileUse). row.now) rows)
