-- What the text under the second hash tells.
use Rattle.std.proofs.Common.{◌≡◌, ◌∙◌, ℕ, List, [], ◌∷◌, ◌++◌, Option, ap, codes, map, refl, rules, sym}
use Rattle.std.specs.List.{zip}
use Rattle.std.specs.Map.{keys_of, values_of}
use Rattle.std.specs.Prelude.{unwrap_or}
use Rattle.std.proofs.lemmas.List.{append_cancel_left, append_cancel_right}
use Rattle.attribute_types.specs.Lookups.{files_at}
use Rattle.attribute_types.specs.declared.rows.FileUse.{FileUse}
use Rattle.engine_types.specs.declared.declared.Kind.{Kind}
use Rattle.named_items.specs.Names.{by_name}
use Rattle.project_pages.specs.AttributePages.{service_json}
use Rattle.json.specs.Print.{quoted}
use Rattle.project_print.specs.Json.{json_of, member}
use Rattle.project_print.specs.Written.{listed_from}
use Rattle.project_print.specs.declared.compact_json.Dollars.{Dollars}
use Rattle.project_print.specs.declared.node.Node.{the_lemmas}
use Rattle.project_print.specs.declared.node.Node.TheVariants.{Text}
use Rattle.project_print.proofs.Commas.{map_json}
use Rattle.typed_project.specs.declared.service.Service.{Service}
use Rattle.service_hashes.specs.Hashes.{digest_at, hashed_text, used_entries, used_entry, used_node}
use Rattle.service_hashes.specs.Laws.{TextsTell, file_rows}
use Rattle.service_hashes.specs.declared.digest.FileDigest.{FileDigest}
use Rattle.service_hashes.proofs.Strings.{braces, braces_tell, row_text}
use Rattle.service_hashes.proofs.Texts.{text_is, whole}

-- the JSON of a text
text_json : (text : List ℕ) → json_of Dollars.Once (Text text) ≡ quoted text
text_json text = search (rules, the_lemmas)

module _ (digests : List FileDigest) (kind : Kind) where
  zipped : (rows : List FileUse) → map member (zip (keys_of (map (used_entry digests kind) rows)) (map (json_of Dollars.Once) (values_of (map (used_entry digests kind) rows))))
      ≡ map row_text (map (λ used. (used.source, digest_at digests kind used.source)) rows)
  zipped [] = refl
  zipped (used ∷ rows) = λ i. member (used.source, text_json (digest_at digests kind used.source) i) ∷ zipped rows i

  pub used_is : (uses : Option (List FileUse)) → braces (file_rows digests kind uses) ≡ json_of Dollars.Once (used_node digests kind uses)
  used_is uses =
      ap (λ (l : List (List ℕ)). codes "{" ++ (listed_from 0 l ++ codes "}")) (sym (zipped (by_name (λ used. used.source) (unwrap_or uses []))))
      ∙ map_json Dollars.Once (used_entries digests kind (unwrap_or uses []))

module _ (service : Service) (digests : List FileDigest) where
  abbrev config_rows : List (List ℕ × List ℕ)
  config_rows = file_rows digests Kind.Config (files_at service.attributes (codes "configs"))

  abbrev secret_rows : List (List ℕ × List ℕ)
  secret_rows = file_rows digests Kind.Secret (files_at service.attributes (codes "secrets"))

  rows_text : whole (braces config_rows) (braces secret_rows) (service_json service) ≡ hashed_text service digests
  rows_text =
      text_is service digests (braces config_rows) (braces secret_rows) (service_json service)
      (used_is digests Kind.Config (files_at service.attributes (codes "configs"))) (used_is digests Kind.Secret (files_at service.attributes (codes "secrets"))) refl

pub tells : TextsTell
tells service other digests others e =
    let text = rows_text service digests ∙ e ∙ sym (rows_text other others) in
    let configs = braces_tell (config_rows service digests) (config_rows other others) _ _ (append_cancel_left (codes "{\"configs\":") _ _ text) in
    let secrets = braces_tell (secret_rows service digests) (secret_rows other others) _ _ (append_cancel_left (codes ",\"secrets\":") _ _ configs.1) in
    let own = append_cancel_right (service_json service) (service_json other) (codes "}") (append_cancel_left (codes ",\"service\":") _ _ secrets.1) in
    record { configs = configs.0; secrets = secrets.0; own = own }
