-- What the text under the second hash tells, and that it tells nothing else.
use Rattle.std.proofs.Common.{◌≡◌, ◌∙◌, ℕ, List, codes, refl, sym, ap}
use Rattle.attribute_types.specs.Lookups.{files_at}
use Rattle.engine_types.specs.declared.declared.Kind.{Kind}
use Rattle.laws_hashes.proofs.Services.{own_texts_tell}
use Rattle.laws_hashes.specs.Laws.{AreMadeAlike, TextsTellNothingElse, TextsTellServices}
use Rattle.project_pages.specs.AttributePages.{service_json}
use Rattle.service_hashes.proofs.Alike.{unhashed}
use Rattle.service_hashes.proofs.Strings.{braces}
use Rattle.service_hashes.proofs.Telling.{tells, used_is}
use Rattle.service_hashes.proofs.Texts.{text_is, whole}
use Rattle.service_hashes.specs.Hashes.{hashed_text, text_hash}
use Rattle.service_hashes.specs.Laws.{file_rows}
use Rattle.service_hashes.specs.declared.digest.FileDigest.{FileDigest}
use Rattle.typed_project.specs.declared.service.Service.{Service}

pub texts_tell : TextsTellServices
texts_tell service other digests others one two e =
    let told = tells service other digests others e in record { attributes = own_texts_tell service other one two told.own; configs = told.configs; secrets = told.secrets }

-- the text by its rows
module _ (service : Service) (digests : List FileDigest) where
  abbrev config_rows : List (List ℕ × List ℕ)
  config_rows = file_rows digests Kind.Config (files_at service.attributes (codes "configs"))

  abbrev secret_rows : List (List ℕ × List ℕ)
  secret_rows = file_rows digests Kind.Secret (files_at service.attributes (codes "secrets"))

  rows_text : whole (braces config_rows) (braces secret_rows) (service_json service) ≡ hashed_text service digests
  rows_text =
      text_is service digests (braces config_rows) (braces secret_rows) (service_json service)
      (used_is digests Kind.Config (files_at service.attributes (codes "configs"))) (used_is digests Kind.Secret (files_at service.attributes (codes "secrets"))) refl

module _ (service other : Service) (digests others : List FileDigest) (alike : AreMadeAlike service other digests others) where
  same_own : service_json service ≡ service_json other
  same_own = (unhashed service other digests alike.attributes).old_texts

  same_text : hashed_text service digests ≡ hashed_text other others
  same_text =
      sym (rows_text service digests)
      ∙ (λ i. whole (braces (alike.configs i)) (braces (alike.secrets i)) (same_own i))
      ∙ rows_text other others

pub nothing_else : TextsTellNothingElse
nothing_else service other digests others alike =
    let own = same_own service other digests others alike in
    let text = same_text service other digests others alike in
    record { old_texts = own; texts = text; old_hashes = ap text_hash own; hashes = ap text_hash text }
