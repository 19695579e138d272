-- Of which attributes the hashes of a service don't hang, and what their texts tell.
use Rattle.std.specs.Prelude.{◌≡◌, ℕ, true, List, [], ◌∷◌, ◌++◌, Option, codes, filter, map, unwrap_or}
use Rattle.attribute_types.specs.Lookups.{files_at}
use Rattle.attribute_types.specs.declared.attribute.Attribute.{Attribute}
use Rattle.attribute_types.specs.declared.rows.FileUse.{FileUse}
use Rattle.engine_types.specs.declared.declared.Kind.{Kind}
use Rattle.named_items.specs.Names.{by_name}
use Rattle.project_pages.specs.AttributePages.{service_json, value_node}
use Rattle.project_pages.specs.Puts.{is_hashed}
use Rattle.project_print.specs.Json.{json_of}
use Rattle.project_print.specs.declared.compact_json.Dollars.{Dollars}
use Rattle.typed_project.specs.declared.service.Service.{Service}
use Rattle.service_hashes.specs.Hashes.{digest_at, hash, hashed_text, old_hash}
use Rattle.service_hashes.specs.declared.digest.FileDigest.{FileDigest}

-- the attributes that change a container: all but build, depends_on, deploy, profiles, pull_policy and scale
abbrev pub hashed_attributes : Service → List Attribute
hashed_attributes service = filter is_hashed service.attributes

-- two services have the same texts under their hashes, and the same hashes
pub record HaveSameHashes (service other : Service) (digests : List FileDigest) : Type 0 where
  pub old_texts : service_json service ≡ service_json other
  pub texts : hashed_text service digests ≡ hashed_text other digests
  pub old_hashes : old_hash service ≡ old_hash other
  pub hashes : hash service digests ≡ hash other digests

-- so have two services that are the same but for these attributes
abbrev pub UnhashedDoNotMatter : Type 0
UnhashedDoNotMatter =
    (service other : Service) (digests : List FileDigest)
    → hashed_attributes service ≡ hashed_attributes other → HaveSameHashes service other digests

-- the secrets or configs that are used by their keys, each with the digest of its file
abbrev pub file_rows : List FileDigest → Kind → Option (List FileUse) → List (List ℕ × List ℕ)
file_rows digests kind uses =
    map (λ used. (used.source, digest_at digests kind used.source)) (by_name (λ used. used.source) (unwrap_or uses []))

-- two services use the same secrets and configs, with the same digests, and have the same text under the first hash
pub record TellTheSame (service other : Service) (digests others : List FileDigest) : Type 0 where
  pub configs : file_rows digests Kind.Config (files_at service.attributes (codes "configs"))
      ≡ file_rows others Kind.Config (files_at other.attributes (codes "configs"))
  pub secrets : file_rows digests Kind.Secret (files_at service.attributes (codes "secrets"))
      ≡ file_rows others Kind.Secret (files_at other.attributes (codes "secrets"))
  pub own : service_json service ≡ service_json other

-- the text under the second hash tells which secrets and configs are used, the digest of each, and the text under the first hash
abbrev pub TextsTell : Type 0
TextsTell =
    (service other : Service) (digests others : List FileDigest)
    → hashed_text service digests ≡ hashed_text other others → TellTheSame service other digests others

-- a service with an attribute between others
abbrev pub with_attribute : List ℕ → List Attribute → Attribute → List Attribute → Service
with_attribute key before attribute after = record { key = key; attributes = before ++ attribute ∷ after }

-- where one attribute is another and the text under the first hash stays, the name of the attribute stays, and what is shown of it
-- in JSON
abbrev pub ChangesShow : Type 0
ChangesShow =
    (key : List ℕ) (before after : List Attribute) (attribute other : Attribute)
    → is_hashed attribute ≡ true → is_hashed other ≡ true
    → service_json (with_attribute key before attribute after) ≡ service_json (with_attribute key before other after)
    → (attribute.name ≡ other.name)
    × (json_of Dollars.Once (value_node attribute.value) ≡ json_of Dollars.Once (value_node other.value))

-- what changes a container shows where it is added or taken away: the text under the first hash is another one
abbrev pub AdditionsShow : Type 0
AdditionsShow =
    (key : List ℕ) (before after : List Attribute) (attribute : Attribute) → is_hashed attribute ≡ true
    → service_json (with_attribute key before attribute after) ≡ service_json (record { key = key; attributes = before ++ after })
    → ⊥
