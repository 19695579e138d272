-- The hashes of a service: what a container is made of, in lower hexadecimal SHA-256 (FIPS 180-4).
use Rattle.std.specs.Prelude.{ℕ, Bool, true, false, ◌&&◌, List, [], ◌∷◌, Option, codes, filter, find, map, unwrap_or}
use Rattle.std.specs.Option.{option_map}
use Rattle.std.specs.Str.{bytes_eq}
use Rattle.sha2.specs.Sha256.{sha256}
use Rattle.hex.specs.Hex.{encode_lower}
use Rattle.attribute_types.specs.Lookups.{files_at}
use Rattle.attribute_types.specs.declared.rows.FileUse.{FileUse}
use Rattle.engine_types.specs.declared.declared.Kind.{Kind}
use Rattle.named_items.specs.Names.{by_name}
use Rattle.project_pages.specs.AttributePages.{attributes_node, service_json}
use Rattle.project_pages.specs.Puts.{is_hashed}
use Rattle.project_print.specs.Json.{json_of}
use Rattle.project_print.specs.declared.compact_json.Dollars.{Dollars}
use Rattle.project_print.specs.declared.node.Node.{Node}
use Rattle.project_print.specs.declared.node.Node.TheVariants.{Map, Text}
use Rattle.typed_project.specs.declared.service.Service.{Service}
use Rattle.service_hashes.specs.declared.digest.FileDigest.{FileDigest}

-- the hash of a text
abbrev pub text_hash : List ℕ → List ℕ
text_hash text = encode_lower (sha256 text)

-- the first hash of a service: of its attributes that change a container, as JSON
abbrev pub old_hash : Service → List ℕ
old_hash service = text_hash (service_json service)

-- two kinds are the same
abbrev pub is_same_kind : Kind → Kind → Bool
is_same_kind Kind.Service Kind.Service = true
is_same_kind Kind.Network Kind.Network = true
is_same_kind Kind.Volume Kind.Volume = true
is_same_kind Kind.Secret Kind.Secret = true
is_same_kind Kind.Config Kind.Config = true
is_same_kind kind other = false

-- the digest of the file of a kind with a key, the empty text where there is none
abbrev pub digest_at : List FileDigest → Kind → List ℕ → List ℕ
digest_at digests kind key =
    unwrap_or (option_map (λ row. row.digest) (find (λ row. is_same_kind row.kind kind && bytes_eq row.key key) digests)) []

-- a secret or a config that is used, with the digest of its file
abbrev pub used_entry : List FileDigest → Kind → FileUse → List ℕ × Node
used_entry digests kind used = (used.source, Text (digest_at digests kind used.source))

-- the secrets or the configs that are used, each once and in byte order of the keys, with their digests
abbrev pub used_entries : List FileDigest → Kind → List FileUse → List (List ℕ × Node)
used_entries digests kind uses = map (used_entry digests kind) (by_name (λ used. used.source) uses)

-- what is hashed of them: nothing is used where the attribute isn't there
abbrev pub used_node : List FileDigest → Kind → Option (List FileUse) → Node
used_node digests kind uses = Map (used_entries digests kind (unwrap_or uses []))

-- what is hashed of a service: the digests of the configs and secrets that it uses, and its attributes that change a container
abbrev pub hashed_node : Service → List FileDigest → Node
hashed_node service digests =
    Map ((codes "configs", used_node digests Kind.Config (files_at service.attributes (codes "configs")))
    ∷ (codes "secrets", used_node digests Kind.Secret (files_at service.attributes (codes "secrets")))
    ∷ (codes "service", attributes_node (filter is_hashed service.attributes)) ∷ [])

-- its text: JSON without spaces (RFC 8259)
abbrev pub hashed_text : Service → List FileDigest → List ℕ
hashed_text service digests = json_of Dollars.Once (hashed_node service digests)

-- the second hash of a service
abbrev pub hash : Service → List FileDigest → List ℕ
hash service digests = text_hash (hashed_text service digests)
