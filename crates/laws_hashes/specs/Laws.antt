-- What the texts under the hashes of a service tell of it.
use Rattle.std.specs.Prelude.{◌≡◌, ℕ, true, List, Ok, codes}
use Rattle.std.specs.List.{Contains}
use Rattle.attribute_types.specs.Lookups.{files_at}
use Rattle.engine_types.specs.declared.declared.Kind.{Kind}
use Rattle.merge_rules.specs.Laws.{no_mark, own_keys}
use Rattle.project_meaning.specs.Meaning.{project_of}
use Rattle.project_pages.specs.AttributePages.{service_json}
use Rattle.service_hashes.specs.Hashes.{hash, hashed_text, old_hash}
use Rattle.service_hashes.specs.Laws.{file_rows, hashed_attributes}
use Rattle.service_hashes.specs.declared.digest.FileDigest.{FileDigest}
use Rattle.tree_base.specs.declared.Tree.{Tree}
use Rattle.typed_project.specs.declared.project.Project.{Project}
use Rattle.typed_project.specs.declared.service.Service.{Service}

-- a service of a project that some merged tree means, which has no marks and no key twice
pub record IsMeant (service : Service) : Type 0 where
  pub name : List ℕ
  pub tree : Tree
  pub project : Project
  pub unmarked : no_mark tree ≡ true
  pub apart : own_keys tree ≡ true
  pub means : project_of name tree ≡ Ok project
  pub among : Contains project.services service

-- services with the same text under the first hash are the same but for their keys and for what changes no container
abbrev pub OwnTextsTellServices : Type 0
OwnTextsTellServices =
    (service other : Service) → IsMeant service → IsMeant other
    → service_json service ≡ service_json other → hashed_attributes service ≡ hashed_attributes other

-- two services are the same but for these, and the configs and secrets that they use have the same digests
pub record AreMadeAlike (service other : Service) (digests others : List FileDigest) : Type 0 where
  pub attributes : hashed_attributes service ≡ hashed_attributes other
  pub configs : file_rows digests Kind.Config (files_at service.attributes (codes "configs"))
      ≡ file_rows others Kind.Config (files_at other.attributes (codes "configs"))
  pub secrets : file_rows digests Kind.Secret (files_at service.attributes (codes "secrets"))
      ≡ file_rows others Kind.Secret (files_at other.attributes (codes "secrets"))

-- so are services with the same text under the second hash
abbrev pub TextsTellServices : Type 0
TextsTellServices =
    (service other : Service) (digests others : List FileDigest) → IsMeant service → IsMeant other
    → hashed_text service digests ≡ hashed_text other others → AreMadeAlike service other digests others

-- two services have the same texts under their hashes, and the same hashes
pub record HaveSameTexts (service other : Service) (digests others : List FileDigest) : Type 0 where
  pub old_texts : service_json service ≡ service_json other
  pub texts : hashed_text service digests ≡ hashed_text other others
  pub old_hashes : old_hash service ≡ old_hash other
  pub hashes : hash service digests ≡ hash other others

-- so have services that are made alike: nothing else is told
abbrev pub TextsTellNothingElse : Type 0
TextsTellNothingElse =
    (service other : Service) (digests others : List FileDigest)
    → AreMadeAlike service other digests others → HaveSameTexts service other digests others
