-- Services that are the same but for the attributes that change no container have the same texts under their hashes.
use Rattle.std.proofs.Common.{◌≡◌, ◌∙◌, ℕ, Bool, true, false, cond, List, [], ◌∷◌, Option, Some, ap, find, filter, refl, sym}
use Rattle.std.specs.Option.{option_and_then, option_map}
use Rattle.std.specs.Str.{bytes_eq}
use Rattle.std.specs.Prelude.{codes}
use Rattle.std.proofs.lemmas.Slice.Eq.{bytes_eq-Decides}
use Rattle.attribute_types.specs.Lookups.{as_files, files_at}
use Rattle.attribute_types.specs.declared.attribute.Attribute.{Attribute}
use Rattle.attribute_types.specs.declared.rows.FileUse.{FileUse}
use Rattle.engine_types.specs.declared.declared.Kind.{Kind}
use Rattle.project_pages.specs.AttributePages.{attributes_node, service_json}
use Rattle.project_pages.specs.Puts.{is_hashed, is_hashed_name}
use Rattle.project_print.specs.Json.{json_of}
use Rattle.project_print.specs.declared.compact_json.Dollars.{Dollars}
use Rattle.project_print.specs.declared.node.Node.TheVariants.{Map}
use Rattle.typed_project.specs.declared.service.Service.{Service}
use Rattle.service_hashes.specs.Hashes.{hashed_text, text_hash, used_node}
use Rattle.service_hashes.specs.Laws.{HaveSameHashes, UnhashedDoNotMatter, hashed_attributes}
use Rattle.service_hashes.specs.declared.digest.FileDigest.{FileDigest}

module _ (name : List ℕ) (hashed : is_hashed_name name ≡ true) where
  -- an attribute of a hashed name is found among the hashed ones
  found_hashed : (attributes : List Attribute) → find (λ attribute. bytes_eq attribute.name name) (filter is_hashed attributes) ≡ find (λ attribute. bytes_eq attribute.name name) attributes
  found_hashed [] = refl
  found_hashed (x ∷ xs) = at (is_hashed x) refl (bytes_eq x.name name) refl (found_hashed xs)
    where
      at : (h : Bool) → is_hashed x ≡ h → (b : Bool) → bytes_eq x.name name ≡ b
          → find (λ attribute. bytes_eq attribute.name name) (filter is_hashed xs) ≡ find (λ attribute. bytes_eq attribute.name name) xs
          → find (λ attribute. bytes_eq attribute.name name) (cond h (x ∷ filter is_hashed xs) (filter is_hashed xs)) ≡ cond b (Some x) (find (λ attribute. bytes_eq attribute.name name) xs)
      at true e b f rest = ap (λ (t : Bool). cond t (Some x) (find (λ attribute. bytes_eq attribute.name name) (filter is_hashed xs))) f
          ∙ ap (λ (o : Option Attribute). cond b (Some x) o) rest
      at false e true f rest =
          let same : x.name ≡ name = (bytes_eq-Decides x.name name).0 f in
          let bad : false ≡ true = sym e ∙ ap is_hashed_name same ∙ hashed in absurd (cc bad)
      at false e false f rest = rest

  -- so are the files there
  pub files_hashed : (attributes : List Attribute) → files_at (filter is_hashed attributes) name ≡ files_at attributes name
  files_hashed attributes = ap (λ (o : Option Attribute). option_and_then as_files (option_map (λ attribute. attribute.value) o)) (found_hashed attributes)

module _ (service other : Service) (digests : List FileDigest) (same : hashed_attributes service ≡ hashed_attributes other) where
  same_files : (name : List ℕ) → is_hashed_name name ≡ true → files_at service.attributes name ≡ files_at other.attributes name
  same_files name hashed = sym (files_hashed name hashed service.attributes) ∙ ap (λ (attributes : List Attribute). files_at attributes name) same ∙ files_hashed name hashed other.attributes

  abbrev text_of : Option (List FileUse) → Option (List FileUse) → List Attribute → List ℕ
  text_of configs secrets attributes =
      json_of Dollars.Once (Map ((codes "configs", used_node digests Kind.Config configs) ∷ (codes "secrets", used_node digests Kind.Secret secrets) ∷ (codes "service", attributes_node attributes) ∷ []))

  same_texts : hashed_text service digests ≡ hashed_text other digests
  same_texts = λ i. text_of (same_files (codes "configs") refl i) (same_files (codes "secrets") refl i) (same i)

  same_old_texts : service_json service ≡ service_json other
  same_old_texts = ap (λ (attributes : List Attribute). json_of Dollars.Once (attributes_node attributes)) same

  pub same_hashes : HaveSameHashes service other digests
  same_hashes = record { old_texts = same_old_texts; texts = same_texts; old_hashes = ap text_hash same_old_texts; hashes = ap text_hash same_texts }

pub unhashed : UnhashedDoNotMatter
unhashed service other digests same = same_hashes service other digests same
