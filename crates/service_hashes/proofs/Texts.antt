-- The text under a hash, put together.
use Rattle.std.proofs.Common.{◌≡◌, ◌∙◌, ℕ, List, [], ◌∷◌, ◌++◌, append_assoc, codes, filter, sym}
use Rattle.std.proofs.lemmas.List.{append-nil}
use Rattle.json.specs.Print.{escape_byte, quoted}
use Rattle.project_pages.specs.AttributePages.{attributes_node, service_json}
use Rattle.project_pages.specs.Puts.{is_hashed}
use Rattle.project_print.specs.Json.{json_of}
use Rattle.project_print.specs.declared.compact_json.Dollars.{Dollars}
use Rattle.project_print.specs.Written.{members_text}
use Rattle.project_print.proofs.Commas.{map_json}
use Rattle.attribute_types.specs.Lookups.{files_at}
use Rattle.engine_types.specs.declared.declared.Kind.{Kind}
use Rattle.typed_project.specs.declared.service.Service.{Service}
use Rattle.service_hashes.specs.Hashes.{hashed_text, used_node}
use Rattle.service_hashes.specs.declared.digest.FileDigest.{FileDigest}

-- the three parts between their names
abbrev pub whole : List ℕ → List ℕ → List ℕ → List ℕ
whole configs secrets own =
    codes "{\"configs\":" ++ (configs ++ (codes ",\"secrets\":" ++ (secrets ++ (codes ",\"service\":" ++ (own ++ codes "}")))))

reshape : (b q h x g r y s z e : List ℕ)
    → b ++ (((q ++ (h ++ x)) ++ (g ++ ((r ++ (h ++ y)) ++ (g ++ ((s ++ (h ++ z)) ++ []))))) ++ e)
    ≡ b ++ (q ++ (h ++ (x ++ (g ++ (r ++ (h ++ (y ++ (g ++ (s ++ (h ++ (z ++ e)))))))))))
reshape b q h x g r y s z e = simp (append_assoc, append-nil)

joined : (configs secrets own : List ℕ) → whole configs secrets own
    ≡ codes "{" ++ (members_text ((codes "configs", configs) ∷ (codes "secrets", secrets) ∷ (codes "service", own) ∷ []) ++ codes "}")
unfolding escape_byte
joined configs secrets own =
    sym (reshape (codes "{") (quoted (codes "configs")) (codes ":") configs (codes ",") (quoted (codes "secrets")) secrets (quoted (codes "service")) own (codes "}"))

pub text_is : (service : Service) (digests : List FileDigest) (configs secrets own : List ℕ)
    → configs ≡ json_of Dollars.Once (used_node digests Kind.Config (files_at service.attributes (codes "configs")))
    → secrets ≡ json_of Dollars.Once (used_node digests Kind.Secret (files_at service.attributes (codes "secrets"))) → own ≡ service_json service
    → whole configs secrets own ≡ hashed_text service digests
text_is service digests configs secrets own e f g =
    (λ i. whole (e i) (f i) (g i))
    ∙ joined _ _ _
    ∙ map_json Dollars.Once ((codes "configs", used_node digests Kind.Config (files_at service.attributes (codes "configs")))
    ∷ (codes "secrets", used_node digests Kind.Secret (files_at service.attributes (codes "secrets")))
    ∷ (codes "service", attributes_node (filter is_hashed service.attributes)) ∷ [])
