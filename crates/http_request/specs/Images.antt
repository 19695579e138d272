-- An image's name cut into the image and its tag or digest, as `POST /images/create` takes them (Docker
-- Engine API v1.43).
use Rattle.std.specs.Prelude.{ℕ, ◌+◌, not, ◌&&◌, ◌==◌, List, [], ◌∷◌, length, take, drop, codes, nat_lt, if◌then◌else◌, Option, Some, None, option_map, unwrap_or}
use Rattle.std.specs.List.{list_any, prefix_len}
use Rattle.std.specs.Option.{option_or}

-- the code of /, behind which the parts of a name stand
abbrev pub slash : ℕ
slash = 47

-- the code of :, behind which a tag stands
abbrev pub colon : ℕ
colon = 58

-- the code of @, behind which a digest stands
abbrev pub at_sign : ℕ
at_sign = 64

-- where the last : stands behind which there is no /
abbrev pub tag_place : List ℕ → Option ℕ
tag_place [] = None
tag_place (b ∷ name) =
    option_or (option_map (λ n. n + 1) (tag_place name))
    (if b == colon && not (list_any (λ c. c == slash) name) then Some 0 else None)

-- where the first @ stands, or the name's end
abbrev pub digest_place : List ℕ → ℕ
digest_place name = prefix_len (λ b. not (b == at_sign)) name

-- a name without its digest
abbrev pub without_digest : List ℕ → List ℕ
without_digest name = take (digest_place name) name

-- the image of a name: without its digest, and without its tag
unfoldable pub image_of : List ℕ → List ℕ
image_of name =
    take (unwrap_or (tag_place (without_digest name)) (length (without_digest name)))
    (without_digest name)

-- the tag of a name without digest: what stands behind the : of its tag, else the tag latest
abbrev pub tag_behind : List ℕ → Option ℕ → List ℕ
tag_behind name (Some n) = drop (n + 1) name
tag_behind name None = codes "latest"

-- what is pulled of an image: the digest behind the name's first @, else its tag
unfoldable pub tag_of : List ℕ → List ℕ
tag_of name =
    if nat_lt (digest_place name) (length name) then drop (digest_place name + 1) name
    else tag_behind name (tag_place name)
