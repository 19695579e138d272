-- The ids that an Engine in memory gives.
use Rattle.std.specs.Prelude.{ℕ, ◌-◌, false, List, ◌++◌, length, replicate, codes}
use Rattle.std.specs.Fmt.{digits}
use Rattle.sha2.specs.Sha256.{sha256}
use Rattle.hex.specs.Hex.{encode_lower}

-- the id that a number spells: 64 lower hexadecimal digits, as the Docker Engine's ids have
unfoldable pub id_text : ℕ → List ℕ
id_text number = replicate (64 - length (digits 16 false number)) 48 ++ digits 16 false number

-- the id of the image with a name: the algorithm, a colon, and the name's SHA-256 in lower hexadecimal
unfoldable pub image_id_text : List ℕ → List ℕ
image_id_text name = codes "sha256:" ++ encode_lower (sha256 name)
