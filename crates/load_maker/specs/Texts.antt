-- The project `sim` of so many services, as the text of its Compose file. Services are numbered from 0.
use Rattle.std.specs.Prelude.{ℕ, ◌/◌, ◌%◌, Bool, if◌then◌else◌, ◌==◌, List, [], ◌++◌, codes, decimal, flat_map, nat_le, nat_lt}
use Rattle.std.specs.List.{range_with_len}

-- a number below a thousand with three digits: its hundreds, its tens, its ones
abbrev pub three_digits : ℕ → List ℕ
three_digits number = decimal (number / 100) ++ decimal (number / 10 % 10) ++ decimal (number % 10)

-- whether a service has a volume: each fourth has one, the first among them
abbrev pub has_volume : ℕ → Bool
has_volume service = service % 4 == 0

-- the key of a service; its image, one of five in turn; its network, one of three in turn
unfoldable pub image_and_network : ℕ → List ℕ
image_and_network service =
    codes "  s" ++ three_digits service ++ codes ":\n"
    ++ codes "    image: img-" ++ decimal (service % 5) ++ codes "\n"
    ++ codes "    networks: [n" ++ decimal (service % 3) ++ codes "]\n"

-- the volume that a service mounts at `/d`
unfoldable pub mount_line : ℕ → List ℕ
mount_line service = codes "    volumes: [\"v" ++ three_digits service ++ codes ":/d\"]\n"

-- the same, where it has one
abbrev pub mounted_volume : ℕ → List ℕ
mounted_volume service = if has_volume service then mount_line service else []

-- whether a service needs another one: each but the first does
abbrev pub has_need : ℕ → Bool
has_need service = nat_le 1 service

-- the service that a service needs: that of half its number, rounded down
unfoldable pub need_line : ℕ → List ℕ
need_line service = codes "    depends_on: [s" ++ three_digits (service / 2) ++ codes "]\n"

-- the same, where it needs one
abbrev pub needed_service : ℕ → List ℕ
needed_service service = if has_need service then need_line service else []

-- the lines of a service
abbrev pub service_lines : ℕ → List ℕ
service_lines service = image_and_network service ++ mounted_volume service ++ needed_service service

-- the lines of so many services, by number
abbrev pub services_text : ℕ → List ℕ
services_text number = flat_map service_lines (range_with_len 0 number)

-- the line that declares a network, where so many services use it: where there is a service with its number
abbrev pub network_line : ℕ → ℕ → List ℕ
network_line number network = if nat_lt network number then codes "  n" ++ decimal network ++ codes ":\n" else []

-- the lines of the networks that so many services use, of the three
abbrev pub network_lines : ℕ → List ℕ
network_lines number = flat_map (network_line number) (range_with_len 0 3)

-- the line that declares a service's volume, where it has one
abbrev pub volume_line : ℕ → List ℕ
volume_line service = if has_volume service then codes "  v" ++ three_digits service ++ codes ":\n" else []

-- the lines of the volumes of so many services
abbrev pub volume_lines : ℕ → List ℕ
volume_lines number = flat_map volume_line (range_with_len 0 number)

-- the whole text
unfoldable pub made_text : ℕ → List ℕ
made_text number =
    codes "name: sim\nservices:\n" ++ services_text number
    ++ codes "networks:\n" ++ network_lines number
    ++ codes "volumes:\n" ++ volume_lines number
