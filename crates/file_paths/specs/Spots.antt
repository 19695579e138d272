-- The rules on paths that are left at each spot of a file.
use Rattle.std.specs.Prelude.{[], ◌∷◌, codes}
use Rattle.attribute_paths.specs.Patterns.{any_item, below_item, below_key}
use Rattle.file_paths.specs.PathRules.{PathRules, path_rules}
use Rattle.file_paths.specs.declared.spot.PathKind.TheVariants as kinds
use Rattle.file_paths.specs.declared.spot.PathSpot.{PathSpot}
use Rattle.file_paths.specs.declared.spot.PathSpot.TheVariants as spots

-- what is left below `include`, and in one of its items
unfoldable pub include_rules : PathRules
include_rules = below_key (codes "include") path_rules

unfoldable pub item_rules : PathRules
item_rules = below_item include_rules

-- a path, or a list of paths
abbrev pub texts_rules : PathRules
texts_rules = ([], kinds.Text) ∷ (any_item ∷ [], kinds.Text) ∷ []

-- what is left in all services, and in one
unfoldable pub services_rules : PathRules
services_rules = below_key (codes "services") path_rules

unfoldable pub service_rules : PathRules
service_rules = below_key [] services_rules

-- and in its mounts, in what it is built from, in its env files and in one of these, and in what it extends
unfoldable pub mounts_rules : PathRules
mounts_rules = below_key (codes "volumes") service_rules

unfoldable pub build_rules : PathRules
build_rules = below_key (codes "build") service_rules

unfoldable pub env_files_rules : PathRules
env_files_rules = below_key (codes "env_file") service_rules

unfoldable pub env_file_rules : PathRules
env_file_rules = below_item env_files_rules

unfoldable pub extends_rules : PathRules
extends_rules = below_key (codes "extends") service_rules

-- what is left in all secrets, as in all configs, and in one
unfoldable pub files_rules : PathRules
files_rules = below_key (codes "secrets") path_rules

unfoldable pub file_rules : PathRules
file_rules = below_key [] files_rules

-- the rules at a spot
abbrev pub rules_of : PathSpot → PathRules
rules_of spots.Root = path_rules
rules_of spots.Include = include_rules
rules_of spots.IncludeItem = item_rules
rules_of spots.Texts = texts_rules
rules_of spots.Services = services_rules
rules_of spots.Service = service_rules
rules_of spots.Mounts = mounts_rules
rules_of spots.Build = build_rules
rules_of spots.EnvFiles = env_files_rules
rules_of spots.EnvFile = env_file_rules
rules_of spots.Extends = extends_rules
rules_of spots.FileItems = files_rules
rules_of spots.FileItem = file_rules
rules_of (spots.Ruled kind) = ([], kind) ∷ []
rules_of spots.Plain = []
