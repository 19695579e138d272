-- Which texts of a file are paths, a line an attribute (Compose Specification: `include`, `volumes`, `build`,
-- `env_file`, `extends`, and the `file` of secrets and configs).
use Rattle.std.specs.Prelude.{List, [], ◌∷◌, codes}
use Rattle.attribute_paths.specs.Patterns.{Pattern, pattern}
use Rattle.file_paths.specs.declared.spot.PathKind.{PathKind}
use Rattle.file_paths.specs.declared.spot.PathKind.TheVariants.{Text, Context, Bind}

-- a table of paths
abbrev pub PathRules : Type 0
PathRules = List (Pattern × PathKind)

-- the texts that are paths; a bind has one as its source
unfoldable pub path_rules : PathRules
path_rules =
    (pattern (codes "include.[]"), Text)
    ∷ (pattern (codes "include.[].path"), Text)
    ∷ (pattern (codes "include.[].path.[]"), Text)
    ∷ (pattern (codes "include.[].project_directory"), Text)
    ∷ (pattern (codes "include.[].env_file"), Text)
    ∷ (pattern (codes "include.[].env_file.[]"), Text)
    ∷ (pattern (codes "services.*.volumes.[]"), Bind)
    ∷ (pattern (codes "services.*.build.context"), Context)
    ∷ (pattern (codes "services.*.env_file"), Text)
    ∷ (pattern (codes "services.*.env_file.[]"), Text)
    ∷ (pattern (codes "services.*.env_file.[].path"), Text)
    ∷ (pattern (codes "services.*.extends.file"), Text)
    ∷ (pattern (codes "secrets.*.file"), Text)
    ∷ (pattern (codes "configs.*.file"), Text) ∷ []
