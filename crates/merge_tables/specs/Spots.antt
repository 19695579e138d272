-- The rules that are left at each spot of a file.
use Rattle.std.specs.Prelude.{[], ◌∷◌, codes}
use Rattle.merge_tables.specs.Attributes.{JoiningRules, ShortRules, overlay_rules, short_rules}
use Rattle.attribute_paths.specs.Patterns.{below_key}
use Rattle.merge_tables.specs.declared.spot.Spot.{Spot}
use Rattle.merge_tables.specs.declared.spot.Spot.TheVariants as spots
use Rattle.merge_tables.specs.declared.short_spot.ShortSpot.{ShortSpot}
use Rattle.merge_tables.specs.declared.short_spot.ShortSpot.TheVariants as short_spots

-- how sequences are joined in all services
unfoldable pub services_rules : JoiningRules
services_rules = below_key (codes "services") overlay_rules

-- in one service
unfoldable pub service_rules : JoiningRules
service_rules = below_key [] services_rules

-- in its health check
unfoldable pub healthcheck_rules : JoiningRules
healthcheck_rules = below_key (codes "healthcheck") service_rules

-- the rules on joining at a spot
abbrev pub rules_of : Spot → JoiningRules
rules_of spots.Root = overlay_rules
rules_of spots.Services = services_rules
rules_of spots.Service = service_rules
rules_of spots.Healthcheck = healthcheck_rules
rules_of (spots.Ruled joining) = ([], joining) ∷ []
rules_of spots.Plain = []

-- the short forms in all services
unfoldable pub services_forms : ShortRules
services_forms = below_key (codes "services") short_rules

-- in one service
unfoldable pub service_forms : ShortRules
service_forms = below_key [] services_forms

-- in what it is built from
unfoldable pub build_forms : ShortRules
build_forms = below_key (codes "build") service_forms

-- in its health check
unfoldable pub healthcheck_forms : ShortRules
healthcheck_forms = below_key (codes "healthcheck") service_forms

-- in all networks, and in all volumes
unfoldable pub resources_forms : ShortRules
resources_forms = below_key (codes "networks") short_rules

-- in one of these
unfoldable pub resource_forms : ShortRules
resource_forms = below_key [] resources_forms

-- the short forms at a spot
abbrev pub forms_of : ShortSpot → ShortRules
forms_of short_spots.Root = short_rules
forms_of short_spots.Services = services_forms
forms_of short_spots.Service = service_forms
forms_of short_spots.Build = build_forms
forms_of short_spots.Healthcheck = healthcheck_forms
forms_of short_spots.Resources = resources_forms
forms_of short_spots.Resource = resource_forms
forms_of (short_spots.Formed form) = ([], form) ∷ []
forms_of short_spots.Plain = []
