-- Which attribute is merged how, and which has a short form, a line an attribute (Compose Specification, "Merge" and the short syntaxes).
use Rattle.std.specs.Prelude.{List, [], ◌∷◌, codes}
use Rattle.attribute_paths.specs.Patterns.{Pattern, pattern}
use Rattle.merge_tables.specs.declared.rules.Joining.{Joining}
use Rattle.merge_tables.specs.declared.rules.Joining.TheVariants.{Replaced, Unique}
use Rattle.merge_tables.specs.declared.rules.EntryKind.TheVariants.{Port, Mount, Secret, Config}
use Rattle.merge_tables.specs.declared.rules.ShortForm.{ShortForm}
use Rattle.merge_tables.specs.declared.rules.ShortForm.TheVariants.{Mapping, Entries, OneText, Context, Test, Words}
use Rattle.merge_tables.specs.declared.rules.PairForm.TheVariants.{KeyValue, Host, Name}
use Rattle.merge_tables.specs.declared.rules.EntryForm.TheVariants as forms

-- how a sequence is laid over a sequence; one that no line names is appended
abbrev pub JoiningRules : Type 0
JoiningRules = List (Pattern × Joining)

-- the sequences that are replaced, and those whose entries are unique
unfoldable pub overlay_rules : JoiningRules
overlay_rules =
    (pattern (codes "services.*.command"), Replaced)
    ∷ (pattern (codes "services.*.entrypoint"), Replaced)
    ∷ (pattern (codes "services.*.healthcheck.test"), Replaced)
    ∷ (pattern (codes "services.*.ports"), Unique Port)
    ∷ (pattern (codes "services.*.volumes"), Unique Mount)
    ∷ (pattern (codes "services.*.secrets"), Unique Secret)
    ∷ (pattern (codes "services.*.configs"), Unique Config) ∷ []

-- which short form an attribute has; one that no line names has none
abbrev pub ShortRules : Type 0
ShortRules = List (Pattern × ShortForm)

-- the attributes that have a short form
unfoldable pub short_rules : ShortRules
short_rules =
    (pattern (codes "services.*.environment"), Mapping KeyValue)
    ∷ (pattern (codes "services.*.labels"), Mapping KeyValue)
    ∷ (pattern (codes "services.*.sysctls"), Mapping KeyValue)
    ∷ (pattern (codes "services.*.build.args"), Mapping KeyValue)
    ∷ (pattern (codes "services.*.extra_hosts"), Mapping Host)
    ∷ (pattern (codes "services.*.depends_on"), Mapping Name)
    ∷ (pattern (codes "services.*.networks"), Mapping Name)
    ∷ (pattern (codes "services.*.ports"), Entries forms.Port)
    ∷ (pattern (codes "services.*.volumes"), Entries forms.Mount)
    ∷ (pattern (codes "services.*.secrets"), Entries forms.File)
    ∷ (pattern (codes "services.*.configs"), Entries forms.File)
    ∷ (pattern (codes "services.*.build"), Context)
    ∷ (pattern (codes "services.*.healthcheck.test"), Test)
    ∷ (pattern (codes "services.*.command"), Words)
    ∷ (pattern (codes "services.*.entrypoint"), Words)
    ∷ (pattern (codes "services.*.cap_add"), OneText)
    ∷ (pattern (codes "services.*.cap_drop"), OneText)
    ∷ (pattern (codes "services.*.security_opt"), OneText)
    ∷ (pattern (codes "services.*.group_add"), OneText)
    ∷ (pattern (codes "services.*.dns"), OneText)
    ∷ (pattern (codes "services.*.dns_search"), OneText)
    ∷ (pattern (codes "services.*.dns_opt"), OneText)
    ∷ (pattern (codes "services.*.devices"), OneText)
    ∷ (pattern (codes "services.*.expose"), OneText)
    ∷ (pattern (codes "services.*.tmpfs"), OneText)
    ∷ (pattern (codes "services.*.profiles"), OneText)
    ∷ (pattern (codes "services.*.env_file"), OneText)
    ∷ (pattern (codes "networks.*.labels"), Mapping KeyValue)
    ∷ (pattern (codes "networks.*.driver_opts"), Mapping KeyValue)
    ∷ (pattern (codes "volumes.*.labels"), Mapping KeyValue)
    ∷ (pattern (codes "volumes.*.driver_opts"), Mapping KeyValue) ∷ []
