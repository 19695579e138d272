-- What runs in a container, and how it is stopped and started again (Compose Specification, `environment`, `restart`, `logging`).
use Rattle.std.specs.Prelude.{ℕ, List, [], ◌∷◌, ◌++◌, Option, Some, None, codes, flat_map}
use Rattle.std.specs.Option.{option_map}
use Rattle.tree_base.specs.Limits.{greatest_number}
use Rattle.attribute_types.specs.declared.attribute.Attribute.{Attribute}
use Rattle.attribute_types.specs.declared.rows.Logging.{Logging}
use Rattle.engine_types.specs.declared.LogConfig.{LogConfig}
use Rattle.engine_types.specs.declared.RestartPolicy.{RestartPolicy}
use Rattle.short_forms.specs.Cuts.{cut_once}
use Rattle.short_forms.specs.Digits.{number_up_to}
use Rattle.tree_base.specs.ByteOrder.{by_key}
use Rattle.container_specs.specs.Lists.{named_pairs, unless_empty, vars_of}
use Rattle.container_specs.specs.Numbers.{signed}

-- a variable as the Engine takes it; one without a value isn't sent
abbrev pub setting_of : List ℕ → Option (List ℕ) → List (List ℕ)
setting_of name None = []
setting_of name (Some value) = (name ++ codes "=" ++ value) ∷ []

-- the variables, in byte order of the whole texts
abbrev pub env_of : List Attribute → Option (List (List ℕ))
env_of attributes =
    unless_empty
    (by_key (λ text. text)
    (flat_map (λ pair. setting_of pair.0 pair.1) (named_pairs attributes (codes "environment"))))

-- a policy, of which the number of tries may stand behind a colon
abbrev pub policy_of : List ℕ → Option (List ℕ × List ℕ) → RestartPolicy
policy_of word None = record { name = word; maximum_retry_count = None }
policy_of word (Some (name, tries)) =
    record { name = name; maximum_retry_count = option_map signed (number_up_to greatest_number tries) }

-- when the container is started again
abbrev pub restart_policy_of : List ℕ → RestartPolicy
restart_policy_of word = policy_of word (cut_once 58 word)

-- where its output goes
abbrev pub log_config_of : Logging → LogConfig
log_config_of logging = record { kind = logging.driver; config = unless_empty (vars_of logging.options) }
