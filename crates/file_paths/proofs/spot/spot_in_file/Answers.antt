use Rattle.std.specs.Prelude.{codes, List, ℕ}
use Rattle.std.proofs.Common.{◌≡◌, ◌++◌, [], refl, sym}
use Rattle.attribute_paths.specs.Patterns.{below_key}
use Rattle.attribute_paths.proofs.Lines.{apart, in_front, none_below, none_both}
use Rattle.file_paths.specs.PathRules.{PathRules, path_rules}
use Rattle.file_paths.specs.Spots.{include_rules, services_rules, files_rules}
use Rattle.file_paths.proofs.spot.spot_in_file.Goals as goal

pub returns-in-include : goal.returns-in-include
unfolding include_rules
returns-in-include c = rw c.in-include.is refl

pub returns-in-services : goal.returns-in-services
unfolding services_rules
returns-in-services c = rw c.in-services.is refl

pub returns-in-secrets : goal.returns-in-secrets
unfolding files_rules
returns-in-secrets c = rw c.in-secrets.is refl

-- configs have the rules of secrets
configs_same : files_rules ≡ below_key (codes "configs") path_rules
unfolding files_rules path_rules
configs_same = refl

pub returns-in-configs : goal.returns-in-configs
returns-in-configs c = rw c.in-configs.is configs_same

-- the last rules of the table, from a key on
abbrev config_lines : PathRules
config_lines = in_front (codes "configs") files_rules

abbrev file_lines : PathRules
file_lines = in_front (codes "secrets") files_rules ++ config_lines

abbrev later_lines : PathRules
later_lines = in_front (codes "services") services_rules ++ file_lines

-- no rule of the table holds under another key
none_else : (key : List ℕ) → (key ≡ codes "include" → ⊥) → (key ≡ codes "services" → ⊥) → (key ≡ codes "secrets" → ⊥) → (key ≡ codes "configs" → ⊥) → [] ≡ below_key key path_rules
unfolding path_rules include_rules services_rules files_rules
none_else key no_include no_service no_secret no_config =
    sym (none_both key (in_front (codes "include") include_rules) later_lines
    (none_below key (codes "include") include_rules (apart (codes "include") key no_include))
    (none_both key (in_front (codes "services") services_rules) file_lines
    (none_below key (codes "services") services_rules (apart (codes "services") key no_service))
    (none_both key (in_front (codes "secrets") files_rules) config_lines
    (none_below key (codes "secrets") files_rules (apart (codes "secrets") key no_secret))
    (none_below key (codes "configs") files_rules (apart (codes "configs") key no_config)))))

pub returns-in_default : goal.returns-in_default
returns-in_default c =
    let n = c.in_default in
    none_else c.args.key.now n.not-include n.not-services n.not-secrets n.not-configs
