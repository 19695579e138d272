-- Each record by its fields, and the entries that they are.
use Rattle.std.proofs.Common.{◌≡◌, ◌∙◌, ◌++◌, List, [], ◌∷◌, codes, map, refl}
use Rattle.std.specs.Prelude.{Some}
use Rattle.std.specs.Fmt.{signed_decimal}
use Rattle.std.specs.Option.{option_map}
use Rattle.short_forms.specs.MountLaws.{type_word}
use Rattle.short_forms.specs.declared.mounts.Mount.{Mount}
use Rattle.short_forms.specs.declared.ports.Port.{Port}
use Rattle.attribute_types.specs.declared.rows.Dependency.{Dependency}
use Rattle.attribute_types.specs.declared.rows.FileUse.{FileUse}
use Rattle.attribute_types.specs.declared.rows.HealthCheck.{HealthCheck}
use Rattle.attribute_types.specs.declared.rows.Logging.{Logging}
use Rattle.attribute_types.specs.declared.rows.Ulimit.{Ulimit}
use Rattle.typed_project.specs.declared.project.Project.{Project}
use Rattle.project_print.specs.declared.node.Node.TheVariants.{Map, Text, Word}
use Rattle.project_pages.specs.AttributePages.{bool_node, condition_word, check_node, duration_node, file_entry, file_use_node, label_node, logging_node, mount_node, network_entry, number_node, pairs_node, port_node, project_node, service_entry, texts_node, volume_entry}
use Rattle.project_pages.specs.Puts.{any_of, limit_node, need_node, true_node}
use Rattle.project_pages.proofs.Fields.{Field, any, fields_put, last, puts, there, truth}

-- a limit
abbrev pub limit_fields : Ulimit → List Field
limit_fields limit = (codes "hard", Some (Word (signed_decimal limit.hard))) ∷ (codes "soft", Some (Word (signed_decimal limit.soft))) ∷ []

pub limit_put : (limit : Ulimit) → Map (puts [] (limit_fields limit)) ≡ limit_node limit
limit_put limit = λ i. Map (fields_put (limit_fields limit) refl i)

-- where output goes
abbrev pub logging_fields : Logging → List Field
logging_fields logging = (codes "driver", option_map Text logging.driver) ∷ (codes "options", option_map pairs_node (any_of logging.options)) ∷ []

pub logging_put : (logging : Logging) → Map (puts [] (logging_fields logging)) ≡ logging_node logging
logging_put logging =
    (λ i. Map (fields_put (logging_fields logging) refl i))
    ∙ (λ i. Map (there (codes "driver") Text logging.driver i ++ last _ _ (any (codes "options") pairs_node logging.options) i))

-- a port
abbrev pub port_fields : Port → List Field
port_fields port =
    (codes "host_ip", option_map Text port.host_ip)
    ∷ (codes "protocol", Some (Text port.protocol))
    ∷ (codes "published", option_map Text port.published)
    ∷ (codes "target", Some (number_node port.target))
    ∷ []

pub port_put : (port : Port) → Map (puts [] (port_fields port)) ≡ port_node port
port_put port =
    (λ i. Map (fields_put (port_fields port) refl i))
    ∙ (λ i. Map (there (codes "host_ip") Text port.host_ip i
    ++ (codes "protocol", Text port.protocol)
    ∷ (there (codes "published") Text port.published i ++ (codes "target", number_node port.target) ∷ [])))

-- a mount
abbrev pub mount_fields : Mount → List Field
mount_fields mount =
    (codes "bind", option_map label_node mount.selinux)
    ∷ (codes "read_only", true_node mount.read_only)
    ∷ (codes "source", option_map Text mount.source)
    ∷ (codes "target", Some (Text mount.target))
    ∷ (codes "type", Some (Text (type_word mount.kind)))
    ∷ []

pub mount_put : (mount : Mount) → Map (puts [] (mount_fields mount)) ≡ mount_node mount
mount_put mount =
    (λ i. Map (fields_put (mount_fields mount) refl i))
    ∙ (λ i. Map (there (codes "bind") label_node mount.selinux i
    ++ (truth (codes "read_only") mount.read_only i
    ++ (there (codes "source") Text mount.source i ++ (codes "target", Text mount.target) ∷ (codes "type", Text (type_word mount.kind)) ∷ []))))

-- the use of a secret or a config
abbrev pub file_use_fields : FileUse → List Field
file_use_fields file =
    (codes "gid", option_map Text file.gid)
    ∷ (codes "mode", option_map Text file.mode)
    ∷ (codes "source", Some (Text file.source))
    ∷ (codes "target", Some (Text file.target))
    ∷ (codes "uid", option_map Text file.uid)
    ∷ []

pub file_use_put : (file : FileUse) → Map (puts [] (file_use_fields file)) ≡ file_use_node file
file_use_put file =
    (λ i. Map (fields_put (file_use_fields file) refl i))
    ∙ (λ i. Map (there (codes "gid") Text file.gid i
    ++ (there (codes "mode") Text file.mode i
    ++ (codes "source", Text file.source) ∷ (codes "target", Text file.target) ∷ last _ _ (there (codes "uid") Text file.uid) i)))

-- how health is asked
abbrev pub check_fields : HealthCheck → List Field
check_fields check =
    (codes "disable", option_map bool_node check.disable)
    ∷ (codes "interval", option_map duration_node check.interval)
    ∷ (codes "retries", option_map number_node check.retries)
    ∷ (codes "start_interval", option_map duration_node check.start_interval)
    ∷ (codes "start_period", option_map duration_node check.start_period)
    ∷ (codes "test", option_map texts_node check.test)
    ∷ (codes "timeout", option_map duration_node check.timeout)
    ∷ []

pub check_put : (check : HealthCheck) → Map (puts [] (check_fields check)) ≡ check_node check
check_put check =
    (λ i. Map (fields_put (check_fields check) refl i))
    ∙ (λ i. Map (there (codes "disable") bool_node check.disable i
    ++ (there (codes "interval") duration_node check.interval i
    ++ (there (codes "retries") number_node check.retries i
    ++ (there (codes "start_interval") duration_node check.start_interval i
    ++ (there (codes "start_period") duration_node check.start_period i
    ++ (there (codes "test") texts_node check.test i ++ last _ _ (there (codes "timeout") duration_node check.timeout) i)))))))

-- a dependency
abbrev pub need_fields : Dependency → List Field
need_fields need =
    (codes "condition", Some (Text (condition_word need.condition))) ∷ (codes "required", Some (bool_node need.required)) ∷ (codes "restart", true_node need.restart) ∷ []

pub need_put : (need : Dependency) → Map (puts [] (need_fields need)) ≡ need_node need
need_put need =
    (λ i. Map (fields_put (need_fields need) refl i))
    ∙ (λ i. Map ((codes "condition", Text (condition_word need.condition)) ∷ (codes "required", bool_node need.required) ∷ last _ _ (truth (codes "restart") need.restart) i))

-- a project
abbrev pub project_fields : Project → List Field
project_fields project =
    (codes "configs", option_map (λ configs. Map (map file_entry configs)) (any_of project.configs))
    ∷ (codes "name", Some (Text project.name))
    ∷ (codes "networks", option_map (λ networks. Map (map network_entry networks)) (any_of project.networks))
    ∷ (codes "secrets", option_map (λ secrets. Map (map file_entry secrets)) (any_of project.secrets))
    ∷ (codes "services", Some (Map (map service_entry project.services)))
    ∷ (codes "volumes", option_map (λ volumes. Map (map volume_entry volumes)) (any_of project.volumes))
    ∷ []

pub project_put : (project : Project) → Map (puts [] (project_fields project)) ≡ project_node project
project_put project =
    (λ i. Map (fields_put (project_fields project) refl i))
    ∙ (λ i. Map (any (codes "configs") (λ configs. Map (map file_entry configs)) project.configs i
    ++ (codes "name", Text project.name)
    ∷ (any (codes "networks") (λ networks. Map (map network_entry networks)) project.networks i
    ++ (any (codes "secrets") (λ secrets. Map (map file_entry secrets)) project.secrets i
    ++ (codes "services", Map (map service_entry project.services))
    ∷ last _ _ (any (codes "volumes") (λ volumes. Map (map volume_entry volumes)) project.volumes) i))))
