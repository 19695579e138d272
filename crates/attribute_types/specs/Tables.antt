-- What stands under each name, a line an attribute (Compose Specification: services, networks, volumes, secrets, configs, and the
-- long syntax of each attribute that has one).
use Rattle.std.specs.Prelude.{ℕ, List, [], ◌∷◌, Option, codes, find}
use Rattle.std.specs.Option.{option_map, option_or}
use Rattle.std.specs.Str.{bytes_eq}
use Rattle.attribute_types.specs.declared.form.Form.{Form}
use Rattle.attribute_types.specs.declared.form.Form.TheVariants.{Plain, Own, Consumed}
use Rattle.attribute_types.specs.declared.form.ItemForm.TheVariants as items
use Rattle.attribute_types.specs.declared.form.Plain as forms
use Rattle.attribute_types.specs.declared.form.Plain.TheVariants as plain
use Rattle.attribute_types.specs.declared.form.Row.TheVariants as row
use Rattle.attribute_types.specs.declared.form.WordSet.TheVariants as words
use Rattle.attribute_types.specs.declared.table.Line.{Line}
use Rattle.attribute_types.specs.declared.table.ServiceLine.{ServiceLine}

-- names, and what stands under each
abbrev pub Lines : Type 0 → Type 0
Lines F = List (List ℕ × F)

-- a line of the program's own tables
abbrev pub seen_line : Line → List ℕ × forms.Plain
seen_line line = (line.name.now, line.plain)

-- a line of its tables of services
abbrev pub seen_service_line : ServiceLine → List ℕ × Form
seen_service_line line = (line.name.now, line.form)

-- what runs in a service's container
unfoldable pub process_lines : Lines Form
process_lines =
    (codes "command", Plain plain.Argv)
    ∷ (codes "entrypoint", Plain plain.Argv)
    ∷ (codes "environment", Plain plain.Pairs)
    ∷ (codes "image", Plain plain.Text)
    ∷ (codes "init", Plain plain.Bool)
    ∷ (codes "stdin_open", Plain plain.Bool)
    ∷ (codes "stop_grace_period", Plain plain.Duration)
    ∷ (codes "stop_signal", Plain plain.Text)
    ∷ (codes "tty", Plain plain.Bool)
    ∷ (codes "user", Plain plain.Text)
    ∷ (codes "working_dir", Plain plain.Text) ∷ []

-- what the container may do on its host
unfoldable pub host_lines : Lines Form
host_lines =
    (codes "cap_add", Plain plain.List)
    ∷ (codes "cap_drop", Plain plain.List)
    ∷ (codes "devices", Plain (plain.Items items.Device))
    ∷ (codes "group_add", Plain plain.List)
    ∷ (codes "ipc", Plain (plain.Word words.OwnNamespaces))
    ∷ (codes "pid", Plain (plain.Word words.OwnNamespaces))
    ∷ (codes "privileged", Plain plain.Bool)
    ∷ (codes "read_only", Plain plain.Flag)
    ∷ (codes "security_opt", Plain (plain.Items items.SecurityOption))
    ∷ (codes "sysctls", Plain plain.Pairs)
    ∷ (codes "ulimits", Own row.Ulimits)
    ∷ (codes "userns_mode", Plain plain.Text) ∷ []

-- what it takes of the host, and what it sees of files
unfoldable pub resource_lines : Lines Form
resource_lines =
    (codes "configs", Own row.Configs)
    ∷ (codes "cpu_shares", Plain plain.Num)
    ∷ (codes "cpus", Plain plain.Decimal)
    ∷ (codes "cpuset", Plain plain.Text)
    ∷ (codes "mem_limit", Plain plain.Size)
    ∷ (codes "mem_reservation", Plain plain.Size)
    ∷ (codes "pids_limit", Plain plain.Int)
    ∷ (codes "secrets", Own row.Secrets)
    ∷ (codes "shm_size", Plain plain.Size)
    ∷ (codes "tmpfs", Plain (plain.Items items.Tmpfs))
    ∷ (codes "volumes", Own row.Mounts) ∷ []

-- how it is on networks
unfoldable pub joining_lines : Lines Form
joining_lines =
    (codes "dns", Plain plain.List)
    ∷ (codes "dns_opt", Plain plain.List)
    ∷ (codes "dns_search", Plain plain.List)
    ∷ (codes "domainname", Plain plain.Text)
    ∷ (codes "expose", Plain (plain.Items items.Exposed))
    ∷ (codes "extra_hosts", Plain plain.Pairs)
    ∷ (codes "hostname", Plain plain.Text)
    ∷ (codes "network_mode", Plain plain.NetworkMode)
    ∷ (codes "networks", Own row.Networks)
    ∷ (codes "ports", Own row.Ports) ∷ []

-- how the service is run among others
unfoldable pub running_lines : Lines Form
running_lines =
    (codes "build", Plain plain.Kept)
    ∷ (codes "container_name", Plain plain.Text)
    ∷ (codes "depends_on", Own row.Dependencies)
    ∷ (codes "deploy", Plain plain.Deploy)
    ∷ (codes "env_file", Consumed)
    ∷ (codes "extends", Consumed)
    ∷ (codes "healthcheck", Own row.HealthCheck)
    ∷ (codes "labels", Plain plain.Labels)
    ∷ (codes "logging", Own row.Logging)
    ∷ (codes "platform", Plain plain.Text)
    ∷ (codes "profiles", Plain plain.List)
    ∷ (codes "pull_policy", Plain (plain.Word words.PullPolicies))
    ∷ (codes "restart", Plain (plain.Word words.Restarts))
    ∷ (codes "scale", Plain plain.Scale) ∷ []

-- what stands under a name, where a line has it
abbrev pub line_of : {F : Type 0} → Lines F → List ℕ → Option F
line_of lines name = option_map (λ line. line.1) (find (λ line. bytes_eq line.0 name) lines)

-- what stands under a name of a service, where one of its tables has it
abbrev pub form_of : List ℕ → Option Form
form_of name =
    option_or (line_of process_lines name)
    (option_or (line_of host_lines name)
    (option_or (line_of resource_lines name)
    (option_or (line_of joining_lines name) (line_of running_lines name))))

-- the attributes of a network
unfoldable pub network_lines : Lines forms.Plain
network_lines =
    (codes "attachable", plain.Bool)
    ∷ (codes "driver", plain.Text)
    ∷ (codes "driver_opts", plain.Pairs)
    ∷ (codes "enable_ipv6", plain.Bool)
    ∷ (codes "external", plain.External)
    ∷ (codes "internal", plain.Bool)
    ∷ (codes "labels", plain.Pairs)
    ∷ (codes "name", plain.Text) ∷ []

-- the attributes of a volume
unfoldable pub volume_lines : Lines forms.Plain
volume_lines =
    (codes "driver", plain.Text)
    ∷ (codes "driver_opts", plain.Pairs)
    ∷ (codes "external", plain.External)
    ∷ (codes "labels", plain.Pairs)
    ∷ (codes "name", plain.Text) ∷ []

-- the attributes of a secret or a config
unfoldable pub file_lines : Lines forms.Plain
file_lines = (codes "file", plain.Text) ∷ []

-- a limit of two numbers
unfoldable pub ulimit_lines : Lines forms.Plain
ulimit_lines = (codes "hard", plain.Int) ∷ (codes "soft", plain.Int) ∷ []

-- where output goes
unfoldable pub logging_lines : Lines forms.Plain
logging_lines = (codes "driver", plain.Text) ∷ (codes "options", plain.Pairs) ∷ []

-- a port
unfoldable pub port_lines : Lines forms.Plain
port_lines =
    (codes "app_protocol", plain.Dropped)
    ∷ (codes "host_ip", plain.Text)
    ∷ (codes "mode", plain.Dropped)
    ∷ (codes "name", plain.Dropped)
    ∷ (codes "protocol", plain.Word words.Protocols)
    ∷ (codes "published", plain.Published)
    ∷ (codes "target", plain.PortTarget) ∷ []

-- a mount; the options of a bind are read by themselves
unfoldable pub mount_lines : Lines forms.Plain
mount_lines =
    (codes "bind", plain.Bind)
    ∷ (codes "read_only", plain.Flag)
    ∷ (codes "source", plain.Source)
    ∷ (codes "target", plain.Target)
    ∷ (codes "type", plain.Word words.MountTypes)
    ∷ (codes "volume", plain.NoOptions) ∷ []

-- a secret or a config that a service uses
unfoldable pub file_use_lines : Lines forms.Plain
file_use_lines =
    (codes "gid", plain.Text)
    ∷ (codes "mode", plain.Text)
    ∷ (codes "source", plain.Text)
    ∷ (codes "target", plain.Target)
    ∷ (codes "uid", plain.Text) ∷ []

-- a network that a service joins
unfoldable pub network_use_lines : Lines forms.Plain
network_use_lines = (codes "aliases", plain.List) ∷ []

-- how a container's health is asked
unfoldable pub health_lines : Lines forms.Plain
health_lines =
    (codes "disable", plain.Bool)
    ∷ (codes "interval", plain.Duration)
    ∷ (codes "retries", plain.Num)
    ∷ (codes "start_interval", plain.Duration)
    ∷ (codes "start_period", plain.Duration)
    ∷ (codes "test", plain.Test)
    ∷ (codes "timeout", plain.Duration) ∷ []

-- a service that another one needs
unfoldable pub dependency_lines : Lines forms.Plain
dependency_lines =
    (codes "condition", plain.Word words.Conditions)
    ∷ (codes "required", plain.Bool)
    ∷ (codes "restart", plain.Flag) ∷ []
