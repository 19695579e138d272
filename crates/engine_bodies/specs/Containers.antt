-- A container as the body of `POST /containers/create` (Docker Engine API v1.43), member by member.
use Rattle.std.specs.Prelude.{ℕ, List, [], ◌∷◌, ◌++◌, Option, Some, codes, fold}
use Rattle.std.specs.Option.{option_map}
use Rattle.serde_json.specs.Data.{Data, boolean, no_members, string}
use Rattle.engine_types.specs.declared.ContainerSpec.{ContainerSpec}
use Rattle.engine_types.specs.declared.container.Device.{Device}
use Rattle.engine_types.specs.declared.container.Endpoint.{Endpoint}
use Rattle.engine_types.specs.declared.container.Healthcheck.{Healthcheck}
use Rattle.engine_types.specs.declared.container.LogConfig.{LogConfig}
use Rattle.engine_types.specs.declared.container.PortBinding.{PortBinding}
use Rattle.engine_types.specs.declared.container.PortBindings.{PortBindings}
use Rattle.engine_types.specs.declared.container.RestartPolicy.{RestartPolicy}
use Rattle.engine_types.specs.declared.container.Ulimit.{Ulimit}
use Rattle.engine_bodies.specs.Json.{Member, array_of, if_any, integer, mapping_of, object_of, pairs, set_of, texts, with_member}

-- `Healthcheck`, member by member
abbrev pub healthcheck_members : Healthcheck → List Member
healthcheck_members check =
    (codes "Interval", option_map integer check.interval)
    ∷ (codes "Retries", option_map integer check.retries)
    ∷ (codes "StartPeriod", option_map integer check.start_period)
    ∷ (codes "Test", option_map texts check.test)
    ∷ (codes "Timeout", option_map integer check.timeout) ∷ []

-- how health is asked
abbrev pub healthcheck_value : Healthcheck → Data
healthcheck_value check = object_of (healthcheck_members check)

-- a row of `Ulimits`, member by member
abbrev pub ulimit_members : Ulimit → List Member
ulimit_members limit =
    (codes "Hard", Some (integer limit.hard))
    ∷ (codes "Name", Some (string limit.name))
    ∷ (codes "Soft", Some (integer limit.soft)) ∷ []

-- a limit
abbrev pub ulimit_value : Ulimit → Data
ulimit_value limit = object_of (ulimit_members limit)

-- a row of `Devices`, member by member
abbrev pub device_members : Device → List Member
device_members device =
    (codes "CgroupPermissions", Some (string device.cgroup_permissions))
    ∷ (codes "PathInContainer", Some (string device.path_in_container))
    ∷ (codes "PathOnHost", Some (string device.path_on_host)) ∷ []

-- a device
abbrev pub device_value : Device → Data
device_value device = object_of (device_members device)

-- `LogConfig`, member by member
abbrev pub log_config_members : LogConfig → List Member
log_config_members logging =
    (codes "Config", option_map pairs logging.config)
    ∷ (codes "Type", option_map string logging.kind) ∷ []

-- where output goes
abbrev pub log_config_value : LogConfig → Data
log_config_value logging = object_of (log_config_members logging)

-- `RestartPolicy`, member by member
abbrev pub restart_policy_members : RestartPolicy → List Member
restart_policy_members policy =
    (codes "MaximumRetryCount", option_map integer policy.maximum_retry_count)
    ∷ (codes "Name", Some (string policy.name)) ∷ []

-- when a container is started anew
abbrev pub restart_policy_value : RestartPolicy → Data
restart_policy_value policy = object_of (restart_policy_members policy)

-- a row of `PortBindings`, member by member
abbrev pub port_binding_members : PortBinding → List Member
port_binding_members binding =
    (codes "HostIp", option_map string binding.host_ip)
    ∷ (codes "HostPort", option_map string binding.host_port) ∷ []

-- where a port is published
abbrev pub port_binding_value : PortBinding → Data
port_binding_value binding = object_of (port_binding_members binding)

-- where ports are published, each port with its list
abbrev pub port_bindings_value : List PortBindings → Data
port_bindings_value ports =
    mapping_of (λ port. port.key) (λ port. array_of port_binding_value port.bindings) ports

-- what is said of one network that is joined, member by member
abbrev pub endpoint_members : List (List ℕ) → List Member
endpoint_members aliases =
    (codes "Aliases", Some (texts aliases)) ∷ []

-- how a network is joined
abbrev pub endpoint_value : List (List ℕ) → Data
endpoint_value aliases = object_of (endpoint_members aliases)

-- `NetworkingConfig`, member by member
abbrev pub networking_members : List Endpoint → List Member
networking_members endpoints = (
  codes "EndpointsConfig",
  Some (mapping_of (λ endpoint. endpoint.key) (λ endpoint. endpoint_value endpoint.aliases) endpoints),
) ∷ []

-- the networks that are joined, each under its name
abbrev pub networking_value : List Endpoint → Data
networking_value endpoints = object_of (networking_members endpoints)

-- what a container may do on its host
abbrev pub host_rights : ContainerSpec → List Member
host_rights spec =
    (codes "CapAdd", option_map texts spec.cap_add)
    ∷ (codes "CapDrop", option_map texts spec.cap_drop)
    ∷ (codes "Devices", option_map (array_of device_value) spec.devices)
    ∷ (codes "GroupAdd", option_map texts spec.group_add)
    ∷ (codes "IpcMode", option_map string spec.ipc_mode)
    ∷ (codes "PidMode", option_map string spec.pid_mode)
    ∷ (codes "Privileged", option_map boolean spec.privileged)
    ∷ (codes "ReadonlyRootfs", option_map boolean spec.readonly_rootfs)
    ∷ (codes "SecurityOpt", option_map texts spec.security_opt)
    ∷ (codes "Sysctls", option_map pairs spec.sysctls)
    ∷ (codes "UsernsMode", option_map string spec.userns_mode) ∷ []

-- what it may take of its host, and how it is run
abbrev pub host_limits : ContainerSpec → List Member
host_limits spec =
    (codes "CpuShares", option_map integer spec.cpu_shares)
    ∷ (codes "CpusetCpus", option_map string spec.cpuset_cpus)
    ∷ (codes "Init", option_map boolean spec.init)
    ∷ (codes "LogConfig", option_map log_config_value spec.log_config)
    ∷ (codes "Memory", option_map integer spec.memory)
    ∷ (codes "MemoryReservation", option_map integer spec.memory_reservation)
    ∷ (codes "NanoCpus", option_map integer spec.nano_cpus)
    ∷ (codes "PidsLimit", option_map integer spec.pids_limit)
    ∷ (codes "RestartPolicy", option_map restart_policy_value spec.restart_policy)
    ∷ (codes "ShmSize", option_map integer spec.shm_size)
    ∷ (codes "Ulimits", option_map (array_of ulimit_value) spec.ulimits) ∷ []

-- its files and networks
abbrev pub host_ties : ContainerSpec → List Member
host_ties spec =
    (codes "Binds", option_map texts spec.binds)
    ∷ (codes "Dns", option_map texts spec.dns)
    ∷ (codes "DnsOptions", option_map texts spec.dns_options)
    ∷ (codes "DnsSearch", option_map texts spec.dns_search)
    ∷ (codes "ExtraHosts", option_map texts spec.extra_hosts)
    ∷ (codes "NetworkMode", option_map string spec.network_mode)
    ∷ (codes "PortBindings", option_map port_bindings_value spec.port_bindings)
    ∷ (codes "Tmpfs", option_map pairs spec.tmpfs) ∷ []

-- the members of `HostConfig`
abbrev pub host_members : ContainerSpec → List Member
host_members spec = host_rights spec ++ host_limits spec ++ host_ties spec

-- `HostConfig`, where it has a member
abbrev pub host_value : ContainerSpec → Option Data
host_value spec = if_any (fold with_member no_members (host_members spec))

-- the members of the body; the platform goes into the query
abbrev pub container_members : ContainerSpec → List Member
container_members spec =
    (codes "Cmd", option_map texts spec.cmd)
    ∷ (codes "Domainname", option_map string spec.domainname)
    ∷ (codes "Entrypoint", option_map texts spec.entrypoint)
    ∷ (codes "Env", option_map texts spec.env)
    ∷ (codes "ExposedPorts", option_map set_of spec.exposed_ports)
    ∷ (codes "Healthcheck", option_map healthcheck_value spec.healthcheck)
    ∷ (codes "HostConfig", host_value spec)
    ∷ (codes "Hostname", option_map string spec.hostname)
    ∷ (codes "Image", option_map string spec.image)
    ∷ (codes "Labels", Some (pairs spec.labels))
    ∷ (codes "NetworkingConfig", option_map networking_value spec.endpoints_config)
    ∷ (codes "OpenStdin", option_map boolean spec.open_stdin)
    ∷ (codes "StopSignal", option_map string spec.stop_signal)
    ∷ (codes "StopTimeout", option_map integer spec.stop_timeout)
    ∷ (codes "Tty", option_map boolean spec.tty)
    ∷ (codes "User", option_map string spec.user)
    ∷ (codes "Volumes", option_map set_of spec.volumes)
    ∷ (codes "WorkingDir", option_map string spec.working_dir)
    ∷ []

-- the body
abbrev pub container_value : ContainerSpec → Data
container_value spec = object_of (container_members spec)
