-- Each body tells the description that it is made of.
use Rattle.std.proofs.Common.{◌≡◌, ℕ, false, List, None, fold, refl, lit<}
use Rattle.serde_json.specs.Data.{Data, boolean, no_members, object, string}
use Rattle.engine_types.specs.declared.ContainerSpec.{ContainerSpec}
use Rattle.engine_types.specs.declared.container.Device.{Device}
use Rattle.engine_types.specs.declared.container.Endpoint.{Endpoint}
use Rattle.engine_types.specs.declared.container.Healthcheck.{Healthcheck}
use Rattle.engine_types.specs.declared.container.LogConfig.{LogConfig}
use Rattle.engine_types.specs.declared.container.PortBinding.{PortBinding}
use Rattle.engine_types.specs.declared.container.PortBindings.{PortBindings}
use Rattle.engine_types.specs.declared.container.RestartPolicy.{RestartPolicy}
use Rattle.engine_types.specs.declared.container.Ulimit.{Ulimit}
use Rattle.engine_bodies.specs.Containers.{container_members, device_members, device_value, endpoint_members, endpoint_value, healthcheck_members, healthcheck_value, host_members, log_config_members, log_config_value, networking_members, networking_value, port_binding_members, port_binding_value, port_bindings_value, restart_policy_members, restart_policy_value, ulimit_members, ulimit_value}
use Rattle.engine_bodies.specs.Json.{array_of, integer, mapping_of, pairs, set_of, texts, with_member}
use Rattle.engine_bodies.specs.Resources.{connect_members, network_members, volume_members}
use Rattle.laws_bytes.specs.Differences.{BodiesTellConnections, BodiesTellContainers, BodiesTellNetworks, BodiesTellVolumes, IfAny, InOrder, IsOrdered, NamesInOrder, PairsInOrder}
use Rattle.laws_bytes.proofs.Same.{any_same, array_same, boolean_same, integer_same, mapping_same, option_same, option_same_if, pairs_same, same_at, set_same, some_same, string_same, texts_same}

pub healthcheck_same : (a b : Healthcheck) → healthcheck_value a ≡ healthcheck_value b → a ≡ b
healthcheck_same a b e =
    let interval : a.interval ≡ b.interval = option_same integer integer_same a.interval b.interval (same_at (healthcheck_members a) (healthcheck_members b) refl refl e 0 (lit< tt) (lit< tt) refl) in
    let retries : a.retries ≡ b.retries = option_same integer integer_same a.retries b.retries (same_at (healthcheck_members a) (healthcheck_members b) refl refl e 1 (lit< tt) (lit< tt) refl) in
    let start_period : a.start_period ≡ b.start_period = option_same integer integer_same a.start_period b.start_period (same_at (healthcheck_members a) (healthcheck_members b) refl refl e 2 (lit< tt) (lit< tt) refl) in
    let test : a.test ≡ b.test = option_same texts texts_same a.test b.test (same_at (healthcheck_members a) (healthcheck_members b) refl refl e 3 (lit< tt) (lit< tt) refl) in
    let timeout : a.timeout ≡ b.timeout = option_same integer integer_same a.timeout b.timeout (same_at (healthcheck_members a) (healthcheck_members b) refl refl e 4 (lit< tt) (lit< tt) refl) in
    (λ i. record { interval = interval i; retries = retries i; start_period = start_period i; test = test i; timeout = timeout i })

pub ulimit_same : (a b : Ulimit) → ulimit_value a ≡ ulimit_value b → a ≡ b
ulimit_same a b e =
    let hard : a.hard ≡ b.hard = integer_same a.hard b.hard (some_same (integer a.hard) (integer b.hard) (same_at (ulimit_members a) (ulimit_members b) refl refl e 0 (lit< tt) (lit< tt) refl)) in
    let name : a.name ≡ b.name = string_same a.name b.name (some_same (string a.name) (string b.name) (same_at (ulimit_members a) (ulimit_members b) refl refl e 1 (lit< tt) (lit< tt) refl)) in
    let soft : a.soft ≡ b.soft = integer_same a.soft b.soft (some_same (integer a.soft) (integer b.soft) (same_at (ulimit_members a) (ulimit_members b) refl refl e 2 (lit< tt) (lit< tt) refl)) in
    (λ i. record { hard = hard i; name = name i; soft = soft i })

pub device_same : (a b : Device) → device_value a ≡ device_value b → a ≡ b
device_same a b e =
    let cgroup_permissions : a.cgroup_permissions ≡ b.cgroup_permissions = string_same a.cgroup_permissions b.cgroup_permissions (some_same (string a.cgroup_permissions) (string b.cgroup_permissions) (same_at (device_members a) (device_members b) refl refl e 0 (lit< tt) (lit< tt) refl)) in
    let path_in_container : a.path_in_container ≡ b.path_in_container = string_same a.path_in_container b.path_in_container (some_same (string a.path_in_container) (string b.path_in_container) (same_at (device_members a) (device_members b) refl refl e 1 (lit< tt) (lit< tt) refl)) in
    let path_on_host : a.path_on_host ≡ b.path_on_host = string_same a.path_on_host b.path_on_host (some_same (string a.path_on_host) (string b.path_on_host) (same_at (device_members a) (device_members b) refl refl e 2 (lit< tt) (lit< tt) refl)) in
    (λ i. record { cgroup_permissions = cgroup_permissions i; path_in_container = path_in_container i; path_on_host = path_on_host i })

pub restart_policy_same : (a b : RestartPolicy) → restart_policy_value a ≡ restart_policy_value b → a ≡ b
restart_policy_same a b e =
    let maximum_retry_count : a.maximum_retry_count ≡ b.maximum_retry_count = option_same integer integer_same a.maximum_retry_count b.maximum_retry_count (same_at (restart_policy_members a) (restart_policy_members b) refl refl e 0 (lit< tt) (lit< tt) refl) in
    let name : a.name ≡ b.name = string_same a.name b.name (some_same (string a.name) (string b.name) (same_at (restart_policy_members a) (restart_policy_members b) refl refl e 1 (lit< tt) (lit< tt) refl)) in
    (λ i. record { maximum_retry_count = maximum_retry_count i; name = name i })

pub port_binding_same : (a b : PortBinding) → port_binding_value a ≡ port_binding_value b → a ≡ b
port_binding_same a b e =
    let host_ip : a.host_ip ≡ b.host_ip = option_same string string_same a.host_ip b.host_ip (same_at (port_binding_members a) (port_binding_members b) refl refl e 0 (lit< tt) (lit< tt) refl) in
    let host_port : a.host_port ≡ b.host_port = option_same string string_same a.host_port b.host_port (same_at (port_binding_members a) (port_binding_members b) refl refl e 1 (lit< tt) (lit< tt) refl) in
    (λ i. record { host_ip = host_ip i; host_port = host_port i })

pub log_config_same : (a b : LogConfig) → IfAny PairsInOrder a.config → IfAny PairsInOrder b.config → log_config_value a ≡ log_config_value b → a ≡ b
log_config_same a b p q e =
    let config : a.config ≡ b.config = option_same_if PairsInOrder pairs pairs_same a.config b.config p q (same_at (log_config_members a) (log_config_members b) refl refl e 0 (lit< tt) (lit< tt) refl) in
    let kind : a.kind ≡ b.kind = option_same string string_same a.kind b.kind (same_at (log_config_members a) (log_config_members b) refl refl e 1 (lit< tt) (lit< tt) refl) in
    (λ i. record { kind = kind i; config = config i })

ports_same : (a b : PortBindings) → a.key ≡ b.key → array_of port_binding_value a.bindings ≡ array_of port_binding_value b.bindings → a ≡ b
ports_same a b k e = let bindings : a.bindings ≡ b.bindings = array_same port_binding_value port_binding_same a.bindings b.bindings e in (λ i. record { key = k i; bindings = bindings i })

port_bindings_same : (a b : List PortBindings) → InOrder (λ port. port.key) a → InOrder (λ port. port.key) b → port_bindings_value a ≡ port_bindings_value b → a ≡ b
port_bindings_same a b p q e = mapping_same (λ port. port.key) (λ port. array_of port_binding_value port.bindings) ports_same a b p q e

aliases_same : (a b : List (List ℕ)) → endpoint_value a ≡ endpoint_value b → a ≡ b
aliases_same a b e = texts_same a b (some_same (texts a) (texts b) (same_at (endpoint_members a) (endpoint_members b) refl refl e 0 (lit< tt) (lit< tt) refl))

endpoint_same : (a b : Endpoint) → a.key ≡ b.key → endpoint_value a.aliases ≡ endpoint_value b.aliases → a ≡ b
endpoint_same a b k e = let aliases : a.aliases ≡ b.aliases = aliases_same a.aliases b.aliases e in (λ i. record { key = k i; aliases = aliases i })

abbrev endpoints_value : List Endpoint → Data
endpoints_value endpoints = mapping_of (λ endpoint. endpoint.key) (λ endpoint. endpoint_value endpoint.aliases) endpoints

networking_same : (a b : List Endpoint) → InOrder (λ endpoint. endpoint.key) a → InOrder (λ endpoint. endpoint.key) b → networking_value a ≡ networking_value b → a ≡ b
networking_same a b p q e =
    mapping_same (λ endpoint. endpoint.key) (λ endpoint. endpoint_value endpoint.aliases) endpoint_same a b p q
    (some_same (endpoints_value a) (endpoints_value b) (same_at (networking_members a) (networking_members b) refl refl e 0 (lit< tt) (lit< tt) refl))

-- what one host is told
record SameHost (a b : ContainerSpec) : Type 0 where
  cap_add : a.cap_add ≡ b.cap_add
  cap_drop : a.cap_drop ≡ b.cap_drop
  devices : a.devices ≡ b.devices
  group_add : a.group_add ≡ b.group_add
  ipc_mode : a.ipc_mode ≡ b.ipc_mode
  pid_mode : a.pid_mode ≡ b.pid_mode
  privileged : a.privileged ≡ b.privileged
  readonly_rootfs : a.readonly_rootfs ≡ b.readonly_rootfs
  security_opt : a.security_opt ≡ b.security_opt
  sysctls : a.sysctls ≡ b.sysctls
  userns_mode : a.userns_mode ≡ b.userns_mode
  cpu_shares : a.cpu_shares ≡ b.cpu_shares
  cpuset_cpus : a.cpuset_cpus ≡ b.cpuset_cpus
  init : a.init ≡ b.init
  log_config : a.log_config ≡ b.log_config
  memory : a.memory ≡ b.memory
  memory_reservation : a.memory_reservation ≡ b.memory_reservation
  nano_cpus : a.nano_cpus ≡ b.nano_cpus
  pids_limit : a.pids_limit ≡ b.pids_limit
  restart_policy : a.restart_policy ≡ b.restart_policy
  shm_size : a.shm_size ≡ b.shm_size
  ulimits : a.ulimits ≡ b.ulimits
  binds : a.binds ≡ b.binds
  dns : a.dns ≡ b.dns
  dns_options : a.dns_options ≡ b.dns_options
  dns_search : a.dns_search ≡ b.dns_search
  extra_hosts : a.extra_hosts ≡ b.extra_hosts
  network_mode : a.network_mode ≡ b.network_mode
  port_bindings : a.port_bindings ≡ b.port_bindings
  tmpfs : a.tmpfs ≡ b.tmpfs

host_same : (a b : ContainerSpec) → IsOrdered a → IsOrdered b → object (fold with_member no_members (host_members a)) ≡ object (fold with_member no_members (host_members b)) → SameHost a b
host_same a b p q e = record {
  cap_add = option_same texts texts_same a.cap_add b.cap_add (same_at (host_members a) (host_members b) refl refl e 0 (lit< tt) (lit< tt) refl);
  cap_drop = option_same texts texts_same a.cap_drop b.cap_drop (same_at (host_members a) (host_members b) refl refl e 1 (lit< tt) (lit< tt) refl);
  devices = option_same (array_of device_value) (array_same device_value device_same) a.devices b.devices (same_at (host_members a) (host_members b) refl refl e 2 (lit< tt) (lit< tt) refl);
  group_add = option_same texts texts_same a.group_add b.group_add (same_at (host_members a) (host_members b) refl refl e 3 (lit< tt) (lit< tt) refl);
  ipc_mode = option_same string string_same a.ipc_mode b.ipc_mode (same_at (host_members a) (host_members b) refl refl e 4 (lit< tt) (lit< tt) refl);
  pid_mode = option_same string string_same a.pid_mode b.pid_mode (same_at (host_members a) (host_members b) refl refl e 5 (lit< tt) (lit< tt) refl);
  privileged = option_same boolean boolean_same a.privileged b.privileged (same_at (host_members a) (host_members b) refl refl e 6 (lit< tt) (lit< tt) refl);
  readonly_rootfs = option_same boolean boolean_same a.readonly_rootfs b.readonly_rootfs (same_at (host_members a) (host_members b) refl refl e 7 (lit< tt) (lit< tt) refl);
  security_opt = option_same texts texts_same a.security_opt b.security_opt (same_at (host_members a) (host_members b) refl refl e 8 (lit< tt) (lit< tt) refl);
  sysctls = option_same_if PairsInOrder pairs pairs_same a.sysctls b.sysctls p.sysctls q.sysctls (same_at (host_members a) (host_members b) refl refl e 9 (lit< tt) (lit< tt) refl);
  userns_mode = option_same string string_same a.userns_mode b.userns_mode (same_at (host_members a) (host_members b) refl refl e 10 (lit< tt) (lit< tt) refl);
  cpu_shares = option_same integer integer_same a.cpu_shares b.cpu_shares (same_at (host_members a) (host_members b) refl refl e 11 (lit< tt) (lit< tt) refl);
  cpuset_cpus = option_same string string_same a.cpuset_cpus b.cpuset_cpus (same_at (host_members a) (host_members b) refl refl e 12 (lit< tt) (lit< tt) refl);
  init = option_same boolean boolean_same a.init b.init (same_at (host_members a) (host_members b) refl refl e 13 (lit< tt) (lit< tt) refl);
  log_config = option_same_if (λ logging. IfAny PairsInOrder logging.config) log_config_value log_config_same a.log_config b.log_config p.log_options q.log_options (same_at (host_members a) (host_members b) refl refl e 14 (lit< tt) (lit< tt) refl);
  memory = option_same integer integer_same a.memory b.memory (same_at (host_members a) (host_members b) refl refl e 15 (lit< tt) (lit< tt) refl);
  memory_reservation = option_same integer integer_same a.memory_reservation b.memory_reservation (same_at (host_members a) (host_members b) refl refl e 16 (lit< tt) (lit< tt) refl);
  nano_cpus = option_same integer integer_same a.nano_cpus b.nano_cpus (same_at (host_members a) (host_members b) refl refl e 17 (lit< tt) (lit< tt) refl);
  pids_limit = option_same integer integer_same a.pids_limit b.pids_limit (same_at (host_members a) (host_members b) refl refl e 18 (lit< tt) (lit< tt) refl);
  restart_policy = option_same restart_policy_value restart_policy_same a.restart_policy b.restart_policy (same_at (host_members a) (host_members b) refl refl e 19 (lit< tt) (lit< tt) refl);
  shm_size = option_same integer integer_same a.shm_size b.shm_size (same_at (host_members a) (host_members b) refl refl e 20 (lit< tt) (lit< tt) refl);
  ulimits = option_same (array_of ulimit_value) (array_same ulimit_value ulimit_same) a.ulimits b.ulimits (same_at (host_members a) (host_members b) refl refl e 21 (lit< tt) (lit< tt) refl);
  binds = option_same texts texts_same a.binds b.binds (same_at (host_members a) (host_members b) refl refl e 22 (lit< tt) (lit< tt) refl);
  dns = option_same texts texts_same a.dns b.dns (same_at (host_members a) (host_members b) refl refl e 23 (lit< tt) (lit< tt) refl);
  dns_options = option_same texts texts_same a.dns_options b.dns_options (same_at (host_members a) (host_members b) refl refl e 24 (lit< tt) (lit< tt) refl);
  dns_search = option_same texts texts_same a.dns_search b.dns_search (same_at (host_members a) (host_members b) refl refl e 25 (lit< tt) (lit< tt) refl);
  extra_hosts = option_same texts texts_same a.extra_hosts b.extra_hosts (same_at (host_members a) (host_members b) refl refl e 26 (lit< tt) (lit< tt) refl);
  network_mode = option_same string string_same a.network_mode b.network_mode (same_at (host_members a) (host_members b) refl refl e 27 (lit< tt) (lit< tt) refl);
  port_bindings = option_same_if (InOrder (λ port. port.key)) port_bindings_value port_bindings_same a.port_bindings b.port_bindings p.port_bindings q.port_bindings (same_at (host_members a) (host_members b) refl refl e 28 (lit< tt) (lit< tt) refl);
  tmpfs = option_same_if PairsInOrder pairs pairs_same a.tmpfs b.tmpfs p.tmpfs q.tmpfs (same_at (host_members a) (host_members b) refl refl e 29 (lit< tt) (lit< tt) refl);
}

pub containers : BodiesTellContainers
containers a b p q e =
    let host : SameHost a b = host_same a b p q (any_same (fold with_member no_members (host_members a)) (fold with_member no_members (host_members b)) (same_at (container_members a) (container_members b) refl refl e 6 (lit< tt) (lit< tt) refl)) in
    let cmd : a.cmd ≡ b.cmd = option_same texts texts_same a.cmd b.cmd (same_at (container_members a) (container_members b) refl refl e 0 (lit< tt) (lit< tt) refl) in
    let domainname : a.domainname ≡ b.domainname = option_same string string_same a.domainname b.domainname (same_at (container_members a) (container_members b) refl refl e 1 (lit< tt) (lit< tt) refl) in
    let entrypoint : a.entrypoint ≡ b.entrypoint = option_same texts texts_same a.entrypoint b.entrypoint (same_at (container_members a) (container_members b) refl refl e 2 (lit< tt) (lit< tt) refl) in
    let env : a.env ≡ b.env = option_same texts texts_same a.env b.env (same_at (container_members a) (container_members b) refl refl e 3 (lit< tt) (lit< tt) refl) in
    let exposed_ports : a.exposed_ports ≡ b.exposed_ports = option_same_if NamesInOrder set_of set_same a.exposed_ports b.exposed_ports p.exposed_ports q.exposed_ports (same_at (container_members a) (container_members b) refl refl e 4 (lit< tt) (lit< tt) refl) in
    let healthcheck : a.healthcheck ≡ b.healthcheck = option_same healthcheck_value healthcheck_same a.healthcheck b.healthcheck (same_at (container_members a) (container_members b) refl refl e 5 (lit< tt) (lit< tt) refl) in
    let hostname : a.hostname ≡ b.hostname = option_same string string_same a.hostname b.hostname (same_at (container_members a) (container_members b) refl refl e 7 (lit< tt) (lit< tt) refl) in
    let image : a.image ≡ b.image = option_same string string_same a.image b.image (same_at (container_members a) (container_members b) refl refl e 8 (lit< tt) (lit< tt) refl) in
    let labels : a.labels ≡ b.labels = pairs_same a.labels b.labels p.labels q.labels (some_same (pairs a.labels) (pairs b.labels) (same_at (container_members a) (container_members b) refl refl e 9 (lit< tt) (lit< tt) refl)) in
    let endpoints_config : a.endpoints_config ≡ b.endpoints_config = option_same_if (InOrder (λ endpoint. endpoint.key)) networking_value networking_same a.endpoints_config b.endpoints_config p.endpoints q.endpoints (same_at (container_members a) (container_members b) refl refl e 10 (lit< tt) (lit< tt) refl) in
    let open_stdin : a.open_stdin ≡ b.open_stdin = option_same boolean boolean_same a.open_stdin b.open_stdin (same_at (container_members a) (container_members b) refl refl e 11 (lit< tt) (lit< tt) refl) in
    let stop_signal : a.stop_signal ≡ b.stop_signal = option_same string string_same a.stop_signal b.stop_signal (same_at (container_members a) (container_members b) refl refl e 12 (lit< tt) (lit< tt) refl) in
    let stop_timeout : a.stop_timeout ≡ b.stop_timeout = option_same integer integer_same a.stop_timeout b.stop_timeout (same_at (container_members a) (container_members b) refl refl e 13 (lit< tt) (lit< tt) refl) in
    let tty : a.tty ≡ b.tty = option_same boolean boolean_same a.tty b.tty (same_at (container_members a) (container_members b) refl refl e 14 (lit< tt) (lit< tt) refl) in
    let user : a.user ≡ b.user = option_same string string_same a.user b.user (same_at (container_members a) (container_members b) refl refl e 15 (lit< tt) (lit< tt) refl) in
    let volumes : a.volumes ≡ b.volumes = option_same_if NamesInOrder set_of set_same a.volumes b.volumes p.volumes q.volumes (same_at (container_members a) (container_members b) refl refl e 16 (lit< tt) (lit< tt) refl) in
    let working_dir : a.working_dir ≡ b.working_dir = option_same string string_same a.working_dir b.working_dir (same_at (container_members a) (container_members b) refl refl e 17 (lit< tt) (lit< tt) refl) in
    (λ i. record { labels = labels i; platform = None; image = image i; cmd = cmd i; entrypoint = entrypoint i; env = env i; hostname = hostname i; domainname = domainname i; user = user i; working_dir = working_dir i; stop_signal = stop_signal i; open_stdin = open_stdin i; tty = tty i; privileged = host.privileged i; readonly_rootfs = host.readonly_rootfs i; init = host.init i; cap_add = host.cap_add i; cap_drop = host.cap_drop i; security_opt = host.security_opt i; group_add = host.group_add i; dns = host.dns i; dns_search = host.dns_search i; dns_options = host.dns_options i; extra_hosts = host.extra_hosts i; sysctls = host.sysctls i; ipc_mode = host.ipc_mode i; pid_mode = host.pid_mode i; userns_mode = host.userns_mode i; cpuset_cpus = host.cpuset_cpus i; shm_size = host.shm_size i; memory = host.memory i; memory_reservation = host.memory_reservation i; nano_cpus = host.nano_cpus i; cpu_shares = host.cpu_shares i; pids_limit = host.pids_limit i; ulimits = host.ulimits i; devices = host.devices i; log_config = host.log_config i; restart_policy = host.restart_policy i; exposed_ports = exposed_ports i; port_bindings = host.port_bindings i; binds = host.binds i; volumes = volumes i; tmpfs = host.tmpfs i; network_mode = host.network_mode i; endpoints_config = endpoints_config i; healthcheck = healthcheck i; stop_timeout = stop_timeout i })

pub networks : BodiesTellNetworks
networks a b pl ql po qo e =
    let attachable : a.attachable ≡ b.attachable = option_same boolean boolean_same a.attachable b.attachable (same_at (network_members a) (network_members b) refl refl e 0 (lit< tt) (lit< tt) refl) in
    let driver : a.driver ≡ b.driver = option_same string string_same a.driver b.driver (same_at (network_members a) (network_members b) refl refl e 2 (lit< tt) (lit< tt) refl) in
    let enable_ipv6 : a.enable_ipv6 ≡ b.enable_ipv6 = option_same boolean boolean_same a.enable_ipv6 b.enable_ipv6 (same_at (network_members a) (network_members b) refl refl e 3 (lit< tt) (lit< tt) refl) in
    let internal : a.internal ≡ b.internal = option_same boolean boolean_same a.internal b.internal (same_at (network_members a) (network_members b) refl refl e 4 (lit< tt) (lit< tt) refl) in
    let labels : a.labels ≡ b.labels = pairs_same a.labels b.labels pl ql (some_same (pairs a.labels) (pairs b.labels) (same_at (network_members a) (network_members b) refl refl e 5 (lit< tt) (lit< tt) refl)) in
    let name : a.name ≡ b.name = string_same a.name b.name (some_same (string a.name) (string b.name) (same_at (network_members a) (network_members b) refl refl e 6 (lit< tt) (lit< tt) refl)) in
    let options : a.options ≡ b.options = option_same_if PairsInOrder pairs pairs_same a.options b.options po qo (same_at (network_members a) (network_members b) refl refl e 7 (lit< tt) (lit< tt) refl) in
    (λ i. record { attachable = attachable i; driver = driver i; enable_ipv6 = enable_ipv6 i; internal = internal i; labels = labels i; name = name i; options = options i; external = false })

pub volumes : BodiesTellVolumes
volumes a b pl ql po qo e =
    let driver : a.driver ≡ b.driver = option_same string string_same a.driver b.driver (same_at (volume_members a) (volume_members b) refl refl e 0 (lit< tt) (lit< tt) refl) in
    let driver_opts : a.driver_opts ≡ b.driver_opts = option_same_if PairsInOrder pairs pairs_same a.driver_opts b.driver_opts po qo (same_at (volume_members a) (volume_members b) refl refl e 1 (lit< tt) (lit< tt) refl) in
    let labels : a.labels ≡ b.labels = pairs_same a.labels b.labels pl ql (some_same (pairs a.labels) (pairs b.labels) (same_at (volume_members a) (volume_members b) refl refl e 2 (lit< tt) (lit< tt) refl)) in
    let name : a.name ≡ b.name = string_same a.name b.name (some_same (string a.name) (string b.name) (same_at (volume_members a) (volume_members b) refl refl e 3 (lit< tt) (lit< tt) refl)) in
    (λ i. record { driver = driver i; driver_opts = driver_opts i; labels = labels i; name = name i; external = false })

pub connections : BodiesTellConnections
connections container other aliases others e = (
  string_same container other (some_same (string container) (string other) (same_at (connect_members container aliases) (connect_members other others) refl refl e 0 (lit< tt) (lit< tt) refl)),
  aliases_same aliases others (some_same (endpoint_value aliases) (endpoint_value others) (same_at (connect_members container aliases) (connect_members other others) refl refl e 1 (lit< tt) (lit< tt) refl)),
)
