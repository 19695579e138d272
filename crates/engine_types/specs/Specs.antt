-- What a container is made with of which nothing is said.
use Rattle.std.specs.Prelude.{[], None}
use Rattle.engine_types.specs.declared.container.ContainerSpec.{ContainerSpec}

-- no label, and no other member of the Engine API's `POST /containers/create`
abbrev pub empty_spec : ContainerSpec
empty_spec = record {
  labels = [];
  platform = None;
  image = None;
  cmd = None;
  entrypoint = None;
  env = None;
  hostname = None;
  domainname = None;
  user = None;
  working_dir = None;
  stop_signal = None;
  open_stdin = None;
  tty = None;
  privileged = None;
  readonly_rootfs = None;
  init = None;
  cap_add = None;
  cap_drop = None;
  security_opt = None;
  group_add = None;
  dns = None;
  dns_search = None;
  dns_options = None;
  extra_hosts = None;
  sysctls = None;
  ipc_mode = None;
  pid_mode = None;
  userns_mode = None;
  cpuset_cpus = None;
  shm_size = None;
  memory = None;
  memory_reservation = None;
  nano_cpus = None;
  cpu_shares = None;
  pids_limit = None;
  ulimits = None;
  devices = None;
  log_config = None;
  restart_policy = None;
  exposed_ports = None;
  port_bindings = None;
  binds = None;
  volumes = None;
  tmpfs = None;
  network_mode = None;
  endpoints_config = None;
  healthcheck = None;
  stop_timeout = None;
}
