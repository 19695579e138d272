-- What the Engine is sent of a service's container, field by field (Compose Specification, services; Engine API,
-- `POST /containers/create`).
use Rattle.std.specs.Prelude.{ℕ, List, Some, codes}
use Rattle.std.specs.Option.{option_map}
use Rattle.tree_base.specs.declared.Var.{Var}
use Rattle.attribute_types.specs.Lookups.{bool_at, health_at, int_at, logging_at, number_at, text_at, texts_at}
use Rattle.engine_types.specs.declared.ContainerSpec.{ContainerSpec}
use Rattle.typed_project.specs.declared.project.Project.{Project}
use Rattle.typed_project.specs.declared.service.Service.{Service}
use Rattle.container_specs.specs.Health.{healthcheck_of}
use Rattle.container_specs.specs.Host.{devices_of, extra_hosts_of, ulimits_of}
use Rattle.container_specs.specs.Lists.{named_pairs, texts_of, unless_empty, vars_of}
use Rattle.container_specs.specs.Mounts.{binds_of, tmpfs_of, volumes_of}
use Rattle.container_specs.specs.Networks.{endpoints_of, network_mode_of, networks_by_name}
use Rattle.container_specs.specs.Numbers.{number_of, seconds}
use Rattle.container_specs.specs.Ports.{exposed_ports_of, port_bindings_of, ports_in}
use Rattle.container_specs.specs.Process.{env_of, log_config_of, restart_policy_of}

-- the description of a service's container with these labels and this image: each field from the attribute that gives it
unfoldable pub container_spec : Project → Service → List Var → List ℕ → ContainerSpec
container_spec project service labels image =
    let the = service.attributes in
    let networks = networks_by_name project service in
    record {
      labels = labels;
      platform = text_at the (codes "platform");
      image = Some image;
      cmd = texts_at the (codes "command");
      entrypoint = texts_at the (codes "entrypoint");
      env = env_of the;
      hostname = text_at the (codes "hostname");
      domainname = text_at the (codes "domainname");
      user = text_at the (codes "user");
      working_dir = text_at the (codes "working_dir");
      stop_signal = text_at the (codes "stop_signal");
      open_stdin = bool_at the (codes "stdin_open");
      tty = bool_at the (codes "tty");
      privileged = bool_at the (codes "privileged");
      readonly_rootfs = bool_at the (codes "read_only");
      init = bool_at the (codes "init");
      cap_add = texts_of the (codes "cap_add");
      cap_drop = texts_of the (codes "cap_drop");
      security_opt = texts_of the (codes "security_opt");
      group_add = texts_of the (codes "group_add");
      dns = texts_of the (codes "dns");
      dns_search = texts_of the (codes "dns_search");
      dns_options = texts_of the (codes "dns_opt");
      extra_hosts = extra_hosts_of the;
      sysctls = unless_empty (vars_of (named_pairs the (codes "sysctls")));
      ipc_mode = text_at the (codes "ipc");
      pid_mode = text_at the (codes "pid");
      userns_mode = text_at the (codes "userns_mode");
      cpuset_cpus = text_at the (codes "cpuset");
      shm_size = number_of the (codes "shm_size");
      memory = number_of the (codes "mem_limit");
      memory_reservation = number_of the (codes "mem_reservation");
      nano_cpus = number_of the (codes "cpus");
      cpu_shares = number_of the (codes "cpu_shares");
      pids_limit = int_at the (codes "pids_limit");
      ulimits = ulimits_of the;
      devices = devices_of the;
      log_config = option_map log_config_of (logging_at the (codes "logging"));
      restart_policy = option_map restart_policy_of (text_at the (codes "restart"));
      exposed_ports = exposed_ports_of the;
      port_bindings = port_bindings_of (ports_in the);
      binds = binds_of project service;
      volumes = volumes_of the;
      tmpfs = tmpfs_of the;
      network_mode = network_mode_of networks service;
      endpoints_config = endpoints_of networks;
      healthcheck = option_map healthcheck_of (health_at the (codes "healthcheck"));
      stop_timeout = option_map seconds (number_at the (codes "stop_grace_period"));
    }
