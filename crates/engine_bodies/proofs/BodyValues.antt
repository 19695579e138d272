-- The value of each body has no float and nests five levels deep at most.
use Rattle.std.proofs.Common.{◌≡◌, ◌≤◌, ◌∙◌, ℕ, suc, true, false, List, Option, Some, sym, ap, subst, arith}
use Rattle.std.specs.Option.{option_map}
use Rattle.serde_json.specs.Data.{Data, depth}
use Rattle.serde_json.specs.Read.{max_depth, read}
use Rattle.serde_json.specs.Written.{compact_text, has_float}
use Rattle.engine_types.specs.declared.ContainerSpec.{ContainerSpec}
use Rattle.engine_types.specs.declared.NetworkSpec.{NetworkSpec}
use Rattle.engine_types.specs.declared.Request.{Request}
use Rattle.engine_types.specs.declared.VolumeSpec.{VolumeSpec}
use Rattle.engine_types.specs.declared.container.Device.{Device}
use Rattle.engine_types.specs.declared.container.Endpoint.{Endpoint}
use Rattle.engine_types.specs.declared.container.Healthcheck.{Healthcheck}
use Rattle.engine_types.specs.declared.container.LogConfig.{LogConfig}
use Rattle.engine_types.specs.declared.container.PortBinding.{PortBinding}
use Rattle.engine_types.specs.declared.container.PortBindings.{PortBindings}
use Rattle.engine_types.specs.declared.container.RestartPolicy.{RestartPolicy}
use Rattle.engine_types.specs.declared.container.Ulimit.{Ulimit}
use Rattle.engine_bodies.specs.Containers.{container_members, container_value, device_members, device_value, endpoint_members, endpoint_value, healthcheck_members, healthcheck_value, host_members, host_value, log_config_members, log_config_value, networking_members, networking_value, port_binding_members, port_binding_value, port_bindings_value, restart_policy_members, restart_policy_value, ulimit_members, ulimit_value}
use Rattle.engine_bodies.specs.Json.{array_of}
use Rattle.engine_bodies.specs.Resources.{connect_members, connect_value, network_members, network_value, volume_members, volume_value}
use Rattle.engine_bodies.specs.Requests.{body_of, value_of}
use Rattle.engine_bodies.proofs.Plain.{IsPlain, PlainIfAny, array_plain, boolean_plain, integer_plain, mapping_plain, may, object_if_any_plain, object_plain, pairs_plain, set_plain, string_plain, texts_plain}

healthcheck_plain : (check : Healthcheck) → IsPlain 4 (healthcheck_value check)
healthcheck_plain check =
    object_plain 3 (healthcheck_members check)
    (may (integer_plain 3) check.interval, (may (integer_plain 3) check.retries, (may (integer_plain 3) check.start_period, (may (texts_plain 2) check.test, (may (integer_plain 3) check.timeout, tt)))))

ulimit_plain : (limit : Ulimit) → IsPlain 2 (ulimit_value limit)
ulimit_plain limit = object_plain 1 (ulimit_members limit) (integer_plain 1 limit.hard, (string_plain 1 limit.name, (integer_plain 1 limit.soft, tt)))

device_plain : (device : Device) → IsPlain 2 (device_value device)
device_plain device = object_plain 1 (device_members device) (string_plain 1 device.cgroup_permissions, (string_plain 1 device.path_in_container, (string_plain 1 device.path_on_host, tt)))

log_config_plain : (logging : LogConfig) → IsPlain 3 (log_config_value logging)
log_config_plain logging = object_plain 2 (log_config_members logging) (may (pairs_plain 1) logging.config, (may (string_plain 2) logging.kind, tt))

restart_policy_plain : (policy : RestartPolicy) → IsPlain 3 (restart_policy_value policy)
restart_policy_plain policy = object_plain 2 (restart_policy_members policy) (may (integer_plain 2) policy.maximum_retry_count, (string_plain 2 policy.name, tt))

port_binding_plain : (binding : PortBinding) → IsPlain 1 (port_binding_value binding)
port_binding_plain binding = object_plain 0 (port_binding_members binding) (may (string_plain 0) binding.host_ip, (may (string_plain 0) binding.host_port, tt))

port_bindings_plain : (ports : List PortBindings) → IsPlain 3 (port_bindings_value ports)
port_bindings_plain ports = mapping_plain 2 (λ port. port.key) (λ port. array_of port_binding_value port.bindings) (λ port. array_plain 1 port_binding_value port_binding_plain port.bindings) ports

endpoint_plain : (n : ℕ) (aliases : List (List ℕ)) → IsPlain (suc (suc n)) (endpoint_value aliases)
endpoint_plain n aliases = object_plain (suc n) (endpoint_members aliases) (texts_plain n aliases, tt)

networking_plain : (endpoints : List Endpoint) → IsPlain 4 (networking_value endpoints)
networking_plain endpoints =
    object_plain 3 (networking_members endpoints)
    (mapping_plain 2 (λ endpoint. endpoint.key) (λ endpoint. endpoint_value endpoint.aliases) (λ endpoint. endpoint_plain 0 endpoint.aliases) endpoints, tt)

host_plain : (spec : ContainerSpec) → PlainIfAny 4 (host_value spec)
host_plain spec =
    object_if_any_plain 3 (host_members spec) (
      may (texts_plain 2) spec.cap_add,
      (
        may (texts_plain 2) spec.cap_drop,
        (
          may (array_plain 2 device_value device_plain) spec.devices,
          (
            may (texts_plain 2) spec.group_add,
            (
              may (string_plain 3) spec.ipc_mode,
              (
                may (string_plain 3) spec.pid_mode,
                (
                  may (boolean_plain 3) spec.privileged,
                  (
                    may (boolean_plain 3) spec.readonly_rootfs,
                    (
                      may (texts_plain 2) spec.security_opt,
                      (
                        may (pairs_plain 2) spec.sysctls,
                        (
                          may (string_plain 3) spec.userns_mode,
                          (
                            may (integer_plain 3) spec.cpu_shares,
                            (
                              may (string_plain 3) spec.cpuset_cpus,
                              (
                                may (boolean_plain 3) spec.init,
                                (
                                  may log_config_plain spec.log_config,
                                  (
                                    may (integer_plain 3) spec.memory,
                                    (
                                      may (integer_plain 3) spec.memory_reservation,
                                      (
                                        may (integer_plain 3) spec.nano_cpus,
                                        (
                                          may (integer_plain 3) spec.pids_limit,
                                          (
                                            may restart_policy_plain spec.restart_policy,
                                            (
                                              may (integer_plain 3) spec.shm_size,
                                              (
                                                may (array_plain 2 ulimit_value ulimit_plain) spec.ulimits,
                                                (
                                                  may (texts_plain 2) spec.binds,
                                                  (
                                                    may (texts_plain 2) spec.dns,
                                                    (
                                                      may (texts_plain 2) spec.dns_options,
                                                      (
                                                        may (texts_plain 2) spec.dns_search,
                                                        (
                                                          may (texts_plain 2) spec.extra_hosts,
                                                          (
                                                            may (string_plain 3) spec.network_mode,
                                                            (
                                                              may port_bindings_plain spec.port_bindings,
                                                              (
                                                                may (pairs_plain 2) spec.tmpfs,
                                                                tt,
                                                              ),
                                                            ),
                                                          ),
                                                        ),
                                                      ),
                                                    ),
                                                  ),
                                                ),
                                              ),
                                            ),
                                          ),
                                        ),
                                      ),
                                    ),
                                  ),
                                ),
                              ),
                            ),
                          ),
                        ),
                      ),
                    ),
                  ),
                ),
              ),
            ),
          ),
        ),
      ),
    )

container_plain : (spec : ContainerSpec) → IsPlain 5 (container_value spec)
container_plain spec =
    object_plain 4 (container_members spec) (
      may (texts_plain 3) spec.cmd,
      (
        may (string_plain 4) spec.domainname,
        (
          may (texts_plain 3) spec.entrypoint,
          (
            may (texts_plain 3) spec.env,
            (
              may (set_plain 2) spec.exposed_ports,
              (
                may healthcheck_plain spec.healthcheck,
                (
                  host_plain spec,
                  (
                    may (string_plain 4) spec.hostname,
                    (
                      may (string_plain 4) spec.image,
                      (
                        pairs_plain 3 spec.labels,
                        (
                          may networking_plain spec.endpoints_config,
                          (
                            may (boolean_plain 4) spec.open_stdin,
                            (
                              may (string_plain 4) spec.stop_signal,
                              (
                                may (integer_plain 4) spec.stop_timeout,
                                (
                                  may (boolean_plain 4) spec.tty,
                                  (
                                    may (string_plain 4) spec.user,
                                    (
                                      may (set_plain 2) spec.volumes,
                                      (
                                        may (string_plain 4) spec.working_dir,
                                        tt,
                                      ),
                                    ),
                                  ),
                                ),
                              ),
                            ),
                          ),
                        ),
                      ),
                    ),
                  ),
                ),
              ),
            ),
          ),
        ),
      ),
    )

network_plain : (spec : NetworkSpec) → IsPlain 5 (network_value spec)
network_plain spec =
    object_plain 4 (network_members spec) (
      may (boolean_plain 4) spec.attachable,
      (
        boolean_plain 4 true,
        (
          may (string_plain 4) spec.driver,
          (
            may (boolean_plain 4) spec.enable_ipv6,
            (
              may (boolean_plain 4) spec.internal,
              (
                pairs_plain 3 spec.labels,
                (
                  string_plain 4 spec.name,
                  (
                    may (pairs_plain 3) spec.options,
                    tt,
                  ),
                ),
              ),
            ),
          ),
        ),
      ),
    )

volume_plain : (spec : VolumeSpec) → IsPlain 5 (volume_value spec)
volume_plain spec =
    object_plain 4 (volume_members spec) (
      may (string_plain 4) spec.driver,
      (
        may (pairs_plain 3) spec.driver_opts,
        (
          pairs_plain 3 spec.labels,
          (
            string_plain 4 spec.name,
            tt,
          ),
        ),
      ),
    )

connect_plain : (container : List ℕ) (aliases : List (List ℕ)) → IsPlain 5 (connect_value container aliases)
connect_plain container aliases = object_plain 4 (connect_members container aliases) (string_plain 4 container, (endpoint_plain 2 aliases, tt))

-- the value of a request's body
request_plain : (request : Request) → PlainIfAny 5 (value_of request)
request_plain (Request.Create name spec) = container_plain spec
request_plain (Request.MakeNetwork spec) = network_plain spec
request_plain (Request.Connect network container aliases) = connect_plain container aliases
request_plain (Request.MakeVolume spec) = volume_plain spec
request_plain (Request.ListContainers project) = tt
request_plain (Request.Inspect id) = tt
request_plain (Request.Logs id) = tt
request_plain (Request.Start id) = tt
request_plain (Request.Stop id seconds) = tt
request_plain (Request.Remove id) = tt
request_plain Request.ListNetworks = tt
request_plain (Request.RemoveNetwork id) = tt
request_plain Request.ListVolumes = tt
request_plain (Request.RemoveVolume name) = tt
request_plain (Request.Image name) = tt
request_plain (Request.Pull name) = tt

value_plain : (request : Request) (d : Data) → Some d ≡ value_of request → IsPlain 5 d
value_plain request d is = subst (λ (v : Option Data). PlainIfAny 5 v) (sym is) (request_plain request)

-- the text that is written for it is the body
pub text_is : (request : Request) (d : Data) (text : List ℕ) → Some d ≡ value_of request → (has_float d ≡ false → text ≡ compact_text d) → Some text ≡ body_of request
text_is request d text is written = ap Some (written (value_plain request d is).no_float) ∙ ap (option_map compact_text) is

-- and is read back as the value
pub text_reads : (request : Request) (d : Data) (text : List ℕ) → Some d ≡ value_of request → (depth d ≤ max_depth → read text ≡ Some d) → read text ≡ value_of request
text_reads request d text is reads =
    let shallow : depth d ≤ 5 = (value_plain request d is).shallow in
    reads (omega arith) ∙ is
