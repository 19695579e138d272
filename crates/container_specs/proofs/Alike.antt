-- Services of one key whose told attributes are the same have the same description: each field asks for told attributes alone.
use Rattle.std.proofs.Common.{◌≡◌, ℕ, Bool, true, false, cond, not, List, [], ◌∷◌, Option, Some, codes, find, refl, ap, sym, ◌∙◌}
use Rattle.std.proofs.lemmas.Slice.Eq.{bytes_eq-Decides}
use Rattle.std.specs.List.{list_any}
use Rattle.std.specs.Option.{option_and_then, option_map, option_or}
use Rattle.std.specs.Str.{bytes_eq}
use Rattle.attribute_types.specs.Lookups.{as_bool, as_health, as_int, as_logging, as_number, as_text, as_texts, bool_at, int_at, text_at, texts_at}
use Rattle.attribute_types.specs.Values.{value_at}
use Rattle.attribute_types.specs.declared.attribute.Attribute.{Attribute}
use Rattle.attribute_types.specs.declared.attribute.Value.{Value}
use Rattle.typed_project.specs.declared.project.Project.{Project}
use Rattle.typed_project.specs.declared.service.Service.{Service}
use Rattle.container_specs.specs.Health.{healthcheck_of}
use Rattle.container_specs.specs.Host.{devices_of, extra_hosts_of, ulimits_of}
use Rattle.container_specs.specs.Lists.{named_pairs, texts_of, unless_empty, vars_of}
use Rattle.container_specs.specs.Mounts.{binds_of, tmpfs_of, volumes_of}
use Rattle.container_specs.specs.Networks.{endpoints_of, first_network, networks_by_name}
use Rattle.container_specs.specs.Numbers.{number_of, seconds, signed}
use Rattle.container_specs.specs.Ports.{exposed_ports_of, port_bindings_of, ports_in}
use Rattle.container_specs.specs.Process.{env_of, log_config_of, restart_policy_of}
use Rattle.container_specs.specs.Specs.{container_spec}
use Rattle.container_specs.specs.Untold.{AreDescribedAlike, told, untold}

-- whether an attribute is told
abbrev is_told : Attribute → Bool
is_told attribute = not (list_any (bytes_eq attribute.name) untold)

module _ (name : List ℕ) (is : list_any (bytes_eq name) untold ≡ false) where
  abbrev named : Attribute → Bool
  named attribute = bytes_eq attribute.name name

  passes : (attribute : Attribute) → named attribute ≡ true → is_told attribute ≡ true
  passes attribute e = let same : attribute.name ≡ name = (bytes_eq-Decides attribute.name name).0 e in ap (λ n. not (list_any (bytes_eq n) untold)) same ∙ ap not is

  found : (attributes : List Attribute) → find named (told attributes) ≡ find named attributes
  found [] = refl
  found (attribute ∷ attributes) = at (named attribute) refl (is_told attribute) refl (found attributes)
    where
      at : (a : Bool) → named attribute ≡ a → (b : Bool) → is_told attribute ≡ b → find named (told attributes) ≡ find named attributes
          → find named (cond b (attribute ∷ told attributes) (told attributes)) ≡ cond a (Some attribute) (find named attributes)
      at true e true f rest = ap (λ a. cond a (Some attribute) (find named (told attributes))) e
      at true e false f rest = let bad : true ≡ false = sym (passes attribute e) ∙ f in absurd (cc bad)
      at false e true f rest = ap (λ a. cond a (Some attribute) (find named (told attributes))) e ∙ rest
      at false e false f rest = rest

  -- a told name has the same value in both
  same_value : (attributes others : List Attribute) → told attributes ≡ told others → value_at attributes name ≡ value_at others name
  same_value attributes others e =
      let value : Option Attribute → Option Value = option_map (λ a. a.value) in
      ap value (sym (found attributes) ∙ ap (find named) e ∙ found others)

module _ (project : Project) (service other : Service) (keys : service.key ≡ other.key) (same : told service.attributes ≡ told other.attributes) where
  is : (name : List ℕ) → list_any (bytes_eq name) untold ≡ false → value_at service.attributes name ≡ value_at other.attributes name
  is name it = same_value name it service.attributes other.attributes same

  text : (name : List ℕ) → list_any (bytes_eq name) untold ≡ false → text_at service.attributes name ≡ text_at other.attributes name
  text name it = ap (option_and_then as_text) (is name it)

  bool : (name : List ℕ) → list_any (bytes_eq name) untold ≡ false → bool_at service.attributes name ≡ bool_at other.attributes name
  bool name it = ap (option_and_then as_bool) (is name it)

  int : (name : List ℕ) → list_any (bytes_eq name) untold ≡ false → int_at service.attributes name ≡ int_at other.attributes name
  int name it = ap (option_and_then as_int) (is name it)

  number : (name : List ℕ) → list_any (bytes_eq name) untold ≡ false → number_of service.attributes name ≡ number_of other.attributes name
  number name it = ap (λ (v : Option Value). option_map signed (option_and_then as_number v)) (is name it)

  words : (name : List ℕ) → list_any (bytes_eq name) untold ≡ false → texts_at service.attributes name ≡ texts_at other.attributes name
  words name it = ap (option_and_then as_texts) (is name it)

  texts : (name : List ℕ) → list_any (bytes_eq name) untold ≡ false → texts_of service.attributes name ≡ texts_of other.attributes name
  texts name it = ap (option_and_then unless_empty) (words name it)

  env : env_of service.attributes ≡ env_of other.attributes
  env = rw (is (codes "environment") refl) refl

  extra_hosts : extra_hosts_of service.attributes ≡ extra_hosts_of other.attributes
  extra_hosts = rw (is (codes "extra_hosts") refl) refl

  ulimits : ulimits_of service.attributes ≡ ulimits_of other.attributes
  ulimits = rw (is (codes "ulimits") refl) refl

  devices : devices_of service.attributes ≡ devices_of other.attributes
  devices = rw (is (codes "devices") refl) refl

  exposed_ports : exposed_ports_of service.attributes ≡ exposed_ports_of other.attributes
  exposed_ports = rw (is (codes "expose") refl, is (codes "ports") refl) refl

  volumes : volumes_of service.attributes ≡ volumes_of other.attributes
  volumes = rw (is (codes "volumes") refl) refl

  tmpfs : tmpfs_of service.attributes ≡ tmpfs_of other.attributes
  tmpfs = rw (is (codes "volumes") refl, is (codes "tmpfs") refl) refl

  sysctls : unless_empty (vars_of (named_pairs service.attributes (codes "sysctls"))) ≡ unless_empty (vars_of (named_pairs other.attributes (codes "sysctls")))
  sysctls = rw (is (codes "sysctls") refl) refl

  ports : ports_in service.attributes ≡ ports_in other.attributes
  ports = rw (is (codes "ports") refl) refl

  binds : binds_of project service ≡ binds_of project other
  binds = rw (is (codes "volumes") refl, is (codes "secrets") refl, is (codes "configs") refl) refl

  networks : networks_by_name project service ≡ networks_by_name project other
  networks =
      let keyed : networks_by_name project service ≡ networks_by_name project (record { key = other.key; attributes = service.attributes }) =
      λ j. networks_by_name project (record { key = keys j; attributes = service.attributes }) in
      let joined : networks_by_name project (record { key = other.key; attributes = service.attributes }) ≡ networks_by_name project other =
      rw (is (codes "networks") refl) refl in
      keyed ∙ joined

pub described_alike : AreDescribedAlike
unfolding container_spec
described_alike project service other labels image keys same = λ i. record {
  labels = labels;
  platform = text project service other keys same (codes "platform") refl i;
  image = Some image;
  cmd = words project service other keys same (codes "command") refl i;
  entrypoint = words project service other keys same (codes "entrypoint") refl i;
  env = env project service other keys same i;
  hostname = text project service other keys same (codes "hostname") refl i;
  domainname = text project service other keys same (codes "domainname") refl i;
  user = text project service other keys same (codes "user") refl i;
  working_dir = text project service other keys same (codes "working_dir") refl i;
  stop_signal = text project service other keys same (codes "stop_signal") refl i;
  open_stdin = bool project service other keys same (codes "stdin_open") refl i;
  tty = bool project service other keys same (codes "tty") refl i;
  privileged = bool project service other keys same (codes "privileged") refl i;
  readonly_rootfs = bool project service other keys same (codes "read_only") refl i;
  init = bool project service other keys same (codes "init") refl i;
  cap_add = texts project service other keys same (codes "cap_add") refl i;
  cap_drop = texts project service other keys same (codes "cap_drop") refl i;
  security_opt = texts project service other keys same (codes "security_opt") refl i;
  group_add = texts project service other keys same (codes "group_add") refl i;
  dns = texts project service other keys same (codes "dns") refl i;
  dns_search = texts project service other keys same (codes "dns_search") refl i;
  dns_options = texts project service other keys same (codes "dns_opt") refl i;
  extra_hosts = extra_hosts project service other keys same i;
  sysctls = sysctls project service other keys same i;
  ipc_mode = text project service other keys same (codes "ipc") refl i;
  pid_mode = text project service other keys same (codes "pid") refl i;
  userns_mode = text project service other keys same (codes "userns_mode") refl i;
  cpuset_cpus = text project service other keys same (codes "cpuset") refl i;
  shm_size = number project service other keys same (codes "shm_size") refl i;
  memory = number project service other keys same (codes "mem_limit") refl i;
  memory_reservation = number project service other keys same (codes "mem_reservation") refl i;
  nano_cpus = number project service other keys same (codes "cpus") refl i;
  cpu_shares = number project service other keys same (codes "cpu_shares") refl i;
  pids_limit = int project service other keys same (codes "pids_limit") refl i;
  ulimits = ulimits project service other keys same i;
  devices = devices project service other keys same i;
  log_config = option_map log_config_of (option_and_then as_logging (is project service other keys same (codes "logging") refl i));
  restart_policy = option_map restart_policy_of (option_and_then as_text (is project service other keys same (codes "restart") refl i));
  exposed_ports = exposed_ports project service other keys same i;
  port_bindings = port_bindings_of (ports project service other keys same i);
  binds = binds project service other keys same i;
  volumes = volumes project service other keys same i;
  tmpfs = tmpfs project service other keys same i;
  network_mode = option_or (option_map (λ network. network.name) (first_network (networks project service other keys same i))) (text project service other keys same (codes "network_mode") refl i);
  endpoints_config = endpoints_of (networks project service other keys same i);
  healthcheck = option_map healthcheck_of (option_and_then as_health (is project service other keys same (codes "healthcheck") refl i));
  stop_timeout = option_map seconds (option_and_then as_number (is project service other keys same (codes "stop_grace_period") refl i));
}
