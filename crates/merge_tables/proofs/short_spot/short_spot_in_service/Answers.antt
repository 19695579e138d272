use Rattle.std.specs.Prelude.{codes, List, ℕ, []}
use Rattle.std.proofs.Common.{◌≡◌, ◌∷◌, sym}
use Rattle.merge_tables.specs.Attributes.{short_rules}
use Rattle.attribute_paths.specs.Patterns.{below_key, named}
use Rattle.merge_tables.specs.Spots.{service_forms, services_forms}
use Rattle.merge_tables.specs.declared.rules.EntryForm.TheVariants as forms
use Rattle.merge_tables.specs.declared.rules.PairForm.TheVariants.{KeyValue, Host, Name}
use Rattle.merge_tables.specs.declared.rules.ShortForm.{ShortForm}
use Rattle.merge_tables.specs.declared.rules.ShortForm.TheVariants.{Mapping, Entries, OneText, Context, Test, Words}
use Rattle.attribute_paths.specs.Laws.{AllApart, Named}
use Rattle.attribute_paths.proofs.Lines.{apart, none_named}
use Rattle.merge_tables.proofs.short_spot.short_spot_in_service.Goals as goal

-- the lines of a service, each by its first key
abbrev service_lines : Named ShortForm
service_lines =
    (codes "environment", ([], Mapping KeyValue))
    ∷ (codes "labels", ([], Mapping KeyValue))
    ∷ (codes "sysctls", ([], Mapping KeyValue))
    ∷ (codes "build", (named (codes "args") ∷ [], Mapping KeyValue))
    ∷ (codes "extra_hosts", ([], Mapping Host))
    ∷ (codes "depends_on", ([], Mapping Name))
    ∷ (codes "networks", ([], Mapping Name))
    ∷ (codes "ports", ([], Entries forms.Port))
    ∷ (codes "volumes", ([], Entries forms.Mount))
    ∷ (codes "secrets", ([], Entries forms.File))
    ∷ (codes "configs", ([], Entries forms.File))
    ∷ (codes "build", ([], Context))
    ∷ (codes "healthcheck", (named (codes "test") ∷ [], Test))
    ∷ (codes "command", ([], Words))
    ∷ (codes "entrypoint", ([], Words))
    ∷ (codes "cap_add", ([], OneText))
    ∷ (codes "cap_drop", ([], OneText))
    ∷ (codes "security_opt", ([], OneText))
    ∷ (codes "group_add", ([], OneText))
    ∷ (codes "dns", ([], OneText))
    ∷ (codes "dns_search", ([], OneText))
    ∷ (codes "dns_opt", ([], OneText))
    ∷ (codes "devices", ([], OneText))
    ∷ (codes "expose", ([], OneText))
    ∷ (codes "tmpfs", ([], OneText))
    ∷ (codes "profiles", ([], OneText))
    ∷ (codes "env_file", ([], OneText)) ∷ []

none_else : (key : List ℕ) → AllApart key service_lines → [] ≡ below_key key service_forms
unfolding short_rules services_forms service_forms
none_else key others = sym (none_named key service_lines others)

pub returns-in_default : goal.returns-in_default
returns-in_default c =
    let k = c.args.key.now in
    let n = c.in_default in
    none_else k (
      apart (codes "environment") k n.not-environment,
      (
        apart (codes "labels") k n.not-labels,
        (
          apart (codes "sysctls") k n.not-sysctls,
          (
            apart (codes "build") k n.not-build,
            (
              apart (codes "extra_hosts") k n.not-extra_hosts,
              (
                apart (codes "depends_on") k n.not-depends_on,
                (
                  apart (codes "networks") k n.not-networks,
                  (
                    apart (codes "ports") k n.not-ports,
                    (
                      apart (codes "volumes") k n.not-volumes,
                      (
                        apart (codes "secrets") k n.not-secrets,
                        (
                          apart (codes "configs") k n.not-configs,
                          (
                            apart (codes "build") k n.not-build,
                            (
                              apart (codes "healthcheck") k n.not-healthcheck,
                              (
                                apart (codes "command") k n.not-command,
                                (
                                  apart (codes "entrypoint") k n.not-entrypoint,
                                  (
                                    apart (codes "cap_add") k n.not-cap_add,
                                    (
                                      apart (codes "cap_drop") k n.not-cap_drop,
                                      (
                                        apart (codes "security_opt") k n.not-security_opt,
                                        (
                                          apart (codes "group_add") k n.not-group_add,
                                          (
                                            apart (codes "dns") k n.not-dns,
                                            (
                                              apart (codes "dns_search") k n.not-dns_search,
                                              (
                                                apart (codes "dns_opt") k n.not-dns_opt,
                                                (
                                                  apart (codes "devices") k n.not-devices,
                                                  (
                                                    apart (codes "expose") k n.not-expose,
                                                    (
                                                      apart (codes "tmpfs") k n.not-tmpfs,
                                                      (
                                                        apart (codes "profiles") k n.not-profiles,
                                                        (
                                                          apart (codes "env_file") k n.not-env_file,
                                                          tt,
                                                        ),
                                                      ),
                                                    ),
                                                  ),
                                                ),
                                              ),
                                            ),
                                          ),
                                        ),
                                      ),
                                    ),
                                  ),
                                ),
                              ),
                            ),
                          ),
                        ),
                      ),
                    ),
                  ),
                ),
              ),
            ),
          ),
        ),
      ),
    )
