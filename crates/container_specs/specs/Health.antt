-- How a container's health is asked (Compose Specification, `healthcheck`).
use Rattle.std.specs.Option.{option_map}
use Rattle.attribute_types.specs.declared.rows.HealthCheck.{HealthCheck}
use Rattle.engine_types.specs.declared.Healthcheck.{Healthcheck}
use Rattle.container_specs.specs.Numbers.{nanoseconds, signed}

-- a health check with its durations in nanoseconds; a disabled one has come with the test `NONE` alone
abbrev pub healthcheck_of : HealthCheck → Healthcheck
healthcheck_of check = record {
  test = check.test;
  interval = option_map nanoseconds check.interval;
  timeout = option_map nanoseconds check.timeout;
  start_period = option_map nanoseconds check.start_period;
  retries = option_map signed check.retries;
}
