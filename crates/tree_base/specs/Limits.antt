-- The limits of the program, in the order of docs/limits.md. The code has the same numbers in src/limits.rt.
use Rattle.std.specs.Prelude.{ℕ, ◌*◌, ◌-◌, ◌^◌}

-- how many files one load reads
abbrev pub most_files : ℕ
most_files = 64

-- how many bytes a file has that is read: a Compose file, an env file, the file of a config or of a secret
abbrev pub most_file_bytes : ℕ
most_file_bytes = 4194304

-- how many levels a tree has that is read
abbrev pub most_levels : ℕ
most_levels = 64

-- how many nodes a tree has, as it is read, in long forms and merged
abbrev pub most_nodes : ℕ
most_nodes = 200000

-- how many bytes the keys and scalars of a tree have together: as it is read, with variables' values, in long forms and merged
abbrev pub most_text : ℕ
most_text = 16777216

-- how many forms `${..}` stand in one another
abbrev pub most_form_levels : ℕ
most_form_levels = 32

-- the greatest line, column or place that is told, which stands for those past it: the greatest number of 32 bits
abbrev pub greatest_place : ℕ
greatest_place = 4294967295

-- how many services are enabled
abbrev pub most_services : ℕ
most_services = 1000

-- how many containers a service has
abbrev pub most_containers : ℕ
most_containers = 100

-- how many needs all containers have together
abbrev pub most_needs : ℕ
most_needs = 4000000

-- the greatest port (RFC 9293, section 3.1)
abbrev pub greatest_port : ℕ
greatest_port = 65535

-- how many ports one range has
abbrev pub most_ports : ℕ
most_ports = 1000

-- the greatest duration, in microseconds
abbrev pub greatest_duration : ℕ
greatest_duration = 9 * 10 ^ 15

-- the greatest decimal, in billionths
abbrev pub greatest_decimal : ℕ
greatest_decimal = 9 * 10 ^ 18

-- the greatest number otherwise, also of a size's bytes: the greatest of 64 bits with a sign
abbrev pub greatest_number : ℕ
greatest_number = 2 ^ 63 - 1

-- how many workers there may be
abbrev pub most_workers : ℕ
most_workers = 16

-- how many seconds an option may give: `--wait-timeout` and `-t`
abbrev pub most_seconds : ℕ
most_seconds = 1000000

-- how many connections `enginesim` serves
abbrev pub most_connections : ℕ
most_connections = 1000000

-- how many services `simulate` has
abbrev pub most_simulated : ℕ
most_simulated = 1000

-- how many actions a plan has
abbrev pub most_actions : ℕ
most_actions = 65536

-- how many entries a journal has before an ask that is answered with more work
abbrev pub most_entries : ℕ
most_entries = 1000000

-- below this are the counts of a run's slots, networks, actions and needs, and with them all places in its rows: numbers of 32
-- bits
abbrev pub count_bound : ℕ
count_bound = 4294967296

-- how many bytes a response's heads have together, a chunk line, and the lines behind the last chunk
abbrev pub most_head_bytes : ℕ
most_head_bytes = 65536

-- how many header lines one head has, and how many lines stand behind the last chunk
abbrev pub most_header_lines : ℕ
most_header_lines = 100

-- how many bytes a body has
abbrev pub most_body_bytes : ℕ
most_body_bytes = 16777216

-- how many bytes the framing of a body in chunks has: chunk lines, the line ends behind chunks, and the lines behind the last
abbrev pub most_framing_bytes : ℕ
most_framing_bytes = 16777216

-- how many values the JSON of a body has
abbrev pub most_body_values : ℕ
most_body_values = 1000000

-- how many bytes the body of a stream of events has
abbrev pub most_stream_bytes : ℕ
most_stream_bytes = 268435456

-- how many bytes a line of a stream of events has, without its line end
abbrev pub most_event_bytes : ℕ
most_event_bytes = 1048576

-- how many slots there are whose logs are asked for
abbrev pub most_log_slots : ℕ
most_log_slots = 10000

-- how many bytes the texts of all lines of logs have together
abbrev pub most_log_bytes : ℕ
most_log_bytes = 268435456

-- for how many milliseconds a hand pauses before a poll of a container
abbrev pub before_poll : ℕ
before_poll = 500

-- for how many milliseconds it pauses where its worker has nothing to do yet
abbrev pub while_idle : ℕ
while_idle = 250

-- how many seconds a container has to stop where nothing says so
abbrev pub usual_stop_seconds : ℕ
usual_stop_seconds = 10
