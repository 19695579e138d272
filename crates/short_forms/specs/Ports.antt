-- The short form of ports (Compose Specification, "ports", short syntax).
use Rattle.std.specs.Prelude.{ℕ, ◌+◌, ◌-◌, ◌≤◌, Bool, not, ◌==◌, ◌||◌, ◌&&◌, if◌then◌else◌, nat_lt, nat_le, List, [], ◌∷◌, map, length, slice_index, codes, Option, None, Some}
use Rattle.std.specs.Fmt.{decimal}
use Rattle.std.specs.List.{list_all, range_with_len}
use Rattle.std.specs.Option.{is_some, option_and_then, option_map}
use Rattle.std.specs.Str.{bytes_eq}
use Rattle.tree_base.specs.Limits.{greatest_port, most_ports}
use Rattle.short_forms.specs.Cuts.{cut_once, parts_at}
use Rattle.short_forms.specs.Digits.{number_up_to}
use Rattle.short_forms.specs.declared.ports.Port.{Port}
use Rattle.short_forms.specs.declared.ports.Span.{Span}
use Rattle.short_forms.specs.declared.ports.Span.TheVariants.{One, Range}

-- a number of an IPv4 address: at most 255, without a leading zero (RFC 6943, section 3.1.1)
abbrev pub is_octet : List ℕ → Bool
is_octet text = is_some (number_up_to 255 text) && ((length text == 1) || not (slice_index text 0 == 48))

-- an IPv4 address: four numbers with points between them
abbrev pub is_address : List ℕ → Bool
is_address text = (length (parts_at 46 text) == 4) && list_all is_octet (parts_at 46 text)

-- a range of at most 1,000 ports, from a first one to a last one that isn't below it
abbrev pub range : ℕ → ℕ → Option Span
range first last = if nat_le first last && nat_lt (last - first) most_ports then Some (Range first last) else None

-- one port up to 65,535, or a range of such
abbrev pub span_in : List ℕ → Option (List ℕ × List ℕ) → Option Span
span_in text None = option_map One (number_up_to greatest_port text)
span_in text (Some (first, last)) = option_and_then (λ a. option_and_then (range a) (number_up_to greatest_port last)) (number_up_to greatest_port first)

-- the span of a text, which is a range where it has a `-`
abbrev pub span_of : List ℕ → Option Span
span_of text = span_in text (cut_once 45 text)

-- the first port of a span
abbrev pub first_of : Span → ℕ
first_of (One port) = port
first_of (Range first last) = first

-- the span of a container's ports, which are at least 1
abbrev pub target_of : List ℕ → Option Span
target_of text = option_and_then (λ span. if nat_lt 0 (first_of span) then Some span else None) (span_of text)

-- so many ports of the container from one on, each with what it is published as
abbrev pub ports_from : (ℕ → ℕ → Port) → ℕ → ℕ → List Port
ports_from port first count = map (λ place. port place (first + place)) (range_with_len 0 count)

-- the number that a port at a place of a range is published as, from `low` on
abbrev pub host_text : Option ℕ → ℕ → Option (List ℕ)
host_text low place = option_map (λ host. decimal (host + place)) low

-- one port or one range of the container, that the host doesn't name
abbrev pub unpublished : (Option (List ℕ) → ℕ → Port) → Span → List Port
unpublished port (One target) = port None target ∷ []
unpublished port (Range first last) = ports_from (λ place. port (host_text None place)) first (last - first + 1)

-- what the host publishes, beside the container's ports: one beside one, ranges of one length in step, a range beside one port as it is spelled
abbrev pub published : (Option (List ℕ) → ℕ → Port) → List ℕ → Span → Span → Option (List Port)
published port text (One host) (One target) = Some (port (Some (decimal host)) target ∷ [])
published port text (Range low high) (One target) = Some (port (Some text) target ∷ [])
published port text (Range low high) (Range first last) =
    if high - low == last - first then Some (ports_from (λ place. port (host_text (Some low) place)) first (last - first + 1)) else None
published port text (One host) (Range first last) = None

-- the ports that a published text and a target give
abbrev pub published_of : (Option (List ℕ) → ℕ → Port) → List ℕ → List ℕ → Option (List Port)
published_of port text target = option_and_then (λ host. option_and_then (published port text host) (target_of target)) (span_of text)

-- a port at an address of the host
abbrev pub port_at : Option (List ℕ) → List ℕ → Option (List ℕ) → ℕ → Port
port_at address protocol host target = record { host_ip = address; published = host; target = target; protocol = protocol }

-- the ports of the parts between colons: a target, a published text and a target, or an address of the host before these
abbrev pub ports_in : List ℕ → List (List ℕ) → Option (List Port)
ports_in protocol (target ∷ []) = option_map (unpublished (port_at None protocol)) (target_of target)
ports_in protocol (text ∷ target ∷ []) = published_of (port_at None protocol) text target
ports_in protocol (address ∷ text ∷ target ∷ []) = if is_address address then published_of (port_at (Some address) protocol) text target else None
ports_in protocol parts = None

-- the protocols of a port
abbrev pub is_protocol : List ℕ → Bool
is_protocol text = bytes_eq text (codes "tcp") || bytes_eq text (codes "udp") || bytes_eq text (codes "sctp")

-- the ports of a text that is cut at its first slash
abbrev pub ports_by : List ℕ → Option (List ℕ × List ℕ) → Option (List Port)
ports_by text None = ports_in (codes "tcp") (parts_at 58 text)
ports_by text (Some (fields, protocol)) = if is_protocol protocol then ports_in protocol (parts_at 58 fields) else None

-- the ports of a text: `[[ip:]published:]target[/protocol]`
abbrev pub ports_of : List ℕ → Option (List Port)
ports_of text = ports_by text (cut_once 47 text)

-- what a span of ports is: a range doesn't fall, and its ports are at most 65,535
abbrev pub IsSpan : Span → Type 0
IsSpan (One port) = port ≤ greatest_port
IsSpan (Range first last) = (first ≤ last) × (last ≤ greatest_port)
