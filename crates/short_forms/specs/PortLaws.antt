-- Laws of ports: what a port is as a text and as a tree, and that both read back (Compose Specification, "ports").
use Rattle.std.specs.Prelude.{◌≡◌, ◌≤◌, ℕ, Bool, true, ◌&&◌, nat_lt, List, [], ◌∷◌, ◌++◌, All, codes, Option, None, Some, IfSome, unwrap_or, if◌then◌else◌}
use Rattle.std.specs.Fmt.{decimal}
use Rattle.std.specs.Option.{option_and_then, option_map}
use Rattle.tree_base.specs.Limits.{greatest_port}
use Rattle.tree_base.specs.declared.tree.Tree.{Tree}
use Rattle.tree_base.specs.declared.tree.Tree.TheVariants.{Map, Scalar}
use Rattle.short_forms.specs.Digits.{number_up_to}
use Rattle.short_forms.specs.Ports.{is_protocol, ports_of, span_of}
use Rattle.short_forms.specs.declared.ports.Port.{Port}
use Rattle.short_forms.specs.declared.ports.Span.{Span}
use Rattle.short_forms.specs.declared.ports.Span.TheVariants.{One, Range}
use Rattle.short_forms.specs.LongForms.{Entries, entries_of, text_under, with_text}

-- what stands before the target in a short form: what the port is published as, and the address of the host before that
abbrev pub before_target : Option (List ℕ) → Option (List ℕ) → List ℕ
before_target address None = []
before_target None (Some host) = host ++ codes ":"
before_target (Some address) (Some host) = address ++ (codes ":" ++ (host ++ codes ":"))

-- a port in the short form: `[[ip:]published:]target/protocol`
abbrev pub short_port : Port → List ℕ
short_port port = before_target port.host_ip port.published ++ (decimal port.target ++ (codes "/" ++ port.protocol))

-- each port that a short form gives is the one port of its own short form
abbrev pub ShortPortsReadBack : Type 0
ShortPortsReadBack = (text : List ℕ) (ports : List Port) → ports_of text ≡ Some ports → All (λ port. ports_of (short_port port) ≡ Some (port ∷ [])) ports

-- a port in the long form: a target and a protocol, and what it is published as and the address, where it has them
abbrev pub long_port : Port → Tree
long_port port =
    Map ((codes "target", Scalar (decimal port.target)) ∷ (codes "protocol", Scalar port.protocol) ∷ with_text (codes "published") port.published (with_text (codes "host_ip") port.host_ip []))

-- what a span is published as: a number without leading zeros, or a range as it is spelled
abbrev pub as_published : List ℕ → Span → List ℕ
as_published text (One host) = decimal host
as_published text (Range first last) = text

-- what a text says of the host's ports
abbrev pub published_in : List ℕ → Option (List ℕ)
published_in text = option_map (as_published text) (span_of text)

-- what a long form may leave out: where it is there, it has to be read
abbrev pub if_given : {X : Type 0} → (List ℕ → Option X) → Option (List ℕ) → Option (Option X)
if_given read None = Some None
if_given read (Some text) = option_map Some (read text)

-- a target: a number from 1 to 65,535
abbrev pub target_in : List ℕ → Option ℕ
target_in text = option_and_then (λ n. if nat_lt 0 n then Some n else None) (number_up_to greatest_port text)

-- a protocol: `tcp` where none is named
abbrev pub protocol_in : Option (List ℕ) → Option (List ℕ)
protocol_in named = let protocol = unwrap_or named (codes "tcp") in if is_protocol protocol then Some protocol else None

-- the port of a long form's entries
abbrev pub port_of_entries : Entries → Option Port
port_of_entries entries =
    option_and_then (λ target.
    option_and_then (λ protocol.
    option_map (λ host. record { host_ip = text_under (codes "host_ip") entries; published = host; target = target; protocol = protocol })
    (if_given published_in (text_under (codes "published") entries)))
    (protocol_in (text_under (codes "protocol") entries)))
    (option_and_then target_in (text_under (codes "target") entries))

-- the port of a long form
abbrev pub port_of_tree : Tree → Option Port
port_of_tree tree = option_and_then port_of_entries (entries_of tree)

-- a port as it is kept: its target is a port, its protocol is known, and what it is published as is spelled without need
pub record IsPort (port : Port) : Type 0 where
  pub some : 1 ≤ port.target
  pub most : port.target ≤ greatest_port
  pub protocol : is_protocol port.protocol ≡ true
  pub published : IfSome port.published (λ text. published_in text ≡ Some text)

-- a port reads back from its long form
abbrev pub LongPortsReadBack : Type 0
LongPortsReadBack = (port : Port) → IsPort port → port_of_tree (long_port port) ≡ Some port

-- each port that a short form gives is kept so, and reads back from its long form
abbrev pub ShortPortsAreLong : Type 0
ShortPortsAreLong = (text : List ℕ) (ports : List Port) → ports_of text ≡ Some ports → All (λ port. IsPort port × (port_of_tree (long_port port) ≡ Some port)) ports
