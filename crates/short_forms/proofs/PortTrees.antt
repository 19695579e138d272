-- How a port reads back from its long form.
use Rattle.std.proofs.Common.{◌≡◌, ◌∙◌, ℕ, ◌<◌, ◌≤◌, ◌^◌, true, cond, ltb, List, [], ◌∷◌, All, codes, Option, None, Some, IfSome, refl, ap}
use Rattle.std.proofs.lemmas.Bool.{cond-true, lt-ltb}
use Rattle.std.proofs.lemmas.List.Elements.{All-weaker}
use Rattle.std.specs.Fmt.{decimal}
use Rattle.std.specs.Option.{option_and_then, option_map}
use Rattle.tree_base.specs.declared.tree.Tree.TheVariants.{Scalar, outs-Map, outs-Scalar}
use Rattle.short_forms.specs.Ports.{is_protocol, ports_of}
use Rattle.short_forms.specs.declared.ports.Port.{Port}
use Rattle.short_forms.specs.LongForms.{Entries, map_entries, scalar_text, text_under, with_text}
use Rattle.short_forms.specs.PortLaws.{IsPort, if_given, long_port, port_of_entries, port_of_tree, protocol_in, published_in, short_port, target_in}
use Rattle.short_forms.proofs.PortNumbers.{number_back}
use Rattle.short_forms.proofs.PortTexts.{IsHost, IsShort, all_short, reads_back}

target_read : (n : ℕ) → 1 ≤ n → n ≤ 65535 → target_in (decimal n) ≡ Some n
target_read n some most = ap (option_and_then (λ (m : ℕ). cond (ltb 0 m) (Some m) None)) (number_back n most) ∙ cond-true (ltb 0 n) (Some n) None (lt-ltb 0 n some)

given_read : (host : Option (List ℕ)) → IfSome host (λ text. published_in text ≡ Some text) → if_given published_in host ≡ Some host
given_read None e = refl
given_read (Some text) e = ap (option_map Some) e

module _ (target protocol : List ℕ) where
  -- the entries of a port, by its options
  abbrev entries : Option (List ℕ) → Option (List ℕ) → Entries
  entries host address = (codes "target", Scalar target) ∷ (codes "protocol", Scalar protocol) ∷ with_text (codes "published") host (with_text (codes "host_ip") address [])

  target_under : (host address : Option (List ℕ)) → text_under (codes "target") (entries host address) ≡ Some target
  target_under host address = ap scalar_text (outs-Scalar target)

  protocol_under : (host address : Option (List ℕ)) → text_under (codes "protocol") (entries host address) ≡ Some protocol
  protocol_under host address = ap scalar_text (outs-Scalar protocol)

  host_under : (host address : Option (List ℕ)) → text_under (codes "published") (entries host address) ≡ host
  host_under None None = refl
  host_under None (Some address) = refl
  host_under (Some host) address = ap scalar_text (outs-Scalar host)

  address_under : (host address : Option (List ℕ)) → text_under (codes "host_ip") (entries host address) ≡ address
  address_under None None = refl
  address_under None (Some address) = ap scalar_text (outs-Scalar address)
  address_under (Some host) None = refl
  address_under (Some host) (Some address) = ap scalar_text (outs-Scalar address)

abbrev port_with : Option (List ℕ) → ℕ → List ℕ → Option (List ℕ) → Port
port_with address target protocol host = record { host_ip = address; published = host; target = target; protocol = protocol }

entries_read : (target : ℕ) (protocol : List ℕ) (host address : Option (List ℕ)) → 1 ≤ target → target ≤ 65535 → is_protocol protocol ≡ true → IfSome host (λ text. published_in text ≡ Some text)
    → port_of_entries (entries (decimal target) protocol host address) ≡ Some (port_with address target protocol host)
entries_read target protocol host address some most known kept =
    let all = entries (decimal target) protocol host address in
    let found = text_under (codes "host_ip") all in
    let with_host : ℕ → List ℕ → Option (Option (List ℕ)) → Option Port = λ t p h. option_map (port_with found t p) h in
    let with_protocol : ℕ → Option (List ℕ) → Option Port = λ t o. option_and_then (λ p. with_host t p (if_given published_in (text_under (codes "published") all))) o in
    ap (λ (o : Option (List ℕ)). option_and_then (λ t. with_protocol t (protocol_in (text_under (codes "protocol") all))) (option_and_then target_in o)) (target_under (decimal target) protocol host address)
    ∙ ap (λ (o : Option ℕ). option_and_then (λ t. with_protocol t (protocol_in (text_under (codes "protocol") all))) o) (target_read target some most)
    ∙ ap (λ (o : Option (List ℕ)). with_protocol target (protocol_in o)) (protocol_under (decimal target) protocol host address)
    ∙ ap (with_protocol target) (cond-true (is_protocol protocol) (Some protocol) None known)
    ∙ ap (λ (o : Option (List ℕ)). with_host target protocol (if_given published_in o)) (host_under (decimal target) protocol host address)
    ∙ ap (with_host target protocol) (given_read host kept)
    ∙ ap (λ (a : Option (List ℕ)). Some (port_with a target protocol host)) (address_under (decimal target) protocol host address)

-- a port reads back from its long form
pub tree_back : (port : Port) → IsPort port → port_of_tree (long_port port) ≡ Some port
tree_back port is =
    ap (λ tree. option_and_then port_of_entries (map_entries tree)) (outs-Map (entries (decimal port.target) port.protocol port.published port.host_ip))
    ∙ entries_read port.target port.protocol port.published port.host_ip is.some is.most is.protocol is.published

host_kept : (address host : Option (List ℕ)) → IsHost address host → IfSome host (λ text. published_in text ≡ Some text)
host_kept None None is = tt
host_kept (Some address) None is = tt
host_kept None (Some text) is = is
host_kept (Some address) (Some text) is = is.1

is_port : (port : Port) → IsShort port → IsPort port
is_port port is = record { some = is.some; most = is.most; protocol = is.protocol; published = host_kept port.host_ip port.published is.host }

-- the ports of a short form, one by one
pub texts_back : (text : List ℕ) (ports : List Port) → ports_of text ≡ Some ports → All (λ port. ports_of (short_port port) ≡ Some (port ∷ [])) ports
texts_back text ports e = All-weaker IsShort (λ port. ports_of (short_port port) ≡ Some (port ∷ [])) reads_back ports (all_short text ports e)

pub trees_back : (text : List ℕ) (ports : List Port) → ports_of text ≡ Some ports → All (λ port. IsPort port × (port_of_tree (long_port port) ≡ Some port)) ports
trees_back text ports e =
    All-weaker IsShort (λ port. IsPort port × (port_of_tree (long_port port) ≡ Some port)) (λ port is. (is_port port is, tree_back port (is_port port is))) ports (all_short text ports e)
