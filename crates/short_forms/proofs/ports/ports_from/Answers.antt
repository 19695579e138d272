use Rattle.std.proofs.Common.{◌∙◌, ◌+◌, ◌++◌, ◌∷◌, [], ap, sym, arith}
use Rattle.std.proofs.lemmas.List.FromFn.{map-range_with_len_more}
use Rattle.short_forms.specs.Ports.{host_text, port_at}
use Rattle.short_forms.proofs.ports.ports_from.Goals as goal

pub loop-place-preserved : goal.loop-place-preserved
loop-place-preserved c =
    let address = c.args.host_ip.now in
    let protocol = c.args.protocol.now in
    let target = c.args.first + c.loop-place.place in
    let port = c.in_ok-port_at.ensures ∙ ap (λ host. port_at address protocol host target) c.in_ok-host.ensures in
    c.in_ok-push.ensures.ok ∙ (λ i. c.loop-place.invariant i ++ port i ∷ [])
    ∙ sym (map-range_with_len_more (λ place. port_at address protocol (host_text c.args.low place) (c.args.first + place)) 0 c.loop-place.place c.loop-place.place (omega arith))
