use Rattle.std.proofs.Common.{◌≡◌, ◌∙◌, ◌+◌, ap, sym, List, [], ◌∷◌, ◌++◌, length, drop, map, slice_get, Some, refl, arith}
use Rattle.std.proofs.lemmas.List.{append_assoc}
use Rattle.std.proofs.lemmas.Option.{slice_get_read}
use Rattle.tree_base.specs.declared.Tree.{Tree}
use Rattle.short_forms.specs.PortLaws.{long_port}
use Rattle.attribute_paths.proofs.Walks.{drop_next}
use Rattle.long_forms.proofs.entries.with_long_ports.Goals as goal

pub loop-port-preserved : goal.loop-port-preserved
loop-port-preserved c =
    let ports = c.args.ports.now in
    let l = c.loop-port in
    let port = c.port-item.result in
    let at : slice_get ports l.port-index ≡ Some port = slice_get_read ports (length ports) l.port-index port refl (omega arith) c.port-item.is in
    let rest = map long_port (drop (l.port-index + 1) ports) in
    let next : map long_port (drop l.port-index ports) ≡ long_port port ∷ rest = ap (map long_port) (drop_next ports l.port-index port at) in
    ap (λ (all : List Tree). all ++ rest) (c.in_ok-push.ensures.ok ∙ ap (λ (tree : Tree). l.all ++ tree ∷ []) c.in_ok-long_port.ensures)
    ∙ append_assoc l.all (long_port port ∷ []) rest
    ∙ ap (λ (more : List Tree). l.all ++ more) (sym next)
    ∙ l.invariant
