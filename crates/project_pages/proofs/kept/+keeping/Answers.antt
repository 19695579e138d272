use Rattle.std.proofs.Common.{◌≡◌, ◌∙◌, ◌<◌, ℕ, List, length, map, sym, ap, arith, rules}
use Rattle.tree_base.specs.declared.Tree.{Tree, Map, the_lemmas}
use Rattle.project_print.specs.declared.node.Node.TheVariants as node
use Rattle.project_pages.specs.AttributePages.{kept_node}
use Rattle.project_pages.proofs.Keys.{values_long, values_made}
use Rattle.project_pages.proofs.Lists.{all_made, one_made}
use Rattle.project_pages.proofs.kept.+keeping.Goals as goal

kept_map_is : (es : List (List ℕ × Tree)) → kept_node (Map es) ≡ node.Map (map (λ (e : List ℕ × Tree). (e.0, kept_node e.1)) es)
kept_map_is es = search (rules, the_lemmas)

pub kept_map-with_values-requires : goal.kept_map-with_values-requires
kept_map-with_values-requires t c = values_long kept_node c.args.entries.now c.values.result.now c.in_ok-values.values c.values.ensures c.in_ok-values.ensures

pub kept_map-returns : goal.kept_map-returns
kept_map-returns t c =
    ap node.Map (c.in_ok-with_values.ensures ∙ values_made kept_node c.args.entries.now c.values.result.now c.in_ok-values.values c.values.ensures c.in_ok-values.ensures)
    ∙ sym (kept_map_is c.args.entries.now)

pub kept_nodes-loop-tree-preserved : goal.kept_nodes-loop-tree-preserved
kept_nodes-loop-tree-preserved t c =
    let within : c.loop-tree.tree-index < length c.args.trees.now = omega arith in
    one_made kept_node c.args.trees.now c.loop-tree.tree-index c.tree-item.result c.loop-tree.nodes _ _ within c.tree-item.is
    c.loop-tree.invariant c.in_ok-kept_node.ensures c.in_ok-push.ensures.ok

pub kept_nodes-returns : goal.kept_nodes-returns
kept_nodes-returns t c = all_made kept_node c.args.trees.now c.loop-tree.tree-index c.loop-tree.nodes c.loop-tree.invariant (omega arith)
