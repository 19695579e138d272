use Rattle.std.proofs.Common.{◌≡◌, ◌++◌, drop, map}
use Rattle.project_print.specs.Pages.{item, shown}
use Rattle.project_print.specs.Written.{parts_text}
use Rattle.project_print.specs.declared.node.Node.TheVariants.{Text}
use Rattle.project_pages.proofs.texts.put_texts.Given as goal

abbrev pub invariant-loop-at : goal.invariant-loop-at
invariant-loop-at l =
    l.out ++ parts_text l.depth l.at (drop l.at (map (λ t. item (shown (Text t))) l.texts)) ≡ l.initial.out ++ parts_text l.depth 0 (map (λ t. item (shown (Text t))) l.texts)
