use Rattle.std.proofs.Common.{◌≡◌, ◌∙◌, ◌+◌, ap, sym, List, ℕ, [], ◌∷◌, ◌++◌, length, drop, map, slice_get, Some, refl, arith}
use Rattle.std.proofs.lemmas.List.{append_assoc}
use Rattle.std.proofs.lemmas.Option.{slice_get_read}
use Rattle.tree_base.specs.declared.Tree.{Tree, Scalar}
use Rattle.attribute_paths.proofs.Walks.{drop_next}
use Rattle.long_forms.proofs.texts.scalars.Goals as goal

pub loop-text-preserved : goal.loop-text-preserved
loop-text-preserved c =
    let texts = c.args.texts.now in
    let l = c.loop-text in
    let text = c.text-item.result in
    let at : slice_get texts l.text-index ≡ Some text = slice_get_read texts (length texts) l.text-index text refl (omega arith) c.text-item.is in
    let rest = map Scalar (drop (l.text-index + 1) texts) in
    let next : map Scalar (drop l.text-index texts) ≡ Scalar text ∷ rest = ap (map Scalar) (drop_next texts l.text-index text at) in
    ap (λ (all : List Tree). all ++ rest) (c.in_ok-push.ensures.ok ∙ ap (λ (t : List ℕ). l.items ++ Scalar t ∷ []) c.in_ok-copy.ensures)
    ∙ append_assoc l.items (Scalar text ∷ []) rest
    ∙ ap (λ (more : List Tree). l.items ++ more) (sym next)
    ∙ l.invariant
