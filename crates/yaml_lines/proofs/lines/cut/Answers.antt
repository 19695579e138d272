use Rattle.std.proofs.Common.{◌≡◌, ◌∙◌, ◌+◌, ◌<◌, ◌++◌, ◌∷◌, [], List, ℕ, ap, sym, get_or, drop, length, append_assoc, append-nil, arith}
use Rattle.std.proofs.lemmas.Iterator.Splits.{YieldsList-from_lines}
use Rattle.std.proofs.lemmas.Iterator.Consumers.{YieldsList-turn, YieldsList-end}
use Rattle.std.proofs.lemmas.List.{at_drop_more, at_drop_all, length_push}
use Rattle.std.specs.Str.Lines.{lines}
use Rattle.yaml_lines.specs.declared.lines.Line.{Line}
use Rattle.yaml_lines.specs.Rows.{one_more}
use Rattle.yaml_lines.specs.Scan.{numbered, line_of}
use Rattle.yaml_lines.proofs.lines.cut.Goals as goal

step : (done new : List Line) (n m i k : ℕ) (ts : List (List ℕ)) (t : List ℕ) (total : List Line) (line : Line) → i < length ts → t ≡ get_or ts i t → line ≡ line_of n t → m ≡ one_more n → k ≡ i + 1 → new ≡ done ++ line ∷ []
    → done ++ numbered n (drop i ts) ≡ total → new ++ numbered m (drop k ts) ≡ total
step done new n m i k ts t total line h e is more counted push so_far =
    let rest = numbered (one_more n) (drop (i + 1) ts) in
    (λ j. new ++ numbered (more j) (drop (counted j) ts))
    ∙ ap (λ x. x ++ rest) push
    ∙ append_assoc done (line ∷ []) rest
    ∙ ap (λ x. done ++ (x ∷ rest)) is
    ∙ ap (λ x. done ++ numbered n (x ∷ drop (i + 1) ts)) e
    ∙ sym (ap (λ x. done ++ x) (at_drop_more (numbered n) ts i t h))
    ∙ so_far

pub loop-line-preserved : goal.loop-line-preserved
loop-line-preserved c =
    let t = YieldsList-turn (YieldsList-from_lines c.args.text.now cc) c.loop-line.yielded _ c.loop-line.yielded_by _ _ c.in-Some.line c.in-Some.is c.next.ensures.steps in
    let ts = lines c.args.text.now in
    step c.loop-line.done _ c.loop-line.number _ (length c.loop-line.yielded) _ ts c.in-Some.line.now (numbered 1 ts) _ t.0 t.1 c.in_ok-line_of.ensures c.saturating_add-number.ensures (length_push c.loop-line.yielded c.in-Some.line) c.in_ok-push.ensures.ok c.loop-line.invariant

pub returns : goal.returns
returns c =
    let t = YieldsList-end (YieldsList-from_lines c.args.text.now cc) c.loop-line.yielded _ c.loop-line.yielded_by _ _ c.in-None.is c.next.ensures.steps in
    sym (append-nil c.loop-line.done) ∙ sym (ap (λ x. c.loop-line.done ++ x) (at_drop_all (numbered c.loop-line.number) (lines c.args.text.now) (length c.loop-line.yielded) (omega (arith, t.1)))) ∙ c.loop-line.invariant
