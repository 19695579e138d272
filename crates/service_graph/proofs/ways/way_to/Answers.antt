use Rattle.std.proofs.Common.{◌≡◌, ◌<◌, Some, List, ℕ, [], ◌∷◌, ◌++◌, length, get_or, reverse, sym, ap, ◌∙◌, arith, append_assoc}
use Rattle.std.specs.Prelude.{slice_get}
use Rattle.std.proofs.lemmas.List.{reverse-append}
use Rattle.std.proofs.lemmas.Option.{slice_get-get_or}
use Rattle.service_graph.specs.declared.ways.Reached.{Reached}
use Rattle.service_graph.specs.Reaching.{ways_of}
use Rattle.service_graph.proofs.Reached.{way_first, way_from}
use Rattle.service_graph.proofs.ways.way_to.Goals as goal

pub loop-at-preserved : goal.loop-at-preserved
loop-at-preserved c =
    let d : Reached = record { place = 0; from = 0 } in
    let reached : List Reached = c.args.reached.now in
    let at : ℕ = c.loop-at.at in
    let one : Reached = get_or reached at d in
    let within : at < length reached = c.loop-at.invariant.within in
    let e : slice_get reached at ≡ Some one = slice_get-get_or reached at d within in
    let below : one.from < at = c.requires.earlier at one e c.loop-at-test.true in
    let pushed : reverse c.push.new.self.items ≡ one.place ∷ reverse c.loop-at.way.items = ap (reverse {A = ℕ}) c.in_ok-push.ensures.items ∙ reverse-append c.loop-at.way.items (one.place ∷ []) in
    record {
      within = omega (arith, below, within);
      goes_on =
          c.loop-at.invariant.goes_on ∙ ap (λ (way : List ℕ). way ++ reverse c.loop-at.way.items) (way_from reached at one c.requires.earlier e c.loop-at-test.true)
          ∙ append_assoc (get_or (ways_of reached) one.from []) (one.place ∷ []) (reverse c.loop-at.way.items)
          ∙ ap (λ (more : List ℕ). get_or (ways_of reached) one.from [] ++ more) (sym pushed);
    }

pub returns : goal.returns
returns c =
    let d : Reached = record { place = 0; from = 0 } in
    let reached : List Reached = c.args.reached.now in
    let one : Reached = get_or reached 0 d in
    let within : c.loop-at.at < length reached = c.loop-at.invariant.within in
    let none : c.loop-at.at ≡ 0 = omega (arith, c.loop-at-test.false) in
    let e : slice_get reached 0 ≡ Some one = slice_get-get_or reached 0 d (omega (arith, within)) in
    let pushed : reverse c.push-2.new.self.items ≡ one.place ∷ reverse c.loop-at.way.items = ap (reverse {A = ℕ}) c.in_ok-push-2.ensures.items ∙ reverse-append c.loop-at.way.items (one.place ∷ []) in
    c.from_vec.ensures ∙ c.reverse.ensures.items ∙ pushed
    ∙ sym (c.loop-at.invariant.goes_on ∙ ap (λ (i : ℕ). get_or (ways_of reached) i [] ++ reverse c.loop-at.way.items) none
    ∙ ap (λ (way : List ℕ). way ++ reverse c.loop-at.way.items) (way_first reached one e))
