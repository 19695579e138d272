use Rattle.std.proofs.Common.{◌≡◌, ◌∙◌, ℕ, suc, ◌-◌, ◌+◌, ◌<◌, ◌++◌, List, sym, ap, append_assoc, arith}
use Rattle.std.specs.Char.{encode_utf8}
use Rattle.std.specs.Str.{encode_utf8_all}
use Rattle.yaml_lines.specs.Block.{line_ends}
use Rattle.yaml_lines.proofs.block_style.push_line_ends.Goals as goal

step : (text new total : List ℕ) (n i : ℕ) → i < n → new ≡ text ++ encode_utf8 10 → text ++ encode_utf8_all (line_ends (n - i)) ≡ total → new ++ encode_utf8_all (line_ends (n - (i + 1))) ≡ total
step text new total n i h e so_far =
    let k : n - i ≡ suc (n - (i + 1)) = omega arith in
    ap (λ x. x ++ encode_utf8_all (line_ends (n - (i + 1)))) e ∙ append_assoc text (encode_utf8 10) (encode_utf8_all (line_ends (n - (i + 1)))) ∙ ap (λ m. text ++ encode_utf8_all (line_ends m)) (sym k) ∙ so_far

pub loop-preserved : goal.loop-preserved
loop-preserved c = step c.loop.text _ _ c.args.count c.loop.counter (omega arith) c.in_ok-push.ensures.ok c.loop.invariant
