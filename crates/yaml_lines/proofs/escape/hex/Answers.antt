use Rattle.std.proofs.Common.{◌∙◌, ◌-◌, ◌≤◌, ◌+◌, ◌*◌, drop, sym, ap, arith}
use Rattle.yaml_lines.proofs.QuoteSteps.{hex_more, hex_short, hex_bad, hex_large}
use Rattle.std.specs.Char.{digit_value}
use Rattle.yaml_lines.specs.Quoted.{hex_of}
use Rattle.yaml_lines.proofs.escape.hex.Goals as goal

pub returns-then-i-chars-clause-is : goal.returns-then-i-chars-clause-is
returns-then-i-chars-clause-is c = sym (hex_short c.args.chars.now c.args.digits c.loop-i.i c.loop-i.value (omega arith) (omega arith)) ∙ c.loop-i.invariant.is

pub returns-then-value-ge1114112-clause-is : goal.returns-then-value-ge1114112-clause-is
returns-then-value-ge1114112-clause-is c =
    sym (hex_large (c.args.digits - c.loop-i.i) c.loop-i.value (drop c.loop-i.i c.args.chars.now) (omega arith)) ∙ c.loop-i.invariant.is

pub returns-in_err-value-clause-is : goal.returns-in_err-value-clause-is
returns-in_err-value-clause-is c =
    let no = c.in_err-value.ensures.value in
    let large : 16 ≤ digit_value c.index-chars-i.result = omega (arith, no) in
    c.from_residual.ensures ∙ sym (hex_bad c.args.chars.now c.args.digits c.loop-i.i c.loop-i.value c.index-chars-i.result (omega arith) (omega arith) c.index-chars-i.is large) ∙ c.loop-i.invariant.is

pub loop-i-preserved : goal.loop-i-preserved
loop-i-preserved c =
    let digit = c.in_ok-value.ensures.value in
    record {
      within = omega arith;
      is =
          ap (λ d. hex_of (c.args.digits - (c.loop-i.i + 1)) (c.loop-i.value * 16 + d) (drop (c.loop-i.i + 1) c.args.chars.now)) digit.1
          ∙ sym (hex_more c.args.chars.now c.args.digits c.loop-i.i c.loop-i.value c.index-chars-i.result (omega arith) (omega arith) c.index-chars-i.is digit.0)
          ∙ c.loop-i.invariant.is;
    }
