use Rattle.std.proofs.Common.{◌≡◌, ◌∙◌, ap, length, refl, sym, false, arith}
use Rattle.yaml_lines.specs.Blanks.{is_blank}
use Rattle.yaml_groups.specs.Parts.{led}
use Rattle.yaml_groups.proofs.GroupSteps.{led_fewer, led_first, line_step}
use Rattle.yaml_groups.proofs.group.grouped.Goals as goal

pub belonging-count-requires : goal.belonging-count-requires
belonging-count-requires c =
    let first = led_first c.loop-row.rest c.next.new.self c.in-Some.row c.in-Some.ensures in
    let same = ap (λ rows. length (led rows)) c.rows-in-Some.ensures in
    let fits = c.loop-row.invariant.fits in
    omega arith

pub loop-row-preserved : goal.loop-row-preserved
loop-row-preserved c =
    let row = c.in-Some.row in
    let rest = c.next.new.self in
    let following = c.in_ok-following.following in
    let first = led_first c.loop-row.rest rest row c.in-Some.ensures in
    let fewer = led_fewer rest c.belonging-count.result in
    let taken = ap (λ rows. length (led rows)) c.in_ok-following.ensures.rest in
    let fits = c.loop-row.invariant.fits in
    let full : is_blank row.chars ≡ false = sym c.is_blank_row.ensures ∙ c.if-is_blank_row.false in
    let head = rw c.as_slice-in-Some.ensures at c.head_of-column.ensures.is in
    let count = rw c.rows-in-Some.ensures at c.belonging-count.ensures in
    record {
      fits = omega arith;
      is = line_step c.loop-row.owner _ c.belonging-count.result c.head_of-column.result row c.loop-row.rest rest c.take.new.self following c.in_ok-with_lines.field-0 c.loop-row.lines _ _ c.in-Some.ensures full head count c.in_ok-following.ensures.is c.in_ok-following.ensures.rest c.in_ok-with_lines.ensures c.in_ok-push.ensures.ok refl c.loop-row.invariant.is;
    }
