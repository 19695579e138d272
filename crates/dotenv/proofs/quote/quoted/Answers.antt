use Rattle.std.proofs.Common.{◌≡◌, eqb, sym, true, arith}
use Rattle.std.proofs.lemmas.Bool.{eq-eqb}
use Rattle.std.proofs.lemmas.List.{length-drop, take_rest}
use Rattle.dotenv.specs.Quotes.{mark, quoted_of, spelled}
use Rattle.dotenv.proofs.Quoting.{other_mark, quoted_closes, quoted_moves, escape_moves}
use Rattle.dotenv.proofs.quote.quoted.Goals as goal

pub returns-then-c-mark-clause-is : goal.returns-then-c-mark-clause-is
returns-then-c-mark-clause-is c =
    let a = c.args in
    let l = c.loop-at in
    let d = c.index-chars-at in
    let is : eqb d.result (mark a.quote) ≡ true = eq-eqb d.result (mark a.quote) (omega (arith, c.mark.ensures)) in
    quoted_closes a.quote a.chars.now l.at d.result (omega arith) d.is l.text (spelled (quoted_of a.quote a.chars.now)) is l.invariant.is

pub loop-at-preserved-in-Some : goal.loop-at-preserved-in-Some
loop-at-preserved-in-Some c =
    let a = c.args in
    let l = c.loop-at in
    let d = c.index-chars-at in
    let other = other_mark d.result c.mark.result (mark a.quote) c.if-c-mark.false c.mark.ensures in
    let rest = take_rest a.chars.now l.at in
    let is = rw rest at c.in-Some.ensures.is in
    let two = rw rest at c.in-Some.ensures.two in
    record {
      within = omega (arith, length-drop l.at a.chars.now, two);
      is = escape_moves a.quote a.chars.now l.at d.result (omega arith) d.is c.in-Some.d l.text c.push.new.self (spelled (quoted_of a.quote a.chars.now)) other (sym is) c.in_ok-push-in-Some.ensures.ok l.invariant.is;
    }

pub loop-at-preserved : goal.loop-at-preserved
loop-at-preserved c =
    let a = c.args in
    let l = c.loop-at in
    let d = c.index-chars-at in
    let other = other_mark d.result c.mark.result (mark a.quote) c.if-c-mark.false c.mark.ensures in
    let rest = take_rest a.chars.now l.at in
    let is = rw rest at c.in-None.ensures.is in
    record {
      within = omega arith;
      is = quoted_moves a.quote a.chars.now l.at d.result (omega arith) d.is l.text c.push-in-None.new.self (spelled (quoted_of a.quote a.chars.now)) other (sym is) c.in_ok-push-in-None.ensures.ok l.invariant.is;
    }
