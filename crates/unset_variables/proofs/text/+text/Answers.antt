use Rattle.std.proofs.Common.{◌≡◌, ◌≢◌, ◌∙◌, ◌+◌, ◌-◌, ◌≤◌, ap, sym, subst, [], length, arith, rules}
use Rattle.interpolate.specs.Parts.{parts}
use Rattle.tree_base.specs.Entries.{value_at}
use Rattle.unset_variables.specs.Heads.{action_of}
use Rattle.unset_variables.specs.Unset.{GivesFirst, with_unset}
use Rattle.unset_variables.proofs.Steps.{dollar_given, first_fine, first_wrong, form_given, literal_given, name_given, unclosed_given, value_given, wrong_given}
use Rattle.unset_variables.proofs.text.+text.Goals as goal

pub put_part-returns-in-Literal : goal.put_part-returns-in-Literal
put_part-returns-in-Literal t c = let a = c.args in literal_given (value_at a.env.now) a.names.now a.levels a.text.now c.in-Literal.len c.in-Literal.ensures.is c.in-Literal.ensures.fits

pub put_part-returns-in-Dollar : goal.put_part-returns-in-Dollar
put_part-returns-in-Dollar t c = let a = c.args in dollar_given (value_at a.env.now) a.names.now a.levels a.text.now c.in-Dollar.ensures.is c.in-Dollar.ensures.fits

pub put_part-returns-in_ok-put_name-in-Name : goal.put_part-returns-in_ok-put_name-in-Name
put_part-returns-in_ok-put_name-in-Name t c =
    let a = c.args in
    name_given (value_at a.env.now) a.names.now a.levels a.text.now c.put_name.new.names c.piece.result.now c.in-Name.len c.in-Name.ensures.is c.in-Name.ensures.fits.to_cut c.piece.ensures.value c.in_ok-put_name-in-Name.ensures

pub put_part-returns-in_ok-put_name-in-Value : goal.put_part-returns-in_ok-put_name-in-Value
put_part-returns-in_ok-put_name-in-Value t c =
    let a = c.args in
    value_given (value_at a.env.now) a.names.now a.levels a.text.now c.put_name-in-Value.new.names c.piece-in-Value.result.now c.in-Value.len c.in-Value.ensures.is c.in-Value.ensures.fits.1 c.piece-in-Value.ensures.value
    c.in_ok-put_name-in-Value.ensures

pub put_part-returns-in-Unclosed : goal.put_part-returns-in-Unclosed
put_part-returns-in-Unclosed t c = let a = c.args in unclosed_given (value_at a.env.now) a.names.now a.levels a.text.now c.in-Unclosed.ensures.is

pub put_part-returns-in-Wrong : goal.put_part-returns-in-Wrong
put_part-returns-in-Wrong t c = let a = c.args in wrong_given (value_at a.env.now) a.names.now a.levels a.text.now c.in-Wrong.ensures.is

pub put_part-returns-in_ok-whole-in-Form : goal.put_part-returns-in_ok-whole-in-Form
put_part-returns-in_ok-whole-in-Form t c =
    let a = c.args in
    let f = c.in-Form in
    form_given (value_at a.env.now) a.names.now a.levels a.text.now c.put_form.new.names c.len_if.result c.piece-inner.result.now c.piece-name.result.now c.in_ok-whole-in-Form.whole f.name f.colon (action_of f.taking) f.tail
    c.tail_start-start.result f.ensures.is f.ensures.fits.0 c.tail_start-start.ensures c.piece-inner.ensures.value c.piece-name.ensures.value f.ensures.fits.2.after_cut c.in_ok-whole-in-Form.ensures c.len_if.ensures

pub put_text-returns-in-None : goal.put_text-returns-in-None
put_text-returns-in-None t c =
    let a = c.args in
    let l = c.loop-rest in
    let env = value_at a.env.now in
    let some : l.rest.now ≢ [] = search rules in
    let given = subst (λ len. GivesFirst env l.names a.levels l.rest.now len c.put_part.new.names) c.in-None.is c.in_ok-len.ensures in
    λ at.
    let to = at + (length a.text.now - length l.rest.now) in
    sym (l.invariant.same at) ∙ first_wrong env l.names a.levels to l.rest.now some (given to)

pub put_text-loop-rest-preserved : goal.put_text-loop-rest-preserved
put_text-loop-rest-preserved t c =
    let a = c.args in
    let l = c.loop-rest in
    let env = value_at a.env.now in
    let some : l.rest.now ≢ [] = search rules in
    let n = c.in-Some.len in
    let given = subst (λ len. GivesFirst env l.names a.levels l.rest.now len c.put_part.new.names) c.in-Some.is c.in_ok-len.ensures in
    let rest = c.rest_from-rest.result.now in
    let cut : n + length rest ≡ length l.rest.now = c.rest_from-rest.ensures.len in
    let few : length l.rest.now ≤ length a.text.now = l.invariant.few in
    record {
      utf8 = c.rest_from-rest.utf8;
      few = omega (arith, cut, few);
      same = λ at.
          let to = at + (length a.text.now - length l.rest.now) in
          let place : at + (length a.text.now - length rest) ≡ to + n = omega (arith, cut, few) in
          ap (λ k. with_unset env c.put_part.new.names (parts a.levels k rest)) place
          ∙ ap (λ r. with_unset env c.put_part.new.names (parts a.levels (to + n) r)) c.rest_from-rest.ensures.value
          ∙ sym (first_fine env l.names c.put_part.new.names a.levels to l.rest.now n some given.1 given.2 given.3.0 (given.0 to))
          ∙ l.invariant.same at;
    }
