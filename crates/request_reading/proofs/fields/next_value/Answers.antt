-- A header with the name is the first, and one with another name isn't.
use Rattle.std.proofs.Common.{sym, ◌∙◌}
use Rattle.request_reading.proofs.FieldValues.{first_within, is_first, is_not_first}
use Rattle.request_reading.proofs.fields.next_value.Goals as goal

pub is_named-requires : goal.is_named-requires
is_named-requires c =
    first_within c.args.head.now c.args.headers.now c.loop-header.rest.now c.in-Some.more.now c.in-Some.header.now c.args.name.now c.in-Some.ensures.cases.0
    c.loop-header.invariant.are_within

pub returns-then-is_named : goal.returns-then-is_named
returns-then-is_named c =
    is_first c.args.head.now c.args.headers.now c.loop-header.rest.now c.in-Some.more.now c.in-Some.header.now c.args.name.now c.in-Some.ensures.cases.0
    c.of.result.now (sym c.is_named.ensures ∙ c.if-is_named.true) c.of.ensures c.loop-header.invariant.values_are c.loop-header.invariant.fewer
    c.loop-header.invariant.are_within

pub loop-header-preserved : goal.loop-header-preserved
loop-header-preserved c =
    let r =
    is_not_first c.args.head.now c.args.headers.now c.loop-header.rest.now c.in-Some.more.now c.in-Some.header.now c.args.name.now c.in-Some.ensures.cases.0
    (sym c.is_named.ensures ∙ c.if-is_named.false) c.loop-header.invariant.values_are c.loop-header.invariant.fewer c.loop-header.invariant.are_within in
    record { values_are = r.0; fewer = r.1; are_within = r.2 }
