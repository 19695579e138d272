use Rattle.std.proofs.Common.{◌∙◌, ◌++◌, [], sym}
use Rattle.std.proofs.lemmas.Result.{on_ok_weaker}
use Rattle.std.specs.Char.{encode_utf8}
use Rattle.short_forms.specs.declared.words.Within.TheVariants.{Bare, Single, Double, Escape}
use Rattle.short_forms.proofs.WordLemmas.{blank_from, ends_blank, holds_return, left_at, left_end, left_put, opens_double, opens_escape, opens_single, plain_from, takes_bare}
use Rattle.short_forms.proofs.words.bare.Goals as goal

pub returns-then-is_blank : goal.returns-then-is_blank
returns-then-is_blank c =
    let old = c.args.reading.now in
    on_ok_weaker c.end.result (λ p left. left_end old c.end.new.reading left p
    ∙ ends_blank old.words old.word c.args.c left (blank_from c.args.c (sym c.is_blank.ensures ∙ c.if-is_blank.true)) ∙ sym (left_at old Bare (encode_utf8 c.args.c ++ left) c.requires)) c.end.ensures

pub returns-then-c-eq13 : goal.returns-then-c-eq13
returns-then-c-eq13 c = let old = c.args.reading.now in λ left. holds_return old.words old.word c.args.c left c.if-c-eq13.true ∙ sym (left_at old Bare (encode_utf8 c.args.c ++ left) c.requires)

pub returns-then-c-eq39 : goal.returns-then-c-eq39
returns-then-c-eq39 c =
    let old = c.args.reading.now in
    λ left. left_put old c.begin.new.reading [] Single left c.begin.ensures ∙ opens_single old.words old.word c.args.c left c.if-c-eq39.true ∙ sym (left_at old Bare (encode_utf8 c.args.c ++ left) c.requires)

pub returns-then-c-eq34 : goal.returns-then-c-eq34
returns-then-c-eq34 c =
    let old = c.args.reading.now in
    λ left. left_put old c.begin-then-c-eq34.new.reading [] Double left c.begin-then-c-eq34.ensures ∙ opens_double old.words old.word c.args.c left c.if-c-eq34.true ∙ sym (left_at old Bare (encode_utf8 c.args.c ++ left) c.requires)

pub returns-then-c-eq92 : goal.returns-then-c-eq92
returns-then-c-eq92 c =
    let old = c.args.reading.now in
    λ left. left_put old c.begin-then-c-eq92.new.reading [] Escape left c.begin-then-c-eq92.ensures ∙ opens_escape old.words old.word c.args.c left c.if-c-eq92.true ∙ sym (left_at old Bare (encode_utf8 c.args.c ++ left) c.requires)

pub returns-else-c-eq92 : goal.returns-else-c-eq92
returns-else-c-eq92 c =
    let old = c.args.reading.now in
    let plain = plain_from c.args.c (sym c.is_blank.ensures ∙ c.if-is_blank.false) c.if-c-eq13.false c.if-c-eq39.false c.if-c-eq34.false c.if-c-eq92.false in
    on_ok_weaker c.put.result (λ p left. left_put old c.put.new.reading (encode_utf8 c.args.c) Bare left p ∙ takes_bare old.words old.word c.args.c left plain ∙ sym (left_at old Bare (encode_utf8 c.args.c ++ left) c.requires)) c.put.ensures
