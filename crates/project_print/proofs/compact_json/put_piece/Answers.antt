use Rattle.std.proofs.Common.{◌∙◌, ap, get_or, arith}
use Rattle.std.specs.List.{prefix_len}
use Rattle.project_print.specs.Written.{stands}
use Rattle.project_print.proofs.Strings.{escape_cut, escape_put, front_cut, front_put}
use Rattle.project_print.proofs.compact_json.put_piece.Goals as goal

pub split_at-requires : goal.split_at-requires
split_at-requires c =
    let a = c.args in
    front_cut a.dollars a.text.now c.standing_len-len.result (c.standing_len-len.ensures ∙ ap (prefix_len (stands a.dollars)) c.as_bytes.ensures.value)

pub returns-in_ok-put_escape-clause-put : goal.returns-in_ok-put_escape-clause-put
returns-in_ok-put_escape-clause-put c =
    let a = c.args in
    let len = c.standing_len-len.ensures ∙ ap (prefix_len (stands a.dollars)) c.as_bytes.ensures.value in
    escape_put a.dollars a.text.now a.out.now c.put_escape.new.out _ c.standing_len-len.result len c.if-len-eq0.true c.requires (ap (λ bs. get_or bs 0 0) c.as_bytes-then-len-eq0.ensures.value) c.in_ok-put_escape.ensures

pub returns-in_ok-put_escape-clause-cut : goal.returns-in_ok-put_escape-clause-cut
returns-in_ok-put_escape-clause-cut c =
    let a = c.args in
    let len = c.standing_len-len.ensures ∙ ap (prefix_len (stands a.dollars)) c.as_bytes.ensures.value in
    (omega arith, escape_cut a.dollars a.text.now c.standing_len-len.result len c.if-len-eq0.true c.requires c.utf8.text)

pub returns-in_ok-push_str-clause-put : goal.returns-in_ok-push_str-clause-put
returns-in_ok-push_str-clause-put c =
    let a = c.args in
    let len = c.standing_len-len.ensures ∙ ap (prefix_len (stands a.dollars)) c.as_bytes.ensures.value in
    front_put a.dollars a.text.now c.split_at.result.0.now a.out.now c.push_str.new.self c.standing_len-len.result len c.split_at.ensures.front c.in_ok-push_str.ensures.ok

pub returns-in_ok-push_str-clause-cut : goal.returns-in_ok-push_str-clause-cut
returns-in_ok-push_str-clause-cut c =
    let a = c.args in
    let len = c.standing_len-len.ensures ∙ ap (prefix_len (stands a.dollars)) c.as_bytes.ensures.value in
    (omega arith, front_cut a.dollars a.text.now c.standing_len-len.result len)
