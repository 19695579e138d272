-- The next piece of a stream, as the body's reader and the events' reader answer.
use Rattle.std.proofs.Common.{◌≡◌, ◌++◌, ◌<◌, ◌^◌, Ok, Err, true, false, length, sym, subst, rules, arith}
use Rattle.event_watch.specs.Reading.{FeedsBy}
use Rattle.http_response.specs.declared.ResponseEnd.{ResponseEnd}
use Rattle.tree_base.specs.Limits.{most_stream_bytes}
use Rattle.wait_run.proofs.Streaming.{body_broken, body_ended, piece_fed, piece_given, piece_short, reads_within}
use Rattle.wait_run.proofs.watching.feed.Goals as goal

pub returns-in-Ok-true-clause-counted : goal.returns-in-Ok-true-clause-counted
returns-in-Ok-true-clause-counted g c = c.more.ensures.counted

pub returns-in-Ok-true-clause-feeds : goal.returns-in-Ok-true-clause-feeds
returns-in-Ok-true-clause-feeds g c = λ given taken talk faults reads low has sound.
    let is : c.more.result ≡ Ok true = first_of (cc, search rules) in
    let onto = c.more.ensures.continues most_stream_bytes reads.0.more reads.0.found_end given reads.0.comes in
    let piece_is : c.as_slice.result.now ≡ c.more.new.to = c.as_slice.ensures in
    let p = piece_given c.args.body.now c.more.new.self c.args.reader.now given c.more.new.to taken talk _ _ faults _ _ reads c.more.ensures.status low c.more.ensures.counted c.more.result _ c.new-piece.ensures onto is in
    let w = reads_within c.more.new.self (given ++ c.more.new.to) talk _ p.1 in
    let small : length (given ++ c.more.new.to) < 2 ^ 64 = omega (arith, w) in
    let told : FeedsBy c.feed.new.self given taken (given ++ c.more.new.to) c.feed.result =
    subst (λ l. FeedsBy c.feed.new.self given taken (given ++ l) c.feed.result) piece_is
    (c.feed.ensures.fed given taken has (subst (λ l. length (given ++ l) < 2 ^ 64) (sym piece_is) small)) in
    rw c.fed.ensures
    (piece_fed c.args.body.now c.more.new.self c.feed.new.self given c.more.new.to taken talk _ _ faults _ _ reads c.more.ensures.status low c.more.ensures.counted c.more.result _ c.new-piece.ensures onto is c.feed.result told)

pub returns-in-Ok-false-clause-counted : goal.returns-in-Ok-false-clause-counted
returns-in-Ok-false-clause-counted g c = c.more.ensures.counted

pub returns-in-Ok-false-clause-feeds : goal.returns-in-Ok-false-clause-feeds
returns-in-Ok-false-clause-feeds g c = λ given taken talk faults reads low has sound.
    let is : c.more.result ≡ Ok false = first_of (cc, search rules) in
    let onto = c.more.ensures.continues most_stream_bytes reads.0.more reads.0.found_end given reads.0.comes in
    body_ended c.args.body.now c.more.new.self c.args.reader.now given c.more.new.to taken talk _ _ faults _ _ reads c.more.ensures.status low c.more.ensures.counted c.more.result _ c.new-piece.ensures onto is has sound

pub returns-in-Err-Wire-clause-counted : goal.returns-in-Err-Wire-clause-counted
returns-in-Err-Wire-clause-counted g c = c.more.ensures.counted

pub returns-in-Err-Wire-clause-feeds : goal.returns-in-Err-Wire-clause-feeds
returns-in-Err-Wire-clause-feeds g c = rw c.in-Err-Wire.field-0-is (λ given taken talk faults reads low has sound.
    let is : c.more.result ≡ Err (ResponseEnd.Wire c.in-Err-Wire.cause) = first_of (cc, search rules) in
    let onto = c.more.ensures.continues most_stream_bytes reads.0.more reads.0.found_end given reads.0.comes in
    body_broken c.args.body.now c.more.new.self c.args.reader.now given c.more.new.to taken talk _ _ faults _ _ reads c.more.ensures.status low c.more.ensures.counted c.more.result _ c.new-piece.ensures onto c.in-Err-Wire.cause is has)

pub returns-clause-counted : goal.returns-clause-counted
returns-clause-counted g c = c.more.ensures.counted

pub returns-clause-feeds : goal.returns-clause-feeds
returns-clause-feeds g c = λ given taken talk faults reads low has sound.
    let onto = c.more.ensures.continues most_stream_bytes reads.0.more reads.0.found_end given reads.0.comes in
    piece_short c.args.body.now c.more.new.self c.args.reader.now given c.more.new.to taken talk _ _ faults _ _ reads c.more.ensures.status low c.more.ensures.counted c.more.result _ c.new-piece.ensures onto
