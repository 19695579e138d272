use Rattle.std.proofs.Common.{◌∙◌, ◌<◌, ◌≤◌, ap, arith, length, map, refl}
use Rattle.std.proofs.lemmas.List.{length-map}
use Rattle.project_print.specs.declared.node.Node.TheVariants.{Text}
use Rattle.project_pages.proofs.Keys.{entry_of, item_put}
use Rattle.service_hashes.specs.Hashes.{digest_at}
use Rattle.service_hashes.proofs.Rows.{all_rows, key_of, keys_differ, shown_of}
use Rattle.service_hashes.proofs.used.row_entries.Goals as goal

pub loop-row-preserved : goal.loop-row-preserved
loop-row-preserved c =
    let rows = c.args.rows.now in
    let digests = c.args.digests.now in
    let kind = c.args.kind in
    let within : c.loop-row.row-index < length rows = omega arith in
    item_put key_of (shown_of digests kind) rows c.loop-row.row-index c.row-item.result c.loop-row.entries c.row-item.result.now.source (Text c.digest_at-digest.result.now) c.put_digest.new.entries
    (keys_differ rows c.requires) within c.row-item.is c.loop-row.invariant refl
    (ap Text (c.digest_at-digest.ensures ∙ ap (digest_at digests kind) c.as_str.ensures.value)) c.in_ok-put_digest.ensures

pub returns : goal.returns
returns c =
    let rows = c.args.rows.now in
    let long = length-map rows (entry_of key_of (shown_of c.args.digests.now c.args.kind)) in
    let past : length (map (entry_of key_of (shown_of c.args.digests.now c.args.kind)) rows) ≤ c.loop-row.row-index = omega (arith, long) in
    all_rows rows c.args.digests.now c.args.kind c.loop-row.row-index c.loop-row.entries past c.loop-row.invariant
