-- What is retained are the entries that extend nothing.
use Rattle.std.proofs.Common.{◌∙◌, ap, map, not, rules, tests}
use Rattle.std.proofs.lemmas.Fn.{filter_same}
use Rattle.attribute_scalars.specs.Views.{seen_entry}
use Rattle.attribute_scalars.specs.Walks.{Entries, is_extension, own_entries}
use Rattle.attribute_scalars.specs.declared.entries.Entry.{Entry}
use Rattle.attribute_scalars.proofs.EntryOrder.{filter_seen, own_distinct}
use Rattle.attribute_scalars.proofs.entries.own_entries_of.Goals as goal

pub returns-clause-value : goal.returns-clause-value
returns-clause-value c =
    let kept = filter_same _ (λ (entry : Entry). not (is_extension entry.key.now)) _ (λ x b f' k. search (rules, tests)) _ _ c.retain.ensures.filtered in
    ap (map seen_entry) kept
    ∙ filter_seen seen_entry (λ entry. not (is_extension entry.0)) c.in_ok-list.list.items
    ∙ ap (λ (entries : Entries). own_entries entries) c.in_ok-list.ensures.value

pub returns-clause-distinct : goal.returns-clause-distinct
returns-clause-distinct c = own_distinct c.args.entries.now c.in_ok-list.ensures.distinct

pub returns-in_err-list-clause-distinct : goal.returns-in_err-list-clause-distinct
returns-in_err-list-clause-distinct c = own_distinct c.args.entries.now c.entries_of.ensures.distinct
