use Rattle.std.proofs.Common.{◌≡◌, ◌∙◌, ℕ, List, [], IfOk, subst}
use Rattle.std.specs.Prelude.{codes}
use Rattle.tree_base.specs.Entries.{with_entry}
use Rattle.tree_base.specs.declared.Tree.{Tree, Map, Scalar}
use Rattle.short_forms.specs.MountLaws.{flag_word, type_word}
use Rattle.long_forms.specs.Fields.{with_given, with_labelled}
use Rattle.long_forms.proofs.LongEntries.{mount_entries}
use Rattle.long_forms.proofs.entries.long_mount.Goals as goal

abbrev Es : Type 0
Es = List (List ℕ × Tree)

pub returns : goal.returns
returns c =
    let mount = c.args.mount.now in
    let none = c.new-entries.ensures in
    let one : c.put_text.new.entries ≡ with_entry c.new-entries.result (codes "type") (Scalar c.in_ok-from_str.field-0) = c.in_ok-put_text.ensures in
    let two : c.put_text-2.new.entries ≡ with_entry c.put_text.new.entries (codes "target") (Scalar c.in_ok-copy.field-0) = c.in_ok-put_text-2.ensures in
    let three : c.put_given.new.entries ≡ with_given c.put_text-2.new.entries (codes "source") mount.source = c.in_ok-put_given.ensures in
    let four : c.put_text-3.new.entries ≡ with_entry c.put_given.new.entries (codes "read_only") (Scalar c.in_ok-from_str-2.field-0) = c.in_ok-put_text-3.ensures in
    let five : c.put_label.new.entries ≡ with_labelled c.put_text-3.new.entries mount.selinux = c.in_ok-put_label.ensures in
    let kind : c.in_ok-from_str.field-0 ≡ type_word mount.kind = c.in_ok-from_str.ensures ∙ c.word.ensures in
    let flag : c.in_ok-from_str-2.field-0 ≡ flag_word mount.read_only = c.in_ok-from_str-2.ensures ∙ c.flag_word.ensures in
    let target : c.in_ok-copy.field-0 ≡ mount.target = c.in_ok-copy.ensures in
    let all : c.put_label.new.entries ≡ with_labelled (with_entry (with_given (with_entry (with_entry [] (codes "type") (Scalar (type_word mount.kind))) (codes "target") (Scalar mount.target)) (codes "source") mount.source) (codes "read_only") (Scalar (flag_word mount.read_only))) mount.selinux = cc in
    subst (λ (es : Es). IfOk c.mapping.result (λ tree. tree ≡ Map es)) (all ∙ mount_entries (type_word mount.kind) mount.target (flag_word mount.read_only) mount.source mount.selinux) c.mapping.ensures
