use Rattle.std.proofs.Common.{◌≡◌, ◌∙◌, ℕ, List, [], IfOk, subst}
use Rattle.std.specs.Prelude.{codes}
use Rattle.std.specs.Fmt.{decimal}
use Rattle.tree_base.specs.Entries.{with_entry}
use Rattle.tree_base.specs.declared.Tree.{Tree, Map, Scalar}
use Rattle.long_forms.specs.Fields.{with_given}
use Rattle.long_forms.proofs.LongEntries.{port_entries}
use Rattle.long_forms.proofs.entries.long_port.Goals as goal

abbrev Es : Type 0
Es = List (List ℕ × Tree)

pub returns : goal.returns
returns c =
    let port = c.args.port.now in
    let none = c.new-entries.ensures in
    let one : c.put_text.new.entries ≡ with_entry c.new-entries.result (codes "target") (Scalar c.from_string.result) = c.in_ok-put_text.ensures in
    let two : c.put_text-2.new.entries ≡ with_entry c.put_text.new.entries (codes "protocol") (Scalar c.in_ok-copy.field-0) = c.in_ok-put_text-2.ensures in
    let three : c.put_given.new.entries ≡ with_given c.put_text-2.new.entries (codes "published") port.published = c.in_ok-put_given.ensures in
    let four : c.put_given-2.new.entries ≡ with_given c.put_given.new.entries (codes "host_ip") port.host_ip = c.in_ok-put_given-2.ensures in
    let text : c.from_string.result ≡ decimal port.target = c.from_string.ensures ∙ c.in_ok-format.ensures.ok in
    let copied : c.in_ok-copy.field-0 ≡ port.protocol = c.in_ok-copy.ensures in
    let all : c.put_given-2.new.entries ≡ with_given (with_given (with_entry (with_entry [] (codes "target") (Scalar (decimal port.target))) (codes "protocol") (Scalar port.protocol)) (codes "published") port.published) (codes "host_ip") port.host_ip = cc in
    subst (λ (es : Es). IfOk c.mapping.result (λ tree. tree ≡ Map es)) (all ∙ port_entries (decimal port.target) port.protocol port.published port.host_ip) c.mapping.ensures
