use Rattle.std.proofs.Common.{◌≡◌, ◌∙◌, ◌++◌, ℕ, List, Option, ap, slice_get, subst, sym, unwrap_or, None}
use Rattle.std.specs.Prelude.{OnOk}
use Rattle.std.proofs.lemmas.List.{append-nil}
use Rattle.rolling_update.specs.Needs.{Given, starts_before}
use Rattle.rolling_update.proofs.Added.{none_at, nothing_before, one_at, one_before}
use Rattle.rolling_update.proofs.table.Table.push_before.Goals as goal

pub returns-in-Some : goal.returns-in-Some
returns-in-Some c =
    let fields = c.self.inside in
    let given : Given = fields.finder in
    let here = one_at fields.waited.items c.args.number c.in-Some.other (c.in-Some.ensures ∙ ap (λ (waited : List (Option ℕ)). unwrap_or (slice_get waited c.args.number) None) c.as_slice.ensures.value) in
    subst (λ (places : List ℕ). OnOk c.push_starts.result (c.push_starts.new.added.items ≡ c.args.added.now.items ++ places))
    (one_before given fields.waited.items c.self.invariant.1 c.args.number c.in-Some.other here ∙ ap (λ (g : Given). starts_before g c.args.number) c.self.view_is)
    c.push_starts.ensures

pub returns-in-None : goal.returns-in-None
returns-in-None c =
    let fields = c.self.inside in
    let given : Given = fields.finder in
    let none = none_at fields.waited.items c.args.number (c.in-None.ensures ∙ ap (λ (waited : List (Option ℕ)). unwrap_or (slice_get waited c.args.number) None) c.as_slice.ensures.value) in
    let nothing = ap (λ (g : Given). starts_before g c.args.number) (sym c.self.view_is) ∙ nothing_before given fields.waited.items c.self.invariant.1 c.args.number none in
    sym (ap (λ (places : List ℕ). c.args.added.now.items ++ places) nothing ∙ append-nil c.args.added.now.items)
