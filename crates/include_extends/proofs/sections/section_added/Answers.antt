use Rattle.std.proofs.Common.{◌≡◌, ◌∙◌, Bool, true, false, [], sym}
use Rattle.std.proofs.lemmas.Result.{err_from_is_err_and}
use Rattle.std.specs.Prelude.{◌↔◌, IsTrue}
use Rattle.file_paths.specs.Resolving.{Entries}
use Rattle.file_paths.specs.Shapes.{entries_at}
use Rattle.include_extends.proofs.Added.{section_off, section_put, section_refused}
use Rattle.include_extends.proofs.sections.section_added.Goals as goal

some_declared : (theirs found : Entries) (empty : Bool) → found ≡ theirs → (IsTrue empty ↔ (found ≡ [])) → empty ≡ false → theirs ≡ [] → ⊥
some_declared theirs found empty same means is none = let clash : false ≡ true = sym is ∙ means.1 (same ∙ none) in cc

-- nothing is declared of the kind
pub returns-then-is_empty-clause-given : goal.returns-then-is_empty-clause-given
returns-then-is_empty-clause-given c =
    let a = c.args in
    λ n. sym (section_off a.file.now (a.section.now, a.kind) (entries_at a.section.now a.theirs.now) a.top (sym c.in_ok-declared.ensures ∙ c.is_empty.ensures.0 c.if-is_empty.true))

-- something is declared, and refused or put
pub returns-in_err-all-clause-given : goal.returns-in_err-all-clause-given
returns-in_err-all-clause-given c =
    let a = c.args in
    let theirs = entries_at a.section.now a.theirs.now in
    let p = err_from_is_err_and c.from_residual-in_err-all.result c.from_residual-in_err-all.ensures.1 in
    rw (p.1, p.2) (section_refused a.file.now (a.section.now, a.kind) theirs a.top (some_declared theirs c.in_ok-declared.declared c.is_empty.result c.in_ok-declared.ensures c.is_empty.ensures c.if-is_empty.false)
    c.in_err-all.field-0.0 (rw (c.in_ok-declared.ensures, c.in_ok-mine.ensures) at c.in_err-all.ensures.given))

pub returns-clause-given : goal.returns-clause-given
returns-clause-given c =
    let a = c.args in
    let theirs = entries_at a.section.now a.theirs.now in
    section_put a.file.now (a.section.now, a.kind) theirs a.top (some_declared theirs c.in_ok-declared.declared c.is_empty.result c.in_ok-declared.ensures c.is_empty.ensures c.if-is_empty.false)
    c.in_ok-all.all c.in_ok-put_section.field-0 (rw (c.in_ok-declared.ensures, c.in_ok-mine.ensures) at c.in_ok-all.ensures.given) c.in_ok-put_section.ensures
