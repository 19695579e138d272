-- A journal that goes on from one that is legal for an aim is legal for it.
use Rattle.std.proofs.Common.{◌≡◌, List, [], ◌∷◌, ◌++◌, reverse, sym, ◌∙◌, subst}
use Rattle.std.proofs.lemmas.List.{reverse-append}
use Rattle.engine_types.specs.declared.Aim.{Aim}
use Rattle.engine_types.specs.declared.Entry.{Entry}
use Rattle.engine_types.specs.declared.LateWhy.{LateWhy}
use Rattle.run_model.specs.Journals.{Setup}
use Rattle.run_model.specs.Legal.{IsLegal, MayStand}
use Rattle.journal_laws.specs.Courses.{Course, setup_of}
use Rattle.journal_laws.specs.Laws.{IsLegalRun}
use Rattle.ledger_run.specs.Turns.{with_more}
use Rattle.ledger_run.specs.Works.{HasOnlySeen}
use Rattle.worker_pool.proofs.Going.{setup_kept, some_of}

-- behind others an entry may stand for one aim as for another
stands_for : (a b : Aim) (setup : Setup) (past : List Entry) (e : Entry) → (past ≡ [] → ⊥) → MayStand b setup past e → MayStand a setup past e
stands_for a b setup past (Entry.Seen observation) some s = absurd (some s.0)
stands_for a b setup past (Entry.Claim w x) some s = s
stands_for a b setup past (Entry.Poll w x) some s = s
stands_for a b setup past (Entry.Ended w outcome) some s = s
stands_for a b setup past (Entry.Idle w) some s = s
stands_for a b setup past (Entry.Leave w) some s = s
stands_for a b setup past (Entry.Stop w) some s = s
stands_for a b setup past (Entry.Late w (LateWhy.Deadline reading)) some s = s
stands_for a b setup past (Entry.Late w LateWhy.Entries) some s = s
stands_for a b setup past (Entry.Short w) some s = s

some_behind : (more past : List Entry) → (past ≡ [] → ⊥) → more ++ past ≡ [] → ⊥
some_behind [] past some e = some e
some_behind (x ∷ more) past some e = absurd (cc e)

legal_for : (a b : Aim) (setup : Setup) (more past : List Entry) → (past ≡ [] → ⊥) → IsLegal a setup past → IsLegal b setup (more ++ past) → IsLegal a setup (more ++ past)
legal_for a b setup [] past some began legal = began
legal_for a b setup (e ∷ more) past some began legal =
    (legal_for a b setup more past some began legal.0, stands_for a b setup (more ++ past) e (some_behind more past some) legal.1)

some_reversed : (es : List Entry) → (es ≡ [] → ⊥) → reverse es ≡ [] → ⊥
some_reversed [] some e = some e
some_reversed (x ∷ es) some e = some_behind (reverse es) (x ∷ []) (λ (z : x ∷ [] ≡ []). absurd (cc z)) (sym (reverse-append (x ∷ []) es) ∙ e)

-- a run that went on is legal for each aim for which it was so with its observation alone
pub legal_on : (a b : Aim) (q : Course) (h : List Entry) → HasOnlySeen q.journal → IsLegalRun a q → IsLegalRun b (with_more q h) → IsLegalRun a (with_more q h)
legal_on a b q h only began legal =
    let same = setup_kept q h only in
    let order = reverse-append q.journal h in
    let later : IsLegal b (setup_of q) (reverse h ++ reverse q.journal) = subst (λ (past : List Entry). IsLegal b (setup_of q) past) order (subst (λ (s : Setup). IsLegal b s (reverse (q.journal ++ h))) same legal) in
    let mine = legal_for a b (setup_of q) (reverse h) (reverse q.journal) (some_reversed q.journal (some_of q only)) began later in
    subst (λ (s : Setup). IsLegal a s (reverse (q.journal ++ h))) (sym same) (subst (λ (past : List Entry). IsLegal a (setup_of q) past) (sym order) mine)
