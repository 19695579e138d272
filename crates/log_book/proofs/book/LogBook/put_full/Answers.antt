use Rattle.std.proofs.Common.{◌≡◌, ◌∷◌, ◌++◌, [], true, sym, subst, arith}
use Rattle.log_book.specs.declared.entries.LogEntry.{LogEntry}
use Rattle.log_book.specs.Books.{Book, IsBook, grown}
use Rattle.log_book.proofs.Growing.{bytes_put, has_place, kept_put}
use Rattle.log_book.proofs.book.LogBook.put_full.Goals as goal

pub unwrap-requires : goal.unwrap-requires
unwrap-requires c =
    let entry : LogEntry = record { worker = c.args.worker; container = c.args.container; lines = []; full = true } in
    c.push.ensures.succeeds (has_place _ _ _ _ entry c.self.invariant (subst (λ (b : Book). IsBook (grown b entry)) (sym c.self.view_is) c.requires))

pub invariant_of-self : goal.invariant_of-self
invariant_of-self c =
    let entry : LogEntry = record { worker = c.args.worker; container = c.args.container; lines = []; full = true } in
    let pushed : c.push.new.self.items ≡ c.self.inside.entries.items ++ entry ∷ [] = rw (sym c.new.ensures) (rw c.unwrap.ensures at c.push.ensures.ok) in
    let all = bytes_put c.self.inside.entries.items entry in
    let left = c.self.invariant.left in
    kept_put _ _ _ _ _ _ entry c.self.invariant (subst (λ (b : Book). IsBook (grown b entry)) (sym c.self.view_is) c.requires) (omega (arith, all, left)) pushed c.push.ensures.spare
