use Rattle.std.proofs.Common.{◌≡◌, ◌∷◌, ◌++◌, ◌+◌, [], false, sym, subst}
use Rattle.log_book.specs.declared.entries.LogEntry.{LogEntry}
use Rattle.log_book.specs.Books.{Book, IsBook, bytes_of, grown, most_log_bytes}
use Rattle.log_book.proofs.Growing.{has_place, kept_put}
use Rattle.log_book.proofs.book.LogBook.put_lines.Goals as goal

pub unwrap-requires : goal.unwrap-requires
unwrap-requires c =
    let entry : LogEntry = record { worker = c.args.worker; container = c.args.container; lines = c.args.lines; full = false } in
    c.push.ensures.succeeds (has_place _ _ _ _ entry c.self.invariant (subst (λ (b : Book). IsBook (grown b entry)) (sym c.self.view_is) c.requires.book))

pub invariant_of-self : goal.invariant_of-self
invariant_of-self c =
    let entry : LogEntry = record { worker = c.args.worker; container = c.args.container; lines = c.args.lines; full = false } in
    let pushed : c.push.new.self.items ≡ c.self.inside.entries.items ++ entry ∷ [] = rw c.unwrap.ensures at c.push.ensures.ok in
    kept_put _ _ _ _ _ _ entry c.self.invariant (subst (λ (b : Book). IsBook (grown b entry)) (sym c.self.view_is) c.requires.book)
    (subst (λ (b : Book). c.args.room + bytes_of (b.entries ++ entry ∷ []) ≡ most_log_bytes) (sym c.self.view_is) c.requires.room) pushed c.push.ensures.spare
