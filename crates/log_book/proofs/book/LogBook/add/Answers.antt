use Rattle.std.proofs.Common.{◌≡◌, ◌+◌, ◌<◌, List, refl, sym, subst}
use Rattle.log_frames.specs.declared.line.LogLine.{LogLine}
use Rattle.log_book.specs.Books.{Book, IsBook, bytes_in, bytes_of, most_log_bytes}
use Rattle.log_book.proofs.Growing.{full_more, holds, is_full, lines_leave, lines_more}
use Rattle.log_book.proofs.book.LogBook.add.Goals as goal

pub put_lines-requires-clause-book : goal.put_lines-requires-clause-book
put_lines-requires-clause-book c =
    let book = subst (λ (b : Book). IsBook b) c.self.view_is c.self.invariant.book in
    let left = subst (λ (b : Book). c.self.inside.room + bytes_of b.entries ≡ most_log_bytes) c.self.view_is c.self.invariant.left in
    lines_more c.args.self.now c.args.who c.args.container c.args.lines c.self.inside.room c.in-Some.room book c.requires left (subst (λ (ls : List LogLine). c.in-Some.room + bytes_in ls ≡ c.self.inside.room) c.as_slice.ensures c.in-Some.ensures)

pub put_lines-requires-clause-room : goal.put_lines-requires-clause-room
put_lines-requires-clause-room c =
    let left = subst (λ (b : Book). c.self.inside.room + bytes_of b.entries ≡ most_log_bytes) c.self.view_is c.self.invariant.left in
    lines_leave c.args.self.now.entries c.args.who c.args.container c.args.lines c.self.inside.room c.in-Some.room left (subst (λ (ls : List LogLine). c.in-Some.room + bytes_in ls ≡ c.self.inside.room) c.as_slice.ensures c.in-Some.ensures)

pub put_full-requires : goal.put_full-requires
put_full-requires c =
    full_more c.args.self.now c.args.who c.args.container (subst (λ (b : Book). IsBook b) c.self.view_is c.self.invariant.book) c.requires

pub returns-in-Some-clause-answer : goal.returns-in-Some-clause-answer
returns-in-Some-clause-answer c =
    let left = subst (λ (b : Book). c.self.inside.room + bytes_of b.entries ≡ most_log_bytes) c.self.view_is c.self.invariant.left in
    rw (holds c.args.self.now.entries c.args.lines c.self.inside.room c.in-Some.room left (subst (λ (ls : List LogLine). c.in-Some.room + bytes_in ls ≡ c.self.inside.room) c.as_slice.ensures c.in-Some.ensures)) refl

pub returns-in-Some-clause-entry : goal.returns-in-Some-clause-entry
returns-in-Some-clause-entry c =
    let left = subst (λ (b : Book). c.self.inside.room + bytes_of b.entries ≡ most_log_bytes) c.self.view_is c.self.invariant.left in
    rw (holds c.args.self.now.entries c.args.lines c.self.inside.room c.in-Some.room left (subst (λ (ls : List LogLine). c.in-Some.room + bytes_in ls ≡ c.self.inside.room) c.as_slice.ensures c.in-Some.ensures)) c.put_lines.ensures

pub returns-in-None-clause-answer : goal.returns-in-None-clause-answer
returns-in-None-clause-answer c =
    let left = subst (λ (b : Book). c.self.inside.room + bytes_of b.entries ≡ most_log_bytes) c.self.view_is c.self.invariant.left in
    rw (is_full c.args.self.now.entries c.args.lines c.self.inside.room left (subst (λ (ls : List LogLine). c.self.inside.room < bytes_in ls) c.as_slice.ensures c.in-None.ensures)) refl

pub returns-in-None-clause-entry : goal.returns-in-None-clause-entry
returns-in-None-clause-entry c =
    let left = subst (λ (b : Book). c.self.inside.room + bytes_of b.entries ≡ most_log_bytes) c.self.view_is c.self.invariant.left in
    rw (is_full c.args.self.now.entries c.args.lines c.self.inside.room left (subst (λ (ls : List LogLine). c.self.inside.room < bytes_in ls) c.as_slice.ensures c.in-None.ensures)) c.put_full.ensures

pub returns-in-Some-clause-book : goal.returns-in-Some-clause-book
returns-in-Some-clause-book c =
    let book = subst (λ (b : Book). IsBook b) c.self.view_is c.self.invariant.book in
    let left = subst (λ (b : Book). c.self.inside.room + bytes_of b.entries ≡ most_log_bytes) c.self.view_is c.self.invariant.left in
    subst (λ (b : Book). IsBook b) (sym c.put_lines.ensures)
    (lines_more c.args.self.now c.args.who c.args.container c.args.lines c.self.inside.room c.in-Some.room book c.requires left (subst (λ (ls : List LogLine). c.in-Some.room + bytes_in ls ≡ c.self.inside.room) c.as_slice.ensures c.in-Some.ensures))

pub returns-in-None-clause-book : goal.returns-in-None-clause-book
returns-in-None-clause-book c =
    subst (λ (b : Book). IsBook b) (sym c.put_full.ensures)
    (full_more c.args.self.now c.args.who c.args.container (subst (λ (b : Book). IsBook b) c.self.view_is c.self.invariant.book) c.requires)
