use Rattle.std.proofs.Common.{ℕ, List, Option, Result, refl, subst}
use Rattle.logs_run.specs.Adding.{AddsReply}
use Rattle.logs_run.specs.Met.{NotesAs}
use Rattle.logs_run.specs.declared.fetching.Reason.{Reason}
use Rattle.logs_run.proofs.Meeting.{meets_bytes, meets_none}
use Rattle.logs_run.proofs.fetching.fetch.Goals as goal

pub returns-in-Ok-clause-meets : goal.returns-in-Ok-clause-meets
returns-in-Ok-clause-meets g c =
    meets_bytes c.args.task.now c.args.fetcher.now.met c.note.new.met c.requires.going c.args.fetcher.now.seat.view _ _ _ c.in-Ok.ensures.asks.outcome c.in-Ok.bytes c.add_reply-done.result
    c.in-Ok.ensures.asks.caused c.in-Ok.ensures.asks.tells
    (subst (λ (bytes : List ℕ). AddsReply bytes c.args.task.now.slot c.args.fetcher.now.seat.view c.add_reply-done.new.seat.view c.add_reply-done.result) c.as_slice.ensures c.add_reply-done.ensures.adds)
    (subst (λ (done : Result Unit (Option Reason)). NotesAs c.args.task.now.slot done c.args.fetcher.now.met c.note.new.met) c.added.ensures c.note.ensures)

pub returns-in-Err-clause-meets : goal.returns-in-Err-clause-meets
returns-in-Err-clause-meets g c =
    meets_none c.args.task.now c.args.fetcher.now.met c.note-in-Err.new.met c.requires.going c.args.fetcher.now.seat.view _ _ _ c.in-Err.reason refl c.in-Err.ensures.asks c.note-in-Err.ensures
