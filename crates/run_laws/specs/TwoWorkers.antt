-- Two workers who bring one service up between them.
use Rattle.std.specs.Prelude.{List, [], ◌∷◌, codes}
use Rattle.engine_types.specs.declared.Entry.{Entry}
use Rattle.engine_types.specs.declared.Outcome.{Outcome}
use Rattle.engine_types.specs.declared.Reply.{Reply}
use Rattle.run_laws.specs.OneService.{seen_fresh}

-- the run, oldest entry first: worker 0 creates the container while worker 1 idles, worker 1 starts it while worker 0 idles, and
-- each leaves
abbrev pub take_turns : List Entry
take_turns =
    Entry.Seen seen_fresh ∷ Entry.Claim 0 0 ∷ Entry.Idle 1
    ∷ Entry.Ended 0 (Outcome.Answered (Reply.Made (codes "c1")))
    ∷ Entry.Claim 1 1 ∷ Entry.Idle 0 ∷ Entry.Ended 1 (Outcome.Answered Reply.Done) ∷ Entry.Leave 0
    ∷ Entry.Leave 1 ∷ []
