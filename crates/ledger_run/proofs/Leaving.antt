-- A worker's last entry.
use Rattle.std.proofs.Common.{◌≡◌, ℕ, ◌+◌, ◌<◌, true, List, ◌∷◌, length, refl, sym, subst, arith}
use Rattle.engine_types.specs.declared.Aim.{Aim}
use Rattle.tree_base.specs.Limits.{most_entries}
use Rattle.engine_types.specs.declared.Entry.{Entry}
use Rattle.engine_types.specs.declared.LateWhy.{LateWhy}
use Rattle.run_model.specs.Journals.{has_left}
use Rattle.run_model.specs.Legal.{Decision, Full, Go}
use Rattle.journal_laws.specs.Courses.{Course, MayAsk, entries, grown, setup_of}
use Rattle.journal_laws.specs.Laws.{IsLegalRun, decided, decided_entry}
use Rattle.journal_laws.proofs.Following.{answers, shorts}
use Rattle.ledger_core.specs.Answers.{IsLastEntry}
use Rattle.ledger_run.proofs.Coming.{IsQuiet}
use Rattle.ledger_run.proofs.Timing.{IsAsk}

-- it keeps the journal legal, answers an ask, and the worker has left by it
pub record IsLeaving (run : Course) (last : Entry) : Type 0 where
  pub quiet : IsQuiet last
  pub legal : (aim : Aim) → IsLegalRun aim run → IsLegalRun aim (grown run last)
  pub asks : IsAsk last 0
  pub left : (past : List Entry) → has_left (last ∷ past) 0 ≡ true

pub no_longer : (n : ℕ) → n ≡ n + 0
no_longer n = omega arith

leave : (run : Course) → MayAsk run 0 → decided run 0 ≡ Go → IsLeaving run (Entry.Leave 0)
leave run ready d = record {
  quiet = record { seen = λ past. refl; held = λ past w. refl; nothing = λ setup past. refl };
  legal = λ aim legal. subst (λ (x : Decision). IsLegalRun aim (grown run (decided_entry 0 x))) d (answers aim run 0 legal ready);
  asks = record { is = refl; stopped = λ past. refl; late = λ past. refl; pauses_are = λ past. no_longer _ };
  left = λ past. refl;
}

full : (run : Course) → MayAsk run 0 → decided run 0 ≡ Full → IsLeaving run (Entry.Late 0 LateWhy.Entries)
full run ready d = record {
  quiet = record { seen = λ past. refl; held = λ past w. refl; nothing = λ setup past. refl };
  legal = λ aim legal. subst (λ (x : Decision). IsLegalRun aim (grown run (decided_entry 0 x))) d (answers aim run 0 legal ready);
  asks = record { is = refl; stopped = λ past. refl; late = λ past. refl; pauses_are = λ past. no_longer _ };
  left = λ past. refl;
}

short : (run : Course) → MayAsk run 0 → length (entries run) < most_entries → IsLeaving run (Entry.Short 0)
short run ready l = record {
  quiet = record { seen = λ past. refl; held = λ past w. refl; nothing = λ setup past. refl };
  legal = λ aim legal. shorts aim run 0 legal ready l;
  asks = record { is = refl; stopped = λ past. refl; late = λ past. refl; pauses_are = λ past. no_longer _ };
  left = λ past. refl;
}

pub leaving : (run : Course) (last : Entry) → MayAsk run 0 → IsLastEntry (setup_of run) (entries run) 0 last → IsLeaving run last
leaving run (Entry.Leave v) ready l = subst (λ (w : ℕ). IsLeaving run (Entry.Leave w)) (sym l.0) (leave run ready l.1)
leaving run (Entry.Late v LateWhy.Entries) ready l = subst (λ (w : ℕ). IsLeaving run (Entry.Late w LateWhy.Entries)) (sym l.0) (full run ready l.1)
leaving run (Entry.Short v) ready l = subst (λ (w : ℕ). IsLeaving run (Entry.Short w)) (sym l.0) (short run ready l.1)
leaving run entry ready l = absurd l
