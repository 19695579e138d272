-- The lines in the entries of a reply.
use Rattle.std.proofs.Common.{◌≡◌, ◌∙◌, ℕ, true, false, List, [], ◌∷◌, ◌++◌, map, refl, ap, subst, inl, inr}
use Rattle.std.specs.List.{list_any}
use Rattle.log_frames.specs.declared.line.LogLine.{LogLine}
use Rattle.log_frames.specs.Laws.{AreLeft, entries, lines_in, texts_of}
use Rattle.log_frames.specs.Parts.{parts_of}
use Rattle.log_frames.proofs.EntryLemmas.{entries_lines}
use Rattle.log_frames.proofs.Parting.{parts_are}
use Rattle.log_book.specs.declared.entries.LogEntry.{LogEntry}
use Rattle.logs_run.specs.Fetching.{AreParts}
use Rattle.logs_run.specs.Laws.{LinesAreTheReplys}

abbrev lines_of_all : List LogEntry → List (List LogLine)
lines_of_all es = map (λ (e : LogEntry). e.lines) es

-- entries of first parts have these parts' lines, or none
are_left : (history : List LogEntry) (w slot : ℕ) (parts rest : List (List LogLine)) (es : List LogEntry) → AreParts history w slot parts es → AreLeft (lines_of_all es) (parts ++ rest)
are_left history w slot [] rest [] h = tt
are_left history w slot [] rest (e ∷ es) h = absurd h
are_left history w slot (ls ∷ parts) rest [] h = absurd h
are_left history w slot (ls ∷ parts) rest (e ∷ es) (one, more) = (elim one.has [ inl h ↦ inl h.1 | inr h ↦ inr h.1 ], are_left history w slot parts rest es more)

-- where none is full they have exactly these
are_all : (history : List LogEntry) (w slot : ℕ) (parts : List (List LogLine)) (es : List LogEntry) → AreParts history w slot parts es → list_any (λ e. e.full) es ≡ false → lines_of_all es ≡ parts
are_all history w slot [] [] h bare = refl
are_all history w slot [] (e ∷ es) h bare = absurd h
are_all history w slot (ls ∷ parts) [] h bare = absurd h
are_all history w slot (ls ∷ parts) (e ∷ es) (one, more) bare = elim one.has [
  | inl h ↦ (λ i. h.1 i ∷ are_all history w slot parts es more (rw h.0 at bare) i)
  | inr h ↦ absurd (let full : true ≡ false = rw h.0 at bare in cc full)
]

pub lines_are : LinesAreTheReplys
lines_are history w whole fetch es bytes frames err leaves is =
    let found = leaves.framed bytes frames is in
    let law = entries_lines bytes frames (parts_of frames) fetch.task.slot err is.reply (parts_are frames).0 in
    let left = subst (λ (l : List (List LogLine)). AreLeft (lines_of_all es) l) found.2.1 (are_left history w fetch.task.slot found.0 found.2.0 es found.1) in (
      law.1 (lines_of_all es) left,
      λ h bare. ap (λ (l : List (List LogLine)). texts_of err (lines_in l)) (are_all history w fetch.task.slot found.0 es found.1 bare ∙ found.3 h) ∙ law.0,
    )
