use Rattle.std.proofs.Common.{◌∙◌, ℕ, ◌<◌, List, ap, length, map, sym, subst}
use Rattle.std.specs.Prelude.{slice_index_or}
use Rattle.outside_api.specs.Accounts.{account}
use Rattle.engine_types.specs.declared.Listed.{Listed}
use Rattle.log_book.specs.declared.entries.LogEntry.{LogEntry}
use Rattle.logs_run.specs.Met.{MayFetch}
use Rattle.logs_run.specs.Refusing.{RefusedBy}
use Rattle.logs_run.specs.declared.fetching.Fetcher.{Fetcher}
use Rattle.logs_run.proofs.Gathering.{clocks_all, has_logged, logged_so, may_crew, met_within, refilled, seats_kept}
use Rattle.logs_run.proofs.whole_run.fetch_in_turns.Goals as goal

pub fetch_each-requires-clause-may : goal.fetch_each-requires-clause-may
fetch_each-requires-clause-may g c κs within =
    subst (λ (l : List (Fetcher g.row.H.Denot)). (k : ℕ) (d : Fetcher g.row.H.Denot) → k < length l → MayFetch c.args.turns (slice_index_or l k d).seat (slice_index_or l k d).met c.as_slice.result.now (length l) k) (sym c.as_mut_slice.ensures.value)
    (may_crew (λ m. m.seat) (λ m. m.hand) (λ m. m.met) (λ h. account (g.H.Hand.log h) (g.H.Hand.heard h) (g.H.Hand.faults h)) c.args.turns c.args.declared.now c.args.rows c.as_slice.result.now c.seat_all.new.crew.items c.args.hands
    c.requires.book c.requires.some (c.as_slice.ensures ∙ c.requires.all) (c.seat_all.ensures.hands ∙ c.into_vec-hands.ensures) c.seat_all.ensures.seats c.seat_all.ensures.fresh c.seat_all.ensures.calm)

pub end_all-book-requires-clause-seats : goal.end_all-book-requires-clause-seats
end_all-book-requires-clause-seats g c =
    let long = c.fetch_each.ensures.as_many ∙ ap length c.as_mut_slice.ensures.value in
    seats_kept (λ m. m.seat) (λ m. m.hand) (λ m. m.met) (λ h. account (g.H.Hand.log h) (g.H.Hand.heard h) (g.H.Hand.faults h)) c.args.turns c.as_slice.result.now c.seat_all.new.crew.items c.as_mut_slice.result.now c.fetch_each.new.crew _ c.as_mut_slice.ensures.value c.fetch_each.ensures.as_many
    (refilled c.seat_all.new.crew.len c.fetch_each.new.crew c.seat_all.new.crew.items c.seat_all.new.crew.ok.0 long) c.seat_all.ensures.seats (λ k d l. (c.fetch_each.ensures.fetched k d l).0)

pub refusal-refusal-requires-clause-within : goal.refusal-refusal-requires-clause-within
refusal-refusal-requires-clause-within g c =
    let long = c.fetch_each.ensures.as_many ∙ ap length c.as_mut_slice.ensures.value in
    met_within (λ m. m.seat) (λ m. m.hand) (λ m. m.met) (λ h. account (g.H.Hand.log h) (g.H.Hand.heard h) (g.H.Hand.faults h)) c.args.turns c.args.declared.now c.args.rows c.as_slice.result.now c.seat_all.new.crew.items c.as_mut_slice.result.now c.fetch_each.new.crew _ c.end_all-book.result.0 c.args.hands c.end_all-book.result.1
    (c.as_slice.ensures ∙ c.requires.all) c.as_mut_slice.ensures.value c.fetch_each.ensures.as_many (refilled c.seat_all.new.crew.len c.fetch_each.new.crew c.seat_all.new.crew.items c.seat_all.new.crew.ok.0 long) (c.seat_all.ensures.hands ∙ c.into_vec-hands.ensures) c.requires.book c.seat_all.ensures.seats (λ k d l. (c.fetch_each.ensures.fetched k d l).0)
    c.end_all-book.ensures.ended c.end_all-book.ensures.met

pub returns-clause-logged : goal.returns-clause-logged
returns-clause-logged g c =
    let long = c.fetch_each.ensures.as_many ∙ ap length c.as_mut_slice.ensures.value in
    logged_so c.args.declared.now c.args.rows (map (λ h. account (g.H.Hand.log h) (g.H.Hand.heard h) (g.H.Hand.faults h)) c.args.hands) (map (λ h. account (g.H.Hand.log h) (g.H.Hand.heard h) (g.H.Hand.faults h)) c.from_vec.result) _ c.refusal-refusal.result _ c.end_all-book.result.0.entries _
    (ap (λ hs. map (λ h. account (g.H.Hand.log h) (g.H.Hand.heard h) (g.H.Hand.faults h)) hs) c.ended.ensures.hands) c.ended.ensures.refusal (c.ended.ensures.entries ∙ c.finish-entries.ensures.entries)
    (has_logged (λ m. m.seat) (λ m. m.hand) (λ m. m.met) (λ h. account (g.H.Hand.log h) (g.H.Hand.heard h) (g.H.Hand.faults h)) c.args.turns c.args.declared.now c.args.rows c.as_slice.result.now c.seat_all.new.crew.items c.as_mut_slice.result.now c.fetch_each.new.crew _ c.end_all-book.result.0 c.args.hands c.from_vec.result c.end_all-book.result.1 c.refusal-refusal.result
    (c.as_slice.ensures ∙ c.requires.all) c.as_mut_slice.ensures.value c.fetch_each.ensures.as_many (refilled c.seat_all.new.crew.len c.fetch_each.new.crew c.seat_all.new.crew.items c.seat_all.new.crew.ok.0 long) (c.seat_all.ensures.hands ∙ c.into_vec-hands.ensures) (c.from_vec.ensures ∙ c.end_all-book.ensures.hands) c.requires.book c.seat_all.ensures.seats
    (λ k d l. (c.fetch_each.ensures.fetched k d l).0) c.end_all-book.ensures.ended c.end_all-book.ensures.met
    (subst (λ (rs : List Listed). RefusedBy c.args.declared.now rs c.end_all-book.result.1 c.end_all-book.result.0.entries c.refusal-refusal.result) c.as_slice-2.ensures
    (subst (λ (es : List LogEntry). RefusedBy c.args.declared.now c.as_slice-2.result.now c.end_all-book.result.1 es c.refusal-refusal.result) (c.as_slice-3.ensures ∙ c.finish-entries.ensures.entries) c.refusal-refusal.ensures))
    c.finish-entries.ensures.book)

pub returns-clause-clocks : goal.returns-clause-clocks
returns-clause-clocks g c =
    let long = c.fetch_each.ensures.as_many ∙ ap length c.as_mut_slice.ensures.value in
    ap (λ hs. map (λ h. g.H.Hand.clock h) hs) c.ended.ensures.hands
    ∙ clocks_all (λ m. m.seat) (λ m. m.hand) (λ m. m.met) (λ h. account (g.H.Hand.log h) (g.H.Hand.heard h) (g.H.Hand.faults h)) (λ h. g.H.Hand.clock h) c.seat_all.new.crew.items c.as_mut_slice.result.now c.fetch_each.new.crew _ c.args.hands c.from_vec.result
    c.as_mut_slice.ensures.value c.fetch_each.ensures.as_many (refilled c.seat_all.new.crew.len c.fetch_each.new.crew c.seat_all.new.crew.items c.seat_all.new.crew.ok.0 long) (c.seat_all.ensures.hands ∙ c.into_vec-hands.ensures) (c.from_vec.ensures ∙ c.end_all-book.ensures.hands) (λ k d l. (c.fetch_each.ensures.fetched k d l).1)
