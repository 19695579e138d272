-- A piece of the stream, and the looks behind its events.
use Rattle.std.proofs.Common.{◌≡◌, ◌++◌, ◌+◌, ◌≤◌, sym, Bool, true, false, ℕ, List, [], ◌∷◌, Option, Some, None, Result, Ok, Err, length, refl, subst, arith}
use Rattle.std.specs.Prelude.{find}
use Rattle.std.proofs.lemmas.List.{length-append}
use Rattle.engine_types.specs.declared.Declared.{Declared}
use Rattle.engine_types.specs.declared.Listed.{Listed}
use Rattle.engine_types.specs.declared.StreamFault.{StreamFault}
use Rattle.event_watch.specs.Reading.{HasRead}
use Rattle.event_watch.specs.declared.Event.{Event}
use Rattle.event_watch.specs.declared.EventReader.{EventReader}
use Rattle.http_response.specs.Hearing.{Hears}
use Rattle.http_response.specs.declared.OpenBody.{OpenBody}
use Rattle.outside_api.specs.Pipes.{Talk}
use Rattle.outside_api.specs.Standings.{Standing}
use Rattle.run_model.specs.Numbers.{places}
use Rattle.wait_run.specs.Goals.{is_settled_now}
use Rattle.wait_run.specs.Looks.{owns}
use Rattle.wait_run.specs.Watching.{EndsStream, Feeds, LooksAfter, LooksBehind, LooksOn, StreamsTo, Watches, over}
use Rattle.wait_run.specs.Ways.{EndsBy, Steps}
use Rattle.wait_run.specs.declared.goals.Goals.{Goals}
use Rattle.wait_run.specs.declared.refusal.WaitRefusal.{WaitRefusal}
use Rattle.wait_run.proofs.Streaming.{Watched, end_open, end_settled, event_looked, hears_as, reads_streams, watch_ended}
use Rattle.wait_run.proofs.Ways.{way_on}

-- ---- behind an event

pub event_steps : (declared : Declared) (rows : List Listed) (body : List ℕ) (taken : List Event) (event : Event) (from now later : Standing) (reader new_reader : EventReader) (goals new_goals : Goals)
    (after : LooksAfter declared rows body taken from now reader goals) → HasRead new_reader body (taken ++ event ∷ []) → (s : ℕ) → Some s ≡ find (owns declared rows event.id) (places declared.slots)
    → (result : Result Unit WaitRefusal) → Steps declared rows body (after.n + 1) from new_goals result later
    → LooksBehind declared rows body (taken ++ event ∷ []) from later new_reader new_goals result
event_steps declared rows body taken event from now later reader new_reader goals new_goals after has s is (Ok done) way =
    event_looked declared rows body taken event from now reader new_reader goals after has (Some s) is s later new_goals refl way
event_steps declared rows body taken event from now later reader new_reader goals new_goals after has s is (Err refusal) ends = ends

-- ---- a piece

-- what was fed is a piece more, whether the stream goes on or not
abbrev pub fed_on : (new_body : OpenBody) (reader : EventReader) (body : List ℕ) (taken : List Event) (a c : Option Talk) (f h : ℕ) (fed : Option StreamFault) → Feeds new_body reader body taken a c f h (Ok fed)
    → (piece : List ℕ) × Hears a c (StreamsTo (body ++ piece)) × HasRead reader (body ++ piece) taken
fed_on new_body reader body taken a c f h None feeds = (feeds.0, reads_streams new_body (body ++ feeds.0) a c feeds.2, feeds.3)
fed_on new_body reader body taken a c f h (Some fault) feeds = (
  feeds.0,
  hears_as a c (EndsStream (body ++ feeds.0) f h fault) (StreamsTo (body ++ feeds.0)) feeds.1 (λ n e is. is.0),
  feeds.2,
)

module _ (declared : Declared) (rows : List Listed) (from : Standing) (a c : Option Talk) (new_body : OpenBody) (fed_reader : EventReader) (f h : ℕ) (body : List ℕ) (taken : List Event) (fed : Option StreamFault)
    (feeds : Feeds new_body fed_reader body taken a c f h (Ok fed)) where
  abbrev pub longer : List ℕ
  longer = body ++ (fed_on new_body fed_reader body taken a c f h fed feeds).0

  -- the looks that were made are the same
  pub watch_fed : (now : Standing) (reader : EventReader) (goals : Goals) → LooksAfter declared rows body taken from now reader goals → LooksAfter declared rows longer taken from now fed_reader goals
  watch_fed now reader goals after = record {
    n = after.n;
    way = way_on declared rows body (fed_on new_body fed_reader body taken a c f h fed feeds).0 after.n from now goals after.way;
    has_read = (fed_on new_body fed_reader body taken a c f h fed feeds).2;
    many = after.many;
  }

  -- one of those behind it ended the wait
  pub watch_looked : (later : Standing) (new_goals : Goals) (refusal : WaitRefusal) → EndsBy declared longer from later refusal new_goals → Watches declared rows from later a c f h new_goals (Err refusal)
  watch_looked later new_goals refusal ends =
      watch_ended declared rows from later a c f h new_goals longer refusal (fed_on new_body fed_reader body taken a c f h fed feeds).1 ends

module _ (declared : Declared) (rows : List Listed) (from later : Standing) (a c : Option Talk) (new_body : OpenBody) (fed_reader new_reader : EventReader) (new_goals : Goals) (f h : ℕ) (body : List ℕ) (taken : List Event) where
  -- the stream goes on
  pub watch_more : (i : ℕ) → i ≤ length body → (fed : Option StreamFault) (feeds : Feeds new_body fed_reader body taken a c f h (Ok fed)) → fed ≡ None
      → LooksOn declared rows (longer declared rows from a c new_body fed_reader f h body taken fed feeds) from later new_reader new_goals (Ok tt)
      → Watched declared rows from later a c new_body new_reader new_goals (i + 1)
  watch_more i far None feeds is looked = record {
    body = body ++ feeds.0;
    taken = looked.0;
    reads = feeds.2;
    after = looked.1;
    sound = feeds.4;
    upto = looked.2;
    far = let e = length-append body feeds.0 in let s = feeds.1 in omega (arith, e, s, far);
  }
  watch_more i far (Some fault) feeds is looked = let bad : Some fault ≡ None = is in absurd (cc bad)

  -- it ended
  pub watch_over : (fed : Option StreamFault) (feeds : Feeds new_body fed_reader body taken a c f h (Ok fed)) (fault : StreamFault) → fed ≡ Some fault
      → LooksOn declared rows (longer declared rows from a c new_body fed_reader f h body taken fed feeds) from later new_reader new_goals (Ok tt)
      → (settled : Bool) → settled ≡ is_settled_now new_goals → Watches declared rows from later a c f h new_goals (over settled fault)
  watch_over None feeds fault is looked settled settled_is = let bad : None ≡ Some fault = is in absurd (cc bad)
  watch_over (Some other) feeds fault is looked settled settled_is =
      let same : other ≡ fault = cc is in
      subst (λ x. Watches declared rows from later a c f h new_goals (over settled x)) same (by settled settled_is)
    where
      by : (t : Bool) → t ≡ is_settled_now new_goals → Watches declared rows from later a c f h new_goals (over t other)
      by true e = end_settled declared rows from later a c f h new_goals new_reader (body ++ feeds.0) looked.0 other feeds.1 looked.1 looked.2 (sym e)
      by false e = end_open declared rows from later a c f h new_goals new_reader (body ++ feeds.0) looked.0 other feeds.1 looked.1 looked.2 (sym e)
