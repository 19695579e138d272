-- A stream of events, read piece by piece.
use Rattle.std.proofs.Common.{◌≡◌, ◌∙◌, ◌++◌, ◌+◌, ◌<◌, ◌≤◌, ◌||◌, ◌⊎◌, inl, inr, sym, Bool, true, false, ℕ, List, [], ◌∷◌, Option, Some, None, Result, Ok, Err, length, slice_get, refl, ap, subst, append_assoc, arith}
use Rattle.std.specs.Prelude.{find}
use Rattle.std.specs.List.{cons_option}
use Rattle.std.proofs.lemmas.Bool.{cases_lt}
use Rattle.std.proofs.lemmas.List.{append-nil, length-append}
use Rattle.engine_types.specs.declared.Declared.{Declared}
use Rattle.engine_types.specs.declared.Listed.{Listed}
use Rattle.engine_types.specs.declared.StreamFault.{StreamFault}
use Rattle.engine_types.specs.declared.WireEnd.{WireEnd}
use Rattle.event_watch.specs.Events.{events}
use Rattle.event_watch.specs.Reading.{FeedsBy, HasRead, waiting}
use Rattle.event_watch.specs.declared.Event.{Event}
use Rattle.event_watch.specs.declared.EventReader.{EventReader}
use Rattle.event_watch.specs.declared.EventRefusal.{EventRefusal}
use Rattle.event_watch.proofs.Standing.{stands_told}
use Rattle.http_response.specs.Bodies.{ContinuesWithin, GivesBy}
use Rattle.http_response.specs.Hearing.{Heard, Hears}
use Rattle.http_response.specs.Reading.{EndsByWithin}
use Rattle.http_response.specs.declared.OpenBody.{OpenBody}
use Rattle.http_response.specs.declared.ResponseEnd.{ResponseEnd}
use Rattle.outside_api.specs.Pipes.{Talk}
use Rattle.outside_api.specs.Standings.{Standing}
use Rattle.outside_files.specs.Counts.{Rose}
use Rattle.response_rules.specs.Responses.{IsResponseWithin}
use Rattle.run_model.specs.Numbers.{places}
use Rattle.tree_base.specs.Limits.{most_stream_bytes}
use Rattle.wait_run.specs.Comes.{IsStreamed}
use Rattle.wait_run.specs.Goals.{is_settled_now}
use Rattle.wait_run.specs.Looks.{looks, owns}
use Rattle.wait_run.specs.Streams.{IsOpenStream, ReadsTo}
use Rattle.wait_run.specs.Watching.{EndsStream, Feeds, LooksAfter, StreamsTo, Watches, WatchesTo, fed_as}
use Rattle.wait_run.specs.Ways.{EndsBy, Way, looks_of}
use Rattle.wait_run.specs.declared.goals.Goals.{Goals}
use Rattle.wait_run.specs.declared.refusal.WaitRefusal.{WaitRefusal}
use Rattle.wait_run.proofs.Places.{got_before, got_last, length_numbers}
use Rattle.wait_run.proofs.Stays.{later_looks, looks_stay}
use Rattle.wait_run.proofs.Ways.{way_on, way_short}
use Rattle.wait_run.proofs.Within.{given_within}

-- ---- what is heard

or_assoc : (a b c : Bool) → ((a || b) || c) ≡ (a || (b || c))
or_assoc true b c = refl
or_assoc false b c = refl

or_nothing : (b : Bool) → b ≡ (b || false)
or_nothing true = refl
or_nothing false = refl

pub nothing_heard : (told : Option Talk) → Heard [] false told told
nothing_heard None = refl
nothing_heard (Some talk) =
    ap (λ (r : List ℕ). Some (record talk { read = r })) (sym (append-nil talk.read))
    ∙ ap (λ (b : Bool). Some (record talk { read = talk.read ++ []; ended = b })) (or_nothing talk.ended)

heard_on : (m n : List ℕ) (d e : Bool) (a b c : Option Talk) → Heard m d a b → Heard n e b c → Heard (m ++ n) (d || e) a c
heard_on m n d e None b c h k = let on : Heard n e None c = subst (λ (t : Option Talk). Heard n e t c) h k in on
heard_on m n d e (Some talk) b c h k =
    let on : Heard n e (Some (record talk { read = talk.read ++ m; ended = talk.ended || d })) c = subst (λ (t : Option Talk). Heard n e t c) h k in
    on
    ∙ ap (λ (r : List ℕ). Some (record talk { read = r; ended = (talk.ended || d) || e })) (append_assoc talk.read m n)
    ∙ ap (λ (v : Bool). Some (record talk { read = talk.read ++ (m ++ n); ended = v })) (or_assoc talk.ended d e)

-- one reading behind another
pub hears_on : (m : List ℕ) (d : Bool) (a b c : Option Talk) (Q R : List ℕ → Bool → Type 0) → Heard m d a b → Hears b c Q
    → ((n : List ℕ) (e : Bool) → Q n e → R (m ++ n) (d || e)) → Hears a c R
hears_on m d a b c Q R first h on = record {
  more = m ++ h.more;
  found_end = d || h.found_end;
  heard = heard_on m h.more d h.found_end a b c first h.heard;
  comes = on h.more h.found_end h.comes;
}

pub hears_as : (a b : Option Talk) (Q R : List ℕ → Bool → Type 0) → Hears a b Q → ((n : List ℕ) (e : Bool) → Q n e → R n e) → Hears a b R
hears_as a b Q R h as_that = record { more = h.more; found_end = h.found_end; heard = h.heard; comes = as_that h.more h.found_end h.comes }

pub hears_nothing : (told : Option Talk) (Q : List ℕ → Bool → Type 0) → Q [] false → Hears told told Q
hears_nothing told Q q = record { more = []; found_end = false; heard = nothing_heard told; comes = q }

-- ---- faults that were counted

pub rose_from : (f g h : ℕ) → f ≤ g → g ≤ h → Rose g h → Rose f h
rose_from f g h low high (inl less) = inl (omega arith)
rose_from f g h low high (inr full) = at (cases_lt f h)
  where
    at : (f < h) ⊎ (h ≤ f) → Rose f h
    at (inl less) = inl less
    at (inr more) = inr (omega arith)

pub ends_from : (limit : ℕ) (read : List ℕ) (ended : Bool) (f g h : ℕ) (cause : WireEnd) → f ≤ g → g ≤ h → EndsByWithin limit read ended g h cause → EndsByWithin limit read ended f h cause
ends_from limit read ended f g h WireEnd.Fault low high e = rose_from f g h low high e
ends_from limit read ended f g h WireEnd.BadBody low high e = e
ends_from limit read ended f g h WireEnd.Ended low high e = e
ends_from limit read ended f g h (WireEnd.Malformed at) low high e = e
ends_from limit read ended f g h WireEnd.Encoded low high e = e
ends_from limit read ended f g h WireEnd.TooLarge low high e = e

-- ---- so much of the body

-- what was read, and more of it
pub streamed_by : (open_body : OpenBody) (read more : List ℕ) (ended : Bool) (body : List ℕ) → IsOpenStream open_body body read ended → open_body.status ≡ 200 → IsStreamed (read ++ more) body
streamed_by open_body read more ended body is good = record {
  front = read;
  rest = more;
  ended = ended;
  open_body = open_body;
  parts = refl;
  is_open = is;
  good = good;
}

pub streamed : (open_body : OpenBody) (read : List ℕ) (ended : Bool) (body : List ℕ) → IsOpenStream open_body body read ended → open_body.status ≡ 200 → IsStreamed read body
streamed open_body read ended body is good =
    subst (λ r. IsStreamed r body) (append-nil read) (streamed_by open_body read [] ended body is good)

pub reads_streams : (open_body : OpenBody) (body : List ℕ) (a b : Option Talk) → ReadsTo open_body body a b → Hears a b (StreamsTo body)
reads_streams open_body body a b reads =
    hears_as a b (IsOpenStream open_body body) (StreamsTo body) reads.0 (λ n e is. streamed open_body n e body is reads.1)

-- a body is shorter than any number of 64 bits
pub reads_within : (open_body : OpenBody) (body : List ℕ) (a b : Option Talk) → ReadsTo open_body body a b → length body ≤ most_stream_bytes
reads_within open_body body a b reads = given_within most_stream_bytes open_body reads.0.more reads.0.found_end body reads.0.comes

-- ---- the next piece

module _ (now new : OpenBody) (reader : EventReader) (body piece : List ℕ) (taken : List Event) (a b c : Option Talk) (f g h : ℕ) (reads : ReadsTo now body a b)
    (status : new.status ≡ now.status) (low : f ≤ g) (high : g ≤ h) (answer : Result Bool ResponseEnd) (out : List ℕ) (empty : out ≡ [])
    (onto : ContinuesWithin most_stream_bytes new reads.0.more reads.0.found_end body out piece b c g h answer) where
  abbrev continues : ContinuesWithin most_stream_bytes new reads.0.more reads.0.found_end body [] piece b c g h answer
  continues = subst (λ o. ContinuesWithin most_stream_bytes new reads.0.more reads.0.found_end body o piece b c g h answer) empty onto

  abbrev all : List ℕ
  all = reads.0.more ++ continues.more

  abbrev over : Bool
  over = reads.0.found_end || continues.now_ended

  all_heard : Heard all over a c
  all_heard = heard_on reads.0.more continues.more reads.0.found_end continues.now_ended a b c reads.0.heard continues.heard

  same_body : (P : List ℕ → Type 0) → P body → P (body ++ [])
  same_body P p = subst P (sym (append-nil body)) p

  still : IsStreamed all body
  still = streamed_by now reads.0.more continues.more reads.0.found_end body reads.0.comes reads.1

  -- a piece was given
  pub piece_given : answer ≡ Ok true → (1 ≤ length piece) × ReadsTo new (body ++ piece) a c
  piece_given is =
      let gives : GivesBy most_stream_bytes new all over body [] piece g h (Ok true) = subst (λ r. GivesBy most_stream_bytes new all over body [] piece g h r) is continues.gives in
      let same : piece ≡ gives.0 = gives.2 in (
        let e = ap length same in
            let s = gives.1 in
            omega (arith, e, s),
        (
          record {
            more = all;
            found_end = over;
            heard = all_heard;
            comes = subst (λ p. IsOpenStream new (body ++ p) all over) (sym same) gives.3;
          },
          status ∙ reads.1,
        ),
      )

  -- the reader's answer to it
  pub piece_fed : answer ≡ Ok true → (result : Result Unit EventRefusal) → FeedsBy reader body taken (body ++ piece) result
      → Feeds new reader body taken a c f h (fed_as result)
  piece_fed is (Ok done) fed = let p = piece_given is in (piece, p.0, p.1, fed.0, fed.1)
  piece_fed is (Err (EventRefusal.BadEvent at)) fed =
      let p = piece_given is in
      (piece, hears_as a c (IsOpenStream new (body ++ piece)) (EndsStream (body ++ piece) f h (StreamFault.BadEvent at)) p.1.0 (λ n e o. (streamed new n e (body ++ piece) o p.1.1, fed.1)), fed.0)
  piece_fed is (Err (EventRefusal.TooLong at)) fed =
      let p = piece_given is in
      (piece, hears_as a c (IsOpenStream new (body ++ piece)) (EndsStream (body ++ piece) f h (StreamFault.TooLong at)) p.1.0 (λ n e o. (streamed new n e (body ++ piece) o p.1.1, fed.1)), fed.0)
  piece_fed is (Err EventRefusal.Memory) fed = let p = piece_given is in (refl, (piece, reads_streams new (body ++ piece) a c p.1))

  -- the body ended
  pub body_ended : answer ≡ Ok false → HasRead reader body taken → (events body).fault ≡ None → Feeds new reader body taken a c f h (Ok (Some StreamFault.Closed))
  body_ended is has sound =
      let gives : GivesBy most_stream_bytes new all over body [] piece g h (Ok false) = subst (λ r. GivesBy most_stream_bytes new all over body [] piece g h r) is continues.gives in
      let whole : IsResponseWithin most_stream_bytes all over 200 body = subst (λ s. IsResponseWithin most_stream_bytes all over s body) (status ∙ reads.1) gives.1 in (
        [],
        record {
          more = all;
          found_end = over;
          heard = all_heard;
          comes = same_body (λ l. EndsStream l f h StreamFault.Closed all over) (still, (whole, sound));
        },
        same_body (λ l. HasRead reader l taken) has,
      )

  -- it is broken, or the connection failed
  pub body_broken : (cause : WireEnd) → answer ≡ Err (ResponseEnd.Wire cause) → HasRead reader body taken → Feeds new reader body taken a c f h (Ok (Some (StreamFault.Wire cause)))
  body_broken cause is has =
      let gives : GivesBy most_stream_bytes new all over body [] piece g h (Err (ResponseEnd.Wire cause)) = subst (λ r. GivesBy most_stream_bytes new all over body [] piece g h r) is continues.gives in (
        [],
        record {
          more = all;
          found_end = over;
          heard = all_heard;
          comes = same_body (λ l. EndsStream l f h (StreamFault.Wire cause) all over) (still, ends_from most_stream_bytes all over f g h cause low high gives.1);
        },
        same_body (λ l. HasRead reader l taken) has,
      )

  -- memory was wanted for it
  pub piece_short : Feeds new reader body taken a c f h (Err WaitRefusal.Memory)
  piece_short = (
    refl,
    (
      [],
      record {
        more = all;
        found_end = over;
        heard = all_heard;
        comes = same_body (λ l. StreamsTo l all over) still;
      },
    ),
  )

-- ---- looks behind events

pub told_of : (reader : EventReader) (body : List ℕ) (taken : List Event) → HasRead reader body taken → (events body).told ≡ taken ++ waiting reader
told_of reader body taken has =
    ap (λ bytes. (events bytes).told) (sym (append-nil body))
    ∙ ap (λ told. told.told) (stands_told reader.line (taken ++ waiting reader) (λ more. events (body ++ more)) (length body) has)
    ∙ append-nil (taken ++ waiting reader)

module _ (declared : Declared) (rows : List Listed) (body : List ℕ) (taken : List Event) (event : Event) where
  -- an event of none
  looks_none : find (owns declared rows event.id) (places declared.slots) ≡ None → looks declared rows (taken ++ event ∷ []) ≡ looks declared rows taken
  looks_none none =
      looks_stay declared rows taken (event ∷ [])
      ∙ ap (λ o. looks declared rows taken ++ cons_option o []) none
      ∙ append-nil (looks declared rows taken)

  looks_one : (s : ℕ) → find (owns declared rows event.id) (places declared.slots) ≡ Some s → looks declared rows (taken ++ event ∷ []) ≡ looks declared rows taken ++ s ∷ []
  looks_one s is = looks_stay declared rows taken (event ∷ []) ∙ ap (λ o. looks declared rows taken ++ cons_option o []) is

  module _ (from now : Standing) (reader new_reader : EventReader) (goals : Goals) (after : LooksAfter declared rows body taken from now reader goals) (has : HasRead new_reader body (taken ++ event ∷ []))
      (found : Option ℕ) (found_is : found ≡ find (owns declared rows event.id) (places declared.slots)) where
    -- it is none's, and is passed over
    pub event_passed : found ≡ None → LooksAfter declared rows body (taken ++ event ∷ []) from now new_reader goals
    event_passed none = record {
      n = after.n;
      way = after.way;
      has_read = has;
      many = after.many ∙ sym (ap length (looks_none (sym found_is ∙ none)));
    }

    -- it is a slot's, which is looked at next
    pub event_next : (s : ℕ) → found ≡ Some s → slice_get (looks_of declared rows body) after.n ≡ Some s
    event_next s is =
        ap (λ told. slice_get (looks declared rows told) after.n) (told_of new_reader body (taken ++ event ∷ []) has)
        ∙ ap (λ l. slice_get l after.n) (looks_stay declared rows (taken ++ event ∷ []) (waiting new_reader))
        ∙ ap (λ l. slice_get (l ++ later_looks declared rows (waiting new_reader)) after.n) one
        ∙ got_before (looks declared rows taken ++ s ∷ []) (later_looks declared rows (waiting new_reader)) after.n
        (let e = length-append (looks declared rows taken) (s ∷ []) in omega (arith, e, after.many))
        ∙ ap (slice_get (looks declared rows taken ++ s ∷ [])) after.many
        ∙ got_last (looks declared rows taken) s
      where
        one : looks declared rows (taken ++ event ∷ []) ≡ looks declared rows taken ++ s ∷ []
        one = looks_one s (sym found_is ∙ is)

    pub event_looked : (s : ℕ) (later : Standing) (now_goals : Goals) → found ≡ Some s → Way declared rows body (after.n + 1) from later now_goals
        → LooksAfter declared rows body (taken ++ event ∷ []) from later new_reader now_goals
    event_looked s later now_goals is way = record {
      n = after.n + 1;
      way = way;
      has_read = has;
      many =
          let e = ap length (looks_one s (sym found_is ∙ is)) in
          let l = length-append (looks declared rows taken) (s ∷ []) in
          omega (arith, e, l, after.many);
    }

-- ---- a watch

-- so far a watch read so much, and looked behind all events of it, unless goals are settled
pub record Watched (declared : Declared) (rows : List Listed) (from now : Standing) (a b : Option Talk) (open_body : OpenBody) (reader : EventReader) (goals : Goals) (i : ℕ) : Type 0 where
  pub body : List ℕ
  pub taken : List Event
  pub reads : ReadsTo open_body body a b
  pub after : LooksAfter declared rows body taken from now reader goals
  pub sound : (events body).fault ≡ None
  pub upto : (is_settled_now goals ≡ true) ⊎ ((events body).told ≡ taken)
  pub far : i ≤ length body

-- each slot was looked at
enough : (declared : Declared) (rows : List Listed) (taken : List Event) (n : ℕ) → n ≡ length (looks declared rows taken) → length declared.slots ≤ n
enough declared rows taken n many =
    let e = length-append (places declared.slots) (later_looks declared rows taken) in
    let l = length_numbers 0 (length declared.slots) in
    omega (arith, e, l, many)

pub watch_begun : (declared : Declared) (rows : List Listed) (from now : Standing) (a b : Option Talk) (open_body : OpenBody) (reader : EventReader) (goals : Goals)
    → Way declared rows [] (length declared.slots) from now goals → ReadsTo open_body [] a b → HasRead reader [] [] → Watched declared rows from now a b open_body reader goals 0
watch_begun declared rows from now a b open_body reader goals way reads has = record {
  body = [];
  taken = [];
  reads = reads;
  after = record {
    n = length declared.slots;
    way = way;
    has_read = has;
    many = sym (ap length (append-nil (places declared.slots)) ∙ length_numbers 0 (length declared.slots));
  };
  sound = refl;
  upto = inr refl;
  far = omega arith;
}

module _ (declared : Declared) (rows : List Listed) (from now : Standing) (a b : Option Talk) (open_body : OpenBody) (reader : EventReader) (goals : Goals) (i f g : ℕ)
    (so_far : Watched declared rows from now a b open_body reader goals i) where
  -- goals are settled
  pub watch_settled : is_settled_now goals ≡ true → Watches declared rows from now a b f g goals (Ok tt)
  watch_settled settled = record {
    body = so_far.body;
    comes = hears_as a b (StreamsTo so_far.body) (WatchesTo declared rows so_far.body from now goals f g (Ok tt)) (reads_streams open_body so_far.body a b so_far.reads)
        (λ n e is. (is, (so_far.after.n, so_far.after.way, enough declared rows so_far.taken so_far.after.n so_far.after.many, settled)));
  }

  -- else all events were looked behind
  pub watch_upto : is_settled_now goals ≡ false → (events so_far.body).told ≡ so_far.taken
  watch_upto open_still = by so_far.upto
    where
      by : (is_settled_now goals ≡ true) ⊎ ((events so_far.body).told ≡ so_far.taken) → (events so_far.body).told ≡ so_far.taken
      by (inl settled) = let bad : true ≡ false = sym settled ∙ open_still in absurd (cc bad)
      by (inr all) = all

  -- the body has no end within its limit
  pub watch_endless : most_stream_bytes + 1 ≤ i → ⊥
  watch_endless past = let w = reads_within open_body so_far.body a b so_far.reads in let v = so_far.far in omega (arith, w, v, past)

  -- more of the body was read, and the looks that were made are the same
  pub watch_on : (piece : List ℕ) (new_reader : EventReader) → HasRead new_reader (so_far.body ++ piece) so_far.taken
      → LooksAfter declared rows (so_far.body ++ piece) so_far.taken from now new_reader goals
  watch_on piece new_reader has = record {
    n = so_far.after.n;
    way = way_on declared rows so_far.body piece so_far.after.n from now goals so_far.after.way;
    has_read = has;
    many = so_far.after.many;
  }

  -- memory was wanted for it
  pub watch_short : (c : Option Talk) (h : ℕ) (refusal : WaitRefusal) (piece : List ℕ) → refusal ≡ WaitRefusal.Memory → Hears a c (StreamsTo (so_far.body ++ piece))
      → Watches declared rows from now a c f h goals (Err refusal)
  watch_short c h refusal piece is heard = record {
    body = so_far.body ++ piece;
    comes = hears_as a c (StreamsTo (so_far.body ++ piece)) (WatchesTo declared rows (so_far.body ++ piece) from now goals f h (Err refusal)) heard
        (λ n e streamed. (
          streamed,
          inl (subst (λ r. EndsBy declared (so_far.body ++ piece) from now r goals) (sym is)
              (way_short declared rows (so_far.body ++ piece) so_far.after.n from now goals (way_on declared rows so_far.body piece so_far.after.n from now goals so_far.after.way))),
        ));
  }

-- a look ended the wait
pub watch_ended : (declared : Declared) (rows : List Listed) (from now : Standing) (a c : Option Talk) (f h : ℕ) (goals : Goals) (body : List ℕ) (refusal : WaitRefusal) → Hears a c (StreamsTo body)
    → EndsBy declared body from now refusal goals → Watches declared rows from now a c f h goals (Err refusal)
watch_ended declared rows from now a c f h goals body refusal heard ends = record {
  body = body;
  comes = hears_as a c (StreamsTo body) (WatchesTo declared rows body from now goals f h (Err refusal)) heard (λ n e streamed. (streamed, inl ends));
}

-- the stream ended, behind the looks that it asks for
module _ (declared : Declared) (rows : List Listed) (from now : Standing) (a c : Option Talk) (f h : ℕ) (goals : Goals) (reader : EventReader) (body : List ℕ) (taken : List Event) (fault : StreamFault)
    (heard : Hears a c (EndsStream body f h fault)) (after : LooksAfter declared rows body taken from now reader goals)
    (upto : (is_settled_now goals ≡ true) ⊎ ((events body).told ≡ taken)) where
  pub end_settled : is_settled_now goals ≡ true → Watches declared rows from now a c f h goals (Ok tt)
  end_settled settled = record {
    body = body;
    comes = hears_as a c (EndsStream body f h fault) (WatchesTo declared rows body from now goals f h (Ok tt)) heard
        (λ n e is. (is.0, (after.n, after.way, enough declared rows taken after.n after.many, settled)));
  }

  pub end_open : is_settled_now goals ≡ false → Watches declared rows from now a c f h goals (Err (WaitRefusal.Stream fault))
  end_open open_still = record {
    body = body;
    comes = hears_as a c (EndsStream body f h fault) (WatchesTo declared rows body from now goals f h (Err (WaitRefusal.Stream fault))) heard
        (λ n e is. (is.0, inr (fault, refl, is.1, all upto, open_still)));
  }
    where
      all : (is_settled_now goals ≡ true) ⊎ ((events body).told ≡ taken) → Way declared rows body (length (looks_of declared rows body)) from now goals
      all (inl settled) = let bad : true ≡ false = sym settled ∙ open_still in absurd (cc bad)
      all (inr told) = subst (λ n. Way declared rows body n from now goals) (after.many ∙ ap (λ l. length (looks declared rows l)) (sym told)) after.way
