-- A body is read to its end, a piece behind another, and with its head it is the response.
use Rattle.std.proofs.Common.{◌≡◌, ℕ, ◌<◌, ◌≤◌, ◌||◌, Bool, true, false, List, [], ◌++◌, length, Option, sym, ap, subst, arith, append_assoc}
use Rattle.std.proofs.lemmas.List.{append-nil, length-append}
use Rattle.std.specs.Prelude.{Err, Ok}
use Rattle.tree_base.specs.Limits.{most_body_bytes}
use Rattle.engine_types.specs.declared.WireEnd.{WireEnd}
use Rattle.outside_api.specs.Pipes.{Talk}
use Rattle.response_rules.specs.Responses.{Breaks, IsResponse}
use Rattle.http_response.specs.Bodies.{Continues, IsOpen, Opens, ReadsRestBy}
use Rattle.http_response.specs.Hearing.{ComesTo, Hears}
use Rattle.http_response.specs.Reading.{EndsBy, Reads}
use Rattle.http_response.specs.declared.body.OpenBody.{OpenBody}
use Rattle.http_response.specs.declared.response.ResponseEnd.{ResponseEnd}
use Rattle.http_response.proofs.Giving.{ends_from}
use Rattle.http_response.proofs.Listening.{heard_on, hears_nothing, or_assoc, or_nothing}
use Rattle.http_response.proofs.Opening.{ends_by}
use Rattle.http_response.proofs.Within.{given_within}

-- what was read so far, and what was put
abbrev pub HasPut : OpenBody → List ℕ → List ℕ → Bool → List ℕ → Bool → Type 0
HasPut open_body body read ended more found_end = IsOpen open_body (read ++ more) (ended || found_end) body

comes_by : {A : Type 0} (good : A → Type 0) (read : List ℕ) (ended : Bool) (f g : ℕ) (cause : WireEnd) → EndsBy read ended f g cause
    → ComesTo good (Breaks read ended) f g (Err (ResponseEnd.Wire cause))
comes_by good read ended f g WireEnd.Fault e = e
comes_by good read ended f g WireEnd.BadBody e = e
comes_by good read ended f g WireEnd.Ended e = e
comes_by good read ended f g (WireEnd.Malformed at) e = e
comes_by good read ended f g WireEnd.Encoded e = e
comes_by good read ended f g WireEnd.TooLarge e = e

pub nothing_put : (open_body : OpenBody) (body read : List ℕ) (ended : Bool) (told : Option Talk) → IsOpen open_body read ended body
    → Hears told told (HasPut open_body body read ended)
nothing_put open_body body read ended told o =
    hears_nothing told (HasPut open_body body read ended)
    (subst (λ (r : List ℕ). IsOpen open_body r (ended || false) body) (sym (append-nil read)) (subst (λ (v : Bool). IsOpen open_body read v body) (or_nothing ended) o))

-- ---- one piece more

module _ (now new : OpenBody) (body body_new read : List ℕ) (ended : Bool) (a b c : Option Talk) (f g h : ℕ) (first : Hears a b (HasPut now body read ended)) where
  abbrev there : List ℕ
  there = read ++ first.more

  abbrev over : Bool
  over = ended || first.found_end

  more_put : Continues new there over body body body_new b c g h (Ok true) → Hears a c (HasPut new body_new read ended) × (length body < length body_new)
  more_put k = (
    record {
      more = first.more ++ k.more;
      found_end = first.found_end || k.now_ended;
      heard = heard_on first.more k.more first.found_end k.now_ended a b c first.heard k.heard;
      comes =
          subst (λ (out : List ℕ). IsOpen new (read ++ (first.more ++ k.more)) (ended || (first.found_end || k.now_ended)) out) (sym k.gives.2)
          (subst (λ (r : List ℕ). IsOpen new r (ended || (first.found_end || k.now_ended)) (body ++ k.gives.0)) (append_assoc read first.more k.more)
          (subst (λ (v : Bool). IsOpen new (there ++ k.more) v (body ++ k.gives.0)) (or_assoc ended first.found_end k.now_ended) k.gives.3));
    },
    let e = ap length k.gives.2 in
        let l = length-append body k.gives.0 in
        let s = k.gives.1 in
        omega (arith, e, l, s),
  )

  pub one_more : (moved : Bool) → moved ≡ true → Continues new there over body body body_new b c g h (Ok moved)
      → Hears a c (HasPut new body_new read ended) × (length body < length body_new)
  one_more moved is k = more_put (subst (λ (r : Bool). Continues new there over body body body_new b c g h (Ok r)) is k)

  all_put : Continues new there over body body body_new b c g h (Ok false) → Hears a c (ReadsRestBy read ended new body_new f h (Ok tt))
  all_put k = record {
    more = first.more ++ k.more;
    found_end = first.found_end || k.now_ended;
    heard = heard_on first.more k.more first.found_end k.now_ended a b c first.heard k.heard;
    comes =
        subst (λ (out : List ℕ). IsResponse (read ++ (first.more ++ k.more)) (ended || (first.found_end || k.now_ended)) new.status out) (sym k.gives.0)
        (subst (λ (r : List ℕ). IsResponse r (ended || (first.found_end || k.now_ended)) new.status body) (append_assoc read first.more k.more)
        (subst (λ (v : Bool). IsResponse (there ++ k.more) v new.status body) (or_assoc ended first.found_end k.now_ended) k.gives.1));
  }

  pub no_more : (moved : Bool) → moved ≡ false → Continues new there over body body body_new b c g h (Ok moved) → Hears a c (ReadsRestBy read ended new body_new f h (Ok tt))
  no_more moved is k = all_put (subst (λ (r : Bool). Continues new there over body body body_new b c g h (Ok r)) is k)

  pub none_there : (end : ResponseEnd) → f ≤ g → g ≤ h → Continues new there over body body body_new b c g h (Err end) → Hears a c (ReadsRestBy read ended new body_new f h (Err end))
  none_there ResponseEnd.Memory low high k = record {
    more = first.more ++ k.more;
    found_end = first.found_end || k.now_ended;
    heard = heard_on first.more k.more first.found_end k.now_ended a b c first.heard k.heard;
    comes = tt;
  }
  none_there (ResponseEnd.Wire cause) low high k = record {
    more = first.more ++ k.more;
    found_end = first.found_end || k.now_ended;
    heard = heard_on first.more k.more first.found_end k.now_ended a b c first.heard k.heard;
    comes =
        comes_by (λ (done : Unit {0}). IsResponse (read ++ (first.more ++ k.more)) (ended || (first.found_end || k.now_ended)) new.status body_new)
        (read ++ (first.more ++ k.more)) (ended || (first.found_end || k.now_ended)) f h cause
        (subst (λ (r : List ℕ). EndsBy r (ended || (first.found_end || k.now_ended)) f h cause) (append_assoc read first.more k.more)
        (subst (λ (v : Bool). EndsBy (there ++ k.more) v f h cause) (or_assoc ended first.found_end k.now_ended)
        (ends_from most_body_bytes (there ++ k.more) (over || k.now_ended) f g h cause low high k.gives.1)));
  }

pub put_within : (now : OpenBody) (body read : List ℕ) (ended : Bool) (a b : Option Talk) → Hears a b (HasPut now body read ended) → length body ≤ most_body_bytes
put_within now body read ended a b h = given_within most_body_bytes now (read ++ h.more) (ended || h.found_end) body h.comes

-- ---- the response

pub begins_so : (open_body : OpenBody) (body : List ℕ) (a b : Option Talk) (f g : ℕ) → body ≡ [] → (o : Opens a b f g (Ok open_body)) → IsOpen open_body o.read o.ended body
begins_so open_body body a b f g none o = subst (λ (given : List ℕ). IsOpen open_body o.read o.ended given) (sym none) o.answers

pub reads_none : (a b : Option Talk) (f g : ℕ) (end : ResponseEnd) → Opens a b f g (Err end) → Reads a b f g (Err end)
reads_none a b f g ResponseEnd.Memory o = record { read = o.read; ended = o.ended; heard = o.heard; answers = tt }
reads_none a b f g (ResponseEnd.Wire cause) o = record { read = o.read; ended = o.ended; heard = o.heard; answers = o.answers }

module _ (first new : OpenBody) (body : List ℕ) (a b c : Option Talk) (f g h : ℕ) (o : Opens a b f g (Ok first)) where
  pub reads_whole : (status : ℕ) → status ≡ new.status → Hears b c (ReadsRestBy o.read o.ended new body g h (Ok tt)) → Reads a c f h (Ok (record { status = status; body = body }))
  reads_whole status same r = record {
    read = o.read ++ r.more;
    ended = o.ended || r.found_end;
    heard = heard_on o.read r.more o.ended r.found_end a b c o.heard r.heard;
    answers = subst (λ (s : ℕ). IsResponse (o.read ++ r.more) (o.ended || r.found_end) s body) (sym same) r.comes;
  }

  pub reads_lost : (end : ResponseEnd) → f ≤ g → g ≤ h → Hears b c (ReadsRestBy o.read o.ended new body g h (Err end)) → Reads a c f h (Err end)
  reads_lost ResponseEnd.Memory low high r = record {
    read = o.read ++ r.more;
    ended = o.ended || r.found_end;
    heard = heard_on o.read r.more o.ended r.found_end a b c o.heard r.heard;
    answers = tt;
  }
  reads_lost (ResponseEnd.Wire cause) low high r = record {
    read = o.read ++ r.more;
    ended = o.ended || r.found_end;
    heard = heard_on o.read r.more o.ended r.found_end a b c o.heard r.heard;
    answers =
        ends_from most_body_bytes (o.read ++ r.more) (o.ended || r.found_end) f g h cause low high
        (ends_by most_body_bytes (λ (done : Unit {0}). IsResponse (o.read ++ r.more) (o.ended || r.found_end) new.status body) (o.read ++ r.more) (o.ended || r.found_end) g h cause r.comes);
  }
