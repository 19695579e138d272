-- The request for the events, and the head of the stream.
use Rattle.std.proofs.Common.{◌≡◌, ◌≤◌, ◌==◌, sym, false, ℕ, List, [], Option, Some, None, Result, Ok, Err, length, take, refl, ap, subst}
use Rattle.std.proofs.lemmas.List.{append-nil, take_all}
use Rattle.engine_types.specs.declared.StreamFault.{StreamFault}
use Rattle.engine_types.specs.declared.WireEnd.{WireEnd}
use Rattle.http_response.specs.Bodies.{OpensWithin}
use Rattle.http_response.specs.declared.OpenBody.{OpenBody}
use Rattle.http_response.specs.declared.ResponseEnd.{ResponseEnd}
use Rattle.outside_api.specs.Pipes.{Talk, ToldBy, after_write}
use Rattle.tree_base.specs.Limits.{most_stream_bytes}
use Rattle.wait_run.specs.Streams.{OpensStreamBy, ReadsTo}
use Rattle.wait_run.specs.declared.refusal.WaitRefusal.{WaitRefusal}

pub sent_none : (bytes : List ℕ) (told : Option Talk) → ToldBy (after_write (take 0 bytes)) told told
sent_none bytes None = refl
sent_none bytes (Some talk) = ap (λ (w : List ℕ). Some (record talk { written = w })) (sym (append-nil talk.written))

pub sent_all : (n : ℕ) (bytes : List ℕ) (a b : Option Talk) → length bytes ≤ n → ToldBy (after_write (take n bytes)) a b → ToldBy (after_write bytes) a b
sent_all n bytes a b less told = subst (λ l. ToldBy (after_write l) a b) (take_all n bytes less) told

module _ (a b : Option Talk) (f h : ℕ) where
  pub opens_well : (open_body : OpenBody) → OpensWithin most_stream_bytes a b f h (Ok open_body) → open_body.status ≡ 200 → OpensStreamBy a b f h (Ok open_body)
  opens_well open_body o good = record { more = o.read; found_end = o.ended; heard = o.heard; comes = (o.answers, good) }

  pub opens_badly : (open_body : OpenBody) (status : ℕ) → OpensWithin most_stream_bytes a b f h (Ok open_body) → open_body.status ≡ status → (status == 200) ≡ false
      → OpensStreamBy a b f h (Err (WaitRefusal.Stream (StreamFault.Refused status)))
  opens_badly open_body status o is bad = record { more = o.read; found_end = o.ended; heard = o.heard; comes = (open_body, o.answers, is, bad) }

  pub opens_broken : (cause : WireEnd) (answer : Result OpenBody ResponseEnd) → OpensWithin most_stream_bytes a b f h answer → answer ≡ Err (ResponseEnd.Wire cause)
      → OpensStreamBy a b f h (Err (WaitRefusal.Stream (StreamFault.Wire cause)))
  opens_broken cause answer opens is =
      let o : OpensWithin most_stream_bytes a b f h (Err (ResponseEnd.Wire cause)) = subst (OpensWithin most_stream_bytes a b f h) is opens in
      record { more = o.read; found_end = o.ended; heard = o.heard; comes = o.answers }

  pub opens_short : (answer : Result OpenBody ResponseEnd) → OpensWithin most_stream_bytes a b f h answer → OpensStreamBy a b f h (Err WaitRefusal.Memory)
  opens_short answer o = record { more = o.read; found_end = o.ended; heard = o.heard; comes = tt }

  -- a stream that was opened is read on
  pub opened_reads : (open_body : OpenBody) → OpensStreamBy a b f h (Ok open_body) → ReadsTo open_body [] a b
  opened_reads open_body o = (record { more = o.more; found_end = o.found_end; heard = o.heard; comes = o.comes.0 }, o.comes.1)
