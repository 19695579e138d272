-- Behind its head, a response is open, with nothing of its body given.
use Rattle.std.proofs.Common.{◌≡◌, ℕ, ◌+◌, ◌<◌, ◌||◌, ◌==◌, ◌^◌, Bool, true, false, if◌then◌else◌, List, [], ◌++◌, length, Option, Some, refl, sym, ap, ◌∙◌, subst, inl, arith, true≢false}
use Rattle.std.proofs.lemmas.List.{length-append}
use Rattle.std.specs.Prelude.{Err, IsTrue, Ok}
use Rattle.tree_base.specs.Limits.{most_framing_bytes}
use Rattle.engine_types.specs.declared.WireEnd.{WireEnd}
use Rattle.httparse.specs.Grammar.{print_response, status_code}
use Rattle.outside_api.specs.Pipes.{Talk}
use Rattle.response_rules.specs.Chunks.{AreChunksWithin, Chunk}
use Rattle.response_rules.specs.Heads.{framing_of, has_no_body, sized}
use Rattle.response_rules.specs.Responses.{BreaksWithin, print_heads}
use Rattle.http_response.specs.Bodies.{IsGiven, IsOpenWithin, OpensWithin, is_done, opening, opening_framed}
use Rattle.http_fields.specs.Fields.{framing_told}
use Rattle.http_response.specs.Found.{IsPastHead, ReadHeadBy}
use Rattle.http_response.specs.Hearing.{ComesTo, Hears}
use Rattle.http_response.specs.Reading.{EndsByWithin}
use Rattle.http_response.specs.Stocks.{left, place}
use Rattle.http_response.specs.declared.body.OpenBody.{OpenBody}
use Rattle.http_response.specs.declared.body.Rest.{Rest}
use Rattle.http_fields.specs.declared.fields.Framing.{Framing as ReadFraming}
use Rattle.http_response.specs.declared.heads.Head.{Head}
use Rattle.http_response.specs.declared.response.ResponseEnd.{ResponseEnd}
use Rattle.http_response.specs.declared.stock.Stock.{Stock}

-- the one name for what a refusal says
pub ends_by : (limit : ℕ) {A : Type 0} (good : A → Type 0) (read : List ℕ) (ended : Bool) (f g : ℕ) (cause : WireEnd)
    → ComesTo good (BreaksWithin limit read ended) f g (Err (ResponseEnd.Wire cause)) → EndsByWithin limit read ended f g cause
ends_by limit good read ended f g WireEnd.Fault c = c
ends_by limit good read ended f g WireEnd.BadBody c = c
ends_by limit good read ended f g WireEnd.Ended c = c
ends_by limit good read ended f g (WireEnd.Malformed at) c = c
ends_by limit good read ended f g WireEnd.Encoded c = c
ends_by limit good read ended f g WireEnd.TooLarge c = c

no_chunks : (limit : ℕ) → AreChunksWithin limit []
no_chunks limit = record { each = λ (k : ℕ) (d : Chunk) (l : k < 0). absurd (omega arith); within = omega arith; framed = omega arith }

module _ (limit : ℕ) (small : limit < 2 ^ 62) (old new : Stock) (found : Head) (more : List ℕ) (found_end : Bool) (p : IsPastHead limit old new more found_end found) (first : place old ≡ 0) where
  abbrev opened : Rest → OpenBody
  opened rest = record { status = found.status; stock = new; rest = rest }

  abbrev at : ℕ
  at = length (print_heads p.skipped) + length (print_response p.head)

  placed : place new + length (left new) ≡ length more
  placed =
      let l = ap length p.begins.skips.reads in
      let m = length-append (print_heads p.skipped) (print_response p.head ++ left new) in
      let n = length-append (print_response p.head) (left new) in
      let e = p.place_is (subst (λ (k : ℕ). k < 2 ^ 64) (sym first) (omega arith)) in
      omega (arith, l, m, n, e, first)

  bodiless : (v : Bool) → (found.status == 204 || found.status == 304) ≡ v → has_no_body (status_code p.head) ≡ v
  bodiless v e =
      ap (λ (i : Bool). i || (status_code p.head == 204 || status_code p.head == 304)) p.final
      ∙ ap (λ (s : ℕ). s == 204 || s == 304) (sym p.status_is) ∙ e

  with_rest : (rest : Rest) → is_done rest ≡ false → has_no_body (status_code p.head) ≡ false
      → IsGiven limit rest (framing_of p.head.fields) at (left new) [] (left new) → IsOpenWithin limit (opened rest) more found_end []
  with_rest rest going body given = record {
    small = small;
    skipped = p.skipped;
    head = p.head;
    rest = left new;
    begins = p.begins;
    final = p.final;
    sound = p.sound;
    status_is = p.status_is;
    ended_is = p.ended_is;
    has_body = λ (o : is_done rest ≡ false). body;
    place_is = λ (o : is_done rest ≡ false). placed;
    so_far = given;
    whole = λ (o : is_done rest ≡ true). absurd (true≢false (sym o ∙ going));
  }

  without_rest : has_no_body (status_code p.head) ≡ true → IsOpenWithin limit (opened Rest.Nothing) more found_end []
  without_rest none = record {
    small = small;
    skipped = p.skipped;
    head = p.head;
    rest = left new;
    begins = p.begins;
    final = p.final;
    sound = p.sound;
    status_is = p.status_is;
    ended_is = p.ended_is;
    has_body = λ (o : true ≡ false). absurd (true≢false o);
    place_is = λ (o : true ≡ false). absurd (true≢false o);
    so_far = tt;
    whole = λ (o : true ≡ true). record {
      skipped = p.skipped;
      head = p.head;
      rest = left new;
      begins = p.begins;
      final = p.final;
      sound = p.sound;
      has_status = p.status_is;
      has_body = inl (subst (λ (s : ℕ). IsTrue (has_no_body s)) (sym p.status_is) none, refl);
    };
  }

  all_room : 0 + limit ≡ limit
  all_room = omega arith

  by_framing : (f : ReadFraming) → framing_of p.head.fields ≡ Some (framing_told f) → has_no_body (status_code p.head) ≡ false → IsOpenWithin limit (opened (opening_framed limit f)) more found_end []
  by_framing ReadFraming.ToEnd e body = with_rest (Rest.ToEnd limit) refl body (e, refl, all_room)
  by_framing (ReadFraming.Sized n) e body =
      with_rest (Rest.Sized n) refl body (e ∙ ap (λ (m : ℕ). Some (sized m)) (let z : n ≡ 0 + n = omega arith in z), refl)
  by_framing ReadFraming.Chunked e body = with_rest (Rest.Chunks limit most_framing_bytes) refl body (e, all_room, ([], no_chunks limit, refl, refl, refl))

  pub is_opened : IsOpenWithin limit (opened (opening limit found.status found.framing)) more found_end []
  is_opened = by (found.status == 204 || found.status == 304) refl
    where
      by : (v : Bool) → (found.status == 204 || found.status == 304) ≡ v → IsOpenWithin limit (opened (if v then Rest.Nothing else opening_framed limit found.framing)) more found_end []
      by true e = without_rest (bodiless true e)
      by false e = by_framing found.framing p.framing_is (bodiless false e)

module _ (limit : ℕ) (small : limit < 2 ^ 62) (old new : Stock) (told_old told_new : Option Talk) (f g : ℕ) (none : left old ≡ []) (first : place old ≡ 0) (plain : old.ended ≡ false) where
  abbrev read_as : List ℕ → Bool → Type 0
  read_as more found_end = (left old ++ more ≡ more) × ((old.ended || found_end) ≡ found_end)

  whole_read : (more : List ℕ) (found_end : Bool) → read_as more found_end
  whole_read more found_end = (ap (λ (l : List ℕ). l ++ more) none, ap (λ (b : Bool). b || found_end) plain)

  -- the head was read
  pub opens : (found : Head) → Hears told_old told_new (ReadHeadBy limit old new f g (Ok found))
      → OpensWithin limit told_old told_new f g (Ok (record { status = found.status; stock = new; rest = opening limit found.status found.framing }))
  opens found h =
      let r = whole_read h.more h.found_end in
      let p : IsPastHead limit old new h.more h.found_end found =
      subst (λ (read : List ℕ). IsPastHead limit old new read h.found_end found) r.0
      (subst (λ (ended : Bool). IsPastHead limit old new (left old ++ h.more) ended found) r.1 h.comes) in
      record { read = h.more; ended = h.found_end; heard = h.heard; answers = is_opened limit small old new found h.more h.found_end p first }

  -- it wasn't
  pub opens_not : (end : ResponseEnd) → Hears told_old told_new (ReadHeadBy limit old new f g (Err end)) → OpensWithin limit told_old told_new f g (Err end)
  opens_not ResponseEnd.Memory h = record { read = h.more; ended = h.found_end; heard = h.heard; answers = tt }
  opens_not (ResponseEnd.Wire cause) h =
      let r = whole_read h.more h.found_end in
      let e : EndsByWithin limit (left old ++ h.more) (old.ended || h.found_end) f g cause =
      ends_by limit (IsPastHead limit old new (left old ++ h.more) (old.ended || h.found_end)) (left old ++ h.more) (old.ended || h.found_end) f g cause h.comes in
      record {
        read = h.more;
        ended = h.found_end;
        heard = h.heard;
        answers =
            subst (λ (read : List ℕ). EndsByWithin limit read h.found_end f g cause) r.0
            (subst (λ (ended : Bool). EndsByWithin limit (left old ++ h.more) ended f g cause) r.1 e);
      }

  -- the same with what is to come of the body
  pub opens_as : (found : Head) (rest : Rest) → rest ≡ opening limit found.status found.framing → Hears told_old told_new (ReadHeadBy limit old new f g (Ok found))
      → OpensWithin limit told_old told_new f g (Ok (record { status = found.status; stock = new; rest = rest }))
  opens_as found rest e h =
      subst (λ (r : Rest). OpensWithin limit told_old told_new f g (Ok (record { status = found.status; stock = new; rest = r }))) (sym e) (opens found h)
