-- How a reader goes on in the body that it is fed.
use Rattle.std.proofs.Common.{◌≡◌, ◌∙◌, ◌++◌, ◌==◌, ◌+◌, ◌<◌, ◌^◌, append_assoc, sym, subst, ℕ, Bool, List, [], ◌∷◌, true, false, cond, length, Option, Some, None, refl, ap, arith, nat_lt}
use Rattle.std.proofs.lemmas.Bool.{ltb-false, ltb-true}
use Rattle.std.proofs.lemmas.List.{length-append}
use Rattle.event_watch.specs.declared.event.Event.{Event}
use Rattle.event_watch.specs.declared.event.LineFault.{LineFault}
use Rattle.event_watch.specs.declared.open_line.OpenLine.{OpenLine}
use Rattle.event_watch.specs.Events.{Told, behind, events, line_before, line_told, only, told_by}
use Rattle.tree_base.specs.Limits.{most_event_bytes}
use Rattle.event_watch.specs.Reading.{EndsAs, EndsBy, IsPart, Stands, goes_on, longer}
use Rattle.event_watch.proofs.Parts.{part_alone, part_long, part_longer, part_nil, part_told}
use Rattle.response_rules.specs.Lines.{lines}

pub no_some : {A : Type 0} (a : A) (o : Option A) → o ≡ Some a → o ≡ None → ⊥
no_some a o some none = let bad : Some a ≡ None = sym some ∙ none in cc bad

pub behind_two : (a b : List Event) (later : Told) → behind a (behind b later) ≡ behind (a ++ b) later
behind_two a b later = ap {B = Told} (λ told. record { told = told; fault = later.fault }) (sym (append_assoc a b later.told))

goes_same : (f g : Option LineFault) (a b : ℕ) (x y more : List ℕ) → f ≡ g → a ≡ b → x ≡ y → goes_on f a x more ≡ goes_on g b y more
goes_same f g a b x y more p q r =
    ap (λ h. goes_on h a x more) p ∙ ap (λ h. goes_on g h x more) q ∙ ap (λ h. goes_on g b h more) r

-- the same body, by another name
pub stands_same : (line : OpenLine) (before now_before : List Event) (body now_body : List ℕ → Told) (count now_count : ℕ) → before ≡ now_before → ((more : List ℕ) → now_body more ≡ body more) → count ≡ now_count
    → Stands line before body count → Stands line now_before now_body now_count
stands_same line before now_before body now_body count now_count is same placed s = record {
  whole = λ more. same more ∙ s.whole more ∙ ap (λ b. behind b (goes_on line.fault line.at line.bytes more)) is;
  is_part = s.is_part;
  is_short = s.is_short;
  is_placed = λ none. s.is_placed none ∙ placed;
}

-- the events of a body that was read, and its bad line
pub stands_told : (line : OpenLine) (before : List Event) (body : List ℕ → Told) (count : ℕ) → Stands line before body count → body [] ≡ behind before (only line.fault)
stands_told line before body count s = s.whole [] ∙ ap (behind before) (part_alone line.fault line.at line.bytes s.is_part s.is_short)

-- nothing was read
pub begins_reading : (line : OpenLine) → line.bytes ≡ [] → line.at ≡ 0 → line.fault ≡ None → Stands line [] (λ more. events more) 0
begins_reading line bytes at fault = record {
  whole = λ more. sym (goes_same line.fault None line.at 0 line.bytes [] more fault at bytes);
  is_part = subst IsPart (sym bytes) part_nil;
  is_short = λ none. let e = ap length bytes in omega (arith, e);
  is_placed = λ none. let e = ap length bytes in omega (arith, e, at);
}

-- behind a bad line
pub stays_bad : (line : OpenLine) (fault : LineFault) (ready piece : List ℕ) (before : List Event) (body : List ℕ → Told) (count now_count : ℕ) → line.fault ≡ Some fault
    → Stands line before body count → Stands line before (λ more. body (piece ++ more)) now_count
stays_bad line fault ready piece before body count now_count is s = record {
  whole = λ more. s.whole (piece ++ more) ∙ ap (behind before) (ap (λ f. goes_on f line.at line.bytes (piece ++ more)) is ∙ sym (ap (λ f. goes_on f line.at line.bytes more) is));
  is_part = s.is_part;
  is_short = s.is_short;
  is_placed = λ none. absurd (no_some fault line.fault is none);
}

-- one more byte of the line
pub steps_longer : (old : OpenLine) (b : ℕ) (before : List Event) (body : List ℕ → Told) (count : ℕ) → old.fault ≡ None → (b == 10) ≡ false → Stands old before body count
    → Stands (longer old b) before (λ more. body (b ∷ more)) (count + 1)
steps_longer old b before body count sound other s = by (nat_lt most_event_bytes (length (old.bytes ++ b ∷ []))) refl
  where
    bytes : List ℕ
    bytes = old.bytes ++ b ∷ []

    by : (is : Bool) → nat_lt most_event_bytes (length (old.bytes ++ b ∷ [])) ≡ is
        → Stands (record { bytes = old.bytes ++ b ∷ []; at = old.at; fault = cond is (Some (LineFault.TooLong old.at)) old.fault }) before (λ more. body (b ∷ more)) (count + 1)
    by true e = record {
      whole = λ more. s.whole (b ∷ more) ∙ ap (behind before) (ap (λ f. goes_on f old.at old.bytes (b ∷ more)) sound ∙ ap (λ bs. told_by old.at (lines bs)) (sym (append_assoc old.bytes (b ∷ []) more))
          ∙ part_long old.at (old.bytes ++ b ∷ []) more (part_longer old.bytes b other s.is_part) (ltb-true most_event_bytes (length (old.bytes ++ b ∷ [])) e));
      is_part = part_longer old.bytes b other s.is_part;
      is_short = λ none. absurd (no_some (LineFault.TooLong old.at) (Some (LineFault.TooLong old.at)) refl none);
      is_placed = λ none. absurd (no_some (LineFault.TooLong old.at) (Some (LineFault.TooLong old.at)) refl none);
    }
    by false e = record {
      whole = λ more. s.whole (b ∷ more) ∙ ap (behind before) (ap (λ f. goes_on f old.at old.bytes (b ∷ more)) sound ∙ ap (λ bs. told_by old.at (lines bs)) (sym (append_assoc old.bytes (b ∷ []) more))
          ∙ sym (ap (λ f. goes_on f old.at (old.bytes ++ b ∷ []) more) sound));
      is_part = part_longer old.bytes b other s.is_part;
      is_short = λ none. ltb-false most_event_bytes (length (old.bytes ++ b ∷ [])) e;
      is_placed = λ none. let p = s.is_placed sound in let l = length-append old.bytes (b ∷ []) in omega (arith, p, l);
    }

-- the end of the line
pub steps_ended : (old new : OpenLine) (ready now_ready before : List Event) (body : List ℕ → Told) (count : ℕ) → old.fault ≡ None → count + 1 < 2 ^ 64 → EndsBy old ready new now_ready
    → Stands old (before ++ ready) body count → Stands new (before ++ now_ready) (λ more. body (10 ∷ more)) (count + 1)
steps_ended old new ready now_ready before body count sound small ends s = by (line_told old.bytes) (λ more. told more) ends
  where
    told : (more : List ℕ) → body (10 ∷ more) ≡ behind (before ++ ready) (line_before old.at (line_told old.bytes) (told_by (old.at + length old.bytes + 1) (lines more)))
    told more = s.whole (10 ∷ more) ∙ ap (behind (before ++ ready)) (ap (λ f. goes_on f old.at old.bytes (10 ∷ more)) sound ∙ part_told old.at old.bytes more s.is_part (s.is_short sound))

    by : (o : Option (List Event)) → ((more : List ℕ) → body (10 ∷ more) ≡ behind (before ++ ready) (line_before old.at o (told_by (old.at + length old.bytes + 1) (lines more)))) → EndsAs old ready new now_ready o
        → Stands new (before ++ now_ready) (λ more. body (10 ∷ more)) (count + 1)
    by (Some here) tells ends =
        let p = s.is_placed sound in
        let at : new.at ≡ old.at + length old.bytes + 1 = ends.3 (omega (arith, p, small)) in
        let all : (before ++ ready) ++ here ≡ before ++ now_ready = append_assoc before ready here ∙ ap (λ r. before ++ r) (sym ends.0) in
        record {
          whole = λ more. tells more ∙ behind_two (before ++ ready) here (told_by (old.at + length old.bytes + 1) (lines more))
              ∙ ap (λ b. behind b (told_by (old.at + length old.bytes + 1) (lines more))) all
              ∙ ap (behind (before ++ now_ready)) (sym (goes_same new.fault None new.at (old.at + length old.bytes + 1) new.bytes [] more (ends.2 ∙ sound) at ends.1));
          is_part = subst IsPart (sym ends.1) part_nil;
          is_short = λ none. let e = ap length ends.1 in omega (arith, e);
          is_placed = λ none. let e = ap length ends.1 in omega (arith, e, at, p);
        }
    by None tells ends = record {
      whole = λ more. tells more
          ∙ ap (λ r. behind (before ++ r) (only (Some (LineFault.BadEvent old.at)))) (sym ends.0)
          ∙ sym (ap (λ f. behind (before ++ now_ready) (goes_on f new.at new.bytes more)) ends.2);
      is_part = subst IsPart (sym ends.1) s.is_part;
      is_short = λ none. absurd (no_some (LineFault.BadEvent old.at) new.fault ends.2 none);
      is_placed = λ none. absurd (no_some (LineFault.BadEvent old.at) new.fault ends.2 none);
    }
