-- What a closed connection leaves with its wire.
use Rattle.std.proofs.Common.{◌≡◌, ◌⊎◌, ℕ, zero, suc, ◌+◌, ◌≤◌, Bool, true, false, List, length, Option, Some, None, refl, sym, ap, ◌∙◌, subst, inl, inr, arith}
use Rattle.std.specs.Prelude.{IfSome, is_some}
use Rattle.std.proofs.Math.Seq.{take-length}
use Rattle.engine_types.specs.declared.Outcome.{Outcome}
use Rattle.engine_types.specs.declared.Request.{Request}
use Rattle.engine_types.specs.declared.WireEnd.{WireEnd}
use Rattle.outside_files.specs.Counts.{Rose}
use Rattle.outside_api.specs.Pipes.{Talk, ToldBy, silence}
use Rattle.outside_api.specs.Wires.{GrewByTalk, RoseBy}
use Rattle.http_hand.specs.Speaking.{IsBeginning, SaysOf, SpeaksBy, SpeaksOn, SpeaksOnce, Spoke, WritesBy, after_both}
use Rattle.http_hand.proofs.Talking.{says_from}

-- ---- a connection that was new

spoke_fresh : (bytes : List ℕ) (outcome : Outcome) (written read : List ℕ) (ended : Bool) (old new : Option Talk) → IfSome old (λ talk. talk ≡ silence)
    → ToldBy (after_both written read ended) old new → WritesBy bytes outcome written → IfSome new (Spoke bytes outcome read ended)
spoke_fresh bytes outcome written read ended None new fresh told w = subst (λ (t : Option Talk). IfSome t (Spoke bytes outcome read ended)) (sym told) tt
spoke_fresh bytes outcome written read ended (Some talk) new fresh told w =
    let e : new ≡ Some (after_both written read ended silence) = told ∙ ap (λ (t : Talk). Some (after_both written read ended t)) fresh in
    subst (λ (t : Option Talk). IfSome t (Spoke bytes outcome read ended)) (sym e) (w, refl, refl)

-- a fault of a connection that had none is one of its wire
risen : (p q f g : ℕ) → p ≡ 0 → Rose p q → RoseBy q f g → Rose f g
risen p zero f g none (inl less) by = absurd (omega (arith, less))
risen p zero f g none (inr full) by = absurd (omega (arith, full, none))
risen p (suc q) f g none rose by = by

says_closed : (request : Request) (read : List ℕ) (ended : Bool) (p q f g : ℕ) (outcome : Outcome) → p ≡ 0 → RoseBy q f g
    → SaysOf request read ended p q outcome → SaysOf request read ended f g outcome
says_closed request read ended p q f g (Outcome.Answered reply) none by s = s
says_closed request read ended p q f g (Outcome.Lost WireEnd.Fault) none by s = risen p q f g none s by
says_closed request read ended p q f g (Outcome.Lost WireEnd.BadBody) none by s = s
says_closed request read ended p q f g (Outcome.Lost WireEnd.Ended) none by s = s
says_closed request read ended p q f g (Outcome.Lost (WireEnd.Malformed at)) none by s = s
says_closed request read ended p q f g (Outcome.Lost WireEnd.Encoded) none by s = s
says_closed request read ended p q f g (Outcome.Lost WireEnd.TooLarge) none by s = s
says_closed request read ended p q f g Outcome.NotSent none by s = risen p q f g none s by
says_closed request read ended p q f g Outcome.Memory none by s = s

pub spoke_once : (request : Request) (bytes : List ℕ) (outcome : Outcome) (past_old past_new : Option (List Talk)) (old new : Option Talk) (p q f g : ℕ)
    → p ≡ 0 → IfSome old (λ talk. talk ≡ silence) → SpeaksOn request bytes outcome old new p q → is_some past_old ≡ is_some new
    → GrewByTalk past_old new past_new → RoseBy q f g → SpeaksOnce request bytes outcome past_old past_new f g
spoke_once request bytes outcome past_old past_new old new p q f g none fresh s even grew by = record {
  talk = new;
  read = s.read;
  ended = s.ended;
  even = even;
  closed = grew;
  spoke = spoke_fresh bytes outcome s.written s.read s.ended old new fresh s.told s.writes;
  says = says_closed request s.read s.ended p q f g outcome none by s.says;
}

-- ---- behind its dial

pub spoke_behind : (request : Request) (bytes text : List ℕ) (outcome : Outcome) (past_old past_mid past_new : Option (List Talk)) (d e k f g h : ℕ)
    → bytes ≡ text → past_mid ≡ past_old → e ≡ d + 1 → k ≡ e → f ≤ g → g ≤ h
    → SpeaksOnce request bytes outcome past_mid past_new g h → SpeaksBy true request text outcome past_old past_new d k f h
spoke_behind request bytes text outcome past_old past_mid past_new d e k f g h is_text same one kept low high s = (
  kept ∙ one,
  subst (λ (b : List ℕ). SpeaksOnce request b outcome past_old past_new f h) is_text
      (subst (λ (p : Option (List Talk)). SpeaksOnce request bytes outcome p past_new f h) same (record {
        talk = s.talk;
        read = s.read;
        ended = s.ended;
        even = s.even;
        closed = s.closed;
        spoke = s.spoke;
        says = says_from request s.read s.ended f g h outcome low high s.says;
      })),
)

-- ---- an outcome for which memory is wanted

begins_with : (bytes written : List ℕ) (outcome : Outcome) → WritesBy bytes outcome written → IsBeginning written bytes
begins_with bytes written (Outcome.Answered reply) w = (length bytes, omega arith, w ∙ sym (take-length bytes))
begins_with bytes written (Outcome.Lost WireEnd.Fault) w = w
begins_with bytes written (Outcome.Lost WireEnd.BadBody) w = (length bytes, omega arith, w ∙ sym (take-length bytes))
begins_with bytes written (Outcome.Lost WireEnd.Ended) w = (length bytes, omega arith, w ∙ sym (take-length bytes))
begins_with bytes written (Outcome.Lost (WireEnd.Malformed at)) w = (length bytes, omega arith, w ∙ sym (take-length bytes))
begins_with bytes written (Outcome.Lost WireEnd.Encoded) w = (length bytes, omega arith, w ∙ sym (take-length bytes))
begins_with bytes written (Outcome.Lost WireEnd.TooLarge) w = (length bytes, omega arith, w ∙ sym (take-length bytes))
begins_with bytes written Outcome.NotSent w = (0, omega arith, w)
begins_with bytes written Outcome.Memory w = w

spoke_wanted : (bytes : List ℕ) (outcome : Outcome) (read : List ℕ) (ended : Bool) (talk : Option Talk) → IfSome talk (Spoke bytes outcome read ended)
    → IfSome talk (Spoke bytes Outcome.Memory read ended)
spoke_wanted bytes outcome read ended None s = tt
spoke_wanted bytes outcome read ended (Some talk) s = (begins_with bytes talk.written outcome s.0, s.1, s.2)

wanted : (opened : Bool) (request : Request) (bytes : List ℕ) (outcome : Outcome) (past_old past_new : Option (List Talk)) (d e f g : ℕ)
    → SpeaksBy opened request bytes outcome past_old past_new d e f g → SpeaksBy opened request bytes Outcome.Memory past_old past_new d e f g
wanted true request bytes outcome past_old past_new d e f g s = (
  s.0,
  record {
    talk = s.1.talk;
    read = s.1.read;
    ended = s.1.ended;
    even = s.1.even;
    closed = s.1.closed;
    spoke = spoke_wanted bytes outcome s.1.read s.1.ended s.1.talk s.1.spoke;
    says = tt;
  },
)
wanted false request bytes outcome past_old past_new d e f g s = (s.0, s.1, tt)

pub speaks_kept : (opened : Bool) (request : Request) (bytes : List ℕ) (outcome kept : Outcome) (past_old past_new : Option (List Talk)) (d e f g : ℕ)
    → (kept ≡ outcome) ⊎ (kept ≡ Outcome.Memory)
    → SpeaksBy opened request bytes outcome past_old past_new d e f g → SpeaksBy opened request bytes kept past_old past_new d e f g
speaks_kept opened request bytes outcome kept past_old past_new d e f g (inl same) s =
    subst (λ (o : Outcome). SpeaksBy opened request bytes o past_old past_new d e f g) (sym same) s
speaks_kept opened request bytes outcome kept past_old past_new d e f g (inr memory) s =
    subst (λ (o : Outcome). SpeaksBy opened request bytes o past_old past_new d e f g) (sym memory) (wanted opened request bytes outcome past_old past_new d e f g s)
