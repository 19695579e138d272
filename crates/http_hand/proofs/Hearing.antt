-- What a hand heard grows by one item with each exchange, and each outcome has its cause there.
use Rattle.std.proofs.Common.{◌≡◌, ◌⊎◌, ℕ, suc, ◌+◌, ◌<◌, ◌≤◌, Bool, true, false, List, [], ◌∷◌, ◌++◌, length, Option, Some, None, refl, sym, ap, ◌∙◌, subst, inl, inr, arith, true≢false}
use Rattle.std.specs.Prelude.{IfSome, is_some}
use Rattle.std.specs.Option.{option_map}
use Rattle.std.proofs.lemmas.List.{length-append}
use Rattle.engine_types.specs.declared.Exchange.{Exchange}
use Rattle.engine_types.specs.declared.Outcome.{Outcome}
use Rattle.engine_types.specs.declared.Reply.{Reply}
use Rattle.engine_types.specs.declared.Request.{Request}
use Rattle.engine_types.specs.declared.WireEnd.{WireEnd}
use Rattle.outside_api.specs.Hands.{HasCause, Heard, HeardLast, HeardReply, HearsNext}
use Rattle.outside_api.specs.Pipes.{Talk}
use Rattle.outside_api.specs.Wires.{GrewByTalk}
use Rattle.response_rules.specs.Broken.{IsReply}
use Rattle.http_hand.specs.Hearing.{closed, connections, heard_in, heard_of, nothing}
use Rattle.http_hand.proofs.Closing.{speaks_kept}
use Rattle.http_hand.proofs.Rows.{reply_fits}
use Rattle.http_hand.specs.Speaking.{IsUnspoken, SaysOf, SpeaksBy, Spoke}

-- ---- connections that are counted

connections_more : (opened : List Bool) → connections (opened ++ true ∷ []) ≡ connections opened + 1
connections_more [] = omega arith
connections_more (true ∷ opened) = omega (arith, connections_more opened)
connections_more (false ∷ opened) = connections_more opened

connections_same : (opened : List Bool) → connections (opened ++ false ∷ []) ≡ connections opened
connections_same [] = refl
connections_same (true ∷ opened) = ap suc (connections_same opened)
connections_same (false ∷ opened) = connections_same opened

pub connections_within : (opened : List Bool) → connections opened ≤ length opened
connections_within [] = omega arith
connections_within (true ∷ opened) = omega (arith, connections_within opened)
connections_within (false ∷ opened) = omega (arith, connections_within opened)

pub few_connections : (now opened : List Bool) (n : ℕ) → now ≡ opened → length opened < n → connections now < n
few_connections now opened n same few = subst (λ (l : List Bool). connections l < n) (sym same) (omega (arith, connections_within opened, few))

-- ---- what was heard grows

heard_none : (opened : List Bool) (talks : List Talk) → heard_in (opened ++ false ∷ []) talks ≡ heard_in opened talks ++ nothing ∷ []
heard_none [] talks = refl
heard_none (false ∷ opened) talks = ap (λ (items : List Heard). nothing ∷ items) (heard_none opened talks)
heard_none (true ∷ opened) [] = ap (λ (items : List Heard). nothing ∷ items) (heard_none opened [])
heard_none (true ∷ opened) (talk ∷ talks) = ap (λ (items : List Heard). heard_of talk ∷ items) (heard_none opened talks)

heard_one : (opened : List Bool) (talks : List Talk) (last : Talk) → length talks ≡ connections opened
    → heard_in (opened ++ true ∷ []) (talks ++ last ∷ []) ≡ heard_in opened talks ++ heard_of last ∷ []
heard_one [] [] last e = refl
heard_one [] (talk ∷ talks) last e = absurd (omega (arith, e))
heard_one (false ∷ opened) talks last e = ap (λ (items : List Heard). nothing ∷ items) (heard_one opened talks last e)
heard_one (true ∷ opened) [] last e = absurd (omega (arith, e))
heard_one (true ∷ opened) (talk ∷ talks) last e = ap (λ (items : List Heard). heard_of talk ∷ items) (heard_one opened talks last (omega (arith, e)))

-- this was heard, behind what was heard before, where it is told
abbrev pub HearsItem : Option (List Heard) → Option (List Heard) → Heard → Type 0
HearsItem None new item = new ≡ None
HearsItem (Some old) new item = new ≡ Some (old ++ item ∷ [])

abbrev item_of : List ℕ → Bool → Heard
item_of read ended = record { read = read; ended = ended }

item_is : (bytes : List ℕ) (outcome : Outcome) (read : List ℕ) (ended : Bool) (talk : Talk) → Spoke bytes outcome read ended talk → heard_of talk ≡ item_of read ended
item_is bytes outcome read ended talk s = ap (λ (r : List ℕ). item_of r talk.ended) s.1 ∙ ap (λ (b : Bool). item_of read b) s.2

hears_talk : (opened : List Bool) (bytes : List ℕ) (outcome : Outcome) (read : List ℕ) (ended : Bool) (old : Option (List Talk)) (talk : Option Talk) (new : Option (List Talk))
    → closed old (connections opened) ≡ connections opened → is_some old ≡ is_some talk → GrewByTalk old talk new → IfSome talk (Spoke bytes outcome read ended)
    → HearsItem (option_map (heard_in opened) old) (option_map (heard_in (opened ++ true ∷ [])) new) (item_of read ended)
hears_talk opened bytes outcome read ended None talk new told even grew s = ap (option_map (heard_in (opened ++ true ∷ []))) grew
hears_talk opened bytes outcome read ended (Some talks) None new told even grew s = absurd (true≢false even)
hears_talk opened bytes outcome read ended (Some talks) (Some talk) new told even grew s =
    ap (option_map (heard_in (opened ++ true ∷ []))) grew
    ∙ ap Some (heard_one opened talks talk told)
    ∙ ap (λ (item : Heard). Some (heard_in opened talks ++ item ∷ [])) (item_is bytes outcome read ended talk s)

hears_nothing : (opened : List Bool) (old new : Option (List Talk)) → new ≡ old
    → HearsItem (option_map (heard_in opened) old) (option_map (heard_in (opened ++ false ∷ [])) new) nothing
hears_nothing opened None new same = ap (option_map (heard_in (opened ++ false ∷ []))) same
hears_nothing opened (Some talks) new same = ap (option_map (heard_in (opened ++ false ∷ []))) same ∙ ap Some (heard_none opened talks)

hears_next : (before after : List Exchange) (exchange : Exchange) (old new : Option (List Heard)) (item : Heard) → after ≡ before ++ exchange ∷ []
    → HearsItem old new item → HearsNext before after old new
hears_next before after exchange None new item e h = h
hears_next before after exchange (Some old) new item e h = inr (ap length e ∙ length-append before (exchange ∷ []), item, h)

pub exchange_heard : (b : Bool) (opened : List Bool) (request : Request) (bytes : List ℕ) (outcome : Outcome) (past_old past_new : Option (List Talk)) (d e f g : ℕ)
    (before after : List Exchange) (exchange : Exchange)
    → SpeaksBy b request bytes outcome past_old past_new d e f g → closed past_old (connections opened) ≡ connections opened → after ≡ before ++ exchange ∷ []
    → HearsNext before after (option_map (heard_in opened) past_old) (option_map (heard_in (opened ++ b ∷ [])) past_new)
exchange_heard true opened request bytes outcome past_old past_new d e f g before after exchange s told grew =
    hears_next before after exchange (option_map (heard_in opened) past_old) (option_map (heard_in (opened ++ true ∷ [])) past_new) (item_of s.1.read s.1.ended) grew
    (hears_talk opened bytes outcome s.1.read s.1.ended past_old s.1.talk past_new told s.1.even s.1.closed s.1.spoke)
exchange_heard false opened request bytes outcome past_old past_new d e f g before after exchange s told grew =
    hears_next before after exchange (option_map (heard_in opened) past_old) (option_map (heard_in (opened ++ false ∷ [])) past_new) nothing grew
    (hears_nothing opened past_old past_new s.1)

-- ---- its cause

heard_last : (old new : Option (List Heard)) (item : Heard) → HearsItem old new item → IfSome new (HeardLast item)
heard_last None new item h = subst (λ (o : Option (List Heard)). IfSome o (HeardLast item)) (sym h) tt
heard_last (Some old) new item h = subst (λ (o : Option (List Heard)). IfSome o (HeardLast item)) (sym h) (old, refl)

heard_reply : (request : Request) (reply : Reply) (item : Heard) (new : Option (List Heard)) → IfSome new (HeardLast item) → IsReply request item.read item.ended reply
    → HeardReply request reply new
heard_reply request reply item None h r = tt
heard_reply request reply item (Some items) h r = (item, h, r)

caused_by : (request : Request) (read : List ℕ) (ended : Bool) (f g : ℕ) (outcome : Outcome) (new : Option (List Heard)) → IfSome new (HeardLast (item_of read ended))
    → SaysOf request read ended f g outcome → HasCause request new f g outcome
caused_by request read ended f g (Outcome.Answered reply) new h s = (reply_fits request s.status s.body reply s.gives, heard_reply request reply (item_of read ended) new h s)
caused_by request read ended f g (Outcome.Lost WireEnd.Fault) new h s = inl s
caused_by request read ended f g (Outcome.Lost WireEnd.BadBody) new h s = inr (item_of read ended, s, h)
caused_by request read ended f g (Outcome.Lost WireEnd.Ended) new h s = inr (item_of read ended, s, h)
caused_by request read ended f g (Outcome.Lost (WireEnd.Malformed at)) new h s = inr (item_of read ended, s, h)
caused_by request read ended f g (Outcome.Lost WireEnd.Encoded) new h s = inr (item_of read ended, s, h)
caused_by request read ended f g (Outcome.Lost WireEnd.TooLarge) new h s = inr (item_of read ended, s, h)
caused_by request read ended f g Outcome.NotSent new h s = s
caused_by request read ended f g Outcome.Memory new h s = tt

caused_unspoken : (request : Request) (f g : ℕ) (outcome : Outcome) (new : Option (List Heard)) → IsUnspoken outcome f g → HasCause request new f g outcome
caused_unspoken request f g (Outcome.Answered reply) new u = absurd u
caused_unspoken request f g (Outcome.Lost cause) new u = absurd u
caused_unspoken request f g Outcome.NotSent new u = u
caused_unspoken request f g Outcome.Memory new u = tt

pub exchange_caused : (b : Bool) (opened : List Bool) (request : Request) (bytes : List ℕ) (outcome : Outcome) (past_old past_new : Option (List Talk)) (d e f g : ℕ)
    → SpeaksBy b request bytes outcome past_old past_new d e f g → closed past_old (connections opened) ≡ connections opened
    → HasCause request (option_map (heard_in (opened ++ b ∷ [])) past_new) f g outcome
exchange_caused true opened request bytes outcome past_old past_new d e f g s told =
    caused_by request s.1.read s.1.ended f g outcome (option_map (heard_in (opened ++ true ∷ [])) past_new)
    (heard_last (option_map (heard_in opened) past_old) (option_map (heard_in (opened ++ true ∷ [])) past_new) (item_of s.1.read s.1.ended)
    (hears_talk opened bytes outcome s.1.read s.1.ended past_old s.1.talk past_new told s.1.even s.1.closed s.1.spoke))
    s.1.says
exchange_caused false opened request bytes outcome past_old past_new d e f g s told =
    caused_unspoken request f g outcome (option_map (heard_in (opened ++ false ∷ [])) past_new) s.2

-- ---- what is counted afterwards

pub dialled_next : (b : Bool) (opened : List Bool) (request : Request) (bytes : List ℕ) (outcome : Outcome) (past_old past_new : Option (List Talk)) (d e f g : ℕ)
    → SpeaksBy b request bytes outcome past_old past_new d e f g → d ≡ connections opened → e ≡ connections (opened ++ b ∷ [])
dialled_next true opened request bytes outcome past_old past_new d e f g s same = s.0 ∙ ap (λ (n : ℕ). n + 1) same ∙ sym (connections_more opened)
dialled_next false opened request bytes outcome past_old past_new d e f g s same = s.0 ∙ same ∙ sym (connections_same opened)

told_talk : (n k : ℕ) (old : Option (List Talk)) (talk : Option Talk) (new : Option (List Talk)) → k ≡ n + 1 → closed old n ≡ n → is_some old ≡ is_some talk
    → GrewByTalk old talk new → closed new k ≡ k
told_talk n k None talk new more told even grew = ap (λ (p : Option (List Talk)). closed p k) grew
told_talk n k (Some talks) None new more told even grew = absurd (true≢false even)
told_talk n k (Some talks) (Some talk) new more told even grew =
    ap (λ (p : Option (List Talk)). closed p k) grew ∙ length-append talks (talk ∷ []) ∙ ap (λ (m : ℕ). m + 1) told ∙ sym more

told_same : (n k : ℕ) (old new : Option (List Talk)) → k ≡ n → closed old n ≡ n → new ≡ old → closed new k ≡ k
told_same n k old new same told kept = subst (λ (m : ℕ). closed new m ≡ m) (sym same) (subst (λ (p : Option (List Talk)). closed p n ≡ n) (sym kept) told)

pub told_next : (b : Bool) (opened : List Bool) (request : Request) (bytes : List ℕ) (outcome : Outcome) (past_old past_new : Option (List Talk)) (d e f g : ℕ)
    → SpeaksBy b request bytes outcome past_old past_new d e f g → closed past_old (connections opened) ≡ connections opened
    → closed past_new (connections (opened ++ b ∷ [])) ≡ connections (opened ++ b ∷ [])
told_next true opened request bytes outcome past_old past_new d e f g s told =
    told_talk (connections opened) (connections (opened ++ true ∷ [])) past_old s.1.talk past_new (connections_more opened) told s.1.even s.1.closed
told_next false opened request bytes outcome past_old past_new d e f g s told =
    told_same (connections opened) (connections (opened ++ false ∷ [])) past_old past_new (connections_same opened) told s.1

-- ---- the same, where it is known by equations what was put last

pub heard_after : (b : Bool) (opened grown : List Bool) (request : Request) (bytes : List ℕ) (outcome : Outcome) (past_old past_new : Option (List Talk)) (d e f g : ℕ)
    (before after : List Exchange) (exchange : Exchange)
    → SpeaksBy b request bytes outcome past_old past_new d e f g → closed past_old (connections opened) ≡ connections opened
    → grown ≡ opened ++ b ∷ [] → after ≡ before ++ exchange ∷ []
    → HearsNext before after (option_map (heard_in opened) past_old) (option_map (heard_in grown) past_new)
heard_after b opened grown request bytes outcome past_old past_new d e f g before after exchange s told put logged =
    subst (λ (l : List Bool). HearsNext before after (option_map (heard_in opened) past_old) (option_map (heard_in l) past_new)) (sym put)
    (exchange_heard b opened request bytes outcome past_old past_new d e f g before after exchange s told logged)

pub caused_after : (b : Bool) (opened grown : List Bool) (request : Request) (bytes : List ℕ) (outcome kept : Outcome) (past_old past_new : Option (List Talk)) (d e f g : ℕ)
    → SpeaksBy b request bytes outcome past_old past_new d e f g → closed past_old (connections opened) ≡ connections opened
    → grown ≡ opened ++ b ∷ [] → (kept ≡ outcome) ⊎ (kept ≡ Outcome.Memory)
    → HasCause request (option_map (heard_in grown) past_new) f g kept
caused_after b opened grown request bytes outcome kept past_old past_new d e f g s told put same =
    subst (λ (l : List Bool). HasCause request (option_map (heard_in l) past_new) f g kept) (sym put)
    (exchange_caused b opened request bytes kept past_old past_new d e f g (speaks_kept b request bytes outcome kept past_old past_new d e f g same s) told)

pub dialled_after : (b : Bool) (opened grown : List Bool) (request : Request) (bytes : List ℕ) (outcome : Outcome) (past_old past_new : Option (List Talk)) (d e f g : ℕ)
    → SpeaksBy b request bytes outcome past_old past_new d e f g → d ≡ connections opened → grown ≡ opened ++ b ∷ [] → e ≡ connections grown
dialled_after b opened grown request bytes outcome past_old past_new d e f g s same put =
    dialled_next b opened request bytes outcome past_old past_new d e f g s same ∙ ap connections (sym put)

pub told_after : (b : Bool) (opened grown : List Bool) (request : Request) (bytes : List ℕ) (outcome : Outcome) (past_old past_new : Option (List Talk)) (d e f g : ℕ)
    → SpeaksBy b request bytes outcome past_old past_new d e f g → closed past_old (connections opened) ≡ connections opened → grown ≡ opened ++ b ∷ []
    → closed past_new (connections grown) ≡ connections grown
told_after b opened grown request bytes outcome past_old past_new d e f g s told put =
    subst (λ (l : List Bool). closed past_new (connections l) ≡ connections l) (sym put)
    (told_next b opened request bytes outcome past_old past_new d e f g s told)

-- ---- a wire's past, where it is told, is no longer than its count of connections

pub closed_within : (past : Option (List Talk)) (d n : ℕ) → d ≡ n → closed past n ≡ n → IfSome past (λ talks. length talks ≤ d)
closed_within None d n same told = tt
closed_within (Some talks) d n same told = omega (arith, same, told)

pub closed_below : (old new : Option (List Talk)) (d e : ℕ) → new ≡ old → e ≡ d + 1 → IfSome old (λ talks. length talks ≤ d) → IfSome new (λ talks. length talks < e)
closed_below None new d e same more h = subst (λ (p : Option (List Talk)). IfSome p (λ talks. length talks < e)) (sym same) tt
closed_below (Some talks) new d e same more h = subst (λ (p : Option (List Talk)). IfSome p (λ items. length items < e)) (sym same) (omega (arith, more, h))

pub none_closed : (past : Option (List Talk)) → IfSome past (λ talks. talks ≡ []) → closed past 0 ≡ 0
none_closed None h = refl
none_closed (Some talks) h = ap length h

pub none_heard : (past : Option (List Talk)) → IfSome past (λ talks. talks ≡ []) → IfSome (option_map (heard_in []) past) (λ items. items ≡ [])
none_heard None h = tt
none_heard (Some talks) h = refl
