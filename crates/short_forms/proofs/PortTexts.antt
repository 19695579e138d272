-- The ports that short forms give, and how each reads back from its own short form.
use Rattle.std.proofs.Common.{◌≡◌, ◌∙◌, ℕ, zero, suc, ◌+◌, ◌-◌, ◌<◌, ◌≤◌, Bool, true, false, ◌&&◌, cond, eqb, List, [], ◌∷◌, ◌++◌, append_assoc, All, Option, Some, None, refl, sym, ap, subst, arith, tests}
use Rattle.std.proofs.lemmas.Bool.{and_from, cond-true}
use Rattle.std.proofs.lemmas.Bool.Decides.{nat_tests}
use Rattle.std.proofs.lemmas.List.Elements.{All-cons, All-map, All-nil}
use Rattle.std.proofs.lemmas.List.Folds.{list_all-append}
use Rattle.std.proofs.lemmas.Option.{option_and_then_some}
use Rattle.std.specs.Fmt.{decimal}
use Rattle.std.specs.List.{list_all, range_with_len}
use Rattle.std.specs.Option.{option_and_then, option_map}
use Rattle.short_forms.specs.Cuts.{cut_once, parts_at}
use Rattle.short_forms.specs.Ports.{first_of, host_text, is_address, is_protocol, port_at, ports_by, ports_from, ports_in, ports_of, published, published_of, span_of, target_of, unpublished}
use Rattle.short_forms.specs.declared.ports.Port.{Port}
use Rattle.short_forms.specs.declared.ports.Span.{Span}
use Rattle.short_forms.specs.declared.ports.Span.TheVariants.{One, Range}
use Rattle.short_forms.specs.PortLaws.{as_published, before_target, published_in, short_port}
use Rattle.short_forms.proofs.Lacking.{cut_behind, lacks, parts_alone, parts_behind}
use Rattle.short_forms.proofs.PortNumbers.{IsWithin, address_bytes, decimal_bytes, is_port_byte, lacks_colon, lacks_slash, option_map_some, span_back, span_is, target_back, target_is}

-- what a port is published as, and the address before it
abbrev pub IsHost : Option (List ℕ) → Option (List ℕ) → Type 0
IsHost None None = Unit {0}
IsHost (Some address) None = ⊥
IsHost None (Some text) = published_in text ≡ Some text
IsHost (Some address) (Some text) = (is_address address ≡ true) × (published_in text ≡ Some text)

-- a port that a short form can spell
pub record IsShort (port : Port) : Type 0 where
  pub some : 1 ≤ port.target
  pub most : port.target ≤ 65535
  pub protocol : is_protocol port.protocol ≡ true
  pub host : IsHost port.host_ip port.published

-- the span of a text that is spelled without need
published_span : (text : List ℕ) → published_in text ≡ Some text → {P : Type 0} → ((span : Span) → span_of text ≡ Some span → as_published text span ≡ text → P) → P
published_span text e {P} go = option_map_some (as_published text) (span_of text) text e go

published_bytes : (text : List ℕ) → published_in text ≡ Some text → list_all is_port_byte text ≡ true
published_bytes text e = published_span text e (λ span is same. (span_is text span is).bytes)

one_target : (port : Option (List ℕ) → ℕ → Port) (text : List ℕ) (span : Span) (target : ℕ) → published port text span (One target) ≡ Some (port (Some (as_published text span)) target ∷ [])
one_target port text (One host) target = refl
one_target port text (Range low high) target = refl

-- a published text and one target
published_back : (port : Option (List ℕ) → ℕ → Port) (text : List ℕ) (target : ℕ) → 1 ≤ target → target ≤ 65535 → published_in text ≡ Some text → published_of port text (decimal target) ≡ Some (port (Some text) target ∷ [])
published_back port text target some most e =
    published_span text e (λ span is same.
    ap (option_and_then (λ host. option_and_then (published port text host) (target_of (decimal target)))) is
    ∙ ap (option_and_then (published port text span)) (target_back target most some)
    ∙ one_target port text span target
    ∙ ap (λ (t : List ℕ). Some (port (Some t) target ∷ [])) same)

abbrev digits_at_end : List ℕ → ℕ → List ℕ
digits_at_end front target = front ++ decimal target

module _ (protocol : List ℕ) (target : ℕ) (some : 1 ≤ target) (most : target ≤ 65535) where
  end_parts : parts_at 58 (decimal target) ≡ decimal target ∷ []
  end_parts = parts_alone 58 (decimal target) (lacks_colon (decimal target) (decimal_bytes target most))

  one_colon : (text : List ℕ) → list_all is_port_byte text ≡ true → parts_at 58 ((text ++ 58 ∷ []) ++ decimal target) ≡ text ∷ decimal target ∷ []
  one_colon text bytes =
      ap (parts_at 58) (append_assoc text (58 ∷ []) (decimal target))
      ∙ parts_behind 58 text (decimal target) (lacks_colon text bytes)
      ∙ ap (λ (l : List (List ℕ)). text ∷ l) end_parts

  two_colons : (address text : List ℕ) → list_all is_port_byte address ≡ true → list_all is_port_byte text ≡ true
      → parts_at 58 ((address ++ 58 ∷ (text ++ 58 ∷ [])) ++ decimal target) ≡ address ∷ text ∷ decimal target ∷ []
  two_colons address text first second =
      ap (parts_at 58) (append_assoc address (58 ∷ (text ++ 58 ∷ [])) (decimal target))
      ∙ parts_behind 58 address ((text ++ 58 ∷ []) ++ decimal target) (lacks_colon address first)
      ∙ ap (λ (l : List (List ℕ)). address ∷ l) (one_colon text second)

  -- the fields of a port, read
  fields_back : (address host : Option (List ℕ)) → IsHost address host → ports_in protocol (parts_at 58 (before_target address host ++ decimal target)) ≡ Some (port_at address protocol host target ∷ [])
  fields_back None None is = ap (ports_in protocol) end_parts ∙ ap (option_map (unpublished (port_at None protocol))) (target_back target most some)
  fields_back (Some address) None is = absurd is
  fields_back None (Some text) is = ap (ports_in protocol) (one_colon text (published_bytes text is)) ∙ published_back (port_at None protocol) text target some most is
  fields_back (Some address) (Some text) is =
      ap (ports_in protocol) (two_colons address text (address_bytes address is.0) (published_bytes text is.1))
      ∙ cond-true (is_address address) (published_of (port_at (Some address) protocol) text (decimal target)) None is.0
      ∙ published_back (port_at (Some address) protocol) text target some most is.1

  before_bytes : (address host : Option (List ℕ)) → IsHost address host → lacks 47 (before_target address host) ≡ true
  before_bytes None None is = refl
  before_bytes (Some address) None is = absurd is
  before_bytes None (Some text) is = list_all-append _ text (58 ∷ []) ∙ and_from (lacks 47 text) true (lacks_slash text (published_bytes text is)) refl
  before_bytes (Some address) (Some text) is =
      list_all-append _ address (58 ∷ (text ++ 58 ∷ []))
      ∙ and_from (lacks 47 address) (lacks 47 (text ++ 58 ∷ [])) (lacks_slash address (address_bytes address is.0))
      (list_all-append _ text (58 ∷ []) ∙ and_from (lacks 47 text) true (lacks_slash text (published_bytes text is.1)) refl)

  short_back : (address host : Option (List ℕ)) → is_protocol protocol ≡ true → IsHost address host
      → ports_of (before_target address host ++ (decimal target ++ (47 ∷ protocol))) ≡ Some (port_at address protocol host target ∷ [])
  short_back address host known is =
      let fields = before_target address host ++ decimal target in
      let text = fields ++ 47 ∷ protocol in
      let clean : lacks 47 fields ≡ true =
      list_all-append _ (before_target address host) (decimal target) ∙ and_from (lacks 47 (before_target address host)) (lacks 47 (decimal target)) (before_bytes address host is) (lacks_slash (decimal target) (decimal_bytes target most)) in
      ap ports_of (sym (append_assoc (before_target address host) (decimal target) (47 ∷ protocol)))
      ∙ ap (ports_by text) (cut_behind 47 fields protocol clean)
      ∙ cond-true (is_protocol protocol) (ports_in protocol (parts_at 58 fields)) None known
      ∙ fields_back address host is

-- a port that a short form can spell is the one port of its own
pub reads_back : (port : Port) → IsShort port → ports_of (short_port port) ≡ Some (port ∷ [])
reads_back port is = short_back port.protocol port.target is.some is.most port.host_ip port.published is.protocol is.host

cond_then : {A : Type 0} (b : Bool) (x : Option A) (y : A) → cond b x None ≡ Some y → (b ≡ true) × (x ≡ Some y)
cond_then {A} true x y e = (refl, e)
cond_then {A} false x y e = absurd cc

all_range : (P : ℕ → Type 0) (first count : ℕ) → ((i : ℕ) → first ≤ i → i < first + count → P i) → All P (range_with_len first count)
all_range P first zero each = All-nil P
all_range P first (suc count) each = All-cons P first (range_with_len (first + 1) count) (each first (omega arith) (omega arith)) (all_range P (first + 1) count (λ i low high. each i (omega arith) (omega arith)))

-- each port of a range
all_from : (P : Port → Type 0) (port : ℕ → ℕ → Port) (first count : ℕ) → ((place : ℕ) → place < count → P (port place (first + place))) → All P (ports_from port first count)
all_from P port first count each =
    All-map P (λ place. port place (first + place)) (range_with_len 0 count) (all_range (λ place. P (port place (first + place))) 0 count (λ i low high. each i (omega arith)))

one_only : (port : Port) → IsShort port → All IsShort (port ∷ [])
one_only port is = All-cons IsShort port [] is (All-nil IsShort)

module _ (protocol : List ℕ) (known : is_protocol protocol ≡ true) where
  short_at : (address host : Option (List ℕ)) (target : ℕ) → 1 ≤ target → target ≤ 65535 → IsHost address host → IsShort (port_at address protocol host target)
  short_at address host target some most is = record { some = some; most = most; protocol = known; host = is }

  unpublished_short : (span : Span) → IsWithin span → 1 ≤ first_of span → All IsShort (unpublished (port_at None protocol) span)
  unpublished_short (One target) within some = one_only (port_at None protocol None target) (short_at None None target some within tt)
  unpublished_short (Range first last) within some =
      all_from IsShort (λ place. port_at None protocol (host_text None place)) first (last - first + 1)
      (λ place less. short_at None None (first + place) (omega arith) (omega (arith, within.0, within.1)) tt)

  -- a host's text beside the address that is given
  with_address : (address : Option (List ℕ)) → ((a : List ℕ) → address ≡ Some a → is_address a ≡ true) → (text : List ℕ) → published_in text ≡ Some text → IsHost address (Some text)
  with_address None given text e = e
  with_address (Some a) given text e = (given a refl, e)

  module _ (address : Option (List ℕ)) (given : (a : List ℕ) → address ≡ Some a → is_address a ≡ true) where
    number_host : (n : ℕ) → n ≤ 65535 → IsHost address (Some (decimal n))
    number_host n small = with_address address given (decimal n) (ap (option_map (as_published (decimal n))) (span_back n small))

    published_short : (text : List ℕ) (host target : Span) (ports : List Port) → span_of text ≡ Some host → IsWithin host → IsWithin target → 1 ≤ first_of target
        → published (port_at address protocol) text host target ≡ Some ports → All IsShort ports
    published_short text (One host) (One target) ports is within most some e =
        let same : port_at address protocol (Some (decimal host)) target ∷ [] ≡ ports = cc in
        subst (All IsShort) same (one_only (port_at address protocol (Some (decimal host)) target) (short_at address (Some (decimal host)) target some most (number_host host within)))
    published_short text (Range low high) (One target) ports is within most some e =
        let same : port_at address protocol (Some text) target ∷ [] ≡ ports = cc in
        let kept : published_in text ≡ Some text = ap (option_map (as_published text)) is in
        subst (All IsShort) same (one_only (port_at address protocol (Some text) target) (short_at address (Some text) target some most (with_address address given text kept)))
    published_short text (Range low high) (Range first last) ports is within most some e =
        let found = cond_then (eqb (high - low) (last - first)) (Some (ports_from (λ place. port_at address protocol (host_text (Some low) place)) first (last - first + 1))) ports e in
        let same : ports_from (λ place. port_at address protocol (host_text (Some low) place)) first (last - first + 1) ≡ ports = let k = found.1 in cc in
        let sizes : high - low ≡ last - first = let k = found.0 in grind (arith, nat_tests, tests) in
        subst (All IsShort) same
        (all_from IsShort (λ place. port_at address protocol (host_text (Some low) place)) first (last - first + 1)
        (λ place less. short_at address (Some (decimal (low + place))) (first + place) (omega arith) (omega (arith, most.0, most.1)) (number_host (low + place) (omega (arith, sizes, within.0, within.1)))))
    published_short text (One host) (Range first last) ports is within most some e = absurd cc

    both_short : (text target : List ℕ) (ports : List Port) → published_of (port_at address protocol) text target ≡ Some ports → All IsShort ports
    both_short text target ports e =
        option_and_then_some (λ host. option_and_then (published (port_at address protocol) text host) (target_of target)) (span_of text) ports e
        (λ host is more.
        option_and_then_some (published (port_at address protocol) text host) (target_of target) ports more
        (λ span there last.
        let ends = target_is target span there in
        published_short text host span ports is (span_is text host is).within ends.0 ends.1 last))

  in_short : (parts : List (List ℕ)) (ports : List Port) → ports_in protocol parts ≡ Some ports → All IsShort ports
  in_short [] ports e = absurd cc
  in_short (target ∷ []) ports e =
      option_map_some (unpublished (port_at None protocol)) (target_of target) ports e
      (λ span is same. let ends = target_is target span is in subst (All IsShort) same (unpublished_short span ends.0 ends.1))
  in_short (text ∷ target ∷ []) ports e = both_short None (λ a none. absurd cc) text target ports e
  in_short (address ∷ text ∷ target ∷ []) ports e =
      let found = cond_then (is_address address) (published_of (port_at (Some address) protocol) text target) ports e in
      both_short (Some address) (λ a same. (let is : address ≡ a = cc in subst (λ (x : List ℕ). is_address x ≡ true) is found.0)) text target ports found.1
  in_short (address ∷ text ∷ target ∷ part ∷ parts) ports e = absurd cc

cut_short : (text : List ℕ) (cut : Option (List ℕ × List ℕ)) (ports : List Port) → ports_by text cut ≡ Some ports → All IsShort ports
cut_short text None ports e = in_short (116 ∷ 99 ∷ 112 ∷ []) refl (parts_at 58 text) ports e
cut_short text (Some (fields, protocol)) ports e =
    let found = cond_then (is_protocol protocol) (ports_in protocol (parts_at 58 fields)) ports e in
    in_short protocol found.0 (parts_at 58 fields) ports found.1

-- each port that a short form gives can be spelled as one
pub all_short : (text : List ℕ) (ports : List Port) → ports_of text ≡ Some ports → All IsShort ports
all_short text ports e = cut_short text (cut_once 47 text) ports e
