use Rattle.std.proofs.Common.{◌≡◌, ◌∙◌, ℕ, true, false, [], List, Option, Result, Ok, ap, map, sym}
use Rattle.std.specs.Option.{ok_or}
use Rattle.attribute_types.specs.declared.refusal.AttributeRefusal.{AttributeRefusal}
use Rattle.attribute_types.specs.declared.refusal.AttributeRefusal.TheVariants.{At}
use Rattle.attribute_types.specs.declared.refusal.Fault.{Fault}
use Rattle.attribute_scalars.specs.Lists.{pair_of}
use Rattle.attribute_scalars.specs.Views.{seen_entry}
use Rattle.attribute_scalars.specs.Walks.{Entries, in_byte_order}
use Rattle.attribute_scalars.proofs.Pairs.{all_nullable, nullable_pairs, other_pairs}
use Rattle.attribute_scalars.proofs.lists.pairs_in.Goals as goal

-- pairs, or the refusal where there are none
abbrev or_refused : Option (List (List ℕ × Option (List ℕ))) → Result (List (List ℕ × Option (List ℕ))) AttributeRefusal
or_refused pairs = ok_or pairs (At Fault.WrongKind [])

pub returns-then-are_nullable : goal.returns-then-are_nullable
returns-then-are_nullable c =
    let sorted : Entries = in_byte_order c.args.entries.now in
    let seen : map seen_entry c.in_ok-sorted.sorted.items ≡ sorted = c.in_ok-sorted.ensures.value ∙ ap in_byte_order c.in_ok-entries_of.ensures.value in
    let all : all_nullable sorted ≡ true =
    ap all_nullable (sym seen ∙ ap (map seen_entry) (sym c.as_slice.ensures.value)) ∙ sym c.are_nullable.ensures ∙ c.if-are_nullable.true in
    ap (λ (pairs : List (List ℕ × Option (List ℕ))). Ok pairs) (c.in_ok-pairs_from.ensures ∙ ap (map pair_of) (ap (map seen_entry) c.as_slice-then-are_nullable.ensures.value ∙ seen))
    ∙ sym (ap or_refused (nullable_pairs sorted all))

pub returns : goal.returns
returns c =
    let sorted : Entries = in_byte_order c.args.entries.now in
    let seen : map seen_entry c.in_ok-sorted.sorted.items ≡ sorted = c.in_ok-sorted.ensures.value ∙ ap in_byte_order c.in_ok-entries_of.ensures.value in
    let none : all_nullable sorted ≡ false =
    ap all_nullable (sym seen ∙ ap (map seen_entry) (sym c.as_slice.ensures.value)) ∙ sym c.are_nullable.ensures ∙ c.if-are_nullable.false in
    sym (ap or_refused (other_pairs sorted none))
