-- A record, attribute by attribute: what is put under names that differ stands one behind the other.
use Rattle.std.proofs.Common.{◌≡◌, ◌∙◌, ◌&&◌, ◌++◌, ℕ, Bool, true, false, not, cond, List, [], ◌∷◌, refl, sym, ap, append_assoc, true≢false}
use Rattle.std.specs.Prelude.{Option, Some, None}
use Rattle.std.specs.List.{AllByRecursion, list_all}
use Rattle.std.specs.Option.{option_map, option_map_or}
use Rattle.std.specs.Str.{bytes_eq}
use Rattle.std.proofs.lemmas.Bool.{and_parts}
use Rattle.std.proofs.lemmas.List.{append-nil}
use Rattle.tree_base.specs.Entries.{with_entry}
use Rattle.project_print.specs.declared.node.Node.{Node}
use Rattle.project_pages.specs.AttributePages.{Shown, if_any, if_there, if_true}
use Rattle.project_pages.specs.Puts.{any_of, true_node, with_found}

-- a name, and what stands under it
abbrev pub Field : Type 0
Field = List ℕ × Option Node

-- entries, and fields that are put to them
abbrev pub puts : Shown → List Field → Shown
puts entries [] = entries
puts entries (field ∷ fields) = puts (with_found entries field.0 field.1) fields

-- the entry of a field
abbrev pub in_field : Field → Shown
in_field (name, found) = option_map_or (λ node. (name, node) ∷ []) found []

-- the entries of fields
abbrev pub in_fields : List Field → Shown
in_fields [] = []
in_fields (field ∷ fields) = in_field field ++ in_fields fields

-- no later field has the name of an earlier one
abbrev pub names_differ : List Field → Bool
names_differ [] = true
names_differ (field ∷ fields) = list_all (λ later. not (bytes_eq later.0 field.0)) fields && names_differ fields

-- no entry has a name
abbrev IsNew : List ℕ → Shown → Type 0
IsNew name entries = AllByRecursion (λ entry. bytes_eq name entry.0 ≡ false) entries

-- nor has any the name of a field
abbrev AreNew : List Field → Shown → Type 0
AreNew fields entries = AllByRecursion (λ field. IsNew field.0 entries) fields

put_new : (name : List ℕ) (node : Node) (entries : Shown) → IsNew name entries → with_entry entries name node ≡ entries ++ (name, node) ∷ []
put_new name node [] h = refl
put_new name node (e ∷ es) h = ap (λ b. cond b ((e.0, node) ∷ es) (e ∷ with_entry es name node)) h.0 ∙ ap (λ (l : Shown). e ∷ l) (put_new name node es h.1)

put_found : (name : List ℕ) (found : Option Node) (entries : Shown) → IsNew name entries → with_found entries name found ≡ entries ++ in_field (name, found)
unfolding with_found
put_found name None entries h = sym (append-nil entries)
put_found name (Some node) entries h = put_new name node entries h

new_to_both : (name : List ℕ) (es fs : Shown) → IsNew name es → IsNew name fs → IsNew name (es ++ fs)
new_to_both name [] fs h k = k
new_to_both name (e ∷ es) fs h k = (h.0, new_to_both name es fs h.1 k)

not_true : (b : Bool) → not b ≡ true → b ≡ false
not_true true h = absurd (true≢false (sym h))
not_true false h = refl

new_to_field : (name : List ℕ) (other : List ℕ) (found : Option Node) → not (bytes_eq name other) ≡ true → IsNew name (in_field (other, found))
new_to_field name other None h = tt
new_to_field name other (Some node) h = (not_true (bytes_eq name other) h, tt)

are_new_on : (fields : List Field) (entries : Shown) (field : Field) → AreNew fields entries → list_all (λ later. not (bytes_eq later.0 field.0)) fields ≡ true
    → AreNew fields (entries ++ in_field field)
are_new_on [] entries field h d = tt
are_new_on (f ∷ fs) entries field h d =
    let parts = and_parts (not (bytes_eq f.0 field.0)) (list_all (λ later. not (bytes_eq later.0 field.0)) fs) d in
    (new_to_both f.0 entries (in_field field) h.0 (new_to_field f.0 field.0 field.1 parts.0), are_new_on fs entries field h.1 parts.1)

are_new : (fields : List Field) → AreNew fields []
are_new [] = tt
are_new (f ∷ fs) = (tt, are_new fs)

puts_on : (entries : Shown) (fields : List Field) → AreNew fields entries → names_differ fields ≡ true → puts entries fields ≡ entries ++ in_fields fields
puts_on entries [] h d = sym (append-nil entries)
puts_on entries (f ∷ fs) h d =
    let parts = and_parts (list_all (λ later. not (bytes_eq later.0 f.0)) fs) (names_differ fs) d in
    ap (λ (es : Shown). puts es fs) (put_found f.0 f.1 entries h.0)
    ∙ puts_on (entries ++ in_field f) fs (are_new_on fs entries f h.1 parts.0) parts.1
    ∙ append_assoc entries (in_field f) (in_fields fs)

-- fields of different names stand one behind the other
pub fields_put : (fields : List Field) → names_differ fields ≡ true → puts [] fields ≡ in_fields fields
fields_put fields d = puts_on [] fields (are_new fields) d

-- the field of what may be there
pub there : {X : Type 0} (name : List ℕ) (show : X → Node) (found : Option X) → in_field (name, option_map show found) ≡ if_there name show found
there name show None = refl
there name show (Some x) = refl

-- the field of what may be empty
pub any : {X : Type 0} (name : List ℕ) (show : List X → Node) (xs : List X) → in_field (name, option_map show (any_of xs)) ≡ if_any name show xs
any name show [] = refl
any name show (x ∷ xs) = refl

-- the field of what may be set
pub truth : (name : List ℕ) (flag : Bool) → in_field (name, true_node flag) ≡ if_true name flag
truth name true = refl
truth name false = refl

-- the last field, with nothing behind it
pub last : (field : Field) (shown : Shown) → in_field field ≡ shown → in_field field ++ [] ≡ shown
last field shown e = append-nil (in_field field) ∙ e
