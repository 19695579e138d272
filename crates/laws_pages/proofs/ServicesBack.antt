-- A service's attributes that are read again from what is shown of them: one by one, and together.
use Rattle.std.proofs.Common.{◌≡◌, ◌∙◌, ℕ, Bool, true, false, List, [], ◌∷◌, ◌++◌, Ok, codes, refl, sym, ap}
use Rattle.std.specs.Prelude.{if◌then◌else◌, is_some}
use Rattle.tree_base.specs.Entries as entries
use Rattle.tree_base.specs.declared.tree.Tree.TheVariants.{Null, outs-Null}
use Rattle.attribute_types.specs.Answers.{refused}
use Rattle.attribute_types.specs.Tables.{process_lines}
use Rattle.attribute_types.specs.declared.attribute.Attribute.{Attribute}
use Rattle.attribute_types.specs.declared.refusal.Fault.{Fault}
use Rattle.attribute_scalars.specs.Walks.{Entries, each_entry, in_byte_order, is_there, with_wanting}
use Rattle.attribute_rows.specs.Attributes.{attribute_under, attributes_from, attributes_of, wanted_of_service}
use Rattle.laws_attributes.specs.ReadBack.{entries_shown}
use Rattle.laws_pages.proofs.Each.{Each, each_unsorted}
use Rattle.laws_pages.proofs.GivenEntries.{Gives, all_back, each_back, each_gives, entry_key}
use Rattle.laws_pages.proofs.Rising.{Rises}
use Rattle.laws_pages.proofs.Settled.{name_of}
use Rattle.laws_pages.proofs.ShownAttributes.{IsOwn, attribute_one, each_any_attribute, each_pushed, shown, shown_order, shown_own}

-- what has to be among attributes
abbrev pub wanted_by : List Attribute → List (List ℕ)
wanted_by attributes = wanted_of_service (entries_shown attributes)

-- a name is there among what is shown
abbrev pub IsShown : List Attribute → List ℕ → Type 0
IsShown attributes name = is_some (entries.value_at (entries_shown attributes) name) ≡ true

-- an attribute is read again by itself, beside others
abbrev pub IsRead : List (List ℕ) → Entries → Attribute → Type 0
IsRead wanted beside a = attribute_under wanted beside a.name (shown a) ≡ Ok (a ∷ [])

-- attributes that are each read again
pub record Back (attributes : List Attribute) : Type 0 where
  pub rises : Rises name_of attributes
  pub own : Each (λ a. IsOwn a.name) attributes
  pub wants : Each (IsShown attributes) (wanted_by attributes)
  pub each : Each (IsRead (wanted_by attributes) (entries_shown attributes)) attributes

all_there : (names : List (List ℕ)) (es : Entries) → Each (λ name. is_some (entries.value_at es name) ≡ true) names → with_wanting names es ≡ es
all_there [] es h = refl
all_there (name ∷ names) es h = ap (λ (b : Bool). with_wanting names (if b then es else es ++ (name, Null) ∷ [])) h.0 ∙ all_there names es h.1

-- they are read together
pub back_reads : (attributes : List Attribute) → Back attributes → attributes_of (entries_shown attributes) ≡ Ok attributes
back_reads attributes back =
    ap attributes_from (shown_own attributes back.own)
    ∙ ap (λ (es : Entries). each_entry (attribute_under (wanted_by attributes) (entries_shown attributes)) (in_byte_order es)) (all_there (wanted_by attributes) (entries_shown attributes) back.wants)
    ∙ ap (each_entry (attribute_under (wanted_by attributes) (entries_shown attributes))) (shown_order attributes back.rises)
    ∙ all_back name_of (attribute_under (wanted_by attributes) (entries_shown attributes)) shown attributes back.each

image_wanted : (beside : Entries) → attribute_under (codes "image" ∷ []) beside (codes "image") Null ≡ refused Fault.BadValue
unfolding process_lines
image_wanted beside = rw outs-Null refl

module _ (attributes : List Attribute) where
  abbrev es : Entries
  es = entries_shown attributes

  -- an image that is wanted and isn't there is refused
  no_image : attribute_under (codes "image" ∷ []) es (codes "image") Null ≡ refused Fault.BadValue → each_entry (attribute_under (codes "image" ∷ []) es) (in_byte_order (es ++ (codes "image", Null) ∷ [])) ≡ Ok attributes → ⊥
  no_image refuses h =
      let all = each_gives (attribute_under (codes "image" ∷ []) es) (in_byte_order (es ++ (codes "image", Null) ∷ [])) attributes h in
      let one = each_pushed (Gives (attribute_under (codes "image" ∷ []) es)) es (codes "image", Null) (each_unsorted entry_key (Gives (attribute_under (codes "image" ∷ []) es)) (es ++ (codes "image", Null) ∷ []) all) in
      let bad : refused Fault.BadValue ≡ Ok one.0 = sym refuses ∙ one.1 in absurd (cc bad)

  wants_by : (b c : Bool) → is_some (entries.value_at es (codes "image")) ≡ c
      → (let wanted = (if b then [] else codes "image" ∷ []) in each_entry (attribute_under wanted es) (in_byte_order (with_wanting wanted es)) ≡ Ok attributes)
      → Each (IsShown attributes) (if b then [] else codes "image" ∷ [])
  wants_by true c e h = tt
  wants_by false true e h = (e, tt)
  wants_by false false e h =
      absurd (no_image (image_wanted es) (sym (ap (λ (b : Bool). each_entry (attribute_under (codes "image" ∷ []) es) (in_byte_order (if b then es else es ++ (codes "image", Null) ∷ []))) e) ∙ h))

  -- what is read together is read one by one
  pub reads_back : Rises name_of attributes → Each (λ a. IsOwn a.name) attributes → attributes_of es ≡ Ok attributes → Back attributes
  reads_back rise own h =
      let from : attributes_from es ≡ Ok attributes = sym (ap attributes_from (shown_own attributes own)) ∙ h in
      let wants : Each (IsShown attributes) (wanted_by attributes) = wants_by (is_there es (codes "build")) _ refl from in
      let together : each_entry (attribute_under (wanted_by attributes) es) es ≡ Ok attributes =
      sym (ap (λ (l : Entries). each_entry (attribute_under (wanted_by attributes) es) (in_byte_order l)) (all_there (wanted_by attributes) es wants)
      ∙ ap (each_entry (attribute_under (wanted_by attributes) es)) (shown_order attributes rise)) ∙ from in
      record {
        rises = rise;
        own = own;
        wants = wants;
        each = each_back name_of (attribute_under (wanted_by attributes) es) shown (λ a. Unit {0})
            (λ a found u is. attribute_one (λ name. Unit {0}) (wanted_by attributes) es a.name (shown a) found tt is) attributes (each_any_attribute attributes) together;
      }
