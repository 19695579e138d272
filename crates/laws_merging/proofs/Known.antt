-- An entry over one that it is one with is known as before.
use Rattle.std.proofs.Common.{◌≡◌, ◌∙◌, ℕ, Bool, true, false, ◌&&◌, List, [], ◌∷◌, Option, None, Some, ap, refl, sym, true≢false, codes, rules}
use Rattle.std.proofs.lemmas.Bool.{and_parts}
use Rattle.std.specs.Option.{option_map}
use Rattle.tree_base.specs.declared.tree.Tree.{Tree, out-Tree, the_lemmas}
use Rattle.tree_base.specs.declared.tree.Tree.TheOpen.{Tree-F}
use Rattle.tree_base.specs.declared.tree.Tree.TheVariants.{Map, Null, Override, Reset, Scalar, Seq}
use Rattle.attribute_paths.proofs.Trees.{of_every}
use Rattle.merge_tables.specs.declared.rules.EntryKind.{EntryKind}
use Rattle.merge_tables.specs.declared.rules.EntryKind.TheVariants.{Config, Mount, Port, Secret}
use Rattle.merge_rules.specs.Uniqueness.{alone, are_one, binding, key_by, placed, protocol_of, same_keys, seen, seen_at, text_at}
use Rattle.merge_tables.specs.Parts.{field, text_in}
use Rattle.laws_merging.specs.Grouping.{by_texts, has_text}
use Rattle.laws_merging.proofs.Entries.{Entries}
use Rattle.laws_merging.proofs.Fields.{came, fields_meet, null_leaves, protocol_same, scalar_stays, text_same, text_stays, texts_stay}
use Rattle.laws_merging.proofs.Keys.{key_of, keys_told, none_right}
use Rattle.laws_merging.proofs.Over.{over, puts}
use Rattle.laws_merging.proofs.Plain.{Plain, of_map, override_marks, reset_marks}
use Rattle.laws_merging.proofs.TreeKinds.{map_on_map}

scalar_text : (t s : List ℕ) → Scalar t ≡ Scalar s → s ≡ t
scalar_text t s e =
    let left : text_in (out-Tree (Scalar t)) ≡ Some t = search (rules, the_lemmas) in
    let right : text_in (out-Tree (Scalar s)) ≡ Some s = search (rules, the_lemmas) in
    let same : Some s ≡ Some t = sym right ∙ ap (λ (x : Tree). text_in (out-Tree x)) (sym e) ∙ left in
    cc

-- two texts that are there and the same
text_known : (o p : Option (List ℕ)) → same_keys (alone o) (alone p) ≡ true → (t : List ℕ) × ((o ≡ Some t) × (p ≡ Some t))
text_known None p h = absurd (true≢false (sym h))
text_known (Some t) None h = absurd (true≢false (sym h))
text_known (Some t) (Some s) h =
    let e = keys_told (Some (Scalar t ∷ [])) (Some (Scalar s ∷ [])) h in
    let same : Scalar t ≡ Scalar s = cc in
    (t, (refl, ap (λ (x : List ℕ). Some x) (scalar_text t s same)))

-- ports that are known by the same, of which the target stays, and the binding where both have the same
port_known : (o p q : Option (List ℕ)) (B C D : List Tree) → same_keys (option_map (λ t. Scalar t ∷ B) o) (option_map (λ t. Scalar t ∷ C) p) ≡ true
    → ((t : List ℕ) → o ≡ Some t → q ≡ Some t) → (B ≡ C → D ≡ B) → option_map (λ t. Scalar t ∷ D) q ≡ option_map (λ t. Scalar t ∷ B) o
port_known None p q B C D h stays binds = absurd (true≢false (sym h))
port_known (Some t) None q B C D h stays binds = absurd (true≢false (sym h))
port_known (Some t) (Some s) q B C D h stays binds =
    let e = keys_told (Some (Scalar t ∷ B)) (Some (Scalar s ∷ C)) h in
    let same : B ≡ C = cc in
    ap (λ (o : Option (List ℕ)). option_map (λ t. Scalar t ∷ D) o) (stays t refl) ∙ ap (λ (l : List Tree). Some (Scalar t ∷ l)) (binds same)

seen_null : (folder : List ℕ) (joins : Bool) (source : Tree-F Tree) → seen_at folder joins (out-Tree Null) source ≡ option_map (placed folder true) (text_in source)
seen_null folder joins source = search (rules, the_lemmas)

seen_scalar : (folder : List ℕ) (joins : Bool) (text : List ℕ) (source other : Tree-F Tree) → seen_at folder joins (out-Tree (Scalar text)) source ≡ seen_at folder joins (out-Tree (Scalar text)) other
seen_scalar folder joins text source other = search (rules, the_lemmas)

placed_from : (folder : List ℕ) (o : Option (List ℕ)) (t : List ℕ) → option_map (placed folder true) o ≡ Some t → (s : List ℕ) × (o ≡ Some s)
placed_from folder None t h = absurd (let wrong : ⊥ = cc in wrong)
placed_from folder (Some s) t h = (s, refl)

-- where an entry is seen whose own target isn't there: by the target below, and else by the source
module _ (folder : List ℕ) (joins : Bool) (below source : Tree) (t : List ℕ) where
  seen_below : (target : Tree-F Tree) → option_map (placed folder true) (text_in (out-Tree source)) ≡ Some t → seen_at folder joins target (out-Tree below) ≡ Some t → seen_at folder joins target (out-Tree source) ≡ Some t
  seen_below Tree-F.Null own h = own
  seen_below (Tree-F.Scalar text) own h = h
  seen_below (Tree-F.Map es) own h = absurd (let wrong : ⊥ = cc in wrong)
  seen_below (Tree-F.Seq xs) own h = absurd (let wrong : ⊥ = cc in wrong)
  seen_below Tree-F.Reset own h = absurd (let wrong : ⊥ = cc in wrong)
  seen_below (Tree-F.Override inner) own h = absurd (let wrong : ⊥ = cc in wrong)

-- where an entry over one that is seen at the same place is seen
seen_made : (folder : List ℕ) (joins : Bool) (target base made source base_source made_source : Tree) (t : List ℕ)
    → over [] base target ≡ Some made → over [] base_source source ≡ Some made_source
    → seen_at folder joins (out-Tree target) (out-Tree source) ≡ Some t → seen_at folder joins (out-Tree base) (out-Tree base_source) ≡ Some t
    → seen_at folder joins (out-Tree made) (out-Tree made_source) ≡ Some t
seen_made folder joins target base made source base_source made_source t =
    of_every
    (λ target. over [] base target ≡ Some made → over [] base_source source ≡ Some made_source
    → seen_at folder joins (out-Tree target) (out-Tree source) ≡ Some t → seen_at folder joins (out-Tree base) (out-Tree base_source) ≡ Some t
    → seen_at folder joins (out-Tree made) (out-Tree made_source) ≡ Some t)
    (λ is meets h k.
    let own = sym (seen_null folder joins (out-Tree source)) ∙ h in
    let text = placed_from folder (text_in (out-Tree source)) t own in
    let stays = text_stays source base_source made_source text.0 text.1 meets in
    ap (λ (x : Tree). seen_at folder joins (out-Tree x) (out-Tree made_source)) (null_leaves base made is)
    ∙ seen_below folder joins base_source made_source t (out-Tree base)
    (ap (option_map (placed folder true)) (stays ∙ sym text.1) ∙ own) k)
    (λ text is meets h k.
    ap (λ (x : Tree). seen_at folder joins (out-Tree x) (out-Tree made_source)) (scalar_stays text base made is)
    ∙ seen_scalar folder joins text (out-Tree made_source) (out-Tree source) ∙ h)
    (λ es more is meets h k. absurd (let e : seen_at folder joins (out-Tree (Map es)) (out-Tree source) ≡ None = search (rules, the_lemmas) in let wrong : ⊥ = cc in wrong))
    (λ xs more is meets h k. absurd (let e : seen_at folder joins (out-Tree (Seq xs)) (out-Tree source) ≡ None = search (rules, the_lemmas) in let wrong : ⊥ = cc in wrong))
    (λ is meets h k. absurd (let e : seen_at folder joins (out-Tree Reset) (out-Tree source) ≡ None = search (rules, the_lemmas) in let wrong : ⊥ = cc in wrong))
    (λ inner more is meets h k. absurd (let e : seen_at folder joins (out-Tree (Override inner)) (out-Tree source) ≡ None = search (rules, the_lemmas) in let wrong : ⊥ = cc in wrong))
    target

module _ (es fs made : Entries) (meets : (name : List ℕ) → over [] (field fs name) (field es name) ≡ Some (field made name)) where
  text_made : (name : List ℕ) (t : List ℕ) → text_at es name ≡ Some t → text_at made name ≡ Some t
  text_made name t h = text_stays (field es name) (field fs name) (field made name) t h (meets name)

  binding_made : has_text es (codes "host_ip") ≡ true → has_text es (codes "published") ≡ true → has_text es (codes "protocol") ≡ true → binding es ≡ binding fs → binding made ≡ binding es
  binding_made host published proto e =
      let h : field es (codes "host_ip") ≡ field fs (codes "host_ip") = cc in
      let p : field es (codes "published") ≡ field fs (codes "published") = cc in
      let q : protocol_of es ≡ protocol_of fs = cc in
      let hm = text_same (field es (codes "host_ip")) (field fs (codes "host_ip")) (field made (codes "host_ip")) host h (meets (codes "host_ip")) in
      let pm = text_same (field es (codes "published")) (field fs (codes "published")) (field made (codes "published")) published p (meets (codes "published")) in
      let qm = protocol_same (field es (codes "protocol")) (field fs (codes "protocol")) (field made (codes "protocol")) proto q (meets (codes "protocol")) in
      (λ i. hm i ∷ pm i ∷ qm i ∷ [])

  seen_key : (folder : List ℕ) (joins : Bool) → same_keys (alone (seen folder joins es)) (alone (seen folder joins fs)) ≡ true → alone (seen folder joins made) ≡ alone (seen folder joins es)
  seen_key folder joins h =
      let text = text_known (seen folder joins es) (seen folder joins fs) h in
      ap alone
      (seen_made folder joins (field es (codes "target")) (field fs (codes "target")) (field made (codes "target")) (field es (codes "source")) (field fs (codes "source")) (field made (codes "source")) text.0
      (meets (codes "target")) (meets (codes "source")) text.1.0 text.1.1
      ∙ sym text.1.0)

  key_made : (kind : EntryKind) → by_texts kind (Tree-F.Map es) ≡ true → same_keys (key_by kind es) (key_by kind fs) ≡ true → key_by kind made ≡ key_by kind es
  key_made Port texts h =
      let p = and_parts (has_text es (codes "host_ip")) (has_text es (codes "published") && has_text es (codes "protocol")) texts in
      let q = and_parts (has_text es (codes "published")) (has_text es (codes "protocol")) p.1 in
      port_known (text_at es (codes "target")) (text_at fs (codes "target")) (text_at made (codes "target")) (binding es) (binding fs) (binding made) h
      (text_made (codes "target")) (binding_made p.0 q.0 q.1)
  key_made Mount texts h =
      let text = text_known (text_at es (codes "target")) (text_at fs (codes "target")) h in
      ap alone (text_made (codes "target") text.0 text.1.0 ∙ sym text.1.0)
  key_made Secret texts h = seen_key (codes "/run/secrets/") true h
  key_made Config texts h = seen_key (codes "/") false h

  -- and its fields are texts, where those of both are
  texts_made : (kind : EntryKind) → by_texts kind (Tree-F.Map es) ≡ true → by_texts kind (Tree-F.Map fs) ≡ true → by_texts kind (Tree-F.Map made) ≡ true
  texts_made Port texts others =
      let p = and_parts (has_text es (codes "host_ip")) (has_text es (codes "published") && has_text es (codes "protocol")) texts in
      let q = and_parts (has_text es (codes "published")) (has_text es (codes "protocol")) p.1 in
      let r = and_parts (has_text fs (codes "host_ip")) (has_text fs (codes "published") && has_text fs (codes "protocol")) others in
      let s = and_parts (has_text fs (codes "published")) (has_text fs (codes "protocol")) r.1 in
      rw (one (codes "host_ip") p.0 r.0, one (codes "published") q.0 s.0, one (codes "protocol") q.1 s.1) refl
    where
      one : (name : List ℕ) → has_text es name ≡ true → has_text fs name ≡ true → has_text made name ≡ true
      one name a b = texts_stay (field es name) (field fs name) (field made name) a b (meets name)
  texts_made Mount texts others = refl
  texts_made Secret texts others = refl
  texts_made Config texts others = refl

abbrev ByTexts : EntryKind → Tree → Type 0
ByTexts kind tree = by_texts kind (out-Tree tree) ≡ true

-- an item that has no key
no_key : (kind : EntryKind) (item base : Tree) → key_of kind item ≡ None → are_one kind item base ≡ true → ⊥
no_key kind item base h is = true≢false (sym is ∙ ap (λ k. same_keys k (key_of kind base)) h)

no_base : (kind : EntryKind) (item base : Tree) → key_of kind base ≡ None → are_one kind item base ≡ true → ⊥
no_base kind item base h is = true≢false (sym is ∙ ap (λ k. same_keys (key_of kind item) k) h ∙ none_right (key_of kind item))

key_of_map : (kind : EntryKind) (es : Entries) → key_of kind (Map es) ≡ key_by kind es
key_of_map kind es = search (rules, the_lemmas)

texts_of_map : (kind : EntryKind) (es : Entries) → by_texts kind (out-Tree (Map es)) ≡ by_texts kind (Tree-F.Map es)
texts_of_map kind es = search (rules, the_lemmas)

-- what is made of an entry over one that it is one with
abbrev pub Known : EntryKind → Tree → Tree → Tree → Type 0
Known kind item base made = (key_of kind made ≡ key_of kind item) × (ByTexts kind base → ByTexts kind made)

map_known : (kind : EntryKind) (es : Entries) → Plain [] (Map es) → ByTexts kind (Map es) → (fs : Entries) (made : Tree) → are_one kind (Map es) (Map fs) ≡ true → over [] (Map fs) (Map es) ≡ Some made → Known kind (Map es) (Map fs) made
map_known kind es plain texts fs made one h =
    let got = came (puts [] es fs) (λ all. Some (Map all)) made (sym (map_on_map [] es fs plain) ∙ h) in
    let is : Map got.0 ≡ made = cc in
    let meets = fields_meet [] es fs got.0 (of_map [] es plain) got.1.0 in
    let own = sym (texts_of_map kind es) ∙ texts in
    let same : same_keys (key_by kind es) (key_by kind fs) ≡ true =
    sym (λ i. same_keys (key_of_map kind es i) (key_of_map kind fs i)) ∙ one in (
      ap (key_of kind) (sym is) ∙ key_of_map kind got.0 ∙ key_made es fs got.0 meets kind own same ∙ sym (key_of_map kind es),
      λ others. ap (λ (x : Tree). by_texts kind (out-Tree x)) (sym is) ∙ texts_of_map kind got.0 ∙ texts_made es fs got.0 meets kind own (sym (texts_of_map kind fs) ∙ others),
    )

abbrev MakesKnown : EntryKind → Tree → Type 0
MakesKnown kind item = Plain [] item → ByTexts kind item → (base made : Tree) → are_one kind item base ≡ true → over [] base item ≡ Some made → Known kind item base made

map_makes : (kind : EntryKind) (es : Entries) → MakesKnown kind (Map es)
map_makes kind es plain texts base made =
    of_every (λ base. are_one kind (Map es) base ≡ true → over [] base (Map es) ≡ Some made → Known kind (Map es) base made)
    (λ one h. absurd (no_base kind (Map es) Null (search (rules, the_lemmas)) one))
    (λ text one h. absurd (no_base kind (Map es) (Scalar text) (search (rules, the_lemmas)) one))
    (λ fs more one h. map_known kind es plain texts fs made one h)
    (λ xs more one h. absurd (no_base kind (Map es) (Seq xs) (search (rules, the_lemmas)) one))
    (λ one h. absurd (no_base kind (Map es) Reset (search (rules, the_lemmas)) one))
    (λ inner more one h. absurd (no_base kind (Map es) (Override inner) (search (rules, the_lemmas)) one))
    base

pub makes_known : (kind : EntryKind) (item : Tree) → MakesKnown kind item
makes_known kind =
    of_every (MakesKnown kind)
    (λ plain texts base made one h. absurd (no_key kind Null base (search (rules, the_lemmas)) one))
    (λ text plain texts base made one h. absurd (no_key kind (Scalar text) base (search (rules, the_lemmas)) one))
    (λ es more. map_makes kind es)
    (λ xs more plain texts base made one h. absurd (no_key kind (Seq xs) base (search (rules, the_lemmas)) one))
    (λ plain texts base made one h. absurd (true≢false (sym plain ∙ reset_marks [])))
    (λ inner more plain texts base made one h. absurd (true≢false (sym plain ∙ override_marks inner [])))
