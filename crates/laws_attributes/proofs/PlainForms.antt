-- What is read of a tree by a form is read again of what is shown of it.
use Rattle.std.proofs.Common.{◌≡◌, ◌∙◌, ℕ, Bool, true, false, cond, not, List, [], ◌∷◌, map, position, Option, Some, None, Ok, Err, refl, ap, subst}
use Rattle.std.specs.Option.{ok_or, option_map_or}
use Rattle.short_forms.specs.MountLaws.{flag_word}
use Rattle.tree_base.specs.Answers.{◌>>=◌}
use Rattle.tree_base.specs.declared.Step.TheVariants.{Index}
use Rattle.tree_base.specs.declared.tree.Tree.{Tree, out-Tree}
use Rattle.tree_base.specs.declared.tree.Tree.TheOpen.{Tree-F}
use Rattle.tree_base.specs.declared.tree.Tree.TheVariants.{Map, Scalar, Seq, outs-Map, outs-Scalar, outs-Seq}
use Rattle.attribute_types.specs.Answers.{refused, under}
use Rattle.attribute_types.specs.declared.attribute.Value.{Value}
use Rattle.attribute_types.specs.declared.form.Plain.{Plain}
use Rattle.attribute_types.specs.declared.refusal.AttributeRefusal.TheVariants.{At}
use Rattle.attribute_types.specs.declared.refusal.Fault.{Fault}
use Rattle.attribute_scalars.specs.Lists.{all_passing, as_test, collected, if_any, runs_test, texts_of}
use Rattle.attribute_scalars.specs.Scalars.{accepted, bool_of, if_passes, text_in, text_of, written}
use Rattle.attribute_scalars.specs.Walks.{Entries, Read, is_null, place}
use Rattle.attribute_values.specs.Forms.{flag, kept, kept_if_any, plain_value}
use Rattle.laws_attributes.proofs.ScalarForms.{bool_back}
use Rattle.laws_attributes.proofs.Shown.{plain_tree, texts_tree}

-- a value is read again of what is shown of it, whatever stands beside it
abbrev pub Back : Plain → Value → Type 0
Back plain value =
    (is_null (out-Tree (plain_tree value)) ≡ false)
    × ((beside : Entries) → plain_value plain beside (plain_tree value) (out-Tree (plain_tree value)) ≡ Ok (Some value))

-- what was given in one step after another
pub bound_given : {A B : Type 0} (r : Read A) (next : A → Read B) (b : B) → (r >>= next) ≡ Ok b → (a : A) × (r ≡ Ok a) × (next a ≡ Ok b)
bound_given (Ok a) next b e = (a, refl, e)
bound_given (Err refusal) next b e = absurd (cc e)

pub kept_given : {X : Type 0} (make : X → Value) (found : Read X) (v : Value) → kept make found ≡ Ok (Some v) → (x : X) × (found ≡ Ok x) × (make x ≡ v)
kept_given make (Err refusal) v e = absurd (cc e)
kept_given make (Ok x) v e = (x, refl, cc e)

pub any_given : {X : Type 0} (make : List X → Value) (found : Read (List X)) (v : Value) → kept_if_any make found ≡ Ok (Some v)
    → (xs : List X) × (found ≡ Ok xs) × (if_any xs ≡ Some xs) × (make xs ≡ v)
any_given make (Err refusal) v e = absurd (cc e)
any_given make (Ok []) v e = absurd (cc e)
any_given make (Ok (x ∷ xs)) v e = (x ∷ xs, refl, refl, cc e)

pub text_given : (s : Tree-F Tree) (text : List ℕ) → text_of s ≡ Ok text → s ≡ Tree-F.Scalar text
text_given Tree-F.Null text e = absurd (cc e)
text_given (Tree-F.Scalar own) text e = let same : own ≡ text = cc e in ap (λ (t : List ℕ). scalar t) same
  where
    scalar : List ℕ → Tree-F Tree
    scalar t = Tree-F.Scalar t
text_given (Tree-F.Map entries) text e = absurd (cc e)
text_given (Tree-F.Seq items) text e = absurd (cc e)
text_given Tree-F.Reset text e = absurd (cc e)
text_given (Tree-F.Override inner) text e = absurd (cc e)

or_given : {X : Type 0} (o : Option X) (fault : Fault) (x : X) → ok_or o (At fault []) ≡ Ok x → o ≡ Some x
or_given None fault x e = absurd (cc e)
or_given (Some y) fault x e = cc e

pub written_given : {X : Type 0} (read : List ℕ → Option X) (s : Tree-F Tree) (x : X) → written read s ≡ Ok x → (text : List ℕ) × (read text ≡ Some x)
written_given read Tree-F.Null x e = absurd (cc e)
written_given read (Tree-F.Scalar text) x e = (text, or_given (read text) Fault.WrongKind x e)
written_given read (Tree-F.Map entries) x e = absurd (cc e)
written_given read (Tree-F.Seq items) x e = absurd (cc e)
written_given read Tree-F.Reset x e = absurd (cc e)
written_given read (Tree-F.Override inner) x e = absurd (cc e)

pub accepted_given : {X : Type 0} (read : List ℕ → Option X) (s : Tree-F Tree) (x : X) → accepted read s ≡ Ok x → (text : List ℕ) × (read text ≡ Some x)
accepted_given read s x e =
    let b = bound_given (text_of s) (λ text. ok_or (read text) (At Fault.BadValue [])) x e in
    (b.0, or_given (read b.0) Fault.BadValue x b.2)

-- scalars, sequences and mappings aren't null
pub scalar_there : (text : List ℕ) → is_null (out-Tree (Scalar text)) ≡ false
scalar_there text = ap is_null (outs-Scalar text)

pub seq_there : (items : List Tree) → is_null (out-Tree (Seq items)) ≡ false
seq_there items = ap is_null (outs-Seq items)

pub map_there : (entries : Entries) → is_null (out-Tree (Map entries)) ≡ false
map_there entries = ap is_null (outs-Map entries)

-- what is read of a scalar
pub text_scalar : (text : List ℕ) → text_of (out-Tree (Scalar text)) ≡ Ok text
text_scalar text = ap text_of (outs-Scalar text)

pub written_scalar : {X : Type 0} (read : List ℕ → Option X) (text : List ℕ) (x : X) → read text ≡ Some x → written read (out-Tree (Scalar text)) ≡ Ok x
written_scalar read text x e = ap (written read) (outs-Scalar text) ∙ ap (λ o. ok_or o (At Fault.WrongKind [])) e

pub accepted_scalar : {X : Type 0} (read : List ℕ → Option X) (text : List ℕ) (x : X) → read text ≡ Some x → accepted read (out-Tree (Scalar text)) ≡ Ok x
accepted_scalar read text x e = ap (accepted read) (outs-Scalar text) ∙ ap (λ o. ok_or o (At Fault.BadValue [])) e

pub kept_back : {X : Type 0} (make : X → Value) (found : Read X) (x : X) → found ≡ Ok x → kept make found ≡ Ok (Some (make x))
kept_back make found x e = ap (kept make) e

pub any_back : {X : Type 0} (make : List X → Value) (found : Read (List X)) (xs : List X) → found ≡ Ok xs → if_any xs ≡ Some xs → kept_if_any make found ≡ Ok (Some (make xs))
any_back make found [] e some = absurd (cc some)
any_back make found (x ∷ xs) e some = ap (kept_if_any make) e

-- forms of scalars that are written, and of those that are accepted
module _ {X : Type 0} (plain : Plain) (make : X → Value) (read : List ℕ → Option X) (print : X → List ℕ)
    (shown : (x : X) → plain_tree (make x) ≡ Scalar (print x)) (back : (text : List ℕ) (x : X) → read text ≡ Some x → read (print x) ≡ Some x) where
  there : (x : X) → is_null (out-Tree (plain_tree (make x))) ≡ false
  there x = ap (λ t. is_null (out-Tree t)) (shown x) ∙ scalar_there (print x)

  pub written_form : ((beside : Entries) (tree : Tree) (s : Tree-F Tree) → plain_value plain beside tree s ≡ kept make (written read s))
      → (s : Tree-F Tree) (v : Value) → kept make (written read s) ≡ Ok (Some v) → Back plain v
  written_form is s v e =
      let k = kept_given make (written read s) v e in
      let w = written_given read s k.0 k.1 in
      subst (Back plain) k.2 (
        there k.0,
        λ beside.
            is beside (plain_tree (make k.0)) (out-Tree (plain_tree (make k.0)))
            ∙ ap (λ t. kept make (written read (out-Tree t))) (shown k.0)
            ∙ kept_back make (written read (out-Tree (Scalar (print k.0)))) k.0 (written_scalar read (print k.0) k.0 (back w.0 k.0 w.1)),
      )

  pub accepted_form : ((beside : Entries) (tree : Tree) (s : Tree-F Tree) → plain_value plain beside tree s ≡ kept make (accepted read s))
      → (s : Tree-F Tree) (v : Value) → kept make (accepted read s) ≡ Ok (Some v) → Back plain v
  accepted_form is s v e =
      let k = kept_given make (accepted read s) v e in
      let w = accepted_given read s k.0 k.1 in
      subst (Back plain) k.2 (
        there k.0,
        λ beside.
            is beside (plain_tree (make k.0)) (out-Tree (plain_tree (make k.0)))
            ∙ ap (λ t. kept make (accepted read (out-Tree t))) (shown k.0)
            ∙ kept_back make (accepted read (out-Tree (Scalar (print k.0)))) k.0 (accepted_scalar read (print k.0) k.0 (back w.0 k.0 w.1)),
      )

-- a text that passes passes
passes_back : (test : List ℕ → Bool) (text passed : List ℕ) → if_passes test text ≡ Some passed → if_passes test passed ≡ Some passed
passes_back test text passed e = at (test text) e
  where
    at : (b : Bool) → cond b (Some text) None ≡ Some passed → if_passes test passed ≡ Some passed
    at false f = absurd (cc f)
    at true f = let same : text ≡ passed = cc f in subst (λ (t : List ℕ). if_passes test t ≡ Some passed) same e

pub passing_form : (plain : Plain) (test : List ℕ → Bool)
    → ((beside : Entries) (tree : Tree) (s : Tree-F Tree) → plain_value plain beside tree s ≡ kept Value.Text (accepted (if_passes test) s))
    → (s : Tree-F Tree) (v : Value) → kept Value.Text (accepted (if_passes test) s) ≡ Ok (Some v) → Back plain v
passing_form plain test is s v e = accepted_form plain Value.Text (if_passes test) (λ text. text) (λ text. refl) (passes_back test) is s v e

pub text_back : (text : List ℕ) → Back Plain.Text (Value.Text text)
text_back text = (scalar_there text, λ beside. kept_back Value.Text (text_of (out-Tree (Scalar text))) text (text_scalar text))

pub text_form : (s : Tree-F Tree) (v : Value) → kept Value.Text (text_of s) ≡ Ok (Some v) → Back Plain.Text v
text_form s v e = let k = kept_given Value.Text (text_of s) v e in subst (Back Plain.Text) k.2 (text_back k.0)

pub bool_shown : (given : Bool) → Back Plain.Bool (Value.Bool given)
bool_shown given = (scalar_there (flag_word given), λ beside. kept_back Value.Bool (written bool_of (out-Tree (Scalar (flag_word given)))) given (written_scalar bool_of (flag_word given) given (bool_back given)))

pub bool_form : (s : Tree-F Tree) (v : Value) → kept Value.Bool (written bool_of s) ≡ Ok (Some v) → Back Plain.Bool v
bool_form s v e = let k = kept_given Value.Bool (written bool_of s) v e in subst (Back Plain.Bool) k.2 (bool_shown k.0)

pub flag_shown : Back Plain.Flag (Value.Bool true)
flag_shown = (scalar_there (flag_word true), λ beside. ap (λ (r : Read Bool). r >>= λ given. Ok (flag given)) (written_scalar bool_of (flag_word true) true refl))

-- a flag that is kept is set
pub flag_given : (s : Tree-F Tree) (v : Value) → (written bool_of s >>= λ given. Ok (flag given)) ≡ Ok (Some v) → Value.Bool true ≡ v
flag_given s v e = let b = bound_given (written bool_of s) (λ given. Ok (flag given)) (Some v) e in at b.0 (let same : flag b.0 ≡ Some v = cc b.2 in same)
  where
    at : (given : Bool) → flag given ≡ Some v → Value.Bool true ≡ v
    at true f = cc f
    at false f = absurd (cc f)

pub flag_form : (s : Tree-F Tree) (v : Value) → (written bool_of s >>= λ given. Ok (flag given)) ≡ Ok (Some v) → Back Plain.Flag v
flag_form s v e = subst (Back Plain.Flag) (flag_given s v e) flag_shown

-- texts
collected_texts : (texts : List (List ℕ)) → collected (λ tree. text_in (out-Tree tree)) (map Scalar texts) ≡ Some texts
collected_texts [] = refl
collected_texts (text ∷ texts) = rw (outs-Scalar text, collected_texts texts) refl

pub texts_back : (texts : List (List ℕ)) → texts_of (out-Tree (texts_tree texts)) ≡ Ok texts
texts_back texts = ap texts_of (outs-Seq (map Scalar texts)) ∙ ap (λ o. ok_or o (At Fault.WrongKind [])) (collected_texts texts)

-- texts of which something is asked
module _ (asked : List (List ℕ) → Read (List (List ℕ))) (same : (texts found : List (List ℕ)) → asked texts ≡ Ok found → texts ≡ found) where
  pub asked_back : (s : Tree-F Tree) (found : List (List ℕ)) → (texts_of s >>= asked) ≡ Ok found → (texts_of (out-Tree (texts_tree found)) >>= asked) ≡ Ok found
  asked_back s found e =
      let b = bound_given (texts_of s) asked found e in
      ap (λ r. r >>= asked) (texts_back found) ∙ subst (λ (l : List (List ℕ)). asked l ≡ Ok found) (same b.0 found b.2) b.2

pub passing_same : (test : List ℕ → Bool) (texts found : List (List ℕ)) → all_passing test texts ≡ Ok found → texts ≡ found
passing_same test texts found e = at (position (λ text. not (test text)) texts) e
  where
    at : (o : Option ℕ) → option_map_or (λ at. under (Index (place at)) (refused Fault.BadValue)) o (Ok texts) ≡ Ok found → texts ≡ found
    at None f = cc f
    at (Some n) f = absurd (cc f)

pub test_same : (words found : List (List ℕ)) → as_test words ≡ Ok found → words ≡ found
test_same words found e = at (runs_test words) e
  where
    at : (b : Bool) → cond b (Ok words) (refused Fault.BadValue) ≡ Ok found → words ≡ found
    at true f = cc f
    at false f = absurd (cc f)
