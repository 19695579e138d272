-- Uses of secrets and configs are read again, where their paths have no colon.
use Rattle.std.proofs.Common.{◌≡◌, ◌∙◌, ℕ, Bool, true, false, cond, List, [], ◌∷◌, ◌++◌, map, codes, Some, None, Ok, unwrap_or, refl, ap, sym, subst}
use Rattle.std.specs.Prelude.{◌||◌, Option}
use Rattle.std.specs.Option.{ok_or, option_map}
use Rattle.tree_base.specs.Answers.{◌>>=◌}
use Rattle.tree_base.specs.declared.tree.Tree.{Tree, out-Tree}
use Rattle.tree_base.specs.declared.tree.Tree.TheOpen.{Tree-F}
use Rattle.tree_base.specs.declared.tree.Tree.TheVariants.{Scalar, Seq}
use Rattle.attribute_types.specs.Lookups.{as_text, text_at}
use Rattle.attribute_types.specs.Values.{value_at}
use Rattle.attribute_types.specs.declared.refusal.AttributeRefusal.TheVariants.{At}
use Rattle.attribute_types.specs.declared.refusal.Fault.{Fault}
use Rattle.attribute_types.specs.Tables.{file_use_lines, line_of}
use Rattle.attribute_types.specs.declared.attribute.Attribute.{Attribute}
use Rattle.attribute_types.specs.declared.attribute.Value.{Value}
use Rattle.attribute_types.specs.declared.form.Plain.{Plain}
use Rattle.attribute_types.specs.declared.form.Row.{Row}
use Rattle.attribute_types.specs.declared.rows.FileUse.{FileUse}
use Rattle.attribute_scalars.specs.Scalars.{accepted, has_no_colon, if_passes, text_of}
use Rattle.attribute_scalars.specs.Walks.{Entries, Read}
use Rattle.attribute_values.specs.Fields.{fields_of}
use Rattle.attribute_values.specs.Forms.{kept, plain_value}
use Rattle.attribute_rows.specs.Rows.{Folder, file_use_from, file_use_of, in_mapping, is_rooted, listed, of_configs, of_secrets, row_value, seen_at}
use Rattle.attribute_paths.proofs.Trees.{OfAll}
use Rattle.laws_attributes.proofs.Gifts.{shown_by}
use Rattle.laws_attributes.proofs.PlainForms.{Back, accepted_scalar, any_back, any_given, bound_given, kept_back, kept_given, scalar_there, seq_there, text_back, text_given}
use Rattle.laws_attributes.proofs.RowFields.{LeafAt, made_at, mapped_row, one_row, rows_back}
use Rattle.laws_attributes.proofs.RowForms.{RowAgain, found_at, present_found, text_made}
use Rattle.laws_attributes.proofs.RowWalks.{IsListed, listed_again, mapping_again, mapping_read}
use Rattle.laws_attributes.proofs.Shown.{file_rows, leaf, present, rows_tree}

gid_line : line_of file_use_lines (codes "gid") ≡ Some Plain.Text
unfolding file_use_lines
gid_line = refl

mode_line : line_of file_use_lines (codes "mode") ≡ Some Plain.Text
unfolding file_use_lines
mode_line = refl

source_line : line_of file_use_lines (codes "source") ≡ Some Plain.Text
unfolding file_use_lines
source_line = refl

target_line : line_of file_use_lines (codes "target") ≡ Some Plain.Target
unfolding file_use_lines
target_line = refl

uid_line : line_of file_use_lines (codes "uid") ≡ Some Plain.Text
unfolding file_use_lines
uid_line = refl

-- a path without a colon
pub target_shown : (text : List ℕ) → has_no_colon text ≡ true → Back Plain.Target (Value.Text text)
target_shown text is = (
  scalar_there text,
  λ beside.
      kept_back Value.Text (accepted (if_passes has_no_colon) (out-Tree (Scalar text))) text (accepted_scalar (if_passes has_no_colon) text text (ap (λ b. cond b (Some text) None) is)),
)

-- a word that passes is the text
pub passed_text : (test : List ℕ → Bool) (s : Tree-F Tree) (word : List ℕ) → accepted (if_passes test) s ≡ Ok word → (s ≡ Tree-F.Scalar word) × (test word ≡ true)
passed_text test s word e =
    let b = bound_given (text_of s) (λ text. ok_or (if_passes test text) (At Fault.BadValue [])) word e in
    let p = at b.0 (test b.0) refl b.2 in
    (text_given s b.0 b.1 ∙ ap scalar p.0, subst (λ (t : List ℕ). test t ≡ true) p.0 p.1)
  where
    scalar : List ℕ → Tree-F Tree
    scalar t = Tree-F.Scalar t

    at : (text : List ℕ) (b : Bool) → test text ≡ b → ok_or (cond b (Some text) None) (At Fault.BadValue []) ≡ Ok word → (text ≡ word) × (test text ≡ true)
    at text true is g = (cc g, is)
    at text false is g = absurd (cc g)

-- what such a form makes
pub passing_makes : (plain : Plain) (test : List ℕ → Bool) (es : Entries) → ((tree : Tree) → plain_value plain es tree (out-Tree tree) ≡ kept Value.Text (accepted (if_passes test) (out-Tree tree)))
    → (tree : Tree) (v : Value) → plain_value plain es tree (out-Tree tree) ≡ Ok (Some v) → (x : List ℕ) × (Value.Text x ≡ v) × (test x ≡ true)
passing_makes plain test es is tree v e =
    let k = kept_given Value.Text (accepted (if_passes test) (out-Tree tree)) v (sym (is tree) ∙ e) in (k.0, k.2, (passed_text test (out-Tree tree) k.0 k.1).1)

-- the path of a file, and its source or its path, have no colon
abbrev pub HasPath : FileUse → Type 0
HasPath file = has_no_colon file.target ≡ true

abbrev pub HasPlace : FileUse → Type 0
HasPlace file = (has_no_colon file.source || has_no_colon file.target) ≡ true

abbrev file_shown : FileUse → Tree
file_shown file = rows_tree (file_rows file)

-- a file that is seen where it says
file_read : (folder : Folder) (file : FileUse) → seen_at folder file.source (Some file.target) ≡ file.target → HasPath file → IsListed file_shown (file_use_of folder) HasPlace file
file_read folder file seen path =
    let l = present (file_rows file) in
    let read : fields_of file_use_lines (codes "source" ∷ []) (shown_by leaf l) ≡ Ok l =
    rows_back file_use_lines (codes "source" ∷ []) (file_rows file) refl (refl, tt) (
      mapped_row (LeafAt file_use_lines) (codes "gid") Value.Text file.gid (λ x e. (Plain.Text, gid_line, text_back x, refl)),
      (
        mapped_row (LeafAt file_use_lines) (codes "mode") Value.Text file.mode (λ x e. (Plain.Text, mode_line, text_back x, refl)),
        (
          one_row (LeafAt file_use_lines) (codes "source") (Value.Text file.source) (Plain.Text, source_line, text_back file.source, refl),
          (
            one_row (LeafAt file_use_lines) (codes "target") (Value.Text file.target) (Plain.Target, target_line, target_shown file.target path, refl),
            (mapped_row (LeafAt file_use_lines) (codes "uid") Value.Text file.uid (λ x e. (Plain.Text, uid_line, text_back x, refl)), tt),
          ),
        ),
      ),
    ) in
    let source : unwrap_or (text_at l (codes "source")) [] ≡ file.source = ap (λ o. unwrap_or o []) (present_found as_text Value.Text text_made (file_rows file) (codes "source") (Some file.source) refl) in
    let target : text_at l (codes "target") ≡ Some file.target = present_found as_text Value.Text text_made (file_rows file) (codes "target") (Some file.target) refl in
    let same : file_use_from folder l ≡ file = (λ i. record {
      source = source i;
      target = ((λ j. seen_at folder (source j) (target j)) ∙ seen) i;
      uid = present_found as_text Value.Text text_made (file_rows file) (codes "uid") file.uid refl i;
      gid = present_found as_text Value.Text text_made (file_rows file) (codes "gid") file.gid refl i;
      mode = present_found as_text Value.Text text_made (file_rows file) (codes "mode") file.mode refl i;
    }) in
    mapping_again (file_use_of folder) (shown_by leaf l) file
    (ap (λ r. r >>= λ attributes. ok_file (file_use_from folder attributes)) read ∙ ap ok_file same)
  where
    ok_file : FileUse → Read FileUse
    ok_file file = Ok file

-- what is seen is seen there again
abbrev SeesAgain : Folder → Type 0
SeesAgain folder = (source : List ℕ) (target : Option (List ℕ)) → seen_at folder source (Some (seen_at folder source target)) ≡ seen_at folder source target

config_seen : (source text : List ℕ) → seen_at of_configs source (Some text) ≡ text
config_seen source text = at (is_rooted text)
  where
    at : (b : Bool) → cond (b || true) text (codes "/" ++ text) ≡ text
    at true = refl
    at false = refl

configs_again : SeesAgain of_configs
configs_again source target = config_seen source (seen_at of_configs source target)

secret_seen : (source text : List ℕ) → is_rooted text ≡ true → seen_at of_secrets source (Some text) ≡ text
secret_seen source text is = ap (λ b. cond (b || false) text (codes "/run/secrets/" ++ text)) is

secrets_again : SeesAgain of_secrets
secrets_again source None = secret_seen source (codes "/run/secrets/" ++ source) refl
secrets_again source (Some text) = at (is_rooted text) refl
  where
    at : (b : Bool) → is_rooted text ≡ b → seen_at of_secrets source (Some (cond (b || false) text (codes "/run/secrets/" ++ text))) ≡ cond (b || false) text (codes "/run/secrets/" ++ text)
    at true is = secret_seen source text is
    at false is = secret_seen source (codes "/run/secrets/" ++ text) refl

-- what is seen has no colon where neither the source nor the target has one
abbrev SeesBare : Folder → Type 0
SeesBare folder =
    (source : List ℕ) (target : Option (List ℕ)) → has_no_colon source ≡ true → ((x : List ℕ) → target ≡ Some x → has_no_colon x ≡ true) → has_no_colon (seen_at folder source target) ≡ true

configs_bare : SeesBare of_configs
configs_bare source None h k = h
configs_bare source (Some x) h k = ap has_no_colon (config_seen source x) ∙ k x refl

secrets_bare : SeesBare of_secrets
secrets_bare source None h k = h
secrets_bare source (Some x) h k = at (is_rooted x)
  where
    at : (b : Bool) → has_no_colon (cond (b || false) x (codes "/run/secrets/" ++ x)) ≡ true
    at true = k x refl
    at false = k x refl

path_of : (folder : Folder) → SeesBare folder → (attributes : List Attribute) (t : Option (List ℕ)) → value_at attributes (codes "target") ≡ option_map Value.Text t
    → ((x : List ℕ) → t ≡ Some x → has_no_colon x ≡ true) → HasPlace (file_use_from folder attributes) → HasPath (file_use_from folder attributes)
path_of folder bare attributes t is each place = at (has_no_colon (file_use_from folder attributes).target) refl
  where
    left : (b : Bool) → (b || false) ≡ true → b ≡ true
    left true e = refl
    left false e = absurd (cc e)

    at : (b : Bool) → has_no_colon (file_use_from folder attributes).target ≡ b → HasPath (file_use_from folder attributes)
    at true e = e
    at false e =
        let source = left (has_no_colon (file_use_from folder attributes).source) (ap (λ b. has_no_colon (file_use_from folder attributes).source || b) (sym e) ∙ place) in
        bare (file_use_from folder attributes).source (text_at attributes (codes "target")) source
        (λ x g. each x (sym (found_at as_text Value.Text text_made attributes (codes "target") t is) ∙ g))

file_listed : (folder : Folder) → SeesAgain folder → SeesBare folder → (s : Tree-F Tree) (file : FileUse) → in_mapping (file_use_of folder) s ≡ Ok file → HasPlace file
    → IsListed file_shown (file_use_of folder) HasPlace file
file_listed folder sees bare s file e place =
    let names = codes "source" ∷ [] in
    let m = mapping_read (file_use_of folder) s file e in
    let b = bound_given (fields_of file_use_lines names m.0) (λ attributes. ok_file (file_use_from folder attributes)) file m.1 in
    let whole : file_use_from folder b.0 ≡ file = cc b.2 in
    let t = made_at file_use_lines names m.0 b.0 b.1 Value.Text (λ x. has_no_colon x ≡ true) (codes "target") Plain.Target target_line (passing_makes Plain.Target has_no_colon m.0 (λ tree. refl)) in
    let path = path_of folder bare b.0 t.0 t.1 t.2 (subst HasPlace (sym whole) place) in
    file_read folder file
    (subst (λ (f : FileUse). seen_at folder f.source (Some f.target) ≡ f.target) whole (sees (unwrap_or (text_at b.0 (codes "source")) []) (text_at b.0 (codes "target"))))
    (subst HasPath whole path)
  where
    ok_file : FileUse → Read FileUse
    ok_file file = Ok file

files_again : (folder : Folder) → SeesAgain folder → SeesBare folder → (s : Tree-F Tree) (files : List FileUse) (v : Value) → listed (file_use_of folder) s ≡ Ok files → OfAll HasPlace files
    → listed (file_use_of folder) (out-Tree (Seq (map file_shown files))) ≡ Ok files
files_again folder sees bare s files v e places = listed_again file_shown (file_use_of folder) HasPlace (file_listed folder sees bare) s files e places

-- the files of a value have such places
abbrev pub HavePlaces : Value → Type 0
HavePlaces (Value.Files files) = OfAll HasPlace files
HavePlaces value = Unit {0}

pub secrets_row : (s : Tree-F Tree) (v : Value) → row_value Row.Secrets s ≡ Ok (Some v) → HavePlaces v → RowAgain Row.Secrets v
secrets_row s v e places =
    let k = any_given Value.Files (listed (file_use_of of_secrets) s) v e in
    let all : OfAll HasPlace k.0 = subst HavePlaces (sym k.3) places in
    subst (RowAgain Row.Secrets) k.3
    (seq_there _, any_back Value.Files (listed (file_use_of of_secrets) (out-Tree (Seq (map file_shown k.0)))) k.0 (files_again of_secrets secrets_again secrets_bare s k.0 v k.1 all) k.2)

pub configs_row : (s : Tree-F Tree) (v : Value) → row_value Row.Configs s ≡ Ok (Some v) → HavePlaces v → RowAgain Row.Configs v
configs_row s v e places =
    let k = any_given Value.Files (listed (file_use_of of_configs) s) v e in
    let all : OfAll HasPlace k.0 = subst HavePlaces (sym k.3) places in
    subst (RowAgain Row.Configs) k.3
    (seq_there _, any_back Value.Files (listed (file_use_of of_configs) (out-Tree (Seq (map file_shown k.0)))) k.0 (files_again of_configs configs_again configs_bare s k.0 v k.1 all) k.2)
