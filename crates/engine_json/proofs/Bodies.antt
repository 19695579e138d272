-- Bodies of JSON, as the library's values show them.
use Rattle.std.proofs.Common.{◌≡◌, ◌≢◌, ◌∙◌, ◌++◌, append_assoc, sym, subst, ℕ, Bool, List, [], ◌∷◌, ◌==◌, true, false, map, Option, Some, None, Result, Ok, Err, IfOk, String, string_bytes, codes, refl, ap, rules, Vec, BTreeMap}
use Rattle.std.specs.Option.{option_map, unwrap_or}
use Rattle.std.specs.List.{onto_first, slice_get, slice_split}
use Rattle.std.specs.Map.{keys_of}
use Rattle.std.specs.Str.{IsUtf8, bytes_eq, is_utf8}
use Rattle.std.specs.declared.alloc.Global.{Global}
use Rattle.std.proofs.lemmas.Bool.{eqb-true, false_from_ne_true}
use Rattle.std.proofs.lemmas.Slice.Eq.{bytes_eq-Decides}
use Rattle.std.proofs.lemmas.Str.{IsUtf8-from_is_utf8, is_utf8-from_IsUtf8}
use Rattle.response_rules.specs.Json.{entries, given, json_of, listed, meaning, of_each, pair_of, pairs_of, rows, text_at}
use Rattle.response_rules.specs.Lines.{lines, with_byte}
use Rattle.response_rules.specs.Replies.{first_name, network_names, volume_names, without_slash}
use Rattle.serde_json.specs.Data.{Data, array, object}
use Rattle.serde_json.specs.Find.{as_array, as_object, as_str, get}
use Rattle.serde_json.specs.Read.{read}
use Rattle.serde_json.specs.declared.value.Value.{Value, Array, Object, the_lemmas}
use Rattle.tree_base.specs.declared.Memory.{Memory}
use Rattle.tree_base.specs.declared.Var.{Var}
use Rattle.serde_json.specs.View.{items_of, items_view, members_of, members_view, view}

pub listed_items : (ds : List Data) → listed (items_of ds) ≡ ds
listed_items [] = refl
listed_items (d ∷ ds) = ap (λ ds. d ∷ ds) (listed_items ds)

pub entries_members : (ms : List (String Global × Data)) → entries (members_of ms) ≡ map (λ m. (string_bytes m.0, m.1)) ms
entries_members [] = refl
entries_members (m ∷ ms) = ap (λ es. (string_bytes m.0, m.1) ∷ es) (entries_members ms)

pub each_some : {A : Type 0} → (xs : List A) → of_each Some xs ≡ Some xs
each_some [] = refl
each_some (x ∷ xs) = ap (option_map (λ ys. x ∷ ys)) (each_some xs)

-- one more item is read
pub one_more : {A B : Type 0} (f : A → Option B) (x : A) (xs : List A) (y : B) (ys : List B) → Some y ≡ f x → option_map (λ more. (ys ++ y ∷ []) ++ more) (of_each f xs) ≡ option_map (λ more. ys ++ more) (of_each f (x ∷ xs))
one_more {A} {B} f x xs y ys e =
    joined (of_each f xs) ∙ ap (λ o. option_map (λ more. ys ++ more) (given o (λ z. option_map (λ zs. z ∷ zs) (of_each f xs)))) e
  where
    joined : (o : Option (List B)) → option_map (λ more. (ys ++ y ∷ []) ++ more) o ≡ option_map (λ more. ys ++ more) (option_map (λ zs. y ∷ zs) o)
    joined None = refl
    joined (Some more) = ap Some (append_assoc ys (y ∷ []) more)

not_by : (bytes : List ℕ) (b : Bool) → is_utf8 bytes ≡ b → ¬ (IsUtf8 bytes) → is_utf8 bytes ≡ false
not_by bytes true e bad = absurd (bad (IsUtf8-from_is_utf8 bytes e))
not_by bytes false e bad = e

-- a text of UTF-8 is read as JSON, and other bytes are none
pub parsed : (bytes text : List ℕ) → IsUtf8 bytes → text ≡ bytes → read text ≡ json_of bytes
parsed bytes text is same = let e : is_utf8 bytes ≡ true = is_utf8-from_IsUtf8 bytes is in ap read same ∙ (rw e refl)

pub unparsed : (bytes : List ℕ) → ¬ (IsUtf8 bytes) → None ≡ json_of bytes
unparsed bytes bad = let e : is_utf8 bytes ≡ false = not_by bytes (is_utf8 bytes) refl bad in rw e refl

-- a name loses the slash that it begins with
pub slash_off : (name rest : List ℕ) → name ≡ 47 ∷ rest → rest ≡ without_slash name
slash_off name rest e = subst (λ n. rest ≡ without_slash n) (sym e) refl

pub slash_stays : (name : List ℕ) → ((rest : List ℕ) → name ≢ 47 ∷ rest) → name ≡ without_slash name
slash_stays [] other = refl
slash_stays (b ∷ name) other = by (b == 47) refl
  where
    by : (is : Bool) → (b == 47) ≡ is → (b ∷ name) ≡ without_slash (b ∷ name)
    by false e = rw e refl
    by true e = absurd (other name (ap (λ c. c ∷ name) (eqb-true b 47 e)))

-- the first of a row's names, without its slash
pub named : (d names : Data) (items : List Value) (v : Value) (name : List ℕ) → Some names ≡ get (codes "Names") d → Some (items_view items) ≡ as_array names → Some v ≡ slice_get items 0 → Some name ≡ as_str (view v) → Some (without_slash name) ≡ given (given (get (codes "Names") d) (rows Some)) first_name
named d names [] v name there list at text = let bad : Some v ≡ None = at in cc bad
named d names (first ∷ vs) v name there list at text =
    let is : v ≡ first = ap (λ o. unwrap_or o v) at in
    let rows_there : given (get (codes "Names") d) (rows Some) ≡ rows Some names = ap (λ o. given o (rows Some)) (sym there) in
    let listed_there : rows Some names ≡ of_each Some (listed (items_view (first ∷ vs))) = ap (λ o. given o (λ items. of_each Some (listed items))) (sym list) in
    ap (option_map without_slash) (text ∙ ap (λ w. as_str (view w)) is)
    ∙ sym (ap (λ o. given o first_name) (rows_there ∙ listed_there ∙ each_some (listed (items_view (first ∷ vs)))))

-- a word that isn't a row's is looked up behind it
pub passed_over : {A : Type 0} → (key word : List ℕ) (a : A) (more : List (List ℕ × A)) → (word ≡ key → ⊥) → meaning ((key, a) ∷ more) word ≡ meaning more word
passed_over key word a more other =
    let e : bytes_eq key word ≡ false = false_from_ne_true (bytes_eq key word) (λ same. other (sym ((bytes_eq-Decides key word).0 same))) in
    rw e refl

-- the names of an object's members
pub names_of : (ms : List (String Global × Value)) → map (λ entry. entry.0) (entries (members_view ms)) ≡ map (λ m. string_bytes m.0) ms
names_of [] = refl
names_of (m ∷ ms) = ap (λ names. string_bytes m.0 ∷ names) (names_of ms)

-- the keys of an object, as texts
pub keys_named : (ms : List (String Global × Value)) → map string_bytes (keys_of ms) ≡ map (λ m. string_bytes m.0) ms
keys_named [] = refl
keys_named (m ∷ ms) = ap (λ names. string_bytes m.0 ∷ names) (keys_named ms)

-- the lines of a body are its pieces between line feeds
pub pieces : (bytes : List ℕ) → slice_split (λ b. b == 10) bytes ≡ lines bytes
pieces [] = refl
pieces (b ∷ bytes) = by (b == 10) refl (pieces bytes)
  where
    onto : (ls : List (List ℕ)) → onto_first b ls ≡ with_byte b ls
    onto [] = refl
    onto (l ∷ ls) = refl

    by : (is : Bool) → (b == 10) ≡ is → slice_split (λ b. b == 10) bytes ≡ lines bytes → slice_split (λ b. b == 10) (b ∷ bytes) ≡ lines (b ∷ bytes)
    by true e rest = rw e (ap (λ ls. [] ∷ ls) rest)
    by false e rest = rw e (onto (slice_split (λ b. b == 10) bytes) ∙ ap (with_byte b) rest)

view-Array : (items : Vec Value Global) → view (Array items) ≡ array (items_view items.items)
view-Array items = search (rules, the_lemmas)

view-Object : (members : BTreeMap (String Global) Value) → view (Object members) ≡ object (members_view members.entries)
view-Object members = search (rules, the_lemmas)

-- the rows of an array, from those of its values
pub rows_listed : {A : Type 0} (f : Data → Option A) (d : Data) (items seen : List Value) (result : Result (Option (List A)) Memory) → Some (items_view items) ≡ as_array d → seen ≡ items → IfOk result (λ found. found ≡ of_each f (map view seen)) → IfOk result (λ found. found ≡ rows f d)
rows_listed f d items seen (Ok found) at is read =
    read
    ∙ ap (λ vs. of_each f (map view vs)) is
    ∙ ap (of_each f) (sym (listed_items (map view items)))
    ∙ ap (λ o. given o (λ each. of_each f (listed each))) at
rows_listed f d items seen (Err refusal) at is read = tt

-- the names of a container's networks, from the keys of their map
pub networks_listed : (d : Data) (ms : List (String Global × Value)) (result : Result (List (List ℕ)) Memory) → Some (members_view ms) ≡ given (given (get (codes "NetworkSettings") d) (get (codes "Networks"))) as_object → IfOk result (λ names. names ≡ map (λ m. string_bytes m.0) ms) → IfOk result (λ names. Some names ≡ network_names d)
networks_listed d ms (Ok names) there named =
    ap Some (named ∙ sym (names_of ms))
    ∙ ap (option_map (λ members. map (λ entry. entry.0) (entries members))) there
    ∙ nested (get (codes "NetworkSettings") d)
  where
    beneath : (o : Option Data) → option_map (λ members. map (λ entry. entry.0) (entries members)) (given o as_object) ≡ given o (λ networks. option_map (λ members. map (λ entry. entry.0) (entries members)) (as_object networks))
    beneath None = refl
    beneath (Some networks) = refl

    nested : (o : Option Data) → option_map (λ members. map (λ entry. entry.0) (entries members)) (given (given o (get (codes "Networks"))) as_object) ≡ given o (λ settings. given (get (codes "Networks") settings) (λ networks. option_map (λ members. map (λ entry. entry.0) (entries members)) (as_object networks)))
    nested None = refl
    nested (Some settings) = beneath (get (codes "Networks") settings)
networks_listed d ms (Err refusal) there named = tt

-- the names of volumes, of an array of rows
pub volumes_listed : (items : Vec Value Global) (value : Value) (seen : List Value) (result : Result (Option (List (List ℕ))) Memory) → value ≡ Array items → seen ≡ items.items → IfOk result (λ names. names ≡ of_each (text_at (codes "Name")) (map view seen)) → IfOk result (λ names. names ≡ volume_names (view value))
volumes_listed items value seen (Ok names) of_items is named =
    named
    ∙ ap (λ vs. of_each (text_at (codes "Name")) (map view vs)) is
    ∙ ap (of_each (text_at (codes "Name"))) (sym (listed_items (map view items.items)))
    ∙ sym (ap volume_names (ap view of_items ∙ view-Array items))
volumes_listed items value seen (Err refusal) of_items is named = tt

-- names with their values, of an object
pub pairs_listed : (members : BTreeMap (String Global) Value) (value : Value) (result : Result (Option (List Var)) Memory) → value ≡ Object members → IfOk result (λ pairs. pairs ≡ of_each pair_of (map {B = List ℕ × Data} (λ m. (string_bytes m.0, view m.1)) members.entries)) → IfOk result (λ pairs. pairs ≡ pairs_of (view value))
pairs_listed members value (Ok pairs) of_members found =
    found
    ∙ sym (ap (of_each pair_of) (entries_members (map {B = String Global × Data} (λ m. (m.0, view m.1)) members.entries) ∙ twice members.entries))
    ∙ sym (ap pairs_of (ap view of_members ∙ view-Object members))
  where
    twice : (ms : List (String Global × Value)) → map {B = List ℕ × Data} (λ m. (string_bytes m.0, m.1)) (map {B = String Global × Data} (λ m. (m.0, view m.1)) ms) ≡ map {B = List ℕ × Data} (λ m. (string_bytes m.0, view m.1)) ms
    twice [] = refl
    twice (m ∷ ms) = ap (λ es. (string_bytes m.0, view m.1) ∷ es) (twice ms)
pairs_listed members value (Err refusal) of_members found = tt
