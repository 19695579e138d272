-- What the fields of rows are made of, and what is found again of them.
use Rattle.std.proofs.Common.{◌≡◌, ◌∙◌, ℕ, ℤ, Bool, true, false, List, [], ◌∷◌, Some, None, Ok, is_some, unwrap_or, refl, ap, sym, subst}
use Rattle.std.specs.Prelude.{Option}
use Rattle.std.specs.Option.{option_and_then, option_map}
use Rattle.tree_base.specs.declared.tree.Tree.{Tree, out-Tree}
use Rattle.attribute_types.specs.Lookups.{as_bool, as_int, as_number, as_pairs, as_port, as_text, as_texts}
use Rattle.attribute_types.specs.Values.{value_at}
use Rattle.attribute_types.specs.declared.attribute.Attribute.{Attribute}
use Rattle.attribute_types.specs.declared.attribute.Value.{Value}
use Rattle.attribute_types.specs.declared.form.Plain.{Plain}
use Rattle.attribute_types.specs.declared.form.Row.{Row}
use Rattle.attribute_scalars.specs.Lists.{if_any}
use Rattle.attribute_scalars.specs.Walks.{Entries, Read, is_null}
use Rattle.attribute_values.specs.Forms.{kept, kept_if_any, plain_value}
use Rattle.attribute_types.specs.Tables.{Lines}
use Rattle.attribute_values.specs.Fields.{fields_of}
use Rattle.attribute_rows.specs.Rows.{row_value}
use Rattle.attribute_paths.proofs.Trees.{OfAll}
use Rattle.laws_attributes.proofs.Fields.{fields_came}
use Rattle.laws_attributes.proofs.Lookups.{own_text}
use Rattle.laws_attributes.proofs.OrdinaryForms.{is_ordinary, ordinary_back}
use Rattle.laws_attributes.proofs.PlainForms.{Back, any_given, flag_given, kept_given}
use Rattle.laws_attributes.proofs.RowFields.{none_at, or_else, present_at, row_at}
use Rattle.laws_attributes.proofs.Shown.{Rows, flag_value, plain_tree, present}

-- a row that is read again of what is shown of it
abbrev pub RowAgain : Row → Value → Type 0
RowAgain row v = (is_null (out-Tree (plain_tree v)) ≡ false) × (row_value row (out-Tree (plain_tree v)) ≡ Ok (Some v))

-- what a form makes of a tree
abbrev pub Makes : {X : Type 0} → Plain → Entries → (X → Value) → (X → Type 0) → Type 0
Makes {X} plain es make Q = (tree : Tree) (v : Value) → plain_value plain es tree (out-Tree tree) ≡ Ok (Some v) → (x : X) × (make x ≡ v) × Q x

-- one thing, which is read again
pub makes_kept : {X : Type 0} (plain : Plain) (es : Entries) (make : X → Value) (found : Tree → Read X) → is_ordinary plain ≡ true
    → ((tree : Tree) → plain_value plain es tree (out-Tree tree) ≡ kept make (found tree)) → Makes plain es make (λ x. Back plain (make x))
makes_kept plain es make found o is tree v e =
    let k = kept_given make (found tree) v (sym (is tree) ∙ e) in (k.0, k.2, subst (Back plain) (sym k.2) (ordinary_back plain o es tree v e))

-- some things, which are read again
pub makes_any : {X : Type 0} (plain : Plain) (es : Entries) (make : List X → Value) (found : Tree → Read (List X)) → is_ordinary plain ≡ true
    → ((tree : Tree) → plain_value plain es tree (out-Tree tree) ≡ kept_if_any make (found tree)) → Makes plain es make (λ xs. Back plain (make xs) × (if_any xs ≡ Some xs))
makes_any plain es make found o is tree v e =
    let k = any_given make (found tree) v (sym (is tree) ∙ e) in (k.0, k.3, (subst (Back plain) (sym k.3) (ordinary_back plain o es tree v e), k.2))

-- what is found of what was made
pub text_made : (o : Option (List ℕ)) → option_and_then as_text (option_map Value.Text o) ≡ o
text_made None = refl
text_made (Some x) = refl

pub bool_made : (o : Option Bool) → option_and_then as_bool (option_map Value.Bool o) ≡ o
bool_made None = refl
bool_made (Some x) = refl

pub num_made : (o : Option ℕ) → option_and_then as_number (option_map Value.Num o) ≡ o
num_made None = refl
num_made (Some x) = refl

pub duration_made : (o : Option ℕ) → option_and_then as_number (option_map Value.Duration o) ≡ o
duration_made None = refl
duration_made (Some x) = refl

pub port_made : (o : Option ℕ) → option_and_then as_port (option_map Value.Port o) ≡ o
port_made None = refl
port_made (Some x) = refl

pub int_made : (o : Option ℤ) → option_and_then as_int (option_map Value.Int o) ≡ o
int_made None = refl
int_made (Some x) = refl

pub list_made : (o : Option (List (List ℕ))) → option_and_then as_texts (option_map Value.List o) ≡ o
list_made None = refl
list_made (Some x) = refl

pub argv_made : (o : Option (List (List ℕ))) → option_and_then as_texts (option_map Value.Argv o) ≡ o
argv_made None = refl
argv_made (Some x) = refl

pub pairs_made : (o : Option (List (List ℕ × Option (List ℕ)))) → option_and_then as_pairs (option_map Value.Pairs o) ≡ o
pairs_made None = refl
pairs_made (Some x) = refl

-- one, or else none
pub or_none : (o : Option Value) → or_else o None ≡ o
or_none None = refl
or_none (Some v) = refl

-- the value of a row that has one
pub found_at : {X : Type 0} (as_x : Value → Option X) (make : X → Value) (made : (o : Option X) → option_and_then as_x (option_map make o) ≡ o)
    (attributes : List Attribute) (k : List ℕ) (o : Option X) → value_at attributes k ≡ option_map make o → option_and_then as_x (value_at attributes k) ≡ o
found_at as_x make made attributes k o is = ap (option_and_then as_x) is ∙ made o

-- and of rows that are present
pub present_found : {X : Type 0} (as_x : Value → Option X) (make : X → Value) (made : (o : Option X) → option_and_then as_x (option_map make o) ≡ o)
    (rows : Rows) (k : List ℕ) (o : Option X) → row_at rows k ≡ or_else (option_map make o) None → option_and_then as_x (value_at (present rows) k) ≡ o
present_found as_x make made rows k o is = ap (option_and_then as_x) (present_at rows k ∙ is ∙ or_none (option_map make o)) ∙ made o

-- a list that isn't empty, or none
pub any_or_none : {X : Type 0} (o : Option (List X)) → ((xs : List X) → o ≡ Some xs → if_any xs ≡ Some xs) → if_any (unwrap_or o []) ≡ o
any_or_none None h = refl
any_or_none (Some xs) h = h xs refl

-- a flag
pub flag_made : (o : Option Bool) → ((b : Bool) → o ≡ Some b → b ≡ true) → flag_value (is_some o) ≡ option_map Value.Bool o
flag_made None h = refl
flag_made (Some b) h = ap (λ c. Some (Value.Bool c)) (sym (h b refl))

pub flag_found : (b : Bool) → is_some (option_and_then as_bool (flag_value b)) ≡ b
flag_found true = refl
flag_found false = refl

pub makes_flag : (es : Entries) → Makes Plain.Flag es Value.Bool (λ b. b ≡ true)
makes_flag es tree v e = (true, flag_given (out-Tree tree) v e, refl)

pub units : (l : Entries) → OfAll (λ (entry : List ℕ × Tree). Unit {0}) l
units [] = tt
units (x ∷ xs) = (tt, units xs)

own_value : (a : Attribute) (others : List Attribute) → value_at (a ∷ others) a.name ≡ Some a.value
own_value a others = rw (own_text a.name) refl

-- where no name of the table has an attribute, there is none
pub none_left : (lines : Lines Plain) (wanted : List (List ℕ)) (es : Entries) (attributes : List Attribute) → fields_of lines wanted es ≡ Ok attributes
    → OfAll (λ line. value_at attributes line.0 ≡ None) lines → attributes ≡ []
none_left lines wanted es [] f h = refl
none_left lines wanted es (a ∷ others) f h =
    let came = fields_came lines wanted es (a ∷ others) f (λ entry. Unit {0}) (units es) in
    let bad : None ≡ Some a.value = sym (none_at lines wanted es (a ∷ others) f lines h a.name came.0.0 came.0.1) ∙ own_value a others in
    absurd (cc bad)
