-- Answers that are refusals.
use Rattle.std.proofs.Common.{◌≡◌, ℕ, ◌≤◌, Bool, true, false, cond, List, [], ◌∷◌, ◌++◌, length, drop, sym, subst, ap, ◌∙◌, append_assoc, append-nil}
use Rattle.std.proofs.Math.ListN.{drop_of_length-le}
use Rattle.std.specs.Option.{option_map, option_map_or, option_or}
use Rattle.std.specs.Prelude.{Result, Ok, Err, Option, Some, None, find}
use Rattle.compose_words.specs.Items.{items_from, items_of}
use Rattle.compose_words.specs.Refusals.{again_refusal, first_refusal, is_command, is_foreign, item_refusal, role_refusal, scale_refusal, unserved_refusal, value_refusal, content_refusal, wrong_value}
use Rattle.compose_words.specs.Table.{takes_value}
use Rattle.compose_words.specs.declared.content.Content.{Content}
use Rattle.compose_words.specs.declared.item.Role.{Role}
use Rattle.compose_words.specs.declared.item.Value.{Value}
use Rattle.compose_words.specs.declared.table.ValueKind.{ValueKind}
use Rattle.compose_words.specs.Lookups.{first_verb, name_of}
use Rattle.compose_words.specs.Reading.{IsUnlessMemory, refused_or, and_then, items_or_refusal, options_of_items, options_of_verb}
use Rattle.compose_words.specs.declared.options.Verb.{Verb}
use Rattle.compose_words.specs.declared.item.Item.{Item}
use Rattle.compose_words.specs.declared.refusal.WordsRefusal.{WordsRefusal}

module _ {A : Type 0} where
  -- an answer that is exactly the definition's
  pub unless_memory : (refusal : WordsRefusal) (answer : Result A WordsRefusal) → answer ≡ Err refusal → IsUnlessMemory (Err refusal) answer
  unless_memory (WordsRefusal.UnknownWord at) answer e = e
  unless_memory (WordsRefusal.MissingValue at) answer e = e
  unless_memory (WordsRefusal.BadNumber at) answer e = e
  unless_memory (WordsRefusal.BadChoice at) answer e = e
  unless_memory (WordsRefusal.Twice at) answer e = e
  unless_memory WordsRefusal.NoCommand answer e = e
  unless_memory WordsRefusal.BadHost answer e = e
  unless_memory WordsRefusal.Memory answer e = tt

module _ {A B : Type 0} (f : A → Result B WordsRefusal) (first : Result A WordsRefusal) where
  -- what the first step refuses is refused as a whole
  pub and_then-refused : (refusal : WordsRefusal) → IsUnlessMemory (Err refusal) first → IsUnlessMemory (Err refusal) (and_then f first)
  and_then-refused (WordsRefusal.UnknownWord at) e = ap (and_then f) e
  and_then-refused (WordsRefusal.MissingValue at) e = ap (and_then f) e
  and_then-refused (WordsRefusal.BadNumber at) e = ap (and_then f) e
  and_then-refused (WordsRefusal.BadChoice at) e = ap (and_then f) e
  and_then-refused (WordsRefusal.Twice at) e = ap (and_then f) e
  and_then-refused WordsRefusal.NoCommand e = ap (and_then f) e
  and_then-refused WordsRefusal.BadHost e = ap (and_then f) e
  and_then-refused WordsRefusal.Memory e = tt

  -- what the first step gives is what the second one reads
  pub and_then-given : (value : A) (answer : Result B WordsRefusal) → first ≡ Ok value → IsUnlessMemory answer (f value) → IsUnlessMemory answer (and_then f first)
  and_then-given value answer e h = subst (λ (r : Result A WordsRefusal). IsUnlessMemory answer (and_then f r)) (sym e) h

module _ (words : List (List ℕ)) (before : List Item) (at : ℕ) where
  -- no item before this place is refused
  abbrev pub HasPassed : Type 0
  HasPassed = first_refusal before (items_from at (drop at words)) ≡ first_refusal [] (items_of words)

  module _ (item : Item) (more : List Item) (step : items_from at (drop at words) ≡ item ∷ more) where
    -- the refusal of the item here is the first one
    pub refused_here : (refusal : WordsRefusal) → HasPassed → Some refusal ≡ item_refusal before item → items_or_refusal words ≡ Err refusal
    refused_here refusal passed here =
        let first : first_refusal [] (items_of words) ≡ Some refusal =
        sym passed ∙ ap (first_refusal before) step ∙ ap (λ r. option_or r (first_refusal (before ++ item ∷ []) more)) (sym here) in
        ap (λ r. refused_or r (items_of words)) first

    -- an item that isn't refused is passed
    pub passed_here : HasPassed → None ≡ item_refusal before item → first_refusal (before ++ item ∷ []) more ≡ first_refusal [] (items_of words)
    passed_here passed here =
        let tail : first_refusal before (item ∷ more) ≡ first_refusal (before ++ item ∷ []) more = ap (λ r. option_or r (first_refusal (before ++ item ∷ []) more)) (sym here) in
        sym tail ∙ ap (first_refusal before) (sym step) ∙ passed

    pub whole_here : before ++ items_from at (drop at words) ≡ items_of words → (before ++ item ∷ []) ++ more ≡ items_of words
    whole_here whole = append_assoc before (item ∷ []) more ∙ ap (λ items. before ++ items) (sym step) ∙ whole

  -- behind the last word all items are read, and none is refused
  pub all_read : HasPassed → before ++ items_from at (drop at words) ≡ items_of words → length words ≤ at → items_or_refusal words ≡ Ok before
  all_read passed whole past =
      let none : items_from at (drop at words) ≡ [] = ap (items_from at) (drop_of_length-le words past) in
      let first : first_refusal [] (items_of words) ≡ None = sym passed ∙ ap (first_refusal before) none in
      let all : items_of words ≡ before = sym whole ∙ ap (λ items. before ++ items) none ∙ append-nil before in
      ap (λ r. refused_or r (items_of words)) first ∙ ap Ok all

-- a refusal that isn't of the Engine's address
abbrev IsOfWords : Option WordsRefusal → Type 0
IsOfWords refusal = refusal ≡ Some WordsRefusal.BadHost → ⊥

either : (b : Bool) (x y : Option WordsRefusal) → IsOfWords x → IsOfWords y → IsOfWords (cond b x y)
either true x y p q = p
either false x y p q = q

first_of_two : (x y : Option WordsRefusal) → IsOfWords x → IsOfWords y → IsOfWords (option_or x y)
first_of_two None y p q = q
first_of_two (Some refusal) y p q = p

unknown-words : (at : ℕ) → IsOfWords (Some (WordsRefusal.UnknownWord at))
unknown-words at = λ e. cc

missing-words : (at : ℕ) → IsOfWords (Some (WordsRefusal.MissingValue at))
missing-words at = λ e. cc

twice-words : (at : ℕ) → IsOfWords (Some (WordsRefusal.Twice at))
twice-words at = λ e. cc

nothing-words : IsOfWords None
nothing-words = λ e. cc

wrong_value-words : (kind : ValueKind) (at : ℕ) → IsOfWords (Some (wrong_value kind at))
wrong_value-words ValueKind.Flag at = λ e. cc
wrong_value-words ValueKind.Text at = λ e. cc
wrong_value-words (ValueKind.Number least most) at = λ e. cc
wrong_value-words ValueKind.Workers at = λ e. cc
wrong_value-words ValueKind.Format at = λ e. cc
wrong_value-words ValueKind.Scale at = λ e. cc

content_refusal-words : (kind : ValueKind) (at : ℕ) (content : Content) → IsOfWords (content_refusal kind at content)
content_refusal-words kind at (Content.Text text) = λ e. cc
content_refusal-words kind at (Content.Number n) = λ e. cc
content_refusal-words kind at (Content.Format json) = λ e. cc
content_refusal-words kind at (Content.Scale scale) = λ e. cc
content_refusal-words kind at Content.Wrong = wrong_value-words kind at

value_refusal-words : (at : ℕ) (kind : ValueKind) (value : Option Value) → IsOfWords (value_refusal at kind value)
value_refusal-words at kind (Some value) = content_refusal-words kind value.at value.content
value_refusal-words at kind None = either (takes_value kind) _ _ (missing-words at) nothing-words

scale_refusal-words : (before : List Item) (at : ℕ) (content : Content) → IsOfWords (scale_refusal before at content)
scale_refusal-words before at (Content.Scale scale) = either _ _ _ (twice-words at) nothing-words
scale_refusal-words before at (Content.Text text) = λ e. cc
scale_refusal-words before at (Content.Number n) = λ e. cc
scale_refusal-words before at (Content.Format json) = λ e. cc
scale_refusal-words before at Content.Wrong = λ e. cc

again_refusal-words : (before : List Item) (value : Option Value) → IsOfWords (again_refusal before value)
again_refusal-words before (Some value) = scale_refusal-words before value.at value.content
again_refusal-words before None = nothing-words

role_refusal-words : (before : List Item) (item : Item) (role : Role) → IsOfWords (role_refusal before item role)
role_refusal-words before item (Role.Option rule) = either _ _ _ (twice-words item.at) (first_of_two _ _ (value_refusal-words item.at rule.value item.value) (again_refusal-words before item.value))
role_refusal-words before item (Role.Command rule) = either _ _ _ (unknown-words item.at) (value_refusal-words item.at rule.value item.value)
role_refusal-words before item Role.Stray = unknown-words item.at

first_refusal-words : (before items : List Item) → IsOfWords (first_refusal before items)
first_refusal-words before [] = nothing-words
first_refusal-words before (item ∷ items) = first_of_two _ _ (role_refusal-words before item item.role) (first_refusal-words (before ++ item ∷ []) items)

module _ {A : Type 0} where
  -- an answer that isn't of the Engine's address
  abbrev pub AnswersWords : Result A WordsRefusal → Type 0
  AnswersWords answer = answer ≡ Err WordsRefusal.BadHost → ⊥

  refused_or-words : (refusal : Option WordsRefusal) (value : A) → IsOfWords refusal → AnswersWords (refused_or refusal value)
  refused_or-words None value p = λ e. cc
  refused_or-words (Some refusal) value p = λ e. let same : Some refusal ≡ Some WordsRefusal.BadHost = cc in p same

  pub answers_words : (answer meant : Result A WordsRefusal) → IsUnlessMemory answer meant → AnswersWords meant → AnswersWords answer
  answers_words answer meant h p = λ e. p (subst (λ (r : Result A WordsRefusal). IsUnlessMemory r meant) e h)

-- no item is refused for the Engine's address
pub items_or_refusal-words : (words : List (List ℕ)) → AnswersWords (items_or_refusal words)
items_or_refusal-words words = refused_or-words _ _ (first_refusal-words [] (items_of words))

unknown_at-words : (found : Option Item) → IsOfWords (option_map (λ (item : Item). WordsRefusal.UnknownWord item.at) found)
unknown_at-words None = λ e. cc
unknown_at-words (Some item) = λ e. cc

missing_at-words : (found : Option Item) → IsOfWords (option_map (λ (item : Item). WordsRefusal.MissingValue item.at) found)
missing_at-words None = λ e. cc
missing_at-words (Some item) = λ e. cc

unserved-words : (verb : Verb) (items : List Item) → IsOfWords (unserved_refusal verb items)
unserved-words Verb.EngineSim items = either _ _ _ nothing-words (missing_at-words (find is_command items))
unserved-words Verb.Config items = nothing-words
unserved-words Verb.Up items = nothing-words
unserved-words Verb.Down items = nothing-words
unserved-words (Verb.Simulate number) items = nothing-words
unserved-words Verb.Wait items = nothing-words
unserved-words Verb.Logs items = nothing-words

-- no command is refused for the Engine's address
pub options_of_items-words : (items : List Item) → AnswersWords (options_of_items items)
options_of_items-words items = at (first_verb items)
  where
    at : (verb : Option Verb) → AnswersWords (option_map_or (options_of_verb items) verb (Err WordsRefusal.NoCommand))
    at None = λ e. cc
    at (Some verb) = refused_or-words _ _ (first_of_two _ _ (unknown_at-words (find (is_foreign (name_of verb)) items)) (unserved-words verb items))
