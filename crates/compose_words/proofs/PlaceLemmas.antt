-- Each refusal that has a place is at one of the words.
use Rattle.std.proofs.Common.{ℕ, ◌+◌, ◌≤◌, ◌<◌, Bool, true, false, cond, List, [], ◌∷◌, ◌++◌, length, subst, arith}
use Rattle.std.specs.Prelude.{Result, Ok, Err, Option, Some, None, IfSome, IfErr, find, not, ◌&&◌}
use Rattle.std.specs.List.{AllByRecursion, list_any}
use Rattle.std.specs.Option.{option_map, option_map_or, option_or}
use Rattle.compose_words.specs.Bounds.{IsWithin}
use Rattle.compose_words.specs.Items.{items_from, items_of, item_of, role_of, kind_of, own_text, value_at, takes_next}
use Rattle.compose_words.specs.Lookups.{first_verb, name_of}
use Rattle.compose_words.specs.Reading.{IsUnlessMemory, refused_or, and_then, items_or_refusal, options_of, options_of_items, options_of_verb}
use Rattle.compose_words.specs.Refusals.{again_refusal, content_refusal, first_refusal, foreign_refusal, gives, is_command, is_foreign, role_refusal, scale_refusal, scales, server_refusal, unserved_refusal, value_refusal, wrong_value}
use Rattle.compose_words.specs.Table.{takes_value}
use Rattle.compose_words.specs.declared.content.Content.{Content}
use Rattle.compose_words.specs.declared.item.Item.{Item}
use Rattle.compose_words.specs.declared.item.Role.{Role}
use Rattle.compose_words.specs.declared.item.Value.{Value}
use Rattle.compose_words.specs.declared.options.Verb.{Verb}
use Rattle.compose_words.specs.declared.refusal.WordsRefusal.{WordsRefusal}
use Rattle.compose_words.specs.declared.table.CommandName.{CommandName}
use Rattle.compose_words.specs.declared.table.OptionName.{OptionName}
use Rattle.compose_words.specs.declared.table.ValueKind.{ValueKind}

module _ (count : ℕ) where
  -- an item and its value stand at words
  record Lies (item : Item) : Type 0 where
    own : item.at < count
    value : IfSome item.value (λ (v : Value). v.at < count)

  abbrev AllLie : List Item → Type 0
  AllLie items = AllByRecursion Lies items

  value-lies : (takes : Bool) (kind : ValueKind) (at : ℕ) (own next : Option (List ℕ)) → at < count → IfSome next (λ _. at + 1 < count)
      → IfSome (cond takes (option_or (option_map (value_at kind at) own) (option_map (value_at kind (at + 1)) next)) None) (λ (v : Value). v.at < count)
  value-lies false kind at own next h k = tt
  value-lies true kind at (Some text) next h k = h
  value-lies true kind at None (Some text) h k = k
  value-lies true kind at None None h k = tt

  item-lies : (at : ℕ) (word : List ℕ) (next : Option (List ℕ)) → at < count → IfSome next (λ _. at + 1 < count) → Lies (item_of at word next)
  item-lies at word next h k = record {
    own = h;
    value = value-lies (takes_value (kind_of (role_of word))) (kind_of (role_of word)) at (own_text word) next h k;
  }

  more-lie : (takes : Bool) (xs ys : List Item) → AllLie xs → AllLie ys → AllLie (cond takes xs ys)
  more-lie true xs ys h k = h
  more-lie false xs ys h k = k

  items-lie : (at : ℕ) (words : List (List ℕ)) → at + length words ≤ count → AllLie (items_from at words)
  items-lie at [] h = tt
  items-lie at (word ∷ []) h = (item-lies at word None (omega (arith, h)) tt, tt)
  items-lie at (word ∷ next ∷ words) h =
      (item-lies at word (Some next) (omega (arith, h)) (omega (arith, h)), more-lie (takes_next word) _ _ (items-lie (at + 2) words (omega (arith, h))) (items-lie (at + 1) (next ∷ words) (omega (arith, h))))

  -- a refusal, if there is one, is at a word
  abbrev IsPlaced : Option WordsRefusal → Type 0
  IsPlaced refusal = IfSome refusal (IsWithin count)

  either-placed : (b : Bool) (x y : Option WordsRefusal) → IsPlaced x → IsPlaced y → IsPlaced (cond b x y)
  either-placed true x y h k = h
  either-placed false x y h k = k

  first-placed : (x y : Option WordsRefusal) → IsPlaced x → IsPlaced y → IsPlaced (option_or x y)
  first-placed None y h k = k
  first-placed (Some refusal) y h k = h

  wrong-placed : (kind : ValueKind) (at : ℕ) → at < count → IsWithin count (wrong_value kind at)
  wrong-placed ValueKind.Flag at h = h
  wrong-placed ValueKind.Text at h = h
  wrong-placed (ValueKind.Number least most) at h = h
  wrong-placed ValueKind.Workers at h = h
  wrong-placed ValueKind.Format at h = h
  wrong-placed ValueKind.Scale at h = h

  content-placed : (kind : ValueKind) (at : ℕ) (content : Content) → at < count → IsPlaced (content_refusal kind at content)
  content-placed kind at (Content.Text text) h = tt
  content-placed kind at (Content.Number n) h = tt
  content-placed kind at (Content.Format json) h = tt
  content-placed kind at (Content.Scale scale) h = tt
  content-placed kind at Content.Wrong h = wrong-placed kind at h

  value-placed : (at : ℕ) (kind : ValueKind) (value : Option Value) → at < count → IfSome value (λ (v : Value). v.at < count) → IsPlaced (value_refusal at kind value)
  value-placed at kind (Some value) h k = content-placed kind value.at value.content k
  value-placed at kind None h k = either-placed (takes_value kind) _ _ h tt

  scale-placed : (before : List Item) (at : ℕ) (content : Content) → at < count → IsPlaced (scale_refusal before at content)
  scale-placed before at (Content.Scale scale) h = either-placed (list_any (scales scale.service) before) (Some (WordsRefusal.Twice at)) None h tt
  scale-placed before at (Content.Text text) h = tt
  scale-placed before at (Content.Number n) h = tt
  scale-placed before at (Content.Format json) h = tt
  scale-placed before at Content.Wrong h = tt

  again-placed : (before : List Item) (value : Option Value) → IfSome value (λ (v : Value). v.at < count) → IsPlaced (again_refusal before value)
  again-placed before (Some value) h = scale-placed before value.at value.content h
  again-placed before None h = tt

  role-placed : (before : List Item) (item : Item) (role : Role) → Lies item → IsPlaced (role_refusal before item role)
  role-placed before item (Role.Option rule) h = either-placed (not rule.repeats && list_any (gives rule.name) before) (Some (WordsRefusal.Twice item.at)) (option_or (value_refusal item.at rule.value item.value) (again_refusal before item.value)) h.own
      (first-placed (value_refusal item.at rule.value item.value) (again_refusal before item.value) (value-placed item.at rule.value item.value h.own h.value) (again-placed before item.value h.value))
  role-placed before item (Role.Command rule) h = either-placed (list_any is_command before) (Some (WordsRefusal.UnknownWord item.at)) (value_refusal item.at rule.value item.value) h.own (value-placed item.at rule.value item.value h.own h.value)
  role-placed before item Role.Stray h = h.own

  first_refusal-placed : (before items : List Item) → AllLie items → IsPlaced (first_refusal before items)
  first_refusal-placed before [] h = tt
  first_refusal-placed before (item ∷ items) h = first-placed _ _ (role-placed before item item.role h.0) (first_refusal-placed (before ++ item ∷ []) items h.1)

  abbrev refusal_at : Option Item → Option WordsRefusal
  refusal_at found = option_map (λ (item : Item). WordsRefusal.UnknownWord item.at) found

  found-placed : (b : Bool) (item : Item) (rest : Option Item) → item.at < count → IsPlaced (refusal_at rest) → IsPlaced (refusal_at (cond b (Some item) rest))
  found-placed true item rest h k = h
  found-placed false item rest h k = k

  foreign-placed : (command : CommandName) (items : List Item) → AllLie items → IsPlaced (foreign_refusal command items)
  foreign-placed command [] h = tt
  foreign-placed command (item ∷ items) h = found-placed (is_foreign command item) item (find (is_foreign command) items) h.0.own (foreign-placed command items h.1)

  abbrev missing_at : Option Item → Option WordsRefusal
  missing_at found = option_map (λ (item : Item). WordsRefusal.MissingValue item.at) found

  lacking-placed : (b : Bool) (item : Item) (rest : Option Item) → item.at < count → IsPlaced (missing_at rest) → IsPlaced (missing_at (cond b (Some item) rest))
  lacking-placed true item rest h k = h
  lacking-placed false item rest h k = k

  command-placed : (items : List Item) → AllLie items → IsPlaced (missing_at (find is_command items))
  command-placed [] h = tt
  command-placed (item ∷ items) h = lacking-placed (is_command item) item (find is_command items) h.0.own (command-placed items h.1)

  server-placed : (items : List Item) → AllLie items → IsPlaced (server_refusal items)
  server-placed items h = either-placed (list_any (gives OptionName.Socket) items && list_any (gives OptionName.Connections) items) None (missing_at (find is_command items)) tt (command-placed items h)

  unserved-placed : (verb : Verb) (items : List Item) → AllLie items → IsPlaced (unserved_refusal verb items)
  unserved-placed Verb.EngineSim items h = server-placed items h
  unserved-placed Verb.Config items h = tt
  unserved-placed Verb.Up items h = tt
  unserved-placed Verb.Down items h = tt
  unserved-placed (Verb.Simulate number) items h = tt
  unserved-placed Verb.Wait items h = tt
  unserved-placed Verb.Logs items h = tt

  refused-placed : {A : Type 0} (refusal : Option WordsRefusal) (value : A) → IsPlaced refusal → IfErr (refused_or refusal value) (IsWithin count)
  refused-placed None value h = tt
  refused-placed (Some refusal) value h = h

  verb-placed : (items : List Item) (verb : Option Verb) → AllLie items → IfErr (option_map_or (options_of_verb items) verb (Err WordsRefusal.NoCommand)) (IsWithin count)
  verb-placed items None h = tt
  verb-placed items (Some verb) h = refused-placed _ _ (first-placed (foreign_refusal (name_of verb) items) (unserved_refusal verb items) (foreign-placed (name_of verb) items h) (unserved-placed verb items h))

  words-placed : (items : List Item) (refusal : Option WordsRefusal) → AllLie items → IsPlaced refusal → IfErr (and_then options_of_items (refused_or refusal items)) (IsWithin count)
  words-placed items None h k = verb-placed items (first_verb items) h
  words-placed items (Some refusal) h k = k

  -- an answer that is what words mean, unless memory was wanted, is placed as that is
  pub answer-placed : {A : Type 0} (answer meant : Result A WordsRefusal) → IsUnlessMemory answer meant → IfErr meant (IsWithin count) → IfErr answer (IsWithin count)
  answer-placed (Ok value) meant h k = tt
  answer-placed (Err (WordsRefusal.UnknownWord at)) meant h k = subst (λ (r : Result _ WordsRefusal). IfErr r (IsWithin count)) h k
  answer-placed (Err (WordsRefusal.MissingValue at)) meant h k = subst (λ (r : Result _ WordsRefusal). IfErr r (IsWithin count)) h k
  answer-placed (Err (WordsRefusal.BadNumber at)) meant h k = subst (λ (r : Result _ WordsRefusal). IfErr r (IsWithin count)) h k
  answer-placed (Err (WordsRefusal.BadChoice at)) meant h k = subst (λ (r : Result _ WordsRefusal). IfErr r (IsWithin count)) h k
  answer-placed (Err (WordsRefusal.Twice at)) meant h k = subst (λ (r : Result _ WordsRefusal). IfErr r (IsWithin count)) h k
  answer-placed (Err WordsRefusal.NoCommand) meant h k = tt
  answer-placed (Err WordsRefusal.BadHost) meant h k = tt
  answer-placed (Err WordsRefusal.Memory) meant h k = tt

-- what words mean is refused at one of them, where it is refused at a place
pub options_of-placed : (words : List (List ℕ)) → IfErr (options_of words) (IsWithin (length words))
options_of-placed words =
    let lie = items-lie (length words) 0 words (omega arith) in
    words-placed (length words) (items_of words) (first_refusal [] (items_of words)) lie (first_refusal-placed (length words) [] (items_of words) lie)

-- so is the first step, which finds the items
pub items_or_refusal-placed : (words : List (List ℕ)) → IfErr (items_or_refusal words) (IsWithin (length words))
items_or_refusal-placed words =
    refused-placed (length words) (first_refusal [] (items_of words)) (items_of words) (first_refusal-placed (length words) [] (items_of words) (items-lie (length words) 0 words (omega arith)))
