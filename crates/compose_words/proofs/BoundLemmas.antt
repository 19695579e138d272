-- Each number that was read is within the bounds of its option or command.
use Rattle.std.proofs.Common.{◌≡◌, ℕ, ◌+◌, ◌≤◌, Bool, true, false, cond, leb, List, [], ◌∷◌, sym, subst, refl, ap, ◌∙◌, arith}
use Rattle.std.specs.Prelude.{Result, Ok, Err, Option, Some, None, IfSome, IfOk, length, slice_get, unwrap_or, find, ◌&&◌, ◌==◌, codes}
use Rattle.std.specs.List.{AllByRecursion, filter_map, cons_option}
use Rattle.std.specs.Option.{option_map, option_map_or, option_and_then, option_or}
use Rattle.std.specs.Str.{bytes_eq}
use Rattle.std.specs.Str.Parse.{digits_value}
use Rattle.std.proofs.lemmas.Bool.{eqb-true}
use Rattle.std.proofs.lemmas.Bool.Decides.{nat_tests}
use Rattle.compose_words.specs.Bounds.{IsBounded, CommandIsBounded}
use Rattle.compose_words.specs.Contents.{content_of, is_numeral, scale_of, split_at_equals}
use Rattle.compose_words.specs.Items.{items_from, items_of, item_of, role_of, option_role, plain_role, kind_of, own_text, value_at, takes_next}
use Rattle.compose_words.specs.Lookups.{first_given, value_given, values_given, number_in, scale_in, first_verb, verb_of, verb_with, verb_named, options_with, command_with}
use Rattle.compose_words.specs.Reading.{IsUnlessMemory, refused_or, and_then, options_of, options_of_items, options_of_verb}
use Rattle.compose_words.specs.Refusals.{gives, role_gives, first_refusal}
use Rattle.compose_words.specs.Table.{OptionNames, CommandNames, option_table, command_table, option_named, option_assigned, command_named, is_named, is_assignable, is_word, option_number, same_option, takes_value}
use Rattle.compose_words.specs.declared.content.Content.{Content}
use Rattle.compose_words.specs.declared.item.Item.{Item}
use Rattle.compose_words.specs.declared.item.Role.{Role}
use Rattle.compose_words.specs.declared.item.Value.{Value}
use Rattle.compose_words.specs.declared.options.Options.{Options}
use Rattle.compose_words.specs.declared.options.Scale.{Scale}
use Rattle.compose_words.specs.declared.options.Verb.{Verb}
use Rattle.compose_words.specs.declared.refusal.WordsRefusal.{WordsRefusal}
use Rattle.compose_words.specs.declared.table.CommandName.{CommandName}
use Rattle.compose_words.specs.declared.table.CommandRule.{CommandRule}
use Rattle.compose_words.specs.declared.table.OptionName.{OptionName}
use Rattle.compose_words.specs.declared.table.OptionRule.{OptionRule}
use Rattle.compose_words.specs.declared.table.ValueKind.{ValueKind}

-- a number that a kind allows
abbrev Allows : ValueKind → ℕ → Type 0
Allows (ValueKind.Number least most) n = (least ≤ n) × (n ≤ most)
Allows ValueKind.Workers n = (1 ≤ n) × (n ≤ 16)
Allows _ n = Unit {0}

-- a number that an option may have
abbrev OptionAllows : OptionName → ℕ → Type 0
OptionAllows OptionName.Parallel n = (1 ≤ n) × (n ≤ 16)
OptionAllows OptionName.WaitTimeout n = n ≤ 1000000
OptionAllows OptionName.Timeout n = n ≤ 1000000
OptionAllows OptionName.Connections n = (1 ≤ n) × (n ≤ 1000000)
OptionAllows _ n = Unit {0}

-- a number that a command may have
abbrev CommandAllows : CommandName → ℕ → Type 0
CommandAllows CommandName.Simulate n = (1 ≤ n) × (n ≤ 1000)
CommandAllows _ n = Unit {0}

abbrev OptionFits : OptionRule → Type 0
OptionFits rule = (n : ℕ) → Allows rule.value n → OptionAllows rule.name n

abbrev CommandFits : CommandRule → Type 0
CommandFits rule = (n : ℕ) → Allows rule.value n → CommandAllows rule.name n

options_fit : AllByRecursion (λ (names : OptionNames). OptionFits names.rule) option_table
unfolding option_table
options_fit = (λ n h. tt, (λ n h. tt, (λ n h. tt, (λ n h. tt, (λ n h. tt, (λ n h. h, (λ n h. tt, (λ n h. tt, (λ n h. tt, (λ n h. tt, (λ n h. tt, (λ n h. tt, (λ n h. tt, (λ n h. tt, (λ n h. h.1, (λ n h. tt, (λ n h. h.1, (λ n h. tt, (λ n h. h, tt)))))))))))))))))))

commands_fit : AllByRecursion (λ (names : CommandNames). CommandFits names.rule) command_table
unfolding command_table
commands_fit = (λ n h. tt, (λ n h. tt, (λ n h. tt, (λ n h. h, (λ n h. tt, (λ n h. tt, (λ n h. tt, tt)))))))

module _ {X : Type 0} (P : X → Type 0) (test : X → Bool) where
  -- what holds of a head that is taken or not, and of the rest, holds of what is found
  found_first : (b : Bool) (x : X) (rest : Option X) → P x → IfSome rest P → IfSome (cond b (Some x) rest) P
  found_first true x rest p q = p
  found_first false x rest p q = q

  found : (xs : List X) → AllByRecursion P xs → IfSome (find test xs) P
  found [] all = tt
  found (x ∷ xs) all = found_first (test x) x (find test xs) all.0 (found xs all.1)

  -- what holds of each value that is kept
  kept : {Y : Type 0} (Q : Y → Type 0) (h : X → Option Y) → ((x : X) → P x → IfSome (h x) Q) → (xs : List X) → AllByRecursion P xs → IfSome (slice_get (filter_map h xs) 0) Q
  kept Q h each [] all = tt
  kept Q h each (x ∷ xs) all = kept_first Q (h x) (filter_map h xs) (each x all.0) (kept Q h each xs all.1)
    where
      kept_first : {Y : Type 0} (Q : Y → Type 0) (y : Option Y) (rest : List Y) → IfSome y Q → IfSome (slice_get rest 0) Q → IfSome (slice_get (cons_option y rest) 0) Q
      kept_first Q None rest p q = q
      kept_first Q (Some y) rest p q = p

-- what is found in a table, as a rule
rule_found : {X Y : Type 0} (rule : X → Y) (P : Y → Type 0) (o : Option X) → IfSome o (λ x. P (rule x)) → IfSome (option_map rule o) P
rule_found rule P None h = tt
rule_found rule P (Some x) h = h

option_named-fits : (word : List ℕ) → IfSome (option_named word) OptionFits
option_named-fits word = rule_found (λ (names : OptionNames). names.rule) OptionFits _ (found (λ (names : OptionNames). OptionFits names.rule) (is_named word) option_table options_fit)

option_assigned-fits : (word : List ℕ) → IfSome (option_assigned word) OptionFits
option_assigned-fits word = rule_found (λ (names : OptionNames). names.rule) OptionFits _ (found (λ (names : OptionNames). OptionFits names.rule) (is_assignable word) option_table options_fit)

command_named-fits : (word : List ℕ) → IfSome (command_named word) CommandFits
command_named-fits word = rule_found (λ (names : CommandNames). names.rule) CommandFits _ (found (λ (names : CommandNames). CommandFits names.rule) (is_word word) command_table commands_fit)

abbrev RoleFits : Role → Type 0
RoleFits (Role.Option rule) = OptionFits rule
RoleFits (Role.Command rule) = CommandFits rule
RoleFits Role.Stray = Unit {0}

option_role-fits : (o : Option OptionRule) → IfSome o OptionFits → RoleFits (option_role o)
option_role-fits None h = tt
option_role-fits (Some rule) h = h

plain_role-fits : (o : Option OptionRule) (p : Option CommandRule) → IfSome o OptionFits → IfSome p CommandFits → RoleFits (plain_role o p)
plain_role-fits (Some rule) p h k = h
plain_role-fits None (Some rule) h k = k
plain_role-fits None None h k = tt

split-fits : (word : List ℕ) (parts : Option (List ℕ × List ℕ)) → RoleFits (option_map_or (λ parts. option_role (option_assigned parts.0)) parts (plain_role (option_named word) (command_named word)))
split-fits word None = plain_role-fits _ _ (option_named-fits word) (command_named-fits word)
split-fits word (Some parts) = option_role-fits _ (option_assigned-fits parts.0)

role_of-fits : (word : List ℕ) → RoleFits (role_of word)
role_of-fits word = split-fits word (split_at_equals word)

-- what a value says is allowed to its kind
abbrev ContentFits : ValueKind → Content → Type 0
ContentFits kind (Content.Number n) = Allows kind n
ContentFits kind (Content.Scale scale) = scale.number ≤ 100
ContentFits kind _ = Unit {0}

both_within : (a : Bool) (least most n : ℕ) → (a && (leb least n && leb n most)) ≡ true → (least ≤ n) × (n ≤ most)
both_within a least most n e = (grind (arith, nat_tests), grind (arith, nat_tests))

number-fits : (b : Bool) (least most n : ℕ) → (b ≡ true → (least ≤ n) × (n ≤ most)) → ContentFits (ValueKind.Number least most) (cond b (Content.Number n) Content.Wrong)
number-fits true least most n h = h refl
number-fits false least most n h = tt

workers-fits : (all b : Bool) (n : ℕ) → (b ≡ true → (1 ≤ n) × (n ≤ 16)) → ContentFits ValueKind.Workers (cond all (Content.Number 16) (cond b (Content.Number n) Content.Wrong))
workers-fits true b n h = (omega arith, omega arith)
workers-fits false true n h = h refl
workers-fits false false n h = tt

format-fits : (yaml json : Bool) → ContentFits ValueKind.Format (cond yaml (Content.Format false) (cond json (Content.Format true) Content.Wrong))
format-fits true json = tt
format-fits false true = tt
format-fits false false = tt

below_all : (a : Bool) (n : ℕ) → (a && leb n 100) ≡ true → n ≤ 100
below_all a n e = grind (arith, nat_tests)

scale-fits : (empty within : Bool) (scale : Scale) → (within ≡ true → scale.number ≤ 100) → ContentFits ValueKind.Scale (cond empty Content.Wrong (cond within (Content.Scale scale) Content.Wrong))
scale-fits true within scale h = tt
scale-fits false true scale h = h refl
scale-fits false false scale h = tt

scale_of-fits : (service number : List ℕ) → ContentFits ValueKind.Scale (scale_of service number)
scale_of-fits service number = scale-fits (length service == 0) (is_numeral number && leb (digits_value 10 number) 100) (record { service = service; number = digits_value 10 number }) (below_all (is_numeral number) (digits_value 10 number))

scale_parts-fit : (parts : Option (List ℕ × List ℕ)) → ContentFits ValueKind.Scale (option_map_or (λ parts. scale_of parts.0 parts.1) parts Content.Wrong)
scale_parts-fit None = tt
scale_parts-fit (Some parts) = scale_of-fits parts.0 parts.1

content_of-fits : (kind : ValueKind) (text : List ℕ) → ContentFits kind (content_of kind text)
content_of-fits ValueKind.Flag text = tt
content_of-fits ValueKind.Text text = tt
content_of-fits (ValueKind.Number least most) text = number-fits _ least most (digits_value 10 text) (both_within (is_numeral text) least most (digits_value 10 text))
content_of-fits ValueKind.Workers text = workers-fits (bytes_eq (codes "-1") text) _ (digits_value 10 text) (both_within (is_numeral text) 1 16 (digits_value 10 text))
content_of-fits ValueKind.Format text = format-fits (bytes_eq (codes "yaml") text) (bytes_eq (codes "json") text)
content_of-fits ValueKind.Scale text = scale_parts-fit (split_at_equals text)

abbrev ValueFits : ValueKind → Option Value → Type 0
ValueFits kind value = IfSome value (λ (v : Value). ContentFits kind v.content)

value_or-fits : (kind : ValueKind) (takes : Bool) (at : ℕ) (own next : Option (List ℕ))
    → ValueFits kind (cond takes (option_or (option_map (value_at kind at) own) (option_map (value_at kind (at + 1)) next)) None)
value_or-fits kind false at own next = tt
value_or-fits kind true at (Some text) next = content_of-fits kind text
value_or-fits kind true at None (Some text) = content_of-fits kind text
value_or-fits kind true at None None = tt

-- an item has a rule of the table, and a number that its kind allows
pub record ItemFits (item : Item) : Type 0 where
  pub role : RoleFits item.role
  pub value : ValueFits (kind_of item.role) item.value

item_of-fits : (at : ℕ) (word : List ℕ) (next : Option (List ℕ)) → ItemFits (item_of at word next)
item_of-fits at word next = record {
  role = role_of-fits word;
  value = value_or-fits (kind_of (role_of word)) (takes_value (kind_of (role_of word))) at (own_text word) next;
}

abbrev pub ItemsFit : List Item → Type 0
ItemsFit items = AllByRecursion ItemFits items

more-fit : (takes : Bool) (xs ys : List Item) → ItemsFit xs → ItemsFit ys → ItemsFit (cond takes xs ys)
more-fit true xs ys h k = h
more-fit false xs ys h k = k

pub items_from-fit : (at : ℕ) (words : List (List ℕ)) → ItemsFit (items_from at words)
items_from-fit at [] = tt
items_from-fit at (word ∷ []) = (item_of-fits at word None, tt)
items_from-fit at (word ∷ next ∷ words) = (item_of-fits at word (Some next), more-fit (takes_next word) _ _ (items_from-fit (at + 2) words) (items_from-fit (at + 1) (next ∷ words)))

-- the options by their numbers
abbrev options_by_number : List OptionName
options_by_number = OptionName.File
    ∷ OptionName.ProjectName
    ∷ OptionName.ProjectDirectory
    ∷ OptionName.Profile
    ∷ OptionName.EnvFile
    ∷ OptionName.Parallel
    ∷ OptionName.Socket
    ∷ OptionName.Memory
    ∷ OptionName.StopFile
    ∷ OptionName.Format
    ∷ OptionName.Quiet
    ∷ OptionName.Detach
    ∷ OptionName.RemoveOrphans
    ∷ OptionName.Wait
    ∷ OptionName.WaitTimeout
    ∷ OptionName.Volumes
    ∷ OptionName.Timeout
    ∷ OptionName.Scale
    ∷ OptionName.Connections
    ∷ []

at_number : (name : OptionName) → slice_get options_by_number (option_number name) ≡ Some name
at_number OptionName.File = refl
at_number OptionName.ProjectName = refl
at_number OptionName.ProjectDirectory = refl
at_number OptionName.Profile = refl
at_number OptionName.EnvFile = refl
at_number OptionName.Parallel = refl
at_number OptionName.Socket = refl
at_number OptionName.Memory = refl
at_number OptionName.StopFile = refl
at_number OptionName.Format = refl
at_number OptionName.Quiet = refl
at_number OptionName.Detach = refl
at_number OptionName.RemoveOrphans = refl
at_number OptionName.Wait = refl
at_number OptionName.WaitTimeout = refl
at_number OptionName.Volumes = refl
at_number OptionName.Timeout = refl
at_number OptionName.Scale = refl
at_number OptionName.Connections = refl

one_option : (a b : OptionName) → same_option a b ≡ true → a ≡ b
one_option a b same =
    let numbers : option_number a ≡ option_number b = eqb-true _ _ same in
    let both : Some a ≡ Some b = sym (at_number a) ∙ ap (slice_get options_by_number) numbers ∙ at_number b in
    cc

-- the number that an item gives to an option is allowed to it
number_given-fits : (name : OptionName) (item : Item) → ItemFits item → IfSome (value_given number_in name item) (OptionAllows name)
number_given-fits name item fits = given (item.role) item.value fits.role fits.value
  where
    allowed : (kind : ValueKind) (content : Content) → ((n : ℕ) → Allows kind n → OptionAllows name n) → ContentFits kind content → IfSome (number_in content) (OptionAllows name)
    allowed kind (Content.Text text) h k = tt
    allowed kind (Content.Number n) h k = h n k
    allowed kind (Content.Format json) h k = tt
    allowed kind (Content.Scale scale) h k = tt
    allowed kind Content.Wrong h k = tt

    valued : (kind : ValueKind) (value : Option Value) → ((n : ℕ) → Allows kind n → OptionAllows name n) → ValueFits kind value → IfSome (option_and_then (λ (v : Value). number_in v.content) value) (OptionAllows name)
    valued kind None h k = tt
    valued kind (Some value) h k = allowed kind value.content h k

    by_test : (same : Bool) (value : Option ℕ) → (same ≡ true → IfSome value (OptionAllows name)) → IfSome (cond same value None) (OptionAllows name)
    by_test true value h = h refl
    by_test false value h = tt

    given : (role : Role) (value : Option Value) → RoleFits role → ValueFits (kind_of role) value
        → IfSome (cond (role_gives name role) (option_and_then (λ (v : Value). number_in v.content) value) None) (OptionAllows name)
    given (Role.Option rule) value h k = by_test (same_option rule.name name) _ (λ e. valued rule.value value (subst (λ (o : OptionName). (n : ℕ) → Allows rule.value n → OptionAllows o n) (one_option rule.name name e) h) k)
    given (Role.Command rule) value h k = tt
    given Role.Stray value h k = tt

pub first_number-fits : (name : OptionName) (items : List Item) → ItemsFit items → IfSome (first_given number_in name items) (OptionAllows name)
first_number-fits name items fit = kept ItemFits (λ _. true) (OptionAllows name) (value_given number_in name) (number_given-fits name) items fit

abbrev VerbFits : Verb → Type 0
VerbFits Verb.Config = Unit {0}
VerbFits Verb.Up = Unit {0}
VerbFits Verb.Down = Unit {0}
VerbFits (Verb.Simulate number) = (1 ≤ number) × (number ≤ 1000)
VerbFits Verb.Wait = Unit {0}
VerbFits Verb.Logs = Unit {0}
VerbFits Verb.EngineSim = Unit {0}

-- the number of a command is allowed to it
verb_of-fits : (item : Item) → ItemFits item → IfSome (verb_of item) VerbFits
verb_of-fits item fits = with_role item.role item.value fits.role fits.value
  where
    simulated : (kind : ValueKind) (content : Content) → ((n : ℕ) → Allows kind n → CommandAllows CommandName.Simulate n) → ContentFits kind content → IfSome (option_map Verb.Simulate (number_in content)) VerbFits
    simulated kind (Content.Text text) h k = tt
    simulated kind (Content.Number n) h k = h n k
    simulated kind (Content.Format json) h k = tt
    simulated kind (Content.Scale scale) h k = tt
    simulated kind Content.Wrong h k = tt

    named : (name : CommandName) (kind : ValueKind) (value : Option Value) → ((n : ℕ) → Allows kind n → CommandAllows name n) → ValueFits kind value → IfSome (verb_named name (option_map (λ (v : Value). v.content) value)) VerbFits
    named CommandName.Config kind value h k = tt
    named CommandName.Up kind value h k = tt
    named CommandName.Down kind value h k = tt
    named CommandName.Wait kind value h k = tt
    named CommandName.Logs kind value h k = tt
    named CommandName.EngineSim kind value h k = tt
    named CommandName.Simulate kind None h k = tt
    named CommandName.Simulate kind (Some value) h k = simulated kind value.content h k

    with_role : (role : Role) (value : Option Value) → RoleFits role → ValueFits (kind_of role) value → IfSome (verb_with value role) VerbFits
    with_role (Role.Option rule) value h k = tt
    with_role (Role.Command rule) value h k = named rule.name rule.value value h k
    with_role Role.Stray value h k = tt

first_verb-fits : (items : List Item) → ItemsFit items → IfSome (first_verb items) VerbFits
first_verb-fits items fit = kept ItemFits (λ _. true) VerbFits verb_of verb_of-fits items fit

workers_or : (o : Option ℕ) → IfSome o (λ n. (1 ≤ n) × (n ≤ 16)) → (1 ≤ unwrap_or o 4) × (unwrap_or o 4 ≤ 16)
workers_or None h = (omega arith, omega arith)
workers_or (Some n) h = h

-- the number of containers that an item gives to a service is allowed
scale_given-fits : (item : Item) → ItemFits item → IfSome (value_given scale_in OptionName.Scale item) (λ (s : Scale). s.number ≤ 100)
scale_given-fits item fits = given (gives OptionName.Scale item) (kind_of item.role) item.value fits.value
  where
    allowed : (kind : ValueKind) (content : Content) → ContentFits kind content → IfSome (scale_in content) (λ (s : Scale). s.number ≤ 100)
    allowed kind (Content.Text text) h = tt
    allowed kind (Content.Number n) h = tt
    allowed kind (Content.Format json) h = tt
    allowed kind (Content.Scale scale) h = h
    allowed kind Content.Wrong h = tt

    given : (same : Bool) (kind : ValueKind) (value : Option Value) → ValueFits kind value → IfSome (cond same (option_and_then (λ (v : Value). scale_in v.content) value) None) (λ (s : Scale). s.number ≤ 100)
    given false kind value h = tt
    given true kind None h = tt
    given true kind (Some value) h = allowed kind value.content h

all_kept : {X Y : Type 0} (P : X → Type 0) (Q : Y → Type 0) (h : X → Option Y) → ((x : X) → P x → IfSome (h x) Q) → (xs : List X) → AllByRecursion P xs → AllByRecursion Q (filter_map h xs)
all_kept {X} {Y} P Q h each [] all = tt
all_kept {X} {Y} P Q h each (x ∷ xs) all = one (h x) (filter_map h xs) (each x all.0) (all_kept P Q h each xs all.1)
  where
    one : (y : Option Y) (rest : List Y) → IfSome y Q → AllByRecursion Q rest → AllByRecursion Q (cons_option y rest)
    one None rest p q = q
    one (Some y) rest p q = (p, q)

scales-fit : (items : List Item) → ItemsFit items → AllByRecursion (λ (s : Scale). s.number ≤ 100) (values_given scale_in OptionName.Scale items)
scales-fit items fit = all_kept ItemFits (λ (s : Scale). s.number ≤ 100) (value_given scale_in OptionName.Scale) scale_given-fits items fit

connections_or : (o : Option ℕ) → IfSome o (λ n. (1 ≤ n) × (n ≤ 1000000)) → (1 ≤ unwrap_or o 1) × (unwrap_or o 1 ≤ 1000000)
connections_or None h = (omega arith, omega arith)
connections_or (Some n) h = h

command_with-bounded : (verb : Verb) (items : List Item) → VerbFits verb → ItemsFit items → CommandIsBounded (command_with verb items)
command_with-bounded Verb.Config items h fit = tt
command_with-bounded Verb.Up items h fit = (first_number-fits OptionName.WaitTimeout items fit, scales-fit items fit)
command_with-bounded Verb.Down items h fit = first_number-fits OptionName.Timeout items fit
command_with-bounded (Verb.Simulate number) items h fit = h
command_with-bounded Verb.Wait items h fit = tt
command_with-bounded Verb.Logs items h fit = tt
command_with-bounded Verb.EngineSim items h fit = connections_or _ (first_number-fits OptionName.Connections items fit)

options_with-bounded : (verb : Verb) (items : List Item) → VerbFits verb → ItemsFit items → IsBounded (options_with verb items)
options_with-bounded verb items h fit = record {
  workers = workers_or _ (first_number-fits OptionName.Parallel items fit);
  command = command_with-bounded verb items h fit;
}

refused_or-bounded : (refusal : Option WordsRefusal) (options : Options) → IsBounded options → IfOk (refused_or refusal options) IsBounded
refused_or-bounded None options h = h
refused_or-bounded (Some refusal) options h = tt

of_verb-bounded : (items : List Item) (verb : Option Verb) → ItemsFit items → IfSome verb VerbFits → IfOk (option_map_or (options_of_verb items) verb (Err WordsRefusal.NoCommand)) IsBounded
of_verb-bounded items None fit h = tt
of_verb-bounded items (Some verb) fit h = refused_or-bounded _ _ (options_with-bounded verb items h fit)

of_words-bounded : (items : List Item) (refusal : Option WordsRefusal) → ItemsFit items → IfOk (and_then options_of_items (refused_or refusal items)) IsBounded
of_words-bounded items None fit = of_verb-bounded items (first_verb items) fit (first_verb-fits items fit)
of_words-bounded items (Some refusal) fit = tt

-- what words mean is bounded
pub options_of-bounded : (words : List (List ℕ)) → IfOk (options_of words) IsBounded
options_of-bounded words = of_words-bounded (items_of words) (first_refusal [] (items_of words)) (items_from-fit 0 words)

-- so is an answer that is what words mean
pub answer-bounded : (answer meant : Result Options WordsRefusal) → IsUnlessMemory answer meant → IfOk meant IsBounded → IfOk answer IsBounded
answer-bounded (Ok options) meant h k = subst (λ (r : Result Options WordsRefusal). IfOk r IsBounded) h k
answer-bounded (Err refusal) meant h k = tt
