-- Steps of the calls that read pieces of a flow collection, which find where a piece ends when they come there.
use Rattle.std.proofs.Common.{◌≡◌, ◌∙◌, ℕ, zero, suc, ◌+◌, ◌-◌, ◌≤◌, List, [], ◌∷◌, ◌++◌, Bool, true, false, not, eqb, leb, if◌then◌else◌, Result, Ok, Err, IfOk, length, drop, refl, sym, ap, subst, inl, inr, arith, length-drop}
use Rattle.std.proofs.lemmas.Bool.{cases_Bool, eqb-true}
use Rattle.std.proofs.lemmas.List.{drop-drop}
use Rattle.yaml_groups.specs.Cuts.{cut_len, is_cut, is_space, open_behind, token_len}
use Rattle.tree_base.specs.declared.tree.Tree.{Tree}
use Rattle.yaml_flow.specs.declared.piece.Piece.{Piece}
use Rattle.yaml_flow.specs.Flow.{PieceReader, at_stop, flow, flow_entry, flow_item, flow_node, flow_properties, flow_value, nothing_before, read_piece}
use Rattle.yaml_flow.specs.Gaps.{next_place}
use Rattle.yaml_flow.specs.Pieces.{is_last_of, is_stop, next_stop, piece_at, stop_from}
use Rattle.yaml_flow.proofs.EndSteps.{Ends, ends_key, ends_stop, past_colon}
use Rattle.yaml_flow.proofs.NodeSteps.{node_end, properties_end, value_end, went_on}
use Rattle.yaml_flow.proofs.ScanSteps.{next_at, stop_le}
use Rattle.yaml_lines.specs.Answers.{Fails, Gives}
use Rattle.yaml_lines.specs.Blanks.{blanks}
use Rattle.yaml_lines.specs.declared.plain.Context.TheVariants.{Flow}
use Rattle.yaml_lines.specs.declared.refusal.YamlFault.TheVariants.{BadFlow}
use Rattle.yaml_lines.specs.declared.refusal.YamlRefusal.{YamlRefusal}
use Rattle.yaml_lines.specs.declared.refusal.YamlRefusal.TheVariants.{Bad, TooDeep, TooManyNodes, TooMuchText, Memory}
use Rattle.yaml_lines.specs.declared.row.Row.{Row}
use Rattle.yaml_lines.specs.Rows.{place_in, text_at}
use Rattle.yaml_nodes.proofs.Chains.{fails_as, fails_on, gives_as, goes_on}
use Rattle.yaml_nodes.proofs.KeySteps.{key_len_read}
use Rattle.yaml_nodes.specs.declared.entries.Entries.{Entries}
use Rattle.yaml_nodes.specs.declared.key.Key.{Key}
use Rattle.yaml_nodes.specs.declared.progress.Progress.{Progress}
use Rattle.yaml_nodes.specs.declared.properties.Properties.{Properties}
use Rattle.yaml_nodes.specs.declared.spot.Spot.TheVariants.{Here}
use Rattle.yaml_nodes.specs.Mappings.{key_at, new_key, with_pair}
use Rattle.yaml_nodes.specs.Marks.{before_colon, is_colon_of, is_key_behind, key_len, starts}
use Rattle.yaml_nodes.specs.Progress.{◌>>=◌, bad, result_left}
use Rattle.yaml_nodes.specs.Properties.{no_properties}
use Rattle.yaml_nodes.specs.Scalars.{Inline}

-- a refusal is one of every type
fails_same : (A B : Type 0) (e f : YamlRefusal) → Fails {X = A} e (Err f) → Fails {X = B} e (Err f)
fails_same A B Memory f h = tt
fails_same A B (Bad which place) f h = let same : f ≡ Bad which place = cc in ap (λ x. Err x) same
fails_same A B (TooDeep place) f h = let same : f ≡ TooDeep place = cc in ap (λ x. Err x) same
fails_same A B (TooManyNodes place) f h = let same : f ≡ TooManyNodes place = cc in ap (λ x. Err x) same
fails_same A B (TooMuchText place) f h = let same : f ≡ TooMuchText place = cc in ap (λ x. Err x) same

fails_decided : (A B : Type 0) (e f : YamlRefusal) (b : Bool) (x : A) (y : B) → Fails {X = A} e (if b then Ok x else Err f) → Fails {X = B} e (if b then Ok y else Err f)
fails_decided A B e f false x y h = fails_same A B e f h
fails_decided A B Memory f true x y h = tt
fails_decided A B (Bad which place) f true x y h = absurd (cc)
fails_decided A B (TooDeep place) f true x y h = absurd (cc)
fails_decided A B (TooManyNodes place) f true x y h = absurd (cc)
fails_decided A B (TooMuchText place) f true x y h = absurd (cc)

module _ (p : Progress) (row : Row) (bracket stop end : ℕ) (ends : Ends row stop end) where
  abbrev piece_to : Piece
  piece_to = record { bracket = bracket; stop = stop }

  fails_from : (e : YamlRefusal) (r : Result ℕ YamlRefusal) → next_place p row false end ≡ r → Fails {X = ℕ} e (r >>= λ at. if is_stop row at then Ok at else bad BadFlow p row bracket)
      → Fails {X = Progress} e (r >>= λ at. if eqb at stop then Ok p else bad BadFlow p row bracket)
  fails_from e (Ok x) h k =
      let t = ends_stop p row stop end x ends h in
      fails_as e _ _ (ap (λ b. if b then Ok p else bad BadFlow p row bracket) (sym t)) (fails_decided ℕ Progress e (Bad BadFlow (place_in p.file row bracket)) (is_stop row x) x p k)
  fails_from e (Err f) h k = fails_same ℕ Progress e f k

  -- what stands behind a node is refused as it is
  stop_fails : (e : YamlRefusal) → Fails e (next_stop p row bracket end) → Fails e (at_stop row piece_to p end)
  stop_fails e h = fails_from e (next_place p row false end) refl h

  stop_ok : (x : ℕ) → next_stop p row bracket end ≡ Ok x → (at_stop row piece_to p end ≡ Ok p) × (x ≡ stop)
  stop_ok x h =
      let a = went_on (next_place p row false end) (λ at. if is_stop row at then Ok at else bad BadFlow p row bracket) x h in
      let read = a.1.1 in
      elim (cases_Bool (is_stop row a.0)) [
        | inl there ↦
            let here : ◌≡◌ {A = Result ℕ YamlRefusal} (Ok a.0) (Ok x) = rw there at read in
            let same : a.0 ≡ x = cc in
            let t : eqb a.0 stop ≡ true = ends_stop p row stop end a.0 ends a.1.0 ∙ there in
            (goes_on (next_place p row false end) a.0 (λ at. if eqb at stop then Ok p else bad BadFlow p row bracket) a.1.0 ∙ ap (λ b. if b then Ok p else bad BadFlow p row bracket) t, sym same ∙ eqb-true a.0 stop t)
        | inr other ↦ let no = rw other at read in absurd (cc)
      ]

-- a piece from the place on at which something stands
module _ {A : Type 0} (read : PieceReader A) (row : Row) (bracket start at : ℕ) (done : A × Progress) (last : Bool) (there : next_place done.1 row false start ≡ Ok at) where
  same_stop : stop_from row start ≡ stop_from row at
  same_stop = next_at done.1 row start at false there

  abbrev choice : Bool → Result (A × Progress) YamlRefusal
  choice empty = if empty then (if last then Ok done else bad BadFlow done.1 row bracket) else read (piece_at row bracket start) done at

  piece_is : read_piece read row (piece_at row bracket start) last done start ≡ choice (is_stop row at)
  piece_is = goes_on (next_place done.1 row false start) at (λ at. if leb (stop_from row start) at then (if last then Ok done else bad BadFlow done.1 row bracket) else read (piece_at row bracket start) done at) there
      ∙ ap choice (stop_le row at (stop_from row start) same_stop)

  pub full_piece : is_stop row at ≡ false → read_piece read row (piece_at row bracket start) last done start ≡ read (piece_at row bracket at) done at
  full_piece full = piece_is ∙ ap choice full ∙ ap (λ s. read (record { bracket = bracket; stop = s }) done at) same_stop

  pub empty_piece : is_stop row at ≡ true → read_piece read row (piece_at row bracket start) last done start ≡ (if last then Ok done else bad BadFlow done.1 row bracket)
  empty_piece empty = piece_is ∙ ap choice empty

fails_ok : (A B : Type 0) (e : YamlRefusal) (x : A) (y : B) → Fails {X = A} e (Ok x) → Fails {X = B} e (Ok y)
fails_ok A B Memory x y h = tt
fails_ok A B (Bad which place) x y h = absurd (cc)
fails_ok A B (TooDeep place) x y h = absurd (cc)
fails_ok A B (TooManyNodes place) x y h = absurd (cc)
fails_ok A B (TooMuchText place) x y h = absurd (cc)

-- what an empty piece answers
empty_answer : (A : Type 0) (p : Progress) (row : Row) (bracket at : ℕ) (done : A × Progress) (comma : Bool) (r : Result ℕ YamlRefusal) → Gives r (if comma then bad BadFlow p row bracket else Ok at)
    → Gives (result_left r done) (if not comma then Ok done else bad BadFlow p row bracket)
empty_answer A p row bracket at done true (Ok x) h = absurd (cc)
empty_answer A p row bracket at done true (Err e) h = fails_same ℕ (A × Progress) e (Bad BadFlow (place_in p.file row bracket)) h
empty_answer A p row bracket at done false (Ok x) h = refl
empty_answer A p row bracket at done false (Err e) h = fails_ok ℕ (A × Progress) e at done h

-- an empty piece ends where nothing stood before
empty_stop : (p : Progress) (row : Row) (start at : ℕ) → next_place p row false start ≡ Ok at → is_stop row at ≡ true → at ≡ stop_from row start
empty_stop p row start at there empty =
    let same = next_at p row start at false there in
    let t : leb (stop_from row at) at ≡ true = stop_le row at (stop_from row at) refl ∙ empty in
    let none : stop_from row at ≤ at = grind arith in
    omega (arith, same, none)

pub empty_gives : {A : Type 0} (read : PieceReader A) (row : Row) (bracket start at : ℕ) (done : A × Progress) (there : next_place done.1 row false start ≡ Ok at) → is_stop row at ≡ true
    → (r : Result ℕ YamlRefusal) → Gives r (if starts 44 (text_at row at) then bad BadFlow done.1 row bracket else Ok at)
    → Gives (result_left r done) (read_piece read row (piece_at row bracket start) (is_last_of row (piece_at row bracket start)) done start)
empty_gives {A} read row bracket start at done there empty r h =
    let last = is_last_of row (piece_at row bracket start) in
    let here : starts 44 (text_at row at) ≡ starts 44 (text_at row (stop_from row start)) = ap (λ s. starts 44 (text_at row s)) (empty_stop done.1 row start at there empty) in
    let answer = empty_answer A done.1 row bracket at done (starts 44 (text_at row at)) r h in
    gives_as (result_left r done) (empty_piece read row bracket start at done last there empty ∙ ap (λ b. if not b then Ok done else bad BadFlow done.1 row bracket) (sym here)) answer

pub empty_ends : (p : Progress) (row : Row) (bracket start at : ℕ) (there : next_place p row false start ≡ Ok at) → is_stop row at ≡ true → (comma : Bool) (r : Result ℕ YamlRefusal)
    → Gives r (if comma then bad BadFlow p row bracket else Ok at) → IfOk r (λ stop. stop ≡ stop_from row start)
empty_ends p row bracket start at there empty true (Ok x) h = absurd (cc)
empty_ends p row bracket start at there empty false (Ok x) h = let same : at ≡ x = cc in sym same ∙ empty_stop p row start at there empty
empty_ends p row bracket start at there empty comma (Err e) h = tt

cut_within : (n skip : ℕ) (w : Bool) (cs : List ℕ) → cut_len n skip w cs ≤ length cs
cut_within n zero w [] = omega arith
cut_within n (suc skip) w [] = omega arith
cut_within n (suc skip) w (c ∷ cs) = let e = cut_within n skip (is_space c) cs in omega (arith, e)
cut_within n zero w (c ∷ cs) =
    let e = cut_within (open_behind n c) (token_len w (c ∷ cs) - 1) (is_space c) cs in
    elim (cases_Bool (is_cut n c)) [
      | inl cut ↦ rw cut (omega arith)
      | inr uncut ↦ rw uncut (omega (arith, e))
    ]

-- a piece ends within its row
pub stop_within : (row : Row) (start : ℕ) → start ≤ length row.chars → stop_from row start ≤ length row.chars
stop_within row start h = omega (arith, cut_within 0 0 false (text_at row start), length-drop start row.chars)

-- a piece that was read is read as an equal one
pub read_as : {A : Type 0} (read : PieceReader A) (row : Row) (done : A × Progress) (start : ℕ) (piece other : Piece) (next : A × Progress) → piece ≡ other → read_piece read row other (is_last_of row other) done start ≡ Ok next
    → read_piece read row piece (is_last_of row piece) done start ≡ Ok next
read_as read row done start piece other next e h = ap (λ x. read_piece read row x (is_last_of row x) done start) e ∙ h

module _ (levels : ℕ) (row : Row) (bracket : ℕ) (items : List Tree) (p : Progress) (at : ℕ) (got : Inline) (bare : is_key_behind Flow (text_at row at) ≡ false)
    (node : flow_node levels (flow levels) false row (piece_at row at at) at p at ≡ Ok got) (within : got.0.1 ≤ length row.chars) where
  item_is : flow_item levels (flow levels) row (piece_at row bracket at) (items, p) at ≡ (at_stop row (piece_at row bracket at) got.1 got.0.1 >>= λ p. Ok (items ++ got.0.0 ∷ [], p))
  item_is = rw bare (goes_on (flow_node levels (flow levels) false row (piece_at row bracket at) at p at) got (λ got. at_stop row (piece_at row bracket at) got.1 got.0.1 >>= λ p. Ok (items ++ got.0.0 ∷ [], p)) node)

  item_ends : Ends row (stop_from row at) got.0.1
  item_ends = node_end levels false row (piece_at row at at) at p at got refl node within

  pub item_gives : (r : Result ℕ YamlRefusal) → Gives r (next_stop got.1 row bracket got.0.1) → Gives (result_left r (items ++ got.0.0 ∷ [], got.1)) (flow_item levels (flow levels) row (piece_at row bracket at) (items, p) at)
  item_gives (Ok x) h =
      let s = stop_ok got.1 row bracket (stop_from row at) got.0.1 item_ends x h in
      item_is ∙ goes_on (at_stop row (piece_at row bracket at) got.1 got.0.1) got.1 (λ p. Ok (items ++ got.0.0 ∷ [], p)) s.0
  item_gives (Err e) h =
      fails_as e _ _ (sym item_is) (fails_on e (at_stop row (piece_at row bracket at) got.1 got.0.1) (λ p. Ok (items ++ got.0.0 ∷ [], p)) (stop_fails got.1 row bracket (stop_from row at) got.0.1 item_ends e h))

  pub item_stop : (r : Result ℕ YamlRefusal) → Gives r (next_stop got.1 row bracket got.0.1) → IfOk r (λ stop. stop ≡ stop_from row at)
  item_stop (Ok x) h = (stop_ok got.1 row bracket (stop_from row at) got.0.1 item_ends x h).1
  item_stop (Err e) h = tt

-- a node behind its properties
pub node_is : (levels : ℕ) (marks : Bool) (row : Row) (owner : ℕ) (p : Progress) (at behind : ℕ) (found : Properties) → flow_properties 3 marks p row no_properties at ≡ Ok (found, behind)
    → flow_node levels (flow levels) marks row (piece_at row owner at) owner p at ≡ (if is_stop row behind then nothing_before levels found p row owner behind else flow levels found p row behind)
node_is levels marks row owner p at behind found h =
    goes_on (flow_properties 3 marks p row no_properties at) (found, behind) (λ found. if leb (stop_from row at) found.1 then nothing_before levels found.0 p row owner found.1 else flow levels found.0 p row found.1) h
    ∙ ap (λ b. if b then nothing_before levels found p row owner behind else flow levels found p row behind) (stop_le row behind (stop_from row at) (properties_end 3 marks p row no_properties at (found, behind) h))

-- a value behind its colon
pub value_is : (levels : ℕ) (row : Row) (key : ℕ) (p : Progress) (behind at : ℕ) → next_place p row false behind ≡ Ok at
    → flow_value levels (flow levels) row (piece_at row key behind) key p behind true ≡ (if is_stop row at then nothing_before levels no_properties p row key at else flow_node levels (flow levels) true row (piece_at row key at) key p at)
value_is levels row key p behind at h =
    let same = next_at p row behind at false h in
    goes_on (next_place p row false behind) at (λ at. if leb (stop_from row behind) at then nothing_before levels no_properties p row key at else flow_node levels (flow levels) true row (piece_at row key behind) key p at) h
    ∙ ap (λ b. if b then nothing_before levels no_properties p row key at else flow_node levels (flow levels) true row (piece_at row key behind) key p at) (stop_le row at (stop_from row behind) same)
    ∙ ap (λ s. if is_stop row at then nothing_before levels no_properties p row key at else flow_node levels (flow levels) true row (record { bracket = key; stop = s }) key p at) same

module _ (levels : ℕ) (row : Row) (bracket : ℕ) (entries : Entries) (p : Progress) (at : ℕ) (key : Key) (q : Progress) (behind : ℕ) (colon : Bool)
    (read : key_at Flow p row at ≡ Ok key) (fits : at + key.len ≤ length row.chars) (new : new_key entries p row at key ≡ Ok q)
    (colon_is : colon ≡ is_colon_of Flow (text_at row at) (text_at row (at + before_colon Flow (text_at row at))))
    (behind_is : behind ≡ (if colon then at + before_colon Flow (text_at row at) + 1 else at + key.len)) where
  abbrev piece : Piece
  piece = piece_at row bracket at

  abbrev cs : List ℕ
  cs = text_at row at

  len_is : key.len ≡ key_len Flow cs
  len_is = key_len_read Flow p row at key read

  -- a colon behind the key is passed over
  with_colon : colon ≡ true → stop_from row at ≡ stop_from row behind
  with_colon h =
      let n = key_len Flow cs in
      let rest = text_at row (at + n) in
      let b : blanks (drop n cs) ≡ blanks rest = ap blanks (drop-drop n at row.chars) in
      let place : at + before_colon Flow cs ≡ at + n + blanks rest = omega (arith, b) in
      let there : is_colon_of Flow cs (drop (blanks rest) rest) ≡ true = ap (is_colon_of Flow cs) (drop-drop (blanks rest) (at + n) row.chars ∙ sym (ap (text_at row) place)) ∙ sym colon_is ∙ h in
      let next : behind ≡ at + before_colon Flow cs + 1 = behind_is ∙ ap (λ b. if b then at + before_colon Flow cs + 1 else at + key.len) h in
      past_colon row at n refl (omega (arith, fits, len_is)) there ∙ ap (stop_from row) (omega (arith, place, next))

  without_colon : colon ≡ false → Ends row (stop_from row at) behind
  without_colon h =
      let n = key_len Flow cs in
      let next : behind ≡ at + key.len = behind_is ∙ ap (λ b. if b then at + before_colon Flow cs + 1 else at + key.len) h in
      let end : at + n ≡ behind = omega (arith, next, len_is) in
      subst (Ends row (stop_from row at)) end (ends_key row at n refl (omega (arith, fits, len_is)))

  -- the value is read up to the same cut from behind the colon on
  same_value : (colon : Bool) → (colon ≡ true → stop_from row at ≡ stop_from row behind) → flow_value levels (flow levels) row piece at q behind colon ≡ flow_value levels (flow levels) row (piece_at row at behind) at q behind colon
  same_value true h = ap (λ s. flow_value levels (flow levels) row (record { bracket = bracket; stop = s }) at q behind true) (h refl)
  same_value false h = refl

  value_there : flow_value levels (flow levels) row piece at q behind colon ≡ flow_value levels (flow levels) row (piece_at row at behind) at q behind colon
  value_there = same_value colon with_colon

  abbrev behind_pair : Inline → Entries → Result (Entries × Progress) YamlRefusal
  behind_pair got entries = at_stop row piece got.1 got.0.1 >>= λ p. Ok (entries, p)

  abbrev behind_value : Inline → Result (Entries × Progress) YamlRefusal
  behind_value got = with_pair entries got.1 row (Here at) key got.0.0 >>= λ entries. at_stop row piece got.1 got.0.1 >>= λ p. Ok (entries, p)

  entry_is : flow_entry levels (flow levels) row piece (entries, p) at ≡ (flow_value levels (flow levels) row (piece_at row at behind) at q behind colon >>= behind_value)
  entry_is =
      let here = is_colon_of Flow cs (text_at row (at + before_colon Flow cs)) in
      let next : (if here then at + before_colon Flow cs + 1 else at + key.len) ≡ behind = ap (λ b. if b then at + before_colon Flow cs + 1 else at + key.len) (sym colon_is) ∙ sym behind_is in
      goes_on (key_at Flow p row at) key (λ key. new_key entries p row at key >>= λ p.
      flow_value levels (flow levels) row piece at p (if here then at + before_colon Flow cs + 1 else at + key.len) here >>= λ got.
      with_pair entries got.1 row (Here at) key got.0.0 >>= λ entries. at_stop row piece got.1 got.0.1 >>= λ p. Ok (entries, p)) read
      ∙ goes_on (new_key entries p row at key) q (λ p. flow_value levels (flow levels) row piece at p (if here then at + before_colon Flow cs + 1 else at + key.len) here >>= behind_value) new
      ∙ (λ i. flow_value levels (flow levels) row piece at q (next i) (sym colon_is i) >>= behind_value)
      ∙ ap (λ r. r >>= behind_value) value_there

  pub value_fails : (e : YamlRefusal) → Fails e (flow_value levels (flow levels) row (piece_at row at behind) at q behind colon) → Fails e (flow_entry levels (flow levels) row piece (entries, p) at)
  value_fails e h = fails_as e _ _ (sym entry_is) (fails_on e (flow_value levels (flow levels) row (piece_at row at behind) at q behind colon) behind_value h)

  module _ (got : Inline) (value : flow_value levels (flow levels) row (piece_at row at behind) at q behind colon ≡ Ok got) (within : got.0.1 ≤ length row.chars) where
    valued : flow_entry levels (flow levels) row piece (entries, p) at ≡ behind_value got
    valued = entry_is ∙ goes_on (flow_value levels (flow levels) row (piece_at row at behind) at q behind colon) got behind_value value

    pub pair_fails : (e : YamlRefusal) → Fails e (with_pair entries got.1 row (Here at) key got.0.0) → Fails e (flow_entry levels (flow levels) row piece (entries, p) at)
    pair_fails e h = fails_as e _ _ (sym valued) (fails_on e (with_pair entries got.1 row (Here at) key got.0.0) (behind_pair got) h)

    entry_ends : Ends row (stop_from row at) got.0.1
    entry_ends = value_end levels row piece at q behind colon got with_colon without_colon (value_there ∙ value) within

    module _ (pairs : Entries) (pair : with_pair entries got.1 row (Here at) key got.0.0 ≡ Ok pairs) where
      paired : flow_entry levels (flow levels) row piece (entries, p) at ≡ behind_pair got pairs
      paired = valued ∙ goes_on (with_pair entries got.1 row (Here at) key got.0.0) pairs (behind_pair got) pair

      pub entry_gives : (r : Result ℕ YamlRefusal) → Gives r (next_stop got.1 row bracket got.0.1) → Gives (result_left r (pairs, got.1)) (flow_entry levels (flow levels) row piece (entries, p) at)
      entry_gives (Ok x) h =
          let s = stop_ok got.1 row bracket (stop_from row at) got.0.1 entry_ends x h in
          paired ∙ goes_on (at_stop row piece got.1 got.0.1) got.1 (λ p. Ok (pairs, p)) s.0
      entry_gives (Err e) h =
          fails_as e _ _ (sym paired) (fails_on e (at_stop row piece got.1 got.0.1) (λ p. Ok (pairs, p)) (stop_fails got.1 row bracket (stop_from row at) got.0.1 entry_ends e h))

      pub entry_stop : (r : Result ℕ YamlRefusal) → Gives r (next_stop got.1 row bracket got.0.1) → IfOk r (λ stop. stop ≡ stop_from row at)
      entry_stop (Ok x) h = (stop_ok got.1 row bracket (stop_from row at) got.0.1 entry_ends x h).1
      entry_stop (Err e) h = tt
