-- Where nodes of a flow collection end, by what they read as: the scan for the cuts of the collection comes there too.
use Rattle.std.proofs.Common.{◌≡◌, ◌∙◌, ℕ, zero, suc, ◌+◌, ◌-◌, ◌≤◌, ◌<◌, List, [], ◌∷◌, Bool, true, false, ◌||◌, eqb, leb, if◌then◌else◌, Option, Some, None, Result, Ok, Err, length, drop, refl, sym, ap, subst, inl, inr, arith}
use Rattle.std.proofs.lemmas.Bool.{cases_Bool, eqb-true}
use Rattle.std.proofs.lemmas.List.{drop-drop}
use Rattle.yaml_groups.specs.Cuts.{cut_len, cuts, is_closing, is_cut, is_opening, is_space, open_behind, token_len}
use Rattle.yaml_groups.specs.Grouped.{closing}
use Rattle.tree_base.specs.declared.tree.Tree.{Tree}
use Rattle.tree_base.specs.declared.tree.Tree.TheVariants.{Seq}
use Rattle.tree_base.specs.Entries.{value_at}
use Rattle.yaml_flow.specs.declared.piece.Piece.{Piece}
use Rattle.yaml_flow.specs.Flow.{FlowReader, PieceReader, between, flow, flow_entry, flow_item, flow_mapping, flow_node, flow_properties, flow_sequence, flow_value, nothing_before, pieces, read_piece}
use Rattle.yaml_flow.specs.Gaps.{next_place}
use Rattle.yaml_flow.specs.Pieces.{stop_from}
use Rattle.yaml_flow.proofs.EndSteps.{Ends, and_first, and_second, ends_key}
use Rattle.yaml_flow.proofs.Levels.{at_mapping, at_sequence, at_word}
use Rattle.yaml_flow.proofs.ScanSteps.{next_at, run_at, tail_at}
use Rattle.yaml_lines.specs.declared.plain.Context.TheVariants.{Flow}
use Rattle.yaml_lines.specs.declared.refusal.YamlFault.TheVariants.{BadFlow}
use Rattle.yaml_lines.specs.declared.refusal.YamlRefusal.{YamlRefusal}
use Rattle.yaml_lines.specs.declared.row.Row.{Row}
use Rattle.yaml_lines.specs.Plain.{begins_plain, plain_len, plain_of}
use Rattle.yaml_lines.specs.Quoted.{quoted_of}
use Rattle.yaml_lines.specs.Rows.{text_at}
use Rattle.yaml_nodes.proofs.KeySteps.{plain_read}
use Rattle.yaml_nodes.specs.declared.progress.Progress.{Progress}
use Rattle.yaml_nodes.specs.declared.properties.Properties.{Properties}
use Rattle.yaml_nodes.specs.declared.spot.Spot.TheVariants.{Here}
use Rattle.yaml_nodes.specs.Mappings.{merged, no_entries}
use Rattle.yaml_nodes.specs.Marks.{is_property, is_quote, key_len, name_len, properties_len, read_len, starts}
use Rattle.yaml_nodes.specs.Progress.{◌>>=◌, bad, copied, more_text, one_node}
use Rattle.yaml_nodes.specs.Properties.{finished, name_of, no_properties, properties_from, unspelled}
use Rattle.yaml_nodes.specs.Scalars.{Inline, alias, copy_named, ending, nothing, plain_scalar, quoted_scalar, scalar, scalar_at, word}

-- what goes on was read
pub went_on : {A B : Type 0} (r : Result A YamlRefusal) (f : A → Result B YamlRefusal) (y : B) → (r >>= f) ≡ Ok y → (x : A) × ((r ≡ Ok x) × (f x ≡ Ok y))
went_on (Ok x) f y h = (x, (refl, h))
went_on (Err e) f y h = absurd (cc)

uncut_step : (n : ℕ) (w : Bool) (c : ℕ) (cs : List ℕ) → is_cut n c ≡ false → cut_len n 0 w (c ∷ cs) ≡ cut_len (open_behind n c) (token_len w (c ∷ cs) - 1) (is_space c) cs + 1
uncut_step n w c cs h = rw h refl

-- a bracket more stays open, but at a cut
open_more : (n c : ℕ) → is_cut n c ≡ false → open_behind (n + 1) c ≡ open_behind n c + 1
open_more n c h =
    elim (cases_Bool (is_opening c)) [
      | inl opens ↦ rw opens refl
      | inr other ↦ elim (cases_Bool (is_closing c)) [
        | inl close ↦ elim (cases_Bool (eqb n 0)) [
          | inl none ↦ let no : true ≡ false = rw (none, close) at h in absurd (cc)
          | inr some ↦ let more : 0 < n = grind arith in rw (other, close) (omega arith)
        ]
        | inr another ↦ rw (other, another) refl
      ]
    ]

inner_uncut : (n c : ℕ) → is_cut (n + 1) c ≡ false
inner_uncut n c = let some : eqb (n + 1) 0 ≡ false = grind arith in rw some refl

comma_inside : (w : Bool) (c : ℕ) (cs : List ℕ) → eqb c 44 ≡ true → cut_len 1 0 w (c ∷ cs) ≡ cut_len 1 0 false cs + 1
comma_inside w c cs h = ap (λ x. cut_len 1 0 w (x ∷ cs)) (eqb-true c 44 h)

close_inside : (w : Bool) (c : ℕ) (cs : List ℕ) → is_closing c ≡ true → cut_len 1 0 w (c ∷ cs) ≡ cut_len 0 0 false cs + 1
close_inside w c cs h =
    elim (cases_Bool (eqb c 93)) [
      | inl square ↦ ap (λ x. cut_len 1 0 w (x ∷ cs)) (eqb-true c 93 square)
      | inr other ↦ let curly : eqb c 125 ≡ true = rw other at h in ap (λ x. cut_len 1 0 w (x ∷ cs)) (eqb-true c 125 curly)
    ]

closes : (a b : Bool) → (a || b) ≡ true → b ≡ false → a ≡ true
closes true b h k = refl
closes false b h k = let no : false ≡ true = sym k ∙ h in absurd (cc)

-- the bracket that closes a collection ends what its opening bracket holds together for the collection around it
matched : (text : List ℕ) (s n skip : ℕ) (w : Bool) (cs : List ℕ) (k : ℕ) → cs ≡ drop s text → closing text (cuts s n skip w cs) ≡ Some k → s + cut_len (n + 1) skip w cs ≡ k + 1 + cut_len 0 0 false (drop (k + 1) text)
matched text s n zero w [] k e h = absurd (cc)
matched text s n (suc skip) w [] k e h = absurd (cc)
matched text s n (suc skip) w (c ∷ cs) k e h =
    let later = matched text (s + 1) n skip (is_space c) cs k (tail_at text s c cs e) h in
    omega (arith, later)
matched text s n zero w (c ∷ cs) k e h =
    let tail = tail_at text s c cs e in
    let mark : starts 44 (drop s text) ≡ eqb c 44 = ap (starts 44) (sym e) in
    elim (cases_Bool (is_cut n c)) [
      | inl cut ↦
          let here : closing text (s ∷ (if eqb c 44 then cuts (s + 1) 0 0 false cs else [])) ≡ Some k = rw cut at h in
          let none : n ≡ 0 = eqb-true n 0 (and_first (eqb n 0) _ cut) in
          let outer : cut_len (n + 1) 0 w (c ∷ cs) ≡ cut_len 1 0 w (c ∷ cs) = ap (λ m. cut_len (m + 1) 0 w (c ∷ cs)) none in
          elim (cases_Bool (eqb c 44)) [
            | inl comma ↦
                let more : closing text (cuts (s + 1) 0 0 false cs) ≡ Some k = rw (mark, comma) at here in
                let later = matched text (s + 1) 0 0 false cs k tail more in
                let one = comma_inside w c cs comma in
                omega (arith, outer, one, later)
            | inr bracket ↦
                let last : ◌≡◌ {A = Option ℕ} (Some s) (Some k) = rw (mark, bracket) at here in
                let same : s ≡ k = cc in
                let one = close_inside w c cs (closes (is_closing c) (eqb c 44) (and_second (eqb n 0) _ cut) bracket) in
                let rest : cut_len 0 0 false cs ≡ cut_len 0 0 false (drop (k + 1) text) = ap (cut_len 0 0 false) (tail ∙ ap (λ y. drop (y + 1) text) same) in
                omega (arith, outer, one, rest, same)
          ]
      | inr uncut ↦
          let later = matched text (s + 1) (open_behind n c) (token_len w (c ∷ cs) - 1) (is_space c) cs k tail (rw uncut at h) in
          let one = uncut_step (n + 1) w c cs (inner_uncut n c) ∙ ap (λ m. cut_len m (token_len w (c ∷ cs) - 1) (is_space c) cs + 1) (open_more n c uncut) in
          omega (arith, one, later)
    ]

-- what is read of a collection ends behind the last of its cuts, which is the bracket that closes it
module _ {A : Type 0} (read : PieceReader A) (row : Row) (bracket close : ℕ) where
  pieces_end : (done : A × Progress) (start : ℕ) (stops : List ℕ) (got : (A × ℕ) × Progress) → pieces read row bracket close done start stops ≡ Ok got → (k : ℕ) × ((closing row.chars stops ≡ Some k) × (got.0.1 ≡ k + 1))
  pieces_end done start [] got h =
      let b = went_on (read_piece read row (record { bracket = bracket; stop = length row.chars }) true done start) (λ done. bad BadFlow done.1 row bracket) got h in
      let no = b.1.1 in
      absurd (cc)
  pieces_end done start (stop ∷ stops) got h =
      elim (cases_Bool (starts 44 (text_at row stop))) [
        | inl comma ↦
            let b = went_on (read_piece read row (record { bracket = bracket; stop = stop }) false done start) (λ done. pieces read row bracket close done (stop + 1) stops) got (rw comma at h) in
            let later = pieces_end b.0 (stop + 1) stops got b.1.1 in
            (later.0, (ap (λ t. if t then closing row.chars stops else Some stop) comma ∙ later.1.0, later.1.1))
        | inr other ↦
            let b = went_on (read_piece read row (record { bracket = bracket; stop = stop }) true done start) (λ done. if starts close (text_at row stop) then Ok ((done.0, stop + 1), done.1) else bad BadFlow done.1 row bracket) got (rw other at h) in
            (stop, (ap (λ t. if t then closing row.chars stops else Some stop) other, behind stop (starts close (text_at row stop)) b.0 got b.1.1))
      ]
    where
      behind : (stop : ℕ) (shut : Bool) (done : A × Progress) (got : (A × ℕ) × Progress) → (if shut then Ok ((done.0, stop + 1), done.1) else bad BadFlow done.1 row bracket) ≡ Ok got → got.0.1 ≡ stop + 1
      behind stop true done got h =
          let same : ◌≡◌ {A = (A × ℕ) × Progress} ((done.0, stop + 1), done.1) got = cc in
          sym (ap (λ (q : (A × ℕ) × Progress). q.0.1) same)
      behind stop false done got h = absurd (cc)

  between_end : (none : A) (p : Progress) (got : (A × ℕ) × Progress) → cut_len 0 0 false (text_at row bracket) ≡ cut_len 1 0 false (text_at row (bracket + 1)) + 1
      → between read row bracket close none p ≡ Ok got → stop_from row bracket ≡ stop_from row got.0.1
  between_end none p got opens h =
      let end = pieces_end (none, p) (bracket + 1) (cuts (bracket + 1) 0 0 false (text_at row (bracket + 1))) got h in
      let m = matched row.chars (bracket + 1) 0 0 false (text_at row (bracket + 1)) end.0 refl end.1.0 in
      let one : stop_from row bracket ≡ stop_from row (end.0 + 1) = omega (arith, opens, m) in
      one ∙ sym (ap (stop_from row) end.1.1)

-- a bracket opens
opens_square : (cs : List ℕ) → starts 91 cs ≡ true → cut_len 0 0 false cs ≡ cut_len 1 0 false (drop 1 cs) + 1
opens_square [] h = absurd (cc)
opens_square (c ∷ cs) h = ap (λ x. cut_len 0 0 false (x ∷ cs)) (eqb-true c 91 h)

opens_curly : (cs : List ℕ) → starts 123 cs ≡ true → cut_len 0 0 false cs ≡ cut_len 1 0 false (drop 1 cs) + 1
opens_curly [] h = absurd (cc)
opens_curly (c ∷ cs) h = ap (λ x. cut_len 0 0 false (x ∷ cs)) (eqb-true c 123 h)

-- a node that is finished ends where it was to end
ended : (end : ℕ) (found : Properties) (node : Tree × Progress) (got : Inline) → ◌≡◌ {A = Result Inline YamlRefusal} (Ok (ending end (finished found node))) (Ok got) → end ≡ got.0.1
ended end found (tree, p) got h =
    let same : ◌≡◌ {A = Inline} (ending end (finished found (tree, p))) got = cc in
    ap (λ (q : Inline). q.0.1) same

module _ (row : Row) (at : ℕ) where
  sequence_end : (levels below : ℕ) (read : FlowReader) (found : Properties) (p : Progress) (got : Inline) → starts 91 (text_at row at) ≡ true → flow_sequence levels below read found p row at ≡ Ok got → stop_from row at ≡ stop_from row got.0.1
  sequence_end levels below read found p got square h =
      let a = went_on (one_node levels p row at 0) (λ p. between (flow_item below read row) row at 93 [] p >>= λ got. Ok (ending got.0.1 (finished found (Seq got.0.0, got.1)))) got h in
      let b = went_on (between (flow_item below read row) row at 93 [] a.0) (λ got. Ok (ending got.0.1 (finished found (Seq got.0.0, got.1)))) got a.1.1 in
      let e = ended b.0.0.1 found (Seq b.0.0.0, b.0.1) got b.1.1 in
      let opens = opens_square (text_at row at) square ∙ ap (λ t. cut_len 1 0 false t + 1) (drop-drop 1 at row.chars) in
      between_end (flow_item below read row) row at 93 [] a.0 b.0 opens b.1.0 ∙ ap (stop_from row) e

  mapping_end : (levels below : ℕ) (read : FlowReader) (found : Properties) (p : Progress) (got : Inline) → starts 123 (text_at row at) ≡ true → flow_mapping levels below read found p row at ≡ Ok got → stop_from row at ≡ stop_from row got.0.1
  mapping_end levels below read found p got curly h =
      let a = went_on (one_node levels p row at 0) (λ p. between (flow_entry below read row) row at 125 no_entries p >>= λ got. merged got.1 row got.0.0 >>= λ map. Ok (ending got.0.1 (finished found map))) got h in
      let b = went_on (between (flow_entry below read row) row at 125 no_entries a.0) (λ got. merged got.1 row got.0.0 >>= λ map. Ok (ending got.0.1 (finished found map))) got a.1.1 in
      let m = went_on (merged b.0.1 row b.0.0.0) (λ map. Ok (ending b.0.0.1 (finished found map))) got b.1.1 in
      let e = ended b.0.0.1 found m.0 got m.1.1 in
      let opens = opens_curly (text_at row at) curly ∙ ap (λ t. cut_len 1 0 false t + 1) (drop-drop 1 at row.chars) in
      between_end (flow_entry below read row) row at 125 no_entries a.0 b.0 opens b.1.0 ∙ ap (stop_from row) e

  copied_end : (levels : ℕ) (found : Properties) (p : Progress) (named : Option Tree) (n : ℕ) (got : Inline) → copy_named levels found p row at named n ≡ Ok got → got.0.1 ≡ at + n
  copied_end levels found p None n got h = absurd (cc)
  copied_end levels found p (Some tree) n got h =
      let b = went_on (copied levels p row at tree) (λ got. Ok (ending (at + n) (finished found got))) got h in
      sym (ended (at + n) found b.0 got b.1.1)

  scalar_end : (found : Properties) (p : Progress) (tree : Tree) (text : List ℕ) (n : ℕ) (got : Inline) → scalar found p row at tree text n ≡ Ok got → got.0.1 ≡ at + n
  scalar_end found p tree text n got h =
      let b = went_on (more_text p row (Here at) (length text)) (λ p. Ok (ending (at + n) (finished found (tree, p)))) got h in
      sym (ended (at + n) found (tree, b.0) got b.1.1)

  quoted_end : (found : Properties) (p : Progress) (read : Option (List ℕ × ℕ)) (got : Inline) → quoted_scalar found p row at read ≡ Ok got → got.0.1 ≡ at + read_len read
  quoted_end found p None got h = absurd (cc)
  quoted_end found p (Some (cs, n)) got h = scalar_end found p _ _ n got h

  plain_end : (found : Properties) (p : Progress) (read : Option (List ℕ × ℕ)) (got : Inline) → plain_scalar found p row at read ≡ Ok got → got.0.1 ≡ at + read_len read
  plain_end found p None got h = absurd (cc)
  plain_end found p (Some (cs, n)) got h = scalar_end found p _ _ n got h

  star_len : (cs : List ℕ) → starts 42 cs ≡ true → key_len Flow cs ≡ 1 + name_len (drop 1 cs)
  star_len [] h = absurd (cc)
  star_len (c ∷ cs) h = ap (λ x. key_len Flow (x ∷ cs)) (eqb-true c 42 h)

  quote_len : (cs : List ℕ) → is_quote cs ≡ true → read_len (quoted_of cs) ≡ key_len Flow cs
  quote_len cs quote = rw quote refl

  word_len : (cs : List ℕ) → is_quote cs ≡ false → starts 42 cs ≡ false → key_len Flow cs ≡ (if begins_plain cs then plain_len Flow cs else 0)
  word_len cs plain other = rw (plain, other) refl

  -- a word ends as a key there would
  word_end : (levels : ℕ) (found : Properties) (p : Progress) (got : Inline) → word Flow levels found p row at ≡ Ok got → got.0.1 ≡ at + key_len Flow (text_at row at)
  word_end levels found p got h =
      let cs = text_at row at in
      let kind : Progress → Bool → Result Inline YamlRefusal = λ q b. if b then quoted_scalar found q row at (quoted_of cs) else plain_scalar found q row at (plain_of Flow cs) in
      let choice : Bool → Result Inline YamlRefusal = λ b. if b then alias levels found p row at else (one_node levels p row at 0 >>= λ p. scalar_at Flow found p row at) in
      elim (cases_Bool (starts 42 cs)) [
        | inl star ↦
            let b = went_on (unspelled p row found) (λ found. copy_named levels found p row at (value_at p.names (name_of cs)) (1 + name_len (drop 1 cs))) got (sym (ap choice star) ∙ h) in
            copied_end levels b.0 p (value_at p.names (name_of cs)) (1 + name_len (drop 1 cs)) got b.1.1 ∙ ap (λ n. at + n) (sym (star_len cs star))
        | inr other ↦
            let b = went_on (one_node levels p row at 0) (λ p. scalar_at Flow found p row at) got (sym (ap choice other) ∙ h) in
            let read = b.1.1 in
            elim (cases_Bool (is_quote cs)) [
              | inl quote ↦
                  let k : read_len (quoted_of cs) ≡ key_len Flow cs = quote_len cs quote in
                  quoted_end found b.0 (quoted_of cs) got (sym (ap (kind b.0) quote) ∙ read) ∙ ap (λ n. at + n) k
              | inr plain ↦
                  let k : read_len (plain_of Flow cs) ≡ key_len Flow cs = plain_read Flow cs ∙ sym (word_len cs plain other) in
                  plain_end found b.0 (plain_of Flow cs) got (sym (ap (kind b.0) plain) ∙ read) ∙ ap (λ n. at + n) k
            ]
      ]

  -- where a node ends
  pub flow_end : (levels : ℕ) (found : Properties) (p : Progress) (got : Inline) → flow levels found p row at ≡ Ok got → got.0.1 ≤ length row.chars → Ends row (stop_from row at) got.0.1
  flow_end levels found p got h within =
      elim (cases_Bool (starts 91 (text_at row at))) [
        | inl square ↦
            let b = went_on (unspelled p row found) (λ found. flow_sequence levels (levels - 1) (flow (levels - 1)) found p row at) got (sym (at_sequence levels found p row at square) ∙ h) in
            inl (false, sequence_end levels (levels - 1) (flow (levels - 1)) b.0 p got square b.1.1)
        | inr other ↦ elim (cases_Bool (starts 123 (text_at row at))) [
          | inl curly ↦
              let b = went_on (unspelled p row found) (λ found. flow_mapping levels (levels - 1) (flow (levels - 1)) found p row at) got (sym (at_mapping levels found p row at other curly) ∙ h) in
              inl (false, mapping_end levels (levels - 1) (flow (levels - 1)) b.0 p got curly b.1.1)
          | inr another ↦
              let end = word_end levels found p got (sym (at_word levels found p row at other another) ∙ h) in
              let n = key_len Flow (text_at row at) in
              subst (Ends row (stop_from row at)) (sym end) (ends_key row at n refl (omega (arith, end, within)))
        ]
      ]

-- properties are passed over
pub properties_end : (runs : ℕ) (marks : Bool) (p : Progress) (row : Row) (found : Properties) (at : ℕ) (got : Properties × ℕ) → flow_properties runs marks p row found at ≡ Ok got → stop_from row at ≡ stop_from row got.1
properties_end zero marks p row found at got h =
    let same : ◌≡◌ {A = Properties × ℕ} (found, at) got = cc in
    ap (λ (q : Properties × ℕ). stop_from row q.1) same
properties_end (suc runs) marks p row found at got h =
    let cs = text_at row at in
    let n = properties_len 0 cs in
    elim (cases_Bool (is_property cs)) [
      | inl property ↦
          let a = went_on (properties_from marks p row at found 0 cs) (λ found. next_place p row true (at + n) >>= λ at. flow_properties runs marks p row found at) got (rw property at h) in
          let b = went_on (next_place p row true (at + n)) (λ at. flow_properties runs marks p row a.0 at) got a.1.1 in
          run_at row at property ∙ next_at p row (at + n) b.0 true b.1.0 ∙ properties_end runs marks p row a.0 b.0 got b.1.1
      | inr other ↦
          let here : ◌≡◌ {A = Result (Properties × ℕ) YamlRefusal} (Ok (found, at)) (Ok got) = rw other at h in
          let same : ◌≡◌ {A = Properties × ℕ} (found, at) got = cc in
          ap (λ (q : Properties × ℕ). stop_from row q.1) same
    ]

nothing_end : (levels : ℕ) (found : Properties) (p : Progress) (row : Row) (owner end : ℕ) (got : Inline) → nothing_before levels found p row owner end ≡ Ok got → end ≡ got.0.1
nothing_end levels found p row owner end got h =
    let b = went_on (nothing levels found p row owner) (λ got. Ok (ending end got)) got h in
    plainly b.0 b.1.1
  where
    plainly : (node : Tree × Progress) → ◌≡◌ {A = Result Inline YamlRefusal} (Ok (ending end node)) (Ok got) → end ≡ got.0.1
    plainly (tree, p) h =
        let same : ◌≡◌ {A = Inline} (ending end (tree, p)) got = cc in
        ap (λ (q : Inline). q.0.1) same

-- where a node with its properties ends
pub node_end : (levels : ℕ) (marks : Bool) (row : Row) (piece : Piece) (owner : ℕ) (p : Progress) (at : ℕ) (got : Inline) → piece.stop ≡ stop_from row at → flow_node levels (flow levels) marks row piece owner p at ≡ Ok got
    → got.0.1 ≤ length row.chars → Ends row piece.stop got.0.1
node_end levels marks row piece owner p at got stop h within =
    let a = went_on (flow_properties 3 marks p row no_properties at) (λ found. if leb piece.stop found.1 then nothing_before levels found.0 p row owner found.1 else flow levels found.0 p row found.1) got h in
    let there = stop ∙ properties_end 3 marks p row no_properties at a.0 a.1.0 in
    let read = a.1.1 in
    elim (cases_Bool (leb piece.stop a.0.1)) [
      | inl none ↦
          let end = nothing_end levels a.0.0 p row owner a.0.1 got (rw none at read) in
          inl (false, there ∙ ap (stop_from row) end)
      | inr some ↦ subst (λ s. Ends row s got.0.1) (sym there) (flow_end row a.0.1 levels a.0.0 p got (rw some at read) within)
    ]

-- where the value of a key ends
pub value_end : (levels : ℕ) (row : Row) (piece : Piece) (key : ℕ) (p : Progress) (behind : ℕ) (colon : Bool) (got : Inline) → (colon ≡ true → piece.stop ≡ stop_from row behind) → (colon ≡ false → Ends row piece.stop behind)
    → flow_value levels (flow levels) row piece key p behind colon ≡ Ok got → got.0.1 ≤ length row.chars → Ends row piece.stop got.0.1
value_end levels row piece key p behind false got stop bare h within = subst (Ends row piece.stop) (nothing_end levels no_properties p row key behind got h) (bare refl)
value_end levels row piece key p behind true got stop bare h within =
    let a = went_on (next_place p row false behind) (λ at. if leb piece.stop at then nothing_before levels no_properties p row key at else flow_node levels (flow levels) true row piece key p at) got h in
    let there = stop refl ∙ next_at p row behind a.0 false a.1.0 in
    let read = a.1.1 in
    elim (cases_Bool (leb piece.stop a.0)) [
      | inl none ↦
          let end = nothing_end levels no_properties p row key a.0 got (rw none at read) in
          inl (false, there ∙ ap (stop_from row) end)
      | inr some ↦ node_end levels true row piece key p a.0 got there (rw some at read) within
    ]
