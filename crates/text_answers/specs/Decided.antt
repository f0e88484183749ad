-- At a cut the machine finds of the new record what the definitions say: the lines outside of class bodies.
-- Assumes nothing.
use Rattle.std.specs.Prelude.{ℕ, suc, ◌+◌, ◌≤◌, true, ◌&&◌, ltb, length, if◌then◌else◌}
use native.Mathlib.Omega.{arith}
use Rattle.std.proofs.Math.Path.{◌≡◌, refl, sym, ap, ap₂, subst}
use Rattle.std.proofs.Common.{◌∙◌}
use mathlib.Core.List.{List, [], ◌∷◌, ◌++◌, map, append-nil, append_assoc}
use Rattle.std.proofs.Math.Bool.{false, not}
use Rattle.std.proofs.Math.Option.{none, some}
use Rattle.std.proofs.Math.Logic.{inl}
use Rattle.std.proofs.Math.ListN.{get_or}
use Rattle.semantics.specs.Kinds as K
use Rattle.semantics.specs.Record.{Entry}
use Rattle.promises.specs.Laws.{AllOf, all_split}
use Rattle.promises.specs.Counted.{group_of, limits}
use Rattle.text_semantics.specs.Token as Tk
use Rattle.text_semantics.specs.Token.{Token, mark}
use Rattle.text_semantics.specs.Grammar.{Name, Declaration, Text, spell_text}
use Rattle.text_semantics.specs.Names.{events, trouble_in}
use Rattle.text_semantics.specs.Meaning.{Owned, owned, blocks, records}
use Rattle.text_semantics.specs.Table.{Rule}
use Rattle.text_semantics.specs.Reading.{Symbol, Of, say, step, text_s, few_s, body_s}
use Rattle.text_semantics.specs.Answer.{is_cut}
use Rattle.text_machine.specs.Entry.{Draft, begin}
use Rattle.text_machine.specs.Sheet.{Sheet, blank}
use Rattle.text_machine.specs.Machine.{Reader, at_first, draft_after, after as then, faulty, over_limit, cut_at}
use Rattle.text_promises.specs.Judged.{good, most, of_group}
use Rattle.text_promises.specs.Fitting.{records_fit, records_block}
use Rattle.text_promises.specs.Says.{Fits}
use Rattle.text_promises.specs.Plain.{two}
use Rattle.text_agrees.specs.Flow.{flow, effect}
use Rattle.text_agrees.specs.Events.{piled_from, Fewer}
use Rattle.text_agrees.specs.Laying.{Short}
use Rattle.text_agrees.specs.Closing.{closers}
use Rattle.text_agrees.specs.Declared.{reader, first_at}
use Rattle.text_agrees.specs.Lines.{all_known}
use Rattle.text_agrees.specs.Growing.{Line, braces, lines, lines_last, lines_plain}
use Rattle.text_agrees.specs.Whole.{in_blocks}
use Rattle.text_agrees.specs.Grown.{known_in, opened_in, declared, built, grown_line}
use Rattle.text_answers.specs.Cutting.{Joined, Found}
use Rattle.text_answers.specs.Drawn.{Drawn, declaration_tested}
use Rattle.text_answers.specs.Acted.{ender, Ending, Leads}
use Rattle.text_answers.specs.Stated as St
use Rattle.text_answers.specs.Stated.{line_off, line_on, line_leads, class_leads, plain_entry, plain_declares}
use Rattle.text_answers.specs.Halted.{halts, not_text, cut_is, fault_at, before, with_token, Arrives, is_left, with_other}
use Rattle.text_answers.specs.Halted.{is_line}
use Rattle.text_answers.specs.Halted.{is_class}
use Rattle.text_answers.specs.Lined.{line_plain, line_tokens}
use Rattle.text_answers.specs.Begun.{lines_read, past_lines, from_first, behind, behind_counting}
use Rattle.text_answers.specs.Begun.{behind_counts, first_same}
use Rattle.text_answers.specs.Founds.{none_declared, found_declaration}

module _ (place : ℕ → ℕ) (ts : List Token) (t : Token) (h : is_cut t ≡ true) (s : Symbol) (ss : List Symbol)
    (p : piled_from ts (text_s ∷ []) ≡ s ∷ ss) (x : Rule Of say s t) (e : step s t ≡ some x) where
  abbrev pub r : Reader
  r = before place ts s ss p

  abbrev pub d : Draft
  d = (flow place 0 (ts ++ (t ∷ [])) (text_s ∷ []) at_first).draft

  -- WHAT COMES OF A CUT: locals change nothing, and are not looked at; of anything else is found what is so.
  pub data Decided (old new : List Owned) : Type 0 where
    unlooked : (n : ℕ) → s ≡ few_s n → new ≡ old → Decided old new
    looked : ((n : ℕ) → s ≡ few_s n → ⊥) → (j : Joined old new) → Found place old new j d (fault_at s r.sheet d) →
        Decided old new

  -- The draft is the one with the cut; and there the limits are looked at, unless locals were declared.
  pub draft_is : d ≡ draft_after r s t (place (0 + length ts))
  unfolding effect then
  draft_is = ap (λ (v : Reader). v.draft) (with_token place ts s ss p t)

  pub cut_looks : ((n : ℕ) → s ≡ few_s n → ⊥) → (z : Sheet) → cut_at r d s t z ≡ over_limit z d (fault_at s r.sheet d)
  cut_looks f z = cut_is r d s z x h e f

  some_tokens : ts ≡ [] → ⊥
  unfolding piled_from
  some_tokens f =
      not_text s (halts s x h e) (let z = ap (λ us. piled_from us (text_s ∷ [])) (sym f) ∙ p in let q : s ≡ text_s = cc in q)

  -- From the first token on.
  started : (us vs : List Token) → ts ++ us ≡ vs → flow place 0 (ts ++ us) (text_s ∷ []) at_first
      ≡ flow place 0 vs (text_s ∷ []) (reader [] [] 0 (begin 0 0 0) blank)
  started us vs f =
      from_first place ts us some_tokens ∙ ap (λ us. flow place 0 us (text_s ∷ []) (reader [] [] 0 (begin 0 0 0) blank)) f

  -- A LINE other than a class: what its tokens led to is the reader, and its draft is the record.
  pub record Lined (z : Sheet) (o : Owned) : Type 0 where
    pub not_local : (n : ℕ) → s ≡ few_s n → ⊥
    pub fault : fault_at s r.sheet d ≡ faulty z d
    pub drawn : Drawn place d o

  abbrev pub Left : ℕ → Symbol → Sheet → Owned → Reader → Type 0
  Left j top z o q = (q.sheet ≡ z) × ((i : ℕ) → Drawn place (draft_after q top (ender j) i) o)

  pub lined : (j : ℕ) (top : Symbol) (z : Sheet) (o : Owned) → Ending j top → ender j ≡ t → length z.seen ≡ K.groups →
      Arrives place ts s ss p top (Left j top z o) → Lined z o
  unfolding effect then
  lined j top z o k f l a =
      let on : (q : Reader) → Left j top z o q → q.sheet ≡ z = λ q w. w.0 in
      let y = is_line place ts s ss p top (Left j top z o) a z on l k in
      let w = with_other place ts s ss p top (Left j top z o) a t in
      let q : Reader = w.0 in
      let i : d ≡ draft_after q top (ender j) (place w.1) =
      ap (λ (v : Reader). v.draft) (with_token place ts s ss p t ∙ w.3)
      ∙ ap (λ u. draft_after q top u (place w.1)) (sym f) in
      record {
        not_local = y.1;
        fault = ap (λ b. if b then false else faulty r.sheet d) y.0
            ∙ ap (λ v. faulty v d) (on r (is_left place ts s ss p top (Left j top z o) a));
        drawn = subst (λ v. Drawn place v o) (sym i) (w.2.1 (place w.1));
      }

  -- BEHIND DECLARATIONS of which none is in trouble, with room for all names, and no record too long.
  module _ (ds : Text) (calm : trouble_in [] (events ds) ≡ none) (room : Fewer [] (events ds))
      (short : AllOf Short (blocks [] 0 0 ds)) where
    abbrev pub at : ℕ
    at = length (lines ds [])

    abbrev pub sheet : Sheet
    sheet = behind place ds calm room short

    abbrev pub first : Sheet
    first = first_at (place at) sheet

    pub to_line : (us vs : List Token) → ts ++ us ≡ lines ds vs → (y : Name) × (q : ℕ) × (f : Draft)
        × (flow place 0 (ts ++ us) (text_s ∷ []) at_first ≡ flow place at vs (text_s ∷ []) (reader (known_in ds) y q f sheet))
    to_line us vs g =
        let a = lines_read place ds [] [] 0 (begin 0 0 0) blank 0 vs refl in (
          a.0,
          a.1,
          a.2,
          started us (lines ds vs) g ∙ a.3
              ∙ ap₂ (λ n ks. flow place n vs (text_s ∷ []) (reader ks a.0 a.1 a.2 sheet))
              (past_lines place ds 0 ∙ omega arith) (all_known [] (events ds) room),
        )

    pub first_wide : length first.seen ≡ K.groups
    first_wide =
        ap length (first_same place ds calm room short (λ v. v.seen) (place at) refl)
        ∙ (behind_counting place ds calm room short).wide

    module _ {g : Declaration} (l : Line g 0) (m : ℕ) (sp : spell_text (ds ++ (g ∷ [])) [] ≡ (ts ++ (t ∷ [])) ++ closers m) where
      tokens : (ender 0 ≡ t) × ((us : List Token) → ts ++ us ≡ lines ds (line_off l us))
      unfolding closers
      tokens =
          line_tokens (λ us. lines ds (line_off l us)) (two (lines ds) (line_off l) (lines_plain ds) (line_plain l)) 0 0 ts t m h
          (ap (λ us. lines ds us) (sym (line_on l (mark Tk.END ∷ []))) ∙ sym (lines_last ds g) ∙ sp)

      module _ {w : Entry} (pl : St.Plain (known_in ds) g l w) where
        abbrev o : Owned
        o = owned w at

        lead : Leads place (line_off l) at (text_s ∷ []) (known_in ds) sheet 0 first o
        lead = line_leads place (known_in ds) sheet at pl

        arrives : Arrives place ts s ss p lead.top (Left 0 lead.top first o)
        arrives us =
            let a = to_line us (line_off l us) (tokens.1 us) in (
              reader lead.known a.0 a.1 (lead.draft a.0 a.1) first,
              lead.to,
              lead.under,
              (refl, λ i. lead.drawn a.0 a.1 i),
              a.3 ∙ lead.goes a.0 a.1 a.2 us,
            )

        line_lined : Lined first o
        line_lined = lined 0 lead.top first o lead.ends tokens.0 first_wide arrives

        joined : Joined (records ds) (records (ds ++ (g ∷ [])))
        unfolding records
        joined =
            let a = grown_line ds l in
            record {
              first = declared ds;
              ps = [];
              o = o;
              rest = built ds;
              more = [];
              was = refl;
              is = ap₂ (λ xs ys. xs ++ ys)
                  (a.0 ∙ ap (λ xs. declared ds ++ map (λ v. owned v at) xs) (plain_entry pl (opened_in ds))) a.1
                  ∙ append_assoc (declared ds) (o ∷ []) (built ds)
                  ∙ ap (λ xs. declared ds ++ (o ∷ xs)) (sym (append-nil (built ds)));
              before = inl refl;
              opened = inl refl;
            }

        fits : Fits w
        unfolding joined
        fits =
            let a = records_fit (ds ++ (g ∷ [])) in
            (all_split (λ v. Fits v.entry) (declared ds) (o ∷ (built ds ++ []))
            (subst (λ os. AllOf (λ v. Fits v.entry) os) joined.is a)).1.0

        none_behind : of_group (group_of w) (built ds ++ []) ≡ 0
        none_behind =
            ap (of_group (group_of w)) (append-nil (built ds))
            ∙ none_declared (built ds) w (in_blocks (built ds) (records_block ds)) (plain_declares pl).0

        pub plain_decided : ((i : ℕ) → of_group i (records ds) ≤ get_or limits i 0) →
            Decided (records ds) (records (ds ++ (g ∷ [])))
        unfolding joined
        plain_decided roomy =
            let y = line_lined in
            let k = plain_declares pl in
            let counts : get_or first.seen (group_of w) 0 ≡ of_group (group_of w) (records ds) =
            first_same place ds calm room short (λ v. get_or v.seen (group_of w) 0) (place at) refl
            ∙ behind_counts place ds calm room short (group_of w) in
            looked y.not_local joined
            (found_declaration joined place d roomy (λ b q. absurd (no_blocks q)) (fault_at s r.sheet d)
            (y.fault ∙ declaration_tested y.drawn fits k.0 first first_wide
            ∙ ap (λ n. not (ltb n (most w) && good w)) counts) k.1 k.2 refl none_behind y.drawn.line)
          where
            no_blocks : {b : Owned} → [] ≡ b ∷ [] → ⊥
            no_blocks q = let v : ◌≡◌ {A = ℕ} 0 1 = cc in omega arith

    -- A CLASS LINE, of which the draft has the place only.
    module _ (c : Name) {g : Declaration} {j : ℕ} (l : Line g j)
        (off : (us : List Token) → line_off l us ≡ mark Tk.CLASS ∷ Tk.name c ∷ us)
        (m : ℕ) (sp : spell_text (ds ++ (g ∷ [])) [] ≡ (ts ++ (t ∷ [])) ++ closers m)
        (br : braces j (mark Tk.END ∷ []) ≡ closers j) where
      abbrev Named : Reader → Type 0
      Named q = (q.sheet ≡ first) × (q.draft.line ≡ place at)

      spelled : (us : List Token) → ts ++ us ≡ lines ds (mark Tk.CLASS ∷ Tk.name c ∷ us)
      spelled us =
          (line_tokens (λ us. lines ds (line_off l us)) (two (lines ds) (line_off l) (lines_plain ds) (line_plain l)) j j ts t m h
          (ap (λ us. lines ds (line_off l (ender j ∷ us))) (sym br)
          ∙ ap (λ us. lines ds us) (sym (line_on l (mark Tk.END ∷ []))) ∙ sym (lines_last ds g) ∙ sp)).1 us
          ∙ ap (λ us. lines ds us) (off us)

      to_class : Arrives place ts s ss p body_s Named
      to_class us =
          let a = to_line us (mark Tk.CLASS ∷ Tk.name c ∷ us) (spelled us) in (
            reader (known_in ds) c (place (suc at)) (begin (place at) K.CLASS K.CLASS) first,
            suc (suc at),
            text_s ∷ [],
            (refl, refl),
            a.3 ∙ class_leads place (known_in ds) sheet at c a.0 a.1 a.2 us,
          )

      pub class_lined : (s ≡ body_s) × (d.line ≡ place at)
      unfolding effect then draft_after
      class_lined =
          let w = with_other place ts s ss p body_s Named to_class t in (
            is_class place ts s ss p body_s Named to_class first (λ q y. y.0) first_wide refl (halts s x h e),
            ap (λ (v : Reader). v.draft.line) (with_token place ts s ss p t ∙ w.3) ∙ w.2.1,
          )

      pub class_decided : {old new : List Owned} → (j : Joined old new) → Found place old new j d false → Decided old new
      class_decided k f =
          let y = class_lined.0 in
          looked (λ n q. apart (sym y ∙ q)) k
          (subst (λ b. Found place _ _ k d b) (sym (ap (λ v. fault_at v r.sheet d) y)) f)
        where
          apart : {n : ℕ} → body_s ≡ few_s n → ⊥
          apart q = let v : ◌≡◌ {A = ℕ} 0 1 = cc in omega arith
