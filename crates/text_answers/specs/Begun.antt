-- What whole declarations make of the machine's reader, where more follows; and what is known and counted behind them.
-- Assumes nothing.
use Prim.Native.Nat.{ℕ, ◌+◌}
use native.Mathlib.Omega.{arith}
use Rattle.std.specs.Prelude.{◌≡◌, Bool, true, false, eqb, get_or, if◌then◌else◌}
use Rattle.std.proofs.Math.Path.{refl, ap}
use Rattle.std.proofs.Common.{sym, ◌∙◌, length-append}
use mathlib.Core.List.{List, [], ◌∷◌, ◌++◌, append_assoc}
use Rattle.std.proofs.Math.Option.{none}
use Rattle.std.proofs.Math.ListN.{length}
use Rattle.semantics.specs.Words.{any}
use Rattle.semantics.specs.Kinds as K
use Rattle.semantics.specs.Decode.{none_seen}
use Rattle.promises.specs.Laws.{AllOf, all_split, all_get, all_replicate, over-append, once, if_has}
use Rattle.promises.specs.Counted.{group_of}
use Rattle.text_semantics.specs.Token.{Token}
use Rattle.text_semantics.specs.Grammar.{Name, Text, declare}
use Rattle.text_semantics.specs.Names.{Known, Event, named, events, in_declaration, after, trouble_in}
use Rattle.text_semantics.specs.Meaning.{Owned, number_of, opened_by, declarations, blocks, records}
use Rattle.text_semantics.specs.Meaning as W
use Rattle.text_semantics.specs.Reading.{text_s}
use Rattle.text_machine.specs.Entry.{Draft, begin}
use Rattle.text_machine.specs.Sheet.{Sheet, blank, blocks_of, with_first, bodied, classes}
use Rattle.text_machine.specs.Machine.{at_first}
use Rattle.text_promises.specs.Judged.{of_group}
use Rattle.text_promises.specs.Plain.{declare_plain}
use Rattle.text_agrees.specs.Flow.{flow, effect}
use Rattle.text_agrees.specs.Sheets.{deepness}
use Rattle.text_agrees.specs.Events.{Fewer, fewer_split}
use Rattle.text_agrees.specs.Accounts.{Counting}
use Rattle.text_agrees.specs.Laying.{Short, Fair, shorts_fair}
use Rattle.text_agrees.specs.Declared.{reader, first_at, remembered, remembered-append, declared, declared_all, past_text}
use Rattle.text_agrees.specs.Declared.{bodied_in, past_declaration, declaration_reads, declared_open, nothing_open}
use Rattle.text_agrees.specs.Lines.{declaration_span, calm_split}
use Rattle.text_agrees.specs.Adding.{Adds, beginning, by_patch, by_class, one_adds, one_on, all_adds}
use Rattle.text_agrees.specs.Growing.{lines}
use Rattle.text_agrees.specs.Grown.{opened_in}

-- EVENTS of texts, one behind the other.
pub events-append : (ds es : Text) → events (ds ++ es) ≡ events ds ++ events es
events-append [] es = refl
events-append (d ∷ ds) es =
    ap (λ xs. in_declaration d ++ xs) (events-append ds es) ∙ sym (append_assoc (in_declaration d) (events ds) (events es))

-- DECLARATIONS, and what follows them.
module _ (place : ℕ → ℕ) where
  pub lines_read : (t : Text) (ks : List Known) (x : Name) (p : ℕ) (d : Draft) (s : Sheet) (at : ℕ) (ts : List Token) →
      deepness s ≡ 0 → (y : Name) × (q : ℕ) × (f : Draft)
      × (flow place at (lines t ts) (text_s ∷ []) (reader ks x p d s)
      ≡ flow place (past_text place t at) ts (text_s ∷ [])
      (reader (remembered ks (events t)) y q f (declared_all place ks t at s)))
  unfolding declared_all remembered
  lines_read [] ks x p d s at ts h = (x, p, d, refl)
  lines_read (e ∷ es) ks x p d s at ts h =
      let one = declaration_reads place e ks x p d s at (lines es ts) (nothing_open place s.levels h) in
      let rest = lines_read es (remembered ks (in_declaration e)) one.0 one.1 one.2 (declared place ks e at s)
      (past_declaration e at) ts (declared_open place e ks at s h) in (
        rest.0,
        rest.1,
        rest.2,
        one.3 ∙ rest.3
            ∙ ap (λ (zs : List Known). flow place (past_text place es (past_declaration e at)) ts (text_s ∷ [])
            (reader zs rest.0 rest.1 rest.2
            (declared_all place (remembered ks (in_declaration e)) es (past_declaration e at) (declared place ks e at s))))
            (sym (remembered-append ks (in_declaration e) (events es))),
      )

  pub past_lines : (t : Text) (at : ℕ) → past_text place t at ≡ at + length (lines t [])
  past_lines [] at = omega arith
  past_lines (d ∷ ds) at =
      let a = past_lines ds (past_declaration d at) in
      let b = declaration_span d at in
      let c = ap length (declare_plain d (lines ds [])) ∙ length-append (declare d []) (lines ds []) in
      omega arith

  -- The pile in the first reader is not looked at.
  pub from_first : (ts us : List Token) → (ts ≡ [] → ⊥) → flow place 0 (ts ++ us) (text_s ∷ []) at_first
      ≡ flow place 0 (ts ++ us) (text_s ∷ []) (reader [] [] 0 (begin 0 0 0) blank)
  unfolding flow effect
  from_first [] us h = absurd (h refl)
  from_first (t ∷ ts) us h = refl

  -- So many blocks have been opened.
  blocks_opened : (t : Text) (ks : List Known) (k at : ℕ) (s : Sheet) → Counting s → blocks_of s ≡ k →
      trouble_in ks (events t) ≡ none → Fewer ks (events t) → AllOf Short (blocks ks k at t) →
      blocks_of (declared_all place ks t at s) ≡ k + opened_in t
  unfolding declared_all blocks
  blocks_opened [] ks k at s c e m r h = omega arith
  blocks_opened (d ∷ ts) ks k at s c e m r h =
      let es : List Event = in_declaration d in
      let q : ℕ = at + length (declare d []) in
      let zs : List Known = after ks es in
      let x = calm_split ks es (events ts) m in
      let y = fewer_split ks es (events ts) r in
      let z = all_split Short (W.blocks_of ks k at d) (blocks zs (k + opened_by d) q ts) h in
      let a = one_adds place ks k at s ts c e d x.0 y.0 (shorts_fair (W.blocks_of ks k at d) z.0) in
      let b = blocks_opened ts zs (k + opened_by d) q (declared place ks d at s) a.0.counting a.2 x.1 y.1 z.1 in
      ap blocks_of (one_on place d ts ks at s y.0) ∙ b ∙ omega arith

  -- BEHIND THEM, where none is in trouble, there is room for all names and no record is too long.
  module _ (ds : Text) (calm : trouble_in [] (events ds) ≡ none) (room : Fewer [] (events ds))
      (short : AllOf Short (blocks [] 0 0 ds)) where
    abbrev pub behind : Sheet
    behind = declared_all place [] ds 0 blank

    first_counting : Counting blank
    first_counting = record { wide = refl; little = omega arith }

    fair : AllOf Fair (blocks [] 0 0 ds)
    fair = shorts_fair (blocks [] 0 0 ds) short

    pub behind_counting : Counting behind
    behind_counting = (all_adds place ds [] 0 0 blank first_counting refl calm room fair).0.counting

    pub behind_levels : behind.levels ≡ []
    behind_levels = (all_adds place ds [] 0 0 blank first_counting refl calm room fair).0.levels

    none_seen_lem : (g : ℕ) → get_or none_seen g 0 ≡ 0
    none_seen_lem g = all_get (λ n. n ≡ 0) none_seen g 0 (all_replicate (λ n. n ≡ 0) K.groups 0 refl) refl

    pub behind_counts : (g : ℕ) → get_or behind.seen g 0 ≡ of_group g (records ds)
    unfolding records
    behind_counts g =
        let a = (all_adds place ds [] 0 0 blank first_counting refl calm room fair).0.counts g in
        omega (arith, none_seen_lem g, over-append (λ o. once g (group_of o.entry)) (declarations [] 0 0 ds) (blocks [] 0 0 ds))

    pub behind_blocks : blocks_of behind ≡ opened_in ds
    behind_blocks = let a = blocks_opened ds [] 0 0 blank first_counting refl calm room short in omega arith

    -- The first declaration of all changes nothing of this.
    pub first_same : {A : Type 0} (f : Sheet → A) (p : ℕ) → f (with_first behind p) ≡ f behind → f (first_at p behind) ≡ f behind
    first_same f p e = if_has (λ (s : Sheet). f s ≡ f behind) (eqb behind.total 0) (λ h. e) (λ h. refl)

    -- A class line with its body: its sheet, before the brace opens a block.
    pub record Ready (z : Sheet) : Type 0 where
      pub counting : Counting z
      pub blocks : blocks_of z ≡ opened_in ds
      pub levels : z.levels ≡ []

    pub body_ready : (c : Name) → Ready (bodied_in (after [] (events ds)) c (place (length (lines ds [])))
        (first_at (place (length (lines ds []))) behind))
    body_ready c = go (any (named c) ks)
      where
        ks : List Known
        ks = after [] (events ds)

        at : ℕ
        at = length (lines ds [])

        u : Sheet
        u = first_at (place at) behind

        ready : (z : Sheet) (os : List Owned) → Adds place behind z os [] × (z.first ≡ beginning place at behind)
            × (blocks_of z ≡ opened_in ds + 0) → Ready z
        ready z os a =
            record {
              counting = a.0.counting;
              blocks = let b = a.2 in omega arith;
              levels = a.0.levels ∙ behind_levels;
            }

        go : (b : Bool) → Ready (if b then bodied (number_of ks c) (blocks_of u) u else classes (place at) (blocks_of u) u)
        go true =
            ready _ []
            (by_patch place ks (opened_in ds) at behind [] behind_counting behind_blocks (number_of ks c) (blocks_of u))
        go false = ready _ _ (by_class place ks (opened_in ds) at behind [] behind_counting behind_blocks 0 (blocks_of u))
