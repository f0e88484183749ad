-- What a whole text writes: behind it the machine's sheet has the records of the definitions.
-- Assumes nothing.
use Rattle.std.specs.Prelude.{ℕ, ◌+◌, ◌≤◌, ◌≡◌, false, ◌||◌, eqb, get_or}
use native.Mathlib.Omega.{arith}
use Rattle.std.proofs.Math.Path.{refl, sym, ap, ap₂}
use Rattle.std.proofs.Common.{◌∙◌, eqb-true, ne_eqb}
use mathlib.Core.List.{List, [], ◌∷◌, ◌++◌, map, append-nil}
use Rattle.std.proofs.Math.Option.{none}
use Rattle.std.proofs.Math.ListN.{length, length-append}
use Rattle.std.proofs.lemmas.Bool.{eqb-false, not-false}
use Rattle.semantics.specs.Numbers as F
use Rattle.semantics.specs.Kinds as K
use Rattle.semantics.specs.Record.{Entry}
use Rattle.semantics.specs.Decode.{none_seen}
use Rattle.promises.specs.Laws.{not-true, or-false, or-true, AllOf, all_split, all_get, all_replicate, over-append, once}
use Rattle.promises.specs.Laws.{once_apart}
use Rattle.promises.specs.Counted.{group_of}
use Rattle.text_semantics.specs.Grammar as G
use Rattle.text_semantics.specs.Grammar.{Declaration, Text, declare}
use Rattle.text_semantics.specs.Names.{Known, events, in_declaration, after, trouble_in}
use Rattle.text_semantics.specs.Meaning as W
use Rattle.text_semantics.specs.Meaning.{Owned, owned, entry_of, opened_by, declarations, blocks, records}
use Rattle.text_semantics.specs.Written.{bytes_of, file_of}
use Rattle.text_machine.specs.Sheet.{Sheet, added, blank, blocks_from, file}
use Rattle.text_promises.specs.Judged.{of_group, Declarations, Blocks}
use Rattle.text_promises.specs.Judged as J
use Rattle.text_promises.specs.Cuts.{bytes_long}
use Rattle.text_promises.specs.Says.{is_block}
use Rattle.text_promises.specs.Fitting.{records_declare, records_block}
use Rattle.text_agrees.specs.Notes.{file_append}
use Rattle.text_agrees.specs.Accounts.{Counting}
use Rattle.text_agrees.specs.Laying.{Short, Fair, shorts_fair}
use Rattle.text_agrees.specs.Layout.{last_line, last_append}
use Rattle.text_agrees.specs.Events.{Fewer, fewer_split}
use Rattle.text_agrees.specs.Declared.{declared, declared_all}
use Rattle.text_agrees.specs.Lines.{calm_split}
use Rattle.text_agrees.specs.Adding.{Adds, is_class, class_lines, lines_append, one_adds, one_on, all_adds}
use Rattle.text_agrees.specs.Patches.{all_held}

-- WHAT A TEXT COUNTS on a sheet z, and the lines of its classes if they aren't too many.
pub record TextCounts (place : ℕ → ℕ) (t : Text) (z : Sheet) : Type 0 where
  pub counts : (g : ℕ) → get_or z.seen g 0 ≡ of_group g (records t)
  pub total : z.total ≡ added 0 (length (file_of (records t)))
  pub first : (o : Owned) (os : List Owned) → records t ≡ o ∷ os → z.first ≡ place o.owner
  pub last : z.last_line ≡ last_line place 0 (records t)
  pub classes : of_group K.CLASS (records t) ≤ F.most_classes
      → (z.class_line ≡ class_lines place (records t)) × (length z.class_at ≡ of_group K.CLASS (records t))
  pub levels : z.levels ≡ []

-- WHAT IT WRITES: its file, too, if nothing lacked room.
pub record TextWrites (place : ℕ → ℕ) (t : Text) (z : Sheet) : Type 0 where
  pub counts : (g : ℕ) → get_or z.seen g 0 ≡ of_group g (records t)
  pub total : z.total ≡ added 0 (length (file_of (records t)))
  pub laid : z.full ≡ false → file z ≡ file_of (records t)
  pub first : (o : Owned) (os : List Owned) → records t ≡ o ∷ os → z.first ≡ place o.owner
  pub last : z.last_line ≡ last_line place 0 (records t)
  pub few : z.full ≡ false → of_group K.CLASS (records t) ≤ F.most_classes
  pub classes : of_group K.CLASS (records t) ≤ F.most_classes
      → (z.class_line ≡ class_lines place (records t)) × (length z.class_at ≡ of_group K.CLASS (records t))
  pub levels : z.levels ≡ []

-- Declarations are no actions, and no class stands in a block.
idle : (place : ℕ → ℕ) (p : ℕ) (os : List Owned) → Declarations os → last_line place p os ≡ p
idle place p [] h = refl
idle place p (o ∷ os) h =
    let g : ℕ = group_of o.entry in
    let a = or-false (eqb g K.BLOCK) (eqb g K.ACTION) (not-true (eqb g K.BLOCK || eqb g K.ACTION) h.0) in
    rw a.1 (idle place p os h.1)

no_class : (o : Owned) → J.declares o.entry ≡ false → is_class o ≡ false
no_class o h =
    let g : ℕ = group_of o.entry in
    or-true (eqb g K.BLOCK) (eqb g K.ACTION) (not-false (eqb g K.BLOCK || eqb g K.ACTION) h) (is_class o ≡ false)
    (λ e. let a = eqb-true g K.BLOCK e in ne_eqb K.CLASS g (λ i. omega arith))
    (λ e. let a = eqb-true g K.ACTION e in ne_eqb K.CLASS g (λ i. omega arith))

no_classes : (place : ℕ → ℕ) (os : List Owned) → AllOf (λ o. J.declares o.entry ≡ false) os → class_lines place os ≡ []
no_classes place [] h = refl
no_classes place (o ∷ os) h = rw (no_class o h.0) (no_classes place os h.1)

none_of : (os : List Owned) → AllOf (λ o. J.declares o.entry ≡ false) os → of_group K.CLASS os ≡ 0
none_of [] h = refl
none_of (o ∷ os) h =
    let a = once_apart K.CLASS (group_of o.entry) (eqb-false K.CLASS (group_of o.entry) (no_class o h.0)) in
    let b = none_of os h.1 in omega arith

pub in_blocks : (os : List Owned) → Blocks os → AllOf (λ o. J.declares o.entry ≡ false) os
in_blocks [] h = tt
in_blocks (o ∷ os) h = ((is_block o.entry h.0).1, h.1)

-- The first declaration of all writes a record.
leads : (d : Declaration) (ts : Text) → (e : Entry) × (entry_of [] 0 d ts ≡ e ∷ [])
leads (G.res x n) ts = (_, refl)
leads (G.bin x n) ts = (_, refl)
leads (G.sync x) ts = (_, refl)
leads (G.var x n) ts = (_, refl)
leads (G.sampler x a b n) ts = (_, refl)
leads (G.class x b) ts = (_, refl)
leads (G.entity x n) ts = (_, refl)

nothing_counted : Counting blank
nothing_counted = record { wide = refl; little = omega arith }

none_seen_lem : (g : ℕ) → get_or none_seen g 0 ≡ 0
none_seen_lem g = all_get (λ n. n ≡ 0) none_seen g 0 (all_replicate (λ n. n ≡ 0) K.groups 0 refl) refl

-- It is told where the length is too much.
told_first : (place : ℕ → ℕ) (t : Text) → trouble_in [] (events t) ≡ none → Fewer [] (events t) → AllOf Fair (blocks [] 0 0 t)
    → (o : Owned) (os : List Owned) → records t ≡ o ∷ os → (declared_all place [] t 0 blank).first ≡ place o.owner
unfolding records declarations blocks
told_first place [] m r h o os e = let z : ◌≡◌ {A = ℕ} 0 1 = cc in absurd (omega arith)
told_first place (d ∷ ts) m r h o os e =
    let x = calm_split [] (in_declaration d) (events ts) m in
    let y = fewer_split [] (in_declaration d) (events ts) r in
    let q : ℕ = 0 + length (declare d []) in
    let ks : List Known = after [] (in_declaration d) in
    let i = all_split Fair (W.blocks_of [] 0 0 d) (blocks ks (0 + opened_by d) q ts) h in
    let a = one_adds place [] 0 0 blank ts nothing_counted refl d x.0 y.0 i.0 in
    let v : Sheet = declared place [] d 0 blank in
    let b = all_adds place ts ks (0 + opened_by d) q v a.0.counting a.2 x.1 y.1 i.1 in
    let l = leads d ts in
    let n = a.0.total in
    let p = ap (λ zs. length (file_of (map (λ w. owned w 0) zs))) l.1 in
    let w = length-append (bytes_of l.0) [] in
    let g = bytes_long l.0 in
    let own : 0 ≡ o.owner =
    ap head_owner (sym (ap (λ zs. map (λ w. owned w 0) zs ++ declarations ks (0 + opened_by d) q ts
    ++ blocks [] 0 0 (d ∷ ts)) l.1) ∙ e) in
    ap (λ w. w.first) (one_on place d ts [] 0 blank y.0) ∙ b.1 (omega arith) ∙ a.1 ∙ ap place own
  where
    head_owner : List Owned → ℕ
    head_owner [] = 0
    head_owner (o ∷ os) = o.owner

module _ (place : ℕ → ℕ) (t : Text) (calm : trouble_in [] (events t) ≡ none) (room : Fewer [] (events t)) where
  abbrev z : Sheet
  z = declared_all place [] t 0 blank

  abbrev ds : List Owned
  ds = declarations [] 0 0 t

  abbrev bs : List Owned
  bs = blocks [] 0 0 t

  of_group_lem : (g : ℕ) → of_group g (records t) ≡ of_group g ds + of_group g bs
  unfolding records
  of_group_lem g = over-append (λ o. once g (group_of o.entry)) ds bs

  classes_declared : of_group K.CLASS (records t) ≡ of_group K.CLASS ds
  classes_declared = let a = of_group_lem K.CLASS in let b = none_of bs (in_blocks bs (records_block t)) in omega arith

  -- Where every TRY is kept but for its last branch.
  module _ (fair : AllOf Fair (records t)) where
    fair_blocks : AllOf Fair bs
    unfolding records
    fair_blocks = (all_split Fair ds bs fair).1

    adds : Adds place blank z ds bs
    adds = (all_adds place t [] 0 0 blank nothing_counted refl calm room fair_blocks).0

    pub text_counts : TextCounts place t z
    unfolding records
    text_counts =
        record {
          counts = λ g. let a = adds.counts g in let b = none_seen_lem g in let c = of_group_lem g in omega arith;
          total =
              let a = adds.total in
              let b = ap length (file_append ds bs) ∙ length-append (file_of ds) (file_of bs) in omega arith;
          first = told_first place t calm room fair_blocks;
          last =
              (adds.last (omega arith)).0
              ∙ ap (λ p. last_line place p bs) (sym (idle place 0 ds (records_declare t))) ∙ sym (last_append place 0 ds bs);
          classes = λ h.
              let b = classes_declared in
              let a = adds.classes (omega arith) in
              let n = a.1 in (
                a.0 ∙ sym (append-nil (class_lines place ds))
                    ∙ ap (λ ns. class_lines place ds ++ ns) (sym (no_classes place bs (in_blocks bs (records_block t))))
                    ∙ sym (lines_append place ds bs),
                omega arith,
              );
          levels = adds.levels;
        }

  -- Where all records are kept.
  module _ (short : AllOf Short (records t)) where
    short_blocks : AllOf Short bs
    unfolding records
    short_blocks = (all_split Short ds bs short).1

    abbrev fair : AllOf Fair (records t)
    fair = shorts_fair (records t) short

    text_laid : z.full ≡ false → file z ≡ file_of (records t)
    unfolding file blocks_from records
    text_laid f =
        let a = all_held place t [] 0 0 blank [] nothing_counted refl (tt, tt)
        (record { names = refl; bytes = refl; spots = refl }) calm room short_blocks f in
        let b = ((adds fair).blocks short_blocks f (λ j l. refl)).1 in
        ap₂ (λ x y. x ++ y) a b ∙ sym (file_append ds bs)

    pub text_writes : TextWrites place t z
    text_writes =
        let c = text_counts fair in
        record {
          counts = c.counts;
          total = c.total;
          laid = text_laid;
          first = c.first;
          last = c.last;
          few = λ f. let a = ((adds fair).room short_blocks f).1 (omega arith) in let b = classes_declared in omega arith;
          classes = c.classes;
          levels = c.levels;
        }
