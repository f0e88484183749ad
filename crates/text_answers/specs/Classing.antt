-- At a cut in a class's body, the line of that class as the machine's sheet has it.
-- Assumes nothing.
use Prim.Native.Nat.{ℕ, ◌+◌, ◌≤◌, ◌<◌}
use Rattle.std.proofs.Common.{arith, ◌∙◌, ap₂, subst}
use Rattle.std.specs.Prelude.{◌≡◌, Bool, eqb, ltb, get_or, if◌then◌else◌}
use Rattle.std.proofs.Math.Path.{refl, sym, ap}
use mathlib.Core.List.{List, [], ◌∷◌, ◌++◌, map, append-nil, append_assoc}
use Rattle.std.proofs.Math.Bool.{true, false, not}
use Rattle.std.proofs.Math.Option.{none, some}
use Rattle.std.proofs.Math.ListN.{length}
use Rattle.std.proofs.lemmas.List.{length-map}
use Rattle.std.proofs.Math.Seq.{get_or-append_seam}
use Rattle.std.proofs.lemmas.Bool.{lt-leb, eqb-false}
use Rattle.semantics.specs.Words.{any, keep, more}
use Rattle.semantics.specs.Kinds as K
use Rattle.semantics.specs.Numbers as F
use Rattle.semantics.specs.Record as R
use Rattle.promises.specs.Laws.{no_way, not-true, or-false, if_has, AllOf, all_map, all_append, all_split, over-append, once}
use Rattle.promises.specs.Laws.{once_apart, keep-once}
use Rattle.promises.specs.Counted.{group_of}
use Rattle.text_semantics.specs.Numbers as No
use Rattle.text_semantics.specs.Token.{Token}
use Rattle.text_semantics.specs.Grammar as G
use Rattle.text_semantics.specs.Grammar.{Name, Act, Locals, Declaration, Text, declare}
use Rattle.text_semantics.specs.Names.{Known, events, in_declaration, in_locals, named}
use Rattle.text_semantics.specs.Names.{awaited, embodies, after, trouble, trouble_in}
use Rattle.text_semantics.specs.Meaning as W
use Rattle.text_semantics.specs.Meaning.{Owned, owned, number_of, embodied, body_block, entry_of, opened_by, declarations, blocks}
use Rattle.text_semantics.specs.Meaning.{records}
use Rattle.text_semantics.specs.Written.{two}
use Rattle.text_semantics.specs.Reading.{Symbol, Of, say, step, text_s}
use Rattle.text_semantics.specs.Answer.{is_cut}
use Rattle.text_machine.specs.Sheet.{Sheet, blank, blocks_of, headed, with_total, class_bytes, DECLARED, classes, declaring, classed}
use Rattle.text_machine.specs.Sheet.{bodied}
use Rattle.text_promises.specs.Tables.{piled}
use Rattle.text_promises.specs.Judged as J
use Rattle.text_promises.specs.Judged.{of_group, Declarations}
use Rattle.text_promises.specs.Fitting.{records_declare, records_block}
use Rattle.text_agrees.specs.Laying.{Fair}
use Rattle.text_agrees.specs.Layout.{body, body_blocks}
use Rattle.text_agrees.specs.Events.{Fewer, fewer_split, after-append}
use Rattle.text_agrees.specs.Declared.{remembered, first_at, declared, declared_all}
use Rattle.text_agrees.specs.Lines.{in_body, calm_first, calm_split, wants_nothing}
use Rattle.text_agrees.specs.Adding.{is_class, class_lines, lines_append, Adds, all_adds, by_body, one_on}
use Rattle.text_agrees.specs.Whole.{in_blocks, text_counts}
use Rattle.text_agrees.specs.Closing.{cut_tree, cut_reader, cut_account}
use Rattle.text_agrees.specs.Growing.{lines, ending}
use Rattle.text_agrees.specs.Grown as Gr
use Rattle.text_agrees.specs.Grown.{opened_in, opened_last, long_lines, blocks_last, built, known_in, grown_class, grown_body}
use Rattle.text_agrees.specs.Grown.{same_declarations}

-- LISTS. The only one of its sort stands at its place.
only_one : (P : Owned → Type 0) (us : List Owned) (o : Owned) (bs : List Owned) → AllOf (λ q. P q → ⊥) us →
    AllOf (λ q. P q → ⊥) bs → (xs : List Owned) (c : Owned) (ys : List Owned) → P c → us ++ (o ∷ bs) ≡ xs ++ (c ∷ ys) → xs ≡ us
only_one P [] o bs a b [] c ys p e = refl
only_one P [] o bs a b (x ∷ xs) c ys p e =
    let f : bs ≡ xs ++ (c ∷ ys) = cc in
    absurd ((all_split (λ q. P q → ⊥) xs (c ∷ ys) (subst (AllOf (λ q. P q → ⊥)) f b)).1.0 p)
only_one P (q ∷ us) o bs a b [] c ys p e = let f : c ≡ q = cc in absurd (a.0 (subst P f p))
only_one P (q ∷ us) o bs a b (x ∷ xs) c ys p e =
    let f : us ++ (o ∷ bs) ≡ xs ++ (c ∷ ys) = cc in
    let g : x ≡ q = cc in
    ap₂ (λ z zs. z ∷ zs) g (only_one P us o bs a.1 b xs c ys p f)

-- The line of a class, by how many classes come before it.
line_at : (place : ℕ → ℕ) (xs : List Owned) (c : Owned) (ys : List Owned) → is_class c ≡ true →
    get_or (class_lines place (xs ++ (c ∷ ys))) (of_group K.CLASS xs) 0 ≡ place c.owner
line_at place xs c ys h =
    let n : length (class_lines place xs) ≡ of_group K.CLASS xs =
    length-map (keep is_class xs) _ ∙ keep-once K.CLASS (λ o. group_of o.entry) xs in
    ap₂ (λ (ns : List ℕ) (i : ℕ). get_or ns i 0) (lines_append place xs (c ∷ ys) ∙ ap (λ ns. class_lines place xs ++ ns) line)
    (sym n)
    ∙ get_or-append_seam (class_lines place xs) (place c.owner) (class_lines place ys) 0
  where
    line : class_lines place (c ∷ ys) ≡ place c.owner ∷ class_lines place ys
    line = rw h

-- BLOCKS. As many are opened as there are records of them.
pub blocks_opened : (t : Text) (ks : List Known) (k at : ℕ) → of_group K.BLOCK (blocks ks k at t) ≡ opened_in t
unfolding blocks
blocks_opened [] ks k at = refl
blocks_opened (d ∷ ds) ks k at =
    let os : List Owned = blocks (after ks (in_declaration d)) (k + opened_by d) (at + length (declare d [])) ds in
    omega (
      arith,
      over-append (λ o. once K.BLOCK (group_of o.entry)) (W.blocks_of ks k at d) os,
      blocks_opened ds (after ks (in_declaration d)) (k + opened_by d) (at + length (declare d [])),
      one d,
    )
  where
    one : (d : Declaration) → of_group K.BLOCK (W.blocks_of ks k at d) ≡ opened_by d
    one (G.res x n) = refl
    one (G.bin x n) = refl
    one (G.sync x) = refl
    one (G.var x n) = refl
    one (G.sampler x a b n) = refl
    one (G.class x G.announced) = refl
    one (G.class x (G.body l b)) = body_blocks (after ks (embodies x ∷ in_locals l)) b at k (at + W.to_body l)
    one (G.entity x n) = refl

none_declared : (os : List Owned) → Declarations os → of_group K.BLOCK os ≡ 0
none_declared [] h = refl
none_declared (o ∷ os) h =
    let g : ℕ = group_of o.entry in
    let a = or-false (eqb g K.BLOCK) (eqb g K.ACTION) (not-true _ h.0) in
    omega (arith, once_apart K.BLOCK g (λ e. eqb-false g K.BLOCK a.0 (sym e)), none_declared os h.1)

-- Bodies of classes are in blocks before m, or nowhere.
abbrev Unlike : ℕ → Owned → Type 0
Unlike m o = o.entry ≡ R.CLASS m → ⊥

embodied_opens : (x : Name) (d : Declaration) → embodied x d ≡ true → 1 ≤ opened_by d
embodied_opens x (G.res y n) h = no_way h
embodied_opens x (G.bin y n) h = no_way h
embodied_opens x (G.sync y) h = no_way h
embodied_opens x (G.var y n) h = no_way h
embodied_opens x (G.sampler y a b n) h = no_way h
embodied_opens x (G.class y G.announced) h = no_way h
embodied_opens x (G.class y (G.body l b)) h = omega arith
embodied_opens x (G.entity y n) h = no_way h

module _ (m : ℕ) (some_block : m ≡ No.no_body → ⊥) where
  body_before : (ds : Text) (x : Name) (k : ℕ) → k + opened_in ds ≤ m → body_block x k ds ≡ m → ⊥
  unfolding body_block
  body_before [] x k h e = some_block (sym e)
  body_before (d ∷ ds) x k h e = go (embodied x d) refl e (body_before ds x (k + opened_by d) (omega arith))
    where
      go : (w : Bool) → embodied x d ≡ w → (if w then k else body_block x (k + opened_by d) ds) ≡ m →
          (body_block x (k + opened_by d) ds ≡ m → ⊥) → ⊥
      go true f g i = omega (arith, embodied_opens x d f)
      go false f g i = i g

  unlike : (ds : Text) (ks : List Known) (k at : ℕ) → k + opened_in ds ≤ m → AllOf (Unlike m) (declarations ks k at ds)
  unfolding declarations
  unlike [] ks k at h = tt
  unlike (d ∷ ds) ks k at h =
      all_append (Unlike m) (map (λ e. owned e at) (entry_of ks k d ds)) _ (one d (body_before (d ∷ ds)) h)
      (unlike ds (after ks (in_declaration d)) (k + opened_by d) (at + length (declare d [])) (omega arith))
    where
      no_class : {e : R.Entry} → (group_of e ≡ K.CLASS → ⊥) → e ≡ R.CLASS m → ⊥
      no_class f g = f (ap group_of g)

      one : (d : Declaration) → ((x : Name) (k : ℕ) → k + opened_in (d ∷ ds) ≤ m → body_block x k (d ∷ ds) ≡ m → ⊥) →
          k + opened_in (d ∷ ds) ≤ m → AllOf (Unlike m) (map (λ e. owned e at) (entry_of ks k d ds))
      one (G.res x n) f l = (no_class (λ i. omega arith), tt)
      one (G.bin x n) f l = (no_class (λ i. omega arith), tt)
      one (G.sync x) f l = (no_class (λ i. omega arith), tt)
      one (G.var x n) f l = (no_class (λ i. omega arith), tt)
      one (G.sampler x a b n) f l = (no_class (λ i. omega arith), tt)
      one (G.class x b) f l =
          if_has (λ zs. AllOf (Unlike m) (map (λ e. owned e at) zs)) (any (named x) ks) (λ e. tt)
          (λ e. ((λ i. let j : body_block x k (G.class x b ∷ ds) ≡ m = cc in f x k l j), tt))
      one (G.entity x n) f l = (no_class (λ i. omega arith), tt)

  unlike_blocks : (os : List Owned) → AllOf (λ o. J.declares o.entry ≡ false) os → AllOf (Unlike m) os
  unlike_blocks os h =
      all_map (λ o. J.declares o.entry ≡ false) (Unlike m) (λ o i e. no_way (sym i ∙ ap J.declares e)) os h

-- THE LAST DECLARATION of a text.
events_last : (ds : Text) (d : Declaration) → events (ds ++ (d ∷ [])) ≡ events ds ++ in_declaration d
events_last [] d = append-nil (in_declaration d)
events_last (c ∷ ds) d =
    ap (λ es. in_declaration c ++ es) (events_last ds d) ∙ sym (append_assoc (in_declaration c) (events ds) (in_declaration d))

declared_last : (place : ℕ → ℕ) (ds : Text) (d : Declaration) (ks : List Known) (at : ℕ) (s : Sheet) →
    Fewer ks (events (ds ++ (d ∷ []))) →
    declared_all place ks (ds ++ (d ∷ [])) at s
    ≡ declared place (after ks (events ds)) d (at + length (lines ds [])) (declared_all place ks ds at s)
unfolding declared_all after
declared_last place [] d ks at s r =
    ap (λ (n : ℕ). declared place ks d n s) (omega arith)
declared_last place (c ∷ ds) d ks at s r =
    let f = fewer_split ks (in_declaration c) (events (ds ++ (d ∷ []))) r in
    let zs : List Known = after ks (in_declaration c) in
    let q : ℕ = at + length (declare c []) in
    let u : Sheet = declared place ks c at s in
    one_on place c (ds ++ (d ∷ [])) ks at s f.0
    ∙ declared_last place ds d zs q u f.1
    ∙ ap₂ (λ (js : List Known) (n : ℕ). declared place js d n (declared_all place zs ds q u))
    (sym (after-append ks (in_declaration c) (events ds))) (omega (arith, long_lines c ds))
    ∙ ap (declared place (after ks (events (c ∷ ds))) d (at + length (lines (c ∷ ds) [])))
    (sym (one_on place c ds ks at s f.0))

-- THE CLASS THAT IS BEING READ: the one of its number among the classes.
declaring_current : (bs : List ℕ) (s : Sheet) → (declaring bs s).current ≡ s.current
unfolding declaring
declaring_current bs s =
    if_has (λ (x : Sheet). x.current ≡ s.current) (ltb DECLARED (length s.declared + length bs)) (λ e. refl) (λ e. refl)

classed_current : (p : ℕ) (s : Sheet) → length s.class_at < F.most_classes → (classed p s).current ≡ length s.class_at
unfolding classed
classed_current p s h = rw (lt-leb F.most_classes (length s.class_at) h)

classes_current : (p b : ℕ) (s : Sheet) → length s.class_at < F.most_classes → (classes p b s).current ≡ length s.class_at
unfolding classes
classes_current p b s h =
    let t : Sheet = with_total s (more s.seen K.CLASS 1) class_bytes in
    declaring_current (headed K.CLASS (two b)) (classed p t) ∙ classed_current p t h

module _ (place : ℕ → ℕ) (ds : Text) (y : Name) (l : Locals) (b : Act G.actions) where
  abbrev tree : Text
  tree = ending ds y l b

  abbrev ks : List Known
  ks = known_in ds

  abbrev at : ℕ
  at = 0 + length (lines ds [])

  abbrev s : Sheet
  s = declared_all place [] ds 0 blank

  abbrev scope : List Known
  scope = after ks (embodies y ∷ in_locals l)

  -- Its line, which gives it a body or declares it, too.
  abbrev its_line : Sheet → Bool → Sheet
  its_line u w = if w then bodied (number_of ks y) (blocks_of u) u else classes (place at) (blocks_of u) u

  module _ (calm : trouble_in [] (events tree) ≡ none) (room : Fewer [] (events tree)) (fair : AllOf Fair (records tree)) where
    fair_blocks : AllOf Fair (built ds) × AllOf Fair (body scope b at (0 + opened_in ds) (at + W.to_body l))
    unfolding records
    fair_blocks =
        all_split Fair (built ds) _ (subst (AllOf Fair) (blocks_last [] 0 0 ds (G.class y (G.body l b)))
        (all_split Fair (Gr.declared tree) (built tree) fair).1)

    calm_parts : (trouble_in [] (events ds) ≡ none) × (trouble_in ks (in_declaration (G.class y (G.body l b))) ≡ none)
    calm_parts = calm_split [] (events ds) _ (rw (events_last ds (G.class y (G.body l b))) at calm)

    room_parts : Fewer [] (events ds) × Fewer ks (in_declaration (G.class y (G.body l b)))
    room_parts = fewer_split [] (events ds) _ (rw (events_last ds (G.class y (G.body l b))) at room)

    so_far : Adds place blank s (Gr.declared ds) (built ds)
    so_far =
        (all_adds place ds [] 0 0 blank (record { wide = refl; little = omega arith }) refl calm_parts.0 room_parts.0
        fair_blocks.0).0

    opened_before : blocks_of s ≡ opened_in ds
    opened_before =
        omega (
          arith,
          so_far.counts K.BLOCK,
          none_declared (Gr.declared ds) (records_declare ds),
          blocks_opened ds [] 0 0,
        )

    line_current : (declared_all place [] tree 0 blank).current ≡ (its_line (first_at (place at) s) (any (named y) ks)).current
    unfolding declared
    line_current =
        let k : ℕ = 0 + opened_in ds in
        let e : blocks_of s ≡ k = omega (arith, opened_before) in
        let w = by_body place ks k at s [] so_far.counting e y l b 0 (any (named y) ks) scope
        (remembered ks (embodies y ∷ in_locals l)) (in_body ks y l b room_parts.1) fair_blocks.1 in
        ap (λ (x : Sheet). x.current) (declared_last place ds (G.class y (G.body l b)) [] 0 blank room)
        ∙ ap (λ (x : Sheet). x.current) w.1.0

    -- Where its record stands, the only one with this block.
    record Stands : Type 0 where
      before : List Owned
      its : Owned
      behind : List Owned
      is : records tree ≡ before ++ (its ∷ behind)
      none_before : AllOf (Unlike (opened_in ds)) before
      none_behind : AllOf (Unlike (opened_in ds)) behind
      number : (declared_all place [] tree 0 blank).current ≡ of_group K.CLASS before

    same_declared : Gr.declared tree ≡ Gr.declared (ending ds y G.no_locals G.no_actions)
    same_declared = same_declarations [] 0 0 ds y l G.no_locals b G.no_actions

    first_same : (first_at (place at) s).class_at ≡ s.class_at
    first_same = if_has (λ (x : Sheet). x.class_at ≡ s.class_at) (eqb s.total 0) (λ e. refl) (λ e. refl)

    split_records : (g : ℕ) → of_group g (records tree) ≡ of_group g (Gr.declared tree) + of_group g (built tree)
    unfolding records
    split_records g = over-append (λ o. once g (group_of o.entry)) (Gr.declared tree) (built tree)

    module _ (few : of_group K.CLASS (records tree) ≤ F.most_classes) (low : of_group K.BLOCK (records tree) ≤ F.most_blocks) where
      some_block : opened_in ds ≡ No.no_body → ⊥
      some_block e =
          omega (
            arith,
            split_records K.BLOCK,
            blocks_opened tree [] 0 0,
            opened_last ds (G.class y (G.body l b)),
          )

      unlike_declared : AllOf (Unlike (opened_in ds)) (Gr.declared ds)
      unlike_declared = unlike (opened_in ds) some_block ds [] 0 0 (omega arith)

      unlike_built : AllOf (Unlike (opened_in ds)) (built tree)
      unlike_built = unlike_blocks (opened_in ds) some_block (built tree) (in_blocks (built tree) (records_block tree))

      stands_new : any (named y) ks ≡ false → Stands
      unfolding records
      stands_new h =
          let c : Owned = owned (R.CLASS (opened_in ds)) (length (lines ds [])) in
          let e : Gr.declared tree ≡ Gr.declared ds ++ (c ∷ []) = same_declared ∙ (grown_class ds y h).0 in
          let n = over-append (λ o. once K.CLASS (group_of o.entry)) (Gr.declared ds) (c ∷ []) in
          let m = ap (of_group K.CLASS) e in
          let i = (so_far.classes (omega (arith, split_records K.CLASS))).1 in
          let f = ap length first_same in
          record {
            before = Gr.declared ds;
            its = c;
            behind = built tree;
            is = ap (λ os. os ++ built tree) e ∙ append_assoc (Gr.declared ds) (c ∷ []) (built tree);
            none_before = unlike_declared;
            none_behind = unlike_built;
            number =
                line_current ∙ ap (λ (w : Bool). (its_line (first_at (place at) s) w).current) h
                ∙ classes_current (place at) _ (first_at (place at) s) (omega (arith, split_records K.CLASS)) ∙ omega arith;
          }

      is_awaited : any (named y) ks ≡ true → any (awaited y) ks ≡ true
      unfolding trouble
      is_awaited h =
          go (any (awaited y) ks) (any (named y) ks) h (wants_nothing No.AGAIN _ (calm_first ks _ _ calm_parts.1).0)
        where
          go : (p q : Bool) → q ≡ true → (if p then true else not q) ≡ true → p ≡ true
          go true q i j = refl
          go false q i j = sym (not-true q j) ∙ i

      stands_known : any (named y) ks ≡ true → Stands
      unfolding records bodied
      stands_known h =
          let f = grown_body y ds calm_parts.0 (is_awaited h) in
          let c : Owned = owned (R.CLASS (opened_in ds)) f.0.owner in
          let u = all_split (Unlike (opened_in ds)) f.0.first _
          (subst (AllOf (Unlike (opened_in ds))) f.0.was unlike_declared) in
          record {
            before = f.0.first;
            its = c;
            behind = f.0.rest ++ built tree;
            is =
                ap (λ os. os ++ built tree) (same_declared ∙ f.0.is)
                ∙ append_assoc f.0.first (c ∷ f.0.rest) (built tree);
            none_before = u.0;
            none_behind = all_append (Unlike (opened_in ds)) f.0.rest (built tree) u.1.1 unlike_built;
            number =
                line_current ∙ ap (λ (w : Bool). (its_line (first_at (place at) s) w).current) h ∙ f.2;
          }

      stands_there : Stands
      stands_there = go (any (named y) ks) refl
        where
          go : (w : Bool) → any (named y) ks ≡ w → Stands
          go true h = stands_known h
          go false h = stands_new h

      pub current_line : (xs : List Owned) (c : Owned) (ys : List Owned) → records tree ≡ xs ++ (c ∷ ys) →
          c.entry ≡ R.CLASS (opened_in ds) →
          get_or (declared_all place [] tree 0 blank).class_line (declared_all place [] tree 0 blank).current 0 ≡ place c.owner
      current_line xs c ys e f =
          let p = stands_there in
          let q = only_one (λ o. o.entry ≡ R.CLASS (opened_in ds)) p.before p.its p.behind p.none_before
          p.none_behind xs c ys f (sym p.is ∙ e) in
          let n : (declared_all place [] tree 0 blank).current ≡ of_group K.CLASS xs = p.number ∙ ap (of_group K.CLASS) (sym q) in
          let g : is_class c ≡ true = ap (λ i. eqb K.CLASS (group_of i)) f in
          ap₂ (λ (ns : List ℕ) (i : ℕ). get_or ns i 0)
          (((text_counts place tree calm room fair).classes few).0 ∙ ap (class_lines place) e) n
          ∙ line_at place xs c ys g

-- AT A CUT in its body.
module _ (place : ℕ → ℕ) (ts : List Token) (t : Token) (ss : List Symbol) (h : is_cut t ≡ true)
    (e : piled Of say step (ts ++ (t ∷ [])) (text_s ∷ []) ≡ some ss)
    (calm : trouble_in [] (events (cut_tree place ts t ss h e)) ≡ none) (room : Fewer [] (events (cut_tree place ts t ss h e)))
    (fair : AllOf Fair (records (cut_tree place ts t ss h e))) where
  pub class_line : (ds : Text) (y : Name) (l : Locals) (b : Act G.actions) → cut_tree place ts t ss h e ≡ ending ds y l b →
      of_group K.CLASS (records (cut_tree place ts t ss h e)) ≤ F.most_classes →
      of_group K.BLOCK (records (cut_tree place ts t ss h e)) ≤ F.most_blocks →
      (xs : List Owned) (c : Owned) (ys : List Owned) → records (cut_tree place ts t ss h e) ≡ xs ++ (c ∷ ys) →
      c.entry ≡ R.CLASS (opened_in ds) →
      let z : Sheet = (cut_reader place ts t ss h e).sheet in get_or z.class_line z.current 0 ≡ place c.owner
  class_line ds y l b is few low xs c ys f g =
      ap (λ z. get_or z.class_line z.current 0) (cut_account place ts t ss h e)
      ∙ ap (λ u. get_or (declared_all place [] u 0 blank).class_line (declared_all place [] u 0 blank).current 0) is
      ∙ current_line place ds y l b (rw is at calm) (subst (λ u. Fewer [] (events u)) is room)
      (subst (λ u. AllOf Fair (records u)) is fair) (rw is at few) (rw is at low) xs c ys (rw is at f) g
