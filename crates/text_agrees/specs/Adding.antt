-- What one declaration adds to the machine's sheet: counts, bytes, blocks, the last action, and the lines of classes.
-- Assumes nothing.
use Prim.Native.Nat.{ℕ, suc, ◌+◌, ◌≤◌, ◌<◌}
use native.Mathlib.Omega.{arith}
use Rattle.std.specs.Prelude.{◌≡◌, true, false, eqb, get_or, if◌then◌else◌}
use Rattle.std.proofs.Math.Path.{refl, ap, ap₂, subst}
use Rattle.std.proofs.Common.{sym, ◌∙◌, length-set}
use mathlib.Core.List.{List, [], ◌∷◌, ◌++◌, map, append-nil, append_assoc}
use Rattle.std.proofs.Math.Bool.{Bool}
use Rattle.std.proofs.Math.Option.{none}
use Rattle.std.proofs.Math.Dec.{leb, ltb}
use Rattle.std.proofs.Math.ListN.{length, length-append}
use borrow.Author.Tests.{eqb-false, ne_eqb, leb-true, leb-false, not-true}
use Rattle.semantics.specs.Words.{any, keep, more}
use Rattle.semantics.specs.Numbers as F
use Rattle.semantics.specs.Kinds as K
use Rattle.semantics.specs.Record as R
use Rattle.promises.specs.Laws.{no_way, if_has, AllOf, all_split, over-append, once, once_apart, more_at}
use Rattle.promises.specs.Counted.{group_of}
use Rattle.text_semantics.specs.Numbers as No
use Rattle.text_semantics.specs.Grammar as G
use Rattle.text_semantics.specs.Grammar.{Name, Declaration, Text, declare}
use Rattle.text_semantics.specs.Names.{Known, Event, events, named, in_declaration, in_locals, announces, embodies}
use Rattle.text_semantics.specs.Names.{after, trouble, trouble_in}
use Rattle.text_semantics.specs.Meaning as W
use Rattle.text_semantics.specs.Meaning.{Owned, owned, number_of, entry_of, body_block, opened_by, to_body, signed_of, declarations}
use Rattle.text_semantics.specs.Meaning.{blocks}
use Rattle.text_semantics.specs.Written.{two, body_of, bytes_of, file_of}
use Rattle.text_machine.specs.Entry.{Draft, put}
use Rattle.text_machine.specs.Sheet as S
use Rattle.text_machine.specs.Sheet.{Sheet, added, blocks_of, blocks_from, headed, long, class_bytes, DECLARED, with_first}
use Rattle.text_machine.specs.Sheet.{with_total, declaring, classed, bodied, braces, closed}
use Rattle.text_promises.specs.Judged.{of_group}
use Rattle.text_promises.specs.Cuts.{bytes_long}
use Rattle.text_agrees.specs.Actions.{sheeted}
use Rattle.text_agrees.specs.Notes.{file_append}
use Rattle.text_agrees.specs.Accounts.{Counting, heading, grew_blocks}
use Rattle.text_agrees.specs.Laying.{Short, Fair, block_split, nested, acts_lie}
use Rattle.text_agrees.specs.Layout.{Writes, Fresh, last_line, last_append, body, kept_in, body_writes}
use Rattle.text_agrees.specs.Events.{Fewer, fewer_split}
use Rattle.text_agrees.specs.Declared.{remembered, first_at, past_locals, declared, declared_all}
use Rattle.text_agrees.specs.Lines.{body_span, declaration_span, all_known, in_body, calm_first, calm_split, wants_nothing}

-- THE LINES OF CLASSES among records.
abbrev pub is_class : Owned → Bool
is_class o = eqb K.CLASS (group_of o.entry)

abbrev pub class_lines : (ℕ → ℕ) → List Owned → List ℕ
class_lines place os = map (λ o. place o.owner) (keep is_class os)

pub lines_append : (place : ℕ → ℕ) (os qs : List Owned)
    → class_lines place (os ++ qs) ≡ class_lines place os ++ class_lines place qs
lines_append place [] qs = refl
lines_append place (o ∷ os) qs = go (is_class o) (lines_append place os qs)
  where
    go : (b : Bool) → class_lines place (os ++ qs) ≡ class_lines place os ++ class_lines place qs
        → map (λ o. place o.owner) (if b then o ∷ keep is_class (os ++ qs) else keep is_class (os ++ qs))
        ≡ map (λ o. place o.owner) (if b then o ∷ keep is_class os else keep is_class os) ++ class_lines place qs
    go true e = ap (λ ns. place o.owner ∷ ns) e
    go false e = e

-- A sheet's counts and blocks.
abbrev ledger : Sheet → Sheet
ledger s =
    record {
      seen = s.seen;
      total = s.total;
      first = 0;
      last_block = s.last_block;
      last_line = s.last_line;
      declared = [];
      class_at = [];
      class_line = [];
      current = 0;
      pieces = s.pieces;
      staged = s.staged;
      levels = s.levels;
      full = false;
    }

-- Where t has room s had it, and the classes are not too many; where they aren't, their lines are there.
abbrev pub Roomy : Sheet → List Owned → Sheet → Type 0
Roomy s ds t =
    t.full ≡ false
    → (s.full ≡ false) × (length s.class_at ≤ F.most_classes → length s.class_at + of_group K.CLASS ds ≤ F.most_classes)

abbrev pub Classed : (ℕ → ℕ) → Sheet → List Owned → Sheet → Type 0
Classed place s ds t =
    length s.class_at + of_group K.CLASS ds ≤ F.most_classes
    → (t.class_line ≡ s.class_line ++ class_lines place ds) × (length t.class_at ≡ length s.class_at + of_group K.CLASS ds)

-- WHAT IS ADDED from s to t: the records ds to the declarations, and the records bs to the blocks, where they stand if they are
-- kept.
pub record Adds (place : ℕ → ℕ) (s t : Sheet) (ds bs : List Owned) : Type 0 where
  pub counting : Counting t
  pub counts : (g : ℕ) → get_or t.seen g 0 ≡ get_or s.seen g 0 + (of_group g ds + of_group g bs)
  pub total : t.total ≡ added s.total (length (file_of ds) + length (file_of bs))
  pub last : s.last_block ≤ blocks_of s → (t.last_line ≡ last_line place s.last_line bs) × (t.last_block ≤ blocks_of t)
  pub levels : t.levels ≡ s.levels
  pub room : AllOf Short bs → Roomy s ds t
  pub classes : Classed place s ds t
  pub blocks : AllOf Short bs → t.full ≡ false → Fresh (blocks_of s) s.pieces
      → Fresh (blocks_of t) t.pieces
      × (blocks_from (blocks_of t) 0 t.pieces ≡ blocks_from (blocks_of s) 0 s.pieces ++ file_of bs)

module _ (place : ℕ → ℕ) where
  pub adds_join : {s t u : Sheet} {ds bs es cs : List Owned} → Adds place s t ds bs → Adds place t u es cs
      → Adds place s u (ds ++ es) (bs ++ cs)
  adds_join {s} {t} {u} {ds} {bs} {es} {cs} a b =
      record {
        counting = b.counting;
        counts = λ g.
            let x = a.counts g in
            let y = b.counts g in
            let p = over-append (λ o. once g (group_of o.entry)) ds es in
            let q = over-append (λ o. once g (group_of o.entry)) bs cs in
            omega arith;
        total =
            let x = a.total in
            let y = b.total in
            let p = ap length (file_append ds es) ∙ length-append (file_of ds) (file_of es) in
            let q = ap length (file_append bs cs) ∙ length-append (file_of bs) (file_of cs) in
            omega arith;
        last = λ h.
            let x = a.last h in
            let y = b.last x.1 in
            (y.0 ∙ ap (λ p. last_line place p cs) x.0 ∙ sym (last_append place s.last_line bs cs), y.1);
        levels = b.levels ∙ a.levels;
        room = λ j f.
            let js = all_split Short bs cs j in
            let y = b.room js.1 f in
            let x = a.room js.0 y.0 in (
              x.0,
              λ h.
                  let p = over-append (λ o. once K.CLASS (group_of o.entry)) ds es in
                  let i = x.1 h in
                  let n = (a.classes i).1 in
                  let m = y.1 (omega arith) in
                  omega arith,
            );
        classes = λ h.
            let p = over-append (λ o. once K.CLASS (group_of o.entry)) ds es in
            let x = a.classes (omega arith) in
            let n = x.1 in
            let y = b.classes (omega arith) in
            let m = y.1 in (
              y.0 ∙ ap (λ ns. ns ++ class_lines place es) x.0
                  ∙ append_assoc s.class_line (class_lines place ds) (class_lines place es)
                  ∙ ap (λ ns. s.class_line ++ ns) (sym (lines_append place ds es)),
              omega arith,
            );
        blocks = λ j f fresh.
            let js = all_split Short bs cs j in
            let x = a.blocks js.0 (b.room js.1 f).0 fresh in
            let y = b.blocks js.1 f x.0 in (
              y.0,
              y.1 ∙ ap (λ ns. ns ++ file_of cs) x.1
                  ∙ append_assoc (blocks_from (blocks_of s) 0 s.pieces) (file_of bs) (file_of cs)
                  ∙ ap (λ ns. blocks_from (blocks_of s) 0 s.pieces ++ ns) (sym (file_append bs cs)),
            );
      }

  -- Nothing in a block.
  kept_blocks : (s t : Sheet) → blocks_of t ≡ blocks_of s → t.pieces ≡ s.pieces → Fresh (blocks_of s) s.pieces
      → Fresh (blocks_of t) t.pieces
      × (blocks_from (blocks_of t) 0 t.pieces ≡ blocks_from (blocks_of s) 0 s.pieces ++ [])
  kept_blocks s t e p fresh =
      rw (e, p) (fresh, sym (append-nil (blocks_from (blocks_of s) 0 s.pieces)))

  -- Where nothing is counted.
  pub same_adds : (s t : Sheet) → Counting s → ledger t ≡ ledger s
      → (t.full ≡ false → s.full ≡ false) → t.class_line ≡ s.class_line → t.class_at ≡ s.class_at → Adds place s t [] []
  same_adds s t c e h i j =
      let b : blocks_of t ≡ blocks_of s = ap blocks_of e in
      record {
        counting = record {
          wide = ap (λ x. length x.seen) e ∙ c.wide;
          little = let a = ap (λ x. x.total) e in let l = c.little in omega arith;
        };
        counts = λ g. let a = ap (λ x. get_or x.seen g 0) e in omega arith;
        total = let a = ap (λ x. x.total) e in let l = c.little in omega arith;
        last = λ l. let i = ap (λ x. x.last_block) e in (ap (λ x. x.last_line) e, omega arith);
        levels = ap (λ x. x.levels) e;
        room = λ j f. (h f, λ l. omega arith);
        classes = λ l. (i ∙ sym (append-nil s.class_line), let n = ap length j in omega arith);
        blocks = λ j f fresh. kept_blocks s t b (ap (λ x. x.pieces) e) fresh;
      }

  -- A record more among the declarations.
  entry_adds : (s t : Sheet) (o : Owned) → Counting s → once K.BLOCK (group_of o.entry) ≡ 0 → group_of o.entry ≤ K.ACTION
      → ledger t ≡ ledger (with_total s (more s.seen (group_of o.entry) 1) (length (bytes_of o.entry)))
      → Roomy s (o ∷ []) t → Classed place s (o ∷ []) t → Adds place s t (o ∷ []) []
  entry_adds s t o c n i e h j =
      let k : ℕ = group_of o.entry in
      let m : (g : ℕ) → get_or t.seen g 0 ≡ get_or s.seen g 0 + once g k =
      λ g. ap (λ x. get_or x.seen g 0) e ∙ more_at s.seen k 1 g (let w = c.wide in omega arith) in
      let b : blocks_of t ≡ blocks_of s = let a = m K.BLOCK in omega arith in
      record {
        counting = record {
          wide = ap (λ x. length x.seen) e ∙ length-set s.seen k (get_or s.seen k 0 + 1) ∙ c.wide;
          little = let a = ap (λ x. x.total) e in omega arith;
        };
        counts = λ g. let a = m g in omega arith;
        total =
            let a = ap (λ x. x.total) e in
            let l = length-append (bytes_of o.entry) [] in omega arith;
        last = λ l. let i = ap (λ x. x.last_block) e in (ap (λ x. x.last_line) e, omega arith);
        levels = ap (λ x. x.levels) e;
        room = λ j. h;
        classes = j;
        blocks = λ j f fresh. kept_blocks s t b (ap (λ x. x.pieces) e) fresh;
      }

  -- THE CHANGES of a sheet by declarations.
  declares_adds : (d : Draft) (s : Sheet) (o : Owned) → Counting s → once K.BLOCK (group_of o.entry) ≡ 0
      → group_of o.entry ≤ K.ACTION → is_class o ≡ false → d.kind ≡ group_of o.entry
      → d.size ≡ length (body_of o.entry) → Adds place s (S.declares d s) (o ∷ []) []
  unfolding S.declares declaring
  declares_adds d s o c n i x k l =
      let u : Sheet = with_total s (more s.seen d.kind 1) (long d) in
      let bs : List ℕ = headed d.kind d.body in
      let b : Bool = ltb DECLARED (length s.declared + length bs) in
      let a = bytes_long o.entry in
      let z : long d ≡ length (bytes_of o.entry) = omega arith in
      let w = once_apart K.CLASS (group_of o.entry) (eqb-false K.CLASS (group_of o.entry) x) in
      entry_adds s (S.declares d s) o c n i
      (if_has (λ y. ledger y ≡ ledger u) b (λ e. refl) (λ e. refl)
      ∙ ap₂ (λ g m. ledger (with_total s (more s.seen g 1) m)) k z)
      (if_has (Roomy s (o ∷ [])) b (λ e f. no_way (sym f)) (λ e f. (f, λ l. omega arith)))
      (if_has (Classed place s (o ∷ [])) b (λ e l. (rw x (sym (append-nil s.class_line)), omega arith))
      (λ e l. (rw x (sym (append-nil s.class_line)), omega arith)))

  classes_adds : (p b j own : ℕ) (s : Sheet) → Counting s → place own ≡ p
      → Adds place s (S.classes p b s) (owned (R.CLASS j) own ∷ []) []
  unfolding S.classes declaring classed bytes_of
  classes_adds p b j own s c q =
      let u : Sheet = with_total s (more s.seen K.CLASS 1) class_bytes in
      let x : Bool = leb F.most_classes (length s.class_at) in
      let v : Sheet = classed p u in
      let y : Bool = ltb DECLARED (length v.declared + length (headed K.CLASS (two b))) in
      let os : List Owned = owned (R.CLASS j) own ∷ [] in
      let listed : Classed place s os v =
      if_has (Classed place s os) x (λ e l. let g = leb-true F.most_classes (length s.class_at) e in absurd (omega arith))
      (λ e l. (rw q, length-append s.class_at ((length s.declared + 4) ∷ []))) in
      entry_adds s (S.classes p b s) (owned (R.CLASS j) own) c refl (omega arith)
      (if_has (λ z. ledger z ≡ ledger u) y (λ e. if_has (λ z. ledger z ≡ ledger u) x (λ e. refl) (λ e. refl))
      (λ e. if_has (λ z. ledger z ≡ ledger u) x (λ e. refl) (λ e. refl)))
      (if_has (Roomy s os) y (λ e f. no_way (sym f)) (λ e.
      if_has (Roomy s os) x (λ e f. no_way (sym f))
      (λ e f. (f, λ l. let g = leb-false F.most_classes (length s.class_at) e in omega arith))))
      (if_has (Classed place s os) y (λ e. listed) (λ e. listed))

  bodied_adds : (i b : ℕ) (s : Sheet) → Counting s → Adds place s (bodied i b s) [] []
  unfolding bodied
  bodied_adds i b s c = same_adds s (bodied i b s) c refl (λ f. f) refl refl

  first_adds : (p : ℕ) (s : Sheet) → Counting s → Adds place s (first_at p s) [] []
  first_adds p s c =
      let b : Bool = eqb s.total 0 in
      if_has (λ t. Adds place s t [] []) b (λ e. same_adds s (with_first s p) c refl (λ f. f) refl refl)
      (λ e. same_adds s s c refl (λ f. f) refl refl)

  writes_adds : (s t : Sheet) (os : List Owned) → Writes place s t [] os → t.levels ≡ s.levels
      → (AllOf Short os → t.full ≡ false → s.full ≡ false) → Adds place s t [] os
  writes_adds s t os w l r =
      record {
        counting = w.counting;
        counts = λ g. let a = w.counts g in omega arith;
        total = let a = w.total in omega arith;
        last = w.last;
        levels = l;
        room = λ j f. (r j f, λ i. omega arith);
        classes = λ i.
            let a = ap (λ x. length x.class_at) w.besides in
            (ap (λ x. x.class_line) w.besides ∙ sym (append-nil s.class_line), omega arith);
        blocks = λ j f fresh.
            let y = w.blocks j f fresh in (
              subst (Fresh (blocks_of t)) (append-nil t.pieces) y.1,
              ap (blocks_from (blocks_of t) 0) (sym (append-nil t.pieces)) ∙ y.2,
            );
      }

  -- A body, from its brace to the brace that closes it.
  body_adds : (ks : List Known) (a : G.Act G.actions) (own at p : ℕ) (s : Sheet) → Counting s → p ≡ at
      → AllOf Fair (body ks a own (blocks_of s) at)
      → Adds place s (closed (sheeted place ks a p (braces s))) [] (body ks a own (blocks_of s) at)
      × (heading (closed (sheeted place ks a p (braces s))) ≡ heading s)
      × (blocks_of (closed (sheeted place ks a p (braces s))) ≡ blocks_of s + suc (W.opened a))
  body_adds ks a own at p s c e h =
      let k : ℕ = blocks_of s in
      let t : Sheet = closed (sheeted place ks a p (braces s)) in
      let w = body_writes place ks a own at s c p e h in
      let js = block_split Fair own (W.direct ks a (suc k) at) (W.inside ks a own (suc k) at) h in
      let y = nested place ks a (acts_lie place ks a) p at own k s e c refl js.0 js.1 in (
        writes_adds s t (body ks a own k at) w.0 w.1
            (λ j f. ((y.lays (kept_in place ks a own at s c j)).came f).0),
        w.0.besides,
        grew_blocks place y.grew,
      )

  -- ONE DECLARATION, where the next block is k and the next token is `at`.
  abbrev pub entries : List Known → ℕ → ℕ → Declaration → Text → List Owned
  entries ks k at d ds = map (λ e. owned e at) (entry_of ks k d ds)

  abbrev pub beginning : ℕ → Sheet → ℕ
  beginning at s = if eqb s.total 0 then place at else s.first

  first_begins : (at : ℕ) (s : Sheet) → (first_at (place at) s).first ≡ beginning at s
  first_begins at s = go (eqb s.total 0)
    where
      go : (b : Bool) → (if b then with_first s (place at) else s).first ≡ (if b then place at else s.first)
      go true = refl
      go false = refl

  declaring_first : (bs : List ℕ) (s : Sheet) → (declaring bs s).first ≡ s.first
  unfolding declaring
  declaring_first bs s =
      if_has (λ (y : Sheet). y.first ≡ s.first) (ltb DECLARED (length s.declared + length bs)) (λ e. refl) (λ e. refl)

  declares_first : (d : Draft) (s : Sheet) → (S.declares d s).first ≡ s.first
  unfolding S.declares
  declares_first d s = declaring_first (headed d.kind d.body) (with_total s (more s.seen d.kind 1) (long d))

  classed_first : (p : ℕ) (s : Sheet) → (classed p s).first ≡ s.first
  unfolding classed
  classed_first p s =
      if_has (λ (y : Sheet). y.first ≡ s.first) (leb F.most_classes (length s.class_at)) (λ e. refl) (λ e. refl)

  classes_first : (p b : ℕ) (s : Sheet) → (S.classes p b s).first ≡ s.first
  unfolding S.classes
  classes_first p b s =
      let u : Sheet = with_total s (more s.seen K.CLASS 1) class_bytes in
      declaring_first (headed K.CLASS (two b)) (classed p u) ∙ classed_first p u

  module _ (ks : List Known) (k at : ℕ) (s : Sheet) (ts : Text) (c : Counting s) (e : blocks_of s ≡ k) where
    abbrev pub u : Sheet
    u = first_at (place at) s

    -- From s to t, by n blocks more.
    abbrev pub One : Sheet → List Owned → List Owned → ℕ → Type 0
    One t ds bs n = Adds place s t ds bs × (t.first ≡ beginning at s) × (blocks_of t ≡ k + n)

    by_entry : (d : Draft) (o : Owned) → once K.BLOCK (group_of o.entry) ≡ 0 → group_of o.entry ≤ K.ACTION
        → is_class o ≡ false → d.kind ≡ group_of o.entry → d.size ≡ length (body_of o.entry)
        → One (S.declares d u) (o ∷ []) [] 0
    by_entry d o n i x j l =
        let f = first_adds (place at) s c in
        let a = adds_join f (declares_adds d u o f.counting n i x j l) in
        (a, declares_first d u ∙ first_begins at s, (let m = a.counts K.BLOCK in omega arith))

    pub by_class : (j b : ℕ) → One (S.classes (place at) b u) (owned (R.CLASS j) at ∷ []) [] 0
    by_class j b =
        let f = first_adds (place at) s c in
        let a = adds_join f (classes_adds (place at) b j at u f.counting refl) in
        (a, classes_first (place at) b u ∙ first_begins at s, (let m = a.counts K.BLOCK in omega arith))

    pub by_patch : (j b : ℕ) → One (bodied j b u) [] [] 0
    unfolding bodied
    by_patch j b =
        let f = first_adds (place at) s c in
        let a = adds_join f (bodied_adds j b u f.counting) in
        (a, first_begins at s, (let m = a.counts K.BLOCK in omega arith))

    -- A body behind it: nothing else is changed.
    abbrev pub Behind : List Owned → Sheet → Sheet → Type 0
    Behind bs v t = (heading t ≡ heading v) × (AllOf Short bs → t.full ≡ false → v.full ≡ false)

    with_body : (v : Sheet) (os : List Owned) (is js : List Known) (l : G.Locals) (b : G.Act G.actions) → One v os [] 0
        → js ≡ is → AllOf Fair (body is b at k (at + to_body l))
        → One (closed (sheeted place js b (past_locals l (suc (suc (suc at)))) (braces v))) os (body is b at k (at + to_body l))
        (suc (W.opened b))
        × Behind (body is b at k (at + to_body l)) v (closed (sheeted place js b (past_locals l (suc (suc (suc at)))) (braces v)))
    with_body v os is js l b a i h =
        let p : ℕ = past_locals l (suc (suc (suc at))) in
        let q : ℕ = at + to_body l in
        let t : List Known → Sheet = λ zs. closed (sheeted place zs b p (braces v)) in
        let j : blocks_of v ≡ k = let m = a.2 in omega arith in
        let y = body_adds is b at q p v a.0.counting (body_span l at)
        (subst (λ n. AllOf Fair (body is b at n q)) (sym j) h) in
        subst (λ zs. One (t zs) os (body is b at k q) (suc (W.opened b)) × Behind (body is b at k q) v (t zs)) (sym i) (
          (
            subst (λ n. Adds place s (t is) os (body is b at n q)) j
                (subst (λ zs. Adds place s (t is) zs (body is b at (blocks_of v) q)) (append-nil os) (adds_join a.0 y.0)),
            ap (λ x. x.first) y.1 ∙ a.1,
            y.2 ∙ ap (λ n. n + suc (W.opened b)) j,
          ),
          (y.1, λ x f. (y.0.room (subst (λ n. AllOf Short (body is b at n q)) (sym j) x) f).0),
        )

    -- A class line with a body, where the class is known or isn't.
    pub by_body : (x : Name) (l : G.Locals) (b : G.Act G.actions) (j : ℕ) (t : Bool) (is js : List Known) → js ≡ is
        → AllOf Fair (body is b at k (at + to_body l))
        → One (closed (sheeted place js b (past_locals l (suc (suc (suc at))))
        (braces (if t then bodied (number_of ks x) (blocks_of u) u else S.classes (place at) (blocks_of u) u))))
        (map (λ e. owned e at) (if t then [] else R.CLASS j ∷ [])) (body is b at k (at + to_body l)) (suc (W.opened b))
        × Behind (body is b at k (at + to_body l))
        (if t then bodied (number_of ks x) (blocks_of u) u else S.classes (place at) (blocks_of u) u)
        (closed (sheeted place js b (past_locals l (suc (suc (suc at))))
        (braces (if t then bodied (number_of ks x) (blocks_of u) u else S.classes (place at) (blocks_of u) u))))
    by_body x l b j true is js i h = with_body _ [] is js l b (by_patch (number_of ks x) (blocks_of u)) i h
    by_body x l b j false is js i h = with_body _ (owned (R.CLASS j) at ∷ []) is js l b (by_class j (blocks_of u)) i h

    pub one_adds : (d : Declaration) → trouble_in ks (in_declaration d) ≡ none → Fewer ks (in_declaration d)
        → AllOf Fair (W.blocks_of ks k at d)
        → One (declared place ks d at s) (entries ks k at d ts) (W.blocks_of ks k at d) (opened_by d)
    unfolding declared put body_of trouble
    one_adds (G.res x n) m r h = by_entry _ (owned (R.RES n.value) at) refl (omega arith) refl refl refl
    one_adds (G.bin x n) m r h = by_entry _ (owned (R.BIN n.value) at) refl (omega arith) refl refl refl
    one_adds (G.sync x) m r h = by_entry _ (owned R.SYNC at) refl (omega arith) refl refl refl
    one_adds (G.var x n) m r h = by_entry _ (owned (R.VAR (signed_of n)) at) refl (omega arith) refl refl refl
    one_adds (G.sampler x a b n) m r h =
        by_entry _ (owned (R.SAMPLER (record { lowest = signed_of a; highest = signed_of b; seed = n.value })) at) refl
        (omega arith) refl refl refl
    one_adds (G.class x G.announced) m r h =
        let n = not-true (any (named x) ks) (wants_nothing No.AGAIN _ (calm_first ks (announces x) [] m).0) in
        rw n (by_class (body_block x k (G.class x G.announced ∷ ts)) No.no_body)
    one_adds (G.class x (G.body l b)) m r h =
        (by_body x l b (body_block x k (G.class x (G.body l b) ∷ ts)) (any (named x) ks) (after ks (embodies x ∷ in_locals l))
        (remembered ks (embodies x ∷ in_locals l)) (in_body ks x l b r) h).0
    one_adds (G.entity x n) m r h =
        by_entry _ (owned (R.ENTITY (record { class = number_of ks x; offset = n.value })) at) refl (omega arith) refl refl refl

  -- ALL OF THEM.
  pub one_on : (d : Declaration) (ts : Text) (ks : List Known) (at : ℕ) (s : Sheet) → Fewer ks (in_declaration d)
      → declared_all place ks (d ∷ ts) at s
      ≡ declared_all place (after ks (in_declaration d)) ts (at + length (declare d [])) (declared place ks d at s)
  unfolding declared_all
  one_on d ts ks at s r =
      ap₂ (λ zs n. declared_all place zs ts n (declared place ks d at s)) (all_known ks (in_declaration d) r)
      (declaration_span d at)

  pub all_adds : (t : Text) (ks : List Known) (k at : ℕ) (s : Sheet) → Counting s → blocks_of s ≡ k
      → trouble_in ks (events t) ≡ none → Fewer ks (events t) → AllOf Fair (blocks ks k at t)
      → Adds place s (declared_all place ks t at s) (declarations ks k at t) (blocks ks k at t)
      × (0 < s.total → (declared_all place ks t at s).first ≡ s.first)
  unfolding declared_all declarations blocks
  all_adds [] ks k at s c e m r h = (same_adds s s c refl (λ f. f) refl refl, λ l. refl)
  all_adds (d ∷ ts) ks k at s c e m r h =
      let es : List Event = in_declaration d in
      let q : ℕ = at + length (declare d []) in
      let zs : List Known = after ks es in
      let x = calm_split ks es (events ts) m in
      let y = fewer_split ks es (events ts) r in
      let z = all_split Fair (W.blocks_of ks k at d) (blocks zs (k + opened_by d) q ts) h in
      let a = one_adds ks k at s ts c e d x.0 y.0 z.0 in
      let t : Sheet = declared place ks d at s in
      let b = all_adds ts zs (k + opened_by d) q t a.0.counting a.2 x.1 y.1 z.1 in
      subst (λ w. Adds place s w (declarations ks k at (d ∷ ts)) (blocks ks k at (d ∷ ts))
      × (0 < s.total → w.first ≡ s.first))
      (sym (one_on d ts ks at s y.0)) (
        adds_join a.0 b.0,
        λ l.
            let n = a.0.total in
            b.1 (omega arith) ∙ a.1
            ∙ ap (λ w. if w then place at else s.first) (ne_eqb s.total 0 (λ e. omega arith)),
      )
