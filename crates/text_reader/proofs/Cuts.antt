-- The sheet after a token: the limits that it passes, and what stays of it. Assumes nothing.
use Rattle.std.specs.Prelude.{ℕ, ◌+◌, ◌≤◌, ◌<◌, ◌≡◌, List, [], ◌∷◌, ◌++◌, Bool, true, false, ◌||◌, eqb, leb, ltb, length, get_or, if◌then◌else◌, Result, Ok, Err, OnOk}
use Rattle.std.proofs.Common.{arith, sym, ◌∙◌, ap, get_or-set_other}
use Rattle.std.proofs.Math.Path.{refl}
use Rattle.std.proofs.Math.Option.{Option, none, some}
use Rattle.semantics.specs.Numbers as F
use Rattle.semantics.specs.Kinds as K
use Rattle.semantics.specs.Words.{more}
use Rattle.promises.specs.Laws.{AllOf}
use Rattle.text_semantics.specs.Token as T
use Rattle.text_semantics.specs.Token.{Token}
use Rattle.text_semantics.specs.Written.{two}
use Rattle.text_machine.specs.Entry as E
use Rattle.text_machine.specs.Entry.{KEPT, FULL, mark_in}
use Rattle.text_machine.specs.Sheet as M
use Rattle.text_machine.specs.Sheet.{added, long, headed}
use Rattle.text_machine.specs.Machine.{done, behind, is_declaration, over_limit}
use Rattle.text_sheet.specs.Numbers.{entry}
use Rattle.text_sheet.specs.Callers.{declares-entry, acts-entry, opens-entry}
use Rattle.text_sheet.specs.Fit.{Fit, fit_first, fit_declares, fit_classes, fit_bodied, fit_acts, fit_let_go, fit_closed}
use Rattle.text_reader.specs.Sheets.{Sound, Short, ShortKept, Steps}
use Rattle.text_reader.specs.Cut.{cut_of}
use borrow.Author.Tests.{lt-ltb, le-ltb}

pub if_has : {A : Type 0} (P : A → Type 0) (b : Bool) {x y : A} → P x → P y → P (if b then x else y)
if_has P true p q = p
if_has P false p q = q

-- A faulty record is refused for its length, or for itself.
faulty_over : (z : M.Sheet) (d : E.Draft)
    → over_limit z d true ≡ some (if ltb F.longest_file z.total then z.first else d.line)
unfolding over_limit
faulty_over z d = go (ltb F.longest_file z.total)
  where
    go : (a : Bool) → (if a then some z.first else some d.line) ≡ some (if a then z.first else d.line)
    go true = refl
    go false = refl

-- TOTALS.
stands_total : (k : ℕ) (bs : List ℕ) (z : M.Sheet) → ((M.stands k bs z).total ≡ z.total) × ((M.stands k bs z).first ≡ z.first)
unfolding M.stands
stands_total k bs z =
    if_has (λ (x : M.Sheet). (x.total ≡ z.total) × (x.first ≡ z.first))
    (leb F.most_actions (length z.pieces) || ltb F.longest_file (z.staged + length (M.headed k bs))) (refl, refl) (refl, refl)

pub counts_total : (d : E.Draft) (z : M.Sheet)
    → ((M.counts d z).total ≡ added z.total (long d)) × ((M.counts d z).first ≡ z.first)
unfolding M.counts
counts_total d z =
    if_has (λ (x : M.Sheet). (x.total ≡ added z.total (long d)) × (x.first ≡ z.first))
    (leb z.last_block (M.innermost z.levels)) (refl, refl) (refl, refl)

pub acts_total : (d : E.Draft) (z : M.Sheet)
    → ((M.acts d z).total ≡ added z.total (long d)) × ((M.acts d z).first ≡ z.first)
unfolding M.acts
acts_total d z =
    let a = stands_total d.kind d.body (M.counts d z) in
    let b = counts_total d z in
    (a.0 ∙ b.0, a.1 ∙ b.1)

declares_total : (d : E.Draft) (z : M.Sheet)
    → ((M.declares d z).total ≡ added z.total (long d)) × ((M.declares d z).first ≡ z.first)
unfolding M.declares M.declaring
declares_total d z =
    if_has (λ (x : M.Sheet). (x.total ≡ added z.total (long d)) × (x.first ≡ z.first))
    (ltb M.DECLARED (length z.declared + length (M.headed d.kind d.body))) (refl, refl) (refl, refl)

done_total : (d : E.Draft) (z : M.Sheet) → ((done d z).total ≡ added z.total (long d)) × ((done d z).first ≡ z.first)
done_total d z =
    if_has (λ (x : M.Sheet). (x.total ≡ added z.total (long d)) × (x.first ≡ z.first)) (is_declaration d)
    (declares_total d z) (acts_total d z)

pub faulty_done : (d : E.Draft) (z : M.Sheet) {n p : ℕ} → n ≡ added z.total (4 + d.size)
    → p ≡ (if ltb F.longest_file n then z.first else d.line) → some p ≡ over_limit (done d z) d true
faulty_done d z {n} e f =
    let t = done_total d z in
    sym (faulty_over (done d z) d
    ∙ ap (λ m. some (if ltb F.longest_file m then (done d z).first else d.line)) (t.0 ∙ sym e)
    ∙ ap (λ m. some (if ltb F.longest_file n then m else d.line)) t.1 ∙ ap some (sym f))

opens_first : (d : E.Draft) (z : M.Sheet) → (M.opens d z).first ≡ z.first
unfolding M.opens M.braces M.tries
opens_first d z =
    if_has (λ (x : M.Sheet). x.first ≡ z.first) (eqb d.kind K.TRY) (branching (M.kept_in z.levels)) (acts_total d z).1
  where
    branching : (o : Option M.Kept) → (M.branches d o z).first ≡ z.first
    branching none = (counts_total d z).1
    branching (some x) = refl

pub faulty_opens : (d : E.Draft) (z : M.Sheet) {n p : ℕ}
    → ((line : ℕ) (bs : List ℕ) → n ≡ (M.opens (entry line d.kind d.size bs) z).total)
    → p ≡ (if ltb F.longest_file n then z.first else d.line) → some p ≡ over_limit (M.opens d z) d true
faulty_opens d z {n} e f =
    let t = e d.line d.body ∙ ap (λ y. y.total) (sym (opens-entry d z)) in
    sym (faulty_over (M.opens d z) d
    ∙ ap (λ m. some (if ltb F.longest_file m then (M.opens d z).first else d.line)) (sym t)
    ∙ ap (λ m. some (if ltb F.longest_file n then m else d.line)) (opens_first d z) ∙ ap some (sym f))

-- WHAT IS OPEN AND KEPT stays short.
keeping_length : (o : Option M.Kept) (ls : List M.Level) → length (M.keeping o ls) ≡ length ls
keeping_length o [] = refl
keeping_length o (l ∷ ls) = refl

keeping_short : (o : Option M.Kept) (ls : List M.Level) → ShortKept o → AllOf Short ls → AllOf Short (M.keeping o ls)
keeping_short o [] j h = tt
keeping_short o (l ∷ ls) j h = (j, h.1)

outer_short : (ls : List M.Level) → AllOf Short ls → AllOf Short (M.outer ls)
outer_short [] h = tt
outer_short (l ∷ ls) h = h.1

outer_length : (ls : List M.Level) → length (M.outer ls) ≤ length ls
outer_length [] = omega arith
outer_length (l ∷ ls) = omega arith

stands_levels : (k : ℕ) (bs : List ℕ) (z : M.Sheet) → (M.stands k bs z).levels ≡ z.levels
unfolding M.stands
stands_levels k bs z =
    if_has (λ (x : M.Sheet). x.levels ≡ z.levels)
    (leb F.most_actions (length z.pieces) || ltb F.longest_file (z.staged + length (headed k bs))) refl refl

counts_levels : (d : E.Draft) (z : M.Sheet) → (M.counts d z).levels ≡ z.levels
unfolding M.counts
counts_levels d z = if_has (λ (x : M.Sheet). x.levels ≡ z.levels) (leb z.last_block (M.innermost z.levels)) refl refl

acts_levels : (d : E.Draft) (z : M.Sheet) → (M.acts d z).levels ≡ z.levels
unfolding M.acts
acts_levels d z = stands_levels d.kind d.body (M.counts d z) ∙ counts_levels d z

declares_levels : (d : E.Draft) (z : M.Sheet) → (M.declares d z).levels ≡ z.levels
unfolding M.declares M.declaring
declares_levels d z =
    if_has (λ (x : M.Sheet). x.levels ≡ z.levels) (ltb M.DECLARED (length z.declared + length (headed d.kind d.body))) refl refl

pub done_levels : (d : E.Draft) (z : M.Sheet) → (done d z).levels ≡ z.levels
done_levels d z =
    if_has (λ (x : M.Sheet). x.levels ≡ z.levels) (is_declaration d) (declares_levels d z) (acts_levels d z)

pub done_short : (d : E.Draft) (z : M.Sheet) → AllOf Short z.levels → AllOf Short (done d z).levels
done_short d z h = rw (done_levels d z) h

pub done_fit : (d : E.Draft) (z : M.Sheet) → Fit 0 z → Fit 0 (done d z)
done_fit d z h = if_has (Fit 0) (is_declaration d) (fit_declares d h) (fit_acts d h)

pub opens_short : (d : E.Draft) (z : M.Sheet) → length d.body ≤ KEPT → AllOf Short z.levels → AllOf Short (M.opens d z).levels
unfolding M.opens M.braces M.tries
opens_short d z l h = (
  tt,
  if_has (λ (x : M.Sheet). AllOf Short x.levels) (eqb d.kind K.TRY)
      (keeping_short (some (record { line = d.line; body = d.body })) _ l (rw (branching (M.kept_in z.levels)) h))
      (rw (acts_levels d z) h),
)
  where
    branching : (o : Option M.Kept) → (M.branches d o z).levels ≡ z.levels
    branching none = counts_levels d z
    branching (some x) = refl

pub sound_settled : (z : M.Sheet) → Sound z → Sound (M.settled z)
unfolding M.settled
sound_settled z h = go (M.kept_in z.levels)
  where
    go : (o : Option M.Kept) → Sound (M.let_go o z)
    go none = h
    go (some x) =
        let t = stands_total K.TRY x.body z in
        let l = stands_levels K.TRY x.body z in
        record {
          roomy = omega (arith, t.0, h.roomy);
          shallow = rw (keeping_length none (M.stands K.TRY x.body z).levels, l) h.shallow;
          short = keeping_short none (M.stands K.TRY x.body z).levels tt (rw l h.short);
          fit = fit_let_go (some x) h.fit;
        }

sound_closed : (z : M.Sheet) → Sound z → Sound (M.closed z)
unfolding M.closed
sound_closed z h =
    let t = sound_settled z h in
    record {
      roomy = t.roomy;
      shallow = omega (arith, outer_length (M.settled z).levels, t.shallow);
      short = outer_short (M.settled z).levels t.short;
      fit = fit_closed h.fit;
    }

pub sound_behind : (z : M.Sheet) (t : Token) → Sound z → Sound (behind z t)
sound_behind z t h =
    if_has Sound (eqb (mark_in t) T.RB) (sound_closed z h) (if_has Sound (eqb (mark_in t) T.ETRY) h (sound_settled z h))

pub sound_first : (z : M.Sheet) (p : ℕ) → Sound z → Sound (if eqb z.total 0 then M.with_first z p else z)
sound_first z p h =
    if_has Sound (eqb z.total 0) (record { roomy = h.roomy; shallow = h.shallow; short = h.short; fit = fit_first p h.fit }) h

-- A CLASS.
pub classes_levels : (p b : ℕ) (z : M.Sheet) → (M.classes p b z).levels ≡ z.levels
unfolding M.classes M.declaring M.classed
classes_levels p b z = go (leb F.most_classes (length z.class_at))
  where
    t : M.Sheet
    t = M.with_total z (more z.seen K.CLASS 1) M.class_bytes

    go : (c : Bool) → (M.declaring (headed K.CLASS (two b)) (if c then M.filled t
        else M.with_class t (z.class_at ++ ((length z.declared + 4) ∷ [])) (z.class_line ++ (p ∷ [])) (length z.class_at))).levels
        ≡ z.levels
    go true = if_has (λ (x : M.Sheet). x.levels ≡ z.levels) (ltb M.DECLARED (length z.declared + length (headed K.CLASS (two b)))) refl refl
    go false = if_has (λ (x : M.Sheet). x.levels ≡ z.levels) (ltb M.DECLARED (length z.declared + length (headed K.CLASS (two b)))) refl refl

classes_seen : (p b : ℕ) (z : M.Sheet) → (M.classes p b z).seen ≡ more z.seen K.CLASS 1
unfolding M.classes M.declaring M.classed
classes_seen p b z = go (leb F.most_classes (length z.class_at))
  where
    t : M.Sheet
    t = M.with_total z (more z.seen K.CLASS 1) M.class_bytes

    go : (c : Bool) → (M.declaring (headed K.CLASS (two b)) (if c then M.filled t
        else M.with_class t (z.class_at ++ ((length z.declared + 4) ∷ [])) (z.class_line ++ (p ∷ [])) (length z.class_at))).seen
        ≡ more z.seen K.CLASS 1
    go true = if_has (λ (x : M.Sheet). x.seen ≡ more z.seen K.CLASS 1) (ltb M.DECLARED (length z.declared + length (headed K.CLASS (two b)))) refl refl
    go false = if_has (λ (x : M.Sheet). x.seen ≡ more z.seen K.CLASS 1) (ltb M.DECLARED (length z.declared + length (headed K.CLASS (two b)))) refl refl

pub classes_blocks : (p b : ℕ) (z : M.Sheet) → M.blocks_of (M.classes p b z) ≡ M.blocks_of z
classes_blocks p b z =
    ap (λ xs. get_or xs K.BLOCK 0) (classes_seen p b z)
    ∙ get_or-set_other z.seen K.CLASS K.BLOCK (get_or z.seen K.CLASS 0 + 1) 0 (λ e. omega (arith, e))

pub bodied_same : (c b : ℕ) (z : M.Sheet) → ((M.bodied c b z).levels ≡ z.levels) × (M.blocks_of (M.bodied c b z) ≡ M.blocks_of z)
unfolding M.bodied
bodied_same c b z = (refl, refl)

pub braces_short : (z : M.Sheet) → AllOf Short z.levels → AllOf Short (M.braces z).levels
unfolding M.braces
braces_short z h = (tt, h)

pub short_class : (t : Bool) (c p b : ℕ) (z : M.Sheet) → AllOf Short z.levels
    → AllOf Short (if t then M.bodied c b z else M.classes p b z).levels
short_class true c p b z h = rw (bodied_same c b z).0 h
short_class false c p b z h = rw (classes_levels p b z) h

pub fit_class : (t : Bool) (c p b : ℕ) (z : M.Sheet) → Fit 0 z → Fit 0 (if t then M.bodied c b z else M.classes p b z)
fit_class t c p b z h = if_has (Fit 0) t (fit_bodied c b h) (fit_classes p b h)

-- BY THE DRAFT'S parts.
module _ (d : E.Draft) (z : M.Sheet) (s : d.size ≡ length d.body) where
  pub done_declares : d.kind < K.ACTION → M.declares (entry 0 d.kind (length d.body) d.body) z ≡ done d z
  done_declares h =
      rw (lt-ltb d.kind K.ACTION h)
      (ap (λ n. M.declares (entry 0 d.kind n d.body) z) (sym s) ∙ sym (declares-entry d z))

  pub done_acts : K.ACTION ≤ d.kind → M.acts (entry d.line d.kind (length d.body) d.body) z ≡ done d z
  done_acts h =
      rw (le-ltb d.kind K.ACTION h)
      (ap (λ n. M.acts (entry d.line d.kind n d.body) z) (sym s) ∙ sym (acts-entry d z))

  pub opens_by : M.opens (entry d.line d.kind (length d.body) d.body) z ≡ M.opens d z
  opens_by = ap (λ n. M.opens (entry d.line d.kind n d.body) z) (sym s) ∙ sym (opens-entry d z)

-- THE LIMITS, one by one.
module _ (z : M.Sheet) (line : ℕ) (d : E.Draft) (e : d.line ≡ line) where
  pub limit_total : F.longest_file < z.total → some z.first ≡ over_limit z d false
  unfolding over_limit
  limit_total h = rw (lt-ltb F.longest_file z.total h)

  module _ (l : z.total ≤ F.longest_file) where
    pub limit_classes : F.most_classes < get_or z.seen K.CLASS 0 → some line ≡ over_limit z d false
    unfolding over_limit
    limit_classes h =
        rw (le-ltb F.longest_file z.total l, lt-ltb F.most_classes (get_or z.seen K.CLASS 0) h) (ap some (sym e))

    module _ (c : get_or z.seen K.CLASS 0 ≤ F.most_classes) where
      pub limit_actions : F.most_actions < get_or z.seen K.ACTION 0 → some z.last_line ≡ over_limit z d false
      unfolding over_limit
      limit_actions h =
          rw (
            le-ltb F.longest_file z.total l,
            le-ltb F.most_classes (get_or z.seen K.CLASS 0) c,
            lt-ltb F.most_actions (get_or z.seen K.ACTION 0) h,
          )

      module _ (a : get_or z.seen K.ACTION 0 ≤ F.most_actions) where
        pub limit_blocks : F.most_blocks < get_or z.seen K.BLOCK 0 → some line ≡ over_limit z d false
        unfolding over_limit
        limit_blocks h =
            rw (
              le-ltb F.longest_file z.total l,
              le-ltb F.most_classes (get_or z.seen K.CLASS 0) c,
              le-ltb F.most_actions (get_or z.seen K.ACTION 0) a,
              lt-ltb F.most_blocks (get_or z.seen K.BLOCK 0) h,
            ) (ap some (sym e))

        module _ (b : get_or z.seen K.BLOCK 0 ≤ F.most_blocks) where
          pub limit_depth : F.deepest < length z.levels → some (get_or z.class_line z.current 0) ≡ over_limit z d false
          unfolding over_limit
          limit_depth h =
              rw (
                le-ltb F.longest_file z.total l,
                le-ltb F.most_classes (get_or z.seen K.CLASS 0) c,
                le-ltb F.most_actions (get_or z.seen K.ACTION 0) a,
                le-ltb F.most_blocks (get_or z.seen K.BLOCK 0) b,
                lt-ltb F.deepest (length z.levels) h,
              )

          pub limit_full : length z.levels ≤ F.deepest → (t : Bool) → z.full ≡ t
              → (if t then some 0 else none) ≡ over_limit z d false
          unfolding over_limit
          limit_full h t f =
              rw (
                le-ltb F.longest_file z.total l,
                le-ltb F.most_classes (get_or z.seen K.CLASS 0) c,
                le-ltb F.most_actions (get_or z.seen K.ACTION 0) a,
                le-ltb F.most_blocks (get_or z.seen K.BLOCK 0) b,
                le-ltb F.deepest (length z.levels) h,
                f,
              )

-- A STEP that is told by its limits.
pub steps_by : {z want : M.Sheet} (d : E.Draft) {f : Bool} (r : Result (Unit {0}) ℕ) → z ≡ want → cut_of r ≡ over_limit z d false
    → false ≡ f → OnOk r ((z.total < FULL) × (length z.levels ≤ F.deepest)) → AllOf Short want.levels → Fit 0 want
    → Steps (over_limit want d f) want r z
steps_by {z} {want} d {f} (Ok x) e c n s h j =
    record {
      cut = c ∙ ap (λ y. over_limit y d false) e ∙ ap (over_limit want d) n;
      same = e;
      sound = record { roomy = s.0; shallow = s.1; short = rw e h; fit = rw e j };
    }
steps_by {z} {want} d {f} (Err p) e c n s h j =
    record { cut = c ∙ ap (λ y. over_limit y d false) e ∙ ap (over_limit want d) n; same = tt; sound = tt }
