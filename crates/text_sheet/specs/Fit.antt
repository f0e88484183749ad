-- What is so of the machine's sheet from the blank one on: each step keeps it. So who has it once has all that the steps of
-- `Sheet` ask of the numbers, while bytes are counted.
-- Assumes nothing.
use Rattle.std.specs.Prelude.{ℕ, zero, suc, ◌+◌, ◌-◌, ◌≤◌, ◌<◌, ◌≡◌, List, [], ◌∷◌, ◌++◌, Bool, true, false, ◌||◌, eqb, leb, ltb, length, get_or, take, drop, replicate, if◌then◌else◌}
use Rattle.std.proofs.Common.{arith, length-append, length-take, length-drop}
use Rattle.std.proofs.Math.Option.{Option, none, some}
use Rattle.semantics.specs.Numbers as No
use Rattle.semantics.specs.Kinds as K
use Rattle.semantics.specs.Words.{more}
use Rattle.text_semantics.specs.Written.{two}
use Rattle.text_machine.specs.Entry.{Draft, FULL}
use Rattle.text_machine.specs.Sheet as M
use Rattle.text_machine.specs.Sheet.{headed, long}

-- The bytes are counted so far and no farther, and while they are, there are no more records of a group than bytes; and the body
-- blocks of classes stand among the declarations, of which n bytes are still to come, while there was room for all.
pub record Fit (n : ℕ) (z : M.Sheet) : Type 0 where
  pub bytes : z.total ≤ FULL
  pub few : z.total < FULL → (g : ℕ) → get_or z.seen g 0 ≤ z.total
  pub placed : z.full ≡ false → (k : ℕ) → k < length z.class_at → get_or z.class_at k 0 + 2 ≤ length z.declared + n

none_more : (n g : ℕ) → get_or (replicate n 0) g 0 ≤ 0
none_more zero g = omega arith
none_more (suc n) zero = omega arith
none_more (suc n) (suc g) = none_more n g

pub fit_blank : Fit 0 M.blank
fit_blank = record { bytes = omega arith; few = λ h g. none_more K.groups g; placed = λ f k h. absurd (omega (arith, h)) }

-- One record more of a group.
one_more : (xs : List ℕ) (g h : ℕ) → get_or (more xs g 1) h 0 ≤ get_or xs h 0 + 1
one_more [] g h = omega arith
one_more (x ∷ xs) zero zero = omega arith
one_more (x ∷ xs) zero (suc h) = omega arith
one_more (x ∷ xs) (suc g) zero = omega arith
one_more (x ∷ xs) (suc g) (suc h) = one_more xs g h

either : (P : M.Sheet → Type 0) (b : Bool) {x y : M.Sheet} → P x → P y → P (if b then x else y)
either P true p q = p
either P false p q = q

-- THE NUMBERS.
pub fit_first : {n : ℕ} {z : M.Sheet} (p : ℕ) → Fit n z → Fit n (M.with_first z p)
fit_first p h = record { bytes = h.bytes; few = h.few; placed = h.placed }

pub fit_longer : {n : ℕ} {z : M.Sheet} (m : ℕ) → Fit n z → Fit n (M.with_total z z.seen m)
fit_longer {z = z} m h =
    record { bytes = omega arith; few = λ l g. let b = h.few (omega (arith, l)) g in omega (arith, l, b); placed = h.placed }

pub fit_counted : {n : ℕ} {z : M.Sheet} (g m : ℕ) → 0 < m → Fit n z → Fit n (M.with_total z (more z.seen g 1) m)
fit_counted {z = z} g m e h =
    record {
      bytes = omega arith;
      few = λ l k. let a = one_more z.seen g k in let b = h.few (omega (arith, l)) k in omega (arith, a, b, l, e);
      placed = h.placed;
    }

fit_filled : {n m : ℕ} {z : M.Sheet} → Fit n z → Fit m (M.filled z)
fit_filled h = record { bytes = h.bytes; few = h.few; placed = λ f. let z : ◌≡◌ {A = Bool} true false = f in cc }

fit_levels : {n : ℕ} {z : M.Sheet} (ls : List M.Level) → Fit n z → Fit n (M.with_levels z ls)
fit_levels ls h = record { bytes = h.bytes; few = h.few; placed = h.placed }

-- DECLARATIONS.
fit_declaring : (bs : List ℕ) {z : M.Sheet} → Fit (length bs) z → Fit 0 (M.declaring bs z)
unfolding M.declaring
fit_declaring bs {z} h =
    either (Fit 0) (ltb M.DECLARED (length z.declared + length bs)) (fit_filled h)
    (record {
      bytes = h.bytes;
      few = h.few;
      placed = λ f k l. let p = h.placed f k l in omega (arith, p, length-append z.declared bs);
    })

fit_later : {z : M.Sheet} (n : ℕ) → Fit 0 z → Fit n z
fit_later n h = record { bytes = h.bytes; few = h.few; placed = λ f k l. let p = h.placed f k l in omega (arith, p) }

pub fit_declares : {z : M.Sheet} (d : Draft) → Fit 0 z → Fit 0 (M.declares d z)
unfolding M.declares
fit_declares {z} d h =
    fit_declaring (headed d.kind d.body) (fit_later (length (headed d.kind d.body)) (fit_counted d.kind (long d) (omega arith) h))

-- A class's own number stands in its record, which is still to come.
at_most : (xs : List ℕ) (v n k : ℕ) → ((j : ℕ) → j < length xs → get_or xs j 0 + 2 ≤ n) → v + 2 ≤ n
    → k < length (xs ++ (v ∷ [])) → get_or (xs ++ (v ∷ [])) k 0 + 2 ≤ n
at_most [] v n zero h e l = e
at_most [] v n (suc k) h e l = absurd (omega (arith, l))
at_most (x ∷ xs) v n zero h e l = h 0 (omega arith)
at_most (x ∷ xs) v n (suc k) h e l =
    at_most xs v n k (λ j i. h (suc j) (omega (arith, i))) e (omega (arith, l))

fit_classed : {z : M.Sheet} (p : ℕ) → Fit 0 z → Fit 6 (M.classed p z)
unfolding M.classed
fit_classed {z} p h =
    either (Fit 6) (leb No.most_classes (length z.class_at)) (fit_filled h)
    (record {
      bytes = h.bytes;
      few = h.few;
      placed = λ f k l. at_most z.class_at (length z.declared + 4) (length z.declared + 6) k
          (λ j i. let q = h.placed f j i in omega (arith, q)) (omega arith) l;
    })

pub fit_classes : {z : M.Sheet} (p b : ℕ) → Fit 0 z → Fit 0 (M.classes p b z)
unfolding M.classes
fit_classes {z} p b h =
    fit_declaring (headed K.CLASS (two b)) (fit_classed p (fit_counted K.CLASS M.class_bytes (omega arith) h))

pub fit_bodied : {z : M.Sheet} (c b : ℕ) → Fit 0 z → Fit 0 (M.bodied c b z)
unfolding M.bodied
fit_bodied {z} c b h =
    let p : ℕ = get_or z.class_at c 0 in
    let m : length z.declared ≤ length (take p z.declared ++ two b ++ drop (p + 2) z.declared) =
    simp (length-append, length-take, length-drop) (omega arith) in
    record { bytes = h.bytes; few = h.few; placed = λ f k l. let q = h.placed f k l in omega (arith, q, m) }

-- ACTIONS.
fit_counts : {z : M.Sheet} (d : Draft) → Fit 0 z → Fit 0 (M.counts d z)
unfolding M.counts
fit_counts {z} d h =
    let t = fit_counted K.ACTION (long d) (omega arith) h in
    either (Fit 0) (leb z.last_block (M.innermost z.levels)) (record { bytes = t.bytes; few = t.few; placed = t.placed }) t

fit_stands : {z : M.Sheet} (k : ℕ) (bs : List ℕ) → Fit 0 z → Fit 0 (M.stands k bs z)
unfolding M.stands
fit_stands {z} k bs h =
    either (Fit 0) (leb No.most_actions (length z.pieces) || ltb No.longest_file (z.staged + length (headed k bs)))
    (fit_filled h) (record { bytes = h.bytes; few = h.few; placed = h.placed })

pub fit_acts : {z : M.Sheet} (d : Draft) → Fit 0 z → Fit 0 (M.acts d z)
unfolding M.acts
fit_acts d h = fit_stands d.kind d.body (fit_counts d h)

pub fit_let_go : {z : M.Sheet} (o : Option M.Kept) → Fit 0 z → Fit 0 (M.let_go o z)
fit_let_go none h = h
fit_let_go (some x) h = fit_levels _ (fit_stands K.TRY x.body h)

pub fit_settled : {z : M.Sheet} → Fit 0 z → Fit 0 (M.settled z)
unfolding M.settled
fit_settled {z} h = fit_let_go (M.kept_in z.levels) h

-- BLOCKS.
pub fit_closed : {z : M.Sheet} → Fit 0 z → Fit 0 (M.closed z)
unfolding M.closed
fit_closed h = fit_levels _ (fit_settled h)

pub fit_braces : {z : M.Sheet} → Fit 0 z → Fit 0 (M.braces z)
unfolding M.braces
fit_braces h = fit_levels _ (fit_counted K.BLOCK 4 (omega arith) h)

fit_tries : {z : M.Sheet} (d : Draft) → Fit 0 z → Fit 0 (M.tries d z)
unfolding M.tries
fit_tries {z} d h = fit_levels _ (go (M.kept_in z.levels))
  where
    go : (o : Option M.Kept) → Fit 0 (M.branches d o z)
    go none = fit_counts d h
    go (some x) = fit_longer (d.size - length x.body) h

pub fit_opens : {z : M.Sheet} (d : Draft) → Fit 0 z → Fit 0 (M.opens d z)
unfolding M.opens
fit_opens d h = fit_braces (either (Fit 0) (eqb d.kind K.TRY) (fit_tries d h) (fit_acts d h))
