-- `place_of` tells the table's place, and 0 as none. Assumes nothing.
use Rattle.std.specs.Prelude.{ℕ, ◌≡◌, ◌<◌, List, Some, None}
use Rattle.std.proofs.Common.{arith, sym, ◌∙◌}
use borrow.Author.Tests.{lt-ltb, eq-eqb, ne_eqb}
use Rattle.text_pile.specs.Table.{place_of, entry_of, MARKS}
use Rattle.text_pile.proofs.Piles.{place_in}
use Rattle.text_pile.proofs.place_of.Goals as goal

none : (table : List ℕ) (k j : ℕ) → place_of table k j ≡ 0 → None ≡ entry_of table k j
none table k j e = rw (eq-eqb _ _ e)

one : (table : List ℕ) (k j n : ℕ) → place_of table k j ≡ n → (n ≡ 0 → ⊥) → Some n ≡ entry_of table k j
one table k j n e z = rw (e, ne_eqb n 0 z)

mark : (table : List ℕ) (k j : ℕ) → k < MARKS → k ≡ j → place_of table k j ≡ 1
unfolding place_of
mark table k j h e = rw (lt-ltb k MARKS h, eq-eqb k j e)

other : (table : List ℕ) (k j : ℕ) → k < MARKS → (k ≡ j → ⊥) → place_of table k j ≡ 0
unfolding place_of
other table k j h e = rw (lt-ltb k MARKS h, ne_eqb k j e)

pub returns-then-class-column : goal.returns-then-class-column
returns-then-class-column c =
    let a = c.args in
    let e = c.from-class.ensures in
    one a.table.now a.class a.column 1
    (mark a.table.now a.class a.column (rw e at c.if-class-lt-MARKS.true) (rw e at c.if-class-column.true)) (λ z. absurd (omega arith))

pub returns-then-class-lt-MARKS : goal.returns-then-class-lt-MARKS
returns-then-class-lt-MARKS c =
    let a = c.args in
    let e = c.from-class.ensures in
    none a.table.now a.class a.column
    (other a.table.now a.class a.column (rw e at c.if-class-lt-MARKS.true) (λ z. c.if-class-column.false (e ∙ z)))

pub returns-then-place-eq0 : goal.returns-then-place-eq0
returns-then-place-eq0 c =
    let a = c.args in
    none a.table.now a.class a.column
    (place_in a.table.now a.class a.column (rw c.from-class.ensures at c.if-class-lt-MARKS.false)
    ∙ rw (← c.from-class.ensures) (sym c.from-place.ensures) ∙ c.if-place-eq0.true)

pub returns : goal.returns
returns c =
    let a = c.args in
    one a.table.now a.class a.column c.from-place.result
    (place_in a.table.now a.class a.column (rw c.from-class.ensures at c.if-class-lt-MARKS.false)
    ∙ rw (← c.from-class.ensures) (sym c.from-place.ensures)) c.if-place-eq0.false
