-- `file_check_record::field_known` meets its contract. Assumes nothing.
use mathlib.Core.Path.{◌≡◌, sym, ◌∙◌}
use native.Mathlib.Omega.{arith}
use Rattle.file_check_record.proofs.Rules.{naming_proper, known_none, known_local, known_group}
use Rattle.file_check_record.proofs.Table.{naming_in, naming_small}
use Rattle.file_check_record.specs.Rows.{column_of, naming_of, naming_at}
use Rattle.semantics.specs.Record.{row_of}
use Rattle.file_check_record.proofs.field_known.Goals as goal

pub returns-then-of-eq0 : goal.returns-then-of-eq0
unfolding column_of
returns-then-of-eq0 c = let k = c.args.kind in
    known_none c.args.n c.args.bs.now (row_of k).naming
    (naming_proper k) (sym c.entry-of.ensures ∙ c.if-of-eq0.true)

pub u16_at-number-requires : goal.u16_at-number-requires
unfolding column_of
u16_at-number-requires c = let k = c.args.kind in
    let g : c.entry-of.result ≡ naming_of (row_of k).naming = c.entry-of.ensures in
    let a : c.entry-at.result ≡ naming_at (row_of k).naming = c.entry-at.ensures in
    let f = naming_in k (λ e. c.if-of-eq0.false (g ∙ e)) in
    omega (arith, a, f, c.requires)

pub returns-then-of-eq-LOCAL : goal.returns-then-of-eq-LOCAL
unfolding column_of
returns-then-of-eq-LOCAL c = let k = c.args.kind in
    rw (c.u16_at-number.ensures.0, c.entry-at.ensures) (known_local
    c.args.n c.args.bs.now (row_of k).naming (naming_proper k) (sym c.entry-of.ensures ∙ c.if-of-eq-LOCAL.true))

pub bounds-n-of : goal.bounds-n-of
unfolding column_of
bounds-n-of c = let k = c.args.kind in
    let g : c.entry-of.result ≡ naming_of
    (row_of k).naming = c.entry-of.ensures in
    omega (arith, g, naming_small k, c.if-of-eq-LOCAL.false)

pub returns : goal.returns
unfolding column_of
returns c = let k = c.args.kind in
    let g : c.entry-of.result ≡ naming_of
    (row_of k).naming = c.entry-of.ensures in
    rw (c.u16_at-number.ensures.0, c.entry-at.ensures, g) (known_group
    c.args.n c.args.bs.now (row_of k).naming (λ e. c.if-of-eq0.false (g ∙ e)) (λ e. c.if-of-eq-LOCAL.false (g ∙ e)))
