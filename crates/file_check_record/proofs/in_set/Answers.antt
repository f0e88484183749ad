-- `file_check_record::in_set` meets its contract. Assumes nothing.
use mathlib.Core.Path.{◌≡◌, sym, ◌∙◌}
use native.Mathlib.Omega.{arith}
use Rattle.file_check_record.proofs.Rules.{in_set_is, in_sampler_set}
use Rattle.file_check_record.proofs.Table.{field_in}
use Rattle.file_check_record.specs.Rows.{column_of, field_size, field_at}
use Rattle.semantics.specs.Record.{row_of}
use Rattle.file_check_record.proofs.in_set.Goals as goal

pub sampler_valid-requires : goal.sampler_valid-requires
unfolding column_of
sampler_valid-requires c = let z : c.entry-size.result ≡ field_size (row_of c.args.kind).field = c.entry-size.ensures in
    omega (arith, z, c.if-size-eq-SAMPLER_BYTES.true, field_in c.args.kind, c.requires)

pub returns-then-size-eq-SAMPLER_BYTES : goal.returns-then-size-eq-SAMPLER_BYTES
unfolding column_of
returns-then-size-eq-SAMPLER_BYTES c = c.sampler_valid.ensures ∙ sym (in_sampler_set (row_of c.args.kind).field c.args.bs.now
    (sym c.entry-size.ensures ∙ c.if-size-eq-SAMPLER_BYTES.true))

pub number_at-v-requires : goal.number_at-v-requires
unfolding column_of
number_at-v-requires c = let z : c.entry-size.result ≡ field_size (row_of c.args.kind).field = c.entry-size.ensures in
    let a : c.entry-at.result ≡ field_at (row_of c.args.kind).field = c.entry-at.ensures in
    omega (arith, z, a, field_in c.args.kind, c.requires)

pub returns : goal.returns
unfolding column_of
returns c = let z : c.entry-size.result ≡ field_size (row_of c.args.kind).field = c.entry-size.ensures in
    rw (
      in_set_is (row_of c.args.kind).field c.args.bs.now (λ e. c.if-size-eq-SAMPLER_BYTES.false (z ∙ e)),
      ← z,
      ← c.entry-at.ensures,
      ← c.entry-low.ensures,
      ← c.entry-high.ensures,
      ← c.number_at-v.ensures,
    )
