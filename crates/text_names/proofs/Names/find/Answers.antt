-- A search goes on past a row with another key or another name.
use Rattle.std.proofs.Common.{◌≡◌, ◌-◌, ◌+◌, sym, ◌∙◌, arith}
use Rattle.std.specs.Prelude.{false, slice_index_or}
use Rattle.text_names.specs.declared.Row.{Row}
use Rattle.text_names.specs.Table.{known_of, part_of}
use Rattle.text_names.proofs.Searches.{search_all, search_on, other_key}
use Rattle.text_names.proofs.Names.find.Goals as goal
use Rattle.text_names.proofs.Names.find.Goals.{else-row-key-via-then-row-key+else-same, else-row-key-via-else-row-key}

-- What stands for an element past the end.
abbrev no_row : Row
no_row = record { at = 0; len = 0; key = 0; kind = 0; number = 0; lacks = false }

pub loop-i-init : goal.loop-i-init
loop-i-init c =
    rw (c.deref-row-items.ensures.0, ← c.self.view_is)
    (search_all (known_of c.self.inside.text.now c.self.inside.rows.items) (part_of c.self.inside.text.now c.args.p c.args.e))

pub loop-i-preserved : goal.loop-i-preserved
loop-i-preserved c =
    let i = c.loop-i.i in
    let rows = c.deref-row-items.result.now in
    let h = c.loop-i-test.true in
    elim c.else-row-key.branch [
      | else-row-key-via-then-row-key+else-same w ↦ let r = slice_index_or rows i no_row in
          let e : r.at + r.len - r.at ≡ r.len = omega arith in
          search_on c.args.self.now.text rows (part_of c.self.inside.text.now c.args.p c.args.e) i no_row h
          (rw (← c.self.view_is) (rw e at (sym w.same.ensures ∙ w.if-same.false))) ∙ c.loop-i.invariant
      | else-row-key-via-else-row-key w ↦
          search_on c.args.self.now.text rows (part_of c.self.inside.text.now c.args.p c.args.e) i no_row h
          (rw (← c.self.view_is, c.deref-row-items.ensures.0)
          (other_key c.self.inside.text.now _ _ _ (c.self.invariant.right i no_row (rw c.deref-row-items.ensures.0 at h))
          c.key_of-key.ensures (λ x. w.if-row-key.false (rw c.deref-row-items.ensures.0 x)))) ∙ c.loop-i.invariant
    ]
