-- One answer: two lists that meet the same contract are the same, since a list shows nothing but its values.
-- Assumes nothing.
use Rattle.std.specs.Prelude.{◌≡◌, List}
use Rattle.std.proofs.Common.{sym, ap, ◌∙◌}
use Rattle.text_list.specs.Cells.{Items}

pub same_items : {T : Type 0} {xs : List T} {v w : Items T} → v.items ≡ xs → w.items ≡ xs → v ≡ w
same_items h k = ap (λ xs. let l : Items _ = record { items = xs } in l) (h ∙ sym k)
