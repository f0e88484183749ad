-- `drafted` has one answer: its contract leaves nothing open of the draft.
-- Assumes nothing.
use Rattle.std.specs.Prelude.{ℕ, ◌≡◌, List, []}
use Rattle.std.proofs.Common.{sym, ◌∙◌}
use Rattle.text_machine.specs.Entry.{Draft}
use Rattle.text_entry.specs.Draft.{Left}

-- Two answers that meet the contract are equal.
pub same_drafted : {want : List ℕ → Draft} {d e : Draft} → Left want d → Left want e → d ≡ e
same_drafted p q = p [] ∙ sym (q [])
