-- One answer: two answers that meet a contract of this crate are the same.
-- Assumes nothing.
use Rattle.std.specs.Prelude.{ℕ, ◌≡◌, List, [], length}
use Rattle.std.proofs.Common.{sym, ◌∙◌, ap}
use Rattle.semantics.specs.Kinds as K
use Rattle.text_machine.specs.Entry.{Draft}
use Rattle.text_machine.specs.Sheet as M
use Rattle.text_sheet.specs.Numbers.{entry, Counts, Branches, OpenedTotal}

-- A sheet after a step: what was written before, and the step, determine it.
pub same_sheet : (f : M.Sheet → M.Sheet) {s r r' : M.Sheet} → r ≡ f s → r' ≡ f s → r ≡ r'
same_sheet f h k = h ∙ sym k

-- A try that goes on: its line and its body are those of one draft.
pub same_again : {d : Draft} {line line' : ℕ} {body body' : List ℕ} → d ≡ entry line K.TRY (length body) body
    → d ≡ entry line' K.TRY (length body') body' → (line ≡ line') × (body ≡ body')
same_again h k =
    let same = sym h ∙ k in (ap (λ (d : Draft). d.line) same, ap (λ (d : Draft). d.body) same)

-- An action that is counted, and a branch of a try.
pub same_counts : (line size : ℕ) (s : M.Sheet) {r r' : M.Sheet} → Counts line size s r → Counts line size s r' → r ≡ r'
same_counts line size s h k = h 0 [] ∙ sym (k 0 [])

pub same_branches : (line size : ℕ) (s : M.Sheet) {r r' : M.Sheet} → Branches line size s r → Branches line size s r' → r ≡ r'
same_branches line size s h k = h [] ∙ sym (k [])

-- The bytes with an action that opens a block.
pub same_opened_total : (kind size : ℕ) (s : M.Sheet) {n m : ℕ} → OpenedTotal kind size s n → OpenedTotal kind size s m → n ≡ m
same_opened_total kind size s h k = h 0 [] ∙ sym (k 0 [])
