-- One answer: a text at the front of lent bytes is put there in one way only. Assumes nothing.
use Rattle.std.specs.Prelude.{ℕ, ◌≡◌, List, ◌++◌, drop}
use Rattle.std.proofs.Common.{sym, ◌∙◌, ap}
use Rattle.plan_text.specs.Put.{Front}

pub same_front : (t xs ys ys' : List ℕ) (r r' : ℕ) → Front t xs ys r → Front t xs ys' r' → (r ≡ r') × (ys ≡ ys')
same_front t xs ys ys' r r' h k =
    let e = h.count ∙ sym k.count in (e, h.bytes ∙ ap (λ n. t ++ drop n xs) e ∙ sym k.bytes)
