-- A claim as the items behind its count, in a file's bytes. Assumes nothing.
use Rattle.std.specs.Prelude.{ℕ, ◌+◌, ◌*◌, ◌≤◌, ◌≡◌, List, map, length, drop}
use Rattle.std.proofs.Common.{arith, sym, ◌∙◌, ap, get_or-drop, drop-drop}
use Rattle.semantics.specs.Model.{Claim}
use Rattle.semantics.specs.Bytes.{u8, u16, parts}
use Rattle.semantics.specs.Record.{item_of, claim_in}

-- A claim stands whole at byte `at`: its count, and as many items.
abbrev pub Whole : List ℕ → ℕ → Type 0
Whole bs at = at + (2 + 8 * u16 bs at) ≤ length bs

-- The n items that bs begins with.
abbrev pub items_in : ℕ → List ℕ → Claim
items_in n bs = map item_of (parts 8 n bs)

count_is : (bs : List ℕ) (at : ℕ) → u16 (drop at bs) 0 ≡ u16 bs at
count_is bs at =
    let z : at + 0 ≡ at = omega arith in
    let a = get_or-drop at bs 0 0 ∙ ap (u8 bs) z in
    let b = get_or-drop at bs 1 0 in
    omega (arith, a, b)

pub claim_items : (bs : List ℕ) (at : ℕ) → items_in (u16 bs at) (drop (at + 2) bs) ≡ claim_in (drop at bs)
unfolding claim_in
claim_items bs at =
    ap (λ k. items_in k (drop (at + 2) bs)) (sym (count_is bs at))
    ∙ ap (items_in (u16 (drop at bs) 0)) (sym (drop-drop 2 at bs))
