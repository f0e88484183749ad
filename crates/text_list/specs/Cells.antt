-- What a contract sees of a list, and what is true of its cells.
-- Assumes nothing.
use Rattle.std.specs.Prelude.{ℕ, ◌-◌, ◌≤◌, ◌≡◌, refl, List, ◌++◌, length, take, drop, replicate}
use Rattle.std.specs.Coded.{Coded, code_by, coded_list}
use Rattle.std.proofs.Common.{arith, sym, ap, ◌∙◌, length-take-le, take-append-drop}

-- The values, in order.
pub record Items (T : Type 0) : Type 0 where
  pub items : List T

-- They are stored as the list that they are.
abbrev pub items_code : {T : Type 0} → Coded T → Coded (Items T)
items_code {T} code = code_by (List T) (coded_list code) (λ v. v.items) (λ xs. record { items = xs }) (λ _. refl)

-- All cells of which the first hold these values and the others the blank.
abbrev pub filled : {T : Type 0} → T → ℕ → List T → List T
filled blank n xs = xs ++ replicate (n - length xs) blank

module _ {T : Type 0} (blank : T) (n : ℕ) where
  -- Of n cells so many are used, and the others are blank.
  pub record Fine (cells : List T) (size : ℕ) : Type 0 where
    pub fits : size ≤ n
    pub whole : length cells ≡ n
    pub rest : drop size cells ≡ replicate (n - size) blank

  -- The values determine the cells.
  pub determined : (cells : List T) (size : ℕ) → Fine cells size
      → (filled blank n (take size cells) ≡ cells) × (length (take size cells) ≡ size)
  determined cells size h =
      let k = length-take-le size cells (omega (arith, h.fits, h.whole)) in
      let xs = take size cells in
      (ap (λ m. xs ++ replicate (n - m) blank) k ∙ ap (λ ys. xs ++ ys) (sym h.rest) ∙ take-append-drop size cells, k)
