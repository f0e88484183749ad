-- The draft that a token is added to: at an etry that a try goes on with, that try. Assumes nothing.
use Prim.Native.Nat.{ℕ}
use native.Mathlib.Omega.{arith}
use mathlib.Core.Path.{◌≡◌, refl, sym, ◌∙◌, ap}
use mathlib.Core.List.{List}
use mathlib.Core.Bool.{Bool, true, false, ◌&&◌}
use lib.Dec.{eqb}
use borrow.Author.Tests.{eqb-true, eqb-false}
use Rattle.promises.specs.Laws.{and-true}
use Rattle.text_semantics.specs.Token as T
use Rattle.text_semantics.specs.Token.{Token, mark}
use Rattle.text_machine.specs.Entry as M
use Rattle.text_machine.specs.Entry.{drafted, mark_in}
use Rattle.text_machine.specs.Codes as C
use Rattle.text_machine.specs.Codes.{symbol_of, token_of}
use Rattle.text_entry.specs.Kept.{kept_else, kept_etry}
use Rattle.text_reader.proofs.Troubles.{no_mark}

not_etry : (k v : ℕ) (x : List ℕ) → (k ≡ T.ETRY → ⊥) → token_of k v x ≡ mark T.ETRY → ⊥
not_etry k v x h e =
    let a : eqb (mark_in (token_of k v x)) T.ETRY ≡ false = no_mark k v x T.ETRY h (λ q. omega (arith, q)) in
    let b : eqb (mark_in (token_of k v x)) T.ETRY ≡ true = ap (λ t. eqb (mark_in t) T.ETRY) e in
    let z : ◌≡◌ {A = Bool} true false = sym b ∙ a in
    let y : ◌≡◌ {A = ℕ} 0 1 = cc in
    omega arith

module _ (s kind value w i k p : ℕ) (kept d r : M.Draft) (x : List ℕ) where
  abbrev t : Token
  t = token_of kind value x

  abbrev Goes : Type 0
  Goes = drafted w i k p r (symbol_of s) t r ≡ drafted w i k p kept (symbol_of s) t d

  pub goes_etry : (eqb kind T.ETRY && eqb s C.TRY) ≡ true → r ≡ kept → Goes
  goes_etry f e =
      let j : s ≡ C.TRY = eqb-true s C.TRY (and-true (eqb kind T.ETRY) (eqb s C.TRY) f).1 in
      ap (λ y. drafted w i k p y (symbol_of s) t y) e
      ∙ ap (λ n. drafted w i k p kept (symbol_of n) t kept) j
      ∙ sym (kept_etry w i k p kept d t)
      ∙ ap (λ n. drafted w i k p kept (symbol_of n) t d) (sym j)

  pub goes_plain : (eqb kind T.ETRY && eqb s C.TRY) ≡ false → (kind ≡ T.ETRY → (s ≡ C.TRY → ⊥) → s ≡ T.ETRY) → r ≡ d → Goes
  unfolding drafted
  goes_plain f g e = ap (λ y. drafted w i k p y (symbol_of s) t y) e ∙ go (eqb kind T.ETRY) refl (eqb s C.TRY) refl f
    where
      go : (b : Bool) → eqb kind T.ETRY ≡ b → (c : Bool) → eqb s C.TRY ≡ c → (b && c) ≡ false
          → drafted w i k p d (symbol_of s) t d ≡ drafted w i k p kept (symbol_of s) t d
      go true q true c h = let z : ◌≡◌ {A = ℕ} 0 1 = cc in absurd (omega arith)
      go true q false c h =
          let j : s ≡ T.ETRY = g (eqb-true kind T.ETRY q) (eqb-false s C.TRY c) in
          ap (λ n. drafted w i k p d (symbol_of n) t d) j ∙ ap (λ n. drafted w i k p kept (symbol_of n) t d) (sym j)
      go false q c b h =
          sym (kept_else w i k p kept d (symbol_of s) t (not_etry kind value x (eqb-false kind T.ETRY q)))
