-- One answer: two answers of `turn` that meet its contract, each with the pile that it leaves, are the same.
-- Assumes nothing.
use Rattle.std.specs.Prelude.{ℕ, zero, suc, ◌+◌, ◌*◌, ◌<◌, ◌≡◌, refl, List, [], Bool, true, false, ◌&&◌, eqb, length, get_or, if◌then◌else◌, Result, Ok, Err}
use Rattle.std.proofs.Common.{arith, sym, ◌∙◌, ap, ext_get_or, eqb-true}
use Rattle.std.proofs.Math.Option.{none, some}
use Rattle.std.proofs.lemmas.Bool.{eqb-false}
use Rattle.text_semantics.specs.Numbers as No
use Rattle.text_semantics.specs.Reading.{Symbol, Closer, round, comma, semi, one, the, a_name, a_number, factor_s, minus_s, more}
use Rattle.text_semantics.specs.Reading.{signed_s, relation_s, item_s, claim_s, items_s, gives_s, given_s, actions_s, try_s, few_s, lines_s}
use Rattle.text_semantics.specs.Reading.{body_s, text_s}
use Rattle.text_machine.specs.Codes as C
use Rattle.text_machine.specs.Codes.{symbol_of}
use Rattle.text_pile.specs.declared.Misfit.{Misfit}
use Rattle.text_pile.specs.Pile.{SYMBOLS, Known, Turns, pile_of, stack_of}

-- The number of a symbol.
abbrev closing : Closer → ℕ
closing round = 2
closing comma = 3
closing semi = 4

abbrev number_for : ℕ → ℕ
number_for b = if eqb b No.top_number then C.NUMBER else if eqb b No.top_count then C.COUNT else C.MAGNITUDE

abbrev number_of : Symbol → ℕ
number_of (one (the k)) = k
number_of (one a_name) = C.NAME
number_of (one (a_number b)) = number_for b
number_of (factor_s d) = C.EXPRESSION + C.PARTS * d
number_of (minus_s d) = C.EXPRESSION + C.PARTS * d + 1
number_of (more d c) = C.EXPRESSION + C.PARTS * d + closing c
number_of signed_s = C.SIGNED
number_of relation_s = C.RELATION
number_of item_s = C.ITEM
number_of claim_s = C.CLAIM
number_of items_s = C.ITEMS
number_of gives_s = C.GIVES
number_of given_s = C.GIVEN
number_of actions_s = C.ACTIONS
number_of try_s = C.TRY
number_of (few_s k) = C.FEW + k
number_of lines_s = C.LINES
number_of body_s = C.BODY
number_of text_s = C.TEXT

below : (c n : ℕ) → c < suc n → (c ≡ n → ⊥) → c < n
below c n h f = omega arith

-- All numbers below n come back.
abbrev back_to : ℕ → Bool
back_to zero = true
back_to (suc n) = eqb (number_of (symbol_of n)) n && back_to n

all_back : back_to SYMBOLS ≡ true
all_back = refl

back : (n c : ℕ) → back_to n ≡ true → c < n → number_of (symbol_of c) ≡ c
back zero c e h = absurd (omega arith)
back (suc n) c e h = go (eqb (number_of (symbol_of n)) n) (back_to n) (eqb c n) refl refl refl e (λ g i. back n c g i)
  where
    go : (a b d : Bool) → eqb (number_of (symbol_of n)) n ≡ a → back_to n ≡ b → eqb c n ≡ d → a && b ≡ true →
        (back_to n ≡ true → c < n → number_of (symbol_of c) ≡ c) → number_of (symbol_of c) ≡ c
    go true true true f g i k r = rw (eqb-true c n i) (eqb-true (number_of (symbol_of n)) n f)
    go true true false f g i k r = r g (below c n h (eqb-false c n i))
    go true false d f g i k r = let z : ◌≡◌ {A = ℕ} 0 1 = cc in absurd (omega arith)
    go false b d f g i k r = let z : ◌≡◌ {A = ℕ} 0 1 = cc in absurd (omega arith)

-- Two symbols that are the same have one number.
one_number : (c d : ℕ) → c < SYMBOLS → d < SYMBOLS → symbol_of c ≡ symbol_of d → c ≡ d
one_number c d h k e = sym (back SYMBOLS c all_back h) ∙ ap number_of e ∙ back SYMBOLS d all_back k

-- Two piles that are the same are of one height, and have the same numbers.
pile_height : (p : List ℕ) (h : ℕ) → length (pile_of p h) ≡ h
unfolding pile_of
pile_height p zero = refl
pile_height p (suc h) = ap suc (pile_height p h)

pile_numbers : (p q : List ℕ) (h : ℕ) → Known p h → Known q h → pile_of p h ≡ pile_of q h → (i : ℕ) → i < h →
    get_or p i 0 ≡ get_or q i 0
unfolding pile_of
pile_numbers p q zero a b e i l = absurd (omega arith)
pile_numbers p q (suc h) a b e i l =
    let rest : pile_of p h ≡ pile_of q h = cc in
    go (eqb i h) refl (λ m. pile_numbers p q h (λ j n. a j (omega arith)) (λ j n. b j (omega arith)) rest i m)
  where
    go : (x : Bool) → eqb i h ≡ x → (i < h → get_or p i 0 ≡ get_or q i 0) → get_or p i 0 ≡ get_or q i 0
    go true f r =
        let top : symbol_of (get_or p h 0) ≡ symbol_of (get_or q h 0) = cc in
        rw (eqb-true i h f) (one_number (get_or p h 0) (get_or q h 0) (a h (omega arith)) (b h (omega arith)) top)
    go false f r = r (below i h l (eqb-false i h f))

-- The same symbols.
module _ {p : List ℕ} {kind value : ℕ} where
  both_fit : {r s : Result (Unit {0}) Misfit} {q z : List ℕ} → Turns p kind value r q → Turns p kind value s z →
      stack_of q ≡ stack_of z → q ≡ z
  both_fit {r} {s} {q} {z} a b e =
      let long : length q ≡ length z = sym (pile_height q (length q)) ∙ ap length e ∙ pile_height z (length z) in
      let same : pile_of q (length q) ≡ pile_of z (length q) = e ∙ ap (λ (h : ℕ). pile_of z h) (sym long) in
      let there : Known z (length q) = λ i l. b.piled.known i (omega arith) in
      ext_get_or 0 q z long (λ i l. pile_numbers q z (length q) a.piled.known there same i l)

  pub same_turn : {r s : Result (Unit {0}) Misfit} {q z : List ℕ} → Turns p kind value r q → Turns p kind value s z →
      (r ≡ s) × (q ≡ z)
  same_turn {r} {s} {q} {z} a b = go r s a b
    where
      go : (r s : Result (Unit {0}) Misfit) → Turns p kind value r q → Turns p kind value s z → (r ≡ s) × (q ≡ z)
      go (Ok x) (Ok y) a b =
          let fit : some (stack_of q) ≡ some (stack_of z) = a.answer [] ∙ sym (b.answer []) in
          (refl, both_fit a b (cc))
      go (Ok x) (Err f) a b =
          let fit : some (stack_of q) ≡ none = a.answer [] ∙ sym (b.answer []) in
          let never : ◌≡◌ {A = ℕ} 0 1 = cc in absurd (omega arith)
      go (Err e) (Ok y) a b =
          let fit : none ≡ some (stack_of z) = a.answer [] ∙ sym (b.answer []) in
          let never : ◌≡◌ {A = ℕ} 0 1 = cc in absurd (omega arith)
      go (Err e) (Err f) a b = (refl, a.kept ∙ sym b.kept)
