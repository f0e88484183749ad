-- The blocks of a process: their words, where each is named, and what of them is chained. Assumes nothing.
use Rattle.std.specs.Prelude.{if◌then◌else◌}
use Prim.Native.Nat.{ℕ, zero, suc, ◌+◌, ◌≤◌, ◌<◌}
use native.Mathlib.Omega.{arith}
use mathlib.Core.Path.{◌≡◌, refl, sym, ◌∙◌, ap, subst}
use mathlib.Core.List.{List, [], ◌∷◌}
use mathlib.Core.Bool.{Bool, true, false, ◌&&◌}
use mathlib.Core.Option.{Option, none, some}
use lib.Dec.{eqb, leb}
use borrow.Author.Tests.{lt-ltb, le-ltb, le-leb, lt-leb, leb-true, leb-false, eqb-true}
use lib.ListN.{length, get_or, get_elem?}
use Rattle.semantics.specs.Words.{any}
use Rattle.semantics.specs.Model.{Action, HOLD, PRIO, TRACE, SET, LSET, DO, PUTR, PUTB, PUTS, BECOME, REQ, TRY, WHILE, START}
use Rattle.semantics.specs.Model.{CLOSE, Model, block}
use Rattle.semantics.specs.State.{Frame}
use Rattle.semantics.specs.Sound.{enters, enters_at, named_there, chained}
use Rattle.promises.specs.Laws.{no_way, and-true, all_at, any_has, some_in}
use Rattle.promises.specs.Fit.{ActFit, BranchFit, Fit, Nested}
use Rattle.base_numbers.specs.Limit as Limit
use Rattle.file_map.specs.Map.{Mapped}
use Rattle.row_work.specs.Work.{frame_word, FrameSized}
use Rattle.row_sound.specs.Chain.{is_body, action_in, block_in, at_in, rounds_in, ActsAt, At, Standing, Linking, linked}
use Rattle.row_sound.proofs.Acts.{among-any}
use Rattle.row_sound_lists.proofs.Tests.{and_unit}

-- WORDS have their parts.
module _ (f : Frame) (h : FrameSized f) where
  pub block_in_lem : block_in (frame_word f) ≡ f.block
  block_in_lem = let a = h.block_low in let b = h.at_low in omega arith

  pub at_in_lem : at_in (frame_word f) ≡ f.at
  at_in_lem = let a = h.block_low in let b = h.at_low in omega arith

  pub rounds_in_lem : rounds_in (frame_word f) ≡ f.rounds
  rounds_in_lem = let a = h.block_low in let b = h.at_low in omega arith

-- WHAT IS NAMED there is a block of the model.
enters_low : (m : Model) (x : Action) → ActFit m x → (b r : ℕ) → enters x b r ≡ true → b < length m.blocks
enters_low m (HOLD e) f b r h = no_way h
enters_low m (PRIO e) f b r h = no_way h
enters_low m (TRACE e) f b r h = no_way h
enters_low m (SET i e) f b r h = no_way h
enters_low m (LSET i e) f b r h = no_way h
enters_low m (DO n k) f b r h = let e = eqb-true k b (and-true (eqb k b) _ h).0 in omega arith
enters_low m (PUTR i n) f b r h = no_way h
enters_low m (PUTB i n) f b r h = no_way h
enters_low m (PUTS i n) f b r h = no_way h
enters_low m (BECOME i) f b r h = no_way h
enters_low m (REQ c) f b r h = no_way h
enters_low m (TRY xs) f b r h =
    any_has (BranchFit m) (b < length m.blocks) (λ x. eqb x.block b)
    (λ x e i. let z = eqb-true x.block b e in omega (arith, i.0)) xs
    (and-true (any (λ x. eqb x.block b) xs) _ h).0 f.1
enters_low m (WHILE k c) f b r h = let e = eqb-true k b (and-true (eqb k b) _ h).0 in omega (arith, f.0)
enters_low m (START c t l) f b r h = no_way h
enters_low m CLOSE f b r h = no_way h

module _ (m : Model) (fit : Fit m) (nested : Nested m) where
  pub named_low : (f : Frame) (gs : List Frame) → named_there m f gs ≡ true → f.block < length m.blocks
  named_low f [] h =
      any_has (λ b. (b < length m.blocks) × _) (f.block < length m.blocks) (eqb f.block)
      (λ b e i. let z = eqb-true f.block b e in omega (arith, i.0)) m.classes
      (and-true (any (eqb f.block) m.classes) _ h).0 nested.bodies
  named_low f (g ∷ gs) h = by (get_elem? (block m g.block) g.at) refl h
    where
      by : (o : Option Action) → get_elem? (block m g.block) g.at ≡ o → enters_at o f.block f.rounds ≡ true
          → f.block < length m.blocks
      by none e k = no_way k
      by (some x) e k =
          enters_low m x (all_at (ActFit m) (block m g.block) g.at x (fit.acts g.block) e) f.block f.rounds k

  pub chained_low : (f : Frame) (gs : List Frame) → chained m (f ∷ gs) ≡ true → f.block < length m.blocks
  chained_low f gs h =
      named_low f gs (and-true (named_there m f gs) _ (and-true (leb f.at (length (block m f.block))) _ h).1).0

  -- THE ACTION where one stands, by the map.
  module _ {bs row : List ℕ} (d : Mapped bs m row) where
    pub bounds : (b : ℕ) → b < length m.blocks → get_or row (b + 1) 0 ≤ Limit.ACTIONS
    bounds b l = d.first_few (b + 1) (omega (arith, l, fit.few_blocks))

    none_far : {A : Type 0} (xs : List A) (i : ℕ) → get_elem? xs i ≡ none → length xs ≤ i
    none_far [] i e = omega arith
    none_far (x ∷ xs) zero e = let z : ◌≡◌ {A = ℕ} 0 1 = cc in absurd (omega arith)
    none_far (x ∷ xs) (suc i) e = let h = none_far xs i e in omega arith

    pub stands_at : (b at : ℕ) → b < length m.blocks → At bs row (action_in row b at) (get_elem? (block m b) at)
    stands_at b at l = by (get_elem? (block m b) at) refl
      where
        by : (o : Option Action) → get_elem? (block m b) at ≡ o → At bs row (action_in row b at) o
        by none e =
            ap (λ (t : Bool). if t then get_or row b 0 + at else Limit.ACTIONS)
            (le-ltb (get_or row b 0 + at) (get_or row (b + 1) 0) (omega (arith, d.first_next b l, none_far (block m b) at e)))
        by (some x) e =
            let i = some_in (block m b) at x e in
            let n = d.first_next b l in
            let a : action_in row b at ≡ get_or row b 0 + at =
            ap (λ (t : Bool). if t then get_or row b 0 + at else Limit.ACTIONS)
            (lt-ltb (get_or row b 0 + at) (get_or row (b + 1) 0) (omega arith)) in
            subst (λ j. ActsAt bs row j x) (sym a)
            (record { low = omega (arith, n, i, bounds b l); acts_at = d.acts_at b at x e; offers_at = d.offers_at b at x e })

    pub standing : (b at : ℕ) → b < length m.blocks → Standing bs row (action_in row b at)
    standing b at l = record { long = d.long; action = get_elem? (block m b) at; there = stands_at b at l }

    -- Just past the last action, or before.
    pub stands_in : (b at : ℕ) → b < length m.blocks
        → leb (get_or row b 0 + at) (get_or row (b + 1) 0) ≡ leb at (length (block m b))
    stands_in b at l = by (leb at (length (block m b))) refl
      where
        by : (t : Bool) → leb at (length (block m b)) ≡ t → leb (get_or row b 0 + at) (get_or row (b + 1) 0) ≡ t
        by true e =
            le-leb (get_or row b 0 + at) (get_or row (b + 1) 0)
            (omega (arith, d.first_next b l, leb-true at (length (block m b)) e))
        by false e =
            lt-leb (get_or row b 0 + at) (get_or row (b + 1) 0)
            (omega (arith, d.first_next b l, leb-false at (length (block m b)) e))

    pub body_is : (classes b : ℕ) → classes ≡ length m.classes → is_body row classes b ≡ any (eqb b) m.classes
    body_is classes b e =
        among-any 0 (eqb b) _ m.classes classes e
        (λ c h. ap (eqb b) (d.body_is c (omega (arith, h, fit.few_classes))))

-- ONE LINK.
module _ {bs row : List ℕ} {classes k outer word : ℕ} (v : Linking bs row classes k outer word) where
  abbrev f : Frame
  f = v.frame

  pub few_classes : classes ≤ Limit.CLASSES
  few_classes = omega (arith, v.classes_are, v.fits.few_classes)

  pub block_is : block_in word ≡ f.block
  block_is = ap block_in v.word_is ∙ block_in_lem f v.frame_sized

  pub at_is : at_in word ≡ f.at
  at_is = ap at_in v.word_is ∙ at_in_lem f v.frame_sized

  pub rounds_are : rounds_in word ≡ f.rounds
  rounds_are = ap rounds_in v.word_is ∙ rounds_in_lem f v.frame_sized

  pub outermost : k ≡ 0 → (is_body row classes (block_in word) && eqb (rounds_in word) 1) ≡ named_there v.model f v.around
  outermost e = by v.around v.behind
    where
      by : (gs : List Frame) → k ≡ length gs
          → (is_body row classes (block_in word) && eqb (rounds_in word) 1) ≡ named_there v.model f gs
      by [] h =
          ap (λ b. is_body row classes b && eqb (rounds_in word) 1) block_is
          ∙ ap (λ r. is_body row classes f.block && eqb r 1) rounds_are
          ∙ ap (λ t. t && eqb f.rounds 1)
          (body_is v.model v.fits v.nested v.mapped classes f.block v.classes_are)
      by (g ∷ gs) h = absurd (omega arith)

  -- Within another block.
  pub record Within : Type 0 where
    pub first : Frame
    pub rest : List Frame
    pub are : v.around ≡ first ∷ rest
    pub first_sized : FrameSized first
    pub outer_block : block_in outer ≡ first.block
    pub outer_at : at_in outer ≡ first.at
    pub there : first.block < length v.model.blocks

  pub within : (k ≡ 0 → ⊥) → Within
  within e = by v.around refl
    where
      by : (gs : List Frame) → v.around ≡ gs → Within
      by [] h = absurd (e (v.behind ∙ ap length h))
      by (g ∷ gs) h =
          let o = v.outer_is g gs h in
          record {
            first = g;
            rest = gs;
            are = h;
            first_sized = o.1;
            outer_block = ap block_in o.0 ∙ block_in_lem g o.1;
            outer_at = ap at_in o.0 ∙ at_in_lem g o.1;
            there = chained_low v.model v.fits v.nested g gs (ap (chained v.model) (sym h) ∙ v.so_far);
          }

  -- It stands at the action a there.
  pub outer_stands : (e : k ≡ 0 → ⊥) (a : ℕ) → a ≡ action_in row (block_in outer) (at_in outer) → Standing bs row a
  outer_stands e a h =
      let i = within e in
      let g : Frame = i.first in
      record {
        long = v.mapped.long;
        action = get_elem? (block v.model g.block) g.at;
        there =
            subst (λ j. At bs row j (get_elem? (block v.model g.block) g.at))
            (sym (h ∙ ap (λ b. action_in row b (at_in outer)) i.outer_block ∙ ap (action_in row g.block) i.outer_at))
            (stands_at v.model v.fits v.nested v.mapped g.block g.at i.there);
      }

  pub named_within : (e : k ≡ 0 → ⊥) (a : ℕ) (h : a ≡ action_in row (block_in outer) (at_in outer))
      → enters_at (outer_stands e a h).action (block_in word) (rounds_in word) ≡ named_there v.model f v.around
  unfolding outer_stands
  named_within e a h =
      let i = within e in
      let o : Option Action = get_elem? (block v.model i.first.block) i.first.at in
      ap (λ b. enters_at o b (rounds_in word)) block_is
      ∙ ap (enters_at o f.block) rounds_are
      ∙ sym (ap (named_there v.model f) i.are)

  -- The link holds or not.
  pub not_linked : named_there v.model f v.around ≡ false → false ≡ linked v.model f v.around
  not_linked e =
      let inside : Bool = leb f.at (length (block v.model f.block)) in
      sym (ap (λ t. inside && t) e ∙ and_none inside)
    where
      and_none : (t : Bool) → (t && false) ≡ false
      and_none true = refl
      and_none false = refl

  pub is_linked : named_there v.model f v.around ≡ true
      → leb (get_or row (block_in word) 0 + at_in word) (get_or row (block_in word + 1) 0) ≡ linked v.model f v.around
  is_linked e =
      let l = named_low v.model v.fits v.nested f v.around e in
      ap (λ b. leb (get_or row b 0 + at_in word) (get_or row (b + 1) 0)) block_is
      ∙ ap (λ n. leb (get_or row f.block 0 + n) (get_or row (f.block + 1) 0)) at_is
      ∙ stands_in v.model v.fits v.nested v.mapped f.block f.at l
      ∙ sym (and_unit (leb f.at (length (block v.model f.block))))
      ∙ ap (λ (t : Bool). leb f.at (length (block v.model f.block)) && t) (sym e)
