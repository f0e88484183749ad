-- The blocks of a process in the work, the outermost first, and that they are chained as far as the loop has come.
-- Assumes nothing.
use Prim.Native.Nat.{ℕ, zero, suc, ◌+◌, ◌-◌, ◌%◌, ◌≤◌, ◌<◌}
use native.Mathlib.Omega.{arith}
use native.Mathlib.Numerals.{add-one}
use mathlib.Core.Path.{◌≡◌, refl, sym, ◌∙◌, ap, subst}
use mathlib.Core.List.{List, [], ◌∷◌}
use mathlib.Core.Bool.{Bool, true, false, ◌&&◌}
use mathlib.Core.Option.{none}
use lib.Dec.{leb, ltb}
use borrow.Author.Tests.{ltb-true, ltb-false}
use lib.ListN.{length, get_or, drop, get_or-append}
use lib.Seq.{drop-cons, drop-length, get_or_at}
use Rattle.semantics.specs.Numbers as No
use Rattle.semantics.specs.Model.{Model, block}
use Rattle.semantics.specs.State.{Process, Frame, nobody, process}
use Rattle.semantics.specs.Claim.{stands_in}
use Rattle.semantics.specs.Sound.{named_there, chained, all_chained, asks_at, blocked_stand}
use Rattle.promises.specs.Laws.{all_get, all_hold}
use Rattle.base_numbers.specs.Row as Row
use Rattle.base_numbers.specs.Process as Process
use Rattle.base_numbers.specs.Word as Word
use Rattle.base_numbers.specs.Limit as Limit
use Rattle.row_work.specs.Laid.{laid_at}
use Rattle.row_work.specs.Work.{frame_word, stacked, process_parts, process_widths, process_row, FrameSized, ProcessSized}
use Rattle.row_work.specs.Shown.{pad_at, process_wide, stacked-length}
use Rattle.row_process.specs.Process.{Shown, Lives}
use Rattle.row_lists.specs.Lists.{Any}
use Rattle.base_ordered.specs.Order.{word_place}
use Rattle.row_process.proofs.Standing as Stand
use Rattle.row_lists.proofs.Waiting as Wait
use Rattle.row_sound.specs.Chain.{action_in, block_in, at_in, Standing, Linking, linked, Viewed, Chained, Asking, At}
use Rattle.row_sound_lists.specs.Tests.{each, word_of, Bounded}
use Rattle.row_sound_lists.proofs.Indices.{each_all}
use Rattle.row_sound_lists.proofs.Reading.{bounded, no_waiter, waiter_at, waiter_sized}
use Rattle.row_sound.proofs.Chains.{block_in_lem, at_in_lem, chained_low, stands_at}

abbrev no_frame : Frame
no_frame = record { block = 0; at = 0; rounds = 0 }

-- The outer k of the blocks fs, and the block within them.
abbrev pub outer_of : ℕ → List Frame → List Frame
outer_of k fs = drop (length fs - k) fs

abbrev pub inner_of : ℕ → List Frame → Frame
inner_of k fs = get_or fs (length fs - (k + 1)) no_frame

pub outer_none : (fs : List Frame) → outer_of 0 fs ≡ []
outer_none fs = let z : length fs - 0 ≡ length fs = omega arith in ap (λ n. drop n fs) z ∙ drop-length fs

pub outer_all : (fs : List Frame) (k : ℕ) → k ≡ length fs → outer_of k fs ≡ fs
outer_all fs k e = let z : length fs - k ≡ 0 = omega arith in ap (λ n. drop n fs) z

pub outer_more : (k : ℕ) (fs : List Frame) → k < length fs → outer_of (k + 1) fs ≡ inner_of k fs ∷ outer_of k fs
outer_more k fs h =
    let e : suc (length fs - (k + 1)) ≡ length fs - k = omega arith in
    drop-cons fs (length fs - (k + 1)) no_frame (omega arith) ∙ ap (λ n. inner_of k fs ∷ drop n fs) e

pub outer_length : (k : ℕ) (fs : List Frame) → k ≤ length fs → length (outer_of k fs) ≡ k
outer_length zero fs h = ap length (outer_none fs)
outer_length (suc k) fs h =
    let e = ap length (ap (λ n. outer_of n fs) (sym (add-one k)) ∙ outer_more k fs (omega arith)) in
    let i = outer_length k fs (omega arith) in
    omega (arith, e)

-- They are stacked with the outermost first.
stacked_at : (fs : List Frame) (k : ℕ) → k < length fs → get_or (stacked fs) k 0 ≡ frame_word (inner_of k fs)
unfolding stacked
stacked_at [] k h = absurd (omega arith)
stacked_at (f ∷ fs) k h = by (ltb k (length fs)) refl (λ l. stacked_at fs k l)
  where
    n : length (stacked fs) ≡ length fs
    n = stacked-length fs

    by : (t : Bool) → ltb k (length fs) ≡ t → (k < length fs → get_or (stacked fs) k 0 ≡ frame_word (inner_of k fs))
        → get_or (stacked (f ∷ fs)) k 0 ≡ frame_word (inner_of k (f ∷ fs))
    by true e i =
        let l = ltb-true k (length fs) e in
        let z : suc (length fs) - (k + 1) ≡ suc (length fs - (k + 1)) = omega arith in
        get_or-append (stacked fs) (frame_word f ∷ []) 0 k (omega (arith, n))
        ∙ i l
        ∙ ap (λ j. frame_word (get_or (f ∷ fs) j no_frame)) (sym z)
    by false e i =
        let l = ltb-false k (length fs) e in
        let z : suc (length fs) - (k + 1) ≡ 0 = omega arith in
        get_or_at (stacked fs) (frame_word f) [] 0 k (omega (arith, n))
        ∙ ap (λ j. frame_word (get_or (f ∷ fs) j no_frame)) (sym z)

-- A chain is broken where an outer part of it is.
broken : (m : Model) (fs : List Frame) (n : ℕ) → chained m (drop n fs) ≡ false → chained m fs ≡ false
broken m fs zero h = h
broken m [] (suc n) h = h
broken m (f ∷ fs) (suc n) h =
    last (leb f.at (length (block m f.block))) (named_there m f fs) (chained m fs) (broken m fs n h)
  where
    last : (a b c : Bool) → c ≡ false → (a && (b && c)) ≡ false
    last true true c e = e
    last true false c e = refl
    last false b c e = refl

link_on : (m : Model) (f : Frame) (gs : List Frame) → chained m gs ≡ true → chained m (f ∷ gs) ≡ linked m f gs
link_on m f gs e =
    ap (λ t. leb f.at (length (block m f.block)) && (named_there m f gs && t)) e
    ∙ ap (λ t. leb f.at (length (block m f.block)) && t) (unit (named_there m f gs))
  where
    unit : (t : Bool) → (t && true) ≡ t
    unit true = refl
    unit false = refl

-- IN THE WORK.
module _ {bs row w : List ℕ} {classes : ℕ} (v : Viewed bs row w classes) where
  abbrev pub seen_in : Shown w Any
  seen_in = record { is = v.is; shows = v.shows; sized = v.sized; given = tt }

  module _ (p : ℕ) (l : p < No.places) where
    abbrev q : Process
    q = process v.is p

    abbrev fs : List Frame
    fs = q.frames

    h : ProcessSized q
    h = Stand.is_sized seen_in p

    pub depth_is : word_of w p Process.DEPTH ≡ length fs
    depth_is = Stand.depth_is seen_in p l

    pub depth_few : length fs ≤ 8
    depth_few = h.frames_few

    pub block_word : (k : ℕ) → k < length fs → word_of w p (Process.BLOCKS + k) ≡ frame_word (inner_of k fs)
    unfolding process_row
    block_word k i =
        let a = h.frames_few in
        Stand.word_is seen_in p l (Process.BLOCKS + k) (omega arith)
        ∙ laid_at (process_parts q) process_widths (process_wide q h) 3 k (omega arith)
        ∙ pad_at 8 (stacked fs) k (omega (arith, stacked-length fs))
        ∙ stacked_at fs k i

    inner_sized : (k : ℕ) → FrameSized (inner_of k fs)
    inner_sized k = all_get FrameSized fs (length fs - (k + 1)) no_frame h.frames_ok none_sized
      where
        none_sized : FrameSized no_frame
        none_sized = record { block_low = omega arith; at_low = omega arith; rounds_low = omega arith }

    -- The next link, where the chain holds so far.
    module _ (k : ℕ) (i : k < length fs) (so_far : chained v.model (outer_of k fs) ≡ true) where
      outer_at : (g : Frame) (gs : List Frame) → outer_of k fs ≡ g ∷ gs → (outer : ℕ)
          → outer ≡ word_of w p (Process.BEFORE_BLOCKS + k)
          → (outer ≡ frame_word g) × FrameSized g
      outer_at g gs e outer o = by k refl
        where
          by : (j : ℕ) → k ≡ j → (outer ≡ frame_word g) × FrameSized g
          by zero z =
              let a = outer_length k fs (omega arith) in let b = ap length e in absurd (omega (arith, b))
          by (suc j) z =
              let a : outer_of k fs ≡ inner_of j fs ∷ outer_of j fs =
              ap (λ n. outer_of n fs) (z ∙ sym (add-one j)) ∙ outer_more j fs (omega arith) in
              let c : inner_of j fs ∷ outer_of j fs ≡ g ∷ gs = sym a ∙ e in
              let d : inner_of j fs ≡ g = cc in
              let n : Process.BEFORE_BLOCKS + k ≡ Process.BLOCKS + j = omega arith in
              (o ∙ ap (word_of w p) n ∙ block_word j (omega arith) ∙ ap frame_word d, subst FrameSized d (inner_sized j))

      pub linking : (outer word : ℕ) → outer ≡ word_of w p (Process.BEFORE_BLOCKS + k) → word ≡ word_of w p (Process.BLOCKS + k)
          → Linking bs row classes k outer word
      linking outer word a b =
          record {
            model = v.model;
            fits = v.fits;
            nested = v.nested;
            mapped = v.mapped;
            classes_are = v.classes_are;
            frame = inner_of k fs;
            word_is = b ∙ block_word k i;
            frame_sized = inner_sized k;
            around = outer_of k fs;
            behind = sym (outer_length k fs (omega arith));
            outer_is = λ g gs e. outer_at g gs e outer a;
            so_far = so_far;
          }

      linked_on : (t : Bool) → linked v.model (inner_of k fs) (outer_of k fs) ≡ t
          → chained v.model (outer_of (k + 1) fs) ≡ t
      linked_on t e =
          ap (chained v.model) (outer_more k fs i) ∙ link_on v.model (inner_of k fs) (outer_of k fs) so_far ∙ e

      -- What a test of the link tells of the chain.
      module _ {outer word : ℕ} (a : outer ≡ word_of w p (Process.BEFORE_BLOCKS + k)) (b : word ≡ word_of w p (Process.BLOCKS + k))
          (r : Bool)
          (test : (x : Linking bs row classes k outer word) → r ≡ linked x.model x.frame x.around) where
        result : r ≡ linked v.model (inner_of k fs) (outer_of k fs)
        unfolding linking
        result = test (linking outer word a b)

        pub holds_on : r ≡ true → chained v.model (outer_of (k + 1) fs) ≡ true
        holds_on e = linked_on true (sym result ∙ e)

        pub fails_at : r ≡ false → false ≡ chained v.model fs
        fails_at e = sym (broken v.model fs (length fs - (k + 1)) (linked_on false (sym result ∙ e)))

    -- WHERE IT STANDS: in no block, or in its innermost one, whose word this is.
    pub nowhere : (n : ℕ) → n ≡ word_of w p Process.DEPTH → n ≡ 0 → stands_in v.model fs ≡ none
    nowhere n e z = by fs (sym depth_is ∙ sym e ∙ z)
      where
        by : (gs : List Frame) → length gs ≡ 0 → stands_in v.model gs ≡ none
        by [] d = refl
        by (g ∷ gs) d = absurd (omega arith)

    module _ (ok : chained v.model fs ≡ true) (n : ℕ) (e : n ≡ word_of w p Process.DEPTH) (some : n ≡ 0 → ⊥)
        (word : ℕ) (a : word ≡ word_of w p (Process.BEFORE_BLOCKS + n)) where
      many : n ≡ length fs
      many = e ∙ depth_is

      pub record Top : Type 0 where
        pub low : block_in word < Limit.BLOCKS
        pub there : At bs row (action_in row (block_in word) (at_in word)) (stands_in v.model fs)

      pub top : Top
      top = by fs refl
        where
          by : (gs : List Frame) → fs ≡ gs → Top
          by [] z = absurd (some (many ∙ ap length z))
          by (f ∷ gs) z =
              let lives : Lives p v.is = record { in_places = l; innermost = f; around = gs; frames_are = z } in
              let is : word ≡ frame_word f = a ∙ Stand.top_is seen_in lives n many in
              let sized : FrameSized f = Stand.top_sized seen_in lives in
              let b : block_in word ≡ f.block = ap block_in is ∙ block_in_lem f sized in
              let c : at_in word ≡ f.at = ap at_in is ∙ at_in_lem f sized in
              let low = chained_low v.model v.fits v.nested f gs (ap (chained v.model) (sym z) ∙ ok) in
              record {
                low = omega (arith, b, sized.block_low);
                there =
                    subst (λ o. At bs row (action_in row (block_in word) (at_in word)) (stands_in v.model o)) (sym z)
                    (subst (λ j. At bs row j (stands_in v.model (f ∷ gs)))
                    (sym (ap (λ j. action_in row j (at_in word)) b ∙ ap (action_in row f.block) c))
                    (stands_at v.model v.fits v.nested v.mapped f.block f.at low));
              }

      unfoldable pub top_standing : (i : ℕ) → i ≡ action_in row (block_in word) (at_in word) → Standing bs row i
      top_standing i h =
          record {
            long = v.mapped.long;
            action = stands_in v.model fs;
            there = subst (λ j. At bs row j (stands_in v.model fs)) (sym h) top.there;
          }

  pub all_are : each No.places (λ p. chained v.model (process v.is p).frames) ≡ all_chained v.model v.is
  all_are =
      each_all nobody (λ q. chained v.model q.frames) _ v.is.processes No.places (sym v.sized.places_64)
      (λ p h. refl)

  pub is_bounded : Bounded w
  is_bounded = bounded seen_in

-- THE BLOCKED.
module _ {bs row w : List ℕ} {classes : ℕ} (v : Chained bs row w classes) where
  abbrev x : Viewed bs row w classes
  x = v.viewed

  unfoldable pub asking : (p : ℕ) → p < No.places → Asking bs row w classes p
  asking p l =
      record {
        viewed = x;
        in_places = l;
        is_chained =
            all_get (λ q. chained x.model q.frames ≡ true) x.is.processes p nobody
            (all_hold (λ q. chained x.model q.frames) x.is.processes v.all_chained) refl;
      }

  pub stand_is : each (get_or w Row.BLOCKED 0) (λ k. asks_at
      (stands_in x.model (process x.is (get_or w (Row.QUEUE + k) 0 % Word.PLACES)).frames))
      ≡ blocked_stand x.model x.is
  stand_is =
      let q = Wait.blocked_queue (seen_in x) in
      each_all no_waiter (λ y. asks_at (stands_in x.model (process x.is y.place).frames)) _ x.is.blocked _
      q.count_is
      (λ k h. ap (λ p. asks_at (stands_in x.model (process x.is p).frames))
      (ap (λ n. n % Word.PLACES) (waiter_at q k h) ∙ word_place (get_or x.is.blocked k no_waiter) (waiter_sized q k).place_low))
