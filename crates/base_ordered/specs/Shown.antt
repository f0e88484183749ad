-- A row that shows a list: what the functions find in it and make of it, said of the list. Assumes nothing.
use Rattle.std.specs.Prelude.{◌≡◌, Bool, true, false, leb, length, take, drop, replicate, if◌then◌else◌}
use Rattle.std.proofs.Math.Path.{refl, ap, fun_ext}
use Rattle.std.proofs.Common.{sym, ◌∙◌, arith, length-append}
use mathlib.Core.List.{List, [], ◌∷◌, ◌++◌, map, map-append}
use Prim.Native.Nat.{ℕ, zero, suc, ◌+◌, ◌-◌, ◌*◌, ◌≤◌, ◌<◌}
use Rattle.std.proofs.Math.Dec.{ltb}
use Rattle.std.proofs.lemmas.List.{length-map, length-replicate}
use Rattle.std.proofs.Math.Seq.{take-append_seam}
use Rattle.semantics.specs.Words.{keep, insert}
use Rattle.semantics.specs.State.{Event, Waiter, sooner, enter, higher}
use Rattle.semantics.specs.Step.{is_return}
use Rattle.promises.specs.Fit.{I32}
use Rattle.promises.specs.Laws.{AllOf, all_map}
use Rattle.base_numbers.specs.Word as Word
use Rattle.base_ordered.specs.Lines.{pad, Canon, inserted, removed, place_of, kind_of, event_key, event_word}
use Rattle.base_ordered.specs.Lines.{waiter_key, waiter_word}
use Rattle.base_ordered.specs.Order.{Keyed, insert_placed, higher_key, sooner_key, event_below, waiter_below, kind_returns}

-- What a test of numbers finds in the numbers of a list, it finds in the list.
module _ {A : Type 0} (f : A → ℕ) (q : ℕ → Bool) where
  map_placed : (es : List A) → place_of q (map f es) ≡ place_of (λ e. q (f e)) es
  unfolding place_of
  map_placed [] = refl
  map_placed (e ∷ es) = ap (λ n. if q (f e) then suc n else zero) (map_placed es)

  map_kept : (es : List A) → length (keep q (map f es)) ≡ length (keep (λ e. q (f e)) es)
  map_kept [] = refl
  map_kept (e ∷ es) = by (q (f e)) refl (map_kept es)
    where
      by : (b : Bool) → q (f e) ≡ b → length (keep q (map f es)) ≡ length (keep (λ e. q (f e)) es)
          → length (keep q (map f (e ∷ es))) ≡ length (keep (λ e. q (f e)) (e ∷ es))
      by true h i = rw h (ap suc i)
      by false h i = rw h i

-- Tests that agree on a list find the same place in it.
pub same_placed : {A : Type 0} (q r : A → Bool) (es : List A) → AllOf (λ e. q e ≡ r e) es → place_of q es ≡ place_of r es
unfolding place_of
same_placed q r [] h = refl
same_placed q r (e ∷ es) h = rw (h.0, same_placed q r es h.1)

-- A list with one more or one less, and its numbers.
module _ {A : Type 0} (f : A → ℕ) where
  map-take : (n : ℕ) (es : List A) → map f (take n es) ≡ take n (map f es)
  map-take zero es = refl
  map-take (suc n) [] = refl
  map-take (suc n) (e ∷ es) = ap (λ l. f e ∷ l) (map-take n es)

  map-drop : (n : ℕ) (es : List A) → map f (drop n es) ≡ drop n (map f es)
  map-drop zero es = refl
  map-drop (suc n) [] = refl
  map-drop (suc n) (e ∷ es) = map-drop n es

  map-inserted : (at : ℕ) (x : A) (es : List A) → map f (inserted at x es) ≡ inserted at (f x) (map f es)
  map-inserted at x es = rw (map-append, map-take, map-drop)

  map-removed : (at : ℕ) (es : List A) → map f (removed at es) ≡ removed at (map f es)
  map-removed at es = rw (map-append, map-take, map-drop)

-- Each entry of es stands in the row by one number f of it. The row is k wide, where the entries are no more.
module _ {A : Type 0} (f : A → ℕ) (es : List A) (k : ℕ) (row : List ℕ) (n : ℕ)
    (shows : row ≡ pad k (map f es)) (all_of : n ≡ length es) where
  pub shown : take n row ≡ map f es
  shown = rw (shows, all_of, ← length-map es f) (take-append_seam (map f es) _)

  pub wide : n ≤ k → length row ≡ k
  wide h = ap length shows ∙ simp (length-append, length-map, length-replicate) (omega arith)

  pub canon : Canon row n
  canon =
      let e : length (map f es) ≡ n = length-map es f ∙ sym all_of in
      let l : length (take n row) ≡ n = ap length shown ∙ e in
      let w : length row ≡ n + (k - n) = ap length shows ∙ simp (length-append, length-replicate) (omega arith) in
      let m : k - n ≡ length row - length (take n row) = omega arith in
      let z : row ≡ take n row ++ replicate (k - n) 0 = rw (shown, ← e) shows in
      record { room = omega arith; zeros = z ∙ ap (λ m. take n row ++ replicate m 0) m }

  pub placed : (q : ℕ → Bool) → place_of q (take n row) ≡ place_of (λ e. q (f e)) es
  placed q = ap (place_of q) shown ∙ map_placed f q es

  pub kept : (q : ℕ → Bool) → length (keep q (take n row)) ≡ length (keep (λ e. q (f e)) es)
  kept q = ap (λ xs. length (keep q xs)) shown ∙ map_kept f q es

  pub one_more : (at : ℕ) (x : A) → pad k (inserted at (f x) (take n row)) ≡ pad k (map f (inserted at x es))
  one_more at x = ap (λ xs. pad k (inserted at (f x) xs)) shown ∙ ap (pad k) (sym (map-inserted f at x es))

  pub one_less : (at : ℕ) → pad k (removed at (take n row)) ≡ pad k (map f (removed at es))
  one_less at = ap (λ xs. pad k (removed at xs)) shown ∙ ap (pad k) (sym (map-removed f at es))

-- One more, put into any row of the list at the place that a test t finds in a row of it, which shows f₀ of each entry: where t
-- passes those whose key is at most its own, the row then shows the list with it inserted.
module _ {A : Type 0} (before : A → A → Bool) (key : A → ℕ) (x : A) (es : List A) (keyed : Keyed before key x es)
    (t : ℕ → Bool) (f₀ : A → ℕ) (tests : AllOf (λ y. t (f₀ y) ≡ leb (key y) (key x)) es) where
  pub entered : (k₀ : ℕ) (keys : List ℕ) (n at : ℕ) → keys ≡ pad k₀ (map f₀ es) → n ≡ length es → at ≡ place_of t (take n keys)
      → (f : A → ℕ) (k : ℕ) (row : List ℕ) → row ≡ pad k (map f es)
      → pad k (inserted at (f x) (take n row)) ≡ pad k (map f (insert before x es))
  entered k₀ keys n at h l p f k row g =
      let a : at ≡ place_of (λ y. leb (key y) (key x)) es =
      p ∙ placed f₀ es k₀ keys n h l t ∙ same_placed (λ y. t (f₀ y)) (λ y. leb (key y) (key x)) es tests in
      one_more f es k row n g l at x
      ∙ ap (λ i. pad k (map f (inserted i x es))) a
      ∙ ap (λ ys. pad k (map f ys)) (insert_placed before key x es keyed)

-- EVENTS. A row of keys and a row of words, and one more event put in behind those whose key is at most its own.
module _ (e : Event) (es : List Event) (h : I32 e.priority) (hs : AllOf (λ f. I32 f.priority) es)
    (k : ℕ) (keys : List ℕ) (n at : ℕ) (shows : keys ≡ pad k (map event_key es)) (all_of : n ≡ length es)
    (found : at ≡ place_of (λ y. ltb y (event_key e + 1)) (take n keys)) where
  event_entered : (f : Event → ℕ) (row : List ℕ) → row ≡ pad k (map f es)
      → pad k (inserted at (f e) (take n row)) ≡ pad k (map f (enter e es))
  unfolding enter
  event_entered f row g =
      entered sooner event_key e es (all_map _ _ (λ y i. sooner_key e y h i) es hs)
      (λ y. ltb y (event_key e + 1)) event_key (all_map _ _ (λ y i. event_below e y) es hs)
      k keys n at shows all_of found f k row g

  pub keys_entered : pad k (inserted at (event_key e) (take n keys)) ≡ pad k (map event_key (enter e es))
  keys_entered = event_entered event_key keys shows

  pub words_entered : (words : List ℕ) → words ≡ pad k (map event_word es)
      → pad k (inserted at (event_word e) (take n words)) ≡ pad k (map event_word (enter e es))
  words_entered words g = event_entered event_word words g

-- How many of them are returns.
pub returns_kept : (es : List Event) (k : ℕ) (words : List ℕ) (n : ℕ) → words ≡ pad k (map event_word es) → n ≡ length es
    → length (keep (λ d. ltb 0 (kind_of d)) (take n words)) ≡ length (keep is_return es)
returns_kept es k words n h l =
    kept event_word es k words n h l (λ d. ltb 0 (kind_of d)) ∙ ap (λ q. length (keep q es)) (fun_ext kind_returns)

-- WAITERS. A row of words, and one more put in behind those whose key is at most its own.
pub waiter_entered : (w : Waiter) (ws : List Waiter) → I32 w.priority → AllOf (λ v. I32 v.priority) ws
    → AllOf (λ v. v.place < Word.PLACES) ws → (k : ℕ) (row : List ℕ) (n at : ℕ) → row ≡ pad k (map waiter_word ws) → n ≡ length ws
    → at ≡ place_of (λ y. ltb y (Word.KEY * (waiter_key w + 1))) (take n row)
    → pad k (inserted at (waiter_word w) (take n row)) ≡ pad k (map waiter_word (insert higher w ws))
waiter_entered w ws h hs ps k row n at g l p =
    entered higher waiter_key w ws (all_map _ _ (λ v i. higher_key w v h i) ws hs)
    (λ y. ltb y (Word.KEY * (waiter_key w + 1))) waiter_word (all_map _ _ (λ v i. waiter_below w v i) ws ps)
    k row n at g l p waiter_word k row g
