-- The four rows of the branches, which a loop fills from the front. Assumes nothing.
use mathlib.Core.Path.{◌≡◌, refl, ap}
use mathlib.Core.List.{List, [], ◌∷◌, ◌++◌, map}
use Prim.Native.Nat.{ℕ, ◌+◌, ◌≤◌}
use native.Mathlib.Omega.{arith}
use lib.ListN.{length, length-map}
use Rattle.file_index.specs.Index.{Wrote}
use Rattle.file_index.specs.Branches.{Offered, Rows, places_of, names_of, named_in, Roomy, Noted}
use Rattle.file_index.proofs.Filled.{Fills, Next, fills_none, next_room, next_filled, fills_end}

-- `out` is `base` with `all` written from m on, but for `left`, which is still to come and goes to n.
pub record RowsFill (base : Rows) (m : ℕ) (all : List Offered) (out : Rows) (n : ℕ) (left : List Offered) : Type 0 where
  pub claim : Fills base.claim m (places_of all) out.claim n (places_of left)
  pub resources : Fills base.resources m (names_of 0 all) out.resources n (names_of 0 left)
  pub bins : Fills base.bins m (names_of 1 all) out.bins n (names_of 1 left)
  pub syncs : Fills base.syncs m (names_of 2 all) out.syncs n (names_of 2 left)

-- ONE ROW, which has of each branch what f says.
module _ (f : Offered → ℕ) where
  row_none : (base : List ℕ) (m : ℕ) (all left : List Offered) → m + length all ≤ length base → left ≡ all →
      Fills base m (map f all) base m (map f left)
  row_none base m all left h e =
      fills_none base m (map f all) (map f left) (omega (arith, length-map all f)) (ap (map f) e)

  map-append : (xs ys : List Offered) → map f (xs ++ ys) ≡ map f xs ++ map f ys
  map-append [] ys = refl
  map-append (x ∷ xs) ys = ap (λ l. f x ∷ l) (map-append xs ys)

  -- the next to come are xs
  module _ {base : List ℕ} {m : ℕ} {all out : List ℕ} {n : ℕ} {l : List Offered} (xs left : List Offered)
      (e : l ≡ xs ++ left) (x : Fills base m all out n (map f l)) where
    row_on : Next base m all out n (map f xs) (map f left)
    row_on = record { fills = rw (← (map-append xs left), ← e) x }

    row_room : n + length xs ≤ length out
    row_room = omega (arith, next_room row_on, length-map xs f)

    row_next : {k : ℕ} {after : List ℕ} → Wrote n (map f xs) out k after → Fills base m all after k (map f left)
    row_next w = rw (w.next_is, w.after_is) (next_filled row_on)

-- ALL FOUR.
pub rows_none : (base : Rows) (m : ℕ) (all left : List Offered) → Roomy (m + length all) base → left ≡ all →
    RowsFill base m all base m left
rows_none base m all left r e =
    record {
      claim = row_none (λ o. o.place) base.claim m all left r.claim e;
      resources = row_none (λ o. named_in 0 o.bytes) base.resources m all left r.resources e;
      bins = row_none (λ o. named_in 1 o.bytes) base.bins m all left r.bins e;
      syncs = row_none (λ o. named_in 2 o.bytes) base.syncs m all left r.syncs e;
    }

module _ {base : Rows} {m : ℕ} {all : List Offered} {out : Rows} {n : ℕ} {l : List Offered}
    (x : RowsFill base m all out n l) where
  module _ (xs left : List Offered) (e : l ≡ xs ++ left) where
    pub rows_room : Roomy (n + length xs) out
    rows_room =
        record {
          claim = row_room (λ o. o.place) xs left e x.claim;
          resources = row_room (λ o. named_in 0 o.bytes) xs left e x.resources;
          bins = row_room (λ o. named_in 1 o.bytes) xs left e x.bins;
          syncs = row_room (λ o. named_in 2 o.bytes) xs left e x.syncs;
        }

    pub rows_next : {k : ℕ} {after : Rows} → Noted n xs out k after → RowsFill base m all after k left
    rows_next w =
        record {
          claim = row_next (λ o. o.place) xs left e x.claim w.claim;
          resources = row_next (λ o. named_in 0 o.bytes) xs left e x.resources w.resources;
          bins = row_next (λ o. named_in 1 o.bytes) xs left e x.bins w.bins;
          syncs = row_next (λ o. named_in 2 o.bytes) xs left e x.syncs w.syncs;
        }

  pub rows_end : l ≡ [] → Noted m all base n out
  rows_end e =
      record {
        claim = fills_end (ap places_of e) x.claim;
        resources = fills_end (ap (names_of 0) e) x.resources;
        bins = fills_end (ap (names_of 1) e) x.bins;
        syncs = fills_end (ap (names_of 2) e) x.syncs;
      }

pub noted_next : {n : ℕ} {xs : List Offered} {before : Rows} {next : ℕ} {after : Rows} → Noted n xs before next after →
    next ≡ n + length xs
noted_next {xs = xs} w = omega (arith, w.claim.next_is, length-map xs (λ o. o.place))

-- Nothing is written.
pub rows_still : (n : ℕ) (x : Rows) → Noted n [] x n x
rows_still n x =
    record { claim = still x.claim; resources = still x.resources; bins = still x.bins; syncs = still x.syncs }
  where
    still : (l : List ℕ) → Wrote n [] l n l
    still l = record { next_is = omega arith; after_is = refl }
