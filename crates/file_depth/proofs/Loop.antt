-- A loop over the blocks that stand in `goes` from `begin` up to `stop`, which takes the largest of their values; and the loop
-- of `depth`.
-- Assumes nothing.
use Prim.Native.Nat.{ℕ, ◌+◌, ◌≤◌, ◌<◌, max}
use mathlib.Core.Path.{◌≡◌, sym}
use mathlib.Core.List.{List, [], ◌∷◌, map}
use native.Mathlib.Omega.{arith}
use native.Mathlib.Numerals.{add-one}
use lib.ListN.{length, get_or, set}
use lib.Seq.{slice, slice-cons, slice_empty}
use Rattle.semantics.specs.Words.{largest}
use Rattle.base_numbers.specs.Limit as Limit
use Rattle.file_depth.specs.declared.Blocks.{Blocks}
use Rattle.file_depth.specs.Deep.{depth_of, start_of, names_in, Graph, Known, measured_all, measured}
use Rattle.file_depth.proofs.Laws.{starts_rise, starts_stop, named_later, depth_step, depth_small, measured_step}

-- At place k, d is the largest value before it, and the memo, which was `old`, is right and is what measuring those before k
-- makes of it.
pub record Turn (measure : ℕ → List ℕ → List ℕ) (value : ℕ → ℕ) (n : ℕ) (goes : List ℕ) (begin stop end : ℕ) (old memo : List ℕ)
    (d k : ℕ) : Type 0 where
  pub known : Known value n memo
  pub noted : measured_all measure (slice k end goes) memo ≡ measured_all measure (slice begin stop goes) old
  pub low : begin ≤ k
  pub high : k ≤ end
  pub last : end ≡ stop
  pub found : max d (largest (map value (slice k end goes))) ≡ largest (map value (slice begin stop goes))

module _ {measure : ℕ → List ℕ → List ℕ} {value : ℕ → ℕ} {n : ℕ} {goes : List ℕ} {begin stop end : ℕ} {old : List ℕ} where
  pub begun : {k : ℕ} → Known value n old → k ≡ begin → end ≡ stop → begin ≤ stop →
      Turn measure value n goes begin stop end old old 0 k
  begun w p q h = record {
    known = w;
    noted = rw (p, q);
    low = omega arith;
    high = omega arith;
    last = q;
    found = rw (p, q) (omega arith);
  }

  module _ {memo : List ℕ} {d k : ℕ} (w : Turn measure value n goes begin stop end old memo d k) where
    pub turned : {after : List ℕ} {v : ℕ} → stop ≤ length goes → k < end → Known value n after →
        after ≡ measure (get_or goes k 0) memo → v ≡ value (get_or goes k 0) →
        Turn measure value n goes begin stop end old after (max d v) (k + 1)
    turned {v = v} r h a m e =
        let cut : slice k end goes ≡ get_or goes k 0 ∷ slice (k + 1) end goes =
        rw add-one (slice-cons k end goes 0 h (omega (arith, w.last))) in
        let parted : max d (max (value (get_or goes k 0)) (largest (map value (slice (k + 1) end goes))))
        ≡ largest (map value (slice begin stop goes)) = rw cut at w.found in
        record {
          known = a;
          noted = rw m (rw cut at w.noted);
          low = omega (arith, w.low);
          high = omega arith;
          last = w.last;
          found = rw e (omega (arith, parted));
        }

    module _ (h : end ≤ k) where
      none : slice k end goes ≡ []
      none = let z : k ≡ end = omega (arith, w.high) in rw z (slice_empty end goes)

      pub ended : d ≡ largest (map value (slice begin stop goes))
      ended = let top : max d 0 ≡ largest (map value (slice begin stop goes)) = rw none at w.found in omega (arith, top)

      pub all_noted : memo ≡ measured_all measure (slice begin stop goes) old
      all_noted = rw none at w.noted

-- THE LOOP OF `depth`, over what block b names.
abbrev depths : List ℕ → List ℕ → List ℕ → ℕ → ℕ → ℕ
depths first from goes n = depth_of (names_in first from goes) n

abbrev measures : List ℕ → List ℕ → List ℕ → ℕ → ℕ → List ℕ → List ℕ
measures first from goes n = measured (names_in first from goes) (depths first from goes n) n

abbrev pub DepthTurn : List ℕ → List ℕ → List ℕ → ℕ → ℕ → ℕ → List ℕ → List ℕ → ℕ → ℕ → Type 0
DepthTurn first from goes n b =
    Turn (measures first from goes n) (depths first from goes n) n goes (start_of first from b) (start_of first from (b + 1))

-- In the loop of a method: the blocks are still those, s.
pub record Looped (s : Blocks) (b end : ℕ) (old : List ℕ) (t : Blocks) (memo : List ℕ) (d k : ℕ) : Type 0 where
  pub same : t ≡ s
  pub turn : DepthTurn s.first.now s.from.now s.goes.now s.count b end old memo d k

module _ {first from goes : List ℕ} {n b : ℕ} (g : Graph first from goes n) (l : b < n) where
  pub names_rise : start_of first from b ≤ start_of first from (b + 1)
  names_rise = starts_rise first from goes n g.laid b l

  module _ {end : ℕ} {old memo : List ℕ} {d k : ℕ} (w : DepthTurn first from goes n b end old memo d k) where
    pub in_range : end ≤ Limit.BRANCHES
    in_range = omega (arith, w.last, starts_stop first from goes n g.laid b l)

    pub next_later : k < end → (b < get_or goes k 0) × (get_or goes k 0 < n)
    next_later h = named_later first from goes n g b l k w.low (omega (arith, w.last))

    module _ (h : end ≤ k) where
      pub depth_ended : d + 1 ≡ depths first from goes n b
      depth_ended = omega (arith, ended w h, depth_step (names_in first from goes) n g.later b l)

      pub small : d + 1 ≤ Limit.BLOCKS
      small = omega (arith, depth_ended, depth_small (names_in first from goes) n b, g.laid.few)

      pub depth_noted : get_or old b 0 ≡ 0 → set memo b (d + 1) ≡ measures first from goes n b old
      depth_noted z =
          rw (depth_ended, all_noted w h)
          (sym (measured_step (names_in first from goes) n g.later (depths first from goes n) b l old z))
