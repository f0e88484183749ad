-- What the bound's answer is, by what the check, the loops and the total say. Assumes nothing.
use Prim.Native.Nat.{ℕ, ◌≤◌, ◌<◌}
use mathlib.Core.Path.{◌≡◌, refl, ◌∙◌}
use mathlib.Core.List.{List}
use mathlib.Core.Bool.{Bool, true, false}
use native.Mathlib.Omega.{arith}
use borrow.Author.Tests.{le-leb, lt-leb}
use Rattle.semantics.specs.Words.{passed}
use Rattle.semantics.specs.Numbers as No
use Rattle.semantics.specs.Model.{Model}
use Rattle.semantics.specs.Bytes.{records_from}
use Rattle.semantics.specs.Decode.{refused, accepted, gather, decode}
use Rattle.semantics.specs.Bound.{loops, bound, bound_is, NONE, OVER, AT}
use Rattle.semantics.specs.Desk.{check_file, bound_file}
use Rattle.base_numbers.specs.Limit as Limit
use Rattle.file_index.specs.Index.{Readable, index_of, loops_in}
use Rattle.file_index.specs.declared.Index.{Index}
use Rattle.file_index.proofs.Standing.{accepted_by}
use Rattle.file_index.proofs.Ties.{loops_ties}
use Rattle.file_weight.specs.Weigh.{cap}
use Rattle.file_check.proofs.Answer.{refuses, accepts as accepts_by}
use Rattle.file_bound.specs.Endable.{Endable}

module _ (bs : List ℕ) where
  abbrev m : Model
  m = (gather (records_from 0 bs)).model

  -- THE CHECK.
  pub refused_says : (n p : ℕ) → refused n p ≡ check_file bs → refused n p ≡ bound_file bs
  unfolding bound_file
  refused_says n p e = rw (refuses bs n p e) refl

  pub accepts : accepted passed ≡ check_file bs → decode bs ≡ accepted m
  accepts e = let w = accepts_by bs e in w.1 ∙ rw (accepted_by bs w.0 w.1).is

  -- AN ACCEPTED FILE, whose model is m.
  module _ (a : decode bs ≡ accepted m) where
    pub reads : Readable bs
    reads = (accepted_by bs m a).readable

    pub loops_are : (x : Index) → x ≡ index_of (records_from 0 bs) → (t : Bool) → t ≡ loops_in x.body
        (records_from 0 bs) → t ≡ loops m
    loops_are x e t i = i ∙ rw e (loops_ties bs m (accepted_by bs m a))

    pub none_says : loops m ≡ true → accepted NONE ≡ bound_file bs
    unfolding bound_file bound_is
    none_says l = rw (a, bound_is, l)

    pub endable : loops m ≡ false → Endable bs
    endable l = record { model = m; accepts = a; ends = l }

    -- THE TOTAL, w.
    module _ (l : loops m ≡ false) (w : ℕ) (e : w ≡ cap (bound m)) where
      pub at_says : w < Limit.OVER → accepted (AT w) ≡ bound_file bs
      unfolding bound_file bound_is
      at_says h =
          let i : w ≡ bound m = omega arith in
          rw (a, bound_is, l, le-leb (bound m) No.largest_bound (omega arith), i)

      pub over_says : Limit.OVER ≤ w → accepted OVER ≡ bound_file bs
      unfolding bound_file bound_is
      over_says h = rw (a, bound_is, l, lt-leb (bound m) No.largest_bound (omega arith))
