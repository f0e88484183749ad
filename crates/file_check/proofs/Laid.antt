-- The arrays of the index and of the graph of an accepted file are laid as their readers require. Assumes nothing.
use Prim.Native.Nat.{ℕ, zero, suc, ◌+◌, ◌-◌, ◌≤◌}
use mathlib.Core.Path.{◌≡◌}
use mathlib.Core.List.{List}
use mathlib.Core.Bool.{Bool}
use native.Mathlib.Omega.{arith}
use lib.ListN.{length, get_or, replicate, length-append, length-replicate}
use Rattle.semantics.specs.Words.{collect}
use Rattle.semantics.specs.Model.{Model}
use Rattle.semantics.specs.Bytes.{Raw, records_from}
use Rattle.base_numbers.specs.Limit as Limit
use Rattle.file_index.specs.Index.{acts_of, index_of, goes_by, graph_of}
use Rattle.file_index.specs.Ties.{Ties, GraphTies}
use Rattle.file_index.specs.declared.Graph.{Graph}
use Rattle.file_index.proofs.Limits.{few_goes}
use Rattle.file_index.proofs.Standing.{Accepted}
use Rattle.file_index.proofs.Ties.{index_ties, graph_ties}
use Rattle.file_depth.specs.Deep.{Laid}

module _ (bs : List ℕ) (m : Model) (e : Accepted bs m) (start : Bool) (few_blocks : length m.blocks ≤ Limit.BLOCKS) where
  abbrev rs : List Raw
  rs = records_from 0 bs

  abbrev first : List ℕ
  first = (index_of rs).first

  abbrev graph : Graph
  graph = graph_of start (index_of rs).body rs

  ties : Ties bs m (index_of rs)
  ties = index_ties bs m e

  wires : GraphTies m start first graph
  wires = graph_ties bs m e start

  goes_long : length graph.goes ≡ Limit.BRANCHES
  unfolding graph_of
  goes_long =
      let xs : List ℕ = collect (goes_by start (index_of rs).body) (acts_of rs) in
      let f = few_goes bs e.readable start (index_of rs).body in
      omega (
        arith,
        length-append xs (replicate (Limit.BRANCHES - length xs) 0),
        length-replicate {A = ℕ}
            (Limit.BRANCHES - length xs) 0,
      )

  -- The first actions of the blocks rise up to the number of actions.
  first_rises : (j b : ℕ) → b + j ≤ length m.blocks → get_or first b 0 ≤ get_or first (b + j) 0
  first_rises zero b h = let z : b + 0 ≡ b = omega arith in rw z (omega arith)
  first_rises (suc j) b h =
      let z : b + suc j ≡ b + j + 1 = omega arith in
      let ih = first_rises j b (omega arith) in
      rw z (omega (arith, ties.first_next (b + j) (omega arith)))

  first_last : (b : ℕ) → b ≤ length m.blocks → get_or first b 0 ≤ get_or first (length m.blocks) 0
  first_last b h =
      let z : b + (length m.blocks - b) ≡ length m.blocks = omega arith in
      rw z at (first_rises (length m.blocks - b) b (omega arith))

  pub laid : Laid first graph.from graph.goes (length m.blocks)
  laid =
      record {
        few = few_blocks;
        many = ties.first_few (length m.blocks);
        room = goes_long;
        rises = λ b h. omega (arith, ties.first_next b h);
        ends = λ b h. first_last (b + 1) (omega arith);
        climbs = λ a h. wires.rising a (omega (arith, ties.first_last));
        stops = λ a h. wires.from_few a;
      }
