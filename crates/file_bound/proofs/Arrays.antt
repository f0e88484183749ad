-- The arrays of the index and of the graph with STARTs give the weights of the model, where its bound is a number or OVER.
-- Assumes nothing.
use Prim.Native.Nat.{ℕ, ◌≤◌, ◌<◌}
use mathlib.Core.Path.{◌≡◌, refl, sym, ◌∙◌, ap, subst}
use mathlib.Core.List.{List}
use mathlib.Core.Bool.{true}
use lib.ListN.{length, get_or}
use Rattle.semantics.specs.Model.{Model, body}
use Rattle.semantics.specs.Bytes.{Raw, records_from}
use Rattle.semantics.specs.Decode.{gather, depth}
use Rattle.semantics.specs.Bound.{weight}
use Rattle.promises.specs.Fit.{Fit, Nested, Forward}
use Rattle.promises.specs.Accepted.{accepted_fit, accepted_nested, accepted_forward}
use Rattle.base_numbers.specs.Limit as Limit
use Rattle.file_index.specs.Index.{Readable, index_of, graph_of}
use Rattle.file_index.specs.Ties.{Ties, GraphTies}
use Rattle.file_index.specs.declared.Index as X
use Rattle.file_index.specs.declared.Graph as G
use Rattle.file_index.proofs.Standing.{Accepted, accepted_by}
use Rattle.file_index.proofs.Ties.{index_ties, graph_ties}
use Rattle.file_depth.specs.Deep.{Graph}
use Rattle.file_depth.proofs.Laws.{nth}
use Rattle.file_weight.specs.Weigh.{Acts, acts_in, weight_of}
use Rattle.file_weight.specs.Agrees.{Agrees}
use Rattle.file_weight.proofs.Laws.{graph_ahead}
use Rattle.file_weight.proofs.Model.{weight_is_model, forward_graph}
use Rattle.file_bound.specs.Endable.{Endable}
use Rattle.file_check.proofs.Laid.{laid}

-- THE ARRAYS of the index and the graph, for the model m: class by class and block by block they say what it says.
pub record Arrays (m : Model) (bodies first from goes own times : List ℕ) (n : ℕ) : Type 0 where
  pub graph : Graph first from goes n
  pub body_is : (c : ℕ) → get_or bodies c 0 ≡ body m c
  pub few_classes : length m.classes ≤ Limit.CLASSES
  pub body_in : (c : ℕ) → c < length m.classes → body m c < n
  pub weighs : (b : ℕ) → b < n → weight_of (acts_in first from goes own times) n b ≡ weight m b

-- The model that the records of a file make.
abbrev pub model_of : List ℕ → Model
model_of bs = (gather (records_from 0 bs)).model

module _ (bs : List ℕ) (e : Endable bs) where
  abbrev rs : List Raw
  rs = records_from 0 bs

  abbrev m : Model
  m = model_of bs

  reads : Accepted bs e.model
  reads = accepted_by bs e.model e.accepts

  pub readable : Readable bs
  readable = reads.readable

  made : Accepted bs m
  made = record { readable = readable; is = refl }

  is : e.model ≡ m
  is = sym reads.is

  pub fit : Fit m
  fit = subst Fit is (accepted_fit bs e.model e.accepts)

  nested : Nested m
  nested = subst Nested is (accepted_nested bs e.model e.accepts)

  forward : Forward m
  forward = subst Forward is (accepted_forward bs e.model e.accepts e.ends)

  abbrev g : G.Graph
  g = graph_of true (index_of rs).body rs

  ties : Ties bs m (index_of rs)
  ties = index_ties bs m made

  wires : GraphTies m true (index_of rs).first g
  wires = graph_ties bs m made true

  abbrev acts : Acts
  acts = acts_in (index_of rs).first g.from g.goes g.own g.times

  agrees : Agrees m acts
  agrees =
      record {
        counts = λ b l. sym (ties.first_next b l);
        each = λ b l i x q. record {
          owns = wires.own_at b i x q;
          rounds = wires.times_at b i x q;
          ways = wires.goes_at b i x q;
        };
      }

  graph_right : Graph (index_of rs).first g.from g.goes (length m.blocks)
  graph_right =
      forward_graph m nested forward (index_of rs).first g.from g.goes g.own g.times
      (laid bs m made true fit.few_blocks) agrees

  weighs_right : (b : ℕ) → b < length m.blocks → weight_of acts (length m.blocks) b ≡ weight m b
  weighs_right =
      weight_is_model m acts agrees
      (graph_ahead (index_of rs).first g.from g.goes (length m.blocks) graph_right g.own g.times)

  body_there : (c : ℕ) → c < length m.classes → body m c < length m.blocks
  body_there c h = (nth (λ b. (b < length m.blocks) × (depth m b ≤ 8)) m.classes c h nested.bodies).0

  arrays_made :
      Arrays m (index_of rs).body (index_of rs).first g.from g.goes g.own g.times (index_of rs).blocks
  arrays_made =
      rw ties.blocks_are
      (record {
        graph = graph_right;
        body_is = ties.body_is;
        few_classes = fit.few_classes;
        body_in = body_there;
        weighs = weighs_right;
      })

  pub arrays : {x : X.Index} {h : G.Graph} → x ≡ index_of rs → h ≡ graph_of true x.body rs →
      Arrays m x.body x.first h.from h.goes h.own h.times x.blocks
  arrays {x} {h} p q =
      let q' : h ≡ g = q ∙ ap (λ (i : X.Index). graph_of true i.body rs) p in
      rw (p, q') arrays_made
