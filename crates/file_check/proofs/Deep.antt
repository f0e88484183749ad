-- What the index and the graph of a file that passes 1 to 9 say of the depth of its blocks. Assumes nothing.
use Rattle.std.specs.Prelude.{if◌then◌else◌}
use mathlib.Core.Path.{◌≡◌, refl, sym, ◌∙◌, ap}
use mathlib.Core.List.{List, [], ◌∷◌}
use mathlib.Core.Bool.{Bool, true, false, ◌&&◌}
use Prim.Native.Nat.{ℕ, ◌≤◌, ◌<◌}
use borrow.Author.Tests.{ltb-true, eqb-true}
use lib.Dec.{eqb, ltb}
use lib.ListN.{length, get_or}
use Rattle.semantics.specs.Words.{passed, collect}
use Rattle.semantics.specs.Numbers as No
use Rattle.semantics.specs.Model.{Action, Model, block}
use Rattle.semantics.specs.Bytes.{Raw, raw, torn, u16, records_from}
use Rattle.semantics.specs.Record.{row_of}
use Rattle.semantics.specs.Decode.{refused, accepted, first_pass, saw, none_seen, second_pass, inner, gather, depth}
use Rattle.semantics.specs.Decode.{opened, third_pass}
use Rattle.promises.specs.Laws.{AllOf}
use Rattle.promises.specs.Fit.{Linked}
use Rattle.promises.specs.Passes.{not_accepted, first_on, second_on}
use Rattle.promises.specs.Counted.{counted}
use Rattle.promises.specs.Accepted.{links}
use Rattle.base_numbers.specs.Limit as Limit
use Rattle.file_index.specs.Index.{Readable, index_of, graph_of}
use Rattle.file_index.specs.Ties.{goes_of, Ties, GraphTies}
use Rattle.file_index.specs.declared.Graph as G
use Rattle.file_index.specs.declared.Index as I
use Rattle.file_index.proofs.Records.{Fine, fine_first, step_there, judged_there, fine_there}
use Rattle.file_index.proofs.Standing.{Accepted}
use Rattle.file_index.proofs.Ties.{goes_inner, index_ties, graph_ties}
use Rattle.file_depth.specs.Deep.{Graph, names_in, depth_of}
use Rattle.file_depth.proofs.Model.{depth_is, all_collect}
use Rattle.file_reader.specs.Reads.{record_at}
use Rattle.file_reader.specs.Records.{body_at}
use Rattle.file_reader.specs.Walk.{onward, onward_ends, Step}
use Rattle.file_reader.specs.declared.Record.{Record}
use Rattle.file_check.specs.Check.{Named}
use Rattle.file_check.proofs.Laid.{laid}
use Rattle.file_check.proofs.Pass.{sized_on}

-- Without STARTs a block goes to the blocks that its actions name.
collect-inner : (m : Model) (xs : List Action) → collect (goes_of false m) xs ≡ collect inner xs
collect-inner m [] = refl
collect-inner m (x ∷ xs) = rw (goes_inner m x, collect-inner m xs)

-- The file bs, which passes 1 to 9, with its index and its graph without STARTs.
module _ (bs : List ℕ) (n : Named bs) where
  abbrev rs : List Raw
  rs = records_from 0 bs

  abbrev m : Model
  m = (gather rs).model

  pub readable : Readable bs
  readable = record { short = n.short; accepts = (n.two.seen, n.two.first) }

  made : Accepted bs m
  made = record { readable = readable; is = refl }

  ties : Ties bs m (index_of rs)
  ties = index_ties bs m made

  abbrev g : G.Graph
  g = graph_of false (index_of rs).body rs

  wires : GraphTies m false (index_of rs).first g
  wires = graph_ties bs m made false

  linked : Linked m
  linked = links rs n.two

  blocks_few : length m.blocks ≤ Limit.BLOCKS
  blocks_few = (counted rs n.two 6).1

  -- THE DEPTHS that the code finds are the model's.
  same_names : (b : ℕ) → b < length m.blocks → names_in (index_of rs).first g.from g.goes b ≡ collect inner
      (block m b)
  same_names b h = wires.block_goes b h ∙ collect-inner m (block m b)

  names_later : (b : ℕ) → b < length m.blocks
      → AllOf (λ x. (b < x) × (x < length m.blocks)) (names_in (index_of rs).first g.from g.goes b)
  names_later b h =
      rw (same_names b h) (all_collect (λ x. (b < x) × (x < length m.blocks)) inner (block m b) (linked.later b))

  pub blocks_are : (index_of rs).blocks ≡ length m.blocks
  blocks_are = ties.blocks_are

  pub graph_right : Graph (index_of rs).first g.from g.goes (index_of rs).blocks
  graph_right = rw blocks_are (record { laid = laid bs m made false blocks_few; later = names_later })

  pub depths : (b : ℕ) → b < length m.blocks
      → depth_of (names_in (index_of rs).first g.from g.goes) (index_of rs).blocks b ≡ depth m b
  depths b h =
      rw blocks_are (depth_is m (names_in (index_of rs).first g.from g.goes) same_names names_later b h)

-- CLASS BODIES of the records that pass are blocks of the model, of which there are k.
abbrev pub Classes : ℕ → List Raw → Type 0
Classes k [] = Unit {0}
Classes k (torn at ∷ rs) = ⊥
Classes k (raw at kind bs ∷ rs) = (kind ≡ 5 → u16 bs 0 < k) × Classes k rs

classes_in : (k : ℕ) (n seen x : List ℕ) (own : ℕ) (rs : List Raw) → get_or n 6 0 ≡ k → first_pass seen rs ≡ accepted x
    → second_pass n own rs ≡ accepted passed → Classes k rs
unfolding first_pass row_of
classes_in k n seen x own [] c p q = tt
classes_in k n seen x own (torn at ∷ rs) c p q = not_accepted p
classes_in k n seen x own (raw at kind bs ∷ rs) c p q =
    let a = first_on at kind bs rs seen x p in
    let b = second_on at kind bs rs n own q in (
      (λ e. rw c at (ltb-true (u16 bs 0) (get_or n 6 0) (rw e at b.0.field_known))),
      classes_in k n (saw seen kind) x
          (opened own kind) rs c a.1 b.1,
    )

pub classes_all : (bs : List ℕ) (n : Named bs) → Classes (length (gather (records_from 0 bs)).model.blocks)
    (records_from 0 bs)
classes_all bs n =
    classes_in (length (gather (records_from 0 bs)).model.blocks) n.two.seen none_seen n.two.seen 0 (records_from 0 bs)
    (counted (records_from 0 bs) n.two 6).0 n.two.first n.two.second

-- ROUND THE THIRD PASS over the file s, whose model is m.
module _ (s : List ℕ) where
  abbrev whole_file : List Raw
  whole_file = records_from 0 s

  pub record Turn (first from goes : List ℕ) (blocks : ℕ) (at : ℕ) : Type 0 where
    pub on : Fine (onward s at)
    pub right : (b : ℕ) → b < blocks → depth_of (names_in first from goes) blocks b ≡ depth (gather whole_file).model b
    pub classes : Classes blocks (onward s at)
    pub goes_on : third_pass (gather whole_file).model (onward s at) ≡ third_pass (gather whole_file).model whole_file

  pub begun : Named s → (i : I.Index) → i ≡ index_of whole_file → (g : G.Graph) → g ≡ graph_of false i.body whole_file
      → Turn i.first g.from g.goes i.blocks 0
  begun n i e g f =
      let q : g ≡ graph_of false (index_of whole_file).body whole_file = f ∙ rw e in
      rw (q, e) (record {
        on = fine_first s (readable s n);
        right = λ b h. depths s n b (rw (blocks_are s n) at h);
        classes = rw (blocks_are s n) (classes_all s n);
        goes_on = refl;
      })

  -- The graph that is found.
  pub wired : Named s → {i : I.Index} → i ≡ index_of whole_file → {g : G.Graph} → g ≡ graph_of false i.body whole_file
      → Graph i.first g.from g.goes i.blocks
  wired n e f =
      let q = f ∙ ap (λ (i : I.Index). graph_of false i.body whole_file) e in rw (q, e) (graph_right s n)

  module _ {first from goes : List ℕ} {blocks : ℕ} {at : ℕ} (w : Turn first from goes blocks at)
      (h : at < length s) {x : Record} (f : x ≡ record_at s at) {n : ℕ} (i : n ≡ (record_at s at).next) where
    abbrev k : ℕ
    k = x.kind

    abbrev body : List ℕ
    body = body_at s at n

    pub step : Step s at k n
    step = step_there s at h w.on f i

    classes_here : (k ≡ 5 → u16 body 0 < blocks) × Classes blocks (onward s n)
    classes_here = rw step.here at w.classes

    pub class_is : k ≡ 5 → (2 ≤ length body) × (u16 body 0 < blocks)
    unfolding row_of
    class_is e = (rw e at (sized_on (judged_there s at h w.on f i)).head_in, classes_here.0 e)

    module _ {t : Bool} (e : t ≡ (eqb k 5 && ltb 8 (depth_of (names_in first from goes) blocks (u16 body 0)))) where
      test_is : t ≡ (eqb k 5 && ltb 8 (depth (gather whole_file).model (u16 body 0)))
      test_is = e ∙ go (eqb k 5) refl
        where
          go : (b : Bool) → eqb k 5 ≡ b → (b && ltb 8 (depth_of (names_in first from goes) blocks (u16 body 0)))
              ≡ (b && ltb 8 (depth (gather whole_file).model (u16 body 0)))
          go false g = refl
          go true g = ap (ltb 8) (w.right (u16 body 0) (classes_here.0 (eqb-true k 5 g)))

      third_step : (b : Bool) → t ≡ b → third_pass (gather whole_file).model whole_file
          ≡ (if b then refused No.DEEP at else third_pass (gather whole_file).model (onward s n))
      unfolding third_pass
      third_step b g = sym w.goes_on ∙ rw (step.here, third_pass, sym test_is, g) refl

      pub third_refused : t ≡ true → third_pass (gather whole_file).model whole_file ≡ refused No.DEEP at
      third_refused g = third_step true g

      pub turned : t ≡ false → Turn first from goes blocks n
      turned g =
          record {
            on = fine_there s at h w.on f i;
            right = w.right;
            classes = classes_here.1;
            goes_on = sym (third_step false g);
          }

  pub third_ends : {first from goes : List ℕ} {blocks : ℕ} {at : ℕ} → Turn first from goes blocks at
      → length s ≤ at → third_pass (gather whole_file).model whole_file ≡ accepted passed
  unfolding third_pass
  third_ends {at = at} w h = sym w.goes_on ∙ rw (onward_ends s at h)
