-- The index, the graph, the loops and the samplers of an accepted file are those of its model. Assumes nothing.
use mathlib.Core.Path.{◌≡◌, refl, sym, ◌∙◌, ap}
use mathlib.Core.List.{List, [], ◌∷◌, map, append-nil}
use mathlib.Core.Bool.{Bool, true, false}
use mathlib.Core.Option.{some}
use Prim.Native.Nat.{ℕ, zero, suc, ◌+◌, ◌≤◌, ◌<◌}
use native.Mathlib.Omega.{arith}
use native.Mathlib.Numerals.{add-one}
use lib.Dec.{leb}
use borrow.Author.Tests.{leb-true, leb-false}
use lib.ListN.{length, get_or, take, drop, get_elem?, length-map}
use lib.IntN.{pos}
use lib.Seq.{get_or-drop, slice, take_all}
use Rattle.semantics.specs.Words.{collect}
use Rattle.semantics.specs.Model.{Action, HOLD, PRIO, TRACE, SET, LSET, DO, PUTR, PUTB, PUTS, BECOME, REQ, TRY, WHILE}
use Rattle.semantics.specs.Model.{START, CLOSE, Sampler, Model, block, body, sampler}
use Rattle.semantics.specs.Bytes.{Raw, records_from, u16}
use Rattle.semantics.specs.Record.{ACTION}
use Rattle.semantics.specs.Decode.{none_seen, inner, gather}
use Rattle.semantics.specs.Bound.{own_weight, loops}
use Rattle.semantics.specs.Generator.{values_in}
use Rattle.promises.specs.Laws.{AllOf, all_at, some_in, over}
use Rattle.base_numbers.specs.Limit as Limit
use Rattle.base_i32.specs.Code.{code}
use Rattle.file_index.specs.Index.{Readable, pad, Act, acts_of, firsts_of, bodies_of, index_of, own_in, times_in, goes_by, runs}
use Rattle.file_index.specs.Index.{graph_of, loops_in, samplers_in, samplers_of}
use Rattle.file_index.specs.Ties.{times_of, goes_of, ActionAt, Ties, GraphTies, SamplerTies}
use Rattle.file_index.specs.declared.Graph.{Graph}
use Rattle.file_index.proofs.Records.{Fine, fine_all}
use Rattle.file_index.proofs.Limits.{few_acts, few_goes, runs_count}
use Rattle.file_index.proofs.Runs.{pad_at, map-some, some-map, some_at, some-slice, some_in_some, slice_one, slice-map}
use Rattle.file_index.proofs.Runs.{collect-map, runs_map, runs-over, runs_past, over_next, over_part, collect-length}
use Rattle.file_index.proofs.Runs.{collect-some, slice-collect}
use Rattle.file_index.proofs.Gathered.{bodies_are, firsts_are, entry_of, flat, acts_are, none_loose, act_shows, loops_are}
use Rattle.file_index.proofs.Gathered.{samplers_are}
use Rattle.file_index.proofs.Standing.{Stands, acts_stand, Accepted}

-- ONE RECORD.
u16-drop : (bs : List ℕ) (p i : ℕ) → u16 (drop p bs) i ≡ u16 bs (p + i)
u16-drop bs p i =
    let z : p + (i + 1) ≡ p + i + 1 = omega arith in
    omega (arith, get_or-drop p bs i 0, get_or-drop p bs (i + 1) 0, ap (λ j. get_or bs j 0) z)

stands_at : (bs : List ℕ) (a : Act) (x : Action) → Stands bs a → entry_of a ≡ ACTION x → ActionAt bs a.place x
stands_at bs a x s e =
    let p : ℕ = a.place in
    let z : p + 0 ≡ p = omega arith in
    let u : u16 (drop p bs) 0 ≡ u16 bs p = u16-drop bs p 0 ∙ ap (u16 bs) z in
    record {
      there = omega (arith, s.fits, s.long);
      long = omega (arith, s.long);
      fits = omega (arith, s.fits);
      size_is = sym u;
      kind_is = sym (u16-drop bs p 2);
      judged = rw (← s.kind_is, ← s.body_is) s.judged;
      says = rw (← s.kind_is, ← s.body_is) e;
    }

-- What each action's record says of the action, said of all.
paired : {B : Type 0} (bs : List ℕ) (f : Act → B) (h : Action → B) →
    ((a : Act) → Stands bs a → (x : Action) → entry_of a ≡ ACTION x → f a ≡ h x) →
    (as' : List Act) (xs : List Action) → AllOf (Stands bs) as' → map entry_of as' ≡ map ACTION xs → map f as' ≡ map h xs
paired bs f h q [] [] s e = refl
paired bs f h q [] (x ∷ xs) s e = absurd (let z : ◌≡◌ {A = ℕ} 0 1 = cc in omega arith)
paired bs f h q (a ∷ as') [] s e = absurd (let z : ◌≡◌ {A = ℕ} 0 1 = cc in omega arith)
paired bs f h q (a ∷ as') (x ∷ xs) s e =
    let y : entry_of a ≡ ACTION x = cc in
    let z : map entry_of as' ≡ map ACTION xs = cc in
    rw (q a s.0 x y, paired bs f h q as' xs s.1 z)

-- Without the STARTs an action names what the depth of a block goes by.
pub goes_inner : (m : Model) (x : Action) → goes_of false m x ≡ inner x
goes_inner m (HOLD e) = refl
goes_inner m (PRIO e) = refl
goes_inner m (TRACE e) = refl
goes_inner m (SET i e) = refl
goes_inner m (LSET i e) = refl
goes_inner m (DO n b) = refl
goes_inner m (PUTR i n) = refl
goes_inner m (PUTB i n) = refl
goes_inner m (PUTS i n) = refl
goes_inner m (BECOME i) = refl
goes_inner m (REQ c) = refl
goes_inner m (TRY bs) = refl
goes_inner m (WHILE b c) = refl
goes_inner m (START c t h) = refl
goes_inner m CLOSE = refl

-- The file passes 1 to 7, and its records make the model m; so it is with an accepted one (Standing.accepted-by).
module _ (bs : List ℕ) (m : Model) (e : Accepted bs m) where
  abbrev rs : List Raw
  rs = records_from 0 bs

  abbrev xs : List Action
  xs = flat m.blocks

  readable : Readable bs
  readable = e.readable

  is : (gather rs).model ≡ m
  is = e.is

  fine : Fine rs
  fine = fine_all none_seen rs readable.accepts.0 readable.accepts.1

  loose : (gather rs).loose ≡ []
  loose = none_loose none_seen rs readable.accepts.0 refl readable.accepts.1

  pub stand : AllOf (Stands bs) (acts_of rs)
  stand = acts_stand bs fine

  acts_flat : map entry_of (acts_of rs) ≡ map ACTION xs
  acts_flat = acts_are rs fine ∙ rw (loose, is)

  pub acts_count : length (acts_of rs) ≡ over length m.blocks
  acts_count =
      sym (length-map (acts_of rs) entry_of) ∙ ap length acts_flat ∙ length-map xs ACTION ∙ collect-length (λ b. b) m.blocks

  -- THE INDEX.
  first_runs : firsts_of 0 rs ≡ runs length 0 m.blocks
  first_runs = firsts_are 0 rs fine ∙ rw (loose, is)

  first_at : (b : ℕ) → get_or (index_of rs).first b 0 ≡ get_or (runs length 0 m.blocks) b 0
  unfolding index_of
  first_at b = pad_at (Limit.BLOCKS + 1) (firsts_of 0 rs) b ∙ ap (λ l. get_or l b 0) first_runs

  first_over : (b : ℕ) → b ≤ length m.blocks → get_or (index_of rs).first b 0 ≡ over length (take b m.blocks)
  first_over b h = omega (arith, first_at b, runs-over length 0 m.blocks b h)

  few : over length m.blocks ≤ Limit.ACTIONS
  few = omega (arith, acts_count, few_acts bs readable)

  first_small : (b : ℕ) → get_or (index_of rs).first b 0 ≤ Limit.ACTIONS
  first_small b = go (leb b (length m.blocks)) refl
    where
      go : (t : Bool) → leb b (length m.blocks) ≡ t → get_or (index_of rs).first b 0 ≤ Limit.ACTIONS
      go true q = omega (arith, first_over b (leb-true b _ q), over_part length m.blocks b, few)
      go false q = omega (arith, first_at b, runs_past length 0 m.blocks b (leb-false b _ q))

  first_step : (b : ℕ) → b < length m.blocks →
      get_or (index_of rs).first (b + 1) 0 ≡ get_or (index_of rs).first b 0 + length (block m b)
  first_step b h =
      omega (arith, first_over b (omega arith), first_over (b + 1) (omega arith), over_next length [] m.blocks b h)

  first_all : get_or (index_of rs).first (length m.blocks) 0 ≡ over length m.blocks
  first_all =
      first_over (length m.blocks) (omega arith)
      ∙ ap (over length) (take_all (length m.blocks) m.blocks (omega arith))

  -- action i of block b is one of all the actions
  pub flat_at : (b i : ℕ) (x : Action) → get_elem? (block m b) i ≡ some x →
      get_elem? xs (get_or (index_of rs).first b 0 + i) ≡ some x
  flat_at b i x q =
      let h = some_in_some m.blocks b i x q in
      rw (first_over b (omega arith)) (collect-some (λ l. l) [] refl m.blocks b i x q)

  abbrev pub Found : ℕ → Action → Type 0
  Found n x = (a : Act) × (get_elem? (acts_of rs) n ≡ some a) × (entry_of a ≡ ACTION x)

  pub act_at : (n : ℕ) (x : Action) → get_elem? xs n ≡ some x → Found n x
  act_at n x q = map-some entry_of (acts_of rs) n (ACTION x) (ap (λ l. get_elem? l n) acts_flat ∙ some-map ACTION xs n x q)

  place_at : (n : ℕ) (a : Act) → get_elem? (acts_of rs) n ≡ some a → get_or (index_of rs).place n 0 ≡ a.place
  unfolding index_of
  place_at n a q =
      let ps : List ℕ = map (λ a. a.place) (acts_of rs) in
      pad_at Limit.ACTIONS ps n ∙ some_at ps n a.place 0 (some-map (λ a. a.place) (acts_of rs) n a q)

  same_classes : bodies_of rs ≡ m.classes
  same_classes = bodies_are rs fine ∙ ap (λ x. x.classes) is

  same_body : (c : ℕ) → get_or (index_of rs).body c 0 ≡ body m c
  unfolding index_of
  same_body c = pad_at Limit.CLASSES (bodies_of rs) c ∙ ap (λ l. get_or l c 0) same_classes

  blocks_count : (index_of rs).blocks ≡ length m.blocks
  unfolding index_of
  blocks_count = omega (arith, ap length first_runs, runs_count length 0 m.blocks)

  classes_count : (index_of rs).classes ≡ length m.classes
  unfolding index_of
  classes_count = ap length same_classes

  actions_count : (index_of rs).actions ≡ over length m.blocks
  unfolding index_of
  actions_count = acts_count

  pub index_ties : Ties bs m (index_of rs)
  index_ties =
      record {
        blocks_are = blocks_count;
        actions_are = actions_count;
        classes_are = classes_count;
        body_is = same_body;
        first_none = first_over 0 (omega arith);
        first_next = first_step;
        first_last = first_all;
        first_few = first_small;
        acts_at = λ b i x q.
            let f = act_at (get_or (index_of rs).first b 0 + i) x (flat_at b i x q) in
            rw (place_at (get_or (index_of rs).first b 0 + i) f.0 f.1)
            (stands_at bs f.0 x (all_at (Stands bs) (acts_of rs) _ f.0 stand f.1) f.2);
      }

  -- LISTS that f gives of the actions: how many numbers stand before those of each.
  module _ {B : Type 0} (f : Act → List B) where
    lists_count : length (map f (acts_of rs)) ≡ over length m.blocks
    lists_count = length-map (acts_of rs) f ∙ acts_count

    froms_at : (a : ℕ) →
        get_or (pad (Limit.ACTIONS + 1) (runs (λ x. length (f x)) 0 (acts_of rs))) a 0 ≡ get_or (runs length 0 (map f (acts_of rs))) a 0
    froms_at a =
        pad_at (Limit.ACTIONS + 1) (runs (λ x. length (f x)) 0 (acts_of rs)) a
        ∙ ap (λ l. get_or l a 0) (runs_map length f 0 (acts_of rs))

    pub froms_over : (a : ℕ) → a ≤ over length m.blocks →
        get_or (pad (Limit.ACTIONS + 1) (runs (λ x. length (f x)) 0 (acts_of rs))) a 0 ≡ over length (take a (map f (acts_of rs)))
    froms_over a h =
        omega (arith, froms_at a, runs-over length 0 (map f (acts_of rs)) a (omega (arith, lists_count)))

  -- THE GRAPH, by the classes' bodies that the index has.
  module _ (start : Bool) where
    abbrev bodies : List ℕ
    bodies = (index_of rs).body

    abbrev graph : Graph
    graph = graph_of start bodies rs

    -- the blocks that each action names
    abbrev names : List (List ℕ)
    names = map (goes_of start m) xs

    same_names : map (goes_by start bodies) (acts_of rs) ≡ names
    same_names =
        paired bs (goes_by start bodies) (goes_of start m)
        (λ a s x q. (act_shows start m bodies same_body a.kind a.body s.judged x q).1.1.0) (acts_of rs) xs stand
        acts_flat

    names_count : length names ≡ over length m.blocks
    names_count = length-map xs (goes_of start m) ∙ collect-length (λ b. b) m.blocks

    from_at : (a : ℕ) → get_or graph.from a 0 ≡ get_or (runs length 0 names) a 0
    unfolding graph_of
    from_at a = froms_at (goes_by start bodies) a ∙ ap (λ l. get_or (runs length 0 l) a 0) same_names

    from_over : (a : ℕ) → a ≤ over length m.blocks → get_or graph.from a 0 ≡ over length (take a names)
    unfolding graph_of
    from_over a h = froms_over (goes_by start bodies) a h ∙ ap (λ l. over length (take a l)) same_names

    same_goes : collect (goes_by start bodies) (acts_of rs) ≡ collect (λ l. l) names
    same_goes = collect-map (goes_by start bodies) (acts_of rs) ∙ ap (collect (λ l. l)) same_names

    goes_are : graph.goes ≡ pad Limit.BRANCHES (collect (λ l. l) names)
    unfolding graph_of
    goes_are = ap (pad Limit.BRANCHES) same_goes

    from_slice : (i j : ℕ) → i ≤ j → j ≤ over length m.blocks →
        slice (get_or graph.from i 0) (get_or graph.from j 0) graph.goes ≡ collect (λ l. l) (slice i j names)
    from_slice i j h k =
        rw (from_over i (omega arith), from_over j k, goes_are) (slice-collect (λ l. l) names _ i j h)

    from_small : (a : ℕ) → get_or graph.from a 0 ≤ Limit.BRANCHES
    from_small a = go (leb a (over length m.blocks)) refl
      where
        all : over length names ≤ Limit.BRANCHES
        all = omega (arith, collect-length (λ l. l) names, ap length same_goes, few_goes bs readable start bodies)

        go : (t : Bool) → leb a (over length m.blocks) ≡ t → get_or graph.from a 0 ≤ Limit.BRANCHES
        go true q = omega (arith, from_over a (leb-true a _ q), over_part length names a, all)
        go false q =
            let h = leb-false a _ q in
            omega (arith, from_at a, runs_past length 0 names a (omega (arith, names_count)))

    from_rises : (a : ℕ) → a < over length m.blocks → get_or graph.from a 0 ≤ get_or graph.from (a + 1) 0
    from_rises a h =
        let n = over_next length [] names a (omega (arith, names_count)) in
        omega (arith, from_over a (omega arith), from_over (a + 1) (omega arith))

    -- a table with one number for each action
    number_at : (n : ℕ) (f : Act → ℕ) (h : Action → ℕ) →
        ((a : Act) → Stands bs a → (x : Action) → entry_of a ≡ ACTION x → f a ≡ h x) →
        (b i : ℕ) (x : Action) → get_elem? (block m b) i ≡ some x →
        get_or (pad n (map f (acts_of rs))) (get_or (index_of rs).first b 0 + i) 0 ≡ h x
    number_at n f h s b i x q =
        let k : ℕ = get_or (index_of rs).first b 0 + i in
        pad_at n (map f (acts_of rs)) k ∙ ap (λ l. get_or l k 0) (paired bs f h s (acts_of rs) xs stand acts_flat)
        ∙ some_at (map h xs) k (h x) 0 (some-map h xs k x (flat_at b i x q))

    own_of : (b i : ℕ) (x : Action) → get_elem? (block m b) i ≡ some x →
        get_or graph.own (get_or (index_of rs).first b 0 + i) 0 ≡ own_weight x
    unfolding graph_of
    own_of =
        number_at Limit.ACTIONS (λ a. own_in a.kind) own_weight
        (λ a s x q. (act_shows start m bodies same_body a.kind a.body s.judged x q).0)

    times_of_lem : (b i : ℕ) (x : Action) → get_elem? (block m b) i ≡ some x →
        get_or graph.times (get_or (index_of rs).first b 0 + i) 0 ≡ times_of x
    unfolding graph_of
    times_of_lem =
        number_at Limit.ACTIONS (λ a. times_in a.kind a.body) times_of
        (λ a s x q. (act_shows start m bodies same_body a.kind a.body s.judged x q).1.0)

    goes_of_lem : (b i : ℕ) (x : Action) → get_elem? (block m b) i ≡ some x →
        slice (get_or graph.from (get_or (index_of rs).first b 0 + i) 0)
        (get_or graph.from (get_or (index_of rs).first b 0 + i + 1) 0) graph.goes
        ≡ goes_of start m x
    goes_of_lem b i x q =
        let k : ℕ = get_or (index_of rs).first b 0 + i in
        let f = flat_at b i x q in
        let l : k < length names = some_in names k (goes_of start m x) (some-map (goes_of start m) xs k x f) in
        from_slice k (k + 1) (omega arith) (omega (arith, names_count))
        ∙ ap (λ j. collect (λ l. l) (slice k j names)) (add-one k)
        ∙ ap (collect (λ l. l)) (some-slice names k (goes_of start m x) (some-map (goes_of start m) xs k x f))
        ∙ append-nil (goes_of start m x)

    block_of : (b : ℕ) → b < length m.blocks →
        slice (get_or graph.from (get_or (index_of rs).first b 0) 0)
        (get_or graph.from (get_or (index_of rs).first (b + 1) 0) 0) graph.goes
        ≡ collect (goes_of start m) (block m b)
    block_of b h =
        let i : ℕ = over length (take b m.blocks) in
        let j : ℕ = over length (take (b + 1) m.blocks) in
        let n = over_next length [] m.blocks b h in
        let p = over_part length m.blocks (b + 1) in
        let s : slice i j xs ≡ block m b =
        ap (slice i j) (sym (append-nil xs)) ∙ slice-collect (λ l. l) m.blocks [] b (b + 1) (omega arith)
        ∙ ap (λ k. collect (λ l. l) (slice b k m.blocks)) (add-one b)
        ∙ ap (collect (λ l. l)) (slice_one m.blocks b [] h) ∙ append-nil (block m b) in
        rw (first_over b (omega arith), first_over (b + 1) (omega arith))
        (from_slice i j (omega arith) p
        ∙ ap (collect (λ l. l)) (slice-map (goes_of start m) i j xs ∙ ap (map (goes_of start m)) s)
        ∙ sym (collect-map (goes_of start m) (block m b)))

    pub graph_ties : GraphTies m start (index_of rs).first graph
    graph_ties =
        record {
          own_at = own_of;
          times_at = times_of_lem;
          goes_at = goes_of_lem;
          block_goes = block_of;
          rising = from_rises;
          from_few = from_small;
        }

  -- LOOPS.
  pub loops_ties : loops_in (index_of rs).body rs ≡ loops m
  unfolding loops_in
  loops_ties = loops_are true m (index_of rs).body same_body rs fine loose ∙ rw is

  -- SAMPLERS.
  pub samplers_tie : samplers_in rs ≡ m.samplers
  samplers_tie = samplers_are rs fine ∙ ap (λ g. g.samplers) is

  -- an array with one number for each sampler
  sampled : (f : Sampler → ℕ) (i : ℕ) → i < length m.samplers →
      get_or (pad Limit.SAMPLERS (map f (samplers_in rs))) i 0 ≡ f (sampler m i)
  sampled f i h =
      pad_at Limit.SAMPLERS (map f (samplers_in rs)) i ∙ ap (λ l. get_or (map f l) i 0) samplers_tie
      ∙ mapped m.samplers i h
    where
      mapped : (xs : List Sampler) (i : ℕ) → i < length xs →
          get_or (map f xs) i 0 ≡ f (get_or xs i (record { lowest = pos 0; highest = pos 0; seed = 0 }))
      mapped [] i h = absurd (omega arith)
      mapped (x ∷ xs) zero h = refl
      mapped (x ∷ xs) (suc i) h = mapped xs i (omega arith)

  pub sampler_ties : SamplerTies m (samplers_of rs)
  unfolding samplers_of
  sampler_ties =
      record {
        lowest_are = sampled (λ x. code x.lowest);
        values_are = sampled (λ x. values_in x.lowest x.highest);
      }
