-- The map of an accepted file is that of its model. Assumes nothing.
use mathlib.Core.Path.{◌≡◌, refl, ◌∙◌, ap}
use mathlib.Core.List.{List}
use mathlib.Core.Option.{some}
use Prim.Native.Nat.{ℕ, ◌+◌, ◌≤◌, ◌<◌}
use native.Mathlib.Omega.{arith}
use lib.ListN.{length, get_or, drop, get_elem?}
use Rattle.semantics.specs.Model.{Kind, resource, bin, sync, Action, Model, block}
use Rattle.semantics.specs.Bytes.{Raw, records_from}
use Rattle.semantics.specs.Claim.{Offer, offers}
use Rattle.semantics.specs.Decode.{accepted, decode}
use Rattle.promises.specs.Laws.{all_at, some_in}
use Rattle.promises.specs.Fit.{ActFit, Fit}
use Rattle.promises.specs.Accepted.{accepted_fit}
use Rattle.base_numbers.specs.Map as Map
use Rattle.base_numbers.specs.Limit as Limit
use Rattle.file_index.specs.Index.{index_of, samplers_of}
use Rattle.file_index.specs.Branches.{named_in, branches_of}
use Rattle.file_index.specs.Ties.{ActionAt, Ties, ClaimAt, BranchAt}
use Rattle.file_index.specs.declared.Index.{Index}
use Rattle.file_index.specs.declared.Branches.{Branches}
use Rattle.file_index.specs.declared.Samplers.{Samplers}
use Rattle.file_index.proofs.Standing.{Accepted, accepted_by}
use Rattle.file_index.proofs.Runs.{some_in_some, collect-length}
use Rattle.file_index.proofs.Ties.{index_ties, sampler_ties}
use Rattle.file_index.proofs.BranchTies.{branch_ties}
use Rattle.file_map.specs.Map.{mask_of, claim_at, OfferAt, OffersAt, Drawn, Mapped}
use Rattle.file_map.specs.MapOf.{rows_of, map_of}
use Rattle.file_map.proofs.Rows.{Sized, rows_sized, map_at}
use Rattle.file_map.proofs.Masks.{code_of, claim_mask, OfferFit, offers_fit}

module _ (bs : List ℕ) (m : Model) (e : decode bs ≡ accepted m) where
  abbrev rs : List Raw
  rs = records_from 0 bs

  abbrev i : Index
  i = index_of rs

  abbrev r : Branches
  r = branches_of rs

  abbrev d : Samplers
  d = samplers_of rs

  abbrev words : List ℕ
  words = map_of rs

  reads : Accepted bs m
  reads = accepted_by bs m e

  fit : Fit m
  fit = accepted_fit bs m e

  ties : Ties bs m i
  ties = index_ties bs m reads

  sized : Sized i r d
  sized = rows_sized bs reads.readable

  -- THE ROWS in the map.
  first_at : (b : ℕ) → b ≤ Limit.BLOCKS → get_or words b 0 ≡ get_or i.first b 0
  first_at b h =
      let z : 0 + b ≡ b = omega arith in rw z at (map_at bs 0 0 b refl (omega (arith, sized.first)))

  place_at : (a : ℕ) → a < Limit.ACTIONS → get_or words (Map.PLACE + a) 0 ≡ get_or i.place a 0
  place_at a h = let s = sized in map_at bs 1 Map.PLACE a (omega arith) (omega arith)

  body_at : (c : ℕ) → c < Limit.CLASSES → get_or words (Map.BODY + c) 0 ≡ get_or i.body c 0
  body_at c h = let s = sized in map_at bs 2 Map.BODY c (omega arith) (omega arith)

  from_at : (a : ℕ) → a ≤ Limit.ACTIONS → get_or words (Map.FROM + a) 0 ≡ get_or r.from a 0
  from_at a h = let s = sized in map_at bs 3 Map.FROM a (omega arith) (omega arith)

  -- ONE BRANCH, the n-th.
  module _ (n : ℕ) (few : n < Limit.BRANCHES) where
    claim_at_lem : claim_at words n ≡ get_or r.claim n 0
    claim_at_lem = let s = sized in map_at bs 4 Map.CLAIM n (omega arith) (omega arith)

    resources_at : get_or words (Map.RESOURCES + n) 0 ≡ get_or r.resources n 0
    resources_at = let s = sized in map_at bs 5 Map.RESOURCES n (omega arith) (omega arith)

    bins_at : get_or words (Map.BINS + n) 0 ≡ get_or r.bins n 0
    bins_at = let s = sized in map_at bs 6 Map.BINS n (omega arith) (omega arith)

    syncs_at : get_or words (Map.SYNCS + n) 0 ≡ get_or r.syncs n 0
    syncs_at = let s = sized in map_at bs 7 Map.SYNCS n (omega arith) (omega arith)

    module _ (o : Offer) (f : OfferFit m o) (b : BranchAt bs r n o) where
      named_are : (k : Kind) → named_in (code_of k) (drop (get_or r.claim n 0) bs) ≡ mask_of k o.claim
      named_are k =
          let c = b.claim_at.claim_is in
          claim_mask m fit k (drop (get_or r.claim n 0) bs) (rw c f) ∙ ap (mask_of k) c

      offer_at : OfferAt bs words n o
      offer_at =
          let c : ClaimAt bs (claim_at words n) o = rw claim_at_lem b.claim_at in
          record {
            few = few;
            behind = c.behind;
            inside = c.inside;
            items_few = c.items_few;
            items_valid = c.items_valid;
            claim_is = c.claim_is;
            enters = c.enters;
            resources_are = resources_at ∙ b.resources_are ∙ named_are resource;
            bins_are = bins_at ∙ b.bins_are ∙ named_are bin;
            syncs_are = syncs_at ∙ b.syncs_are ∙ named_are sync;
          }

  -- ONE ACTION, the j-th of block b.
  module _ (b j : ℕ) (x : Action) (q : get_elem? (block m b) j ≡ some x) where
    abbrev a : ℕ
    a = get_or i.first b 0 + j

    block_in : b < length m.blocks
    block_in = some_in_some m.blocks b j x q

    act_in : a < Limit.ACTIONS
    act_in =
        omega (arith, some_in (block m b) j x q, ties.first_next b block_in, ties.first_few (b + 1))

    same_first : get_or words b 0 ≡ get_or i.first b 0
    same_first = first_at b (omega (arith, block_in, fit.few_blocks))

    act_fit : ActFit m x
    act_fit = all_at (ActFit m) (block m b) j x (fit.acts b) q

    act_there : ActionAt bs (get_or words (Map.PLACE + (get_or words b 0 + j)) 0) x
    act_there = rw (same_first, place_at a act_in) (ties.acts_at b j x q)

    offers_there : OffersAt bs words a (offers x)
    offers_there =
        let t = branch_ties bs m reads b j x q in
        let l = act_in in
        let f = from_at a (omega arith) in
        let g = from_at (a + 1) (omega arith) in
        record {
          from_few = omega (arith, t.from_few);
          to_is = omega (arith, t.to_is);
          each = λ k o p.
              let n : ℕ = get_or r.from a 0 + k in
              let few : n < Limit.BRANCHES = omega (arith, t.from_few, some_in (offers x) k o p) in
              rw f (offer_at n few o (all_at (OfferFit m) (offers x) k o (offers_fit m x act_fit) p) (t.each k o p));
        }

  words_long : length words ≡ Map.WORDS
  unfolding map_of
  words_long = let s = sized in omega (arith, collect-length (λ row. row) (rows_of i r d))

  -- THE SAMPLERS: at most as many as their rows have room for.
  few_samplers : length m.samplers ≤ Limit.SAMPLERS
  few_samplers = fit.few_samplers

  draws : Drawn m words
  draws =
      let s = sized in
      let t = sampler_ties bs m reads in
      record {
        long = words_long;
        lowest_are = λ j h.
            map_at bs 8 Map.LOWEST j (omega arith) (omega (arith, few_samplers)) ∙ t.lowest_are j h;
        values_are = λ j h.
            map_at bs 9 Map.VALUES j (omega arith) (omega (arith, few_samplers)) ∙ t.values_are j h;
      }

  pub mapped : Mapped bs m (map_of (records_from 0 bs))
  mapped =
      record {
        long = words_long;
        first_few = λ b h. rw (first_at b h) (ties.first_few b);
        first_next = λ b h.
            let p = first_at b (omega (arith, fit.few_blocks)) in
            let q = first_at (b + 1) (omega (arith, fit.few_blocks)) in
            omega (arith, ties.first_next b h);
        acts_at = act_there;
        offers_at = λ b j x q. rw (same_first b j x q) (offers_there b j x q);
        body_is = λ c h. body_at c h ∙ ties.body_is c;
        draws = draws;
      }
