-- The branches of an accepted file are what the actions of its model offer. Assumes nothing.
use mathlib.Core.Path.{◌≡◌, refl, ◌∙◌, ap}
use mathlib.Core.List.{List, [], map}
use mathlib.Core.Option.{some}
use Prim.Native.Nat.{ℕ, ◌+◌, ◌≤◌, ◌<◌}
use native.Mathlib.Omega.{arith}
use lib.ListN.{length, get_or, take, get_elem?, length-map}
use Rattle.semantics.specs.Words.{collect}
use Rattle.semantics.specs.Model.{Action, Model, block}
use Rattle.semantics.specs.Bytes.{Raw, records_from}
use Rattle.semantics.specs.Claim.{Offer, offers}
use Rattle.promises.specs.Laws.{all_at, some_in, over}
use Rattle.base_numbers.specs.Limit as Limit
use Rattle.file_index.specs.Index.{pad, Act, acts_of, index_of}
use Rattle.file_index.specs.Branches.{named_in, Offered, offered_by, branches_of}
use Rattle.file_index.specs.Ties.{BranchAt, BranchesAt}
use Rattle.file_index.specs.declared.Branches.{Branches}
use Rattle.file_index.proofs.Limits.{few_offered}
use Rattle.file_index.proofs.Runs.{pad_at, some-map, some_at, collect-map, over_next, over_part}
use Rattle.file_index.proofs.Runs.{collect-length, collect-some}
use Rattle.file_index.proofs.Standing.{Stands, Accepted}
use Rattle.file_index.proofs.Offers.{Claims, claims_there, names_same, Both, both_count, both_at, act_offers}
use Rattle.file_index.proofs.Ties.{stand, flat_at, act_at, acts_count, froms_over, Found}

module _ (bs : List ℕ) (m : Model) (e : Accepted bs m) where
  abbrev rs : List Raw
  rs = records_from 0 bs

  abbrev r : Branches
  r = branches_of rs

  -- what each action's record offers, and all of it
  abbrev lists : List (List Offered)
  lists = map offered_by (acts_of rs)

  abbrev offered : List Offered
  offered = collect offered_by (acts_of rs)

  from_over : (a : ℕ) → a ≤ over length m.blocks → get_or r.from a 0 ≡ over length (take a lists)
  unfolding branches_of
  from_over = froms_over bs m e offered_by

  -- ONE BRANCH, the n-th of all.
  module _ (n : ℕ) (o : Offered) (q : get_elem? offered n ≡ some o) where
    row_at : (f : Offered → ℕ) → get_or (pad Limit.BRANCHES (map f offered)) n 0 ≡ f o
    row_at f = pad_at Limit.BRANCHES (map f offered) n ∙ some_at (map f offered) n (f o) 0 (some-map f offered n o q)

    claim_at : get_or r.claim n 0 ≡ o.place
    unfolding branches_of
    claim_at = row_at (λ o. o.place)

    resources_at : get_or r.resources n 0 ≡ named_in 0 o.bytes
    unfolding branches_of
    resources_at = row_at (λ o. named_in 0 o.bytes)

    bins_at : get_or r.bins n 0 ≡ named_in 1 o.bytes
    unfolding branches_of
    bins_at = row_at (λ o. named_in 1 o.bytes)

    syncs_at : get_or r.syncs n 0 ≡ named_in 2 o.bytes
    unfolding branches_of
    syncs_at = row_at (λ o. named_in 2 o.bytes)

    branch_at : {x : Offer} → Claims bs o x → BranchAt bs r n x
    branch_at c =
        record {
          claim_at = rw claim_at (claims_there c);
          resources_are = rw claim_at (resources_at ∙ names_same c 0);
          bins_are = rw claim_at (bins_at ∙ names_same c 1);
          syncs_are = rw claim_at (syncs_at ∙ names_same c 2);
        }

  -- ONE ACTION, the n-th of all, and its record.
  module _ (n : ℕ) (x : Action) (f : Found bs m e n x) where
    abbrev a : Act
    a = f.0

    alike : Both (Claims bs) (offered_by a) (offers x)
    alike = act_offers bs a (all_at (Stands bs) (acts_of rs) n a (stand bs m e) f.1) x f.2

    its_list : get_or lists n [] ≡ offered_by a
    its_list = some_at lists n (offered_by a) [] (some-map offered_by (acts_of rs) n a f.1)

    inside : n < over length m.blocks
    inside = omega (arith, some_in (acts_of rs) n a f.1, acts_count bs m e)

    next : over length (take (n + 1) lists) ≡ over length (take n lists) + length (offers x)
    next =
        let l = length-map (acts_of rs) offered_by in
        let c = both_count (Claims bs) (offered_by a) (offers x) alike in
        omega (arith, over_next length [] lists n (omega (arith, inside, acts_count bs m e)), ap length its_list)

    few : over length (take (n + 1) lists) ≤ Limit.BRANCHES
    few =
        let c = ap length (collect-map offered_by (acts_of rs)) in
        omega (arith, over_part length lists (n + 1), collect-length (λ l. l) lists, few_offered bs e.readable)

    there : (k : ℕ) (o : Offered) → get_elem? (offered_by a) k ≡ some o → get_elem? offered (get_or r.from n 0 + k) ≡ some o
    there k o q =
        rw (from_over n (omega (arith, inside)), collect-map offered_by (acts_of rs))
        (collect-some (λ l. l) [] refl lists n k o (ap (λ l. get_elem? l k) its_list ∙ q))

    branches_at : BranchesAt bs r n (offers x)
    branches_at =
        let i = inside in
        let g = from_over n (omega arith) in
        let h = from_over (n + 1) (omega arith) in
        record {
          from_few = omega (arith, next, few);
          to_is = omega (arith, next);
          each = λ k o q.
              let b = both_at (Claims bs) (offered_by a) (offers x) alike k o q in
              branch_at (get_or r.from n 0 + k) b.0 (there k b.0 b.1) b.2;
        }

  pub branch_ties : (b j : ℕ) (x : Action) → get_elem? (block m b) j ≡ some x →
      BranchesAt bs r (get_or (index_of rs).first b 0 + j) (offers x)
  branch_ties b j x q =
      let n : ℕ = get_or (index_of rs).first b 0 + j in branches_at n x (act_at bs m e n x (flat_at bs m e b j x q))
