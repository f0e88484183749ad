-- What a record of an accepted file offers is what its action offers, branch by branch. Assumes nothing.
use mathlib.Core.Path.{◌≡◌, refl, sym, ◌∙◌, ap, subst}
use mathlib.Core.List.{List, [], ◌∷◌, map}
use mathlib.Core.Bool.{true, ◌&&◌}
use mathlib.Core.Option.{some}
use Prim.Native.Nat.{ℕ, zero, suc, ◌+◌, ◌-◌, ◌*◌, ◌≤◌, ◌<◌}
use native.Mathlib.Omega.{arith}
use borrow.Author.Tests.{leb-true, eqb-true, le-leb, eq-eqb}
use lib.Dec.{leb}
use lib.ListN.{length, get_or, take, drop, get_elem?, length-drop}
use lib.Seq.{get_or-take, get_or-drop, length-take-le, take-take, drop-drop}
use Rattle.semantics.specs.Words.{all, within}
use Rattle.semantics.specs.Model.{Action}
use Rattle.semantics.specs.Bytes.{u16, parts}
use Rattle.semantics.specs.Record.{item, part_valid, parts_of, list_sized, list_valid, item_of, claim_in, branch_size, branches_from}
use Rattle.semantics.specs.Record.{branches_fit, branch_of, branches_in, Entry, RES, BIN, SYNC, VAR, CLASS, BLOCK, ENTITY, SAMPLER}
use Rattle.semantics.specs.Record.{ACTION}
use Rattle.semantics.specs.Record.{Row, table, row_of}
use Rattle.semantics.specs.Claim.{pass, enter_block, Offer, offers}
use Rattle.promises.specs.Laws.{not_some, and-true, true-and, AllOf, ◌&◌}
use Rattle.promises.specs.Passes.{its_row}
use Rattle.file_index.specs.Index.{Judged, Act}
use Rattle.file_index.specs.Branches.{bits_of, named_in, Offered, offered, offered_at, offered_try, offered_in, offered_by}
use Rattle.file_index.specs.Ties.{ClaimAt}
use Rattle.file_index.proofs.Records.{Sized, sized_by}
use Rattle.file_index.proofs.Tries.{drop-take}
use Rattle.file_index.proofs.Standing.{Stands}

-- A PIECE xs of the file bs, which stands at byte p.
pub record Piece (bs : List ℕ) (p : ℕ) (xs : List ℕ) : Type 0 where
  pub there : p + length xs ≤ length bs
  pub is : xs ≡ take (length xs) (drop p bs)

module _ {bs : List ℕ} {p : ℕ} {xs : List ℕ} (x : Piece bs p xs) where
  piece_drop : (k : ℕ) → k ≤ length xs → Piece bs (p + k) (drop k xs)
  piece_drop k h =
      let n : ℕ = length xs - k in
      let w : length xs ≡ k + n = omega arith in
      let l : length (drop k xs) ≡ n = length-drop k xs in
      record {
        there = omega (arith, x.there);
        is =
            ap (drop k) x.is ∙ ap (λ i. drop k (take i (drop p bs))) w ∙ drop-take k n (drop p bs)
            ∙ ap (take n) (drop-drop k p bs) ∙ ap (λ i. take i (drop (p + k) bs)) (sym l);
      }

  piece_take : (z : ℕ) → z ≤ length xs → Piece bs p (take z xs)
  piece_take z h =
      let l = length-take-le z xs h in
      record {
        there = omega (arith, x.there);
        is =
            ap (take z) x.is ∙ take-take z (length xs) (drop p bs) h ∙ ap (λ i. take i (drop p bs)) (sym l);
      }

  piece_at : (i : ℕ) → i < length xs → get_or xs i 0 ≡ get_or bs (p + i) 0
  piece_at i h =
      ap (λ l. get_or l i 0) x.is ∙ get_or-take (length xs) (drop p bs) i 0 h ∙ get_or-drop p bs i 0

  piece_count : 2 ≤ length xs → u16 xs 0 ≡ u16 bs p
  piece_count h =
      let z : p + 0 ≡ p = omega arith in
      omega (arith, piece_at 0 (omega arith), piece_at 1 (omega arith), ap (λ i. get_or bs i 0) z)

-- The parts that a list begins with are those of any front that has them all.
parts_front : (k n m : ℕ) (l : List ℕ) → k * n ≤ m → parts k n (take m l) ≡ parts k n l
unfolding parts
parts_front k zero m l h = refl
parts_front k (suc n) m l h =
    let w : m ≡ k + (m - k) = omega arith in
    let d = ap (λ i. drop k (take i l)) w ∙ drop-take k (m - k) l in
    rw (take-take k m l (omega arith), d, parts_front k n (m - k) (drop k l) (omega arith))

-- ONE BRANCH o of the file bs is the offer x.
pub record Claims (bs : List ℕ) (o : Offered) (x : Offer) : Type 0 where
  pub piece : Piece bs o.place o.bytes
  pub sized : list_sized item o.bytes ≡ true
  pub valid : list_valid item o.bytes ≡ true
  pub claim_is : claim_in o.bytes ≡ x.claim
  pub behind : 2 ≤ o.place
  pub enters : (b : ℕ) → x.and_then ≡ enter_block b → u16 bs (o.place - 2) ≡ b

module _ {bs : List ℕ} {o : Offered} {x : Offer} (c : Claims bs o x) where
  abbrev n : ℕ
  n = u16 o.bytes 0

  -- the claim, and all that stands behind it in the file
  abbrev rest : List ℕ
  rest = drop o.place bs

  sized_both : (2 ≤ length o.bytes) × (length o.bytes ≡ 2 + 8 * n)
  sized_both =
      let a = and-true (leb 2 (length o.bytes)) _ c.sized in
      (leb-true 2 (length o.bytes) a.0, eqb-true (length o.bytes) (2 + 8 * n) a.1)

  same_count : n ≡ u16 bs o.place
  same_count = piece_count c.piece sized_both.0

  same_parts : parts_of item o.bytes ≡ parts_of item rest
  same_parts =
      let a = get_or-drop o.place bs 0 0 in
      let b = get_or-drop o.place bs 1 0 in
      let z : o.place + 0 ≡ o.place = omega arith in
      let m : n ≡ u16 rest 0 = omega (arith, same_count, ap (λ i. get_or bs i 0) z) in
      let d : drop 2 o.bytes ≡ take (8 * n) (drop 2 rest) =
      ap (drop 2) (c.piece.is ∙ ap (λ i. take i rest) sized_both.1) ∙ drop-take 2 (8 * n) rest in
      ap (parts 8 n) d ∙ parts_front 8 n (8 * n) (drop 2 rest) (omega arith) ∙ ap (λ i. parts 8 i (drop 2 rest)) m

  valid_both : (n ≤ 4) × (all (part_valid item) (parts_of item o.bytes) ≡ true)
  unfolding list_valid
  valid_both = let a = and-true (leb n 4) _ c.valid in (leb-true n 4 a.0, a.1)

  claim_same : claim_in rest ≡ x.claim
  unfolding claim_in
  claim_same = ap (map item_of) (sym same_parts) ∙ c.claim_is

  pub claims_there : ClaimAt bs o.place x
  claims_there =
      record {
        behind = c.behind;
        inside = omega (arith, c.piece.there, sized_both.1, same_count);
        items_few = omega (arith, valid_both.0, same_count);
        items_valid = rw (← same_parts) valid_both.1;
        claim_is = claim_same;
        enters = c.enters;
      }

  pub names_same : (j : ℕ) → named_in j o.bytes ≡ named_in j rest
  unfolding named_in
  names_same j = ap (bits_of j) same_parts

-- TWO LISTS alike, one by one.
abbrev pub Both : {A B : Type 0} → (A → B → Type 0) → List A → List B → Type 0
Both R [] [] = Unit {0}
Both R [] (y ∷ ys) = ⊥
Both R (x ∷ xs) [] = ⊥
Both R (x ∷ xs) (y ∷ ys) = R x y × Both R xs ys

module _ {A B : Type 0} (R : A → B → Type 0) where
  pub both_count : (xs : List A) (ys : List B) → Both R xs ys → length xs ≡ length ys
  both_count [] [] h = refl
  both_count [] (y ∷ ys) h = absurd h
  both_count (x ∷ xs) [] h = absurd h
  both_count (x ∷ xs) (y ∷ ys) h = ap suc (both_count xs ys h.1)

  pub both_at : (xs : List A) (ys : List B) → Both R xs ys → (k : ℕ) (y : B) → get_elem? ys k ≡ some y →
      (x : A) × (get_elem? xs k ≡ some x) × R x y
  both_at [] [] h k y e = not_some e
  both_at [] (z ∷ ys) h k y e = absurd h
  both_at (x ∷ xs) [] h k y e = absurd h
  both_at (x ∷ xs) (z ∷ ys) h zero y e = let i : z ≡ y = cc in (x, refl, subst (R x) i h.0)
  both_at (x ∷ xs) (z ∷ ys) h (suc k) y e = both_at xs ys h.1 k y e

-- BY KINDS.
module _ (bs : List ℕ) where
  -- b is a block and a claim, as a TRY has several and a WHILE one
  abbrev entering : List ℕ → Offer
  entering b = record { claim = claim_in (drop 2 b); and_then = enter_block (u16 b 0) }

  branch_claims : (at : ℕ) (b : List ℕ) → Piece bs at b → 2 ≤ length b → list_sized item (drop 2 b) ≡ true →
      list_valid item (drop 2 b) ≡ true → Claims bs (offered (at + 2) (drop 2 b)) (entering b)
  branch_claims at b x h s v =
      record {
        piece = piece_drop x 2 h;
        sized = s;
        valid = v;
        claim_is = refl;
        behind = omega arith;
        enters = λ y e.
            let z : at + 2 - 2 ≡ at = omega arith in
            let i : u16 b 0 ≡ y = cc in
            ap (u16 bs) z ∙ sym (piece_count x h) ∙ i;
      }

  -- n branches, which end with xs
  tried : (n at : ℕ) (xs : List ℕ) → Piece bs at xs → branches_fit n xs ≡ true →
      all (λ b. list_valid item (drop 2 b)) (branches_from n xs) ≡ true →
      Both (Claims bs) (offered_at at (branches_from n xs)) (map entering (branches_from n xs))
  unfolding offered_at branches_from branches_fit
  tried zero at xs x f v = tt
  tried (suc n) at xs x f v =
      let z : ℕ = branch_size xs in
      let b : List ℕ = take z xs in
      let a = and-true (leb 4 (length xs)) _ f in
      let c = and-true (leb z (length xs)) _ a.1 in
      let h = leb-true z (length xs) c.0 in
      let w = and-true (list_valid item (drop 2 b)) _ v in
      let l : length b ≡ z = length-take-le z xs h in
      let d = length-drop 2 b in
      let p = get_or-drop 2 b 0 0 ∙ get_or-take z xs 2 0 (omega arith) in
      let q = get_or-drop 2 b 1 0 ∙ get_or-take z xs 3 0 (omega arith) in
      let s : list_sized item (drop 2 b) ≡ true =
      true-and (leb 2 (length (drop 2 b))) _ (le-leb 2 (length (drop 2 b)) (omega arith))
      (eq-eqb (length (drop 2 b)) (2 + 8 * u16 (drop 2 b) 0) (omega arith)) in (
        branch_claims at b (piece_take x z h) (omega arith) s w.0,
        rw l (tried n (at + z) (drop z xs) (piece_drop x z h) c.1 w.1),
      )

  abbrev offers_in : Entry → List Offer
  offers_in (RES n) = []
  offers_in (BIN n) = []
  offers_in SYNC = []
  offers_in (VAR v) = []
  offers_in (CLASS b) = []
  offers_in BLOCK = []
  offers_in (ENTITY e) = []
  offers_in (SAMPLER e) = []
  offers_in (ACTION x) = offers x

  module _ (at : ℕ) (xs : List ℕ) (x : Piece bs at xs) (low : 2 ≤ at) where
    req_claims : list_sized item xs ≡ true → list_valid item xs ≡ true →
        Claims bs (offered at xs) (record { claim = claim_in xs; and_then = pass })
    req_claims s v =
        record {
          piece = x;
          sized = s;
          valid = v;
          claim_is = refl;
          behind = low;
          enters = λ y e. absurd (let z : ◌≡◌ {A = ℕ} 0 1 = cc in omega arith);
        }

    try_claims : (leb 2 (length xs) && branches_fit (u16 xs 0) (drop 2 xs)) ≡ true →
        (within 1 4 (u16 xs 0) && all (λ b. list_valid item (drop 2 b)) (branches_from (u16 xs 0) (drop 2 xs))) ≡ true →
        Both (Claims bs) (offered_try at xs)
        (map (λ b. record { claim = b.claim; and_then = enter_block b.block }) (branches_in xs))
    unfolding offered_try branches_in
    try_claims s v =
        let a = and-true (leb 2 (length xs)) _ s in
        let w = and-true (within 1 4 (u16 xs 0)) _ v in
        let l = leb-true 2 (length xs) a.0 in
        rw (twice (branches_from (u16 xs 0) (drop 2 xs)))
        (tried (u16 xs 0) (at + 2) (drop 2 xs) (piece_drop x 2 l) a.1 w.1)
      where
        twice : (l : List (List ℕ)) →
            map (λ b. record { claim = b.claim; and_then = enter_block b.block }) (map branch_of l) ≡ map entering l
        twice [] = refl
        twice (y ∷ l) = ap (λ k. entering y ∷ k) (twice l)

    abbrev RowOffers : Row → Type 0
    RowOffers r = Sized r xs → Both (Claims bs) (offered_in at r.kind xs) (offers_in (r.says xs))

    rows_offer : AllOf RowOffers table
    unfolding offered_in
    rows_offer =
        none & none & none & none & none & none & none & none & none & none & none & none & none & none & none & none & none
        & (λ s. (req_claims s.tail_sized s.tail_valid, tt)) & (λ s. try_claims s.tail_sized s.tail_valid)
        & (λ s. (branch_claims at xs x s.head_there s.tail_sized s.tail_valid, tt)) & none & none & none & tt
      where
        none : {A : Type 0} → A → Unit {0}
        none s = tt

    pub record_offers : (k : ℕ) → Judged k xs → Both (Claims bs) (offered_in at k xs) (offers_in ((row_of k).says xs))
    record_offers k j =
        let r = its_row RowOffers rows_offer k j.grouped in
        subst (λ y. Both (Claims bs) (offered_in at y xs) (offers_in ((row_of k).says xs))) (sym r.1)
        (r.0 (sized_by (row_of k) xs j.body_judged))

-- The action's record a stands in the file and says the action x.
pub act_offers : (bs : List ℕ) (a : Act) → Stands bs a → (x : Action) → (row_of a.kind).says a.body ≡ ACTION x →
    Both (Claims bs) (offered_by a) (offers x)
act_offers bs a s x e =
    let p : ℕ = a.place in
    let n : ℕ = u16 (drop p bs) 0 in
    let l : length (take (n - 2) (drop 4 (drop p bs))) ≡ n - 2 =
    length-take-le (n - 2) (drop 4 (drop p bs)) (omega (arith, length-drop 4 (drop p bs), length-drop p bs, s.fits)) in
    let i : length a.body ≡ n - 2 = ap length s.body_is ∙ l in
    let y : Piece bs (p + 4) a.body =
    record {
      there = omega (arith, s.fits, s.long);
      is = s.body_is ∙ ap (take (n - 2)) (drop-drop 4 p bs) ∙ ap (λ k. take k (drop (p + 4) bs)) (sym i);
    } in
    subst (λ t. Both (Claims bs) (offered_by a) (offers_in bs t)) e
    (record_offers bs (p + 4) a.body y (omega arith) a.kind s.judged)
