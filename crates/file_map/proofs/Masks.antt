-- The bits that the bytes of a claim make are those of the claim, in a model that fits: its numbers are below 32.
-- Assumes nothing.
use Rattle.std.specs.Prelude.{if◌then◌else◌}
use mathlib.Core.Path.{◌≡◌, refl}
use mathlib.Core.List.{List, [], ◌∷◌, map}
use mathlib.Core.Bool.{Bool, true, false, ◌&&◌}
use Prim.Native.Nat.{ℕ, zero, suc, ◌^◌, ◌≤◌, ◌<◌}
use native.Mathlib.Omega.{arith}
use borrow.Author.Tests.{lt-ltb, ne_eqb}
use lib.Bits.{bit_or}
use lib.Dec.{eqb, ltb}
use lib.IntN.{ℤ}
use lib.ListN.{get_or}
use Rattle.semantics.specs.Model.{Kind, resource, bin, sync, Relation, Item, get, condition, Claim, Action, HOLD, PRIO, TRACE}
use Rattle.semantics.specs.Model.{SET, LSET, DO, PUTR, PUTB, PUTS, BECOME, REQ, TRY, WHILE, START, CLOSE, Model}
use Rattle.semantics.specs.Bytes.{u8, u16, u32, i32}
use Rattle.semantics.specs.Record.{relation_of, item_of, item, parts_of, claim_in}
use Rattle.semantics.specs.Claim.{Offer, offers, same_kind}
use Rattle.promises.specs.Laws.{AllOf, all_map, all_mapped}
use Rattle.promises.specs.Fit.{declared, ItemFit, ClaimFit, BranchFit, ActFit, Fit}
use Rattle.base_numbers.specs.Limit as Limit
use Rattle.file_index.specs.Branches.{bits_of, named_in}
use Rattle.file_map.specs.Map.{mask_of}

-- The kind of an item by its number.
abbrev pub code_of : Kind → ℕ
code_of resource = 0
code_of bin = 1
code_of sync = 2

same_code : (k l : Kind) → eqb (code_of l) (code_of k) ≡ same_kind k l
same_code resource resource = refl
same_code resource bin = refl
same_code resource sync = refl
same_code bin resource = refl
same_code bin bin = refl
same_code bin sync = refl
same_code sync resource = refl
same_code sync bin = refl
same_code sync sync = refl

code_small : (k : Kind) → code_of k < 3
code_small resource = omega arith
code_small bin = omega arith
code_small sync = omega arith

-- What an item names is numbered below 32.
abbrev Small : Item → Type 0
Small (get k i n) = i < Limit.THINGS
Small (condition i r v) = Unit {0}

-- ONE ITEM, which names number v; those behind it make the bits x.
module _ (k : Kind) (v x : ℕ) (is : Claim) (e : x ≡ mask_of k is) where
  thing_bits : (l : Kind) (n : ℕ) → v < Limit.THINGS →
      bit_or (if eqb (code_of l) (code_of k) && ltb v Limit.THINGS then 2 ^ v else 0) x ≡ mask_of k (get l v n ∷ is)
  unfolding mask_of
  thing_bits l n h = rw (same_code k l, lt-ltb v Limit.THINGS h, e) (go (same_kind k l))
    where
      go : (b : Bool) → bit_or (if b && true then 2 ^ v else 0) (mask_of k is) ≡ bit_or (if b then 2 ^ v else 0) (mask_of k is)
      go true = refl
      go false = refl

  -- t is the number of its kind
  item_bits : (t n : ℕ) (r : Relation) (y : ℤ) →
      Small (get_or (get resource v n ∷ get bin v n ∷ get sync v n ∷ []) t (condition v r y)) →
      bit_or (if eqb t (code_of k) && ltb v Limit.THINGS then 2 ^ v else 0) x
      ≡ mask_of k (get_or (get resource v n ∷ get bin v n ∷ get sync v n ∷ []) t (condition v r y) ∷ is)
  unfolding mask_of
  item_bits zero n r y h = thing_bits resource n h
  item_bits (suc zero) n r y h = thing_bits bin n h
  item_bits (suc (suc zero)) n r y h = thing_bits sync n h
  item_bits (suc (suc (suc t))) n r y h =
      rw (ne_eqb (suc (suc (suc t))) (code_of k) (λ q. omega (arith, code_small k))) e

-- ALL ITEMS.
bits_mask : (k : Kind) (ps : List (List ℕ)) → AllOf Small (map item_of ps) → bits_of (code_of k) ps ≡ mask_of k (map item_of ps)
unfolding bits_of mask_of
bits_mask k [] h = refl
bits_mask k (i ∷ ps) h =
    item_bits k (u16 i 2) (bits_of (code_of k) ps) (map item_of ps) (bits_mask k ps h.1) (u8 i 0) (u32 i 4)
    (relation_of (u8 i 1)) (i32 i 4) h.0

names_mask : (k : Kind) (bs : List ℕ) → AllOf Small (claim_in bs) → named_in (code_of k) bs ≡ mask_of k (claim_in bs)
unfolding named_in claim_in
names_mask k bs h = bits_mask k (parts_of item bs) h

-- A MODEL THAT FITS.
module _ (m : Model) where
  module _ (f : Fit m) where
    few_things : (k : Kind) → declared m k ≤ Limit.THINGS
    few_things resource = f.few_totals
    few_things bin = f.few_amounts
    few_things sync = f.few_syncs

    item_small : (i : Item) → ItemFit m i → Small i
    item_small (get k i n) h = omega (arith, h.0, few_things k)
    item_small (condition i r v) h = tt

    pub claim_mask : (k : Kind) (bs : List ℕ) → ClaimFit m (claim_in bs) → named_in (code_of k) bs ≡ mask_of k (claim_in bs)
    claim_mask k bs h = names_mask k bs (all_map (ItemFit m) Small item_small (claim_in bs) h.1)

  -- the claims that an action offers fit
  abbrev pub OfferFit : Offer → Type 0
  OfferFit o = ClaimFit m o.claim

  pub offers_fit : (x : Action) → ActFit m x → AllOf OfferFit (offers x)
  offers_fit (HOLD e) h = tt
  offers_fit (PRIO e) h = tt
  offers_fit (TRACE e) h = tt
  offers_fit (SET i e) h = tt
  offers_fit (LSET i e) h = tt
  offers_fit (DO n b) h = tt
  offers_fit (PUTR i n) h = tt
  offers_fit (PUTB i n) h = tt
  offers_fit (PUTS i n) h = tt
  offers_fit (BECOME i) h = tt
  offers_fit (REQ c) h = (h, tt)
  offers_fit (TRY bs) h = all_mapped (BranchFit m) OfferFit _ (λ b i. i.1) bs h.1
  offers_fit (WHILE b c) h = (h.1, tt)
  offers_fit (START c t s) h = tt
  offers_fit CLOSE h = tt
