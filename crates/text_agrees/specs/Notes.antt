-- The actions of a body with the blocks that they stand in, in the order of the file; put block by block they are its bytes.
-- Assumes nothing.
use Prim.Native.Nat.{ℕ, zero, suc, ◌+◌, ◌≤◌, ◌<◌}
use Rattle.std.proofs.Common.{arith, ◌∙◌, ap, append-nil, append_assoc, eq-eqb, ne_eqb, le-leb, leb-true, leb-false}
use Rattle.std.specs.Prelude.{◌≡◌, List, [], ◌∷◌, ◌++◌, Bool, true, false, eqb, leb, length, if◌then◌else◌}
use Rattle.std.proofs.Math.Path.{refl, sym, ap₂}
use Rattle.std.proofs.lemmas.Bool.{lt-leb}
use Rattle.semantics.specs.Words.{keep, collect}
use Rattle.semantics.specs.Kinds as K
use Rattle.semantics.specs.Record as R
use Rattle.promises.specs.Laws.{AllOf, all_map, all_append}
use Rattle.text_semantics.specs.Grammar as G
use Rattle.text_semantics.specs.Grammar.{Kind, Act}
use Rattle.text_semantics.specs.Names.{Known}
use Rattle.text_semantics.specs.Meaning.{Owned, owned, opened, direct, inside, to_do, to_while, to_try, in_tokens, in_braces}
use Rattle.text_semantics.specs.Written.{bytes_of, file_of}
use Rattle.text_machine.specs.Sheet.{Piece, headed, standing, blocks_from}

-- What stands in a block.
pub record Note : Type 0 where
  pub block : ℕ
  pub what : Owned

abbrev pub note : ℕ → Owned → Note
note k o = record { block = k; what = o }

abbrev pub notes : ℕ → List Owned → List Note
notes k [] = []
notes k (o ∷ os) = note k o ∷ notes k os

abbrev pub piece_of : Note → Piece
piece_of n = record { block = n.block; bytes = bytes_of n.what.entry }

abbrev pub pieces : List Note → List Piece
pieces [] = []
pieces (n ∷ ns) = piece_of n ∷ pieces ns

-- How many bytes they are.
abbrev pub weight : List Note → ℕ
weight [] = 0
weight (n ∷ ns) = length (bytes_of n.what.entry) + weight ns

-- The actions in the blocks inside, from block k on: `inside` without the records of blocks.
module _ (ks : List Known) where
  unfoldable pub inner : {j : Kind} → Act j → ℕ → ℕ → List Note
  inner (G.hold e) k at = []
  inner (G.priority e) k at = []
  inner (G.trace e) k at = []
  inner (G.set x e) k at = []
  inner (G.put_r x n) k at = []
  inner (G.put_b x n) k at = []
  inner (G.put_s x n) k at = []
  inner (G.become x) k at = []
  inner (G.req c) k at = []
  inner (G.start x n g) k at = []
  inner G.close k at = []
  inner G.no_branches k at = []
  inner G.no_actions k at = []
  inner (G.repeat n b) k at = notes k (direct ks b (suc k) (at + to_do n)) ++ inner b (suc k) (at + to_do n)
  inner (G.while c b) k at = notes k (direct ks b (suc k) (at + to_while c)) ++ inner b (suc k) (at + to_while c)
  inner (G.try c b bs) k at =
      notes k (direct ks b (suc k) (at + to_try c)) ++ inner b (suc k) (at + to_try c)
      ++ inner bs (suc k + opened b) (at + to_try c + in_braces b)
  inner (G.etry c b bs) k at =
      notes k (direct ks b (suc k) (at + to_try c)) ++ inner b (suc k) (at + to_try c)
      ++ inner bs (suc k + opened b) (at + to_try c + in_braces b)
  inner (G.follow a b) k at = inner a k at ++ inner b (k + opened a) (at + in_tokens a)

-- THEIR BLOCKS lie between two.
abbrev pub In : ℕ → ℕ → Note → Type 0
In lo hi n = (lo ≤ n.block) × (n.block < hi)

pub notes_in : (k lo hi : ℕ) (os : List Owned) → lo ≤ k → k < hi → AllOf (In lo hi) (notes k os)
notes_in k lo hi [] l h = tt
notes_in k lo hi (o ∷ os) l h = ((l, h), notes_in k lo hi os l h)

pub wider : (lo hi from to : ℕ) (ns : List Note) → from ≤ lo → hi ≤ to → AllOf (In lo hi) ns → AllOf (In from to) ns
wider lo hi from to ns l h a = all_map (In lo hi) (In from to) (λ n i. (omega arith, omega arith)) ns a

pub block_in : (k n : ℕ) (os : List Owned) (ns : List Note) → AllOf (In (suc k) (suc k + n)) ns
    → AllOf (In k (k + suc n)) (notes k os ++ ns)
block_in k n os ns h =
    all_append (In k (k + suc n)) (notes k os) ns (notes_in k k (k + suc n) os (omega arith) (omega arith))
    (wider (suc k) (suc k + n) k (k + suc n) ns (omega arith) (omega arith) h)

both_in : (k n m : ℕ) (ns ms : List Note) → AllOf (In k (k + n)) ns → AllOf (In (k + n) (k + n + m)) ms
    → AllOf (In k (k + (n + m))) (ns ++ ms)
both_in k n m ns ms a b =
    all_append (In k (k + (n + m))) ns ms (wider k (k + n) k (k + (n + m)) ns (omega arith) (omega arith) a)
    (wider (k + n) (k + n + m) k (k + (n + m)) ms (omega arith) (omega arith) b)

-- .. of a block, and others behind it.
blocks_in : (k n m : ℕ) (os : List Owned) (ns ms : List Note) → AllOf (In (suc k) (suc k + n)) ns
    → AllOf (In (suc k + n) (suc k + n + m)) ms → AllOf (In k (k + suc (n + m))) (notes k os ++ ns ++ ms)
blocks_in k n m os ns ms a b =
    rw (append_assoc (notes k os) ns ms) (block_in k (n + m) os (ns ++ ms) (both_in (suc k) n m ns ms a b))

module _ (ks : List Known) where
  pub inner_in : {j : Kind} (a : Act j) (k at : ℕ) → AllOf (In k (k + opened a)) (inner ks a k at)
  unfolding inner opened
  inner_in (G.hold e) k at = tt
  inner_in (G.priority e) k at = tt
  inner_in (G.trace e) k at = tt
  inner_in (G.set x e) k at = tt
  inner_in (G.put_r x n) k at = tt
  inner_in (G.put_b x n) k at = tt
  inner_in (G.put_s x n) k at = tt
  inner_in (G.become x) k at = tt
  inner_in (G.req c) k at = tt
  inner_in (G.start x n g) k at = tt
  inner_in G.close k at = tt
  inner_in G.no_branches k at = tt
  inner_in G.no_actions k at = tt
  inner_in (G.repeat n b) k at =
      block_in k (opened b) (direct ks b (suc k) (at + to_do n)) (inner ks b (suc k) (at + to_do n))
      (inner_in b (suc k) (at + to_do n))
  inner_in (G.while c b) k at =
      block_in k (opened b) (direct ks b (suc k) (at + to_while c)) (inner ks b (suc k) (at + to_while c))
      (inner_in b (suc k) (at + to_while c))
  inner_in (G.try c b bs) k at =
      let p : ℕ = at + to_try c in
      blocks_in k (opened b) (opened bs) (direct ks b (suc k) p) (inner ks b (suc k) p)
      (inner ks bs (suc k + opened b) (p + in_braces b)) (inner_in b (suc k) p) (inner_in bs (suc k + opened b) (p + in_braces b))
  inner_in (G.etry c b bs) k at =
      let p : ℕ = at + to_try c in
      blocks_in k (opened b) (opened bs) (direct ks b (suc k) p) (inner ks b (suc k) p)
      (inner ks bs (suc k + opened b) (p + in_braces b)) (inner_in b (suc k) p) (inner_in bs (suc k + opened b) (p + in_braces b))
  inner_in (G.follow a b) k at =
      both_in k (opened a) (opened b) (inner ks a k at) (inner ks b (k + opened a) (at + in_tokens a)) (inner_in a k at)
      (inner_in b (k + opened a) (at + in_tokens a))

-- WHAT STANDS IN A BLOCK, of two lists; of notes that are all there; and of notes that are all elsewhere.
pub standing-append : (j : ℕ) (ps qs : List Piece) → standing j (ps ++ qs) ≡ standing j ps ++ standing j qs
standing-append j [] qs = refl
standing-append j (p ∷ ps) qs = go (eqb j p.block) (standing-append j ps qs)
  where
    go : (b : Bool) → standing j (ps ++ qs) ≡ standing j ps ++ standing j qs
        → collect (λ x. x.bytes)
        (if b then p ∷ keep (λ x. eqb j x.block) (ps ++ qs) else keep (λ x. eqb j x.block) (ps ++ qs))
        ≡ collect (λ x. x.bytes)
        (if b then p ∷ keep (λ x. eqb j x.block) ps else keep (λ x. eqb j x.block) ps) ++ standing j qs
    go true e = ap (λ bs. p.bytes ++ bs) e ∙ sym (append_assoc p.bytes (standing j ps) (standing j qs))
    go false e = e

pub pieces-append : (ns ms : List Note) → pieces (ns ++ ms) ≡ pieces ns ++ pieces ms
pieces-append [] ms = refl
pieces-append (n ∷ ns) ms = ap (λ ps. piece_of n ∷ ps) (pieces-append ns ms)

abbrev pub bytes_in : ℕ → List Note → List ℕ
bytes_in j ns = standing j (pieces ns)

pub bytes_append : (j : ℕ) (ns ms : List Note) → bytes_in j (ns ++ ms) ≡ bytes_in j ns ++ bytes_in j ms
bytes_append j ns ms = ap (standing j) (pieces-append ns ms) ∙ standing-append j (pieces ns) (pieces ms)

pub bytes_here : (k : ℕ) (os : List Owned) → bytes_in k (notes k os) ≡ file_of os
bytes_here k [] = refl
bytes_here k (o ∷ os) = rw (eq-eqb k k refl) (ap (λ bs. bytes_of o.entry ++ bs) (bytes_here k os))

pub bytes_elsewhere : (j : ℕ) (ns : List Note) → AllOf (λ n. j ≡ n.block → ⊥) ns → bytes_in j ns ≡ []
bytes_elsewhere j [] h = refl
bytes_elsewhere j (n ∷ ns) h = rw (ne_eqb j n.block h.0) (bytes_elsewhere j ns h.1)

pub bytes_under : (j lo hi : ℕ) (ns : List Note) → j < lo → AllOf (In lo hi) ns → bytes_in j ns ≡ []
bytes_under j lo hi ns l h =
    bytes_elsewhere j ns (all_map (In lo hi) (λ n. j ≡ n.block → ⊥) (λ n i e. omega arith) ns h)

pub bytes_over : (j lo hi : ℕ) (ns : List Note) → hi ≤ j → AllOf (In lo hi) ns → bytes_in j ns ≡ []
bytes_over j lo hi ns l h =
    bytes_elsewhere j ns (all_map (In lo hi) (λ n. j ≡ n.block → ⊥) (λ n i e. omega arith) ns h)

-- Notes from block k on and notes before it may change places.
pub bytes_swap : (j k hi : ℕ) (ns ms : List Note) → AllOf (In k hi) ns → AllOf (In 0 k) ms
    → bytes_in j (ns ++ ms) ≡ bytes_in j (ms ++ ns)
bytes_swap j k hi ns ms a b = bytes_append j ns ms ∙ go (leb k j) refl ∙ sym (bytes_append j ms ns)
  where
    go : (t : Bool) → leb k j ≡ t → bytes_in j ns ++ bytes_in j ms ≡ bytes_in j ms ++ bytes_in j ns
    go true e = let l = leb-true k j e in rw (bytes_over j 0 k ms l b) (append-nil (bytes_in j ns))
    go false e = let l = leb-false k j e in rw (bytes_under j k hi ns l a) (sym (append-nil (bytes_in j ms)))

-- BLOCK BY BLOCK.
pub blocks_add : (n m k : ℕ) (ps : List Piece) → blocks_from (n + m) k ps ≡ blocks_from n k ps ++ blocks_from m (k + n) ps
unfolding blocks_from
blocks_add zero m k ps =
    let e : zero + m ≡ m = omega arith in let f : k + zero ≡ k = omega arith in rw (e, f)
blocks_add (suc n) m k ps =
    let e : suc n + m ≡ suc (n + m) = omega arith in
    let f : suc k + n ≡ k + suc n = omega arith in
    let head : List ℕ = headed K.BLOCK [] ++ standing k ps in
    ap (λ i. blocks_from i k ps) e
    ∙ ap (λ bs. head ++ bs) (blocks_add n m (suc k) ps ∙ ap (λ i. blocks_from n (suc k) ps ++ blocks_from m i ps) f)
    ∙ sym (append_assoc head (blocks_from n (suc k) ps) (blocks_from m (k + suc n) ps))

pub blocks_same : (n k : ℕ) (ps qs : List Piece) → ((j : ℕ) → k ≤ j → j < k + n → standing j ps ≡ standing j qs)
    → blocks_from n k ps ≡ blocks_from n k qs
unfolding blocks_from
blocks_same zero k ps qs h = refl
blocks_same (suc n) k ps qs h =
    ap₂ (λ x y. headed K.BLOCK [] ++ x ++ y) (h k (omega arith) (omega arith))
    (blocks_same n (suc k) ps qs (λ j l m. h j (omega arith) (omega arith)))

-- Of two lists of notes, the blocks of each.
out_two : (k n m : ℕ) (ns ms : List Note) → AllOf (In k (k + n)) ns → AllOf (In (k + n) (k + n + m)) ms
    → blocks_from (n + m) k (pieces (ns ++ ms)) ≡ blocks_from n k (pieces ns) ++ blocks_from m (k + n) (pieces ms)
out_two k n m ns ms a b =
    blocks_add n m k (pieces (ns ++ ms))
    ∙ ap₂ (λ x y. x ++ y)
    (blocks_same n k (pieces (ns ++ ms)) (pieces ns) (λ j l h.
    bytes_append j ns ms ∙ ap (λ bs. bytes_in j ns ++ bs) (bytes_under j (k + n) (k + n + m) ms h b) ∙ append-nil (bytes_in j ns)))
    (blocks_same m (k + n) (pieces (ns ++ ms)) (pieces ms) (λ j l h.
    bytes_append j ns ms ∙ ap (λ bs. bs ++ bytes_in j ms) (bytes_over j k (k + n) ns l a)))

out_block : (k m : ℕ) (os : List Owned) (ns : List Note) → AllOf (In (suc k) (suc k + m)) ns
    → blocks_from (suc m) k (pieces (notes k os ++ ns)) ≡ bytes_of R.BLOCK ++ file_of os ++ blocks_from m (suc k) (pieces ns)
unfolding blocks_from bytes_of
out_block k m os ns h =
    ap₂ (λ x y. bytes_of R.BLOCK ++ x ++ y)
    (bytes_append k (notes k os) ns
    ∙ ap₂ (λ x y. x ++ y) (bytes_here k os) (bytes_under k (suc k) (suc k + m) ns (omega arith) h)
    ∙ append-nil (file_of os))
    (blocks_same m (suc k) (pieces (notes k os ++ ns)) (pieces ns) (λ j l i.
    bytes_append j (notes k os) ns
    ∙ ap (λ bs. bs ++ bytes_in j ns)
    (bytes_over j 0 (suc k) (notes k os) l (notes_in k 0 (suc k) os (omega arith) (omega arith)))))

pub file_append : (os qs : List Owned) → file_of (os ++ qs) ≡ file_of os ++ file_of qs
file_append [] qs = refl
file_append (o ∷ os) qs =
    ap (λ bs. bytes_of o.entry ++ bs) (file_append os qs) ∙ sym (append_assoc (bytes_of o.entry) (file_of os) (file_of qs))

-- A block, and what is inside it; and others behind them.
pub out_inside : (k m : ℕ) (own : ℕ) (os qs : List Owned) (ns : List Note) → AllOf (In (suc k) (suc k + m)) ns
    → blocks_from m (suc k) (pieces ns) ≡ file_of qs
    → blocks_from (suc m) k (pieces (notes k os ++ ns)) ≡ file_of (owned R.BLOCK own ∷ os ++ qs)
out_inside k m own os qs ns h e =
    out_block k m os ns h ∙ ap (λ bs. bytes_of R.BLOCK ++ file_of os ++ bs) e
    ∙ append_assoc (bytes_of R.BLOCK) (file_of os) (file_of qs) ∙ ap (λ bs. bytes_of R.BLOCK ++ bs) (sym (file_append os qs))

out_behind : (k n m own : ℕ) (os qs ys : List Owned) (ns ms : List Note) → AllOf (In (suc k) (suc k + n)) ns
    → AllOf (In (suc k + n) (suc k + n + m)) ms → blocks_from n (suc k) (pieces ns) ≡ file_of qs
    → blocks_from m (suc k + n) (pieces ms) ≡ file_of ys
    → blocks_from (suc (n + m)) k (pieces (notes k os ++ ns ++ ms)) ≡ file_of (owned R.BLOCK own ∷ os ++ qs ++ ys)
out_behind k n m own os qs ys ns ms a b e f =
    let r : suc k + (n + m) ≡ suc k + n + m = omega arith in
    ap (λ xs. blocks_from (suc (n + m)) k (pieces xs)) (append_assoc (notes k os) ns ms)
    ∙ out_inside k (n + m) own os (qs ++ ys) (ns ++ ms) (both_in (suc k) n m ns ms a b)
    (out_two (suc k) n m ns ms a b ∙ ap₂ (λ x y. x ++ y) e f ∙ sym (file_append qs ys))
    ∙ ap (λ xs. file_of (owned R.BLOCK own ∷ xs)) (sym (append_assoc os qs ys))

module _ (ks : List Known) where
  -- THE BLOCKS INSIDE, put one behind the other, are the bytes of the definitions.
  pub inside_out : {j : Kind} (a : Act j) (own k at : ℕ)
      → blocks_from (opened a) k (pieces (inner ks a k at)) ≡ file_of (inside ks a own k at)
  unfolding inner inside opened blocks_from
  inside_out (G.hold e) own k at = refl
  inside_out (G.priority e) own k at = refl
  inside_out (G.trace e) own k at = refl
  inside_out (G.set x e) own k at = refl
  inside_out (G.put_r x n) own k at = refl
  inside_out (G.put_b x n) own k at = refl
  inside_out (G.put_s x n) own k at = refl
  inside_out (G.become x) own k at = refl
  inside_out (G.req c) own k at = refl
  inside_out (G.start x n g) own k at = refl
  inside_out G.close own k at = refl
  inside_out G.no_branches own k at = refl
  inside_out G.no_actions own k at = refl
  inside_out (G.repeat n b) own k at =
      let p : ℕ = at + to_do n in
      out_inside k (opened b) at (direct ks b (suc k) p) (inside ks b own (suc k) p) (inner ks b (suc k) p)
      (inner_in ks b (suc k) p)
      (inside_out b own (suc k) p)
  inside_out (G.while c b) own k at =
      let p : ℕ = at + to_while c in
      out_inside k (opened b) at (direct ks b (suc k) p) (inside ks b own (suc k) p) (inner ks b (suc k) p)
      (inner_in ks b (suc k) p)
      (inside_out b own (suc k) p)
  inside_out (G.try c b bs) own k at =
      let p : ℕ = at + to_try c in
      let m : ℕ = suc k + opened b in
      let q : ℕ = p + in_braces b in
      out_behind k (opened b) (opened bs) at (direct ks b (suc k) p) (inside ks b own (suc k) p) (inside ks bs at m q)
      (inner ks b (suc k) p) (inner ks bs m q) (inner_in ks b (suc k) p) (inner_in ks bs m q) (inside_out b own (suc k) p)
      (inside_out bs at m q)
  inside_out (G.etry c b bs) own k at =
      let p : ℕ = at + to_try c in
      let m : ℕ = suc k + opened b in
      let q : ℕ = p + in_braces b in
      out_behind k (opened b) (opened bs) own (direct ks b (suc k) p) (inside ks b own (suc k) p) (inside ks bs own m q)
      (inner ks b (suc k) p) (inner ks bs m q) (inner_in ks b (suc k) p) (inner_in ks bs m q) (inside_out b own (suc k) p)
      (inside_out bs own m q)
  inside_out (G.follow a b) own k at =
      let m : ℕ = k + opened a in
      let q : ℕ = at + in_tokens a in
      out_two k (opened a) (opened b) (inner ks a k at) (inner ks b m q) (inner_in ks a k at) (inner_in ks b m q)
      ∙ ap₂ (λ x y. x ++ y) (inside_out a own k at) (inside_out b own m q)
      ∙ sym (file_append (inside ks a own k at) (inside ks b own m q))

-- HOW MANY BYTES.
pub weight-append : (ns ms : List Note) → weight (ns ++ ms) ≡ weight ns + weight ms
weight-append [] ms = omega arith
weight-append (n ∷ ns) ms = let ih = weight-append ns ms in omega arith

-- THE LAST in the order of the file, by its block and its place: one that is read later is the last, unless its block is an
-- earlier one.
abbrev pub Last : Type 0
Last = ℕ × ℕ

module _ (place : ℕ → ℕ) where
  abbrev pub later : Last → Note → Last
  later l n = if leb l.0 n.block then (n.block, place n.what.owner) else l

  abbrev pub lasts : Last → List Note → Last
  lasts l [] = l
  lasts l (n ∷ ns) = lasts (later l n) ns

  pub lasts-append : (l : Last) (ns ms : List Note) → lasts l (ns ++ ms) ≡ lasts (lasts l ns) ms
  lasts-append l [] ms = refl
  lasts-append l (n ∷ ns) ms = lasts-append (later l n) ns ms

  later_swap : (l : Last) (n m : Note) → m.block < n.block → later (later l n) m ≡ later (later l m) n
  later_swap l n m h = go (leb l.0 n.block) (leb l.0 m.block) refl refl
    where
      ln : Last
      ln = (n.block, place n.what.owner)

      lm : Last
      lm = (m.block, place m.what.owner)

      go : (x y : Bool) → leb l.0 n.block ≡ x → leb l.0 m.block ≡ y
          → later (if x then ln else l) m ≡ later (if y then lm else l) n
      go true true e f = rw (lt-leb n.block m.block h, le-leb m.block n.block (omega arith))
      go true false e f = rw (lt-leb n.block m.block h, e)
      go false true e f =
          let a = leb-false l.0 n.block e in let b = leb-true l.0 m.block f in absurd (omega arith)
      go false false e f = rw (e, f)

  one_back : (l : Last) (k hi : ℕ) (ns : List Note) (m : Note) (ms : List Note) → AllOf (In k hi) ns → m.block < k
      → lasts l (ns ++ m ∷ ms) ≡ lasts (later l m) (ns ++ ms)
  one_back l k hi [] m ms a h = refl
  one_back l k hi (n ∷ ns) m ms a h =
      one_back (later l n) k hi ns m ms a.1 h ∙ ap (λ i. lasts i (ns ++ ms)) (later_swap l n m (omega arith))

  pub lasts_swap : (l : Last) (k hi : ℕ) (ns ms : List Note) → AllOf (In k hi) ns → AllOf (In 0 k) ms
      → lasts l (ns ++ ms) ≡ lasts l (ms ++ ns)
  lasts_swap l k hi ns [] a b = ap (lasts l) (append-nil ns)
  lasts_swap l k hi ns (m ∷ ms) a b = one_back l k hi ns m ms a b.0.1 ∙ lasts_swap (later l m) k hi ns ms a b.1
