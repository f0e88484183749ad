-- What a body writes: behind it the machine's sheet has its blocks, counts and last action as the definitions have them.
-- Assumes nothing.
use Prim.Native.Nat.{ℕ, suc, ◌+◌, ◌*◌, ◌≤◌}
use Rattle.std.proofs.Common.{arith, sym, ◌∙◌, ap, ap₂, subst, length-append, eq-eqb, le-leb}
use Rattle.std.specs.Prelude.{◌≡◌, Bool, false, eqb, length, get_or, if◌then◌else◌}
use Rattle.std.proofs.Math.Path.{refl}
use mathlib.Core.List.{List, [], ◌∷◌, ◌++◌, append-nil, append_assoc}
use Rattle.std.proofs.Math.Option.{Option, none}
use Rattle.semantics.specs.Kinds as K
use Rattle.semantics.specs.Record as R
use Rattle.promises.specs.Laws.{AllOf, all_map, only, only-add, only_none, once, over-append}
use Rattle.promises.specs.Counted.{group_of}
use Rattle.text_semantics.specs.Grammar as G
use Rattle.text_semantics.specs.Grammar.{Kind, Act}
use Rattle.text_semantics.specs.Names.{Known}
use Rattle.text_semantics.specs.Meaning.{Owned, owned, opened, direct, inside, to_do, to_while, to_try, in_tokens, in_braces}
use Rattle.text_semantics.specs.Written.{bytes_of, file_of}
use Rattle.text_machine.specs.Sheet.{Sheet, Kept, Piece, added, blocks_of, standing, blocks_from, closed, braces, file}
use Rattle.text_promises.specs.Judged.{of_group}
use Rattle.text_promises.specs.Fitting.{direct_fits}
use Rattle.text_agrees.specs.Actions.{sheeted}
use Rattle.text_agrees.specs.Notes.{Note, notes, pieces, weight, inner, In, wider, notes_in, block_in, inner_in, bytes_in}
use Rattle.text_agrees.specs.Notes.{bytes_under, bytes_over, blocks_add, blocks_same, out_inside, inside_out}
use Rattle.text_agrees.specs.Notes.{file_append}
use Rattle.text_agrees.specs.Notes.{weight-append, Last, later, lasts}
use Rattle.text_agrees.specs.Accounts.{Counting, Grew, Lays, level, waiting, heading, last_of, grew_blocks}
use Rattle.text_agrees.specs.Accounts.{still_counting}
use Rattle.text_agrees.specs.Laying.{Short, Fair, Shorts, block_split, acts_lie, begun, nested}

-- WHAT RECORDS SAY OF NOTES: so many blocks, and these actions.
abbrev Acting : Owned → Type 0
Acting o = group_of o.entry ≡ K.ACTION

module _ (place : ℕ → ℕ) where
  -- The place of the last action in a file, and p where there is none.
  abbrev pub last_line : ℕ → List Owned → ℕ
  last_line p [] = p
  last_line p (o ∷ os) = last_line (if eqb (group_of o.entry) K.ACTION then place o.owner else p) os

  abbrev lines : ℕ → List Note → ℕ
  lines p [] = p
  lines p (n ∷ ns) = lines (place n.what.owner) ns

  record Told (os : List Owned) (n : ℕ) (ns : List Note) : Type 0 where
    counts : (g : ℕ) → of_group g os ≡ only g K.BLOCK n + only g K.ACTION (length ns)
    bytes : length (file_of os) ≡ weight ns + 4 * n
    line : (p : ℕ) → last_line p os ≡ lines p ns

  pub last_append : (p : ℕ) (os qs : List Owned) → last_line p (os ++ qs) ≡ last_line (last_line p os) qs
  last_append p [] qs = refl
  last_append p (o ∷ os) qs = last_append (if eqb (group_of o.entry) K.ACTION then place o.owner else p) os qs

  lines_append : (p : ℕ) (ns ms : List Note) → lines p (ns ++ ms) ≡ lines (lines p ns) ms
  lines_append p [] ms = refl
  lines_append p (n ∷ ns) ms = lines_append (place n.what.owner) ns ms

  told_join : (os qs : List Owned) (n m : ℕ) (ns ms : List Note) → Told os n ns → Told qs m ms
      → Told (os ++ qs) (n + m) (ns ++ ms)
  told_join os qs n m ns ms a b =
      record {
        counts = λ g.
            let x = a.counts g in
            let y = b.counts g in
            let p = only-add g K.BLOCK n m in
            let q = only-add g K.ACTION (length ns) (length ms) in
            let r = over-append (λ o. once g (group_of o.entry)) os qs in
            rw (length-append ns ms) (omega arith);
        bytes =
            let x = a.bytes in
            let y = b.bytes in
            let w = weight-append ns ms in
            let l = length-append (file_of os) (file_of qs) in
            let f = ap length (file_append os qs) in
            omega arith;
        line = λ p.
            last_append p os qs ∙ ap (λ x. last_line x qs) (a.line p) ∙ b.line (lines p ns) ∙ sym (lines_append p ns ms);
      }

  told_actions : (k : ℕ) (os : List Owned) → AllOf Acting os → Told os 0 (notes k os)
  told_actions k [] h =
      record {
        counts = λ g. let a = only_none g K.BLOCK in let b = only_none g K.ACTION in omega arith;
        bytes = refl;
        line = λ p. refl;
      }
  told_actions k (o ∷ os) h =
      let ih = told_actions k os h.1 in
      record {
        counts = λ g.
            let x = ih.counts g in
            let a = only-add g K.ACTION 1 (length (notes k os)) in
            let e : suc (length (notes k os)) ≡ 1 + length (notes k os) = omega arith in
            let f = ap (once g) h.0 in
            rw e (omega arith);
        bytes = let x = ih.bytes in let l = length-append (bytes_of o.entry) (file_of os) in omega arith;
        line = λ p. rw (eq-eqb (group_of o.entry) K.ACTION h.0) (ih.line (place o.owner));
      }

  told_block : (own k : ℕ) (os : List Owned) → AllOf Acting os → Told (owned R.BLOCK own ∷ os) 1 (notes k os)
  unfolding bytes_of
  told_block own k os h =
      let x = told_actions k os h in
      told_join (owned R.BLOCK own ∷ []) os 1 0 [] (notes k os)
      (record { counts = λ g. let a = only_none g K.ACTION in omega arith; bytes = refl; line = λ p. refl }) x

  module _ (ks : List Known) where
    acting : (a : Act G.actions) (k at : ℕ) → AllOf Acting (direct ks a k at)
    acting a k at = all_map _ Acting (λ o h. h.1) (direct ks a k at) (direct_fits ks a k at)

    told_as : (os : List Owned) (n m : ℕ) (ns : List Note) → n ≡ m → Told os n ns → Told os m ns
    told_as os n m ns e a = subst (λ i. Told os i ns) e a

    -- A block with what is inside it.
    told_one : (a : Act G.actions) (out own k at : ℕ) → Told (inside ks a own (suc k) at) (opened a) (inner ks a (suc k) at)
        → Told (owned R.BLOCK out ∷ direct ks a (suc k) at ++ inside ks a own (suc k) at) (suc (opened a))
        (notes k (direct ks a (suc k) at) ++ inner ks a (suc k) at)
    told_one a out own k at h =
        let os : List Owned = direct ks a (suc k) at in
        told_as _ (1 + opened a) (suc (opened a)) _ (omega arith)
        (told_join (owned R.BLOCK out ∷ os) (inside ks a own (suc k) at) 1 (opened a) (notes k os) (inner ks a (suc k) at)
        (told_block out k os (acting a (suc k) at)) h)

    told_nothing : Told [] 0 []
    told_nothing = told_actions 0 [] tt

    told_inside : {j : Kind} (a : Act j) (own k at : ℕ) → Told (inside ks a own k at) (opened a) (inner ks a k at)
    unfolding inside opened inner
    told_inside (G.hold e) own k at = told_nothing
    told_inside (G.priority e) own k at = told_nothing
    told_inside (G.trace e) own k at = told_nothing
    told_inside (G.set x e) own k at = told_nothing
    told_inside (G.put_r x n) own k at = told_nothing
    told_inside (G.put_b x n) own k at = told_nothing
    told_inside (G.put_s x n) own k at = told_nothing
    told_inside (G.become x) own k at = told_nothing
    told_inside (G.req c) own k at = told_nothing
    told_inside (G.start x n g) own k at = told_nothing
    told_inside G.close own k at = told_nothing
    told_inside G.no_branches own k at = told_nothing
    told_inside G.no_actions own k at = told_nothing
    told_inside (G.repeat n b) own k at = told_one b at own k (at + to_do n) (told_inside b own (suc k) (at + to_do n))
    told_inside (G.while c b) own k at = told_one b at own k (at + to_while c) (told_inside b own (suc k) (at + to_while c))
    told_inside (G.try c b bs) own k at =
        let p : ℕ = at + to_try c in
        let m : ℕ = suc k + opened b in
        let q : ℕ = p + in_braces b in
        told_as _ (suc (opened b) + opened bs) (suc (opened b + opened bs)) _ (omega arith)
        (told_join _ (inside ks bs at m q) (suc (opened b)) (opened bs) _ (inner ks bs m q)
        (told_one b at own k p (told_inside b own (suc k) p)) (told_inside bs at m q))
    told_inside (G.etry c b bs) own k at =
        let p : ℕ = at + to_try c in
        let m : ℕ = suc k + opened b in
        let q : ℕ = p + in_braces b in
        told_as _ (suc (opened b) + opened bs) (suc (opened b + opened bs)) _ (omega arith)
        (told_join _ (inside ks bs own m q) (suc (opened b)) (opened bs) _ (inner ks bs m q)
        (told_one b own own k p (told_inside b own (suc k) p)) (told_inside bs own m q))
    told_inside (G.follow a b) own k at =
        let m : ℕ = k + opened a in
        let q : ℕ = at + in_tokens a in
        told_join (inside ks a own k at) (inside ks b own m q) (opened a) (opened b) (inner ks a k at) (inner ks b m q)
        (told_inside a own k at) (told_inside b own m q)

-- THE ORDER. The notes go from block to block.
abbrev Climbs : ℕ → List Note → Type 0
Climbs lo [] = Unit {0}
Climbs lo (n ∷ ns) = (lo ≤ n.block) × Climbs n.block ns

climbs_from : (lo hi : ℕ) (ns : List Note) → lo ≤ hi → Climbs hi ns → Climbs lo ns
climbs_from lo hi [] l h = tt
climbs_from lo hi (n ∷ ns) l h = let a = h.0 in (omega arith, h.1)

climbs_join : (lo from hi : ℕ) (ns ms : List Note) → lo ≤ hi → Climbs lo ns → AllOf (In from hi) ns → Climbs hi ms
    → Climbs lo (ns ++ ms)
climbs_join lo from hi [] ms l a i b = climbs_from lo hi ms l b
climbs_join lo from hi (n ∷ ns) ms l a i b =
    let x = i.0.1 in (a.0, climbs_join n.block from hi ns ms (omega arith) a.1 i.1 b)

climbs_notes : (k : ℕ) (os : List Owned) → Climbs k (notes k os)
climbs_notes k [] = tt
climbs_notes k (o ∷ os) = (omega arith, climbs_notes k os)

-- In notes that climb the last is the last.
module _ (place : ℕ → ℕ) where
  climbing_last : (lo hi : ℕ) (l : Last) (ns : List Note) → l.0 ≤ lo → Climbs lo ns → AllOf (In 0 hi) ns → l.0 ≤ hi
      → ((lasts place l ns).1 ≡ lines place l.1 ns) × ((lasts place l ns).0 ≤ hi)
  climbing_last lo hi l [] h c i b = (refl, b)
  climbing_last lo hi l (n ∷ ns) h c i b =
      let x = c.0 in
      let y = i.0.1 in
      let m : Last = (n.block, place n.what.owner) in
      let e : later place l n ≡ m = ap (λ (t : Bool). if t then m else l) (le-leb l.0 n.block (omega arith)) in
      subst (λ (i : Last). ((lasts place i ns).1 ≡ lines place m.1 ns) × ((lasts place i ns).0 ≤ hi)) (sym e)
      (climbing_last n.block hi m ns (omega arith) c.1 i.1 (omega arith))

module _ (ks : List Known) where
  climbs_block : (k : ℕ) (os : List Owned) (ns : List Note) → Climbs (suc k) ns → Climbs k (notes k os ++ ns)
  climbs_block k os ns h =
      climbs_join k 0 (suc k) (notes k os) ns (omega arith) (climbs_notes k os)
      (notes_in k 0 (suc k) os (omega arith) (omega arith)) h

  climbs_two : (a : Act G.actions) (k at : ℕ) (ms : List Note) → Climbs (suc k) (inner ks a (suc k) at)
      → Climbs (suc k + opened a) ms
      → Climbs k (notes k (direct ks a (suc k) at) ++ inner ks a (suc k) at ++ ms)
  climbs_two a k at ms h c =
      let os : List Owned = direct ks a (suc k) at in
      climbs_join k k (suc k + opened a) (notes k os ++ inner ks a (suc k) at) ms (omega arith)
      (climbs_block k os (inner ks a (suc k) at) h)
      (wider k (k + suc (opened a)) k (suc k + opened a) (notes k os ++ inner ks a (suc k) at) (omega arith) (omega arith)
      (block_in k (opened a) os (inner ks a (suc k) at) (inner_in ks a (suc k) at))) c

  climbs_inner : {j : Kind} (a : Act j) (k at : ℕ) → Climbs k (inner ks a k at)
  unfolding inner opened
  climbs_inner (G.hold e) k at = tt
  climbs_inner (G.priority e) k at = tt
  climbs_inner (G.trace e) k at = tt
  climbs_inner (G.set x e) k at = tt
  climbs_inner (G.put_r x n) k at = tt
  climbs_inner (G.put_b x n) k at = tt
  climbs_inner (G.put_s x n) k at = tt
  climbs_inner (G.become x) k at = tt
  climbs_inner (G.req c) k at = tt
  climbs_inner (G.start x n g) k at = tt
  climbs_inner G.close k at = tt
  climbs_inner G.no_branches k at = tt
  climbs_inner G.no_actions k at = tt
  climbs_inner (G.repeat n b) k at = climbs_block k (direct ks b (suc k) (at + to_do n)) _ (climbs_inner b (suc k) (at + to_do n))
  climbs_inner (G.while c b) k at =
      climbs_block k (direct ks b (suc k) (at + to_while c)) _ (climbs_inner b (suc k) (at + to_while c))
  climbs_inner (G.try c b bs) k at =
      climbs_two b k (at + to_try c) _ (climbs_inner b (suc k) (at + to_try c))
      (climbs_inner bs (suc k + opened b) (at + to_try c + in_braces b))
  climbs_inner (G.etry c b bs) k at =
      climbs_two b k (at + to_try c) _ (climbs_inner b (suc k) (at + to_try c))
      (climbs_inner bs (suc k + opened b) (at + to_try c + in_braces b))
  climbs_inner (G.follow a b) k at =
      climbs_join k k (k + opened a) (inner ks a k at) (inner ks b (k + opened a) (at + in_tokens a)) (omega arith)
      (climbs_inner a k at) (inner_in ks a k at) (climbs_inner b (k + opened a) (at + in_tokens a))

-- THE FILE. No block that is not opened yet has anything in it.
abbrev pub Fresh : ℕ → List Piece → Type 0
Fresh k ps = (j : ℕ) → k ≤ j → standing j ps ≡ []

-- What is laid in the next blocks stands behind the blocks that are there.
module _ (s t : Sheet) (qs : List Piece) (k n : ℕ) (ns : List Note) (os : List Owned) (lays : Lays s [] t qs ns)
    (room : t.full ≡ false) (fresh : Fresh k s.pieces) (i : AllOf (In k (k + n)) ns) where
  laid_at : (j : ℕ) → standing j (t.pieces ++ qs) ≡ standing j s.pieces ++ bytes_in j ns
  laid_at j = (lays.came room).1 j ∙ ap (λ ps. standing j ps ++ bytes_in j ns) (append-nil s.pieces)

  still_fresh : Fresh (k + n) (t.pieces ++ qs)
  still_fresh j l = laid_at j ∙ ap₂ (λ x y. x ++ y) (fresh j (omega arith)) (bytes_over j k (k + n) ns l i)

  laid_out : blocks_from n k (pieces ns) ≡ file_of os
      → blocks_from (k + n) 0 (t.pieces ++ qs) ≡ blocks_from k 0 s.pieces ++ file_of os
  laid_out e =
      blocks_add k n 0 (t.pieces ++ qs)
      ∙ ap₂ (λ x y. x ++ y)
      (blocks_same k 0 (t.pieces ++ qs) s.pieces (λ j l h.
      laid_at j ∙ ap (λ bs. standing j s.pieces ++ bs) (bytes_under j k (k + n) ns (omega arith) i)
      ∙ append-nil (standing j s.pieces)))
      (let z : 0 + k ≡ k = omega arith in
      ap (λ x. blocks_from n x (t.pieces ++ qs)) z
      ∙ blocks_same n k (t.pieces ++ qs) (pieces ns) (λ j l h. laid_at j ∙ ap (λ bs. bs ++ bytes_in j ns) (fresh j l))
      ∙ e)

-- WHAT IS WRITTEN from s to t, where qs wait in t: these records, behind the blocks that were there, if they are kept and there
-- was room.
pub record Writes (place : ℕ → ℕ) (s t : Sheet) (qs : List Piece) (os : List Owned) : Type 0 where
  pub counting : Counting t
  pub counts : (g : ℕ) → get_or t.seen g 0 ≡ get_or s.seen g 0 + of_group g os
  pub total : t.total ≡ added s.total (length (file_of os))
  pub last : s.last_block ≤ blocks_of s → (t.last_line ≡ last_line place s.last_line os) × (t.last_block ≤ blocks_of t)
  pub besides : heading t ≡ heading s
  pub blocks : AllOf Short os → t.full ≡ false → Fresh (blocks_of s) s.pieces
      → (s.full ≡ false) × Fresh (blocks_of t) (t.pieces ++ qs)
      × (blocks_from (blocks_of t) 0 (t.pieces ++ qs) ≡ blocks_from (blocks_of s) 0 s.pieces ++ file_of os)

pub writes_file : (place : ℕ → ℕ) (s t : Sheet) (os : List Owned) → Writes place s t [] os → AllOf Short os
    → t.full ≡ false → Fresh (blocks_of s) s.pieces → file t ≡ file s ++ file_of os
unfolding file
writes_file place s t os w h f fresh =
    ap₂ (λ ds ps. ds ++ blocks_from (blocks_of t) 0 ps) (ap (λ x. x.declared) w.besides) (sym (append-nil t.pieces))
    ∙ ap (λ bs. s.declared ++ bs) (w.blocks h f fresh).2
    ∙ sym (append_assoc s.declared (blocks_from (blocks_of s) 0 s.pieces) (file_of os))

-- The records of a body whose block is k: so many are blocks; and their notes.
abbrev pub body : List Known → Act G.actions → ℕ → ℕ → ℕ → List Owned
body ks a own k at = owned R.BLOCK own ∷ direct ks a (suc k) at ++ inside ks a own (suc k) at

pub body_blocks : (ks : List Known) (a : Act G.actions) (own k at : ℕ) → of_group K.BLOCK (body ks a own k at) ≡ suc (opened a)
body_blocks ks a own k at =
    let place : ℕ → ℕ = λ n. n in
    let x = (told_one place ks a own own k at (told_inside place ks a own (suc k) at)).counts K.BLOCK in omega arith

abbrev body_notes : List Known → Act G.actions → ℕ → ℕ → List Note
body_notes ks a k at = notes k (direct ks a (suc k) at) ++ inner ks a (suc k) at

module _ (place : ℕ → ℕ) (ks : List Known) (a : Act G.actions) (own at : ℕ) (s : Sheet) (c : Counting s) where
  written : (t : Sheet) (qs : List Piece)
      → Grew place s t (suc (opened a)) (weight (body_notes ks a (blocks_of s) at) + 4 * suc (opened a))
      (body_notes ks a (blocks_of s) at)
      → (AllOf Short (body ks a own (blocks_of s) at) → Lays s [] t qs (body_notes ks a (blocks_of s) at))
      → Writes place s t qs (body ks a own (blocks_of s) at)
  written t qs g l =
      let k : ℕ = blocks_of s in
      let n : ℕ = suc (opened a) in
      let os : List Owned = direct ks a (suc k) at in
      let ns : List Note = inner ks a (suc k) at in
      let all : List Note = body_notes ks a k at in
      let told = told_one place ks a own own k at (told_inside place ks a own (suc k) at) in
      let i = block_in k (opened a) os ns (inner_in ks a (suc k) at) in
      let climbs = climbs_block ks k os ns (climbs_inner ks a (suc k) at) in
      let e = grew_blocks place g in
      record {
        counting = still_counting place c g;
        counts = λ x. let u = g.seen x in let v = told.counts x in omega arith;
        total = g.total ∙ ap (added s.total) (sym told.bytes);
        last = λ h.
            let low = wider k (k + n) 0 (k + n) all (omega arith) (omega arith) i in
            let u = climbing_last place k (k + n) (last_of s) all h climbs low (omega arith) in
            let v = ap (λ (l : Last). l.0) g.last in
            let w = u.1 in
            (ap (λ (l : Last). l.1) g.last ∙ u.0 ∙ sym (told.line s.last_line), omega arith);
        besides = g.besides;
        blocks = λ h f fresh. (
          ((l h).came f).0,
          rw e (still_fresh s t qs k n all (body ks a own k at) (l h) f fresh i),
          rw e (laid_out s t qs k n all (body ks a own k at) (l h) f fresh i
              (out_inside k (opened a) own os (inside ks a own (suc k) at) ns (inner_in ks a (suc k) at)
              (inside_out ks a own (suc k) at))),
        );
      }

  pub kept_in : AllOf Short (body ks a own (blocks_of s) at) → Shorts place ks G.actions a own (suc (blocks_of s)) at
  kept_in h = block_split Short own (direct ks a (suc (blocks_of s)) at) (inside ks a own (suc (blocks_of s)) at) h

  -- A BODY, from the brace that opens its block to the one that closes it.
  pub body_writes : (p : ℕ) → p ≡ at → AllOf Fair (body ks a own (blocks_of s) at)
      → Writes place s (closed (sheeted place ks a p (braces s))) [] (body ks a own (blocks_of s) at)
      × ((closed (sheeted place ks a p (braces s))).levels ≡ s.levels)
  body_writes p e h =
      let k : ℕ = blocks_of s in
      let js = block_split Fair own (direct ks a (suc k) at) (inside ks a own (suc k) at) h in
      let y = nested place ks a (acts_lie place ks a) p at own k s e c refl js.0 js.1 in
      (written (closed (sheeted place ks a p (braces s))) [] y.grew (λ i. y.lays (kept_in i)), y.levels)

  -- .. and where its block is still open: a TRY may wait in it.
  pub begun_writes : (p : ℕ) → p ≡ at → AllOf Fair (body ks a own (blocks_of s) at)
      → (now : Option Kept)
      × Writes place s (sheeted place ks a p (braces s)) (waiting (blocks_of s) now) (body ks a own (blocks_of s) at)
      × ((sheeted place ks a p (braces s)).levels ≡ level (blocks_of s) now ∷ s.levels)
  begun_writes p e h =
      let k : ℕ = blocks_of s in
      let js = block_split Fair own (direct ks a (suc k) at) (inside ks a own (suc k) at) h in
      let y = begun place ks a (acts_lie place ks a) p at own k s e c refl js.0 js.1 in
      (y.now, written (sheeted place ks a p (braces s)) (waiting k y.now) y.grew (λ i. y.lays (kept_in i)), y.levels)
