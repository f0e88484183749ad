-- What each change of a sheet does to its counts, to its last action, to what stands in blocks and to the blocks that are open.
-- Assumes nothing.
use Prim.Native.Nat.{ℕ, ◌+◌, ◌-◌, ◌≤◌}
use native.Mathlib.Omega.{arith}
use Rattle.std.specs.Prelude.{◌≡◌, List, [], ◌∷◌, ◌++◌, Bool, ◌||◌, leb, ltb, if◌then◌else◌}
use Rattle.std.proofs.Math.Path.{refl, ap, subst}
use Rattle.std.proofs.Common.{sym, ◌∙◌, append-nil, append_assoc, length-append}
use Rattle.std.proofs.Math.Bool.{true, false}
use Rattle.std.proofs.Math.Option.{Option, none, some}
use Rattle.std.proofs.Math.ListN.{length, get_or, length-set}
use Rattle.semantics.specs.Words.{more}
use Rattle.semantics.specs.Numbers as F
use Rattle.semantics.specs.Kinds as K
use Rattle.promises.specs.Laws.{only, only-add, only_none, more_at}
use Rattle.text_semantics.specs.Meaning.{Owned}
use Rattle.text_semantics.specs.Written.{bytes_of}
use Rattle.text_machine.specs.Entry.{Draft, FULL}
use Rattle.text_machine.specs.Sheet as S
use Rattle.text_machine.specs.Sheet.{Sheet, Level, Kept, Piece, added, long, headed, innermost, kept_in, let_go, branches}
use Rattle.text_machine.specs.Sheet.{blocks_of, standing}
use Rattle.text_machine.specs.Sheet.{stands, settled, closed, counts, acts, tries, braces, with_total, with_pieces, with_last}
use Rattle.text_machine.specs.Sheet.{filled}
use Rattle.text_agrees.specs.Notes.{Note, note, pieces, bytes_in, bytes_append, standing-append, Last, lasts}
use Rattle.text_agrees.specs.Notes.{lasts-append}

-- A sheet without its blocks; and without its counts, too.
abbrev pub account : Sheet → Sheet
account s =
    record {
      seen = s.seen;
      total = s.total;
      first = s.first;
      last_block = s.last_block;
      last_line = s.last_line;
      declared = s.declared;
      class_at = s.class_at;
      class_line = s.class_line;
      current = s.current;
      pieces = [];
      staged = 0;
      levels = [];
      full = false;
    }

abbrev pub heading : Sheet → Sheet
heading s =
    record {
      seen = [];
      total = 0;
      first = s.first;
      last_block = 0;
      last_line = 0;
      declared = s.declared;
      class_at = s.class_at;
      class_line = s.class_line;
      current = s.current;
      pieces = [];
      staged = 0;
      levels = [];
      full = false;
    }

abbrev pub last_of : Sheet → Last
last_of s = (s.last_block, s.last_line)

-- The counts have their places, and the bytes are counted up to FULL.
pub record Counting (s : Sheet) : Type 0 where
  pub wide : length s.seen ≡ K.groups
  pub little : s.total ≤ FULL

-- COUNTS. From s to t so many blocks and bytes came, and these actions.
pub record Grew (place : ℕ → ℕ) (s t : Sheet) (n z : ℕ) (ns : List Note) : Type 0 where
  pub wide : length t.seen ≡ length s.seen
  pub seen : (g : ℕ) → get_or t.seen g 0 ≡ get_or s.seen g 0 + only g K.BLOCK n + only g K.ACTION (length ns)
  pub total : t.total ≡ added s.total z
  pub last : last_of t ≡ lasts place (last_of s) ns
  pub besides : heading t ≡ heading s

module _ (place : ℕ → ℕ) where
  pub grew_blocks : {s t : Sheet} {n z : ℕ} {ns : List Note} → Grew place s t n z ns → blocks_of t ≡ blocks_of s + n
  grew_blocks g = let a = g.seen K.BLOCK in omega arith

  pub still_counting : {s t : Sheet} {n z : ℕ} {ns : List Note} → Counting s → Grew place s t n z ns → Counting t
  still_counting c g = record { wide = g.wide ∙ c.wide; little = let a = g.total in omega arith }

  pub grew_nothing : (s t : Sheet) → Counting s → account t ≡ account s → Grew place s t 0 0 []
  grew_nothing s t c e =
      record {
        wide = ap (λ x. length x.seen) e;
        seen = λ g.
            let a = ap (λ x. get_or x.seen g 0) e in
            let b = only_none g K.BLOCK in let d = only_none g K.ACTION in omega arith;
        total = let a = ap (λ x. x.total) e in let b = c.little in omega arith;
        last = ap last_of e;
        besides = ap heading e;
      }

  pub grew_join : {s t u : Sheet} {n z m y : ℕ} {ns ms : List Note} → Grew place s t n z ns → Grew place t u m y ms
      → Grew place s u (n + m) (z + y) (ns ++ ms)
  grew_join {s} {t} {u} {n} {z} {m} {y} {ns} {ms} a b =
      record {
        wide = b.wide ∙ a.wide;
        seen = λ g.
            let x = a.seen g in
            let w = b.seen g in
            let p = only-add g K.BLOCK n m in
            let q = only-add g K.ACTION (length ns) (length ms) in
            rw (length-append ns ms) (omega arith);
        total = let x = a.total in let w = b.total in omega arith;
        last = b.last ∙ ap (λ l. lasts place l ms) a.last ∙ sym (lasts-append place (last_of s) ns ms);
        besides = b.besides ∙ a.besides;
      }

  pub grew_same : {s t u : Sheet} {n z : ℕ} {ns : List Note} → account u ≡ account t → Grew place s t n z ns
      → Grew place s u n z ns
  grew_same {s} {t} {u} {n} {z} {ns} e a =
      record {
        wide = ap (λ x. length x.seen) e ∙ a.wide;
        seen = λ g. ap (λ x. get_or x.seen g 0) e ∙ a.seen g;
        total = ap (λ x. x.total) e ∙ a.total;
        last = ap last_of e ∙ a.last;
        besides = ap heading e ∙ a.besides;
      }

  pub grew_from : {s t u : Sheet} {n z : ℕ} {ns : List Note} → account t ≡ account s → Grew place t u n z ns
      → Grew place s u n z ns
  grew_from {s} {t} {u} {n} {z} {ns} e a =
      record {
        wide = a.wide ∙ ap (λ x. length x.seen) e;
        seen = λ g. a.seen g ∙ ap (λ x. get_or x.seen g 0 + only g K.BLOCK n + only g K.ACTION (length ns)) e;
        total = a.total ∙ ap (λ x. added x.total z) e;
        last = a.last ∙ ap (λ x. lasts place (last_of x) ns) e;
        besides = a.besides ∙ ap heading e;
      }

  pub grew_as : {s t : Sheet} {n z m y : ℕ} {ns : List Note} → n ≡ m → z ≡ y → Grew place s t n z ns → Grew place s t m y ns
  grew_as {s} {t} {n} {z} {m} {y} {ns} e f a =
      subst (λ i. Grew place s t i y ns) e (subst (λ i. Grew place s t n i ns) f a)

  -- Bytes over FULL are not counted.
  pub grew_total : {s t : Sheet} {n z y : ℕ} {ns : List Note} → added s.total z ≡ added s.total y → Grew place s t n z ns
      → Grew place s t n y ns
  grew_total e a =
      record { wide = a.wide; seen = a.seen; total = a.total ∙ e; last = a.last; besides = a.besides }

-- A choice between two sheets that have something alike.
either : {A : Type 0} (f : Sheet → A) (a : A) (b : Bool) {x y : Sheet} → f x ≡ a → f y ≡ a → f (if b then x else y) ≡ a
either f a true e g = e
either f a false e g = g

-- WHAT EACH CHANGE COUNTS.
pub stands-account : (k : ℕ) (bs : List ℕ) (s : Sheet) → account (stands k bs s) ≡ account s
unfolding stands
stands-account k bs s =
    either account (account s)
    (leb F.most_actions (length s.pieces) || ltb F.longest_file (s.staged + length (headed k bs))) refl refl

pub settled-account : (s : Sheet) → account (settled s) ≡ account s
unfolding settled
settled-account s = go (kept_in s.levels)
  where
    go : (o : Option Kept) → account (let_go o s) ≡ account s
    go none = refl
    go (some x) = stands-account K.TRY x.body s

pub closed-account : (s : Sheet) → account (closed s) ≡ account s
unfolding closed
closed-account s = settled-account s

module _ (place : ℕ → ℕ) where
  counts_grew : (d : Draft) (s : Sheet) (o : Owned) → Counting s → place o.owner ≡ d.line
      → Grew place s (counts d s) 0 (long d) (note (innermost s.levels) o ∷ [])
  unfolding counts
  counts_grew d s o c e =
      let b : ℕ = innermost s.levels in
      record {
        wide = either (λ x. length x.seen) (length s.seen) (leb s.last_block b) (length-set s.seen _ _)
            (length-set s.seen _ _);
        seen = λ g.
            let m = more_at s.seen K.ACTION 1 g (let w = c.wide in omega arith) in
            let z = only_none g K.BLOCK in
            let h : get_or (more s.seen K.ACTION 1) g 0 ≡ get_or s.seen g 0 + only g K.BLOCK 0 + only g K.ACTION 1 =
            omega arith in
            either (λ x. get_or x.seen g 0) _ (leb s.last_block b) h h;
        total = either (λ x. x.total) (added s.total (long d)) (leb s.last_block b) refl refl;
        last = rw e (go (leb s.last_block b));
        besides = either heading (heading s) (leb s.last_block b) refl refl;
      }
    where
      go : (x : Bool)
          → last_of (if x then with_last (with_total s (more s.seen K.ACTION 1) (long d)) (innermost s.levels) d.line
          else with_total s (more s.seen K.ACTION 1) (long d))
          ≡ (if x then (innermost s.levels, d.line) else last_of s)
      go true = refl
      go false = refl

  pub acts_grew : (d : Draft) (s : Sheet) (b : ℕ) (o : Owned) → Counting s → place o.owner ≡ d.line
      → innermost s.levels ≡ b
      → Grew place s (acts d s) 0 (long d) (note b o ∷ [])
  unfolding acts
  acts_grew d s b o c e i =
      subst (λ x. Grew place s (acts d s) 0 (long d) (note x o ∷ [])) i
      (grew_same place (stands-account d.kind d.body (counts d s)) (counts_grew d s o c e))

  pub tries_grew : (d : Draft) (s : Sheet) (b : ℕ) (o : Owned) → Counting s → place o.owner ≡ d.line
      → innermost s.levels ≡ b
      → kept_in s.levels ≡ none → Grew place s (tries d s) 0 (long d) (note b o ∷ [])
  unfolding tries
  tries_grew d s b o c e i n =
      subst (λ x. Grew place s (tries d s) 0 (long d) (note x o ∷ [])) i
      (grew_same place (ap (λ x. account (branches d x s)) n) (counts_grew d s o c e))

  pub retries_grew : (d : Draft) (s : Sheet) (x : Kept) → Counting s → kept_in s.levels ≡ some x
      → Grew place s (tries d s) 0 (d.size - length x.body) []
  unfolding tries
  retries_grew d s x c e =
      grew_same place {t = with_total s s.seen (d.size - length x.body)} (ap (λ y. account (branches d y s)) e)
      (record {
        wide = refl;
        seen = λ g. let a = only_none g K.BLOCK in let b = only_none g K.ACTION in omega arith;
        total = refl;
        last = refl;
        besides = refl;
      })

  pub braces_grew : (s : Sheet) → Counting s → Grew place s (braces s) 1 4 []
  unfolding braces
  braces_grew s c =
      record {
        wide = length-set s.seen _ _;
        seen = λ g.
            let m = more_at s.seen K.BLOCK 1 g (let w = c.wide in omega arith) in
            let z = only_none g K.ACTION in omega arith;
        total = refl;
        last = refl;
        besides = refl;
      }

-- WHAT STANDS IN BLOCKS. A level; and what waits there.
abbrev pub level : ℕ → Option Kept → Level
level b o = record { block = b; kept = o }

abbrev pub waiting : ℕ → Option Kept → List Piece
waiting b none = []
waiting b (some x) = record { block = b; bytes = headed K.TRY x.body } ∷ []

-- All that waits, in every open block.
abbrev pub waits : List Level → List Piece
waits [] = []
waits (l ∷ ls) = waiting l.block l.kept ++ waits ls

-- From s, where ps wait, to t, where qs wait, these actions came to their blocks, unless there was no room.
pub record Lays (s : Sheet) (ps : List Piece) (t : Sheet) (qs : List Piece) (ns : List Note) : Type 0 where
  pub came : t.full ≡ false
      → (s.full ≡ false) × ((j : ℕ) → standing j (t.pieces ++ qs) ≡ standing j (s.pieces ++ ps) ++ bytes_in j ns)

pub lays_join : {s t u : Sheet} {ps qs rs : List Piece} {ns ms : List Note} → Lays s ps t qs ns → Lays t qs u rs ms
    → Lays s ps u rs (ns ++ ms)
lays_join {s} {t} {u} {ps} {qs} {rs} {ns} {ms} a b = record { came = go }
  where
    go : u.full ≡ false
        → (s.full ≡ false) × ((j : ℕ) → standing j (u.pieces ++ rs) ≡ standing j (s.pieces ++ ps) ++ bytes_in j (ns ++ ms))
    go e =
        let y = b.came e in
        let x = a.came y.0 in (
          x.0,
          λ j.
              y.1 j ∙ ap (λ bs. bs ++ bytes_in j ms) (x.1 j)
              ∙ append_assoc (standing j (s.pieces ++ ps)) (bytes_in j ns) (bytes_in j ms)
              ∙ ap (λ bs. standing j (s.pieces ++ ps) ++ bs) (sym (bytes_append j ns ms)),
        )

pub lays_then : {s t u : Sheet} {ps qs rs : List Piece} {ns : List Note} → Lays s ps t qs ns → Lays t qs u rs []
    → Lays s ps u rs ns
lays_then {s} {t} {u} {ps} {qs} {rs} {ns} a b = subst (λ ms. Lays s ps u rs ms) (append-nil ns) (lays_join a b)

-- Where only what waits has come to the pieces.
pub lays_nothing : (s t : Sheet) (ps qs : List Piece)
    → (t.full ≡ false → (s.full ≡ false) × (t.pieces ++ qs ≡ s.pieces ++ ps))
    → Lays s ps t qs []
lays_nothing s t ps qs h =
    record { came = λ e. let x = h e in (x.0, λ j. ap (standing j) x.1 ∙ sym (append-nil (standing j (s.pieces ++ ps)))) }

-- In a block of this number with this in it, more than what waits there.
pub stands_levels : (k : ℕ) (bs : List ℕ) (s : Sheet) → (stands k bs s).levels ≡ s.levels
unfolding stands
stands_levels k bs s =
    either (λ x. x.levels) s.levels
    (leb F.most_actions (length s.pieces) || ltb F.longest_file (s.staged + length (headed k bs))) refl refl

stands_pieces : (k : ℕ) (bs : List ℕ) (s : Sheet) → (stands k bs s).full ≡ false
    → (s.full ≡ false)
    × ((stands k bs s).pieces ≡ s.pieces ++ (record { block = innermost s.levels; bytes = headed k bs } ∷ []))
unfolding stands
stands_pieces k bs s =
    go (leb F.most_actions (length s.pieces) || ltb F.longest_file (s.staged + length (headed k bs)))
  where
    new : Sheet
    new =
        with_pieces s (s.pieces ++ (record { block = innermost s.levels; bytes = headed k bs } ∷ []))
        (s.staged + length (headed k bs))

    go : (b : Bool) → (if b then filled s else new).full ≡ false
        → (s.full ≡ false) × ((if b then filled s else new).pieces
        ≡ s.pieces ++ (record { block = innermost s.levels; bytes = headed k bs } ∷ []))
    go true e = let z : ◌≡◌ {A = ℕ} 0 1 = cc in absurd (omega arith)
    go false e = (e, refl)

module _ (s : Sheet) (b : ℕ) (o : Option Kept) (ls : List Level) (at : s.levels ≡ level b o ∷ ls) where
  settled_is : settled s ≡ let_go o s
  unfolding settled
  settled_is = ap (λ x. let_go (kept_in x) s) at

  pub settled_levels : (settled s).levels ≡ level b none ∷ ls
  settled_levels = ap (λ x. x.levels) settled_is ∙ go o at
    where
      go : (x : Option Kept) → s.levels ≡ level b x ∷ ls → (let_go x s).levels ≡ level b none ∷ ls
      go none e = e
      go (some x) e = ap (S.keeping none) (stands_levels K.TRY x.body s ∙ e)

  pub settled_lays : Lays s (waiting b o) (settled s) [] []
  settled_lays = subst (λ t. Lays s (waiting b o) t [] []) (sym settled_is) (go o at)
    where
      go : (x : Option Kept) → s.levels ≡ level b x ∷ ls → Lays s (waiting b x) (let_go x s) [] []
      go none e = lays_nothing s s [] [] (λ f. (f, refl))
      go (some x) e =
          let t : Sheet = stands K.TRY x.body s in
          lays_nothing s (S.with_levels t (S.keeping none t.levels)) (waiting b (some x)) [] (λ f.
          let y = stands_pieces K.TRY x.body s f in (
            y.0,
            append-nil t.pieces ∙ y.1
                ∙ ap (λ ys. s.pieces ++ (record { block = innermost ys; bytes = headed K.TRY x.body } ∷ [])) e,
          ))

  pub closed_levels : (closed s).levels ≡ ls
  unfolding closed
  closed_levels = ap S.outer settled_levels

  pub closed_lays : Lays s (waiting b o) (closed s) [] []
  unfolding closed
  closed_lays = record { came = settled_lays.came }

  -- Where a block is closed nothing is lost.
  pub closed-waits : (closed s).full ≡ false → (j : ℕ)
      → standing j ((closed s).pieces ++ waits (closed s).levels) ≡ standing j (s.pieces ++ waits s.levels)
  closed-waits f j =
      let x = (closed_lays.came f).1 j in
      let t : Sheet = closed s in
      ap (λ ys. standing j (t.pieces ++ waits ys)) closed_levels
      ∙ standing-append j t.pieces (waits ls)
      ∙ ap (λ ps. standing j ps ++ standing j (waits ls)) (sym (append-nil t.pieces))
      ∙ ap (λ bs. bs ++ standing j (waits ls)) (x ∙ append-nil (standing j (s.pieces ++ waiting b o)))
      ∙ sym (standing-append j (s.pieces ++ waiting b o) (waits ls))
      ∙ ap (standing j) (append_assoc s.pieces (waiting b o) (waits ls))
      ∙ ap (λ ys. standing j (s.pieces ++ waits ys)) (sym at)

  pub tries_levels : (d : Draft) → (tries d s).levels ≡ level b (some (record { line = d.line; body = d.body })) ∷ ls
  unfolding tries counts
  tries_levels d = ap (S.keeping (some (record { line = d.line; body = d.body }))) (go (kept_in s.levels) ∙ at)
    where
      go : (x : Option Kept) → (branches d x s).levels ≡ s.levels
      go none = either (λ y. y.levels) s.levels (leb s.last_block (innermost s.levels)) refl refl
      go (some x) = refl

pub counts_stays : {A : Type 0} (f : Sheet → A) (d : Draft) (s : Sheet)
    → f (with_last (with_total s (more s.seen K.ACTION 1) (long d)) (innermost s.levels) d.line) ≡ f s
    → f (with_total s (more s.seen K.ACTION 1) (long d)) ≡ f s → f (counts d s) ≡ f s
unfolding counts
counts_stays f d s e g = either f (f s) (leb s.last_block (innermost s.levels)) e g

pub acts_levels : (d : Draft) (s : Sheet) → (acts d s).levels ≡ s.levels
unfolding acts
acts_levels d s =
    stands_levels d.kind d.body (counts d s) ∙ counts_stays (λ x. x.levels) d s refl refl

pub acts_lays : (d : Draft) (s : Sheet) (b : ℕ) (o : Owned) → innermost s.levels ≡ b
    → headed d.kind d.body ≡ bytes_of o.entry → Lays s [] (acts d s) [] (note b o ∷ [])
unfolding acts
acts_lays d s b o i e =
    record {
      came = λ f.
          let y = stands_pieces d.kind d.body (counts d s) f in
          let p = counts_stays (λ x. x.pieces) d s refl refl in
          let l = counts_stays (λ x. x.levels) d s refl refl in
          let n : Note = note b o in (
            sym (counts_stays (λ x. x.full) d s refl refl) ∙ y.0,
            λ j.
                ap (standing j) (append-nil (acts d s).pieces ∙ y.1
                ∙ ap (λ ps. ps ++ (record { block = innermost (counts d s).levels; bytes = headed d.kind d.body } ∷ [])) p
                ∙ ap (λ ys. s.pieces ++ (record { block = innermost ys; bytes = headed d.kind d.body } ∷ [])) l
                ∙ ap (λ bs. s.pieces ++ (record { block = innermost s.levels; bytes = bs } ∷ [])) e
                ∙ ap (λ x. s.pieces ++ (record { block = x; bytes = bytes_of o.entry } ∷ [])) i)
                ∙ standing-append j s.pieces (pieces (n ∷ []))
                ∙ ap (λ ps. standing j ps ++ bytes_in j (n ∷ [])) (sym (append-nil s.pieces)),
          );
    }

pub tries_lays : (d : Draft) (s : Sheet) → Lays s [] (tries d s) [] []
unfolding tries
tries_lays d s = lays_nothing s (tries d s) [] [] (go (kept_in s.levels))
  where
    go : (x : Option Kept) → (branches d x s).full ≡ false → (s.full ≡ false) × ((branches d x s).pieces ++ [] ≡ s.pieces ++ [])
    go none f =
        (sym (counts_stays (λ x. x.full) d s refl refl) ∙ f, ap (λ ps. ps ++ []) (counts_stays (λ x. x.pieces) d s refl refl))
    go (some x) f = (f, refl)

pub braces_lays : (s : Sheet) → Lays s [] (braces s) [] []
unfolding braces
braces_lays s = lays_nothing s (braces s) [] [] (λ f. (f, refl))

pub braces_levels : (s : Sheet) → (braces s).levels ≡ level (blocks_of s) none ∷ s.levels
unfolding braces
braces_levels s = refl
