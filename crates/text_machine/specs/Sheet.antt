-- What a reader of texts has written down, of the declarations and actions that it has read: their records, how many there are
-- and how long they are, and which blocks are open.
-- Assumes nothing.
use Rattle.std.specs.Prelude.{ℕ, zero, suc, ◌+◌, ◌-◌, min, List, [], ◌∷◌, ◌++◌, Bool, true, false, ◌||◌, eqb, leb, ltb, length, get_or, take, drop, if◌then◌else◌}
use Rattle.std.proofs.Math.Option.{Option, none, some}
use Rattle.semantics.specs.Words.{keep, collect, more}
use Rattle.semantics.specs.Numbers as F
use Rattle.semantics.specs.Kinds as K
use Rattle.semantics.specs.Decode.{none_seen}
use Rattle.text_semantics.specs.Written.{two}
use Rattle.text_machine.specs.Entry.{Draft, begin, with_body, FULL}

-- A record that stands in a block.
pub record Piece : Type 0 where
  pub block : ℕ
  pub bytes : List ℕ

-- A try whose branches may still go on: its line, and its body so far.
pub record Kept : Type 0 where
  pub line : ℕ
  pub body : List ℕ

-- An open block, and the try in it that may go on.
pub record Level : Type 0 where
  pub block : ℕ
  pub kept : Option Kept

-- How many bytes of declarations there is room for: more than all that pass the checks have.
abbrev pub DECLARED : ℕ
DECLARED = 4_096

-- How many records there are of each group (as the first pass of the checks counts them), and their bytes, counted as in a draft;
-- where the first declaration begins; the last action in the order of the file, by its block and its line; the bytes of the
-- declarations; of each class where its body block stands in those, and its first line; the class that is being read; the records
-- in blocks, in the order of the text, and their bytes; the open blocks, the innermost first; and whether there was no room for
-- something, which never happens.
pub record Sheet : Type 0 where
  pub seen : List ℕ
  pub total : ℕ
  pub first : ℕ
  pub last_block : ℕ
  pub last_line : ℕ
  pub declared : List ℕ
  pub class_at : List ℕ
  pub class_line : List ℕ
  pub current : ℕ
  pub pieces : List Piece
  pub staged : ℕ
  pub levels : List Level
  pub full : Bool

abbrev pub blank : Sheet
blank =
    record {
      seen = none_seen;
      total = 0;
      first = 0;
      last_block = 0;
      last_line = 0;
      declared = [];
      class_at = [];
      class_line = [];
      current = 0;
      pieces = [];
      staged = 0;
      levels = [];
      full = false;
    }

abbrev pub blocks_of : Sheet → ℕ
blocks_of s = get_or s.seen K.BLOCK 0

-- The block that actions stand in, and the try in it that may go on.
abbrev pub innermost : List Level → ℕ
innermost [] = 0
innermost (l ∷ ls) = l.block

abbrev pub kept_in : List Level → Option Kept
kept_in [] = none
kept_in (l ∷ ls) = l.kept

abbrev pub keeping : Option Kept → List Level → List Level
keeping o [] = []
keeping o (l ∷ ls) = record { block = l.block; kept = o } ∷ ls

abbrev pub outer : List Level → List Level
outer [] = []
outer (l ∷ ls) = ls

-- The draft with which an etry goes on.
abbrev pub resumed : Option Kept → Draft
resumed none = begin 0 K.TRY 0
resumed (some x) = with_body (begin x.line K.TRY 0) x.body false (length x.body)

-- A record's bytes, and how many they are.
abbrev pub headed : ℕ → List ℕ → List ℕ
headed kind body = two (2 + length body) ++ two kind ++ body

abbrev pub added : ℕ → ℕ → ℕ
added total n = min FULL (total + n)

abbrev pub long : Draft → ℕ
long d = 4 + d.size

-- The bytes of a class's record, and where its body block stands in it.
abbrev pub class_bytes : ℕ
class_bytes = 6

module _ (s : Sheet) where
  abbrev pub with_first : ℕ → Sheet
  with_first p =
      record {
        seen = s.seen;
        total = s.total;
        first = p;
        last_block = s.last_block;
        last_line = s.last_line;
        declared = s.declared;
        class_at = s.class_at;
        class_line = s.class_line;
        current = s.current;
        pieces = s.pieces;
        staged = s.staged;
        levels = s.levels;
        full = s.full;
      }

  abbrev pub with_total : List ℕ → ℕ → Sheet
  with_total seen n =
      record {
        seen = seen;
        total = added s.total n;
        first = s.first;
        last_block = s.last_block;
        last_line = s.last_line;
        declared = s.declared;
        class_at = s.class_at;
        class_line = s.class_line;
        current = s.current;
        pieces = s.pieces;
        staged = s.staged;
        levels = s.levels;
        full = s.full;
      }

  abbrev pub with_levels : List Level → Sheet
  with_levels ls =
      record {
        seen = s.seen;
        total = s.total;
        first = s.first;
        last_block = s.last_block;
        last_line = s.last_line;
        declared = s.declared;
        class_at = s.class_at;
        class_line = s.class_line;
        current = s.current;
        pieces = s.pieces;
        staged = s.staged;
        levels = ls;
        full = s.full;
      }

  abbrev pub with_pieces : List Piece → ℕ → Sheet
  with_pieces ps n =
      record {
        seen = s.seen;
        total = s.total;
        first = s.first;
        last_block = s.last_block;
        last_line = s.last_line;
        declared = s.declared;
        class_at = s.class_at;
        class_line = s.class_line;
        current = s.current;
        pieces = ps;
        staged = n;
        levels = s.levels;
        full = s.full;
      }

  abbrev pub with_declared : List ℕ → Sheet
  with_declared bs =
      record {
        seen = s.seen;
        total = s.total;
        first = s.first;
        last_block = s.last_block;
        last_line = s.last_line;
        declared = bs;
        class_at = s.class_at;
        class_line = s.class_line;
        current = s.current;
        pieces = s.pieces;
        staged = s.staged;
        levels = s.levels;
        full = s.full;
      }

  abbrev pub with_class : List ℕ → List ℕ → ℕ → Sheet
  with_class ats lines c =
      record {
        seen = s.seen;
        total = s.total;
        first = s.first;
        last_block = s.last_block;
        last_line = s.last_line;
        declared = s.declared;
        class_at = ats;
        class_line = lines;
        current = c;
        pieces = s.pieces;
        staged = s.staged;
        levels = s.levels;
        full = s.full;
      }

  abbrev pub with_last : ℕ → ℕ → Sheet
  with_last b p =
      record {
        seen = s.seen;
        total = s.total;
        first = s.first;
        last_block = b;
        last_line = p;
        declared = s.declared;
        class_at = s.class_at;
        class_line = s.class_line;
        current = s.current;
        pieces = s.pieces;
        staged = s.staged;
        levels = s.levels;
        full = s.full;
      }

  abbrev pub filled : Sheet
  filled =
      record {
        seen = s.seen;
        total = s.total;
        first = s.first;
        last_block = s.last_block;
        last_line = s.last_line;
        declared = s.declared;
        class_at = s.class_at;
        class_line = s.class_line;
        current = s.current;
        pieces = s.pieces;
        staged = s.staged;
        levels = s.levels;
        full = true;
      }

-- DECLARATIONS. Bytes put behind those that are there.
unfoldable pub declaring : List ℕ → Sheet → Sheet
declaring bs s =
    if ltb DECLARED (length s.declared + length bs) then filled s else with_declared s (s.declared ++ bs)

unfoldable pub declares : Draft → Sheet → Sheet
unfolding declaring
declares d s = declaring (headed d.kind d.body) (with_total s (more s.seen d.kind 1) (long d))

-- A class is first declared, with a body or without: the next one.
unfoldable pub classed : ℕ → Sheet → Sheet
classed p s =
    if leb F.most_classes (length s.class_at)
    then filled s
    else with_class s (s.class_at ++ ((length s.declared + 4) ∷ [])) (s.class_line ++ (p ∷ [])) (length s.class_at)

unfoldable pub classes : ℕ → ℕ → Sheet → Sheet
unfolding declaring classed
classes p b s =
    declaring (headed K.CLASS (two b)) (classed p (with_total s (more s.seen K.CLASS 1) class_bytes))

-- An announced class gets its body.
unfoldable pub bodied : ℕ → ℕ → Sheet → Sheet
bodied c b s =
    let p : ℕ = get_or s.class_at c 0 in
    with_class (with_declared s (take p s.declared ++ two b ++ drop (p + 2) s.declared)) s.class_at s.class_line c

-- ACTIONS. One is counted, in the innermost block.
unfoldable pub counts : Draft → Sheet → Sheet
counts d s =
    let b : ℕ = innermost s.levels in
    let t : Sheet = with_total s (more s.seen K.ACTION 1) (long d) in
    if leb s.last_block b then with_last t b d.line else t

-- A record goes into the innermost block.
unfoldable pub stands : ℕ → List ℕ → Sheet → Sheet
stands kind body s =
    let bs : List ℕ = headed kind body in
    let n : ℕ = s.staged + length bs in
    if leb F.most_actions (length s.pieces) || ltb F.longest_file n
    then filled s
    else with_pieces s (s.pieces ++ (record { block = innermost s.levels; bytes = bs } ∷ [])) n

unfoldable pub acts : Draft → Sheet → Sheet
unfolding counts stands
acts d s = stands d.kind d.body (counts d s)

-- The try that was kept doesn't go on any more.
abbrev pub let_go : Option Kept → Sheet → Sheet
let_go none s = s
let_go (some x) s = let t : Sheet = stands K.TRY x.body s in with_levels t (keeping none t.levels)

unfoldable pub settled : Sheet → Sheet
unfolding stands
settled s = let_go (kept_in s.levels) s

-- BLOCKS. A brace is opened.
unfoldable pub braces : Sheet → Sheet
braces s =
    with_levels (with_total s (more s.seen K.BLOCK 1) 4) (record { block = blocks_of s; kept = none } ∷ s.levels)

-- .. by a branch of a try: the first one, or one more of a try that goes on.
abbrev pub branches : Draft → Option Kept → Sheet → Sheet
branches d none s = counts d s
branches d (some x) s = with_total s s.seen (d.size - length x.body)

unfoldable pub tries : Draft → Sheet → Sheet
unfolding counts
tries d s =
    let t : Sheet = branches d (kept_in s.levels) s in
    with_levels t (keeping (some (record { line = d.line; body = d.body })) t.levels)

-- .. by a do, a while or a try.
unfoldable pub opens : Draft → Sheet → Sheet
unfolding acts braces tries
opens d s = braces (if eqb d.kind K.TRY then tries d s else acts d s)

-- A brace is closed.
unfoldable pub closed : Sheet → Sheet
unfolding settled
closed s = let t : Sheet = settled s in with_levels t (outer t.levels)

-- THE FILE: the declarations, and then the blocks, each with what stands in it.
abbrev pub standing : ℕ → List Piece → List ℕ
standing b ps = collect (λ p. p.bytes) (keep (λ p. eqb b p.block) ps)

unfoldable pub blocks_from : ℕ → ℕ → List Piece → List ℕ
blocks_from zero b ps = []
blocks_from (suc n) b ps = headed K.BLOCK [] ++ standing b ps ++ blocks_from n (suc b) ps

unfoldable pub file : Sheet → List ℕ
unfolding blocks_from
file s = s.declared ++ blocks_from (blocks_of s) 0 s.pieces
