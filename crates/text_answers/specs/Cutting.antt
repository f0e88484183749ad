-- What the machine and the definitions have to agree on at a cut, and what a line does to the records from cut to cut.
-- Assumes nothing.
use Rattle.std.specs.Prelude.{ℕ, ◌≤◌, ◌<◌, ◌≡◌, List, [], ◌∷◌, ◌++◌, Bool, true, false, ◌⊎◌, length, get_or}
use Rattle.std.proofs.Math.Option.{Option, none, some}
use Rattle.semantics.specs.Words.{passed}
use Rattle.semantics.specs.Numbers as F
use Rattle.semantics.specs.Kinds as K
use Rattle.semantics.specs.Record as R
use Rattle.promises.specs.Counted.{group_of, limits}
use Rattle.semantics.specs.Decode as D
use Rattle.text_semantics.specs.Numbers as No
use Rattle.text_semantics.specs.Token.{Token}
use Rattle.text_semantics.specs.Lexing.{Placed}
use Rattle.text_semantics.specs.Names.{trouble}
use Rattle.text_semantics.specs.Meaning.{Owned, records}
use Rattle.text_semantics.specs.Written.{file_of}
use Rattle.text_semantics.specs.Reading.{Symbol, reading}
use Rattle.text_semantics.specs.Answer.{Answer, refused, is_cut, tree_in, so_far, at_cut}
use Rattle.text_machine.specs.Entry.{Draft}
use Rattle.text_machine.specs.Sheet.{Sheet, added}
use Rattle.text_machine.specs.Machine.{Reader, at_first, event_at, draft_after, sheet_after, cut_at}
use Rattle.text_promises.specs.Met.{in_hand}
use Rattle.text_promises.specs.Judged.{good, most, of_group}
use Rattle.text_agrees.specs.Layout.{last_line}
use Rattle.text_agrees.specs.Going.{Goes, tokens_of}
use Rattle.text_agrees.specs.Tested.{Arrived}

-- EVERY CUT SO FAR was accepted.
abbrev pub Accepted : List Token → Type 0
Accepted ts =
    (us : List Token) (c : Token) (vs : List Token) → is_cut c ≡ true → ts ≡ (us ++ (c ∷ [])) ++ vs →
    so_far (file_of (records (tree_in (reading (us ++ (c ∷ [])))))) ≡ D.accepted passed

-- What comes of the checks: 54 at the place, or what follows.
abbrev pub checked : Option ℕ → Answer → Answer
checked none a = a
checked (some q) a = refused No.CHECKS q

-- THE CHECKS AT A CUT agree.
abbrev pub CutAgrees : Type 0
CutAgrees =
    (place : ℕ → ℕ) (ts : List Placed) (k : Placed) (r : Reader) (s : Symbol) (ss : List Symbol) → Arrived place ts k s ss →
    Goes at_first ts r → r.pile ≡ s ∷ ss → place (length ts) ≡ k.place →
    trouble r.known (event_at r s k.token) ≡ none → is_cut k.token ≡ true → Accepted (tokens_of ts) → (a : Answer) →
    let d : Draft = draft_after r s k.token k.place in
    at_cut (ts ++ (k ∷ [])) k.token (in_hand (ts ++ (k ∷ []))) a
    ≡ checked (cut_at r d s k.token (sheet_after r d s k.token k.place)) a

-- WHAT A LINE DOES: where ps stood, o stands now, and behind all of them a block may have been opened.
pub record Joined (old new : List Owned) : Type 0 where
  pub first : List Owned
  pub ps : List Owned
  pub o : Owned
  pub rest : List Owned
  pub more : List Owned
  pub was : old ≡ first ++ (ps ++ rest)
  pub is : new ≡ first ++ (o ∷ (rest ++ more))
  pub before : (ps ≡ []) ⊎ ((p : Owned) × (ps ≡ p ∷ []) × (group_of p.entry ≡ group_of o.entry))
  pub opened : (more ≡ []) ⊎ ((b : Owned) × (more ≡ b ∷ []) × (b.entry ≡ R.BLOCK))

-- WHAT THE MACHINE HAS AT A CUT, in the words of the records: z is its sheet, d its draft, f whether it finds the record faulty.
pub record Tallied (place : ℕ → ℕ) (new : List Owned) (z : Sheet) : Type 0 where
  pub counts : (g : ℕ) → get_or z.seen g 0 ≡ of_group g new
  pub total : z.total ≡ added 0 (length (file_of new))
  pub first : (o : Owned) (os : List Owned) → new ≡ o ∷ os → z.first ≡ place o.owner
  pub last : z.last_line ≡ last_line place 0 new

pub record Found (place : ℕ → ℕ) (old new : List Owned) (j : Joined old new) (d : Draft) (f : Bool) : Type 0 where
  -- The record is a declaration or an action.
  pub apart : group_of j.o.entry ≡ K.BLOCK → ⊥
  -- Where nothing is found, the record is good, and neither are there too many of what is declared, classes apart.
  pub sound : f ≡ false → good j.o.entry ≡ true
  pub few : f ≡ false → (g : ℕ) → (g ≡ K.CLASS → ⊥) → (g ≡ K.ACTION → ⊥) → (g ≡ K.BLOCK → ⊥) → of_group g new ≤ get_or limits g 0
  -- Where something is, the record is at its line, and is bad, or the last of its group and one too many.
  pub at_fault : f ≡ true → (d.line ≡ place j.o.owner)
      × ((good j.o.entry ≡ false) ⊎ ((most j.o.entry < of_group (group_of j.o.entry) new)
      × (of_group (group_of j.o.entry) (j.rest ++ j.more) ≡ 0)))
  -- A class too many is this one.
  pub classes : F.most_classes < of_group K.CLASS new → (d.line ≡ place j.o.owner) × (group_of j.o.entry ≡ K.CLASS)
      × (of_group K.CLASS (j.rest ++ j.more) ≡ 0)
  -- A block is opened by the line.
  pub line : (b : Owned) → j.more ≡ b ∷ [] → d.line ≡ place b.owner
