-- The room that is lent matters only at the very end: answers with two rooms are alike.
-- Assumes nothing.
use Rattle.std.specs.Prelude.{ℕ, ◌<◌, ◌≡◌, List, [], ◌∷◌, ◌++◌, Bool, true, false, leb, ltb, length, if◌then◌else◌}
use Rattle.std.proofs.Common.{arith, ap}
use Rattle.std.proofs.Math.Option.{Option, none, some}
use Rattle.semantics.specs.Words.{Passed}
use Rattle.semantics.specs.Model.{Model}
use Rattle.semantics.specs.Decode as D
use Rattle.semantics.specs.Decode.{Checked, decode}
use Rattle.promises.specs.Laws.{if_two}
use Rattle.text_semantics.specs.Numbers as No
use Rattle.text_semantics.specs.Token.{Token}
use Rattle.text_semantics.specs.Lexing.{Placed, tokens}
use Rattle.text_semantics.specs.Grammar.{Text}
use Rattle.text_semantics.specs.Names.{Troubled, events, trouble_in}
use Rattle.text_semantics.specs.Meaning.{records}
use Rattle.text_semantics.specs.Written.{file_of, owner_at}
use Rattle.text_semantics.specs.Answer.{Answer, refused, written, fitting, read, place_at, names_of, is_cut, so_far, told, at_cut}
use Rattle.text_semantics.specs.Answer.{at_name, at_token, at_end, onward, answer}
use Rattle.text_promises.specs.Met.{in_hand, file_behind, token_is, cut_is, end_is, onward_end, onward_next}

-- What is to be written, in a room.
abbrev pub lent : ℕ → List ℕ → ℕ → Answer
lent len out room = if leb (length out) room then written out else refused No.BUFFER len

module _ (len room other : ℕ) where
  -- Two answers are the same refusal, or one file in two rooms.
  pub data Alike : Answer → Answer → Type 0 where
    stopped : (n p : ℕ) → Alike (refused n p) (refused n p)
    file : (out : List ℕ) → Alike (lent len out room) (lent len out other)

  cut_alike : (ts : List Placed) (k : Token) (t : Text) (a b : Answer) → Alike a b → Alike (at_cut ts k t a) (at_cut ts k t b)
  cut_alike ts k t a b h =
      rw (cut_is ts k t a, cut_is ts k t b) (if_two Alike (is_cut k) (go (so_far (file_of (records t)))) h)
    where
      go : (c : Checked Passed) → Alike (told ts (records t) c (λ x. a)) (told ts (records t) c (λ x. b))
      go (D.refused n p) = stopped No.CHECKS (place_at ts (owner_at p (records t)))
      go (D.accepted p) = h

  name_alike : (ts : List Placed) (o : Option Troubled) (a b : Answer) → Alike a b → Alike (at_name ts o a) (at_name ts o b)
  unfolding at_name
  name_alike ts none a b h = h
  name_alike ts (some x) a b h =
      if_two Alike (ltb x.before (length (names_of ts))) (stopped x.number (place_at (names_of ts) x.before)) h

  token_alike : (ts : List Placed) (k : Placed) (a b : Answer) → Alike a b → Alike (at_token ts k a) (at_token ts k b)
  token_alike ts k a b h =
      rw (token_is ts k a, token_is ts k b)
      (if_two Alike (ltb (fitting (length ts) (read ts)) (length ts)) (stopped No.GRAMMAR k.place)
      (name_alike ts (trouble_in [] (events (in_hand ts))) _ _ (cut_alike ts k.token (in_hand ts) a b h)))

  end_alike : (ts : List Placed) → Alike (at_end ts len room) (at_end ts len other)
  end_alike ts = rw (end_is ts len room, end_is ts len other) (go (decode (file_behind ts)))
    where
      go : (o : Checked Model)
          → Alike (told ts (records (in_hand ts)) o (λ m. lent len (file_behind ts) room))
          (told ts (records (in_hand ts)) o (λ m. lent len (file_behind ts) other))
      go (D.refused n p) = stopped No.CHECKS (place_at ts (owner_at p (records (in_hand ts))))
      go (D.accepted m) = file (file_behind ts)

  onward_alike : (ts ks : List Placed) → Alike (onward ts ks len room) (onward ts ks len other)
  onward_alike ts [] = rw (onward_end ts len room, onward_end ts len other) (end_alike ts)
  onward_alike ts (k ∷ ks) =
      let us : List Placed = ts ++ (k ∷ []) in
      rw (onward_next ts k ks len room, onward_next ts k ks len other)
      (token_alike us k (onward us ks len room) (onward us ks len other) (onward_alike us ks))

  written_alike : (a b : Answer) (out : List ℕ) → Alike a b → a ≡ written out → b ≡ lent len out other
  written_alike a b out (stopped n p) e = let z : ◌≡◌ {A = ℕ} 0 1 = cc in absurd (omega arith)
  written_alike a b out (file f) e = go (leb (length f) room) e
    where
      go : (t : Bool) → (if t then written f else refused No.BUFFER len) ≡ written out → lent len f other ≡ lent len out other
      go true g = let same : f ≡ out = cc in ap (λ (x : List ℕ). lent len x other) same
      go false g = let z : ◌≡◌ {A = ℕ} 0 1 = cc in absurd (omega arith)

  refused_alike : (a b : Answer) (n p : ℕ) → Alike a b → a ≡ refused n p → n < No.BUFFER → b ≡ refused n p
  refused_alike a b n p (stopped m q) e l = e
  refused_alike a b n p (file f) e l = go (leb (length f) room) e
    where
      go : (t : Bool) → (if t then written f else refused No.BUFFER len) ≡ refused n p → lent len f other ≡ refused n p
      go true g = let z : ◌≡◌ {A = ℕ} 0 1 = cc in absurd (omega arith)
      go false g = let z : No.BUFFER ≡ n = cc in absurd (omega arith)

answer_alike : (bs : List ℕ) (room other : ℕ) → Alike (length bs) room other (answer bs room) (answer bs other)
unfolding answer
answer_alike bs room other = onward_alike (length bs) room other [] (tokens bs)

-- What is written with one room is what there is to write with every other.
pub written_in_rooms : (bs : List ℕ) (room : ℕ) (out : List ℕ) → answer bs room ≡ written out → (other : ℕ)
    → answer bs other ≡ lent (length bs) out other
written_in_rooms bs room out e other = written_alike (length bs) room other _ _ out (answer_alike bs room other) e

-- A refusal below 55 is the same with every room.
pub refused_in_rooms : (bs : List ℕ) (room n p : ℕ) → answer bs room ≡ refused n p → n < No.BUFFER → (other : ℕ)
    → answer bs other ≡ refused n p
refused_in_rooms bs room n p e l other = refused_alike (length bs) room other _ _ n p (answer_alike bs room other) e l
