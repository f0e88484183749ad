-- How an answer is met: each answer comes from a token, from a cut or from the end, where nothing was met before it.
-- Assumes nothing.
use Rattle.std.specs.Prelude.{ℕ, ◌≤◌, ◌<◌, ◌≡◌, refl, List, [], ◌∷◌, ◌++◌, true, leb, ltb, length, if◌then◌else◌}
use Rattle.std.proofs.Common.{arith, sym, ◌∙◌, append-nil, append_assoc}
use Rattle.std.proofs.Math.Option.{Option, none, some}
use borrow.Author.Tests.{ltb-true, ltb-false, leb-true, leb-false}
use Rattle.semantics.specs.Words.{Passed}
use Rattle.semantics.specs.Model.{Model}
use Rattle.semantics.specs.Decode as D
use Rattle.semantics.specs.Decode.{Checked, decode}
use Rattle.promises.specs.Laws.{if_has, not_some}
use Rattle.text_semantics.specs.Numbers as No
use Rattle.text_semantics.specs.Token.{Token}
use Rattle.text_semantics.specs.Lexing.{Placed, tokens}
use Rattle.text_semantics.specs.Grammar.{Text}
use Rattle.text_semantics.specs.Names.{Troubled, events, trouble_in}
use Rattle.text_semantics.specs.Meaning.{records}
use Rattle.text_semantics.specs.Written.{file_of, owner_at}
use Rattle.text_semantics.specs.Answer.{Answer, refused, written, fitting, tree_in, read, place_at, names_of, is_cut, so_far, told}
use Rattle.text_semantics.specs.Answer.{at_cut, at_name, at_token, at_end, onward, answer}

-- The tree in hand behind some tokens, and the file of its records.
abbrev pub in_hand : List Placed → Text
in_hand ts = tree_in (read ts)

abbrev pub file_behind : List Placed → List ℕ
file_behind ts = file_of (records (in_hand ts))

-- Some tokens fit, and no trouble is with one of their names.
pub record Calm (ts : List Placed) : Type 0 where
  pub fit : length ts ≤ fitting (length ts) (read ts)
  pub named : (x : Troubled) → trouble_in [] (events (in_hand ts)) ≡ some x → length (names_of ts) ≤ x.before

-- THE WAYS to an answer, where `all` are the tokens: one doesn't fit; a name is in trouble; the records so far are refused at a
-- cut, or all at the end; there is no room for them; or they are written.
pub data Met (all : List Placed) (len room : ℕ) : Answer → Type 0 where
  misfit : (ts : List Placed) (k : Placed) (ks : List Placed) → all ≡ ts ++ k ∷ ks → Calm ts
      → fitting (length (ts ++ (k ∷ []))) (read (ts ++ (k ∷ []))) < length (ts ++ (k ∷ []))
      → Met all len room (refused No.GRAMMAR k.place)
  trouble : (ts ks : List Placed) (x : Troubled) → all ≡ ts ++ ks → length ts ≤ fitting (length ts) (read ts)
      → trouble_in [] (events (in_hand ts)) ≡ some x → x.before < length (names_of ts)
      → Met all len room (refused x.number (place_at (names_of ts) x.before))
  cut : (ts : List Placed) (k : Placed) (ks : List Placed) → all ≡ (ts ++ (k ∷ [])) ++ ks → Calm (ts ++ (k ∷ []))
      → is_cut k.token ≡ true → (n p : ℕ) → so_far (file_behind (ts ++ (k ∷ []))) ≡ D.refused n p
      → Met all len room (refused No.CHECKS (place_at (ts ++ (k ∷ [])) (owner_at p (records (in_hand (ts ++ (k ∷ [])))))))
  over : Calm all → (n p : ℕ) → decode (file_behind all) ≡ D.refused n p
      → Met all len room (refused No.CHECKS (place_at all (owner_at p (records (in_hand all)))))
  short : Calm all → (m : Model) → decode (file_behind all) ≡ D.accepted m → room < length (file_behind all)
      → Met all len room (refused No.BUFFER len)
  done : Calm all → (m : Model) → decode (file_behind all) ≡ D.accepted m → length (file_behind all) ≤ room
      → Met all len room (written (file_behind all))

-- THE DEFINITIONS, one step each.
pub token_is : (ts : List Placed) (k : Placed) (a : Answer)
    → at_token ts k a
    ≡ (if ltb (fitting (length ts) (read ts)) (length ts)
    then refused No.GRAMMAR k.place
    else at_name ts (trouble_in [] (events (in_hand ts))) (at_cut ts k.token (in_hand ts) a))
unfolding at_token
token_is ts k a = refl

pub cut_is : (ts : List Placed) (k : Token) (t : Text) (a : Answer)
    → at_cut ts k t a ≡ (if is_cut k then told ts (records t) (so_far (file_of (records t))) (λ x. a) else a)
unfolding at_cut
cut_is ts k t a = refl

pub end_is : (ts : List Placed) (len room : ℕ)
    → at_end ts len room
    ≡ told ts (records (in_hand ts)) (decode (file_behind ts)) λ m.
    if leb (length (file_behind ts)) room then written (file_behind ts) else refused No.BUFFER len
unfolding at_end
end_is ts len room = refl

pub onward_end : (ts : List Placed) (len room : ℕ) → onward ts [] len room ≡ at_end ts len room
unfolding onward
onward_end ts len room = refl

pub onward_next : (ts : List Placed) (k : Placed) (ks : List Placed) (len room : ℕ)
    → onward ts (k ∷ ks) len room ≡ at_token (ts ++ (k ∷ [])) k (onward (ts ++ (k ∷ [])) ks len room)
unfolding onward
onward_next ts k ks len room = refl

-- EACH ANSWER is met so.
module _ (all : List Placed) (len room : ℕ) where
  at_cut_lem : (ts : List Placed) (k : Placed) (ks : List Placed) (a : Answer) → all ≡ (ts ++ (k ∷ [])) ++ ks
      → Calm (ts ++ (k ∷ [])) → Met all len room a
      → Met all len room (at_cut (ts ++ (k ∷ [])) k.token (in_hand (ts ++ (k ∷ []))) a)
  at_cut_lem ts k ks a e c h =
      rw (cut_is us k.token (in_hand us) a)
      (if_has (Met all len room) (is_cut k.token) (λ b. go b (so_far (file_behind us)) refl) (λ b. h))
    where
      us : List Placed
      us = ts ++ (k ∷ [])

      go : is_cut k.token ≡ true → (o : Checked Passed) → so_far (file_behind us) ≡ o
          → Met all len room (told us (records (in_hand us)) o (λ x. a))
      go b (D.refused n p) f = cut ts k ks e c b n p f
      go b (D.accepted p) f = h

  at_name_lem : (ts ks : List Placed) (o : Option Troubled) (a : Answer) → all ≡ ts ++ ks
      → length ts ≤ fitting (length ts) (read ts) → trouble_in [] (events (in_hand ts)) ≡ o
      → (((x : Troubled) → o ≡ some x → length (names_of ts) ≤ x.before) → Met all len room a)
      → Met all len room (at_name ts o a)
  unfolding at_name
  at_name_lem ts ks none a e g f h = h (λ x z. not_some z)
  at_name_lem ts ks (some y) a e g f h =
      if_has (Met all len room) (ltb y.before (length (names_of ts))) (λ l. trouble ts ks y e g f (ltb-true _ _ l)) λ l.
      h (λ x z. let same : y ≡ x = cc in let m = ltb-false _ _ l in rw (← same) m)

  at_token_lem : (ts : List Placed) (k : Placed) (ks : List Placed) (a : Answer) → all ≡ ts ++ k ∷ ks → Calm ts
      → (Calm (ts ++ (k ∷ [])) → Met all len room a) → Met all len room (at_token (ts ++ (k ∷ [])) k a)
  at_token_lem ts k ks a e c h =
      let us : List Placed = ts ++ (k ∷ []) in
      let f : all ≡ us ++ ks = e ∙ sym (append_assoc ts (k ∷ []) ks) in
      rw (token_is us k a)
      (if_has (Met all len room) (ltb (fitting (length us) (read us)) (length us))
      (λ l. misfit ts k ks e c (ltb-true _ _ l)) λ l.
      at_name_lem us ks (trouble_in [] (events (in_hand us))) (at_cut us k.token (in_hand us) a) f (ltb-false _ _ l) refl λ n.
      let d : Calm us = record { fit = ltb-false _ _ l; named = n } in at_cut_lem ts k ks a f d (h d))

  at_end_lem : (ts : List Placed) → all ≡ ts → Calm all → Met all len room (at_end ts len room)
  at_end_lem ts e c = rw (← e) (rw (end_is all len room) (go (decode (file_behind all)) refl))
    where
      go : (o : Checked Model) → decode (file_behind all) ≡ o
          → Met all len room (told all (records (in_hand all)) o λ m.
          if leb (length (file_behind all)) room then written (file_behind all) else refused No.BUFFER len)
      go (D.refused n p) f = over c n p f
      go (D.accepted m) f =
          if_has (Met all len room) (leb (length (file_behind all)) room) (λ l. done c m f (leb-true _ _ l))
          (λ l. short c m f (leb-false _ _ l))

  met_onward : (ts ks : List Placed) → all ≡ ts ++ ks → Calm ts → Met all len room (onward ts ks len room)
  met_onward ts [] e c =
      let same : all ≡ ts = e ∙ append-nil ts in
      rw (onward_end ts len room) (at_end_lem ts same (rw same c))
  met_onward ts (k ∷ ks) e c =
      let us : List Placed = ts ++ (k ∷ []) in
      rw (onward_next ts k ks len room)
      (at_token_lem ts k ks (onward us ks len room) e c (λ d. met_onward us ks (e ∙ sym (append_assoc ts (k ∷ []) ks)) d))

-- The answer to a text is met in one of these ways.
pub answer_met : (bs : List ℕ) (room : ℕ) → Met (tokens bs) (length bs) room (answer bs room)
unfolding answer
answer_met bs room =
    met_onward (tokens bs) (length bs) room [] (tokens bs) refl (record { fit = omega arith; named = λ x e. omega arith })
