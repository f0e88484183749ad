-- The answer to a text (docs/TEXT.md, sections 5 and 7): its records, or the first trouble that is met from the left.
-- Assumes nothing.
use Rattle.std.specs.Prelude.{ℕ, List, [], ◌∷◌, ◌++◌, map, Bool, true, false, ◌||◌, eqb, leb, ltb, length, get_or, if◌then◌else◌}
use Rattle.std.proofs.Math.Option.{Option, none, some}
use Rattle.semantics.specs.Words.{Passed, keep}
use Rattle.semantics.specs.Numbers as F
use Rattle.semantics.specs.Bytes.{Raw, records_from}
use Rattle.semantics.specs.Decode as D
use Rattle.semantics.specs.Decode.{Checked, if_accepted, none_seen, first_pass, gather, third_pass, decode}
use Rattle.text_semantics.specs.Numbers as No
use Rattle.text_semantics.specs.Token as K
use Rattle.text_semantics.specs.Token.{Token, name, number, mark, bad}
use Rattle.text_semantics.specs.Lexing.{Placed, tokens}
use Rattle.text_semantics.specs.Grammar.{Text}
use Rattle.text_semantics.specs.Names.{Troubled, events, trouble_in}
use Rattle.text_semantics.specs.Meaning.{Owned, records}
use Rattle.text_semantics.specs.Written.{file_of, owner_at}
use Rattle.text_semantics.specs.Table.{Result, right, wrong, Values}
use Rattle.text_semantics.specs.Reading.{Of, text_s, reading}

pub data Answer : Type 0 where
  refused : ℕ → ℕ → Answer  -- number, place
  written : List ℕ → Answer  -- the records' bytes

-- WHAT THE TOKENS SO FAR ARE: how many of n begin a text; a tree that begins with them, braces closed.
abbrev pub fitting : ℕ → Result (Values Of (text_s ∷ [])) → ℕ
fitting n (right v) = n
fitting n (wrong m v) = m

abbrev pub tree_in : Result (Values Of (text_s ∷ [])) → Text
tree_in (right v) = v.0
tree_in (wrong m v) = v.0

abbrev pub read : List Placed → Result (Values Of (text_s ∷ []))
read ts = reading (map (λ t. t.token) ts)

-- PLACES: of the token with so many before it, and of the name with so many names before it.
abbrev pub place_at : List Placed → ℕ → ℕ
place_at ts i = get_or (map (λ t. t.place) ts) i 0

abbrev pub is_name : Token → Bool
is_name (name x) = true
is_name (number n) = false
is_name (mark k) = false
is_name bad = false

abbrev pub names_of : List Placed → List Placed
names_of ts = keep (λ t. is_name t.token) ts

abbrev pub is_cut : Token → Bool
is_cut (name x) = false
is_cut (number n) = false
is_cut (mark k) = eqb k K.SEMI || eqb k K.LB
is_cut bad = false

-- 54 AT A CUT: the length, then 4 to 7, record by record, then 10, class by class. A class that has no body yet is no fault here.
unfoldable pub so_far : List ℕ → Checked Passed
unfolding records_from first_pass gather third_pass
so_far bs =
    let rs : List Raw = records_from 0 bs in
    if leb (length bs) F.longest_file
    then if_accepted (first_pass none_seen rs) (λ n. third_pass (gather rs).model rs)
    else D.refused F.MANY 0

-- What the checks name, at the place of its declaration or action; else what follows.
abbrev pub told : {A : Type 0} → List Placed → List Owned → Checked A → (A → Answer) → Answer
told ts os (D.refused n p) f = refused No.CHECKS (place_at ts (owner_at p os))
told ts os (D.accepted a) f = f a

-- TROUBLE at the last token of ts, where there was none before it; else what follows.
unfoldable pub at_cut : List Placed → Token → Text → Answer → Answer
unfolding so_far records owner_at
at_cut ts k t a = if is_cut k then told ts (records t) (so_far (file_of (records t))) (λ x. a) else a

unfoldable pub at_name : List Placed → Option Troubled → Answer → Answer
at_name ts none a = a
at_name ts (some x) a =
    if ltb x.before (length (names_of ts)) then refused x.number (place_at (names_of ts) x.before) else a

unfoldable pub at_token : List Placed → Placed → Answer → Answer
unfolding reading at_name at_cut trouble_in
at_token ts k a =
    let r : Result (Values Of (text_s ∷ [])) = read ts in
    if ltb (fitting (length ts) r) (length ts)
    then refused No.GRAMMAR k.place
    else at_name ts (trouble_in [] (events (tree_in r))) (at_cut ts k.token (tree_in r) a)

-- AT THE END checks 1 to 10 on all of it, and the room for it; len is the length of the text.
unfoldable pub at_end : List Placed → ℕ → ℕ → Answer
unfolding decode records reading owner_at
at_end ts len room =
    let os : List Owned = records (tree_in (read ts)) in
    told ts os (decode (file_of os)) λ m.
    if leb (length (file_of os)) room then written (file_of os) else refused No.BUFFER len

-- FROM THE LEFT, over the tokens that are still to come.
unfoldable pub onward : List Placed → List Placed → ℕ → ℕ → Answer
unfolding at_token at_end
onward ts [] len room = at_end ts len room
onward ts (k ∷ ks) len room = at_token (ts ++ (k ∷ [])) k (onward (ts ++ (k ∷ [])) ks len room)

-- The answer to the text bs, where room bytes are lent.
unfoldable pub answer : List ℕ → ℕ → Answer
unfolding onward tokens
answer bs room = onward [] (tokens bs) (length bs) room
