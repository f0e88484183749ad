-- The reader of texts as a machine: it goes over the tokens once, from the left, and keeps only what it needs. That it answers
-- what the definitions say is promised (text_promises); the code meets it.
-- Assumes nothing.
use Rattle.std.specs.Prelude.{ℕ, ◌+◌, ◌-◌, List, [], ◌∷◌, ◌++◌, Bool, true, false, not, ◌&&◌, ◌||◌, eqb, leb, ltb, length, get_or, set, if◌then◌else◌}
use Rattle.std.proofs.Math.Option.{Option, none, some}
use Rattle.semantics.specs.Words.{Outcome, ok, fails, Passed, ◌>>◌, need, any, keep, first_at}
use Rattle.semantics.specs.Numbers as F
use Rattle.semantics.specs.Kinds as K
use Rattle.semantics.specs.Decode.{none_seen, judged}
use Rattle.text_semantics.specs.Numbers as No
use Rattle.text_semantics.specs.Token as T
use Rattle.text_semantics.specs.Token.{Token, name, number, mark, bad}
use Rattle.text_semantics.specs.Lexing.{Placed, tokens}
use Rattle.text_semantics.specs.Grammar.{Name}
use Rattle.text_semantics.specs.Names as N
use Rattle.text_semantics.specs.Names.{Known, Event, asks, declares, announces, embodies, leaves, knows, trouble, store, value}
use Rattle.text_semantics.specs.Names.{variable}
use Rattle.text_semantics.specs.Meaning.{kind_of, number_of}
use Rattle.text_semantics.specs.Table.{Rule}
use Rattle.text_semantics.specs.Reading.{Symbol, Of, say, step, one, the, a_name, a_number, factor_s, minus_s, more, signed_s}
use Rattle.text_semantics.specs.Reading.{relation_s, item_s, claim_s, items_s, gives_s, given_s, actions_s, try_s, few_s, lines_s, body_s}
use Rattle.text_semantics.specs.Reading.{text_s}
use Rattle.text_semantics.specs.Answer.{Answer, refused, written}
use Rattle.text_machine.specs.Entry.{Draft, ASK, begin, drafted, mark_in, name_in}
use Rattle.text_machine.specs.Sheet.{Sheet, blank, blocks_of, kept_in, resumed, with_first, classes, bodied, braces, closed}
use Rattle.text_machine.specs.Sheet.{settled, acts, opens, file}
use Rattle.text_machine.specs.Sheet as S

-- What there is room for: more than any text needs that isn't refused. A name beyond it isn't kept, and a token that would make
-- the pile higher doesn't fit; neither ever happens.
abbrev pub most_names : ℕ
most_names = 217

abbrev pub highest_pile : ℕ
highest_pile = 64

abbrev pub keeps : List Known → Event → List Known
keeps ks e = if leb most_names (length ks) then ks else knows ks e

-- What is still to come, what is known, the name of the class line that is being read and its place, the record that is being
-- written, and what has been written down.
pub record Reader : Type 0 where
  pub pile : List Symbol
  pub known : List Known
  pub called : Name
  pub called_at : ℕ
  pub draft : Draft
  pub sheet : Sheet

abbrev pub at_first : Reader
at_first =
    record { pile = text_s ∷ []; known = []; called = []; called_at = 0; draft = begin 0 0 0; sheet = blank }

-- NAMES. What a token does with a name, by what was still to come.
abbrev pub asked : ℕ → Name → Event
asked r x = if leb ASK r then asks ((r - ASK) ∷ []) x else if eqb r K.CLASS then embodies x else declares r x

abbrev pub of_name : Token → (Name → Event) → Event
of_name (name x) f = f x
of_name (number n) f = leaves
of_name (mark s) f = leaves
of_name bad f = leaves

-- What is in trouble where it is; `leaves` never is.
unfoldable pub event_at : Reader → Symbol → Token → Event
event_at r (one (the s)) t = leaves
event_at r (one a_name) t = of_name t (asked r.draft.role)
event_at r (one (a_number b)) t = leaves
event_at r (factor_s n) t = of_name t (asks value)
event_at r (minus_s n) t = of_name t (asks value)
event_at r (more n c) t = leaves
event_at r signed_s t = leaves
event_at r relation_s t = leaves
event_at r item_s t = of_name t (asks variable)
event_at r claim_s t = of_name t (asks variable)
event_at r items_s t = leaves
event_at r gives_s t = leaves
event_at r given_s t = leaves
event_at r actions_s t = of_name t (asks store)
event_at r try_s t = of_name t (asks store)
event_at r (few_s n) t = leaves
event_at r lines_s t = of_name t (asks store)
event_at r body_s t = if eqb (mark_in t) T.SEMI then announces r.called else leaves
event_at r text_s t = leaves

-- A class line's name is in trouble at its own place.
abbrev pub trouble_at : Reader → Symbol → ℕ → ℕ
trouble_at r (one x) p = p
trouble_at r (factor_s n) p = p
trouble_at r (minus_s n) p = p
trouble_at r (more n c) p = p
trouble_at r signed_s p = p
trouble_at r relation_s p = p
trouble_at r item_s p = p
trouble_at r claim_s p = p
trouble_at r items_s p = p
trouble_at r gives_s p = p
trouble_at r given_s p = p
trouble_at r actions_s p = p
trouble_at r try_s p = p
trouble_at r (few_s n) p = p
trouble_at r lines_s p = p
trouble_at r body_s p = r.called_at
trouble_at r text_s p = p

-- What is known then: a name is declared where it stands, a class where its line goes on, and locals go with the last brace.
abbrev pub is_new_class : Draft → Bool
is_new_class d = eqb d.role K.CLASS

abbrev pub last_brace : Reader → Token → Bool
last_brace r t = eqb (mark_in t) T.RB && eqb (length r.sheet.levels) 1

abbrev pub leaving : Reader → Token → List Known
leaving r t = if last_brace r t then knows r.known leaves else r.known

unfoldable pub known_after : Reader → Symbol → Token → List Known
unfolding knows
known_after r (one (the s)) t = r.known
known_after r (one a_name) t =
    if leb ASK r.draft.role || is_new_class r.draft then r.known else keeps r.known
    (declares r.draft.role (name_in t))
known_after r (one (a_number b)) t = r.known
known_after r (factor_s n) t = r.known
known_after r (minus_s n) t = r.known
known_after r (more n c) t = r.known
known_after r signed_s t = r.known
known_after r relation_s t = r.known
known_after r item_s t = r.known
known_after r claim_s t = r.known
known_after r items_s t = r.known
known_after r gives_s t = r.known
known_after r given_s t = r.known
known_after r actions_s t = leaving r t
known_after r try_s t = leaving r t
known_after r (few_s n) t = r.known
known_after r lines_s t = leaving r t
known_after r body_s t =
    if eqb (mark_in t) T.SEMI then keeps r.known (announces r.called) else keeps r.known (embodies r.called)
known_after r text_s t = r.known

-- RECORDS. What a token writes down; d is the draft with this token.
abbrev pub is_declaration : Draft → Bool
is_declaration d = ltb d.kind K.ACTION

abbrev pub done : Draft → Sheet → Sheet
done d s = if is_declaration d then S.declares d s else acts d s

abbrev pub is_known : Reader → Bool
is_known r = any (N.named r.called) r.known

abbrev pub embodied : Reader → Sheet
embodied r =
    let k : ℕ = blocks_of r.sheet in
    braces
    (if is_known r then bodied (number_of r.known r.called) k r.sheet else classes r.draft.line k r.sheet)

-- Behind a block an action or a brace comes; only an etry goes on with the try that is kept.
abbrev pub behind : Sheet → Token → Sheet
behind s t = if eqb (mark_in t) T.RB then closed s else if eqb (mark_in t) T.ETRY then s else settled s

unfoldable pub sheet_after : Reader → Draft → Symbol → Token → ℕ → Sheet
unfolding S.declares acts opens braces bodied classes closed settled
sheet_after r d (one (the s)) t p =
    if eqb s T.SEMI then done d r.sheet else if eqb s T.LB then opens d r.sheet else r.sheet
sheet_after r d (one a_name) t p = r.sheet
sheet_after r d (one (a_number b)) t p = r.sheet
sheet_after r d (factor_s n) t p = r.sheet
sheet_after r d (minus_s n) t p = r.sheet
sheet_after r d (more n c) t p = if eqb (mark_in t) T.SEMI then done d r.sheet else r.sheet
sheet_after r d signed_s t p = r.sheet
sheet_after r d relation_s t p = r.sheet
sheet_after r d item_s t p = r.sheet
sheet_after r d claim_s t p = r.sheet
sheet_after r d items_s t p = r.sheet
sheet_after r d gives_s t p = r.sheet
sheet_after r d given_s t p = r.sheet
sheet_after r d actions_s t p = behind r.sheet t
sheet_after r d try_s t p = behind r.sheet t
sheet_after r d (few_s n) t p = r.sheet
sheet_after r d lines_s t p = behind r.sheet t
sheet_after r d body_s t p = if eqb (mark_in t) T.SEMI then classes d.line No.no_body r.sheet else embodied r
sheet_after r d text_s t p = if eqb r.sheet.total 0 then with_first r.sheet p else r.sheet

-- THE CHECKS at a cut. The new record is right; s is the sheet before it.
abbrev pub passes : Outcome Passed → Bool
passes (ok x) = true
passes (fails n) = false

abbrev pub counts_for : Sheet → Draft → List ℕ
counts_for s d = if is_declaration d then set s.seen K.BLOCK 0 else set none_seen K.BLOCK 1

unfoldable pub faulty : Sheet → Draft → Bool
unfolding judged ◌>>◌ need
faulty s d = d.over || not (passes (judged (counts_for s d) d.kind d.body))

-- z is the sheet with it, and f whether the record is faulty.
unfoldable pub over_limit : Sheet → Draft → Bool → Option ℕ
over_limit z d f =
    if ltb F.longest_file z.total
    then some z.first
    else if f || ltb F.most_classes (get_or z.seen K.CLASS 0)
    then some d.line
    else if ltb F.most_actions (get_or z.seen K.ACTION 0)
    then some z.last_line
    else if ltb F.most_blocks (get_or z.seen K.BLOCK 0)
    then some d.line
    else if ltb F.deepest (length z.levels)
    then some (get_or z.class_line z.current 0)
    else if z.full
    then some 0
    else none

-- Which tokens are cuts, and what is looked at there.
unfoldable pub cut_at : Reader → Draft → Symbol → Token → Sheet → Option ℕ
unfolding faulty over_limit
cut_at r d (one (the s)) t z = if eqb s T.SEMI || eqb s T.LB then over_limit z d (faulty r.sheet d) else none
cut_at r d (one a_name) t z = none
cut_at r d (one (a_number b)) t z = none
cut_at r d (factor_s n) t z = none
cut_at r d (minus_s n) t z = none
cut_at r d (more n c) t z = if eqb (mark_in t) T.SEMI then over_limit z d (faulty r.sheet d) else none
cut_at r d signed_s t z = none
cut_at r d relation_s t z = none
cut_at r d item_s t z = none
cut_at r d claim_s t z = none
cut_at r d items_s t z = none
cut_at r d gives_s t z = none
cut_at r d given_s t z = none
cut_at r d actions_s t z = none
cut_at r d try_s t z = none
cut_at r d (few_s n) t z = none
cut_at r d lines_s t z = none
cut_at r d body_s t z = over_limit z d false
cut_at r d text_s t z = none

-- ONE TOKEN: where nothing is in trouble, the reader goes on.
pub data Turned : Type 0 where
  stops : ℕ → ℕ → Turned  -- number, place
  goes : Reader → Turned

-- The name of a class line is called, at its place.
abbrev pub calls : Reader → Symbol → Bool
calls r (one (the s)) = false
calls r (one a_name) = is_new_class r.draft
calls r (one (a_number b)) = false
calls r (factor_s n) = false
calls r (minus_s n) = false
calls r (more n c) = false
calls r signed_s = false
calls r relation_s = false
calls r item_s = false
calls r claim_s = false
calls r items_s = false
calls r gives_s = false
calls r given_s = false
calls r actions_s = false
calls r try_s = false
calls r (few_s n) = false
calls r lines_s = false
calls r body_s = false
calls r text_s = false

unfoldable pub after : Reader → Draft → Sheet → List Symbol → Symbol → Token → ℕ → Reader
unfolding known_after
after r d z ss s t p =
    record {
      pile = ss;
      known = known_after r s t;
      called = if calls r s then name_in t else r.called;
      called_at = if calls r s then p else r.called_at;
      draft = d;
      sheet = z;
    }

unfoldable pub draft_after : Reader → Symbol → Token → ℕ → Draft
unfolding drafted
draft_after r s t p =
    drafted (kind_of r.known (name_in t)) (number_of r.known (name_in t)) (blocks_of r.sheet) p
    (resumed (kept_in r.sheet.levels)) s t r.draft

abbrev pub gone_on : Reader → Draft → Sheet → List Symbol → Symbol → Token → ℕ → Option ℕ → Turned
gone_on r d z ss s t p none = goes (after r d z ss s t p)
gone_on r d z ss s t p (some q) = stops No.CHECKS q

abbrev pub named : Reader → List Symbol → Symbol → Token → ℕ → Option ℕ → Turned
named r ss s t p (some n) = stops n (trouble_at r s p)
named r ss s t p none =
    let d : Draft = draft_after r s t p in
    let z : Sheet = sheet_after r d s t p in
    gone_on r d z ss s t p (cut_at r d s t z)

abbrev pub ruled : Reader → List Symbol → (s : Symbol) (t : Token) → ℕ → Option (Rule Of say s t) → Turned
ruled r ss s t p none = stops No.GRAMMAR p
ruled r ss s t p (some x) =
    if ltb highest_pile (length (x.next ++ ss))
    then stops No.GRAMMAR p
    else named r (x.next ++ ss) s t p (trouble r.known (event_at r s t))

abbrev pub on_pile : Reader → List Symbol → Token → ℕ → Turned
on_pile r [] t p = stops No.GRAMMAR p
on_pile r (s ∷ ss) t p = ruled r ss s t p (step s t)

unfoldable pub turned : Reader → Placed → Turned
unfolding draft_after sheet_after cut_at after trouble event_at
turned r k = on_pile r r.pile k.token k.place

-- AT THE END: a class without a body; the room.
abbrev pub lacking : Known → Bool
lacking k = k.lacks

unfoldable pub ended : Reader → ℕ → ℕ → Answer
unfolding file
ended r len room =
    if r.sheet.full
    then refused No.CHECKS 0
    else if any lacking r.known
    then refused No.CHECKS (get_or r.sheet.class_line (first_at lacking (keep (λ k. eqb k.what K.CLASS) r.known)) 0)
    else if leb r.sheet.total room
    then written (file r.sheet)
    else refused No.BUFFER len

-- ALL TOKENS.
unfoldable pub going : Reader → List Placed → ℕ → ℕ → Answer
unfolding turned ended
going r [] len room = ended r len room
going r (k ∷ ks) len room = elim (turned r k) [ stops n p ↦ refused n p | goes s ↦ going s ks len room ]

unfoldable pub machine : List ℕ → ℕ → Answer
unfolding going tokens
machine bs room = going at_first (tokens bs) (length bs) room
