-- What the reader does with a token goes by the symbol that was still to come, of which a few sorts are told apart.
-- Assumes nothing.
use Rattle.std.specs.Prelude.{ℕ, zero, suc, ◌-◌, ◌%◌, ◌<◌, ◌≡◌, refl, List, Bool, true, false, ◌&&◌, ◌||◌, eqb, leb, ltb, length, if◌then◌else◌}
use Rattle.std.proofs.Common.{arith, eqb-true}
use Rattle.std.proofs.Math.Option.{Option, none}
use Rattle.std.proofs.lemmas.Bool.{eqb-false}
use Rattle.semantics.specs.Kinds as K
use Rattle.text_semantics.specs.Numbers as No
use Rattle.text_semantics.specs.Token as T
use Rattle.text_semantics.specs.Token.{Token, name, number, mark, bad}
use Rattle.text_semantics.specs.Grammar.{Name}
use Rattle.text_semantics.specs.Names.{Known, Event, asks, declares, announces, embodies, leaves, knows, store, value}
use Rattle.text_semantics.specs.Names.{variable}
use Rattle.text_semantics.specs.Meaning.{number_of}
use Rattle.text_semantics.specs.Reading.{Symbol, one, the, a_name, a_number, factor_s, minus_s, more, signed_s, relation_s, item_s}
use Rattle.text_semantics.specs.Reading.{claim_s, items_s, gives_s, given_s, actions_s, try_s, few_s, lines_s, body_s, text_s}
use Rattle.text_machine.specs.Entry.{Draft, ASK, mark_in, name_in}
use Rattle.text_machine.specs.Codes as C
use Rattle.text_machine.specs.Codes.{symbol_of}
use Rattle.text_machine.specs.Sheet.{Sheet, with_first, blocks_of, classes, bodied, braces, opens}
use Rattle.text_machine.specs.Machine.{Reader, asked, of_name, event_at, trouble_at, keeps, known_after, done}
use Rattle.text_machine.specs.Machine.{is_known, behind, sheet_after, faulty, over_limit, cut_at, calls}
use Rattle.text_pile.specs.Pile.{SYMBOLS}

-- A semicolon; a brace that an action opens; a name; what is a value; what follows a value; a condition; what an action or a
-- brace may follow; the body of a class; a declaration.
abbrev pub OTHER : ℕ
OTHER = 0

abbrev pub SEMI : ℕ
SEMI = 1

abbrev pub BRACE : ℕ
BRACE = 2

abbrev pub NAMED : ℕ
NAMED = 3

abbrev pub VALUE : ℕ
VALUE = 4

abbrev pub MORE : ℕ
MORE = 5

abbrev pub VARIABLE : ℕ
VARIABLE = 6

abbrev pub BLOCK : ℕ
BLOCK = 7

abbrev pub BODY : ℕ
BODY = 8

abbrev pub TEXT : ℕ
TEXT = 9

abbrev pub sign_sort : ℕ → ℕ
sign_sort k = if eqb k T.SEMI then SEMI else if eqb k T.LB then BRACE else OTHER

abbrev pub sort_of : Symbol → ℕ
sort_of (one (the k)) = sign_sort k
sort_of (one a_name) = NAMED
sort_of (one (a_number b)) = OTHER
sort_of (factor_s n) = VALUE
sort_of (minus_s n) = VALUE
sort_of (more n c) = MORE
sort_of signed_s = OTHER
sort_of relation_s = OTHER
sort_of item_s = VARIABLE
sort_of claim_s = VARIABLE
sort_of items_s = OTHER
sort_of gives_s = OTHER
sort_of given_s = OTHER
sort_of actions_s = BLOCK
sort_of try_s = BLOCK
sort_of (few_s n) = OTHER
sort_of lines_s = BLOCK
sort_of body_s = BODY
sort_of text_s = TEXT

-- NAMES.
abbrev pub name_event : ℕ → ℕ → Name → Event
name_event sort role x =
    if eqb sort NAMED
    then asked role x
    else if eqb sort VALUE
    then asks value x
    else if eqb sort VARIABLE
    then asks variable x
    else if eqb sort BLOCK
    then asks store x
    else leaves

abbrev pub event_by : ℕ → ℕ → Name → Token → Event
event_by sort role called t =
    if eqb sort BODY
    then if eqb (mark_in t) T.SEMI then announces called else leaves
    else of_name t (name_event sort role)

no_event : (t : Token) → leaves ≡ of_name t (λ x. leaves)
no_event (name x) = refl
no_event (number n) = refl
no_event (mark k) = refl
no_event bad = refl

sign_event : (a b : Bool) (role : ℕ) (x : Name) (t : Token)
    → leaves ≡ event_by (if a then SEMI else if b then BRACE else OTHER) role x t
sign_event true b role x t = no_event t
sign_event false true role x t = no_event t
sign_event false false role x t = no_event t

pub event_by_lem : (r : Reader) (s : Symbol) (t : Token) → event_at r s t ≡ event_by (sort_of s) r.draft.role r.called t
unfolding event_at
event_by_lem r (one (the k)) t = sign_event (eqb k T.SEMI) (eqb k T.LB) r.draft.role r.called t
event_by_lem r (one a_name) t = refl
event_by_lem r (one (a_number b)) t = no_event t
event_by_lem r (factor_s n) t = refl
event_by_lem r (minus_s n) t = refl
event_by_lem r (more n c) t = no_event t
event_by_lem r signed_s t = no_event t
event_by_lem r relation_s t = no_event t
event_by_lem r item_s t = refl
event_by_lem r claim_s t = refl
event_by_lem r items_s t = no_event t
event_by_lem r gives_s t = no_event t
event_by_lem r given_s t = no_event t
event_by_lem r actions_s t = refl
event_by_lem r try_s t = refl
event_by_lem r (few_s n) t = no_event t
event_by_lem r lines_s t = refl
event_by_lem r body_s t = refl
event_by_lem r text_s t = no_event t

abbrev pub trouble_place : ℕ → ℕ → ℕ → ℕ
trouble_place sort called p = if eqb sort BODY then called else p

sign_place : (a b : Bool) (c p : ℕ) → p ≡ trouble_place (if a then SEMI else if b then BRACE else OTHER) c p
sign_place true b c p = refl
sign_place false true c p = refl
sign_place false false c p = refl

pub place_by : (r : Reader) (s : Symbol) (p : ℕ) → trouble_at r s p ≡ trouble_place (sort_of s) r.called_at p
place_by r (one (the k)) p = sign_place (eqb k T.SEMI) (eqb k T.LB) r.called_at p
place_by r (one a_name) p = refl
place_by r (one (a_number b)) p = refl
place_by r (factor_s n) p = refl
place_by r (minus_s n) p = refl
place_by r (more n c) p = refl
place_by r signed_s p = refl
place_by r relation_s p = refl
place_by r item_s p = refl
place_by r claim_s p = refl
place_by r items_s p = refl
place_by r gives_s p = refl
place_by r given_s p = refl
place_by r actions_s p = refl
place_by r try_s p = refl
place_by r (few_s n) p = refl
place_by r lines_s p = refl
place_by r body_s p = refl
place_by r text_s p = refl

-- What is known then: n blocks are open.
abbrev pub known_by : ℕ → ℕ → ℕ → Name → List Known → Token → List Known
known_by sort role n called ks t =
    if eqb sort NAMED
    then if leb ASK role || eqb role K.CLASS then ks else keeps ks (declares role (name_in t))
    else if eqb sort BLOCK
    then if eqb (mark_in t) T.RB && eqb n 1 then knows ks leaves else ks
    else if eqb sort BODY
    then if eqb (mark_in t) T.SEMI then keeps ks (announces called) else keeps ks (embodies called)
    else ks

sign_known : (a b : Bool) (role n : ℕ) (x : Name) (ks : List Known) (t : Token)
    → ks ≡ known_by (if a then SEMI else if b then BRACE else OTHER) role n x ks t
sign_known true b role n x ks t = refl
sign_known false true role n x ks t = refl
sign_known false false role n x ks t = refl

pub known_by_lem : (r : Reader) (s : Symbol) (t : Token)
    → known_after r s t ≡ known_by (sort_of s) r.draft.role (length r.sheet.levels) r.called r.known t
unfolding known_after
known_by_lem r (one (the k)) t =
    sign_known (eqb k T.SEMI) (eqb k T.LB) r.draft.role (length r.sheet.levels) r.called r.known t
known_by_lem r (one a_name) t = refl
known_by_lem r (one (a_number b)) t = refl
known_by_lem r (factor_s n) t = refl
known_by_lem r (minus_s n) t = refl
known_by_lem r (more n c) t = refl
known_by_lem r signed_s t = refl
known_by_lem r relation_s t = refl
known_by_lem r item_s t = refl
known_by_lem r claim_s t = refl
known_by_lem r items_s t = refl
known_by_lem r gives_s t = refl
known_by_lem r given_s t = refl
known_by_lem r actions_s t = refl
known_by_lem r try_s t = refl
known_by_lem r (few_s n) t = refl
known_by_lem r lines_s t = refl
known_by_lem r body_s t = refl
known_by_lem r text_s t = refl

-- RECORDS.
-- z is the sheet before it; whether the class is known whose body begins, its number, and the line of its declaration.
abbrev pub body_by : Sheet → Bool → ℕ → ℕ → ℕ → Token → Sheet
body_by z known class line first t =
    if eqb (mark_in t) T.SEMI
    then classes line No.no_body z
    else braces (if known then bodied class (blocks_of z) z else classes first (blocks_of z) z)

abbrev pub sheet_by : ℕ → Sheet → Bool → ℕ → ℕ → Draft → Token → ℕ → Sheet
sheet_by sort z known class first d t p =
    if eqb sort SEMI
    then done d z
    else if eqb sort BRACE
    then opens d z
    else if eqb sort MORE
    then if eqb (mark_in t) T.SEMI then done d z else z
    else if eqb sort BLOCK
    then behind z t
    else if eqb sort BODY
    then body_by z known class d.line first t
    else if eqb sort TEXT
    then if eqb z.total 0 then with_first z p else z
    else z

abbrev sheet_of : ℕ → Reader → Draft → Token → ℕ → Sheet
sheet_of sort r d t p = sheet_by sort r.sheet (is_known r) (number_of r.known r.called) r.draft.line d t p

sign_sheet : (a b : Bool) (r : Reader) (d : Draft) (t : Token) (p : ℕ)
    → (if a then done d r.sheet else if b then opens d r.sheet else r.sheet)
    ≡ sheet_of (if a then SEMI else if b then BRACE else OTHER) r d t p
sign_sheet true b r d t p = refl
sign_sheet false true r d t p = refl
sign_sheet false false r d t p = refl

pub sheet_by_lem : (r : Reader) (d : Draft) (s : Symbol) (t : Token) (p : ℕ)
    → sheet_after r d s t p
    ≡ sheet_by (sort_of s) r.sheet (is_known r) (number_of r.known r.called) r.draft.line d t p
unfolding sheet_after
sheet_by_lem r d (one (the k)) t p = sign_sheet (eqb k T.SEMI) (eqb k T.LB) r d t p
sheet_by_lem r d (one a_name) t p = refl
sheet_by_lem r d (one (a_number b)) t p = refl
sheet_by_lem r d (factor_s n) t p = refl
sheet_by_lem r d (minus_s n) t p = refl
sheet_by_lem r d (more n c) t p = refl
sheet_by_lem r d signed_s t p = refl
sheet_by_lem r d relation_s t p = refl
sheet_by_lem r d item_s t p = refl
sheet_by_lem r d claim_s t p = refl
sheet_by_lem r d items_s t p = refl
sheet_by_lem r d gives_s t p = refl
sheet_by_lem r d given_s t p = refl
sheet_by_lem r d actions_s t p = refl
sheet_by_lem r d try_s t p = refl
sheet_by_lem r d (few_s n) t p = refl
sheet_by_lem r d lines_s t p = refl
sheet_by_lem r d body_s t p = refl
sheet_by_lem r d text_s t p = refl

abbrev pub is_cut : ℕ → Token → Bool
is_cut sort t = eqb sort SEMI || (eqb sort BRACE || (eqb sort MORE && eqb (mark_in t) T.SEMI))

abbrev pub cut_by : ℕ → Sheet → Draft → Token → Sheet → Option ℕ
cut_by sort y d t z =
    if is_cut sort t then over_limit z d (faulty y d) else if eqb sort BODY then over_limit z d false else none

sign_cut : (a b : Bool) (r : Reader) (d : Draft) (t : Token) (z : Sheet)
    → (if a || b then over_limit z d (faulty r.sheet d) else none)
    ≡ cut_by (if a then SEMI else if b then BRACE else OTHER) r.sheet d t z
sign_cut true b r d t z = refl
sign_cut false true r d t z = refl
sign_cut false false r d t z = refl

pub cut_by_lem : (r : Reader) (d : Draft) (s : Symbol) (t : Token) (z : Sheet) → cut_at r d s t z ≡ cut_by (sort_of s) r.sheet d t z
unfolding cut_at
cut_by_lem r d (one (the k)) t z = sign_cut (eqb k T.SEMI) (eqb k T.LB) r d t z
cut_by_lem r d (one a_name) t z = refl
cut_by_lem r d (one (a_number b)) t z = refl
cut_by_lem r d (factor_s n) t z = refl
cut_by_lem r d (minus_s n) t z = refl
cut_by_lem r d (more n c) t z = refl
cut_by_lem r d signed_s t z = refl
cut_by_lem r d relation_s t z = refl
cut_by_lem r d item_s t z = refl
cut_by_lem r d claim_s t z = refl
cut_by_lem r d items_s t z = refl
cut_by_lem r d gives_s t z = refl
cut_by_lem r d given_s t z = refl
cut_by_lem r d actions_s t z = refl
cut_by_lem r d try_s t z = refl
cut_by_lem r d (few_s n) t z = refl
cut_by_lem r d lines_s t z = refl
cut_by_lem r d body_s t z = refl
cut_by_lem r d text_s t z = refl

-- THE NAME of a class line.
abbrev pub calls_by : ℕ → ℕ → Bool
calls_by sort role = eqb sort NAMED && eqb role K.CLASS

sign_calls : (a b : Bool) (role : ℕ) → false ≡ calls_by (if a then SEMI else if b then BRACE else OTHER) role
sign_calls true b role = refl
sign_calls false true role = refl
sign_calls false false role = refl

pub calls_by_lem : (r : Reader) (s : Symbol) → calls r s ≡ calls_by (sort_of s) r.draft.role
calls_by_lem r (one (the k)) = sign_calls (eqb k T.SEMI) (eqb k T.LB) r.draft.role
calls_by_lem r (one a_name) = refl
calls_by_lem r (one (a_number b)) = refl
calls_by_lem r (factor_s n) = refl
calls_by_lem r (minus_s n) = refl
calls_by_lem r (more n c) = refl
calls_by_lem r signed_s = refl
calls_by_lem r relation_s = refl
calls_by_lem r item_s = refl
calls_by_lem r claim_s = refl
calls_by_lem r items_s = refl
calls_by_lem r gives_s = refl
calls_by_lem r given_s = refl
calls_by_lem r actions_s = refl
calls_by_lem r try_s = refl
calls_by_lem r (few_s n) = refl
calls_by_lem r lines_s = refl
calls_by_lem r body_s = refl
calls_by_lem r text_s = refl

-- SYMBOLS AS NUMBERS.
abbrev pub sort_at : ℕ → ℕ
sort_at s =
    if eqb s C.NAME
    then NAMED
    else if eqb s T.SEMI
    then SEMI
    else if eqb s T.LB
    then BRACE
    else if eqb s C.ITEM || eqb s C.CLAIM
    then VARIABLE
    else if leb C.ACTIONS s && leb s C.LINES
    then BLOCK
    else if eqb s C.BODY
    then BODY
    else if eqb s C.TEXT
    then TEXT
    else if ltb s C.EXPRESSION
    then OTHER
    else if ltb ((s - C.EXPRESSION) % C.PARTS) 2
    then VALUE
    else MORE

abbrev sorted : ℕ → Bool
sorted zero = true
sorted (suc n) = eqb (sort_at n) (sort_of (symbol_of n)) && sorted n

both_true : (a b : Bool) → (a && b) ≡ true → (a ≡ true) × (b ≡ true)
both_true true true e = (refl, refl)
both_true true false e = (refl, e)
both_true false b e = let z : ◌≡◌ {A = ℕ} 0 1 = cc in absurd (omega arith)

sorted_at : (n s : ℕ) → sorted n ≡ true → s < n → sort_at s ≡ sort_of (symbol_of s)
sorted_at zero s e h = omega arith
sorted_at (suc n) s e h =
    let b = both_true (eqb (sort_at n) (sort_of (symbol_of n))) (sorted n) e in
    go (eqb s n) refl b.0 (λ l. sorted_at n s b.1 l)
  where
    go : (t : Bool) → eqb s n ≡ t → eqb (sort_at n) (sort_of (symbol_of n)) ≡ true
        → (s < n → sort_at s ≡ sort_of (symbol_of s)) → sort_at s ≡ sort_of (symbol_of s)
    go true f b r = rw (eqb-true s n f) (eqb-true (sort_at n) (sort_of (symbol_of n)) b)
    go false f b r = r (omega (arith, eqb-false s n f))

pub sort_at_lem : (s : ℕ) → s < SYMBOLS → sort_at s ≡ sort_of (symbol_of s)
sort_at_lem s h = sorted_at SYMBOLS s refl h
