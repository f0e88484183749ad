-- What the answer to a text promises.
-- Assumes nothing.
use Rattle.std.specs.Prelude.{ℕ, ◌≤◌, ◌<◌, ◌≡◌, List, [], ◌∷◌, ◌++◌, Bool, length, if◌then◌else◌}
use Rattle.std.proofs.Common.{arith, sym, ◌∙◌, ap, subst, le-leb}
use Rattle.std.proofs.lemmas.Bool.{lt-leb}
use Rattle.semantics.specs.Model.{Model}
use Rattle.semantics.specs.Decode as D
use Rattle.semantics.specs.Decode.{decode}
use Rattle.promises.specs.Laws.{all_split}
use Rattle.text_semantics.specs.Numbers as No
use Rattle.text_semantics.specs.Lexing.{Placed, tokens}
use Rattle.text_semantics.specs.Grammar.{Text, spell_text}
use Rattle.text_semantics.specs.Names.{events}
use Rattle.text_semantics.specs.Meaning.{records}
use Rattle.text_semantics.specs.Written.{owner_at}
use Rattle.text_semantics.specs.Answer.{Answer, refused, written, place_at, names_of, answer}
use Rattle.text_promises.specs.Readings.{one_reading}
use Rattle.text_promises.specs.Places.{kinds, UpTo, place_up_to, names_up_to, in_the_text}
use Rattle.text_promises.specs.Troubles.{first_trouble}
use Rattle.text_promises.specs.Met.{in_hand, file_behind, Met, misfit, trouble, cut, over, short, done, answer_met}
use Rattle.text_promises.specs.Said.{Said, file, Misfit, InTrouble, Refused, calm_said, first_misfit, name_in_trouble}
use Rattle.text_promises.specs.Said.{cut_refused, all_refused}
use Rattle.text_promises.specs.Rooms.{written_in_rooms, refused_in_rooms}

-- Equal refusals have the same number and the same place, and nothing is refused and written.
same_number : {n m p q : ℕ} → refused n p ≡ refused m q → n ≡ m
same_number e = cc

same_place : {n m p q : ℕ} → refused n p ≡ refused m q → p ≡ q
same_place e = cc

not_both : {P : Type 0} {n p : ℕ} {out : List ℕ} → refused n p ≡ written out → P
not_both {n = n} {p = p} {out = out} e = let z : ◌≡◌ {A = ℕ} 0 1 = cc in absurd (omega arith)

-- a. What is written is the file of what the text says, and there is room for it.
pub written_is_said : (bs : List ℕ) (room : ℕ) (out : List ℕ) → answer bs room ≡ written out
    → (s : Said bs) × (out ≡ file s) × (length out ≤ room)
written_is_said bs room out e = go (answer bs room) (answer_met bs room) e
  where
    go : (a : Answer) → Met (tokens bs) (length bs) room a → a ≡ written out
        → (s : Said bs) × (out ≡ file s) × (length out ≤ room)
    go a (misfit ts k ks f c l) e = not_both e
    go a (trouble ts ks x f g t l) e = not_both e
    go a (cut ts k ks f c h m q d) e = not_both e
    go a (over c m q d) e = not_both e
    go a (short c m d l) e = not_both e
    go a (done c m d l) e = let same : file_behind (tokens bs) ≡ out = cc in (calm_said bs c m d, sym same, rw same at l)

-- b. What is written passes checks 1 to 10.
pub written_passes : (bs : List ℕ) (room : ℕ) (out : List ℕ) → answer bs room ≡ written out
    → (m : Model) × (decode out ≡ D.accepted m)
written_passes bs room out e =
    let w = written_is_said bs room out e in (w.0.model, ap decode w.1 ∙ w.0.passes)

-- c. 51 is told at the first token that doesn't fit.
pub refused_by_grammar : (bs : List ℕ) (room p : ℕ) → answer bs room ≡ refused No.GRAMMAR p
    → (i : ℕ) × Misfit bs i × (p ≡ place_at (tokens bs) i)
refused_by_grammar bs room p e = go (answer bs room) (answer_met bs room) e
  where
    go : (a : Answer) → Met (tokens bs) (length bs) room a → a ≡ refused No.GRAMMAR p
        → (i : ℕ) × Misfit bs i × (p ≡ place_at (tokens bs) i)
    go a (misfit ts k ks f c l) e =
        let w = first_misfit bs ts k ks f c l in (length ts, w.0, sym (same_place e) ∙ w.1)
    go a (trouble ts ks x f g t l) e =
        let i = first_trouble [] (events (in_hand ts)) x t in let n = same_number e in absurd (omega (arith, i.told_from))
    go a (cut ts k ks f c h m q d) e = let n = same_number e in absurd (omega arith)
    go a (over c m q d) e = let n = same_number e in absurd (omega arith)
    go a (short c m d l) e = let n = same_number e in absurd (omega arith)
    go a (done c m d l) e = not_both (sym e)

-- 52 and 53 are told at the first name in trouble.
pub refused_by_names : (bs : List ℕ) (room n p : ℕ) → answer bs room ≡ refused n p → No.UNKNOWN ≤ n → n ≤ No.AGAIN
    → (i : ℕ) × InTrouble bs n i × (p ≡ place_at (tokens bs) i)
refused_by_names bs room n p e above below = go (answer bs room) (answer_met bs room) e
  where
    go : (a : Answer) → Met (tokens bs) (length bs) room a → a ≡ refused n p
        → (i : ℕ) × InTrouble bs n i × (p ≡ place_at (tokens bs) i)
    go a (misfit ts k ks f c l) e = let i = same_number e in absurd (omega arith)
    go a (trouble ts ks x f g t l) e =
        let w = name_in_trouble bs ts ks x f g t l in
        (w.0, subst (λ (m : ℕ). InTrouble bs m w.0) (same_number e) w.1, sym (same_place e) ∙ w.2)
    go a (cut ts k ks f c h m q d) e = let i = same_number e in absurd (omega arith)
    go a (over c m q d) e = let i = same_number e in absurd (omega arith)
    go a (short c m d l) e = let i = same_number e in absurd (omega arith)
    go a (done c m d l) e = not_both (sym e)

-- 54 is told where the checks refuse the records, those so far at a cut or all at the end.
pub refused_by_checks : (bs : List ℕ) (room p : ℕ) → answer bs room ≡ refused No.CHECKS p → Refused bs p
refused_by_checks bs room p e = go (answer bs room) (answer_met bs room) e
  where
    go : (a : Answer) → Met (tokens bs) (length bs) room a → a ≡ refused No.CHECKS p → Refused bs p
    go a (misfit ts k ks f c l) e = let n = same_number e in absurd (omega arith)
    go a (trouble ts ks x f g t l) e =
        let i = first_trouble [] (events (in_hand ts)) x t in let n = same_number e in absurd (omega (arith, i.told_to))
    go a (cut ts k ks f c h m q d) e = subst (Refused bs) (same_place e) (cut_refused bs ts k ks f c h m q d)
    go a (over c m q d) e = subst (Refused bs) (same_place e) (all_refused bs c m q d)
    go a (short c m d l) e = let n = same_number e in absurd (omega arith)
    go a (done c m d l) e = not_both (sym e)

-- d. 55 is told at the end of a text that says something, where there is no room for its file.
pub refused_by_room : (bs : List ℕ) (room p : ℕ) → answer bs room ≡ refused No.BUFFER p
    → (s : Said bs) × (p ≡ length bs) × (room < length (file s))
refused_by_room bs room p e = go (answer bs room) (answer_met bs room) e
  where
    go : (a : Answer) → Met (tokens bs) (length bs) room a → a ≡ refused No.BUFFER p
        → (s : Said bs) × (p ≡ length bs) × (room < length (file s))
    go a (misfit ts k ks f c l) e = let n = same_number e in absurd (omega arith)
    go a (trouble ts ks x f g t l) e =
        let i = first_trouble [] (events (in_hand ts)) x t in let n = same_number e in absurd (omega (arith, i.told_to))
    go a (cut ts k ks f c h m q d) e = let n = same_number e in absurd (omega arith)
    go a (over c m q d) e = let n = same_number e in absurd (omega arith)
    go a (short c m d l) e = (calm_said bs c m d, sym (same_place e), l)
    go a (done c m d l) e = not_both (sym e)

-- e. A refusal is one of 51 to 55, and its place lies in the text.
pub refused_in_the_text : (bs : List ℕ) (room n p : ℕ) → answer bs room ≡ refused n p
    → (No.GRAMMAR ≤ n) × (n ≤ No.BUFFER) × (p ≤ length bs)
refused_in_the_text bs room n p e = go (answer bs room) (answer_met bs room) e
  where
    in_part : (ts ks : List Placed) → tokens bs ≡ ts ++ ks → UpTo (length bs) ts × UpTo (length bs) ks
    in_part ts ks f = all_split (λ t. t.place ≤ length bs) ts ks (rw f at (in_the_text bs))

    go : (a : Answer) → Met (tokens bs) (length bs) room a → a ≡ refused n p
        → (No.GRAMMAR ≤ n) × (n ≤ No.BUFFER) × (p ≤ length bs)
    go a (misfit ts k ks f c l) e =
        let h = (in_part ts (k ∷ ks) f).1.0 in let i = same_number e in let q = same_place e in omega arith
    go a (trouble ts ks x f g t l) e =
        let i = first_trouble [] (events (in_hand ts)) x t in
        let h = place_up_to (length bs) (names_of ts) x.before (names_up_to (length bs) ts (in_part ts ks f).0) in
        let j = same_number e in
        let q = same_place e in
        omega (arith, i.told_from, i.told_to)
    go a (cut ts k ks f c b m q d) e =
        let us : List Placed = ts ++ (k ∷ []) in
        let h = place_up_to (length bs) us (owner_at q (records (in_hand us))) (in_part us ks f).0 in
        let i = same_number e in
        let r = same_place e in
        omega arith
    go a (over c m q d) e =
        let h = place_up_to (length bs) (tokens bs) (owner_at q (records (in_hand (tokens bs)))) (in_the_text bs) in
        let i = same_number e in
        let r = same_place e in
        omega arith
    go a (short c m d l) e = let i = same_number e in let q = same_place e in omega arith
    go a (done c m d l) e = not_both (sym e)

-- f. A text has one tree at most.
pub one_tree : (bs : List ℕ) (t u : Text) → spell_text t [] ≡ kinds (tokens bs) → spell_text u [] ≡ kinds (tokens bs) → t ≡ u
one_tree bs t u e f = one_reading t u (e ∙ sym f)

-- g. What is written is written wherever there is room for it,
pub enough_room : (bs : List ℕ) (room : ℕ) (out : List ℕ) → answer bs room ≡ written out → (other : ℕ) → length out ≤ other
    → answer bs other ≡ written out
enough_room bs room out e other l =
    written_in_rooms bs room out e other
    ∙ ap (λ (b : Bool). if b then written out else refused No.BUFFER (length bs)) (le-leb (length out) other l)

-- so with more room,
pub more_room : (bs : List ℕ) (room : ℕ) (out : List ℕ) → answer bs room ≡ written out → (other : ℕ) → room ≤ other
    → answer bs other ≡ written out
more_room bs room out e other l =
    let w = written_is_said bs room out e in enough_room bs room out e other (omega (arith, w.2))

-- and where there is less room than it is long the answer is 55.
pub too_little_room : (bs : List ℕ) (room : ℕ) (out : List ℕ) → answer bs room ≡ written out → (other : ℕ) → other < length out
    → answer bs other ≡ refused No.BUFFER (length bs)
too_little_room bs room out e other l =
    written_in_rooms bs room out e other
    ∙ ap (λ (b : Bool). if b then written out else refused No.BUFFER (length bs)) (lt-leb (length out) other l)

-- Every other refusal is the same with any room.
pub any_room : (bs : List ℕ) (room n p : ℕ) → answer bs room ≡ refused n p → n < No.BUFFER → (other : ℕ)
    → answer bs other ≡ refused n p
any_room bs room n p e l other = refused_in_rooms bs room n p e l other
