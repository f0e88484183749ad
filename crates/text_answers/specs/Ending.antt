-- At the end of a text: the machine says of all its records what the definitions say.
-- Assumes nothing.
use Rattle.std.specs.Prelude.{ℕ, suc, ◌+◌, ◌<◌, ◌≡◌, refl, List, [], ◌∷◌, ◌++◌, map, Bool, true, false, ◌||◌, ◌⊎◌, eqb, leb, length, get_or, if◌then◌else◌}
use Rattle.std.proofs.Common.{arith, sym, ap₂, ◌∙◌, subst, inl, inr, eq-eqb}
use Rattle.std.proofs.Math.Path.{ap}
use Rattle.std.proofs.Math.Option.{none}
use Rattle.std.proofs.lemmas.List.{length-map, get_or_at}
use Rattle.semantics.specs.Words.{passed, any, keep, first_at}
use Rattle.semantics.specs.Kinds as K
use Rattle.semantics.specs.Model.{Model}
use Rattle.semantics.specs.Decode as D
use Rattle.promises.specs.Laws.{no_way, if_has, AllOf, all_map, all_both}
use Rattle.promises.specs.Counted.{group_of}
use Rattle.text_semantics.specs.Numbers as No
use Rattle.text_semantics.specs.Token.{Token}
use Rattle.text_semantics.specs.Lexing.{Placed, tokens}
use Rattle.text_semantics.specs.Grammar as G
use Rattle.text_semantics.specs.Grammar.{Text, spell_text}
use Rattle.text_semantics.specs.Names.{Known, events, after, trouble_in}
use Rattle.text_semantics.specs.Meaning.{Owned, declarations, records}
use Rattle.text_semantics.specs.Written.{file_of}
use Rattle.text_semantics.specs.Reading.{text_s}
use Rattle.text_semantics.specs.Answer.{Answer, refused, written, place_at, so_far, told, at_end}
use Rattle.text_machine.specs.Entry.{begin}
use Rattle.text_machine.specs.Sheet.{Sheet, with_first, blank, file}
use Rattle.text_machine.specs.Machine.{Reader, at_first, ended, lacking}
use Rattle.text_promises.specs.Met.{in_hand, Calm, end_is}
use Rattle.text_promises.specs.Said.{calm_spelled, calm_untroubled}
use Rattle.text_promises.specs.Places.{kinds}
use Rattle.text_promises.specs.Judged.{good}
use Rattle.text_promises.specs.Says.{Fits}
use Rattle.text_promises.specs.Fitting.{records_fit}
use Rattle.text_promises.specs.Truncated.{good_short}
use Rattle.text_agrees.specs.Flow.{effect, flow}
use Rattle.text_agrees.specs.Events.{Fewer, story}
use Rattle.text_agrees.specs.Tales.{story_text}
use Rattle.text_agrees.specs.Stages.{Comes, starts}
use Rattle.text_agrees.specs.Going.{Goes, tokens_of, Sits, goes_comes, goes_flow, goes_known, goes_fewer}
use Rattle.text_agrees.specs.Declared as De
use Rattle.text_agrees.specs.Declared.{reader, declared_all, text_reads}
use Rattle.text_agrees.specs.Laying.{Short}
use Rattle.text_agrees.specs.Adding.{is_class, class_lines, lines_append}
use Rattle.text_agrees.specs.Patches.{Tidy, tidy_all}
use Rattle.text_agrees.specs.Whole.{TextWrites, text_writes}
use Rattle.text_answers.specs.Cutting.{Accepted}
use Rattle.text_answers.specs.Lacking.{keep_append, a_class, unbodied, lacks_agree}
use Rattle.text_answers.specs.Decoded.{First, first_of, its_entry, all_accepted, in_length, passing, few_blocks}
use Rattle.text_answers.specs.Decoded.{all_bodied, past, all_parts, one_unbodied, its_owner}

-- There is always room on the sheet.
abbrev pub NeverFull : Type 0
NeverFull = (r : Reader) → Comes r → r.sheet.full ≡ false

-- THE CHECKS AT THE END agree.
abbrev pub EndAgrees : Type 0
EndAgrees =
    (bs : List ℕ) (room : ℕ) (r : Reader) → Goes at_first (tokens bs) r → Calm (tokens bs) → Accepted (tokens_of (tokens bs)) →
    ended r (length bs) room ≡ at_end (tokens bs) (length bs) room

-- TOKENS with and without their places.
pub kinds_are : (ts : List Placed) → kinds ts ≡ tokens_of ts
kinds_are [] = refl
kinds_are (k ∷ ts) = ap (λ (us : List Token). k.token ∷ us) (kinds_are ts)

pub sits_from : (place : ℕ → ℕ) (at : ℕ) (ts : List Placed) → ((i : ℕ) → i < length ts → place (at + i) ≡ place_at ts i) →
    Sits place at ts
sits_from place at [] h = tt
sits_from place at (k ∷ ts) h = (
  ap place (omega arith) ∙ h 0 (omega arith),
  sits_from place (suc at) ts (λ i l. ap place (omega arith) ∙ h (suc i) (omega arith)),
)

-- THE SHEET behind a text: the end doesn't change what is written.
first_same : {A : Type 0} (f : Sheet → A) → ((s : Sheet) (p : ℕ) → f (with_first s p) ≡ f s) → (p : ℕ) (s : Sheet)
    → f (De.first_at p s) ≡ f s
first_same f h p s = if_has (λ z. f z ≡ f s) (eqb s.total 0) (λ e. h s p) (λ e. refl)

first_file : (s : Sheet) (p : ℕ) → file (with_first s p) ≡ file s
unfolding file
first_file s p = refl

-- A reader with a pile and one without read a text alike: the pile is handed on beside it.
from_blank : (place : ℕ → ℕ) (t : Text) → flow place 0 (spell_text t []) (text_s ∷ []) at_first
    ≡ flow place 0 (spell_text t []) (text_s ∷ []) (reader [] [] 0 (begin 0 0 0) blank)
unfolding flow effect
from_blank place [] = refl
from_blank place (G.res x v ∷ ds) = refl
from_blank place (G.bin x v ∷ ds) = refl
from_blank place (G.sync x ∷ ds) = refl
from_blank place (G.var x v ∷ ds) = refl
from_blank place (G.sampler x a b v ∷ ds) = refl
from_blank place (G.class x b ∷ ds) = refl
from_blank place (G.entity x v ∷ ds) = refl

-- LISTS: tests told by their outcomes, and the first for which one holds.
module _ {A : Type 0} (f : A → Bool) where
  any_told : (xs : List A) → any f xs ≡ any (λ b. b) (map f xs)
  any_told [] = refl
  any_told (x ∷ xs) = ap (λ b. f x || b) (any_told xs)

  first_told : (xs : List A) → first_at f xs ≡ first_at (λ b. b) (map f xs)
  first_told [] = refl
  first_told (x ∷ xs) = ap (λ m. if f x then 0 else suc m) (first_told xs)

  none_any : (xs : List A) → AllOf (λ x. f x ≡ false) xs → any f xs ≡ false
  none_any [] h = refl
  none_any (x ∷ xs) h = rw h.0 (none_any xs h.1)

  none_kept : (g : A → Bool) (xs : List A) → AllOf (λ x. f x ≡ false) xs → AllOf (λ x. f x ≡ false) (keep g xs)
  none_kept g [] h = tt
  none_kept g (x ∷ xs) h =
      let i = none_kept g xs h.1 in if_has (AllOf (λ x. f x ≡ false)) (g x) (λ e. (h.0, i)) (λ e. i)

  -- .. behind those for which it doesn't.
  first_behind : (ps : List A) (x : A) (qs : List A) → AllOf (λ y. f y ≡ false) ps → f x ≡ true
      → (first_at f (ps ++ x ∷ qs) ≡ length ps) × (any f (ps ++ x ∷ qs) ≡ true)
  first_behind [] x qs h e = (rw e, rw e)
  first_behind (p ∷ ps) x qs h e =
      let i = first_behind ps x qs h.1 e in (rw h.0 (ap suc i.0), rw h.0 i.1)

-- Only classes lack a body.
any_class : (ks : List Known) → Tidy ks → any lacking ks ≡ any lacking (keep a_class ks)
any_class [] h = refl
any_class (k ∷ ks) h = go (a_class k) k.lacks refl refl (any_class ks (h.0.1, h.1.1))
  where
    go : (c l : Bool) → a_class k ≡ c → k.lacks ≡ l → any lacking ks ≡ any lacking (keep a_class ks)
        → (l || any lacking ks) ≡ any lacking (if c then k ∷ keep a_class ks else keep a_class ks)
    go true l e f i = ap₂ (λ a b. a || b) (sym f) i
    go false true e f i = no_way (sym e ∙ eq-eqb k.what K.CLASS (h.1.0 f))
    go false false e f i = i

-- BEHIND ALL TOKENS of a text that the machine went over, where every cut was accepted.
module _ (full : NeverFull) (bs : List ℕ) (r : Reader) (g : Goes at_first (tokens bs) r) (c : Calm (tokens bs))
    (accepted : Accepted (tokens_of (tokens bs))) where
  abbrev place : ℕ → ℕ
  place i = place_at (tokens bs) i

  abbrev t : Text
  t = in_hand (tokens bs)

  spelled : spell_text t [] ≡ tokens_of (tokens bs)
  spelled = calm_spelled bs c ∙ kinds_are (tokens bs)

  calm : trouble_in [] (events t) ≡ none
  calm = calm_untroubled bs c

  all_passed : so_far (file_of (records t)) ≡ D.accepted passed
  all_passed = all_accepted t (subst (λ ts. Accepted ts) (sym spelled) accepted)

  sits : Sits place 0 (tokens bs)
  sits = sits_from place 0 (tokens bs) (λ i l. ap place (omega arith))

  its_story : story place 0 (tokens_of (tokens bs)) (text_s ∷ []) at_first ≡ events t
  its_story = ap (λ ts. story place 0 ts (text_s ∷ []) at_first) (sym spelled) ∙ story_text place t

  -- What is known,
  knows_all : r.known ≡ after [] (events t)
  knows_all = goes_known place g sits ∙ ap (after []) its_story

  -- and what is written.
  abbrev z : Sheet
  z = declared_all place [] t 0 blank

  its_sheet : (p : ℕ) × (r.sheet ≡ De.first_at p z)
  its_sheet =
      let w = text_reads place t in (
        _,
        sym (ap (λ (y : Reader). y.sheet) (goes_flow place g sits))
            ∙ ap (λ ts. (flow place 0 ts (text_s ∷ []) at_first).sheet) (sym spelled)
            ∙ ap (λ (y : Reader). y.sheet) (from_blank place t ∙ w.3),
      )

  same_sheet : {A : Type 0} (f : Sheet → A) → ((s : Sheet) (p : ℕ) → f (with_first s p) ≡ f s) → f r.sheet ≡ f z
  same_sheet f h = ap f its_sheet.1 ∙ first_same f h its_sheet.0 z

  not_full : r.sheet.full ≡ false
  not_full = full r (goes_comes starts g)

  all_short : AllOf Short (records t)
  all_short =
      all_map (λ o. Fits o.entry × (good o.entry ≡ true)) Short
      (λ o h. let a = good_short o.entry h.0 h.1 in omega arith) (records t)
      (all_both (λ o. Fits o.entry) (λ o. good o.entry ≡ true) (records t) (records_fit t)
      (passing t calm all_passed).all_good)

  writes : TextWrites place t z
  writes =
      text_writes place t calm (subst (λ es. Fewer [] es) its_story (goes_fewer place g sits)) all_short

  sheet_not_full : z.full ≡ false
  sheet_not_full = sym (same_sheet (λ s. s.full) (λ s p. refl)) ∙ not_full

  its_file : file r.sheet ≡ file_of (records t)
  its_file = same_sheet file first_file ∙ writes.laid sheet_not_full

  its_total : r.sheet.total ≡ length (file_of (records t))
  its_total =
      let a = same_sheet (λ s. s.total) (λ s p. refl) in
      let b = writes.total in
      let l = in_length t calm all_passed in omega arith

  its_lines : r.sheet.class_line ≡ class_lines place (records t)
  its_lines = same_sheet (λ s. s.class_line) (λ s p. refl) ∙ (writes.classes (writes.few sheet_not_full)).0

  -- CLASSES WITHOUT A BODY, as the machine knows them and as the records say.
  abbrev ds : List Owned
  ds = declarations [] 0 0 t

  its_marks : map lacking (keep a_class r.known) ≡ map unbodied (keep is_class ds)
  its_marks =
      ap (λ ks. map lacking (keep a_class ks)) knows_all ∙ lacks_agree t (few_blocks t calm all_passed) calm

  any_lacks : any lacking r.known ≡ any unbodied (keep is_class ds)
  any_lacks =
      any_class r.known (subst (λ ks. Tidy ks) (sym knows_all) (tidy_all [] (events t) calm (tt, tt)))
      ∙ any_told lacking (keep a_class r.known) ∙ ap (any (λ b. b)) its_marks ∙ sym (any_told unbodied (keep is_class ds))

  first_lacks : first_at lacking (keep a_class r.known) ≡ first_at unbodied (keep is_class ds)
  first_lacks =
      first_told lacking (keep a_class r.known) ∙ ap (first_at (λ b. b)) its_marks
      ∙ sym (first_told unbodied (keep is_class ds))

  module _ (o : First unbodied ds) where
    abbrev before : List Owned
    before = keep is_class o.before

    is_class_lem : is_class o.at ≡ true
    is_class_lem = ap (λ e. eqb K.CLASS (group_of e)) (its_entry o.at.entry o.here)

    classes_are : keep is_class ds ≡ before ++ o.at ∷ keep is_class o.behind
    classes_are =
        ap (keep is_class) o.parts ∙ keep_append is_class o.before (o.at ∷ o.behind)
        ∙ ap (λ b. before ++ (if b then o.at ∷ keep is_class o.behind else keep is_class o.behind)) is_class_lem

    found : (first_at unbodied (keep is_class ds) ≡ length before) × (any unbodied (keep is_class ds) ≡ true)
    found =
        subst (λ xs. (first_at unbodied xs ≡ length before) × (any unbodied xs ≡ true)) (sym classes_are)
        (first_behind unbodied before o.at (keep is_class o.behind) (none_kept unbodied is_class o.before o.others)
        o.here)

    -- It is told at its first line.
    lines_are : class_lines place (records t)
        ≡ class_lines place o.before ++ place o.at.owner ∷ class_lines place (past t calm all_passed o)
    lines_are =
        ap (class_lines place) (all_parts t calm all_passed o)
        ∙ lines_append place o.before (o.at ∷ past t calm all_passed o)
        ∙ ap (λ b. class_lines place o.before
        ++ map (λ p. place p.owner) (if b then o.at ∷ keep is_class (past t calm all_passed o)
        else keep is_class (past t calm all_passed o))) is_class_lem

    told_at : get_or r.sheet.class_line (first_at lacking (keep a_class r.known)) 0 ≡ place o.at.owner
    told_at =
        ap₂ (λ ls i. get_or ls i 0) (its_lines ∙ lines_are) (first_lacks ∙ found.0)
        ∙ get_or_at (class_lines place o.before) (place o.at.owner) _ 0 (length before) (length-map before _)

  -- THE ANSWERS.
  module _ (room : ℕ) where
    abbrev len : ℕ
    len = length bs

    abbrev given : List ℕ → ℕ → Answer
    given xs m = if leb m room then written xs else refused No.BUFFER len

    -- The machine,
    abbrev place_of_class : ℕ
    place_of_class = get_or r.sheet.class_line (first_at lacking (keep a_class r.known)) 0

    ends : (b : Bool) → any lacking r.known ≡ b
        → ended r len room ≡ (if b then refused No.CHECKS place_of_class else given (file r.sheet) r.sheet.total)
    unfolding ended
    ends b e =
        ap (λ f. if f then refused No.CHECKS 0 else if any lacking r.known then refused No.CHECKS place_of_class
        else given (file r.sheet) r.sheet.total) not_full
        ∙ ap (λ a. if a then refused No.CHECKS place_of_class else given (file r.sheet) r.sheet.total) e

    -- and the definitions.
    is_told : {o : D.Checked Model} → D.decode (file_of (records t)) ≡ o → at_end (tokens bs) len room
        ≡ told (tokens bs) (records t) o (λ m. given (file_of (records t)) (length (file_of (records t))))
    is_told e =
        end_is (tokens bs) len room
        ∙ ap (λ x. told (tokens bs) (records t) x (λ m. given (file_of (records t)) (length (file_of (records t))))) e

    by_classes : AllOf (λ o. unbodied o ≡ false) ds ⊎ First unbodied ds → ended r len room ≡ at_end (tokens bs) len room
    by_classes (inl h) =
        ends false (any_lacks ∙ none_any unbodied (keep is_class ds) (none_kept unbodied is_class ds h))
        ∙ ap₂ given its_file its_total ∙ sym (is_told (all_bodied t calm all_passed h))
    by_classes (inr o) =
        ends true (any_lacks ∙ (found o).1)
        ∙ ap (λ p. refused No.CHECKS p) (told_at o ∙ ap place (sym (its_owner t calm all_passed o)))
        ∙ sym (is_told (one_unbodied t calm all_passed o))

    ends_agree : ended r len room ≡ at_end (tokens bs) len room
    ends_agree = by_classes (first_of unbodied ds)

pub end_agrees : NeverFull → EndAgrees
end_agrees full bs room r g c accepted = ends_agree full bs r g c accepted room
