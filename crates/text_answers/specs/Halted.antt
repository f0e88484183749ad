-- At a cut: what was to come there, what the machine looks at, and how that is told from what the tokens make of its reader.
-- Assumes nothing.
use Rattle.std.specs.Prelude.{ℕ, zero, suc, ◌+◌, ◌<◌, ◌≡◌, refl, Bool, true, false, not, ◌&&◌, ◌||◌, T, eqb, get_or, if◌then◌else◌}
use Rattle.std.proofs.Common.{arith, ◌∙◌, eqb-true, ltb-true}
use Rattle.std.proofs.Math.Path.{sym, ap, subst}
use mathlib.Core.List.{List, [], ◌∷◌, ◌++◌, append-nil}
use Rattle.std.proofs.Math.Option.{none, some}
use Rattle.std.proofs.Math.ListN.{length}
use Rattle.semantics.specs.Words as W
use Rattle.semantics.specs.Kinds as K
use Rattle.promises.specs.Laws.{no_way, or-true}
use Rattle.text_semantics.specs.Token as Tk
use Rattle.text_semantics.specs.Token.{Token, mark, bad}
use Rattle.text_semantics.specs.Table.{Rule}
use Rattle.text_semantics.specs.Reading.{Symbol, Terminal, Val, Row, Of, say, rows, step, token, one, the, a_name, a_number}
use Rattle.text_semantics.specs.Reading.{factor_s, minus_s, more, signed_s, relation_s, item_s, claim_s, items_s, gives_s, given_s}
use Rattle.text_semantics.specs.Reading.{actions_s, try_s, few_s, lines_s, body_s, text_s, sign, Closer, semi}
use Rattle.text_semantics.specs.Answer.{is_cut}
use Rattle.text_machine.specs.Entry.{Draft}
use Rattle.text_machine.specs.Sheet as S
use Rattle.text_machine.specs.Sheet.{Sheet}
use Rattle.text_machine.specs.Machine.{Reader, at_first, sheet_after, after, faulty, over_limit, cut_at, is_declaration, done}
use Rattle.text_agrees.specs.Flow.{effect, flow}
use Rattle.text_agrees.specs.Events.{Clue, clue_of, piled_from, flow-append}
use Rattle.text_agrees.specs.Clues.{led, clue_effect}
use Rattle.text_agrees.specs.Counts.{is_body}
use Rattle.text_agrees.specs.Seen.{saw_declares, saw_acts}
use Rattle.text_agrees.specs.Tallies.{more_at}
use Rattle.text_agrees.specs.Height.{Each, found_rule}
use Rattle.text_agrees.specs.Closing.{Semicolon, more_cut}
use Rattle.text_agrees.specs.Tested.{is_body_lem}
use Rattle.text_answers.specs.Acted.{Ending, semicolon, closer, brace}

-- WHAT IS TO COME AT A CUT: nothing else is.
pub data Halts : Symbol → Type 0 where
  at_semicolon : Halts (sign Tk.SEMI)
  at_brace : Halts (sign Tk.LB)
  behind_factor : (n : ℕ) (c : Closer) → Halts (more n c)
  locals : (n : ℕ) → Halts (few_s n)
  class : Halts body_s

abbrev cuts : Terminal → Bool
cuts (the k) = eqb k Tk.SEMI || eqb k Tk.LB
cuts a_name = false
cuts (a_number b) = false

abbrev uncut : {s : Symbol} → List (Row s) → Bool
uncut [] = true
uncut (w ∷ ws) = not (cuts w.first) && uncut ws

cut_first : (x : Terminal) (v : Val x) → is_cut (token x v) ≡ cuts x
cut_first (the k) v = refl
cut_first a_name v = refl
cut_first (a_number b) v = refl

uncut_rows : {s : Symbol} (ws : List (Row s)) → T (uncut ws) → Each (λ t ns. is_cut t ≡ false) ws
uncut_rows [] h = tt
uncut_rows (w ∷ ws) h = go (cuts w.first) refl h (λ k. uncut_rows ws k)
  where
    go : (b : Bool) → cuts w.first ≡ b → T (not b && uncut ws) → (T (uncut ws) → Each (λ t ns. is_cut t ≡ false) ws) →
        Each (λ t ns. is_cut t ≡ false) (w ∷ ws)
    go true e k f = absurd k
    go false e k f = (λ v. cut_first w.first v ∙ e, f k)

module _ {s : Symbol} {t : Token} (x : Rule Of say s t) (h : is_cut t ≡ true) (e : step s t ≡ some x) where
  never : T (uncut (rows s)) → Halts s
  never u = no_way (sym (found_rule (λ t ns. is_cut t ≡ false) x (uncut_rows (rows s) u) e) ∙ h)

sign_halts : (k : ℕ) {t : Token} (x : Rule Of say (one (the k)) t) → is_cut t ≡ true → step (one (the k)) t ≡ some x →
    Halts (one (the k))
sign_halts k {t} x h e =
    found_rule (λ u ns. is_cut u ≡ true → Halts (one (the k))) x (
      λ v q.
          or-true (eqb k Tk.SEMI) (eqb k Tk.LB) q (Halts (one (the k)))
          (λ f. subst (λ i. Halts (one (the i))) (sym (eqb-true k Tk.SEMI f)) at_semicolon)
          (λ f. subst (λ i. Halts (one (the i))) (sym (eqb-true k Tk.LB f)) at_brace),
      tt,
    ) e h

pub ending_halts : {j : ℕ} {s : Symbol} → Ending j s → Halts s
ending_halts semicolon = at_semicolon
ending_halts (closer n) = behind_factor n semi
ending_halts brace = at_brace

pub halts : (s : Symbol) {t : Token} (x : Rule Of say s t) → is_cut t ≡ true → step s t ≡ some x → Halts s
halts (one (the k)) x h e = sign_halts k x h e
halts (one a_name) x h e = never x h e tt
halts (one (a_number b)) x h e = never x h e tt
halts (factor_s zero) x h e = never x h e tt
halts (factor_s (suc d)) x h e = never x h e tt
halts (minus_s zero) x h e = never x h e tt
halts (minus_s (suc d)) x h e = never x h e tt
halts (more n c) x h e = behind_factor n c
halts signed_s x h e = never x h e tt
halts relation_s x h e = never x h e tt
halts item_s x h e = never x h e tt
halts claim_s x h e = never x h e tt
halts items_s x h e = never x h e tt
halts gives_s x h e = never x h e tt
halts given_s x h e = never x h e tt
halts actions_s x h e = never x h e tt
halts try_s x h e = never x h e tt
halts (few_s n) x h e = locals n
halts lines_s x h e = never x h e tt
halts body_s x h e = class
halts text_s x h e = never x h e tt

pub not_text : (s : Symbol) → Halts s → s ≡ text_s → ⊥
not_text _ at_semicolon e = let w : ◌≡◌ {A = ℕ} 0 1 = cc in omega arith
not_text _ at_brace e = let w : ◌≡◌ {A = ℕ} 0 1 = cc in omega arith
not_text _ (behind_factor n c) e = let w : ◌≡◌ {A = ℕ} 0 1 = cc in omega arith
not_text _ (locals n) e = let w : ◌≡◌ {A = ℕ} 0 1 = cc in omega arith
not_text _ class e = let w : ◌≡◌ {A = ℕ} 0 1 = cc in omega arith

-- WHAT IS LOOKED AT there: the limits, and whether the record is right, but for that of a class.
abbrev pub fault_at : Symbol → Sheet → Draft → Bool
fault_at s z d = if is_body s then false else faulty z d

pub cut_is : (r : Reader) (d : Draft) (s : Symbol) {t : Token} (z : Sheet) (x : Rule Of say s t) → is_cut t ≡ true →
    step s t ≡ some x → ((n : ℕ) → s ≡ few_s n → ⊥) → cut_at r d s t z ≡ over_limit z d (fault_at s r.sheet d)
unfolding cut_at
cut_is r d s {t} z x h e f = go s x (halts s x h e) e f
  where
    go : (s : Symbol) (x : Rule Of say s t) → Halts s → step s t ≡ some x → ((n : ℕ) → s ≡ few_s n → ⊥) →
        cut_at r d s t z ≡ over_limit z d (fault_at s r.sheet d)
    go _ x at_semicolon e f = refl
    go _ x at_brace e f = refl
    go _ x (behind_factor n c) e f = rw (found_rule (λ u ns. Semicolon u) x (more_cut n c) e h)
    go _ x (locals n) e f = absurd (f n refl)
    go _ x class e f = refl

-- Locals are looked at nowhere.
pub local_uncut : (r : Reader) (d : Draft) (n : ℕ) (t : Token) (z : Sheet) → cut_at r d (few_s n) t z ≡ none
unfolding cut_at
local_uncut r d n t z = refl

-- TOLD FROM THE READER. How many blocks are open then, whatever token comes instead.
abbrev clue : ℕ → Clue
clue n = record { role = 0; starting = false; called = []; depth = n }

depth_is : (s : Symbol) (c : Clue) (t : Token) → (led c s t).depth ≡ (led (clue c.depth) s t).depth
unfolding led
depth_is (one (the k)) c t = refl
depth_is (one a_name) c t = refl
depth_is (one (a_number b)) c t = refl
depth_is (factor_s n) c t = refl
depth_is (minus_s n) c t = refl
depth_is (more n k) c t = refl
depth_is signed_s c t = refl
depth_is relation_s c t = refl
depth_is item_s c t = refl
depth_is claim_s c t = refl
depth_is items_s c t = refl
depth_is gives_s c t = refl
depth_is given_s c t = refl
depth_is actions_s c t = refl
depth_is try_s c t = refl
depth_is (few_s n) c t = refl
depth_is lines_s c t = refl
depth_is body_s c t = refl
depth_is text_s c t = refl

-- It stays, or there is one more; of a class line that depends on the token.
abbrev deeper : Symbol → Token → ℕ → ℕ
deeper s t n = (led (clue n) s t).depth

at_line : {j : ℕ} {s : Symbol} → Ending j s → (t : Token) (n : ℕ) → deeper s t n ≡ n + j
unfolding led
at_line semicolon t n = omega arith
at_line (closer m) t n = omega arith
at_line brace t n = omega arith

at_factor : (m : ℕ) (c : Closer) (t : Token) (n : ℕ) → deeper (more m c) t n ≡ n
unfolding led
at_factor m c t n = refl

at_locals : (m : ℕ) (t : Token) (n : ℕ) → deeper (few_s m) t n ≡ n
unfolding led
at_locals m t n = refl

at_class : (n : ℕ) → (deeper body_s bad n ≡ suc n) × (deeper body_s (mark Tk.SEMI) n ≡ n)
unfolding led
at_class n = (refl, refl)

-- A record that is written down is counted.
done_counts : (d : Draft) (z : Sheet) → length z.seen ≡ K.groups →
    (g : ℕ) × (get_or (done d z).seen g 0 ≡ suc (get_or z.seen g 0))
done_counts d z l = go (is_declaration d) refl
  where
    one_more : (g : ℕ) → g < K.groups → get_or (W.more z.seen g 1) g 0 ≡ suc (get_or z.seen g 0)
    one_more g i = let a = more_at z.seen g (omega arith) in omega arith

    go : (b : Bool) → is_declaration d ≡ b →
        (g : ℕ) × (get_or (if b then S.declares d z else S.acts d z).seen g 0 ≡ suc (get_or z.seen g 0))
    go true e =
        let i = ltb-true d.kind K.ACTION e in
        (d.kind, ap (λ xs. get_or xs d.kind 0) (saw_declares d z).is ∙ one_more d.kind (omega arith))
    go false e = (K.ACTION, ap (λ xs. get_or xs K.ACTION 0) (saw_acts d z).is ∙ one_more K.ACTION (omega arith))

abbrev Semi : Reader → Symbol → ℕ → Reader
Semi r s i = effect r s (mark Tk.SEMI) i

semicolon_sheet : (r : Reader) (i : ℕ) → (Semi r (sign Tk.SEMI) i).sheet ≡ done (Semi r (sign Tk.SEMI) i).draft r.sheet
unfolding effect sheet_after after
semicolon_sheet r i = refl

factor_sheet : (r : Reader) (n : ℕ) (c : Closer) (i : ℕ) →
    (Semi r (more n c) i).sheet ≡ done (Semi r (more n c) i).draft r.sheet
unfolding effect sheet_after after
factor_sheet r n c i = refl

local_sheet : (r : Reader) (n i : ℕ) → (Semi r (few_s n) i).sheet ≡ r.sheet
unfolding effect sheet_after after
local_sheet r n i = refl

abbrev Told : Symbol → Type 0
Told y = (r : Reader) (i : ℕ) → (Semi r y i).sheet ≡ done (Semi r y i).draft r.sheet

tells : {s : Symbol} → Ending 0 s → Told s
tells semicolon = semicolon_sheet
tells (closer n) = λ r i. factor_sheet r n semi i

module _ (place : ℕ → ℕ) (ts : List Token) (s : Symbol) (ss : List Symbol) (p : piled_from ts (text_s ∷ []) ≡ s ∷ ss) where
  abbrev pub before : Reader
  before = flow place 0 ts (text_s ∷ []) at_first

  pub with_token : (t : Token) → flow place 0 (ts ++ (t ∷ [])) (text_s ∷ []) at_first ≡ effect before s t (place (0 + length ts))
  unfolding flow
  with_token t =
      flow-append place 0 ts (t ∷ []) (text_s ∷ []) at_first
      ∙ ap (λ zs. flow place (0 + length ts) (t ∷ []) zs before) p

  -- Whatever follows, the tokens lead to this symbol, and to a reader of which P holds.
  abbrev pub Arrives : Symbol → (Reader → Type 0) → Type 0
  Arrives top P =
      (us : List Token) → (q : Reader) × (n : ℕ) × (vs : List Symbol) × P q
      × (flow place 0 (ts ++ us) (text_s ∷ []) at_first ≡ flow place n us (top ∷ vs) q)

  module _ (top : Symbol) (P : Reader → Type 0) (a : Arrives top P) where
    pub is_left : P before
    unfolding flow
    is_left =
        let x = a [] in
        subst P (sym (ap (λ us. flow place 0 us (text_s ∷ []) at_first) (sym (append-nil ts)) ∙ x.4)) x.3

    pub with_other : (t : Token) → (q : Reader) × (n : ℕ) × P q
        × (effect before s t (place (0 + length ts)) ≡ effect q top t (place n))
    unfolding flow
    with_other t = let x = a (t ∷ []) in (x.0, x.1, x.3, sym (with_token t) ∙ x.4)

    -- With one sheet, as deep as at that symbol; and records are counted.
    module _ (z : Sheet) (on : (q : Reader) → P q → q.sheet ≡ z) where
      abbrev depth : ℕ
      depth = length z.levels

      pub same_depth : (t : Token) → deeper s t depth ≡ deeper top t depth
      same_depth t =
          let x = with_other t in
          let i = ap (λ (y : Sheet). length y.levels) (on before is_left) in
          let j = ap (λ (y : Sheet). length y.levels) (on x.0 x.2) in
          let u = clue_effect before t (place (0 + length ts)) s in
          let v = clue_effect x.0 t (place x.1) top in
          ap (λ n. deeper s t n) (sym i) ∙ sym (depth_is s (clue_of before) t) ∙ ap (λ (c : Clue). c.depth) (sym u)
          ∙ ap (λ (c : Clue). c.depth) (ap clue_of x.3) ∙ ap (λ (c : Clue). c.depth) v ∙ depth_is top (clue_of x.0) t
          ∙ ap (λ n. deeper top t n) j

      module _ (l : length z.seen ≡ K.groups) where
        no_done : (d : Draft) → z ≡ done d z → ⊥
        no_done d e = let x = done_counts d z l in omega (arith, x.1, ap (λ (y : Sheet). get_or y.seen x.0 0) e)

        -- Where a record is written, no locals are declared; and the other way round.
        no_locals : (n : ℕ) → s ≡ few_s n → Told top → ⊥
        no_locals n e told =
            let x = with_other (mark Tk.SEMI) in
            let i = on x.0 x.2 in
            no_done (Semi x.0 top (place x.1)).draft
            (sym (on before is_left) ∙ sym (local_sheet before n (place (0 + length ts)))
            ∙ ap (λ y. (Semi before y (place (0 + length ts))).sheet) (sym e) ∙ ap (λ (y : Reader). y.sheet) x.3
            ∙ told x.0 (place x.1) ∙ ap (λ y. done (Semi x.0 top (place x.1)).draft y) i)

        no_record : (n : ℕ) → top ≡ few_s n → Told s → ⊥
        no_record n e told =
            let x = with_other (mark Tk.SEMI) in
            let i = on before is_left in
            no_done (Semi before s (place (0 + length ts))).draft
            (sym (on x.0 x.2) ∙ sym (local_sheet x.0 n (place x.1))
            ∙ ap (λ y. (Semi x.0 y (place x.1)).sheet) (sym e) ∙ ap (λ (y : Reader). y.sheet) (sym x.3)
            ∙ told before (place (0 + length ts)) ∙ ap (λ y. done (Semi before s (place (0 + length ts))).draft y) i)

        -- SO IT IS THAT SYMBOL, or one at which the same is looked at.
        not_class : {j : ℕ} → Ending j top → s ≡ body_s → ⊥
        not_class {j} e f =
            let c = at_class depth in
            omega (
              arith,
              ap (λ y. deeper y bad depth) f,
              ap (λ y. deeper y (mark Tk.SEMI) depth) f,
              same_depth bad,
              same_depth (mark Tk.SEMI),
              at_line e bad depth,
              at_line e (mark Tk.SEMI) depth,
              c.0,
              c.1,
            )

        not_locals : {j : ℕ} → Ending j top → (n : ℕ) → s ≡ few_s n → ⊥
        not_locals {j = zero} e n f = no_locals n f (tells e)
        not_locals {j = suc j} e n f =
            omega (arith, ap (λ y. deeper y bad depth) f, same_depth bad, at_line e bad depth, at_locals n bad depth)

        pub is_line : {j : ℕ} → Ending j top → (is_body s ≡ false) × ((n : ℕ) → s ≡ few_s n → ⊥)
        is_line e = (go (is_body s) refl, not_locals e)
          where
            go : (b : Bool) → is_body s ≡ b → b ≡ false
            go true f = absurd (not_class e (is_body_lem s f))
            go false f = refl

        pub is_class : top ≡ body_s → Halts s → s ≡ body_s
        is_class f h =
            let c = at_class depth in
            only s h refl (omega (arith, ap (λ y. deeper y bad depth) f, same_depth bad, c.0))
            (omega (arith, ap (λ y. deeper y (mark Tk.SEMI) depth) f, same_depth (mark Tk.SEMI), c.1))
          where
            only : (y : Symbol) → Halts y → s ≡ y → deeper s bad depth ≡ suc depth →
                deeper s (mark Tk.SEMI) depth ≡ depth → s ≡ body_s
            only _ at_semicolon e u v = absurd (omega (arith, ap (λ y. deeper y bad depth) e, at_line semicolon bad depth))
            only _ at_brace e u v =
                absurd (omega (arith, ap (λ y. deeper y (mark Tk.SEMI) depth) e, at_line brace (mark Tk.SEMI) depth))
            only _ (behind_factor n k) e u v =
                absurd (omega (arith, ap (λ y. deeper y bad depth) e, at_factor n k bad depth))
            only _ (locals n) e u v = absurd (omega (arith, ap (λ y. deeper y bad depth) e, at_locals n bad depth))
            only _ class e u v = e

        pub is_local : (m : ℕ) → top ≡ few_s m → Halts s → (n : ℕ) × (s ≡ few_s n)
        is_local m f h =
            only s h refl (omega (arith, ap (λ y. deeper y bad depth) f, same_depth bad, at_locals m bad depth))
          where
            only : (y : Symbol) → Halts y → s ≡ y → deeper s bad depth ≡ depth → (n : ℕ) × (s ≡ few_s n)
            only _ at_semicolon e u = absurd (no_record m f (subst Told (sym e) semicolon_sheet))
            only _ at_brace e u = absurd (omega (arith, ap (λ y. deeper y bad depth) e, at_line brace bad depth))
            only _ (behind_factor n k) e u = absurd (no_record m f (subst Told (sym e) (λ r i. factor_sheet r n k i)))
            only _ (locals n) e u = (n, e)
            only _ class e u = absurd (omega (arith, ap (λ y. deeper y bad depth) e, (at_class depth).0))
