-- A line is four numbers, each with a mark behind it; lines are read one by one. Assumes nothing.
use Rattle.std.specs.Prelude.{◌≡◌, refl, List, [], ◌∷◌, ◌++◌, ℕ, zero, suc, ◌+◌, ◌*◌, ◌^◌, ◌-◌, ◌<◌, ℤ, length, take, drop}
use Rattle.std.specs.Fmt.{decimal as library_decimal, signed_decimal as library_signed}
use Rattle.std.specs.Int.{cast_unsigned, cast_signed}
use Rattle.std.proofs.Common.{sym, ◌∙◌, ap, append_assoc, append-nil, arith}
use Rattle.std.proofs.lemmas.List.{take_all, drop-drop, length-drop}
use Rattle.std.proofs.lemmas.Int.{of_z-to_z}
use mir.Syntax.{w32}
use Rattle.semantics.specs.Bytes.{u16, u32, signed}
use Rattle.base_numbers.specs.Line as Line
use Rattle.plan_text.specs.Text.{ascii, decimal, signed_decimal, line_text, lines_text}
use Rattle.plan_text.specs.Tells.{tell_in, tells_in}
use Rattle.plan_text.specs.Laws.{lines_append}
use Rattle.plan_text.proofs.Decimals.{same_decimal, same_signed}

-- A text put behind what was put behind a.
pub put_on : (a t u : List ℕ) {b c : List ℕ} → b ≡ a ++ t → c ≡ b ++ u → c ≡ a ++ (t ++ u)
put_on a t u e f = f ∙ ap (λ l. l ++ u) e ∙ append_assoc a t u

four_fields : (t p k : ℕ) (v : ℤ)
    → (((decimal t ++ ascii " ") ++ (decimal p ++ ascii " ")) ++ (decimal k ++ ascii " ")) ++ (signed_decimal v ++ ascii "\n")
    ≡ line_text (t, p, k, v)
unfolding line_text
four_fields t p k v = simp append_assoc

pub line_put : (j a : List ℕ) {t p k w : ℕ} {v : ℤ} {b c d e : List ℕ}
    → t ≡ u32 j Line.TIME_AT → p ≡ u32 j Line.PROCESS_AT → k ≡ u16 j Line.KIND_AT → w ≡ u32 j Line.VALUE_AT → v ≡ cast_signed w32 w
    → t < 2 ^ 32 → p < 2 ^ 32 → k < 2 ^ 32 → w < 2 ^ 32
    → b ≡ a ++ (library_decimal t ++ ascii " ") → c ≡ b ++ (library_decimal p ++ ascii " ")
    → d ≡ c ++ (library_decimal k ++ ascii " ") → e ≡ d ++ (library_signed (cast_signed w32 (cast_unsigned w32 v)) ++ ascii "\n")
    → e ≡ a ++ line_text (tell_in j)
line_put j a {t} {p} {k} {w} {v} te pe ke we ve tf pf kf wf put_t put_p put_k put_w =
    let read = ap (cast_signed w32) (ap (cast_unsigned w32) ve ∙ of_z-to_z w32 w wf) in
    let same_t = sym (same_decimal t (omega arith)) in
    let same_p = sym (same_decimal p (omega arith)) in
    let same_k = sym (same_decimal k (omega arith)) in
    let same_w = sym (same_signed w wf) in
    let fields : (((library_decimal t ++ ascii " ") ++ (library_decimal p ++ ascii " ")) ++ (library_decimal k ++ ascii " "))
    ++ (library_signed (cast_signed w32 (cast_unsigned w32 v)) ++ ascii "\n") ≡ line_text (t, p, k, signed w) =
    rw (read, same_t, same_p, same_k, same_w) (four_fields t p k (signed w)) in
    let told : line_text (t, p, k, signed w) ≡ line_text (tell_in j) = rw (te, pe, ke, we) refl in
    put_on a _ _ (put_on a _ _ (put_on a _ _ put_t put_p) put_k) put_w ∙ ap (λ l. a ++ l) (fields ∙ told)

-- LINES of the front of a journal: one more is that which the rest begins with.
last_line : (bs : List ℕ) (k : ℕ) → tells_in bs (suc k) ≡ tells_in bs k ++ tell_in (drop (Line.BYTES * k) bs) ∷ []
unfolding tells_in
last_line bs zero = refl
last_line bs (suc k) =
    let same : Line.BYTES + Line.BYTES * k ≡ Line.BYTES * suc k = omega arith in
    ap (λ ts. tell_in bs ∷ ts) (last_line (drop Line.BYTES bs) k)
    ∙ ap (λ b. tells_in bs (suc k) ++ tell_in b ∷ []) (drop-drop (Line.BYTES * k) Line.BYTES bs ∙ ap (λ n. drop n bs) same)

-- What `&s[n..]` is.
abbrev pub rest_of : List ℕ → ℕ → List ℕ
rest_of bs n = take (length bs - n) (drop n bs)

rest_is : (bs : List ℕ) (n : ℕ) → rest_of bs n ≡ drop n bs
rest_is bs n = take_all (length bs - n) (drop n bs) (omega (arith, length-drop n bs))

pub one_more : (bs : List ℕ) (k : ℕ) {text more : List ℕ} → text ≡ lines_text (tells_in bs k)
    → more ≡ text ++ line_text (tell_in (rest_of bs (Line.BYTES * k))) → more ≡ lines_text (tells_in bs (k + 1))
unfolding lines_text
one_more bs k {text} e f =
    let last = tell_in (drop (Line.BYTES * k) bs) in
    let next : suc k ≡ k + 1 = omega arith in
    f ∙ ap (λ b. text ++ line_text (tell_in b)) (rest_is bs (Line.BYTES * k)) ∙ ap (λ l. l ++ line_text last) e
    ∙ ap (λ l. lines_text (tells_in bs k) ++ l) (sym (append-nil (line_text last)))
    ∙ sym (lines_append (tells_in bs k) (last ∷ [])) ∙ sym (ap lines_text (last_line bs k))
    ∙ ap (λ n. lines_text (tells_in bs n)) next

pub one_line : (bs : List ℕ) → lines_text (tells_in bs 1) ≡ line_text (tell_in bs)
unfolding lines_text tells_in
one_line bs = append-nil (line_text (tell_in bs))
