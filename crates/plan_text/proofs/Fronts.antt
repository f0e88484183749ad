-- Texts put at the front of lent bytes, one behind the other. Assumes nothing.
use Rattle.std.specs.Prelude.{◌≡◌, refl, List, [], ◌++◌, ℕ, ◌+◌, ◌*◌, ◌-◌, ◌≤◌, length, take, drop}
use Rattle.std.proofs.Common.{sym, ◌∙◌, ap, subst, append_assoc, append-nil, arith, length-append}
use Rattle.std.proofs.lemmas.List.{take_at, take_all, drop_at, drop_all, drop-drop, length-drop}
use borrow.Rule.Slice.PartMut.{mid_of, post_of, put_mid}
use Rattle.base_numbers.specs.Line as Line
use Rattle.plan_text.specs.Text.{lines_text}
use Rattle.plan_text.specs.Tells.{tells_in}
use Rattle.plan_text.specs.Put.{Front}
use Rattle.plan_text.proofs.Fields.{rest_of, one_line, one_more}

-- Nothing is put.
pub none_front : (bs xs : List ℕ) → Front (lines_text (tells_in bs 0)) xs xs 0
unfolding lines_text tells_in
none_front bs xs = record { count = refl; bytes = refl; fits = omega arith }

-- One more text is put at the front of what is behind the first.
module _ {t u xs ys zs : List ℕ} {a r : ℕ} (k : ℕ) (p : Front t xs ys a) (q : Front u (mid_of a k ys) zs r)
    (e : k ≡ length ys - a) where
  rest_is : drop a ys ≡ drop a xs
  rest_is = ap (drop a) p.bytes ∙ drop_at t (drop a xs) a (sym p.count)

  part_is : mid_of a k ys ≡ drop a xs
  part_is = take_all k (drop a ys) (omega (arith, length-drop a ys)) ∙ rest_is

  front_is : take a ys ≡ t
  front_is = ap (take a) p.bytes ∙ take_at t (drop a xs) a (sym p.count)

  put_is : zs ≡ u ++ drop (a + r) xs
  put_is = q.bytes ∙ ap (λ l. u ++ drop r l) part_is ∙ ap (λ l. u ++ l) (drop-drop r a xs)

  none_behind : post_of a k ys ≡ []
  none_behind = drop_all k (drop a ys) (omega (arith, length-drop a ys))

  pub front_on : Front (t ++ u) xs (put_mid a k ys zs) (a + r)
  front_on =
      let whole : put_mid a k ys zs ≡ (t ++ u) ++ drop (a + r) xs =
      ap (λ l. take a ys ++ (zs ++ l)) none_behind ∙ ap (λ l. take a ys ++ l) (append-nil zs ∙ put_is)
      ∙ ap (λ l. l ++ (u ++ drop (a + r) xs)) front_is ∙ sym (append_assoc t u (drop (a + r) xs)) in record {
        count = omega (arith, p.count, q.count, length-append t u);
        bytes = whole;
        fits = omega (arith, p.count, q.count, length-append t u, ap length whole, length-append (t ++ u) (drop (a + r) xs));
      }

-- And one more line behind k lines.
pub line_on : (bs : List ℕ) (n : ℕ) {t xs ys zs : List ℕ} {a r : ℕ} (k : ℕ) → Front (lines_text (tells_in bs n)) xs ys a
    → t ≡ lines_text (tells_in (rest_of bs (Line.BYTES * n)) 1) → Front t (mid_of a k ys) zs r → k ≡ length ys - a
    → Front (lines_text (tells_in bs (n + 1))) xs (put_mid a k ys zs) (a + r)
line_on bs n {t} {xs} {ys} {zs} {a} {r} k p e q s =
    let more : lines_text (tells_in bs n) ++ t ≡ lines_text (tells_in bs (n + 1)) =
    one_more bs n refl (ap (λ l. lines_text (tells_in bs n) ++ l) (e ∙ one_line (rest_of bs (Line.BYTES * n)))) in
    subst (λ l. Front l xs (put_mid a k ys zs) (a + r)) more (front_on k p q s)
