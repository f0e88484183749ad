-- One turn of each loop: over blanks and comments, along a word forwards and backwards, through the spellings.
-- Assumes nothing.
use Prim.Native.Nat.{ℕ, suc, ◌+◌, ◌*◌, ◌-◌, ◌^◌, ◌≤◌, ◌<◌, min}
use native.Mathlib.Numerals.{add-one}
use native.Mathlib.Nat.{lt_of_lt_of_le, pow-suc, pow-le-pow_right}
use native.Mathlib.Omega.{arith}
use mathlib.Core.Path.{◌≡◌, refl, sym, ◌∙◌, ap}
use mathlib.Core.List.{List, ◌∷◌}
use mathlib.Core.Bool.{Bool, true, false, ◌&&◌}
use borrow.Author.Tests.{eq-eqb, ne_eqb}
use lib.ListN.{length, drop, get_or, drop_of_length-le, get_or-eq_default}
use lib.Seq.{drop-cons}
use Rattle.semantics.specs.Words.{all}
use Rattle.text_semantics.specs.Numbers as No
use Rattle.text_semantics.specs.Lexing.{ZERO, BASE, is_word, is_digit, value_of, clear, tokens_from}
use Rattle.text_tokens.specs.Next.{part, solid}
use Rattle.text_tokens.specs.Parts.{passes, comments, Begins, WordAt}
use Rattle.text_tokens.specs.Parts.{BYTE, pack, spellings, SPELLED, longest_keyword, found}
use Rattle.text_tokens.specs.Tests.{and_both, all_more, value_more, part_first, part_more, part_none}
use Rattle.text_tokens.specs.Found.{found_here, found_later}
use Rattle.text_tokens.specs.Steps.{begun, passes_on, not_passed, ends_clear}

-- BLANKS AND COMMENTS. What is told from `at` on is told from i on, in a comment or not.
pub record Passing (bs : List ℕ) (at i : ℕ) (c : Bool) : Type 0 where
  pub from : at ≤ i
  pub within : i ≤ length bs
  pub tokens : tokens_from at clear (drop at bs) ≡ tokens_from i (begun c) (drop i bs)

module _ {bs : List ℕ} {at i : ℕ} {c : Bool} (p : Passing bs at i c) where
  pub passing_on : i < length bs → passes c (get_or bs i 0) ≡ true → Passing bs at (i + 1) (comments c (get_or bs i 0))
  passing_on h e = record {
    from = omega (arith, p.from);
    within = omega arith;
    tokens = p.tokens ∙ ap (tokens_from i (begun c)) (drop-cons bs i 0 h)
        ∙ passes_on i c (get_or bs i 0) (drop (suc i) bs) e ∙ rw (add-one i);
  }

  pub passing_stops : passes c (get_or bs i 0) ≡ false → Begins bs at i
  passing_stops e =
      let n = not_passed c (get_or bs i 0) e in
      record {
        from = p.from;
        within = p.within;
        tokens = p.tokens ∙ ap (λ t. tokens_from i (begun t) (drop i bs)) n.0;
        here = n.1;
      }

  pub passing_ends : length bs ≤ i → Begins bs at i
  passing_ends h =
      let none = drop_of_length-le bs h in
      record {
        from = p.from;
        within = p.within;
        tokens = p.tokens ∙ rw none (ends_clear i c);
        here = ap solid (get_or-eq_default bs 0 h);
      }

-- A WORD FORWARDS.
pub record Running (bs : List ℕ) (at end : ℕ) (digits : Bool) (value : ℕ) : Type 0 where
  pub from : at ≤ end
  pub within : end ≤ length bs
  pub run : all is_word (part at end bs) ≡ true
  pub digits_are : digits ≡ all is_digit (part at end bs)
  pub value_is : value ≡ value_of 0 (part at end bs)

pub run_begins : (bs : List ℕ) (at : ℕ) → at ≤ length bs → Running bs at at true 0
run_begins bs at h = record {
  from = omega arith;
  within = h;
  run = rw (part_none bs at);
  digits_are = rw (part_none bs at);
  value_is = rw (part_none bs at);
}

module _ {bs : List ℕ} {at end value : ℕ} {digits : Bool} (w : Running bs at end digits value) where
  pub runs_on : end < length bs → is_word (get_or bs end 0) ≡ true
      → Running bs at (end + 1) (digits && is_digit (get_or bs end 0)) (min No.beyond (BASE * value + (get_or bs end 0 - ZERO)))
  runs_on h e =
      let m = part_more bs at end w.from h in
      record {
        from = omega (arith, w.from);
        within = omega arith;
        run = rw (m, all_more is_word (part at end bs) (get_or bs end 0)) (and_both _ _ w.run e);
        digits_are = rw (m, all_more is_digit (part at end bs) (get_or bs end 0), w.digits_are);
        value_is = rw (m, value_more 0 (part at end bs) (get_or bs end 0), w.value_is);
      }

  pub run_stops : is_word (get_or bs end 0) ≡ false → WordAt bs at (record { end = end; digits = digits; value = value })
  run_stops e = record {
    from = w.from;
    within = w.within;
    run = w.run;
    stops = e;
    digits = w.digits_are;
    value = w.value_is;
  }

-- A WORD BACKWARDS. Of n bytes no more than BYTE ^ n keys can be made.
pub record Packing (bs : List ℕ) (at end key i : ℕ) : Type 0 where
  pub from : at ≤ i
  pub upto : i ≤ end
  pub key_is : key ≡ pack (part i end bs)
  pub small : key < BYTE ^ (end - i)

pub pack_begins : (bs : List ℕ) (at end : ℕ) → at ≤ end → Packing bs at end 0 end
pack_begins bs at end h =
    let z : end - end ≡ 0 = omega arith in
    record { from = h; upto = omega arith; key_is = rw (part_none bs end); small = rw z (omega arith) }

module _ {bs : List ℕ} {at end key i : ℕ} (p : Packing bs at end key i) where
  -- Seven bytes behind the first leave room for it.
  pub pack_room : at < i → end - at ≤ longest_keyword → key < BYTE ^ 7
  pack_room h l = lt_of_lt_of_le p.small (pow-le-pow_right (omega arith) {i = end - i} {j = 7} (omega arith))

  pub pack_on : (b : ℕ) → at < i → end ≤ length bs → b ≡ get_or bs (i - 1) 0 → b < BYTE
      → Packing bs at end (BYTE * key + b) (i - 1)
  pack_on b h l e k =
      let n : suc (i - 1) ≡ i = omega arith in
      let m : end - (i - 1) ≡ suc (end - i) = omega (arith, p.upto) in
      let f = part_first bs (i - 1) end (omega (arith, p.upto)) (omega (arith, p.upto)) in
      record {
        from = omega (arith, p.from);
        upto = omega (arith, p.upto);
        key_is = rw (f, n, ← e, ← p.key_is) (omega arith);
        small = rw (m, pow-suc BYTE (end - i)) (omega (arith, p.small));
      }

-- THE SPELLINGS.
spelled : length spellings ≡ SPELLED
unfolding spellings
spelled = refl

module _ (key other k to : ℕ) (h : k < to) (m : to ≤ SPELLED) where
  here : part k to spellings ≡ get_or spellings k 0 ∷ part (suc k) to spellings
  here = part_first spellings k to h (omega (arith, spelled))

  pub finds : key ≡ get_or spellings k 0 → found k other (part k to spellings) key ≡ k
  finds e = rw here (found_here k other (get_or spellings k 0) key (part (suc k) to spellings) (eq-eqb key (get_or spellings k 0) e))

  pub seeks : (key ≡ get_or spellings k 0 → ⊥)
      → found k other (part k to spellings) key ≡ found (k + 1) other (part (k + 1) to spellings) key
  seeks e =
      ap (λ ks. found k other ks key) here
      ∙ found_later k other (get_or spellings k 0) key (part (suc k) to spellings) (ne_eqb key (get_or spellings k 0) e)
      ∙ ap (λ n. found (k + 1) other (part n to spellings) key) (sym (add-one k))
