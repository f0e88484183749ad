-- The decimals of the library are those of the text. Assumes nothing.
use Rattle.std.specs.Prelude.{◌≡◌, refl, Bool, true, false, [], ◌∷◌, ◌++◌, ℕ, suc, ◌+◌, ◌-◌, ◌%◌, ◌^◌, ◌<◌, ltb}
use Rattle.std.specs.Fmt.{decimal as library_decimal, signed_decimal as library_signed}
use Rattle.std.specs.Int.{cast_signed}
use Rattle.std.proofs.Common.{◌∙◌, ap, arith}
use Rattle.std.proofs.lemmas.Fmt.{decimal_by_steps}
use mir.Syntax.{w32}
use Rattle.semantics.specs.Bytes.{signed}
use Rattle.base_numbers.specs.Code as Code
use Rattle.plan_text.specs.Text.{BASE, ZERO, decimal, signed_decimal}
use Rattle.plan_text.specs.Laws.{decimal_digit, decimal_more}

pub same_decimal : (n : ℕ) → n < 2 ^ 64 → decimal n ≡ library_decimal n
same_decimal = decimal_by_steps (λ n ds. decimal n ≡ ds) (λ n h. decimal_digit n h)
    (λ n ds h e. decimal_more n h ∙ ap (λ l. l ++ ((ZERO + n % BASE) ∷ [])) e)

-- A number read as two's complement.
pub same_signed : (n : ℕ) → n < 2 ^ 32 → signed_decimal (signed n) ≡ library_signed (cast_signed w32 n)
unfolding signed_decimal
same_signed n h = by (ltb n Code.ZERO) refl
  where
    by : (t : Bool) → ltb n Code.ZERO ≡ t → signed_decimal (signed n) ≡ library_signed (cast_signed w32 n)
    by true e = rw e (same_decimal n (omega arith))
    by false e =
        let same : Code.HIGHEST - n ≡ 2 ^ 32 - suc n = omega arith in
        rw e (ap (λ l. 45 ∷ l)
        (same_decimal (suc (Code.HIGHEST - n)) (omega arith) ∙ ap (λ k. library_decimal (suc k)) same))
