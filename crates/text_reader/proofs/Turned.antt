-- What the pile and a refusal tell of a token. Assumes nothing.
use Rattle.std.specs.Prelude.{ℕ, ◌≡◌, List, true, false, Result, Ok, Err, is_err}
use Rattle.std.proofs.Common.{arith, sym}
use Rattle.std.proofs.Math.Path.{refl}
use Rattle.std.proofs.Math.Option.{none, some}
use Rattle.text_machine.specs.Codes.{token_of}
use Rattle.text_pile.specs.declared.Misfit.{Misfit}
use Rattle.text_pile.specs.Pile.{Turns, stack_of, turned_of}
use Rattle.text_names.specs.declared.Trouble.{Trouble}
use Rattle.text_names.specs.declared.Trouble.TheVariants as T
use Rattle.text_names.specs.Trouble as Names
use Rattle.text_reader.specs.Reason.{number_of, reason_of}

module _ (p : List ℕ) (kind v : ℕ) (q : List ℕ) (x : List ℕ) where
  pub pile_refused : (r : Result (Unit {0}) Misfit) → Turns p kind v r q → true ≡ is_err r
      → turned_of (stack_of p) (token_of kind v x) ≡ none
  pile_refused (Ok u) t e = absurd (let z : ◌≡◌ {A = ℕ} 0 1 = cc in omega arith)
  pile_refused (Err f) t e = sym (t.answer x)

  pub pile_taken : (r : Result (Unit {0}) Misfit) → Turns p kind v r q → false ≡ is_err r
      → turned_of (stack_of p) (token_of kind v x) ≡ some (stack_of q)
  pile_taken (Ok u) t e = sym (t.answer x)
  pile_taken (Err f) t e = absurd (let z : ◌≡◌ {A = ℕ} 0 1 = cc in omega arith)

pub trouble_number : (t : Trouble) → Names.number_of t ≡ number_of (reason_of t)
trouble_number T.Unknown = refl
trouble_number T.Again = refl
