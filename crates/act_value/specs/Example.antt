-- An expression that can be read, so that what `evaluate` asks can be met: the variable 0 and 3, where the variable is -5.
-- Assumes nothing.
use Rattle.std.specs.Prelude.{ℕ, ◌≡◌, refl, List, [], ◌∷◌, map, ℤ, pos, negsuc, replicate}
use Rattle.std.proofs.Common.{arith}
use Rattle.semantics.specs.Numbers as No
use Rattle.semantics.specs.Words.{ok, ◌>>=◌, ◌>>◌, need}
use Rattle.semantics.specs.Model.{Model}
use Rattle.semantics.specs.Record.{expression_in}
use Rattle.promises.specs.Laws.{all_replicate}
use Rattle.promises.specs.Fit.{I32}
use Rattle.base_numbers.specs.Limit as Limit
use Rattle.base_i32.specs.Code.{code}
use Rattle.act_value.specs.Parts.{eval_in}
use Rattle.act_value.specs.Reading.{Ready, pad}

-- add, global 0, literal 3
abbrev sum : List ℕ
sum = 3 ∷ 0 ∷ 0 ∷ 0 ∷ 0 ∷ 0 ∷ 1 ∷ 0 ∷ 0 ∷ 0 ∷ 0 ∷ 0 ∷ 0 ∷ 0 ∷ 3 ∷ 0 ∷ 0 ∷ 0 ∷ []

abbrev variables : List ℤ
variables = negsuc 4 ∷ []

abbrev locals : List ℤ
locals = replicate No.locals (pos 0)

abbrev one_variable : Model
one_variable =
    record { totals = []; amounts = []; syncs = 0; vars = pos 0 ∷ []; classes = []; blocks = []; entities = []; samplers = [] }

abbrev unused : List ℕ
unused = replicate Limit.SAMPLERS 0

can_be_read : Ready sum (pad Limit.THINGS 0 (map code variables)) (pad No.locals 0 (map code locals)) unused unused unused 0
unfolding expression_in
can_be_read =
    record {
      to_read =
          record {
            model = one_variable;
            gs = variables;
            ls = locals;
            is_sized = refl;
            is_valid = refl;
            fits = (omega arith, omega arith);
            samplers_fit = tt;
            few_vars = omega arith;
            few_samplers = omega arith;
            vars_many = refl;
            locals_many = refl;
            lowest_many = refl;
            values_many = refl;
            globals_ok = (omega arith, tt);
            locals_ok = all_replicate I32 No.locals (pos 0) (omega arith);
            clock_ok = omega arith;
            shows_globals = refl;
            shows_locals = refl;
            shows_lowest = λ i h. absurd (omega arith);
            shows_values = λ i h. absurd (omega arith);
          };
      ds = [];
      seeds_ok = record { many = refl; each = tt };
      shows_seeds = refl;
    }

its_value : eval_in one_variable variables locals 0 (expression_in sum) [] ≡ ok (negsuc 1)
unfolding expression_in eval_in ◌>>=◌ ◌>>◌ need
its_value = refl
