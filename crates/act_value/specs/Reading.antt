-- What the value of an expression is read from, and what has been read of it: its nodes in prefix order, against the pile.
-- Assumes nothing.
use Rattle.std.specs.Prelude.{ℕ, ◌+◌, ◌-◌, ◌≤◌, ◌<◌, ◌≡◌, List, [], ◌∷◌, ◌++◌, map, Bool, true, length, get_or, drop, replicate, ℤ, ◌+ℤ◌, ◌-ℤ◌, ◌*ℤ◌, if◌then◌else◌}
use Rattle.std.proofs.Math.Option.{Option, none, some}
use Rattle.semantics.specs.Words.{Outcome, ok, fails}
use Rattle.semantics.specs.Numbers as No
use Rattle.semantics.specs.Model.{Model, Expr, sampler}
use Rattle.semantics.specs.Generator.{next_seed, values_in, drawn}
use Rattle.semantics.specs.Bytes.{u16, u32, signed}
use Rattle.semantics.specs.Record.{nodes, pile, the_tree, expression, sized, valid, expression_in}
use Rattle.semantics.specs.Value.{in_range}
use Rattle.promises.specs.Laws.{AllOf}
use Rattle.promises.specs.Fit.{I32, ExprFit, SamplerFit}
use Rattle.promises.specs.Sound.{SeedsOk}
use Rattle.base_numbers.specs.Limit as Limit
use Rattle.base_numbers.specs.Code as Code
use Rattle.base_i32.specs.Code.{code, value_of, value_in, smaller, larger}
use Rattle.act_value.specs.Parts.{eval_in, draws_of}
use Rattle.act_value.specs.declared.Node.{Node}
use Rattle.act_value.specs.declared.Tree.{Tree}

-- A list in a row of n places: what is not used is a.
abbrev pub pad : {A : Type 0} → ℕ → A → List A → List A
pad n a xs = xs ++ replicate (n - length xs) a

-- The bytes bs are an expression of the model, the rows show its variables gs and a process's locals ls by their codes, and what
-- its samplers draw from; t is the clock. (That the ops are known and the operands right is not needed to read the nodes one
-- after the other, but may be where it is done in another way.)
pub record Readable (bs globals locals lowest values : List ℕ) (t : ℕ) : Type 0 where
  pub model : Model
  pub gs : List ℤ
  pub ls : List ℤ
  pub is_sized : sized expression bs ≡ true
  pub is_valid : valid expression bs ≡ true
  pub fits : ExprFit model (expression_in bs)
  pub samplers_fit : AllOf SamplerFit model.samplers
  pub few_vars : length model.vars ≤ Limit.THINGS
  pub few_samplers : length model.samplers ≤ Limit.SAMPLERS
  pub vars_many : length gs ≡ length model.vars
  pub locals_many : length ls ≡ No.locals
  pub lowest_many : length lowest ≡ Limit.SAMPLERS
  pub values_many : length values ≡ Limit.SAMPLERS
  pub globals_ok : AllOf I32 gs
  pub locals_ok : AllOf I32 ls
  pub clock_ok : t ≤ No.latest
  pub shows_globals : globals ≡ pad Limit.THINGS 0 (map code gs)
  pub shows_locals : locals ≡ pad No.locals 0 (map code ls)
  pub shows_lowest : (i : ℕ) → i < length model.samplers → get_or lowest i 0 ≡ code (sampler model i).lowest
  pub shows_values : (i : ℕ) → i < length model.samplers
      → get_or values i 0 ≡ values_in (sampler model i).lowest (sampler model i).highest

-- And the seeds of its samplers are ds.
pub record Ready (bs globals locals lowest values seeds : List ℕ) (t : ℕ) : Type 0 where
  pub to_read : Readable bs globals locals lowest values t
  pub ds : List ℕ
  pub seeds_ok : SeedsOk to_read.model ds
  pub shows_seeds : seeds ≡ pad Limit.SAMPLERS 0 ds

-- The number at i of a row is there, and is a code.
pub record HasCode (row : List ℕ) (i : ℕ) : Type 0 where
  pub there : i < length row
  pub is_code : get_or row i 0 < Code.CODES

-- Sampler i can be drawn from: it has a seed, and a value or more, all of them with codes.
pub record Sampled (lowest values seeds : List ℕ) (i : ℕ) : Type 0 where
  pub has_lowest : i < length lowest
  pub has_values : i < length values
  pub has_seed : i < Limit.SAMPLERS
  pub seed_fits : get_or seeds i 0 ≤ Limit.SEED
  pub not_empty : 1 ≤ get_or values i 0
  pub inside : get_or lowest i 0 + get_or values i 0 ≤ Code.CODES

-- Its seed moved on; the code of what is drawn then.
abbrev pub moved_on : List ℕ → ℕ → ℕ
moved_on seeds i = next_seed (get_or seeds i 0)

abbrev pub drawn_code : List ℕ → List ℕ → List ℕ → ℕ → ℕ
drawn_code lowest values seeds i =
    code (drawn (value_of (get_or lowest i 0)) (value_of (get_or lowest i 0 + get_or values i 0 - 1)) (moved_on seeds i))

-- The code of a leaf's value, by its op and operand.
unfoldable pub leaf_code : List ℕ → List ℕ → ℕ → ℕ → ℕ → ℕ
leaf_code globals locals t op v =
    get_or (code (signed v) ∷ get_or globals v 0 ∷ get_or locals v 0 ∷ []) op (Code.ZERO + t)

-- The value of an op 3 to 7 over the values of its operands; given that both have one.
abbrev pub two_by : ℕ → ℤ → ℤ → Outcome ℤ
two_by i x y =
    get_or (in_range (x +ℤ y) ∷ in_range (x -ℤ y) ∷ in_range (x *ℤ y) ∷ ok (smaller x y) ∷ []) i (ok (larger x y))

unfoldable pub of_two : ℕ → ℤ → ℤ → Outcome ℤ
of_two op x y = two_by (op - 3) x y

abbrev pub given : Bool → Outcome ℤ → Outcome ℤ
given t o = if t then o else fails No.SUM

-- What is left of a pile below its first tree.
abbrev pub the_rest : Option (List Expr) → Option (List Expr)
the_rest none = none
the_rest (some []) = some []
the_rest (some (e ∷ es)) = some es

-- What stands at node k of bs.
pub record Stands (bs : List ℕ) (k : ℕ) (r : Node) : Type 0 where
  pub has_op : r.op ≡ u16 (get_or (nodes bs) k []) 0
  pub has_operand : r.operand ≡ u32 (get_or (nodes bs) k []) 2

module _ {bs globals locals lowest values : List ℕ} {t : ℕ} (w : Readable bs globals locals lowest values t) where
  -- The value of an expression there, from the seeds ds; the tree that begins at node k.
  abbrev pub worth : Expr → List ℕ → Outcome ℤ
  worth e ds = eval_in w.model w.gs w.ls t e ds

  abbrev pub tree_at : ℕ → Expr
  tree_at k = the_tree (pile (drop k (nodes bs)))

  -- That tree has been read from the seeds ds: its value, the node after it, from where on the rest is piled, and the seeds as
  -- they are now.
  pub record Read (k : ℕ) (ds : List ℕ) (r : Tree) (seeds : List ℕ) : Type 0 where
    pub has : r.value ≡ value_in (worth (tree_at k) ds)
    pub onward : k < r.next
    pub inside : r.next ≤ length (nodes bs)
    pub rest : pile (drop r.next (nodes bs)) ≡ the_rest (pile (drop k (nodes bs)))
    pub drew : seeds ≡ pad Limit.SAMPLERS 0 (draws_of (tree_at k) ds)
