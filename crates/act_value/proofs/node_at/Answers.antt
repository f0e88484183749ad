-- `act_value::node_at` meets its contract. Assumes nothing.
use Prim.Native.Nat.{ℕ}
use mathlib.Core.List.{List}
use mathlib.Core.Path.{◌∙◌, ap}
use Rattle.semantics.specs.Bytes.{u16, u32}
use Rattle.act_value.proofs.Prefix.{cut_node}
use Rattle.act_value.proofs.node_at.Goals as goal

pub returns : goal.returns
returns c = let e = cut_node c.args.bs.now c.args.k c.requires in
    record {
      has_op = c.u16_at-op.ensures.0 ∙ ap (λ (n : List ℕ). u16 n 0) e;
      has_operand = c.u32_at-operand.ensures ∙ ap (λ (n : List ℕ). u32 n 2) e;
    }
