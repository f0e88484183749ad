-- `text_entry::insert_node` meets its contract. Assumes nothing.
use Rattle.std.specs.Prelude.{◌≡◌, ◌++◌, take, drop, replicate}
use Rattle.std.specs.List.{insert}
use Rattle.std.proofs.Common.{arith, sym, ap, ◌∙◌, add-one, append_assoc}
use Rattle.text_semantics.specs.Written.{node}
use Rattle.text_entry.specs.Laws.{inserted, node_front}
use Rattle.text_entry.proofs.insert_node.Goals as goal

pub loop-zeros-preserved : goal.loop-zeros-preserved
loop-zeros-preserved c = let a = c.args in
    let l = c.loop-zeros in
    let xs = a.body.now.items in
    c.insert.ensures.items ∙ ap (λ ys. insert ys a.at 0) l.invariant
    ∙ inserted a.at 0 xs (replicate l.zeros 0 ++ drop a.at xs) c.requires.in_bounds
    ∙ ap (λ n. take a.at xs ++ (replicate n 0 ++ drop a.at xs)) (sym (add-one l.zeros))

pub returns : goal.returns
returns c = let a = c.args in
    let xs = a.body.now.items in
    let ys = drop a.at xs in
    let all : c.loop-zeros.zeros ≡ 5 = omega (arith, c.loop-zeros.auto, c.loop-zeros-test.false) in
    c.insert-2.ensures.items ∙ ap (λ zs. insert zs a.at a.op) c.loop-zeros.invariant
    ∙ ap (λ n. insert (take a.at xs ++ (replicate n 0 ++ ys)) a.at a.op) all
    ∙ inserted a.at a.op xs (replicate 5 0 ++ ys) c.requires.in_bounds
    ∙ ap (λ zs. take a.at xs ++ zs) (node_front a.op ys c.ranges.op.fits)
    ∙ sym (append_assoc (take a.at xs) (node a.op 0) ys)
