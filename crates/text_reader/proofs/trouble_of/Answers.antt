-- Trouble at a token, by the sort of what was still to come. Assumes nothing.
use Rattle.std.proofs.Common.{arith}
use Rattle.text_reader.specs.declared.sort.Sort.TheVariants as S
use Rattle.text_reader.specs.Named.{sort_number}
use Rattle.text_reader.proofs.Finds.{other_number}
use Rattle.text_reader.proofs.Troubles.{body_semi, plain_token, no_sign, no_name_there, kinds_ask}
use Rattle.text_reader.proofs.trouble_of.Goals as goal

pub returns-in-Body : goal.returns-in-Body
returns-in-Body c = λ ks v x y d e f.
    rw (c.in-Body.is, c.if-kind-eq-SEMI.true) (body_semi ks c.args.role v x y f c.announces_trouble.ensures)

pub returns-then-kind-ne-NAME : goal.returns-then-kind-ne-NAME
returns-then-kind-ne-NAME c = λ ks v x y d e f.
    no_sign ks c.args.role v x y (sort_number c.args.sort) c.args.kind c.if-kind-eq-SEMI.false c.if-kind-ne-NAME.true

pub returns-in-Named : goal.returns-in-Named
returns-in-Named c = λ ks v x y d e f.
    rw (c.in-Named.is, c.if-kind-ne-NAME.false) (c.name_trouble.ensures ks x d (e c.if-kind-ne-NAME.false))

pub returns-in-Value : goal.returns-in-Value
returns-in-Value c = λ ks v x y d e f.
    rw (c.in-Value.is, c.if-kind-ne-NAME.false)
    (kinds_ask ks c.args.role v x y d (e c.if-kind-ne-NAME.false) _ c.asks_trouble.ensures)

pub returns-in-Variable : goal.returns-in-Variable
returns-in-Variable c = λ ks v x y d e f.
    rw (c.in-Variable.is, c.if-kind-ne-NAME.false)
    (kinds_ask ks c.args.role v x y d (e c.if-kind-ne-NAME.false) _ c.asks_trouble-in-Variable.ensures)

pub returns-in-Block : goal.returns-in-Block
returns-in-Block c = λ ks v x y d e f.
    rw (c.in-Block.is, c.if-kind-ne-NAME.false)
    (kinds_ask ks c.args.role v x y d (e c.if-kind-ne-NAME.false) _ c.asks_trouble-in-Block.ensures)

pub returns-in_default : goal.returns-in_default
returns-in_default c = λ ks v x y d e f.
    plain_token ks c.args.role v x y (sort_number c.args.sort) c.args.kind
    (other_number c.args.sort S.Body c.in_default.not-Body) (λ q. omega (arith, q))

pub returns-in_default-sort : goal.returns-in_default-sort
returns-in_default-sort c = λ ks v x y d e f.
    let s = c.args.sort in
    rw c.if-kind-ne-NAME.false
    (no_name_there ks c.args.role v x y (sort_number s) (other_number s S.Named c.in_default-sort.not-Named)
    (other_number s S.Value c.in_default-sort.not-Value) (other_number s S.Variable c.in_default-sort.not-Variable)
    (other_number s S.Block c.in_default-sort.not-Block))
