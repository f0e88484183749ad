-- The place at which a record begins, and its owner: what is refused there is told at the declaration or action that wrote it.
-- Assumes nothing.
use Rattle.std.specs.Prelude.{ℕ, zero, suc, ◌+◌, ◌-◌, ◌≡◌, List, [], ◌∷◌, ◌++◌, length, take}
use Rattle.std.proofs.Common.{arith, ap, ◌∙◌, lt-ltb, le-ltb, length-append}
use Rattle.std.proofs.Math.Option.{some}
use Rattle.std.proofs.Math.ListN.{get_elem?}
use Rattle.semantics.specs.Bytes.{raw}
use Rattle.promises.specs.Laws.{not_some}
use Rattle.text_semantics.specs.Meaning.{Owned}
use Rattle.text_semantics.specs.Written.{kind_of, body_of, bytes_of, file_of, owner_at}
use Rattle.text_promises.specs.Cuts.{raws_from, bytes_long}

-- What stands behind others begins where these end.
pub raws_append : (at : ℕ) (ps qs : List Owned)
    → raws_from at (ps ++ qs) ≡ raws_from at ps ++ raws_from (at + length (file_of ps)) qs
raws_append at [] qs = let e : at + 0 ≡ at = omega arith in rw e
raws_append at (p ∷ ps) qs =
    let l = length-append (bytes_of p.entry) (file_of ps) in
    let e : at + length (bytes_of p.entry) + length (file_of ps) ≡ at + length (file_of (p ∷ ps)) = omega arith in
    ap (λ rs. raw at (kind_of p.entry) (body_of p.entry) ∷ rs)
    (raws_append (at + length (bytes_of p.entry)) ps qs
    ∙ ap (λ n. raws_from (at + length (bytes_of p.entry)) ps ++ raws_from n qs) e)

-- The record with so many before it.
pub raw_at : (at i : ℕ) (os : List Owned) (o : Owned) → get_elem? os i ≡ some o
    → get_elem? (raws_from at os) i ≡ some (raw (at + length (file_of (take i os))) (kind_of o.entry) (body_of o.entry))
raw_at at i [] o e = not_some e
raw_at at zero (p ∷ os) o e = let z : p ≡ o = cc in let s : at + 0 ≡ at = omega arith in rw (z, s)
raw_at at (suc i) (p ∷ os) o e =
    let l = length-append (bytes_of p.entry) (file_of (take i os)) in
    let s : at + length (bytes_of p.entry) + length (file_of (take i os)) ≡ at + length (file_of (take (suc i) (p ∷ os))) =
    omega arith in
    raw_at (at + length (bytes_of p.entry)) i os o e ∙ ap (λ n. some (raw n (kind_of o.entry) (body_of o.entry))) s

-- ITS OWNER is the one that it was written with.
pub owner_behind : (ps : List Owned) (o : Owned) (qs : List Owned) → owner_at (length (file_of ps)) (ps ++ o ∷ qs) ≡ o.owner
unfolding owner_at
owner_behind [] o qs =
    let l = bytes_long o.entry in rw (lt-ltb 0 (length (bytes_of o.entry)) (omega arith))
owner_behind (p ∷ ps) o qs =
    let l = length-append (bytes_of p.entry) (file_of ps) in
    let d : length (file_of (p ∷ ps)) - length (bytes_of p.entry) ≡ length (file_of ps) = omega arith in
    rw (le-ltb (length (file_of (p ∷ ps))) (length (bytes_of p.entry)) (omega arith), d) (owner_behind ps o qs)

pub owner_at_lem : (i : ℕ) (os : List Owned) (o : Owned) → get_elem? os i ≡ some o
    → owner_at (length (file_of (take i os))) os ≡ o.owner
unfolding owner_at
owner_at_lem i [] o e = not_some e
owner_at_lem zero (p ∷ os) o e =
    let z : p ≡ o = cc in
    let l = bytes_long p.entry in
    rw (lt-ltb 0 (length (bytes_of p.entry)) (omega arith)) (ap (λ x. x.owner) z)
owner_at_lem (suc i) (p ∷ os) o e =
    let l = length-append (bytes_of p.entry) (file_of (take i os)) in
    let d : length (file_of (take (suc i) (p ∷ os))) - length (bytes_of p.entry) ≡ length (file_of (take i os)) =
    omega arith in
    rw (le-ltb (length (file_of (take (suc i) (p ∷ os)))) (length (bytes_of p.entry)) (omega arith), d)
    (owner_at_lem i os o e)
