-- The counts of the first pass: an accepted file has as many records of each group as its model has things of it, and no more
-- than the table allows.
-- Assumes nothing.
use Rattle.std.specs.Prelude.{ℕ, zero, suc, ◌+◌, ◌≤◌, ◌<◌, ◌≡◌, refl, List, [], ◌∷◌, length, get_or}
use Rattle.std.proofs.Common.{arith, zero-add, add_comm, add-suc, add-one, sym, ap, ◌∙◌, length-set}
use Rattle.semantics.specs.Words.{more}
use Rattle.semantics.specs.Numbers as No
use Rattle.semantics.specs.Kinds as K
use Rattle.semantics.specs.Bytes.{Raw, raw, torn}
use Rattle.semantics.specs.Record.{Entry, RES, BIN, SYNC, VAR, CLASS, BLOCK, ENTITY, SAMPLER, ACTION, Row, table, row_of}
use Rattle.semantics.specs.Decode.{accepted, saw, first_pass, none_seen, opened, Gathered, adds, gather}
use Rattle.promises.specs.Laws.{AllOf, all_get, all_replicate, over, once, once_same, once_self, more_at}
use Rattle.promises.specs.Passes.{not_accepted, TwoPasses, first_on, its_row}

-- GROUPS. The group that an entry is of, and how many records there may be of each.
abbrev pub group_of : Entry → ℕ
group_of (RES n) = K.RES
group_of (BIN n) = K.BIN
group_of SYNC = K.SYNC
group_of (VAR v) = K.VAR
group_of (CLASS b) = K.CLASS
group_of BLOCK = K.BLOCK
group_of (ENTITY x) = K.ENTITY
group_of (SAMPLER x) = K.SAMPLER
group_of (ACTION a) = K.ACTION

abbrev pub limits : List ℕ
limits =
    0 ∷ No.most_things ∷ No.most_things ∷ No.most_things ∷ No.most_things ∷ No.most_classes ∷ No.most_blocks ∷ No.most_entities
    ∷ No.most_samplers ∷ 0 ∷ 0 ∷ 0 ∷ 0 ∷ 0 ∷ 0 ∷ 0 ∷ No.most_actions ∷ []

-- Every row says entries of its group, the counts have its group, its limit is its group's, and it opens a block exactly if its
-- group does.
abbrev Says : List ℕ → Row → Type 0
Says bs r = group_of (r.says bs) ≡ r.group

abbrev Countable : Row → Type 0
Countable r = r.group < K.groups

abbrev Limited : Row → Type 0
Limited r = r.most ≡ get_or limits r.group 0

abbrev Opens : ℕ → Row → Type 0
Opens own r = opened own r.kind ≡ opened own r.group

rows_say : (bs : List ℕ) → AllOf (Says bs) table
rows_say = omega arith

rows_countable : AllOf Countable table
rows_countable = omega arith

rows_limited : AllOf Limited table
rows_limited = omega arith

rows_open : (own : ℕ) → AllOf (Opens own) table
rows_open = omega arith

pub opens : (k : ℕ) (bs : List ℕ) (own : ℕ) → 0 < (row_of k).group → opened own k ≡ opened own (group_of ((row_of k).says bs))
opens k bs own g =
    let a = (its_row (Says bs) (rows_say bs) k g).0 in
    let b = its_row (Opens own) (rows_open own) k g in
    ap (opened own) b.1 ∙ b.0 ∙ ap (opened own) (sym a)

-- COUNTS. How many records of each group make a gathered model. One more record is one more of its group.
abbrev pub counts : Gathered → List ℕ
counts g =
    0 ∷ length g.model.totals ∷ length g.model.amounts ∷ g.model.syncs ∷ length g.model.vars
    ∷ length g.model.classes ∷ length g.model.blocks ∷ length g.model.entities
    ∷ length g.model.samplers ∷ 0 ∷ 0 ∷ 0 ∷ 0 ∷ 0 ∷ 0 ∷ 0 ∷ (over length g.model.blocks + length g.loose) ∷ []

one_more : (g : Gathered) (e : Entry) → counts (adds g e) ≡ more (counts g) (group_of e) 1
one_more g (RES n) = simp (zero-add, add-one)
one_more g (BIN n) = simp (zero-add, add-one)
one_more g SYNC = rw (add_comm 1 g.model.syncs)
one_more g (VAR v) = simp (zero-add, add-one)
one_more g (CLASS b) = simp (zero-add, add-one)
one_more g BLOCK =
    let e : over length (g.loose ∷ g.model.blocks) + 0 ≡ over length g.model.blocks + length g.loose = omega arith in
    rw (add-one, e)
one_more g (ENTITY x) = simp (zero-add, add-one)
one_more g (SAMPLER x) = simp (zero-add, add-one)
one_more g (ACTION a) = simp (add-one, add-suc)

-- THE FIRST PASS counts what it reads, and stays within the limits.
abbrev Inside : List ℕ → Type 0
Inside seen = (j : ℕ) → get_or seen j 0 ≤ get_or limits j 0

still_inside : (seen : List ℕ) (i : ℕ) → i < length seen → get_or seen i 0 < get_or limits i 0 → Inside seen
    → Inside (more seen i 1)
still_inside seen i h l s j = go (once j i) refl
  where
    at : get_or (more seen i 1) j 0 ≡ get_or seen j 0 + once j i
    at = more_at seen i 1 j h

    go : (o : ℕ) → once j i ≡ o → get_or (more seen i 1) j 0 ≤ get_or limits j 0
    go zero e = omega (arith, at, s j)
    go (suc o) e =
        let d = once_same j i (omega arith) in
        let o = ap (λ x. once x i) d in
        let a = ap (λ x. get_or seen x 0) d in
        let b = ap (λ x. get_or limits x 0) d in
        omega (arith, at, once_self i)

none_yet : (j : ℕ) → get_or none_seen j 0 ≡ 0
none_yet j = all_get (λ x. x ≡ 0) none_seen j 0 (all_replicate (λ x. x ≡ 0) K.groups 0 refl) refl

first_counts : (seen : List ℕ) (rs : List Raw) (n : List ℕ) → length seen ≡ K.groups → Inside seen
    → first_pass seen rs ≡ accepted n → (j : ℕ)
    → (get_or n j 0 ≡ get_or seen j 0 + get_or (counts (gather rs)) j 0) × (get_or n j 0 ≤ get_or limits j 0)
unfolding first_pass gather
first_counts seen [] n h s e j =
    let d : seen ≡ n = cc in
    let at = ap (λ x. get_or x j 0) d in
    let z = none_yet j in
    let l = s j in
    (omega arith, omega arith)
first_counts seen (torn at ∷ rs) n h s e j = not_accepted e
first_counts seen (raw at k bs ∷ rs) n h s e j =
    let g : ℕ = (row_of k).group in
    let x : Entry = (row_of k).says bs in
    let a = first_on at k bs rs seen n e in
    let d = a.0 in
    let i = (its_row Countable rows_countable k d.grouped).0 in
    let l = (its_row Limited rows_limited k d.grouped).0 in
    let y = (its_row (Says bs) (rows_say bs) k d.grouped).0 in
    let t = still_inside seen g (omega arith) (omega arith) s in
    let ih = first_counts (saw seen k) rs n (length-set seen g _ ∙ h) t a.1 j in
    let b = more_at seen g 1 j (omega arith) in
    let c = ap (λ xs. get_or xs j 0) (one_more (gather rs) x) ∙ more_at (counts (gather rs)) (group_of x) 1 j (omega arith) in
    let o = ap (once j) y in
    (omega arith, ih.1)

pub counted : (rs : List Raw) (p : TwoPasses rs) (j : ℕ)
    → (get_or p.seen j 0 ≡ get_or (counts (gather rs)) j 0) × (get_or (counts (gather rs)) j 0 ≤ get_or limits j 0)
counted rs p j =
    let c = first_counts none_seen rs p.seen refl (λ i. omega (arith, none_yet i)) p.first j in
    omega (arith, none_yet j)
