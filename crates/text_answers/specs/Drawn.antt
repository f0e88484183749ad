-- When the draft of the machine's reader is a record, and what the machine's test of the draft says then.
-- Assumes nothing.
use Rattle.std.specs.Prelude.{ℕ, ◌+◌, ◌≡◌, List, [], Bool, ◌&&◌, ◌||◌, ltb, length, get_or, set, if◌then◌else◌}
use Rattle.std.proofs.Common.{arith, sym, ◌∙◌, get_or-set_same, get_or-set_other, ltb-true}
use Rattle.std.proofs.Math.Path.{refl, ap}
use Rattle.std.proofs.Math.Bool.{true, false, not}
use Rattle.semantics.specs.Words.{Outcome, ok, fails, Passed, passed}
use Rattle.semantics.specs.Kinds as K
use Rattle.semantics.specs.Model as M
use Rattle.semantics.specs.Model.{Action}
use Rattle.semantics.specs.Record as R
use Rattle.semantics.specs.Record.{Entry}
use Rattle.semantics.specs.Decode.{none_seen, judged, placed}
use Rattle.promises.specs.Laws.{no_way}
use Rattle.promises.specs.Counted.{group_of}
use Rattle.text_semantics.specs.Meaning.{Owned, owned}
use Rattle.text_semantics.specs.Written.{kind_of, body_of, action_body}
use Rattle.text_machine.specs.Entry.{Draft, KEPT, begin, put}
use Rattle.text_machine.specs.Sheet.{Sheet}
use Rattle.text_machine.specs.Machine.{counts_for, faulty}
use Rattle.text_machine.specs.Machine as Ma
use Rattle.text_promises.specs.Judged.{passes, good, most, stands, judged_is, spoilt, declares}
use Rattle.text_promises.specs.Says.{Fits}
use Rattle.text_promises.specs.Truncated.{good_short}
use Rattle.text_agrees.specs.Actions.{wrote}

-- A DRAFT THAT IS A RECORD: it begins where its line does, and has its kind and its body, unless that is more than is kept.
pub record Drawn (place : ℕ → ℕ) (d : Draft) (o : Owned) : Type 0 where
  pub line : d.line ≡ place o.owner
  pub kind : d.kind ≡ kind_of o.entry
  pub over : d.over ≡ ltb KEPT (length (body_of o.entry))
  pub body : d.over ≡ false → d.body ≡ body_of o.entry

-- A body that was put into a draft.
put_body : (x : Bool) (bs : List ℕ) → x ≡ false → ◌≡◌ {A = List ℕ} (if x then [] else bs) bs
put_body true bs e = no_way (sym e)
put_body false bs e = refl

pub drawn_put : (place : ℕ → ℕ) (e : Entry) (at role : ℕ) (bs : List ℕ) → bs ≡ body_of e →
    Drawn place (put (begin (place at) (kind_of e) role) bs) (owned e at)
unfolding put
drawn_put place e at role bs h =
    let z : 0 + length bs ≡ length bs = omega arith in
    record {
      line = refl;
      kind = refl;
      over = ap (λ n. ltb KEPT n) z ∙ ap (λ cs. ltb KEPT (length cs)) h;
      body = λ f. put_body (ltb KEPT (0 + length bs)) bs f ∙ h;
    }

pub drawn_wrote : (place : ℕ → ℕ) (a : Action) (at : ℕ) → Drawn place (wrote (place at) a) (owned (R.ACTION a) at)
unfolding body_of
drawn_wrote place a at = drawn_put place (R.ACTION a) at 0 (action_body a) refl

-- THE TEST of it is the first pass of the checks.
same_passes : (o : Outcome Passed) → Ma.passes o ≡ passes o
same_passes (ok passed) = refl
same_passes (fails n) = refl

module _ {place : ℕ → ℕ} {d : Draft} {o : Owned} (h : Drawn place d o) (fits : Fits o.entry) (s : Sheet) where
  too_long : d.over ≡ true → good o.entry ≡ false
  too_long e = go (good o.entry) refl
    where
      go : (b : Bool) → good o.entry ≡ b → b ≡ false
      go true f =
          let l = good_short o.entry fits f in
          let m = ltb-true KEPT (length (body_of o.entry)) (sym h.over ∙ e) in
          absurd (omega arith)
      go false f = refl

  pub tested : faulty s d ≡ not (stands (counts_for s d) o.entry)
  unfolding faulty
  tested = go d.over refl
    where
      go : (b : Bool) → d.over ≡ b → b || not (Ma.passes (judged (counts_for s d) d.kind d.body))
          ≡ not (stands (counts_for s d) o.entry)
      go true e = ap not (sym (spoilt (counts_for s d) o.entry (too_long e)))
      go false e =
          ap not (same_passes (judged (counts_for s d) d.kind d.body)
          ∙ ap (λ k. passes (judged (counts_for s d) k d.body)) h.kind
          ∙ ap (λ bs. passes (judged (counts_for s d) (kind_of o.entry) bs)) (h.body e)
          ∙ judged_is (counts_for s d) o.entry)

-- Of an action it says whether it is good.
action_kind : (a : Action) → ltb (M.kind_of a) K.ACTION ≡ false
action_kind (M.HOLD e) = refl
action_kind (M.PRIO e) = refl
action_kind (M.SET i e) = refl
action_kind (M.LSET i e) = refl
action_kind (M.DO n b) = refl
action_kind (M.PUTR i n) = refl
action_kind (M.PUTB i n) = refl
action_kind (M.PUTS i n) = refl
action_kind (M.BECOME i) = refl
action_kind (M.REQ c) = refl
action_kind (M.TRY bs) = refl
action_kind (M.WHILE b c) = refl
action_kind (M.START c t h) = refl
action_kind (M.TRACE e) = refl
action_kind M.CLOSE = refl

pub action_tested : {place : ℕ → ℕ} {d : Draft} {a : Action} {at : ℕ} → Drawn place d (owned (R.ACTION a) at) →
    Fits (R.ACTION a) → (s : Sheet) → faulty s d ≡ not (good (R.ACTION a))
action_tested {d = d} {a = a} h fits s =
    tested h fits s
    ∙ ap (λ b. not (stands (if b then set s.seen K.BLOCK 0 else set none_seen K.BLOCK 1) (R.ACTION a)))
    (ap (λ k. ltb k K.ACTION) h.kind ∙ action_kind a)

-- Of a declaration, whether it is good and there is room for it.
declared_kind : (e : Entry) → declares e ≡ true →
    (ltb (kind_of e) K.ACTION ≡ true) × (placed (group_of e) 0 ≡ true) × (group_of e ≡ K.BLOCK → ⊥)
declared_kind (R.RES n) h = (refl, refl, λ z. omega arith)
declared_kind (R.BIN n) h = (refl, refl, λ z. omega arith)
declared_kind R.SYNC h = (refl, refl, λ z. omega arith)
declared_kind (R.VAR v) h = (refl, refl, λ z. omega arith)
declared_kind (R.CLASS b) h = (refl, refl, λ z. omega arith)
declared_kind R.BLOCK h = no_way h
declared_kind (R.ENTITY e) h = (refl, refl, λ z. omega arith)
declared_kind (R.SAMPLER x) h = (refl, refl, λ z. omega arith)
declared_kind (R.ACTION a) h = no_way h

pub declaration_tested : {place : ℕ → ℕ} {d : Draft} {o : Owned} → Drawn place d o → Fits o.entry →
    declares o.entry ≡ true → (s : Sheet) → length s.seen ≡ K.groups →
    faulty s d ≡ not (ltb (get_or s.seen (group_of o.entry) 0) (most o.entry) && good o.entry)
declaration_tested {d = d} {o = o} h fits de s l =
    let e : Entry = o.entry in
    let k = declared_kind e de in
    let xs : List ℕ = set s.seen K.BLOCK 0 in
    let none : get_or xs K.BLOCK 0 ≡ 0 = get_or-set_same s.seen K.BLOCK 0 0 (omega arith) in
    let same : get_or xs (group_of e) 0 ≡ get_or s.seen (group_of e) 0 = get_or-set_other s.seen K.BLOCK (group_of e) 0 0 k.2 in
    let rest : ℕ → Bool = λ n. ltb n (most e) && good e in
    tested h fits s
    ∙ ap (λ b. not (stands (if b then xs else set none_seen K.BLOCK 1) e)) (ap (λ i. ltb i K.ACTION) h.kind ∙ k.0)
    ∙ ap (λ n. not (placed (group_of e) n && rest (get_or xs (group_of e) 0))) none
    ∙ ap (λ b. not (b && rest (get_or xs (group_of e) 0))) k.1
    ∙ ap (λ n. not (rest n)) same
