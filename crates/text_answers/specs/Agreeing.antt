-- At every cut the machine's limits say what the checks say of the records so far: so the machine answers what it should.
-- Assumes nothing.
use Rattle.std.specs.Prelude.{ℕ, ◌≤◌, ◌<◌, ◌≡◌, refl, List, [], ◌∷◌, ◌++◌, Bool, true, false, ◌⊎◌, length, get_or, if◌then◌else◌}
use Rattle.std.proofs.Common.{arith, sym, ◌∙◌, ap, ap₂, inl, inr}
use Rattle.std.proofs.Math.Option.{none, some}
use Rattle.semantics.specs.Words.{passed}
use Rattle.semantics.specs.Numbers as F
use Rattle.semantics.specs.Kinds as K
use Rattle.semantics.specs.Decode as D
use Rattle.semantics.specs.Decode.{none_seen}
use Rattle.promises.specs.Laws.{AllOf}
use Rattle.promises.specs.Counted.{limits}
use Rattle.text_semantics.specs.Token.{Token}
use Rattle.text_semantics.specs.Lexing.{Placed}
use Rattle.text_semantics.specs.Grammar.{Text}
use Rattle.text_semantics.specs.Names.{trouble, trouble_in, events}
use Rattle.text_semantics.specs.Meaning.{Owned, records}
use Rattle.text_semantics.specs.Written.{file_of}
use Rattle.text_semantics.specs.Reading.{Symbol, Of, say, step, body_s, text_s}
use Rattle.text_semantics.specs.Answer.{Answer, is_cut, so_far, told, at_cut, answer}
use Rattle.text_machine.specs.Entry.{Draft}
use Rattle.text_machine.specs.Sheet.{Sheet}
use Rattle.text_machine.specs.Machine.{Reader, at_first, event_at, draft_after, sheet_after, cut_at, faulty, machine}
use Rattle.text_promises.specs.Tables.{piled}
use Rattle.text_promises.specs.Met.{in_hand}
use Rattle.text_promises.specs.Judged.{of_group, Passing}
use Rattle.text_promises.specs.Says.{too_deep}
use Rattle.text_agrees.specs.Closing.{open_braces, cut_spelled}
use Rattle.text_agrees.specs.Events.{Fewer}
use Rattle.text_agrees.specs.Laying.{Fair}
use Rattle.text_agrees.specs.Going.{Goes, tokens_of, goes_flow}
use Rattle.text_agrees.specs.Growing.{Grows, opens_by, grows_open}
use Rattle.text_agrees.specs.Counts.{is_body}
use Rattle.text_agrees.specs.Tested.{Arrived, is_body_lem}
use Rattle.text_answers.specs.Cutting.{Accepted, checked, Tallied}
use Rattle.text_answers.specs.Arriving as A
use Rattle.text_answers.specs.Grading as G
use Rattle.text_answers.specs.Nesting as N
use Rattle.text_answers.specs.Spare.{cut_free, never_full}
use Rattle.text_answers.specs.Tallying.{grown_fair, tallied}
use Rattle.text_answers.specs.Opening.{levels_open}
use Rattle.text_answers.specs.Classing.{class_line}
use Rattle.text_answers.specs.Halted.{fault_at, local_uncut}
use Rattle.text_answers.specs.Decided.{Decided, unlooked, looked, cut_looks}
use Rattle.text_answers.specs.Findings.{rule_at, cut_found}
use Rattle.text_answers.specs.Machines.{machine_answers}

module _ (place : ℕ → ℕ) (ts : List Placed) (k : Placed) (r : Reader) (s : Symbol) (ss : List Symbol)
    (h : Arrived place ts k s ss) (g : Goes at_first ts r) (i : r.pile ≡ s ∷ ss) (m : place (length ts) ≡ k.place)
    (n : trouble r.known (event_at r s k.token) ≡ none) (c : is_cut k.token ≡ true) (acc : Accepted (tokens_of ts)) where
  abbrev t : Token
  t = k.token

  abbrev us : List Placed
  us = ts ++ (k ∷ [])

  abbrev zs : List Symbol
  zs = (A.piled_here place ts k r s ss h g i m n c acc).0

  abbrev piles : piled Of say step (tokens_of ts ++ (t ∷ [])) (text_s ∷ []) ≡ some zs
  piles = (A.piled_here place ts k r s ss h g i m n c acc).1

  abbrev tree : Text
  tree = A.tree place ts k r s ss h g i m n c acc

  abbrev new : List Owned
  new = records tree

  -- The draft and the sheet with the cut, and the reader before it, which is the machine's but for the pile.
  abbrev d : Draft
  d = (A.behind_it place ts k r s ss h g i m n c acc).draft

  abbrev z : Sheet
  z = (A.behind_it place ts k r s ss h g i m n c acc).sheet

  abbrev before : Reader
  before = A.before_it place ts k r s ss h g i m n c acc

  calm : trouble_in [] (events tree) ≡ none
  calm = A.calm_cut place ts k r s ss h g i m n c acc

  room : Fewer [] (events tree)
  room = A.room_cut place ts k r s ss h g i m n c acc

  same_sheet : before.sheet ≡ r.sheet
  same_sheet = ap (λ (x : Reader). x.sheet) (goes_flow place g (A.sits place ts k r s ss h g i m n c acc))

  within : {os : List Owned} → Passing none_seen os → (x : ℕ) → of_group x os ≤ get_or limits x 0
  within p x = let a = p.roomy x in omega arith

  -- FROM THE TREE BEFORE, which was accepted.
  module _ (old : Text) (grows : Grows old tree) (ok : so_far (file_of (records old)) ≡ D.accepted passed) where
    fair : AllOf Fair new
    fair = grown_fair grows (A.short_old old ok)

    counted : Tallied place new z
    counted = tallied place (tokens_of ts) t zs c piles calm room fair

    open_blocks : length z.levels ≡ opens_by grows
    open_blocks =
        levels_open place (tokens_of ts) t zs c piles
        ∙ grows_open grows (tokens_of ts) t c (open_braces place (tokens_of ts) t zs c piles)
        (cut_spelled place (tokens_of ts) t zs c piles)

    old_passes : Passing none_seen (records old)
    old_passes = (G.accepted-old (records old) ok).0

    old_shallow : N.Shallow old
    old_shallow = (G.accepted-old (records old) ok).1

    shallow : Passing none_seen new → length z.levels ≤ F.deepest → N.Shallow tree
    shallow p l = N.shallow_on grows calm (within p K.BLOCK) old_shallow (omega (arith, open_blocks))

    deep : Passing none_seen new → F.deepest < length z.levels →
        (xs : List Owned) × (o : Owned) × (ys : List Owned) × (new ≡ xs ++ (o ∷ ys)) × G.Shallow (N.model_of tree) xs
        × (too_deep (N.model_of tree) o.entry ≡ true) × (get_or z.class_line z.current 0 ≡ place o.owner)
    deep p l =
        let x = N.deep_on grows calm (within p K.BLOCK) old_shallow (omega (arith, open_blocks)) in (
          x.5,
          x.6,
          x.7,
          x.8,
          x.10,
          x.11,
          class_line place (tokens_of ts) t zs c piles calm room fair x.0 x.1 x.2 x.3 x.4 (within p K.CLASS)
              (within p K.BLOCK) x.5 x.6 x.7 x.8 x.9,
        )

    free : (s ≡ body_s) ⊎ (faulty r.sheet (draft_after r s t k.place) ≡ false) → length (file_of new) ≤ F.longest_file →
        Passing none_seen new → z.full ≡ false
    free f l p =
        let e = A.sheet_is place ts k r s ss h g i m n c acc in
        let y : Sheet = sheet_after r (draft_after r s t k.place) s t k.place in
        let few : (x : ℕ) → get_or y.seen x 0 ≤ get_or limits x 0 =
        λ x. omega (arith, within p x, ap (λ w. get_or w.seen x 0) e, counted.counts x) in
        sym (ap (λ w. w.full) e)
        ∙ cut_free (A.comes place ts k r s ss h g i m n c acc) s t k.place f
        (omega (arith, ap (λ w. w.total) e, counted.total)) (few K.ACTION) (few K.CLASS) (few K.BLOCK) (λ x a b c. few x)

    not_faulty : fault_at s before.sheet d ≡ false →
        (s ≡ body_s) ⊎ (faulty r.sheet (draft_after r s t k.place) ≡ false)
    not_faulty = go (is_body s) refl
      where
        go : (b : Bool) → is_body s ≡ b → (if b then false else faulty before.sheet d) ≡ false →
            (s ≡ body_s) ⊎ (faulty r.sheet (draft_after r s t k.place) ≡ false)
        go true e f = inl (is_body_lem s e)
        go false e f = inr (ap₂ faulty (sym same_sheet) (A.draft_is place ts k r s ss h g i m n c acc) ∙ f)

    agrees : Decided place (tokens_of ts) t c s ss (A.pile_is place ts k r s ss h g i m n c acc)
        (rule_at place (tokens_of ts) t zs c piles s ss (A.pile_is place ts k r s ss h g i m n c acc)).0
        (rule_at place (tokens_of ts) t zs c piles s ss (A.pile_is place ts k r s ss h g i m n c acc)).1 (records old) new →
        (a : Answer) → told us new (so_far (file_of new)) (λ x. a) ≡ checked (cut_at before d s t z) a
    agrees (unlooked q e f) a =
        ap (λ x. told us new x (λ y. a)) (ap (λ os. so_far (file_of os)) f ∙ ok)
        ∙ sym (ap (λ x. checked x a) (ap (λ x. cut_at before d x t z) e ∙ local_uncut before d q t z))
    agrees (looked q j w) a =
        G.graded place us (records old) new j d (fault_at s before.sheet d) z counted w old_passes
        (A.placed_cut place ts k r s ss h g i m n c acc) (A.owners_placed place ts k r s ss h g i m n c acc) shallow deep
        (λ e. free (not_faulty e)) a
        ∙ sym (ap (λ x. checked x a) (cut_looks place (tokens_of ts) t c s ss (A.pile_is place ts k r s ss h g i m n c acc)
        (rule_at place (tokens_of ts) t zs c piles s ss (A.pile_is place ts k r s ss h g i m n c acc)).0
        (rule_at place (tokens_of ts) t zs c piles s ss (A.pile_is place ts k r s ss h g i m n c acc)).1 q z))

  cuts_agree : (a : Answer) → at_cut us t (in_hand us) a
      ≡ checked (cut_at r (draft_after r s t k.place) s t (sheet_after r (draft_after r s t k.place) s t k.place)) a
  cuts_agree a =
      let o = A.before_it_lem place ts k r s ss h g i m n c acc in
      A.told_cut place ts k r s ss h g i m n c acc a
      ∙ agrees o.0 o.1 o.2
      (cut_found place (tokens_of ts) t zs c piles s ss (A.pile_is place ts k r s ss h g i m n c acc) o.0 o.1 calm room
      (old_passes o.0 o.1 o.2)) a
      ∙ sym (ap (λ x. checked x a) (A.cut_same place ts k r s ss h g i m n c acc))

-- THE MACHINE ANSWERS what the definitions say, to every text, with whatever room.
pub machine_is_answer : (bs : List ℕ) (room : ℕ) → machine bs room ≡ answer bs room
machine_is_answer = machine_answers (λ r c. never_full c) cuts_agree
