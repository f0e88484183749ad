-- One token, as the machine has it, by what each part of the reader finds. Assumes nothing.
use Rattle.std.specs.Prelude.{if◌then◌else◌}
use Prim.Native.Nat.{ℕ}
use mathlib.Core.Path.{◌≡◌, sym, ◌∙◌, ap}
use mathlib.Core.List.{List}
use mathlib.Core.Option.{none, some}
use lib.ListN.{length}
use Rattle.text_semantics.specs.Numbers as No
use Rattle.text_semantics.specs.Token.{Token}
use Rattle.text_semantics.specs.Lexing.{Placed}
use Rattle.text_semantics.specs.Names.{trouble}
use Rattle.text_semantics.specs.Meaning.{number_of}
use Rattle.text_semantics.specs.Reading.{Symbol}
use Rattle.text_machine.specs.Entry.{Draft, name_in}
use Rattle.text_machine.specs.Sheet.{Sheet}
use Rattle.text_machine.specs.Machine.{Reader, stops, goes, turned, named, gone_on, event_at, draft_after, sheet_after}
use Rattle.text_machine.specs.Machine.{cut_at}
use Rattle.text_machine.specs.Machine.{after, calls, known_after, is_known}
use Rattle.text_pile.specs.Pile.{turned_of}
use Rattle.text_pile.specs.Laws.{top_of, by_pile, on_pile_lem}
use Rattle.text_reader.specs.Sorts.{sort_of, event_by, event_by_lem, trouble_place, place_by, known_by, known_by_lem, sheet_by}
use Rattle.text_reader.specs.Sorts.{sheet_by_lem}
use Rattle.text_reader.specs.Sorts.{cut_by, cut_by_lem, calls_by, calls_by_lem}

module _ (r : Reader) (t : Token) (p : ℕ) where
  abbrev placed : Placed
  placed = record { token = t; place = p }

  pub turned_none : turned_of r.pile t ≡ none → turned r placed ≡ stops No.GRAMMAR p
  unfolding turned
  turned_none e = on_pile_lem r r.pile t p ∙ ap (by_pile r r.pile t p) e

  module _ (zs : List Symbol) (e : turned_of r.pile t ≡ some zs) (s : Symbol) (is : top_of r.pile ≡ s) (sort : ℕ)
      (so : sort ≡ sort_of s) where
    by_name : turned r placed ≡ named r zs s t p (trouble r.known (event_at r s t))
    unfolding turned
    by_name =
        on_pile_lem r r.pile t p ∙ ap (by_pile r r.pile t p) e
        ∙ ap (λ x. named r zs x t p (trouble r.known (event_at r x t))) is

    same_event : event_at r s t ≡ event_by sort r.draft.role r.called t
    same_event = event_by_lem r s t ∙ ap (λ n. event_by n r.draft.role r.called t) (sym so)

    pub turned-trouble : {n : ℕ} → trouble r.known (event_by sort r.draft.role r.called t) ≡ some n
        → turned r placed ≡ stops n (trouble_place sort r.called_at p)
    turned-trouble {n} f =
        by_name
        ∙ ap (named r zs s t p) (ap (trouble r.known) same_event ∙ f)
        ∙ ap (stops n) (place_by r s p ∙ ap (λ x. trouble_place x r.called_at p) (sym so))

    module _ (f : trouble r.known (event_by sort r.draft.role r.called t) ≡ none) (d : Draft)
        (drafts : d ≡ draft_after r s t p) (z : Sheet)
        (sheets : z ≡ sheet_by sort r.sheet (is_known r) (number_of r.known r.called) r.draft.line d t p) where
      by_cut : turned r placed ≡ gone_on r d z zs s t p (cut_by sort r.sheet d t z)
      by_cut =
          let w : z ≡ sheet_after r d s t p =
          sheets
          ∙ ap (λ n. sheet_by n r.sheet (is_known r) (number_of r.known r.called) r.draft.line d t p) so
          ∙ sym (sheet_by_lem r d s t p) in
          let c : cut_at r d s t z ≡ cut_by sort r.sheet d t z =
          cut_by_lem r d s t z ∙ ap (λ n. cut_by n r.sheet d t z) (sym so) in
          by_name
          ∙ ap (named r zs s t p) (ap (trouble r.known) same_event ∙ f)
          ∙ ap (λ x. gone_on r x (sheet_after r x s t p) zs s t p (cut_at r x s t (sheet_after r x s t p))) (sym drafts)
          ∙ ap (λ y. gone_on r d y zs s t p (cut_at r d s t y)) (sym w)
          ∙ ap (gone_on r d z zs s t p) c

      pub turned_cut : {q : ℕ} → some q ≡ cut_by sort r.sheet d t z → turned r placed ≡ stops No.CHECKS q
      turned_cut g = by_cut ∙ ap (gone_on r d z zs s t p) (sym g)

      pub turned-goes : none ≡ cut_by sort r.sheet d t z → (y : Reader) → y.pile ≡ zs
          → y.known ≡ known_by sort r.draft.role (length r.sheet.levels) r.called r.known t
          → y.called ≡ (if calls_by sort r.draft.role then name_in t else r.called)
          → y.called_at ≡ (if calls_by sort r.draft.role then p else r.called_at) → y.draft ≡ d → y.sheet ≡ z
          → turned r placed ≡ goes y
      unfolding after
      turned-goes g y a b c l m n =
          let k : known_after r s t ≡ y.known =
          known_by_lem r s t
          ∙ ap (λ x. known_by x r.draft.role (length r.sheet.levels) r.called r.known t) (sym so) ∙ sym b in
          let u : calls r s ≡ calls_by sort r.draft.role =
          calls_by_lem r s ∙ ap (λ x. calls_by x r.draft.role) (sym so) in
          let v = ap (λ x. if x then name_in t else r.called) u ∙ sym c in
          let w = ap (λ x. if x then p else r.called_at) u ∙ sym l in
          by_cut ∙ ap (gone_on r d z zs s t p) (sym g)
          ∙ ap goes (λ i. record {
            pile = sym a i;
            known = k i;
            called = v i;
            called_at = w i;
            draft = sym m i;
            sheet = sym n i;
          })
