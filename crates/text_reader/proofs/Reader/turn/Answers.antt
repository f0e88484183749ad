-- One token: the machine's turn, part by part. Assumes nothing.
use Rattle.std.specs.Prelude.{ℕ, ◌≡◌, ◌<◌, List, length}
use Rattle.std.proofs.Common.{sym, ◌∙◌, ap}
use Rattle.std.proofs.Math.Path.{refl}
use Rattle.std.proofs.Math.Option.{none}
use Rattle.semantics.specs.Kinds as K
use Rattle.text_semantics.specs.Names.{trouble}
use Rattle.text_semantics.specs.Meaning.{number_of}
use Rattle.text_machine.specs.Entry.{Draft}
use Rattle.text_machine.specs.Codes.{symbol_of, token_of}
use Rattle.text_machine.specs.Machine.{draft_after, is_known, stops}
use Rattle.text_agrees.specs.Stages.{moves}
use Rattle.text_pile.specs.Pile.{SYMBOLS, stack_of}
use Rattle.text_pile.specs.Laws.{top_of}
use Rattle.text_names.specs.Table.{part_of}
use Rattle.text_reader.specs.declared.Reader.{Reader}
use Rattle.text_reader.specs.Reason as Reason
use Rattle.text_reader.specs.Sorts as Sort
use Rattle.text_reader.specs.Sorts.{event_by, sheet_by, calls_by}
use Rattle.text_reader.specs.Named.{sort_number}
use Rattle.text_reader.specs.Cut.{cut_of}
use Rattle.text_reader.specs.Sheets.{is_class, class_of, few_seen}
use Rattle.text_reader.specs.Shown.{reader_of}
use Rattle.text_reader.specs.Turn.{turned_same, within_text, placed_of}
use Rattle.text_reader.proofs.Before.{top_shown, ready_distinct, ready_number, ready_fits, ready_name, ready_titled}
use Rattle.text_reader.proofs.Onward.{drafts_by, body_line, class_sheet, called_name, either_fits}
use Rattle.text_reader.proofs.Steps.{turned_none, turned-trouble, turned_cut, turned-goes}
use Rattle.text_reader.proofs.Turned.{pile_refused, pile_taken, trouble_number}
use Rattle.text_reader.proofs.Reader.turn.Goals as goal

pub returns-then-is_err : goal.returns-then-is_err
returns-then-is_err c =
    let m = c.args.self.now in
    let h = c.requires.ready in
    let k = c.args.token in
    let x = part_of m.names.text k.place k.end in
    let tok = token_of k.kind k.value x in
    record {
      told = turned_same m c.requires.came
          ∙ turned_none (reader_of m) tok k.place
          (pile_refused m.pile k.kind k.value c.turn.new.self x c.turn.result c.turn.ensures c.if-is_err.ensures.value);
      ready = tt;
      text = tt;
    }

pub look-requires-clause-distinct : goal.look-requires-clause-distinct
look-requires-clause-distinct c = ready_distinct c.args.self.now c.requires.ready

pub returns-in-Err : goal.returns-in-Err
returns-in-Err c =
    let m = c.args.self.now in
    let h = c.requires.ready in
    let k = c.args.token in
    let x = part_of m.names.text k.place k.end in
    let tok = token_of k.kind k.value x in
    let top = top_shown m.pile c.top.result c.top.ensures.value c.top.ensures.known in
    let is : symbol_of c.unwrap_or-top.result ≡ top_of (stack_of m.pile) = ap symbol_of c.unwrap_or-top.ensures ∙ top.1 in
    let taken = pile_taken m.pile k.kind k.value c.turn.new.self x c.turn.result c.turn.ensures c.if-is_err.ensures.value in
    let role : c.draft.inside.role ≡ m.draft.role = ap (λ (y : Draft). y.role) c.draft.view_is in
    let n = sort_number c.sort_of-sort.result in
    let f = rw role at (sym (c.in-Err.ensures k.value).trouble) in
    record {
      told = turned_same m c.requires.came
          ∙ turned-trouble (reader_of m) tok k.place (stack_of c.turn.new.self) taken (symbol_of c.unwrap_or-top.result) (sym is)
          n c.sort_of-sort.ensures f
          ∙ ap (λ y. stops y (Sort.trouble_place n m.called.at k.place)) (trouble_number c.in-Err.trouble)
          ∙ ap (λ y. stops (Reason.number_of y) (Sort.trouble_place n m.called.at k.place)) (sym c.from.ensures)
          ∙ ap (stops (Reason.number_of c.from.result)) (sym c.trouble_place.ensures);
      ready = tt;
      text = tt;
    }

pub draft_after-requires-clause-small : goal.draft_after-requires-clause-small
draft_after-requires-clause-small c =
    let m = c.args.self.now in
    (few_seen c.requires.ready.sheet K.BLOCK, rw (c.in-Ok.ensures c.args.token.value).named.number (ready_number m c.requires.ready _))

pub draft_after-requires-clause-fits : goal.draft_after-requires-clause-fits
draft_after-requires-clause-fits c =
    let m = c.args.self.now in
    let h = c.requires.ready in
    let k = c.args.token in
    let x = part_of m.names.text k.place k.end in
    let tok = token_of k.kind k.value x in
    let top = top_shown m.pile c.top.result c.top.ensures.value c.top.ensures.known in
    let is : symbol_of c.unwrap_or-top.result ≡ top_of (stack_of m.pile) = ap symbol_of c.unwrap_or-top.ensures ∙ top.1 in
    let small : c.unwrap_or-top.result < SYMBOLS = rw c.unwrap_or-top.ensures top.0 in
    let taken = pile_taken m.pile k.kind k.value c.turn.new.self x c.turn.result c.turn.ensures c.if-is_err.ensures.value in
    ready_fits m h c.unwrap_or-top.result k.kind k.value x small is taken

pub sheet_after-requires-clause-titled : goal.sheet_after-requires-clause-titled
sheet_after-requires-clause-titled c = λ b.
    let m = c.args.self.now in
    let h = c.requires.ready in
    let k = c.args.token in
    let x = part_of m.names.text k.place k.end in
    let tok = token_of k.kind k.value x in
    let top = top_shown m.pile c.top.result c.top.ensures.value c.top.ensures.known in
    let is : symbol_of c.unwrap_or-top.result ≡ top_of (stack_of m.pile) = ap symbol_of c.unwrap_or-top.ensures ∙ top.1 in
    ready_titled m h c.unwrap_or-top.result is (sym c.sort_of-sort.ensures ∙ b) c.in-Ok.names.class
    (c.in-Ok.ensures k.value).named.class

pub returns-in-Err-sheet_after : goal.returns-in-Err-sheet_after
returns-in-Err-sheet_after c =
    let m = c.args.self.now in
    let h = c.requires.ready in
    let k = c.args.token in
    let x = part_of m.names.text k.place k.end in
    let tok = token_of k.kind k.value x in
    let top = top_shown m.pile c.top.result c.top.ensures.value c.top.ensures.known in
    let is : symbol_of c.unwrap_or-top.result ≡ top_of (stack_of m.pile) = ap symbol_of c.unwrap_or-top.ensures ∙ top.1 in
    let taken = pile_taken m.pile k.kind k.value c.turn.new.self x c.turn.result c.turn.ensures c.if-is_err.ensures.value in
    let role : c.draft.inside.role ≡ m.draft.role = ap (λ (y : Draft). y.role) c.draft.view_is in
    let tells = c.in-Ok.ensures k.value in
    let s = symbol_of c.unwrap_or-top.result in
    let r = reader_of m in
    let so = c.sort_of-sort.ensures in
    let n = sort_number c.sort_of-sort.result in
    let names = c.in-Ok.names in
    let d = c.draft_after.new.draft in
    let drafts : d ≡ draft_after r s tok k.place = drafts_by r s tok k.place names.kind names.number tells.named.kind tells.named.number
    (c.draft_after.ensures.value x) in
    let line : n ≡ Sort.BODY → m.draft.line ≡ d.line = λ b. body_line r s tok k.place d drafts (sym so ∙ b) in
    let st = c.sheet_after.ensures k.value m.draft.line x line in
    let want = sheet_by n m.sheet (is_class names.class) (class_of names.class) m.draft.line d tok k.place in
    let sheets : want ≡ sheet_by n m.sheet (is_known r) (number_of r.known r.called) r.draft.line d tok k.place =
    class_sheet n r d tok k.place names.class tells.named.class in
    let calm : trouble r.known (event_by n m.draft.role r.called tok) ≡ none = rw role at (sym tells.trouble) in
    record {
      told = turned_same m c.requires.came
          ∙ turned_cut r tok k.place (stack_of c.turn.new.self) taken s (sym is) n so calm d drafts want sheets
          (ap cut_of (sym c.in-Err-sheet_after.is) ∙ st.cut);
      ready = tt;
      text = tt;
    }

pub know-requires-clause-distinct : goal.know-requires-clause-distinct
know-requires-clause-distinct c = ready_distinct c.args.self.now c.requires.ready

pub know-requires-clause-named : goal.know-requires-clause-named
know-requires-clause-named c = λ b.
    let m = c.args.self.now in
    let h = c.requires.ready in
    let k = c.args.token in
    let x = part_of m.names.text k.place k.end in
    let tok = token_of k.kind k.value x in
    let top = top_shown m.pile c.top.result c.top.ensures.value c.top.ensures.known in
    let is : symbol_of c.unwrap_or-top.result ≡ top_of (stack_of m.pile) = ap symbol_of c.unwrap_or-top.ensures ∙ top.1 in
    let taken = pile_taken m.pile k.kind k.value c.turn.new.self x c.turn.result c.turn.ensures c.if-is_err.ensures.value in
    ready_name m h c.unwrap_or-top.result k.kind k.value x is taken (sym c.sort_of-sort.ensures ∙ b)

pub returns : goal.returns
returns c =
    let m = c.args.self.now in
    let h = c.requires.ready in
    let k = c.args.token in
    let x = part_of m.names.text k.place k.end in
    let tok = token_of k.kind k.value x in
    let top = top_shown m.pile c.top.result c.top.ensures.value c.top.ensures.known in
    let is : symbol_of c.unwrap_or-top.result ≡ top_of (stack_of m.pile) = ap symbol_of c.unwrap_or-top.ensures ∙ top.1 in
    let taken = pile_taken m.pile k.kind k.value c.turn.new.self x c.turn.result c.turn.ensures c.if-is_err.ensures.value in
    let role : c.draft.inside.role ≡ m.draft.role = ap (λ (y : Draft). y.role) c.draft.view_is in
    let tells = c.in-Ok.ensures k.value in
    let s = symbol_of c.unwrap_or-top.result in
    let r = reader_of m in
    let so = c.sort_of-sort.ensures in
    let n = sort_number c.sort_of-sort.result in
    let names = c.in-Ok.names in
    let d = c.draft_after.new.draft in
    let drafts : d ≡ draft_after r s tok k.place = drafts_by r s tok k.place names.kind names.number tells.named.kind tells.named.number
    (c.draft_after.ensures.value x) in
    let line : n ≡ Sort.BODY → m.draft.line ≡ d.line = λ b. body_line r s tok k.place d drafts (sym so ∙ b) in
    let st = c.sheet_after.ensures k.value m.draft.line x line in
    let want = sheet_by n m.sheet (is_class names.class) (class_of names.class) m.draft.line d tok k.place in
    let sheets : want ≡ sheet_by n m.sheet (is_known r) (number_of r.known r.called) r.draft.line d tok k.place =
    class_sheet n r d tok k.place names.class tells.named.class in
    let calm : trouble r.known (event_by n m.draft.role r.called tok) ≡ none = rw role at (sym tells.trouble) in
    let ok = c.in_default.is in
    let same : c.sheet_after.new.sheet ≡ want = rw ok at st.same in
    let sound = rw ok at st.sound in
    let cut : none ≡ Sort.cut_by n m.sheet d tok want = ap cut_of (sym ok) ∙ st.cut in
    let named = ready_name m h c.unwrap_or-top.result k.kind k.value x is taken in
    let bs = m.names.text in
    let called = rw role at c.called-self.ensures in
    let text = c.know.ensures.text in
    let name = ap (λ (t : List ℕ). part_of t c.called-self.result.at c.called-self.result.end) text
    ∙ called_name bs k.kind k.value k.place k.end m.called.at m.called.end n m.draft.role
    (λ b. named (sym so ∙ b)) called.0 called.1 in
    let y : Reader = record {
      pile = c.turn.new.self;
      names = c.know.new.names;
      called = c.called-self.result;
      draft = d;
      sheet = c.sheet_after.new.sheet;
    } in
    let e = turned_same m c.requires.came
    ∙ turned-goes r tok k.place (stack_of c.turn.new.self) taken s (sym is) n so calm d drafts want sheets cut (reader_of y) refl
    (rw (role, c.depth-depth.ensures) at (c.know.ensures.known k.value)) name called.0 refl same in
    let there = within_text c.requires.came in
    let fits = either_fits (calls_by n m.draft.role) k.place k.end m.called.at m.called.end (length bs) there.1 there.2 h.begun
    h.within in
    record {
      told = e;
      ready = record {
        comes = moves (placed_of bs k) h.comes e;
        begun = rw (called.0, called.1) fits.0;
        within = rw (text, called.1) fits.1;
        sized = c.draft_after.ensures.sized;
        sheet = sound;
      };
      text = text;
    }
