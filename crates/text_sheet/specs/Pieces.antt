-- The records in blocks, whose bytes stand one behind the other. Assumes nothing.
use Rattle.std.specs.Prelude.{ℕ, suc, ◌+◌, ◌-◌, ◌≤◌, ◌≡◌, refl, List, [], ◌∷◌, ◌++◌, length, drop}
use Rattle.std.proofs.Common.{arith, sym, ap, ◌∙◌, length-append, drop-drop, take-append-drop}
use Rattle.std.proofs.Math.ListN.{drop_of_length-le}
use Rattle.text_machine.specs.Sheet as M
use Rattle.text_sheet.specs.declared.Piece.{Piece}
use Rattle.text_sheet.specs.Part.{part}
use Rattle.text_sheet.specs.Laws.{part_length, part_front, part_behind}

-- The records, of which the first begins at `start`.
abbrev pub pieces_from : List ℕ → ℕ → List Piece → List M.Piece
pieces_from stage start [] = []
pieces_from stage start (p ∷ ps) =
    record { block = p.block; bytes = part start (p.end - start) stage } ∷ pieces_from stage p.end ps

-- They fill the bytes from `start` up to `size`.
abbrev pub Laid : ℕ → ℕ → List Piece → Type 0
Laid start size [] = start ≡ size
Laid start size (p ∷ ps) = (start ≤ p.end) × Laid p.end size ps

pub laid_within : (start size : ℕ) (ps : List Piece) → Laid start size ps → start ≤ size
laid_within start size [] h = omega (arith, h)
laid_within start size (p ∷ ps) h = omega (arith, h.0, laid_within p.end size ps h.1)

-- What stands behind the records of the machine: the bytes of all of them; and where each ends, if the first begins at `start`.
abbrev pub bytes_of : List M.Piece → List ℕ
bytes_of [] = []
bytes_of (q ∷ qs) = q.bytes ++ bytes_of qs

abbrev pub ends_of : ℕ → List M.Piece → List Piece
ends_of start [] = []
ends_of start (q ∷ qs) = record { block = q.block; end = start + length q.bytes } ∷ ends_of (start + length q.bytes) qs

pub bytes_same : (stage : List ℕ) (start : ℕ) (ps : List Piece) → Laid start (length stage) ps
    → bytes_of (pieces_from stage start ps) ≡ drop start stage
bytes_same stage start [] h = sym (drop_of_length-le stage (omega (arith, h)))
bytes_same stage start (p ∷ ps) h =
    let k : start + (p.end - start) ≡ p.end = omega (arith, h.0) in
    ap (λ bs. part start (p.end - start) stage ++ bs) (bytes_same stage p.end ps h.1)
    ∙ ap (λ n. part start (p.end - start) stage ++ drop n stage) (sym k)
    ∙ ap (λ bs. part start (p.end - start) stage ++ bs) (sym (drop-drop (p.end - start) start stage))
    ∙ take-append-drop (p.end - start) (drop start stage)

pub ends_same : (stage : List ℕ) (start : ℕ) (ps : List Piece) → Laid start (length stage) ps
    → ends_of start (pieces_from stage start ps) ≡ ps
ends_same stage start [] h = refl
ends_same stage start (p ∷ ps) h =
    let w = laid_within p.end (length stage) ps h.1 in
    let k : start + length (part start (p.end - start) stage) ≡ p.end =
    ap (λ n. start + n) (part_length start (p.end - start) stage (omega (arith, h.0, w))) ∙ omega (arith, h.0) in
    ap (λ n. let q : Piece = record { block = p.block; end = n } in q ∷ ends_of n (pieces_from stage p.end ps)) k
    ∙ ap (λ qs. p ∷ qs) (ends_same stage p.end ps h.1)

-- One record more.
pub laid_more : (start size more block : ℕ) (ps : List Piece) → Laid start size ps
    → Laid start (size + more) (ps ++ (record { block = block; end = size + more } ∷ []))
laid_more start size more block [] h = (omega (arith, h), refl)
laid_more start size more block (p ∷ ps) h = (h.0, laid_more p.end size more block ps h.1)

pub pieces_more : (stage bs : List ℕ) (start block : ℕ) (ps : List Piece) → Laid start (length stage) ps
    → pieces_from (stage ++ bs) start (ps ++ (record { block = block; end = length stage + length bs } ∷ []))
    ≡ pieces_from stage start ps ++ (record { block = block; bytes = bs } ∷ [])
pieces_more stage bs start block [] h =
    ap (λ xs. let p : M.Piece = record { block = block; bytes = xs } in p ∷ []) (part_behind start stage bs h)
pieces_more stage bs start block (p ∷ ps) h =
    let w = laid_within p.end (length stage) ps h.1 in
    ap (λ xs. let q : M.Piece = record { block = p.block; bytes = xs } in
    q ∷ pieces_from (stage ++ bs) p.end (ps ++ (record { block = block; end = length stage + length bs } ∷ [])))
    (part_front start (p.end - start) stage bs (omega (arith, h.0, w)))
    ∙ ap (λ qs. let q : M.Piece = record { block = p.block; bytes = part start (p.end - start) stage } in q ∷ qs)
    (pieces_more stage bs p.end block ps h.1)

pub pieces_length : (stage : List ℕ) (start : ℕ) (ps : List Piece) → length (pieces_from stage start ps) ≡ length ps
pieces_length stage start [] = refl
pieces_length stage start (p ∷ ps) = ap suc (pieces_length stage p.end ps)

-- One record more, as it is written: its bytes, and where they end.
module _ (stage bs : List ℕ) (ps : List Piece) (block e : ℕ) (h : Laid 0 (length stage) ps) (f : e ≡ length stage + length bs)
    {stage' : List ℕ} {ps' : List Piece} (g : stage' ≡ stage ++ bs)
    (k : ps' ≡ ps ++ (record { block = block; end = e } ∷ [])) where
  pub laid_pushed : Laid 0 (length stage') ps'
  laid_pushed = rw (k, g, length-append stage bs, f) (laid_more 0 (length stage) (length bs) block ps h)

  pub pieces_pushed : pieces_from stage' 0 ps' ≡ pieces_from stage 0 ps ++ (record { block = block; bytes = bs } ∷ [])
  pieces_pushed = rw (k, g, f) (pieces_more stage bs 0 block ps h)
