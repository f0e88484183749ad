-- The next record of a block, and the next block. Assumes nothing.
use Rattle.std.specs.Prelude.{ℕ, suc, ◌+◌, ◌-◌, ◌≤◌, ◌<◌, ◌≡◌, List, [], ◌∷◌, ◌++◌, eqb, length, get_or, drop, if◌then◌else◌}
use Rattle.std.proofs.Common.{arith, sym, ap, ◌∙◌, subst, drop-cons, add-one, eq-eqb, ne_eqb}
use Rattle.semantics.specs.Kinds as K
use Rattle.text_machine.specs.Sheet as M
use Rattle.text_machine.specs.Sheet.{headed, standing, blocks_from}
use Rattle.text_sheet.specs.declared.Piece.{Piece}
use Rattle.text_sheet.specs.Part.{part}
use Rattle.text_sheet.specs.Pieces.{pieces_from, Laid}
use Rattle.text_sheet.specs.Told.{standing-cons}

module _ (stage : List ℕ) (ps : List Piece) (i : ℕ) (d : Piece) (h : i < length ps) (start : ℕ) where
  abbrev pub piece : Piece
  piece = get_or ps i d

  pub laid_next : (size : ℕ) → Laid start size (drop i ps) → (start ≤ piece.end) × Laid piece.end size (drop (i + 1) ps)
  laid_next size l =
      let q : Laid start size (piece ∷ drop (suc i) ps) = subst (λ qs. Laid start size qs) (drop-cons ps i d h) l in
      (q.0, subst (λ n. Laid piece.end size (drop n ps)) (sym (add-one i)) q.1)

  abbrev pub rest : ℕ → List ℕ
  rest b = standing b (pieces_from stage piece.end (drop (i + 1) ps))

  next_piece : (b : ℕ) → standing b (pieces_from stage start (drop i ps))
      ≡ (if eqb b piece.block then part start (piece.end - start) stage else []) ++ rest b
  next_piece b =
      ap (λ qs. standing b (pieces_from stage start qs)) (drop-cons ps i d h)
      ∙ standing-cons b (record { block = piece.block; bytes = part start (piece.end - start) stage })
      (pieces_from stage piece.end (drop (suc i) ps))
      ∙ ap (λ n. (if eqb b piece.block then part start (piece.end - start) stage else [])
      ++ standing b (pieces_from stage piece.end (drop n ps))) (sym (add-one i))

  pub next_in : (b : ℕ) → piece.block ≡ b → standing b (pieces_from stage start (drop i ps))
      ≡ part start (piece.end - start) stage ++ rest b
  next_in b e =
      next_piece b ∙ ap (λ t. (if t then part start (piece.end - start) stage else []) ++ rest b) (eq-eqb b piece.block (sym e))

  pub next_out : (b : ℕ) → (piece.block ≡ b → ⊥) → standing b (pieces_from stage start (drop i ps)) ≡ rest b
  next_out b e =
      next_piece b
      ∙ ap (λ t. (if t then part start (piece.end - start) stage else []) ++ rest b) (ne_eqb b piece.block (λ q. e (sym q)))

module _ (ps : List M.Piece) where
  pub next_block : (n b : ℕ) → b < n
      → blocks_from (n - b) b ps ≡ headed K.BLOCK [] ++ standing b ps ++ blocks_from (n - (b + 1)) (b + 1) ps
  unfolding blocks_from
  next_block n b h =
      let e : n - b ≡ suc (n - (b + 1)) = omega arith in
      ap (λ m. blocks_from m b ps) e
      ∙ ap (λ j. headed K.BLOCK [] ++ standing b ps ++ blocks_from (n - (b + 1)) j ps) (sym (add-one b))

  pub no_block : (n b : ℕ) → n ≤ b → blocks_from (n - b) b ps ≡ []
  unfolding blocks_from
  no_block n b h = let e : n - b ≡ 0 = omega arith in ap (λ m. blocks_from m b ps) e
