-- The three passes in their order: what the first that refuses says, and what all of them passing says. Assumes nothing.
use mathlib.Core.Path.{◌≡◌, refl}
use mathlib.Core.List.{List}
use Prim.Native.Nat.{ℕ, ◌≤◌, ◌<◌}
use borrow.Author.Tests.{le-leb, lt-leb}
use lib.ListN.{length}
use Rattle.semantics.specs.Words.{Passed, passed}
use Rattle.semantics.specs.Numbers as No
use Rattle.semantics.specs.Bytes.{Raw, records_from}
use Rattle.semantics.specs.Model.{Model}
use Rattle.semantics.specs.Decode.{Checked, refused, accepted, first_pass, none_seen, second_pass, gather, third_pass, if_accepted}
use Rattle.semantics.specs.Decode.{decode}
use Rattle.semantics.specs.Desk.{check_file}
use Rattle.file_index.specs.Index.{Readable}
use Rattle.file_check.specs.Check.{Named}

pub too_long : (bs : List ℕ) → No.longest_file < length bs → refused No.MANY 0 ≡ check_file bs
unfolding check_file decode
too_long bs h = rw (check_file, decode, lt-leb (length bs) No.longest_file h) refl

-- A file that is not too long.
module _ (bs : List ℕ) (h : length bs ≤ No.longest_file) where
  abbrev rs : List Raw
  rs = records_from 0 bs

  abbrev m : Model
  m = (gather rs).model

  in_order : check_file bs ≡ if_accepted (if_accepted (first_pass none_seen rs) λ n. if_accepted (second_pass n 0 rs) λ x.
      if_accepted (third_pass m rs) λ y. accepted m) λ m. accepted passed
  unfolding check_file decode
  in_order = rw (check_file, decode, le-leb (length bs) No.longest_file h) refl

  -- THE FIRST PASS.
  pub first_says : (n p : ℕ) → refused n p ≡ first_pass none_seen rs → refused n p ≡ check_file bs
  first_says n p e = rw (in_order, ← e) refl

  module _ (seen : List ℕ) (e : accepted seen ≡ first_pass none_seen rs) where
    pub reads : Readable bs
    reads = record { short = h; accepts = (seen, rw (← e) refl) }

    -- THE SECOND.
    pub second_says : (n p : ℕ) → refused n p ≡ second_pass seen 0 rs → refused n p ≡ check_file bs
    second_says n p i = rw (in_order, ← e, ← i) refl

    module _ (i : accepted passed ≡ second_pass seen 0 rs) where
      pub names : Named bs
      names = record { short = h; two = record { seen = seen; first = rw (← e) refl; second = rw (← i) refl } }

      -- THE THIRD.
      pub third_says : {t : Checked Passed} → t ≡ third_pass m rs → t ≡ check_file bs
      third_says j = rw (in_order, ← e, ← i) (go (third_pass m rs) j)
        where
          go : {t : Checked Passed} (p : Checked Passed) → t ≡ p
              → t ≡ if_accepted (if_accepted p λ y. accepted m) λ m. accepted passed
          go (refused n p) j = j
          go (accepted passed) j = j
