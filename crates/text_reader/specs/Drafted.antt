-- What a token has to be where it is read, and where it stands.
-- Assumes nothing.
use Rattle.std.specs.Prelude.{ℕ, ◌≤◌, ◌<◌, ◌≡◌, get_or}
use Rattle.text_semantics.specs.Token as T
use Rattle.text_machine.specs.Entry as M
use Rattle.text_machine.specs.Codes as C
use Rattle.text_tokens.specs.declared.Token.{Token}
use Rattle.text_entry.specs.Draft.{TWO, MOST}
use Rattle.text_reader.specs.declared.Part.{Part}

-- A count has two bytes. An etry goes on with the try that is kept, which has fewer branches than a byte can tell, or it had to
-- come itself.
pub record Fits (s kind value : ℕ) (kept : M.Draft) : Type 0 where
  pub count : s ≡ C.COUNT → kind ≡ C.NUMBER → value < TWO
  pub etry : kind ≡ T.ETRY → (s ≡ C.TRY → ⊥) → s ≡ T.ETRY
  pub branches : get_or kept.body 0 0 < MOST

-- The token, and the name of the class line, stand in a text of n bytes.
pub record Within (n : ℕ) (t : Token) (c : Part) : Type 0 where
  pub token : t.place ≤ t.end
  pub token_end : t.end ≤ n
  pub called : c.at ≤ c.end
  pub called_end : c.end ≤ n
