-- What is proved of what is told: it is what the rulebook has due after the entries that were read. Demand 3; 02, R-8.
-- Assumes nothing.
use Rattle.std.specs.Prelude.{◌≡◌, true, List, [], ◌∷◌, ◌++◌, ℕ, take}
use Rattle.std.proofs.Math.Pow.{are_bytes}
use Rattle.tape_read.specs.Entries.{Entry}
use Rattle.tape_read.specs.Tapes.{entries, read_tape}
use Rattle.tape_feed.specs.Feeding.{entries_read, pieces_of, begun as unread}
use Rattle.rulebook_due.specs.After.{due_after}
use Rattle.judge.specs.declared.UnderWay.{UnderWay}
use Rattle.judge.specs.Feeding.{begun, fed_all}
use Rattle.judge_due.specs.Telling.{told}
use Rattle.judge_due.specs.Standing.{due_of}

abbrev pub AllBytes : List (List ℕ) → Type 0
AllBytes [] = Unit {0}
AllBytes (p ∷ ps) = (are_bytes p ≡ true) × AllBytes ps

-- a judgement that these pieces were handed to, one after the other
abbrev pub after : List (List ℕ) → UnderWay
after ps = fed_all begun ps

pub record ToldOfTapes : Type 0 where
  -- after any pieces: what is due after the entries of their good blocks
  pub pieces : (ps : List (List ℕ)) → AllBytes ps → (out : List ℕ) → due_of (after ps) out ≡ told (due_after (entries_read unread ps)) out
  -- after the first pieces of a readable tape: what is due after as many of its entries as blocks were read
  pub readable : (t : List ℕ) (es : List Entry) → are_bytes t ≡ true → read_tape t ≡ entries es → (ps qs : List (List ℕ))
      → pieces_of t ≡ ps ++ qs
      → (out : List ℕ) → due_of (after ps) out ≡ told (due_after (take (after ps).reader.blocks es)) out
