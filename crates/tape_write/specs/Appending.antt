-- One entry more on a tape (01, "When a call is turned away", 7 and 8).
-- Assumes nothing.
use Rattle.std.specs.Prelude.{not, List, [], ◌∷◌, ℕ, ◌+◌, ◌*◌, eqb, leb, ltb, length}
use Rattle.slices.specs.Choice.{pick, first_of}
use Rattle.slices.specs.Writing.{put}
use Rattle.numbers.specs.Tables.{refused_entry, refused_room, is_kind}
use Rattle.tape_read.specs.Entries.{Entry, block_size, blocks_most, payload_most}
use Rattle.tape_read.specs.Blocks.{block}
use Rattle.tape_write.specs.declared.Writer.{Writer}
use Rattle.tape_write.specs.declared.Appended.{Appended}

-- why an entry is turned away, after so many blocks used; 0: it is not
unfoldable pub refusal_of : ℕ → Entry → List ℕ → ℕ
refusal_of used e t =
    first_of
    ((not (is_kind e.kind), refused_entry)
    ∷ (ltb payload_most (length e.payload), refused_entry)
    ∷ (leb blocks_most used, refused_room)
    ∷ (ltb (length t) (used * block_size + block_size), refused_room)
    ∷ [])

-- the answer: the writer one block further, or as it was beside the refusal's number
unfoldable pub appended_of : Writer → ℕ → Appended
appended_of w refusal =
    pick (eqb refusal 0)
    (record { writer = record { used = w.used + 1; session = w.session }; refusal = 0 })
    (record { writer = w; refusal = refusal })

-- the tape afterwards: the entry's block in its place, or no change
unfoldable pub tape_after : Writer → Entry → List ℕ → List ℕ
tape_after w e t =
    pick (eqb (refusal_of w.used e t) 0) (put (block w.used w.session e) (w.used * block_size) t) t

-- what is left at the end of several appends
pub record Ended : Type 0 where
  pub writer : Writer
  pub tape : List ℕ

-- entries appended one after the other
unfoldable pub append_all : Writer → List Entry → List ℕ → Ended
append_all w [] t = record { writer = w; tape = t }
append_all w (e ∷ es) t = append_all (appended_of w (refusal_of w.used e t)).writer es (tape_after w e t)

-- a writer on an empty tape
abbrev pub fresh : ℕ → Writer
fresh s = record { used = 0; session = s }
