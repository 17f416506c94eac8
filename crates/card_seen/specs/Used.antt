-- What a session goes on with of a good answer: of SELECT's the list 9F38; of GPO's the AIP and which records the AFL names; of a record's
-- the values of the objects that count; of GENERATE AC's which cryptogram it is, by two bits of 9F27. 02, R-13. That nothing else of a
-- good answer matters is proved (`good` of Theorem): not 84, not the AFL's fourth bytes, not counter, cryptogram and issuer data.
-- Assumes nothing.
use Rattle.std.specs.Prelude.{List, ℕ}
use Rattle.answer_common.specs.Content.{names_for}
use Rattle.answer_afl.specs.Entries.{to_read}
use Rattle.answer_select.specs.Select.{pdol_of}
use Rattle.answer_gpo.specs.Options.{profile_of, locator_of}
use Rattle.answer_record.specs.Records.{named_in}
use Rattle.answer_cryptogram.specs.Cryptogram.{cryptogram_of}
use Rattle.decide_cryptogram.specs.Cryptograms.{Given}
use Rattle.facts.specs.Facts.{Facts}
use Rattle.rulebook.specs.Phase.{Asked, selecting, optioning, reading, first, second}

pub data Used : Type 0 where
  list : List ℕ → Used
  -- the AIP, and each record by its number and file
  options : List ℕ → List (ℕ × ℕ) → Used
  told : Facts → Used
  gave : Given → Used

unfoldable pub used_of : Asked → List ℕ → Used
used_of (selecting s) a = list (pdol_of a)
used_of (optioning s l) a = options (profile_of a) (to_read (locator_of a))
used_of (reading s number file rest) a = told (λ tag. named_in (names_for s.terminal) tag a)
used_of (first s request) a = gave (cryptogram_of a)
used_of (second s request code) a = gave (cryptogram_of a)
