-- A word that is due, and wrong: what refusals 6 and 12 stand for. 01, "When a call is turned away"; 02, R-7.
-- Assumes nothing.
use Rattle.std.specs.Prelude.{◌≡◌, false, ℕ}
use Rattle.tape_read.specs.Entries.{Entry}
use Rattle.words.specs.Words.{word_kind, word_allowed}
use Rattle.words.specs.declared.Word.{Word}
use Rattle.session_phase.specs.declared.Speaker.TheVariants.{Says}
use Rattle.session_phase.specs.declared.Waiting.{Waiting}
use Rattle.session_phase.specs.declared.Waiting.TheVariants.{ForWord}

-- the session waits for the word, the event is of its kind, and its payload is not one that may be said
pub record WrongWord (word : Word) (waiting : Waiting) (e : Entry) : Type 0 where
  pub count : ℕ
  pub due : waiting ≡ ForWord (Says word count)
  pub kind : e.kind ≡ word_kind word
  pub wrong : word_allowed word count e.payload ≡ false
