-- What may be said by whoever has the word, and the number with which anything else is turned away. 01, "The tape" and "When a call is
-- turned away"; 02, R-7 and R-12.
-- Assumes nothing.
use Rattle.std.specs.Prelude.{Bool, List, ℕ}
use Rattle.numbers.specs.Tables.{refused_start, refused_choice}
use Rattle.start_valid.specs.Start.{valid_start}
use Rattle.words.specs.Words.{word_allowed, word_refusal}
use Rattle.words.specs.Choice.{is_choice}
use Rattle.session_phase.specs.declared.Speaker.{Speaker}
use Rattle.session_phase.specs.declared.Speaker.TheVariants.{Terminal, Says, Shopper}

-- a valid START, what the word that is due allows, or a choice among those shown
unfoldable pub allowed_by : Speaker → List ℕ → Bool
allowed_by Terminal p = valid_start p
allowed_by (Says word count) p = word_allowed word count p
allowed_by (Shopper shown) p = is_choice shown p

-- the line of 01's table for anything else
unfoldable pub refusal_by : Speaker → ℕ
refusal_by Terminal = refused_start
refusal_by (Says word count) = word_refusal word
refusal_by (Shopper shown) = refused_choice
