-- What a card can influence, as Theorem of specs/ states it: each field is a law of one of the files beside this one.
-- Assumes nothing.
use Rattle.card_seen.specs.Theorem.{Influence}
use Rattle.card_seen.proofs.Turning.{turn_by, turn_seen, settled}
use Rattle.card_seen.proofs.SideBySide.{whole_today}
use Rattle.card_seen.proofs.Least.{least}
use Rattle.card_seen.proofs.Order.{in_any_order}
use Rattle.card_seen.proofs.IssuerData.{as_none}
use Rattle.card_seen.proofs.Dressing.{dressed_seen, joined_again_seen, options_forms, cryptogram_forms}

pub theorem : Influence
theorem = record {
  through = (turn_by, turn_seen);
  same_turn = settled;
  phases = whole_today.phases;
  entries = whole_today.entries;
  zeros = whole_today.zeros;
  same_session = whole_today.same_session;
  as_written = whole_today.as_written;
  same_beginning = whole_today.same_beginning;
  good = least;
  any_order = in_any_order;
  empty_issuer_data = as_none;
  dressed = dressed_seen;
  joined_again = joined_again_seen;
  options_forms = options_forms;
  cryptogram_forms = cryptogram_forms;
}
