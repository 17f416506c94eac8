-- A pair for each name of each place, in their order, as Theorem of specs/ states it.
-- Assumes nothing.
use Rattle.answer_common.proofs.Present.{by_name}
use Rattle.card_seen.specs.Seen as seen
use Rattle.card_choosing_worked.specs.Theorem.{MattersAt, in_environment, in_record, in_application, Worked}
use Rattle.card_choosing_worked.proofs.Directory as found
use Rattle.card_choosing_worked.proofs.Application as chosen
use Rattle.card_choosing_worked.proofs.Parting.{order_counts, form_parts}
use Rattle.card_choosing_worked.proofs.Dressed.{whole_pair}

pub theorem : Worked
theorem = record {
  environment =
      by_name (MattersAt seen.environment) in_environment (found.name_counts, (found.template_counts, (found.file_counts, tt)));
  directory =
      by_name (MattersAt seen.directory) in_record
      (found.entry_counts, (found.entry_name_counts, (found.entry_priority_counts, (found.entry_note_counts, tt))));
  application =
      by_name (MattersAt seen.application) in_application
      (chosen.name_counts, (chosen.template_counts, (chosen.priority_counts, (chosen.list_counts, tt))));
  entry_order = order_counts;
  form = form_parts;
  dressed = whole_pair;
}
