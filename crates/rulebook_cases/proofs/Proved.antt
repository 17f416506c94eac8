-- Each case holds by computation.
-- Assumes nothing.
use mathlib.Core.Path.{refl}
use Rattle.slices.specs.Choice.{pick, first_of, unless_empty}
use Rattle.slices.specs.Shorter.{counted, shorter}
use Rattle.slices.specs.Writing.{zeros}
use Rattle.tlv_head.specs.Head.{first_byte, constructed, two_bytes, tag_size, tag_of, tag_right, length_byte}
use Rattle.tlv_head.specs.Head.{length_form, length_size, length_of, value_start, value_end, whole}
use Rattle.slices.specs.Tests.{is_some, every, between as within}
use Rattle.tlv_list.specs.Objects.{between, first_object, before, right_inside, listed, objects, is_list, read_refusal}
use Rattle.tlv_list.specs.Place.{data_field}
use Rattle.tlv_list.specs.Lookup.{met, lookup}
use Rattle.decimal_dates.specs.Decimal.{decimal_from, decimal}
use Rattle.dol_wanted.specs.Wanted.{and_then, size_at, first_wanted, asks, wanted_step, entries_of, total, fits, fillable}
use Rattle.dol_values.specs.Shape.{shaped, format_of}
use Rattle.dol_values.specs.Known.{own_field, value_by, value_for, with_format, supplied}
use Rattle.dol_fill.specs.Filled.{entry_bytes, filled, filled_by, filled_list, filling}
use Rattle.commands.specs.Commands.{record_command}
use Rattle.slices.specs.Tables.{any_of, beside}
use Rattle.answer_common.specs.Answer.{size_bad, status_bad, only, outer, tagged, value_under, is_one, inside, outer_bad, frame}
use Rattle.answer_common.specs.Content.{meets, rules, rule_for, right_value}
use Rattle.answer_common.specs.Named.{members_in, named, among, direct, standing, times, told, value_of, wrong_value, any_times, any_wrong}
use Rattle.answer_common.specs.Forms.{lacks}
use Rattle.answer_afl.specs.Entries.{first_entry, entries, whole_entries, sfi, records, entry_right, entries_right}
use Rattle.answer_afl.specs.Entries.{records_of, record_count, too_many, run, read_entry, read_all, to_read, file_right}
use Rattle.answer_gpo.specs.Options.{profile_of, locator_of, options_wrong, options_lines, options_reason}
use Rattle.decide_tvr.specs.Bits.{joined, meet}
use Rattle.decide_tvr.specs.Selection.{biased, chosen, selected}
use Rattle.decide_requests.specs.Requests.{issuer_code, code_match, by_type, first_request}
use Rattle.rulebook_cases.specs.Table.{plain, no_codes, trial, amount7500, amount7499, located, unprofiled, Cases}

pub table : Cases
unfolding pick first_of unless_empty counted shorter zeros first_byte constructed two_bytes tag_size tag_of tag_right length_byte
    length_form
    length_size length_of value_start value_end whole between first_object is_some before right_inside listed objects shaped format_of
    record_command first_entry entries sfi records entry_right entries_right records_of record_count too_many run read_entry
    read_all to_read
    joined meet biased chosen issuer_code code_match by_type first_request plain no_codes data_field met lookup every within any_of beside
    size_bad status_bad only outer tagged value_under is_one inside outer_bad frame whole_entries meets rules rule_for right_value lacks
    profile_of locator_of options_wrong options_lines options_reason members_in named among direct standing times told value_of wrong_value
    any_times any_wrong file_right is_list read_refusal decimal_from decimal and_then size_at first_wanted asks wanted_step entries_of
    total fits
    fillable own_field value_by value_for with_format supplied entry_bytes filled filled_by filled_list filling selected trial
    amount7500 amount7499 located unprofiled
table =
    record {
      a_read = refl;
      a = refl;
      b = refl;
      c = refl;
      d_read = refl;
      d = refl;
      e = λ k. refl;
      f = λ k. refl;
      g = refl;
      g_command = refl;
      h = refl;
      h_read = refl;
      i_59 = refl;
      i_500 = refl;
      i = refl;
      i_wrong = refl;
      i_lacks = refl;
      h_lacks = refl;
      j_selected = refl;
      j_not = refl;
      k = refl;
      l_offline = refl;
      l_online = refl;
      l_both = refl;
    }
