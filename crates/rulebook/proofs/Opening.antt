-- The machine of the rulebook with every definition under it open, so that it runs on given entries by computation. Made by
-- tools/opening.py. What stands here is no claim: the names are listed so that they can be computed with.
-- Assumes nothing.
use mathlib.Core.List.{List}
use mathlib.Core.Option.{Option}
use Rattle.tape_read.specs.Entries.{Entry}
use Rattle.sessions.specs.Machine.{run}
use Rattle.rulebook.specs.Phase.{opens}
use Rattle.rulebook.specs.Session.{rules}
use Rattle.rulebook.specs.Machine.{Machine, at}
use Rattle.slices.specs.Choice.{pick as o0, first_of as o1, unless_empty as o2}
use Rattle.slices.specs.Shorter.{counted as o3, shorter as o4}
use Rattle.slices.specs.Tables.{any_of as o5, beside as o6}
use Rattle.slices.specs.Tests.{every as o7, between as o8, alike as o9, is_some as o10}
use Rattle.slices.specs.Writing.{put as o11, laid as o12, zeros as o13}
use Rattle.numbers.specs.Tables.{is_kind as o14}
use Rattle.facts.specs.Facts.{or_else as o15}
use Rattle.tlv_head.specs.Head.{first_byte as o16, constructed as o17, two_bytes as o18, tag_size as o19, tag_of as o20}
use Rattle.tlv_head.specs.Head.{tag_right as o21, length_byte as o22, length_form as o23, length_size as o24, length_of as o25}
use Rattle.tlv_head.specs.Head.{value_start as o26, value_end as o27, whole as o28}
use Rattle.tlv_head.specs.Member.{member_at as o29}
use Rattle.tlv_list.specs.Lookup.{met as o30, lookup as o31, first_among as o32, first_from as o33, unless as o34, alone as o35}
use Rattle.tlv_list.specs.Lookup.{find_in_checked as o36, further as o37, noted as o38, noted_all as o39, no_members as o40}
use Rattle.tlv_list.specs.Lookup.{members_of as o41, found_value as o42, seek as o43, lookup_refusal as o44}
use Rattle.tlv_list.specs.Objects.{between as o45, first_object as o46, before as o47, right_inside as o48, listed as o49}
use Rattle.tlv_list.specs.Objects.{objects as o50, is_list as o51, read_refusal as o52}
use Rattle.tlv_list.specs.Place.{fillers as o53, next_at as o54, looked_into as o55, checked_at as o56, object_at as o57}
use Rattle.tlv_list.specs.Place.{follow as o58, walk as o59, places_from as o60, data_field as o61}
use Rattle.tlv_write.specs.Written.{is_tag as o62, tag_bytes as o63, length_bytes as o64, written as o65, written_all as o66}
use Rattle.tlv_write.specs.Written.{fits_tag as o67, write_refusal as o68, refusal_of as o69, size_of as o70, size_written as o71}
use Rattle.tlv_write.specs.Written.{buffer_after as o72}
use Rattle.tape_read.specs.Blocks.{head as o73, body as o74, block as o75, window as o76, field as o77, padding_in as o78}
use Rattle.tape_read.specs.Blocks.{all_zero as o79, check_bad as o80, number_bad as o81, session_bad as o82, kind_bad as o83}
use Rattle.tape_read.specs.Blocks.{spare_bad as o84, length_bad as o85, padding_bad as o86, content_tests as o87, code_of as o88}
use Rattle.tape_read.specs.Blocks.{payload_in as o89, entry_in as o90}
use Rattle.tape_read.specs.Entries.{storable as o91, all_storable as o92}
use Rattle.tape_read.specs.Numbers.{number_of as o93, bytes_of as o94}
use Rattle.tape_read.specs.Tapes.{preceded as o95, block_at as o96, cut as o97, blocks_of as o98, read_blocks as o99}
use Rattle.tape_read.specs.Tapes.{read_from as o100, session_of as o101, read_tape as o102, written as o103}
use Rattle.sessions.specs.Machine.{due as o104, and_on as o105, sayable as o106, next as o107}
use Rattle.sessions.specs.Session.{is_payload as o108, phases_of as o109}
use Rattle.decimal_dates.specs.Dates.{date_key as o110, month_and_day as o111, valid_start_date as o112, valid_card_date as o113}
use Rattle.decimal_dates.specs.Decimal.{decimal_from as o114, decimal as o115, decimal_byte as o116, digits_only as o117}
use Rattle.decimal_dates.specs.Decimal.{zeros_only as o118}
use Rattle.start_fields.specs.Bare.{terminal_with as o119}
use Rattle.start_fields.specs.Layout.{is_length as o120}
use Rattle.start_fields.specs.Reading.{reading_of as o121}
use Rattle.start_valid.specs.Start.{valid_kind as o122, valid_digits as o123, valid_random as o124, valid_percentages as o125}
use Rattle.start_valid.specs.Start.{valid_threshold as o126, valid_aid as o127, valid_start as o128, terminal_of as o129}
use Rattle.start_valid.specs.Start.{begins_session as o130}
use Rattle.decide_cryptogram.specs.Cryptograms.{given_by as o131, allowed_by as o132}
use Rattle.answer_afl.specs.Cursor.{from_entry as o133, entry_at as o134, start as o135, is_left as o136, record_at as o137}
use Rattle.answer_afl.specs.Cursor.{stepped as o138, remaining as o139}
use Rattle.answer_afl.specs.Entries.{first_entry as o140, entries as o141, whole_entries as o142, sfi as o143, records as o144}
use Rattle.answer_afl.specs.Entries.{file_right as o145, entry_right as o146, entries_right as o147, records_of as o148}
use Rattle.answer_afl.specs.Entries.{record_count as o149, too_many as o150, run as o151, read_entry as o152, read_all as o153}
use Rattle.answer_afl.specs.Entries.{to_read as o154}
use Rattle.answer_common.specs.Answer.{size_bad as o155, status_bad as o156, only as o157, outer as o158, the_one as o159}
use Rattle.answer_common.specs.Answer.{tagged as o160, value_under as o161, is_one as o162, inside as o163, outer_bad as o164}
use Rattle.answer_common.specs.Answer.{frame as o165}
use Rattle.answer_common.specs.CardNumber.{halves as o166, digits as o167, only_f as o168, card_number as o169}
use Rattle.answer_common.specs.Content.{meets as o170, rows_for as o171, names_for as o172, rules as o173, rule_for as o174}
use Rattle.answer_common.specs.Content.{right_value as o175}
use Rattle.answer_common.specs.Forms.{lacks as o176, form_in as o177, read_form as o178}
use Rattle.answer_common.specs.Named.{members_in as o179, listed as o180, named as o181, among as o182, direct as o183}
use Rattle.answer_common.specs.Named.{standing as o184, times as o185, found_times as o186, told as o187, value_of as o188}
use Rattle.answer_common.specs.Named.{wrong_value as o189, any_times as o190, any_wrong as o191}
use Rattle.answer_common.specs.Single.{last_one as o192, alone_by as o193, alone_in as o194, single_of as o195, read_by as o196}
use Rattle.cvm_rules.specs.Conditions.{satisfied as o197}
use Rattle.cvm_rules.specs.Methods.{method_of as o198, supported as o199, succeeds as o200, pin_bits as o201, tried_bits as o202}
use Rattle.cvm_rules.specs.Turns.{tried_turn as o203, tried as o204, turn_of as o205}
use Rattle.cvm.specs.Lists.{limit_of as o206, limit_x as o207, limit_y as o208, rules_of as o209, rules_in as o210, is_result as o211}
use Rattle.cvm.specs.Lists.{are_results as o212, in_application_currency as o213}
use Rattle.cvm.specs.Verified.{following as o214, verified_from as o215, verified as o216}
use Rattle.decide_tvr.specs.Bits.{joined as o217, meet as o218, flag as o219}
use Rattle.decide_tvr.specs.Results.{different_versions as o220, expired as o221, not_yet_effective as o222, risk_managed as o223}
use Rattle.decide_tvr.specs.Results.{at_floor_limit as o224, drawn as o225, restrictions as o226, risks as o227}
use Rattle.decide_tvr.specs.Results.{tvr_after_records as o228, tsi_after_records as o229, tsi_after_first_answer as o230}
use Rattle.decide_tvr.specs.Selection.{biased as o231, chosen as o232, selected as o233}
use Rattle.decide_requests.specs.Replies.{code_in as o234, said_by as o235, reply_of as o236, is_reply as o237, response_code as o238}
use Rattle.decide_requests.specs.Requests.{issuer_code as o239, code_match as o240, by_type as o241, first_request as o242}
use Rattle.decide_requests.specs.Requests.{when_unable as o243, second_request as o244}
use Rattle.decide_verification.specs.Verification.{verification_supported as o245, results_due as o246, verification_list as o247}
use Rattle.decide_verification.specs.Verification.{results_wanted as o248, circumstances_of as o249, tvr_after_results as o250}
use Rattle.decide_verification.specs.Verification.{tsi_after_results as o251}
use Rattle.dol_wanted.specs.Wanted.{and_then as o252, size_at as o253, first_wanted as o254, asks as o255, wanted_step as o256}
use Rattle.dol_wanted.specs.Wanted.{entries_of as o257, total as o258, total_by as o259, total_of as o260, fits as o261}
use Rattle.dol_wanted.specs.Wanted.{fillable as o262, tally as o263}
use Rattle.dol_values.specs.Known.{own_field as o264, value_by as o265, value_for as o266, with_format as o267, supplied as o268}
use Rattle.dol_values.specs.Shape.{shaped as o269, format_of as o270}
use Rattle.dol_fill.specs.Filled.{entry_bytes as o271, first_bytes as o272, filled as o273, filled_by as o274, filled_list as o275}
use Rattle.dol_fill.specs.Filled.{filling as o276, missing as o277, missing_in as o278, missing_by as o279, unsupplied as o280}
use Rattle.dol_fill.specs.Filled.{summed as o281}
use Rattle.commands.specs.Commands.{select_command as o282, options_command as o283, record_command as o284, with_length as o285}
use Rattle.commands.specs.Commands.{cryptogram_command as o286, size_in as o287, data_size as o288}
use Rattle.answer_select.specs.Select.{inner as o289, pdol_of as o290, begins as o291, name_wrong as o292, select_twice as o293}
use Rattle.answer_select.specs.Select.{select_wrong as o294, select_lines as o295, select_reason as o296, pdol_in as o297}
use Rattle.answer_select.specs.Select.{pdol_read as o298}
use Rattle.answer_record.specs.Records.{again as o299, any_again as o300, record_twice as o301, record_lines as o302}
use Rattle.answer_record.specs.Records.{record_reason as o303, value_in as o304, named_in as o305, incomplete as o306}
use Rattle.answer_record.specs.Records.{complete_reason as o307, after_records as o308}
use Rattle.answer_record.specs.Taken.{taken as o309, worse as o310, one_taken as o311, objects_taken as o312, taken_by as o313}
use Rattle.answer_record.specs.Taken.{taken_walk as o314, taken_from as o315, taken_in as o316, record_taken as o317}
use Rattle.answer_gpo.specs.Options.{profile_of as o318, locator_of as o319, options_wrong as o320, options_lines as o321}
use Rattle.answer_gpo.specs.Options.{options_reason as o322}
use Rattle.answer_cryptogram.specs.Cryptogram.{information_of as o323, cryptogram_of as o324, cryptogram_wrong as o325}
use Rattle.answer_cryptogram.specs.Cryptogram.{cryptogram_lines as o326, cryptogram_reason as o327, cryptogram_read as o328}
use Rattle.words.specs.Choice.{is_choice as o329}
use Rattle.words.specs.Words.{word_kind as o330, word_allowed as o331, word_refusal as o332}
use Rattle.rulebook.specs.Later.{as_was as o333, command_later as o334, turn_later as o335, kind_later as o336}
use Rattle.rulebook.specs.Later.{allowed_later as o337, after_later as o338}
use Rattle.rulebook.specs.Phase.{situation_of as o339, command_of as o340, due_kind as o341, decision_of as o342}
use Rattle.rulebook.specs.Phase.{decided as o343, ended as o344, tvr_of as o345, tsi_of as o346}
use Rattle.rulebook.specs.Roles.{given as o347, begins as o348}
use Rattle.rulebook.specs.Situation.{begun as o349, known_in as o350, list_in as o351}
use Rattle.rulebook.specs.Turn.{goes_on as o352, opened as o353, selected as o354, managed as o355, requested as o356}
use Rattle.rulebook.specs.Turn.{verifying as o357, all_read as o358, read_on as o359, with_profile as o360, optioned as o361}
use Rattle.rulebook.specs.Turn.{with_record as o362, recorded as o363, answered as o364, replied as o365, online as o366}
use Rattle.rulebook.specs.Turn.{by_first as o367, first_answered as o368, by_second as o369, second_answered as o370}
use Rattle.rulebook.specs.Turn.{turn as o371, wanted_in as o372, allowed as o373, reply_made as o374, issuer_replied as o375}
use Rattle.rulebook.specs.Turn.{verified_by as o376, after as o377}

-- the state that a session's entries lead to
unfoldable pub reached : List Entry → Option Machine
unfolding o0 o1 o2 o3 o4 o5 o6 o7 o8 o9 o10 o11 o12 o13 o14 o15 o16 o17 o18 o19 o20 o21 o22 o23 o24 o25 o26 o27 o28 o29 o30 o31
    o32 o33 o34 o35 o36 o37 o38 o39 o40 o41 o42 o43 o44 o45 o46 o47 o48 o49 o50 o51 o52 o53 o54 o55 o56 o57 o58 o59 o60 o61 o62
    o63 o64 o65 o66 o67 o68 o69 o70 o71 o72 o73 o74 o75 o76 o77 o78 o79 o80 o81 o82 o83 o84 o85 o86 o87 o88 o89 o90 o91 o92 o93
    o94 o95 o96 o97 o98 o99 o100 o101 o102 o103 o104 o105 o106 o107 o108 o109 o110 o111 o112 o113 o114 o115 o116 o117 o118 o119
    o120 o121 o122 o123 o124 o125 o126 o127 o128 o129 o130 o131 o132 o133 o134 o135 o136 o137 o138 o139 o140 o141 o142 o143 o144
    o145 o146 o147 o148 o149 o150 o151 o152 o153 o154 o155 o156 o157 o158 o159 o160 o161 o162 o163 o164 o165 o166 o167 o168 o169
    o170 o171 o172 o173 o174 o175 o176 o177 o178 o179 o180 o181 o182 o183 o184 o185 o186 o187 o188 o189 o190 o191 o192 o193 o194
    o195 o196 o197 o198 o199 o200 o201 o202 o203 o204 o205 o206 o207 o208 o209 o210 o211 o212 o213 o214 o215 o216 o217 o218 o219
    o220 o221 o222 o223 o224 o225 o226 o227 o228 o229 o230 o231 o232 o233 o234 o235 o236 o237 o238 o239 o240 o241 o242 o243 o244
    o245 o246 o247 o248 o249 o250 o251 o252 o253 o254 o255 o256 o257 o258 o259 o260 o261 o262 o263 o264 o265 o266 o267 o268 o269
    o270 o271 o272 o273 o274 o275 o276 o277 o278 o279 o280 o281 o282 o283 o284 o285 o286 o287 o288 o289 o290 o291 o292 o293 o294
    o295 o296 o297 o298 o299 o300 o301 o302 o303 o304 o305 o306 o307 o308 o309 o310 o311 o312 o313 o314 o315 o316 o317 o318 o319
    o320 o321 o322 o323 o324 o325 o326 o327 o328 o329 o330 o331 o332 o333 o334 o335 o336 o337 o338 o339 o340 o341 o342 o343 o344
    o345 o346 o347 o348 o349 o350 o351 o352 o353 o354 o355 o356 o357 o358 o359 o360 o361 o362 o363 o364 o365 o366 o367 o368 o369
    o370 o371 o372 o373 o374 o375 o376 o377 run
reached es = run rules es (at opens)
