-- How a session goes on: after each of the card's answers, and after what somebody else says. 01, "What the card must
-- answer" and "From facts to a decision"; 02, R-7.
-- Assumes nothing.
use Rattle.std.specs.Prelude.{Bool, List, [], ◌∷◌, ℕ, eqb}
use Rattle.slices.specs.Choice.{pick}
use Rattle.slices.specs.Tests.{is_some}
use Rattle.numbers.specs.Tables.{for_missing, for_list, approved, declined}
use Rattle.start_fields.specs.Reading.{Terminal, reading_of}
use Rattle.start_valid.specs.Start.{valid_start}
use Rattle.facts.specs.Facts.{or_else}
use Rattle.answer_common.specs.Content.{names_for}
use Rattle.words.specs.Words.{word_allowed}
use Rattle.words.specs.declared.Word.{Word}
use Rattle.words.specs.declared.Word.TheVariants.{Host, Results}
use Rattle.dol_wanted.specs.Wanted.{fillable}
use Rattle.answer_select.specs.Select.{select_reason, pdol_of}
use Rattle.answer_gpo.specs.Options.{options_reason, profile_of, locator_of}
use Rattle.answer_afl.specs.Entries.{to_read}
use Rattle.answer_record.specs.Records.{record_reason, named_in, after_records}
use Rattle.answer_cryptogram.specs.Cryptogram.{cryptogram_reason, cryptogram_of}
use Rattle.decide_tvr.specs.Results.{tvr_after_records, tsi_after_records, tsi_after_first_answer}
use Rattle.decide_verification.specs.Verification.{results_due, results_wanted, tvr_after_results, tsi_after_results}
use Rattle.decide_cryptogram.specs.Cryptograms.{allowed_by}
use Rattle.decide_cryptogram.specs.declared.Cryptogram.{Cryptogram}
use Rattle.decide_cryptogram.specs.declared.Cryptogram.TheVariants.{Aac, Tc, Arqc}
use Rattle.decide_cryptogram.specs.Cryptograms.{Given}
use Rattle.std.specs.Prelude.{Some, None}
use Rattle.decide_cryptogram.specs.declared.Request.TheVariants.{First, Second}
use Rattle.decide_requests.specs.Requests.{first_request, second_request}
use Rattle.decide_requests.specs.Replies.{HostHeard, code_in, reply_of, response_code}
use Rattle.decide_requests.specs.declared.reply.HostReply.{HostReply}
use Rattle.decide_requests.specs.declared.reply.HostReply.TheVariants.{Unable}
use Rattle.rulebook.specs.Situation.{Situation, begun, list_in}
use Rattle.rulebook.specs.Phase.{Asked, selecting, optioning, reading, first, second, Heard, terminal}
use Rattle.rulebook.specs.Phase.{says, Phase, asks, hears, decided, ended}

-- a bad answer ends the session with its reason; otherwise it goes on
unfoldable pub goes_on : ℕ → Situation → Phase → Phase
goes_on reason s next = pick (eqb reason 0) next (ended reason s)

-- after START
unfoldable pub opened : Terminal → Phase
opened t = asks (selecting (begun t))

-- after the answer to SELECT
unfoldable pub selected : Situation → List ℕ → Phase
selected s a = goes_on (select_reason s.terminal a) s (asks (optioning s (pdol_of a)))

-- the bits that the facts set, after the last record and before 8C is filled
unfoldable pub managed : Situation → Situation
managed s =
    record {
      terminal = s.terminal;
      profile = s.profile;
      facts = s.facts;
      tvr = tvr_after_records s.terminal s.profile s.facts s.tvr;
      tsi = tsi_after_records s.profile s.tsi;
    }

-- the first request, or reason 9 where its list cannot be filled
unfoldable pub requested : ℕ → Situation → Phase
requested reason s = goes_on reason s (asks (first s (first_request s.terminal s.facts s.tvr)))

-- the results of cardholder verification, where they are due; else the first request (02, R-7)
unfoldable pub verifying : Situation → Phase
verifying s =
    pick (results_due s.terminal s.profile s.facts) (hears (says Results s)) (requested (after_records s.facts) s)

-- after the last record: 8 comes before the bits are set; 9 after, and after the results of cardholder verification
unfoldable pub all_read : Situation → Phase
all_read s = pick (eqb (after_records s.facts) for_missing) (ended for_missing s) (verifying (managed s))

-- the next record, or the end of them
unfoldable pub read_on : Situation → List (ℕ × ℕ) → Phase
read_on s [] = all_read s
read_on s (record' ∷ rest) = asks (reading s record'.0 record'.1 rest)

unfoldable pub with_profile : Situation → List ℕ → Situation
with_profile s profile = record { terminal = s.terminal; profile = profile; facts = s.facts; tvr = s.tvr; tsi = s.tsi }

-- after the answer to GPO
unfoldable pub optioned : Situation → List ℕ → Phase
optioned s a = goes_on (options_reason a) s (read_on (with_profile s (profile_of a)) (to_read (locator_of a)))

-- what a record tells of the names that count for the terminal is added to what was told before
unfoldable pub with_record : Situation → List ℕ → Situation
with_record s a =
    record {
      terminal = s.terminal;
      profile = s.profile;
      facts = λ tag. or_else (s.facts tag) (named_in (names_for s.terminal) tag a);
      tvr = s.tvr;
      tsi = s.tsi;
    }

-- after a record
unfoldable pub recorded : Situation → List (ℕ × ℕ) → List ℕ → Phase
recorded s rest a =
    goes_on (record_reason (names_for s.terminal) (λ tag. is_some (s.facts tag)) a) s (read_on (with_record s a) rest)

-- an allowed first answer sets a bit of the TSI
unfoldable pub answered : Situation → Situation
answered s = record { terminal = s.terminal; profile = s.profile; facts = s.facts; tvr = s.tvr; tsi = tsi_after_first_answer s.tsi }

-- the second request, once the issuer's reply is in; reason 9 where its list cannot be filled
unfoldable pub replied : Situation → HostReply → List ℕ → Phase
replied s reply code =
    let request = second_request reply s.terminal s.facts s.tvr in
    pick (fillable (list_in s 0x8D)) (asks (second s request (response_code reply request code))) (ended for_list s)

-- an ARQC waits for the issuer; a terminal of type 0 goes on as unable
unfoldable pub online : Situation → Phase
online s = pick (eqb s.terminal.kind 0) (replied s Unable []) (hears (says Host s))

-- a TC approves, an AAC declines, an ARQC goes online; the reserved type does not come here, since no request allows it
unfoldable pub by_first : Given → Situation → Phase
by_first (Some Tc) s = decided approved s
by_first (Some Aac) s = decided declined s
by_first (Some Arqc) s = online s
by_first None s = decided declined s

-- after the first GENERATE AC
unfoldable pub first_answered : Situation → Cryptogram → List ℕ → Phase
first_answered s request a = goes_on (cryptogram_reason (allowed_by (First request)) a) s (by_first (cryptogram_of a) (answered s))

-- the second answer decides: a TC approves, an AAC declines; the others do not come here, since no second request allows them
unfoldable pub by_second : Given → ℕ
by_second (Some Tc) = approved
by_second (Some Aac) = declined
by_second (Some Arqc) = declined
by_second None = declined

-- after the second
unfoldable pub second_answered : Situation → Cryptogram → List ℕ → Phase
second_answered s request a = goes_on (cryptogram_reason (allowed_by (Second request)) a) s (decided (by_second (cryptogram_of a)) s)

-- after any answer of the card
unfoldable pub turn : Asked → List ℕ → Phase
turn (selecting s) a = selected s a
turn (optioning s list) a = optioned s a
turn (reading s number file rest) a = recorded s rest a
turn (first s request) a = first_answered s request a
turn (second s request code) a = second_answered s request a

-- how many are wanted of what is counted in a word: a result for each rule (02, R-7)
unfoldable pub wanted_in : Word → Situation → ℕ
wanted_in Host s = 0
wanted_in Results s = results_wanted s.facts

-- what may be said: a valid START (01, "The tape"), or what the word that is due allows
unfoldable pub allowed : Heard → List ℕ → Bool
allowed terminal p = valid_start p
allowed (says word s) p = word_allowed word (wanted_in word s) p

-- the reply that is made; what is none is not allowed, and counts as unable
unfoldable pub reply_made : HostHeard → HostReply
reply_made (Some reply) = reply
reply_made None = Unable

-- after the issuer's reply
unfoldable pub issuer_replied : Situation → HostReply → List ℕ → Phase
issuer_replied s reply payload = replied s reply (code_in payload)

-- the bits that the results of cardholder verification set
unfoldable pub verified_by : Situation → List ℕ → Situation
verified_by s results =
    record {
      terminal = s.terminal;
      profile = s.profile;
      facts = s.facts;
      tvr = tvr_after_results s.terminal s.facts results s.tvr;
      tsi = tsi_after_results s.tsi;
    }

-- after what somebody else says
unfoldable pub after : Heard → List ℕ → Phase
after terminal p = opened (reading_of p)
after (says Host s) p = issuer_replied s (reply_made (reply_of p)) p
after (says Results s) p = requested (after_records s.facts) (verified_by s p)
