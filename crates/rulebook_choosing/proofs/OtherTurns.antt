-- With another AID each command from GPO on is the same, and each turn leads to the same phase with that AID in it.
-- Assumes nothing.
use mathlib.Core.Path.{◌≡◌, refl, sym, ap, ap₂, ◌∙◌, fun_ext}
use mathlib.Core.Bool.{Bool}
use mathlib.Core.List.{List, [], ◌∷◌}
use mathlib.Core.Option.{Option, none, some}
use Prim.Native.Nat.{ℕ}
use lib.Dec.{eqb}
use Rattle.slices.specs.Choice.{pick}
use Rattle.slices.specs.Tests.{is_some}
use Rattle.slices.proofs.Choice.{pick_ap}
use Rattle.numbers.specs.Tables.{terminated, for_missing, for_list}
use Rattle.facts.specs.Facts.{Facts, or_else}
use Rattle.decide_cryptogram.specs.Cryptograms.{p1_of, allowed_by}
use Rattle.decide_cryptogram.specs.declared.Cryptogram.{Cryptogram}
use Rattle.decide_cryptogram.specs.declared.Cryptogram.TheVariants.{Tc, Aac, Arqc}
use Rattle.decide_cryptogram.specs.Cryptograms.{Given}
use Rattle.std.specs.Prelude.{Some, None}
use Rattle.decide_cryptogram.specs.declared.Request.TheVariants.{First, Second}
use Rattle.decide_requests.specs.Replies.{code_in, reply_of, response_code}
use Rattle.decide_requests.specs.Requests.{first_request, second_request}
use Rattle.decide_requests.specs.declared.reply.HostReply.{HostReply}
use Rattle.decide_requests.specs.declared.reply.HostReply.TheVariants.{Unable}
use Rattle.decide_tvr.specs.Results.{tsi_after_records}
use Rattle.decide_verification.specs.Verification.{results_due, tsi_after_results}
use Rattle.answer_afl.specs.Entries.{to_read}
use Rattle.answer_common.specs.Content.{names_for}
use Rattle.answer_gpo.specs.Options.{options_reason, profile_of, locator_of}
use Rattle.answer_record.specs.Records.{record_reason, named_in, after_records}
use Rattle.answer_cryptogram.specs.Cryptogram.{cryptogram_of, cryptogram_reason}
use Rattle.dol_wanted.specs.Wanted.{fillable}
use Rattle.dol_fill.specs.Filled.{filling, unsupplied}
use Rattle.commands.specs.Commands.{options_command, cryptogram_command}
use Rattle.words.specs.declared.Word.{Word}
use Rattle.words.specs.declared.Word.TheVariants.{Host, Results}
use Rattle.rulebook.specs.Situation.{Situation, known_in, list_in}
use Rattle.rulebook.specs.Phase.{Asked, selecting, optioning, reading, first, second, says, Phase, asks, hears, decides}
use Rattle.rulebook.specs.Phase.{command_of, decided, ended}
use Rattle.rulebook.specs.Turn.{goes_on, managed, requested, verifying, all_read, read_on, with_profile, optioned, with_record, recorded}
use Rattle.rulebook.specs.Turn.{answered, replied, online, by_first, first_answered, by_second, second_answered, turn, wanted_in, allowed}
use Rattle.rulebook.specs.Turn.{reply_made, issuer_replied, verified_by, after}
use Rattle.rulebook_zeros.specs.Zeros.{unsupplied_asking, unsupplied_in}
use Rattle.start_fields.specs.Bare.{terminal_with}
use Rattle.rulebook_choosing.specs.Unlooked.{situation_with, asked_with, heard_with, phase_with, FromOptions}
use Rattle.rulebook_choosing.proofs.OtherAid.{filling_same, unsupplied_same, due_same, managed_bits, verified_bits, request_same}
use Rattle.rulebook_choosing.proofs.OtherAid.{second_same, names_same}

-- ---- where a session goes

module _ (aid : List ℕ) where
  knows_same : (s : Situation) (response : Option (List ℕ)) → known_in (situation_with aid s) response ≡ known_in s response
  unfolding known_in situation_with
  knows_same s response = fun_ext (λ tag. refl)

  pub command_same : (w : Asked) → FromOptions (asks w) → command_of (asked_with aid w) ≡ command_of w
  unfolding command_of asked_with situation_with list_in
  command_same (selecting s) h = absurd h
  command_same (optioning s list) h =
      ap (λ (k : Facts). options_command (filling (terminal_with aid s.terminal) k list)) (knows_same s none)
      ∙ ap options_command (filling_same aid s.terminal (known_in s none) list)
  command_same (reading s number file rest) h = refl
  command_same (first s request) h =
      ap (λ (k : Facts). cryptogram_command (p1_of request) (filling (terminal_with aid s.terminal) k (list_in s 0x8C))) (knows_same s none)
      ∙ ap (cryptogram_command (p1_of request)) (filling_same aid s.terminal (known_in s none) (list_in s 0x8C))
  command_same (second s request code) h =
      ap (λ (k : Facts). cryptogram_command (p1_of request) (filling (terminal_with aid s.terminal) k (list_in s 0x8D)))
      (knows_same s (some code))
      ∙ ap (cryptogram_command (p1_of request)) (filling_same aid s.terminal (known_in s (some code)) (list_in s 0x8D))

  asking_same : (w : Asked) → unsupplied_asking (asked_with aid w) ≡ unsupplied_asking w
  unfolding unsupplied_asking asked_with situation_with list_in
  asking_same (selecting s) = refl
  asking_same (optioning s list) =
      ap (λ (k : Facts). unsupplied (terminal_with aid s.terminal) k list) (knows_same s none)
      ∙ unsupplied_same aid s.terminal (known_in s none) list
  asking_same (reading s number file rest) = refl
  asking_same (first s request) =
      ap (λ (k : Facts). unsupplied (terminal_with aid s.terminal) k (list_in s 0x8C)) (knows_same s none)
      ∙ unsupplied_same aid s.terminal (known_in s none) (list_in s 0x8C)
  asking_same (second s request code) =
      ap (λ (k : Facts). unsupplied (terminal_with aid s.terminal) k (list_in s 0x8D)) (knows_same s (some code))
      ∙ unsupplied_same aid s.terminal (known_in s (some code)) (list_in s 0x8D)

  pub count_same : (p : Phase) → unsupplied_in (phase_with aid p) ≡ unsupplied_in p
  unfolding unsupplied_in phase_with
  count_same (asks w) = asking_same w
  count_same (hears h) = refl
  count_same (decides outcome reason s) = refl

  -- a bad answer ends it, or it goes on
  goes_same : (reason : ℕ) (s : Situation) (next : Phase) → goes_on reason (situation_with aid s) (phase_with aid next)
      ≡ phase_with aid (goes_on reason s next)
  unfolding goes_on ended phase_with
  goes_same reason s next = sym (pick_ap (phase_with aid) (eqb reason 0) next (decides _ reason s))

  requested_same : (reason : ℕ) (s : Situation) → requested reason (situation_with aid s) ≡ phase_with aid (requested reason s)
  unfolding requested phase_with asked_with situation_with
  requested_same reason s =
      ap (λ (c : Cryptogram). goes_on reason (situation_with aid s) (asks (first (situation_with aid s) c)))
      (request_same aid s.terminal s.facts s.tvr)
      ∙ goes_same reason s (asks (first s (first_request s.terminal s.facts s.tvr)))

  verifying_same : (s : Situation) → verifying (situation_with aid s) ≡ phase_with aid (verifying s)
  unfolding verifying phase_with heard_with situation_with
  verifying_same s =
      let due = results_due s.terminal s.profile s.facts in
      let later = requested (after_records s.facts) in
      ap₂ (λ (b : Bool) (p : Phase). pick b (hears (says Results (situation_with aid s))) p)
      (due_same aid s.terminal s.profile s.facts) (requested_same (after_records s.facts) s)
      ∙ sym (pick_ap (phase_with aid) due (hears (says Results s)) (later s))

  managed_same : (s : Situation) → managed (situation_with aid s) ≡ situation_with aid (managed s)
  unfolding managed situation_with
  managed_same s =
      ap (λ (tvr : List ℕ). record {
        terminal = terminal_with aid s.terminal;
        profile = s.profile;
        facts = s.facts;
        tvr = tvr;
        tsi = tsi_after_records s.profile s.tsi;
      }) (managed_bits aid s.terminal s.profile s.facts s.tvr)

  all_same : (s : Situation) → all_read (situation_with aid s) ≡ phase_with aid (all_read s)
  unfolding all_read ended phase_with situation_with
  all_same s =
      let lacking = eqb (after_records s.facts) for_missing in
      ap (λ (p : Phase). pick lacking (decides terminated for_missing (situation_with aid s)) p)
      (ap verifying (managed_same s) ∙ verifying_same (managed s))
      ∙ sym (pick_ap (phase_with aid) lacking (decides terminated for_missing s) (verifying (managed s)))

  read_same : (s : Situation) (rest : List (ℕ × ℕ)) → read_on (situation_with aid s) rest ≡ phase_with aid (read_on s rest)
  unfolding read_on phase_with asked_with
  read_same s [] = all_same s
  read_same s (r ∷ rest) = refl

  optioned_same : (s : Situation) (a : List ℕ) → optioned (situation_with aid s) a ≡ phase_with aid (optioned s a)
  unfolding optioned with_profile situation_with
  optioned_same s a =
      ap (goes_on (options_reason a) (situation_with aid s)) (read_same (with_profile s (profile_of a)) (to_read (locator_of a)))
      ∙ goes_same (options_reason a) s (read_on (with_profile s (profile_of a)) (to_read (locator_of a)))

  recorded_same : (s : Situation) (rest : List (ℕ × ℕ)) (a : List ℕ)
      → recorded (situation_with aid s) rest a ≡ phase_with aid (recorded s rest a)
  unfolding recorded with_record situation_with
  recorded_same s rest a =
      let t = s.terminal in
      ap (λ (names : List ℕ). goes_on (record_reason names (λ tag. is_some (s.facts tag)) a) (situation_with aid s)
      (read_on
      (record {
        terminal = terminal_with aid t;
        profile = s.profile;
        facts = λ tag. or_else (s.facts tag) (named_in names tag a);
        tvr = s.tvr;
        tsi = s.tsi;
      }) rest))
      (names_same aid t)
      ∙ (ap (goes_on (record_reason (names_for t) (λ tag. is_some (s.facts tag)) a) (situation_with aid s))
      (read_same (with_record s a) rest)
      ∙ goes_same (record_reason (names_for t) (λ tag. is_some (s.facts tag)) a) s (read_on (with_record s a) rest))

  replied_same : (s : Situation) (reply : HostReply) (code : List ℕ) → replied (situation_with aid s) reply code
      ≡ phase_with aid (replied s reply code)
  unfolding replied ended list_in phase_with asked_with situation_with
  replied_same s reply code =
      let fits = fillable (list_in s 0x8D) in
      let request = second_request reply s.terminal s.facts s.tvr in
      ap (λ (r : Cryptogram). pick fits (asks (second (situation_with aid s) r (response_code reply r code)))
      (decides terminated for_list (situation_with aid s)))
      (second_same aid s.terminal reply s.facts s.tvr)
      ∙ sym (pick_ap (phase_with aid) fits (asks (second s request (response_code reply request code))) (decides terminated for_list s))

  online_same : (s : Situation) → online (situation_with aid s) ≡ phase_with aid (online s)
  unfolding online phase_with heard_with situation_with terminal_with
  online_same s =
      ap (λ (p : Phase). pick (eqb s.terminal.kind 0) p (hears (says Host (situation_with aid s)))) (replied_same s Unable [])
      ∙ sym (pick_ap (phase_with aid) (eqb s.terminal.kind 0) (replied s Unable []) (hears (says Host s)))

  first_given_same : (g : Given) (s : Situation) → by_first g (situation_with aid s) ≡ phase_with aid (by_first g s)
  unfolding by_first decided phase_with
  first_given_same (Some Tc) s = refl
  first_given_same (Some Aac) s = refl
  first_given_same (Some Arqc) s = online_same s
  first_given_same None s = refl

  first_same : (s : Situation) (request : Cryptogram) (a : List ℕ)
      → first_answered (situation_with aid s) request a ≡ phase_with aid (first_answered s request a)
  unfolding first_answered answered situation_with
  first_same s request a =
      let reason = cryptogram_reason (allowed_by (First request)) a in
      ap (goes_on reason (situation_with aid s)) (first_given_same (cryptogram_of a) (answered s))
      ∙ goes_same reason s (by_first (cryptogram_of a) (answered s))

  last_same : (s : Situation) (request : Cryptogram) (a : List ℕ)
      → second_answered (situation_with aid s) request a ≡ phase_with aid (second_answered s request a)
  unfolding second_answered decided phase_with
  last_same s request a = goes_same (cryptogram_reason (allowed_by (Second request)) a) s (decided (by_second (cryptogram_of a)) s)

  pub turn_same : (w : Asked) (a : List ℕ) → FromOptions (asks w) → turn (asked_with aid w) a ≡ phase_with aid (turn w a)
  unfolding turn asked_with
  turn_same (selecting s) a h = absurd h
  turn_same (optioning s list) a h = optioned_same s a
  turn_same (reading s number file rest) a h = recorded_same s rest a
  turn_same (first s request) a h = first_same s request a
  turn_same (second s request code) a h = last_same s request a

  pub allowed_same : (word : Word) (s : Situation) (p : List ℕ) → allowed (says word (situation_with aid s)) p ≡ allowed (says word s) p
  unfolding allowed wanted_in situation_with
  allowed_same Host s p = refl
  allowed_same Results s p = refl

  pub after_same : (word : Word) (s : Situation) (p : List ℕ) → after (says word (situation_with aid s)) p
      ≡ phase_with aid (after (says word s) p)
  unfolding after issuer_replied verified_by situation_with
  after_same Host s p = replied_same s (reply_made (reply_of p)) (code_in p)
  after_same Results s p =
      ap (λ (tvr : List ℕ). requested (after_records s.facts)
      (record {
        terminal = terminal_with aid s.terminal;
        profile = s.profile;
        facts = s.facts;
        tvr = tvr;
        tsi = tsi_after_results s.tsi;
      })) (verified_bits aid s.terminal s.facts p s.tvr)
      ∙ requested_same (after_records s.facts) (verified_by s p)
