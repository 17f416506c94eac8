-- The state that a step leaves stands at the phase that the step leads to: what the answer told is kept in the very form in which
-- the rulebook's next situation has it; what is waited for, TVR, TSI and the place among the records are the phase's own.
-- Assumes nothing.
use mathlib.Core.Path.{◌≡◌, refl, sym, ap, subst}
use mathlib.Core.Bool.{Bool, true, false}
use mathlib.Core.List.{List, []}
use Prim.Native.Nat.{ℕ, ◌≤◌}
use lib.Dec.{eqb}
use lib.ListN.{length}
use borrow.Author.Tests.{eqb-true}
use Rattle.slices.specs.Choice.{pick}
use Rattle.slices.proofs.Choice.{picked, either}
use Rattle.slices.specs.Tests.{is_some}
use Rattle.start_fields.specs.Layout.{full_length}
use Rattle.start_fields.specs.Reading.{reading_of}
use Rattle.answer_afl.specs.Cursor.{is_left}
use Rattle.answer_afl.proofs.Walking.{none_remain, one_less}
use Rattle.answer_select.specs.Select.{select_reason}
use Rattle.answer_gpo.specs.Options.{options_reason}
use Rattle.answer_common.specs.Content.{names_for}
use Rattle.answer_record.specs.Records.{record_reason}
use Rattle.answer_cryptogram.specs.Cryptogram.{cryptogram_reason, cryptogram_of}
use Rattle.start_valid.proofs.Laws.{valid_length}
use Rattle.decide_cryptogram.specs.Cryptograms.{allowed_by}
use Rattle.decide_cryptogram.specs.declared.Cryptogram.{Cryptogram}
use Rattle.decide_cryptogram.specs.declared.Request.TheVariants.{First, Second}
use Rattle.words.specs.declared.Word.{Word}
use Rattle.rulebook.specs.Situation.{Situation, begun as situation_begun}
use Rattle.rulebook.specs.Phase.{Asked, selecting, optioning, reading, first, second, Heard, terminal, says, Phase}
use Rattle.rulebook.specs.Phase.{asks, hears, decides, situation_of, decided, ended, tvr_of, tsi_of}
use Rattle.rulebook.specs.Turn.{goes_on, opened, selected, managed, all_read, read_on, optioned, recorded, answered}
use Rattle.rulebook.specs.Turn.{first_answered, second_answered, turn, allowed, verified_by, after}
use Rattle.rulebook.proofs.Passing.{past_all, left, Leads, first_leads, after_leads, all_read_leads}
use Rattle.session_state.specs.Reading.{start_in, situation_with, early, late, records_left, asked_by}
use Rattle.session_phase.specs.declared.Question.{Question}
use Rattle.session_phase.specs.declared.Question.TheVariants.{Select, Options, Record, First, Second}
use Rattle.session_records.specs.Slots.{told, with_record}
use Rattle.session_records.specs.Runs.{in_run}
use Rattle.session_state.specs.Keeping.{with_told, with_options, changed, state_at, begun}
use Rattle.session_state.specs.declared.State.{State}
use Rattle.session_state.proofs.Starting.{late_told, early_begun, late_options, left_options}
use Rattle.session_moves.specs.Moves.{question_of, speaker_of, kept_as, cursor_asking, cursor_after, standing}
use Rattle.session_answers.specs.Keeping.{keeping}
use Rattle.session_laws.specs.Agreeing.{forgets, Knows, StandsAt}

-- a state that can wait for a phase: once what the phase overwrites is overwritten, it stands there
unfoldable pub Fits : Phase → State → Type 0
Fits p s = Knows (standing p s) p

pub fits_stands : (p : Phase) (s : State) → Fits p s → StandsAt (standing p s) p
unfolding Fits standing changed
fits_stands p s h = record { waits = refl; tvr = refl; tsi = refl; knows = h }

-- two choices by one test
both : {A B : Type 0} (P : A → B → Type 0) (t : Bool) (a a' : A) (b b' : B) → (t ≡ true → P a b) → (t ≡ false → P a' b')
    → P (pick t a a') (pick t b b')
unfolding pick
both P true a a' b b' yes' no' = yes' refl
both P false a a' b b' yes' no' = no' refl

module _ (s : State) where
  -- a decision keeps nothing but TVR and TSI
  decides_fits : (outcome reason : ℕ) (z : Situation) → Fits (decides outcome reason z) s
  unfolding Fits Knows standing changed kept_as tvr_of tsi_of
  decides_fits outcome reason z = tt

  goes_fits : (reason : ℕ) (z : Situation) (p : Phase) → Fits p s → Fits (goes_on reason z p) s
  unfolding goes_on ended
  goes_fits reason z p h = picked (λ (q : Phase). Fits q s) (eqb reason 0) p _ (λ y. h) (λ n. decides_fits _ reason z)

  -- the situation that is read off the state, with some TVR and TSI
  abbrev late_with : List ℕ → List ℕ → Situation
  late_with tvr tsi =
      record { terminal = reading_of (start_in s); profile = s.profile; facts = told s.told; tvr = tvr; tsi = tsi }

  module _ (tvr tsi : List ℕ) where
    asking_first : (request : Cryptogram) → Fits (asks (first (late_with tvr tsi) request)) s
    unfolding Fits Knows forgets standing changed kept_as question_of tvr_of tsi_of situation_of cursor_after cursor_asking asked_by late
        situation_with
    asking_first request = refl

    asking_second : (request : Cryptogram) (code : List ℕ) → Fits (asks (second (late_with tvr tsi) request code)) s
    unfolding Fits Knows forgets standing changed kept_as question_of tvr_of tsi_of situation_of cursor_after cursor_asking asked_by late
        situation_with
    asking_second request code = refl

    hearing_word : (word : Word) → Fits (hears (says word (late_with tvr tsi))) s
    unfolding Fits Knows standing changed kept_as speaker_of tvr_of tsi_of cursor_after late situation_with
    hearing_word word = refl

  -- so it is with any situation that is read off the state but for TVR and TSI
  abbrev OfState : Situation → Type 0
  OfState z = late_with z.tvr z.tsi ≡ z

  onward : Leads OfState (λ z. Unit {0}) (λ p. Fits p s)
  onward =
      record {
        decision = λ outcome reason z q. decides_fits outcome reason z;
        first = λ z request q. subst (λ (x : Situation). Fits (asks (first x request)) s) q (asking_first z.tvr z.tsi request);
        second =
            λ z request code q.
            subst (λ (x : Situation). Fits (asks (second x request code)) s) q (asking_second z.tvr z.tsi request code);
        word = λ word z q past due. subst (λ (x : Situation). Fits (hears (says word x)) s) q (hearing_word z.tvr z.tsi word);
        complete = λ z n. tt;
      }

  all_read_fits : Fits (all_read (late s)) s
  unfolding managed late situation_with
  all_read_fits = all_read_leads onward (late s) refl refl

  -- the next record is the one at the cursor, and the cursor goes one further
  read_fits : Fits (read_on (late s) (records_left s)) s
  unfolding read_on records_left Fits Knows forgets standing changed kept_as question_of tvr_of tsi_of situation_of cursor_after
      cursor_asking
      asked_by late situation_with
  read_fits =
      let v = in_run s.locator in
      either (is_left v s.cursor)
      (λ y. subst (λ (rest : List (ℕ × ℕ)). Fits (read_on (late s) rest) s) (sym (one_less v s.cursor y)) refl)
      (λ n. subst (λ (rest : List (ℕ × ℕ)). Fits (read_on (late s) rest) s) (sym (none_remain v s.cursor n)) all_read_fits)

-- the same for situations and records that are known to be the state's
reads_on : (s : State) (z : Situation) (rest : List (ℕ × ℕ)) → late s ≡ z → records_left s ≡ rest → Fits (read_on z rest) s
reads_on s z rest e f = subst (λ (p : Phase). Fits p s) (λ i. read_on (e i) (f i)) (read_fits s)

-- ---- after each answer
module _ (s : State) (a : List ℕ) where
  abbrev Turns : Asked → Type 0
  Turns w = Fits (turn w a) (keeping w a s)

  select_fits : Turns (selecting (early s))
  unfolding turn keeping selected Fits Knows forgets standing changed kept_as question_of tvr_of tsi_of situation_of cursor_after
      cursor_asking asked_by early situation_with
  select_fits = goes_fits s (select_reason (early s).terminal a) (early s) _ refl

  options_fits : Turns (optioning (early s) [])
  unfolding turn keeping optioned goes_on ended
  options_fits =
      both Fits (eqb (options_reason a) 0) _ _ (with_options a s) s
      (λ y. let good = eqb-true (options_reason a) 0 y in reads_on (with_options a s) _ _ (late_options s a good) (left_options s a good))
      (λ n. decides_fits s _ (options_reason a) (early s))

  record_fits : Turns (reading (late s) 0 0 (records_left s))
  unfolding turn keeping recorded goes_on ended late situation_with records_left with_told
  record_fits =
      let names = names_for (late s).terminal in
      let reason = record_reason names (λ name. is_some (told s.told name)) a in
      both Fits (eqb reason 0) _ _ (with_told (with_record names a s.told) s) s
      (λ y. reads_on (with_told (with_record names a s.told) s) _ _ (late_told s a (eqb-true reason 0 y)) refl)
      (λ n. decides_fits s _ reason (late s))

  first_fits : (request : Cryptogram) → Turns (first (late s) request)
  unfolding turn keeping first_answered answered late situation_with
  first_fits request =
      goes_fits s (cryptogram_reason (allowed_by (First request)) a) (late s) _
      (first_leads (onward s) (answered (late s)) refl (cryptogram_of a))

  second_fits : (request : Cryptogram) → Turns (second (late s) request [])
  unfolding turn keeping second_answered decided
  second_fits request = goes_fits s (cryptogram_reason (allowed_by (Second request)) a) (late s) _ (decides_fits s _ 0 (late s))

-- an answer to what the state waits for
pub turn_fits : (question : Question) (s : State) (a : List ℕ) → Fits (turn (asked_by question s) a) (keeping (asked_by question s) a s)
unfolding asked_by
turn_fits Select s a = select_fits s a
turn_fits Options s a = options_fits s a
turn_fits Record s a = record_fits s a
turn_fits (First request) s a = first_fits s a request
turn_fits (Second request) s a = second_fits s a request

-- START
started_fits : (b : List ℕ) → length b ≤ full_length → Fits (opened (reading_of b)) (begun b)
unfolding opened Fits Knows forgets standing changed kept_as question_of tvr_of tsi_of situation_of cursor_after cursor_asking
    asked_by early
    situation_with begun state_at situation_begun
started_fits b e = ap (λ (z : Situation). selecting z) (early_begun b e)

-- a word that is read off the state
said_fits : (word : Word) (s : State) (p : List ℕ) → Fits (after (says word (late s)) p) s
unfolding after verified_by late situation_with
said_fits word s p =
    after_leads (onward s) word (late s) p (left (OfState s) word (late s) p refl (λ e. refl))
    (past_all (λ z. Unit {0}) (λ z. tt) word (late s))

-- the state from which somebody else's word goes on: with START it begins anew
unfoldable pub goes_from : Heard → List ℕ → State → State
goes_from terminal p s = begun p
goes_from (says word z) p s = s

-- a word that may be taken, where the state knows what the rulebook knows
pub word_fits : (h : Heard) (s : State) (p : List ℕ) → Knows s (hears h) → allowed h p ≡ true → Fits (after h p) (goes_from h p s)
unfolding Knows allowed after goes_from verified_by
word_fits terminal s p knows fits = started_fits p (valid_length p fits)
word_fits (says word z) s p knows fits = subst (λ (x : Situation). Fits (after (says word x) p) s) knows (said_fits word s p)
