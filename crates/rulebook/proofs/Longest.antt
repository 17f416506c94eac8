-- One session has as many entries as the bound allows: a card whose AFL names the most records, half of them in each of two files,
-- all that is mandatory and a verification list in the first record, nothing in the others, and which asks to go online. What comes
-- before the records and
-- after them is computed; the records are read by induction, however many there are.
-- Assumes nothing.
use mathlib.Core.Path.{◌≡◌, refl, sym, ap, ap₂, ◌∙◌, subst}
use mathlib.Core.Bool.{Bool, true, false, ◌||◌}
use mathlib.Core.List.{List, [], ◌∷◌, ◌++◌}
use mathlib.Core.Option.{Option, none, some}
use Prim.Native.Nat.{ℕ, ◌+◌, ◌*◌, ◌-◌, ◌/◌, ◌≤◌}
use native.Mathlib.Omega.{arith}
use lib.Dec.{eqb}
use lib.ListN.{length, drop, length-append}
use Rattle.slices.specs.Choice.{pick, first_of}
use Rattle.slices.proofs.Choice.{pick_yes, pick_same}
use Rattle.slices.specs.Tests.{is_some}
use Rattle.tlv_list.specs.Lookup.{Lookup, absent}
use Rattle.numbers.specs.Tables.{start, host, results}
use Rattle.tape_read.specs.Entries.{Entry, entry}
use Rattle.start_fields.specs.Reading.{reading_of}
use Rattle.answer_afl.specs.Entries.{most_records, to_read}
use Rattle.answer_afl.proofs.Counting.{read_length}
use Rattle.answer_common.specs.Answer.{frame}
use Rattle.answer_common.proofs.Accepted.{any_none}
use Rattle.answer_common.specs.Content.{record_tag, names_for}
use Rattle.answer_common.specs.Named.{listed, direct, times, told, wrong_value, any_times, any_twice, any_wrong}
use Rattle.answer_select.specs.Select.{pdol_of}
use Rattle.answer_record.specs.Records.{again, any_again, record_twice, record_lines, record_reason, value_in, named_in}
use Rattle.facts.specs.Facts.{or_else}
use Rattle.commands.specs.Commands.{record_command}
use Rattle.sessions.specs.Session.{is_payload}
use Rattle.sessions.specs.Machine.{and_on, run}
use Rattle.sessions.proofs.Running.{ends_follow, follows_ends, run_session}
use Rattle.sessions.proofs.Reading.{run_append}
use Rattle.rulebook.specs.Situation.{Situation, begun}
use Rattle.rulebook.specs.Phase.{Phase, asks, opens, optioning, reading, command_of}
use Rattle.rulebook.specs.Turn.{goes_on, all_read, read_on, with_profile, with_record, recorded as after_record, turn}
use Rattle.rulebook.specs.Session.{rules, longest, Plays, exchanged, Session}
use Rattle.rulebook.specs.Machine.{at, done}
use Rattle.rulebook.proofs.Opening.{reached}
use Rattle.rulebook.proofs.Made.{start_of, select, with_list, with_number, recorded, number}
use Rattle.rulebook.proofs.Made.{first_asked, second_asked, given, tc, arqc, decides, exchange}

-- ---- a record that tells nothing

abbrev empty : List ℕ
empty = 0x70 ∷ 0x00 ∷ 0x90 ∷ 0x00 ∷ []

not_there : (name : ℕ) → direct record_tag empty name ≡ absent
unfolding reached
not_there name = refl

not_again : (before : Bool) (name : ℕ) → again before (direct record_tag empty name) ≡ false
unfolding reached
not_again true name = refl
not_again false name = refl

first_told : first_of (frame (record_tag ∷ []) empty ++ ((false, 4) ∷ (false, 5) ∷ [])) ≡ 0
unfolding reached
first_told = refl

or_none : (o : Option (List ℕ)) → or_else o none ≡ o
unfolding or_else
or_none none = refl
or_none (some v) = refl

-- whichever names count
module _ (names : List ℕ) where
  none_again : (before : ℕ → Bool) → any_again before names (direct record_tag empty) ≡ false
  unfolding any_again
  none_again before = any_none (λ name. again (before name) (direct record_tag empty name)) names (λ name l. not_again (before name) name)

  none_twice : any_twice names (direct record_tag empty) ≡ false
  unfolding any_times times
  none_twice =
      any_none (λ name. eqb (times (direct record_tag empty name)) 2) names
      (λ name l. ap (λ (x : Lookup). eqb (times x) 2) (not_there name))

  none_wrong : any_wrong names (direct record_tag empty) ≡ false
  unfolding any_wrong wrong_value
  none_wrong = any_none (λ name. wrong_value name (direct record_tag empty name)) names (λ name l. ap (wrong_value name) (not_there name))

  -- it is right whatever was told before
  empty_right : (before : ℕ → Bool) → record_reason names before empty ≡ 0
  unfolding record_reason record_lines record_twice
  empty_right before =
      ap₂ (λ (t w : Bool). first_of (frame (record_tag ∷ []) empty ++ ((t, 4) ∷ (w, 5) ∷ [])))
      (ap₂ ◌||◌ none_twice (none_again before)) none_wrong
      ∙ first_told

  none_named : (tag : ℕ) → named_in names tag empty ≡ none
  unfolding named_in value_in told
  none_named tag = ap (λ (l : Lookup). pick (listed tag names) (told l) none) (not_there tag) ∙ pick_same _ _

module _ (s : Situation) where
  -- it adds nothing to what is known
  nothing_new : with_record s empty ≡ s
  unfolding with_record
  nothing_new i =
      record {
        terminal = s.terminal;
        profile = s.profile;
        facts = λ tag. (ap (or_else (s.facts tag)) (none_named (names_for s.terminal) tag) ∙ or_none (s.facts tag)) i;
        tvr = s.tvr;
        tsi = s.tsi;
      }

  empty_read : (number file : ℕ) (rest : List (ℕ × ℕ)) → turn (reading s number file rest) empty ≡ read_on s rest
  unfolding turn after_record goes_on
  empty_read number file rest =
      pick_yes _ _ _ (ap (λ (n : ℕ). eqb n 0) (empty_right (names_for s.terminal) (λ tag. is_some (s.facts tag))))
      ∙ ap (λ (x : Situation). read_on x rest) nothing_new

-- ---- as many records as are named

-- these records, each answered so
abbrev read_as : List ℕ → List (ℕ × ℕ) → List Entry
read_as a [] = []
read_as a (r ∷ rest) = exchange (record_command r.0 r.1) a ++ read_as a rest

two_each : (a : List ℕ) (rs : List (ℕ × ℕ)) → length (read_as a rs) ≡ 2 * length rs
two_each a [] = refl
two_each a (r ∷ rest) = let others = two_each a rest in omega arith

empty_payload : is_payload empty ≡ true
unfolding reached
empty_payload = refl

-- empty records lead to where the last record leads
read_empty : (s : Situation) (rs : List (ℕ × ℕ)) {es : List Entry} → Plays (all_read s) es → Plays (read_on s rs) (read_as empty rs ++ es)
unfolding read_on command_of
read_empty s [] play = play
read_empty s (r ∷ rest) {es} play =
    exchanged refl empty_payload
    (subst (λ (p : Phase). Plays p (read_as empty rest ++ es)) (sym (empty_read s r.0 r.1 rest)) (read_empty s rest play))

-- ---- the session

-- the AFL: each file's byte and its last record, from record 1 on
abbrev locator : List (ℕ × ℕ) → List ℕ
locator [] = []
locator (f ∷ files) = f.0 ∷ 0x01 ∷ f.1 ∷ 0x00 ∷ locator files

-- a record's number is one byte, so a file has at most 255
abbrev files : List (ℕ × ℕ)
files = (0x08, most_records / 2) ∷ (0x10, most_records - most_records / 2) ∷ []

abbrev located : List ℕ
located =
    0x77 ∷ (6 + length (locator files)) ∷ 0x82 ∷ 0x02 ∷ 0x10 ∷ 0x00 ∷ 0x94 ∷ length (locator files) ∷ (locator files ++ (0x90 ∷ 0x00 ∷ []))

-- START and SELECT, for a card with a 9F38; then GPO
abbrev before : List Entry
before = entry start (start_of 2) ∷ exchange select with_list

abbrev options : List Entry
options = exchange with_number located

-- a list with one rule: no verification, always
abbrev full : List ℕ
full = 0x70 ∷ 0x2D ∷ 0x8E ∷ 0x0A ∷ 0 ∷ 0 ∷ 0 ∷ 0 ∷ 0 ∷ 0 ∷ 0 ∷ 0 ∷ 0x1F ∷ 0x00 ∷ drop 2 (recorded number)

-- the results of cardholder verification, both GENERATE AC, with HOST between them, and the decision
abbrev afterwards : List Entry
afterwards =
    entry results (0 ∷ [])
    ∷ exchange (first_asked tc) (given arqc)
    ++ (entry host (1 ∷ 0x30 ∷ 0x30 ∷ []) ∷ (exchange (second_asked tc) (given tc) ++ decides 1 0 0x80 0x60))

abbrev optioned : Situation
optioned = with_profile (begun (reading_of (start_of 2))) (0x10 ∷ 0x00 ∷ [])

abbrev pub options_asked : Phase
options_asked = asks (optioning (begun (reading_of (start_of 2))) (pdol_of with_list))

before_run : run rules before (at opens) ≡ some (at options_asked)
unfolding reached
before_run = refl

options_run : run rules options (at options_asked) ≡ some (at (read_on optioned (to_read (locator files))))
unfolding reached
options_run = refl

afterwards_run : run rules afterwards (at (all_read (with_record optioned full))) ≡ some done
unfolding reached
afterwards_run = refl

full_payload : is_payload full ≡ true
unfolding reached
full_payload = refl

full_right : record_reason (names_for optioned.terminal) (λ tag. is_some (optioned.facts tag)) full ≡ 0
unfolding reached
full_right = refl

full_read : (number file : ℕ) (rest : List (ℕ × ℕ)) → turn (reading optioned number file rest) full
    ≡ read_on (with_record optioned full) rest
unfolding turn after_record goes_on
full_read number file rest = pick_yes _ _ _ (ap (λ (n : ℕ). eqb n 0) full_right)

-- the records: the first tells all, the others nothing
abbrev records : List (ℕ × ℕ) → List Entry
records [] = []
records (r ∷ rest) = read_as full (r ∷ []) ++ read_as empty rest

records_long : (rs : List (ℕ × ℕ)) → length (records rs) ≡ 2 * length rs
records_long [] = refl
records_long (r ∷ rest) = let others = two_each empty rest in omega arith

records_read : (rs : List (ℕ × ℕ)) → 1 ≤ length rs → Plays (read_on optioned rs) (records rs ++ afterwards)
unfolding read_on command_of
records_read [] some-named = absurd (omega arith)
records_read (r ∷ rest) some-named =
    exchanged refl full_payload
    (subst (λ (p : Phase). Plays p (read_as empty rest ++ afterwards)) (sym (full_read r.0 r.1 rest))
    (read_empty (with_record optioned full) rest (ends_follow rules afterwards (at (all_read (with_record optioned full))) afterwards_run)))

abbrev records_on : List Entry
records_on = records (to_read (locator files)) ++ afterwards

-- from GPO on
abbrev pub from_options : List Entry
from_options = options ++ records_on

abbrev pub fullest : List Entry
fullest = before ++ from_options

most_named : length (to_read (locator files)) ≡ most_records
unfolding reached
most_named = read_length (locator files)

options_end : run rules from_options (at options_asked) ≡ some done
unfolding and_on
options_end =
    let play = records_read (to_read (locator files)) (let n = most_named in omega arith) in
    run_append rules options records_on (at options_asked)
    ∙ (ap (and_on (run rules records_on)) options_run
    ∙ follows_ends rules records_on (at (read_on optioned (to_read (locator files)))) play)

pub options_played : Plays options_asked from_options
options_played = ends_follow rules from_options (at options_asked) options_end

pub options_long : length from_options ≡ 9 + 2 * most_records
options_long =
    let n = most_named in
    let read = records_long (to_read (locator files)) in
    let both = length-append (records (to_read (locator files))) afterwards in
    omega arith

pub bound_reached : Session fullest × (length fullest ≡ longest)
unfolding and_on
bound_reached = (
  run_session rules fullest
      (run_append rules before from_options (at opens) ∙ (ap (and_on (run rules from_options)) before_run ∙ options_end)),
  (let n = options_long in omega arith),
)
