-- Cardholder verification in whole sessions: TVR byte 3 and TSI byte 1 b7 are set by the results that are handed in and by nothing else,
-- and these touch nothing else. They end no session: that is done by 8C alone. Where START has no capabilities nothing is awaited, so
-- that such a session has no entry of the kind.
-- Assumes nothing.
use mathlib.Core.Path.{◌≡◌, refl, sym, ap, ◌∙◌, subst}
use mathlib.Core.Bool.{true, false, not, false≢true}
use mathlib.Core.List.{List, [], ◌∷◌}
use mathlib.Core.Logic.{◌⊎◌, inl, inr}
use mathlib.Core.Option.{Option, none}
use Prim.Native.Nat.{ℕ, suc, ◌/◌, ◌%◌, ◌≤◌}
use native.Mathlib.Omega.{arith}
use lib.Bits.{bit_or}
use lib.Dec.{eqb}
use borrow.Author.Tests.{eqb-false}
use lib.ListN.{length, get_or}
use Rattle.slices.specs.Choice.{pick, first_of}
use Rattle.slices.specs.Tests.{is_some}
use Rattle.slices.specs.Writing.{zeros}
use Rattle.slices.proofs.Choice.{picked, pick_yes, pick_no, either}
use Rattle.slices.proofs.Tests.{first_held}
use Rattle.start_fields.specs.Reading.{Terminal}
use Rattle.start_fields.specs.Layout.{start_length}
use Rattle.start_fields.proofs.Reading.{no_capabilities}
use Rattle.numbers.specs.Tables.{start, results, terminated}
use Rattle.tape_read.specs.Entries.{Entry, entry}
use Rattle.facts.specs.Facts.{Facts}
use Rattle.dol_wanted.specs.Wanted.{fillable}
use Rattle.answer_record.specs.Records.{incomplete, complete_reason, after_records}
use Rattle.cvm.specs.Verified.{verified}
use Rattle.decide_tvr.proofs.Laws.{byte_3_stays, b7_stays, b7_stays_on}
use Rattle.decide_verification.specs.Verification.{results_due, verification_list, circumstances_of}
use Rattle.decide_verification.proofs.Laws.{byte_3, other_bytes, b7_set, low_bits, high_bits, other_byte}
use Rattle.decide_requests.specs.Requests.{first_request}
use Rattle.words.proofs.Laws.{results_kind_lem}
use Rattle.words.specs.declared.Word.{Word}
use Rattle.words.specs.declared.Word.TheVariants.{Results}
use Rattle.sessions.specs.Session.{phases_of}
use Rattle.rulebook.specs.Situation.{Situation, begun, list_in}
use Rattle.rulebook.specs.Phase.{Asked, first, terminal, says, Phase, opens, asks, hears}
use Rattle.rulebook.specs.Phase.{decides, situation_of, due_kind, ended, tvr_of, tsi_of}
use Rattle.rulebook.specs.Turn.{goes_on, opened, managed, requested, with_profile, with_record}
use Rattle.rulebook.specs.Turn.{answered, turn, verified_by, after}
use Rattle.rulebook.specs.Session.{rules, Plays, exchanged, heard, decided}
use Rattle.rulebook.proofs.Passing.{Past, Due, leaving, left, Lasting, Holds, holds_seen, turn_holds}
use Rattle.rulebook.proofs.Passing.{after_holds, Awaited, Awaiting, turn_awaiting, after_awaiting}

-- TVR byte 3, and TSI byte 1 b7
abbrev pub byte3 : List ℕ → ℕ
byte3 tvr = get_or tvr 2 0

abbrev pub performed : List ℕ → ℕ
performed tsi = get_or tsi 0 0 / 64 % 2

-- ---- nothing else sets them

-- they are in a phase as in the one before
pub record Unverified (p q : Phase) : Type 0 where
  pub tvr : byte3 (tvr_of q) ≡ byte3 (tvr_of p)
  pub tsi : performed (tsi_of q) ≡ performed (tsi_of p)

abbrev Same : Situation → Situation → Type 0
Same s t = (byte3 t.tvr ≡ byte3 s.tvr) × (performed t.tsi ≡ performed s.tsi)

same_lasts : (s : Situation) → Lasting (Same s)
unfolding with_profile with_record managed answered
same_lasts s =
    record {
      profile = λ t v h. h;
      told = λ t a h. h;
      read = λ t h. (byte_3_stays t.terminal t.profile t.facts t.tvr ∙ h.0, b7_stays t.tsi t.profile ∙ h.1);
      first = λ t h. (h.0, b7_stays_on t.tsi ∙ h.1);
    }

abbrev Seen : Situation → Phase → Type 0
Seen s q = (byte3 (tvr_of q) ≡ byte3 s.tvr) × (performed (tsi_of q) ≡ performed s.tsi)

seen : (s : Situation) (q : Phase) → Holds (Same s) q → Seen s q
seen s q h =
    holds_seen (λ (tvr tsi : List ℕ). (byte3 tvr ≡ byte3 s.tvr) × (performed tsi ≡ performed s.tsi)) q h

-- no answer of the card's,
pub turn_unverified : (w : Asked) (a : List ℕ) → Unverified (asks w) (turn w a)
unfolding tvr_of tsi_of
turn_unverified w a =
    let s = situation_of w in
    let same = seen s (turn w a) (turn_holds (Same s) (same_lasts s) w a (refl, refl)) in
    record { tvr = same.0; tsi = same.1 }

-- not START,
pub start_unverified : (p : List ℕ) → Unverified (hears terminal) (after terminal p)
unfolding after opened begun situation_of tvr_of tsi_of
start_unverified p = record { tvr = refl; tsi = refl }

-- and no word but the results
pub word_unverified : (word : Word) → (word ≡ Results → ⊥) → (s : Situation) (p : List ℕ)
    → Unverified (hears (says word s)) (after (says word s) p)
unfolding tvr_of tsi_of
word_unverified word other s p =
    let same = seen s _ (after_holds (Same s) word s p (left (Same s) word s p (refl, refl) (λ e. absurd (other e)))) in
    record { tvr = same.0; tsi = same.1 }

-- ---- what the results set

pub record Verified (s : Situation) (p : List ℕ) (q : Phase) : Type 0 where
  -- byte 3 as the list comes to, joined to what stood there; the other four bytes stay
  pub byte_3 : byte3 (tvr_of q)
      ≡ bit_or (byte3 s.tvr) (verified (circumstances_of s.terminal s.facts) (verification_list s.facts) p)
  pub others : (i : ℕ) → (i ≡ 2 → ⊥) → get_or (tvr_of q) i 0 ≡ get_or s.tvr i 0
  -- b7 of the TSI's byte 1, whatever the results; b8, b6 to b1 and the other byte stay
  pub b7 : performed (tsi_of q) ≡ 1
  pub low : get_or (tsi_of q) 0 0 % 64 ≡ get_or s.tsi 0 0 % 64
  pub high : get_or (tsi_of q) 0 0 / 128 ≡ get_or s.tsi 0 0 / 128
  pub second : (i : ℕ) → get_or (tsi_of q) (suc i) 0 ≡ get_or s.tsi (suc i) 0

module _ (s : Situation) (p : List ℕ) where
  abbrev done : Situation
  done = verified_by s p

  -- the phase has TVR and TSI of the situation that the results make
  as_made : (tvr_of (after (says Results s) p) ≡ done.tvr) × (tsi_of (after (says Results s) p) ≡ done.tsi)
  unfolding leaving
  as_made =
      holds_seen (λ (tvr tsi : List ℕ). (tvr ≡ done.tvr) × (tsi ≡ done.tsi)) (after (says Results s) p)
      (after_holds (λ t. (t.tvr ≡ done.tvr) × (t.tsi ≡ done.tsi)) Results s p (refl, refl))

  tvr_at : (i : ℕ) → get_or (tvr_of (after (says Results s) p)) i 0 ≡ get_or done.tvr i 0
  tvr_at i = ap (λ (l : List ℕ). get_or l i 0) as_made.0

  tsi_at : (i : ℕ) → get_or (tsi_of (after (says Results s) p)) i 0 ≡ get_or done.tsi i 0
  tsi_at i = ap (λ (l : List ℕ). get_or l i 0) as_made.1

  pub results_set : Verified s p (after (says Results s) p)
  unfolding verified_by
  results_set =
      record {
        byte_3 = tvr_at 2 ∙ byte_3 s.terminal s.facts p s.tvr;
        others = λ i other. tvr_at i ∙ other_bytes s.terminal s.facts p s.tvr i other;
        b7 = ap (λ (n : ℕ). n / 64 % 2) (tsi_at 0) ∙ b7_set s.tsi;
        low = ap (λ (n : ℕ). n % 64) (tsi_at 0) ∙ low_bits s.tsi;
        high = ap (λ (n : ℕ). n / 128) (tsi_at 0) ∙ high_bits s.tsi;
        second = λ i. tsi_at (suc i) ∙ other_byte s.tsi i;
      }

-- ---- the results end no session

-- after the last record there is nothing wrong, something mandatory is missing, or 8C cannot be filled
reason_of_lem : (P : ℕ → Type 0) (facts : ℕ → Option (List ℕ)) → P 0 → P 8 → P 9 → P (after_records facts)
unfolding after_records complete_reason first_of
reason_of_lem P facts z e n = picked P _ 8 _ (λ _. e) (λ _. picked P _ 9 0 (λ _. n) (λ _. z))

-- a phase that ends a session does so for one of these two reasons
abbrev ByList : Phase → Type 0
ByList (asks w) = Unit {0}
ByList (hears h) = Unit {0}
ByList (decides outcome reason t) = (outcome ≡ terminated) × ((reason ≡ 8) ⊎ (reason ≡ 9))

module _ (s : Situation) (p : List ℕ) where
  abbrev made : Situation
  made = verified_by s p

  abbrev asking : Phase
  asking = asks (first made (first_request made.terminal made.facts made.tvr))

  by_list : ByList (after (says Results s) p)
  unfolding after requested goes_on ended
  by_list =
      reason_of_lem (λ (n : ℕ). ByList (pick (eqb n 0) asking (decides terminated n made))) s.facts
      (subst ByList (sym (pick_yes _ _ _ refl)) tt)
      (subst ByList (sym (pick_no _ _ _ refl)) (refl, inl refl))
      (subst ByList (sym (pick_no _ _ _ refl)) (refl, inr refl))

  pub ends_by_list : (outcome reason : ℕ) (t : Situation) → after (says Results s) p ≡ decides outcome reason t
      → (outcome ≡ terminated) × ((reason ≡ 8) ⊎ (reason ≡ 9))
  ends_by_list outcome reason t e = subst ByList e by_list

  -- and where results are awaited, nothing mandatory is missing: what they lead to is settled by 8C, which they do not touch
  module _ (awaited : Awaited Results s) where
    reason_is : after_records s.facts ≡ pick (not (fillable (list_in s 0x8C))) 9 0
    unfolding after_records complete_reason first_of list_in Past
    reason_is =
        either (incomplete (λ name. is_some (s.facts name)))
        (λ y. absurd (eqb-false (after_records s.facts) 8 awaited.complete (pick_yes _ _ _ y)))
        (λ n. pick_no _ _ _ n)

    goes : (reason : ℕ) → after_records s.facts ≡ reason
        → after (says Results s) p ≡ pick (eqb reason 0) asking (decides terminated reason made)
    unfolding after requested goes_on ended
    goes reason e = ap (λ (n : ℕ). pick (eqb n 0) asking (decides terminated n made)) e

    pub results_ask : fillable (list_in s 0x8C) ≡ true → after (says Results s) p ≡ asking
    results_ask h = goes 0 (reason_is ∙ pick_no _ _ _ (ap not h)) ∙ pick_yes _ _ _ refl

    pub list_ends : fillable (list_in s 0x8C) ≡ false → after (says Results s) p ≡ decides terminated 9 made
    list_ends h = goes 9 (reason_is ∙ pick_yes _ _ _ (ap not h)) ∙ pick_no _ _ _ refl

-- ---- where START has no capabilities

lacking : (t : Terminal) (aip : List ℕ) (told : Facts) → t.capabilities ≡ none → results_due t aip told ≡ true → ⊥
unfolding results_due is_some
lacking t aip told e due = false≢true (sym (ap is_some e) ∙ (first_held (is_some t.capabilities) _ due).0)

of_lasts : (t : Terminal) → Lasting (λ s. s.terminal ≡ t)
unfolding with_profile with_record managed answered
of_lasts t = record { profile = λ s v h. h; told = λ s a h. h; read = λ s h. h; first = λ s h. h }

module _ (w : Asked) (a : List ℕ) (s : Situation) where
  -- where an answer makes a word awaited, it is due to the same terminal
  pub turn_awaits : (word : Word) → turn w a ≡ hears (says word s) → (s.terminal ≡ (situation_of w).terminal) × Awaited word s
  unfolding Holds Awaiting
  turn_awaits word e =
      let t = (situation_of w).terminal in (
        subst (Holds (λ u. u.terminal ≡ t)) e (turn_holds (λ u. u.terminal ≡ t) (of_lasts t) w a refl),
        subst Awaiting e (turn_awaiting w a),
      )

  -- which for the results has capabilities
  pub turn_never : (situation_of w).terminal.capabilities ≡ none → turn w a ≡ hears (says Results s) → ⊥
  unfolding Due
  turn_never e h =
      let there = turn_awaits Results h in
      lacking s.terminal s.profile s.facts (ap (λ (t : Terminal). t.capabilities) there.0 ∙ e) there.1.due

-- ---- whole sessions

-- no entry is of the kind that hands results in
abbrev pub Without : List Entry → Type 0
Without [] = Unit {0}
Without (e ∷ es) = (e.kind ≡ results → ⊥) × Without es

-- both are clear in every phase
abbrev pub Clear : List Phase → Type 0
Clear [] = Unit {0}
Clear (q ∷ qs) = (byte3 (tvr_of q) ≡ 0) × ((performed (tsi_of q) ≡ 0) × Clear qs)

abbrev Bare : Situation → Type 0
Bare s = (s.terminal.capabilities ≡ none) × ((byte3 s.tvr ≡ 0) × (performed s.tsi ≡ 0))

bare_lasts : Lasting Bare
unfolding with_profile with_record managed answered
bare_lasts =
    record {
      profile = λ t v h. h;
      told = λ t a h. h;
      read =
          λ t h. (h.0, (byte_3_stays t.terminal t.profile t.facts t.tvr ∙ h.1.0, b7_stays t.tsi t.profile ∙ h.1.1));
      first = λ t h. (h.0, (h.1.0, b7_stays_on t.tsi ∙ h.1.1));
    }

bare_plays : {q : Phase} {es : List Entry} (play : Plays q es) → Holds Bare q → Awaiting q → Without es × Clear (phases_of rules play)
unfolding Holds Awaiting Due phases_of tvr_of tsi_of due_kind
bare_plays (exchanged {w} {a} c ok play) h aw =
    let rest = bare_plays play (turn_holds Bare bare_lasts w a h) (turn_awaiting w a) in
    (((λ e. omega arith), ((λ e. omega arith), rest.0)), (h.1.0, (h.1.1, (h.1.0, (h.1.1, rest.1)))))
bare_plays (heard {h = terminal} f fits ok play) h aw = absurd h
bare_plays (heard {h = says word s} {k} {p} f fits ok play) h aw =
    let never : word ≡ Results → ⊥ =
    λ e. lacking s.terminal s.profile s.facts h.0 (subst (λ (x : Word). Due x s) e aw.due) in
    let kept = left Bare word s p h (λ e. absurd (never e)) in
    let rest = bare_plays play (after_holds Bare word s p kept) (after_awaiting word s p aw) in
    (((λ e. never (results_kind_lem word (sym f ∙ e))), rest.0), (h.1.0, (h.1.1, rest.1)))
bare_plays (decided d) h aw = (((λ e. omega arith), tt), (h.1.0, (h.1.1, tt)))

-- a session whose START has 74 bytes hands no results in, and sets neither
pub old_session : (b : List ℕ) (es : List Entry) → length b ≤ start_length → (session : Plays opens (entry start b ∷ es))
    → Without (entry start b ∷ es) × Clear (phases_of rules session)
unfolding Holds Awaiting phases_of tvr_of tsi_of after opened begun situation_of zeros
old_session b es few (heard k fits ok play) =
    let rest = bare_plays play (no_capabilities b few, (refl, refl)) tt in
    (((λ e. omega arith), rest.0), (refl, (refl, rest.1)))
