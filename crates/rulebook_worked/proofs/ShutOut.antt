-- The wrong kernels and judges that 01 names under "Pinning every answer down": for each a session or a list on which the right answer
-- is another. What is asked of a kernel and of a judge stands in Roles, with right ones, so that nothing here holds for want of any.
-- Assumes nothing.
use mathlib.Core.Path.{◌≡◌, refl, sym, ap, ◌∙◌}
use mathlib.Core.Bool.{true, false}
use mathlib.Core.List.{List, [], ◌∷◌, ◌++◌}
use mathlib.Core.Logic.{inl}
use Prim.Native.Nat.{ℕ, zero, suc}
use native.Mathlib.Omega.{arith}
use lib.Dec.{eqb}
use lib.ListN.{length, take, get_or}
use borrow.Author.Tests.{eqb-false}
use Rattle.slices.specs.Tests.{is_some}
use Rattle.numbers.specs.Tables.{start, command, answer, host, decision}
use Rattle.tape_read.specs.Entries.{Entry, entry}
use Rattle.start_valid.specs.Start.{begins_session}
use Rattle.sessions.specs.Session as Under
use Rattle.sessions.proofs.Breaks.{begins_empty}
use Rattle.rulebook.specs.Session.{Session, BreaksAt}
use Rattle.rulebook.proofs.Opening.{reached}
use Rattle.rulebook.specs.Roles.{given, begins, Kernel, RightKernel, Verdict, pass, inconclusive, fail, Judge, RightJudge}
use Rattle.rulebook.proofs.Made.{start_of, select, selected, with_list, options, with_number, optioned, read_one, recorded, number}
use Rattle.rulebook.proofs.Made.{first_asked, second_asked, given as cryptogram, aac, tc, arqc, decides, exchange, opening, reads, breaks}
use Rattle.rulebook_worked.proofs.Sessions.{approved_online, declined_online, other_list}
use Rattle.rulebook.proofs.Offline.{offline, approved_offline}
use Rattle.rulebook.proofs.Kept.{kept}

-- ---- kernels

-- the first byte of a buffer that some bytes were taken from
first_of : (n : ℕ) (buffer : List ℕ) (b : ℕ) (bs : List ℕ) → b ∷ bs ≡ take n buffer → get_or buffer 0 0 ≡ b
first_of zero buffer b bs e = absurd (let z : ◌≡◌ {A = ℕ} 0 1 = cc in omega arith)
first_of (suc n) [] b bs e = absurd (let z : ◌≡◌ {A = ℕ} 0 1 = cc in omega arith)
first_of (suc n) (c ∷ cs) b bs e = cc

-- its START is one that a session can be begun with
pub begun : begins (offline 2 tc 1) ≡ true
unfolding reached begins begins_session
begun = refl

module _ (k : Kernel) (right : RightKernel k) where
  -- what a right kernel gives in a session of type 2 that is approved offline: SELECT, GPO, the first request and the decision
  abbrev asking : List Entry
  asking = exchange (first_asked tc) (cryptogram tc)

  first_command_lem : k (entry start (start_of 2) ∷ []) ≡ entry command select
  unfolding RightKernel given
  first_command_lem =
      right (entry start (start_of 2) ∷ []) (entry command select)
      (entry answer selected ∷ (exchange options (optioned 1 1)
      ++ (exchange read_one (recorded number) ++ (asking ++ decides 1 0 0x80 0x20))))
      approved_offline.0 begun refl

  second_command_lem : k (entry start (start_of 2) ∷ exchange select selected) ≡ entry command options
  unfolding RightKernel given
  second_command_lem =
      right (entry start (start_of 2) ∷ exchange select selected) (entry command options)
      (entry answer (optioned 1 1) ∷ (exchange read_one (recorded number) ++ (asking ++ decides 1 0 0x80 0x20)))
      approved_offline.0 begun refl

  request : k (opening 2) ≡ entry command (first_asked tc)
  unfolding RightKernel given
  request =
      right (opening 2) (entry command (first_asked tc)) (entry answer (cryptogram tc) ∷ decides 1 0 0x80 0x20)
      approved_offline.0 begun refl

  last_entry : k (opening 2 ++ asking) ≡ entry decision (1 ∷ 0 ∷ 0x80 ∷ 0 ∷ 0 ∷ 0 ∷ 0 ∷ 0x20 ∷ 0 ∷ [])
  unfolding RightKernel given
  last_entry =
      right (opening 2 ++ asking) (entry decision (1 ∷ 0 ∷ 0x80 ∷ 0 ∷ 0 ∷ 0 ∷ 0 ∷ 0x20 ∷ 0 ∷ [])) [] approved_offline.0 begun refl

  -- it does not terminate everything: that session's outcome is approved
  pub not_terminating : ((es : List Entry) → (k es).kind ≡ decision → get_or (k es).payload 0 0 ≡ 3) → ⊥
  not_terminating wrong =
      let said : get_or (k (opening 2 ++ asking)).payload 0 0 ≡ 3 = wrong (opening 2 ++ asking) (ap (λ (e : Entry). e.kind) last_entry) in
      let due : get_or (k (opening 2 ++ asking)).payload 0 0 ≡ 1 = ap (λ (e : Entry). get_or e.payload 0 0) last_entry in
      omega arith

  -- it does not always ask AAC: there it asks TC
  pub not_always_aac : ((es : List Entry) → (k es).kind ≡ command → get_or (k es).payload 1 0 ≡ 0xAE → get_or (k es).payload 2 0 ≡ aac) → ⊥
  not_always_aac wrong =
      let asks : get_or (k (opening 2)).payload 2 0 ≡ aac =
      wrong (opening 2) (ap (λ (e : Entry). e.kind) request) (ap (λ (e : Entry). get_or e.payload 1 0) request)
      in
      let due : get_or (k (opening 2)).payload 2 0 ≡ tc = ap (λ (e : Entry). get_or e.payload 2 0) request in
      omega arith

  -- it does not leave the command buffer alone, whatever stands in it: SELECT and GPO are not both found there
  pub not_idle : (buffer : List ℕ) → ((es : List Entry) → (k es).kind ≡ command → (n : ℕ) × ((k es).payload ≡ take n buffer)) → ⊥
  not_idle buffer wrong =
      let a = wrong (entry start (start_of 2) ∷ []) (ap (λ (e : Entry). e.kind) first_command_lem) in
      let b = wrong (entry start (start_of 2) ∷ exchange select selected) (ap (λ (e : Entry). e.kind) second_command_lem) in
      let c : get_or buffer 0 0 ≡ 0x00 = first_of a.0 buffer _ _ (sym (ap (λ (e : Entry). e.payload) first_command_lem) ∙ a.1) in
      let d : get_or buffer 0 0 ≡ 0x80 = first_of b.0 buffer _ _ (sym (ap (λ (e : Entry). e.payload) second_command_lem) ∙ b.1) in
      omega arith

-- two sessions with the same START that go on for as many entries, and then have a command each that is not the other's
pub record Parts (s : Entry) : Type 0 where
  pub begun : begins_session s.payload ≡ true
  pub one : List Entry
  pub other : List Entry
  pub long : length one ≡ length other
  pub asked : List ℕ
  pub otherwise : List ℕ
  pub apart : asked ≡ otherwise → ⊥
  pub rest : List Entry
  pub more : List Entry
  pub session : Session (s ∷ (one ++ (entry command asked ∷ rest)))
  pub another : Session (s ∷ (other ++ (entry command otherwise ∷ more)))

-- a kernel that settles all at START, and then plays by the number of entries, is not right where they part
pub not_settled : (s : Entry) → Parts s → (k : Kernel) → RightKernel k → (f : Entry → ℕ → Entry)
    → ((t : Entry) (es : List Entry) → k (t ∷ es) ≡ f t (length es)) → ⊥
unfolding RightKernel given begins
not_settled s p k right f wrong =
    let a : k (s ∷ p.one) ≡ entry command p.asked = right (s ∷ p.one) (entry command p.asked) p.rest p.session
    p.begun refl in
    let b : k (s ∷ p.other) ≡ entry command p.otherwise =
    right (s ∷ p.other) (entry command p.otherwise) p.more p.another p.begun refl in
    let same : k (s ∷ p.one) ≡ k (s ∷ p.other) = wrong s p.one ∙ (ap (f s) p.long ∙ sym (wrong s p.other)) in
    p.apart (ap (λ (e : Entry). e.payload) (sym a ∙ (same ∙ b)))

differ : (i : ℕ) (c d : List ℕ) → eqb (get_or c i 0) (get_or d i 0) ≡ false → c ≡ d → ⊥
differ i c d h e = eqb-false (get_or c i 0) (get_or d i 0) h (ap (λ (l : List ℕ). get_or l i 0) e)

-- no bytes end it
abbrev ending : List Entry
ending = entry answer [] ∷ decides 3 1 0 0

abbrev terminal : Entry
terminal = entry start (start_of 2)

terminal_begins : begins_session (start_of 2) ≡ true
unfolding reached begins_session
terminal_begins = refl

-- each command after SELECT depends on what was answered: GPO on the answer to SELECT,
pub options_depend : Parts terminal
unfolding reached
options_depend =
    record {
      begun = terminal_begins;
      one = exchange select selected;
      other = exchange select with_list;
      long = refl;
      asked = options;
      otherwise = with_number;
      apart = differ 4 options with_number refl;
      rest = ending;
      more = ending;
      session = reads _ refl;
      another = reads _ refl;
    }

-- READ RECORD on the AFL,
pub records_depend : Parts terminal
unfolding reached
records_depend =
    record {
      begun = terminal_begins;
      one = exchange select selected ++ exchange options (optioned 1 1);
      other = exchange select selected ++ exchange options (optioned 2 2);
      long = refl;
      asked = read_one;
      otherwise = 0x00 ∷ 0xB2 ∷ 0x02 ∷ 0x0C ∷ 0x00 ∷ [];
      apart = differ 2 read_one (0x00 ∷ 0xB2 ∷ 0x02 ∷ 0x0C ∷ 0x00 ∷ []) refl;
      rest = ending;
      more = ending;
      session = reads _ refl;
      another = reads _ refl;
    }

abbrev up_to : List ℕ → List Entry
up_to list = exchange select selected ++ (exchange options (optioned 1 1) ++ exchange read_one (recorded list))

-- the first GENERATE AC on the record's 8C,
pub first_depends : Parts terminal
unfolding reached
first_depends =
    record {
      begun = terminal_begins;
      one = up_to number;
      other = up_to (0x9F ∷ 0x02 ∷ 0x02 ∷ []);
      long = refl;
      asked = first_asked tc;
      otherwise = 0x80 ∷ 0xAE ∷ tc ∷ 0x00 ∷ 0x02 ∷ 0x75 ∷ 0x00 ∷ 0x00 ∷ [];
      apart = differ 4 (first_asked tc) (0x80 ∷ 0xAE ∷ tc ∷ 0x00 ∷ 0x02 ∷ 0x75 ∷ 0x00 ∷ 0x00 ∷ []) refl;
      rest = entry answer (cryptogram tc) ∷ decides 1 0 0x80 0x20;
      more = entry answer (cryptogram tc) ∷ decides 1 0 0x80 0x20;
      session = approved_offline.0;
      another = other_list;
    }

abbrev asks_online : List ℕ → List Entry
asks_online reply = up_to number ++ (exchange (first_asked tc) (cryptogram arqc) ++ (entry host reply ∷ []))

-- and the second on the issuer's reply
pub second_depends : Parts terminal
unfolding reached
second_depends =
    record {
      begun = terminal_begins;
      one = asks_online (1 ∷ 0x30 ∷ 0x30 ∷ []);
      other = asks_online (2 ∷ 0x30 ∷ 0x35 ∷ []);
      long = refl;
      asked = second_asked tc;
      otherwise = second_asked aac;
      apart = differ 2 (second_asked tc) (second_asked aac) refl;
      rest = entry answer (cryptogram tc) ∷ decides 1 0 0x80 0x20;
      more = entry answer (cryptogram aac) ∷ decides 2 0 0x80 0x20;
      session = approved_online.1;
      another = declined_online.1;
    }

-- ---- judges

-- a tape that begins with a command, and one with two STARTs
abbrev unstarted : List Entry
unstarted = entry command select ∷ []

abbrev restarted : List Entry
restarted = terminal ∷ terminal ∷ []

pub breaks_at_0 : BreaksAt unstarted 0
unfolding reached is_some
breaks_at_0 = breaks [] (entry command select) [] refl refl refl

pub breaks_at_1 : BreaksAt restarted 1
unfolding reached is_some
breaks_at_1 = breaks (terminal ∷ []) terminal [] refl refl refl

module _ (j : Judge) (right : RightJudge j) where
  -- each of the three verdicts is right for some list
  on_session : j (offline 2 tc 1) ≡ pass
  on_session = right.finished (offline 2 tc 1) approved_offline.0

  on_nothing : j [] ≡ inconclusive
  unfolding Under.Open
  on_nothing = right.unfinished [] (inl (begins_empty kept))

  on_restarted : j restarted ≡ fail 1
  on_restarted = right.broken restarted 1 breaks_at_1

  -- so no verdict is right for all, and none of the three can be left out
  pub not_fixed : (v : Verdict) → ((es : List Entry) → j es ≡ v) → ⊥
  not_fixed v wrong =
      let same : pass ≡ inconclusive = sym on_session ∙ (wrong (offline 2 tc 1) ∙ (sym (wrong []) ∙ on_nothing)) in
      let z : ◌≡◌ {A = ℕ} 0 1 = cc in
      omega arith

  pub not_without_pass : ((es : List Entry) → j es ≡ pass → ⊥) → ⊥
  not_without_pass wrong = wrong (offline 2 tc 1) on_session

  pub not_without_inconclusive : ((es : List Entry) → j es ≡ inconclusive → ⊥) → ⊥
  not_without_inconclusive wrong = wrong [] on_nothing

  pub not_without_fail : ((es : List Entry) (m : ℕ) → j es ≡ fail m → ⊥) → ⊥
  not_without_fail wrong = wrong restarted 1 on_restarted

  -- no place is right for all that fail
  pub not_one_place : (m : ℕ) → ((es : List Entry) (n : ℕ) → j es ≡ fail n → n ≡ m) → ⊥
  not_one_place m wrong =
      let a = wrong restarted 1 on_restarted in
      let b = wrong unstarted 0 (right.broken unstarted 0 breaks_at_0) in
      omega arith

  -- and for each there is one only
  pub not_invented : (es : List Entry) (n m : ℕ) → BreaksAt es n → j es ≡ fail m → m ≡ n
  not_invented es n m b e = let due = right.broken es n b in cc
