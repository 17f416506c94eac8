-- The three counts are those of the whole command: a procedure byte adds to the count of its own kind and to no other, every other turn
-- leaves the counts as they are, and no turn sets one back. So the limits are those of the command over all its headers. Assumes nothing.
use mathlib.Core.Path.{◌≡◌, refl, sym, ap, subst, ◌∙◌}
use mathlib.Core.Bool.{Bool, true, false, false≢true}
use mathlib.Core.List.{List, [], ◌∷◌}
use Prim.Native.Nat.{ℕ, ◌+◌, ◌≤◌, ◌<◌}
use native.Mathlib.Omega.{arith}
use lib.Dec.{eqb, leb, ltb}
use lib.ListN.{get_or}
use borrow.Author.Tests.{eqb-true, le-ltb}
use Rattle.slices.specs.Choice.{pick}
use Rattle.slices.proofs.Choice.{pick_yes, pick_no, picked, either}
use Rattle.apdu.specs.Answers.{is_status}
use Rattle.apdu.specs.Commands.{length_byte, case_of, asked}
use Rattle.apdu.specs.declared.Case.{Case}
use Rattle.apdu.specs.declared.Case.TheVariants.{One, Two, Three, Four}
use Rattle.t0_state.specs.Bytes.{ins_of, meaning_of, may_get, may_repeat}
use Rattle.t0_state.specs.declared.Sent.{Sent}
use Rattle.t0_state.specs.declared.Sent.TheVariants.{Own}
use Rattle.t0_state.specs.declared.Phase.{Phase}
use Rattle.t0_state.specs.declared.Phase.TheVariants.{Procedure, Length61, Length6C, Status, Data, Over}
use Rattle.t0_state.specs.declared.Refusal.{Refusal}
use Rattle.t0_state.specs.declared.Refusal.TheVariants.{Byte, Place, Many60, Many61, Many6C}
use Rattle.t0_state.specs.declared.State.{State}
use Rattle.t0_state.specs.declared.Act.TheVariants.{Nothing}
use Rattle.t0_state.specs.declared.Turn.{Turn}
use Rattle.t0_state.specs.declared.bytes.Meaning.{Meaning}
use Rattle.t0_state.specs.declared.bytes.Meaning.TheVariants.{All, Next, Wait, Get, Repeat, Strange, Status as Begins}
use Rattle.t0_procedure.specs.Procedure.{waits_most, gets_most, refused, onward, moving, on_all, on_next}
use Rattle.t0_procedure.specs.Procedure.{waited, on_wait, got, on_get, repeats, on_six_c, by_meaning, on_procedure}
use Rattle.t0_turns.specs.Turns.{data_most, on_length, on_repeat, on_status, on_data, by_phase, after_byte}
use Rattle.t0_begin.specs.Begin.{Begun, nowhere, begun, begun_as, begun_in, begun_by}
use Rattle.t0_pieces.specs.Pieces.{is_over}
use Rattle.t0_laws.specs.Outcomes.{turned, Bytes}
use Rattle.t0_laws.specs.Bounds.{Sound}
use Rattle.t0_laws.specs.Counting.{procedure_due, procedures, times, once, Counted}
use Rattle.t0_laws.proofs.Apart.{status_read, command_kept, ins_accepted}
use Rattle.t0_laws.proofs.Ends.{stays_over, sound_on}
use Rattle.t0_laws.proofs.Beginning.{started}
use Rattle.t0_laws.proofs.Collide.{Accepted, ins_byte, stays, accepted}
use Rattle.std.specs.Prelude.{Option, None, Some, Ok}

pub plus_none : (n : ℕ) → n ≡ n + 0
plus_none n = omega arith

pub none_plus : (n : ℕ) → 0 + n ≡ n
none_plus n = omega arith

-- which of the three a byte is, by what it means
abbrev pub is_wait : Meaning → Bool
is_wait All = false
is_wait Next = false
is_wait Wait = true
is_wait Get = false
is_wait Repeat = false
is_wait Begins = false
is_wait Strange = false

abbrev pub is_get : Meaning → Bool
is_get All = false
is_get Next = false
is_get Wait = false
is_get Get = true
is_get Repeat = false
is_get Begins = false
is_get Strange = false

abbrev pub is_repeat : Meaning → Bool
is_repeat All = false
is_repeat Next = false
is_repeat Wait = false
is_repeat Get = false
is_repeat Repeat = true
is_repeat Begins = false
is_repeat Strange = false

-- a meaning is that of the byte
pub record Tells (b : ℕ) (m : Meaning) : Type 0 where
  pub waits : eqb b 0x60 ≡ is_wait m
  pub gets : eqb b 0x61 ≡ is_get m
  pub repeats : eqb b 0x6C ≡ is_repeat m

module _ (ins : ℕ) (byte : ins < 256) (fine : is_status ins ≡ false) where
  pub sixty : meaning_of ins 0x60 ≡ Wait
  unfolding is_status pick
  sixty = status_read ins byte fine 0x60 refl

  pub sixty_one : meaning_of ins 0x61 ≡ Get
  unfolding is_status pick
  sixty_one = status_read ins byte fine 0x61 refl

  pub six_c : meaning_of ins 0x6C ≡ Repeat
  unfolding is_status pick
  six_c = status_read ins byte fine 0x6C refl

  none_of_them : (b : ℕ) → eqb b 0x60 ≡ false → eqb b 0x61 ≡ false → eqb b 0x6C ≡ false → Tells b (meaning_of ins b)
  unfolding meaning_of
  none_of_them b e f g =
      let no : (m : Meaning) → is_wait m ≡ false → is_get m ≡ false → is_repeat m ≡ false → Tells b m
      = λ m x y z. record { waits = e ∙ sym x; gets = f ∙ sym y; repeats = g ∙ sym z }
      in
      picked (Tells b) _ _ _ (λ h. no All refl refl refl)
      (λ h. picked (Tells b) _ _ _ (λ i. no Next refl refl refl)
      (λ i. picked (Tells b) _ _ _ (λ j. absurd (false≢true (sym e ∙ j)))
      (λ j. picked (Tells b) _ _ _ (λ k. absurd (false≢true (sym f ∙ k)))
      (λ k. picked (Tells b) _ _ _ (λ l. absurd (false≢true (sym g ∙ l)))
      (λ l. picked (Tells b) _ _ _ (λ m. no Begins refl refl refl) (λ m. no Strange refl refl refl))))))

  pub tells : (b : ℕ) → Tells b (meaning_of ins b)
  tells b =
      either (eqb b 0x60) (λ e. known 0x60 e Wait sixty (record { waits = refl; gets = refl; repeats = refl }))
      (λ e. either (eqb b 0x61) (λ f. known 0x61 f Get sixty_one (record { waits = refl; gets = refl; repeats = refl }))
      (λ f. either (eqb b 0x6C) (λ g. known 0x6C g Repeat six_c (record { waits = refl; gets = refl; repeats = refl }))
      (λ g. none_of_them b e f g)))
    where
      known : (x : ℕ) → eqb b x ≡ true → (m : Meaning) → meaning_of ins x ≡ m → Tells x m → Tells b (meaning_of ins b)
      known x e m f t =
          subst (λ (y : ℕ). Tells y (meaning_of ins y)) (sym (eqb-true b x e)) (subst (Tells x) (sym f) t)

-- one byte
module _ (s : State) (b : ℕ) where
  abbrev pub Adds : ℕ → ℕ → ℕ → Turn → Type 0
  Adds w g r t =
      is_over t.state.phase ≡ false
      → (t.state.counts.waits ≡ s.counts.waits + w) × (t.state.counts.gets ≡ s.counts.gets + g)
      × (once t.state.counts.repeated ≡ once s.counts.repeated + r)

  -- the counts as they were
  none : (s.counts.waits ≡ s.counts.waits + 0) × (s.counts.gets ≡ s.counts.gets + 0)
      × (once s.counts.repeated ≡ once s.counts.repeated + 0)
  none = (plus_none s.counts.waits, plus_none s.counts.gets, plus_none (once s.counts.repeated))

  gone : (w g r : ℕ) (why : Refusal) → Adds w g r (refused why s)
  unfolding is_over
  gone w g r why o = absurd (false≢true (sym o))

  moved_adds : (n : ℕ) → Adds 0 0 0 (moving n s)
  unfolding moving
  moved_adds n =
      picked (Adds 0 0 0) _ _ _ (λ e. gone 0 0 0 Place) (λ e. picked (Adds 0 0 0) _ _ _ (λ f o. none) (λ f o. none))

  meaning_adds : (m : Meaning) → Adds (once (is_wait m)) (once (is_get m)) (once (is_repeat m)) (by_meaning m s b)
  unfolding by_meaning on_all on_next on_wait on_get on_six_c
  meaning_adds All = moved_adds s.header.left
  meaning_adds Next = moved_adds _
  meaning_adds Wait =
      picked (Adds 1 0 0) _ _ _ (λ e o. (refl, none.1, none.2)) (λ e. gone 1 0 0 Many60)
  meaning_adds Get =
      picked (Adds 0 1 0) _ _ _ (λ e. gone 0 1 0 Many61)
      (λ e. picked (Adds 0 1 0) _ _ _ (λ f o. (none.0, refl, none.2)) (λ f. gone 0 1 0 Place))
  meaning_adds Repeat =
      picked (Adds 0 0 1) _ _ _ (λ e. gone 0 0 1 Many6C)
      (λ e. picked (Adds 0 0 1) _ _ _ (λ f o. (none.0, none.1, ap (λ (x : Bool). once x + 1) (sym e))) (λ f. gone 0 0 1 Place))
  meaning_adds Begins = λ o. none
  meaning_adds Strange = gone 0 0 0 Byte

  -- where no procedure byte is due
  other_adds : (p : Phase) → s.phase ≡ p → procedure_due p ≡ false → Adds 0 0 0 (by_phase p s b)
  unfolding by_phase on_length on_repeat on_status on_data
  other_adds Procedure e f = absurd (false≢true (sym f))
  other_adds Length61 e f = λ o. none
  other_adds Length6C e f = λ o. none
  other_adds (Status a) e f = picked (Adds 0 0 0) _ _ _ (λ g o. none) (λ g o. none)
  other_adds (Data n) e f = λ o. none
  other_adds Over e f = λ o. none

  pub turn_is : s.received ≤ data_most → (p : Phase) → s.phase ≡ p → after_byte s b ≡ by_phase p s b
  unfolding after_byte
  turn_is few p e = pick_no _ _ _ (le-ltb _ _ few) ∙ ap (λ (q : Phase). by_phase q s b) e

  due_is : (p : Phase) → procedure_due p ≡ true → p ≡ Procedure
  due_is Procedure e = refl
  due_is Length61 e = absurd (false≢true e)
  due_is Length6C e = absurd (false≢true e)
  due_is (Status a) e = absurd (false≢true e)
  due_is (Data n) e = absurd (false≢true e)
  due_is Over e = absurd (false≢true e)

  -- a byte where a procedure byte is due
  pub due_adds : s.received ≤ data_most → Accepted s.command → procedure_due s.phase ≡ true
      → Adds (once (eqb b 0x60)) (once (eqb b 0x61)) (once (eqb b 0x6C)) (after_byte s b)
  unfolding by_phase on_procedure ins_of
  due_adds few ok e =
      let m = meaning_of (ins_of s) b in
      let t = tells (ins_of s) (ins_byte s.header.sent s.command ok.0) (ins_accepted s ok.1) b in
      subst (λ (x : Turn). Adds (once (eqb b 0x60)) (once (eqb b 0x61)) (once (eqb b 0x6C)) x)
      (sym (turn_is few Procedure (due_is s.phase e)))
      (λ o. let a = meaning_adds m o in (
        a.0 ∙ ap (λ (x : Bool). s.counts.waits + once x) (sym t.waits),
        a.1 ∙ ap (λ (x : Bool). s.counts.gets + once x) (sym t.gets),
        a.2 ∙ ap (λ (x : Bool). once s.counts.repeated + once x) (sym t.repeats),
      ))

  pub rest_adds : s.received ≤ data_most → procedure_due s.phase ≡ false → Adds 0 0 0 (after_byte s b)
  rest_adds few e = subst (λ (x : Turn). Adds 0 0 0 x) (sym (turn_is few s.phase refl)) (other_adds s.phase refl e)

pub times_more : (x b : ℕ) (bs : List ℕ) → times x (b ∷ bs) ≡ once (eqb b x) + times x bs
unfolding times pick
times_more x b bs = by (eqb b x)
  where
    by : (t : Bool) → pick t (1 + times x bs) (times x bs) ≡ once t + times x bs
    by true = refl
    by false = omega arith

-- any bytes
module _ where
  added : (s t u : State) (w g r : ℕ) (said : List ℕ) → Counted t u said
      → (t.counts.waits ≡ s.counts.waits + w) × (t.counts.gets ≡ s.counts.gets + g)
      × (once t.counts.repeated ≡ once s.counts.repeated + r)
      → (n m k : ℕ) → n ≡ w + times 0x60 said → m ≡ g + times 0x61 said → k ≡ r + times 0x6C said
      → (u.counts.waits ≡ s.counts.waits + n) × (u.counts.gets ≡ s.counts.gets + m)
      × (once u.counts.repeated ≡ once s.counts.repeated + k)
  added s t u w g r said c a n m k e f h =
      let x = c.waits in let y = c.gets in let z = c.repeated in
      let x' = a.0 in let y' = a.1 in let z' = a.2 in
      (omega arith, omega arith, omega arith)

pub counted : (bs : List ℕ) (s : State) → Bytes bs → Sound s → Accepted s.command → is_over (turned s bs).phase ≡ false
    → Counted s (turned s bs) (procedures s bs)
unfolding turned procedures times
counted [] s bytes sound ok still =
    record { waits = plus_none _; gets = plus_none _; repeated = plus_none _ }
counted (b ∷ bs) s bytes sound ok still =
    let t = (after_byte s b).state in
    let few : s.received ≤ data_most = (let r = sound.room in omega arith) in
    let more = counted bs t bytes.1 (sound_on (b ∷ []) s (bytes.0, tt) sound) (subst Accepted (sym (command_kept s b)) ok) still in
    let here : is_over t.phase ≡ false
    = either (is_over t.phase) (λ e. absurd (false≢true (sym still ∙ (ap (λ (x : State). is_over x.phase) (stays_over bs t e) ∙ e))))
    (λ e. e)
    in
    either (procedure_due s.phase)
    (λ e.
    let a = added s t (turned t bs) _ _ _ (procedures t bs) more (due_adds s b few ok e here) _ _ _
    (times_more 0x60 b (procedures t bs)) (times_more 0x61 b (procedures t bs)) (times_more 0x6C b (procedures t bs))
    in
    subst (Counted s (turned t bs)) (sym (pick_yes _ _ _ e)) (record { waits = a.0; gets = a.1; repeated = a.2 }))
    (λ e.
    let a = added s t (turned t bs) 0 0 0 (procedures t bs) more (rest_adds s b few e here)
    (times 0x60 (procedures t bs)) (times 0x61 (procedures t bs)) (times 0x6C (procedures t bs)) (omega arith) (omega arith) (omega arith)
    in
    subst (Counted s (turned t bs)) (sym (pick_no _ _ _ e)) (record { waits = a.0; gets = a.1; repeated = a.2 }))

as_number : (t : Bool) → t ≡ leb 1 (once t)
as_number true = refl
as_number false = refl

-- at the beginning nothing is counted
abbrev pub Uncounted : Begun → Type 0
Uncounted x = (x.state.counts.waits ≡ 0) × (x.state.counts.gets ≡ 0) × (once x.state.counts.repeated ≡ 0)

module _ (c out : List ℕ) where
  as_uncounted : (sent : Sent) (size : ℕ) → Uncounted (begun_as sent size c out)
  unfolding begun_as begun nowhere
  as_uncounted sent size = picked Uncounted (is_status (get_or c 1 0)) _ _ (λ e. (refl, refl, refl)) (λ e. (refl, refl, refl))

  in_uncounted : (x : Option Case) → Uncounted (begun_in x c out)
  unfolding begun_in nowhere
  in_uncounted None = (refl, refl, refl)
  in_uncounted (Some One) = as_uncounted (Own One) 0
  in_uncounted (Some Two) = as_uncounted (Own Two) (asked (length_byte c))
  in_uncounted (Some Three) = as_uncounted (Own Three) (length_byte c)
  in_uncounted (Some Four) = as_uncounted (Own Four) (length_byte c)

  pub uncounted : Uncounted (begun_by c out)
  unfolding begun_by
  uncounted = in_uncounted (case_of c)

-- the law, from a command on
module _ (c out bs : List ℕ) (bytes : Bytes c) (card : Bytes bs) where
  abbrev first : State
  first = (begun_by c out).state

  abbrev after : State
  after = turned first bs

  pub whole_command : is_over after.phase ≡ false → Counted first after (procedures first bs)
  whole_command still = counted bs first card (started c bytes out).0 (accepted c out bytes) still

  none_yet : Uncounted (begun_by c out)
  none_yet = uncounted c out

  module _ (due : after.phase ≡ Procedure) where
    abbrev said : List ℕ
    said = procedures first bs

    still : is_over after.phase ≡ false
    unfolding is_over
    still = ap is_over due

    byte_means : (b : ℕ) (m : Meaning)
        → ((ins : ℕ) → ins < 256 → is_status ins ≡ false → meaning_of ins b ≡ m) → after_byte after b ≡ by_meaning m after b
    unfolding by_phase on_procedure ins_of
    byte_means b m f =
        let ok = stays bs first (accepted c out bytes) in
        let few : after.received ≤ data_most = (let r = (sound_on bs first card (started c bytes out).0).room in omega arith) in
        turn_is after b few Procedure due
        ∙ ap (λ (x : Meaning). by_meaning x after b)
        (f (ins_of after) (ins_byte after.header.sent after.command ok.0) (ins_accepted after ok.1))

    -- the 256th '60' of the command is too many, and none before it
    pub sixty_limit : after_byte after 0x60
        ≡ pick (ltb (times 0x60 said) waits_most) (record { state = waited after; act = Ok Nothing }) (refused Many60 after)
    unfolding by_meaning on_wait
    sixty_limit =
        let n : after.counts.waits ≡ times 0x60 said = (whole_command still).waits
        ∙ (ap (λ (k : ℕ). k + times 0x60 said) none_yet.0 ∙ none_plus _) in
        byte_means 0x60 Wait (λ ins x y. sixty ins x y)
        ∙ ap (λ (k : ℕ). pick (ltb k waits_most) (record { state = waited after; act = Ok Nothing }) (refused Many60 after)) n

    -- the 17th '61'
    pub sixty_one_limit : after_byte after 0x61
        ≡ pick (leb gets_most (times 0x61 said)) (refused Many61 after)
        (pick (may_get after.header) (onward Length61 (got after)) (refused Place after))
    unfolding by_meaning on_get
    sixty_one_limit =
        let n : after.counts.gets ≡ times 0x61 said = (whole_command still).gets
        ∙ (ap (λ (k : ℕ). k + times 0x61 said) none_yet.1 ∙ none_plus _) in
        byte_means 0x61 Get (λ ins x y. sixty_one ins x y)
        ∙ ap (λ (k : ℕ). pick (leb gets_most k) (refused Many61 after)
        (pick (may_get after.header) (onward Length61 (got after)) (refused Place after))) n

    -- the second '6C'
    pub six_c_limit : after_byte after 0x6C
        ≡ pick (leb 1 (times 0x6C said)) (refused Many6C after)
        (pick (may_repeat after.header) (onward Length6C (repeats after)) (refused Place after))
    unfolding by_meaning on_six_c
    six_c_limit =
        let n : once after.counts.repeated ≡ times 0x6C said
        = (whole_command still).repeated ∙ (ap (λ (k : ℕ). k + times 0x6C said) none_yet.2 ∙ none_plus _)
        in
        byte_means 0x6C Repeat (λ ins x y. six_c ins x y)
        ∙ ap (λ (t : Bool). pick t (refused Many6C after)
        (pick (may_repeat after.header) (onward Length6C (repeats after)) (refused Place after)))
        (as_number after.counts.repeated ∙ ap (leb 1) n)
