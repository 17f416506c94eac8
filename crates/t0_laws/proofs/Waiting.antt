-- A '60' put in where a procedure byte is due changes nothing but the count: no rule but the limit looks at the count, so an exchange
-- with one more goes on as the one without it, as long as the limit is not reached. Assumes nothing.
use mathlib.Core.Path.{◌≡◌, refl, sym, ap, ap₂, subst, ◌∙◌}
use mathlib.Core.Bool.{Bool, true, false, false≢true}
use mathlib.Core.List.{List, [], ◌∷◌, ◌++◌}
use Prim.Native.Nat.{ℕ, ◌+◌, ◌<◌, ◌≤◌}
use native.Mathlib.Omega.{arith}
use lib.Dec.{eqb, ltb}
use lib.ListN.{length, get_or, take}
use borrow.Author.Tests.{lt-ltb}
use Rattle.slices.specs.Choice.{pick}
use Rattle.slices.specs.Writing.{laid}
use Rattle.slices.proofs.Choice.{pick_yes, pick_no, pick_ap, pick_cong, picked, either}
use Rattle.t0.proofs.Laying.{laid_nothing}
use Rattle.apdu.specs.Answers.{is_status}
use Rattle.apdu.specs.Commands.{length_byte, case_of, asked}
use Rattle.apdu.specs.declared.Case.{Case}
use Rattle.apdu.specs.declared.Case.TheVariants.{One, Two, Three, Four}
use Rattle.t0_state.specs.Bytes.{ins_of, meaning_of, comes_in, may_get, may_repeat, goes_on}
use Rattle.t0_state.specs.declared.Sent.{Sent}
use Rattle.t0_state.specs.declared.Sent.TheVariants.{Own}
use Rattle.t0_state.specs.declared.Phase.{Phase}
use Rattle.t0_state.specs.declared.Phase.TheVariants.{Procedure, Length61, Length6C, Status, Data, Over}
use Rattle.t0_state.specs.declared.State.{State}
use Rattle.t0_state.specs.declared.Act.{Act}
use Rattle.t0_state.specs.declared.Act.TheVariants.{Nothing, Header, Send, Keep, Answer}
use Rattle.t0_state.specs.declared.Turn.{Turn}
use Rattle.t0_state.specs.declared.bytes.Meaning.{Meaning}
use Rattle.t0_state.specs.declared.bytes.Meaning.TheVariants.{All, Next, Wait, Get, Repeat, Strange, Status as Begins}
use Rattle.t0_procedure.specs.Procedure.{waits_most, moving, on_all, on_next, waited, on_wait, on_get, on_six_c, by_meaning, on_procedure}
use Rattle.t0_turns.specs.Turns.{data_most, on_length, on_repeat, on_status, on_data, by_phase, after_byte}
use Rattle.t0_begin.specs.Begin.{Begun, header_of, nowhere, begun, begun_as, begun_in, begun_by}
use Rattle.t0_begin.specs.declared.Reply.{Reply}
use Rattle.t0_begin.specs.declared.Reply.TheVariants.{Go}
use Rattle.t0_begin.specs.Begin.{wait_for}
use Rattle.t0.specs.Steps.{sent_by, kept_by, reply_to, done, step_of}
use Rattle.t0_pieces.specs.Pieces.{is_over, is_closed}
use Rattle.t0_laws.specs.Outcomes.{Outcome, logged, settled, opened, stepped_to, playing, turned, Bytes}
use Rattle.t0_laws.specs.Counting.{procedure_due, procedures, times, once, one_more}
use Rattle.t0_laws.specs.Bounds.{Sound}
use Rattle.t0_laws.proofs.Cases.{every_turn}
use Rattle.t0_laws.proofs.Cutting.{stopped, going}
use Rattle.t0_laws.proofs.Apart.{command_kept, ins_accepted}
use Rattle.t0_laws.proofs.Ends.{sound_on}
use Rattle.t0_laws.proofs.Beginning.{started}
use Rattle.t0_laws.proofs.Collide.{Accepted, ins_byte, accepted}
use Rattle.t0_laws.proofs.Counting.{is_wait, sixty, tells, times_more, due_adds, rest_adds, turn_is, none_plus, uncounted}
use Rattle.apdu.specs.Answers.{trailer_of}
use Rattle.std.specs.Prelude.{Err, Result, Option, None, Some, Ok}
use Rattle.t0_state.specs.declared.Refusal.{Refusal}

-- the same turn with one more
abbrev later : Turn → Turn
later t = record { state = waited t.state; act = t.act }

-- a choice between turns, with one more each
both : (t : Bool) (a b a' b' : Turn) → a' ≡ later a → b' ≡ later b → pick t a' b' ≡ later (pick t a b)
both t a b a' b' e f = pick_cong t a' (later a) b' (later b) (λ g. e) (λ g. f) ∙ sym (pick_ap later t a b)

module _ (s : State) (b : ℕ) where
  moves : (n : ℕ) → moving n (waited s) ≡ later (moving n s)
  unfolding moving
  moves n = both (eqb n 0) _ _ _ _ refl (both (comes_in s.header.sent) _ _ _ _ refl refl)

  means : (m : Meaning) → (m ≡ Wait → s.counts.waits + 1 < waits_most) → by_meaning m (waited s) b ≡ later (by_meaning m s b)
  unfolding by_meaning on_all on_next on_wait on_get on_six_c
  means All h = moves s.header.left
  means Next h = moves (pick (eqb s.header.left 0) 0 1)
  means Wait h =
      let few = h refl in
      pick_yes _ _ _ (lt-ltb (s.counts.waits + 1) waits_most few)
      ∙ sym (ap later (pick_yes _ _ _ (lt-ltb s.counts.waits waits_most (omega arith))))
  means Get h = both _ _ _ _ _ refl (both (may_get s.header) _ _ _ _ refl refl)
  means Repeat h = both _ _ _ _ _ refl (both (may_repeat s.header) _ _ _ _ refl refl)
  means Begins h = refl
  means Strange h = refl

  phases : (p : Phase) → (p ≡ Procedure → meaning_of (ins_of s) b ≡ Wait → s.counts.waits + 1 < waits_most)
      → by_phase p (waited s) b ≡ later (by_phase p s b)
  unfolding by_phase on_procedure on_length on_repeat on_status on_data ins_of
  phases Procedure h = means (meaning_of (ins_of s) b) (h refl)
  phases Length61 h = refl
  phases Length6C h = refl
  phases (Status a) h = both (goes_on s.header (trailer_of a b)) _ _ _ _ refl refl
  phases (Data n) h = refl
  phases Over h = refl

  turns : (s.phase ≡ Procedure → meaning_of (ins_of s) b ≡ Wait → s.counts.waits + 1 < waits_most)
      → after_byte (waited s) b ≡ later (after_byte s b)
  unfolding after_byte
  turns h = both (ltb data_most s.received) _ _ _ _ refl (phases s.phase h)

-- what is sent does not look at the count
sends : (a : Result Act Refusal) (s : State) → sent_by a (waited s) ≡ sent_by a s
unfolding sent_by header_of
sends (Ok Nothing) s = refl
sends (Ok (Header p3)) s = refl
sends (Ok (Send from n)) s = refl
sends (Ok (Keep b)) s = refl
sends (Ok (Answer t)) s = refl
sends (Err why) s = refl

dones : (t : Turn) (received : ℕ) (out answer : List ℕ)
    → done (later t).state t.act received out answer
    ≡ record {
      state = waited t.state;
      reply = (done t.state t.act received out answer).reply;
      out = (done t.state t.act received out answer).out;
      answer = (done t.state t.act received out answer).answer;
    }
unfolding done
dones t received out answer =
    ap (λ (x : List ℕ). record {
      state = waited t.state;
      reply = reply_to t.act (length x) received t.state.phase;
      out = laid x 0 out;
      answer = laid (kept_by t.act) received answer;
    }) (sends t.act t.state)

-- what is said where an exchange goes on
abbrev Says : Turn → Type 0
Says t =
    (n r : ℕ) → is_over t.state.phase ≡ false → settled (reply_to t.act n r t.state.phase) ≡ Ok (Go 0 (wait_for t.state.phase))

turn_says : (s : State) (b : ℕ) → s.received ≤ data_most → Says (after_byte s b)
unfolding reply_to settled is_over on_length on_data
turn_says s b few =
    every_turn s b Says (λ why n r e. absurd (false≢true (sym e))) (λ h n r e. absurd (omega arith))
    (λ h n r e. absurd (false≢true (sym e ∙ ap is_over h)))
    (λ n h i j k m r e. refl)
    (λ n h i j k m r e. refl)
    (λ h i n r e. refl)
    (λ h i j n r e. refl)
    (λ h i j n r e. refl)
    (λ h n r e. refl)
    (λ h n r e. refl)
    (λ h n r e. refl)
    (λ a h i n r e. refl)
    (λ a h n r e. absurd (false≢true (sym e)))
    (λ n h m r e. refl)

-- an exchange as one that began with a command is at any time
record Fine (o : Outcome) : Type 0 where
  sound : Sound o.state
  fine : Accepted o.state.command
  says : is_over o.state.phase ≡ false → o.said ≡ Ok (Go 0 (wait_for o.state.phase))

abbrev next : Outcome → ℕ → Outcome
next o b = stepped_to o (step_of o.state b o.out o.answer)

few_in : (o : Outcome) → Fine o → o.state.received ≤ data_most
few_in o f = let r = f.sound.room in omega arith

fine_on : (o : Outcome) (b : ℕ) → b < 256 → Fine o → Fine (next o b)
unfolding step_of done turned
fine_on o b byte f =
    record {
      sound = sound_on (b ∷ []) o.state (byte, tt) f.sound;
      fine = subst Accepted (sym (command_kept o.state b)) f.fine;
      says = λ e. turn_says o.state b (few_in o f) _ _ e;
    }

-- how many '60' an exchange has said and still says
abbrev waits_in : State → List ℕ → ℕ
waits_in s bs = s.counts.waits + times 0x60 (procedures s bs)

-- one byte on, as many
goes_on_lem : (s : State) (b : ℕ) (bs : List ℕ) → s.received ≤ data_most → Accepted s.command
    → is_over (after_byte s b).state.phase ≡ false
    → waits_in (after_byte s b).state bs ≡ waits_in s (b ∷ bs)
unfolding procedures
goes_on_lem s b bs few ok e =
    either (procedure_due s.phase)
    (λ d.
    let a = (due_adds s b few ok d e).0 in
    let n = times_more 0x60 b (procedures (after_byte s b).state bs) in
    let m = ap (times 0x60) (pick_yes _ (b ∷ procedures (after_byte s b).state bs) (procedures (after_byte s b).state bs) d) in
    omega arith)
    (λ d.
    let a = (rest_adds s b few d e).0 in
    let m = ap (times 0x60) (pick_no _ (b ∷ procedures (after_byte s b).state bs) (procedures (after_byte s b).state bs) d) in
    omega arith)

-- a '60' where it is due is one of those
counted_now : (s : State) (b : ℕ) (bs : List ℕ) → Accepted s.command → s.phase ≡ Procedure → meaning_of (ins_of s) b ≡ Wait
    → s.counts.waits + 1 ≤ waits_in s (b ∷ bs)
unfolding procedures ins_of
counted_now s b bs ok e m =
    let t = tells (ins_of s) (ins_byte s.header.sent s.command ok.0) (ins_accepted s ok.1) b in
    let n = times_more 0x60 b (procedures (after_byte s b).state bs) in
    let one = ap once (t.waits ∙ ap is_wait m) in
    let r = ap (times 0x60) (pick_yes _ (b ∷ procedures (after_byte s b).state bs) (procedures (after_byte s b).state bs)
    (ap procedure_due e))
    in
    omega arith

-- the same byte to both
step_later_lem : (o : Outcome) (b : ℕ)
    → (o.state.phase ≡ Procedure → meaning_of (ins_of o.state) b ≡ Wait → o.state.counts.waits + 1 < waits_most)
    → next (one_more o) b ≡ one_more (next o b)
unfolding step_of done
step_later_lem o b h =
    ap (stepped_to (one_more o))
    (ap (λ (t : Turn). done t.state t.act o.state.received o.out o.answer) (turns o.state b h)
    ∙ dones (after_byte o.state b) o.state.received o.out o.answer)

same_on : (bs : List ℕ) (o : Outcome) → Bytes bs → Fine o → waits_in o.state bs < waits_most
    → playing (one_more o) bs ≡ one_more (playing o bs)
unfolding playing is_closed step_of done
same_on [] o bytes f few = refl
same_on (b ∷ bs) o bytes f few =
    either (is_closed o.state)
    (λ e. stopped (one_more o) (b ∷ bs) e ∙ ap one_more (sym (stopped o (b ∷ bs) e)))
    (λ e.
    let on = step_later_lem o b (λ p m. let n = counted_now o.state b bs f.fine p m in omega arith) in
    going (one_more o) b bs e
    ∙ (ap (λ (x : Outcome). playing x bs) on
    ∙ (either (is_over (next o b).state.phase)
    (λ g. stopped (one_more (next o b)) bs g ∙ ap one_more (sym (stopped (next o b) bs g)))
    (λ g. same_on bs (next o b) bytes.1 (fine_on o b bytes.0 f)
    (let n = goes_on_lem o.state b bs (few_in o f) f.fine g in omega arith))
    ∙ ap one_more (sym (going o b bs e)))))

-- a '60' itself
here : (o : Outcome) → Fine o → o.state.phase ≡ Procedure → o.state.counts.waits < waits_most → next o 0x60 ≡ one_more o
unfolding step_of done by_phase on_procedure by_meaning on_wait ins_of reply_to settled logged sent_by kept_by is_over
here o f e few =
    let s = o.state in
    let turn : after_byte s 0x60 ≡ record { state = waited s; act = Ok Nothing } =
    turn_is s 0x60 (few_in o f) Procedure e
    ∙ (ap (λ (m : Meaning). by_meaning m s 0x60)
    (sixty (ins_of s) (ins_byte s.header.sent s.command f.fine.0) (ins_accepted s f.fine.1))
    ∙ pick_yes _ _ _ (lt-ltb s.counts.waits waits_most few))
    in
    ap (λ (t : Turn). stepped_to o (done t.state t.act s.received o.out o.answer)) turn
    ∙ (ap₂ (λ (x y : List ℕ). record {
      state = waited s;
      taken = o.taken + 1;
      sent = pick true o.sent (o.sent ++ (take 0 x ∷ []));
      said = Ok (Go 0 (wait_for s.phase));
      out = x;
      answer = y;
    }) (laid_nothing 0 o.out) (laid_nothing s.received o.answer)
    ∙ ap₂ (λ (x : List (List ℕ)) (y : Result Reply Refusal). record {
      state = waited s;
      taken = o.taken + 1;
      sent = x;
      said = y;
      out = o.out;
      answer = o.answer;
    }) (pick_yes true o.sent (o.sent ++ (take 0 o.out ∷ [])) refl) (sym (f.says (ap is_over e))))

-- and anywhere before the rest
put_in : (xs bs : List ℕ) (o : Outcome) → Bytes xs → Bytes bs → Fine o → (playing o xs).state.phase ≡ Procedure
    → waits_in o.state (xs ++ bs) < waits_most → playing o (xs ++ (0x60 ∷ bs)) ≡ one_more (playing o (xs ++ bs))
unfolding playing is_closed is_over step_of done
put_in [] bs o none bytes f e few =
    going o 0x60 bs (ap is_over e)
    ∙ (ap (λ (x : Outcome). playing x bs) (here o f e (omega arith)) ∙ same_on bs o bytes f few)
put_in (x ∷ xs) bs o first bytes f e few =
    either (is_closed o.state)
    (λ g. absurd (false≢true (sym (ap is_over (sym (ap (λ (p : Outcome). p.state.phase) (stopped o (x ∷ xs) g)) ∙ e)) ∙ g)))
    (λ g.
    let due : (playing (next o x) xs).state.phase ≡ Procedure = sym (ap (λ (p : Outcome). p.state.phase) (going o x xs g)) ∙ e in
    let alive : is_over (next o x).state.phase ≡ false
    = either (is_over (next o x).state.phase)
    (λ h. absurd (false≢true (sym (ap is_over (sym (ap (λ (p : Outcome). p.state.phase) (stopped (next o x) xs h)) ∙ due)) ∙ h)))
    (λ h. h)
    in
    let n = goes_on_lem o.state x (xs ++ bs) (few_in o f) f.fine alive in
    going o x (xs ++ (0x60 ∷ bs)) g
    ∙ (put_in xs bs (next o x) first.1 bytes (fine_on o x first.0 f) due (omega arith)
    ∙ ap one_more (sym (going o x (xs ++ bs) g))))

-- at the beginning
module _ (c out : List ℕ) where
  abbrev Opens : Begun → Type 0
  Opens x = is_over x.state.phase ≡ false → settled x.reply ≡ Ok (Go 0 (wait_for x.state.phase))

  as_opens : (sent : Sent) (size : ℕ) → Opens (begun_as sent size c out)
  unfolding begun_as begun nowhere settled wait_for is_over
  as_opens sent size = picked Opens (is_status (get_or c 1 0)) _ _ (λ e f. absurd (false≢true (sym f))) (λ e f. refl)

  in_opens : (x : Option Case) → Opens (begun_in x c out)
  unfolding begun_in nowhere is_over
  in_opens None = λ e. absurd (false≢true (sym e))
  in_opens (Some One) = as_opens (Own One) 0
  in_opens (Some Two) = as_opens (Own Two) (asked (length_byte c))
  in_opens (Some Three) = as_opens (Own Three) (length_byte c)
  in_opens (Some Four) = as_opens (Own Four) (length_byte c)

  first_says : Opens (begun_by c out)
  unfolding begun_by
  first_says = in_opens (case_of c)

-- the law: in an exchange of a command, a '60' where a procedure byte is due, in a capture that says fewer than 255 of them
module _ (c out answer : List ℕ) (bytes : Bytes c) where
  begins_fine : Fine (opened c out answer)
  unfolding opened
  begins_fine =
      record {
        sound = (started c bytes out).0;
        fine = accepted c out bytes;
        says = λ e. first_says c out e;
      }

  pub sixty_changes_nothing : (xs bs : List ℕ) → Bytes xs → Bytes bs → (playing (opened c out answer) xs).state.phase ≡ Procedure
      → times 0x60 (procedures (begun_by c out).state (xs ++ bs)) < waits_most
      → playing (opened c out answer) (xs ++ (0x60 ∷ bs)) ≡ one_more (playing (opened c out answer) (xs ++ bs))
  unfolding opened
  sixty_changes_nothing xs bs first rest e few =
      put_in xs bs (opened c out answer) first rest begins_fine e
      (let z = (uncounted c out).0 in let m = none_plus (times 0x60 (procedures (begun_by c out).state (xs ++ bs))) in omega arith)
