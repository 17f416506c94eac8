-- From one mood to the next: what each block that comes brings where all is as it should be, and what one damaged block brings.
-- Assumes nothing.
use mathlib.Core.Path.{◌≡◌, refl, sym, ap, subst, ◌∙◌}
use mathlib.Core.Bool.{Bool, true, false, not, false≢true}
use mathlib.Core.List.{List}
use Prim.Native.Nat.{ℕ, ◌≤◌}
use native.Mathlib.Omega.{arith}
use lib.ListN.{length}
use borrow.Author.Tests.{leb-true}
use Rattle.std.specs.Prelude.{Ok}
use Rattle.slices.specs.Tests.{between}
use Rattle.slices.proofs.Choice.{pick_yes, pick_no, either}
use Rattle.slices.proofs.Tests.{first_held}
use Rattle.t1_block.specs.Faults.{sized, heard_of}
use Rattle.t1_block.specs.declared.What.{What}
use Rattle.t1_block.specs.declared.What.TheVariants.{Resynch, Ifs, Abort, Wtx}
use Rattle.t1_block.specs.declared.Kind.TheVariants.{Response as Answers}
use Rattle.t1_state.specs.Limits.{message_most, room, more_of}
use Rattle.t1_state.specs.declared.Phase.TheVariants.{Asking}
use Rattle.t1_state.specs.declared.Last.TheVariants.{Information, Ready, Request, Response}
use Rattle.t1_state.specs.declared.Numbers.{Numbers}
use Rattle.t1_state.specs.declared.State.{State}
use Rattle.t1_state.specs.declared.Act.TheVariants.{Send, Keep, Value, Nothing as Quiet}
use Rattle.t1_state.specs.declared.Turn.{Turn}
use Rattle.t1_again.specs.Again.{ready_for}
use Rattle.t1_line.specs.Line.{is_ifs, answers, sends_piece, sends_next, keeps}
use Rattle.t1_asking.specs.Asking.{settled}
use Rattle.t1.specs.Steps.{block_of}
use Rattle.t1_laws.specs.Stopping.{is_bad}
use Rattle.t1_laws.specs.Conduct.{fits}
use Rattle.t1_laws.specs.Lossy.{intact, spoiled}
use Rattle.t1_laws.specs.Talks.{Side, speaks}
use Rattle.t1_laws.proofs.Rounds.{not_not, taken}
use Rattle.t1_laws.proofs.Delivery.{every_size}
use Rattle.t1_laws.proofs.Manner.{Unmoved}
use Rattle.t1_laws.proofs.Meeting.{Level, Going, calm, keeps_none, y_after, x_after, y_turn, x_turn, y_way, x_way}
use Rattle.t1_laws.proofs.Meeting.{y_level, x_level, is_request_lem}
use Rattle.t1_laws.proofs.Messages.{spoken, kept, complete, answered}
use Rattle.t1_laws.proofs.Exactly.{repeated, opens, wrong_opens, Askable, a_size, some_time, resized}
use Rattle.t1_laws.proofs.Exactly.{request_heard, response_heard, next_asked, again_asked, request_asked, ready_asked}
use Rattle.t1_laws.proofs.Exactly.{bad_line, bad_sent, bad_asking}
use Rattle.t1_laws.proofs.Moods.{Roomy, Fresh, Mood, rests, asks, replies, doubts, pieces, wants, again, repeats}
use Rattle.t1_laws.proofs.Moods.{Then, goes_on_lem, changes, says_x, says_y, step_is, round, Spoke, spoke, roomy_x, roomy_y}

-- the sizes of a request that is answered and settled
pub record Resized (v : What) (u : ℕ) (y : State) : Type 0 where
  pub phase : (resized v u y).phase ≡ y.phase
  pub role : (resized v u y).role ≡ y.role
  pub ours : (resized v u y).sizes.ours ≡ y.sizes.ours

resizes : (v : What) (u : ℕ) (y : State) → Resized v u y
resizes Resynch u y = record { phase = refl; role = refl; ours = refl }
resizes Ifs u y = record { phase = refl; role = refl; ours = refl }
resizes Abort u y = record { phase = refl; role = refl; ours = refl }
resizes Wtx u y = record { phase = refl; role = refl; ours = refl }

pub record Settled (v : What) (u : ℕ) (x : State) : Type 0 where
  pub unmoved : Unmoved x (settled v u x)
  pub theirs : (settled v u x).sizes.theirs ≡ x.sizes.theirs

settles : (v : What) (u : ℕ) (x : State) → Settled v u x
settles Resynch u x = record { unmoved = record { numbers = refl; received = refl; message = refl; role = refl }; theirs = refl }
settles Ifs u x = record { unmoved = record { numbers = refl; received = refl; message = refl; role = refl }; theirs = refl }
settles Abort u x = record { unmoved = record { numbers = refl; received = refl; message = refl; role = refl }; theirs = refl }
settles Wtx u x = record { unmoved = record { numbers = refl; received = refl; message = refl; role = refl }; theirs = refl }

ifs_room : (u : ℕ) → is_ifs u ≡ true → room u ≡ u
unfolding is_ifs between
ifs_room u e =
    let first = first_held _ _ e in
    let second = first_held _ _ first.1 in
    let low = leb-true 0x10 u first.0 in
    every_size u (omega arith) (leb-true u 0xFE second.0)

-- once answered, the size fits what is settled
answered_fits : (x y : State) (v : What) (u : ℕ) → Askable y v u → (v ≡ Wtx → Roomy y x) → Roomy (resized v u y) (settled v u x)
answered_fits x y v u (a_size e f) back =
    subst (λ (z : What). Roomy (resized z u y) (settled z u x)) (sym e) (let r = ifs_room u f in omega arith)
answered_fits x y v u (some_time e f) back =
    subst (λ (z : What). Roomy (resized z u y) (settled z u x)) (sym e) (back e)

one_byte : (y : State) (v : What) (u most : ℕ) → Askable y v u → sized (Answers v) 1 most ≡ Ok (Answers v)
unfolding sized
one_byte y v u most (a_size e f) = subst (λ (z : What). sized (Answers z) 1 most ≡ Ok (Answers z)) (sym e) (pick_yes _ _ _ refl)
one_byte y v u most (some_time e f) = subst (λ (z : What). sized (Answers z) 1 most ≡ Ok (Answers z)) (sym e) (pick_yes _ _ _ refl)

askable_as : (y z : State) (v : What) (u : ℕ) → z.role ≡ y.role → Askable y v u → Askable z v u
askable_as y z v u r (a_size e f) = a_size e f
askable_as y z v u r (some_time e f) = some_time e (r ∙ f)

module _ (x y : Side) (fit : fits x.end.phase x.end.last ≡ true) (fit' : fits y.end.phase y.end.last ≡ true) where
  abbrev bx : List ℕ
  bx = block_of x.end

  abbrev by : List ℕ
  by = block_of y.end

  -- a request, and its response
  pub request_on : (spare : Bool) (l : Level x y) (p : x.end.phase ≡ Asking) (v : What) (u : ℕ) → x.end.last ≡ Request v u
      → Askable y.end v u → Roomy x.end y.end → (v ≡ Wtx → Roomy y.end x.end)
      → (spare ≡ true → (x.end.counts.same ≤ 1) × Fresh y.end) → Then spare x (y_after x y bx) (y_way x y bx)
  unfolding answers
  request_on spare l p v u e a fits back few =
      let eq = request_heard x.end y.end v u e l.ears a in
      let r = resizes v u y.end in
      let act : (y_turn x y bx).act ≡ Value = ap (λ (t : Turn). t.act) eq in
      goes_on_lem (replies
      (y_level x y bx l p fit fit' (calm x.end y.end bx l.says l.ears (is_request_lem x y bx l p fit fit') (intact refl))
      (ap keeps_none act) (ap (λ (t : Turn). t.state.phase) eq ∙ r.phase))
      p v u e (askable_as y.end (y_turn x y bx).state v u (ap (λ (t : Turn). t.state.role) eq ∙ r.role) a)
      (ap (λ (t : Turn). t.state.last) eq) (pick_yes _ _ _ (ap speaks act))
      (subst (λ (n : ℕ). room x.end.sizes.theirs ≤ n) (sym (ap (λ (t : Turn). t.state.sizes.ours) eq ∙ r.ours)) fits)
      (roomy_x (resized v u y.end) (settled v u x.end) (y_turn x y bx).state (ap (λ (t : Turn). t.state.sizes) eq)
      (answered_fits x.end y.end v u a back))
      (λ s. (few s).0))

  pub response_on : (spare : Bool) (l : Level x y) (p : x.end.phase ≡ Asking) (v : What) (u : ℕ) → x.end.last ≡ Request v u
      → Askable y.end v u → y.end.last ≡ Response v u → Roomy x.end y.end → Roomy y.end (settled v u x.end)
      → Then spare (x_after x y by) y (x_way x y by)
  response_on spare l p v u e a f fits back =
      let eq = response_heard x.end y.end v u p e f (one_byte y.end v u x.end.sizes.ours a) in
      let s = settles v u x.end in
      let act : (x_turn x y by).act ≡ Quiet = ap (λ (t : Turn). t.act) eq in
      goes_on_lem (rests
      (x_level x y by l p fit fit'
      (subst (λ (t : Turn). Unmoved x.end t.state) (sym eq)
      (record {
        numbers = s.unmoved.numbers;
        received = s.unmoved.received;
        message = s.unmoved.message;
        role = s.unmoved.role;
      }))
      (ap keeps_none act))
      (ap (λ (t : Turn). t.state.phase) eq) (pick_no _ _ _ (ap speaks act))
      (subst (λ (n : ℕ). room n ≤ y.end.sizes.ours) (sym (ap (λ (t : Turn). t.state.sizes.theirs) eq ∙ s.theirs)) fits)
      (roomy_y y.end (settled v u x.end) (x_turn x y by).state (ap (λ (t : Turn). t.state.sizes) eq) back)
      (λ z q g. absurd (let w : ◌≡◌ {A = ℕ} 0 1 = apart q (sym f ∙ g) in omega arith)))
    where
      apart : (q : ℕ) → Response v u ≡ Ready q → ◌≡◌ {A = ℕ} 0 1
      apart q g = cc

  -- the request again, after an R-block or a block that is not valid
  request_again : (b : List ℕ) (l : Level x y) (p : x.end.phase ≡ Asking) (v : What) (u : ℕ) → x.end.last ≡ Request v u
      → Askable y.end v u → Roomy x.end y.end → (v ≡ Wtx → Roomy y.end x.end) → x_turn x y b ≡ repeated x.end
      → Mood false (x_after x y b) y (x_way x y b)
  request_again b l p v u e a fits back eq =
      let act : (x_turn x y b).act ≡ Send = ap (λ (t : Turn). t.act) eq in
      asks
      (x_level x y b l p fit fit'
      (subst (λ (t : Turn). Unmoved x.end t.state) (sym eq) (record { numbers = refl; received = refl; message = refl; role = refl }))
      (ap keeps_none act))
      (ap (λ (t : Turn). t.state.phase) eq ∙ p) v u (ap (λ (t : Turn). t.state.last) eq ∙ e) a (pick_yes _ _ _ (ap speaks act))
      (roomy_x x.end y.end (x_turn x y b).state (ap (λ (t : Turn). t.state.sizes) eq) fits)
      (λ z. roomy_y y.end x.end (x_turn x y b).state (ap (λ (t : Turn). t.state.sizes) eq) (back z))
      (λ z. absurd (false≢true z))

  pub doubt_on : (l : Level x y) (p : x.end.phase ≡ Asking) (v : What) (u : ℕ) → x.end.last ≡ Request v u
      → Askable y.end v u → (q : ℕ) → y.end.last ≡ Ready q → Roomy x.end y.end → (v ≡ Wtx → Roomy y.end x.end)
      → x.end.counts.same ≤ 1 → Then false (x_after x y by) y (x_way x y by)
  doubt_on l p v u e a q f fits back few =
      goes_on_lem (request_again by l p v u e a fits back (request_asked y.end x.end q l.says f p few))

  pub response_spoiled : (b : List ℕ) → is_bad (heard_of b x.end.sizes.ours) ≡ true → (l : Level x y) (p : x.end.phase ≡ Asking)
      (v : What) (u : ℕ) → x.end.last ≡ Request v u → Askable y.end v u → Roomy x.end y.end
      → Roomy y.end (settled v u x.end) → x.end.counts.same ≤ 1 → Then false (x_after x y b) y (x_way x y b)
  response_spoiled b bad l p v u e a fits back few =
      goes_on_lem (request_again b l p v u e a fits (λ z. subst (λ (k : What). Roomy y.end (settled k u x.end)) z back)
      (bad_asking b x.end bad p few))

  pub request_spoiled : (b : List ℕ) → is_bad (heard_of b y.end.sizes.ours) ≡ true → (l : Level x y) (p : x.end.phase ≡ Asking)
      (v : What) (u : ℕ) → x.end.last ≡ Request v u → Askable y.end v u → Roomy x.end y.end
      → (v ≡ Wtx → Roomy y.end x.end) → x.end.counts.same ≤ 1 → Fresh y.end → Then false x (y_after x y b) (y_way x y b)
  request_spoiled b bad l p v u e a fits back few new =
      let s : Spoke y.end (y_turn x y b)
      = subst (Spoke y.end) (sym (bad_line b y.end bad l.ears)) (spoke y.end _ l.says new y.end.last refl)
      in
      goes_on_lem (doubts refl
      (y_level x y b l p fit fit' (calm x.end y.end b l.says l.ears (is_request_lem x y b l p fit fit') (spoiled bad))
      (ap keeps_none s.said) s.stays)
      p v u e (askable_as y.end (y_turn x y b).state v u s.role a) s.out.0 s.out.1 (pick_yes _ _ _ (ap speaks s.said))
      (roomy_y x.end y.end (y_turn x y b).state s.sized fits)
      (λ z. roomy_x y.end x.end (y_turn x y b).state s.sized (back z)) few)

  -- pieces
  module _ (m rest : List ℕ) (g : Going m rest x y) (most : length m ≤ message_most) (fits : Roomy x.end y.end)
      (fits' : Roomy y.end x.end) where
    -- one comes
    pub piece_on : (spare : Bool) → y.end.numbers.expected ≡ not x.end.numbers.next → x.end.last ≡ Information
        → Then spare x (y_after x y bx) (y_way x y bx)
    unfolding keeps ready_for
    piece_on spare n out =
        let eq = taken m rest x.end y.end y.part (round m rest x y g most n out fits g.inv) in
        either (more_of x.end.message)
        (λ more.
        let kept_eq : y_turn x y bx ≡ keeps true x.end.message.size y.end
        = eq ∙ ap (λ (z : Bool). keeps z x.end.message.size y.end) more
        in
        let full = kept_eq ∙ pick_yes true _ _ refl in
        let act : (y_turn x y bx).act ≡ Keep = ap (λ (t : Turn). t.act) full in
        goes_on_lem (wants m rest
        (kept m rest x y bx g fit fit' (intact refl) act (ap (λ (t : Turn). t.state.phase) full)) most
        (ap (λ (t : Turn). t.state.numbers.expected) full ∙ (ap not n ∙ not_not x.end.numbers.next)) more _
        (ap (λ (t : Turn). t.state.last) full) (pick_yes _ _ _ (ap speaks act))
        (roomy_y x.end y.end (y_turn x y bx).state (ap (λ (t : Turn). t.state.sizes) full) fits)
        (roomy_x y.end x.end (y_turn x y bx).state (ap (λ (t : Turn). t.state.sizes) full) fits')
        (λ s. (subst (λ (k : ℕ). k ≤ 1) (sym (ap (λ (t : Turn). t.state.counts.same) full)) (omega arith), out))))
        (λ final.
        let full = eq ∙ (ap (λ (z : Bool). keeps z x.end.message.size y.end) final ∙ pick_no false _ _ refl) in
        let act = ap (λ (t : Turn). t.act) full in
        changes (pick_no _ _ _ (ap speaks act))
        (rests (complete m rest x y bx g fit fit' (intact refl) _ act (ap (λ (t : Turn). t.state.phase) full))
        (ap (λ (t : Turn). t.state.phase) full) refl
        (roomy_x y.end x.end (y_turn x y bx).state (ap (λ (t : Turn). t.state.sizes) full) fits')
        (roomy_y x.end y.end (y_turn x y bx).state (ap (λ (t : Turn). t.state.sizes) full) fits)
        (λ s q f. absurd (let z : ◌≡◌ {A = ℕ} 0 1 = apart q (sym out ∙ f) in omega arith))))
      where
        apart : (q : ℕ) → Information ≡ Ready q → ◌≡◌ {A = ℕ} 0 1
        apart q f = cc

    -- the R-block for it comes
    pub next_on : (spare : Bool) → y.end.numbers.expected ≡ x.end.numbers.next → more_of x.end.message ≡ true → (q : ℕ)
        → y.end.last ≡ Ready q → (spare ≡ true → y.end.counts.same ≤ 1) → Then spare (x_after x y by) y (x_way x y by)
    unfolding sends_next sends_piece
    next_on spare n more q f few =
        let eq = next_asked y.end x.end q (says_y m rest x y g g.inv) f g.live n more in
        let act : (x_turn x y by).act ≡ Send = ap (λ (t : Turn). t.act) eq in
        goes_on_lem (pieces m rest
        (answered m rest x y by g fit fit' (intact refl) (ap keeps_none act) (ap (λ (t : Turn). t.state.phase) eq ∙ sym g.live)
        (ap (λ (t : Turn). t.state.received) eq)) most
        (n ∙ (sym (not_not x.end.numbers.next) ∙ ap not (sym (ap (λ (t : Turn). t.state.numbers.next) eq))))
        (ap (λ (t : Turn). t.state.last) eq) (pick_yes _ _ _ (ap speaks act))
        (roomy_x x.end y.end (x_turn x y by).state (ap (λ (t : Turn). t.state.sizes) eq) fits)
        (roomy_y y.end x.end (x_turn x y by).state (ap (λ (t : Turn). t.state.sizes) eq) fits')
        (λ s. (subst (λ (k : ℕ). k ≤ 1) (sym (ap (λ (t : Turn). t.state.counts.information) eq)) (omega arith), λ p e. few s)))

    -- one that asks for the piece again comes
    pub again_on : y.end.numbers.expected ≡ not x.end.numbers.next → (q : ℕ) → y.end.last ≡ Ready q
        → x.end.counts.information ≤ 1 → Then false (x_after x y by) y (x_way x y by)
    again_on n q f few =
        let eq = again_asked y.end x.end q (says_y m rest x y g g.inv) f g.live n few in
        let act : (x_turn x y by).act ≡ Send = ap (λ (t : Turn). t.act) eq in
        goes_on_lem (pieces m rest
        (answered m rest x y by g fit fit' (intact refl) (ap keeps_none act) (ap (λ (t : Turn). t.state.phase) eq)
        (ap (λ (t : Turn). t.state.received) eq)) most
        (n ∙ ap not (sym (ap (λ (t : Turn). t.state.numbers.next) eq)))
        (ap (λ (t : Turn). t.state.last) eq) (pick_yes _ _ _ (ap speaks act))
        (roomy_x x.end y.end (x_turn x y by).state (ap (λ (t : Turn). t.state.sizes) eq) fits)
        (roomy_y y.end x.end (x_turn x y by).state (ap (λ (t : Turn). t.state.sizes) eq) fits')
        (λ s. absurd (false≢true s)))

    -- one that asks for the R-block again comes
    pub repeat_on : y.end.numbers.expected ≡ x.end.numbers.next → more_of x.end.message ≡ true → (p q : ℕ)
        → x.end.last ≡ Ready p → y.end.last ≡ Ready q → y.end.counts.same ≤ 1 → Then false x (y_after x y bx) (y_way x y bx)
    repeat_on n more p q e f few =
        let eq = ready_asked x.end y.end p (says_x m rest x y g g.inv) e q g.ears (step_is m rest x y g g.inv) f few in
        let act : (y_turn x y bx).act ≡ Send = ap (λ (t : Turn). t.act) eq in
        goes_on_lem (wants m rest
        (spoken m rest x y bx g fit fit' (intact refl) (ap keeps_none act) (ap (λ (t : Turn). t.state.phase) eq)) most
        (ap (λ (t : Turn). t.state.numbers.expected) eq ∙ n) more q (ap (λ (t : Turn). t.state.last) eq ∙ f)
        (pick_yes _ _ _ (ap speaks act))
        (roomy_y x.end y.end (y_turn x y bx).state (ap (λ (t : Turn). t.state.sizes) eq) fits)
        (roomy_x y.end x.end (y_turn x y bx).state (ap (λ (t : Turn). t.state.sizes) eq) fits')
        (λ s. absurd (false≢true s)))

    -- a piece does not come, or the R-block for it
    pub piece_spoiled : (b : List ℕ) → is_bad (heard_of b y.end.sizes.ours) ≡ true
        → y.end.numbers.expected ≡ not x.end.numbers.next → x.end.counts.information ≤ 1 → Fresh y.end
        → Then false x (y_after x y b) (y_way x y b)
    piece_spoiled b bad n few new =
        let s : Spoke y.end (y_turn x y b)
        = subst (Spoke y.end) (sym (bad_line b y.end bad g.ears))
        (spoke y.end _ (says_y m rest x y g g.inv) new y.end.last refl)
        in
        goes_on_lem (again refl m rest
        (spoken m rest x y b g fit fit' (spoiled bad) (ap keeps_none s.said) s.stays) most
        (ap (λ (k : Numbers). k.expected) s.numbered ∙ n) s.out.0 s.out.1 (pick_yes _ _ _ (ap speaks s.said))
        (roomy_y x.end y.end (y_turn x y b).state s.sized fits)
        (roomy_x y.end x.end (y_turn x y b).state s.sized fits') few)

    pub ready_spoiled : (b : List ℕ) → is_bad (heard_of b x.end.sizes.ours) ≡ true → y.end.numbers.expected ≡ x.end.numbers.next
        → more_of x.end.message ≡ true → (q : ℕ) → y.end.last ≡ Ready q → y.end.counts.same ≤ 1 → x.end.last ≡ Information
        → Then false (x_after x y b) y (x_way x y b)
    unfolding ready_for
    ready_spoiled b bad n more q f few e =
        let eq = bad_sent b x.end bad g.live ∙ wrong_opens x.end _ (ap opens e) in
        let act : (x_turn x y b).act ≡ Send = ap (λ (t : Turn). t.act) eq in
        goes_on_lem (repeats refl m rest
        (answered m rest x y b g fit fit' (spoiled bad) (ap keeps_none act) (ap (λ (t : Turn). t.state.phase) eq)
        (ap (λ (t : Turn). t.state.received) eq)) most
        (n ∙ sym (ap (λ (t : Turn). t.state.numbers.next) eq)) (ap (λ (t : Turn). more_of t.state.message) eq ∙ more) _ q
        (ap (λ (t : Turn). t.state.last) eq) f (pick_yes _ _ _ (ap speaks act))
        (roomy_x x.end y.end (x_turn x y b).state (ap (λ (t : Turn). t.state.sizes) eq) fits)
        (roomy_y y.end x.end (x_turn x y b).state (ap (λ (t : Turn). t.state.sizes) eq) fits') few)
