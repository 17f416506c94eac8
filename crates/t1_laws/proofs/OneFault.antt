-- A single damaged block, anywhere in a session, never ends it. Assumes nothing.
use mathlib.Core.Path.{◌≡◌, refl, sym, ap, subst, ◌∙◌}
use mathlib.Core.Bool.{Bool, true, false, false≢true}
use mathlib.Core.List.{List, [], ◌∷◌}
use Prim.Native.Nat.{ℕ, ◌+◌, ◌≤◌}
use native.Mathlib.Omega.{arith}
use lib.ListN.{length, drop}
use Rattle.slices.specs.Choice.{pick}
use Rattle.slices.specs.Tests.{every, between}
use Rattle.slices.specs.Writing.{zeros}
use Rattle.slices.proofs.Choice.{pick_yes, pick_no}
use Rattle.t1_block.specs.declared.What.{What}
use Rattle.t1_block.specs.declared.What.TheVariants.{Resynch, Ifs, Abort, Wtx}
use Rattle.t1_state.specs.Limits.{message_most, more_of}
use Rattle.t1_state.specs.declared.Role.TheVariants.{Terminal}
use Rattle.t1_state.specs.declared.Phase.{Phase}
use Rattle.t1_state.specs.declared.Phase.TheVariants.{Start, Asking, Due, Sent, Receiving, Over}
use Rattle.t1_state.specs.declared.State.{State}
use Rattle.t1_state.specs.declared.Turn.{Turn}
use Rattle.t1_again.specs.Again.{goes_out}
use Rattle.t1_line.specs.Line.{is_ifs, sends_piece, takes_fields}
use Rattle.t1_turns.specs.Turns.{asks_for, may_ask, message_of}
use Rattle.t1.specs.Steps.{block_of, fresh_end}
use Rattle.t1_laws.specs.Talks.{Side, forth, back, Talk, Happens, command, answer, comes, lost, carrying}
use Rattle.t1_laws.specs.Talks.{hello as greets, asks as requests, spoiled as spoils_it, moved, handed}
use Rattle.t1_laws.specs.Talks.{happens, is_over, talk, begun, is_clear, is_mute, is_finished}
use Rattle.t1_laws.specs.Talks.{damaged, losses, finished}
use Rattle.t1_laws.proofs.Rounds.{not_not}
use Rattle.t1_laws.proofs.Delivery.{every_size}
use Rattle.t1_laws.proofs.Cases.{every_hello, every_ask, every_send}
use Rattle.t1_laws.proofs.Meeting.{there, Level, Going}
use Rattle.t1_laws.proofs.Talking.{from_terminal, from_card, Holds}
use Rattle.t1_laws.proofs.Schedule.{within, message_going, request_level, step_holds, begun_holds, fresh_level}
use Rattle.t1_laws.proofs.Exactly.{Askable, a_size, some_time}
use Rattle.t1_laws.proofs.Moods.{Roomy, Fresh, Mood, rests, asks, replies, doubts, pieces, wants, again, repeats}
use Rattle.t1_laws.proofs.Well.{Well, starts, terminals, cards, forth_card, back_card, comes_well, spoiled_well, same_line}
use Rattle.t1_laws.proofs.Well.{terminal_rests, terminal_starts, card_rests}

-- a message goes out, or a request
module _ (spare : Bool) (x y : Side) where
  piece_out : (l : Level x y) → x.end.phase ≡ Due → (m : List ℕ) → between 1 message_most (length m) ≡ true → Roomy x.end y.end
      → Roomy y.end x.end → (spare ≡ true → Fresh y.end)
      → Mood spare (handed m (goes_out (sends_piece (message_of x.end.sizes.theirs m) x.end)) x) y
      (there (block_of (sends_piece (message_of x.end.sizes.theirs m) x.end)))
  unfolding sends_piece
  piece_out l p m e r b n =
      pieces m (drop (length m) (zeros message_most)) (message_going x y l p m e) (within x y l m e).1
      (l.number ∙ sym (not_not x.end.numbers.next)) refl refl r b (λ s. (omega arith, n s))

  ask_out : (l : Level x y) (v : What) (u : ℕ) → Askable y.end v u → Roomy x.end y.end → (v ≡ Wtx → Roomy y.end x.end)
      → (spare ≡ true → Fresh y.end) → Mood spare (moved (goes_out (asks_for v u x.end)) x) y (there (block_of (asks_for v u x.end)))
  unfolding asks_for
  ask_out l v u a r b n = asks (request_level x y l v u) refl v u refl a refl r b (λ s. (omega arith, n s))

askable : (y : State) (v : What) (u : ℕ) → y.role ≡ Terminal → may_ask v u ≡ true → Askable y v u
askable y Resynch u r e = absurd (false≢true e)
askable y Ifs u r e = a_size refl e
askable y Abort u r e = absurd (false≢true e)
askable y Wtx u r e = some_time refl r

first_size : is_ifs 0xFE ≡ true
unfolding is_ifs between every pick
first_size = refl

module _ (t : Talk) (h : Holds t) (spare : Bool) (w : Well spare t) where
  abbrev T₁ : Side
  T₁ = t.terminal

  abbrev C₁ : Side
  C₁ = t.card

  hello_well : Well spare (happens greets t)
  unfolding happens
  hello_well =
      every_hello T₁.end (λ (u : Turn). Well spare (record { terminal = moved u T₁; card = C₁; line = carrying forth u t.line }))
      (λ why. same_line t h spare w forth (block_of T₁.end))
      (λ e.
      let k = terminal_starts t h spare w e in
      terminals (subst (Mood spare (moved (goes_out (asks_for Ifs 0xFE T₁.end)) T₁) C₁)
      (sym (ap from_terminal (pick_yes true (forth (block_of (asks_for Ifs 0xFE T₁.end))) t.line refl)))
      (ask_out spare T₁ C₁ k.0 Ifs 0xFE (a_size refl first_size) k.2
      (λ z. absurd (let i : ◌≡◌ {A = ℕ} 0 1 = cc in omega arith)) (λ s. k.1))))

  command_well : (m : List ℕ) → Well spare (happens (command m) t)
  unfolding happens
  command_well m =
      every_send T₁.end (λ (u : Turn). Well spare (record { terminal = handed m u T₁; card = C₁; line = carrying forth u t.line }))
      (λ why. same_line t h spare w forth (block_of T₁.end)) m
      (λ e g.
      let k = terminal_rests t h spare w e in
      terminals (subst (Mood spare (handed m (goes_out (sends_piece (message_of T₁.end.sizes.theirs m) T₁.end)) T₁) C₁)
      (sym (ap from_terminal (pick_yes true (forth (block_of (sends_piece (message_of T₁.end.sizes.theirs m) T₁.end))) t.line refl)))
      (piece_out spare T₁ C₁ k.0 e m g k.1 k.2 k.3)))

  answer_well : (m : List ℕ) → Well spare (happens (answer m) t)
  unfolding happens
  answer_well m =
      every_send C₁.end (λ (u : Turn). Well spare (record { terminal = T₁; card = handed m u C₁; line = carrying back u t.line }))
      (λ why. same_line t h spare w back (block_of C₁.end)) m
      (λ e g.
      let k = card_rests t h spare w e in
      cards (subst (Mood spare (handed m (goes_out (sends_piece (message_of C₁.end.sizes.theirs m) C₁.end)) C₁) T₁)
      (sym (ap from_card (pick_yes true (back (block_of (sends_piece (message_of C₁.end.sizes.theirs m) C₁.end))) t.line refl)))
      (piece_out spare C₁ T₁ k.0 e m g k.1 k.2 k.3)))

  ask_well : (v : What) (u : ℕ) → Well spare (happens (requests v u) t)
  unfolding happens
  ask_well v u =
      every_ask C₁.end (λ (z : Turn). Well spare (record { terminal = T₁; card = moved z C₁; line = carrying back z t.line }))
      (λ why. same_line t h spare w back (block_of C₁.end)) v u
      (λ e g i.
      let k = card_rests t h spare w e in
      cards (subst (Mood spare (moved (goes_out (asks_for v u C₁.end)) C₁) T₁)
      (sym (ap from_card (pick_yes true (back (block_of (asks_for v u C₁.end))) t.line refl)))
      (ask_out spare C₁ T₁ k.0 v u (askable T₁.end v u h.terminal_role i) k.1 (λ z. k.2) k.3)))

  come_well : Well spare (happens comes t)
  unfolding happens
  come_well = comes_well t h spare w

spoil_well : (t : Talk) (c : List ℕ) → Holds t → Well true t → Well false (happens (spoils_it c) t)
unfolding happens
spoil_well t c h w = spoiled_well t h c w

-- while all is well the conversation goes on
not_finished : (c : Bool) (p q : Phase) → is_over p ≡ false → (c ≡ true → is_mute q ≡ false) → is_finished c p q ≡ false
unfolding pick
not_finished true p q e i = by (is_over p) e
  where
    by : (o : Bool) → o ≡ false → pick o true (is_mute q) ≡ false
    by true f = absurd (false≢true (sym f))
    by false f = i refl
not_finished false p q e i = by (is_over p) e
  where
    by : (o : Bool) → o ≡ false → pick o true false ≡ false
    by true f = absurd (false≢true (sym f))
    by false f = refl

takes_live : (p : Phase) (more : Bool) → takes_fields p more ≡ true → (is_over p ≡ false) × (is_mute p ≡ false)
takes_live Start more e = absurd (false≢true e)
takes_live Asking more e = absurd (false≢true e)
takes_live Due more e = absurd (false≢true e)
takes_live Sent more e = (refl, refl)
takes_live Receiving more e = (refl, refl)
takes_live Over more e = absurd (false≢true e)

live : (spare : Bool) (t : Talk) → Well spare t → finished t ≡ false
live spare t (starts l p e n r) =
    not_finished (is_clear t.line) t.terminal.end.phase t.card.end.phase (ap is_over p)
    (λ c. (takes_live t.card.end.phase (more_of t.card.end.message) l.ears).1)
live spare t (terminals m) = by m
  where
    moves : (p q : Phase) → p ≡ q → is_over q ≡ false → is_over p ≡ false
    moves p q e f = ap is_over e ∙ f

    level : Level t.terminal t.card → (p : Phase) → t.terminal.end.phase ≡ p → is_over p ≡ false → finished t ≡ false
    level l p e f = not_finished (is_clear t.line) t.terminal.end.phase t.card.end.phase (moves t.terminal.end.phase p e f)
        (λ c. (takes_live t.card.end.phase (more_of t.card.end.message) l.ears).1)

    going : (m rest : List ℕ) → Going m rest t.terminal t.card → finished t ≡ false
    going m rest g = not_finished (is_clear t.line) t.terminal.end.phase t.card.end.phase (moves t.terminal.end.phase Sent g.live refl)
        (λ c. (takes_live t.card.end.phase (more_of t.card.end.message) g.ears).1)

    by : Mood spare t.terminal t.card (from_terminal t.line) → finished t ≡ false
    by (rests l p e r b n) = level l Due p refl
    by (asks l p v u e a g r b n) = level l Asking p refl
    by (replies l p v u e a q g r b n) = level l Asking p refl
    by (doubts s l p v u e a q o g r b n) = level l Asking p refl
    by (pieces m rest g k n o e r b q) = going m rest g
    by (wants m rest g k n o p q e r b i) = going m rest g
    by (again s m rest g k n p q e r b i) = going m rest g
    by (repeats s m rest g k n o p q i j e r b z) = going m rest g
live spare t (cards m) = by m
  where
    heard : (e : takes_fields t.terminal.end.phase (more_of t.terminal.end.message) ≡ true)
        → (is_clear t.line ≡ true → is_mute t.card.end.phase ≡ false) → finished t ≡ false
    heard e f = not_finished (is_clear t.line) t.terminal.end.phase t.card.end.phase
        (takes_live t.terminal.end.phase (more_of t.terminal.end.message) e).0 f

    carried : (q : List ℕ) → t.line ≡ forth q → is_clear t.line ≡ true → is_mute t.card.end.phase ≡ false
    carried q e c = absurd (false≢true (sym (ap is_clear e) ∙ c))

    carried' : (q : List ℕ) → t.line ≡ back q → is_clear t.line ≡ true → is_mute t.card.end.phase ≡ false
    carried' q e c = absurd (false≢true (sym (ap is_clear e) ∙ c))

    by : Mood spare t.card t.terminal (from_card t.line) → finished t ≡ false
    by (rests l p e r b n) = heard l.ears (λ c. ap is_mute p)
    by (asks l p v u e a g r b n) = heard l.ears (carried' _ (back_card t.line _ g))
    by (replies l p v u e a q g r b n) = heard l.ears (carried _ (forth_card t.line _ g))
    by (doubts s l p v u e a q o g r b n) = heard l.ears (carried _ (forth_card t.line _ g))
    by (pieces m rest g k n o e r b q) = heard g.ears (carried' _ (back_card t.line _ e))
    by (wants m rest g k n o p q e r b i) = heard g.ears (carried _ (forth_card t.line _ e))
    by (again s m rest g k n p q e r b i) = heard g.ears (carried _ (forth_card t.line _ e))
    by (repeats s m rest g k n o p q i j e r b z) = heard g.ears (carried' _ (back_card t.line _ e))

-- a terminal that has stopped would have finished the conversation
going_on : (t : Talk) → finished t ≡ false → is_over t.terminal.end.phase ≡ false
unfolding pick
going_on t e = by (is_over t.terminal.end.phase) e
  where
    by : (o : Bool) → pick o true (pick (is_clear t.line) (is_mute t.card.end.phase) false) ≡ false → o ≡ false
    by true f = absurd (false≢true (sym f))
    by false f = refl

-- any schedule without a damaged block more than is to spare
some_damage : (n : ℕ) → 1 + n ≤ 0 → {A : Type 0} → A
some_damage n h = absurd (omega arith)

no_loss : (n : ℕ) → 1 + n ≡ 0 → {A : Type 0} → A
no_loss n h = absurd (omega arith)

module _ where
  spent : (hs : List Happens) (t : Talk) → Holds t → Well false t → damaged hs ≤ 0 → losses hs ≡ 0 → finished (talk hs t) ≡ false
  unfolding talk damaged losses
  spent [] t h w d l = live false t w
  spent (greets ∷ hs) t h w d l =
      let o = going_on t (live false t w) in
      ap finished (pick_no _ _ _ o) ∙ spent hs (happens greets t) (step_holds t h o greets) (hello_well t h false w) d l
  spent (command m ∷ hs) t h w d l =
      let o = going_on t (live false t w) in
      ap finished (pick_no _ _ _ o) ∙ spent hs (happens (command m) t) (step_holds t h o (command m)) (command_well t h false w m) d l
  spent (answer m ∷ hs) t h w d l =
      let o = going_on t (live false t w) in
      ap finished (pick_no _ _ _ o) ∙ spent hs (happens (answer m) t) (step_holds t h o (answer m)) (answer_well t h false w m) d l
  spent (requests v u ∷ hs) t h w d l =
      let o = going_on t (live false t w) in
      ap finished (pick_no _ _ _ o) ∙ spent hs (happens (requests v u) t) (step_holds t h o (requests v u)) (ask_well t h false w v u) d l
  spent (comes ∷ hs) t h w d l =
      let o = going_on t (live false t w) in
      ap finished (pick_no _ _ _ o) ∙ spent hs (happens comes t) (step_holds t h o comes) (come_well t h false w) d l
  spent (spoils_it c ∷ hs) t h w d l = some_damage (damaged hs) d
  spent (lost ∷ hs) t h w d l = no_loss (losses hs) l

  unspent : (hs : List Happens) (t : Talk) → Holds t → Well true t → damaged hs ≤ 1 → losses hs ≡ 0 → finished (talk hs t) ≡ false
  unfolding talk damaged losses
  unspent [] t h w d l = live true t w
  unspent (greets ∷ hs) t h w d l =
      let o = going_on t (live true t w) in
      ap finished (pick_no _ _ _ o) ∙ unspent hs (happens greets t) (step_holds t h o greets) (hello_well t h true w) d l
  unspent (command m ∷ hs) t h w d l =
      let o = going_on t (live true t w) in
      ap finished (pick_no _ _ _ o) ∙ unspent hs (happens (command m) t) (step_holds t h o (command m)) (command_well t h true w m) d l
  unspent (answer m ∷ hs) t h w d l =
      let o = going_on t (live true t w) in
      ap finished (pick_no _ _ _ o) ∙ unspent hs (happens (answer m) t) (step_holds t h o (answer m)) (answer_well t h true w m) d l
  unspent (requests v u ∷ hs) t h w d l =
      let o = going_on t (live true t w) in
      ap finished (pick_no _ _ _ o) ∙ unspent hs (happens (requests v u) t) (step_holds t h o (requests v u)) (ask_well t h true w v u) d l
  unspent (comes ∷ hs) t h w d l =
      let o = going_on t (live true t w) in
      ap finished (pick_no _ _ _ o) ∙ unspent hs (happens comes t) (step_holds t h o comes) (come_well t h true w) d l
  unspent (spoils_it c ∷ hs) t h w d l =
      let o = going_on t (live true t w) in
      ap finished (pick_no _ _ _ o)
      ∙ spent hs (happens (spoils_it c) t) (step_holds t h o (spoils_it c)) (spoil_well t c h w) (omega arith) l
  unspent (lost ∷ hs) t h w d l = no_loss (losses hs) l

-- both fresh, the card's size one that a block can have
begun_well : (ifsc : ℕ) → 1 ≤ ifsc → ifsc ≤ 254 → Well true (begun ifsc)
unfolding begun fresh_end
begun_well ifsc low high =
    starts (fresh_level ifsc) refl refl (λ p e. absurd (let z : ◌≡◌ {A = ℕ} 0 1 = cc in omega arith))
    (subst (λ (n : ℕ). n ≤ ifsc) (sym (every_size ifsc low high)) (omega arith))

-- the law: at most one damaged block, anywhere, and none lost
pub one_fault_survived : (ifsc : ℕ) → 1 ≤ ifsc → ifsc ≤ 254 → (hs : List Happens) → damaged hs ≤ 1 → losses hs ≡ 0
    → finished (talk hs (begun ifsc)) ≡ false
one_fault_survived ifsc low high hs d l = unspent hs (begun ifsc) (begun_holds ifsc) (begun_well ifsc low high) d l
