-- Whatever happens to two fresh ends, in any order: they stand in one of the places of `Talking` at each moment. So both ways, over whole
-- sessions, what came is a beginning of what was given. Assumes nothing.
use mathlib.Core.Path.{◌≡◌, refl, sym, ap, subst, ◌∙◌}
use mathlib.Core.Bool.{true, false, false≢true}
use mathlib.Core.List.{List, [], ◌∷◌, ◌++◌}
use Prim.Native.Nat.{ℕ, ◌≤◌}
use native.Mathlib.Omega.{arith}
use lib.ListN.{length, drop}
use borrow.Author.Tests.{leb-true}
use Rattle.slices.specs.Choice.{pick}
use Rattle.slices.specs.Tests.{between}
use Rattle.slices.specs.Writing.{zeros}
use Rattle.slices.proofs.Choice.{pick_yes, pick_no, picked, either}
use Rattle.slices.proofs.Tests.{first_held}
use Rattle.t1_block.specs.declared.What.{What}
use Rattle.t1_block.specs.declared.What.TheVariants.{Ifs}
use Rattle.t1_state.specs.Limits.{message_most, more_of}
use Rattle.t1_state.specs.declared.Role.TheVariants.{Terminal, Card}
use Rattle.t1_state.specs.declared.Phase.{Phase}
use Rattle.t1_state.specs.declared.Phase.TheVariants.{Start, Asking, Due, Sent, Receiving, Over}
use Rattle.t1_state.specs.declared.State.{State}
use Rattle.t1_state.specs.declared.Turn.{Turn}
use Rattle.t1_again.specs.Again.{goes_out}
use Rattle.t1_line.specs.Line.{sends_piece, takes_fields}
use Rattle.t1_turns.specs.Turns.{on_silence, silent_in, asks_for, may_ask, message_of}
use Rattle.t1.specs.Steps.{silence, turn_of, block_of, fresh_end}
use Rattle.t1_laws.specs.Stopping.{awaits}
use Rattle.t1_laws.specs.Lossy.{intact, spoiled}
use Rattle.t1_laws.specs.Talks.{Side, Line, clear, forth, back, Talk, Happens, command, answer, comes, lost, carrying}
use Rattle.t1_laws.specs.Talks.{hello as greets, asks as requests, spoiled as spoils_it, moved, handed}
use Rattle.t1_laws.specs.Talks.{arrives, spoils, happens, is_over, talk, begun, Ordered, may_move, is_mute, due}
use Rattle.t1_laws.proofs.Lossy.{Inv}
use Rattle.t1_laws.proofs.Arriving.{holds_first}
use Rattle.t1_laws.proofs.Cases.{every_hello, every_ask, every_send}
use Rattle.t1_laws.proofs.Orderly.{event_sound, asks_sound, send_sound, fresh_orderly}
use Rattle.t1_laws.proofs.Meeting.{there, Level, Going, to_y, Met, idle, asking, sending}
use Rattle.t1_laws.proofs.Talking.{from_terminal, from_card, Place, starts, terminals, cards, silenced, over, Holds, place_order}
use Rattle.t1_laws.proofs.Talking.{clear_terminal, clear_card, to_card_lem, to_terminal_lem}

-- x's turn: a message goes out, or a request
module _ (x y : Side) (l : Level x y) where
  pub within : (m : List ℕ) → between 1 message_most (length m) ≡ true → (1 ≤ length m) × (length m ≤ message_most)
  unfolding between
  within m e =
      let first = first_held _ _ e in
      let second = first_held _ _ first.1 in
      (leb-true 1 (length m) first.0, leb-true (length m) message_most second.0)

  abbrev sent : List ℕ → Turn
  sent m = goes_out (sends_piece (message_of x.end.sizes.theirs m) x.end)

  pub message_going : x.end.phase ≡ Due → (m : List ℕ) → between 1 message_most (length m) ≡ true
      → Going m (drop (length m) (zeros message_most)) (handed m (sent m) x) y
  unfolding sends_piece
  message_going due m e =
      let w = within m e in
      record {
        inv = subst (Inv m (drop (length m) (zeros message_most)) (sent m).state y.end) (sym l.part')
            (holds_first m w.0 w.1 x.end y.end due l.says l.ears l.none' l.number l.step);
        live = refl;
        ears = l.ears;
        none = l.none;
        part = l.part;
        all = ap (λ (ms : List (List ℕ)). ms ++ (m ∷ [])) l.all;
        all' = l.all';
      }

  pub message_out : x.end.phase ≡ Due → (m : List ℕ) → between 1 message_most (length m) ≡ true
      → Met (handed m (sent m) x) y (there (block_of (sent m).state))
  message_out due m e = sending m (drop (length m) (zeros message_most)) (message_going due m e) (to_y refl)

  abbrev asked : What → ℕ → Turn
  asked w v = goes_out (asks_for w v x.end)

  pub request_level : (w : What) (v : ℕ) → Level (moved (asked w v) x) y
  unfolding asks_for
  request_level w v =
      record {
        ears = l.ears;
        says = l.says;
        number = l.number;
        step = l.step;
        none = l.none;
        none' = l.none';
        part = l.part;
        part' = l.part';
        all = l.all;
        all' = l.all';
      }

  pub request_out : (w : What) (v : ℕ) → Met (moved (asked w v) x) y (there (block_of (asked w v).state))
  unfolding asks_for
  request_out w v = asking (request_level w v) refl (to_y refl)

-- an end that takes fields is not to move
module _ (s : State) where
  not_due : takes_fields s.phase (more_of s.message) ≡ true → s.phase ≡ Due → {A : Type 0} → A
  not_due e f = absurd (false≢true (sym (ap (λ (p : Phase). takes_fields p (more_of s.message)) f) ∙ e))

  not_start : takes_fields s.phase (more_of s.message) ≡ true → s.phase ≡ Start → {A : Type 0} → A
  not_start e f = absurd (false≢true (sym (ap (λ (p : Phase). takes_fields p (more_of s.message)) f) ∙ e))

module _ (t : Talk) (h : Holds t) (live : is_over t.terminal.end.phase ≡ false) where
  abbrev T : Side
  T = t.terminal

  abbrev C : Side
  C = t.card

  ended : T.end.phase ≡ Over → {A : Type 0} → A
  ended e = absurd (false≢true (sym live ∙ ap is_over e))

  start_due : Start ≡ Due → {A : Type 0} → A
  start_due e = absurd (let z : ◌≡◌ {A = ℕ} 0 1 = cc in omega arith)

  moves_not : (p q : Phase) → p ≡ q → may_move p ≡ false → may_move q ≡ true → {A : Type 0} → A
  moves_not p q e f g = absurd (false≢true (sym f ∙ (ap may_move e ∙ g)))

  -- whose turn it is
  pub terminal_due : T.end.phase ≡ Due → Level T C × (t.line ≡ clear)
  terminal_due e = by h.place
    where
      by : Place t → Level T C × (t.line ≡ clear)
      by (starts l p f) = start_due (sym p ∙ e)
      by (terminals (idle l p f)) = (l, clear_terminal t.line f)
      by (terminals (asking l p f)) = moves_not Asking Due (sym p ∙ e) refl refl
      by (terminals (sending m rest g f)) = moves_not Sent Due (sym g.live ∙ e) refl refl
      by (cards (idle l p f)) = not_due T.end l.ears e
      by (cards (asking l p f)) = not_due T.end l.ears e
      by (cards (sending m rest g f)) = not_due T.end g.ears e
      by (silenced m f w o) = absurd (false≢true (sym (ap awaits e) ∙ w))
      by (over f c o) = ended f

  pub terminal_start : T.end.phase ≡ Start → Level T C × (t.line ≡ clear)
  terminal_start e = by h.place
    where
      by : Place t → Level T C × (t.line ≡ clear)
      by (starts l p f) = (l, f)
      by (terminals (idle l p f)) = start_due (sym e ∙ p)
      by (terminals (asking l p f)) = moves_not Asking Start (sym p ∙ e) refl refl
      by (terminals (sending m rest g f)) = moves_not Sent Start (sym g.live ∙ e) refl refl
      by (cards (idle l p f)) = not_start T.end l.ears e
      by (cards (asking l p f)) = not_start T.end l.ears e
      by (cards (sending m rest g f)) = not_start T.end g.ears e
      by (silenced m f w o) = absurd (false≢true (sym (ap awaits e) ∙ w))
      by (over f c o) = ended f

  pub card_due : C.end.phase ≡ Due → Level C T × (t.line ≡ clear)
  card_due e = by h.place
    where
      by : Place t → Level C T × (t.line ≡ clear)
      by (starts l p f) = not_due C.end l.ears e
      by (terminals (idle l p f)) = not_due C.end l.ears e
      by (terminals (asking l p f)) = not_due C.end l.ears e
      by (terminals (sending m rest g f)) = not_due C.end g.ears e
      by (cards (idle l p f)) = (l, clear_card t.line f)
      by (cards (asking l p f)) = moves_not Asking Due (sym p ∙ e) refl refl
      by (cards (sending m rest g f)) = moves_not Sent Due (sym g.live ∙ e) refl refl
      by (silenced m f w o) = absurd (false≢true (sym (ap is_mute e) ∙ m))
      by (over f c o) = ended f

  -- an event that is turned away changes nothing
  unchanged : (to : List ℕ → Line) (b : List ℕ) → Holds (record { terminal = T; card = C; line = pick false (to b) t.line })
  unchanged to b =
      subst (λ (l : Line). Holds (record { terminal = T; card = C; line = l })) (sym (pick_no false (to b) t.line refl)) h

  -- the terminal's own events
  greeted : Holds (happens greets t)
  unfolding happens
  greeted =
      every_hello T.end
      (λ (u : Turn). Holds (record { terminal = moved u T; card = C; line = carrying forth u t.line }))
      (λ why. unchanged forth (block_of T.end)) go
    where
      u : Turn
      u = goes_out (asks_for Ifs 0xFE T.end)

      go : T.end.phase ≡ Start → Holds (record { terminal = moved u T; card = C; line = pick true (forth (block_of u.state)) t.line })
      go e =
          record {
            terminal = (asks_sound T.end h.terminal Ifs 0xFE).orderly;
            card = h.card;
            terminal_role = (asks_sound T.end h.terminal Ifs 0xFE).role ∙ h.terminal_role;
            card_role = h.card_role;
            place = terminals (subst (Met (moved u T) C) (sym (ap from_terminal (pick_yes true (forth (block_of u.state)) t.line refl)))
                (request_out T C (terminal_start e).0 Ifs 0xFE));
          }

  commanded : (m : List ℕ) → Holds (happens (command m) t)
  unfolding happens
  commanded m =
      every_send T.end
      (λ (u : Turn). Holds (record { terminal = handed m u T; card = C; line = carrying forth u t.line }))
      (λ why. unchanged forth (block_of T.end)) m go
    where
      u : Turn
      u = goes_out (sends_piece (message_of T.end.sizes.theirs m) T.end)

      go : T.end.phase ≡ Due → between 1 message_most (length m) ≡ true
          → Holds (record { terminal = handed m u T; card = C; line = pick true (forth (block_of u.state)) t.line })
      go e f =
          record {
            terminal = (send_sound T.end h.terminal m).orderly;
            card = h.card;
            terminal_role = (send_sound T.end h.terminal m).role ∙ h.terminal_role;
            card_role = h.card_role;
            place = terminals (subst (Met (handed m u T) C) (sym (ap from_terminal (pick_yes true (forth (block_of u.state)) t.line refl)))
                (message_out T C (terminal_due e).0 e m f));
          }

  -- the card's
  replied : (m : List ℕ) → Holds (happens (answer m) t)
  unfolding happens
  replied m =
      every_send C.end
      (λ (u : Turn). Holds (record { terminal = T; card = handed m u C; line = carrying back u t.line }))
      (λ why. unchanged back (block_of C.end)) m go
    where
      u : Turn
      u = goes_out (sends_piece (message_of C.end.sizes.theirs m) C.end)

      go : C.end.phase ≡ Due → between 1 message_most (length m) ≡ true
          → Holds (record { terminal = T; card = handed m u C; line = pick true (back (block_of u.state)) t.line })
      go e f =
          record {
            terminal = h.terminal;
            card = (send_sound C.end h.card m).orderly;
            terminal_role = h.terminal_role;
            card_role = (send_sound C.end h.card m).role ∙ h.card_role;
            place = cards (subst (Met (handed m u C) T) (sym (ap from_card (pick_yes true (back (block_of u.state)) t.line refl)))
                (message_out C T (card_due e).0 e m f));
          }

  requested : (w : What) (v : ℕ) → Holds (happens (requests w v) t)
  unfolding happens
  requested w v =
      every_ask C.end
      (λ (u : Turn). Holds (record { terminal = T; card = moved u C; line = carrying back u t.line }))
      (λ why. unchanged back (block_of C.end)) w v go
    where
      u : Turn
      u = goes_out (asks_for w v C.end)

      go : C.end.phase ≡ Due → C.end.role ≡ Card → may_ask w v ≡ true
          → Holds (record { terminal = T; card = moved u C; line = pick true (back (block_of u.state)) t.line })
      go e f g =
          record {
            terminal = h.terminal;
            card = (asks_sound C.end h.card w v).orderly;
            terminal_role = h.terminal_role;
            card_role = (asks_sound C.end h.card w v).role ∙ h.card_role;
            place = cards (subst (Met (moved u C) T) (sym (ap from_card (pick_yes true (back (block_of u.state)) t.line refl)))
                (request_out C T (card_due e).0 w v));
          }

  -- what the line does
  arrived : (l : Line) → t.line ≡ l → Holds (arrives l t)
  unfolding arrives
  arrived clear e = h
  arrived (forth b) e = to_card_lem t h live b b e (intact refl)
  arrived (back b) e = to_terminal_lem t h live b b e (intact refl)

  damaged : (l : Line) (b : List ℕ) → t.line ≡ l → Holds (spoils l b t)
  unfolding spoils
  damaged clear b e = h
  damaged (forth b₀) b e = picked Holds _ _ _ (λ f. to_card_lem t h live b₀ b e (spoiled f)) (λ f. h)
  damaged (back b₀) b e = picked Holds _ _ _ (λ f. to_terminal_lem t h live b₀ b e (spoiled f)) (λ f. h)

  -- the terminal waits in vain, or does not wait
  quiet_line : (p : Phase) → T.end.phase ≡ p → may_move p ≡ true → Place (record { terminal = T; card = C; line = clear })
  quiet_line Start e f = starts (terminal_start e).0 e refl
  quiet_line Asking e f = absurd (false≢true f)
  quiet_line Due e f = terminals (idle (terminal_due e).0 e refl)
  quiet_line Sent e f = absurd (false≢true f)
  quiet_line Receiving e f = absurd (false≢true f)
  quiet_line Over e f = absurd (false≢true f)

  in_vain : (p : Phase) → T.end.phase ≡ p → Place (record { terminal = moved (silent_in p T.end) T; card = C; line = clear })
  unfolding silent_in
  in_vain Start e = quiet_line Start e refl
  in_vain Asking e = over refl refl (record { there = (place_order t h.place).there; back = (place_order t h.place).back })
  in_vain Due e = quiet_line Due e refl
  in_vain Sent e = over refl refl (record { there = (place_order t h.place).there; back = (place_order t h.place).back })
  in_vain Receiving e = over refl refl (record { there = (place_order t h.place).there; back = (place_order t h.place).back })
  in_vain Over e = ended e

  waited : Holds (happens lost t)
  unfolding happens on_silence turn_of
  waited =
      let i = event_sound T.end h.terminal silence in
      record {
        terminal = i.orderly;
        card = h.card;
        terminal_role = i.role ∙ h.terminal_role;
        card_role = h.card_role;
        place = in_vain T.end.phase refl;
      }

  comes_in_lem : Holds (happens comes t)
  unfolding happens
  comes_in_lem = arrived t.line refl

  spoiled_in : (b : List ℕ) → Holds (happens (spoils_it b) t)
  unfolding happens
  spoiled_in b = damaged t.line b refl

  pub step_holds : (e : Happens) → Holds (happens e t)
  step_holds greets = greeted
  step_holds (command m) = commanded m
  step_holds (answer m) = replied m
  step_holds (requests w v) = requested w v
  step_holds comes = comes_in_lem
  step_holds (spoils_it b) = spoiled_in b
  step_holds lost = waited

pub always : (hs : List Happens) (t : Talk) → Holds t → Holds (talk hs t)
unfolding talk
always [] t h = h
always (e ∷ hs) t h =
    either (is_over t.terminal.end.phase) (λ f. subst Holds (sym (pick_yes _ _ _ f)) h)
    (λ f. subst Holds (sym (pick_no _ _ _ f)) (always hs (happens e t) (step_holds t h f e)))

-- both fresh
pub fresh_level : (ifsc : ℕ) → Level (begun ifsc).terminal (begun ifsc).card
unfolding begun fresh_end
fresh_level ifsc =
    record {
      ears = refl;
      says = record { plainly = refl; numbered = λ p e. absurd (let z : ◌≡◌ {A = ℕ} 0 1 = cc in omega arith) };
      number = refl;
      step = refl;
      none = refl;
      none' = refl;
      part = refl;
      part' = refl;
      all = refl;
      all' = refl;
    }

pub begun_holds : (ifsc : ℕ) → Holds (begun ifsc)
unfolding begun fresh_end
begun_holds ifsc =
    record {
      terminal = fresh_orderly Terminal ifsc 254;
      card = fresh_orderly Card 254 ifsc;
      terminal_role = refl;
      card_role = refl;
      place = starts (fresh_level ifsc) refl refl;
    }

-- the law: in order, once, both ways, over whole sessions
pub in_order : (ifsc : ℕ) (hs : List Happens) → Ordered (talk hs (begun ifsc))
in_order ifsc hs =
    let o = place_order _ (always hs (begun ifsc) (begun_holds ifsc)).place in
    record { commands = o.there; answers = o.back }
