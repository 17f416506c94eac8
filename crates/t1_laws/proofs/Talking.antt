-- Over any schedule two fresh ends stand at each moment in one of the places below, and so what each has is a beginning of what the other
-- was given, and exactly one thing is due: a block is to come, an end is to move, or the conversation is over. Assumes nothing.
use mathlib.Core.Path.{◌≡◌, refl, sym, ap, subst, ◌∙◌}
use mathlib.Core.Bool.{true, false, false≢true}
use mathlib.Core.List.{List}
use Prim.Native.Nat.{ℕ}
use native.Mathlib.Omega.{arith}
use Rattle.slices.proofs.Choice.{pick_ap}
use Rattle.t1_state.specs.declared.Role.TheVariants.{Terminal, Card}
use Rattle.t1_state.specs.declared.Phase.TheVariants.{Start, Over}
use Rattle.t1.specs.Steps.{block, turn_of, block_of}
use Rattle.t1_laws.specs.Stopping.{awaits}
use Rattle.t1_laws.specs.Lossy.{Arrives}
use Rattle.t1_laws.specs.Talks.{Side, Line, clear, forth, back, Talk, speaks}
use Rattle.t1_laws.specs.Talks.{to_card, to_terminal}
use Rattle.t1_laws.specs.Talks.{is_over, is_mute}
use Rattle.t1_laws.proofs.Orderly.{Orderly, event_sound}
use Rattle.t1_laws.proofs.Meeting.{Way, empty, there, here, Level, to_y, to_x, Met, idle, asking, sending, Apart}
use Rattle.t1_laws.proofs.Meeting.{Left, goes_on_lem, changes, x_stops, y_stops, x_mute, level_order, going_order, begun_part}
use Rattle.t1_laws.proofs.Meeting.{y_turn, x_turn, y_after, x_after, y_way, x_way, request_comes, reply_comes}
use Rattle.t1_laws.proofs.Messages.{piece_comes, response_comes}

-- the line as each end sees it
abbrev pub from_terminal : Line → Way
from_terminal clear = empty
from_terminal (forth b) = there b
from_terminal (back b) = here b

abbrev pub from_card : Line → Way
from_card clear = empty
from_card (forth b) = here b
from_card (back b) = there b

-- where two ends stand: before the first request; the terminal's turn, or the card's; the card silent; the end
pub data Place (t : Talk) : Type 0 where
  starts : Level t.terminal t.card → t.terminal.end.phase ≡ Start → t.line ≡ clear → Place t
  terminals : Met t.terminal t.card (from_terminal t.line) → Place t
  cards : Met t.card t.terminal (from_card t.line) → Place t
  silenced : is_mute t.card.end.phase ≡ true → t.line ≡ clear → awaits t.terminal.end.phase ≡ true
      → Apart t.terminal t.card → Place t
  over : t.terminal.end.phase ≡ Over → t.line ≡ clear → Apart t.terminal t.card → Place t

pub record Holds (t : Talk) : Type 0 where
  pub terminal : Orderly t.terminal.end
  pub card : Orderly t.card.end
  pub terminal_role : t.terminal.end.role ≡ Terminal
  pub card_role : t.card.end.role ≡ Card
  pub place : Place t

-- a clear line
pub clear_terminal : (l : Line) → from_terminal l ≡ empty → l ≡ clear
clear_terminal clear e = refl
clear_terminal (forth b) e = absurd (let z : ◌≡◌ {A = ℕ} 0 1 = cc in omega arith)
clear_terminal (back b) e = absurd (let z : ◌≡◌ {A = ℕ} 0 1 = cc in omega arith)

pub clear_card : (l : Line) → from_card l ≡ empty → l ≡ clear
clear_card clear e = refl
clear_card (forth b) e = absurd (let z : ◌≡◌ {A = ℕ} 0 1 = cc in omega arith)
clear_card (back b) e = absurd (let z : ◌≡◌ {A = ℕ} 0 1 = cc in omega arith)

other_way : (x y : Side) → Apart x y → Apart y x
other_way x y a = record { there = a.back; back = a.there }

pub met_order : (x y : Side) (w : Way) → Met x y w → Apart x y
met_order x y w (idle l p e) = level_order x y l
met_order x y w (asking l p f) = level_order x y l
met_order x y w (sending m rest g f) =
    going_order m rest x y (begun_part m rest x.end y.end y.part g.inv) g.part g.all g.all'

pub place_order : (t : Talk) → Place t → Apart t.terminal t.card
place_order t (starts l p e) = level_order t.terminal t.card l
place_order t (terminals m) = met_order t.terminal t.card _ m
place_order t (cards m) = other_way t.card t.terminal (met_order t.card t.terminal _ m)
place_order t (silenced m e w a) = a
place_order t (over e c a) = a

-- from what an arrival left
module _ (t : Talk) (role : t.terminal.end.role ≡ Terminal) where
  from_terminal_lem : (w : Way) → from_terminal t.line ≡ w → Left t.terminal t.card w → Place t
  from_terminal_lem w e (goes_on_lem m) = terminals (subst (Met t.terminal t.card) (sym e) m)
  from_terminal_lem w e (changes f m) =
      cards (subst (Met t.card t.terminal) (sym (ap from_card (clear_terminal t.line (e ∙ f)))) m)
  from_terminal_lem w e (x_stops p f a o) = over p (clear_terminal t.line (e ∙ f)) o
  from_terminal_lem w e (y_stops p f a o) = silenced (ap is_mute p) (clear_terminal t.line (e ∙ f)) a o
  from_terminal_lem w e (x_mute p c f a o) = absurd (let z : ◌≡◌ {A = ℕ} 0 1 = both (sym role ∙ c) in omega arith)
    where
      both : Terminal ≡ Card → ◌≡◌ {A = ℕ} 0 1
      both g = cc

  from_card_lem : (w : Way) → from_card t.line ≡ w → Left t.card t.terminal w → Place t
  from_card_lem w e (goes_on_lem m) = cards (subst (Met t.card t.terminal) (sym e) m)
  from_card_lem w e (changes f m) =
      terminals (subst (Met t.terminal t.card) (sym (ap from_terminal (clear_card t.line (e ∙ f)))) m)
  from_card_lem w e (x_stops p f a o) = silenced (ap is_mute p) (clear_card t.line (e ∙ f)) a (other_way t.card t.terminal o)
  from_card_lem w e (y_stops p f a o) = over p (clear_card t.line (e ∙ f)) (other_way t.card t.terminal o)
  from_card_lem w e (x_mute p c f a o) = silenced (ap is_mute p) (clear_card t.line (e ∙ f)) a (other_way t.card t.terminal o)

-- a block comes to the card
module _ (t : Talk) (h : Holds t) (going : is_over t.terminal.end.phase ≡ false) (b₀ b : List ℕ) where
  not_clear : (l : Line) → l ≡ clear → l ≡ forth b₀ → {A : Type 0} → A
  not_clear l e f = absurd (let z : ◌≡◌ {A = ℕ} 0 1 = cc in omega arith)

  not_clear' : (l : Line) → l ≡ clear → l ≡ back b₀ → {A : Type 0} → A
  not_clear' l e f = absurd (let z : ◌≡◌ {A = ℕ} 0 1 = cc in omega arith)

  not_over : t.terminal.end.phase ≡ Over → {A : Type 0} → A
  not_over e = absurd (false≢true (sym going ∙ ap is_over e))

  abbrev C : Side
  C = t.card

  abbrev T : Side
  T = t.terminal

  -- the two shapes of the new place
  card_heard : Left T (y_after T C b) (y_way T C b) → Place (to_card b t)
  unfolding to_card
  card_heard l =
      from_terminal_lem (to_card b t) h.terminal_role (y_way T C b)
      (pick_ap from_terminal (speaks (y_turn T C b).act) (back (block_of (y_turn T C b).state)) clear) l

  card_heard' : Left (x_after C T b) T (x_way C T b) → Place (to_card b t)
  unfolding to_card
  card_heard' l =
      from_card_lem (to_card b t) h.terminal_role (x_way C T b)
      (pick_ap from_card (speaks (x_turn C T b).act) (back (block_of (x_turn C T b).state)) clear) l

  there_same : (q : List ℕ) (w : Way) → w ≡ there b₀ → w ≡ there q → b₀ ≡ q
  there_same q w e f = same (sym e ∙ f)
    where
      same : there b₀ ≡ there q → b₀ ≡ q
      same g = cc

  here_same : (q : List ℕ) (w : Way) → w ≡ here b₀ → w ≡ here q → b₀ ≡ q
  here_same q w e f = same (sym e ∙ f)
    where
      same : here b₀ ≡ here q → b₀ ≡ q
      same g = cc

  there_here : (p q : List ℕ) (w : Way) → w ≡ there p → w ≡ here q → {A : Type 0} → A
  there_here p q w e f = absurd (apart (sym e ∙ f))
    where
      apart : there p ≡ here q → ⊥
      apart g = let z : ◌≡◌ {A = ℕ} 0 1 = cc in omega arith

  module _ (on_line : t.line ≡ forth b₀) (a : Arrives b₀ C.end.sizes.ours b) where
    its : b₀ ≡ block_of T.end → Arrives (block_of T.end) C.end.sizes.ours b
    its e = subst (λ (q : List ℕ). Arrives q C.end.sizes.ours b) e a

    met_forth : Met T C (from_terminal t.line) → Place (to_card b t)
    met_forth (idle l p e) = not_clear t.line (clear_terminal t.line e) on_line
    met_forth (asking l p (to_y f)) =
        card_heard (request_comes T C b l p h.terminal.fit h.card.fit (its (there_same _ _ (ap from_terminal on_line) f)))
    met_forth (asking l p (to_x f)) = there_here _ _ _ (ap from_terminal on_line) f
    met_forth (sending m rest g (to_y f)) =
        card_heard (piece_comes m rest T C b g h.terminal.fit h.card.fit (its (there_same _ _ (ap from_terminal on_line) f)))
    met_forth (sending m rest g (to_x f)) = there_here _ _ _ (ap from_terminal on_line) f

    met_forth' : Met C T (from_card t.line) → Place (to_card b t)
    met_forth' (idle l p e) = not_clear t.line (clear_card t.line e) on_line
    met_forth' (asking l p (to_x f)) = card_heard' (reply_comes C T b l p h.card.fit h.terminal.fit)
    met_forth' (asking l p (to_y f)) = there_here _ _ _ f (ap from_card on_line)
    met_forth' (sending m rest g (to_x f)) =
        card_heard' (response_comes m rest C T b g h.card.fit h.terminal.fit (its (here_same _ _ (ap from_card on_line) f)))
    met_forth' (sending m rest g (to_y f)) = there_here _ _ _ f (ap from_card on_line)

    forth_place : Place t → Place (to_card b t)
    forth_place (starts l p e) = not_clear t.line e on_line
    forth_place (terminals m) = met_forth m
    forth_place (cards m) = met_forth' m
    forth_place (silenced m e w o) = not_clear t.line e on_line
    forth_place (over e c o) = not_over e

    pub to_card_lem : Holds (to_card b t)
    unfolding to_card turn_of
    to_card_lem =
        let i = event_sound C.end h.card (block b) in
        record {
          terminal = h.terminal;
          card = i.orderly;
          terminal_role = h.terminal_role;
          card_role = i.role ∙ h.card_role;
          place = forth_place h.place;
        }

  terminal_heard : Left C (y_after C T b) (y_way C T b) → Place (to_terminal b t)
  unfolding to_terminal turn_of
  terminal_heard l =
      from_card_lem (to_terminal b t) ((event_sound T.end h.terminal (block b)).role ∙ h.terminal_role) (y_way C T b)
      (pick_ap from_card (speaks (y_turn C T b).act) (forth (block_of (y_turn C T b).state)) clear) l

  terminal_heard' : Left (x_after T C b) C (x_way T C b) → Place (to_terminal b t)
  unfolding to_terminal turn_of
  terminal_heard' l =
      from_terminal_lem (to_terminal b t) ((event_sound T.end h.terminal (block b)).role ∙ h.terminal_role) (x_way T C b)
      (pick_ap from_terminal (speaks (x_turn T C b).act) (forth (block_of (x_turn T C b).state)) clear) l

  module _ (on_line : t.line ≡ back b₀) (a : Arrives b₀ T.end.sizes.ours b) where
    its' : b₀ ≡ block_of C.end → Arrives (block_of C.end) T.end.sizes.ours b
    its' e = subst (λ (q : List ℕ). Arrives q T.end.sizes.ours b) e a

    met_back : Met C T (from_card t.line) → Place (to_terminal b t)
    met_back (idle l p e) = not_clear' t.line (clear_card t.line e) on_line
    met_back (asking l p (to_y f)) =
        terminal_heard (request_comes C T b l p h.card.fit h.terminal.fit (its' (there_same _ _ (ap from_card on_line) f)))
    met_back (asking l p (to_x f)) = there_here _ _ _ (ap from_card on_line) f
    met_back (sending m rest g (to_y f)) =
        terminal_heard (piece_comes m rest C T b g h.card.fit h.terminal.fit (its' (there_same _ _ (ap from_card on_line) f)))
    met_back (sending m rest g (to_x f)) = there_here _ _ _ (ap from_card on_line) f

    met_back' : Met T C (from_terminal t.line) → Place (to_terminal b t)
    met_back' (idle l p e) = not_clear' t.line (clear_terminal t.line e) on_line
    met_back' (asking l p (to_x f)) = terminal_heard' (reply_comes T C b l p h.terminal.fit h.card.fit)
    met_back' (asking l p (to_y f)) = there_here _ _ _ f (ap from_terminal on_line)
    met_back' (sending m rest g (to_x f)) =
        terminal_heard' (response_comes m rest T C b g h.terminal.fit h.card.fit (its' (here_same _ _ (ap from_terminal on_line) f)))
    met_back' (sending m rest g (to_y f)) = there_here _ _ _ f (ap from_terminal on_line)

    back_place : Place t → Place (to_terminal b t)
    back_place (starts l p e) = not_clear' t.line e on_line
    back_place (terminals m) = met_back' m
    back_place (cards m) = met_back m
    back_place (silenced m e w o) = not_clear' t.line e on_line
    back_place (over e c o) = not_over e

    pub to_terminal_lem : Holds (to_terminal b t)
    unfolding to_terminal turn_of
    to_terminal_lem =
        let i = event_sound T.end h.terminal (block b) in
        record {
          terminal = i.orderly;
          card = h.card;
          terminal_role = i.role ∙ h.terminal_role;
          card_role = h.card_role;
          place = back_place h.place;
        }
