-- Every conversation ends: the number of blocks that come is at most what the messages and requests cost, whatever the line does to them;
-- each arrival takes one from the rank, and only a message or a request adds to it. Assumes nothing.
use mathlib.Core.Path.{◌≡◌, refl, sym, ap, subst, ◌∙◌}
use mathlib.Core.List.{List}
use Prim.Native.Nat.{ℕ, ◌-◌, ◌<◌, ◌≤◌}
use native.Mathlib.Omega.{arith}
use Rattle.slices.proofs.Choice.{pick_ap}
use Rattle.t1.specs.Steps.{block_of}
use Rattle.t1_laws.specs.Lossy.{Arrives}
use Rattle.t1_laws.specs.Talks.{Side, clear, forth, back, Talk, speaks}
use Rattle.t1_laws.specs.Talks.{to_card, to_terminal}
use Rattle.t1_laws.proofs.Meeting.{Way, empty, there, here, to_y, to_x, Met, idle, asking, sending, Left, goes_on_lem, changes}
use Rattle.t1_laws.proofs.Meeting.{x_stops, y_stops, x_mute, y_after, x_after, y_turn, x_turn, y_way, x_way, request_comes, reply_comes}
use Rattle.t1_laws.proofs.Messages.{piece_comes, response_comes}
use Rattle.t1_laws.proofs.Talking.{from_terminal, from_card, Holds, clear_terminal, clear_card}
use Rattle.t1_laws.proofs.Rank.{ask_way, send_way, rank_of}
use Rattle.t1_laws.proofs.Nearer.{request_rank, reply_rank, piece_rank, response_rank}

-- at most so many blocks can still come of what is under way
pub data Ranked (n : ℕ) (t : Talk) : Type 0 where
  standing : t.line ≡ clear → Ranked n t
  terminals : (q : Met t.terminal t.card (from_terminal t.line)) → rank_of q ≤ n → Ranked n t
  cards : (q : Met t.card t.terminal (from_card t.line)) → rank_of q ≤ n → Ranked n t

pub more : (n m : ℕ) (t : Talk) → n ≤ m → Ranked n t → Ranked m t
more n m t h (standing e) = standing e
more n m t h (terminals q r) = terminals q (omega arith)
more n m t h (cards q r) = cards q (omega arith)

-- from what an arrival left
module _ (t : Talk) (n : ℕ) where
  from_terminal_lem : (w : Way) → from_terminal t.line ≡ w → Left t.terminal t.card w
      → ((q : Met t.terminal t.card w) → rank_of q < n) → Ranked (n - 1) t
  from_terminal_lem w e (goes_on_lem m) f =
      let s = subst (λ (v : Way). (q : Met t.terminal t.card v) × (rank_of q < n)) (sym e) (m, f m) in
      terminals s.0 (let b = s.1 in omega arith)
  from_terminal_lem w e (changes g m) f = standing (clear_terminal t.line (e ∙ g))
  from_terminal_lem w e (x_stops p g a o) f = standing (clear_terminal t.line (e ∙ g))
  from_terminal_lem w e (y_stops p g a o) f = standing (clear_terminal t.line (e ∙ g))
  from_terminal_lem w e (x_mute p c g a o) f = standing (clear_terminal t.line (e ∙ g))

  from_card_lem : (w : Way) → from_card t.line ≡ w → Left t.card t.terminal w
      → ((q : Met t.card t.terminal w) → rank_of q < n) → Ranked (n - 1) t
  from_card_lem w e (goes_on_lem m) f =
      let s = subst (λ (v : Way). (q : Met t.card t.terminal v) × (rank_of q < n)) (sym e) (m, f m) in
      cards s.0 (let b = s.1 in omega arith)
  from_card_lem w e (changes g m) f = standing (clear_card t.line (e ∙ g))
  from_card_lem w e (x_stops p g a o) f = standing (clear_card t.line (e ∙ g))
  from_card_lem w e (y_stops p g a o) f = standing (clear_card t.line (e ∙ g))
  from_card_lem w e (x_mute p c g a o) f = standing (clear_card t.line (e ∙ g))

module _ (t : Talk) (h : Holds t) (n : ℕ) (b₀ b : List ℕ) where
  abbrev T : Side
  T = t.terminal

  abbrev C : Side
  C = t.card

  at_card : Left T (y_after T C b) (y_way T C b) → ((q : Met T (y_after T C b) (y_way T C b)) → rank_of q < n)
      → Ranked (n - 1) (to_card b t)
  unfolding to_card
  at_card l f =
      from_terminal_lem (to_card b t) n (y_way T C b)
      (pick_ap from_terminal (speaks (y_turn T C b).act) (back (block_of (y_turn T C b).state)) clear) l f

  at_card' : Left (x_after C T b) T (x_way C T b) → ((q : Met (x_after C T b) T (x_way C T b)) → rank_of q < n)
      → Ranked (n - 1) (to_card b t)
  unfolding to_card
  at_card' l f =
      from_card_lem (to_card b t) n (x_way C T b)
      (pick_ap from_card (speaks (x_turn C T b).act) (back (block_of (x_turn C T b).state)) clear) l f

  at_terminal : Left C (y_after C T b) (y_way C T b) → ((q : Met C (y_after C T b) (y_way C T b)) → rank_of q < n)
      → Ranked (n - 1) (to_terminal b t)
  unfolding to_terminal
  at_terminal l f =
      from_card_lem (to_terminal b t) n (y_way C T b)
      (pick_ap from_card (speaks (y_turn C T b).act) (forth (block_of (y_turn C T b).state)) clear) l f

  at_terminal' : Left (x_after T C b) C (x_way T C b) → ((q : Met (x_after T C b) C (x_way T C b)) → rank_of q < n)
      → Ranked (n - 1) (to_terminal b t)
  unfolding to_terminal
  at_terminal' l f =
      from_terminal_lem (to_terminal b t) n (x_way T C b)
      (pick_ap from_terminal (speaks (x_turn T C b).act) (forth (block_of (x_turn T C b).state)) clear) l f

  there_same : (q : List ℕ) (w : Way) → w ≡ there b₀ → w ≡ there q → b₀ ≡ q
  there_same q w e f = same (sym e ∙ f)
    where
      same : there b₀ ≡ there q → b₀ ≡ q
      same g = cc

  here_same : (q : List ℕ) (w : Way) → w ≡ here b₀ → w ≡ here q → b₀ ≡ q
  here_same q w e f = same (sym e ∙ f)
    where
      same : here b₀ ≡ here q → b₀ ≡ q
      same g = cc

  apart : (p q : List ℕ) (w : Way) → w ≡ there p → w ≡ here q → {A : Type 0} → A
  apart p q w e f = absurd (no (sym e ∙ f))
    where
      no : there p ≡ here q → ⊥
      no g = let z : ◌≡◌ {A = ℕ} 0 1 = cc in omega arith

  not_clear : (p : List ℕ) (w : Way) → w ≡ there p → w ≡ empty → {A : Type 0} → A
  not_clear p w e f = absurd (no (sym e ∙ f))
    where
      no : there p ≡ empty → ⊥
      no g = let z : ◌≡◌ {A = ℕ} 0 1 = cc in omega arith

  not_clear' : (p : List ℕ) (w : Way) → w ≡ here p → w ≡ empty → {A : Type 0} → A
  not_clear' p w e f = absurd (no (sym e ∙ f))
    where
      no : here p ≡ empty → ⊥
      no g = let z : ◌≡◌ {A = ℕ} 0 1 = cc in omega arith

  -- a block comes to the card: one less
  module _ (on_line : t.line ≡ forth b₀) (a : Arrives b₀ C.end.sizes.ours b) where
    its : b₀ ≡ block_of T.end → Arrives (block_of T.end) C.end.sizes.ours b
    its e = subst (λ (q : List ℕ). Arrives q C.end.sizes.ours b) e a

    wt : from_terminal t.line ≡ there b₀
    wt = ap from_terminal on_line

    wc : from_card t.line ≡ here b₀
    wc = ap from_card on_line

    pub card_ranked : Ranked n t → (1 ≤ n) × Ranked (n - 1) (to_card b t)
    card_ranked (standing e) = not_clear b₀ (from_terminal t.line) wt (ap from_terminal e)
    card_ranked (terminals (idle l p e) r) = not_clear b₀ (from_terminal t.line) wt e
    card_ranked (terminals (asking l p (to_x f)) r) = apart _ _ (from_terminal t.line) wt f
    card_ranked (terminals (asking l p (to_y f)) r) =
        let k = ap ask_way wt in
        let low : 1 ≤ n = omega arith in (
          low,
          at_card (request_comes T C b l p h.terminal.fit h.card.fit (its (there_same _ _ wt f)))
              (λ q. let s = request_rank T C b p _ refl q in omega arith),
        )
    card_ranked (terminals (sending m rest g (to_x f)) r) = apart _ _ (from_terminal t.line) wt f
    card_ranked (terminals (sending m rest g (to_y f)) r) =
        let k = ap send_way wt in
        let low : 1 ≤ n = omega arith in (
          low,
          at_card (piece_comes m rest T C b g h.terminal.fit h.card.fit (its (there_same _ _ wt f)))
              (λ q. let s = piece_rank m rest T C b g h.terminal.fit h.card.fit (its (there_same _ _ wt f)) _ refl q in omega arith),
        )
    card_ranked (cards (idle l p e) r) = not_clear' b₀ (from_card t.line) wc e
    card_ranked (cards (asking l p (to_y f)) r) = apart _ _ (from_card t.line) f wc
    card_ranked (cards (asking l p (to_x f)) r) =
        let k = ap ask_way wc in
        let low : 1 ≤ n = omega arith in (
          low,
          at_card' (reply_comes C T b l p h.card.fit h.terminal.fit)
              (λ q. let s = reply_rank C T b p h.card.fit _ refl q in omega arith),
        )
    card_ranked (cards (sending m rest g (to_y f)) r) = apart _ _ (from_card t.line) f wc
    card_ranked (cards (sending m rest g (to_x f)) r) =
        let k = ap send_way wc in
        let low : 1 ≤ n = omega arith in (
          low,
          at_card' (response_comes m rest C T b g h.card.fit h.terminal.fit (its (here_same _ _ wc f)))
              (λ q. let s = response_rank m rest C T b g h.card.fit h.terminal.fit (its (here_same _ _ wc f)) _ refl q in omega arith),
        )

  module _ (on_line : t.line ≡ back b₀) (a : Arrives b₀ T.end.sizes.ours b) where
    its' : b₀ ≡ block_of C.end → Arrives (block_of C.end) T.end.sizes.ours b
    its' e = subst (λ (q : List ℕ). Arrives q T.end.sizes.ours b) e a

    wt' : from_terminal t.line ≡ here b₀
    wt' = ap from_terminal on_line

    wc' : from_card t.line ≡ there b₀
    wc' = ap from_card on_line

    pub terminal_ranked : Ranked n t → (1 ≤ n) × Ranked (n - 1) (to_terminal b t)
    terminal_ranked (standing e) = not_clear b₀ (from_card t.line) wc' (ap from_card e)
    terminal_ranked (cards (idle l p e) r) = not_clear b₀ (from_card t.line) wc' e
    terminal_ranked (cards (asking l p (to_x f)) r) = apart _ _ (from_card t.line) wc' f
    terminal_ranked (cards (asking l p (to_y f)) r) =
        let k = ap ask_way wc' in
        let low : 1 ≤ n = omega arith in (
          low,
          at_terminal (request_comes C T b l p h.card.fit h.terminal.fit (its' (there_same _ _ wc' f)))
              (λ q. let s = request_rank C T b p _ refl q in omega arith),
        )
    terminal_ranked (cards (sending m rest g (to_x f)) r) = apart _ _ (from_card t.line) wc' f
    terminal_ranked (cards (sending m rest g (to_y f)) r) =
        let k = ap send_way wc' in
        let low : 1 ≤ n = omega arith in (
          low,
          at_terminal (piece_comes m rest C T b g h.card.fit h.terminal.fit (its' (there_same _ _ wc' f)))
              (λ q. let s = piece_rank m rest C T b g h.card.fit h.terminal.fit (its' (there_same _ _ wc' f)) _ refl q in omega arith),
        )
    terminal_ranked (terminals (idle l p e) r) = not_clear' b₀ (from_terminal t.line) wt' e
    terminal_ranked (terminals (asking l p (to_y f)) r) = apart _ _ (from_terminal t.line) f wt'
    terminal_ranked (terminals (asking l p (to_x f)) r) =
        let k = ap ask_way wt' in
        let low : 1 ≤ n = omega arith in (
          low,
          at_terminal' (reply_comes T C b l p h.terminal.fit h.card.fit)
              (λ q. let s = reply_rank T C b p h.terminal.fit _ refl q in omega arith),
        )
    terminal_ranked (terminals (sending m rest g (to_y f)) r) = apart _ _ (from_terminal t.line) f wt'
    terminal_ranked (terminals (sending m rest g (to_x f)) r) =
        let k = ap send_way wt' in
        let low : 1 ≤ n = omega arith in (
          low,
          at_terminal' (response_comes m rest T C b g h.terminal.fit h.card.fit (its' (here_same _ _ wt' f)))
              (λ q. let s = response_rank m rest T C b g h.terminal.fit h.card.fit (its' (here_same _ _ wt' f)) _ refl q in omega arith),
        )
