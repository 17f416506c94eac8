-- Two ends while at most one block has been damaged: where they stand, and where a block that comes, or damaged bytes, lead them.
-- Assumes nothing.
use mathlib.Core.Path.{◌≡◌, refl, sym, ap, subst, ◌∙◌}
use mathlib.Core.Bool.{Bool, true, false, false≢true}
use mathlib.Core.List.{List}
use Prim.Native.Nat.{ℕ}
use native.Mathlib.Omega.{arith}
use Rattle.slices.specs.Choice.{pick}
use Rattle.slices.proofs.Choice.{pick_no, pick_ap, picked}
use Rattle.t1_block.specs.Faults.{heard_of}
use Rattle.t1_state.specs.declared.Phase.{Phase}
use Rattle.t1_state.specs.declared.Phase.TheVariants.{Start, Asking, Due, Sent, Receiving, Over}
use Rattle.t1_line.specs.Line.{takes_fields}
use Rattle.t1.specs.Steps.{block_of}
use Rattle.t1_laws.specs.Stopping.{is_bad}
use Rattle.t1_laws.specs.Conduct.{fits}
use Rattle.t1_laws.specs.Talks.{Side, Line, clear, forth, back, Talk, speaks}
use Rattle.t1_laws.specs.Talks.{to_card, to_terminal}
use Rattle.t1_laws.specs.Talks.{arrives, spoils, may_move}
use Rattle.t1_laws.proofs.Meeting.{Way, there, here, Level, y_after, x_after, y_turn, x_turn, y_way, x_way}
use Rattle.t1_laws.proofs.Talking.{from_terminal, from_card, Holds, clear_terminal, clear_card}
use Rattle.t1_laws.proofs.Moods.{Roomy, Fresh, Mood, rests, asks, replies, doubts}
use Rattle.t1_laws.proofs.Moods.{pieces, wants, again, repeats, Then, goes_on_lem, changes}
use Rattle.t1_laws.proofs.Recovery.{request_on, response_on, doubt_on, response_spoiled, request_spoiled, piece_on, next_on}
use Rattle.t1_laws.proofs.Recovery.{again_on, repeat_on, piece_spoiled, ready_spoiled}

-- before the first request, the terminal's turn, or the card's
pub data Well (spare : Bool) (t : Talk) : Type 0 where
  starts : Level t.terminal t.card → t.terminal.end.phase ≡ Start → t.line ≡ clear → Fresh t.card.end
      → Roomy t.terminal.end t.card.end → Well spare t
  terminals : Mood spare t.terminal t.card (from_terminal t.line) → Well spare t
  cards : Mood spare t.card t.terminal (from_card t.line) → Well spare t

-- what is on the line
forth_terminal : (l : Line) (q : List ℕ) → from_terminal l ≡ there q → l ≡ forth q
forth_terminal clear q e = absurd (let z : ◌≡◌ {A = ℕ} 0 1 = cc in omega arith)
forth_terminal (forth b) q e = ap forth (same e)
  where
    same : there b ≡ there q → b ≡ q
    same f = cc
forth_terminal (back b) q e = absurd (let z : ◌≡◌ {A = ℕ} 0 1 = cc in omega arith)

back_terminal : (l : Line) (q : List ℕ) → from_terminal l ≡ here q → l ≡ back q
back_terminal clear q e = absurd (let z : ◌≡◌ {A = ℕ} 0 1 = cc in omega arith)
back_terminal (forth b) q e = absurd (let z : ◌≡◌ {A = ℕ} 0 1 = cc in omega arith)
back_terminal (back b) q e = ap back (same e)
  where
    same : here b ≡ here q → b ≡ q
    same f = cc

pub back_card : (l : Line) (q : List ℕ) → from_card l ≡ there q → l ≡ back q
back_card clear q e = absurd (let z : ◌≡◌ {A = ℕ} 0 1 = cc in omega arith)
back_card (forth b) q e = absurd (let z : ◌≡◌ {A = ℕ} 0 1 = cc in omega arith)
back_card (back b) q e = ap back (same e)
  where
    same : there b ≡ there q → b ≡ q
    same f = cc

pub forth_card : (l : Line) (q : List ℕ) → from_card l ≡ here q → l ≡ forth q
forth_card clear q e = absurd (let z : ◌≡◌ {A = ℕ} 0 1 = cc in omega arith)
forth_card (forth b) q e = ap forth (same e)
  where
    same : here b ≡ here q → b ≡ q
    same f = cc
forth_card (back b) q e = absurd (let z : ◌≡◌ {A = ℕ} 0 1 = cc in omega arith)

-- one turn less to spare
less : (x y : Side) (w : Way) → Mood true x y w → Mood false x y w
less x y w (rests l p e f g n) = rests l p e f g (λ s. absurd (false≢true s))
less x y w (asks l p v u e a f r b n) = asks l p v u e a f r b (λ s. absurd (false≢true s))
less x y w (replies l p v u e a g f r b n) = replies l p v u e a g f r b (λ s. absurd (false≢true s))
less x y w (doubts s l p v u e a q g f r b n) = absurd (false≢true (sym s))
less x y w (pieces m rest g k n o e r b f) = pieces m rest g k n o e r b (λ s. absurd (false≢true s))
less x y w (wants m rest g k n o p q e r b f) = wants m rest g k n o p q e r b (λ s. absurd (false≢true s))
less x y w (again s m rest g k n p q e r b f) = absurd (false≢true (sym s))
less x y w (repeats s m rest g k n o p q i j e r b f) = absurd (false≢true (sym s))

pub less_well : (t : Talk) → Well true t → Well false t
less_well t (starts l p e f r) = starts l p e f r
less_well t (terminals m) = terminals (less _ _ _ m)
less_well t (cards m) = cards (less _ _ _ m)

module _ (t : Talk) (h : Holds t) where
  abbrev T : Side
  T = t.terminal

  abbrev C : Side
  C = t.card

  module _ (spare : Bool) (b : List ℕ) where
    at_card : Then spare T (y_after T C b) (y_way T C b) → Well spare (to_card b t)
    unfolding to_card
    at_card (goes_on_lem m) =
        terminals (subst (Mood spare T (y_after T C b))
        (sym (pick_ap from_terminal (speaks (y_turn T C b).act) (back (block_of (y_turn T C b).state)) clear)) m)
    at_card (changes e m) =
        cards (subst (Mood spare (y_after T C b) T)
        (sym (ap from_card (clear_terminal (to_card b t).line
        (pick_ap from_terminal (speaks (y_turn T C b).act) (back (block_of (y_turn T C b).state)) clear ∙ e)))) m)

    at_card' : Then spare (x_after C T b) T (x_way C T b) → Well spare (to_card b t)
    unfolding to_card
    at_card' (goes_on_lem m) =
        cards (subst (Mood spare (x_after C T b) T)
        (sym (pick_ap from_card (speaks (x_turn C T b).act) (back (block_of (x_turn C T b).state)) clear)) m)
    at_card' (changes e m) =
        terminals (subst (Mood spare T (x_after C T b))
        (sym (ap from_terminal (clear_card (to_card b t).line
        (pick_ap from_card (speaks (x_turn C T b).act) (back (block_of (x_turn C T b).state)) clear ∙ e)))) m)

    at_terminal : Then spare C (y_after C T b) (y_way C T b) → Well spare (to_terminal b t)
    unfolding to_terminal
    at_terminal (goes_on_lem m) =
        cards (subst (Mood spare C (y_after C T b))
        (sym (pick_ap from_card (speaks (y_turn C T b).act) (forth (block_of (y_turn C T b).state)) clear)) m)
    at_terminal (changes e m) =
        terminals (subst (Mood spare (y_after C T b) C)
        (sym (ap from_terminal (clear_card (to_terminal b t).line
        (pick_ap from_card (speaks (y_turn C T b).act) (forth (block_of (y_turn C T b).state)) clear ∙ e)))) m)

    at_terminal' : Then spare (x_after T C b) C (x_way T C b) → Well spare (to_terminal b t)
    unfolding to_terminal
    at_terminal' (goes_on_lem m) =
        terminals (subst (Mood spare (x_after T C b) C)
        (sym (pick_ap from_terminal (speaks (x_turn T C b).act) (forth (block_of (x_turn T C b).state)) clear)) m)
    at_terminal' (changes e m) =
        cards (subst (Mood spare C (x_after T C b))
        (sym (ap from_card (clear_terminal (to_terminal b t).line
        (pick_ap from_terminal (speaks (x_turn T C b).act) (forth (block_of (x_turn T C b).state)) clear ∙ e)))) m)

  abbrev f : fits T.end.phase T.end.last ≡ true
  f = h.terminal.fit

  abbrev f' : fits C.end.phase C.end.last ≡ true
  f' = h.card.fit

  -- the block under way comes
  pub comes_well : (spare : Bool) → Well spare t → Well spare (arrives t.line t)
  unfolding arrives
  comes_well spare w = by w
    where
      on : (l : Line) → t.line ≡ l → Well spare (arrives l t) → Well spare (arrives t.line t)
      on l e x = subst (λ (k : Line). Well spare (arrives k t)) (sym e) x

      weaken : spare ≡ false → (k : Talk) → Well false k → Well spare k
      weaken e k x = subst (λ (s : Bool). Well s k) (sym e) x

      by : Well spare t → Well spare (arrives t.line t)
      by (starts l p e n r) = on clear e (starts l p e n r)
      by (terminals (rests l p e r b n)) = on clear (clear_terminal t.line e) (terminals (rests l p e r b n))
      by (terminals (asks l p v u e a g r b n)) =
          on _ (forth_terminal t.line _ g) (at_card spare _ (request_on T C f f' spare l p v u e a r b n))
      by (terminals (replies l p v u e a q g r b n)) =
          on _ (back_terminal t.line _ g) (at_terminal' spare _ (response_on T C f f' spare l p v u e a q r b))
      by (terminals (doubts s l p v u e a q o g r b n)) =
          on _ (back_terminal t.line _ g) (weaken s _ (at_terminal' false _ (doubt_on T C f f' l p v u e a q o r b n)))
      by (terminals (pieces m rest g k n o e r b q)) =
          on _ (forth_terminal t.line _ e) (at_card spare _ (piece_on T C f f' m rest g k r b spare n o))
      by (terminals (wants m rest g k n o p q e r b i)) =
          on _ (back_terminal t.line _ e) (at_terminal' spare _ (next_on T C f f' m rest g k r b spare n o p q (λ z. (i z).0)))
      by (terminals (again s m rest g k n p q e r b i)) =
          on _ (back_terminal t.line _ e) (weaken s _ (at_terminal' false _ (again_on T C f f' m rest g k r b n p q i)))
      by (terminals (repeats s m rest g k n o p q i j e r b z)) =
          on _ (forth_terminal t.line _ e) (weaken s _ (at_card false _ (repeat_on T C f f' m rest g k r b n o p q i j z)))
      by (cards (rests l p e r b n)) = on clear (clear_card t.line e) (cards (rests l p e r b n))
      by (cards (asks l p v u e a g r b n)) =
          on _ (back_card t.line _ g) (at_terminal spare _ (request_on C T f' f spare l p v u e a r b n))
      by (cards (replies l p v u e a q g r b n)) =
          on _ (forth_card t.line _ g) (at_card' spare _ (response_on C T f' f spare l p v u e a q r b))
      by (cards (doubts s l p v u e a q o g r b n)) =
          on _ (forth_card t.line _ g) (weaken s _ (at_card' false _ (doubt_on C T f' f l p v u e a q o r b n)))
      by (cards (pieces m rest g k n o e r b q)) =
          on _ (back_card t.line _ e) (at_terminal spare _ (piece_on C T f' f m rest g k r b spare n o))
      by (cards (wants m rest g k n o p q e r b i)) =
          on _ (forth_card t.line _ e) (at_card' spare _ (next_on C T f' f m rest g k r b spare n o p q (λ z. (i z).0)))
      by (cards (again s m rest g k n p q e r b i)) =
          on _ (forth_card t.line _ e) (weaken s _ (at_card' false _ (again_on C T f' f m rest g k r b n p q i)))
      by (cards (repeats s m rest g k n o p q i j e r b z)) =
          on _ (back_card t.line _ e) (weaken s _ (at_terminal false _ (repeat_on C T f' f m rest g k r b n o p q i j z)))

  -- other bytes come in its place
  pub spoiled_well : (c : List ℕ) → Well true t → Well false (spoils t.line c t)
  unfolding spoils
  spoiled_well c w = by w
    where
      on : (l : Line) → t.line ≡ l → Well false (spoils l c t) → Well false (spoils t.line c t)
      on l e x = subst (λ (k : Line). Well false (spoils k c t)) (sym e) x

      to_c : (is_bad (heard_of c C.end.sizes.ours) ≡ true → Well false (to_card c t)) → (q : List ℕ) → Well false (spoils (forth q) c t)
      to_c k q = picked (Well false) _ _ _ k (λ e. less_well t w)

      to_t : (is_bad (heard_of c T.end.sizes.ours) ≡ true → Well false (to_terminal c t)) → (q : List ℕ) → Well false (spoils (back q) c t)
      to_t k q = picked (Well false) _ _ _ k (λ e. less_well t w)

      by : Well true t → Well false (spoils t.line c t)
      by (starts l p e n r) = on clear e (less_well t w)
      by (terminals (rests l p e r b n)) = on clear (clear_terminal t.line e) (less_well t w)
      by (terminals (asks l p v u e a g r b n)) =
          on _ (forth_terminal t.line _ g)
          (to_c (λ i. at_card false c (request_spoiled T C f f' c i l p v u e a r b (n refl).0 (n refl).1)) (block_of T.end))
      by (terminals (replies l p v u e a q g r b n)) =
          on _ (back_terminal t.line _ g)
          (to_t (λ i. at_terminal' false c (response_spoiled T C f f' c i l p v u e a r b (n refl))) (block_of C.end))
      by (terminals (doubts s l p v u e a q o g r b n)) = absurd (false≢true (sym s))
      by (terminals (pieces m rest g k n o e r b q)) =
          on _ (forth_terminal t.line _ e)
          (to_c (λ i. at_card false c (piece_spoiled T C f f' m rest g k r b c i n (q refl).0 (q refl).1)) (block_of T.end))
      by (terminals (wants m rest g k n o p q e r b i)) =
          on _ (back_terminal t.line _ e)
          (to_t (λ j. at_terminal' false c (ready_spoiled T C f f' m rest g k r b c j n o p q (i refl).0 (i refl).1)) (block_of C.end))
      by (terminals (again s m rest g k n p q e r b i)) = absurd (false≢true (sym s))
      by (terminals (repeats s m rest g k n o p q i j e r b z)) = absurd (false≢true (sym s))
      by (cards (rests l p e r b n)) = on clear (clear_card t.line e) (less_well t w)
      by (cards (asks l p v u e a g r b n)) =
          on _ (back_card t.line _ g)
          (to_t (λ i. at_terminal false c (request_spoiled C T f' f c i l p v u e a r b (n refl).0 (n refl).1)) (block_of C.end))
      by (cards (replies l p v u e a q g r b n)) =
          on _ (forth_card t.line _ g)
          (to_c (λ i. at_card' false c (response_spoiled C T f' f c i l p v u e a r b (n refl))) (block_of T.end))
      by (cards (doubts s l p v u e a q o g r b n)) = absurd (false≢true (sym s))
      by (cards (pieces m rest g k n o e r b q)) =
          on _ (back_card t.line _ e)
          (to_t (λ i. at_terminal false c (piece_spoiled C T f' f m rest g k r b c i n (q refl).0 (q refl).1)) (block_of C.end))
      by (cards (wants m rest g k n o p q e r b i)) =
          on _ (forth_card t.line _ e)
          (to_c (λ j. at_card' false c (ready_spoiled C T f' f m rest g k r b c j n o p q (i refl).0 (i refl).1)) (block_of T.end))
      by (cards (again s m rest g k n p q e r b i)) = absurd (false≢true (sym s))
      by (cards (repeats s m rest g k n o p q i j e r b z)) = absurd (false≢true (sym s))

  -- the ends' own events
  module _ (spare : Bool) (w : Well spare t) where
    pub same_line : (to : List ℕ → Line) (b : List ℕ) → Well spare (record { terminal = T; card = C; line = pick false (to b) t.line })
    same_line to b =
        subst (λ (l : Line). Well spare (record { terminal = T; card = C; line = l })) (sym (pick_no false (to b) t.line refl)) w

    start_due : Start ≡ Due → {A : Type 0} → A
    start_due e = absurd (let z : ◌≡◌ {A = ℕ} 0 1 = cc in omega arith)

    not_moving : (p q : Phase) → p ≡ q → may_move p ≡ false → may_move q ≡ true → {A : Type 0} → A
    not_moving p q e i j = absurd (false≢true (sym i ∙ (ap may_move e ∙ j)))

    takes_not : (p q : Phase) (more : Bool) → takes_fields p more ≡ true → p ≡ q → may_move q ≡ true → {A : Type 0} → A
    takes_not Start q more e i j = absurd (false≢true e)
    takes_not Asking q more e i j = absurd (false≢true e)
    takes_not Due q more e i j = absurd (false≢true e)
    takes_not Sent q more e i j = not_moving Sent q i refl j
    takes_not Receiving q more e i j = not_moving Receiving q i refl j
    takes_not Over q more e i j = absurd (false≢true e)

    -- whose turn it is, with all that is known then
    abbrev Rest : Side → Side → Type 0
    Rest x y = Level x y × Roomy x.end y.end × Roomy y.end x.end × (spare ≡ true → Fresh y.end)

    pub terminal_rests : T.end.phase ≡ Due → Rest T C
    terminal_rests e = by w
      where
        by : Well spare t → Rest T C
        by (starts l p i n r) = start_due (sym p ∙ e)
        by (terminals (rests l p i r b n)) = (l, r, b, n)
        by (terminals (asks l p v u i a g r b n)) = not_moving Asking Due (sym p ∙ e) refl refl
        by (terminals (replies l p v u i a q g r b n)) = not_moving Asking Due (sym p ∙ e) refl refl
        by (terminals (doubts s l p v u i a q o g r b n)) = not_moving Asking Due (sym p ∙ e) refl refl
        by (terminals (pieces m rest g k n o i r b q)) = not_moving Sent Due (sym g.live ∙ e) refl refl
        by (terminals (wants m rest g k n o p q i r b j)) = not_moving Sent Due (sym g.live ∙ e) refl refl
        by (terminals (again s m rest g k n p q i r b j)) = not_moving Sent Due (sym g.live ∙ e) refl refl
        by (terminals (repeats s m rest g k n o p q i j u r b z)) = not_moving Sent Due (sym g.live ∙ e) refl refl
        by (cards (rests l p i r b n)) = takes_not T.end.phase Due _ l.ears e refl
        by (cards (asks l p v u i a g r b n)) = takes_not T.end.phase Due _ l.ears e refl
        by (cards (replies l p v u i a q g r b n)) = takes_not T.end.phase Due _ l.ears e refl
        by (cards (doubts s l p v u i a q o g r b n)) = takes_not T.end.phase Due _ l.ears e refl
        by (cards (pieces m rest g k n o i r b q)) = takes_not T.end.phase Due _ g.ears e refl
        by (cards (wants m rest g k n o p q i r b j)) = takes_not T.end.phase Due _ g.ears e refl
        by (cards (again s m rest g k n p q i r b j)) = takes_not T.end.phase Due _ g.ears e refl
        by (cards (repeats s m rest g k n o p q i j u r b z)) = takes_not T.end.phase Due _ g.ears e refl

    pub terminal_starts : T.end.phase ≡ Start → Level T C × Fresh C.end × Roomy T.end C.end
    terminal_starts e = by w
      where
        by : Well spare t → Level T C × Fresh C.end × Roomy T.end C.end
        by (starts l p i n r) = (l, n, r)
        by (terminals (rests l p i r b n)) = start_due (sym e ∙ p)
        by (terminals (asks l p v u i a g r b n)) = not_moving Asking Start (sym p ∙ e) refl refl
        by (terminals (replies l p v u i a q g r b n)) = not_moving Asking Start (sym p ∙ e) refl refl
        by (terminals (doubts s l p v u i a q o g r b n)) = not_moving Asking Start (sym p ∙ e) refl refl
        by (terminals (pieces m rest g k n o i r b q)) = not_moving Sent Start (sym g.live ∙ e) refl refl
        by (terminals (wants m rest g k n o p q i r b j)) = not_moving Sent Start (sym g.live ∙ e) refl refl
        by (terminals (again s m rest g k n p q i r b j)) = not_moving Sent Start (sym g.live ∙ e) refl refl
        by (terminals (repeats s m rest g k n o p q i j u r b z)) = not_moving Sent Start (sym g.live ∙ e) refl refl
        by (cards (rests l p i r b n)) = takes_not T.end.phase Start _ l.ears e refl
        by (cards (asks l p v u i a g r b n)) = takes_not T.end.phase Start _ l.ears e refl
        by (cards (replies l p v u i a q g r b n)) = takes_not T.end.phase Start _ l.ears e refl
        by (cards (doubts s l p v u i a q o g r b n)) = takes_not T.end.phase Start _ l.ears e refl
        by (cards (pieces m rest g k n o i r b q)) = takes_not T.end.phase Start _ g.ears e refl
        by (cards (wants m rest g k n o p q i r b j)) = takes_not T.end.phase Start _ g.ears e refl
        by (cards (again s m rest g k n p q i r b j)) = takes_not T.end.phase Start _ g.ears e refl
        by (cards (repeats s m rest g k n o p q i j u r b z)) = takes_not T.end.phase Start _ g.ears e refl

    pub card_rests : C.end.phase ≡ Due → Rest C T
    card_rests e = by w
      where
        by : Well spare t → Rest C T
        by (starts l p i n r) = takes_not C.end.phase Due _ l.ears e refl
        by (cards (rests l p i r b n)) = (l, r, b, n)
        by (cards (asks l p v u i a g r b n)) = not_moving Asking Due (sym p ∙ e) refl refl
        by (cards (replies l p v u i a q g r b n)) = not_moving Asking Due (sym p ∙ e) refl refl
        by (cards (doubts s l p v u i a q o g r b n)) = not_moving Asking Due (sym p ∙ e) refl refl
        by (cards (pieces m rest g k n o i r b q)) = not_moving Sent Due (sym g.live ∙ e) refl refl
        by (cards (wants m rest g k n o p q i r b j)) = not_moving Sent Due (sym g.live ∙ e) refl refl
        by (cards (again s m rest g k n p q i r b j)) = not_moving Sent Due (sym g.live ∙ e) refl refl
        by (cards (repeats s m rest g k n o p q i j u r b z)) = not_moving Sent Due (sym g.live ∙ e) refl refl
        by (terminals (rests l p i r b n)) = takes_not C.end.phase Due _ l.ears e refl
        by (terminals (asks l p v u i a g r b n)) = takes_not C.end.phase Due _ l.ears e refl
        by (terminals (replies l p v u i a q g r b n)) = takes_not C.end.phase Due _ l.ears e refl
        by (terminals (doubts s l p v u i a q o g r b n)) = takes_not C.end.phase Due _ l.ears e refl
        by (terminals (pieces m rest g k n o i r b q)) = takes_not C.end.phase Due _ g.ears e refl
        by (terminals (wants m rest g k n o p q i r b j)) = takes_not C.end.phase Due _ g.ears e refl
        by (terminals (again s m rest g k n p q i r b j)) = takes_not C.end.phase Due _ g.ears e refl
        by (terminals (repeats s m rest g k n o p q i j u r b z)) = takes_not C.end.phase Due _ g.ears e refl
