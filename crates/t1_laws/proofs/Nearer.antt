-- Each of the four arrivals leads to a lower rank. Assumes nothing.
use mathlib.Core.Path.{◌≡◌, refl, sym, ap, ◌∙◌}
use mathlib.Core.Bool.{Bool, true, false, not, false≢true}
use mathlib.Core.List.{List}
use Prim.Native.Nat.{ℕ, ◌+◌, ◌*◌, ◌-◌, ◌<◌, ◌≤◌}
use native.Mathlib.Omega.{arith}
use Rattle.slices.specs.Choice.{pick}
use Rattle.slices.proofs.Choice.{pick_yes, pick_no, picked}
use Rattle.t1_block.specs.Faults.{heard_of}
use Rattle.t1_state.specs.Limits.{more_of}
use Rattle.t1_state.specs.declared.Phase.{Phase}
use Rattle.t1_state.specs.declared.Phase.TheVariants.{Start, Asking, Due, Sent, Receiving, Over}
use Rattle.t1_state.specs.declared.Last.{Last}
use Rattle.t1_state.specs.declared.State.{State}
use Rattle.t1_line.specs.Line.{equal}
use Rattle.t1.specs.Steps.{block_of}
use Rattle.t1_laws.specs.Conduct.{listens, fits}
use Rattle.t1_laws.specs.Lossy.{Arrives}
use Rattle.t1_laws.specs.Talks.{Side, speaks}
use Rattle.t1_laws.proofs.Rounds.{equal_same, not_not}
use Rattle.t1_laws.proofs.Hearing.{Out, arrived, equal_not}
use Rattle.t1_laws.proofs.Pieces.{piece_low}
use Rattle.t1_laws.proofs.Lossy.{Both, Inv, before, behind, whole}
use Rattle.t1_laws.proofs.Manner.{Listened, says, replies, takes, stops, listened, Asked, asks, settles, remains as stands, asked}
use Rattle.t1_laws.proofs.Manner.{whole as has_whole, stops as stops_asking}
use Rattle.t1_laws.proofs.Meeting.{Way, empty, there, here, Going, Flies, to_y, to_x, Met, idle, asking, sending}
use Rattle.t1_laws.proofs.Meeting.{takes_listens, y_after, x_after, y_turn, x_turn, y_way, x_way}
use Rattle.t1_laws.proofs.Messages.{due_not}
use Rattle.t1_laws.proofs.Rank.{tries_of, tries, lacks, ask_way, send_way, rank_of, tried, never_kept, lacks_less}

-- the four arrivals, each in its place, whatever place they lead to
no_way : (x y : Side) (w : Way) → w ≡ empty → Flies x y w → {A : Type 0} → A
no_way x y w e (to_y f) = absurd (let z : ◌≡◌ {A = ℕ} 0 1 = apart (sym e ∙ f) in omega arith)
  where
    apart : empty ≡ there (block_of x.end) → ◌≡◌ {A = ℕ} 0 1
    apart g = cc
no_way x y w e (to_x f) = absurd (let z : ◌≡◌ {A = ℕ} 0 1 = apart (sym e ∙ f) in omega arith)
  where
    apart : empty ≡ here (block_of y.end) → ◌≡◌ {A = ℕ} 0 1
    apart g = cc

abbrev is_asking : Phase → Bool
is_asking Start = false
is_asking Asking = true
is_asking Due = false
is_asking Sent = false
is_asking Receiving = false
is_asking Over = false

module _ (x y : Side) (b : List ℕ) where
  ask_here : ask_way (y_way x y b) ≤ 1
  ask_here = picked (λ (w : Way). ask_way w ≤ 1) _ _ _ (λ e. omega arith) (λ e. omega arith)

  ask_there : ask_way (x_way x y b) ≤ 2
  ask_there = picked (λ (w : Way). ask_way w ≤ 2) _ _ _ (λ e. omega arith) (λ e. omega arith)

  send_here : send_way (y_way x y b) ≤ 2
  send_here = picked (λ (w : Way). send_way w ≤ 2) _ _ _ (λ e. omega arith) (λ e. omega arith)

  send_there : send_way (x_way x y b) ≤ 1
  send_there = picked (λ (w : Way). send_way w ≤ 1) _ _ _ (λ e. omega arith) (λ e. omega arith)

  -- a request comes to y
  pub request_rank : x.end.phase ≡ Asking → (n : ℕ) → n ≡ 2 * (3 - x.end.counts.same) + 2
      → (q : Met x (y_after x y b) (y_way x y b)) → rank_of q < n
  request_rank e n k (idle l p f) = omega arith
  request_rank e n k (asking l p f) = let h = ask_here in omega arith
  request_rank e n k (sending m rest g f) = absurd (false≢true (sym (ap is_asking g.live) ∙ ap is_asking e))

  -- a reply comes to x
  pub reply_rank : x.end.phase ≡ Asking → fits x.end.phase x.end.last ≡ true → (n : ℕ)
      → n ≡ 2 * (3 - x.end.counts.same) + 1 → (q : Met (x_after x y b) y (x_way x y b)) → rank_of q < n
  reply_rank e fit n k (idle l p f) = omega arith
  reply_rank e fit n k (asking l p f) = by (asked x.end fit b e)
    where
      by : Asked x.end (x_turn x y b) → 2 * (3 - (x_turn x y b).state.counts.same) + ask_way (x_way x y b) < n
      by (asks a q u few more) = let h = ask_there in omega arith
      by (settles a q u) = absurd (false≢true (sym (ap is_asking q) ∙ ap is_asking p))
      by (stops_asking z a q u) = absurd (false≢true (sym (ap is_asking q) ∙ ap is_asking p))
      by (stands a s c) = no_way (x_after x y b) y (x_way x y b) (pick_no _ _ _ (ap speaks a)) f
  reply_rank e fit n k (sending m rest g f) = by (asked x.end fit b e)
    where
      sent_not : (p : Phase) → p ≡ Sent → p ≡ Asking → {A : Type 0} → A
      sent_not p i j = absurd (let z : ◌≡◌ {A = ℕ} 0 1 = cc in omega arith)

      due_sent : (p : Phase) → p ≡ Sent → p ≡ Due → {A : Type 0} → A
      due_sent p i j = absurd (let z : ◌≡◌ {A = ℕ} 0 1 = cc in omega arith)

      over_sent : (p : Phase) → p ≡ Sent → p ≡ Over → {A : Type 0} → A
      over_sent p i j = absurd (let z : ◌≡◌ {A = ℕ} 0 1 = cc in omega arith)

      by : Asked x.end (x_turn x y b)
          → 6 * lacks (x_turn x y b).state y.end + 2 * tries y.end + send_way (x_way x y b) < n
      by (asks a q u few more) = sent_not _ g.live q
      by (settles a q u) = due_sent _ g.live q
      by (stops_asking z a q u) = over_sent _ g.live q
      by (stands a s c) = sent_not _ g.live (ap (λ (z : State). z.phase) s ∙ e)

-- x's block comes to y while a message is on its way
lacks_kept : (m rest : List ℕ) (x y y' : State) (k : List ℕ) → Inv m rest x y k → listens y.phase ≡ true
    → (y.numbers.expected ≡ x.numbers.next → ⊥) → y'.numbers.expected ≡ not y.numbers.expected → lacks x y' + 1 ≤ lacks x y
lacks_kept m rest x y y' k (before both n c e) f g h =
    let now = pick_no (equal y.numbers.expected x.numbers.next) (x.message.length - (x.message.at + x.message.size))
    (x.message.length - x.message.at) (ap (λ (z : Bool). equal z x.numbers.next) n ∙ equal_not x.numbers.next)
    in
    let then : equal y'.numbers.expected x.numbers.next ≡ true
    = ap (λ (z : Bool). equal z x.numbers.next) (h ∙ (ap not n ∙ not_not x.numbers.next)) ∙ equal_same x.numbers.next
    in
    let later = pick_yes (equal y'.numbers.expected x.numbers.next) (x.message.length - (x.message.at + x.message.size))
    (x.message.length - x.message.at) then
    in
    let low = piece_low m rest x both.sends.bytes both.sends.inside both.sends.size in
    let inside = both.sends.inside in
    let long = both.sends.long in
    omega arith
lacks_kept m rest x y y' k (behind both n c e o) f g h = absurd (g n)
lacks_kept m rest x y y' k (whole d e) f g h = due_not y.phase d f

both_of : (m rest : List ℕ) (x y : State) (k : List ℕ) → Inv m rest x y k → listens y.phase ≡ true → Both m rest x y
both_of m rest x y k (before b n c e) f = b
both_of m rest x y k (behind b n c e o) f = b
both_of m rest x y k (whole d e) f = due_not y.phase d f

lacks_same : (x y y' : State) → y'.numbers.expected ≡ y.numbers.expected → lacks x y' ≡ lacks x y
lacks_same x y y' e =
    ap (λ (n : Bool). pick (equal n x.numbers.next) (x.message.length - (x.message.at + x.message.size))
    (x.message.length - x.message.at)) e

module _ (m rest : List ℕ) (x y : Side) (b : List ℕ) (g : Going m rest x y) (fit : fits x.end.phase x.end.last ≡ true)
    (fit' : fits y.end.phase y.end.last ≡ true) where
  hears : listens y.end.phase ≡ true
  hears = takes_listens y.end.phase (more_of y.end.message) g.ears

  pub piece_rank : Arrives (block_of x.end) y.end.sizes.ours b → (n : ℕ)
      → n ≡ 6 * lacks x.end y.end + 2 * tries y.end + 1 → (q : Met x (y_after x y b) (y_way x y b)) → rank_of q < n
  piece_rank a n k (idle l p f) = omega arith
  piece_rank a n k (asking l p f) = absurd (false≢true (sym (ap is_asking g.live) ∙ ap is_asking p))
  piece_rank a n k (sending m' rest' g' f) = by (listened y.end fit' b hears)
    where
      pair : Both m rest x.end y.end
      pair = both_of m rest x.end y.end y.part g.inv hears

      out : Out x.end b (heard_of b y.end.sizes.ours)
      out = arrived x.end y.end.sizes.ours pair.sends.says b a

      by : Listened y.end (y_turn x y b)
          → 6 * lacks x.end (y_turn x y b).state + 2 * tries (y_turn x y b).state + send_way (y_way x y b) < n
      by (says e p r j) =
          let t = (tried m rest x.end y.end b pair g.ears out).0 e in
          let same = lacks_same x.end y.end (y_turn x y b).state j in
          let w = send_here x y b in
          omega arith
      by (replies e p r j) = absurd ((tried m rest x.end y.end b pair g.ears out).1 e)
      by (takes e p j s q l) =
          let less = lacks_kept m rest x.end y.end (y_turn x y b).state y.part g.inv hears
          (λ z. never_kept m rest x.end y.end b pair g.ears out z e) j
          in
          let t : tries (y_turn x y b).state ≡ 3 - 1
          = ap (λ (z : Last). tries_of z (y_turn x y b).state.counts.same) l ∙ ap (λ (z : ℕ). 3 - z) s
          in
          let w = send_here x y b in
          omega arith
      by (has_whole i e p) = no_way x (y_after x y b) (y_way x y b) (pick_no _ _ _ (ap speaks e)) f
      by (stops i e p) = no_way x (y_after x y b) (y_way x y b) (pick_no _ _ _ (ap speaks e)) f

  pub response_rank : Arrives (block_of y.end) x.end.sizes.ours b → (n : ℕ)
      → n ≡ 6 * lacks x.end y.end + 2 * tries y.end + 2 → (q : Met (x_after x y b) y (x_way x y b)) → rank_of q < n
  response_rank a n k (idle l p f) = omega arith
  response_rank a n k (asking l p f) = by (listened x.end fit b (ap listens g.live))
    where
      never : (p q : Phase) → p ≡ q → is_asking q ≡ false → p ≡ Asking → {A : Type 0} → A
      never p q i j l = absurd (false≢true (sym j ∙ (ap is_asking (sym i) ∙ ap is_asking l)))

      by : Listened x.end (x_turn x y b) → 2 * (3 - (x_turn x y b).state.counts.same) + ask_way (x_way x y b) < n
      by (says e i r j) = never _ Sent (i ∙ g.live) refl p
      by (replies e i r j) = never _ Sent (i ∙ g.live) refl p
      by (takes e i j s q z) = never _ Receiving i refl p
      by (has_whole z e i) = never _ Due i refl p
      by (stops z e i) = never _ Over i refl p
  response_rank a n k (sending m' rest' g' f) =
      let less = lacks_less m rest x.end y.end b g.live a y.part g.inv hears in
      let w = send_there x y b in
      omega arith
