-- The number of blocks that come in a whole session, at most. Assumes nothing.
use mathlib.Core.Path.{◌≡◌, refl, sym, ap, subst, ◌∙◌}
use mathlib.Core.Bool.{Bool, true, false, not}
use mathlib.Core.List.{List, [], ◌∷◌}
use Prim.Native.Nat.{ℕ, ◌+◌, ◌*◌, ◌-◌, ◌≤◌}
use native.Mathlib.Omega.{arith}
use lib.ListN.{length, drop}
use Rattle.slices.specs.Choice.{pick}
use Rattle.slices.specs.Tests.{between}
use Rattle.slices.specs.Writing.{zeros}
use Rattle.slices.proofs.Choice.{pick_yes, pick_no, either}
use Rattle.t1_block.specs.Faults.{heard_of}
use Rattle.t1_block.specs.declared.What.{What}
use Rattle.t1_block.specs.declared.What.TheVariants.{Ifs}
use Rattle.t1_state.specs.Limits.{message_most}
use Rattle.t1_state.specs.declared.Phase.TheVariants.{Due}
use Rattle.t1_state.specs.declared.Turn.{Turn}
use Rattle.t1_again.specs.Again.{goes_out}
use Rattle.t1_line.specs.Line.{equal, sends_piece}
use Rattle.t1_turns.specs.Turns.{asks_for, message_of}
use Rattle.t1.specs.Steps.{block_of}
use Rattle.t1_laws.specs.Stopping.{is_bad}
use Rattle.t1_laws.specs.Lossy.{intact, spoiled}
use Rattle.t1_laws.specs.Talks.{Side, Line, clear, forth, back, Talk, Happens, command, answer, comes, lost, carrying, moved, handed}
use Rattle.t1_laws.specs.Talks.{hello as greets, asks as requests, spoiled as spoils_it, to_card, to_terminal, arrives, spoils, happens}
use Rattle.t1_laws.specs.Talks.{is_over, begun, is_clear, one, is_damage, landed, arrivals, cost, costs}
use Rattle.t1_laws.proofs.Cases.{every_hello, every_ask, every_send}
use Rattle.t1_laws.proofs.Meeting.{Way, there, Level, to_y, Met, asking, sending}
use Rattle.t1_laws.proofs.Talking.{from_terminal, from_card, Holds}
use Rattle.t1_laws.proofs.Schedule.{message_going, request_level, terminal_due, terminal_start, card_due, step_holds, begun_holds}
use Rattle.t1_laws.proofs.Rank.{lacks, rank_of, tries_most, other}
use Rattle.t1_laws.proofs.Ending.{Ranked, standing, terminals, cards, more, card_ranked, terminal_ranked}

-- a message goes out, or a request
module _ (x y : Side) (l : Level x y) where
  all_lacking : (m : List ℕ) → lacks (sends_piece (message_of x.end.sizes.theirs m) x.end) y.end ≡ length m
  unfolding sends_piece message_of
  all_lacking m =
      let away : equal y.end.numbers.expected (not x.end.numbers.next) ≡ false
      = ap (λ (z : Bool). equal z (not x.end.numbers.next)) l.number ∙ other x.end.numbers.next
      in
      pick_no _ _ _ away ∙ (let z : length m - 0 ≡ length m = omega arith in z)

  abbrev sent : List ℕ → Turn
  sent m = goes_out (sends_piece (message_of x.end.sizes.theirs m) x.end)

  message_rank : (p : x.end.phase ≡ Due) (m : List ℕ) → between 1 message_most (length m) ≡ true
      → (q : Met (handed m (sent m) x) y (there (block_of (sent m).state))) × (rank_of q ≤ 6 * length m + 7)
  message_rank p m e =
      let a = all_lacking m in
      let t = tries_most y.end.last y.end.counts.same in
      (sending m (drop (length m) (zeros message_most)) (message_going x y l p m e) (to_y refl), omega arith)

  abbrev asked : What → ℕ → Turn
  asked v u = goes_out (asks_for v u x.end)

  request_rank : (v : What) (u : ℕ) → (q : Met (moved (asked v u) x) y (there (block_of (asked v u).state))) × (rank_of q ≤ 6)
  unfolding asks_for
  request_rank v u = (asking (request_level x y l v u) refl (to_y refl), omega arith)

module _ (t : Talk) (h : Holds t) (live : is_over t.terminal.end.phase ≡ false) (n : ℕ) (r : Ranked n t) where
  abbrev T : Side
  T = t.terminal

  abbrev C : Side
  C = t.card

  unchanged : (m : ℕ) → n ≤ m → (to : List ℕ → Line) (b : List ℕ)
      → Ranked m (record { terminal = T; card = C; line = pick false (to b) t.line })
  unchanged m k to b =
      subst (λ (l : Line). Ranked m (record { terminal = T; card = C; line = l })) (sym (pick_no false (to b) t.line refl))
      (more n m t k r)

  carried : (m : ℕ) (x : Side) (b : List ℕ) (q : Met x C (there b)) → rank_of q ≤ m
      → Ranked m (record { terminal = x; card = C; line = pick true (forth b) t.line })
  carried m x b q k =
      let s = subst (λ (w : Way). (p : Met x C w) × (rank_of p ≤ m))
      (sym (ap from_terminal (pick_yes true (forth b) t.line refl))) (q, k) in
      terminals s.0 s.1

  carried' : (m : ℕ) (x : Side) (b : List ℕ) (q : Met x T (there b)) → rank_of q ≤ m
      → Ranked m (record { terminal = T; card = x; line = pick true (back b) t.line })
  carried' m x b q k =
      let s = subst (λ (w : Way). (p : Met x T w) × (rank_of p ≤ m)) (sym (ap from_card (pick_yes true (back b) t.line refl))) (q, k) in
      cards s.0 s.1

  hello_ranked : Ranked (n + 6) (happens greets t)
  unfolding happens
  hello_ranked =
      every_hello T.end (λ (u : Turn). Ranked (n + 6) (record { terminal = moved u T; card = C; line = carrying forth u t.line }))
      (λ why. unchanged (n + 6) (omega arith) forth (block_of T.end))
      (λ e. let l = (terminal_start t h live e).0 in
      let k = request_rank T C l Ifs 0xFE in let b = k.1 in
      carried (n + 6) _ _ k.0 (omega arith))

  command_ranked : (m : List ℕ) → Ranked (n + (6 * length m + 7)) (happens (command m) t)
  unfolding happens
  command_ranked m =
      every_send T.end
      (λ (u : Turn). Ranked (n + (6 * length m + 7)) (record { terminal = handed m u T; card = C; line = carrying forth u t.line }))
      (λ why. unchanged (n + (6 * length m + 7)) (omega arith) forth (block_of T.end)) m
      (λ e f. let l = (terminal_due t h live e).0 in
      let k = message_rank T C l e m f in let b = k.1 in
      carried (n + (6 * length m + 7)) _ _ k.0 (omega arith))

  answer_ranked : (m : List ℕ) → Ranked (n + (6 * length m + 7)) (happens (answer m) t)
  unfolding happens
  answer_ranked m =
      every_send C.end
      (λ (u : Turn). Ranked (n + (6 * length m + 7)) (record { terminal = T; card = handed m u C; line = carrying back u t.line }))
      (λ why. unchanged (n + (6 * length m + 7)) (omega arith) back (block_of C.end)) m
      (λ e f. let l = (card_due t h live e).0 in
      let k = message_rank C T l e m f in let b = k.1 in
      carried' (n + (6 * length m + 7)) _ _ k.0 (omega arith))

  ask_ranked : (v : What) (u : ℕ) → Ranked (n + 6) (happens (requests v u) t)
  unfolding happens
  ask_ranked v u =
      every_ask C.end (λ (z : Turn). Ranked (n + 6) (record { terminal = T; card = moved z C; line = carrying back z t.line }))
      (λ why. unchanged (n + 6) (omega arith) back (block_of C.end)) v u
      (λ e f g. let l = (card_due t h live e).0 in
      let k = request_rank C T l v u in let b = k.1 in
      carried' (n + 6) _ _ k.0 (omega arith))

  -- what comes takes one from the rank
  abbrev Takes : ℕ → Talk → Type 0
  Takes k x = (k ≤ n) × Ranked (n - k) x

  none : (x : Talk) → Ranked n x → Takes 0 x
  none x q = (omega arith, more n (n - 0) x (omega arith) q)

  come_ranked : (l : Line) → t.line ≡ l → Takes (one (not (is_clear l))) (arrives l t)
  unfolding arrives
  come_ranked clear e = none t r
  come_ranked (forth b) e = card_ranked t h n b b e (intact refl) r
  come_ranked (back b) e = terminal_ranked t h n b b e (intact refl) r

  spoil_ranked : (l : Line) (b : List ℕ) → t.line ≡ l → Takes (is_damage l b t) (spoils l b t)
  unfolding spoils
  spoil_ranked clear b e = none t r
  spoil_ranked (forth s) b e =
      either (is_bad (heard_of b C.end.sizes.ours))
      (λ f. let k = card_ranked t h n s b e (spoiled f) r in
      subst (λ (z : Bool). Takes (one z) (pick z (to_card b t) t)) (sym f)
      (k.0, subst (Ranked (n - 1)) (sym (pick_yes true (to_card b t) t refl)) k.1))
      (λ f. subst (λ (z : Bool). Takes (one z) (pick z (to_card b t) t)) (sym f)
      (subst (λ (x : Talk). Takes 0 x) (sym (pick_no false (to_card b t) t refl)) (none t r)))
  spoil_ranked (back s) b e =
      either (is_bad (heard_of b T.end.sizes.ours))
      (λ f. let k = terminal_ranked t h n s b e (spoiled f) r in
      subst (λ (z : Bool). Takes (one z) (pick z (to_terminal b t) t)) (sym f)
      (k.0, subst (Ranked (n - 1)) (sym (pick_yes true (to_terminal b t) t refl)) k.1))
      (λ f. subst (λ (z : Bool). Takes (one z) (pick z (to_terminal b t) t)) (sym f)
      (subst (λ (x : Talk). Takes 0 x) (sym (pick_no false (to_terminal b t) t refl)) (none t r)))

  -- any one thing
  pub step_ranked : (e : Happens) → (landed e t ≤ n + cost e) × Ranked (n + cost e - landed e t) (happens e t)
  unfolding happens
  step_ranked greets = (omega arith, more (n + 6) (n + 6 - 0) _ (omega arith) hello_ranked)
  step_ranked (command m) = (omega arith, more (n + (6 * length m + 7)) (n + (6 * length m + 7) - 0) _ (omega arith) (command_ranked m))
  step_ranked (answer m) = (omega arith, more (n + (6 * length m + 7)) (n + (6 * length m + 7) - 0) _ (omega arith) (answer_ranked m))
  step_ranked (requests v u) = (omega arith, more (n + 6) (n + 6 - 0) _ (omega arith) (ask_ranked v u))
  step_ranked comes =
      let k = come_ranked t.line refl in
      let low = k.0 in
      (omega arith, more (n - one (not (is_clear t.line))) (n + 0 - one (not (is_clear t.line))) _ (omega arith) k.1)
  step_ranked (spoils_it b) =
      let k = spoil_ranked t.line b refl in
      let low = k.0 in
      (omega arith, more (n - is_damage t.line b t) (n + 0 - is_damage t.line b t) _ (omega arith) k.1)
  step_ranked lost = (omega arith, standing refl)

-- any schedule
pub bounded : (hs : List Happens) (t : Talk) (n : ℕ) → Holds t → Ranked n t → arrivals hs t ≤ n + costs hs
unfolding arrivals costs
bounded [] t n h r = omega arith
bounded (e ∷ hs) t n h r =
    either (is_over t.terminal.end.phase)
    (λ f. let z = pick_yes (is_over t.terminal.end.phase) 0 (landed e t + arrivals hs (happens e t)) f in omega arith)
    (λ f.
    let k = step_ranked t h f n r e in
    let low = k.0 in
    let z = pick_no (is_over t.terminal.end.phase) 0 (landed e t + arrivals hs (happens e t)) f in
    let i = bounded hs (happens e t) (n + cost e - landed e t) (step_holds t h f e) k.1 in
    omega arith)

begun_clear : (ifsc : ℕ) → (begun ifsc).line ≡ clear
unfolding begun
begun_clear ifsc = refl

-- the law: from the beginning, no more blocks come than the schedule's messages and requests cost
pub ends : (ifsc : ℕ) (hs : List Happens) → arrivals hs (begun ifsc) ≤ costs hs
ends ifsc hs = let b = bounded hs (begun ifsc) 0 (begun_holds ifsc) (standing (begun_clear ifsc)) in omega arith
