-- An end that hears nothing valid soon sends nothing more: each invalid block brings out the same block once more, which is counted, or an
-- R-block, after which it is. Then it has stopped, or it is a card that remains in receive mode, and stays so. Assumes nothing.
use mathlib.Core.Path.{◌≡◌, refl, sym, ap, subst, ◌∙◌}
use mathlib.Core.Bool.{true, false, false≢true}
use mathlib.Core.List.{List, [], ◌∷◌}
use Prim.Native.Nat.{ℕ, ◌+◌, ◌-◌, ◌<◌, ◌≤◌}
use native.Mathlib.Nat.{not-suc-le-zero}
use native.Mathlib.Omega.{arith}
use lib.ListN.{length, get_or}
use borrow.Author.Tests.{ltb-true, ltb-false, le-ltb}
use Rattle.std.specs.Prelude.{Ok, Err}
use Rattle.slices.specs.Choice.{pick}
use Rattle.slices.proofs.Choice.{pick_yes, pick_no, picked}
use Rattle.t1_block.specs.Blocks.{len_of, pcb_of_r}
use Rattle.t1_block.specs.Faults.{Heard, heard_of}
use Rattle.t1_block.specs.declared.What.TheVariants.{Resynch, Ifs, Abort, Wtx}
use Rattle.t1_block.specs.declared.Kind.{Kind}
use Rattle.t1_block.specs.declared.Kind.TheVariants.{Information as I, Ready as R, Request as Asks, Response as Answers}
use Rattle.t1_state.specs.Limits.{same_limit}
use Rattle.t1_state.specs.declared.Role.{Role}
use Rattle.t1_state.specs.declared.Role.TheVariants.{Terminal, Card}
use Rattle.t1_state.specs.declared.Phase.{Phase}
use Rattle.t1_state.specs.declared.Phase.TheVariants.{Start, Asking, Due, Sent, Receiving, Over}
use Rattle.t1_state.specs.declared.Last.{Last}
use Rattle.t1_state.specs.declared.Last.TheVariants.{Nothing, Information, Ready, Request, Response}
use Rattle.t1_state.specs.declared.State.{State}
use Rattle.t1_state.specs.declared.End.TheVariants.{Limit}
use Rattle.t1_state.specs.declared.Turn.{Turn}
use Rattle.t1_again.specs.Again.{ended_by, ready_for, asks_size, stays_open, remains, exhausted, same_again, wrong_after, wrong, for_role}
use Rattle.t1_line.specs.Line.{on_line}
use Rattle.t1_asking.specs.Asking.{asked_instead, on_response, asked_kind, on_asking}
use Rattle.t1_turns.specs.Turns.{by_phase, on_block}
use Rattle.t1_laws.specs.Stopping.{heard_all, is_bad, AllBad, awaits, is_same, repeats}
use Rattle.t1_laws.specs.Stopping.{Mute, Silent, stopped, remaining, answers_to, is_answer, patience}
use Rattle.t1_laws.proofs.Stopping.{same_limit_lem}

-- silent, or nearer to it
pub data Nearer (s : State) (x : State) : Type 0 where
  silent : Silent x → Nearer s x
  nearer : awaits x.phase ≡ true → patience x < patience s → Nearer s x

repeats_same : (p : Phase) (l : Last) → is_same l ≡ true → repeats p l ≡ true
repeats_same Start l e = e
repeats_same Asking l e = refl
repeats_same Due l e = e
repeats_same Sent l e = e
repeats_same Receiving l e = e
repeats_same Over l e = e

pub patient : (s : State) → patience s ≤ 3
unfolding patience
patient s = picked (λ (x : ℕ). x ≤ 3) _ _ _ (λ e. let h = same_limit_lem s.role s.last in omega arith) (λ e. omega arith)

module _ (s : State) (waits : awaits s.phase ≡ true) where
  spent_silent : same_limit s.role s.last ≤ s.counts.same → Silent (exhausted s).state
  unfolding exhausted
  spent_silent h =
      picked (λ (t : Turn). Silent t.state) (stays_open s.role s.last) (remains s) (ended_by Limit s)
      (λ e. remaining (record { asks = e; spent = h })) (λ e. stopped refl)

  same_nearer : repeats s.phase s.last ≡ true → Nearer s (same_again s).state
  unfolding same_again patience
  same_nearer rep =
      picked (λ (t : Turn). Nearer s t.state) _ _ _
      (λ e. nearer waits (less (ltb-true s.counts.same (same_limit s.role s.last) e)))
      (λ e. silent (spent_silent (ltb-false s.counts.same (same_limit s.role s.last) e)))
    where
      less : s.counts.same < same_limit s.role s.last
          → pick (repeats s.phase s.last) (same_limit s.role s.last - (s.counts.same + 1)) 3
          < pick (repeats s.phase s.last) (same_limit s.role s.last - s.counts.same) 3
      less h =
          let x = pick_yes (repeats s.phase s.last) (same_limit s.role s.last - (s.counts.same + 1)) 3 rep in
          let y = pick_yes (repeats s.phase s.last) (same_limit s.role s.last - s.counts.same) 3 rep in
          omega arith

  -- an R-block goes out for the first time
  ready_nearer : (code : ℕ) → repeats s.phase s.last ≡ false → Nearer s (ready_for code s)
  unfolding ready_for patience
  ready_nearer code new = nearer waits less
    where
      r : Last
      r = Ready (pcb_of_r s.numbers.expected code)

      less : pick (repeats s.phase r) (same_limit s.role r - 1) 3 < pick (repeats s.phase s.last)
          (same_limit s.role s.last - s.counts.same) 3
      less =
          let x = pick_yes (repeats s.phase r) (same_limit s.role r - 1) 3 (repeats_same s.phase r refl) in
          let y = pick_no (repeats s.phase s.last) (same_limit s.role s.last - s.counts.same) 3 new in
          let h = same_limit_lem s.role r in
          omega arith

  wrong_nearer : (l : Last) (code : ℕ) → s.last ≡ l → repeats s.phase l ≡ is_same l → Nearer s (wrong_after l code s).state
  unfolding wrong_after
  wrong_nearer Nothing code e f = ready_nearer code (ap (repeats s.phase) e ∙ f)
  wrong_nearer Information code e f = ready_nearer code (ap (repeats s.phase) e ∙ f)
  wrong_nearer (Ready pcb) code e f = same_nearer (ap (repeats s.phase) e ∙ f)
  wrong_nearer (Request w v) code e f = same_nearer (ap (repeats s.phase) e ∙ f)
  wrong_nearer (Response w v) code e f = ready_nearer code (ap (repeats s.phase) e ∙ f)

  bad_nearer : (p : Phase) (code v n : ℕ) → s.phase ≡ p → Nearer s (by_phase p (Err code) v n s).state
  unfolding by_phase on_line on_asking wrong
  bad_nearer Start code v n e = absurd (false≢true (sym (ap awaits e) ∙ waits))
  bad_nearer Asking code v n e = same_nearer (ap (λ (p : Phase). repeats p s.last) e)
  bad_nearer Due code v n e = absurd (false≢true (sym (ap awaits e) ∙ waits))
  bad_nearer Sent code v n e = wrong_nearer s.last code refl (ap (λ (p : Phase). repeats p s.last) e)
  bad_nearer Receiving code v n e = wrong_nearer s.last code refl (ap (λ (p : Phase). repeats p s.last) e)
  bad_nearer Over code v n e = absurd (false≢true (sym (ap awaits e) ∙ waits))

  -- one invalid block
  pub one_bad : (b : List ℕ) → is_bad (heard_of b s.sizes.ours) ≡ true → Nearer s (on_block b s).state
  unfolding on_block
  one_bad b bad = heard (heard_of b s.sizes.ours) bad
    where
      heard : (h : Heard) → is_bad h ≡ true → Nearer s (by_phase s.phase h (get_or b 3 0) (len_of b) s).state
      heard (Ok k) e = absurd (false≢true e)
      heard (Err code) e = bad_nearer s.phase code (get_or b 3 0) (len_of b) refl

not_asked : {s : State} (l : Last) → s.last ≡ l → asks_size l ≡ false → Mute s → ⊥
not_asked {s} l e f m = role s.role m.asks
  where
    role : (r : Role) → stays_open r s.last ≡ true → ⊥
    role Terminal g = false≢true g
    role Card g = false≢true (sym f ∙ (ap asks_size (sym e) ∙ g))

-- an end that is silent stays so, and sends nothing
module _ (b : List ℕ) (s : State) where
  pub mute_again : Mute s → same_again s ≡ remains s
  unfolding same_again exhausted
  mute_again m = pick_no _ _ _ (le-ltb _ _ m.spent) ∙ pick_yes _ _ _ m.asks

  mute_wrong : (l : Last) (code : ℕ) → s.last ≡ l → Mute s → wrong_after l code s ≡ remains s
  unfolding wrong_after
  mute_wrong Nothing code e m = absurd (not_asked Nothing e refl m)
  mute_wrong Information code e m = absurd (not_asked Information e refl m)
  mute_wrong (Ready pcb) code e m = mute_again m
  mute_wrong (Request w v) code e m = mute_again m
  mute_wrong (Response w v) code e m = absurd (not_asked (Response w v) e refl m)

  bad_silent : (p : Phase) (code v n : ℕ) → s.phase ≡ p → Silent s → Silent (by_phase p (Err code) v n s).state
  unfolding by_phase on_line on_asking wrong
  bad_silent Start code v n e i = i
  bad_silent Asking code v n e (stopped f) = absurd (let z : ◌≡◌ {A = ℕ} 0 1 = cc in omega arith)
  bad_silent Asking code v n e (remaining m) = subst (λ (t : Turn). Silent t.state) (sym (mute_again m)) (remaining m)
  bad_silent Due code v n e i = i
  bad_silent Sent code v n e (stopped f) = absurd (let z : ◌≡◌ {A = ℕ} 0 1 = cc in omega arith)
  bad_silent Sent code v n e (remaining m) =
      subst (λ (t : Turn). Silent t.state) (sym (mute_wrong s.last code refl m)) (remaining m)
  bad_silent Receiving code v n e (stopped f) = absurd (let z : ◌≡◌ {A = ℕ} 0 1 = cc in omega arith)
  bad_silent Receiving code v n e (remaining m) =
      subst (λ (t : Turn). Silent t.state) (sym (mute_wrong s.last code refl m)) (remaining m)
  bad_silent Over code v n e i = i

  pub one_silent : is_bad (heard_of b s.sizes.ours) ≡ true → Silent s → Silent (on_block b s).state
  unfolding on_block
  one_silent bad i = heard (heard_of b s.sizes.ours) bad
    where
      heard : (h : Heard) → is_bad h ≡ true → Silent (by_phase s.phase h (get_or b 3 0) (len_of b) s).state
      heard (Ok k) e = absurd (false≢true e)
      heard (Err code) e = bad_silent s.phase code (get_or b 3 0) (len_of b) refl i

pub stays : (bs : List (List ℕ)) (s : State) → AllBad bs s → Silent s → Silent (heard_all bs s)
unfolding heard_all AllBad
stays [] s all i = i
stays (b ∷ bs) s all i = stays bs _ all.1 (one_silent b s all.0 i)

-- the law: more invalid blocks in a row than an end has patience for silence it
pub bad_ends : (bs : List (List ℕ)) (s : State) → awaits s.phase ≡ true → AllBad bs s → patience s < length bs
    → Silent (heard_all bs s)
unfolding heard_all AllBad
bad_ends [] s w all h = absurd (not-suc-le-zero h)
bad_ends (b ∷ bs) s w all h = after (λ w' l. bad_ends bs (on_block b s).state w' all.1 (omega arith)) (one_bad s w b all.0)
  where
    after : (awaits (on_block b s).state.phase ≡ true → patience (on_block b s).state < patience s
        → Silent (heard_all bs (on_block b s).state)) → Nearer s (on_block b s).state → Silent (heard_all bs (on_block b s).state)
    after go (silent i) = stays bs _ all.1 i
    after go (nearer w' l) = go w' l

-- four are enough for any end that waits for a block
pub four_bad : (a b c d : List ℕ) (s : State) → awaits s.phase ≡ true → AllBad (a ∷ b ∷ c ∷ d ∷ []) s
    → Silent (heard_all (a ∷ b ∷ c ∷ d ∷ []) s)
four_bad a b c d s w all = bad_ends (a ∷ b ∷ c ∷ d ∷ []) s w all (let p = patient s in omega arith)

-- a terminal then has stopped
pub terminal_stops : (s : State) → s.role ≡ Terminal → Silent s → s.phase ≡ Over
terminal_stops s e (stopped f) = f
terminal_stops s e (remaining m) = absurd (false≢true (ap (λ (r : Role). stays_open r s.last) (sym e) ∙ m.asks))

-- and a card whose request is open and spent answers no block but the response to it, which alone leads on
module _ (s : State) (asking : s.phase ≡ Asking) (m : Mute s) where
  card_is : (r : Role) → s.role ≡ r → (t c : Turn) → c ≡ remains s → for_role r t c ≡ remains s
  unfolding for_role
  card_is Terminal e t c f = absurd (false≢true (ap (λ (r : Role). stays_open r s.last) (sym e) ∙ m.asks))
  card_is Card e t c f = f

  again : same_again s ≡ remains s
  again = mute_again [] s m

  kind_remains : (k : Kind) (v : ℕ) → answers_to s.last k v ≡ false → asked_kind k v s ≡ remains s
  unfolding asked_kind asked_instead on_response
  kind_remains (I number more) v e = again
  kind_remains (R number) v e = again
  kind_remains (Asks Resynch) v e = again
  kind_remains (Asks Ifs) v e = again
  kind_remains (Asks Abort) v e = card_is s.role refl _ _ again
  kind_remains (Asks Wtx) v e = again
  kind_remains (Answers w) v e = pick_no _ _ _ e ∙ again

  heard_remains : (h : Heard) (v : ℕ) → is_answer s.last h v ≡ false → on_asking h v s ≡ remains s
  unfolding on_asking
  heard_remains (Ok k) v e = kind_remains k v e
  heard_remains (Err code) v e = again

  pub remains_open : (b : List ℕ) → is_answer s.last (heard_of b s.sizes.ours) (get_or b 3 0) ≡ false → on_block b s ≡ remains s
  unfolding on_block by_phase
  remains_open b e =
      ap (λ (p : Phase). by_phase p (heard_of b s.sizes.ours) (get_or b 3 0) (len_of b) s) asking
      ∙ heard_remains (heard_of b s.sizes.ours) (get_or b 3 0) e

  pub response_leads_on : (b : List ℕ) → is_answer s.last (heard_of b s.sizes.ours) (get_or b 3 0) ≡ true
      → (on_block b s).state.phase ≡ Due
  unfolding on_block by_phase on_asking asked_kind on_response
  response_leads_on b e =
      ap (λ (p : Phase). (by_phase p (heard_of b s.sizes.ours) (get_or b 3 0) (len_of b) s).state.phase) asking
      ∙ heard_leads (heard_of b s.sizes.ours) (get_or b 3 0) e
    where
      heard_leads : (h : Heard) (v : ℕ) → is_answer s.last h v ≡ true → (on_asking h v s).state.phase ≡ Due
      heard_leads (Ok (I number more)) v f = absurd (false≢true f)
      heard_leads (Ok (R number)) v f = absurd (false≢true f)
      heard_leads (Ok (Asks w)) v f = absurd (false≢true f)
      heard_leads (Ok (Answers w)) v f = ap (λ (t : Turn). t.state.phase) (pick_yes _ _ _ f)
      heard_leads (Err code) v f = absurd (false≢true f)
