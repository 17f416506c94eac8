-- How often an I-block goes out, read off the blocks that an end sends: a turn sends no I-block and leaves the one that is out as it is,
-- or sends that very block once more and counts it, or brings out one with the other number. No size, and nothing else that happens in
-- between, changes the block that is out. Assumes nothing.
use mathlib.Core.Path.{◌≡◌, refl, sym, ap, subst, ◌∙◌}
use mathlib.Core.Bool.{Bool, true, false, not, false≢true}
use mathlib.Core.List.{List, [], ◌∷◌}
use mathlib.Core.Logic.{inl, inr}
use Prim.Native.Nat.{ℕ, ◌+◌}
use Rattle.slices.proofs.Choice.{picked, either}
use Rattle.t1_state.specs.Limits.{information_limit}
use Rattle.t1_state.specs.Changes.{at_phase, sending}
use Rattle.t1_state.specs.declared.Role.{Role}
use Rattle.t1_state.specs.declared.Role.TheVariants.{Terminal, Card}
use Rattle.t1_state.specs.declared.Phase.TheVariants.{Over}
use Rattle.t1_state.specs.declared.Last.{Last}
use Rattle.t1_state.specs.declared.Last.TheVariants.{Nothing, Information, Ready, Request, Response}
use Rattle.t1_state.specs.declared.State.{State}
use Rattle.t1_state.specs.declared.End.TheVariants.{Limit}
use Rattle.t1_state.specs.declared.Turn.{Turn}
use Rattle.t1_again.specs.Again.{ended_by, stays_open, remains, exhausted, same_again}
use Rattle.t1_line.specs.Line.{is_sent}
use Rattle.t1.specs.Steps.{Event, turn_of, block_for, block_of, sent_by, first_phase, fresh_end}
use Rattle.t1_laws.specs.Stopping.{after}
use Rattle.t1_laws.specs.Sendings.{present, sent_over, only_i, Follows, Sendings}
use Rattle.t1_laws.proofs.Rounds.{not_not}
use Rattle.t1_laws.proofs.Orderly.{info_block, Orderly, skip, shown, number_is, Goes, none, again, new, Sound, event_sound, fresh_orderly}

not_self : (n : Bool) → not n ≡ n → ⊥
not_self true e = false≢true e
not_self false e = false≢true (sym e)

-- one event, and the I-blocks behind it
module _ (e : Event) (s : State) (o : Orderly s) (bs : List (List ℕ)) where
  abbrev t : Turn
  t = turn_of e s

  sound : Sound s t
  sound = event_sound s o e

  abbrev Rest : Type 0
  Rest = Follows (information_limit t.state.role) (info_block t.state) t.state.counts.information (only_i bs)

  behind : Rest → (out : List ℕ) (n : ℕ) → info_block t.state ≡ out → t.state.counts.information ≡ n
      → Follows (information_limit s.role) out n (only_i bs)
  behind rest out n f g =
      subst (λ (x : ℕ). Follows (information_limit s.role) out x (only_i bs)) g
      (subst (λ (x : List ℕ). Follows (information_limit s.role) x t.state.counts.information (only_i bs)) f
      (subst (λ (r : Role). Follows (information_limit r) (info_block t.state) t.state.counts.information (only_i bs)) sound.role rest))

  abbrev Now : List (List ℕ) → Type 0
  Now x = Follows (information_limit s.role) (info_block s) s.counts.information x

  by_sending : Rest → Goes s t → Now (only_i (present (sent_by t.act t.state) bs))
  unfolding Follows
  by_sending rest (none h i c n p) = subst Now (sym (skip _ bs h)) (behind rest _ _ i c)
  by_sending rest (again p h i few c) =
      subst Now (sym (ap (λ (x : List ℕ). only_i (present x bs)) h ∙ shown s o.small bs)) (inl (refl, few, behind rest _ _ i c))
  by_sending rest (new h c n) =
      subst Now (sym (ap (λ (x : List ℕ). only_i (present x bs)) h ∙ shown t.state sound.orderly.small bs))
      (inr (
        (λ f. not_self (not s.numbers.next)
            (sym (number_is t.state sound.orderly.small ∙ ap not n) ∙ (f ∙ number_is s o.small))),
        behind rest _ _ refl c,
      ))

-- the law: after any events of an orderly end, its I-blocks follow one another as they must
pub follows : (es : List Event) (s : State) → Orderly s
    → Follows (information_limit s.role) (info_block s) s.counts.information (only_i (sent_over es s))
unfolding sent_over only_i Follows
follows [] s o = tt
follows (e ∷ es) s o =
    by_sending e s o (sent_over es (turn_of e s).state) (follows es (turn_of e s).state (event_sound s o e).orderly)
    (event_sound s o e).goes

pub orderly_after : (es : List Event) (s : State) → Orderly s → Orderly (after es s)
unfolding after
orderly_after [] s o = o
orderly_after (e ∷ es) s o = orderly_after es (turn_of e s).state (event_sound s o e).orderly

-- before the first I-block
module _ (e : Event) (s : State) (o : Orderly s) (bs : List (List ℕ)) (zeroth : s.numbers.next ≡ false)
    (unsent : is_sent s.phase ≡ false) where
  abbrev u : Turn
  u = turn_of e s

  not_yet : (is_sent u.state.phase ≡ true → is_sent s.phase ≡ true) → is_sent u.state.phase ≡ false
  not_yet f = either (is_sent u.state.phase) (λ g. absurd (false≢true (sym unsent ∙ f g))) (λ g. g)

  by_first : (u.state.numbers.next ≡ false → is_sent u.state.phase ≡ false → Sendings (information_limit u.state.role) (only_i bs))
      → Follows (information_limit u.state.role) (info_block u.state) u.state.counts.information (only_i bs) → Goes s u
      → Sendings (information_limit s.role) (only_i (present (sent_by u.act u.state) bs))
  unfolding Sendings
  by_first later rest (none h i c n p) =
      subst (Sendings (information_limit s.role)) (sym (skip _ bs h))
      (subst (λ (r : Role). Sendings (information_limit r) (only_i bs)) (event_sound s o e).role (later (n ∙ zeroth) (not_yet p)))
  by_first later rest (again p h i few c) = absurd (false≢true (sym unsent ∙ ap is_sent p))
  by_first later rest (new h c n) =
      let small = (event_sound s o e).orderly.small in
      subst (Sendings (information_limit s.role)) (sym (ap (λ (x : List ℕ). only_i (present x bs)) h ∙ shown u.state small bs))
      (number_is u.state small ∙ (ap not n ∙ (not_not s.numbers.next ∙ zeroth)), behind e s o bs rest _ _ refl c)

sendings_from : (es : List Event) (s : State) → Orderly s → s.numbers.next ≡ false → is_sent s.phase ≡ false
    → Sendings (information_limit s.role) (only_i (sent_over es s))
unfolding sent_over only_i Sendings
sendings_from [] s o z u = tt
sendings_from (e ∷ es) s o z u =
    let x = (turn_of e s).state in
    let i = event_sound s o e in
    by_first e s o (sent_over es x) z u (λ n p. sendings_from es x i.orderly n p) (follows es x i.orderly) i.goes

-- the law: all I-blocks that an end sends, whatever happens to it
pub sendings : (role : Role) (theirs ours : ℕ) (es : List Event)
    → Sendings (information_limit role) (only_i (sent_over es (fresh_end role theirs ours)))
unfolding fresh_end
sendings role theirs ours es = sendings_from es _ (fresh_orderly role theirs ours) refl (first_unsent role)
  where
    first_unsent : (r : Role) → is_sent (first_phase r) ≡ false
    first_unsent Terminal = refl
    first_unsent Card = refl

-- and an R-block or a request that goes out again is the same block
pub repeated_same : (s : State) → block_of (same_again s).state ≡ block_of s
unfolding same_again exhausted block_of block_for
repeated_same s =
    picked (λ (t : Turn). block_for t.state.last t.state ≡ block_for s.last s) _ _ _ (λ e. same s.last)
    (λ e. picked (λ (t : Turn). block_for t.state.last t.state ≡ block_for s.last s) (stays_open s.role s.last) (remains s)
    (ended_by Limit s) (λ f. refl) (λ f. stopped s.last))
  where
    same : (l : Last)
        → block_for l (sending s.last (record { information = s.counts.information; same = s.counts.same + 1 }) s) ≡ block_for l s
    same Nothing = refl
    same Information = refl
    same (Ready pcb) = refl
    same (Request w v) = refl
    same (Response w v) = refl

    stopped : (l : Last) → block_for l (at_phase Over s) ≡ block_for l s
    stopped Nothing = refl
    stopped Information = refl
    stopped (Ready pcb) = refl
    stopped (Request w v) = refl
    stopped (Response w v) = refl
