-- How a message becomes whole: by its last piece, where all before it has come, and by nothing else. Assumes nothing.
use mathlib.Core.Path.{◌≡◌, refl, sym, ap, subst, ◌∙◌}
use mathlib.Core.Bool.{true, false, not}
use mathlib.Core.List.{List, [], ◌∷◌}
use Prim.Native.Nat.{ℕ}
use native.Mathlib.Omega.{arith}
use Rattle.slices.proofs.Choice.{pick_yes, picked}
use Rattle.t1_block.specs.Blocks.{len_of}
use Rattle.t1_block.specs.Faults.{heard_of}
use Rattle.t1_state.specs.Limits.{more_of}
use Rattle.t1_state.specs.declared.State.{State}
use Rattle.t1_state.specs.declared.End.TheVariants.{Limit}
use Rattle.t1_state.specs.declared.Act.{Act}
use Rattle.t1_state.specs.declared.Act.TheVariants.{Whole}
use Rattle.t1_state.specs.declared.Turn.{Turn}
use Rattle.t1_again.specs.Again.{ended_by}
use Rattle.t1_line.specs.Line.{equal, takes_fields, keeps, on_information, on_kind, on_line}
use Rattle.t1_turns.specs.Turns.{on_block}
use Rattle.t1.specs.Steps.{kept_by}
use Rattle.t1_laws.proofs.Rounds.{equal_same}
use Rattle.t1_laws.proofs.Still.{Passes, passes}
use Rattle.t1_laws.proofs.Hearing.{Out, info, ready, answer, bad, equal_not}
use Rattle.t1_laws.proofs.Lossy.{Both, ready_passes, information_passes, on_line_is}

-- a receiver x that has the whole message, with what it was just before
pub record Came (s r x : State) : Type 0 where
  pub final : more_of s.message ≡ false
  pub received : x.received ≡ 0
  pub expected : x.numbers.expected ≡ not r.numbers.expected
  pub next : x.numbers.next ≡ r.numbers.next

module _ (m rest : List ℕ) (s r : State) (b : List ℕ) where
  -- the last piece makes the message whole, and nothing else does
  limit_not : (j : ℕ) → (ended_by Limit r).act ≡ Whole j → {A : Type 0} → A
  limit_not j e = absurd (let z : ◌≡◌ {A = ℕ} 0 1 = cc in omega arith)

  passes_not : (t : Turn) → Passes r t → (j : ℕ) → t.act ≡ Whole j → {A : Type 0} → A
  unfolding kept_by
  passes_not t p j e = absurd (some (sym (p.keeps (0 ∷ [])) ∙ ap (λ (a : Act). kept_by a (0 ∷ [])) e))
    where
      some : ◌≡◌ {A = List ℕ} [] (0 ∷ []) → ⊥
      some f = let z : ◌≡◌ {A = ℕ} 0 1 = cc in omega arith

  abbrev Completed : Turn → Type 0
  Completed t = (j : ℕ) → t.act ≡ Whole j → Came s r t.state

  keeps_completes : Completed (keeps (more_of s.message) (len_of b) r)
  unfolding keeps
  keeps_completes =
      picked Completed (more_of s.message) _ _ (λ more j e. absurd (let z : ◌≡◌ {A = ℕ} 0 1 = cc in omega arith))
      (λ final j e. record { final = final; received = refl; expected = refl; next = refl })

  pub completes : Both m rest s r → r.numbers.expected ≡ not s.numbers.next
      → takes_fields r.phase (more_of r.message) ≡ true → Out s b (heard_of b r.sizes.ours) → Completed (on_block b r)
  unfolding on_line on_kind on_information
  completes both n f (info same h) =
      subst Completed
      (sym (on_line_is m rest s r [] b f _ h
      ∙ (pick_yes _ _ _ f ∙ pick_yes _ _ _ (ap (equal (not s.numbers.next)) n ∙ equal_same (not s.numbers.next)))))
      (picked Completed _ _ _ (λ g j e. limit_not j e) (λ g. keeps_completes))
  completes both n f (ready h) =
      λ j e. passes_not _ (subst (Passes r) (sym (on_line_is m rest s r [] b f _ h))
      (ready_passes r both.says s.numbers.expected both.step f)) j e
  completes both n f (answer v h) = λ j e. passes_not _
      (subst (Passes r) (sym (on_line_is m rest s r [] b f _ h)) (passes r both.says 2)) j e
  completes both n f (bad code h) = λ j e. passes_not _
      (subst (Passes r) (sym (on_line_is m rest s r [] b f _ h)) (passes r both.says code)) j e

  pub never_completes : Both m rest s r → r.numbers.expected ≡ s.numbers.next → takes_fields r.phase (more_of r.message) ≡ true
      → Out s b (heard_of b r.sizes.ours) → (j : ℕ) → (on_block b r).act ≡ Whole j → {A : Type 0} → A
  unfolding on_line on_kind
  never_completes both n f (info same h) j e =
      passes_not _
      (subst (Passes r) (sym (on_line_is m rest s r [] b f _ h))
      (information_passes r both.says (not s.numbers.next) (more_of s.message) (len_of b)
      (ap (equal (not s.numbers.next)) n ∙ equal_not s.numbers.next))) j e
  never_completes both n f (ready h) j e =
      passes_not _ (subst (Passes r) (sym (on_line_is m rest s r [] b f _ h))
      (ready_passes r both.says s.numbers.expected both.step f)) j e
  never_completes both n f (answer v h) j e = passes_not _
      (subst (Passes r) (sym (on_line_is m rest s r [] b f _ h)) (passes r both.says 2)) j e
  never_completes both n f (bad code h) j e = passes_not _
      (subst (Passes r) (sym (on_line_is m rest s r [] b f _ h)) (passes r both.says code)) j e
