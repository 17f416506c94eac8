-- The definitions of a judgement under way, case by case, as the code puts them together.
-- Assumes nothing.
use mathlib.Core.Path.{◌≡◌, sym, ap, ◌∙◌}
use mathlib.Core.List.{List}
use Prim.Native.Nat.{ℕ}
use borrow.Author.Tests.{eq-eqb, ne_eqb}
use Rattle.slices.proofs.Choice.{pick_yes, pick_no}
use Rattle.tape_read.specs.Blocks.{kind_in, payload_in}
use Rattle.tape_feed.specs.declared.Taken.{Taken}
use Rattle.tape_feed.specs.declared.Damage.{Damage}
use Rattle.tape_feed.specs.Feeding.{next, damage_of}
use Rattle.verdict.specs.Saying.{says, finds}
use Rattle.verdict.specs.declared.Verdict.TheVariants.{Unreadable}
use Rattle.verdict.specs.declared.Ruling.{Ruling}
use Rattle.judge_stages.specs.Stages.{said_at}
use Rattle.judge_follow.specs.declared.Judgement.{Judgement}
use Rattle.judge_follow.specs.Following.{led}
use Rattle.judge.specs.declared.UnderWay.{UnderWay}
use Rattle.judge.specs.Feeding.{fed_by, fed, closed_by, closed}

module _ (u : UnderWay) (p : List ℕ) (t : Taken) (e : t ≡ next u.reader p) where
  pub fed_on : (kind : ℕ) (q : List ℕ) (j : Judgement) → kind ≡ kind_in p → q ≡ payload_in p
      → j ≡ led t.good u.dialogue u.reader.blocks kind q → ◌≡◌ {A = UnderWay} (record { reader = t.reader; dialogue = j })
      (fed u p)
  unfolding fed fed_by
  fed_on kind q j ek eq ej =
      (λ i. record { reader = t.reader; dialogue = (ej ∙ (λ k. led t.good u.dialogue u.reader.blocks (ek k) (eq k))) i })
      ∙ ap (fed_by u p) e

module _ (u : UnderWay) (d : Damage) (e : d ≡ damage_of u.reader) where
  pub closed_damaged : (d.code ≡ 0 → ⊥) → finds (says Unreadable d.place d.code) 0 ≡ closed u
  unfolding closed closed_by
  closed_damaged n = sym (pick_no _ _ _ (ne_eqb d.code 0 n)) ∙ ap (closed_by u) e

  pub closed_whole : d.code ≡ 0 → (a : Ruling) → a ≡ said_at u.dialogue.stage u.reader.blocks
      → finds a u.dialogue.zeros ≡ closed u
  unfolding closed closed_by
  closed_whole y a ea =
      ap (λ (x : Ruling). finds x u.dialogue.zeros) ea ∙ (sym (pick_yes _ _ _ (eq-eqb d.code 0 y)) ∙ ap (closed_by u) e)
