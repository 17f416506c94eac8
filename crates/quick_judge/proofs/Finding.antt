-- What is found of a tape by its damage: its place and code where there is one, else what its dialogue comes to.
-- Assumes nothing.
use mathlib.Core.Path.{◌≡◌, refl, sym, ap, ◌∙◌, subst}
use mathlib.Core.List.{List}
use Prim.Native.Nat.{ℕ}
use Rattle.tape_read.specs.Tapes.{Reading, entries, unreadable, read_tape}
use Rattle.tape_feed.specs.declared.Damage.{Damage}
use Rattle.quick_check.specs.Damages.{damage_said, damage_in}
use Rattle.rulebook.specs.Phase.{opens}
use Rattle.verdict.specs.Saying.{says, finds}
use Rattle.verdict.specs.declared.Verdict.TheVariants.{Unreadable}
use Rattle.verdict.specs.declared.Finding.{Finding}
use Rattle.verdict_judged.specs.Judged.{Judged, damaged as judged_damaged}
use Rattle.verdict_judged.specs.Zeroed.{Zeroed, damaged as zeroed_damaged}
use Rattle.quick_said.specs.Said.{found_from}
use Rattle.quick_said.proofs.Whole.{code_there, found_right}

-- the promise of a judge
abbrev pub Right : List ℕ → Finding → Type 0
Right t f = Judged t f.ruling × Zeroed t f.zeros

module _ (t : List ℕ) where
  read_whole : (r : Reading) → read_tape t ≡ r → (damage_said r).code ≡ 0 → Right t (found_from opens 0 0 t)
  unfolding damage_said
  read_whole (entries es) h z = found_right t es h
  read_whole (unreadable place code) h z = absurd (code_there t place code h z)

  read_damaged : (r : Reading) → read_tape t ≡ r → ((damage_said r).code ≡ 0 → ⊥)
      → Right t (finds (says Unreadable (damage_said r).place (damage_said r).code) 0)
  unfolding damage_said
  read_damaged (entries es) h n = absurd (n refl)
  read_damaged (unreadable place code) h n = (judged_damaged place code h refl, zeroed_damaged place code h refl)

  module _ (d : Damage) (e : d ≡ damage_in t) where
    pub right_whole : d.code ≡ 0 → Right t (found_from opens 0 0 t)
    unfolding damage_in
    right_whole z = read_whole (read_tape t) refl (sym (ap (λ (x : Damage). x.code) e) ∙ z)

    pub right_damaged : (d.code ≡ 0 → ⊥) → Right t (finds (says Unreadable d.place d.code) 0)
    unfolding damage_in
    right_damaged n =
        subst (λ (x : Damage). Right t (finds (says Unreadable x.place x.code) 0)) (sym e)
        (read_damaged (read_tape t) refl (λ z. n (ap (λ (x : Damage). x.code) e ∙ z)))
