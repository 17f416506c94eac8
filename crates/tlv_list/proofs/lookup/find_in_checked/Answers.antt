-- `lookup::find_in_checked` meets its contract: the definition's own cases, each search by `first_from`.
-- Assumes nothing.
use mathlib.Core.Path.{◌≡◌, sym, ap, ◌∙◌}
use mathlib.Core.List.{List}
use mathlib.Core.Logic.{inl, inr}
use Prim.Native.Nat.{ℕ}
use Rattle.tlv_list.specs.Lookup.{first_from, unless, alone, find_in_checked}
use Rattle.tlv_list.specs.declared.Found.{Found}
use Rattle.tlv_list.specs.declared.Found.TheVariants.{Absent, Once, Twice}
use Rattle.tlv_list.proofs.lookup.find_in_checked.Goals as goal

module _ (s : List ℕ) (tag : ℕ) where
  by_first : (f : Found) → first_from s 0 tag ≡ f → find_in_checked s tag ≡ alone (λ end. first_from s end tag) f
  unfolding find_in_checked
  by_first f e = ap (alone (λ end. first_from s end tag)) e

  no_first : first_from s 0 tag ≡ Absent → Absent ≡ find_in_checked s tag
  unfolding alone
  no_first e = sym (by_first Absent e)

  first_twice : first_from s 0 tag ≡ Twice → Twice ≡ find_in_checked s tag
  unfolding alone
  first_twice e = sym (by_first Twice e)

  by_second_lem : (a e : ℕ) (f : Found) → first_from s 0 tag ≡ Once a e → first_from s e tag ≡ f → unless a e f ≡ find_in_checked s tag
  unfolding alone
  by_second_lem a e f g h = sym (by_first (Once a e) g ∙ ap (unless a e) h)

pub returns-in-Absent : goal.returns-in-Absent
returns-in-Absent c =
    let a = c.args in
    no_first a.s.now a.tag (sym c.first_from.ensures ∙ c.in-Absent.is)

pub returns-in-Twice : goal.returns-in-Twice
returns-in-Twice c =
    let a = c.args in
    first_twice a.s.now a.tag (sym c.first_from.ensures ∙ c.in-Twice.is)

pub returns-in-Absent-first_from : goal.returns-in-Absent-first_from
unfolding unless
returns-in-Absent-first_from c =
    let a = c.args in
    by_second_lem a.s.now a.tag c.in-Once.start c.in-Once.end Absent
    (sym c.first_from.ensures ∙ c.in-Once.is)
    (sym c.first_from-in-Once.ensures ∙ c.in-Absent-first_from.is)

pub returns-in-Once-first_from : goal.returns-in-Once-first_from
unfolding unless
returns-in-Once-first_from c =
    let second = by_second_lem c.args.s.now c.args.tag c.in-Once.start c.in-Once.end in
    let first = sym c.first_from.ensures ∙ c.in-Once.is in
    let e = sym c.first_from-in-Once.ensures in
    elim c.in-Once-first_from.is [
      | inl w ↦ second (Once w.0 w.1) first (e ∙ w.2)
      | inr w ↦ second Twice first (e ∙ w)
    ]
