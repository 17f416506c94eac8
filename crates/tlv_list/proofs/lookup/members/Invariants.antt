-- `lookup::members` meets its contract. The loop's invariant: the rest from p on is a list exactly where the whole is, and what is noted of
-- each tag from there on, after what was noted already, is all.
-- Assumes nothing.
use mathlib.Core.Path.{◌≡◌}
use mathlib.Core.List.{List}
use Prim.Native.Nat.{ℕ, ◌-◌}
use lib.ListN.{length, drop}
use Rattle.tlv_list.specs.Objects.{is_list}
use Rattle.tlv_list.specs.Place.{places_from}
use Rattle.tlv_list.specs.Lookup.{find_in_checked, noted_all}
use Rattle.tlv_list.specs.declared.Found.{Found}
use Rattle.tlv_list.proofs.lookup.members.Given as goal

-- a tag so far
abbrev pub Noted : List ℕ → ℕ → ℕ → Found → Type 0
Noted s p tag f = noted_all tag (places_from s p) f ≡ find_in_checked s tag

pub record Going (s : List ℕ) (p a b c d : ℕ) (first second third fourth : Found) : Type 0 where
  pub list : is_list (drop p s) ≡ is_list s
  pub one : Noted s p a first
  pub two : Noted s p b second
  pub three : Noted s p c third
  pub four : Noted s p d fourth

abbrev pub invariant-loop-p : goal.invariant-loop-p
invariant-loop-p l = Going l.s l.p l.a l.b l.c l.d l.first l.second l.third l.fourth

abbrev pub decreases-loop-p : goal.decreases-loop-p
decreases-loop-p l = length l.s - l.p
