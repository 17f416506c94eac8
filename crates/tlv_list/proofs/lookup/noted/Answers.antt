-- `lookup::noted` meets its contract: the definition's own cases.
-- Assumes nothing.
use mathlib.Core.Path.{◌≡◌, sym, ap, ◌∙◌}
use Prim.Native.Nat.{ℕ}
use lib.Dec.{eqb}
use borrow.Author.Tests.{eq-eqb, ne_eqb}
use Rattle.slices.proofs.Choice.{pick_yes, pick_no, pick_same}
use Rattle.tlv_list.specs.Lookup.{further, noted}
use Rattle.tlv_list.specs.declared.Found.{Found}
use Rattle.tlv_list.specs.declared.Found.TheVariants.{Absent, Once, Twice}
use Rattle.tlv_list.proofs.lookup.noted.Goals as goal

module _ (name tag start end : ℕ) (found f : Found) (g : found ≡ f) where
  -- an object with the tag, by what was found before it
  here : tag ≡ name → further start end f ≡ noted name tag start end found
  unfolding noted
  here e = sym (pick_yes _ _ _ (eq-eqb tag name e) ∙ ap (further start end) g)

  -- another object
  other : (tag ≡ name → ⊥) → f ≡ noted name tag start end found
  unfolding noted
  other e = sym (pick_no _ _ _ (ne_eqb tag name e) ∙ g)

-- what was found twice stays so
still : (name tag start end : ℕ) (found : Found) → found ≡ Twice → Twice ≡ noted name tag start end found
unfolding noted further
still name tag start end found g = sym (ap (noted name tag start end) g ∙ pick_same (eqb tag name) Twice)

pub returns-then-tag-name : goal.returns-then-tag-name
unfolding further
returns-then-tag-name c =
    let a = c.args in
    here a.name a.tag a.start a.end a.found Absent c.in-Absent.is c.if-tag-name.true

pub returns-else-tag-name : goal.returns-else-tag-name
returns-else-tag-name c =
    let a = c.args in
    other a.name a.tag a.start a.end a.found Absent c.in-Absent.is c.if-tag-name.false

pub returns-then-tag-name-2 : goal.returns-then-tag-name-2
unfolding further
returns-then-tag-name-2 c =
    let a = c.args in
    here a.name a.tag a.start a.end a.found (Once c.in-Once.a c.in-Once.e) c.in-Once.is c.if-tag-name-2.true

pub returns-else-tag-name-2 : goal.returns-else-tag-name-2
returns-else-tag-name-2 c =
    let a = c.args in
    other a.name a.tag a.start a.end a.found (Once c.in-Once.a c.in-Once.e) c.in-Once.is c.if-tag-name-2.false

pub returns-in-Twice : goal.returns-in-Twice
returns-in-Twice c =
    let a = c.args in
    still a.name a.tag a.start a.end a.found c.in-Twice.is
