-- `lookup::members` meets its contract. The loop's invariant: the rest from p on is a list exactly where the whole is, and what is noted of
-- each tag from there on, after what was noted already, is all.
-- Assumes nothing.
use mathlib.Core.Path.{◌≡◌, refl, sym, ap, ◌∙◌}
use mathlib.Core.Bool.{true}
use mathlib.Core.List.{List}
use Prim.Native.Nat.{ℕ, ◌≤◌}
use native.Mathlib.Omega.{arith}
use lib.Dec.{eqb}
use lib.ListN.{length, drop}
use Rattle.slices.proofs.Choice.{pick_yes, pick_no}
use Rattle.tlv_list.specs.Objects.{is_list, read_refusal}
use Rattle.tlv_list.specs.Place.{next_at, places_from}
use Rattle.tlv_list.specs.Lookup.{find_in_checked, noted, noted_all, no_members, members_of}
use Rattle.tlv_head.specs.declared.Next.TheVariants.{Member, End}
use Rattle.tlv_list.specs.declared.Found.{Found}
use Rattle.tlv_list.specs.declared.Members.{Members}
use Rattle.tlv_list.proofs.Reading.{next_end}
use Rattle.tlv_list.proofs.ListCheck.{check_end}
use Rattle.tlv_list.proofs.Refusals.{over, no_list, read}
use Rattle.tlv_list.proofs.Checked.{on_end, on_broken, on_member, checked_ahead}
use Rattle.tlv_list.proofs.Noting.{all_noted, noted_on, noted_end, noted_past}
use Rattle.tlv_list.proofs.lookup.members.Invariants.{Noted}
use Rattle.tlv_list.proofs.lookup.members.Goals as goal

module _ (s : List ℕ) (p : ℕ) where
  ends : (tag : ℕ) (f : Found) → next_at s p ≡ End → Noted s p tag f → Noted s (length s) tag f
  ends tag f e i = noted_past tag s (length s) f (omega arith) ∙ (sym (noted_end tag s p f e) ∙ i)

  goes : (tag t start end : ℕ) (f r : Found) → next_at s p ≡ Member t start end → r ≡ noted tag t start end f → Noted s p tag f
      → Noted s end tag r
  goes tag t start end f r e g i =
      ap (noted_all tag (places_from s end)) g ∙ (sym (noted_on tag s p t start end f e) ∙ i)

  through : (tag : ℕ) (f : Found) → length s ≤ p → Noted s p tag f → f ≡ find_in_checked s tag
  through tag f h i = sym (noted_past tag s p f h) ∙ i

  all_list : length s ≤ p → is_list (drop p s) ≡ is_list s → is_list s ≡ true
  all_list h i = sym i ∙ check_end s p (next_end s p h)

module _ (s : List ℕ) (a b c d : ℕ) where
  none : (r : Members) → r ≡ no_members → read_refusal s ≡ 9 → r ≡ members_of s a b c d
  unfolding members_of
  none r e f = e ∙ sym (pick_no _ _ _ (ap (λ (n : ℕ). eqb n 0) f))

  found : (x y z w : Found) → length s ≤ 4096 → is_list s ≡ true → x ≡ find_in_checked s a → y ≡ find_in_checked s b
      → z ≡ find_in_checked s c → w ≡ find_in_checked s d
      → record { list = true; first = x; second = y; third = z; fourth = w } ≡ members_of s a b c d
  unfolding members_of
  found x y z w h l e f g k =
      (λ i. record { list = true; first = e i; second = f i; third = g i; fourth = k i })
      ∙ sym (pick_yes _ _ _ (ap (λ (n : ℕ). eqb n 0) (read s h l)))

pub returns-then-s-gt4096 : goal.returns-then-s-gt4096
returns-then-s-gt4096 c =
    let a = c.args in
    none a.s.now a.a a.b a.c a.d _ c.no_members.ensures (over a.s.now c.if-s-gt4096.true)

pub loop-p-init : goal.loop-p-init
loop-p-init c =
    let a = c.args in
    let s = a.s.now in
    record {
      list = refl;
      one = all_noted a.a s;
      two = all_noted a.b s;
      three = all_noted a.c s;
      four = all_noted a.d s;
    }

pub loop-p-preserved-in-End : goal.loop-p-preserved-in-End
loop-p-preserved-in-End c =
    let l = c.loop-p in
    let a = c.args in
    let s = a.s.now in
    let i = l.invariant in
    let k = on_end s l.p c.if-s-gt4096.false (sym c.next_checked.ensures ∙ c.in-End.is) in
    record {
      list = check_end s (length s) (next_end s (length s) (omega arith)) ∙ (sym k.1 ∙ i.list);
      one = ends s l.p a.a l.first k.0 i.one;
      two = ends s l.p a.b l.second k.0 i.two;
      three = ends s l.p a.c l.third k.0 i.three;
      four = ends s l.p a.d l.fourth k.0 i.four;
    }

pub returns-in-Broken : goal.returns-in-Broken
returns-in-Broken c =
    let l = c.loop-p in
    let a = c.args in
    let s = a.s.now in
    none s a.a a.b a.c a.d _ c.no_members-in-Broken.ensures
    (no_list s
    (sym l.invariant.list
    ∙ on_broken s l.p c.if-s-gt4096.false (sym c.next_checked.ensures ∙ c.in-Broken.is)))

pub loop-p-smaller : goal.loop-p-smaller
loop-p-smaller c =
    let l = c.loop-p in
    let s = c.args.s.now in
    let ahead = checked_ahead s l.p c.in-Member.tag c.in-Member.start c.in-Member.end (sym c.next_checked.ensures ∙ c.in-Member.is) in
    omega arith

pub loop-p-preserved : goal.loop-p-preserved
loop-p-preserved c =
    let l = c.loop-p in
    let a = c.args in
    let s = a.s.now in
    let i = l.invariant in
    let m = on_member s l.p c.if-s-gt4096.false c.in-Member.tag c.in-Member.start c.in-Member.end
    (sym c.next_checked.ensures ∙ c.in-Member.is) in
    record {
      list = sym m.1 ∙ i.list;
      one = goes s l.p a.a c.in-Member.tag c.in-Member.start c.in-Member.end l.first _ m.0 c.noted-first.ensures i.one;
      two = goes s l.p a.b c.in-Member.tag c.in-Member.start c.in-Member.end l.second _ m.0 c.noted-second.ensures i.two;
      three = goes s l.p a.c c.in-Member.tag c.in-Member.start c.in-Member.end l.third _ m.0 c.noted-third.ensures i.three;
      four = goes s l.p a.d c.in-Member.tag c.in-Member.start c.in-Member.end l.fourth _ m.0 c.noted-fourth.ensures i.four;
    }

pub returns : goal.returns
returns c =
    let l = c.loop-p in
    let a = c.args in
    let s = a.s.now in
    let i = l.invariant in
    let h = c.loop-p-test.false in
    found s a.a a.b a.c a.d l.first l.second l.third l.fourth c.if-s-gt4096.false (all_list s l.p h i.list)
    (through s l.p a.a l.first h i.one)
    (through s l.p a.b l.second h i.two)
    (through s l.p a.c l.third h i.three)
    (through s l.p a.d l.fourth h i.four)
