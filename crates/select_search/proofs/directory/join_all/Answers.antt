-- `directory::join_all` meets its contract. The loop's invariant: the members from p on, after those that have joined, are all.
-- Assumes nothing.
use mathlib.Core.Path.{◌≡◌, refl, sym, ap, ◌∙◌}
use mathlib.Core.List.{List, map}
use Prim.Native.Nat.{ℕ}
use native.Mathlib.Omega.{arith}
use Rattle.start_list.specs.Listing.{Applications, applications_in}
use Rattle.tlv_list.specs.Objects.{between}
use Rattle.tlv_list.specs.Place.{next_at, places_from, follow, object_at}
use Rattle.tlv_head.specs.declared.Next.{Next}
use Rattle.tlv_head.specs.declared.Next.TheVariants.{Member, End, Broken}
use Rattle.tlv_list.proofs.Reading.{next_ahead}
use Rattle.tlv_list.proofs.Walking.{places_next}
use Rattle.select_list.specs.Order.{Candidate}
use Rattle.select_list.specs.Kept.{list_in}
use Rattle.select_search.specs.Entries.{member_joined, members_joined}
use Rattle.select_search.proofs.directory.join_all.Invariants.{from}
use Rattle.select_search.proofs.directory.join_all.Goals as goal

module _ (t : Applications) (s : List ℕ) (p : ℕ) (l : List Candidate) where
  found : (n : Next) → next_at s p ≡ n → from t s p l ≡ members_joined t (map (object_at s) (follow (places_from s) n)) l
  found n e = ap (λ ms. members_joined t (map (object_at s) ms) l) (places_next s p ∙ ap (follow (places_from s)) e)

  none_left : (n : Next) → next_at s p ≡ n → ((t start end : ℕ) → n ≡ Member t start end → ⊥) → l ≡ from t s p l
  unfolding members_joined follow
  none_left (Member t start end) e h = absurd (h t start end refl)
  none_left End e h = sym (found End e)
  none_left Broken e h = sym (found Broken e)

  one_more_lem : (tag start end : ℕ) → next_at s p ≡ Member tag start end
      → from t s p l ≡ from t s end (member_joined t tag (between s start end) l)
  unfolding members_joined follow object_at
  one_more_lem tag start end e = found (Member tag start end) e

  -- a turn of the loop
  on : (tag start end : ℕ) → next_at s p ≡ Member tag start end → (v : List ℕ) → v ≡ between s start end → (l' : List Candidate)
      → l' ≡ member_joined t tag v l → (all : List Candidate) → from t s p l ≡ all → from t s end l' ≡ all
  on tag start end e v f l' g all h =
      ap (from t s end) (g ∙ ap (λ (x : List ℕ). member_joined t tag x l) f) ∙ (sym (one_more_lem tag start end e) ∙ h)

pub loop-tag-smaller : goal.loop-tag-smaller
loop-tag-smaller c =
    let ahead = next_ahead c.args.s.now c.loop-tag.p _ _ _ (sym c.next.ensures ∙ c.in-Member.is) in
    omega arith

pub loop-tag-preserved : goal.loop-tag-preserved
loop-tag-preserved c =
    let b = c.args in
    let l = c.loop-tag in
    let v = c.value in
    on (applications_in b.start.now) b.s.now l.p (list_in l.list) _ _ _ (sym c.next.ensures ∙ c.in-Member.is) v.result.now
    v.ensures (list_in c.join_member.new.list) c.join_member.ensures _ l.invariant

pub returns : goal.returns
returns c =
    none_left (applications_in c.args.start.now) c.args.s.now c.loop-tag.p (list_in c.loop-tag.list) _ (sym c.next.ensures)
    c.in_default.not-Member
    ∙ c.loop-tag.invariant
