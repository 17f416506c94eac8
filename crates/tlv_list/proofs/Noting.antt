-- Tags looked up in one pass over the places that the reader finds: what was noted in the end is what a search finds.
-- Assumes nothing.
use mathlib.Core.Path.{◌≡◌, refl, sym, ap, ◌∙◌}
use mathlib.Core.List.{List, [], ◌∷◌}
use Prim.Native.Nat.{ℕ, zero, suc, ◌+◌, ◌≤◌}
use native.Mathlib.Omega.{arith}
use lib.Dec.{eqb}
use lib.ListN.{length}
use Rattle.slices.proofs.Choice.{pick_yes, pick_no, either}
use Rattle.tlv_list.specs.Place.{Place, follow, walk, places_from, next_at}
use Rattle.tlv_list.specs.Lookup.{first_among, first_from, unless, alone, find_in_checked, further, noted, noted_all}
use Rattle.tlv_head.specs.declared.Next.{Next}
use Rattle.tlv_head.specs.declared.Next.TheVariants.{Member, End, Broken}
use Rattle.tlv_list.specs.declared.Found.{Found}
use Rattle.tlv_list.specs.declared.Found.TheVariants.{Absent, Once, Twice}
use Rattle.tlv_list.proofs.Reading.{next_ahead, next_end}
use Rattle.tlv_list.proofs.Walking.{enough, places_next}

module _ (tag : ℕ) where
  stays_twice : (ps : List Place) → noted_all tag ps Twice ≡ Twice
  unfolding noted_all noted further
  stays_twice [] = refl
  stays_twice (p ∷ ps) =
      either (eqb p.tag tag)
      (λ y. ap (noted_all tag ps) (pick_yes _ _ _ y) ∙ stays_twice ps)
      (λ n. ap (noted_all tag ps) (pick_no _ _ _ n) ∙ stays_twice ps)

  once_noted : (a e : ℕ) (ps : List Place) → noted_all tag ps (Once a e) ≡ unless a e (first_among tag ps)
  unfolding noted_all noted further first_among unless
  once_noted a e [] = refl
  once_noted a e (p ∷ ps) =
      either (eqb p.tag tag)
      (λ y. ap (noted_all tag ps) (pick_yes _ _ _ y) ∙ (stays_twice ps ∙ sym (ap (unless a e) (pick_yes _ _ _ y))))
      (λ n. ap (noted_all tag ps) (pick_no _ _ _ n) ∙ (once_noted a e ps ∙ sym (ap (unless a e) (pick_no _ _ _ n))))

  module _ (s : List ℕ) where
    again : ℕ → Found
    again end = first_from s end tag

    abbrev Same : ℕ → ℕ → Type 0
    Same n at = noted_all tag (walk n s at) Absent ≡ alone again (first_among tag (walk n s at))

    step : (n at : ℕ) (x : Next) → next_at s at ≡ x → length s ≤ at + suc n → ((end : ℕ) → length s ≤ end + n → Same n end)
        → noted_all tag (follow (walk n s) x) Absent ≡ alone again (first_among tag (follow (walk n s) x))
    unfolding noted_all noted further first_among follow alone again first_from places_from
    step n at (Member t start end) e h rest =
        let ahead = next_ahead s at t start end e in
        let all : walk n s end ≡ places_from s end = enough n (length s) s end (omega arith) (omega arith) in
        either (eqb t tag)
        (λ y.
        ap (noted_all tag (walk n s end)) (pick_yes _ _ _ y)
        ∙ (once_noted start end (walk n s end)
        ∙ (ap (λ (ps : List Place). unless start end (first_among tag ps)) all ∙ sym (ap (alone again) (pick_yes _ _ _ y)))))
        (λ k.
        ap (noted_all tag (walk n s end)) (pick_no _ _ _ k) ∙ (rest end (omega arith) ∙ sym (ap (alone again) (pick_no _ _ _ k))))
    step n at End e h rest = refl
    step n at Broken e h rest = refl

    by_walk : (n at : ℕ) → length s ≤ at + n → Same n at
    unfolding walk noted_all first_among alone
    by_walk zero at h = refl
    by_walk (suc n) at h = step n at (next_at s at) refl h (by_walk n)

    -- one pass finds what two searches find
    pub all_noted : noted_all tag (places_from s 0) Absent ≡ find_in_checked s tag
    unfolding find_in_checked first_from places_from again
    all_noted = by_walk (length s) 0 (omega arith)

    -- a place more
    pub noted_on : (at t start end : ℕ) (f : Found) → next_at s at ≡ Member t start end
        → noted_all tag (places_from s at) f ≡ noted_all tag (places_from s end) (noted tag t start end f)
    unfolding noted_all follow
    noted_on at t start end f e = ap (λ (ps : List Place). noted_all tag ps f) (places_next s at ∙ ap (follow (places_from s)) e)

    pub noted_end : (at : ℕ) (f : Found) → next_at s at ≡ End → noted_all tag (places_from s at) f ≡ f
    unfolding noted_all follow
    noted_end at f e = ap (λ (ps : List Place). noted_all tag ps f) (places_next s at ∙ ap (follow (places_from s)) e)

    pub noted_past : (at : ℕ) (f : Found) → length s ≤ at → noted_all tag (places_from s at) f ≡ f
    noted_past at f h = noted_end at f (next_end s at h)
