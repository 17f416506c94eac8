-- The list of objects, one step at a time. `listed` asks only of shorter lists, so `objects` is what it describes; each
-- case of that step is a law of its own.
-- Assumes nothing.
use mathlib.Core.Path.{◌≡◌, refl, ap, ◌∙◌}
use mathlib.Core.Bool.{Bool, true, false, ◌&&◌}
use mathlib.Core.List.{List, [], ◌∷◌}
use mathlib.Core.Option.{Option, none, some}
use Prim.Native.Nat.{ℕ, ◌-◌, ◌≤◌, ◌<◌}
use native.Mathlib.Omega.{arith}
use lib.Dec.{eqb}
use lib.ListN.{length, get_or, drop, length-take, length-drop}
use borrow.Author.Tests.{eqb-false, ne_eqb}
use Rattle.slices.specs.Choice.{pick}
use Rattle.slices.specs.Shorter.{Asks}
use Rattle.slices.proofs.Choice.{pick_yes, pick_no, pick_cong, and_left, and_cong}
use Rattle.slices.proofs.Shorter.{equation}
use Rattle.tlv_head.specs.Head.{constructed, tag_of, value_start, value_end, whole}
use Rattle.slices.specs.Tests.{is_some}
use Rattle.tlv_list.specs.Objects.{Object, between, first_object, before, right_inside, listed, objects}
use Rattle.tlv_head.proofs.Parts.{whole_within}

between_length : (s : List ℕ) (a e : ℕ) → length (between s a e) ≤ e - a
unfolding between
between_length s a e = rw length-take (omega arith)

tail_shorter : (s : List ℕ) → eqb (length s) 0 ≡ false → length (drop 1 s) < length s
tail_shorter s e =
    let some_bytes : length s ≡ 0 → ⊥ = eqb-false _ _ e in
    rw length-drop (omega arith)

nonempty : (s : List ℕ) → 0 < length s → eqb (length s) 0 ≡ false
nonempty s h = ne_eqb (length s) 0 (λ (e : length s ≡ 0). omega arith)

module _ (f g : List ℕ → Option (List Object)) (s : List ℕ) (same : (t : List ℕ) → length t < length s → f t ≡ g t) where
  same_inside : whole s ≡ true → right_inside f (first_object s) ≡ right_inside g (first_object s)
  unfolding right_inside first_object
  same_inside w =
      let within = whole_within s w in
      let small = between_length s (value_start s) (value_end s) in
      ap (λ (o : Option (List Object)). pick (constructed (tag_of s)) (is_some o) true)
      (same (between s (value_start s) (value_end s)) (omega arith))

  same_rest : whole s ≡ true → f (drop (value_end s) s) ≡ g (drop (value_end s) s)
  same_rest w =
      let within = whole_within s w in
      same (drop (value_end s) s) (rw length-drop (omega arith))

  same_step : listed f s ≡ listed g s
  unfolding listed
  same_step =
      pick_cong _ _ _ _ _ (λ e. refl) (λ n.
      pick_cong _ _ _ _ _ (λ e. same (drop 1 s) (tail_shorter s n)) (λ e.
      ap (λ (t : Bool). pick t (before (first_object s) (f (drop (value_end s) s))) none) (and_cong (whole s) _ _ same_inside)
      ∙ pick_cong _ _ _ _ _ (λ t. ap (before (first_object s)) (same_rest (and_left _ _ t))) (λ t. refl)))

asks : Asks listed
asks f g s same = same_step f g s same

objects_step : (s : List ℕ) → objects s ≡ listed objects s
unfolding objects
objects_step s = equation listed none asks s

pub objects_empty : objects [] ≡ some []
unfolding listed
objects_empty = objects_step [] ∙ pick_yes _ _ _ refl

pub objects_filler : (s : List ℕ) → objects (0 ∷ s) ≡ objects s
unfolding listed
objects_filler s = objects_step (0 ∷ s) ∙ (pick_no _ _ _ (nonempty (0 ∷ s) (omega arith)) ∙ pick_yes _ _ _ refl)

-- where an object is due, and stands there or does not
module _ (s : List ℕ) (due : eqb (get_or s 0 0) 0 ≡ false) (some_bytes : 0 < length s) where
  due_step : objects s ≡ pick (whole s && right_inside objects (first_object s))
      (before (first_object s) (objects (drop (value_end s) s))) none
  unfolding listed
  due_step = objects_step s ∙ (pick_no _ _ _ (nonempty s some_bytes) ∙ pick_no _ _ _ due)

  pub objects_member : whole s ≡ true
      → objects s ≡ pick (right_inside objects (first_object s)) (before (first_object s) (objects (drop (value_end s) s))) none
  objects_member w =
      due_step ∙ ap
      (λ (t : Bool). pick (t && right_inside objects (first_object s)) (before (first_object s) (objects (drop (value_end s) s))) none) w

  pub objects_broken : whole s ≡ false → objects s ≡ none
  objects_broken w = due_step ∙ pick_no _ _ _ (rw w)
