-- A search asks what stands under a name, how often, and in A5 and in each entry the same again; it asks nowhere where that stands among
-- the others. So `heard_by` is the same for what is seen in another order.
-- Assumes nothing.
use mathlib.Core.Path.{◌≡◌, refl, sym, ap, ap₂, ◌∙◌}
use mathlib.Core.Bool.{Bool, not}
use mathlib.Core.List.{List, [], ◌∷◌, map}
use Prim.Native.Nat.{ℕ, ◌+◌, ◌*◌}
use lib.Dec.{eqb}
use lib.ListN.{get_or}
use Rattle.slices.specs.Choice.{pick}
use Rattle.slices.specs.Tests.{every}
use Rattle.numbers.specs.Tables.{for_size}
use Rattle.tlv_list.specs.Lookup.{once, lookup}
use Rattle.answer_common.specs.Named.{value_of}
use Rattle.select_answers.specs.Objects.{indicator_of}
use Rattle.select_answers.specs.Files.{environment_right, application_right}
use Rattle.select_answers.specs.Directory.{is_named, entry_right, entry_name, entry_indicator}
use Rattle.start_list.specs.Listing.{Applications}
use Rattle.select_search.specs.Search.{Search, over}
use Rattle.select_search.specs.declared.Step.{Step}
use Rattle.select_search.specs.declared.Step.TheVariants.{Environment, Directory, Listed, Final}
use Rattle.rulebook_choosing.specs.Choosing.{Choosing, following, searched}
use Rattle.card_seen.specs.Seen.{Shown, Seen, seen}
use Rattle.card_seen.specs.Order.{Standing, nowhere, alone, repeated}
use Rattle.card_seen.proofs.Looking.{under}
use Rattle.card_seen.proofs.Files.{inner_by}
use Rattle.card_seen.proofs.Order.{lookup_of, under_standing, members_of, members_standing}
use Rattle.card_choosing.specs.Places.{place_at}
use Rattle.card_choosing.specs.Order.{SameInside, StandsAlike, InAnyOrder, InOrder, ObjectsAlike, RearrangedAt}
use Rattle.card_choosing.proofs.Reading.{file_by, fci_by, name_by, indicator_by, list_by, in_entry, right_by, met_by}
use Rattle.card_choosing.proofs.Turning.{status_is, environment_lines, record_lines, listed_lines, final_lines, heard_step, heard_by}
use Rattle.card_choosing.proofs.Turning.{heard_seen}

-- ---- an FCI

same_lookup : (s r : Standing) → StandsAlike s r → lookup_of s ≡ lookup_of r
unfolding StandsAlike lookup_of
same_lookup nowhere nowhere h = refl
same_lookup nowhere (alone u) h = absurd h
same_lookup nowhere repeated h = absurd h
same_lookup (alone t) nowhere h = absurd h
same_lookup (alone t) (alone u) h = ap once h.value
same_lookup (alone t) repeated h = absurd h
same_lookup repeated nowhere h = absurd h
same_lookup repeated (alone u) h = absurd h
same_lookup repeated repeated h = refl

same_within : (s r : Standing) → StandsAlike s r → (name : ℕ) → lookup name (members_of s) ≡ lookup name (members_of r)
unfolding StandsAlike members_of
same_within nowhere nowhere h name = refl
same_within nowhere (alone u) h name = absurd h
same_within nowhere repeated h name = absurd h
same_within (alone t) nowhere h name = absurd h
same_within (alone t) (alone u) h name = h.members name
same_within (alone t) repeated h name = absurd h
same_within repeated nowhere h name = absurd h
same_within repeated (alone u) h name = absurd h
same_within repeated repeated h name = refl

module _ (ts us : List Shown) (h : InAnyOrder ts us) where
  same_under : under ts ≡ under us
  same_under = λ i name. (under_standing name ts ∙ (same_lookup _ _ (h name) ∙ sym (under_standing name us))) i

  same_inner : inner_by ts ≡ inner_by us
  unfolding inner_by
  same_inner = λ i name. (ap (lookup name) (members_standing 0xA5 ts)
      ∙ (same_within _ _ (h 0xA5) name ∙ sym (ap (lookup name) (members_standing 0xA5 us)))) i

-- ---- a directory record

same_entry : (t u : Shown) → SameInside t u → in_entry t ≡ in_entry u
same_entry t u same = λ i name. same.members name i

entries_right_lem : (ts us : List Shown) → InOrder ts us → map (λ t. entry_right (in_entry t)) ts ≡ map (λ t. entry_right (in_entry t)) us
unfolding InOrder
entries_right_lem [] [] h = refl
entries_right_lem [] (u ∷ us) h = absurd h
entries_right_lem (t ∷ ts) [] h = absurd h
entries_right_lem (t ∷ ts) (u ∷ us) h =
    ap₂ (λ (b : Bool) (bs : List Bool). b ∷ bs) (ap entry_right (same_entry t u h.0)) (entries_right_lem ts us h.1)

entries_met : (ts us : List Shown) → InOrder ts us → met_by ts ≡ met_by us
unfolding InOrder met_by
entries_met [] [] h = refl
entries_met [] (u ∷ us) h = absurd h
entries_met (t ∷ ts) [] h = absurd h
entries_met (t ∷ ts) (u ∷ us) h =
    let e = same_entry t u h.0 in
    let rest = entries_met ts us h.1 in
    λ i. pick (is_named (e i)) (record { name = entry_name (e i); indicator = entry_indicator (e i) } ∷ rest i) (rest i)

-- ---- the turn

module _ (t : Applications) (s : Search) (v u : Seen) (size : v.size_wrong ≡ u.size_wrong) (status : v.status ≡ u.status)
    (form : v.form_wrong ≡ u.form_wrong) where
  same_status : ◌≡◌ {A = ℕ → Bool} (λ k. status_is k v) (λ k. status_is k u)
  unfolding status_is
  same_status = λ i k. eqb (256 * get_or (status i) 0 0 + get_or (status i) 1 0) k

  same_step : (step : Step) → ObjectsAlike step v.objects u.objects → heard_step t s v step ≡ heard_step t s u step
  unfolding ObjectsAlike heard_step file_by fci_by name_by indicator_by list_by right_by
  same_step Environment h =
      let l = same_under v.objects u.objects h in
      let m = same_inner v.objects u.objects h in
      λ i. environment_lines s (same_status i) (pick (environment_right (l i) (m i)) (get_or (value_of (m i 0x88)) 0 0) 0)
  same_step (Directory file number) h =
      let right = entries_right_lem v.objects u.objects h in
      let met = entries_met v.objects u.objects h in
      λ i. record_lines t s file number (same_status i) (every (not (form i) ∷ every (right i) ∷ [])) (met i)
  same_step (Listed aid again) h =
      let l = same_under v.objects u.objects h in
      let m = same_inner v.objects u.objects h in
      λ i. listed_lines t s aid again (same_status i) (application_right (l i) (m i)) (value_of (l i 0x84)) (indicator_of (m i 0x87))
  same_step (Final place taken) h =
      let l = same_under v.objects u.objects h in
      let m = same_inner v.objects u.objects h in
      λ i. final_lines t s place taken (same_status i) (application_right (l i) (m i)) (value_of (l i 0x84)) (value_of (m i 0x9F38))

  same_heard : ObjectsAlike s.stand.step v.objects u.objects → heard_by t s v ≡ heard_by t s u
  unfolding heard_by
  same_heard h = λ i. pick (size i) (over for_size) (same_step s.stand.step h i)

pub in_any_order : (x : Choosing) (a b : List ℕ) → RearrangedAt x.search.stand.step a b → searched x a ≡ searched x b
unfolding searched seen
in_any_order x a b h =
    let t = x.applications in
    let s = x.search in
    let p = place_at s.stand.step in
    ap (following x)
    (heard_seen t s a
    ∙ (same_heard t s (seen p a) (seen p b) h.size h.status h.form h.objects ∙ sym (heard_seen t s b)))
