-- The rules ask what stands under a name, how often, and in A5 the same again; none asks where it stands among the others. So `turn_by`
-- is the same for what is seen in another order.
-- Assumes nothing.
use mathlib.Core.Path.{◌≡◌, refl, sym, ap, ap₂, ◌∙◌}
use mathlib.Core.Bool.{not, ◌||◌}
use mathlib.Core.List.{List, [], ◌∷◌, ◌++◌}
use mathlib.Core.Option.{none}
use Prim.Native.Nat.{ℕ}
use lib.Dec.{eqb}
use lib.ListN.{get_or}
use Rattle.slices.specs.Choice.{pick, first_of}
use Rattle.slices.specs.Tests.{is_some}
use Rattle.slices.proofs.Choice.{pick_yes, pick_no, pick_ap, either}
use Rattle.tlv_list.specs.Objects.{Object}
use Rattle.tlv_list.specs.Lookup.{Lookup, absent, once, twice, met, lookup}
use Rattle.dol_wanted.specs.Wanted.{fillable}
use Rattle.answer_common.specs.Content.{names_for}
use Rattle.answer_common.specs.Named.{listed, times, told, value_of, any_twice, any_missing, any_wrong}
use Rattle.answer_afl.specs.Entries.{to_read}
use Rattle.answer_select.specs.Select.{select_names, inner_names, name_wrong}
use Rattle.answer_record.specs.Records.{any_again}
use Rattle.decide_cryptogram.specs.Cryptograms.{given_by, allowed_by}
use Rattle.decide_cryptogram.specs.declared.Request.TheVariants.{First, Second}
use Rattle.facts.specs.Facts.{or_else}
use Rattle.rulebook.specs.Phase.{Asked, selecting, optioning, reading as reading_record, first, second, asks, decided}
use Rattle.rulebook.specs.Turn.{goes_on, read_on, with_profile, answered, by_first, by_second, turn}
use Rattle.card_seen.specs.Seen.{Shown, named_at, Seen, seen}
use Rattle.card_seen.specs.Given.{place_of}
use Rattle.card_seen.specs.Order.{Standing, nowhere, alone, repeated, before_others, standing, Rearranged}
use Rattle.card_seen.proofs.Looking.{back, under, members_under}
use Rattle.card_seen.proofs.Frames.{frame_by}
use Rattle.card_seen.proofs.Files.{inner_by}
use Rattle.card_seen.proofs.Selection.{pdol_by, select_by}
use Rattle.card_seen.proofs.Options.{profile_by, locator_by, lines_by, options_by}
use Rattle.card_seen.proofs.Records.{named_by, record_by}
use Rattle.card_seen.proofs.Cryptograms.{cryptogram_given, lines_by as cryptogram_lines, cryptogram_by}
use Rattle.card_seen.proofs.Turning.{with_told, turn_by, turn_seen}

unfoldable pub lookup_of : Standing → Lookup
lookup_of nowhere = absent
lookup_of (alone t) = once t.value
lookup_of repeated = twice

unfoldable pub members_of : Standing → List Object
members_of nowhere = []
members_of (alone t) = t.members
members_of repeated = []

met_standing : (t : Shown) (s : Standing) → met t.value (lookup_of s) ≡ lookup_of (before_others t s)
unfolding met lookup_of before_others
met_standing t nowhere = refl
met_standing t (alone u) = refl
met_standing t repeated = refl

pub under_standing : (name : ℕ) (ts : List Shown) → under ts name ≡ lookup_of (standing name ts)
unfolding under back lookup standing lookup_of
under_standing name [] = refl
under_standing name (t ∷ ts) =
    let rest = under_standing name ts in
    ap (λ (l : Lookup). pick (eqb t.tag name) (met t.value l) l) rest
    ∙ (ap (λ (l : Lookup). pick (eqb t.tag name) l (lookup_of (standing name ts))) (met_standing t (standing name ts))
    ∙ sym (pick_ap lookup_of (eqb t.tag name) (before_others t (standing name ts)) (standing name ts)))

only_members : (t : Shown) (s : Standing) → pick (eqb (times (lookup_of s)) 0) t.members [] ≡ members_of (before_others t s)
unfolding times lookup_of members_of before_others pick
only_members t nowhere = refl
only_members t (alone u) = refl
only_members t repeated = refl

pub members_standing : (name : ℕ) (ts : List Shown) → members_under name ts ≡ members_of (standing name ts)
unfolding members_under standing members_of
members_standing name [] = refl
members_standing name (t ∷ ts) =
    let rest = members_standing name ts in
    ap₂ (λ (l : Lookup) (ms : List Object). pick (eqb t.tag name) (pick (eqb (times l) 0) t.members []) ms)
    (under_standing name ts) rest
    ∙ (ap (λ (ms : List Object). pick (eqb t.tag name) ms (members_of (standing name ts))) (only_members t (standing name ts))
    ∙ sym (pick_ap members_of (eqb t.tag name) (before_others t (standing name ts)) (standing name ts)))

both_named : (t u : Shown) (s : Standing) → before_others t (before_others u s) ≡ before_others u (before_others t s)
unfolding before_others
both_named t u nowhere = refl
both_named t u (alone x) = refl
both_named t u repeated = refl

-- neighbours may change places, whether or not they have the same name
pub swapped : (name : ℕ) (t u : Shown) (ts : List Shown) → standing name (t ∷ u ∷ ts) ≡ standing name (u ∷ t ∷ ts)
unfolding standing
swapped name t u ts =
    let s = standing name ts in
    either (eqb t.tag name)
    (λ y. either (eqb u.tag name)
    (λ z.
    pick_yes _ _ _ y
    ∙ (ap (before_others t) (pick_yes _ _ _ z)
    ∙ (both_named t u s ∙ sym (pick_yes _ _ _ z ∙ ap (before_others u) (pick_yes _ _ _ y)))))
    (λ n. pick_yes _ _ _ y ∙ (ap (before_others t) (pick_no _ _ _ n) ∙ sym (pick_no _ _ _ n ∙ pick_yes _ _ _ y))))
    (λ k. pick_no _ _ _ k ∙ ap (λ (x : Standing). pick (eqb u.tag name) (before_others u x) x) (sym (pick_no _ _ _ k)))

module _ (v u : Seen) (f : frame_by v ≡ frame_by u) (l : under v.objects ≡ under u.objects)
    (m : members_under 0xA5 v.objects ≡ members_under 0xA5 u.objects) where
  by_looks : (w : Asked) → turn_by w v ≡ turn_by w u
  unfolding turn_by select_by pdol_by inner_by options_by profile_by locator_by record_by named_by with_told cryptogram_by cryptogram_given
  by_looks (selecting s) = λ i.
      goes_on
      (first_of (f i
      ++ ((any_twice select_names (l i) || any_twice inner_names (λ name. lookup name (m i)), 4)
      ∷ (any_wrong select_names (l i) || (any_wrong inner_names (λ name. lookup name (m i)) || name_wrong s.terminal.aid (l i 0x84)), 5)
      ∷ (any_missing select_names (l i), 8)
      ∷ (not (fillable (value_of (lookup 0x9F38 (m i)))), 9)
      ∷ [])))
      s (asks (optioning s (value_of (lookup 0x9F38 (m i)))))
  by_looks (optioning s list) = λ i.
      goes_on (first_of (f i ++ lines_by (l i))) s (read_on (with_profile s (value_of (l i 0x82))) (to_read (value_of (l i 0x94))))
  by_looks (reading_record s number file rest) = λ i.
      goes_on
      (first_of (f i
      ++ ((any_twice (names_for s.terminal) (l i) || any_again (λ tag. is_some (s.facts tag)) (names_for s.terminal) (l i), 4)
      ∷ (any_wrong (names_for s.terminal) (l i), 5)
      ∷ [])))
      s
      (read_on (record {
        terminal = s.terminal;
        profile = s.profile;
        facts = λ tag. or_else (s.facts tag) (pick (listed tag (names_for s.terminal)) (told (l i tag)) none);
        tvr = s.tvr;
        tsi = s.tsi;
      }) rest)
  by_looks (first s request) = λ i.
      goes_on (first_of (f i ++ cryptogram_lines (allowed_by (First request)) (l i))) s
      (by_first (given_by (get_or (value_of (l i 0x9F27)) 0 0)) (answered s))
  by_looks (second s request code) = λ i.
      goes_on (first_of (f i ++ cryptogram_lines (allowed_by (Second request)) (l i))) s
      (decided (by_second (given_by (get_or (value_of (l i 0x9F27)) 0 0))) s)

module _ (w : Asked) (a b : List ℕ) (same : Rearranged (place_of w) a b) where
  same_frame : frame_by (seen (place_of w) a) ≡ frame_by (seen (place_of w) b)
  unfolding frame_by seen
  same_frame = λ i.
      (same.size i, 1)
      ∷ (not (eqb (get_or (same.status i) 0 0) 0x90) || not (eqb (get_or (same.status i) 1 0) 0x00), 2)
      ∷ (same.form i, 3)
      ∷ []

  same_looks : under (seen (place_of w) a).objects ≡ under (seen (place_of w) b).objects
  unfolding seen
  same_looks = λ i name. (under_standing name (named_at (place_of w) a)
      ∙ (ap lookup_of (same.objects name) ∙ sym (under_standing name (named_at (place_of w) b)))) i

  same_members : members_under 0xA5 (seen (place_of w) a).objects ≡ members_under 0xA5 (seen (place_of w) b).objects
  unfolding seen
  same_members =
      members_standing 0xA5 (named_at (place_of w) a)
      ∙ (ap members_of (same.objects 0xA5) ∙ sym (members_standing 0xA5 (named_at (place_of w) b)))

  -- whatever the order
  pub in_any_order : turn w a ≡ turn w b
  in_any_order =
      turn_seen w a
      ∙ (by_looks (seen (place_of w) a) (seen (place_of w) b) same_frame same_looks same_members w ∙ sym (turn_seen w b))
