-- An empty 9F10 is as good as none: it does not stand there twice, it is not wrong, and nothing asks whether it is missing or what it is.
-- Assumes nothing.
use mathlib.Core.Path.{◌≡◌, refl, sym, ap, ap₂, ◌∙◌}
use mathlib.Core.Bool.{Bool, true, false, not, ◌||◌}
use mathlib.Core.List.{List, [], ◌∷◌}
use Prim.Native.Nat.{ℕ}
use native.Mathlib.Omega.{arith}
use lib.Dec.{eqb}
use lib.ListN.{get_or}
use Rattle.slices.specs.Choice.{pick, first_of}
use Rattle.slices.specs.Tables.{any_of, beside}
use Rattle.slices.specs.Tests.{every, between}
use Rattle.tlv_list.specs.Lookup.{Lookup, absent, once}
use Rattle.answer_common.specs.Content.{meets, rules, rule_for, right_value}
use Rattle.answer_common.specs.Named.{listed, times, value_of, wrong_value, any_times, any_twice, any_missing, any_wrong}
use Rattle.answer_cryptogram.specs.Cryptogram.{mandatory_names, cryptogram_names}
use Rattle.decide_cryptogram.specs.Cryptograms.{given_by, allowed_by}
use Rattle.decide_cryptogram.specs.Cryptograms.{Given}
use Rattle.decide_cryptogram.specs.declared.Request.TheVariants.{First, Second}
use Rattle.rulebook.specs.Phase.{Asked, selecting, optioning, reading as reading_record, first, second, decided}
use Rattle.rulebook.specs.Turn.{goes_on, answered, by_first, by_second, turn}
use Rattle.card_seen.specs.Seen.{selection, options, generation, named_at, Seen, seen}
use Rattle.card_seen.specs.Given.{place_of}
use Rattle.card_seen.specs.Order.{EmptyIssuerData}
use Rattle.card_seen.proofs.Looking.{under}
use Rattle.card_seen.proofs.Frames.{frame_by}
use Rattle.card_seen.proofs.Cryptograms.{cryptogram_given, lines_by, cryptogram_by}
use Rattle.card_seen.proofs.Turning.{turn_by, turn_seen}
use Rattle.card_seen.proofs.Order.{lookup_of, under_standing}

module _ (a b : List ℕ) (e : EmptyIssuerData a b) where
  abbrev v : Seen
  v = seen generation a

  abbrev u : Seen
  u = seen generation b

  same_under : (name : ℕ) → listed name mandatory_names ≡ true → under v.objects name ≡ under u.objects name
  unfolding seen
  same_under name l =
      under_standing name (named_at generation a)
      ∙ (ap lookup_of (e.others name l) ∙ sym (under_standing name (named_at generation b)))

  one_none : under v.objects 0x9F10 ≡ absent
  unfolding seen lookup_of
  one_none = under_standing 0x9F10 (named_at generation a) ∙ ap lookup_of e.none

  other_empty : under u.objects 0x9F10 ≡ once []
  unfolding seen lookup_of
  other_empty = under_standing 0x9F10 (named_at generation b) ∙ ap lookup_of e.empty

  same_information : under v.objects 0x9F27 ≡ under u.objects 0x9F27
  unfolding listed any_of pick
  same_information = same_under 0x9F27 refl

  -- a test of the four names that takes an empty 9F10 for none
  same_test : (f : Lookup → Lookup → Lookup → Lookup → Bool) → ((x y z : Lookup) → f x y z absent ≡ f x y z (once []))
      → f (under v.objects 0x9F27) (under v.objects 0x9F36) (under v.objects 0x9F26) (under v.objects 0x9F10)
      ≡ f (under u.objects 0x9F27) (under u.objects 0x9F36) (under u.objects 0x9F26) (under u.objects 0x9F10)
  unfolding listed any_of pick
  same_test f no-matter =
      ap₂ (λ (x y : Lookup). f x y (under v.objects 0x9F26) (under v.objects 0x9F10)) same_information (same_under 0x9F36 refl)
      ∙ (ap₂ (f (under u.objects 0x9F27) (under u.objects 0x9F36)) (same_under 0x9F26 refl) one_none
      ∙ (no-matter (under u.objects 0x9F27) (under u.objects 0x9F36) (under u.objects 0x9F26)
      ∙ ap (f (under u.objects 0x9F27) (under u.objects 0x9F36) (under u.objects 0x9F26)) (sym other_empty)))

  same_twice : any_twice cryptogram_names (under v.objects) ≡ any_twice cryptogram_names (under u.objects)
  unfolding any_times any_of times pick
  same_twice =
      same_test (λ x y z w. pick (eqb (times x) 2) true
      (pick (eqb (times y) 2) true (pick (eqb (times z) 2) true (pick (eqb (times w) 2) true false)))) (λ x y z. refl)

  same_wrong : any_wrong cryptogram_names (under v.objects) ≡ any_wrong cryptogram_names (under u.objects)
  unfolding any_wrong any_of wrong_value right_value rule_for rules beside meets between every pick
  same_wrong =
      same_test (λ x y z w. pick (wrong_value 0x9F27 x) true
      (pick (wrong_value 0x9F36 y) true (pick (wrong_value 0x9F26 z) true (pick (wrong_value 0x9F10 w) true false)))) (λ x y z. refl)

  same_missing : any_missing mandatory_names (under v.objects) ≡ any_missing mandatory_names (under u.objects)
  unfolding any_times any_of pick
  same_missing =
      same_test (λ x y z w. pick (eqb (times x) 0) true (pick (eqb (times y) 0) true (pick (eqb (times z) 0) true false)))
      (λ x y z. refl)

  same_reason : (allowed : Given → Bool) → cryptogram_by allowed v ≡ cryptogram_by allowed u
  unfolding cryptogram_by lines_by frame_by seen
  same_reason allowed = λ i. first_of
      ((e.size i, 1)
      ∷ (not (eqb (get_or (e.status i) 0 0) 0x90) || not (eqb (get_or (e.status i) 1 0) 0x00), 2)
      ∷ (e.form i, 3)
      ∷ (same_twice i, 4)
      ∷ (same_wrong i, 5)
      ∷ (same_missing i, 8)
      ∷ (not (allowed (given_by (get_or (value_of (same_information i)) 0 0))), 10)
      ∷ [])

  same_given : cryptogram_given v ≡ cryptogram_given u
  unfolding cryptogram_given
  same_given = ap (λ (l : Lookup). given_by (get_or (value_of l) 0 0)) same_information

impossible : {A : Type 0} → ◌≡◌ {A = ℕ} 0 1 → A
impossible e = absurd (omega arith)

pub as_none : (w : Asked) (a b : List ℕ) → place_of w ≡ generation → EmptyIssuerData a b → turn w a ≡ turn w b
unfolding place_of turn_by
as_none (selecting s) a b p e = impossible (let z : selection ≡ generation = p in cc)
as_none (optioning s list) a b p e = impossible (let z : options ≡ generation = p in cc)
as_none (reading_record s number file rest) a b p e = impossible cc
as_none (first s request) a b p e =
    turn_seen (first s request) a
    ∙ ((λ i. goes_on (same_reason a b e (allowed_by (First request)) i) s (by_first (same_given a b e i) (answered s)))
    ∙ sym (turn_seen (first s request) b))
as_none (second s request code) a b p e =
    turn_seen (second s request code) a
    ∙ ((λ i. goes_on (same_reason a b e (allowed_by (Second request)) i) s (decided (by_second (same_given a b e i)) s))
    ∙ sym (turn_seen (second s request code) b))
