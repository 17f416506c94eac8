-- Answers to a search that show the same in another order: of an FCI the members of 6F and those of A5, of a directory record those of each
-- entry. 02, R-13, asks for the same order; that a search goes on alike without it is proved (`any_order_there` of Theorem). The entries
-- themselves stay in their order: by it equals are shown and selected (001, 12.4; 02, R-12), so records with two entries exchanged
-- can part.
-- Assumes nothing.
use Rattle.std.specs.Prelude.{◌≡◌, List, [], ◌∷◌, ℕ}
use Rattle.tlv_list.specs.Lookup.{lookup}
use Rattle.answer_common.specs.Answer.{size_bad, outer_bad}
use Rattle.select_search.specs.declared.Step.{Step}
use Rattle.select_search.specs.declared.Step.TheVariants.{Environment, Directory, Listed, Final}
use Rattle.card_seen.specs.Seen.{expected_at, Shown, named_at, status_of}
use Rattle.card_seen.specs.Order.{Standing, nowhere, alone, repeated, standing}
use Rattle.card_choosing.specs.Places.{place_at}

-- two objects with the same tag and value, in which under each name the same stands
pub record SameInside (t u : Shown) : Type 0 where
  pub tag : t.tag ≡ u.tag
  pub value : t.value ≡ u.value
  pub members : (name : ℕ) → lookup name t.members ≡ lookup name u.members

-- what stands under a name in two answers: none, one such object each, or more than one
unfoldable pub StandsAlike : Standing → Standing → Type 0
StandsAlike nowhere nowhere = Unit {0}
StandsAlike nowhere (alone u) = ⊥
StandsAlike nowhere repeated = ⊥
StandsAlike (alone t) nowhere = ⊥
StandsAlike (alone t) (alone u) = SameInside t u
StandsAlike (alone t) repeated = ⊥
StandsAlike repeated nowhere = ⊥
StandsAlike repeated (alone u) = ⊥
StandsAlike repeated repeated = Unit {0}

abbrev pub InAnyOrder : List Shown → List Shown → Type 0
InAnyOrder ts us = (name : ℕ) → StandsAlike (standing name ts) (standing name us)

-- one by one
unfoldable pub InOrder : List Shown → List Shown → Type 0
InOrder [] [] = Unit {0}
InOrder [] (u ∷ us) = ⊥
InOrder (t ∷ ts) [] = ⊥
InOrder (t ∷ ts) (u ∷ us) = SameInside t u × InOrder ts us

unfoldable pub ObjectsAlike : Step → List Shown → List Shown → Type 0
ObjectsAlike Environment ts us = InAnyOrder ts us
ObjectsAlike (Directory file number) ts us = InOrder ts us
ObjectsAlike (Listed aid again) ts us = InAnyOrder ts us
ObjectsAlike (Final place taken) ts us = InAnyOrder ts us

pub record RearrangedAt (step : Step) (a b : List ℕ) : Type 0 where
  pub size : size_bad a ≡ size_bad b
  pub status : status_of a ≡ status_of b
  pub form : outer_bad (expected_at (place_at step)) a ≡ outer_bad (expected_at (place_at step)) b
  pub objects : ObjectsAlike step (named_at (place_at step) a) (named_at (place_at step) b)
