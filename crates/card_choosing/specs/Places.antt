-- The place of each answer by the rules with choosing the application (02, R-12 and R-13): that of the rules of 01, or by where the search
-- stands. The shopper's choice is a word, as the issuer's reply is.
-- Assumes nothing.
use Rattle.std.specs.Prelude.{◌≡◌, List, ℕ}
use Rattle.answer_common.specs.Answer.{outer_bad}
use Rattle.select_search.specs.declared.Step.{Step}
use Rattle.select_search.specs.declared.Step.TheVariants.{Environment, Directory, Listed, Final}
use Rattle.rulebook.specs.Situation.{Situation}
use Rattle.rulebook.specs.Later.{AskedLater, HeardLater}
use Rattle.choosing_zeros.specs.Zeros.{unsupplied_later}
use Rattle.rulebook_choosing.specs.Choosing.{Choosing}
use Rattle.rulebook_choosing.specs.Stated.{tvr_in, tsi_in}
use Rattle.card_seen.specs.Seen.{Place, environment, directory, application, expected_at}
use Rattle.card_seen.specs.Given as today
use Rattle.card_seen.specs.Under.{View}
use Rattle.card_seen.specs.SideBySide.{Alike}

-- by what a search asks. Whether it is from the list of AIDs or for good, SELECT of an application is answered with its FCI
unfoldable pub place_at : Step → Place
place_at Environment = environment
place_at (Directory file number) = directory
place_at (Listed aid again) = application
place_at (Final place taken) = application

unfoldable pub place_of : AskedLater Choosing → Place
place_of (AskedLater.was w) = today.place_of w
place_of (AskedLater.new x) = place_at x.search.stand.step

abbrev pub view : View (AskedLater Choosing) (HeardLater Choosing) Situation
view = record { place_of = place_of; tvr_of = tvr_in; tsi_of = tsi_in; unsupplied_in = unsupplied_later }

-- alike answers (02, R-13). While the application is chosen an answer that is not the one expected object leads on as well, and a record
-- that is no 70 leads elsewhere than an empty 70: so the one object is itself a named one, and stands in both answers or in neither
pub record AlikeInForm (p : Place) (a b : List ℕ) : Type 0 where
  pub alike : Alike p a b
  pub form : outer_bad (expected_at p) a ≡ outer_bad (expected_at p) b

abbrev pub AlikeTo : AskedLater Choosing → List ℕ → List ℕ → Type 0
AlikeTo (AskedLater.was w) = Alike (today.place_of w)
AlikeTo (AskedLater.new x) = AlikeInForm (place_of (AskedLater.new x))
