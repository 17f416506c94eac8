-- A directory without end: every record that is asked for is there and good. 02, R-12.
-- Assumes nothing.
use Rattle.std.specs.Prelude.{◌≡◌, true, false, List, [], ◌∷◌, ℕ}
use Rattle.start_list.specs.Listing.{Applications}
use Rattle.answer_common.specs.Answer.{size_bad}
use Rattle.select_answers.specs.Directory.{record_right}
use Rattle.select_search.specs.Search.{Found, has_status}
use Rattle.select_laws.specs.Repeated.{answered}

-- answers, one after the other
unfoldable pub through : Applications → List (List ℕ) → Found → Found
through t [] f = f
through t (a ∷ rest) f = through t rest (answered t a f)

pub record GoodRecord (a : List ℕ) : Type 0 where
  pub size : size_bad a ≡ false
  pub status : has_status 0x9000 a ≡ true
  pub right : record_right a ≡ true

abbrev pub AllGood : List (List ℕ) → Type 0
AllGood [] = Unit {0}
AllGood (a ∷ rest) = GoodRecord a × AllGood rest
