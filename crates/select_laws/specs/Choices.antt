-- How many choices of the shopper's can still come in a selection, so that 02's longest session can be counted to the entry. Whoever is taken
-- and falls out leaves one application less and one exchange less; and before that, every exchange that brings applications into the list
-- is itself one less. 02, R-12.
-- Assumes nothing.
use Rattle.std.specs.Prelude.{List, ℕ, ◌+◌, ◌*◌, ◌-◌, ◌/◌, ltb, length}
use Rattle.slices.specs.Choice.{pick}
use Rattle.select_list.specs.Order.{Candidate, without}
use Rattle.select_search.specs.Search.{Search, Found, asks, shows, runs, over, most_exchanges}
use Rattle.select_search.specs.declared.Step.{Step}
use Rattle.select_search.specs.declared.Step.TheVariants.{Environment, Directory, Listed, Final}

unfoldable pub lesser : ℕ → ℕ → ℕ
lesser a b = pick (ltb a b) a b

-- the most applications in a record of the directory: an entry has nine bytes or more (001, Table 12), and 70 has room for 254
abbrev pub most_in_record : ℕ
most_in_record = 28

-- after k more records, each with as many as it can have, c + 28 k stand in the list and r - k exchanges are left: the lesser of the two is
-- never more than this, whatever k is
abbrev pub evened : ℕ → ℕ → ℕ
evened c r = (c + most_in_record * r) / (most_in_record + 1)

-- where an exchange is due, the e-th, with a list and a step
unfoldable pub choices_at : ℕ → List Candidate → Step → ℕ
choices_at e l Environment = evened (length l + 1) (most_exchanges - (e + 1))
choices_at e l (Directory file number) = evened (length l) (most_exchanges - e)
choices_at e l (Listed aid again) = evened (length l + 1) (most_exchanges - e)
choices_at e l (Final place taken) = lesser (length (without place l)) (most_exchanges - e)

-- where a choice is due, behind so many exchanges: this one, and those that can follow when the application falls out
unfoldable pub choices_shown : Search → ℕ
choices_shown s = 1 + lesser (length s.list - 1) (most_exchanges - (s.stand.exchanges + 1))

unfoldable pub choices_asked : Search → ℕ
choices_asked s = choices_at s.stand.exchanges s.list s.stand.step

unfoldable pub choices_in : Found → ℕ
choices_in (asks s) = choices_asked s
choices_in (shows s) = choices_shown s
choices_in (runs list) = 0
choices_in (over reason) = 0
