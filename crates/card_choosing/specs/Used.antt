-- What a search goes on with of a good answer: of the environment's the directory's file; of a record the applications that it tells, in
-- the order of their entries; of an application's FCI its name and its priority indicator, and whether it is blocked; and at the final
-- SELECT the list 9F38. 001, 12.3 and 12.4; 02, R-13. That nothing else of a good answer matters is proved (`good_there` of Theorem).
-- Assumes nothing.
use Rattle.std.specs.Prelude.{◌≡◌, Bool, true, false, not, ◌&&◌, ◌||◌, List, ℕ, eqb}
use Rattle.answer_common.specs.Answer.{size_bad}
use Rattle.answer_select.specs.Select.{pdol_of}
use Rattle.select_answers.specs.Files.{directory_file, is_application, application_name, application_indicator}
use Rattle.select_answers.specs.Directory.{Met, record_right, applications_of}
use Rattle.select_search.specs.Search.{Search, has_status}
use Rattle.select_search.specs.Final.{selected}
use Rattle.select_search.specs.declared.Step.{Step}
use Rattle.select_search.specs.declared.Step.TheVariants.{Environment, Directory, Listed, Final}

-- whether an answer is good, by what was asked
unfoldable pub good_at : Search → Step → List ℕ → Bool
good_at s Environment a = has_status 0x9000 a && not (eqb (directory_file a) 0)
good_at s (Directory file number) a = has_status 0x9000 a && record_right a
good_at s (Listed aid again) a = (has_status 0x9000 a || has_status 0x6283 a) && is_application a
good_at s (Final place taken) a = selected s.list place a

pub record Good (s : Search) (a : List ℕ) : Type 0 where
  pub size : size_bad a ≡ false
  pub good : good_at s s.stand.step a ≡ true

pub data Used : Type 0 where
  file : ℕ → Used
  told : List Met → Used
  -- whether it is not blocked, its name and its priority indicator
  named : Bool → List ℕ → ℕ → Used
  list : List ℕ → Used

unfoldable pub used_at : Step → List ℕ → Used
used_at Environment a = file (directory_file a)
used_at (Directory f number) a = told (applications_of a)
used_at (Listed aid again) a = named (has_status 0x9000 a) (application_name a) (application_indicator a)
used_at (Final place taken) a = list (pdol_of a)
