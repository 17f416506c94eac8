-- One answer further: by the command that it answers. 02, R-12.
-- Assumes nothing.
use Rattle.std.specs.Prelude.{List, ℕ}
use Rattle.slices.specs.Choice.{pick}
use Rattle.numbers.specs.Tables.{for_size}
use Rattle.start_list.specs.Listing.{Applications}
use Rattle.answer_common.specs.Answer.{size_bad}
use Rattle.select_search.specs.Search.{Search, Found, over}
use Rattle.select_search.specs.Directory.{after_environment, after_record}
use Rattle.select_search.specs.Listing.{after_listed}
use Rattle.select_search.specs.Final.{after_final}
use Rattle.select_search.specs.declared.Step.{Step}
use Rattle.select_search.specs.declared.Step.TheVariants.{Environment, Directory, Listed, Final}

unfoldable pub heard_at : Applications → Search → List ℕ → Step → Found
heard_at t s a Environment = after_environment s a
heard_at t s a (Directory file number) = after_record t s file number a
heard_at t s a (Listed aid again) = after_listed t s aid again a
heard_at t s a (Final place taken) = after_final t s place taken a

-- an answer of a bad size ends the session before anything is looked at (01, reason 1)
unfoldable pub heard : Applications → Search → List ℕ → Found
heard t s a = pick (size_bad a) (over for_size) (heard_at t s a s.stand.step)
