-- An answer's one object by place, found once and not looked into: what is in a constructed one is checked where its members are gone
-- through. proofs/Single says what reasons 1 to 3 of `frame` come to by it.
-- Assumes nothing.
use Rattle.std.specs.Prelude.{List, [], ℕ}
use Rattle.slices.specs.Choice.{pick}
use Rattle.numbers.specs.Tables.{for_size, for_status, for_object}
use Rattle.tlv_list.specs.Objects.{between}
use Rattle.tlv_list.specs.Place.{next_at, data_field}
use Rattle.tlv_head.specs.declared.Next.{Next}
use Rattle.tlv_head.specs.declared.Next.TheVariants.{Member, End, Broken}
use Rattle.answer_common.specs.Answer.{size_bad, status_bad}
use Rattle.answer_common.specs.declared.answer.Single.{Single}
use Rattle.answer_common.specs.declared.answer.Single.TheVariants.{Refused, Object}

-- an object, where none follows it
unfoldable pub last_one : Single → Next → Single
last_one o (Member tag start end) = Refused for_object
last_one o End = o
last_one o Broken = Refused for_object

unfoldable pub alone_by : (ℕ → Next) → Next → Single
alone_by after (Member tag start end) = last_one (Object tag start end) (after end)
alone_by after End = Refused for_object
alone_by after Broken = Refused for_object

-- the only object that the reader finds in some bytes
unfoldable pub alone_in : List ℕ → Single
alone_in s = alone_by (next_at s) (next_at s 0)

unfoldable pub single_of : List ℕ → Single
single_of a = pick (size_bad a) (Refused for_size) (pick (status_bad a) (Refused for_status) (alone_in (data_field a)))

-- what is read of that object, by its tag and its value. Of an answer that nothing speaks against this is what it tells: proofs/Good
unfoldable pub read_by : (ℕ → List ℕ → List ℕ) → List ℕ → Single → List ℕ
read_by f s (Refused why) = []
read_by f s (Object tag start end) = f tag (between s start end)
