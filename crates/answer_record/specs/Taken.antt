-- A record gone through once, in the order of its objects: each that counts is tested and kept, and what is wrong is remembered. A wrong
-- value is kept as an empty one, so that a second one of its name is seen. What it comes to is said by `record_reason` of Records, and where
-- that is 0 by `with_record` of session_records: proofs/Taken.
-- Assumes nothing.
use Rattle.std.specs.Prelude.{Bool, List, [], ◌∷◌, ℕ, zero, suc, eqb, length}
use Rattle.slices.specs.Choice.{pick}
use Rattle.slices.specs.Tests.{is_some}
use Rattle.numbers.specs.Tables.{for_object, for_twice, for_content}
use Rattle.tlv_list.specs.Objects.{Object as Obj, between}
use Rattle.tlv_list.specs.Place.{checked_at, data_field}
use Rattle.tlv_head.specs.declared.Next.{Next}
use Rattle.tlv_head.specs.declared.Next.TheVariants.{Member, End, Broken}
use Rattle.answer_common.specs.Content.{record_tag, right_value}
use Rattle.answer_common.specs.Named.{listed}
use Rattle.answer_common.specs.Single.{single_of}
use Rattle.answer_common.specs.declared.answer.Single.{Single}
use Rattle.answer_common.specs.declared.answer.Single.TheVariants.{Refused, Object}
use Rattle.session_records.specs.Slots.{told_in, kept_in}

-- the reason so far, 0 where there is none, and the slots
pub record Taken : Type 0 where
  pub why : ℕ
  pub bytes : List ℕ

unfoldable pub taken : ℕ → List ℕ → Taken
taken r out = record { why = r; bytes = out }

-- reason 4 stands before reason 5
unfoldable pub worse : ℕ → Bool → Bool → ℕ
worse why again right = pick again for_twice (pick right why (pick (eqb why for_twice) for_twice for_content))

unfoldable pub one_taken : List ℕ → ℕ → List ℕ → Taken → Taken
one_taken names tag v k =
    pick (listed tag names)
    (taken (worse k.why (is_some (told_in k.bytes tag)) (right_value tag v)) (kept_in tag (pick (right_value tag v) v []) k.bytes))
    k

unfoldable pub objects_taken : List ℕ → List Obj → Taken → Taken
objects_taken names [] k = k
objects_taken names (m ∷ ms) k = objects_taken names ms (one_taken names m.tag m.value k)

-- by what the reader finds, each object looked into; bytes that turn out to be no list are reason 3
unfoldable pub taken_by : (ℕ → Taken → Taken) → List ℕ → List ℕ → Taken → Next → Taken
taken_by further names s k (Member tag start end) = further end (one_taken names tag (between s start end) k)
taken_by further names s k End = k
taken_by further names s k Broken = taken for_object k.bytes

-- at most n objects
unfoldable pub taken_walk : ℕ → List ℕ → List ℕ → ℕ → Taken → Taken
taken_walk zero names s at k = k
taken_walk (suc n) names s at k = taken_by (taken_walk n names s) names s k (checked_at s at)

-- all of them from a place on: there are never more than there are bytes
unfoldable pub taken_from : List ℕ → List ℕ → ℕ → Taken → Taken
taken_from names s at k = taken_walk (length s) names s at k

unfoldable pub taken_in : List ℕ → List ℕ → List ℕ → Single → Taken
taken_in names a d (Refused why) = taken why d
taken_in names a d (Object tag start end) =
    pick (eqb tag record_tag) (taken_from names (between (data_field a) start end) 0 (taken 0 d)) (taken for_object d)

unfoldable pub record_taken : List ℕ → List ℕ → List ℕ → Taken
record_taken names a d = taken_in names a d (single_of a)
