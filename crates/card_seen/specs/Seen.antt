-- What is seen of a card's answer, by what was asked (02, R-13): whether its size is wrong, its two status bytes, whether its data is not
-- the one object that is expected, and the objects that are named there, in their order, each with its value. Not seen are objects that
-- are not named, '00' bytes, length forms, and how long an answer of a right size is. That a session depends on nothing else of an answer
-- is proved (`through` of Theorem). 01, "What the card must answer".
-- Assumes nothing.
use Rattle.std.specs.Prelude.{Bool, List, [], ◌∷◌, ◌++◌, map, ℕ, ◌-◌, eqb, length, get_or, take, drop}
use Rattle.slices.specs.Choice.{pick}
use Rattle.slices.specs.Tables.{beside}
use Rattle.tlv_list.specs.Objects.{Object}
use Rattle.tlv_list.specs.Lookup.{lookup}
use Rattle.answer_common.specs.Answer.{size_bad, outer_bad, is_one, inside}
use Rattle.answer_common.specs.Content.{record_tag}
use Rattle.answer_common.specs.Named.{members_in, listed, named, times}
use Rattle.answer_common.specs.Forms.{template, joined, both_forms}
use Rattle.answer_select.specs.Select.{select_tag, inner_names}
use Rattle.answer_gpo.specs.Options.{option_names}
use Rattle.answer_cryptogram.specs.Cryptogram.{cryptogram_names}

-- ---- what is named where

-- what counts of a named object: its value byte for byte, or only the objects that are named directly in it; or these, and of some others
-- whether they are there
pub data Counts : Type 0 where
  whole : Counts
  within : List ℕ → Counts
  noting : List ℕ → List ℕ → Counts

-- where an answer stands: after what was asked
pub data Place : Type 0 where
  -- SELECT
  selection : Place
  -- GPO
  options : Place
  -- READ RECORD, with the names that count for the terminal: 8E and 9F42 only where START has capabilities
  reading : List ℕ → Place
  -- GENERATE AC, the first and the second
  generation : Place
  -- while the application is chosen (02, R-12): SELECT of the payment system environment, READ RECORD of its directory, and SELECT of an
  -- application
  environment : Place
  directory : Place
  application : Place

abbrev pub wholly : List ℕ → List (ℕ × Counts)
wholly names = map (λ name. (name, whole)) names

-- directly in the environment's A5, in an application's, and in an entry of the directory, where of 9D it counts whether it is there.
-- 001, Tables 8, 10 and 12; 12.2.3
abbrev pub environment_names : List ℕ
environment_names = 0x88 ∷ []

abbrev pub application_names : List ℕ
application_names = 0x87 ∷ 0x9F38 ∷ []

abbrev pub entry_names : List ℕ
entry_names = 0x4F ∷ 0x87 ∷ []

abbrev pub entry_noted : List ℕ
entry_noted = 0x9D ∷ []

-- the names of each place, each with what counts of it. They are the rules' own lists: a tag that records name later is seen without a
-- line here
unfoldable pub names_at : Place → List (ℕ × Counts)
names_at selection = (0x84, whole) ∷ (0xA5, within inner_names) ∷ []
names_at options = wholly option_names
names_at (reading names) = wholly names
names_at generation = wholly cryptogram_names
names_at environment = (0x84, whole) ∷ (0xA5, within environment_names) ∷ []
names_at directory = (0x61, noting entry_names entry_noted) ∷ []
names_at application = (0x84, whole) ∷ (0xA5, within application_names) ∷ []

-- the tags that an answer's one object may have
unfoldable pub expected_at : Place → List ℕ
expected_at selection = select_tag ∷ []
expected_at options = both_forms
expected_at (reading names) = record_tag ∷ []
expected_at generation = both_forms
expected_at environment = select_tag ∷ []
expected_at directory = record_tag ∷ []
expected_at application = select_tag ∷ []

-- ---- the objects of an answer

abbrev pub object : ℕ → List ℕ → Object
object tag v = record { tag = tag; value = v }

-- joined values (80) are seen as the objects that they stand for, in the order in which they are joined. GPO: 82 is two bytes, 94 the rest
unfoldable pub apart_options : List ℕ → List Object
apart_options v = object 0x82 (take 2 v) ∷ object 0x94 (drop 2 v) ∷ []

-- an object, unless no byte is left for its value
unfoldable pub if_left : ℕ → List ℕ → List Object
if_left tag v = pick (eqb (length v) 0) [] (object tag v ∷ [])

-- GENERATE AC: 9F27 is one byte, 9F36 two, 9F26 eight, 9F10 the rest
unfoldable pub apart_cryptogram : List ℕ → List Object
apart_cryptogram v =
    object 0x9F27 (take 1 v)
    ∷ object 0x9F36 (take 2 (drop 1 v))
    ∷ object 0x9F26 (take 8 (drop 3 v))
    ∷ if_left 0x9F10 (drop 11 v)

-- of an answer in either form: joined, or a template
unfoldable pub in_forms : (List ℕ → List Object) → List ℕ → List Object
in_forms apart a = pick (is_one joined a) (apart (inside joined a)) (members_in (inside template a))

-- the objects that stand directly in an answer's one object
unfoldable pub objects_at : Place → List ℕ → List Object
objects_at selection a = members_in (inside select_tag a)
objects_at options a = in_forms apart_options a
objects_at (reading names) a = members_in (inside record_tag a)
objects_at generation a = in_forms apart_cryptogram a
objects_at environment a = members_in (inside select_tag a)
objects_at directory a = members_in (inside record_tag a)
objects_at application a = members_in (inside select_tag a)

-- ---- what is seen of them

-- a named object: its value where that counts byte for byte, else the objects that are named in it, in their order, and those noted
pub record Shown : Type 0 where
  pub tag : ℕ
  pub value : List ℕ
  pub members : List Object

-- those of some names that stand among objects, once each and without a value
unfoldable pub present : List ℕ → List Object → List Object
present [] ms = []
present (name ∷ names) ms = pick (eqb (times (lookup name ms)) 0) (present names ms) (object name [] ∷ present names ms)

-- what is noted of an object's members: the named ones in their order, then which of the others are there
unfoldable pub noted : List ℕ → List ℕ → List Object → List Object
noted names others ms = named names ms ++ present others ms

unfoldable pub shown_as : Counts → Object → Shown
shown_as whole m = record { tag = m.tag; value = m.value; members = [] }
shown_as (within names) m = record { tag = m.tag; value = []; members = named names (members_in m.value) }
shown_as (noting names others) m = record { tag = m.tag; value = []; members = noted names others (members_in m.value) }

abbrev pub tags_of : List (ℕ × Counts) → List ℕ
tags_of table = map (λ row. row.0) table

-- those of some objects that are named, in their order; one that stands there twice is seen twice
unfoldable pub shown : List (ℕ × Counts) → List Object → List Shown
shown table [] = []
shown table (m ∷ ms) =
    pick (listed m.tag (tags_of table)) (shown_as (beside whole m.tag table) m ∷ shown table ms) (shown table ms)

unfoldable pub named_at : Place → List ℕ → List Shown
named_at p a = shown (names_at p) (objects_at p a)

-- the last two bytes; a byte that is not there reads as 0
unfoldable pub status_of : List ℕ → List ℕ
status_of a = get_or a (length a - 2) 0 ∷ get_or a (length a - 1) 0 ∷ []

pub record Seen : Type 0 where
  -- fewer than 2 or more than 258 bytes
  pub size_wrong : Bool
  pub status : List ℕ
  -- no list, or not the one expected object
  pub form_wrong : Bool
  pub objects : List Shown

unfoldable pub seen : Place → List ℕ → Seen
seen p a = record {
  size_wrong = size_bad a;
  status = status_of a;
  form_wrong = outer_bad (expected_at p) a;
  objects = named_at p a;
}
