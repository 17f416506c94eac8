-- What an answer can be dressed with: what a card may put into it, or leave out, without its being seen. 02, R-13: objects that are not
-- named, '00' bytes, length forms, and the other of the two forms. That the same is seen then is proved (`dressed`, `joined_again`,
-- `options_forms`, `cryptogram_forms` of Theorem); proofs/Freedoms has a pair of answers for each.
-- Assumes nothing.
use Rattle.std.specs.Prelude.{◌≡◌, true, false, List, [], ◌∷◌, ◌++◌, ℕ}
use Rattle.std.proofs.Math.Option.{some}
use Rattle.slices.specs.Tables.{beside}
use Rattle.tlv_list.specs.Objects.{Object, objects}
use Rattle.answer_common.specs.Answer.{is_one, inside}
use Rattle.answer_common.specs.Content.{record_tag}
use Rattle.answer_common.specs.Named.{members_in, listed}
use Rattle.answer_common.specs.Forms.{template, joined}
use Rattle.answer_select.specs.Select.{select_tag}
use Rattle.card_seen.specs.Seen.{Counts, whole, within, noting, wholly, Place, selection, options, reading, generation}
use Rattle.card_seen.specs.Seen.{environment, directory, application, names_at, object, tags_of, shown, status_of, seen}

-- the one object in which a place's named objects stand, where they are not joined
unfoldable pub template_at : Place → ℕ
template_at selection = select_tag
template_at options = template
template_at (reading names) = record_tag
template_at generation = template
template_at environment = select_tag
template_at directory = record_tag
template_at application = select_tag

-- bytes between the members of an object, and bytes that may stand there instead
pub data Unseen : List (ℕ × Counts) → List ℕ → List ℕ → Type 0 where
  -- a '00' byte for nothing
  filler : {table : List (ℕ × Counts)} {o p : List ℕ} → o ≡ [] → p ≡ 0 ∷ [] → Unseen table o p
  -- an object that is not named, whatever else it is, for nothing
  ignored : {table : List (ℕ × Counts)} {o p : List ℕ} (m : Object) → o ≡ [] → objects p ≡ some (m ∷ [])
      → listed m.tag (tags_of table) ≡ false → Unseen table o p
  -- the same object in other bytes: another length form
  rewritten : {table : List (ℕ × Counts)} {o p : List ℕ} (m : Object) → objects o ≡ some (m ∷ []) → objects p ≡ some (m ∷ [])
      → Unseen table o p
  -- an object of which only the named members count (A5), with such bytes between its members
  inner : {table : List (ℕ × Counts)} {o p : List ℕ} (tag : ℕ) (names x y c d : List ℕ) (xs ys : List Object)
      → beside whole tag table ≡ within names → objects x ≡ some xs → objects y ≡ some ys → Unseen (wholly names) c d
      → objects o ≡ some (object tag (x ++ (c ++ y)) ∷ []) → objects p ≡ some (object tag (x ++ (d ++ y)) ∷ []) → Unseen table o p
  -- an object of which the named members count, and of others whether they are there (61), with such bytes between its members
  entry : {table : List (ℕ × Counts)} {o p : List ℕ} (tag : ℕ) (names others x y c d : List ℕ) (xs ys : List Object)
      → beside whole tag table ≡ noting names others → objects x ≡ some xs → objects y ≡ some ys
      → Unseen (wholly (names ++ others)) c d
      → objects o ≡ some (object tag (x ++ (c ++ y)) ∷ []) → objects p ≡ some (object tag (x ++ (d ++ y)) ∷ []) → Unseen table o p
  -- such an object with another value of one of which it counts whether it is there (9D)
  revalued : {table : List (ℕ × Counts)} {o p : List ℕ} (tag name : ℕ) (names others x y c d v u : List ℕ) (xs ys : List Object)
      → beside whole tag table ≡ noting names others → listed name names ≡ false → objects x ≡ some xs → objects y ≡ some ys
      → objects c ≡ some (object name v ∷ []) → objects d ≡ some (object name u ∷ [])
      → objects o ≡ some (object tag (x ++ (c ++ y)) ∷ []) → objects p ≡ some (object tag (x ++ (d ++ y)) ∷ []) → Unseen table o p

-- two runs of members that differ at one place between members, in bytes that may stand there instead of one another
pub record Amid (table : List (ℕ × Counts)) (s t : List ℕ) : Type 0 where
  pub front : List ℕ
  pub behind : List ℕ
  pub front_objects : List Object
  pub behind_objects : List Object
  pub front_list : objects front ≡ some front_objects
  pub behind_list : objects behind ≡ some behind_objects
  pub one : List ℕ
  pub other : List ℕ
  pub unseen : Unseen table one other
  pub first : s ≡ front ++ (one ++ behind)
  pub second : t ≡ front ++ (other ++ behind)

-- two answers that are not joined: the one object of each is the expected one, in whatever length form and with whatever '00' bytes around
-- it, and what stands in it differs as above
pub record Dressed (p : Place) (a b : List ℕ) : Type 0 where
  pub status : status_of a ≡ status_of b
  pub first_one : is_one (template_at p) a ≡ true
  pub second_one : is_one (template_at p) b ≡ true
  pub members : Amid (names_at p) (inside (template_at p) a) (inside (template_at p) b)

-- two joined answers with the same values, in whatever length form and with whatever '00' bytes around
pub record JoinedAgain (a b : List ℕ) : Type 0 where
  pub status : status_of a ≡ status_of b
  pub first_one : is_one joined a ≡ true
  pub second_one : is_one joined b ≡ true
  pub values : inside joined a ≡ inside joined b

-- a joined answer, and a template in which the named objects are those that the joined values stand for
pub record OtherForm (p : Place) (apart : List ℕ → List Object) (a b : List ℕ) : Type 0 where
  pub status : status_of a ≡ status_of b
  pub first_one : is_one joined a ≡ true
  pub second_one : is_one template b ≡ true
  pub objects : shown (names_at p) (apart (inside joined a)) ≡ shown (names_at p) (members_in (inside template b))

-- two answers that differ as bytes, and of which the same is seen
pub record Pair (p : Place) (a b : List ℕ) : Type 0 where
  pub same : seen p a ≡ seen p b
  pub other : a ≡ b → ⊥
