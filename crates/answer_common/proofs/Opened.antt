-- How worked answers are written, and the look-ups with all that they rest on open, so that they compute.
-- Assumes nothing.
use mathlib.Core.List.{List, [], ◌∷◌, ◌++◌}
use Prim.Native.Nat.{ℕ}
use lib.ListN.{length}
use Rattle.slices.specs.Choice.{pick, first_of}
use Rattle.slices.specs.Shorter.{counted, shorter}
use Rattle.tlv_head.specs.Head.{first_byte, constructed, two_bytes, tag_size, tag_of, tag_right, length_byte}
use Rattle.tlv_head.specs.Head.{length_form, length_size, length_of, value_start, value_end, whole}
use Rattle.slices.specs.Tests.{is_some, every, between}
use Rattle.tlv_list.specs.Objects.{between as part, first_object, before, right_inside, listed, objects}
use Rattle.tlv_list.specs.Place.{data_field}
use Rattle.tlv_list.specs.Lookup.{Lookup, met, lookup}
use Rattle.answer_afl.specs.Entries.{whole_entries}
use Rattle.slices.specs.Tables.{any_of, beside}
use Rattle.answer_common.specs.Content.{meets, rules, rule_for, right_value}
use Rattle.answer_common.specs.Answer.{size_bad, status_bad, only, outer, tagged, value_under, is_one, inside, outer_bad, frame}
use Rattle.answer_common.specs.Named.{members_in, among, direct, times, told, value_of, wrong_value, any_times, any_wrong}

-- an object with a tag of one byte, and of two
abbrev pub one : ℕ → List ℕ → List ℕ
one tag v = tag ∷ length v ∷ v

abbrev pub two : ℕ → ℕ → List ℕ → List ℕ
two a b v = a ∷ b ∷ length v ∷ v

-- data with status 9000
abbrev pub good : List ℕ → List ℕ
good d = d ++ (0x90 ∷ 0x00 ∷ [])

abbrev pub joined_all : List (List ℕ) → List ℕ
joined_all [] = []
joined_all (x ∷ xs) = x ++ joined_all xs

unfoldable pub opened : ℕ → List ℕ → ℕ → Lookup
unfolding pick first_of counted shorter first_byte constructed two_bytes tag_size tag_of tag_right length_byte length_form length_size
    length_of value_start value_end whole part first_object is_some before right_inside listed objects data_field met lookup every between
    whole_entries any_of beside meets rules rule_for right_value size_bad status_bad only outer tagged value_under is_one inside outer_bad
    frame members_in among direct times told value_of wrong_value any_times any_wrong
opened tag a name = direct tag a name
