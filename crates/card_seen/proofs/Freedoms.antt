-- For each freedom that 02, R-13, leaves a card a pair of answers, which differ as bytes and of which the same is seen. They are computed;
-- the laws for all answers are in Dressing.
-- Assumes nothing.
use mathlib.Core.Path.{◌≡◌, refl, sym, ap, ◌∙◌}
use mathlib.Core.Bool.{false, false≢true}
use mathlib.Core.List.{List, [], ◌∷◌, ◌++◌}
use Prim.Native.Nat.{ℕ}
use Rattle.slices.specs.Choice.{pick}
use Rattle.slices.specs.Shorter.{counted, shorter}
use Rattle.slices.specs.Tables.{any_of, beside}
use Rattle.slices.specs.Tests.{alike, is_some}
use Rattle.slices.proofs.Comparing.{same_alike}
use Rattle.tlv_head.specs.Head.{first_byte, constructed, two_bytes, tag_size, tag_of}
use Rattle.tlv_head.specs.Head.{tag_right, length_byte, length_form, length_size, length_of}
use Rattle.tlv_head.specs.Head.{value_start, value_end, whole as whole_head}
use Rattle.tlv_list.specs.Objects.{Object, between, first_object, before, right_inside, listed as listed_objects, objects}
use Rattle.tlv_list.specs.Lookup.{met, lookup}
use Rattle.tlv_list.specs.Place.{data_field}
use Rattle.answer_common.specs.Answer.{size_bad, only, outer, tagged, value_under, is_one, inside, outer_bad}
use Rattle.answer_common.specs.Content.{record_names}
use Rattle.answer_common.specs.Named.{members_in, listed, named, times}
use Rattle.answer_common.proofs.Present.{by_name}
use Rattle.answer_select.specs.Select.{inner_names}
use Rattle.answer_cryptogram.specs.Cryptogram.{mandatory_names}
use Rattle.card_seen.specs.Seen.{Place, selection, options, reading, generation, names_at, expected_at, apart_options, if_left}
use Rattle.card_seen.specs.Seen.{apart_cryptogram, in_forms, objects_at, Shown, present, noted, shown_as, shown, named_at}
use Rattle.card_seen.specs.Seen.{status_of, Seen, seen}
use Rattle.card_seen.specs.Order.{before_others, standing, Rearranged, EmptyIssuerData}
use Rattle.card_seen.specs.Dressing.{template_at, filler, ignored, inner, Dressed, Pair}
use Rattle.card_seen.proofs.Order.{swapped}

-- what is seen, with every definition under it open, so that it computes
unfoldable pub viewed : Place → List ℕ → Seen
unfolding pick counted shorter any_of beside is_some first_byte constructed two_bytes tag_size tag_of tag_right length_byte length_form
    length_size
    length_of value_start value_end whole_head between first_object before right_inside listed_objects objects data_field size_bad
    only outer
    tagged value_under is_one inside outer_bad members_in listed named names_at expected_at apart_options if_left apart_cryptogram in_forms
    objects_at met lookup times present noted shown_as shown named_at status_of seen
viewed p a = seen p a

pub other_bytes : (a b : List ℕ) → alike a b ≡ false → a ≡ b → ⊥
other_bytes a b n e = false≢true (sym n ∙ (ap (alike a) (sym e) ∙ same_alike a))

abbrev ok : List ℕ
ok = 0x90 ∷ 0x00 ∷ []

-- ---- SELECT: 84, and A5 with 9F38

abbrev name : List ℕ
name = 0x84 ∷ 0x05 ∷ 0xA0 ∷ 0 ∷ 0 ∷ 0 ∷ 3 ∷ []

abbrev list : List ℕ
list = 0x9F ∷ 0x38 ∷ 0x03 ∷ 0x9F ∷ 0x37 ∷ 0x04 ∷ []

abbrev members : List ℕ
members = name ++ (0xA5 ∷ 0x06 ∷ list)

abbrev plain : List ℕ
plain = 0x6F ∷ 0x0F ∷ (members ++ ok)

-- a '00' byte before the one object, between its members, inside A5, behind the one object
pub zero_before : Pair selection plain (0x00 ∷ plain)
unfolding viewed alike
zero_before = record { same = refl; other = other_bytes _ _ refl }

pub zero_between : Pair selection plain (0x6F ∷ 0x10 ∷ (name ++ (0x00 ∷ 0xA5 ∷ 0x06 ∷ (list ++ ok))))
unfolding viewed alike
zero_between = record { same = refl; other = other_bytes _ _ refl }

pub zero_inside : Pair selection plain (0x6F ∷ 0x10 ∷ (name ++ (0xA5 ∷ 0x07 ∷ 0x00 ∷ (list ++ ok))))
unfolding viewed alike
zero_inside = record { same = refl; other = other_bytes _ _ refl }

pub zero_behind : Pair selection plain (0x6F ∷ 0x0F ∷ (members ++ (0x00 ∷ ok)))
unfolding viewed alike
zero_behind = record { same = refl; other = other_bytes _ _ refl }

-- lengths by '81' and '82': of the one object, of a named one, of an ignored one
pub outer_81 : Pair selection plain (0x6F ∷ 0x81 ∷ 0x0F ∷ (members ++ ok))
unfolding viewed alike
outer_81 = record { same = refl; other = other_bytes _ _ refl }

pub outer_82 : Pair selection plain (0x6F ∷ 0x82 ∷ 0x00 ∷ 0x0F ∷ (members ++ ok))
unfolding viewed alike
outer_82 = record { same = refl; other = other_bytes _ _ refl }

pub named_81 : Pair selection plain
    (0x6F ∷ 0x10 ∷ 0x84 ∷ 0x81 ∷ 0x05 ∷ 0xA0 ∷ 0 ∷ 0 ∷ 0 ∷ 3 ∷ 0xA5 ∷ 0x06 ∷ (list ++ ok))
unfolding viewed alike
named_81 = record { same = refl; other = other_bytes _ _ refl }

pub named_82 : Pair selection plain (0x6F ∷ 0x11 ∷ (name ++ (0xA5 ∷ 0x82 ∷ 0x00 ∷ 0x06 ∷ (list ++ ok))))
unfolding viewed alike
named_82 = record { same = refl; other = other_bytes _ _ refl }

pub ignored_81 : Pair selection plain (0x6F ∷ 0x13 ∷ 0x50 ∷ 0x81 ∷ 0x01 ∷ 0x41 ∷ (members ++ ok))
unfolding viewed alike
ignored_81 = record { same = refl; other = other_bytes _ _ refl }

pub ignored_82 : Pair selection plain (0x6F ∷ 0x14 ∷ 0x50 ∷ 0x82 ∷ 0x00 ∷ 0x01 ∷ 0x41 ∷ (members ++ ok))
unfolding viewed alike
ignored_82 = record { same = refl; other = other_bytes _ _ refl }

-- an object that is not named: in 6F, where 9F38 is none; in A5, where 84 is none
pub ignored_in_6_f : Pair selection plain (0x6F ∷ 0x12 ∷ (members ++ (0x9F ∷ 0x38 ∷ 0x00 ∷ ok)))
unfolding viewed alike
ignored_in_6_f = record { same = refl; other = other_bytes _ _ refl }

pub ignored_in_A5 : Pair selection plain (0x6F ∷ 0x11 ∷ (name ++ (0xA5 ∷ 0x08 ∷ 0x84 ∷ 0x00 ∷ (list ++ ok))))
unfolding viewed alike
ignored_in_A5 = record { same = refl; other = other_bytes _ _ refl }

-- a constructed one with names inside, and one that is repeated
pub ignored_constructed : Pair selection plain
    (0x6F ∷ 0x17 ∷ (name ++ (0xA5 ∷ 0x0E ∷ 0xBF ∷ 0x0C ∷ 0x05 ∷ 0x9F ∷ 0x38 ∷ 0x00 ∷ 0x5A ∷ 0x00 ∷ (list ++ ok))))
unfolding viewed alike
ignored_constructed = record { same = refl; other = other_bytes _ _ refl }

pub ignored_repeated : Pair selection plain (0x6F ∷ 0x15 ∷ 0x50 ∷ 0x01 ∷ 0x41 ∷ (members ++ (0x50 ∷ 0x01 ∷ 0x42 ∷ ok)))
unfolding viewed alike
ignored_repeated = record { same = refl; other = other_bytes _ _ refl }

-- what the laws of Dressing ask for, on two of these pairs: a '00' byte between the members of 6F, and 84 in A5
abbrev name_object : Object
name_object = record { tag = 0x84; value = 0xA0 ∷ 0 ∷ 0 ∷ 0 ∷ 3 ∷ [] }

abbrev list_object : Object
list_object = record { tag = 0x9F38; value = 0x9F ∷ 0x37 ∷ 0x04 ∷ [] }

pub zero_dressed : Dressed selection plain (0x6F ∷ 0x10 ∷ (name ++ (0x00 ∷ 0xA5 ∷ 0x06 ∷ (list ++ ok))))
unfolding viewed template_at
zero_dressed = record {
  status = refl;
  first_one = refl;
  second_one = refl;
  members = record {
    front = name;
    behind = 0xA5 ∷ 0x06 ∷ list;
    front_objects = name_object ∷ [];
    behind_objects = record { tag = 0xA5; value = list } ∷ [];
    front_list = refl;
    behind_list = refl;
    one = [];
    other = 0x00 ∷ [];
    unseen = filler refl refl;
    first = refl;
    second = refl;
  };
}

pub inner_dressed : Dressed selection plain (0x6F ∷ 0x11 ∷ (name ++ (0xA5 ∷ 0x08 ∷ 0x84 ∷ 0x00 ∷ (list ++ ok))))
unfolding viewed template_at
inner_dressed = record {
  status = refl;
  first_one = refl;
  second_one = refl;
  members = record {
    front = name;
    behind = [];
    front_objects = name_object ∷ [];
    behind_objects = [];
    front_list = refl;
    behind_list = refl;
    one = 0xA5 ∷ 0x06 ∷ list;
    other = 0xA5 ∷ 0x08 ∷ 0x84 ∷ 0x00 ∷ list;
    unseen =
        inner 0xA5 inner_names [] list [] (0x84 ∷ 0x00 ∷ []) [] (list_object ∷ []) refl refl refl
        (ignored (record { tag = 0x84; value = [] }) refl refl refl) refl refl;
    first = refl;
    second = refl;
  };
}

-- ---- READ RECORD: 82 is not named there

pub ignored_in_70 : Pair (reading record_names) (0x70 ∷ 0x04 ∷ 0x5A ∷ 0x02 ∷ 0x12 ∷ 0x34 ∷ ok)
    (0x70 ∷ 0x08 ∷ 0x82 ∷ 0x02 ∷ 0x08 ∷ 0x00 ∷ 0x5A ∷ 0x02 ∷ 0x12 ∷ 0x34 ∷ ok)
unfolding viewed alike
ignored_in_70 = record { same = refl; other = other_bytes _ _ refl }

-- 5A before 5F24, and behind it: not seen alike, but rearranged (beyond 02)
abbrev number : Shown
number = record { tag = 0x5A; value = 0x12 ∷ 0x34 ∷ []; members = [] }

abbrev expiry : Shown
expiry = record { tag = 0x5F24; value = 0x30 ∷ 0x12 ∷ 0x31 ∷ []; members = [] }

pub other_order : Rearranged (reading record_names)
    (0x70 ∷ 0x0A ∷ 0x5A ∷ 0x02 ∷ 0x12 ∷ 0x34 ∷ 0x5F ∷ 0x24 ∷ 0x03 ∷ 0x30 ∷ 0x12 ∷ 0x31 ∷ ok)
    (0x70 ∷ 0x0A ∷ 0x5F ∷ 0x24 ∷ 0x03 ∷ 0x30 ∷ 0x12 ∷ 0x31 ∷ 0x5A ∷ 0x02 ∷ 0x12 ∷ 0x34 ∷ ok)
unfolding viewed
other_order = record { size = refl; status = refl; form = refl; objects = λ name. swapped name number expiry [] }

-- ---- GPO: 82 and 94

abbrev template : List ℕ
template = 0x77 ∷ 0x0A ∷ 0x82 ∷ 0x02 ∷ 0x08 ∷ 0x00 ∷ 0x94 ∷ 0x04 ∷ 0x08 ∷ 0x01 ∷ 0x02 ∷ 0x00 ∷ ok

abbrev values : List ℕ
values = 0x08 ∷ 0x00 ∷ 0x08 ∷ 0x01 ∷ 0x02 ∷ 0x00 ∷ []

pub ignored_in_77 : Pair options template
    (0x77 ∷ 0x0E ∷ 0x82 ∷ 0x02 ∷ 0x08 ∷ 0x00 ∷ 0x9F ∷ 0x27 ∷ 0x01 ∷ 0x80 ∷ 0x94 ∷ 0x04 ∷ 0x08 ∷ 0x01 ∷ 0x02 ∷ 0x00 ∷ ok)
unfolding viewed alike
ignored_in_77 = record { same = refl; other = other_bytes _ _ refl }

-- joined values in another length form, with '00' around; 80 for 77, and back
pub joined_81 : Pair options (0x80 ∷ 0x06 ∷ (values ++ ok)) (0x00 ∷ 0x80 ∷ 0x81 ∷ 0x06 ∷ (values ++ ok))
unfolding viewed alike
joined_81 = record { same = refl; other = other_bytes _ _ refl }

pub joined_82 : Pair options (0x80 ∷ 0x06 ∷ (values ++ ok)) (0x80 ∷ 0x82 ∷ 0x00 ∷ 0x06 ∷ (values ++ (0x00 ∷ ok)))
unfolding viewed alike
joined_82 = record { same = refl; other = other_bytes _ _ refl }

pub options_joined : Pair options template (0x80 ∷ 0x06 ∷ (values ++ ok))
unfolding viewed alike
options_joined = record { same = refl; other = other_bytes _ _ refl }

pub options_apart : Pair options (0x80 ∷ 0x06 ∷ (values ++ ok)) template
unfolding viewed alike
options_apart = record { same = refl; other = other_bytes _ _ refl }

-- joined, and a template with the AFL before the AIP (beyond 02)
abbrev profile : Shown
profile = record { tag = 0x82; value = 0x08 ∷ 0x00 ∷ []; members = [] }

abbrev locator : Shown
locator = record { tag = 0x94; value = 0x08 ∷ 0x01 ∷ 0x02 ∷ 0x00 ∷ []; members = [] }

pub options_other_order : Rearranged options (0x80 ∷ 0x06 ∷ (values ++ ok))
    (0x77 ∷ 0x0A ∷ 0x94 ∷ 0x04 ∷ 0x08 ∷ 0x01 ∷ 0x02 ∷ 0x00 ∷ 0x82 ∷ 0x02 ∷ 0x08 ∷ 0x00 ∷ ok)
unfolding viewed
options_other_order = record { size = refl; status = refl; form = refl; objects = λ name. swapped name profile locator [] }

-- ---- GENERATE AC, the first and the second: 9F27, 9F36, 9F26, with 9F10 and without

abbrev three : List ℕ
three =
    0x9F ∷ 0x27 ∷ 0x01 ∷ 0x80 ∷ 0x9F ∷ 0x36 ∷ 0x02 ∷ 0x00 ∷ 0x01 ∷ 0x9F ∷ 0x26 ∷ 0x08 ∷ 1 ∷ 2 ∷ 3 ∷ 4 ∷ 5 ∷ 6 ∷ 7 ∷ 8 ∷ []

abbrev three_values : List ℕ
three_values = 0x80 ∷ 0x00 ∷ 0x01 ∷ 1 ∷ 2 ∷ 3 ∷ 4 ∷ 5 ∷ 6 ∷ 7 ∷ 8 ∷ []

pub cryptogram_joined : Pair generation (0x77 ∷ 0x14 ∷ (three ++ ok)) (0x80 ∷ 0x0B ∷ (three_values ++ ok))
unfolding viewed alike
cryptogram_joined = record { same = refl; other = other_bytes _ _ refl }

pub cryptogram_apart : Pair generation (0x80 ∷ 0x0C ∷ (three_values ++ (0xAA ∷ ok)))
    (0x77 ∷ 0x18 ∷ (three ++ (0x9F ∷ 0x10 ∷ 0x01 ∷ 0xAA ∷ ok)))
unfolding viewed alike
cryptogram_apart = record { same = refl; other = other_bytes _ _ refl }

-- joined values without issuer data, and a template with an empty 9F10 (beyond 02)
pub empty_issuer_data : EmptyIssuerData (0x80 ∷ 0x0B ∷ (three_values ++ ok)) (0x77 ∷ 0x17 ∷ (three ++ (0x9F ∷ 0x10 ∷ 0x00 ∷ ok)))
unfolding viewed standing before_others
empty_issuer_data = record {
  size = refl;
  status = refl;
  form = refl;
  others =
      by_name
      (λ (name : ℕ).
      standing name (named_at generation (0x80 ∷ 0x0B ∷ (three_values ++ ok)))
      ≡ standing name (named_at generation (0x77 ∷ 0x17 ∷ (three ++ (0x9F ∷ 0x10 ∷ 0x00 ∷ ok)))))
      mandatory_names (refl, (refl, (refl, tt)));
  none = refl;
  empty = refl;
}
