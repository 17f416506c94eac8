-- Worked lists that hold the definitions to document 01: each is read, or refused, by computation.
-- Assumes nothing.
use mathlib.Core.Path.{◌≡◌, refl}
use mathlib.Core.Bool.{false}
use mathlib.Core.List.{List, [], ◌∷◌}
use mathlib.Core.Option.{Option, none, some}
use Prim.Native.Nat.{ℕ}
use Rattle.slices.specs.Choice.{pick, first_of}
use Rattle.slices.specs.Shorter.{counted, shorter}
use Rattle.tlv_head.specs.Head.{first_byte, constructed, two_bytes, tag_size, tag_of, tag_right, length_byte}
use Rattle.tlv_head.specs.Head.{length_form, length_size, length_of, value_start, value_end, whole}
use Rattle.slices.specs.Tests.{is_some}
use Rattle.tlv_list.specs.Objects.{Object, between, first_object, before, right_inside, listed, objects, is_list, read_refusal}
use Rattle.tlv_list.specs.Lookup.{seek}
use Rattle.std.specs.Prelude.{None}
use Rattle.std.specs.Prelude.{Option as Answer}
use Rattle.tlv_list.specs.declared.Found.{Found}

object : ℕ → List ℕ → Object
object t v = record { tag = t; value = v }

-- `objects`, with all that it rests on open
reads : List ℕ → Option (List Object)
unfolding pick counted shorter first_byte constructed two_bytes tag_size tag_of tag_right length_byte length_form length_size length_of
    value_start value_end whole between first_object is_some before right_inside listed objects
reads s = objects s

-- a longer length form than needed is legal, and so is an empty value
forms : reads (0x5A ∷ 0x81 ∷ 0x01 ∷ 0x12 ∷ 0x5A ∷ 0x82 ∷ 0x00 ∷ 0x01 ∷ 0x12 ∷ 0x5A ∷ 0x00 ∷ [])
    ≡ some (object 0x5A (0x12 ∷ []) ∷ object 0x5A (0x12 ∷ []) ∷ object 0x5A [] ∷ [])
unfolding reads object
forms = refl

-- the first length bytes beside the legal ones
form_80 : reads (0x5A ∷ 0x80 ∷ []) ≡ none
unfolding reads
form_80 = refl

form_83 : reads (0x5A ∷ 0x83 ∷ 0x00 ∷ 0x00 ∷ 0x00 ∷ []) ≡ none
unfolding reads
form_83 = refl

-- a second tag byte is '00' to '7F'
second_byte : reads (0x9F ∷ 0x7F ∷ 0x00 ∷ 0x9F ∷ 0x00 ∷ 0x00 ∷ []) ≡ some (object 0x9F7F [] ∷ object 0x9F00 [] ∷ [])
unfolding reads object
second_byte = refl

second_byte_80 : reads (0x9F ∷ 0x80 ∷ 0x00 ∷ []) ≡ none
unfolding reads
second_byte_80 = refl

-- the value must be there whole
cut_short : reads (0x5A ∷ 0x02 ∷ 0x12 ∷ []) ≡ none
unfolding reads
cut_short = refl

-- '00' bytes stand between objects, also inside a constructed one
fillers_anywhere : reads (0x00 ∷ 0x70 ∷ 0x04 ∷ 0x00 ∷ 0x5A ∷ 0x00 ∷ 0x00 ∷ 0x00 ∷ [])
    ≡ some (object 0x70 (0x00 ∷ 0x5A ∷ 0x00 ∷ 0x00 ∷ []) ∷ [])
unfolding reads object
fillers_anywhere = refl

-- a constructed object's value is a list, at every depth; another's may be any bytes
inside : reads (0x70 ∷ 0x04 ∷ 0x61 ∷ 0x02 ∷ 0x5A ∷ 0x01 ∷ []) ≡ none
unfolding reads
inside = refl

plain : reads (0x5A ∷ 0x02 ∷ 0x5A ∷ 0x01 ∷ []) ≡ some (object 0x5A (0x5A ∷ 0x01 ∷ []) ∷ [])
unfolding reads object
plain = refl

-- '00' is no tag: where an object is due it is passed over, and read as a head it is none
no_tag : (reads (0x00 ∷ 0x00 ∷ []) ≡ some []) × (whole (0x00 ∷ 0x00 ∷ []) ≡ false)
unfolding reads whole tag_right pick
no_tag = (refl, refl)

-- bytes that are no list are refused by a look-up, also of a tag that stands before the break, or of none
looks_up : List ℕ → ℕ → Answer Found
unfolding reads is_list first_of read_refusal seek
looks_up s tag = seek s tag

no_look_up : (looks_up (0x5A ∷ 0x01 ∷ 0x12 ∷ 0xFF ∷ []) 0x5A ≡ None) × (looks_up (0x5A ∷ 0x01 ∷ 0x12 ∷ 0xFF ∷ []) 0x82 ≡ None)
unfolding looks_up
no_look_up = (refl, refl)
