-- One object written, with the shortest length form. 01, "Data objects", and refusals 10 and 11.
-- Assumes nothing.
use Rattle.std.specs.Prelude.{Bool, true, not, ◌&&◌, Result, Ok, Err, List, [], ◌∷◌, ◌++◌, ℕ, ◌/◌, ◌%◌, ltb, eqb, length}
use Rattle.slices.specs.Choice.{pick, first_of}
use Rattle.slices.specs.Writing.{put}
use Rattle.numbers.specs.Tables.{refused_writing, refused_space}
use Rattle.tlv_head.specs.Head.{constructed, two_bytes}
use Rattle.tlv_list.specs.Objects.{Object, is_list, longest}
use Rattle.tlv_write.specs.declared.WriteRefusal.{WriteRefusal}
use Rattle.tlv_write.specs.declared.WriteRefusal.TheVariants.{BadObject, NoRoom}

-- a number that is exactly one tag: one byte that is not '00' and asks for no second, or two bytes, the first asking for
-- the second and that being '00' to '7F'
unfoldable pub is_tag : ℕ → Bool
is_tag t =
    pick (ltb t 256) (not (eqb t 0) && not (two_bytes t))
    (ltb t 65536 && (two_bytes (t / 256) && ltb (t % 256) 0x80))

unfoldable pub tag_bytes : ℕ → List ℕ
tag_bytes t = pick (ltb t 256) (t ∷ []) (t / 256 ∷ t % 256 ∷ [])

-- the shortest form that holds a length below 65,536
unfoldable pub length_bytes : ℕ → List ℕ
length_bytes n = pick (ltb n 0x80) (n ∷ []) (pick (ltb n 256) (0x81 ∷ n ∷ []) (0x82 ∷ n / 256 ∷ n % 256 ∷ []))

unfoldable pub written : ℕ → List ℕ → List ℕ
written tag value = tag_bytes tag ++ (length_bytes (length value) ++ value)

-- several objects, one after the other
unfoldable pub written_all : List Object → List ℕ
written_all [] = []
written_all (m ∷ ms) = written m.tag m.value ++ written_all ms

-- a constructed object's value is a list
unfoldable pub fits_tag : ℕ → List ℕ → Bool
fits_tag tag value = pick (constructed tag) (is_list value) true

-- 01, "When a call is turned away", 10 and then 11, into a buffer of so many bytes; 0 where the object is written
unfoldable pub write_refusal : ℕ → List ℕ → ℕ → ℕ
write_refusal tag value room =
    first_of
    ((not (is_tag tag), refused_writing)
    ∷ (not (fits_tag tag value), refused_writing)
    ∷ (ltb longest (length (written tag value)), refused_writing)
    ∷ (ltb room (length (written tag value)), refused_space)
    ∷ [])

-- the answer's cases, with 01's number for each and the bytes written
unfoldable pub refusal_of : {A : Type 0} → Result A WriteRefusal → ℕ
refusal_of (Ok n) = 0
refusal_of (Err BadObject) = 10
refusal_of (Err NoRoom) = 11

-- the number of a refusal by itself
abbrev pub number_of : WriteRefusal → ℕ
number_of why = refusal_of {A = ℕ} (Err why)

unfoldable pub size_of : Result ℕ WriteRefusal → ℕ
size_of (Ok n) = n
size_of (Err BadObject) = 0
size_of (Err NoRoom) = 0

-- how many bytes are written: none where the object is refused
unfoldable pub size_written : ℕ → List ℕ → ℕ → ℕ
size_written tag value room = pick (eqb (write_refusal tag value room) 0) (length (written tag value)) 0

-- an accepted object stands at the start of the buffer and changes nothing else; a refused one changes nothing
unfoldable pub buffer_after : ℕ → List ℕ → List ℕ → List ℕ
buffer_after tag value buf = pick (eqb (write_refusal tag value (length buf)) 0) (put (written tag value) 0 buf) buf
