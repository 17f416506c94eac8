-- The head of a data object: its tag and its length, read from the front of some bytes.
-- 01, "Data objects"; 000, Annex C.
--
-- A byte past the end is read as '00'. That excuses nothing: an object whose head is cut off ends past the end of the
-- bytes, and `whole` refuses it.
-- Assumes nothing.
use Rattle.std.specs.Prelude.{Bool, true, false, not, ◌&&◌, List, ℕ, ◌+◌, ◌*◌, ◌/◌, ◌%◌, ltb, leb, eqb, length, get_or}
use Rattle.slices.specs.Choice.{pick}

-- a tag is a number: '5A' is 0x5A, '9F 02' is 0x9F02. This is its first byte
unfoldable pub first_byte : ℕ → ℕ
first_byte tag = pick (ltb tag 256) tag (tag / 256)

-- bit 6 of the first tag byte marks a constructed object
unfoldable pub constructed : ℕ → Bool
constructed tag = eqb (first_byte tag / 32 % 2) 1

-- the low five bits of a first tag byte are all ones: a second byte follows
unfoldable pub two_bytes : ℕ → Bool
two_bytes b = eqb (b % 32) 31

unfoldable pub tag_size : List ℕ → ℕ
tag_size s = pick (two_bytes (get_or s 0 0)) 2 1

unfoldable pub tag_of : List ℕ → ℕ
tag_of s = pick (two_bytes (get_or s 0 0)) (256 * get_or s 0 0 + get_or s 1 0) (get_or s 0 0)

-- a tag stands at the front: its first byte is not '00', and where a second one follows, that is '00' to '7F'
unfoldable pub tag_right : List ℕ → Bool
tag_right s = pick (eqb (get_or s 0 0) 0) false (pick (two_bytes (get_or s 0 0)) (ltb (get_or s 1 0) 0x80) true)

-- the first length byte
unfoldable pub length_byte : List ℕ → ℕ
length_byte s = get_or s (tag_size s) 0

-- how many bytes the length takes: '00' to '7F' stands by itself, '81' has one byte after it and '82' two.
-- Any other first length byte is refused: 0 here
unfoldable pub length_form : ℕ → ℕ
length_form b = pick (ltb b 0x80) 1 (pick (eqb b 0x81) 2 (pick (eqb b 0x82) 3 0))

unfoldable pub length_size : List ℕ → ℕ
length_size s = length_form (length_byte s)

unfoldable pub length_of : List ℕ → ℕ
length_of s =
    pick (ltb (length_byte s) 0x80) (length_byte s)
    (pick (eqb (length_byte s) 0x81) (get_or s (tag_size s + 1) 0)
    (256 * get_or s (tag_size s + 1) 0 + get_or s (tag_size s + 2) 0))

-- where the value starts, and where it ends
unfoldable pub value_start : List ℕ → ℕ
value_start s = tag_size s + length_size s

unfoldable pub value_end : List ℕ → ℕ
value_end s = value_start s + length_of s

-- tag and length are legal, and the value is there whole
unfoldable pub whole : List ℕ → Bool
whole s = tag_right s && (not (eqb (length_size s) 0) && leb (value_end s) (length s))
