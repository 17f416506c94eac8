-- What is written reads back as the same tag and value: the head that is written is the head that is read, part by part, and
-- the value is all that follows it.
-- Assumes nothing.
use mathlib.Core.Path.{◌≡◌, refl, sym, ap, ap₂, ◌∙◌}
use mathlib.Core.Bool.{Bool, true, false, not, ◌&&◌}
use mathlib.Core.List.{List, [], ◌∷◌, ◌++◌, append_assoc}
use mathlib.Core.Option.{some}
use Prim.Native.Nat.{ℕ, ◌+◌, ◌*◌, ◌-◌, ◌/◌, ◌%◌, ◌≤◌, ◌<◌}
use native.Mathlib.Nat.{add-zero, le_refl}
use native.Mathlib.Omega.{arith}
use lib.Dec.{ltb, eqb}
use lib.ListN.{length, get_or, take, drop, length-append}
use lib.Seq.{get_or-append-add, drop_at, drop-length, take-length}
use borrow.Author.Tests.{lt-ltb, le-ltb, ltb-true, ltb-false, le-leb, ne_eqb, not-true}
use Rattle.slices.proofs.Choice.{pick_yes, pick_no, picked, either, and_left, and_right, and_both}
use Rattle.tlv_head.specs.Head.{constructed, two_bytes, tag_size, tag_of, tag_right, length_byte}
use Rattle.tlv_head.specs.Head.{length_form, length_size, length_of, value_start, value_end, whole}
use Rattle.slices.specs.Tests.{is_some}
use Rattle.tlv_list.specs.Objects.{Object, between, first_object, before, right_inside, objects, is_list}
use Rattle.tlv_write.specs.Written.{is_tag, tag_bytes, length_bytes, written, written_all, fits_tag}
use Rattle.tlv_list.proofs.Objects.{objects_empty, objects_member}
use Rattle.tlv_list.proofs.Joined.{objects_joined}
use Rattle.tlv_head.proofs.Parts.{whole_within}
use Rattle.tlv_write.proofs.Refusals.{written_length}

-- a tag's bytes, whatever follows them, are read as the tag
record TagBack (t : ℕ) (s : List ℕ) : Type 0 where
  size : tag_size s ≡ length (tag_bytes t)
  tag : tag_of s ≡ t
  right : tag_right s ≡ true
  due : eqb (get_or s 0 0) 0 ≡ false

module _ (t : ℕ) (r : List ℕ) (ok : is_tag t ≡ true) where
  short_tag : t < 256 → TagBack t (tag_bytes t ++ r)
  unfolding is_tag tag_bytes tag_size tag_of tag_right
  short_tag h =
      let small = lt-ltb t 256 h in
      let tests : (not (eqb t 0) && not (two_bytes t)) ≡ true = sym (pick_yes _ _ _ small) ∙ ok in
      let some_tag = not-true (eqb t 0) (and_left _ _ tests) in
      let one = not-true (two_bytes t) (and_right (not (eqb t 0)) _ tests) in
      let bytes : tag_bytes t ≡ t ∷ [] = pick_yes _ _ _ small in
      rw bytes
      (record {
        size = pick_no _ _ _ one ∙ sym (ap length bytes);
        tag = pick_no _ _ _ one;
        right = pick_no _ _ _ some_tag ∙ pick_no _ _ _ one;
        due = some_tag;
      })

  long_tag : 256 ≤ t → TagBack t (tag_bytes t ++ r)
  unfolding is_tag tag_bytes tag_size tag_of tag_right
  long_tag h =
      let large = le-ltb t 256 h in
      let tests : (ltb t 65536 && (two_bytes (t / 256) && ltb (t % 256) 0x80)) ≡ true = sym (pick_no _ _ _ large) ∙ ok in
      let rest = and_right (ltb t 65536) _ tests in
      let two = and_left (two_bytes (t / 256)) _ rest in
      let bytes : tag_bytes t ≡ t / 256 ∷ t % 256 ∷ [] = pick_no _ _ _ large in
      let joined : 256 * (t / 256) + t % 256 ≡ t = omega arith in
      let some_tag = ne_eqb (t / 256) 0 (λ (e : t / 256 ≡ 0). omega arith) in
      rw bytes
      (record {
        size = pick_yes _ _ _ two ∙ sym (ap length bytes);
        tag = pick_yes _ _ _ two ∙ joined;
        right = pick_no _ _ _ some_tag ∙ (pick_yes _ _ _ two ∙ and_right (two_bytes (t / 256)) _ rest);
        due = some_tag;
      })

  tag_back : TagBack t (tag_bytes t ++ r)
  tag_back = either (ltb t 256) (λ y. short_tag (ltb-true t 256 y)) (λ n. long_tag (ltb-false t 256 n))

-- a length's bytes after a tag are read as the length
record LengthBack (n : ℕ) (s : List ℕ) : Type 0 where
  size : length_size s ≡ length (length_bytes n)
  number : length_of s ≡ n

module _ (p v : List ℕ) (n : ℕ) (below : n < 65536) (after : tag_size (p ++ (length_bytes n ++ v)) ≡ length p) where
  s : List ℕ
  s = p ++ (length_bytes n ++ v)

  later : (i : ℕ) → get_or s (tag_size s + i) 0 ≡ get_or (length_bytes n ++ v) i 0
  unfolding s
  later i = ap (λ (k : ℕ). get_or (p ++ (length_bytes n ++ v)) (k + i) 0) after ∙ get_or-append-add p (length_bytes n ++ v) i 0

  first : (bs : List ℕ) → length_bytes n ≡ bs → length_byte s ≡ get_or (bs ++ v) 0 0
  unfolding length_byte
  first bs e = ap (λ (k : ℕ). get_or s k 0) (sym (add-zero (tag_size s))) ∙ (later 0 ∙ ap (λ (l : List ℕ). get_or (l ++ v) 0 0) e)

  by_itself : n < 0x80 → LengthBack n s
  unfolding length_bytes length_size length_of length_form
  by_itself h =
      let small = lt-ltb n 0x80 h in
      let bytes : length_bytes n ≡ n ∷ [] = pick_yes _ _ _ small in
      let b : length_byte s ≡ n = first (n ∷ []) bytes in
      let same : ltb (length_byte s) 0x80 ≡ true = ap (λ (k : ℕ). ltb k 0x80) b ∙ small in
      record { size = pick_yes _ _ _ same ∙ sym (ap length bytes); number = pick_yes _ _ _ same ∙ b }

  one_more_lem : 0x80 ≤ n → n < 256 → LengthBack n s
  unfolding length_bytes length_size length_of length_form
  one_more_lem h k =
      let bytes : length_bytes n ≡ 0x81 ∷ n ∷ [] = pick_no _ _ _ (le-ltb n 0x80 h) ∙ pick_yes _ _ _ (lt-ltb n 256 k) in
      let b : length_byte s ≡ 0x81 = first (0x81 ∷ n ∷ []) bytes in
      let large : ltb (length_byte s) 0x80 ≡ false = ap (λ (x : ℕ). ltb x 0x80) b in
      let form : eqb (length_byte s) 0x81 ≡ true = ap (λ (x : ℕ). eqb x 0x81) b in
      record {
        size = pick_no _ _ _ large ∙ (pick_yes _ _ _ form ∙ sym (ap length bytes));
        number = pick_no _ _ _ large ∙ (pick_yes _ _ _ form ∙ (later 1 ∙ ap (λ (l : List ℕ). get_or (l ++ v) 1 0) bytes));
      }

  two_more : 256 ≤ n → LengthBack n s
  unfolding length_bytes length_size length_of length_form
  two_more h =
      let bytes : length_bytes n ≡ 0x82 ∷ n / 256 ∷ n % 256 ∷ [] =
      pick_no _ _ _ (le-ltb n 0x80 (omega arith)) ∙ pick_no _ _ _ (le-ltb n 256 h) in
      let b : length_byte s ≡ 0x82 = first (0x82 ∷ n / 256 ∷ n % 256 ∷ []) bytes in
      let large : ltb (length_byte s) 0x80 ≡ false = ap (λ (x : ℕ). ltb x 0x80) b in
      let other : eqb (length_byte s) 0x81 ≡ false = ap (λ (x : ℕ). eqb x 0x81) b in
      let form : eqb (length_byte s) 0x82 ≡ true = ap (λ (x : ℕ). eqb x 0x82) b in
      let joined : 256 * (n / 256) + n % 256 ≡ n = omega arith in
      record {
        size = pick_no _ _ _ large ∙ (pick_no _ _ _ other ∙ (pick_yes _ _ _ form ∙ sym (ap length bytes)));
        number =
            pick_no _ _ _ large
            ∙ (pick_no _ _ _ other
            ∙ (ap₂ (λ (x y : ℕ). 256 * x + y)
            (later 1 ∙ ap (λ (l : List ℕ). get_or (l ++ v) 1 0) bytes)
            (later 2 ∙ ap (λ (l : List ℕ). get_or (l ++ v) 2 0) bytes)
            ∙ joined));
      }

  length_back : LengthBack n s
  length_back =
      either (ltb n 0x80)
      (λ y. by_itself (ltb-true n 0x80 y))
      (λ z. either (ltb n 256) (λ y. one_more_lem (ltb-false n 0x80 z) (ltb-true n 256 y)) (λ w. two_more (ltb-false n 256 w)))

-- an object that can be written: a tag, a value that fits it, and a length that a length form holds
pub record Writable (m : Object) : Type 0 where
  pub a_tag : is_tag m.tag ≡ true
  pub fits : fits_tag m.tag m.value ≡ true
  pub short : length m.value < 65536

module _ (m : Object) (ok : Writable m) where
  t : List ℕ
  t = tag_bytes m.tag

  l : List ℕ
  l = length_bytes (length m.value)

  bytes : List ℕ
  bytes = written m.tag m.value

  head : TagBack m.tag bytes
  unfolding bytes written
  head = tag_back m.tag (length_bytes (length m.value) ++ m.value) ok.a_tag

  number : LengthBack (length m.value) bytes
  unfolding bytes written s
  number = length_back (tag_bytes m.tag) m.value (length m.value) ok.short head.size

  start_back : value_start bytes ≡ length t + length l
  unfolding value_start t l
  start_back = ap₂ ◌+◌ head.size number.size

  end_back : value_end bytes ≡ length bytes
  unfolding value_end bytes t l
  end_back = ap₂ ◌+◌ start_back number.number ∙ sym (written_length m.tag m.value)

  some_length : 1 ≤ length l
  unfolding l length_bytes
  some_length =
      picked (λ (x : List ℕ). 1 ≤ length x) (ltb (length m.value) 0x80) _ _ (λ e. le_refl 1) (λ e.
      picked (λ (x : List ℕ). 1 ≤ length x) (ltb (length m.value) 256) _ _ (λ f. omega arith) (λ f. omega arith))

  whole_back : whole bytes ≡ true
  unfolding whole l
  whole_back =
      let k = some_length in
      let n : length_size bytes ≡ length l = number.size in
      let some_form : length_size bytes ≡ 0 → ⊥ = λ (e : length_size bytes ≡ 0). omega arith in
      and_both _ _ head.right
      (and_both _ _ (ap not (ne_eqb _ _ some_form)) (le-leb (value_end bytes) (length bytes) (let e = end_back in omega arith)))

  value_back : between bytes (value_start bytes) (value_end bytes) ≡ m.value
  unfolding between bytes written t l
  value_back =
      let v = m.value in
      let from : drop (length (t ++ l)) ((t ++ l) ++ v) ≡ v = drop_at (t ++ l) v (length (t ++ l)) refl in
      let start : value_start bytes ≡ length (t ++ l) = start_back ∙ sym (length-append t l) in
      let count : value_end bytes - value_start bytes ≡ length v
      = (let e = end_back in let f = start_back in let size = written_length m.tag v in omega arith) in
      ap₂ (λ (n k : ℕ). take n (drop k (t ++ (l ++ v)))) count start
      ∙ (ap (λ (x : List ℕ). take (length v) (drop (length (t ++ l)) x)) (sym (append_assoc t l v))
      ∙ (ap (take (length v)) from ∙ take-length v))

  object_back : first_object bytes ≡ m
  unfolding first_object
  object_back = ap₂ (λ (a : ℕ) (v : List ℕ). record { tag = a; value = v }) head.tag value_back

  inside_back : right_inside objects m ≡ true
  unfolding right_inside fits_tag is_list
  inside_back = ok.fits

  -- what is written reads back as the same tag and value
  pub written_back : objects (written m.tag m.value) ≡ some (m ∷ [])
  unfolding bytes before
  written_back =
      let i = whole_within bytes whole_back in
      objects_member bytes head.due (omega arith) whole_back
      ∙ (rw object_back
      (pick_yes _ _ _ inside_back
      ∙ ap (before m) (ap objects (ap (λ (n : ℕ). drop n bytes) end_back ∙ drop-length bytes) ∙ objects_empty)))

-- objects that can be written, each of them
pub data AllWritable : List Object → Type 0 where
  none_left : AllWritable []
  and_then : {m : Object} {ms : List Object} → Writable m → AllWritable ms → AllWritable (m ∷ ms)

-- several objects written in a row read back as those objects, in order
pub all_back : {ms : List Object} → AllWritable ms → objects (written_all ms) ≡ some ms
unfolding written_all
all_back none_left = objects_empty
all_back (and_then {m} {ms} ok rest) =
    objects_joined (written m.tag m.value) (written_all ms) (m ∷ []) ms (written_back m ok) (all_back rest)

-- also inside a constructed object: it is written, read back, and its value read back in turn
pub nested_back : (tag : ℕ) {ms : List Object} → is_tag tag ≡ true → AllWritable ms → length (written_all ms) < 65536
    → (objects (written tag (written_all ms)) ≡ some (record { tag = tag; value = written_all ms } ∷ []))
    × (objects (written_all ms) ≡ some ms)
unfolding fits_tag is_list is_some
nested_back tag {ms} a_tag ok short =
    let inner = all_back ok in
    let list : fits_tag tag (written_all ms) ≡ true
    = picked (λ (t : Bool). t ≡ true) (constructed tag) (is_list (written_all ms)) true (λ c. ap is_some inner) (λ c. refl) in
    (written_back (record { tag = tag; value = written_all ms }) (record { a_tag = a_tag; fits = list; short = short }), inner)
