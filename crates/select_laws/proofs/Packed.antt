-- How many applications a record of the directory can tell: each entry takes nine bytes or more, and 70 has room for 254.
-- Assumes nothing.
use mathlib.Core.Path.{◌≡◌, refl, sym, subst, ◌∙◌}
use mathlib.Core.Bool.{true, false≢true}
use mathlib.Core.List.{List, [], ◌∷◌, map}
use mathlib.Core.Option.{Option, none, some}
use Prim.Native.Nat.{ℕ, ◌+◌, ◌*◌, ◌-◌, ◌≤◌, ◌<◌}
use native.Mathlib.Omega.{arith}
use lib.Dec.{eqb}
use lib.ListN.{length, drop, length-take, length-drop}
use borrow.Author.Tests.{leb-true}
use Rattle.slices.specs.Choice.{pick}
use Rattle.slices.specs.Tests.{every, between}
use Rattle.slices.proofs.Choice.{pick_yes, picked}
use Rattle.slices.proofs.Shorter.{by_length}
use Rattle.slices.proofs.Tests.{first_held}
use Rattle.tlv_list.specs.Objects as read
use Rattle.tlv_list.specs.Objects.{Object, before, right_inside, objects}
use Rattle.tlv_list.specs.Place.{next_at}
use Rattle.tlv_list.specs.Lookup.{Lookup, absent, once, twice}
use Rattle.tlv_list.proofs.Reading.{following, objects_next, next_ahead}
use Rattle.tlv_head.specs.Head.{constructed, first_byte}
use Rattle.tlv_head.specs.declared.Next.{Next}
use Rattle.tlv_head.specs.declared.Next.TheVariants.{Member, End, Broken}
use Rattle.answer_common.specs.Answer.{inside}
use Rattle.answer_common.specs.Content.{record_tag}
use Rattle.answer_common.specs.Named.{members_in, among, value_of, told}
use Rattle.answer_common.proofs.Members.{members_of_lem, among_size, inside_list, inside_size}
use Rattle.select_answers.specs.Objects.{name_right, indicator_right}
use Rattle.select_answers.specs.Directory.{Met, entry_tag, is_named, entry_right, entries, entries_in, record_right}
use Rattle.select_answers.specs.Directory.{applications, applications_of}
use Rattle.select_laws.specs.Choices.{most_in_record}

-- the bytes that objects take at least: two for tag and length, and the value
unfoldable bytes_of : List Object → ℕ
bytes_of [] = 0
bytes_of (m ∷ ms) = 2 + length m.value + bytes_of ms

abbrev Goes : List ℕ → Type 0
Goes s = (ms : List Object) → objects s ≡ some ms → bytes_of ms ≤ length s

with_rest : (n : ℕ) (m : Object) (o : Option (List Object)) (ms : List Object) → before m o ≡ some ms
    → ((rest : List Object) → o ≡ some rest → 2 + length m.value + bytes_of rest ≤ n) → bytes_of ms ≤ n
unfolding before bytes_of
with_rest n m none ms e h = absurd (let z : ◌≡◌ {A = ℕ} 0 1 = cc in omega arith)
with_rest n m (some rest) ms e h =
    let same : m ∷ rest ≡ ms = cc in
    subst (λ (x : List Object). bytes_of x ≤ n) same (h rest refl)

step : (s : List ℕ) (ms : List Object) → ((t : List ℕ) → length t < length s → Goes t) → (x : Next) → next_at s 0 ≡ x
    → following s x ≡ some ms → bytes_of ms ≤ length s
unfolding following read.between bytes_of
step s ms shorter (Member tag start end) f =
    let m : Object = record { tag = tag; value = read.between s start end } in
    let ahead = next_ahead s 0 tag start end f in
    let size = length-take (end - start) (drop start s) in
    let left = length-drop end s in
    picked (λ o. o ≡ some ms → bytes_of ms ≤ length s) (right_inside objects m) (before m (objects (drop end s))) none
    (λ r e.
    with_rest (length s) m (objects (drop end s)) ms e
    (λ rest g. let more = shorter (drop end s) (omega arith) rest g in omega arith))
    (λ r e. absurd (let z : ◌≡◌ {A = ℕ} 0 1 = cc in omega arith))
step s ms shorter End f = λ e. let none' : [] ≡ ms = cc in subst (λ (x : List Object). bytes_of x ≤ length s) none' (omega arith)
step s ms shorter Broken f = λ e. absurd (let z : ◌≡◌ {A = ℕ} 0 1 = cc in omega arith)

packed : (s : List ℕ) → Goes s
packed = by_length Goes (λ s shorter ms e. step s ms shorter (next_at s 0) refl (sym (objects_next s 0) ∙ e))

-- a name that is right has five bytes or more
name_least : (l : Lookup) → name_right l ≡ true → 5 ≤ length (value_of l)
unfolding name_right value_of told between
name_least absent h = absurd (false≢true h)
name_least (once v) h = leb-true 5 (length v) (first_held _ _ h).0
name_least twice h = absurd (false≢true h)

-- so an application's entry has seven, without its own tag and length
entry_least : (e : List ℕ) → is_named (among e) ≡ true → entry_right (among e) ≡ true → 7 ≤ length e
unfolding entry_right
entry_least e named right =
    let both : every (name_right (among e 0x4F) ∷ indicator_right (among e 0x87) ∷ []) ≡ true = sym (pick_yes _ _ _ named) ∙ right in
    let name = name_least (among e 0x4F) (first_held _ _ both).0 in
    let size = among_size e 0x4F in
    omega arith

abbrev Right : List (List ℕ) → Type 0
Right es = every (map (λ e. entry_right (among e)) es) ≡ true

module _ (v : List ℕ) (es : List (List ℕ)) (n : ℕ) (more : Right es → 9 * length (applications es) ≤ n) where
  one_more_lem : Right (v ∷ es) → 9 * length (applications (v ∷ es)) ≤ 2 + length v + n
  unfolding applications
  one_more_lem right =
      let h = first_held (entry_right (among v)) (map (λ e. entry_right (among e)) es) right in
      picked (λ (ms : List Met). 9 * length ms ≤ 2 + length v + n) (is_named (among v)) _ (applications es)
      (λ y. let seven = entry_least v y h.0 in let rest = more h.1 in omega arith)
      (λ m. let rest = more h.1 in omega arith)

few : (ms : List Object) → Right (entries ms) → 9 * length (applications (entries ms)) ≤ bytes_of ms
unfolding entries bytes_of applications
few [] right = omega arith
few (m ∷ ms) right =
    picked (λ es. Right es → 9 * length (applications es) ≤ 2 + length m.value + bytes_of ms) (eqb m.tag entry_tag)
    (m.value ∷ entries ms)
    (entries ms)
    (λ y. one_more_lem m.value (entries ms) (bytes_of ms) (few ms))
    (λ n r. let rest = few ms r in omega arith)
    right

constructed_record : constructed record_tag ≡ true
unfolding constructed first_byte pick
constructed_record = refl

pub few_applications : (a : List ℕ) → record_right a ≡ true → length (applications_of a) ≤ most_in_record
unfolding record_right applications_of entries_in
few_applications a right =
    let ms = members_in (inside record_tag a) in
    let both = first_held _ _ right in
    let all = first_held _ _ both.1 in
    let bytes = packed (inside record_tag a) ms (members_of_lem (inside record_tag a) (inside_list record_tag a constructed_record)) in
    let room = inside_size record_tag a in
    let found = few ms all.0 in
    omega arith
