-- Looking up a tag among the direct members of a list: it is absent, it stands there once, or more than once. In bytes that are
-- no list nothing is looked up.
-- Assumes nothing.
use Rattle.std.specs.Prelude.{true, false, Option, None, Some, List, [], ◌∷◌, ℕ, eqb}
use Rattle.slices.specs.Choice.{pick}
use Rattle.numbers.specs.Tables.{refused_reading}
use Rattle.tlv_list.specs.Objects.{Object, between, read_refusal}
use Rattle.tlv_list.specs.Place.{Place, places_from}
use Rattle.tlv_list.specs.declared.Found.{Found}
use Rattle.tlv_list.specs.declared.Found.TheVariants.{Absent, Once, Twice}
use Rattle.tlv_list.specs.declared.Members.{Members}

-- among members, with the value where the tag stands once: what the rules above are written with
pub data Lookup : Type 0 where
  absent : Lookup
  once : List ℕ → Lookup
  twice : Lookup

unfoldable pub met : List ℕ → Lookup → Lookup
met v absent = once v
met v (once w) = twice
met v twice = twice

unfoldable pub lookup : ℕ → List Object → Lookup
lookup tag [] = absent
lookup tag (m ∷ ms) = pick (eqb m.tag tag) (met m.value (lookup tag ms)) (lookup tag ms)

-- the same by place. The first object with the tag among those that the reader finds from a place on
unfoldable pub first_among : ℕ → List Place → Found
first_among tag [] = Absent
first_among tag (p ∷ ps) = pick (eqb p.tag tag) (Once p.start p.end) (first_among tag ps)

unfoldable pub first_from : List ℕ → ℕ → ℕ → Found
first_from s at tag = first_among tag (places_from s at)

-- once, where a further search finds nothing
unfoldable pub unless : ℕ → ℕ → Found → Found
unless start end Absent = Once start end
unless start end (Once a e) = Twice
unless start end Twice = Twice

unfoldable pub alone : (ℕ → Found) → Found → Found
alone again Absent = Absent
alone again (Once start end) = unless start end (again end)
alone again Twice = Twice

-- the first with the tag, and then whether another follows it. In a list that is what stands among the members; bytes that are
-- none it reads up to the break, so it is asked only of bytes that were checked
unfoldable pub find_in_checked : List ℕ → ℕ → Found
find_in_checked s tag = alone (λ end. first_from s end tag) (first_from s 0 tag)

-- the same in one pass over the places that the reader finds: what was found so far, and one place more
unfoldable pub further : ℕ → ℕ → Found → Found
further start end Absent = Once start end
further start end (Once a e) = Twice
further start end Twice = Twice

unfoldable pub noted : ℕ → ℕ → ℕ → ℕ → Found → Found
noted tag t start end f = pick (eqb t tag) (further start end f) f

unfoldable pub noted_all : ℕ → List Place → Found → Found
noted_all tag [] f = f
noted_all tag (p ∷ ps) f = noted_all tag ps (noted tag p.tag p.start p.end f)

-- and of four tags, with the check of the list
unfoldable pub no_members : Members
no_members = record { list = false; first = Absent; second = Absent; third = Absent; fourth = Absent }

unfoldable pub members_of : List ℕ → ℕ → ℕ → ℕ → ℕ → Members
members_of s a b c d =
    pick (eqb (read_refusal s) 0)
    (record {
      list = true;
      first = find_in_checked s a;
      second = find_in_checked s b;
      third = find_in_checked s c;
      fourth = find_in_checked s d;
    })
    no_members

-- what a place says of the bytes
unfoldable pub found_value : List ℕ → Found → Lookup
found_value s Absent = absent
found_value s (Once a e) = once (between s a e)
found_value s Twice = twice

-- the look-up for any bytes: what is refused as a list (9) is refused here, whatever the tag
unfoldable pub seek : List ℕ → ℕ → Option Found
seek s tag = pick (eqb (read_refusal s) refused_reading) None (Some (find_in_checked s tag))

-- 01's number for each answer
unfoldable pub lookup_refusal : Option Found → ℕ
lookup_refusal None = refused_reading
lookup_refusal (Some f) = 0
