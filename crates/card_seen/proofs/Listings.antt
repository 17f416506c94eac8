-- The same for answers that are given while the application is chosen: pairs that differ as bytes, and of which the same is seen.
-- Assumes nothing.
use mathlib.Core.Path.{refl}
use mathlib.Core.List.{List, [], ◌∷◌, ◌++◌}
use Prim.Native.Nat.{ℕ}
use Rattle.slices.specs.Tests.{alike}
use Rattle.tlv_list.specs.Objects.{Object}
use Rattle.card_seen.specs.Seen.{environment, directory, application, entry_names, entry_noted}
use Rattle.card_seen.specs.Dressing.{template_at, ignored, entry, revalued, Dressed, Pair}
use Rattle.card_seen.proofs.Freedoms.{viewed, other_bytes}

abbrev ok : List ℕ
ok = 0x90 ∷ 0x00 ∷ []

-- ---- the environment: an object that is not named in A5 beside 88

abbrev name_of : ℕ → List ℕ
name_of last = 0x84 ∷ 0x05 ∷ 0xA0 ∷ 0 ∷ 0 ∷ 0 ∷ last ∷ []

pub ignored_beside_file : Pair environment (0x6F ∷ 0x0C ∷ (name_of 3 ++ (0xA5 ∷ 0x03 ∷ 0x88 ∷ 0x01 ∷ 0x01 ∷ ok)))
    (0x6F ∷ 0x0F ∷ (name_of 3 ++ (0xA5 ∷ 0x06 ∷ 0x50 ∷ 0x01 ∷ 0x41 ∷ 0x88 ∷ 0x01 ∷ 0x01 ∷ ok)))
unfolding viewed alike
ignored_beside_file = record { same = refl; other = other_bytes _ _ refl }

-- ---- the directory: an entry with a name

abbrev named : List ℕ
named = 0x4F ∷ 0x05 ∷ 0xA0 ∷ 0 ∷ 0 ∷ 0 ∷ 3 ∷ []

abbrev name_object : Object
name_object = record { tag = 0x4F; value = 0xA0 ∷ 0 ∷ 0 ∷ 0 ∷ 3 ∷ [] }

abbrev plain : List ℕ
plain = 0x70 ∷ 0x09 ∷ 0x61 ∷ 0x07 ∷ (named ++ ok)

-- an object that is not named: beside the entry, and in it
pub ignored_in_record : Pair directory plain (0x70 ∷ 0x0C ∷ 0x50 ∷ 0x01 ∷ 0x41 ∷ 0x61 ∷ 0x07 ∷ (named ++ ok))
unfolding viewed alike
ignored_in_record = record { same = refl; other = other_bytes _ _ refl }

pub ignored_in_entry : Pair directory plain (0x70 ∷ 0x0C ∷ 0x61 ∷ 0x0A ∷ (named ++ (0x50 ∷ 0x01 ∷ 0x41 ∷ ok)))
unfolding viewed alike
ignored_in_entry = record { same = refl; other = other_bytes _ _ refl }

pub entry_dressed : Dressed directory plain (0x70 ∷ 0x0C ∷ 0x61 ∷ 0x0A ∷ (named ++ (0x50 ∷ 0x01 ∷ 0x41 ∷ ok)))
unfolding viewed template_at
entry_dressed = record {
  status = refl;
  first_one = refl;
  second_one = refl;
  members = record {
    front = [];
    behind = [];
    front_objects = [];
    behind_objects = [];
    front_list = refl;
    behind_list = refl;
    one = 0x61 ∷ 0x07 ∷ named;
    other = 0x61 ∷ 0x0A ∷ (named ++ (0x50 ∷ 0x01 ∷ 0x41 ∷ []));
    unseen =
        entry 0x61 entry_names entry_noted named [] [] (0x50 ∷ 0x01 ∷ 0x41 ∷ []) (name_object ∷ []) [] refl refl refl
        (ignored (record { tag = 0x50; value = 0x41 ∷ [] }) refl refl refl) refl refl;
    first = refl;
    second = refl;
  };
}

-- 9D with another value, twice, and before 87 or behind it
pub noted_otherwise : Pair directory (0x70 ∷ 0x08 ∷ 0x61 ∷ 0x06 ∷ 0x9D ∷ 0x01 ∷ 0x41 ∷ 0x87 ∷ 0x01 ∷ 0x01 ∷ ok)
    (0x70 ∷ 0x09 ∷ 0x61 ∷ 0x07 ∷ 0x87 ∷ 0x01 ∷ 0x01 ∷ 0x9D ∷ 0x00 ∷ 0x9D ∷ 0x00 ∷ ok)
unfolding viewed alike
noted_otherwise = record { same = refl; other = other_bytes _ _ refl }

pub noted_dressed : Dressed directory (0x70 ∷ 0x08 ∷ 0x61 ∷ 0x06 ∷ 0x9D ∷ 0x01 ∷ 0x41 ∷ 0x87 ∷ 0x01 ∷ 0x01 ∷ ok)
    (0x70 ∷ 0x07 ∷ 0x61 ∷ 0x05 ∷ 0x9D ∷ 0x00 ∷ 0x87 ∷ 0x01 ∷ 0x01 ∷ ok)
unfolding viewed template_at
noted_dressed = record {
  status = refl;
  first_one = refl;
  second_one = refl;
  members = record {
    front = [];
    behind = [];
    front_objects = [];
    behind_objects = [];
    front_list = refl;
    behind_list = refl;
    one = 0x61 ∷ 0x06 ∷ 0x9D ∷ 0x01 ∷ 0x41 ∷ 0x87 ∷ 0x01 ∷ 0x01 ∷ [];
    other = 0x61 ∷ 0x05 ∷ 0x9D ∷ 0x00 ∷ 0x87 ∷ 0x01 ∷ 0x01 ∷ [];
    unseen =
        revalued 0x61 0x9D entry_names entry_noted [] (0x87 ∷ 0x01 ∷ 0x01 ∷ []) (0x9D ∷ 0x01 ∷ 0x41 ∷ []) (0x9D ∷ 0x00 ∷ [])
        (0x41 ∷ []) [] []
        (record { tag = 0x87; value = 0x01 ∷ [] } ∷ []) refl refl refl refl refl refl refl refl;
    first = refl;
    second = refl;
  };
}

-- ---- an application: a '00' byte, and an object that is not named, between the objects of A5

pub ignored_between : Pair application (0x6F ∷ 0x0D ∷ (name_of 3 ++ (0xA5 ∷ 0x04 ∷ 0x87 ∷ 0x01 ∷ 0x01 ∷ 0x00 ∷ ok)))
    (0x6F ∷ 0x0F ∷ (name_of 3 ++ (0xA5 ∷ 0x06 ∷ 0x50 ∷ 0x01 ∷ 0x41 ∷ 0x87 ∷ 0x01 ∷ 0x01 ∷ ok)))
unfolding viewed alike
ignored_between = record { same = refl; other = other_bytes _ _ refl }
