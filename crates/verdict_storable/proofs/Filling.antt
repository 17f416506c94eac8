-- What fills an object list is bytes where all that is known is bytes: a value is cut or lengthened, and what is put beside it is
-- zeros or 'FF'.
-- Assumes nothing.
use mathlib.Core.Path.{◌≡◌, refl}
use mathlib.Core.Bool.{true}
use mathlib.Core.List.{List, [], ◌∷◌}
use mathlib.Core.Option.{Option, none, some, get_or}
use Prim.Native.Nat.{ℕ, zero, suc, ◌-◌}
use native.Mathlib.Omega.{arith}
use lib.Dec.{eqb}
use lib.ListN.{length, take, drop, replicate}
use lib.Pow.{are_bytes}
use Rattle.slices.specs.Choice.{unless_empty}
use Rattle.slices.specs.Writing.{zeros}
use Rattle.slices.proofs.Choice.{picked}
use Rattle.tape_crc.proofs.Bytes.{bytes_cons, bytes_append, bytes_take, bytes_drop}
use Rattle.start_fields.specs.Reading.{Terminal, bytes_of}
use Rattle.start_fields.specs.declared.fields.Field.{Field}
use Rattle.tape_read.proofs.Extra.{zeros_bytes}
use Rattle.dol_wanted.specs.Wanted.{Wanted, entries_of, fillable}
use Rattle.dol_values.specs.Shape.{shaped, format_of}
use Rattle.slices.specs.Tables.{beside}
use Rattle.facts.specs.Facts.{Facts, or_else}
use Rattle.dol_values.specs.Known.{own_field, value_by, value_for, with_format, supplied}
use Rattle.dol_fill.specs.Filled.{entry_bytes, filled, filled_by, filled_list, filling}
use Rattle.answer_common.specs.declared.content.Format.{Format}
use Rattle.answer_common.specs.declared.content.Format.TheVariants.{Numeric, CardNumber, Other, Unknown}
use Rattle.dol_values.specs.Own.{Own}
use Rattle.std.specs.Prelude.{Some, None}

-- bytes, where there is a value
abbrev pub Told : Option (List ℕ) → Type 0
Told o = are_bytes (get_or o []) ≡ true

-- ---- what is supplied

-- what stands beside a tag, where it is so of every line of a table and of what there is else
abbrev pub All : List (ℕ × Option (List ℕ)) → Type 0
All [] = Unit {0}
All (line ∷ lines) = Told line.1 × All lines

pub beside_bytes : (other : Option (List ℕ)) (tag : ℕ) (lines : List (ℕ × Option (List ℕ))) → Told other → All lines
    → Told (beside other tag lines)
unfolding beside
beside_bytes other tag [] h all = h
beside_bytes other tag (line ∷ lines) h all =
    picked Told (eqb tag line.0) line.1 (beside other tag lines) (λ y. all.0) (λ n. beside_bytes other tag lines h all.1)

pub else_bytes : (o other : Option (List ℕ)) → Told o → Told other → Told (or_else o other)
unfolding or_else
else_bytes none other h k = k
else_bytes (some v) other h k = h

-- what counts as absent where it is empty
pub unless_bytes : (v : List ℕ) → are_bytes v ≡ true → Told (unless_empty v)
unfolding unless_empty
unless_bytes [] h = refl
unless_bytes (b ∷ bs) h = h

ones_bytes : (n : ℕ) → are_bytes (replicate n 0xFF) ≡ true
ones_bytes zero = refl
ones_bytes (suc n) = bytes_cons 0xFF (replicate n 0xFF) (omega arith) (ones_bytes n)

shaped_bytes : (f : Format) (n : ℕ) (v : List ℕ) → are_bytes v ≡ true → are_bytes (shaped f n v) ≡ true
unfolding shaped
shaped_bytes Numeric n v h =
    bytes_append (zeros (n - length v)) (drop (length v - n) v) (zeros_bytes (n - length v)) (bytes_drop (length v - n) v h)
shaped_bytes CardNumber n v h = bytes_append (take n v) (replicate (n - length v) 0xFF) (bytes_take n v h) (ones_bytes (n - length v))
shaped_bytes Other n v h = bytes_append (take n v) (zeros (n - length v)) (bytes_take n v h) (zeros_bytes (n - length v))
shaped_bytes Unknown n v h = zeros_bytes n

entry_bytes_lem : (n : ℕ) (f : Format) (o : Option (List ℕ)) → Told o → are_bytes (entry_bytes n (with_format f o)) ≡ true
unfolding entry_bytes with_format
entry_bytes_lem n f none h = zeros_bytes n
entry_bytes_lem n Numeric (some v) h = shaped_bytes Numeric n v h
entry_bytes_lem n CardNumber (some v) h = shaped_bytes CardNumber n v h
entry_bytes_lem n Other (some v) h = shaped_bytes Other n v h
entry_bytes_lem n Unknown (some v) h = zeros_bytes n

-- ---- and a list filled with it

module _ (t : Terminal) (k : Facts) (own : (f : Field) → are_bytes (bytes_of f t) ≡ true) (seen : (tag : ℕ) → Told (k tag)) where
  own_bytes : (tag : ℕ) (o : Own) → Told (value_by t (k tag) o)
  unfolding value_by
  own_bytes tag (Some f) = unless_bytes (bytes_of f t) (own f)
  own_bytes tag None = seen tag

  value_bytes : (tag : ℕ) → Told (value_for t k tag)
  unfolding value_for
  value_bytes tag = own_bytes tag (own_field tag)

  filled_bytes : (ws : List Wanted) → are_bytes (filled t k ws) ≡ true
  unfolding filled supplied
  filled_bytes [] = refl
  filled_bytes (w ∷ ws) =
      bytes_append (entry_bytes w.size (supplied t k w.tag)) (filled t k ws)
      (entry_bytes_lem w.size (format_of w.tag) (value_for t k w.tag) (value_bytes w.tag))
      (filled_bytes ws)

  by_entries : (o : Option (List Wanted)) → are_bytes (filled_by t k o) ≡ true
  unfolding filled_by
  by_entries none = refl
  by_entries (some ws) = filled_bytes ws

  pub filling_bytes : (list : List ℕ) → are_bytes (filling t k list) ≡ true
  unfolding filling filled_list
  filling_bytes list =
      picked (λ v. are_bytes v ≡ true) (fillable list) (filled_list t k list) [] (λ y. by_entries (entries_of list)) (λ n. refl)
