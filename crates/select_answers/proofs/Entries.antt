-- The entries of a record: an entry's value is a list, so that the search by place finds what stands among its members.
-- Assumes nothing.
use mathlib.Core.Path.{◌≡◌, refl, ap, ap₂, ◌∙◌}
use mathlib.Core.Bool.{true}
use mathlib.Core.List.{List, ◌∷◌, map}
use Prim.Native.Nat.{ℕ}
use lib.Dec.{eqb}
use borrow.Author.Tests.{eqb-true}
use Rattle.slices.specs.Choice.{pick}
use Rattle.slices.proofs.Choice.{picked}
use Rattle.tlv_head.specs.Head.{first_byte, constructed}
use Rattle.tlv_list.specs.Objects.{Object, is_list}
use Rattle.tlv_list.specs.Lookup.{Lookup}
use Rattle.tlv_list.specs.Place.{object_at, places_from}
use Rattle.tlv_list.proofs.Walking.{places_members}
use Rattle.answer_common.specs.Named.{members_in, standing, among}
use Rattle.answer_common.proofs.Members.{Held, none_left, and_then, held, members_of_lem, list_standing}
use Rattle.select_answers.specs.Directory.{entry_tag, entries}

constructed_entry : constructed entry_tag ≡ true
unfolding constructed first_byte pick
constructed_entry = refl

-- whatever is asked of an entry, by place and by members
module _ {B : Type 0} (f : (ℕ → Lookup) → B) where
  asked : {n : ℕ} {ms : List Object} → Held n ms → map (λ e. f (standing e)) (entries ms) ≡ map (λ e. f (among e)) (entries ms)
  unfolding entries
  asked none_left = refl
  asked (and_then {m} {ms} list size rest) =
      picked (λ es. map (λ e. f (standing e)) es ≡ map (λ e. f (among e)) es)
      (eqb m.tag entry_tag) (m.value ∷ entries ms) (entries ms)
      (λ y.
      ap₂ ◌∷◌
      (ap f (list_standing m.value (list (ap constructed (eqb-true _ _ y) ∙ constructed_entry))))
      (asked rest))
      (λ n. asked rest)

  pub entries_asked : (s : List ℕ) → is_list s ≡ true
      → map (λ e. f (standing e)) (entries (map (object_at s) (places_from s 0))) ≡ map (λ e. f (among e)) (entries (members_in s))
  entries_asked s e =
      ap (λ ms. map (λ t. f (standing t)) (entries ms)) (places_members s (members_in s) (members_of_lem s e))
      ∙ asked (held s (members_in s) (members_of_lem s e))
