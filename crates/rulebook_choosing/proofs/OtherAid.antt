-- What goes by START goes by every field of it but the AID: object lists, the bits of the TVR, the requests, the names that count in records.
-- Assumes nothing.
use mathlib.Core.Path.{◌≡◌, refl, ap, ap₂}
use mathlib.Core.Bool.{Bool}
use mathlib.Core.List.{List, [], ◌∷◌, ◌++◌}
use mathlib.Core.Option.{Option, none, some, get_or}
use Prim.Native.Nat.{ℕ, ◌+◌}
use Rattle.slices.specs.Choice.{pick, unless_empty}
use Rattle.slices.specs.Tests.{is_some}
use Rattle.facts.specs.Facts.{Facts}
use Rattle.start_fields.specs.Reading.{Terminal}
use Rattle.start_fields.specs.Bare.{terminal_with}
use Rattle.start_fields.proofs.Reading.{other_aid_read}
use Rattle.decide_requests.specs.Requests.{first_request, second_request}
use Rattle.decide_requests.specs.declared.reply.HostReply.{HostReply}
use Rattle.decide_requests.specs.declared.reply.HostReply.TheVariants.{Approve, Decline, Unable}
use Rattle.decide_tvr.specs.Bits.{joined, flag}
use Rattle.decide_tvr.specs.Results.{different_versions, expired, not_yet_effective, authentication, restrictions, risks}
use Rattle.decide_tvr.specs.Results.{tvr_after_records}
use Rattle.decide_verification.specs.Verification.{results_due, tvr_after_results}
use Rattle.answer_common.specs.Content.{names_for}
use Rattle.answer_common.specs.declared.content.Format.{Format}
use Rattle.dol_wanted.specs.Wanted.{Wanted, entries_of, fillable}
use Rattle.dol_values.specs.Own.{Own}
use Rattle.std.specs.Prelude.{Some, None}
use Rattle.dol_values.specs.Shape.{format_of}
use Rattle.dol_values.specs.Known.{value_by, value_for, supplied, own_field, with_format}
use Rattle.dol_fill.specs.Filled.{entry_bytes, filled, filled_by, filled_list, filling, missing, missing_in, missing_by, unsupplied}
use Rattle.rulebook.proofs.Opening.{reached}

-- ---- object lists

module _ (aid : List ℕ) (t : Terminal) (k : Facts) where
  abbrev t' : Terminal
  t' = terminal_with aid t

  value_same : (other : Option (List ℕ)) (own : Own) → value_by t' other own ≡ value_by t other own
  unfolding value_by
  value_same other (Some f) = ap unless_empty (other_aid_read aid t f)
  value_same other None = refl

  supplied_same : (tag : ℕ) → supplied t' k tag ≡ supplied t k tag
  unfolding supplied value_for
  supplied_same tag = ap (with_format (format_of tag)) (value_same (k tag) (own_field tag))

  filled_same : (ws : List Wanted) → filled t' k ws ≡ filled t k ws
  unfolding filled
  filled_same [] = refl
  filled_same (w ∷ ws) =
      ap₂ (λ (o : Option (Format × List ℕ)) (l : List ℕ). entry_bytes w.size o ++ l) (supplied_same w.tag) (filled_same ws)

  filled_by_same : (o : Option (List Wanted)) → filled_by t' k o ≡ filled_by t k o
  unfolding filled_by
  filled_by_same none = refl
  filled_by_same (some ws) = filled_same ws

  pub filling_same : (list : List ℕ) → filling t' k list ≡ filling t k list
  unfolding filling filled_list
  filling_same list = ap (λ (l : List ℕ). pick (fillable list) l []) (filled_by_same (entries_of list))

  missing_same : (ws : List Wanted) → missing_in t' k ws ≡ missing_in t k ws
  unfolding missing_in missing
  missing_same [] = refl
  missing_same (w ∷ ws) =
      ap₂ (λ (o : Option (Format × List ℕ)) (n : ℕ). pick (is_some o) 0 1 + n) (supplied_same w.tag) (missing_same ws)

  missing_by_same : (o : Option (List Wanted)) → missing_by t' k o ≡ missing_by t k o
  unfolding missing_by
  missing_by_same none = refl
  missing_by_same (some ws) = missing_same ws

  pub unsupplied_same : (list : List ℕ) → unsupplied t' k list ≡ unsupplied t k list
  unfolding unsupplied
  unsupplied_same list = ap (λ (n : ℕ). pick (fillable list) n 0) (missing_by_same (entries_of list))

-- ---- rules that go by START

module _ (aid : List ℕ) (t : Terminal) where
  pub due_same : (profile : List ℕ) (f : Facts) → results_due (terminal_with aid t) profile f ≡ results_due t profile f
  unfolding reached terminal_with
  due_same profile f = refl

  versions_same : (o : Option (List ℕ)) → different_versions (terminal_with aid t) o ≡ different_versions t o
  unfolding different_versions terminal_with
  versions_same none = refl
  versions_same (some version) = refl

  effective_same : (o : Option (List ℕ)) → not_yet_effective (terminal_with aid t) o ≡ not_yet_effective t o
  unfolding not_yet_effective terminal_with
  effective_same none = refl
  effective_same (some effective) = refl

  risks_same : (profile : List ℕ) → risks (terminal_with aid t) profile ≡ risks t profile
  unfolding reached terminal_with
  risks_same profile = refl

  pub managed_bits : (profile : List ℕ) (f : Facts) (tvr : List ℕ)
      → tvr_after_records (terminal_with aid t) profile f tvr ≡ tvr_after_records t profile f tvr
  unfolding tvr_after_records restrictions expired terminal_with
  managed_bits profile f tvr =
      let expiry = flag (expired t (get_or (f 0x5F24) [])) 0x40 in
      ap₂ (λ (n m : ℕ). joined tvr (authentication ∷ n ∷ 0 ∷ m ∷ 0 ∷ []))
      (ap₂ (λ (a b : Bool). flag a 0x80 + (expiry + flag b 0x20)) (versions_same (f 0x9F08)) (effective_same (f 0x5F25)))
      (risks_same profile)

  pub verified_bits : (f : Facts) (results tvr : List ℕ) → tvr_after_results (terminal_with aid t) f results tvr
      ≡ tvr_after_results t f results tvr
  unfolding reached terminal_with
  verified_bits f results tvr = refl

  pub request_same : (f : Facts) (tvr : List ℕ) → first_request (terminal_with aid t) f tvr ≡ first_request t f tvr
  unfolding reached terminal_with
  request_same f tvr = refl

  pub second_same : (reply : HostReply) (f : Facts) (tvr : List ℕ) → second_request reply (terminal_with aid t) f tvr
      ≡ second_request reply t f tvr
  unfolding reached terminal_with
  second_same Approve f tvr = refl
  second_same Decline f tvr = refl
  second_same Unable f tvr = refl

  pub names_same : names_for (terminal_with aid t) ≡ names_for t
  unfolding reached terminal_with
  names_same = refl
