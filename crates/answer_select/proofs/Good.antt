-- Of an answer that has no reason the list by place is the one that it asks for.
-- Assumes nothing.
use mathlib.Core.Path.{◌≡◌, sym, ap, ◌∙◌}
use mathlib.Core.Bool.{true, false≢true}
use mathlib.Core.List.{List, [], ◌∷◌}
use Prim.Native.Nat.{ℕ}
use lib.Dec.{eqb}
use Rattle.slices.specs.Tables.{any_of}
use Rattle.slices.proofs.Choice.{pick_no, either}
use Rattle.tlv_list.specs.Lookup.{Lookup}
use Rattle.start_fields.specs.Reading.{Terminal}
use Rattle.answer_common.specs.Named.{listed, standing, direct, value_of}
use Rattle.answer_common.proofs.Good.{Answered, answered, inside_by}
use Rattle.answer_select.specs.Select.{select_tag, pdol_of, pdol_in, pdol_read, select_lines, select_reason}
use Rattle.answer_select.proofs.Inside.{select_found, inner_found}

the_only : (tag : ℕ) → listed tag (select_tag ∷ []) ≡ true → eqb tag select_tag ≡ true
unfolding listed any_of
the_only tag e = either (eqb tag select_tag) (λ y. y) (λ n. absurd (false≢true (sym (pick_no _ _ _ n) ∙ e)))

of_answered : (a : List ℕ) → Answered a (select_tag ∷ []) → pdol_read a ≡ pdol_of a
unfolding pdol_read pdol_in pdol_of
of_answered a o =
    let v = o.object.value in
    let a5 : value_of (standing v 0xA5) ≡ value_of (direct select_tag a 0xA5) =
    ap (λ (look : ℕ → Lookup). value_of (look 0xA5)) (select_found a (sym (inside_by o select_tag (the_only _ o.named))))
    in
    o.read pdol_in ∙ ap (λ (look : ℕ → Lookup). value_of (look 0x9F38)) (inner_found a a5)

pub pdol_good : (t : Terminal) (a : List ℕ) → select_reason t a ≡ 0 → pdol_read a ≡ pdol_of a
unfolding select_reason
pdol_good t a good = of_answered a (answered a (select_tag ∷ []) (select_lines t.aid a) good)
