-- Answers that come in two forms: a template 77 of objects, or one object 80 with their values joined in a fixed order. 01,
-- "What the card must answer": GPO and GENERATE AC.
-- Assumes nothing.
use Rattle.std.specs.Prelude.{Bool, ◌&&◌, List, [], ◌∷◌, ℕ, eqb, take, drop}
use Rattle.slices.specs.Choice.{pick}
use Rattle.tlv_list.specs.Place.{data_field}
use Rattle.answer_common.specs.Answer.{is_one}
use Rattle.answer_common.specs.Named.{direct, standing, value_of, any_missing}
use Rattle.answer_common.specs.Single.{single_of, read_by}

abbrev pub template : ℕ
template = 0x77

abbrev pub joined : ℕ
joined = 0x80

abbrev pub both_forms : List ℕ
both_forms = template ∷ joined ∷ []

-- only in a template can an object be missing: joined values are told apart by their places
unfoldable pub lacks : List ℕ → List ℕ → Bool
lacks names a = is_one template a && any_missing names (direct template a)

-- a value by place: n of the joined bytes from a place on, or what stands under a name in the template
unfoldable pub form_in : ℕ → ℕ → ℕ → ℕ → List ℕ → List ℕ
form_in from n name tag v = pick (eqb tag joined) (take n (drop from v)) (value_of (standing v name))

unfoldable pub read_form : ℕ → ℕ → ℕ → List ℕ → List ℕ
read_form from n name a = read_by (form_in from n name) (data_field a) (single_of a)
