-- Statements one behind another.
use Rattle.std.proofs.Common.{◌≡◌, List, [], ◌∷◌, ◌++◌, refl, ap, ◌∙◌}
use Rattle.dae_base.specs.declared.Place.{Place}
use Rattle.dae_ir.specs.Code.{Done, Do}
use Rattle.dae_ir.specs.Form.{Form, before, form_of}
use Rattle.dae_ir.specs.declared.form.Item.{Item}
use Rattle.dae_ir.specs.declared.form.Statement.{Statement, Simple}
use Rattle.dae_alias.specs.Turning.{onto, Writes}

pub onto_end : (xs : List Statement) (s : Statement) (k : Form) → onto (xs ++ s ∷ []) k ≡ onto xs (before s k)
onto_end [] s k = refl
onto_end (x ∷ xs) s k = ap (before x) (onto_end xs s k)

-- an item is written
pub writes_item : (old new : List Statement) (place : Place) (item : Item) → new ≡ old ++ Simple place item ∷ [] → Writes (λ k. Do place item k) old new
writes_item old new place item e k = ap (λ (xs : List Statement). onto xs k) e ∙ onto_end old (Simple place item) k

pub form_onto : (xs : List Statement) → form_of xs ≡ onto xs Done
form_onto [] = refl
form_onto (x ∷ xs) = ap (before x) (form_onto xs)
