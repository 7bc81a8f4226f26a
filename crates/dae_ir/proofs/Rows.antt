-- Statements and steps that hold others in a vector.
use Rattle.std.proofs.Common.{◌≡◌, ◌↔◌, Bool, ◌&&◌, List, refl, ap, ◌∙◌}
use Rattle.std.specs.Prelude.{Vec}
use Rattle.std.specs.declared.alloc.Global.{Global}
use mathlib.Core.Former.{Count}
use Rattle.dae_base.specs.declared.Place.{Place}
use Rattle.dae_base.proofs.Laws.{and_along}
use Rattle.dae_ir.specs.Code.{Each, Done, If, Loop}
use Rattle.dae_ir.specs.Form.{Form, before, row, form_of, all_items}
use Rattle.dae_ir.specs.Streams.{Actions, onto, step_onto, steps_row}
use Rattle.dae_ir.specs.declared.form.Test.{Test}
use Rattle.dae_ir.specs.declared.form.Item.{Item}
use Rattle.dae_ir.specs.declared.form.Statement.{Statement, Simple, If', Loop', Row_of-Statement, end_of-Statement, more_of-Statement, items-the_row-Statement, items_hidden-the_row-Statement-0}
use Rattle.dae_ir.specs.declared.form.Statement.TheVariants as statement
use Rattle.dae_ir.specs.declared.stream.Branch.{Branch}
use Rattle.dae_ir.specs.declared.stream.Mark.{Mark}
use Rattle.dae_ir.specs.declared.stream.Step.{Step, Row_of-Step, end_of-Step, more_of-Step, items-the_row-Step, items_hidden-the_row-Step-0}
use Rattle.dae_ir.specs.declared.stream.Step.TheVariants as step

rows : (n : _) (r : Row_of-Statement n) → row r Done ≡ form_of (items-the_row-Statement n r)
rows n end_of-Statement = refl
rows n (more_of-Statement s rest) = ap (before s) (rows _ rest)

step_rows : (n : _) (r : Row_of-Step n) → steps_row r Done ≡ onto (items-the_row-Step n r) Done
step_rows n end_of-Step = refl
step_rows n (more_of-Step s rest) = ap (step_onto s) (step_rows _ rest)

-- the first list of a statement and the second
abbrev first : Statement → (n : Count) × Row_of-Statement n
first (If' m t s p u q) = (_, p)
first (Loop' m s p u q) = (_, p)
first _ = (_, end_of-Statement)

abbrev second : Statement → (n : Count) × Row_of-Statement n
second (If' m t s p u q) = (_, q)
second (Loop' m s p u q) = (_, q)
second _ = (_, end_of-Statement)

-- and of a step
abbrev step_first : Step → (n : Count) × Row_of-Step n
step_first (step.If' m t s p u q) = (_, p)
step_first (step.Loop' m s p u q) = (_, p)
step_first _ = (_, end_of-Step)

abbrev step_second : Step → (n : Count) × Row_of-Step n
step_second (step.If' m t s p u q) = (_, q)
step_second (step.Loop' m s p u q) = (_, q)
step_second _ = (_, end_of-Step)

pub before_if : (m : Place) (t : Test) (p q : Vec Statement Global) (k : Form) → before (statement.If m t p q) k ≡ If m t (form_of p.items) (form_of q.items) k
before_if m t p q k =
    let x = first (statement.If m t p q) in
    let y = second (statement.If m t p q) in
    ap (λ (u : Form). If m t u (row y.1 Done) k) (rows x.0 x.1 ∙ ap form_of (items_hidden-the_row-Statement-0 p))
    ∙ ap (λ (u : Form). If m t (form_of p.items) u k) (rows y.0 y.1 ∙ ap form_of (items_hidden-the_row-Statement-0 q))

pub before_loop : (m : Place) (p q : Vec Statement Global) (k : Form) → before (statement.Loop m p q) k ≡ Loop m (form_of p.items) (form_of q.items) k
before_loop m p q k =
    let x = first (statement.Loop m p q) in
    let y = second (statement.Loop m p q) in
    ap (λ (u : Form). Loop m u (row y.1 Done) k) (rows x.0 x.1 ∙ ap form_of (items_hidden-the_row-Statement-0 p))
    ∙ ap (λ (u : Form). Loop m (form_of p.items) u k) (rows y.0 y.1 ∙ ap form_of (items_hidden-the_row-Statement-0 q))

-- each item of a statement passes a test, and each of what is behind it
pub items_of_if : (f : Item → Bool) (m : Place) (t : Test) (p q : Vec Statement Global) (s : Statement) (k : Form) → s ≡ statement.If m t p q
    → all_items f (before s k) ≡ ((all_items f (form_of p.items) && all_items f (form_of q.items)) && all_items f k)
items_of_if f m t p q s k e =
    ap (λ (x : Statement). all_items f (before x k)) e ∙ ap (λ (x : Form). all_items f x) (before_if m t p q k)
    ∙ and_along (all_items f (form_of p.items)) (all_items f (form_of q.items)) (all_items f k)

pub items_of_loop : (f : Item → Bool) (m : Place) (p q : Vec Statement Global) (s : Statement) (k : Form) → s ≡ statement.Loop m p q
    → all_items f (before s k) ≡ ((all_items f (form_of p.items) && all_items f (form_of q.items)) && all_items f k)
items_of_loop f m p q s k e =
    ap (λ (x : Statement). all_items f (before x k)) e ∙ ap (λ (x : Form). all_items f x) (before_loop m p q k)
    ∙ and_along (all_items f (form_of p.items)) (all_items f (form_of q.items)) (all_items f k)

-- each item and test of a statement, and of what is behind it
pub each_before : (I : Item → Type 0) (J : Test → Type 0) (s : Statement) (k : Form) → Each I J (before s k) ↔ (Each I J (before s Done) × Each I J k)
each_before I J (Simple place item) k = (λ h. ((h.0, tt), h.1), λ h. (h.0.0, h.1))
each_before I J (If' place t s p u q) k = (λ h. ((h.0, h.1, h.2, tt), h.3), λ h. (h.0.0, h.0.1, h.0.2, h.1))
each_before I J (Loop' place s p u q) k = (λ h. ((h.0, h.1, tt), h.2), λ h. (h.0.0, h.0.1, h.1))

abbrev onto_done : List Step → Actions
onto_done xs = onto xs Done

pub onto_if : (m : Mark) (t : Branch) (p q : Vec Step Global) (k : Actions) → step_onto (step.If m t p q) k ≡ If m t (onto p.items Done) (onto q.items Done) k
onto_if m t p q k =
    let x = step_first (step.If m t p q) in
    let y = step_second (step.If m t p q) in
    ap (λ (u : Actions). If m t u (steps_row y.1 Done) k) (step_rows x.0 x.1 ∙ ap onto_done (items_hidden-the_row-Step-0 p))
    ∙ ap (λ (u : Actions). If m t (onto p.items Done) u k) (step_rows y.0 y.1 ∙ ap onto_done (items_hidden-the_row-Step-0 q))

pub onto_loop : (m : Mark) (p q : Vec Step Global) (k : Actions) → step_onto (step.Loop m p q) k ≡ Loop m (onto p.items Done) (onto q.items Done) k
onto_loop m p q k =
    let x = step_first (step.Loop m p q) in
    let y = step_second (step.Loop m p q) in
    ap (λ (u : Actions). Loop m u (steps_row y.1 Done) k) (step_rows x.0 x.1 ∙ ap onto_done (items_hidden-the_row-Step-0 p))
    ∙ ap (λ (u : Actions). Loop m (onto p.items Done) u k) (step_rows y.0 y.1 ∙ ap onto_done (items_hidden-the_row-Step-0 q))
