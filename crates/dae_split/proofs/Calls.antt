-- The calls of nested statements, and of the statements of a list.
use Rattle.std.proofs.Common.{◌≡◌, ℕ, ◌+◌, ◌<◌, List, length, get_or, drop, subst, sym}
use Rattle.std.specs.Prelude.{Vec}
use Rattle.std.specs.declared.alloc.Global.{Global}
use Rattle.dae_base.specs.declared.Place.{Place}
use Rattle.dae_base.proofs.Laws.{drop_at}
use Rattle.dae_ir.specs.Code.{Done, If, Loop}
use Rattle.dae_ir.specs.Form.{Form, before, form_of}
use Rattle.dae_ir.specs.declared.form.Function.{Function}
use Rattle.dae_ir.specs.declared.form.Test.{Test}
use Rattle.dae_ir.specs.declared.form.Statement.{Statement, Simple, If', Loop'}
use Rattle.dae_ir.specs.declared.form.Statement.TheVariants as statement
use Rattle.dae_split.specs.Making.{CallsFit}
use Rattle.dae_ir.proofs.Laws.{before_if, before_loop}

module _ (fs : List Function) where
  pub calls_in_if : (m : Place) (t : Test) (p q : Vec Statement Global) (s : Statement) → s ≡ statement.If m t p q → CallsFit fs (before s Done) → CallsFit fs (form_of p.items) × CallsFit fs (form_of q.items)
  calls_in_if m t p q s e h =
      let at : CallsFit fs (before (statement.If m t p q) Done) = subst (λ (x : Statement). CallsFit fs (before x Done)) e h in
      let g : CallsFit fs (If m t (form_of p.items) (form_of q.items) Done) = subst (CallsFit fs) (before_if m t p q Done) at in
      (g.1, g.2)

  pub calls_in_loop : (m : Place) (p q : Vec Statement Global) (s : Statement) → s ≡ statement.Loop m p q → CallsFit fs (before s Done) → CallsFit fs (form_of p.items) × CallsFit fs (form_of q.items)
  calls_in_loop m p q s e h =
      let at : CallsFit fs (before (statement.Loop m p q) Done) = subst (λ (x : Statement). CallsFit fs (before x Done)) e h in
      let g : CallsFit fs (Loop m (form_of p.items) (form_of q.items) Done) = subst (CallsFit fs) (before_loop m p q Done) at in
      (g.0, g.1)

  pub calls_before : (s : Statement) (k : Form) → CallsFit fs (before s k) → CallsFit fs (before s Done) × CallsFit fs k
  calls_before (Simple m item) k h = ((h.0, tt), h.1)
  calls_before (If' m t s p u q) k h = ((h.0, h.1, h.2, tt), h.3)
  calls_before (Loop' m s p u q) k h = ((h.0, h.1, tt), h.2)

  pub calls_from : (body : List Statement) (i : ℕ) (s : Statement) → i < length body → s ≡ get_or body i s → CallsFit fs (form_of (drop i body)) → CallsFit fs (before s Done) × CallsFit fs (form_of (drop (i + 1) body))
  calls_from body i s lt is h =
      calls_before s (form_of (drop (i + 1) body)) (subst (λ (l : List Statement). CallsFit fs (form_of l)) (drop_at body i s lt is) h)

  -- the same calls, at a slice of the items
  pub calls_at : (xs ys : List Statement) → xs ≡ ys → CallsFit fs (form_of ys) → CallsFit fs (form_of xs)
  calls_at xs ys e h = subst (λ (l : List Statement). CallsFit fs (form_of l)) (sym e) h
