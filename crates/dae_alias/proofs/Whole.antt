-- Whole functions and forms whose loads are reused.
use Rattle.std.proofs.Common.{◌≡◌, ℕ, ◌+◌, Bool, false, ◌&&◌, List, [], ◌∷◌, ◌++◌, Option, Some, refl, ap, sym, ◌∙◌, arith}
use Rattle.std.proofs.lemmas.Option.{MatchOption-at_some}
use Rattle.std.specs.List.{list_all}
use Rattle.std.specs.Vec.Iter.{into_iter_items, into_iter_steps}
use Rattle.std.specs.declared.vec.IntoIter.{IntoIter}
use Rattle.dae_base.proofs.Laws.{and_false}
use Rattle.dae_ir.specs.Form.{form_of}
use Rattle.dae_ir.specs.declared.form.Statement.{Statement}
use Rattle.dae_ir.specs.declared.form.Function.{Function}
use Rattle.dae_alias.specs.declared.tables.Table.{Table}
use Rattle.dae_alias.specs.declared.turning.ReusedList.{ReusedList}
use Rattle.dae_alias.specs.Stretches.{nothing}
use Rattle.dae_alias.specs.Reuse.{reused}
use Rattle.dae_alias.specs.Laws.{sum_from, one}
use Rattle.dae_alias.specs.Forms.{IsReusedFunction, AreReused, is_reusable}
use Rattle.dae_alias.specs.Turning.{holders_of, IsTurned}
use Rattle.dae_alias.specs.Marking.{AreRepeated}
use Rattle.dae_alias.specs.Tables.{numbered, IsTable}
use Rattle.dae_alias.proofs.Numbered.{sum_numbered, entry_marked, marked_entry, entry_within, entry_apart}

-- what is made of a function, by marks, a table and its turned statements
pub reused_function : (f : Function) (marks : List Bool) (table : Table) (part : ReusedList) (body : List Statement) → AreRepeated f.body marks → IsTable marks f.variables table
    → IsTurned (holders_of (let xs = table.holders in xs.items)) f.body 0 part → body ≡ (let xs = part.statements in xs.items)
    → IsReusedFunction f (record { name = f.name; parameters = f.parameters; variables = table.variables; frame = f.frame; body = body })
reused_function f marks table part body a t p e = record {
  holders = holders_of (numbered f.variables marks);
  name = refl;
  parameters = refl;
  frame = refl;
  body = ap form_of e ∙ p.code ∙ ap (λ (xs : List (Option ℕ)). reused (holders_of xs) nothing [] 0 (form_of f.body)) t.holders;
  variables =
      t.variables
      ∙ ap (λ (k : ℕ). f.variables + k)
      (sym (sum_numbered f.variables marks) ∙ ap (λ (c : ℕ). sum_from (λ i. one (holders_of (numbered f.variables marks) i)) 0 c) a.loads);
  inside = λ i u is. (let w = entry_within f.variables marks i u is in let b = w.0 in let d = w.1 in let v = t.variables in (b, omega (arith, d, v)));
  apart = entry_apart f.variables marks;
  repeated = λ i is. marked_entry f.variables marks i (a.told i ∙ is);
  only = λ i u is. sym (a.told i) ∙ entry_marked f.variables marks i u is;
}

pub reused_push : (fs gs : List Function) (f g : Function) → AreReused fs gs → IsReusedFunction f g → AreReused (fs ++ f ∷ []) (gs ++ g ∷ [])
reused_push [] [] f g a r = (r, tt)
reused_push [] (y ∷ ys) f g a r = absurd a
reused_push (x ∷ xs) [] f g a r = absurd a
reused_push (x ∷ xs) (y ∷ ys) f g a r = (a.0, reused_push xs ys f g a.1 r)

-- ---- a function with too many variables among those that are left

pub next_of : {X Z : Type 0} (s t : IntoIter X Z) (r : Option X) (x : X) → r ≡ Some x → into_iter_steps s r t → into_iter_items s ≡ x ∷ into_iter_items t
next_of s t r x is steps = let p = MatchOption-at_some _ _ x is steps in p.0

pub many_first : (fs gs : List Function) (f : Function) → fs ≡ f ∷ gs → is_reusable f ≡ false → list_all is_reusable fs ≡ false
many_first fs gs f is none = ap (λ (xs : List Function). list_all is_reusable xs) is ∙ ap (λ (b : Bool). b && list_all is_reusable gs) none

pub many_later : (fs gs : List Function) (f : Function) → fs ≡ f ∷ gs → list_all is_reusable gs ≡ false → list_all is_reusable fs ≡ false
many_later fs gs f is none =
    ap (λ (xs : List Function). list_all is_reusable xs) is ∙ ap (λ (b : Bool). is_reusable f && b) none ∙ and_false (is_reusable f)
