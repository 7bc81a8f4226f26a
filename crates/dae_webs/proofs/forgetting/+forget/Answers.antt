use Rattle.std.proofs.Common.{ℕ, List, inl, inr, sym, subst}
use Rattle.dae_ir.specs.declared.form.Statement.{Statement}
use Rattle.dae_webs.specs.Current.{Current}
use Rattle.dae_webs.specs.Planned.{ListForgets, StatementForgets, starts_in}
use Rattle.dae_webs.specs.Renamed.{Starts}
use Rattle.dae_webs.proofs.Steps.{if_forgets, loop_forgets, ok_more}
use Rattle.dae_webs.proofs.forgetting.+forget.Goals as goal

pub forget_in_statement-returns-in_ok-middle-in-If :
    goal.forget_in_statement-returns-in_ok-middle-in-If
forget_in_statement-returns-in_ok-middle-in-If t c =
    let w = c.in-If in
    let b : Starts = starts_in c.args.plan.now in
    let i : ℕ = c.args.number in
    let j : ℕ = c.in_ok-middle-in-If.middle in
    let m : Current = c.args.webs.now.items in
    let m1 : Current = c.forget_in_list.new.webs.items in
    let m2 : Current = c.forget_in_list-in-If.new.webs.items in
    let first : ListForgets b w.first.items i j m m1 = subst (λ (xs : List Statement). ListForgets b xs i j m m1) c.deref-in-If.ensures.value c.in_ok-middle-in-If.ensures in
    ok_more c.forget_in_list-in-If.result (λ n. ListForgets b c.deref-in-If-2.result.now j n m1 m2) (λ n. StatementForgets b c.args.statement.now i n m m2)
    (λ n h. (let second : ListForgets b w.second.items j n m1 m2 = subst (λ (xs : List Statement). ListForgets b xs j n m1 m2) c.deref-in-If-2.ensures.value h in
    elim w.is [
      | inl is ↦ subst (λ (s : Statement). StatementForgets b s i n m m2) (sym is.2) (if_forgets b w.first w.second i j n m m1 m2 first second is.0 is.1)
      | inr is ↦ subst (λ (s : Statement). StatementForgets b s i n m m2) (sym is.1) (loop_forgets b w.first w.second i j n m m1 m2 first second is.0)
    ])) c.forget_in_list-in-If.ensures
