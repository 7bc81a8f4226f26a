use Rattle.std.proofs.Common.{List, refl, sym, subst}
use Rattle.dae_ir.specs.Form.{form_of}
use Rattle.dae_ir.specs.declared.form.Statement.{Statement}
use Rattle.dae_threads.specs.Threaded.{IsThreaded, InTurn}
use Rattle.dae_threads.proofs.whole.thread_function.Goals as goal

pub returns : goal.returns
returns c =
    let f = c.args.function in
    let mid = c.in_ok-threaded.threaded in
    let body = c.in_ok-body.body in
    let threaded : IsThreaded (form_of f.body) (form_of mid.items) = subst (λ (xs : List Statement). IsThreaded (form_of xs) (form_of mid.items)) c.as_slice.ensures c.in_ok-threaded.ensures in
    let flat : IsThreaded (form_of mid.items) (form_of body.items) = subst (λ (xs : List Statement). IsThreaded (form_of xs) (form_of body.items)) c.deref.ensures.value c.in_ok-body.ensures in
    let all : IsThreaded (form_of f.body) (form_of body.items) = InTurn (form_of f.body) (form_of mid.items) (form_of body.items) threaded flat in
    record {
      name = refl;
      parameters = refl;
      variables = refl;
      frame = refl;
      body = subst (λ (xs : List Statement). IsThreaded (form_of f.body) (form_of xs)) (sym c.from_vec.ensures) all;
    }
