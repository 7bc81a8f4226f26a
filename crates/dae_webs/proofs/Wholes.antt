-- Whole functions whose variables are renamed by webs.
use Rattle.std.proofs.Common.{◌≡◌, ℕ, ◌+◌, ◌-◌, ◌*◌, ◌<◌, ◌≤◌, Bool, true, false, nat_eq, if◌then◌else◌, List, [], ◌∷◌, ◌++◌, length, Option, Some, None, refl, ap, ◌∙◌, subst, arith}
use Rattle.std.proofs.lemmas.Bool.{eqb-true, ltb-true, lt-ltb}
use Rattle.std.proofs.lemmas.Option.{slice_get_within}
use Rattle.std.specs.Prelude.{Vec, nat_lt, slice_get}
use Rattle.std.specs.declared.alloc.Global.{Global}
use Rattle.dae_ir.specs.Form.{form_of}
use Rattle.dae_ir.specs.declared.form.Function.{Function}
use Rattle.dae_ir.specs.declared.form.Statement.{Statement}
use Rattle.dae_webs.specs.declared.plan.WebPlan.{WebPlan}
use Rattle.dae_webs.specs.declared.plan.Renaming.{Renaming}
use Rattle.dae_webs.specs.Current.{Current, own_webs}
use Rattle.dae_webs.specs.Renamed.{renamed_code}
use Rattle.dae_webs.specs.Known.{IsKnown}
use Rattle.dae_webs.specs.Planned.{is_entry, owns_web, starts_in, owns_in, ListRenamed}
use Rattle.dae_webs.specs.Forms.{IsRenamedFunction, IsRenamedOrSame, AreRenamedFunctions, with_body}

-- ---- owners

abbrev or_zero : Option ℕ → ℕ
or_zero None = 0
or_zero (Some u) = u

abbrev owner_of : ℕ → List ℕ → ℕ → ℕ
owner_of variables owners u = if nat_lt u variables then u else or_zero (slice_get owners (u - variables))

own_owner : (variables : ℕ) (owners : List ℕ) (v : ℕ) → v < variables → owner_of variables owners v ≡ v
own_owner variables owners v lt = rw (lt-ltb v variables lt) refl

owned_by : (variables : ℕ) (owners : List ℕ) (u v : ℕ) → owns_web variables owners u v ≡ true → (owner_of variables owners u ≡ v) × (u < variables + length owners)
owned_by variables owners u v h = by (nat_lt u variables) refl h where
  further : (o : Option ℕ) → slice_get owners (u - variables) ≡ o → is_entry o v ≡ true → (or_zero o ≡ v) × (u < variables + length owners)
  further None e h = absurd cc
  further (Some w) e h = let lt = slice_get_within owners (u - variables) w e in (eqb-true w v h, omega (arith, lt))

  by : (b : Bool) → nat_lt u variables ≡ b → (if b then nat_eq u v else is_entry (slice_get owners (u - variables)) v) ≡ true
      → ((if b then u else or_zero (slice_get owners (u - variables))) ≡ v) × (u < variables + length owners)
  by true e h = let lt = ltb-true u variables e in (eqb-true u v h, omega (arith, lt))
  by false e h = further (slice_get owners (u - variables)) refl h

-- ---- a function

pub body_renamed : (f : Function) (plan : WebPlan) (w : Vec (Option ℕ) Global) (now : Renaming) (n : ℕ) (ss : List Statement)
    → plan.variables ≡ f.variables → w.items ≡ own_webs 0 f.variables → ListRenamed plan f.body (record { webs = w; definitions = 0 }) now ss
    → n ≡ plan.variables + length (let xs = plan.owners in xs.items) → 2 * n ≤ 2 * plan.variables + (plan.variables - 9)
    → IsRenamedFunction f (with_body f n ss)
body_renamed f plan w now n ss same own l count few =
    let owners : List ℕ = let xs = plan.owners in xs.items in
    record {
      starts = starts_in plan;
      owns = owns_in plan;
      owner = owner_of plan.variables owners;
      name = refl;
      parameters = refl;
      frame = refl;
      own = λ v lt. own_owner plan.variables owners v (omega (arith, same, lt));
      owned = λ u v h. (let o = owned_by plan.variables owners u v h in let lt = o.1 in (o.0, omega (arith, lt, count)));
      body = l.code ∙ ap (λ (z : Current). renamed_code (starts_in plan) 0 z (form_of f.body)) own;
      known = subst (λ (z : Current). IsKnown (owns_in plan) (starts_in plan) 0 z (form_of f.body)) own l.known;
      least = omega (arith, same, count);
      most = subst (λ (k : ℕ). 2 * n ≤ 2 * k + (k - 9)) same few;
    }

pub renamed_push : (fs gs : List Function) (f g : Function) → AreRenamedFunctions fs gs → IsRenamedOrSame f g → AreRenamedFunctions (fs ++ f ∷ []) (gs ++ g ∷ [])
renamed_push [] [] f g a r = (r, tt)
renamed_push [] (y ∷ ys) f g a r = absurd a
renamed_push (x ∷ xs) [] f g a r = absurd a
renamed_push (x ∷ xs) (y ∷ ys) f g a r = (a.0, renamed_push xs ys f g a.1 r)
