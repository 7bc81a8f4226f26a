-- The budget of a form's pair is enough for each round of each function.
use Rattle.std.proofs.Common.{◌≡◌, ℕ, zero, suc, ◌+◌, ◌≤◌, Bool, true, false, List, [], ◌∷◌, if◌then◌else◌, subst, arith}
use Rattle.std.specs.Prelude.{slice_get}
use Rattle.std.specs.List.{list_any}
use Rattle.std.proofs.lemmas.Bool.{or_left, or_right}
use Rattle.dae_base.specs.declared.Depths.{Depths}
use Rattle.dae_ir.specs.Code.{Done, Do, If, Loop, Each}
use Rattle.dae_ir.specs.Form.{form_of}
use Rattle.dae_ir.specs.Classes.{Classes, classes_of}
use Rattle.dae_ir.specs.Rounds.{rounds}
use Rattle.dae_ir.specs.Streams.{Actions, stream_of, actions_of}
use Rattle.dae_ir.specs.Programs.{body_in, AreFunctionsOf}
use Rattle.dae_ir.specs.Budgets.{some, never, is_told, is_own_load, is_address, is_datum, is_message, is_load_for_e, is_copy}
use Rattle.dae_ir_pair.specs.Budget.{BudgetCovers}
use Rattle.dae_ir_pair.proofs.Tails.{Bounded}
use Rattle.dae_ir_pair.proofs.CoverA.{AllA, side_within as a_within}
use Rattle.dae_ir_pair.proofs.CoverE.{AllE, side_within as e_within}
use Rattle.dae_ir_pair.proofs.CoverCounts.{loads_within, copies_within}
use Rattle.dae_ir.specs.declared.form.Function.{Function}
use Rattle.dae_ir.specs.declared.stream.Action.{Action}
use Rattle.dae_ir.specs.declared.stream.Branch.{Branch}
use Rattle.dae_ir.specs.declared.stream.StreamFunction.{StreamFunction}

-- of each function's actions
abbrev Every : (Actions → Type 0) → List StreamFunction → Type 0
Every P [] = Unit {0}
Every P (g ∷ gs) = P (actions_of g.body) × Every P gs

-- X follows from such an action or branch
abbrev Follows : (Action → Bool) → (Branch → Bool) → Type 0 → Actions → Type 0
Follows f h X code = Each (λ x. f x ≡ true → X) (λ b. h b ≡ true → X) code

-- what follows from some such action follows from each
each_of : (f : Action → Bool) (h : Branch → Bool) (X : Type 0) (code : Actions) → (some f h code ≡ true → X) → Follows f h X code
each_of f h X Done k = tt
each_of f h X (Do m x code) k = ((λ e. k (or_left (f x) _ e)), each_of f h X code (λ e. k (or_right (f x) _ e)))
each_of f h X (If m b p q code) k =
    let ps = some f h p in
    let qs = some f h q in
    let ks = some f h code in (
      (λ e. k (or_left (h b) _ e)),
      each_of f h X p (λ e. k (or_right (h b) _ (or_left ps _ e))),
      each_of f h X q (λ e. k (or_right (h b) _ (or_right ps _ (or_left qs _ e)))),
      each_of f h X code (λ e. k (or_right (h b) _ (or_right ps _ (or_right qs _ e)))),
    )
each_of f h X (Loop m p q code) k =
    let ps = some f h p in
    let qs = some f h q in
    (each_of f h X p (λ e. k (or_left ps _ e)), each_of f h X q (λ e. k (or_right ps _ (or_left qs _ e))), each_of f h X code (λ e. k (or_right ps _ (or_right qs _ e))))

each_in : (f : Action → Bool) (h : Branch → Bool) (X : Type 0) (gs : List StreamFunction) → (list_any (λ g. some f h (actions_of g.body)) gs ≡ true → X) → Every (Follows f h X) gs
each_in f h X [] k = tt
each_in f h X (g ∷ gs) k =
    (each_of f h X (actions_of g.body) (λ e. k (or_left (some f h (actions_of g.body)) _ e)), each_in f h X gs (λ e. k (or_right (some f h (actions_of g.body)) _ e)))

one : (n : ℕ) (b : Bool) → n ≡ (if b then 1 else 0) → b ≡ true → 1 ≤ n
one n true is h = omega (arith, is)
one n false is h = absurd (let e : false ≡ true = h in cc)

zip_a : (d : Depths) (code : Actions) → Follows is_own_load never (1 ≤ d.al) code → Follows is_address never (1 ≤ d.sa) code → Follows is_message is_told (1 ≤ d.ab) code → AllA d code
zip_a d Done x y z = tt
zip_a d (Do m a k) x y z = ((x.0, y.0, z.0), zip_a d k x.1 y.1 z.1)
zip_a d (If m b p q k) x y z = (z.0, zip_a d p x.1 y.1 z.1, zip_a d q x.2 y.2 z.2, zip_a d k x.3 y.3 z.3)
zip_a d (Loop m p q k) x y z = (zip_a d p x.0 y.0 z.0, zip_a d q x.1 y.1 z.1, zip_a d k x.2 y.2 z.2)

zip_e : (d : Depths) (code : Actions) → Follows is_datum never (1 ≤ d.sd) code → Follows is_message is_told (1 ≤ d.eb) code → AllE d code
zip_e d Done x y = tt
zip_e d (Do m a k) x y = ((x.0, y.0), zip_e d k x.1 y.1)
zip_e d (If m b p q k) x y = (y.0, zip_e d p x.1 y.1, zip_e d q x.2 y.2, zip_e d k x.3 y.3)
zip_e d (Loop m p q k) x y = (zip_e d p x.0 y.0, zip_e d q x.1 y.1, zip_e d k x.2 y.2)

every_a : (d : Depths) (gs : List StreamFunction) → Every (Follows is_own_load never (1 ≤ d.al)) gs → Every (Follows is_address never (1 ≤ d.sa)) gs → Every (Follows is_message is_told (1 ≤ d.ab)) gs → Every (AllA d) gs
every_a d [] x y z = tt
every_a d (g ∷ gs) x y z = (zip_a d (actions_of g.body) x.0 y.0 z.0, every_a d gs x.1 y.1 z.1)

every_e : (d : Depths) (gs : List StreamFunction) → Every (Follows is_datum never (1 ≤ d.sd)) gs → Every (Follows is_message is_told (1 ≤ d.eb)) gs → Every (AllE d) gs
every_e d [] x y = tt
every_e d (g ∷ gs) x y = (zip_e d (actions_of g.body) x.0 y.0, every_e d gs x.1 y.1)

-- of the function at a place, which is a form's
at : (P : Actions → Type 0) → P Done → (by_a : Bool) (of : ℕ → Classes) (cap k j m : ℕ) → k + j ≡ m → (fs : List Function) (gs : List StreamFunction) → AreFunctionsOf by_a of cap k fs gs → Every P gs → P (stream_of by_a of (of m) cap (body_in (slice_get fs j)))
at P done by_a of cap k j m is [] [] h e = done
at P done by_a of cap k j m is [] (g ∷ gs) h e = absurd h
at P done by_a of cap k j m is (f ∷ fs) [] h e = absurd h
at P done by_a of cap k zero m is (f ∷ fs) (g ∷ gs) h e =
    let same : k ≡ m = omega (arith, is) in
    subst (λ (i : ℕ). P (stream_of by_a of (of i) cap (form_of f.body))) same (subst P h.0.body e.0)
at P done by_a of cap k (suc j) m is (f ∷ fs) (g ∷ gs) h e = at P done by_a of cap (k + 1) j m (omega (arith, is)) fs gs h.1 e.1

pub budget_covers : BudgetCovers
budget_covers ir tables cap pair d is budget f =
    let c = classes_of tables f in
    let ag = pair.a.functions in
    let es = pair.e.functions in
    let own = each_in is_own_load never (1 ≤ d.al) ag (one d.al _ budget.al) in
    let addresses = each_in is_address never (1 ≤ d.sa) ag (one d.sa _ budget.sa) in
    let told_a = each_in is_message is_told (1 ≤ d.ab) ag (one d.ab _ budget.ab) in
    let data' = each_in is_datum never (1 ≤ d.sd) es (one d.sd _ budget.sd) in
    let told_e = each_in is_message is_told (1 ≤ d.eb) es (one d.eb _ budget.eb) in
    let all_a = every_a d ag own addresses told_a in
    let all_e = every_e d es data' told_e in
    let body = body_in (slice_get ir.functions f) in
    record {
      a = a_within c d (classes_of tables) cap (rounds c cap true body []) 0 Done
          (at (AllA d) tt true (classes_of tables) cap 0 f f (omega arith) ir.functions ag is.a.functions all_a);
      e = e_within c d (classes_of tables) cap (rounds c cap true body []) 0 Done
          (at (AllE d) tt false (classes_of tables) cap 0 f f (omega arith) ir.functions es is.e.functions all_e);
      loads = loads_within c (classes_of tables) cap d.ld (rounds c cap true body []) 0 Done
          (at (Bounded is_load_for_e d.ld) ((λ g. omega arith), tt) true (classes_of tables) cap 0 f f (omega arith) ir.functions ag is.a.functions budget.ld.bound);
      copies = copies_within c (classes_of tables) cap d.cq (rounds c cap true body []) 0 Done
          (at (Bounded is_copy d.cq) ((λ g. omega arith), tt) true (classes_of tables) cap 0 f f (omega arith) ir.functions ag is.a.functions budget.cq.bound);
    }
