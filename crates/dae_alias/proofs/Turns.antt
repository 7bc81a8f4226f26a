-- Statements are turned one after the other.
use Rattle.std.proofs.Common.{◌≡◌, ℕ, zero, suc, ◌+◌, ◌^◌, ◌<◌, ◌≤◌, List, [], ◌∷◌, ◌++◌, length, drop, get_or, refl, ap, sym, ◌∙◌, arith}
use Rattle.std.specs.Prelude.{Vec}
use Rattle.std.specs.declared.alloc.Global.{Global}
use Rattle.dae_base.specs.declared.Place.{Place}
use Rattle.dae_ir.specs.Code.{Done, If, Loop}
use Rattle.dae_ir.specs.Form.{Form, before, form_of}
use Rattle.dae_ir.specs.declared.form.Test.{Test}
use Rattle.dae_ir.specs.declared.form.Statement.{Statement, Simple, If', Loop'}
use Rattle.dae_ir.specs.declared.form.Statement.TheVariants as statement
use Rattle.dae_ir.proofs.Laws.{before_if, before_loop}
use Rattle.dae_alias.specs.declared.held.Held.{Held}
use Rattle.dae_alias.specs.declared.walking.Walk.{Walk}
use Rattle.dae_alias.specs.declared.turning.ReusedList.{ReusedList}
use Rattle.dae_alias.specs.Meeting.{known_in, held_by}
use Rattle.dae_alias.specs.Stretches.{KnownInStretch, nothing}
use Rattle.dae_alias.specs.Reuse.{Holders, loads_in, reused}
use Rattle.dae_alias.specs.Turning.{onto, reused_from, TurnsInto, IsTurned}
use Rattle.dae_alias.proofs.Onto.{onto_end, form_onto}

-- what a walk with these contents goes on with
from_same : (h : Holders) (w : Walk) (s : KnownInStretch) (held : List Held) (l : ℕ) (k : Form) → known_in w ≡ s → held_by w ≡ held → w.loads ≡ l → reused_from h w k ≡ reused h s held l k
from_same h w s held l k e d c = rw (e, d, c) refl

module _ (h : Holders) (old new : Walk) (out out' : List Statement) (p q : ReusedList) (yes no' : Vec Statement Global) (first : IsTurned h yes.items old.loads p) (second : IsTurned h no'.items p.loads q)
    (known : known_in new ≡ nothing) (held : held_by new ≡ []) (count : new.loads ≡ q.loads) where
  total : new.loads ≡ old.loads + loads_in (form_of yes.items) + loads_in (form_of no'.items)
  total = count ∙ second.loads ∙ ap (λ (l : ℕ). l + loads_in (form_of no'.items)) first.loads

  second_code : form_of (let xs = q.statements in xs.items) ≡ reused h nothing [] (old.loads + loads_in (form_of yes.items)) (form_of no'.items)
  second_code = second.code ∙ ap (λ (l : ℕ). reused h nothing [] l (form_of no'.items)) first.loads

  pub if_turns : (place : Place) (test : Test) → out' ≡ out ++ statement.If place test p.statements q.statements ∷ [] → TurnsInto h (statement.If place test yes no') old new out out'
  if_turns place test e = record {
    written = λ k.
        ap (λ (xs : List Statement). onto xs (reused_from h new k)) e ∙ onto_end out (statement.If place test p.statements q.statements) (reused_from h new k)
        ∙ ap (λ (c : Form). onto out c)
        (before_if place test p.statements q.statements (reused_from h new k)
        ∙ rw (first.code, second_code, from_same h new nothing [] (old.loads + loads_in (form_of yes.items) + loads_in (form_of no'.items)) k known held total) refl
        ∙ sym (ap (λ (c : Form). reused_from h old c) (before_if place test yes no' k)));
    loads = total ∙ (let e : loads_in (before (statement.If place test yes no') Done) ≡ loads_in (If place test (form_of yes.items) (form_of no'.items) Done) = ap loads_in (before_if place test yes no' Done) in omega (arith, e));
  }

  pub loop_turns : (place : Place) → out' ≡ out ++ statement.Loop place p.statements q.statements ∷ [] → TurnsInto h (statement.Loop place yes no') old new out out'
  loop_turns place e = record {
    written = λ k.
        ap (λ (xs : List Statement). onto xs (reused_from h new k)) e ∙ onto_end out (statement.Loop place p.statements q.statements) (reused_from h new k)
        ∙ ap (λ (c : Form). onto out c)
        (before_loop place p.statements q.statements (reused_from h new k)
        ∙ rw (first.code, second_code, from_same h new nothing [] (old.loads + loads_in (form_of yes.items) + loads_in (form_of no'.items)) k known held total) refl
        ∙ sym (ap (λ (c : Form). reused_from h old c) (before_loop place yes no' k)));
    loads = total ∙ (let e : loads_in (before (statement.Loop place yes no') Done) ≡ loads_in (Loop place (form_of yes.items) (form_of no'.items) Done) = ap loads_in (before_loop place yes no' Done) in omega (arith, e));
  }

-- ---- lists

pub drop_one : (xs : List Statement) (i : ℕ) (d : Statement) → i < length xs → drop i xs ≡ get_or xs i d ∷ drop (i + 1) xs
drop_one [] i d lt = absurd (omega (arith, lt))
drop_one (x ∷ xs) zero d lt = refl
drop_one (x ∷ xs) (suc i) d lt = let e : suc (i + 1) ≡ suc i + 1 = omega arith in drop_one xs i d (omega (arith, lt)) ∙ ap (λ (k : ℕ). get_or xs i d ∷ drop k (x ∷ xs)) e

pub drop_end : (xs : List Statement) (i : ℕ) → length xs ≤ i → drop i xs ≡ []
drop_end [] zero le = refl
drop_end [] (suc i) le = refl
drop_end (x ∷ xs) zero le = absurd (omega (arith, le))
drop_end (x ∷ xs) (suc i) le = drop_end xs i (omega (arith, le))

pub loads_behind : (s : Statement) (k : Form) → loads_in (before s k) ≡ loads_in (before s Done) + loads_in k
loads_behind (Simple place item) k = omega arith
loads_behind (If' place test m p n q) k = omega arith
loads_behind (Loop' place m p n q) k = omega arith

-- the statements before number i were turned
pub record Turned (h : Holders) (l : ℕ) (ss : List Statement) (i : ℕ) (w : Walk) (out : List Statement) : Type 0 where
  pub code : onto out (reused_from h w (form_of (drop i ss))) ≡ reused h nothing [] l (form_of ss)
  pub count : w.loads + loads_in (form_of (drop i ss)) ≡ l + loads_in (form_of ss)

-- before the first one, where a stretch begins
pub turned_first : (h : Holders) (l : ℕ) (ss : List Statement) (w : Walk) (out : List Statement) → known_in w ≡ nothing → held_by w ≡ [] → w.loads ≡ l → out ≡ [] → Turned h l ss 0 w out
turned_first h l ss w out known held count none = record {
  code = ap (λ (xs : List Statement). onto xs (reused_from h w (form_of ss))) none ∙ from_same h w nothing [] l (form_of ss) known held count;
  count = omega (arith, count);
}

pub turned_next : (h : Holders) (l : ℕ) (ss : List Statement) (i : ℕ) (s : Statement) (old new : Walk) (out out' : List Statement) → i < length ss → s ≡ get_or ss i s → Turned h l ss i old out → TurnsInto h s old new out out' → Turned h l ss (i + 1) new out'
turned_next h l ss i s old new out out' lt is so_far t =
    let split : form_of (drop i ss) ≡ before s (form_of (drop (i + 1) ss)) = ap form_of (drop_one ss i s lt) ∙ ap (λ (z : Statement). before z (form_of (drop (i + 1) ss))) (sym is) in
    record {
      code = t.written (form_of (drop (i + 1) ss)) ∙ ap (λ (c : Form). onto out (reused_from h old c)) (sym split) ∙ so_far.code;
      count = (let a = t.loads in let b = so_far.count in let c = ap loads_in split in let d = loads_behind s (form_of (drop (i + 1) ss)) in omega (arith, a, b, c, d));
    }

pub turned_end : (h : Holders) (l : ℕ) (ss : List Statement) (i : ℕ) (w : Walk) (out : Vec Statement Global) → length ss ≤ i → Turned h l ss i w out.items → IsTurned h ss l (record { statements = out; loads = w.loads })
turned_end h l ss i w out le t =
    let none : form_of (drop i ss) ≡ Done = ap form_of (drop_end ss i le) in
    record {
      code = form_onto out.items ∙ sym (ap (λ (c : Form). onto out.items (reused_from h w c)) none) ∙ t.code;
      loads = (let a = t.count in let b = ap loads_in none in omega (arith, a, b));
    }

-- ---- room for the loads

-- where there is room for all loads there is room for those of a statement, behind those before it
pub room_for_turn : (h : Holders) (l : ℕ) (ss : List Statement) (i : ℕ) (s : Statement) (w : Walk) (out : List Statement) → i < length ss → s ≡ get_or ss i s → Turned h l ss i w out
    → l + loads_in (form_of ss) < 2 ^ 64 → w.loads + loads_in (before s Done) < 2 ^ 64
room_for_turn h l ss i s w out lt is so_far room =
    let split : form_of (drop i ss) ≡ before s (form_of (drop (i + 1) ss)) = ap form_of (drop_one ss i s lt) ∙ ap (λ (z : Statement). before z (form_of (drop (i + 1) ss))) (sym is) in
    let b = so_far.count in let c = ap loads_in split in let d = loads_behind s (form_of (drop (i + 1) ss)) in omega (arith, room, b, c, d)

pub loads_of_if : (place : Place) (test : Test) (taken other : Vec Statement Global) → loads_in (before (statement.If place test taken other) Done) ≡ loads_in (form_of taken.items) + loads_in (form_of other.items)
loads_of_if place test taken other =
    let e : loads_in (before (statement.If place test taken other) Done) ≡ loads_in (If place test (form_of taken.items) (form_of other.items) Done) = ap loads_in (before_if place test taken other Done) in omega (arith, e)

pub loads_of_loop : (place : Place) (body step : Vec Statement Global) → loads_in (before (statement.Loop place body step) Done) ≡ loads_in (form_of body.items) + loads_in (form_of step.items)
loads_of_loop place body step =
    let e : loads_in (before (statement.Loop place body step) Done) ≡ loads_in (Loop place (form_of body.items) (form_of step.items) Done) = ap loads_in (before_loop place body step Done) in omega (arith, e)
