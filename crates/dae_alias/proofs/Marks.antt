-- Marks of the loads that are repeated.
use Rattle.std.proofs.Common.{◌≡◌, ◌⊎◌, ℕ, zero, suc, ◌+◌, ◌<◌, ◌≤◌, Bool, true, false, ◌&&◌, ◌||◌, nat_eq, if◌then◌else◌, List, [], ◌∷◌, ◌++◌, length, drop, drop_of_length-le, get_or, set, Option, Some, None, inl, inr, refl, ap, sym, ◌∙◌, subst, arith}
use Rattle.std.proofs.Math.Bool.{or_assoc, or-false}
use Rattle.std.proofs.lemmas.Bool.{eqb-true}
use Rattle.std.proofs.lemmas.List.{get_or-set_same, get_or-set_other, length-append, length-set}
use Rattle.std.specs.List.{AllByRecursion}
use Rattle.std.specs.Prelude.{Vec}
use Rattle.std.specs.declared.alloc.Global.{Global}
use Rattle.dae_base.specs.Words.{width_of}
use Rattle.dae_base.specs.declared.LoadKind.{LoadKind}
use Rattle.dae_base.specs.declared.Place.{Place}
use Rattle.dae_base.specs.declared.Width.{Width}
use Rattle.dae_base.proofs.Laws.{or_true}
use Rattle.dae_ir.specs.Code.{Done, Do}
use Rattle.dae_ir.specs.Form.{Form, before, form_of}
use Rattle.dae_ir.specs.declared.form.Operand.{Operand}
use Rattle.dae_ir.specs.declared.form.Test.{Test}
use Rattle.dae_ir.specs.declared.form.Item.{Item}
use Rattle.dae_ir.specs.declared.form.Item.TheVariants.{Assign, Load, Store, Print, Expect, Break, Continue, Call, Return, Halt}
use Rattle.dae_ir.specs.declared.form.Statement.{Statement, Simple}
use Rattle.dae_ir.specs.declared.form.Statement.TheVariants as statement
use Rattle.dae_ir.proofs.Laws.{before_if, before_loop}
use Rattle.dae_alias.specs.declared.addresses.SymAddr.{SymAddr}
use Rattle.dae_alias.specs.declared.held.Held.{Held}
use Rattle.dae_alias.specs.declared.walking.Walk.{Walk}
use Rattle.dae_alias.specs.Addresses.{same_kind, same_place, are_apart}
use Rattle.dae_alias.specs.Meeting.{Meets, known_in, held_by}
use Rattle.dae_alias.specs.Stretches.{KnownInStretch, nothing, symbol, after}
use Rattle.dae_alias.specs.Reuse.{held_in, still_held, is_load, loads_in, known_behind, held_behind, repeats, is_repeated}
use Rattle.dae_alias.specs.Turning.{held_after, Passes}
use Rattle.dae_alias.specs.Marking.{marked, IsAt, repeated_from, Marks, MarksAll}
use Rattle.dae_alias.proofs.Facts.{if_some, eq_refl}
use Rattle.dae_alias.proofs.Sets.{begun_once, met_once, passed_once}
use Rattle.dae_alias.proofs.Turns.{drop_one, loads_behind}

-- ---- lists of marks

marked_push : (xs : List Bool) (i : ℕ) → marked (xs ++ false ∷ []) i ≡ marked xs i
marked_push [] zero = refl
marked_push [] (suc i) = refl
marked_push (x ∷ xs) zero = refl
marked_push (x ∷ xs) (suc i) = marked_push xs i

not_true : true ≡ false → ⊥
not_true h = cc

differ : (n i : ℕ) → nat_eq n i ≡ false → i ≡ n → ⊥
differ n i e d = not_true (sym (subst (λ (k : ℕ). nat_eq n k ≡ true) (sym d) (eq_refl n)) ∙ e)

marked_set : (xs : List Bool) (n i : ℕ) → n < length xs → marked (set xs n true) i ≡ (marked xs i || nat_eq n i)
marked_set xs n i lt = by (nat_eq n i) refl where
  by : (b : Bool) → nat_eq n i ≡ b → marked (set xs n true) i ≡ (marked xs i || b)
  by true e = subst (λ (k : ℕ). get_or (set xs n true) k false ≡ true) (eqb-true n i e) (get_or-set_same xs n true false lt) ∙ sym (or_true (marked xs i))
  by false e = get_or-set_other xs n i true false (differ n i e) ∙ sym (or-false (marked xs i))

-- ---- what is held was met

abbrev AreMet : ℕ → List Held → Type 0
AreMet l held = AllByRecursion (λ (x : Held). x.number < l) held

met_more : (l m : ℕ) (held : List Held) → l ≤ m → AreMet l held → AreMet m held
met_more l m [] le all = tt
met_more l m (x ∷ xs) le all = (let lt = all.0 in omega (arith, lt, le), met_more l m xs le all.1)

met_still : (l : ℕ) (held : List Held) (at : SymAddr) (width : Width) → AreMet l held → AreMet l (still_held held at width)
met_still l [] at width all = tt
met_still l (x ∷ xs) at width all = by (are_apart x.at (width_of x.kind) at width) (met_still l xs at width all.1) where
  by : (b : Bool) → AreMet l (still_held xs at width) → AreMet l (if b then x ∷ still_held xs at width else still_held xs at width)
  by true rest = (all.0, rest)
  by false rest = rest

pub found_met : (l : ℕ) (held : List Held) (kind : LoadKind) (at : SymAddr) (g : Held) → AreMet l held → held_in held kind at ≡ Some g → g.number < l
found_met l [] kind at g all is = cc
found_met l (x ∷ xs) kind at g all is = by (λ e. found_met l xs kind at g all.1 e) (if_some (same_kind x.kind kind && same_place x.at at) x (held_in xs kind at) g is) where
  by : (held_in xs kind at ≡ Some g → g.number < l) → (((same_kind x.kind kind && same_place x.at at) ≡ true) × (x ≡ g)) ⊎ (((same_kind x.kind kind && same_place x.at at) ≡ false) × (held_in xs kind at ≡ Some g)) → g.number < l
  by more (inl e) = subst (λ (z : Held). z.number < l) e.1 all.0
  by more (inr e) = more e.1

met_after : (l : ℕ) (s : KnownInStretch) (held : List Held) (item : Item) → AreMet l held → AreMet l (held_after s held item)
met_after l s held (Assign v x) all = all
met_after l s held (Load v kind x) all = all
met_after l s held (Store width x y) all = met_still l held (symbol s x) width all
met_after l s held (Print spelling x) all = tt
met_after l s held (Expect check) all = all
met_after l s held Break all = tt
met_after l s held Continue all = tt
met_after l s held (Call v f xs) all = tt
met_after l s held (Return x) all = tt
met_after l s held (Halt x) all = tt

-- ---- what code behind a walk repeats

from_same : (i : ℕ) (w : Walk) (s : KnownInStretch) (held : List Held) (l : ℕ) (k : Form) → known_in w ≡ s → held_by w ≡ held → w.loads ≡ l → repeated_from i w k ≡ is_repeated i s held l k
from_same i w s held l k e d c = rw (e, d, c) refl

pass_repeats : (i : ℕ) (s : KnownInStretch) (held : List Held) (l : ℕ) (place : Place) (item : Item) (k : Form) → is_load item ≡ false
    → is_repeated i s held l (Do place item k) ≡ is_repeated i (after s item) (held_after s held item) l k
pass_repeats i s held l place (Assign v x) k no' = refl
pass_repeats i s held l place (Load v kind x) k no' = cc
pass_repeats i s held l place (Store width x y) k no' = refl
pass_repeats i s held l place (Print spelling x) k no' = refl
pass_repeats i s held l place (Expect check) k no' = refl
pass_repeats i s held l place Break k no' = refl
pass_repeats i s held l place Continue k no' = refl
pass_repeats i s held l place (Call v f xs) k no' = refl
pass_repeats i s held l place (Return x) k no' = refl
pass_repeats i s held l place (Halt x) k no' = refl

pub no_load : (item : Item) → ((v : ℕ) (kind : LoadKind) (x : Operand) → item ≡ Load v kind x → ⊥) → is_load item ≡ false
no_load (Assign v x) other = refl
no_load (Load v kind x) other = absurd (other v kind x refl)
no_load (Store width x y) other = refl
no_load (Print spelling x) other = refl
no_load (Expect check) other = refl
no_load Break other = refl
no_load Continue other = refl
no_load (Call v f xs) other = refl
no_load (Return x) other = refl
no_load (Halt x) other = refl

pub pass_marks : (place : Place) (item : Item) (old new : Walk) (marks : List Bool) → is_load item ≡ false → Passes item old new → IsAt old marks → Marks (Simple place item) old new marks marks
pass_marks place item old new marks no' p at = record {
  told = λ i k.
      ap (λ (r : Bool). marked marks i || r)
      (from_same i new (after (known_in old) item) (held_after (known_in old) (held_by old) item) old.loads k p.known p.held p.loads
      ∙ sym (pass_repeats i (known_in old) (held_by old) old.loads place item k no'));
  loads = p.loads ∙ rw no' (omega arith);
  at = record {
    count = at.count ∙ sym p.loads;
    met = rw (p.loads, p.held) (met_after old.loads (known_in old) (held_by old) item at.met);
  };
  once = passed_once (known_in old) (known_in new) item p.known;
}

-- ---- a load

module _ (place : Place) (v : ℕ) (kind : LoadKind) (x : Operand) (old new : Walk) (given : Option Held) (m : Meets v kind x old new given) (marks : List Bool) (at : IsAt old marks) where
  abbrev behind : ℕ → Option Held → Form → Bool
  behind i o k =
      is_repeated i (known_behind (known_in old) v o) (held_behind (known_in old) (held_by old) old.loads v kind x o) (suc old.loads) k

  one_more : new.loads ≡ suc old.loads
  one_more = let e = m.loads in omega (arith, e)

  from_new : (i : ℕ) (k : Form) → repeated_from i new k ≡ behind i given k
  from_new i k = from_same i new _ _ (suc old.loads) k m.known m.held one_more

  from_old : (i : ℕ) (k : Form) → (repeats i given || behind i given k) ≡ repeated_from i old (Do place (Load v kind x) k)
  from_old i k = ap (λ (o : Option Held). repeats i o || behind i o k) m.is

  met_behind : (o : Option Held) → AreMet (suc old.loads) (held_behind (known_in old) (held_by old) old.loads v kind x o)
  met_behind None = (omega arith, met_more old.loads (suc old.loads) (held_by old) (omega arith) at.met)
  met_behind (Some g) = met_more old.loads (suc old.loads) (held_by old) (omega arith) at.met

  -- another mark is put behind
  load_marks : (marks' : List Bool) → length marks' ≡ length marks + 1 → ((i : ℕ) → marked marks' i ≡ (marked marks i || repeats i given)) → Marks (Simple place (Load v kind x)) old new marks marks'
  load_marks marks' longer told = record {
    told = λ i k.
        ap (λ (r : Bool). marked marks' i || r) (from_new i k)
        ∙ ap (λ (b : Bool). b || behind i given k) (told i)
        ∙ or_assoc (marked marks i) (repeats i given) (behind i given k)
        ∙ ap (λ (b : Bool). marked marks i || b) (from_old i k);
    loads = m.loads ∙ omega arith;
    at = record {
      count = (let a = at.count in let b = m.loads in omega (arith, a, b, longer));
      met = rw (one_more, m.held) (met_behind given);
    };
    once = met_once (known_in old) (known_in new) v given m.known;
  }

  -- it repeats none
  pub load_first : (marks' : List Bool) → given ≡ None → marks' ≡ marks ++ false ∷ [] → Marks (Simple place (Load v kind x)) old new marks marks'
  load_first marks' none is =
      load_marks marks' (ap length is ∙ length-append marks (false ∷ []))
      (λ i. ap (λ (xs : List Bool). marked xs i) is ∙ marked_push marks i ∙ sym (or-false (marked marks i)) ∙ ap (λ (o : Option Held). marked marks i || repeats i o) (sym none))

  -- it repeats g, which is marked
  pub load_again : (marks' : List Bool) (g : Held) → given ≡ Some g → marks' ≡ set marks g.number true ++ false ∷ [] → Marks (Simple place (Load v kind x)) old new marks marks'
  load_again marks' g some is =
      let lt : g.number < old.loads = found_met old.loads (held_by old) kind (symbol (known_in old) x) g at.met (sym m.is ∙ some) in
      let within : g.number < length marks = (let e = at.count in omega (arith, lt, e)) in
      load_marks marks' (ap length is ∙ length-append (set marks g.number true) (false ∷ []) ∙ ap (λ (n : ℕ). n + 1) (length-set marks g.number true))
      (λ i. ap (λ (xs : List Bool). marked xs i) is ∙ marked_push (set marks g.number true) i ∙ marked_set marks g.number i within ∙ ap (λ (o : Option Held). marked marks i || repeats i o) (sym some))

-- ---- statements that hold others

or_three : (a b c d : Bool) → ((a || b) || c || d) ≡ (a || (b || (c || d)))
or_three true b c d = refl
or_three false true c d = refl
or_three false false c d = refl

module _ (old new : Walk) (marks marks' marks'' : List Bool) (ps qs : List Statement) (first : MarksAll ps marks marks') (second : MarksAll qs marks' marks'')
    (at : IsAt old marks) (known : known_in new ≡ nothing) (held : held_by new ≡ []) (count : new.loads ≡ length marks'') where
  abbrev p : Form
  p = form_of ps

  abbrev q : Form
  q = form_of qs

  first_count : length marks' ≡ old.loads + loads_in p
  first_count = let a = first.loads in let b = at.count in omega (arith, a, b)

  total : new.loads ≡ old.loads + loads_in p + loads_in q
  total = let a = first_count in let b = second.loads in omega (arith, count, a, b)

  told : (i : ℕ) (k : Form) → (marked marks'' i || repeated_from i new k)
      ≡ (marked marks i || (is_repeated i nothing [] old.loads p || (is_repeated i nothing [] (old.loads + loads_in p) q || is_repeated i nothing [] (old.loads + loads_in p + loads_in q) k)))
  told i k =
      rw (second.told i, first.told i, first_count, at.count, from_same i new nothing [] (old.loads + loads_in p + loads_in q) k known held total)
      (or_three (marked marks i) (is_repeated i nothing [] old.loads p) (is_repeated i nothing [] (old.loads + loads_in p) q) (is_repeated i nothing [] (old.loads + loads_in p + loads_in q) k))

  at_end : IsAt new marks''
  at_end = record { count = sym count; met = rw held tt }

  -- such a statement, whose form is an If or a Loop
  pub nested_marks : (s : Statement)
      → ((i : ℕ) (k : Form) → repeated_from i old (before s k)
      ≡ (is_repeated i nothing [] old.loads p || (is_repeated i nothing [] (old.loads + loads_in p) q || is_repeated i nothing [] (old.loads + loads_in p + loads_in q) k)))
      → loads_in (before s Done) ≡ loads_in p + (loads_in q + 0) → Marks s old new marks marks''
  nested_marks s is sum = record {
    told = λ i k. told i k ∙ ap (λ (r : Bool). marked marks i || r) (sym (is i k));
    loads = (let a = total in omega (arith, a, sum));
    at = at_end;
    once = begun_once (known_in old) (known_in new) known;
  }

pub if_marks : (old new : Walk) (marks marks' marks'' : List Bool) (taken other : Vec Statement Global) → MarksAll taken.items marks marks' → MarksAll other.items marks' marks''
    → IsAt old marks → known_in new ≡ nothing → held_by new ≡ [] → new.loads ≡ length marks'' → (place : Place) (test : Test) → Marks (statement.If place test taken other) old new marks marks''
if_marks old new marks marks' marks'' taken other first second at known held count place test =
    nested_marks old new marks marks' marks'' taken.items other.items first second at known held count (statement.If place test taken other)
    (λ i k. ap (λ (c : Form). repeated_from i old c) (before_if place test taken other k)) (let e = ap loads_in (before_if place test taken other Done) in omega (arith, e))

pub loop_marks : (old new : Walk) (marks marks' marks'' : List Bool) (body step : Vec Statement Global) → MarksAll body.items marks marks' → MarksAll step.items marks' marks''
    → IsAt old marks → known_in new ≡ nothing → held_by new ≡ [] → new.loads ≡ length marks'' → (place : Place) → Marks (statement.Loop place body step) old new marks marks''
loop_marks old new marks marks' marks'' body step first second at known held count place =
    nested_marks old new marks marks' marks'' body.items step.items first second at known held count (statement.Loop place body step)
    (λ i k. ap (λ (c : Form). repeated_from i old c) (before_loop place body step k)) (ap loads_in (before_loop place body step Done))

-- ---- lists of statements

-- those before number i were met
pub record MarkedTo (ss : List Statement) (start : List Bool) (i : ℕ) (w : Walk) (marks : List Bool) : Type 0 where
  pub told : (n : ℕ) → (marked marks n || repeated_from n w (form_of (drop i ss))) ≡ (marked start n || is_repeated n nothing [] (length start) (form_of ss))
  pub count : w.loads + loads_in (form_of (drop i ss)) ≡ length start + loads_in (form_of ss)
  pub at : IsAt w marks

-- before the first one, where a stretch begins
pub marked_first : (ss : List Statement) (start : List Bool) (w : Walk) → known_in w ≡ nothing → held_by w ≡ [] → w.loads ≡ length start → MarkedTo ss start 0 w start
marked_first ss start w known held count = record {
  told = λ n. rw (known, held, count) refl;
  count = omega (arith, count);
  at = record { count = sym count; met = rw held tt };
}

pub marked_next : (ss : List Statement) (start : List Bool) (i : ℕ) (s : Statement) (old new : Walk) (marks marks' : List Bool) → i < length ss → s ≡ get_or ss i s
    → MarkedTo ss start i old marks → Marks s old new marks marks' → MarkedTo ss start (i + 1) new marks'
marked_next ss start i s old new marks marks' lt is so_far m =
    let split : form_of (drop i ss) ≡ before s (form_of (drop (i + 1) ss)) = ap form_of (drop_one ss i s lt) ∙ ap (λ (z : Statement). before z (form_of (drop (i + 1) ss))) (sym is) in
    record {
      told = λ n. m.told n (form_of (drop (i + 1) ss)) ∙ ap (λ (c : Form). marked marks n || repeated_from n old c) (sym split) ∙ so_far.told n;
      count = (let a = m.loads in let b = so_far.count in let c = ap loads_in split in let d = loads_behind s (form_of (drop (i + 1) ss)) in omega (arith, a, b, c, d));
      at = m.at;
    }

-- behind the last one all were met
pub marked_all : (ss : List Statement) (start : List Bool) (i : ℕ) (w : Walk) (marks : List Bool) → length ss ≤ i → MarkedTo ss start i w marks → MarksAll ss start marks
marked_all ss start i w marks past so_far =
    let none : drop i ss ≡ [] = drop_of_length-le ss past in
    record {
      told = λ n. sym (or-false (marked marks n)) ∙ sym (ap (λ (l : List Statement). marked marks n || repeated_from n w (form_of l)) none) ∙ so_far.told n;
      loads = (let a = so_far.at.count in let b = so_far.count in let c = ap (λ (l : List Statement). loads_in (form_of l)) none in omega (arith, a, b, c));
    }
