-- Worlds that differ in counts alone, and what memories hold.
use Rattle.std.proofs.Common.{◌≡◌, ℕ, ◌<◌, ◌^◌, Bool, false, List, length, Some, nat_eq, refl, arith}
use Rattle.dae_base.specs.Words.{plus, loaded, AreBytes}
use Rattle.dae_base.specs.declared.Width.{Width}
use Rattle.dae_base.specs.declared.Width.TheVariants.{B1}
use Rattle.dae_base.specs.declared.LoadKind.{LoadKind}
use Rattle.dae_base.proofs.Laws.{loads_are_words}
use Rattle.dae_meaning.specs.Worlds.{World, ticked, fetched}
use Rattle.dae_meaning.specs.Operations.{misplaced, passed}
use Rattle.dae_meaning.specs.Variables.{Env}
use Rattle.dae_ir.specs.Form.{Program, value, fault}
use Rattle.dae_ir.specs.declared.form.Check.{Check}
use Rattle.dae_ir.specs.declared.form.Check.TheVariants.{Place as Good, InBounds, Zero, Room, Frame, Abort}

pub record Like (w u : World) : Type 0 where
  pub memory : u.memory ≡ w.memory
  pub printed : u.printed ≡ w.printed
  pub frame : u.frame ≡ w.frame
  pub top : u.top ≡ w.top
  pub depth : u.depth ≡ w.depth

pub like_itself : (w : World) → Like w w
like_itself w = record { memory = refl; printed = refl; frame = refl; top = refl; depth = refl }

pub like_ticked : (w u : World) → Like (ticked w) u → Like w u
like_ticked w u h = record { memory = h.memory; printed = h.printed; frame = h.frame; top = h.top; depth = h.depth }

pub like_fetched : (w u : World) (b : Bool) → Like (fetched b w) u → Like w u
like_fetched w u b h = record { memory = h.memory; printed = h.printed; frame = h.frame; top = h.top; depth = h.depth }

-- a trap's code isn't 0
misplaced_code : (width : Width) (address size code : ℕ) → misplaced width address size ≡ Some code → nat_eq code 0 ≡ false
unfolding misplaced
misplaced_code width address size code h = grind arith

passed_code : (b : Bool) (code : ℕ) → passed b ≡ Some code → nat_eq code 0 ≡ false
passed_code b code h = grind arith

pub fault_code : (p : Program) (check : Check) (w : World) (env : Env) (code : ℕ) → fault p check w env ≡ Some code → nat_eq code 0 ≡ false
fault_code p (Good width x) w env code h = misplaced_code width (value x env) (length w.memory) code h
fault_code p (InBounds x offset) w env code h = misplaced_code B1 (plus (value x env) offset) (length w.memory) code h
fault_code p (Zero x) w env code h = grind arith
fault_code p (Room f) w env code h = passed_code _ code h
fault_code p Frame w env code h = passed_code _ code h
fault_code p Abort w env code h = grind arith

-- each load gives a word
abbrev pub LoadsWords : List ℕ → Type 0
LoadsWords m = (kind : LoadKind) (a : ℕ) → loaded kind a m < 2 ^ 32

pub loads_words : (m : List ℕ) → AreBytes m → LoadsWords m
loads_words m h kind a = loads_are_words kind a m h
