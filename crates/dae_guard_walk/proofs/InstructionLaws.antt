-- What an instruction of a side comes to, by its access and its form.
use Rattle.std.proofs.Common.{◌≡◌, ℕ, ◌+◌, ◌<◌, ◌≤◌, ◌^◌, Bool, true, false, not, ◌&&◌, List, [], ◌∷◌, map, refl, ap, sym, ◌∙◌, subst, arith}
use Rattle.std.specs.Prelude.{Option, Some, None, IfSome, option_map, option_and_then, nat_eq, nat_le, ◌==◌, if◌then◌else◌}
use Rattle.dae_base.specs.declared.Side.{Side}
use Rattle.dae_base.specs.declared.Side.TheVariants.{A, E}
use Rattle.dae_base.specs.declared.Width.{Width}
use Rattle.dae_base.specs.declared.LoadKind.{LoadKind}
use Rattle.dae_base.specs.Words.{plus, size, width_of}
use Rattle.dae_encode.specs.declared.QueueUse.{QueueUse}
use Rattle.dae_encode.specs.declared.QueueUse.TheVariants.{Nothing}
use Rattle.dae_encode.specs.declared.InstructionForm.{InstructionForm}
use Rattle.dae_encode.specs.declared.InstructionForm.TheVariants.{Computes, Loads, Stores, Calls}
use Rattle.dae_encode.specs.declared.Inst.{Inst}
use Rattle.dae_encode.specs.declared.Inst.TheVariants.{Slli}
use Rattle.dae_encode.specs.Instructions.{form}
use Rattle.dae_encode.specs.Uses.{queue_use}
use Rattle.dae_encode.specs.Processor.{is_shared, is_within}
use Rattle.dae_ranges.specs.declared.Range.{Range}
use Rattle.dae_ranges.specs.Ranges.{single, is_single, each, loaded_range, shifted}
use Rattle.dae_guard.specs.Sets.{Waiting}
use Rattle.dae_guard.specs.Nodes.{range_at, source, with_range}
use Rattle.dae_guard.specs.Waiting.{given, after_use}
use Rattle.dae_guard.specs.Moves as moves
use Rattle.dae_guard.specs.Moves.{SideAfter, Terms, did, on, outcomes_by, private, shape}
use Rattle.dae_guard_walk.specs.Steps.{Left, listed, told_of, entered, called_of}
use Rattle.dae_guard_walk.specs.Spots.{ShiftsOne}
use Rattle.dae_guard_walk.specs.declared.sides.Outcomes.{Outcomes}

-- ---- computing

told_enters : (u : QueueUse) (q : Waiting) (rd : ℕ) (os : List moves.MoveOutcome)
    → map (entered u q) (map (told_of rd) os) ≡ map (λ (o : moves.MoveOutcome). (on o.counter (with_range rd o.value o.registers), after_use u o.value q)) os
told_enters u q rd [] = refl
told_enters u q rd (o ∷ os) = ap (λ (rest : List SideAfter). (on o.counter (with_range rd o.value o.registers), after_use u o.value q) ∷ rest) (told_enters u q rd os)

listed_enters : (u : QueueUse) (q : Waiting) (o : Option Outcomes) → option_map (λ r. map (entered u q) (listed r)) o ≡ option_map (map (entered u q)) (option_map listed o)
listed_enters u q None = refl
listed_enters u q (Some r) = refl

-- the second source of a shift by an immediate is x0
pub shifts_so : (i : Inst) (f : InstructionForm) (target first second : ℕ) (rs : List Range) (g : Range) → f ≡ form i → f ≡ Computes target first second → ShiftsOne i (source rs g second)
unfolding form
shifts_so i f target first second rs g e h rd x imm k =
    let form_is : form (Slli rd x imm) ≡ Computes target first second = subst (λ (j : Inst). form j ≡ Computes target first second) k (sym e ∙ h) in
    let z : second ≡ 0 = cc in
    rw z refl

pub computes_so : (t : Terms) (side : Side) (rs : List Range) (c : ℕ) (q : Waiting) (u : QueueUse) (i : Inst) (f : InstructionForm) (rd first second : ℕ) (g : Range) (o : Option Outcomes)
    → f ≡ Computes rd first second → given u q ≡ g
    → option_map listed o ≡ option_map (map (told_of rd)) (outcomes_by (shape i) i c first second (source rs g first) (source rs g second) rs)
    → option_map (λ r. map (entered u q) (listed r)) o ≡ did t side rs c q u i f
computes_so t side rs c q u i f rd first second g o p e h =
    rw p (listed_enters u q o ∙ (ap (option_map (map (entered u q))) h ∙ rw (sym e) (by (outcomes_by (shape i) i c first second (source rs (given u q) first) (source rs (given u q) second) rs))))
  where
    by : (p : Option (List moves.MoveOutcome)) → option_map (map (entered u q)) (option_map (map (told_of rd)) p)
        ≡ option_map (map (λ (x : moves.MoveOutcome). (on x.counter (with_range rd x.value x.registers), after_use u x.value q))) p
    by None = refl
    by (Some os) = ap Some (told_enters u q rd os)

-- ---- calls

-- an environment call makes no access
no_access : (copies : Bool) (side : Side) (u : QueueUse) → queue_use copies side Calls ≡ Some u → u ≡ Nothing
unfolding queue_use
no_access copies side u e = cc

pub calls_so : (t : Terms) (side : Side) (rs : List Range) (c : ℕ) (q : Waiting) (u : QueueUse) (i : Inst) (f g : InstructionForm) (o : Option Outcomes)
    → f ≡ Calls → f ≡ g → queue_use t.setup.copies side g ≡ Some u → option_map listed o ≡ called_of side c rs
    → option_map (λ r. map (entered u q) (listed r)) o ≡ did t side rs c q u i g
calls_so t side rs c q u i f g o p e k h =
    let same : g ≡ Calls = sym e ∙ p in
    let none : u ≡ Nothing = no_access t.setup.copies side u (subst (λ (z : InstructionForm). queue_use t.setup.copies side z ≡ Some u) same k) in
    subst (λ (v : QueueUse). option_map (λ r. map (entered v q) (listed r)) o ≡ did t side rs c q v i g) (sym none)
    (subst (λ (z : InstructionForm). option_map (λ r. map (entered Nothing q) (listed r)) o ≡ did t side rs c q Nothing i z) (sym same)
    (listed_enters Nothing q o ∙ (ap (option_map (map (entered Nothing q))) h ∙ by side)))
  where
    single_call : (after : Option ℕ) (b : Bool) → option_map (map (entered Nothing q)) (if b then Some ((record { counter = after; registers = rs }, single 0) ∷ []) else None)
        ≡ (if b then Some ((record { counter = after; registers = rs }, q) ∷ []) else None)
    single_call after true = refl
    single_call after false = refl

    by : (s : Side) → option_map (map (entered Nothing q)) (called_of s c rs) ≡ did t s rs c q Nothing i Calls
    by A = refl
    by E = single_call (if (range_at rs 17).lo == 0 then None else (if (range_at rs 17).lo == 5 then None else Some (plus c 4))) (is_single (range_at rs 17) && nat_le (range_at rs 17).lo 5)

-- ---- addresses

pub else_good : (s a b r : Bool) → s ≡ false → r ≡ b → r ≡ (if s then a else b)
else_good s a b r e h = rw e h
