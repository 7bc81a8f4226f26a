-- Small pairs, by evaluation.
use Rattle.std.proofs.Common.{◌≡◌, ℕ, false, List, [], ◌∷◌, refl}
use Rattle.std.specs.Prelude.{Some, None}
use Rattle.dae_base.specs.declared.Depths.{Depths}
use Rattle.dae_encode.specs.Instructions.{form, value, next, imm_i, imm_s, imm_b, imm_u, imm_j}
use Rattle.dae_encode.specs.Spelling.{decode, encoded, layout}
use Rattle.dae_encode.specs.Uses.{queue_use}
use Rattle.dae_ranges.specs.Ranges.{all_from}
use Rattle.dae_guard.specs.Sets.{Node}
use Rattle.dae_guard.specs.Nodes.{nothing_waits}
use Rattle.dae_guard.specs.Moves.{Terms, next_nodes, shape, test, goes_to, tells, against, spread, order}
use Rattle.dae_guard.specs.Walk.{Yes, NoStep, walk, verdict, opened_side}

ones : Depths
ones = record { ld = 1; al = 1; sa = 1; sd = 1; ab = 1; eb = 1; cq = 1 }

pair : List ℕ → List ℕ → Terms
pair a e = record { setup = record { code_a = a; code_e = e; memory = 64; copies = false; depths = ones }; private_a = 0; private_e = 0 }

at_zero : Node
at_zero = record { a = opened_side 0; e = opened_side 0; waiting = nothing_waits }

-- both halt at once
both_halt : verdict (pair (0x73 ∷ []) (0x73 ∷ [])) [] 0 (at_zero ∷ []) ≡ Yes
unfolding verdict walk next_nodes pair ones at_zero decode encoded layout queue_use form value next imm_i imm_s imm_b imm_u imm_j shape test goes_to tells against spread order all_from
both_halt = refl

-- E waits for a load that A never issues: addi x10,x30,0
waits_for_ever : verdict (pair (0x73 ∷ []) (0x000F0513 ∷ (0x73 ∷ []))) [] 0 (at_zero ∷ []) ≡ NoStep 0 None (Some 0)
unfolding verdict walk next_nodes pair ones at_zero decode encoded layout queue_use form value next imm_i imm_s imm_b imm_u imm_j shape test goes_to tells against spread order all_from
waits_for_ever = refl

-- A loads the word at 16 for E (lw x30,16(x0)), and E takes it and halts
one_load : verdict (pair (0x01002F03 ∷ (0x73 ∷ [])) (0x000F0513 ∷ (0x73 ∷ []))) [] 0 (at_zero ∷ []) ≡ Yes
unfolding verdict walk next_nodes pair ones at_zero decode encoded layout queue_use form value next imm_i imm_s imm_b imm_u imm_j shape test goes_to tells against spread order all_from
one_load = refl
