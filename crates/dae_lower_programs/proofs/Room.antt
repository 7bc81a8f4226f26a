-- A lawful program has room in its memory.
use Rattle.std.proofs.Common.{◌≡◌, ℕ, ◌+◌, ◌-◌, ◌%◌, ◌^◌, ◌≤◌, true, ◌&&◌, length, subst, sym, arith}
use Rattle.std.specs.Prelude.{nat_eq, nat_le, slice_get}
use Rattle.std.specs.List.{list_all}
use Rattle.std.proofs.lemmas.Bool.{leb-true}
use Rattle.dae_base.proofs.Laws.{and_first, and_second}
use Rattle.dae_lower_formed.specs.Formed.{IsLowered}
use Rattle.dae_ir.specs.declared.form.Ir.{Ir}
use Rattle.dae_lower_programs.specs.Lowered.{HasRoom}
use Rattle.dae_program.specs.Lawful.{is_lawful_in, is_lawful_memory, is_main, is_ready, is_well_placed, spares}
use Rattle.dae_program.specs.declared.program.Program.{Program}

room_left : (a b c : ℕ) → 16 + a ≤ b → b ≤ c → a ≤ c - 16
room_left a b c h i = omega (arith, h, i)

pub has_room : (p : Program) (ir : Ir) → IsLowered p ir → HasRoom p ir
has_room p ir low = record {
  most = subst (λ (n : ℕ). n ≤ 2 ^ 26) (sym memory) (leb-true p.memory (2 ^ 26) (and_second (nat_le p.frames p.memory) _ behind));
  frames = subst (λ (n : ℕ). n ≤ ir.memory) (sym frames) (subst (λ (n : ℕ). p.frames ≤ n) (sym memory) inside);
  room = subst (λ (n : ℕ). length p.content ≤ n - 16) (sym memory) (room_left (length p.content) p.frames p.memory (leb-true (16 + length p.content) p.frames before) inside);
} where
  memory : ir.memory ≡ p.memory
  memory = let f = low.form in f.memory

  frames : ir.frames ≡ p.frames
  frames = let f = low.form in f.frames

  size : is_lawful_memory p.memory p.frames (length p.content) ≡ true
  size =
      and_first _ (is_main p.memory p.links p.functions (slice_get p.functions p.main))
      (and_first _ (list_all (spares p.main) p.links && list_all (is_lawful_in p.memory p.links p.functions true) p.functions)
      (and_first (is_well_placed p.memory p.frames p.content p.links p.functions p.main) (list_all (is_ready p.links p.functions) p.functions) low.lawful))

  behind : (nat_le p.frames p.memory && nat_le p.memory (2 ^ 26)) ≡ true
  behind = and_second (nat_eq (p.frames % 4) 0 && nat_le (16 + length p.content) p.frames) _ size

  before : nat_le (16 + length p.content) p.frames ≡ true
  before = and_second (nat_eq (p.frames % 4) 0) _ (and_first (nat_eq (p.frames % 4) 0 && nat_le (16 + length p.content) p.frames) (nat_le p.frames p.memory && nat_le p.memory (2 ^ 26)) size)

  inside : p.frames ≤ p.memory
  inside = leb-true p.frames p.memory (and_first (nat_le p.frames p.memory) (nat_le p.memory (2 ^ 26)) behind)
